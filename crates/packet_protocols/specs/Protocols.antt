-- The protocols, and the packet rules of each.
use Rattle.std.specs.Prelude.{Bool, List, ℕ}
use Rattle.reading.specs.Rules.{Rules}
use Rattle.packet_rules.specs.Shape.{Shape, rules}
use Rattle.packet_rules.specs.Answers.{answer_for}
use Rattle.packet_rules.specs.declared.Verdict.{Verdict}
use Rattle.packet_front.specs.Header.{front_agrees}
use Rattle.packet_front.specs.Header.{may_begin as mayBegin2}
use Rattle.packet_front.specs.Front.{id_of as idOf2, length_of as lengthOf2}
use Rattle.packet.specs.Verdict.{shape, whole_answer}
use Rattle.packet_v1.specs.Packet.{up_to, last_of_p1, last_of_mercury}
use Rattle.packet_v1.specs.Packet.{id_of as idOf1, length_of as lengthOf1}
use Rattle.packet_v1.specs.Verdict.{judged, shape_up_to}
use Rattle.packet_v1.specs.Verdict.{front_agrees as frontAgrees1, may_begin as mayBegin1}
use Rattle.packet_protocols.specs.declared.Protocol.{Protocol}
use Rattle.packet_protocols.specs.declared.Protocol.TheVariants.{Two, One, Mercury}

-- [O2 P1]
abbrev pub shape_of : Protocol → Shape
shape_of Two = shape
shape_of One = shape_up_to last_of_p1
shape_of Mercury = shape_up_to last_of_mercury

-- [O13]
abbrev pub rules_of : Protocol → Rules
rules_of p = rules (shape_of p)

-- the ID of a packet [O1 F9]
abbrev pub id_in : Protocol → List ℕ → ℕ
id_in Two w = idOf2 w
id_in One w = idOf1 w
id_in Mercury w = idOf1 w

-- at this offset
abbrev pub id_offset : Protocol → ℕ
id_offset Two = 4
id_offset One = 2
id_offset Mercury = 2

-- what the code asks of the front: header and ID, the length field and its bounds [O1-O3 P1-P5]
abbrev pub front_agrees_of : Protocol → List ℕ → Bool
front_agrees_of Two s = front_agrees s
front_agrees_of One s = frontAgrees1 (up_to last_of_p1) s
front_agrees_of Mercury s = frontAgrees1 (up_to last_of_mercury) s

abbrev pub length_in : Protocol → List ℕ → ℕ
length_in Two s = lengthOf2 s
length_in One s = lengthOf1 s
length_in Mercury s = lengthOf1 s

abbrev pub least_length : Protocol → ℕ
least_length Two = 3
least_length One = 2
least_length Mercury = 2

abbrev pub greatest_length : Protocol → ℕ
greatest_length Two = 1024
greatest_length One = 255
greatest_length Mercury = 255

-- whether a packet may begin with these bytes [O6 V8]
abbrev pub may_begin_of : Protocol → List ℕ → Bool
may_begin_of Two s = mayBegin2 s
may_begin_of One s = mayBegin1 s
may_begin_of Mercury s = mayBegin1 s

-- the answer on all bytes of a packet whose header, ID and length are right [O6 V4 V5]
abbrev pub whole_of : Protocol → List ℕ → Verdict
whole_of Two w = whole_answer w
whole_of One w = answer_for (judged w) 0
whole_of Mercury w = answer_for (judged w) 0
