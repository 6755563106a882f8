-- The packet rules of Protocol 2.0.
use Rattle.std.specs.Prelude.{Bool, true, false, cond, ◌&&◌, List, ◌++◌, ℕ, ltb, length, drop}
use Rattle.reading.specs.Rules.{Rules, Verdict, is_packet, is_bad_checksum, is_nothing}
use Rattle.stuffing.specs.Stuffing.{well_stuffed}
use Rattle.packet_rules.specs.Shape.{Shape, rules}
use Rattle.packet_rules.specs.Answers.{answer_for}
use Rattle.packet_rules.specs.declared.Verdict.{Verdict as Verdict-as-Code}
use Rattle.packet_rules.specs.declared.Verdict.TheVariants.{Nothing}
use Rattle.packet_front.specs.Front.{header, id_of}
use Rattle.packet_front.specs.Header.{front_agrees, length_agrees, size_of}
use Rattle.packet.specs.Packet.{body_of, checksum_right, WellFormed}

-- the tests of a packet's own bytes in their order: checksum, stuffing [V4 V5]
abbrev pub ruling : Bool → Bool → ℕ → ℕ → Verdict
ruling false t n id = is_bad_checksum id
ruling true false n id = is_nothing
ruling true true n id = is_packet n

-- all bytes of a packet by header, ID and length [V4 V5]
abbrev pub judged : List ℕ → Verdict
judged w = ruling (checksum_right w) (well_stuffed (body_of w)) (length w) (id_of w)

-- 10 to 1,031 bytes, the first seven of which are the front [P1 P5 V8]
abbrev pub shape : Shape
shape =
    record {
      front = 7;
      shortest = 10;
      longest = 1031;
      agrees = λ s. front_agrees s && length_agrees s;
      size = size_of;
      judged = judged;
      WellFormed = WellFormed;
    }

-- the rules of Protocol 2.0 [F3 P5 V3]
abbrev pub protocol2 : Rules
protocol2 = rules shape

-- and their verdict
abbrev pub verdict : List ℕ → Verdict
verdict s = protocol2.verdict s

-- The answer on the bytes w where header, ID and length are known to be right, so that the header is not looked at. Fewer bytes
-- than the shortest packet has are nothing. [K5 V4 V5]
abbrev pub whole_answer : List ℕ → Verdict-as-Code
whole_answer w =
    cond (ltb (length w) 10) Nothing
    (answer_for (ruling (checksum_right (header ++ drop 4 w)) (well_stuffed (body_of w)) (length w) (id_of w)) 0)
