-- What the functions that look at bytes answer, by the rules.
use Rattle.std.specs.Prelude.{Bool, true, false, List, ℕ}
use Rattle.reading.specs.Rules.{Verdict, is_packet, is_bad_checksum, is_waiting, is_nothing, Rules}
use Rattle.packet_rules.specs.Shape.{Shape, complete, lacks}
use Rattle.packet_rules.specs.declared.Front.{Front}
use Rattle.packet_rules.specs.declared.Front.TheVariants.{Nothing as Front-as-Nothing, Waiting as Front-as-Waiting, Whole}
use Rattle.packet_rules.specs.declared.Verdict.{Verdict as Verdict-as-Code}
use Rattle.packet_rules.specs.declared.Verdict.TheVariants.{Packet, BadChecksum, Waiting, Nothing}

-- what header, ID and length field say: by agreement and completeness, with the bytes that it lacks and the packet's size [K5]
abbrev pub front_as : Bool → Bool → ℕ → ℕ → Front
front_as false c k n = Front-as-Nothing
front_as true false k n = Front-as-Waiting k
front_as true true k n = Whole n

-- [V12]
abbrev pub front_by : Shape → List ℕ → Front
front_by S s = front_as (S.agrees s) (complete S s) (lacks S s) (S.size s)

-- how many bytes the rest is judged by: the packet's, where they are all there. 0 where no packet begins, which as many bytes as
-- the shortest has show, or where some are missing.
abbrev pub settled_as : Front → ℕ
settled_as Front-as-Nothing = 0
settled_as (Front-as-Waiting k) = 0
settled_as (Whole n) = n

-- [V12]
abbrev pub settled_by : Shape → List ℕ → ℕ
settled_by S s = settled_as (front_by S s)

-- a verdict, and where it waits the bytes that it lacks [K5 V11]
abbrev pub answer_for : Verdict → ℕ → Verdict-as-Code
answer_for (is_packet n) k = Packet n
answer_for (is_bad_checksum id) k = BadChecksum id
answer_for is_waiting k = Waiting k
answer_for is_nothing k = Nothing

abbrev pub answer_by : Rules → List ℕ → Verdict-as-Code
answer_by R s = answer_for (R.verdict s) (R.lacks s)
