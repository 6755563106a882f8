-- What the rules of Protocol 1.0 and Mercury keep, applied: 258 bytes are enough, and 257 are not.
use Rattle.std.specs.Prelude.{replicate}
use Rattle.reading.specs.Promise.{Followed}
use Rattle.packet_v1.specs.Packet.{last_of_p1, last_of_mercury}
use Rattle.packet_v1.specs.Verdict.{protocol1, mercury}
use Rattle.packet_v1.specs.Kept.{RulesKept}

abbrev pub RulesKeptApplied : Type 0
RulesKeptApplied =
    (RulesKept last_of_p1 → Followed protocol1 (replicate 258 0) × (¬ Followed protocol1 (replicate 257 0)))
    × (RulesKept last_of_mercury → Followed mercury (replicate 258 0) × (¬ Followed mercury (replicate 257 0)))
