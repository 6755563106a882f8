-- Answers as numbers, for the tests.
use Rattle.std.specs.Prelude.{ℕ, Option, None, Some}
use Rattle.packet_rules.specs.declared.Verdict.{Verdict}
use Rattle.packet_rules.specs.declared.Verdict.TheVariants.{Packet, BadChecksum, Waiting, Nothing}
use Rattle.capi_test.specs.declared.VerdictNumbers.{VerdictNumbers}

-- [K5]
abbrev pub test_number : Option ℕ → ℕ
test_number (Some n) = 1
test_number None = 0

-- [K5]
abbrev pub verdict_numbers : Verdict → VerdictNumbers
verdict_numbers Nothing = record { kind = 0; id = 0; count = 0 }
verdict_numbers (Packet n) = record { kind = 1; id = 0; count = n }
verdict_numbers (BadChecksum id) = record { kind = 2; id = id; count = 0 }
verdict_numbers (Waiting n) = record { kind = 3; id = 0; count = n }
