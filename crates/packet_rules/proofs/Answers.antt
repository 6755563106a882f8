-- The verdict behind the code's answer.
use mathlib.Core.Path.{◌≡◌}
use Prim.Native.Nat.{ℕ}
use native.Mathlib.Omega.{arith}
use Rattle.reading.specs.Rules.{Verdict, is_packet, is_bad_checksum, is_waiting, is_nothing}
use Rattle.packet_rules.specs.Answers.{answer_for}
use Rattle.packet_rules.specs.declared.Verdict.TheVariants.{Packet, BadChecksum}

pub was_packet : (v : Verdict) (k n : ℕ) → answer_for v k ≡ Packet n → v ≡ is_packet n
was_packet (is_packet m) k n e = cc
was_packet (is_bad_checksum id) k n e = let z : ◌≡◌ {A = ℕ} 0 1 = cc in absurd (omega arith)
was_packet is_waiting k n e = let z : ◌≡◌ {A = ℕ} 0 1 = cc in absurd (omega arith)
was_packet is_nothing k n e = let z : ◌≡◌ {A = ℕ} 0 1 = cc in absurd (omega arith)

pub was_bad : (v : Verdict) (k id : ℕ) → answer_for v k ≡ BadChecksum id → v ≡ is_bad_checksum id
was_bad (is_packet m) k id e = let z : ◌≡◌ {A = ℕ} 0 1 = cc in absurd (omega arith)
was_bad (is_bad_checksum i) k id e = cc
was_bad is_waiting k id e = let z : ◌≡◌ {A = ℕ} 0 1 = cc in absurd (omega arith)
was_bad is_nothing k id e = let z : ◌≡◌ {A = ℕ} 0 1 = cc in absurd (omega arith)
