-- The packet rules of Protocol 1.0 and Mercury keep what is promised of them.
use Prim.Native.Nat.{ℕ}
use native.Mathlib.Omega.{arith}
use Rattle.packet_v1.specs.Packet.{up_to}
use Rattle.packet_v1.specs.Kept.{RulesKept}
use Rattle.packet_v1.proofs.Laws.{laws, settles}

pub rules_kept : (last : ℕ) → RulesKept last
rules_kept last =
    record {
      laws = laws (up_to last);
      settles = settles (up_to last);
      followed_by_258 = λ s. (λ f. omega arith, λ h. omega arith);
    }
