-- The next event is the same from the next offset on at which a packet may begin.
use mathlib.Core.Path.{◌≡◌, sym, ap, ◌∙◌}
use mathlib.Core.List.{List}
use Prim.Native.Nat.{ℕ, zero, suc, ◌+◌, ◌≤◌, ◌<◌}
use native.Mathlib.Omega.{arith}
use lib.ListN.{length, drop, length-drop}
use lib.Seq.{drop-drop}
use Rattle.reading.specs.Rules.{is_nothing}
use Rattle.packet_rules.specs.Starts.{before_start}
use Rattle.packet_rules.proofs.Starts.{before_fits}
use Rattle.packet_front.specs.Header.{may_begin}
use Rattle.packet.specs.Verdict.{protocol2}
use Rattle.packet_protocols.specs.declared.Protocol.TheVariants.{Two}
use Rattle.packet_protocols.proofs.Shapes.{none_before_start}
use Rattle.reader_plain.specs.Next.{next_event}
use Rattle.reader_plain.proofs.Rounds.{by_verdict}

-- k offsets at which no packet begins are passed
passes : (s : List ℕ) (p k : ℕ) → ((q : ℕ) → q < k → protocol2.verdict (drop q (drop p s)) ≡ is_nothing) → k ≤ length (drop p s)
    → next_event s p ≡ next_event s (p + k)
passes s p zero n h = let z : p ≡ p + 0 = omega arith in ap (next_event s) z
passes s p (suc k) n h =
    let z : p + k + 1 ≡ p + suc k = omega arith in
    passes s p k (λ q i. n q (omega arith)) (omega arith)
    ∙ by_verdict s (p + k) (omega (arith, length-drop p s)) is_nothing 0
    (ap protocol2.verdict (sym (drop-drop k p s)) ∙ n k (omega arith))
    ∙ ap (next_event s) z

pub start_same : (s : List ℕ) (p r : ℕ) → r ≡ p + before_start may_begin (drop p s) → next_event s r ≡ next_event s p
start_same s p r e =
    ap (next_event s) e
    ∙ sym (passes s p _ (λ q h. (none_before_start Two (drop p s) q h).0) (before_fits may_begin (drop p s)))
