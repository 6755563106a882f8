use mathlib.Core.Path.{◌≡◌, refl, sym, ◌∙◌}
use Prim.Native.Nat.{ℕ}
use native.Mathlib.Omega.{arith}
use mathlib.Core.Logic.{inl, inr}
use Rattle.packet_rules.specs.declared.Verdict.{Verdict}
use Rattle.packet_rules.specs.declared.Verdict.TheVariants.{Packet}
use Rattle.reader_plain.proofs.Rounds.{Turn, turn, passed, next_end}
use Rattle.reader_plain.proofs.next_event.Goals as goal
use Rattle.reader_plain.proofs.next_event.Goals.{After-judge}

pub loop-offset-init : goal.loop-offset-init
loop-offset-init c = refl

-- what the round comes to by the verdict
module _ (j : After-judge) where
  comes_to : (r : Verdict) → j.judge.result ≡ r → Turn j.args.segment.now j.loop-offset.offset r
  comes_to r e = turn j.args.segment.now j.loop-offset.offset j.loop-offset-test.true j.judge.result r j.judge.ensures e

-- a packet
found : (j : After-judge) (count : ℕ) → j.judge.result ≡ Packet count → Turn j.args.segment.now j.loop-offset.offset (Packet count)
found j count e = comes_to j (Packet count) e

pub overflow_add-result : goal.overflow_add-result
overflow_add-result c = omega (arith, (found (goal.at.overflow_add-result c).After-judge _ c.in-Packet.is).1)

pub overflow_add-result-in-Packet : goal.overflow_add-result-in-Packet
overflow_add-result-in-Packet c = omega (arith, (found (goal.at.overflow_add-result-in-Packet c).After-judge _ c.in-Packet.is).0)

pub bounds-segment-offset : goal.bounds-segment-offset
bounds-segment-offset c = (found (goal.at.bounds-segment-offset c).After-judge _ c.in-Packet.is).0

pub returns-in-Packet : goal.returns-in-Packet
returns-in-Packet c = sym (c.loop-offset.invariant ∙ (found (goal.at.returns-in-Packet c).After-judge _ c.in-Packet.is).2)

pub returns-in-BadChecksum : goal.returns-in-BadChecksum
returns-in-BadChecksum c = sym (c.loop-offset.invariant ∙ comes_to (goal.at.returns-in-BadChecksum c).After-judge _ c.in-BadChecksum.is)

pub loop-offset-preserved : goal.loop-offset-preserved
loop-offset-preserved c =
    c.loop-offset.invariant
    ∙ passed c.args.segment.now c.loop-offset.offset c.judge.result (comes_to (goal.at.loop-offset-preserved c).After-judge c.judge.result refl)
    (λ n e. elim c.in-Waiting.is [ inl w ↦ cc | inr w ↦ cc ])
    (λ id e. elim c.in-Waiting.is [ inl w ↦ cc | inr w ↦ cc ])

pub returns : goal.returns
returns c = sym (c.loop-offset.invariant ∙ next_end c.args.segment.now c.loop-offset.offset c.loop-offset-test.false)
