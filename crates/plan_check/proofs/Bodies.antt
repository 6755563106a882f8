-- A well-formed packet's unstuffed body in a buffer of 1,022 bytes.
use Rattle.std.specs.Prelude.{Err, None, Ok, Result}
use mathlib.Core.Path.{◌≡◌, ap, ap₂, subst, ◌∙◌}
use mathlib.Core.Bool.{Bool, true, false, not}
use mathlib.Core.List.{List}
use Prim.Native.Nat.{ℕ, ◌≤◌}
use native.Mathlib.Omega.{arith}
use lib.IntN.{ℤ}
use lib.ListN.{length, take, drop, length-append}
use borrow.Author.Tests.{le-leb}
use Rattle.answers.specs.declared.Refusal.{Refusal}
use Rattle.lists.specs.Write.{overwritten}
use Rattle.lists.proofs.Write.{overwritten_take}
use Rattle.stuffing.specs.Stuffing.{unstuff}
use Rattle.stuffing.specs.Answers.{removal_refusal, removal_answer, removal_out}
use Rattle.packet_front.specs.Front.{id_of}
use Rattle.packet.specs.Packet.{body_of, WellFormed}
use Rattle.plan.proofs.Packets.{packet_body_fits}
use Rattle.plan.specs.Plan.{plan_head, params_of, GoalWrite}
use Rattle.plan_check.specs.Tested.{SaysWhether}
use Rattle.plan_check.specs.Checking.{Marked, Unfit, Clash, MarkSays, BodySays, PacketSays}

pub decided : (b : Bool) (P : Type 0) → SaysWhether b P → not b ≡ false → P
decided true P d e = d
decided false P d e = let z : ◌≡◌ {A = ℕ} 0 1 = cc in absurd (omega arith)

pub decided_not : (b : Bool) (P : Type 0) → SaysWhether b P → not b ≡ true → ¬ P
decided_not true P d e = let z : ◌≡◌ {A = ℕ} 0 1 = cc in absurd (omega arith)
decided_not false P d e = d

module _ (w buffer : List ℕ) (f : WellFormed w) (room : length buffer ≡ 1022) where
  fits : removal_refusal (body_of w) buffer ≡ None
  unfolding removal_refusal
  fits =
      let b = packet_body_fits w f in
      rw (f.stuffed, le-leb (length (unstuff (body_of w))) (length buffer) (omega arith))

  counts : (r : Result ℕ Refusal) → r ≡ removal_answer (body_of w) buffer → r ≡ Ok (length (unstuff (body_of w)))
  counts r e = e ∙ rw fits

  pub never_refused : (r : Result ℕ Refusal) → r ≡ removal_answer (body_of w) buffer → (refusal : Refusal) → ¬ (r ≡ Err refusal)
  never_refused r e refusal q = let h = counts r e in let z : ◌≡◌ {A = ℕ} 0 1 = cc in absurd (omega arith)

  -- the bytes that were counted are the body
  pub body_taken : (r : Result ℕ Refusal) (n : ℕ) (out : List ℕ) → r ≡ removal_answer (body_of w) buffer → r ≡ Ok n
      → out ≡ removal_out (body_of w) buffer → (n ≤ length out) × (take n out ≡ unstuff (body_of w))
  body_taken r n out e c o =
      let k : n ≡ length (unstuff (body_of w)) = cc (counts r e) in
      let t : out ≡ overwritten buffer (unstuff (body_of w)) = o ∙ rw fits in (
        omega (arith, ap length t, length-append (unstuff (body_of w)) (drop (length (unstuff (body_of w))) buffer)),
        ap₂ take k t ∙ overwritten_take buffer (unstuff (body_of w)),
      )

-- a body that begins as it should
pub body_says : (goals : List ℤ) (old : List Bool) (body params : List ℕ) (new : List Bool) (r : Bool) → take 5 body ≡ plan_head → params ≡ drop 1 body
    → MarkSays goals old params new r → BodySays goals old body new r
body_says goals old body params new true h e m = (h, subst (λ (l : List ℕ). Marked goals old l new) e m)
body_says goals old body params new false h e m = λ _. subst (λ (l : List ℕ). Unfit goals old l) e m

-- a packet to all devices with a body that fits, or does not
pub packet_says : (goals : List ℤ) (old : List Bool) (w : List ℕ) (new : List Bool) (r : Bool) → WellFormed w → id_of w ≡ 254
    → BodySays goals old (unstuff (body_of w)) new r → PacketSays goals old w new r
packet_says goals old w new true f i b = (record { well = f; to_all = i; head = b.0; carried_out_lem = b.1.some_id }, b.1)
packet_says goals old w new false f i b = λ g. b g.head g.carried_out_lem

pub packet_yes : (goals : List ℤ) (old : List Bool) (w : List ℕ) (new : List Bool) (r : Bool) → PacketSays goals old w new r → not r ≡ false → GoalWrite w × Marked goals old (params_of w) new
packet_yes goals old w new true p e = p
packet_yes goals old w new false p e = let z : ◌≡◌ {A = ℕ} 0 1 = cc in absurd (omega arith)

pub packet_no : (goals : List ℤ) (old : List Bool) (w : List ℕ) (new : List Bool) (r : Bool) → PacketSays goals old w new r → not r ≡ true → GoalWrite w → Clash goals old (params_of w)
packet_no goals old w new true p e = let z : ◌≡◌ {A = ℕ} 0 1 = cc in absurd (omega arith)
packet_no goals old w new false p e = p
