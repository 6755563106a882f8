use mathlib.Core.Path.{◌≡◌, refl, sym, ◌∙◌}
use mathlib.Core.List.{[], List, ◌∷◌}
use Prim.Native.Nat.{ℕ, ◌+◌, ◌<◌, min}
use native.Mathlib.Nat.{pos_of_ne-zero}
use native.Mathlib.Omega.{arith}
use lib.ListN.{length, take, get_or, set, length-set}
use Rattle.lists.specs.Write.{overwritten}
use Rattle.lists.proofs.Filling.{fill_first, fill_next, fill_length, filled_all, filled_room}
use Rattle.stuffing.specs.Stuffing.{stuff_after, stuff}
use Rattle.stuffing_writer.proofs.Rounds.{stuff_end, put_plain, put_marked}
use borrow.Author.Rules.{rules}
use Rattle.stuffing_writer.proofs.write_stuffed.Goals as goal
use Rattle.stuffing_writer.proofs.write_stuffed.Goals.{then-ends_mark+else-out-j-2, else-ends_mark, At-loop-i}

empty : (old new : List ℕ) → length old ≡ 0 → (0 ≡ min (length old) (length new)) × (old ≡ overwritten old (take (length old) new))
empty [] new e = (omega arith, refl)
empty (x ∷ old) new e = absurd (omega arith)

stuffed_some : (x : ℕ) (s : List ℕ) → 0 < length (stuff (x ∷ s))
unfolding stuff_after
stuffed_some x s = omega arith

-- at the loop's test: the buffer keeps its length, and has room for the first byte
module _ (p : At-loop-i) where
  kept : length p.loop-i.out ≡ length p.args.out.now
  kept = fill_length _ _ _ _ _ p.loop-i.invariant.1 ∙ length-set p.args.out.now 0 _

  some : 0 < length p.args.out.now
  some = search rules

pub returns-then-is_empty : goal.returns-then-is_empty
returns-then-is_empty c =
    let a = c.args in
    let e = empty a.out.now (stuff (a.first ∷ a.rest.now)) (search rules) in record { value = e.0; out_after = e.1 }

pub loop-i-init : goal.loop-i-init
unfolding stuff_after
loop-i-init c = (search rules, fill_first c.args.out.now c.args.first _ (search rules))

pub shape_of-out-then-out-j : goal.shape_of-out-then-out-j
shape_of-out-then-out-j c = kept (goal.at.shape_of-out-then-out-j c).At-loop-i

pub returns-then-out-j : goal.returns-then-out-j
returns-then-out-j c =
    let a = c.args in
    let h = c.loop-i in
    let r =
    filled_room (stuff (a.first ∷ a.rest.now)) a.out.now h.out a.first h.j _ h.invariant.1
    (omega (arith, kept (goal.at.returns-then-out-j c).At-loop-i, c.if-out-j.true)) (some (goal.at.returns-then-out-j c).At-loop-i) in
    record {
      value = r.written;
      out_after = r.holds;
    }

pub bounds-out-j : goal.bounds-out-j
bounds-out-j c = c.if-out-j.false

pub overflow_add-j : goal.overflow_add-j
overflow_add-j c =
    let l = kept (goal.at.overflow_add-j c).At-loop-i in
    omega (arith, c.if-out-j.false)

pub shape_of-out-then-out-j-2 : goal.shape_of-out-then-out-j-2
shape_of-out-then-out-j-2 c = length-set c.loop-i.out c.loop-i.j (get_or c.args.rest.now c.loop-i.i 0) ∙ kept (goal.at.shape_of-out-then-out-j-2 c).At-loop-i

pub returns-then-out-j-2 : goal.returns-then-out-j-2
returns-then-out-j-2 c =
    let a = c.args in
    let h = c.loop-i in
    let m = sym c.ends_mark.ensures ∙ c.if-ends_mark.true in
    let f = put_marked a.first a.rest.now h.i _ _ h.out h.j c.loop-i-test.true h.invariant.1
    (simp (length-set) (omega (arith, kept (goal.at.returns-then-out-j-2 c).At-loop-i, c.if-out-j.false))) m in
    let r =
    filled_room (stuff (a.first ∷ a.rest.now)) a.out.now _ a.first (h.j + 1) _ f
    (omega (arith, kept (goal.at.returns-then-out-j-2 c).At-loop-i, length-set h.out h.j (get_or a.rest.now h.i 0), c.if-out-j-2.true)) (some (goal.at.returns-then-out-j-2 c).At-loop-i) in
    record {
      value = r.written;
      out_after = r.holds;
    }

pub bounds-out-j-then-ends_mark : goal.bounds-out-j-then-ends_mark
bounds-out-j-then-ends_mark c = c.if-out-j-2.false

pub overflow_add-j-then-ends_mark : goal.overflow_add-j-then-ends_mark
overflow_add-j-then-ends_mark c = omega (arith, kept (goal.at.overflow_add-j-then-ends_mark c).At-loop-i, length-set c.loop-i.out c.loop-i.j (get_or c.args.rest.now c.loop-i.i 0), c.if-out-j-2.false)

pub loop-i-preserved : goal.loop-i-preserved
loop-i-preserved c =
    let a = c.args in
    let h = c.loop-i in
    let t = c.loop-i-test.true in
    let m = c.ends_mark.ensures in
    let room : h.j < length (set a.out.now 0 a.first) = simp length-set (omega (arith, kept (goal.at.loop-i-preserved c).At-loop-i, c.if-out-j.false)) in
    elim c.if-ends_mark.branch [
      | then-ends_mark+else-out-j-2 w ↦ (
        search rules,
        rw (w.out-is, w.j-is)
            (fill_next _ _ _ (h.j + 1) 0xFD _
            (put_marked a.first a.rest.now h.i _ _ h.out h.j t h.invariant.1 room (sym m ∙ w.if-ends_mark.true))
            (simp length-set (omega (arith, kept (goal.at.loop-i-preserved c).At-loop-i, length-set h.out h.j (get_or a.rest.now h.i 0), w.if-out-j-2.false)))),
      )
      | else-ends_mark w ↦ (
        search rules,
        rw (w.out-is, w.j-is)
            (put_plain a.first a.rest.now h.i _ _ h.out h.j t h.invariant.1 room (sym m ∙ w.if-ends_mark.false)),
      )
    ]

pub shape_of-out : goal.shape_of-out
shape_of-out c = kept (goal.at.shape_of-out c).At-loop-i

pub returns : goal.returns
returns c =
    let a = c.args in
    let h = c.loop-i in
    let r =
    filled_all (stuff (a.first ∷ a.rest.now)) a.out.now h.out a.first h.j
    (rw (stuff_end a.first a.rest.now h.i c.loop-i-test.false) at h.invariant.1) (stuffed_some a.first a.rest.now) in
    record {
      value = r.written;
      out_after = r.holds;
    }
