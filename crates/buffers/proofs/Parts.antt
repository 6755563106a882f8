-- Parts of lists: one taken the other way round, what has room, and what stays.
use mathlib.Core.Path.{◌≡◌, refl, sym, ap, ◌∙◌}
use mathlib.Core.List.{List, ◌++◌, append-nil}
use Prim.Native.Nat.{ℕ, ◌+◌, ◌-◌, ◌≤◌}
use native.Mathlib.Omega.{arith}
use lib.ListN.{length, take, drop, drop_of_length-le}
use lib.Seq.{length-take-le, take-add, take_all, drop_at, drop-drop}
use Rattle.lists.specs.Write.{overwritten, placed}

-- the part from a up to e, taken the other way round
pub part_is : (a e : ℕ) (s : List ℕ) → a ≤ e → a ≤ length s → take (e - a) (drop a s) ≡ drop a (take e s)
part_is a e s h k =
    let z : e ≡ a + (e - a) = omega arith in
    sym
    (ap (λ (n : ℕ). drop a (take n s)) z ∙ ap (λ (l : List ℕ). drop a l) (take-add a (e - a) s)
    ∙ drop_at (take a s) (take (e - a) (drop a s)) a (length-take-le a s k))

-- what has room is placed whole
pub placed_whole : (old new : List ℕ) (at : ℕ) → at + length new ≤ length old
    → placed old at (take (length old - at) new) ≡ placed old at new
placed_whole old new at h = ap (λ (s : List ℕ). placed old at s) (take_all (length old - at) new (omega arith))

-- and over all of a part nothing of it stays
pub placed_over : (old new buffer : List ℕ) → buffer ≡ placed old 0 (take (length old - 0) new) → length new ≡ length old → buffer ≡ new
placed_over old new buffer b e =
    b ∙ placed_whole old new 0 (omega arith) ∙ ap (λ (s : List ℕ). new ++ s) (drop_of_length-le old {i = length new} (omega arith)) ∙ append-nil new

-- ---- what stays behind a write

-- what stays from a on stays from b on
pub stays_more : (a b : ℕ) (x y : List ℕ) → a ≤ b → drop a x ≡ drop a y → drop b x ≡ drop b y
stays_more a b x y h e =
    let z : a + (b - a) ≡ b = omega arith in
    ap (λ (k : ℕ). drop k x) (sym z) ∙ sym (drop-drop (b - a) a x) ∙ ap (λ (s : List ℕ). drop (b - a) s) e ∙ drop-drop (b - a) a y
    ∙ ap (λ (k : ℕ). drop k y) z

pub overwritten_stays : (old new buffer : List ℕ) → buffer ≡ overwritten old new → drop (length new) buffer ≡ drop (length new) old
overwritten_stays old new buffer e = ap (λ (s : List ℕ). drop (length new) s) e ∙ drop_at new (drop (length new) old) (length new) refl

pub placed_stays : (old new buffer : List ℕ) (at : ℕ) → at + length new ≤ length old
    → buffer ≡ placed old at (take (length old - at) new) → drop (at + length new) buffer ≡ drop (at + length new) old
placed_stays old new buffer at h e =
    let rest = overwritten (drop at old) new in
    let q : drop at buffer ≡ rest =
    ap (λ (s : List ℕ). drop at s) (e ∙ placed_whole old new at h) ∙ drop_at (take at old) rest at (length-take-le at old (omega arith)) in
    sym (drop-drop (length new) at buffer) ∙ overwritten_stays (drop at old) new (drop at buffer) q ∙ drop-drop (length new) at old
