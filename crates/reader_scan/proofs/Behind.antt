-- Bytes placed behind a window, where it stands or where it has moved to.
use mathlib.Core.Path.{◌≡◌, sym, ap, ◌∙◌}
use mathlib.Core.List.{List, ◌++◌}
use Prim.Native.Nat.{ℕ, ◌+◌, ◌-◌, ◌≤◌}
use native.Mathlib.Omega.{arith}
use lib.ListN.{length, take, drop, length-append, length-take, length-drop}
use lib.Seq.{length-take-le, take_at, drop-append-le, take-append-add, take-append_seam}
use Rattle.lists.specs.Write.{overwritten, placed}
use Rattle.buffers.proofs.Parts.{part_is, placed_whole, stays_more, overwritten_stays, placed_stays}

-- what a placed part stands behind, where it has room
placed_behind : (old new held : List ℕ) (e : ℕ) → e + length new ≤ length old
    → held ≡ placed old e (take (length old - e) new) → take (e + length new) held ≡ take e old ++ new
placed_behind old new held e h i =
    let l = length-take-le e old (omega arith) in
    let rest = drop (length new) (drop e old) in
    ap (λ (s : List ℕ). take (e + length new) s) (i ∙ placed_whole old new e h)
    ∙ ap (λ (n : ℕ). take (n + length new) (take e old ++ (new ++ rest))) (sym l)
    ∙ take-append-add (take e old) (new ++ rest) (length new)
    ∙ ap (λ (t : List ℕ). take e old ++ t) (take-append_seam new rest)

-- the window from a up to e, and new bytes placed behind it
pub append_behind : (old new held : List ℕ) (a e : ℕ) → a ≤ e → e + length new ≤ length old
    → held ≡ placed old e (take (length old - e) new)
    → drop a (take (a + (e - a) + length new) held) ≡ drop a (take e old) ++ new
append_behind old new held a e h k i =
    let z : a + (e - a) ≡ e = omega arith in
    let l = length-take-le e old (omega arith) in
    ap (λ (n : ℕ). drop a (take (n + length new) held)) z
    ∙ ap (λ (t : List ℕ). drop a t) (placed_behind old new held e k i)
    ∙ drop-append-le a (take e old) new (omega arith)

-- and where it first moved to the start
pub append_moved : (old mid new held : List ℕ) (a e : ℕ) → a ≤ e → e ≤ length old → e - a + length new ≤ length old
    → mid ≡ overwritten old (take (e - a) (drop a old)) → held ≡ placed mid (e - a) (take (length mid - (e - a)) new)
    → take (0 + (e - a) + length new) held ≡ drop a (take e old) ++ new
append_moved old mid new held a e h k r i j =
    let part = take (e - a) (drop a old) in
    let l : length part ≡ e - a = length-take-le (e - a) (drop a old) (simp length-drop (omega arith)) in
    let m : length mid ≡ length old = ap length i ∙ simp (length-append, length-take, length-drop) (omega arith) in
    let z : 0 + (e - a) ≡ e - a = omega arith in
    ap (λ (n : ℕ). take (n + length new) held) z
    ∙ placed_behind mid new held (e - a) (omega arith) j
    ∙ ap (λ (t : List ℕ). t ++ new)
    (ap (λ (t : List ℕ). take (e - a) t) i ∙ take_at part (drop (length part) old) (e - a) l ∙ part_is a e old h (omega arith))

-- what lies behind them stays
pub moved_stays : (old mid new held : List ℕ) (a e : ℕ) → a ≤ e → e ≤ length old → e - a + length new ≤ length old
    → mid ≡ overwritten old (take (e - a) (drop a old)) → held ≡ placed mid (e - a) (take (length mid - (e - a)) new)
    → drop (e + length new) held ≡ drop (e + length new) old
moved_stays old mid new held a e h k r i j =
    let part = take (e - a) (drop a old) in
    let l : length part ≡ e - a = length-take-le (e - a) (drop a old) (simp length-drop (omega arith)) in
    let m : length mid ≡ length old = ap length i ∙ simp (length-append, length-take, length-drop) (omega arith) in
    stays_more (e - a + length new) (e + length new) held mid (omega arith) (placed_stays mid new held (e - a) (omega arith) j)
    ∙ stays_more (length part) (e + length new) mid old (omega arith) (overwritten_stays old part mid i)
