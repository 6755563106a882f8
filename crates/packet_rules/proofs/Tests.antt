-- The tests of a shape, one by one: how many bytes are there, and the verdict by the tests that led to it.
use mathlib.Core.Path.{◌≡◌, refl, ap, ap₂}
use mathlib.Core.Bool.{Bool, true, false, cond}
use mathlib.Core.List.{List}
use Prim.Native.Nat.{ℕ, ◌-◌, ◌≤◌, ◌<◌}
use lib.Dec.{leb, ltb}
use lib.ListN.{length, take}
use borrow.Author.Tests.{leb-true, leb-false, ltb-true, ltb-false, lt-ltb, le-ltb, le-leb, lt-leb}
use Rattle.lists.proofs.Bools.{and_left, and_right, both_ways}
use Rattle.reading.specs.Rules.{Verdict, is_waiting, is_nothing}
use Rattle.packet_rules.specs.Shape.{Shape, complete, lacks, verdict}

module _ (S : Shape) (s : List ℕ) where
  -- the front is there, or it is not
  pub early_or_late : {A : Type 0} → (length s < S.front → A) → (S.front ≤ length s → A) → A
  early_or_late {A} early late = go (ltb (length s) S.front) refl
    where
      go : (x : Bool) → ltb (length s) S.front ≡ x → A
      go true l = early (ltb-true (length s) S.front l)
      go false l = late (ltb-false (length s) S.front l)

  pub incomplete_early : length s < S.front → complete S s ≡ false
  incomplete_early h = rw (lt-leb S.front (length s) h)

  pub incomplete : S.front ≤ length s → length s < S.size s → complete S s ≡ false
  incomplete h k = rw (le-leb S.front (length s) h, lt-leb (S.size s) (length s) k)

  pub completes : S.front ≤ length s → S.size s ≤ length s → complete S s ≡ true
  completes h k = rw (le-leb S.front (length s) h, le-leb (S.size s) (length s) k)

  pub lacks_early : length s < S.front → lacks S s ≡ S.shortest - length s
  unfolding lacks
  lacks_early h = rw (lt-ltb (length s) S.front h)

  pub lacks_late : S.front ≤ length s → lacks S s ≡ S.size s - length s
  unfolding lacks
  lacks_late h = rw (le-ltb (length s) S.front h)

  -- all bytes are there: the front is, and there are as many as its size
  module _ (c : complete S s ≡ true) where
    pub has_front : S.front ≤ length s
    has_front = leb-true S.front (length s) (and_left (leb S.front (length s)) (leb (S.size s) (length s)) c)

    pub has_all : S.size s ≤ length s
    has_all = leb-true (S.size s) (length s) (and_right (leb S.front (length s)) (leb (S.size s) (length s)) c)

  -- some are missing
  pub has_not : complete S s ≡ false → S.front ≤ length s → length s < S.size s
  has_not c h = go (leb (S.size s) (length s)) refl
    where
      go : (x : Bool) → leb (S.size s) (length s) ≡ x → length s < S.size s
      go false l = leb-false (S.size s) (length s) l
      go true l = both_ways (complete S s) (completes h (leb-true (S.size s) (length s) l)) c

  -- the verdict
  abbrev ruled : Bool → Bool → Verdict
  ruled a c = cond a (cond c (S.judged (take (S.size s) s)) is_waiting) is_nothing

  pub disagrees : S.agrees s ≡ false → verdict S s ≡ is_nothing
  unfolding verdict
  disagrees a = ap (λ (x : Bool). ruled x (complete S s)) a

  pub waits : S.agrees s ≡ true → complete S s ≡ false → verdict S s ≡ is_waiting
  unfolding verdict
  waits a c = ap₂ ruled a c

  pub judges : S.agrees s ≡ true → complete S s ≡ true → verdict S s ≡ S.judged (take (S.size s) s)
  unfolding verdict
  judges a c = ap₂ ruled a c

  -- and by what it may be: no packet, one that waits, one whose bytes are all there
  pub by_tests : {A : Type 0} → (S.agrees s ≡ false → verdict S s ≡ is_nothing → A)
      → (S.agrees s ≡ true → complete S s ≡ false → verdict S s ≡ is_waiting → A)
      → (S.agrees s ≡ true → complete S s ≡ true → verdict S s ≡ S.judged (take (S.size s) s) → A) → A
  by_tests {A} none waiting all = go (S.agrees s) (complete S s) refl refl
    where
      go : (a c : Bool) → S.agrees s ≡ a → complete S s ≡ c → A
      go false c i j = none i (disagrees i)
      go true false i j = waiting i j (waits i j)
      go true true i j = all i j (judges i j)
