-- The supposition of demand 3 is what the test says; without noise it holds.
use mathlib.Core.Path.{◌≡◌, refl, sym, ap, ◌∙◌}
use mathlib.Core.Bool.{Bool, true, false, ◌||◌}
use mathlib.Core.List.{List, [], ◌∷◌, ◌++◌, Memᴰ}
use Prim.Native.Nat.{ℕ, ◌<◌}
use native.Mathlib.Omega.{arith}
use borrow.Author.Tests.{ltb-true, lt-ltb}
use lib.Dec.{ltb}
use lib.ListN.{length, take, drop, take-append-drop}
use lib.Seq.{length-take-le}
use Rattle.reading.specs.Rules.{Verdict, is_packet, is_bad_checksum, is_waiting, is_nothing, Rules, Laws}
use Rattle.reading.specs.Promise.{NoneAcross}
use Rattle.reading.specs.Across.{WithoutNoise, NoneWithout, longer_than, reaches_across, AcrossDecided}

or_false : (a b : Bool) → (a || b) ≡ false → (a ≡ false) × (b ≡ false)
or_false false b e = (refl, e)
or_false true b e = let z : ◌≡◌ {A = ℕ} 0 1 = cc in absurd (omega arith)

neither : (a b : Bool) → a ≡ false → b ≡ false → (a || b) ≡ false
neither a b e f = rw (e, f)

pub without_noise : (R : Rules) → WithoutNoise R
without_noise R beyond x y z e a = absurd (omega arith)

-- what starts in the noise starts with a byte of the noise
starts_in : (noise x beyond t : List ℕ) (b : ℕ) → noise ++ beyond ≡ x ++ (b ∷ t) → length x < length noise → Memᴰ b noise
starts_in [] x beyond t b e h = absurd (omega arith)
starts_in (d ∷ noise) [] beyond t b e h = let i : b ≡ d = cc in Memᴰ.head i
starts_in (d ∷ noise) (a ∷ x) beyond t b e h = Memᴰ.tail (starts_in noise x beyond t b (cc) (omega arith))

pub none_without : (R : Rules) (start : ℕ) → ((w : List ℕ) → R.WellFormed w → (t : List ℕ) × (w ≡ start ∷ t))
    → NoneWithout R start
none_without R start begins noise beyond absent x y z e a c w =
    let s = begins y w in
    absent (starts_in noise x beyond (s.0 ++ z) start (e ∙ ap (λ (l : List ℕ). x ++ (l ++ z)) s.1) a)

module _ (R : Rules) (L : Laws R) (beyond : List ℕ) where
  -- ---- where the test fails nothing reaches across

  not_here : (s : List ℕ) (n : ℕ) → longer_than n (R.verdict s) ≡ false → (y z : List ℕ) → s ≡ y ++ z → n < length y
      → ¬ R.WellFormed y
  not_here s n f y z e h w =
      let v : R.verdict s ≡ is_packet (length y) = ap (λ (t : List ℕ). R.verdict t) e ∙ L.whole y z w in
      let t : longer_than n (R.verdict s) ≡ true = ap (longer_than n) v ∙ lt-ltb n (length y) h in
      let z : ◌≡◌ {A = ℕ} 0 1 = cc in
      omega arith

  from_here : (b : ℕ) (noise : List ℕ) → longer_than (length (b ∷ noise)) (R.verdict (b ∷ (noise ++ beyond))) ≡ false
      → NoneAcross R noise beyond → NoneAcross R (b ∷ noise) beyond
  from_here b noise f later [] y z e a c = not_here (b ∷ (noise ++ beyond)) (length (b ∷ noise)) f y z e (omega arith)
  from_here b noise f later (d ∷ x) y z e a c = later x y z (cc) (omega arith) (omega arith)

  nothing_across : (noise : List ℕ) → reaches_across R noise beyond ≡ false → NoneAcross R noise beyond
  unfolding reaches_across
  nothing_across [] f = without_noise R beyond
  nothing_across (b ∷ noise) f =
      let t = or_false (longer_than (length (b ∷ noise)) (R.verdict (b ∷ (noise ++ beyond)))) (reaches_across R noise beyond) f in
      from_here b noise t.0 (nothing_across noise t.1)

  -- ---- where nothing reaches across the test fails

  here_not : (noise : List ℕ) → 0 < length noise → NoneAcross R noise beyond → (v : Verdict) → R.verdict (noise ++ beyond) ≡ v
      → longer_than (length noise) v ≡ false
  here_not noise h na (is_packet n) e = go (ltb (length noise) n) refl
    where
      go : (t : Bool) → ltb (length noise) n ≡ t → ltb (length noise) n ≡ false
      go false i = i
      go true i =
          let s = noise ++ beyond in
          let g = L.sound s n e in
          let k = length-take-le n s g.1 in
          absurd (na [] (take n s) (drop n s) (sym (take-append-drop n s)) h (omega (arith, ltb-true (length noise) n i)) g.2)
  here_not noise h na (is_bad_checksum id) e = refl
  here_not noise h na is_waiting e = refl
  here_not noise h na is_nothing e = refl

  across_nothing : (noise : List ℕ) → NoneAcross R noise beyond → reaches_across R noise beyond ≡ false
  unfolding reaches_across
  across_nothing [] na = refl
  across_nothing (b ∷ noise) na =
      neither (longer_than (length (b ∷ noise)) (R.verdict (b ∷ (noise ++ beyond)))) (reaches_across R noise beyond)
      (here_not (b ∷ noise) (omega arith) na (R.verdict (b ∷ (noise ++ beyond))) refl)
      (across_nothing noise (λ x y z e a c. na (b ∷ x) y z (ap (λ (l : List ℕ). b ∷ l) e) (omega arith) (omega arith)))

pub across_decided : (R : Rules) → Laws R → AcrossDecided R
across_decided R L noise beyond = (nothing_across R L beyond noise, across_nothing R L beyond noise)
