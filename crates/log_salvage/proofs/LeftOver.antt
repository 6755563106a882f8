-- The bytes that lie in no kept segment, counted one by one.
use mathlib.Core.Path.{◌≡◌, refl, sym, ap₂}
use mathlib.Core.Bool.{true}
use mathlib.Core.List.{List, [], ◌∷◌}
use Prim.Native.Nat.{ℕ, zero, suc, ◌+◌, ◌-◌, ◌≤◌, ◌<◌}
use native.Mathlib.Omega.{arith}
use lib.ListN.{length}
use borrow.Author.Tests.{le-leb, lt-leb, lt-ltb, le-ltb}
use Rattle.log_layout.specs.Log.{LogEntry}
use Rattle.log_kept.proofs.Kept.{bytes_by, bytes_cons}
use Rattle.log_salvage.specs.Salvage.{Apart, in_none, bytes_in_none}

-- a byte before all entries
none_before : (i limit size : ℕ) (es : List LogEntry) → Apart limit size es → i < limit → in_none i es ≡ true
none_before i limit size [] a h = refl
none_before i limit size (e ∷ es) (a, b, r) h =
    rw (lt-ltb i e.0 (omega arith), none_before i (e.0 + e.1) size es r (omega arith))

none_at_all : (n i : ℕ) → bytes_in_none n i [] ≡ n
unfolding bytes_in_none
none_at_all zero i = refl
none_at_all (suc n) i = omega (arith, none_at_all n (suc i))

-- the bytes before an entry, those in it, and those behind it
module _ (e : LogEntry) (es : List LogEntry) where
  there : (n t i j : ℕ) → t ≡ n → j ≡ i → bytes_in_none t i (e ∷ es) ≡ bytes_in_none n j (e ∷ es)
  there n t i j p q = ap₂ (λ (a b : ℕ). bytes_in_none a b (e ∷ es)) p (sym q)

  before : (d n t i j size : ℕ) → Apart (e.0 + e.1) size es → t ≡ d + n → j ≡ i + d → j ≤ e.0
      → bytes_in_none t i (e ∷ es) ≡ d + bytes_in_none n j (e ∷ es)
  unfolding bytes_in_none
  before zero n t i j size r p q h = omega (arith, there n t i j (omega arith) (omega arith))
  before (suc d) n zero i j size r p q h = absurd (omega arith)
  before (suc d) n (suc t) i j size r p q h =
      let k = before d n t (suc i) j size r (omega arith) (omega arith) h in
      rw (lt-ltb i e.0 (omega arith), none_before i (e.0 + e.1) size es r (omega arith)) (omega (arith, k))

  inside : (d n t i j : ℕ) → t ≡ d + n → j ≡ i + d → e.0 ≤ i → j ≤ e.0 + e.1 → bytes_in_none t i (e ∷ es) ≡ bytes_in_none n j (e ∷ es)
  unfolding bytes_in_none
  inside zero n t i j p q h k = there n t i j (omega arith) (omega arith)
  inside (suc d) n zero i j p q h k = absurd (omega arith)
  inside (suc d) n (suc t) i j p q h k =
      let z = inside d n t (suc i) j (omega arith) (omega arith) (omega arith) k in
      rw (le-ltb i e.0 h, lt-leb (e.0 + e.1) i (omega arith)) (omega (arith, z))

  behind : (n i : ℕ) → e.0 + e.1 ≤ i → bytes_in_none n i (e ∷ es) ≡ bytes_in_none n i es
  unfolding bytes_in_none
  behind zero i h = refl
  behind (suc n) i h = rw (le-ltb i e.0 (omega arith), le-leb (e.0 + e.1) i h, behind n (suc i) (omega arith))

-- of entries that do not overlap, each byte lies in one of them or in none
all_bytes : (file : List ℕ) (limit : ℕ) (es : List LogEntry) → Apart limit (length file) es
    → bytes_by file es + bytes_in_none (length file - limit) limit es ≡ length file - limit
all_bytes file limit [] a = omega (arith, none_at_all (length file - limit) limit)
all_bytes file limit (e ∷ es) (a, b, r) =
    let size = length file in
    let end = e.0 + e.1 in
    let p = before e es (e.0 - limit) (size - e.0) (size - limit) limit e.0 size r (omega arith) (omega arith) (omega arith) in
    let q = inside e es e.1 (size - end) (size - e.0) e.0 end (omega arith) refl (omega arith) (omega arith) in
    let u = behind e es (size - end) end (omega arith) in
    let k = all_bytes file end es r in
    omega (arith, p, q, u, k, bytes_cons file e.0 e.1 es b)

pub left_over : (file : List ℕ) (limit : ℕ) (es : List LogEntry) → Apart limit (length file) es
    → length file - limit - bytes_by file es ≡ bytes_in_none (length file - limit) limit es
left_over file limit es a = omega (arith, all_bytes file limit es a)
