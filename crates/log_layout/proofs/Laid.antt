-- Numbers laid out as bytes and read again, and the other way round.
use mathlib.Core.Path.{◌≡◌, refl, sym, ap, ap₂, ◌∙◌}
use mathlib.Core.List.{List, [], ◌∷◌, ◌++◌}
use Prim.Native.Nat.{ℕ, zero, suc, ◌+◌, ◌*◌, ◌≤◌, ◌<◌, ◌^◌}
use native.Mathlib.Omega.{arith}
use lib.ListN.{length, drop, length-drop, take-append-drop}
use lib.Seq.{drop-drop, get_or-drop}
use Rattle.lists.specs.Numbers.{Bytes, number_at, bytes_of}
use Rattle.lists.proofs.Numbers.{number_drop, bytes_number}
use Rattle.log_layout.specs.Log.{laid, LogEntry, numbers_of}
use Rattle.log_layout.specs.Layout.{u32_at, numbers, entries}

-- every number has 32 bits
abbrev pub Fit : List ℕ → Type 0
Fit [] = Unit {0}
Fit (x ∷ xs) = (x < 2 ^ 32) × Fit xs

-- a number laid out is read again, and so is one behind it
pub u32_laid : (x : ℕ) (rest : List ℕ) → x < 2 ^ 32 → u32_at (bytes_of 4 x ++ rest) 0 ≡ x
unfolding bytes_of number_at
u32_laid x rest h = omega arith

pub u32_next : (x y : ℕ) (rest : List ℕ) → y < 2 ^ 32 → u32_at (bytes_of 4 x ++ (bytes_of 4 y ++ rest)) 4 ≡ y
unfolding bytes_of number_at
u32_next x y rest h = omega arith

pub numbers_laid : (xs rest : List ℕ) → Fit xs → numbers (length xs) (laid xs rest) ≡ xs
unfolding numbers laid bytes_of
numbers_laid [] rest f = refl
numbers_laid (x ∷ xs) rest f = rw (u32_laid x (laid xs rest) f.0, numbers_laid xs rest f.1)

pub entries_laid : (es : List LogEntry) (rest : List ℕ) → Fit (numbers_of es) → entries (length es) (laid (numbers_of es) rest) ≡ es
unfolding entries laid bytes_of
entries_laid [] rest f = refl
entries_laid (e ∷ es) rest f =
    rw (u32_laid e.0 (laid (e.1 ∷ numbers_of es) rest) f.0, u32_next e.0 e.1 (laid (numbers_of es) rest) f.1.0, entries_laid es rest f.1.1)

pub length_laid : (xs rest : List ℕ) → length (laid xs rest) ≡ 4 * length xs + length rest
unfolding laid bytes_of
length_laid [] rest = omega arith
length_laid (x ∷ xs) rest = omega (arith, length_laid xs rest)

pub length_numbers_of : (es : List LogEntry) → length (numbers_of es) ≡ 2 * length es
length_numbers_of [] = refl
length_numbers_of (e ∷ es) = omega (arith, length_numbers_of es)

pub drop_laid : (xs rest : List ℕ) (k : ℕ) → k ≡ 4 * length xs → drop k (laid xs rest) ≡ rest
unfolding laid bytes_of
drop_laid [] rest k e = let z : k ≡ 0 = omega arith in rw z
drop_laid (x ∷ xs) rest k e =
    let n : k ≡ suc (suc (suc (suc (4 * length xs)))) = omega arith in
    rw n (drop_laid xs rest (4 * length xs) refl)

-- ---- bytes read as numbers are laid out again

pub bytes_tail : (k : ℕ) (s : List ℕ) → Bytes s → Bytes (drop k s)
bytes_tail k s b i = rw (get_or-drop k s i 0) (b (k + i))

-- the first number of at least four bytes
pub u32_back : (s : List ℕ) → Bytes s → 4 ≤ length s → bytes_of 4 (u32_at s 0) ++ drop 4 s ≡ s
u32_back s b h = ap (λ (l : List ℕ). l ++ drop 4 s) (bytes_number 4 s 0 b h) ∙ take-append-drop 4 s

pub numbers_back : (k : ℕ) (s : List ℕ) → Bytes s → 4 * k ≤ length s → laid (numbers k s) (drop (4 * k) s) ≡ s
unfolding numbers laid
numbers_back zero s b h = refl
numbers_back (suc k) s b h =
    let n : 4 * suc k ≡ 4 + 4 * k = omega arith in
    rw (n, ← drop-drop (4 * k) 4 s)
    (ap (λ (l : List ℕ). bytes_of 4 (u32_at s 0) ++ l) (numbers_back k (drop 4 s) (bytes_tail 4 s b) (omega (arith, length-drop 4 s)))
    ∙ u32_back s b (omega arith))

pub entries_back : (k : ℕ) (s : List ℕ) → Bytes s → 8 * k ≤ length s → laid (numbers_of (entries k s)) (drop (8 * k) s) ≡ s
unfolding entries laid
entries_back zero s b h = refl
entries_back (suc k) s b h =
    let n : 8 * suc k ≡ 8 + 8 * k = omega arith in
    let second : bytes_of 4 (u32_at s 4) ++ drop 8 s ≡ drop 4 s =
    ap₂ (λ (x : ℕ) (l : List ℕ). bytes_of 4 x ++ l) (sym (number_drop 4 4 0 s)) (sym (drop-drop 4 4 s))
    ∙ u32_back (drop 4 s) (bytes_tail 4 s b) (omega (arith, length-drop 4 s)) in
    rw (n, ← drop-drop (8 * k) 8 s)
    (ap (λ (l : List ℕ). bytes_of 4 (u32_at s 0) ++ (bytes_of 4 (u32_at s 4) ++ l))
    (entries_back k (drop 8 s) (bytes_tail 8 s b) (omega (arith, length-drop 8 s)))
    ∙ ap (λ (l : List ℕ). bytes_of 4 (u32_at s 0) ++ l) second ∙ u32_back s b (omega arith))
