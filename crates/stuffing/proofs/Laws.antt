-- The laws of byte stuffing: each way undoes the other, what was stuffed is well stuffed, and the lengths.
use mathlib.Core.Path.{◌≡◌, refl, sym, ap, subst, ◌∙◌}
use mathlib.Core.Bool.{Bool, true, false, not, cond, ◌||◌}
use mathlib.Core.List.{List, [], ◌∷◌}
use Prim.Native.Nat.{ℕ, ◌+◌, ◌*◌, ◌≤◌}
use native.Mathlib.Omega.{arith}
use lib.Dec.{eqb}
use lib.ListN.{length}
use borrow.Author.Tests.{eqb-true, not-true}
use Rattle.lists.proofs.Bools.{and_left, and_right, both_ways}
use Rattle.stuffing.specs.Stuffing.{mark, stuff_after, stuff, well_after, well_stuffed, unstuff_after, unstuff, marks_after, marks}
use Rattle.stuffing.proofs.Mark.{mark_last, no_mark, stuff_forgets}

-- after the last byte of a mark and one FD more, the bytes of a body go on as if nothing had been there
after_mark : (a b c : ℕ) (s : List ℕ) → mark a b c ≡ true → stuff_after b c s ≡ stuff_after c 0xFD s
after_mark a b c s e =
    subst (λ (x : ℕ). stuff_after b x s ≡ stuff_after x 0xFD s) (sym (mark_last a b c e)) (stuff_forgets b 0xFD 0xFD s refl)

no_mark_after : (a b c d : ℕ) → mark a b c ≡ true → mark b c d ≡ false
no_mark_after a b c d e =
    no_mark b c d (subst (λ (x : ℕ). eqb x 0xFF ≡ false) (sym (mark_last a b c e)) refl)

-- What a scan makes of a stuffed form, where it passes over the byte after each mark and takes every other byte as one of
-- the body.
module _ {A : Type 0} (scan : ℕ → ℕ → ℕ → List ℕ → A) (result : List ℕ → A)
    (ends : (z a b : ℕ) → mark z a b ≡ false → scan z a b [] ≡ result [])
    (takes : (z a b c : ℕ) (t s : List ℕ) → mark z a b ≡ false → scan a b c t ≡ result s → scan z a b (c ∷ t) ≡ result (c ∷ s))
    (passes : (z a b : ℕ) (t : List ℕ) → mark z a b ≡ true → scan z a b (0xFD ∷ t) ≡ scan a b 0xFD t) where
  Scanned : List ℕ → Type 0
  Scanned s = (z a b : ℕ) → mark z a b ≡ false → scan z a b (stuff_after a b s) ≡ result s

  scanned : (s : List ℕ) → Scanned s
  unfolding Scanned stuff_after
  scanned [] z a b n = ends z a b n
  scanned (c ∷ s) z a b n = takes z a b c _ s n (turn (scanned s) (mark a b c) refl)
    where
      turn : Scanned s → (m : Bool) → mark a b c ≡ m
          → scan a b c (cond m (0xFD ∷ stuff_after b c s) (stuff_after b c s)) ≡ result s
      turn rest false e = rest a b c e
      turn rest true e =
          passes a b c _ e ∙ ap (scan b c 0xFD) (after_mark a b c s e) ∙ rest b c 0xFD (no_mark_after a b c 0xFD e)

-- removal undoes stuffing
pub unstuff_stuff : (body : List ℕ) → unstuff (stuff body) ≡ body
unfolding Scanned unstuff_after
unstuff_stuff body =
    scanned unstuff_after (λ s. s) (λ z a b n. refl) (λ z a b c t s n e. rw n (ap (λ (l : List ℕ). c ∷ l) e)) (λ z a b t e. rw e) body
    0 0 0 refl

-- what was stuffed is well stuffed
pub stuff_well : (body : List ℕ) → well_stuffed (stuff body) ≡ true
unfolding Scanned well_after
stuff_well body =
    scanned well_after (λ s. true) (λ z a b n. rw n) (λ z a b c t s n e. rw n e) (λ z a b t e. rw e) body 0 0 0 refl

-- stuffing undoes removal, where the bytes are well stuffed
Restored : List ℕ → Type 0
Restored s = (z a b : ℕ) → well_after z a b s ≡ true
    → cond (mark z a b) (0xFD ∷ stuff_after a b (unstuff_after z a b s)) (stuff_after a b (unstuff_after z a b s)) ≡ s

restored : (s : List ℕ) → Restored s
unfolding Restored stuff_after well_after unstuff_after
restored [] z a b w = rw (not-true (mark z a b) w)
restored (c ∷ s) z a b w = turn (restored s a b c (and_right (not (mark z a b) || eqb c 0xFD) (well_after a b c s) w)) (mark z a b) refl
  where
    turn : cond (mark a b c) (0xFD ∷ stuff_after b c (unstuff_after a b c s)) (stuff_after b c (unstuff_after a b c s)) ≡ s
        → (m : Bool) → mark z a b ≡ m
        → cond m (0xFD ∷ stuff_after a b (unstuff_after z a b (c ∷ s))) (stuff_after a b (unstuff_after z a b (c ∷ s))) ≡ c ∷ s
    turn rest false e = rw e (ap (λ (t : List ℕ). c ∷ t) rest)
    turn rest true e =
        let last : c ≡ 0xFD = eqb-true c 0xFD (and_left (eqb c 0xFD) (well_after a b c s) (rw e at w)) in
        let goes_on : stuff_after b c (unstuff_after a b c s) ≡ s = rw (no_mark_after z a b c e) at rest in
        let whole : 0xFD ∷ stuff_after a b (unstuff_after a b c s) ≡ c ∷ s = cc (after_mark z a b (unstuff_after a b c s) e) in
        rw e whole

pub stuff_unstuff : (bytes : List ℕ) → well_stuffed bytes ≡ true → stuff (unstuff bytes) ≡ bytes
unfolding Restored
stuff_unstuff bytes w = restored bytes 0 0 0 w

-- the lengths
stuffed_length : (a b : ℕ) (s : List ℕ) → length (stuff_after a b s) ≡ length s + marks_after a b s
unfolding stuff_after marks_after
stuffed_length a b [] = refl
stuffed_length a b (c ∷ s) = turn (stuffed_length b c s) (mark a b c)
  where
    turn : length (stuff_after b c s) ≡ length s + marks_after b c s → (m : Bool)
        → length (c ∷ cond m (0xFD ∷ stuff_after b c s) (stuff_after b c s)) ≡ length (c ∷ s) + cond m (1 + marks_after b c s) (marks_after b c s)
    turn rest false = omega arith
    turn rest true = omega arith

pub length_stuff : (body : List ℕ) → length (stuff body) ≡ length body + marks body
length_stuff body = stuffed_length 0 0 body

unstuffed_length : (a b c : ℕ) (s : List ℕ) → length (unstuff_after a b c s) ≤ length s
unfolding unstuff_after
unstuffed_length a b c [] = omega arith
unstuffed_length a b c (d ∷ s) = turn (unstuffed_length b c d s) (mark a b c)
  where
    turn : length (unstuff_after b c d s) ≤ length s → (m : Bool)
        → length (cond m (unstuff_after b c d s) (d ∷ unstuff_after b c d s)) ≤ length (d ∷ s)
    turn rest false = omega arith
    turn rest true = omega arith

pub unstuff_short : (bytes : List ℕ) → length (unstuff bytes) ≤ length bytes
unstuff_short bytes = unstuffed_length 0 0 0 bytes

-- ---- where nothing is added, or taken away

no_marks : (a b : ℕ) (s : List ℕ) → marks_after a b s ≡ 0 → stuff_after a b s ≡ s
unfolding stuff_after marks_after
no_marks a b [] e = refl
no_marks a b (c ∷ s) e = turn (no_marks b c s) (mark a b c) e
  where
    turn : (marks_after b c s ≡ 0 → stuff_after b c s ≡ s) → (m : Bool) → cond m (1 + marks_after b c s) (marks_after b c s) ≡ 0
        → c ∷ cond m (0xFD ∷ stuff_after b c s) (stuff_after b c s) ≡ c ∷ s
    turn rest false e = ap (λ (l : List ℕ). c ∷ l) (rest e)
    turn rest true e = absurd (omega arith)

pub stuff_same : (body : List ℕ) → length (stuff body) ≡ length body → stuff body ≡ body
stuff_same body e = no_marks 0 0 body (omega (arith, length_stuff body))

pub unstuff_same : (bytes : List ℕ) → well_stuffed bytes ≡ true → length (unstuff bytes) ≡ length bytes → unstuff bytes ≡ bytes
unstuff_same bytes w e =
    let back = stuff_unstuff bytes w in sym (stuff_same (unstuff bytes) (ap length back ∙ sym e)) ∙ back

-- ---- how many bytes stuffing adds

-- Three bytes make a mark, and no byte is of two marks. Before s there may stand two of the next one's bytes, one, or none.
pub record Marks (a b : ℕ) (s : List ℕ) : Type 0 where
  pub after_two : 3 * marks_after a b s ≤ length s + 2
  pub after_one : eqb a 0xFF ≡ false → 3 * marks_after a b s ≤ length s + 1
  pub after_none : eqb b 0xFF ≡ false → 3 * marks_after a b s ≤ length s

pub marks_within : (a b : ℕ) (s : List ℕ) → Marks a b s
unfolding marks_after
marks_within a b [] = record { after_two = omega arith; after_one = λ e. omega arith; after_none = λ e. omega arith }
marks_within a b (c ∷ s) = turn (marks_within b c s) (mark a b c) refl
  where
    turn : Marks b c s → (m : Bool) → mark a b c ≡ m → Marks a b (c ∷ s)
    turn rest true e =
        let n = rest.after_none (subst (λ (x : ℕ). eqb x 0xFF ≡ false) (sym (mark_last a b c e)) refl) in
        record {
          after_two = rw e (omega arith);
          after_one = λ z. both_ways (mark a b c) e (rw z);
          after_none = λ z. both_ways (mark a b c) e (no_mark a b c z);
        }
    turn rest false e =
        let n = rest.after_two in
        record {
          after_two = rw e (omega arith);
          after_one = λ z. rw e (omega arith);
          after_none = λ z. let k = rest.after_one z in rw e (omega arith);
        }

-- so many bytes are stuffed to a third more at the most
pub stuff_at_most : (body : List ℕ) → 3 * length (stuff body) ≤ 4 * length body
stuff_at_most body = let n = (marks_within 0 0 body).after_none refl in omega (arith, length_stuff body)
