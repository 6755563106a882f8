-- The index that one pass over the segments makes is the index of the log.
use Rattle.std.specs.Prelude.{None, Option, Some}
use mathlib.Core.Path.{◌≡◌, refl, sym, ap, ◌∙◌}
use mathlib.Core.Bool.{Bool, true, false, cond}
use mathlib.Core.List.{List, [], ◌∷◌}
use Prim.Native.Nat.{ℕ, zero, suc, ◌+◌, ◌<◌}
use native.Mathlib.Omega.{arith}
use lib.Dec.{ltb, leb, eqb}
use lib.ListN.{length, get_or, set, replicate, length-set, length-replicate, get_or-replicate}
use lib.Seq.{get_or-set_same, get_or-set_other, ext_get_or}
use borrow.Author.Tests.{ltb-true, ltb-false, leb-true, eqb-true, eqb-false, lt-ltb}
use Rattle.lists.proofs.Bools.{or_right}
use Rattle.reading.specs.Reading.{EventAt, packet, bad_checksum, reading}
use Rattle.packet_front.specs.Front.{id_of, good_id}
use Rattle.packet.specs.Verdict.{protocol2}
use Rattle.reader_plain.proofs.Left.{GoodIds, good_ids}
use Rattle.log_index.specs.Last.{Last, at, nowhere, later, last_packet, last_in, or_in, last_from, last_of, index_number, index_size, id_at, mark_of, index_from, index}
use Rattle.log_index.proofs.Index.{index_length}
use Rattle.log_index.specs.Marks.{marked}

-- ---- IDs and their positions in the index

position_low : (id : ℕ) → id < 253 → mark_of id ≡ id
position_low id h = rw (lt-ltb id 253 h)

pub position_at : (i : ℕ) → i < index_size → mark_of (id_at i) ≡ i
position_at i h = by_test (ltb i 253) refl
  where
    by_test : (t : Bool) → ltb i 253 ≡ t → mark_of (cond t i 254) ≡ i
    by_test true e = position_low i (ltb-true i 253 e)
    by_test false e = let k = ltb-false i 253 e in omega arith

pub at_position : (id : ℕ) → good_id id ≡ true → id_at (mark_of id) ≡ id
at_position id g = by_test (leb id 252) refl
  where
    by_test : (t : Bool) → leb id 252 ≡ t → id_at (mark_of id) ≡ id
    by_test true e =
        let h : id < 253 = omega (arith, leb-true id 252 e) in
        ap id_at (position_low id h) ∙ rw (lt-ltb id 253 h)
    by_test false e =
        let k = eqb-true id 254 (or_right (leb id 252) (eqb id 254) g e) in rw k

pub position_within : (id : ℕ) → mark_of id < index_size
position_within id = by_test (ltb id 253) refl
  where
    by_test : (t : Bool) → ltb id 253 ≡ t → cond t id 253 < index_size
    by_test true e = let k = ltb-true id 253 e in omega arith
    by_test false e = omega arith

-- ---- one segment

-- a number where something was found, and else another
abbrev pick : Option ℕ → ℕ → ℕ → ℕ
pick None a b = b
pick (Some p) a b = a

pub marked_length : (number : ℕ) (xs : List ℕ) (fs : List EventAt) → length (marked number xs fs) ≡ length xs
unfolding marked
marked_length number xs [] = refl
marked_length number xs ((p, packet w) ∷ fs) =
    marked_length number (set xs (mark_of (id_of w)) number) fs ∙ length-set xs (mark_of (id_of w)) number
marked_length number xs ((p, bad_checksum id) ∷ fs) = marked_length number xs fs

module _ (number i : ℕ) (h : i < index_size) where
  -- a store for the ID of a packet, as the position i sees it
  stored : (xs : List ℕ) (p id : ℕ) → length xs ≡ index_size → good_id id ≡ true
      → get_or (set xs (mark_of id) number) i 0 ≡ pick (cond (eqb id (id_at i)) (Some p) None) number (get_or xs i 0)
  stored xs p id l g = by_test (eqb id (id_at i)) refl
    where
      by_test : (t : Bool) → eqb id (id_at i) ≡ t → get_or (set xs (mark_of id) number) i 0 ≡ pick (cond t (Some p) None) number (get_or xs i 0)
      by_test true e =
          let k : mark_of id ≡ i = ap mark_of (eqb-true id (id_at i) e) ∙ position_at i h in
          rw k (get_or-set_same xs i number 0 (omega arith))
      by_test false e =
          get_or-set_other xs (mark_of id) i number 0
          (λ k. eqb-false id (id_at i) e (sym (at_position id g) ∙ ap id_at (sym k)))

  later_pick : (l f : Option ℕ) (a b : ℕ) → pick (later l f) a b ≡ pick l a (pick f a b)
  later_pick None f a b = refl
  later_pick (Some p) None a b = refl
  later_pick (Some p) (Some q) a b = refl

  marked_at : (xs : List ℕ) (fs : List EventAt) → length xs ≡ index_size → GoodIds fs
      → get_or (marked number xs fs) i 0 ≡ pick (last_packet (id_at i) fs) number (get_or xs i 0)
  unfolding marked last_packet GoodIds
  marked_at xs [] l g = refl
  marked_at xs ((p, packet w) ∷ fs) l g =
      let id = id_of w in
      marked_at (set xs (mark_of id) number) fs (length-set xs (mark_of id) number ∙ l) g.1
      ∙ ap (pick (last_packet (id_at i) fs) number) (stored xs p id l g.0)
      ∙ sym (later_pick (last_packet (id_at i) fs) (cond (eqb id (id_at i)) (Some p) None) number (get_or xs i 0))
  marked_at xs ((p, bad_checksum id) ∷ fs) l g = marked_at xs fs l g

-- ---- all segments

-- the index after segments that are numbered from k on
unfoldable pub marked_all : ℕ → List ℕ → List (List ℕ) → List ℕ
marked_all k xs [] = xs
marked_all k xs (s ∷ ss) = marked_all (suc k) (marked (suc k) xs (reading protocol2 s)) ss

abbrev number_or : Last → ℕ → ℕ
number_or (at k p) d = k + 1
number_or nowhere d = d

all_length : (k : ℕ) (xs : List ℕ) (ss : List (List ℕ)) → length (marked_all k xs ss) ≡ length xs
unfolding marked_all
all_length k xs [] = refl
all_length k xs (s ∷ ss) =
    all_length (suc k) (marked (suc k) xs (reading protocol2 s)) ss ∙ marked_length (suc k) xs (reading protocol2 s)

or_pick : (l : Last) (k : ℕ) (f : Option ℕ) (d : ℕ) → number_or (or_in l k f) d ≡ number_or l (pick f (suc k) d)
or_pick (at j p) k (Some q) d = refl
or_pick (at j p) k None d = refl
or_pick nowhere k (Some p) d = omega arith
or_pick nowhere k None d = refl

all_at : (i k : ℕ) (xs : List ℕ) (ss : List (List ℕ)) → i < index_size → length xs ≡ index_size
    → get_or (marked_all k xs ss) i 0 ≡ number_or (last_from (id_at i) k ss) (get_or xs i 0)
unfolding marked_all last_from reading
all_at i k xs [] h l = refl
all_at i k xs (s ∷ ss) h l =
    let fs = reading protocol2 s in
    all_at i (suc k) (marked (suc k) xs fs) ss h (marked_length (suc k) xs fs ∙ l)
    ∙ ap (number_or (last_from (id_at i) (suc k) ss)) (marked_at (suc k) i h xs fs l (good_ids 0 s))
    ∙ sym (or_pick (last_from (id_at i) (suc k) ss) k (last_in (id_at i) s) (get_or xs i 0))

index_at : (n j i : ℕ) (ss : List (List ℕ)) → i < n → get_or (index_from n j ss) i 0 ≡ index_number (last_of (id_at (j + i)) ss)
unfolding index_from
index_at zero j i ss h = absurd (omega arith)
index_at (suc n) j zero ss h = let e : j + 0 ≡ j = omega arith in rw e
index_at (suc n) j (suc i) ss h = let e : j + suc i ≡ suc j + i = omega arith in rw e (index_at n (suc j) i ss (omega arith))

-- the number of a position in the index of a log
pub index_is : (i : ℕ) (ss : List (List ℕ)) → i < index_size → get_or (index ss) i 0 ≡ index_number (last_of (id_at i) ss)
index_is i ss h = let e : 0 + i ≡ i = omega arith in rw e at (index_at index_size 0 i ss h)

-- from zeros, with the segments numbered from 0
pub all_marked : (ss : List (List ℕ)) → marked_all 0 (replicate index_size 0) ss ≡ index ss
all_marked ss =
    let z = length-replicate {A = ℕ} index_size 0 in
    let l = all_length 0 (replicate index_size 0) ss in
    ext_get_or 0 (marked_all 0 (replicate index_size 0) ss) (index ss) (l ∙ z ∙ sym (index_length index_size 0 ss))
    (λ i h.
    let k : i < index_size = omega arith in
    all_at i 0 (replicate index_size 0) ss k z
    ∙ ap (number_or (last_from (id_at i) 0 ss)) (get_or-replicate index_size i 0 0 k)
    ∙ zero_or (last_from (id_at i) 0 ss) ∙ sym (index_is i ss k))
  where
    zero_or : (l : Last) → number_or l 0 ≡ index_number l
    zero_or (at k p) = refl
    zero_or nowhere = refl
