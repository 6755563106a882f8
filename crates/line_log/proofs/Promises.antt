-- The test accepts the sound logs and no others; the question, on a sound log and on two that agree where it looks.
use Rattle.std.specs.Prelude.{Err, None, Option, Some}
use mathlib.Core.Path.{◌≡◌, refl, sym, ap, ap₂, subst, ◌∙◌}
use mathlib.Core.Bool.{true, false}
use mathlib.Core.List.{List, [], ◌∷◌}
use Prim.Native.Nat.{ℕ, zero, suc, ◌+◌, ◌*◌, ◌-◌, ◌≤◌, ◌<◌}
use native.Mathlib.Omega.{arith}
use lib.ListN.{length, take, drop, get_or}
use lib.Seq.{get_or-take}
use Rattle.answers.specs.Refusals.{first_failing}
use Rattle.answers.specs.declared.Refusal.TheVariants.{BadLog, BadLogId, WrongIndex}
use Rattle.answers.proofs.Laws.{passed}
use Rattle.lists.proofs.Numbers.{same_number}
use Rattle.packet_front.specs.Front.{good_id}
use Rattle.log_index.specs.Last.{Last, at, nowhere, or_in, last_in, last_from, last_of, index_number, index_size, index, mark_of}
use Rattle.log_layout.specs.Log.{LogEntry, index_offset, log_of, directory_offset}
use Rattle.log_layout.specs.Layout.{u32_at, count_in, entry_of, index_in, segment_by, segments_in, laid_out}
use Rattle.log_layout.proofs.Sound.{is_laid_out, laid_out_log, index_log, segments_log, log_back}
use Rattle.log_index.proofs.Marks.{position_within, at_position, index_is}
use Rattle.line_log.specs.Soundness.{same_numbers, check_refusal, SoundExactly}
use Rattle.line_log.specs.Question.{named, last_answer, last_refusal, found, found_unless, question, index_number_of, LogPromises}
use Rattle.line_log.proofs.Rounds.{numbers_at, numbers_length, segments_at, none_above_lem, same_are, same_self}

-- ---- the test

module _ (ss : List (List ℕ)) (fits : length (log_of ss) ≤ 4294967295) where
  accepted : check_refusal (log_of ss) ≡ None
  unfolding check_refusal
  accepted = rw (laid_out_log ss fits, index_log ss fits, segments_log ss fits, same_self (index ss))

module _ (file : List ℕ) where
  pub wrong_layout : laid_out file ≡ false → check_refusal file ≡ Some BadLog
  unfolding check_refusal
  wrong_layout h = rw h

  module _ (l : laid_out file ≡ true) where
    pub wrong_index : same_numbers (index_in file) (index (segments_in file)) ≡ false → check_refusal file ≡ Some WrongIndex
    unfolding check_refusal
    wrong_index h = rw (l, h)

    pub right_index : same_numbers (index_in file) (index (segments_in file)) ≡ true → check_refusal file ≡ None
    unfolding check_refusal
    right_index h = rw (l, h)

pub sound_exactly : SoundExactly
unfolding check_refusal
sound_exactly =
    record {
      accepts = λ file s. subst (λ (f : List ℕ). check_refusal f ≡ None) (sym s.are) (accepted s.segments (rw s.are at s.fits));
      only =
          λ file b e.
          let t = passed (laid_out file) BadLog _ e in
          let i = passed (same_numbers (index_in file) (index (segments_in file))) WrongIndex None t.1 in
          let h = is_laid_out file t.0 in
          record { fits = h.fits; segments = segments_in file; are = log_back file b h (same_are _ _ i.0) };
    }

-- ---- the question, test by test

module _ (file : List ℕ) (id : ℕ) where
  pub bad_layout : laid_out file ≡ false → question file id ≡ Err BadLog
  unfolding last_refusal
  bad_layout h = rw h

  number_is : get_or (index_in file) (mark_of id) 0 ≡ index_number_of file id
  number_is = numbers_at file (index_offset (count_in file)) index_size (mark_of id) (position_within id)

  module _ (l : laid_out file ≡ true) where
    pub bad_id : good_id id ≡ false → question file id ≡ Err BadLogId
    unfolding last_refusal
    bad_id h = rw (l, h)

    pub answered_by_lem : good_id id ≡ true → question file id ≡ found (last_answer file id)
    unfolding last_refusal
    answered_by_lem h = rw (l, h)

    -- no segment is named
    pub none_named : index_number_of file id ≡ 0 → last_answer file id ≡ nowhere
    unfolding last_answer
    none_named h = rw (number_is, h)

    -- segment k is, and there is such a segment
    pub named_within : (k : ℕ) → index_number_of file id ≡ suc k → k < count_in file
    named_within k h =
        let most = none_above_lem (count_in file) (index_in file) (mark_of id) (is_laid_out file l).most
        (rw (numbers_length index_size (drop (index_offset (count_in file)) file)) (position_within id)) in
        omega (arith, most, number_is, h)

    pub one_named : (k : ℕ) → index_number_of file id ≡ suc k → last_answer file id ≡ or_in nowhere k (last_in id (segment_by file (entry_of file k)))
    unfolding last_answer
    one_named k h = rw (number_is, h, segments_at file file directory_offset (count_in file) k (named_within k h))

-- ---- on a sound log

-- the last packet in segments that are numbered from k on stands where it is said to stand
abbrev There : ℕ → ℕ → List (List ℕ) → Last → Type 0
There id k ss (at j p) = (k ≤ j) × (last_in id (get_or ss (j - k) []) ≡ Some p)
There id k ss nowhere = Unit {0}

there : (id k : ℕ) (ss : List (List ℕ)) → There id k ss (last_from id k ss)
unfolding last_from
there id k [] = tt
there id k (s ∷ ss) = by_case (last_from id (suc k) ss) (there id (suc k) ss) (last_in id s) refl
  where
    by_case : (l : Last) → There id (suc k) ss l → (o : Option ℕ) → last_in id s ≡ o → There id k (s ∷ ss) (or_in l k o)
    by_case (at j p) t o e =
        let z : j - k ≡ suc (j - suc k) = omega (arith, t.0) in (omega (arith, t.0), rw z t.1)
    by_case nowhere t (Some p) e = let z : k - k ≡ 0 = omega arith in (omega arith, rw z e)
    by_case nowhere t None e = tt

-- so the segment that the index names has it
pub named_last : (id : ℕ) (ss : List (List ℕ)) → named (index_number (last_of id ss)) id ss ≡ last_of id ss
named_last id ss = by_case (last_of id ss) (there id 0 ss)
  where
    by_case : (l : Last) → There id 0 ss l → named (index_number l) id ss ≡ l
    by_case (at j p) t =
        let z : j - 0 ≡ j = omega arith in
        let y : j + 1 ≡ suc j = omega arith in
        rw (y, rw z at t.1)
    by_case nowhere t = refl

module _ (ss : List (List ℕ)) (fits : length (log_of ss) ≤ 4294967295) (id : ℕ) (g : good_id id ≡ true) where
  log_answer : last_answer (log_of ss) id ≡ last_of id ss
  unfolding last_answer
  log_answer =
      ap₂ (λ (xs : List ℕ) (l : List (List ℕ)). named (get_or xs (mark_of id) 0) id l) (index_log ss fits) (segments_log ss fits)
      ∙ ap (λ (n : ℕ). named n id ss)
      (index_is (mark_of id) ss (position_within id) ∙ ap (λ (i : ℕ). index_number (last_of i ss)) (at_position id g))
      ∙ named_last id ss

  log_question : question (log_of ss) id ≡ found (last_of id ss)
  log_question = answered_by_lem (log_of ss) id (laid_out_log ss fits) g ∙ ap found log_answer

-- ---- on two files that agree where it looks

-- a number within what agrees
same_u32 : (f g : List ℕ) (m a : ℕ) → take m f ≡ take m g → a + 4 ≤ m → u32_at f a ≡ u32_at g a
same_u32 f g m a e h =
    same_number 4 f g a a (λ k l.
    sym (get_or-take m f (a + k) 0 (omega arith)) ∙ ap (λ (s : List ℕ). get_or s (a + k) 0) e ∙ get_or-take m g (a + k) 0 (omega arith))

module _ (f g : List ℕ) (id : ℕ) (lf : laid_out f ≡ true) (lg : laid_out g ≡ true)
    (e : take (index_offset (count_in f)) f ≡ take (index_offset (count_in f)) g) (i : index_number_of f id ≡ index_number_of g id)
    (s : (k : ℕ) → index_number_of f id ≡ suc k → segment_by f (entry_of f k) ≡ segment_by g (entry_of f k)) where
  same_answer_lem : last_answer f id ≡ last_answer g id
  same_answer_lem = by_number (index_number_of f id) refl
    where
      same_entry : (k : ℕ) → k < count_in f → entry_of f k ≡ entry_of g k
      same_entry k h =
          ap₂ {C = LogEntry} (λ (a l : ℕ). (a, l)) (same_u32 f g (index_offset (count_in f)) (16 + 8 * k) e (omega arith))
          (same_u32 f g (index_offset (count_in f)) (16 + 8 * k + 4) e (omega arith))

      by_number : (n : ℕ) → index_number_of f id ≡ n → last_answer f id ≡ last_answer g id
      by_number zero h = none_named f id lf h ∙ sym (none_named g id lg (sym i ∙ h))
      by_number (suc k) h =
          one_named f id lf k h
          ∙ ap (λ (w : List ℕ). or_in nowhere k (last_in id w)) (s k h ∙ ap (segment_by g) (same_entry k (named_within f id lf k h)))
          ∙ sym (one_named g id lg k (sym i ∙ h))

  same_question : question f id ≡ question g id
  unfolding last_refusal
  same_question = rw (lf, lg) (ap (found_unless (first_failing ((good_id id, BadLogId) ∷ []))) same_answer_lem)

pub log_promises : LogPromises
log_promises =
    record {
      answers =
          λ file s id g. subst (λ (f : List ℕ). question f id ≡ found (last_of id s.segments)) (sym s.are)
          (log_question s.segments (rw s.are at s.fits) id g);
      depends_only = λ f g id lf lg e i s. same_question f g id lf lg e i s;
    }
