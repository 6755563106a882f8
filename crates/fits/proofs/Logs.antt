-- The question to a log, and the salvage.
use Rattle.std.specs.Prelude.{None, Option, Result, Some}
use mathlib.Core.Path.{◌≡◌, refl, sym, subst, ◌∙◌}
use mathlib.Core.Bool.{Bool, true, false, cond}
use mathlib.Core.List.{List, [], ◌∷◌}
use Prim.Native.Nat.{ℕ, zero, suc, ◌+◌, ◌-◌, ◌≤◌}
use native.Mathlib.Omega.{arith}
use lib.Dec.{eqb}
use lib.ListN.{length, drop, length-take, length-drop}
use Rattle.answers.specs.Answers.{answered}
use Rattle.answers.specs.declared.Refusal.{Refusal}
use Rattle.reading.specs.Reading.{packet, bad_checksum, EventAt, closed, read_from, reading}
use Rattle.packet_front.specs.Front.{good_id, id_of}
use Rattle.packet.specs.Verdict.{protocol2}
use Rattle.reader_plain.proofs.Plain.{Goes, goes}
use Rattle.log_index.specs.Last.{nowhere, or_in, later, last_packet, last_in, index_size, index}
use Rattle.log_layout.specs.Log.{index_offset}
use Rattle.log_layout.specs.Layout.{entry_of, segment_by, laid_out}
use Rattle.log_layout.proofs.Sound.{is_laid_out}
use Rattle.line_log.specs.declared.Place.{Place}
use Rattle.line_log.specs.Question.{found, last_answer, question, index_number_of}
use Rattle.line_log.proofs.Promises.{bad_layout, bad_id, answered_by_lem, none_named, named_within, one_named}
use Rattle.line_log.proofs.Rounds.{numbers_length}
use Rattle.log_kept.specs.Kept.{entry_count, dropped_in, kept_segments}
use Rattle.log_salvage.specs.Report.{salvaged, differing, old_index, report_of}
use Rattle.log_salvage.specs.declared.Figures.{Figures}
use Rattle.log_salvage.specs.Salvage.{figures, salvage_refusal, salvage_answer}
use Rattle.log_salvage.proofs.Promises.{salvage_promises}
use Rattle.numbers.specs.Exported.{found_numbers, salvaged_numbers}
use Rattle.fits.specs.Fits.{AtMost, FoundFits, SalvagedFits}
use Rattle.fits.proofs.Counts.{count_at_most, refused_at_most}

-- ---- the question

-- the last packet of a reading begins within the bytes t, which begin at p
last_within : (id p : ℕ) (t : List ℕ) (fs : List EventAt) → read_from protocol2 closed p t ≡ fs → (q : ℕ) → last_packet id fs ≡ Some q
    → q ≤ p + length t
unfolding last_packet Goes
last_within id p t [] r q e = let z : ◌≡◌ {A = ℕ} 0 1 = cc in absurd (omega arith)
last_within id p t ((o, packet w) ∷ fs) r q e =
    let g = subst (Goes p t) r (goes p t) in
    by (last_packet id fs) refl (eqb (id_of w) id) g (λ k. last_within id (o + length w) (drop (o + length w - p) t) fs (sym g.2) q k) e
  where
    by : (l : Option ℕ) → last_packet id fs ≡ l → (b : Bool) → Goes p t ((o, packet w) ∷ fs)
        → (last_packet id fs ≡ Some q → q ≤ o + length w + length (drop (o + length w - p) t))
        → later l (cond b (Some o) None) ≡ Some q → q ≤ p + length t
    by (Some x) i b g again e = let k = again (i ∙ e) in omega (arith, k, g.0.0, g.0.2, length-drop (o + length w - p) t)
    by None i true g again e = let z : o ≡ q = cc in omega (arith, z, g.0.2)
    by None i false g again e = let z : ◌≡◌ {A = ℕ} 0 1 = cc in absurd (omega arith)
last_within id p t ((o, bad_checksum x) ∷ fs) r q e =
    let g = subst (Goes p t) r (goes p t) in
    let k = last_within id (o + 1) (drop (o + 1 - p) t) fs (sym g.2) q e in
    omega (arith, k, g.0.0, g.0.1, length-drop (o + 1 - p) t)

module _ (file : List ℕ) (id : ℕ) where
  abbrev Fitting : Result (Option Place) Refusal → Type 0
  Fitting f = ((found_numbers f).segment ≤ length file) × ((found_numbers f).offset ≤ length file)

  in_segment : (k : ℕ) → k ≤ length file → (o : Option ℕ) → last_in id (segment_by file (entry_of file k)) ≡ o → Fitting (found (or_in nowhere k o))
  unfolding reading
  in_segment k h None e = (omega arith, omega arith)
  in_segment k h (Some p) e =
      let s = segment_by file (entry_of file k) in
      let w = last_within id 0 s (read_from protocol2 closed 0 s) refl p e in
      let l : length s ≤ length file = simp (length-take, length-drop) (omega arith) in
      (h, omega (arith, w, l))

  by_number : laid_out file ≡ true → (n : ℕ) → index_number_of file id ≡ n → Fitting (found (last_answer file id))
  by_number l zero h = rw (none_named file id l h) (omega arith, omega arith)
  by_number l (suc k) h =
      let n = named_within file id l k h in
      let m = (is_laid_out file l).long in
      rw (one_named file id l k h) (in_segment k (omega (arith, n, m)) (last_in id (segment_by file (entry_of file k))) refl)

  by_id : laid_out file ≡ true → (g : Bool) → good_id id ≡ g → Fitting (question file id)
  by_id l true h = rw (answered_by_lem file id l h) (by_number l (index_number_of file id) refl)
  by_id l false h = rw (bad_id file id l h) (omega arith, omega arith)

  by_layout : (b : Bool) → laid_out file ≡ b → Fitting (question file id)
  by_layout true h = by_id h (good_id id) refl
  by_layout false h = rw (bad_layout file id h) (omega arith, omega arith)

pub found_fits : FoundFits
found_fits =
    record {
      segment = λ file id. let k = (by_layout file id (laid_out file) refl).0 in omega (arith, k);
      offset = λ file id. let k = (by_layout file id (laid_out file) refl).1 in omega (arith, k);
    }

-- ---- the salvage

differing_most : (xs ys : List ℕ) → differing xs ys ≤ length xs
unfolding differing
differing_most [] ys = omega arith
differing_most (x ∷ xs) [] = omega arith
differing_most (x ∷ xs) (y ∷ ys) = by (eqb x y) (differing_most xs ys)
  where
    by : (b : Bool) → differing xs ys ≤ length xs → cond b 0 1 + differing xs ys ≤ suc (length xs)
    by true h = omega (arith, h)
    by false h = omega (arith, h)

module _ (file : List ℕ) where
  dropped_most : length (dropped_in file) ≤ length file
  dropped_most = omega (arith, salvage_promises.each file)

  index_most : (report_of file).index_changed ≤ 254
  index_most =
      omega (arith, differing_most (old_index file) (index (kept_segments file)), numbers_length index_size (drop (index_offset (entry_count file)) file))

-- the figures of the report, 0 beside a refusal
module _ (file out report : List ℕ) where
  abbrev Reported : Result Figures Refusal → Type 0
  Reported f =
      ((salvaged_numbers f).dropped ≤ length file)
      × ((salvaged_numbers f).index ≤ 254)
      × ((salvaged_numbers f).leftover ≤ length file)
      × AtMost (length file) (salvaged_numbers f).count

  reported : (r : Option Refusal) → salvage_refusal file out report ≡ r
      → Reported (answered r (figures (length (salvaged file)) (report_of file)))
  reported None e =
      (dropped_most file, index_most file, omega arith, count_at_most _ _ (salvage_promises.sound file out report e).1)
  reported (Some refusal) e = (omega arith, omega arith, omega arith, refused_at_most _ refusal)

  all_reported : Reported (salvage_answer file out report)
  all_reported = reported (salvage_refusal file out report) refl

pub salvaged_fits : SalvagedFits
salvaged_fits =
    record {
      dropped = λ file out report. let k = (all_reported file out report).0 in omega (arith, k);
      index = λ file out report. let k = (all_reported file out report).1 in omega (arith, k);
      leftover = λ file out report. let k = (all_reported file out report).2 in omega (arith, k);
      count = λ file out report. (all_reported file out report).3;
    }
