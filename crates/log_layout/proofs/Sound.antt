-- A log of segments is laid out and says of itself what it was made of; a file that does is such a log.
use mathlib.Core.Path.{◌≡◌, refl, sym, ap, ap₂, ◌∙◌}
use mathlib.Core.Bool.{true, ◌&&◌}
use mathlib.Core.List.{List, [], ◌∷◌, ◌++◌}
use Prim.Native.Nat.{ℕ, zero, suc, ◌+◌, ◌*◌, ◌≤◌, ◌<◌, ◌^◌}
use native.Mathlib.Omega.{arith}
use lib.Dec.{leb, eqb}
use lib.ListN.{length, take, drop, length-append, length-drop, take-append-drop, drop_of_length-le}
use lib.Seq.{drop-drop, take-append_seam, drop-append_seam, length-take-le}
use borrow.Author.Tests.{leb-true, eqb-true, le-leb, eq-eqb}
use Rattle.lists.specs.Numbers.{Bytes, bytes_of, number_at}
use Rattle.lists.proofs.Numbers.{number_drop}
use Rattle.lists.proofs.Bools.{and_left, and_right}
use Rattle.reading.specs.Promise.{joined}
use Rattle.log_index.proofs.Index.{number_most, index_length}
use Rattle.log_index.specs.Last.{last_of, id_at, index_number, index_size, index_from, index}
use Rattle.log_layout.specs.Log.{laid, LogEntry, numbers_of, header, directory_offset, index_offset, segments_offset, directory, log_of, longest_file}
use Rattle.log_layout.specs.Layout.{u32_at, numbers, entries, count_in, directory_in, index_in, segments_by, segments_in, chained, none_above, header_right, laid_out}
use Rattle.log_layout.proofs.Laid.{Fit, u32_laid, numbers_laid, entries_laid, length_laid, length_numbers_of, drop_laid, bytes_tail, numbers_back, entries_back}

-- ---- index numbers

index_most : (n i : ℕ) (ss : List (List ℕ)) → none_above (length ss) (index_from n i ss) ≡ true
unfolding none_above index_from
index_most zero i ss = refl
index_most (suc n) i ss = rw (le-leb _ _ (most i), index_most n (suc i) ss)
  where
    most : (i : ℕ) → index_number (last_of (id_at i) ss) ≤ length ss
    most i = let e : 0 + length ss ≡ length ss = omega arith in rw e at (number_most (id_at i) 0 ss)

fit_most : (n : ℕ) (xs : List ℕ) → n < 2 ^ 32 → none_above n xs ≡ true → Fit xs
unfolding none_above
fit_most n [] h e = tt
fit_most n (x ∷ xs) h e =
    let l = leb-true x n (and_left (leb x n) (none_above n xs) e) in
    (omega arith, fit_most n xs h (and_right (leb x n) (none_above n xs) e))

-- ---- the directory

pub directory_length : (start : ℕ) (ss : List (List ℕ)) → length (directory start ss) ≡ length ss
unfolding directory
directory_length start [] = refl
directory_length start (s ∷ ss) = ap suc (directory_length (start + length s) ss)

directory_fits : (start : ℕ) (ss : List (List ℕ)) → start + length (joined ss) < 2 ^ 32 → Fit (numbers_of (directory start ss))
unfolding directory
directory_fits start [] h = tt
directory_fits start (s ∷ ss) h =
    let e = length-append s (joined ss) in
    (omega arith, (omega arith, directory_fits (start + length s) ss (omega arith)))

directory_chained : (start end : ℕ) (ss : List (List ℕ)) → start + length (joined ss) ≡ end → chained (directory start ss) start end ≡ true
unfolding directory chained
directory_chained start end [] e = eq-eqb start end (omega arith)
directory_chained start end (s ∷ ss) e =
    let l = length-append s (joined ss) in
    rw (eq-eqb start start refl) (directory_chained (start + length s) end ss (omega arith))

-- the segments by their directory
segments_are : (file : List ℕ) (start : ℕ) (ss : List (List ℕ)) → drop start file ≡ joined ss → segments_by file (directory start ss) ≡ ss
unfolding directory
segments_are file start [] e = refl
segments_are file start (s ∷ ss) e =
    ap₂ {C = List (List ℕ)} (λ (x : List ℕ) (xs : List (List ℕ)). x ∷ xs)
    (ap (λ (l : List ℕ). take (length s) l) e ∙ take-append_seam s (joined ss))
    (segments_are file (start + length s) ss
    (sym (drop-drop (length s) start file) ∙ ap (λ (l : List ℕ). drop (length s) l) e ∙ drop-append_seam s (joined ss)))

-- ---- a log of segments

module _ (ss : List (List ℕ)) where
  abbrev n : ℕ
  n = length ss

  -- its parts
  abbrev from_index : List ℕ
  from_index = laid (index ss) (joined ss)

  abbrev from_directory : List ℕ
  from_directory = laid (numbers_of (directory (segments_offset n) ss)) from_index

  at_directory : drop directory_offset (log_of ss) ≡ from_directory
  unfolding log_of
  at_directory = drop_laid (header n) from_directory 16 refl

  at_index : drop (index_offset n) (log_of ss) ≡ from_index
  at_index =
      let d = length_numbers_of (directory (segments_offset n) ss) in
      let l = directory_length (segments_offset n) ss in
      sym (drop-drop (8 * n) 16 (log_of ss)) ∙ ap (λ (x : List ℕ). drop (8 * n) x) at_directory
      ∙ drop_laid (numbers_of (directory (segments_offset n) ss)) from_index (8 * n) (omega arith)

  at_segments : drop (segments_offset n) (log_of ss) ≡ joined ss
  at_segments =
      let e : index_offset n + 1016 ≡ segments_offset n = omega arith in
      let l = index_length index_size 0 ss in
      ap (λ (k : ℕ). drop k (log_of ss)) (sym e) ∙ sym (drop-drop 1016 (index_offset n) (log_of ss))
      ∙ ap (λ (x : List ℕ). drop 1016 x) at_index ∙ drop_laid (index ss) (joined ss) 1016 (omega arith)

  pub log_length : length (log_of ss) ≡ segments_offset n + length (joined ss)
  unfolding log_of
  log_length =
      let h = length_laid (header n) from_directory in
      let d = length_laid (numbers_of (directory (segments_offset n) ss)) from_index in
      let i = length_laid (index ss) (joined ss) in
      let k = length_numbers_of (directory (segments_offset n) ss) in
      let l = directory_length (segments_offset n) ss in
      let m = index_length index_size 0 ss in
      omega arith

  -- of a log that is no longer than a file may be
  module _ (fits : length (log_of ss) ≤ longest_file) where
    header_fits : Fit (header n)
    header_fits = let l = log_length in (omega arith, (omega arith, (omega arith, (omega arith, tt))))

    pub count_log : count_in (log_of ss) ≡ n
    unfolding log_of laid
    count_log = u32_laid n _ header_fits.0

    pub directory_log : directory_in (log_of ss) ≡ directory (segments_offset n) ss
    directory_log =
        let l = log_length in
        let d = directory_length (segments_offset n) ss in
        ap₂ entries (count_log ∙ sym d) at_directory
        ∙ entries_laid (directory (segments_offset n) ss) from_index (directory_fits (segments_offset n) ss (omega arith))

    pub index_log : index_in (log_of ss) ≡ index ss
    index_log =
        let l = log_length in
        ap (λ (k : ℕ). numbers index_size (drop (index_offset k) (log_of ss))) count_log
        ∙ ap₂ numbers (sym (index_length index_size 0 ss)) at_index
        ∙ numbers_laid (index ss) (joined ss) (fit_most n (index ss) (omega arith) (index_most index_size 0 ss))

    pub segments_log : segments_in (log_of ss) ≡ ss
    segments_log =
        ap (segments_by (log_of ss)) directory_log ∙ segments_are (log_of ss) (segments_offset n) ss at_segments

    -- the header's other three numbers
    places_log : (u32_at (log_of ss) 4 ≡ directory_offset) × (u32_at (log_of ss) 8 ≡ index_size) × (u32_at (log_of ss) 12 ≡ index_offset n)
    unfolding log_of laid bytes_of number_at
    places_log = let l = header_fits in (refl, refl, omega (arith, l.1.1.1.0))

    header_log : header_right (log_of ss) ≡ true
    unfolding header_right
    header_log =
        let l = log_length in
        let p = places_log in
        rw (count_log, le-leb _ _ fits, le-leb (segments_offset n) (length (log_of ss)) (omega arith), p.0, p.1, p.2, eq-eqb (index_offset n) (index_offset n) refl)

    pub laid_out_log : laid_out (log_of ss) ≡ true
    unfolding laid_out
    laid_out_log =
        let l = log_length in
        rw (header_log, directory_log, index_log, count_log, directory_chained (segments_offset n) (length (log_of ss)) ss (sym l), index_most index_size 0 ss)

-- ---- a file that is laid out

-- what its tests say
pub record LaidOut (file : List ℕ) : Type 0 where
  pub fits : length file ≤ longest_file
  pub long : segments_offset (count_in file) ≤ length file
  pub directory_offset_lem : u32_at file 4 ≡ directory_offset
  pub index_size_lem : u32_at file 8 ≡ index_size
  pub index_offset_lem : u32_at file 12 ≡ index_offset (count_in file)
  pub chain : chained (directory_in file) (segments_offset (count_in file)) (length file) ≡ true
  pub most : none_above (count_in file) (index_in file) ≡ true

pub is_laid_out : (file : List ℕ) → laid_out file ≡ true → LaidOut file
unfolding laid_out header_right
is_laid_out file e =
    let n = count_in file in
    let t₁ = leb (length file) longest_file in
    let t₂ = leb (segments_offset n) (length file) in
    let t₃ = eqb (u32_at file 4) directory_offset in
    let t₄ = eqb (u32_at file 8) index_size in
    let t₅ = eqb (u32_at file 12) (index_offset n) in
    let h = and_left (t₁ && (t₂ && (t₃ && (t₄ && t₅)))) _ e in
    let r = and_right (t₁ && (t₂ && (t₃ && (t₄ && t₅)))) _ e in
    let h₂ = and_right t₁ (t₂ && (t₃ && (t₄ && t₅))) h in
    let h₃ = and_right t₂ (t₃ && (t₄ && t₅)) h₂ in
    let h₄ = and_right t₃ (t₄ && t₅) h₃ in
    record {
      fits = leb-true _ _ (and_left t₁ (t₂ && (t₃ && (t₄ && t₅))) h);
      long = leb-true _ _ (and_left t₂ (t₃ && (t₄ && t₅)) h₂);
      directory_offset_lem = eqb-true _ _ (and_left t₃ (t₄ && t₅) h₃);
      index_size_lem = eqb-true _ _ (and_left t₄ t₅ h₄);
      index_offset_lem = eqb-true _ _ (and_right t₄ t₅ h₄);
      chain = and_left (chained (directory_in file) (segments_offset n) (length file)) (none_above n (index_in file)) r;
      most = and_right (chained (directory_in file) (segments_offset n) (length file)) (none_above n (index_in file)) r;
    }

-- a chain of segments that ends at `end` does not start behind it
chain_most : (es : List LogEntry) (start end : ℕ) → chained es start end ≡ true → start ≤ end
unfolding chained
chain_most [] start end e = let k = eqb-true start end e in omega arith
chain_most (f ∷ es) start end e =
    let k = chain_most es (start + f.1) end (and_right (eqb f.0 start) (chained es (start + f.1) end) e) in omega arith

-- the segments of a chain are as long as it says, and joined they are the rest of the file
chain_is : (file : List ℕ) (es : List LogEntry) (start : ℕ) → chained es start (length file) ≡ true
    → (es ≡ directory start (segments_by file es)) × (drop start file ≡ joined (segments_by file es))
unfolding chained directory
chain_is file [] start e = let k = eqb-true start (length file) e in (refl, drop_of_length-le file {i = start} (omega arith))
chain_is file (f ∷ es) start e =
    let k = eqb-true f.0 start (and_left (eqb f.0 start) (chained es (start + f.1) (length file)) e) in
    let c = and_right (eqb f.0 start) (chained es (start + f.1) (length file)) e in
    let m = chain_most es (start + f.1) (length file) c in
    let l : length (take f.1 (drop f.0 file)) ≡ f.1 = length-take-le f.1 (drop f.0 file) (omega (arith, length-drop f.0 file)) in
    let r = chain_is file es (start + f.1) c in (
      rw l (ap₂ {C = List LogEntry} (λ (a : ℕ) (xs : List LogEntry). (a, f.1) ∷ xs) k r.0),
      rw k
          (sym (take-append-drop f.1 (drop start file))
          ∙ ap (λ (x : List ℕ). take f.1 (drop start file) ++ x) (drop-drop f.1 start file ∙ r.1)),
    )

pub segments_count : (file : List ℕ) (es : List LogEntry) → length (segments_by file es) ≡ length es
segments_count file [] = refl
segments_count file (e ∷ es) = ap suc (segments_count file es)

pub entries_count : (k : ℕ) (s : List ℕ) → length (entries k s) ≡ k
unfolding entries
entries_count zero s = refl
entries_count (suc k) s = ap suc (entries_count k (drop 8 s))

-- of bytes, with the index numbers of its segments, it is their log
module _ (file : List ℕ) (b : Bytes file) (h : LaidOut file) (i : index_in file ≡ index (segments_in file)) where
  abbrev count : ℕ
  count = count_in file

  abbrev segments : List (List ℕ)
  segments = segments_in file

  chain : (directory_in file ≡ directory (segments_offset count) segments) × (drop (segments_offset count) file ≡ joined segments)
  chain = chain_is file (directory_in file) (segments_offset count) h.chain

  index_back : laid (index segments) (joined segments) ≡ drop (index_offset count) file
  index_back =
      let long = h.long in
      let e : index_offset count + 1016 ≡ segments_offset count = omega arith in
      ap₂ laid (sym i) (sym chain.1 ∙ ap (λ (k : ℕ). drop k file) (sym e) ∙ sym (drop-drop 1016 (index_offset count) file))
      ∙ numbers_back index_size (drop (index_offset count) file) (bytes_tail (index_offset count) file b)
      (omega (arith, length-drop (index_offset count) file))

  directory_back : laid (numbers_of (directory (segments_offset count) segments)) (laid (index segments) (joined segments)) ≡ drop 16 file
  directory_back =
      let long = h.long in
      ap₂ (λ (d : List LogEntry) (r : List ℕ). laid (numbers_of d) r) (sym chain.0)
      (index_back ∙ sym (drop-drop (8 * count) 16 file))
      ∙ entries_back count (drop 16 file) (bytes_tail 16 file b) (omega (arith, length-drop 16 file))

  header_back : header count ≡ numbers 4 file
  unfolding numbers
  header_back =
      rw (drop-drop 4 4 file, drop-drop 4 8 file, number_drop 4 4 0 file, number_drop 4 8 0 file, number_drop 4 12 0 file, h.directory_offset_lem, h.index_size_lem, h.index_offset_lem)

  pub log_back : file ≡ log_of segments
  unfolding log_of
  log_back =
      let long = h.long in
      let n : length segments ≡ count = segments_count file (directory_in file) ∙ entries_count count (drop directory_offset file) in
      sym
      (ap (λ (k : ℕ). laid (header k) (laid (numbers_of (directory (segments_offset k) segments)) (laid (index segments) (joined segments)))) n
      ∙ ap₂ laid header_back directory_back ∙ numbers_back 4 file b (omega arith))
