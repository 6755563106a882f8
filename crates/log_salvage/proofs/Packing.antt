-- The loop that packs the kept segments: what is still to be written, and the index of those that are left.
use Rattle.std.specs.Prelude.{Err, Ok}
use mathlib.Core.Path.{◌≡◌, refl, sym, ap, ◌∙◌}
use mathlib.Core.List.{List, [], ◌∷◌, ◌++◌}
use Prim.Native.Nat.{ℕ, suc, ◌+◌, ◌*◌, ◌≤◌, ◌<◌}
use native.Mathlib.Omega.{arith}
use lib.ListN.{length, replicate}
use Rattle.lists.specs.Write.{overwritten, placed}
use Rattle.reading.specs.Reading.{reading}
use Rattle.reading.specs.Promise.{joined}
use Rattle.packet.specs.Verdict.{protocol2}
use Rattle.log_index.specs.Last.{index, index_size}
use Rattle.log_index.specs.Marks.{marked}
use Rattle.log_index.proofs.Marks.{marked_all, all_marked}
use Rattle.log_index.proofs.Index.{index_length}
use Rattle.log_layout.specs.Log.{LogEntry, laid, header, numbers_of, directory, log_of, index_offset, segments_offset}
use Rattle.log_layout.specs.Layout.{segment_by, segments_by}
use Rattle.log_layout.proofs.Laid.{length_numbers_of}
use Rattle.log_layout.proofs.Sound.{directory_length, segments_count}
use Rattle.log_parts.proofs.Parts.{laid_append, laid_alone, parts_put}
use Rattle.log_parts.proofs.Placed.{placed_none, placed_length, placed_both, placed_swap}
use Rattle.log_kept.specs.Kept.{kept_of}
use Rattle.log_layout.specs.declared.Extent.{Extent}
use Rattle.log_kept.specs.declared.Fault.{Fault}
use Rattle.log_kept.proofs.Kept.{bytes_by, whole_segment}
use Rattle.log_kept.proofs.Rounds.{kept_left, judged_at, kept_start, kept_end, kept_within, kept_first, kept_same, bytes_first}

-- the directory of segments from a start on, as bytes
abbrev pub directory_bytes : ℕ → List (List ℕ) → List ℕ
directory_bytes start ss = laid (numbers_of (directory start ss)) []

-- directory and segments in a buffer, the directory's first entry being number k
abbrev pub packed : List ℕ → ℕ → ℕ → List (List ℕ) → List ℕ
packed out k start ss = placed (placed out (16 + 8 * k) (directory_bytes start ss)) start (joined ss)

directory_size : (start : ℕ) (ss : List (List ℕ)) → length (directory_bytes start ss) ≡ 8 * length ss
directory_size start ss =
    laid_alone (numbers_of (directory start ss)) ∙ omega (arith, length_numbers_of (directory start ss), directory_length start ss)

-- entries before number i have been judged, `done` of them kept, the last of which ends at `at` in the output
pub record Packing (file : List ℕ) (n kept : ℕ) (old out marks : List ℕ) (limit at done i : ℕ) : Type 0 where
  pub within : i ≤ n
  pub size : length out ≡ length old
  pub count_is : done + length (kept_left file n i limit) ≡ kept
  pub behind : segments_offset kept ≤ at
  pub fits : at + bytes_by file (kept_left file n i limit) ≤ length old
  pub marks_are : marked_all done marks (segments_by file (kept_left file n i limit)) ≡ index (segments_by file (kept_of file n))
  pub packed_is : packed out done at (segments_by file (kept_left file n i limit)) ≡ packed old 0 (segments_offset kept) (segments_by file (kept_of file n))

pub packing_start : (file : List ℕ) (n kept : ℕ) (old : List ℕ) → kept ≡ length (kept_of file n)
    → segments_offset kept + bytes_by file (kept_of file n) ≤ length old
    → Packing file n kept old old (replicate 254 0) (segments_offset n) (segments_offset kept) 0 0
packing_start file n kept old e h =
    let k = kept_start file n 0 in
    record {
      within = omega arith;
      size = refl;
      count_is = omega (arith, e, ap length k);
      behind = omega arith;
      fits = omega (arith, h, ap (bytes_by file) k);
      marks_are = ap (λ (es : List LogEntry). marked_all 0 (replicate 254 0) (segments_by file es)) (sym k) ∙ all_marked (segments_by file (kept_of file n));
      packed_is = ap (λ (es : List LogEntry). packed old 0 (segments_offset kept) (segments_by file es)) (sym k);
    }

module _ (file : List ℕ) (n kept : ℕ) (old out marks : List ℕ) (limit at done i : ℕ) (p : Packing file n kept old out marks limit at done i) where
  module _ (h : i < n) where
    module _ (x : Extent) (j : judged_at file i limit ≡ Ok x) where
      abbrev s : ℕ
      s = x.start

      abbrev m : ℕ
      m = x.count

      abbrev segment : List ℕ
      segment = segment_by file (s, m)

      abbrev left : List LogEntry
      left = kept_left file n (i + 1) (s + m)

      abbrev ss : List (List ℕ)
      ss = segments_by file left

      first : kept_left file n i limit ≡ (s, m) ∷ left
      first = kept_first file n limit i h x j

      pub whole : length segment ≡ m
      whole = whole_segment file s m (kept_within file n limit i h x j).1

      pub packing_room : (24 + 8 * done ≤ length old) × (at + m ≤ length old) × (done < kept)
      packing_room =
          let b = bytes_first file n limit i h x j in
          let l = ap length first in
          let c = p.count_is in
          let f = p.fits in
          let g = p.behind in
          (omega arith, omega arith, omega arith)

      module _ (b₁ b₂ marks₂ : List ℕ) (e₁ : b₁ ≡ placed out (16 + 8 * done) (laid (at ∷ m ∷ []) [])) (e₂ : b₂ ≡ placed b₁ at segment)
          (e₃ : marks₂ ≡ marked (done + 1) marks (reading protocol2 segment)) where
        -- the entry and the segment that were written, and what is left of both
        step : packed out done at (segments_by file (kept_left file n i limit)) ≡ packed b₂ (done + 1) (at + m) ss
        unfolding directory laid
        step =
            let r = packing_room in
            let c = p.count_is in
            let g = p.behind in
            let z = p.size in
            let l = ap length first in
            let q = segments_count file left in
            let d = directory_size (at + m) ss in
            let f = bytes_first file n limit i h x j in
            let t = p.fits in
            let u = laid_alone (at ∷ m ∷ []) in
            ap (λ (es : List LogEntry). packed out done at (segments_by file es)) first
            ∙ ap (λ (k : ℕ). placed (placed out (16 + 8 * done) (laid (at ∷ k ∷ numbers_of (directory (at + k) ss)) [])) at (segment ++ joined ss)) whole
            ∙ ap (λ (x : List ℕ). placed (placed out (16 + 8 * done) x) at (segment ++ joined ss))
            (laid_append (at ∷ m ∷ []) (directory_bytes (at + m) ss))
            ∙ placed_both out (16 + 8 * done) (laid (at ∷ m ∷ []) []) (directory_bytes (at + m) ss) at segment (joined ss) (16 + 8 * (done + 1)) (at + m)
            (omega arith) (omega (arith, whole)) (omega (arith, c, g, l, q, d)) (omega (arith, f, t, z))
            ∙ ap (λ (b : List ℕ). placed (placed b (16 + 8 * (done + 1)) (directory_bytes (at + m) ss)) (at + m) (joined ss))
            (sym (e₂ ∙ ap (λ (b : List ℕ). placed b at segment) e₁))

        pub packing_kept : Packing file n kept old b₂ marks₂ (s + m) (at + m) (done + 1) (i + 1)
        unfolding marked_all
        packing_kept =
            let r = packing_room in
            let l = ap length first in
            let z = p.size in
            let u = laid_alone (at ∷ m ∷ []) in
            let k : suc done ≡ done + 1 = omega arith in
            let g = p.behind in
            let c = p.count_is in
            let f = bytes_first file n limit i h x j in
            let t = p.fits in
            let l₁ = placed_length out (16 + 8 * done) (laid (at ∷ m ∷ []) []) (omega (arith, r.0, z, u)) in
            let w = whole in
            let l₂ = placed_length b₁ at segment (omega (arith, r.1, z, l₁, ap length e₁, w)) in
            record {
              within = omega arith;
              size = ap length e₂ ∙ l₂ ∙ ap length e₁ ∙ l₁ ∙ z;
              count_is = omega arith;
              behind = omega arith;
              fits = omega arith;
              marks_are =
                  sym
                  (sym p.marks_are ∙ ap (λ (es : List LogEntry). marked_all done marks (segments_by file es)) first
                  ∙ ap (λ (x : ℕ). marked_all x (marked x marks (reading protocol2 segment)) ss) k
                  ∙ ap (λ (x : List ℕ). marked_all (done + 1) x ss) (sym e₃));
              packed_is = sym step ∙ p.packed_is;
            }

    module _ (r : Fault) (j : judged_at file i limit ≡ Err r) where
      pub packing_dropped : Packing file n kept old out marks limit at done (i + 1)
      packing_dropped =
          let e = kept_same file n limit i h r j in
          let c = p.count_is in
          let f = p.fits in
          record {
            within = omega arith;
            size = p.size;
            count_is = omega (arith, ap length e, c);
            behind = p.behind;
            fits = omega (arith, ap (bytes_by file) e, f);
            marks_are = ap (λ (es : List LogEntry). marked_all done marks (segments_by file es)) (sym e) ∙ p.marks_are;
            packed_is = ap (λ (es : List LogEntry). packed out done at (segments_by file es)) (sym e) ∙ p.packed_is;
          }

  module _ (h : n ≤ i) where
    none_left : kept_left file n i limit ≡ []
    none_left = kept_end file n limit i h

    pub packing_marks : marks ≡ index (segments_by file (kept_of file n))
    unfolding marked_all
    packing_marks = sym (ap (λ (es : List LogEntry). marked_all done marks (segments_by file es)) none_left) ∙ p.marks_are

    pub packing_done : out ≡ packed old 0 (segments_offset kept) (segments_by file (kept_of file n))
    unfolding directory laid
    packing_done =
        sym
        (ap (λ (es : List LogEntry). packed out done at (segments_by file es)) none_left
        ∙ ap (λ (b : List ℕ). placed b at []) (placed_none out (16 + 8 * done)) ∙ placed_none out at)
        ∙ p.packed_is

-- header, directory, segments and then the index are the log
pub log_put : (out : List ℕ) (ss : List (List ℕ)) (kept : ℕ) → kept ≡ length ss → segments_offset kept + length (joined ss) ≤ length out
    → placed (packed (placed out 0 (laid (header kept) [])) 0 (segments_offset kept) ss) (index_offset kept) (laid (index ss) []) ≡ overwritten out (log_of ss)
log_put out ss kept e h =
    let n = length ss in
    let b = placed (placed out 0 (laid (header n) [])) 16 (directory_bytes (segments_offset n) ss) in
    let i = laid_alone (index ss) in
    let l = index_length index_size 0 ss in
    let d = directory_size (segments_offset n) ss in
    let a = laid_alone (header n) in
    let l₁ = placed_length out 0 (laid (header n) []) (omega arith) in
    let l₂ = placed_length (placed out 0 (laid (header n) [])) 16 (directory_bytes (segments_offset n) ss) (omega arith) in
    rw e (placed_swap b (index_offset n) (laid (index ss) []) (segments_offset n) (joined ss) (omega arith) (omega arith) ∙ parts_put out ss (omega arith))
