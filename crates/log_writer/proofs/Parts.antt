-- A log by the lengths of its segments: its parts in a buffer, how long it is; what is written is sound.
use Rattle.std.specs.Prelude.{Err, None, Ok, Some}
use mathlib.Core.Path.{◌≡◌, refl, sym, ap, ap₂, ◌∙◌}
use mathlib.Core.Bool.{true, false}
use mathlib.Core.List.{List, [], ◌∷◌, ◌++◌}
use Prim.Native.Nat.{ℕ, suc, ◌+◌, ◌≤◌, ◌<◌}
use native.Mathlib.Omega.{arith}
use lib.Dec.{eqb}
use lib.ListN.{length, take, drop, length-drop, take-append-drop}
use lib.Seq.{length-take-le}
use borrow.Author.Tests.{leb-true, eqb-true, le-leb, lt-leb}
use Rattle.answers.specs.declared.Refusal.{Refusal}
use Rattle.answers.specs.declared.Refusal.TheVariants.{BadLog, NoRoom}
use Rattle.answers.proofs.Laws.{passed}
use Rattle.lists.specs.Write.{overwritten, placed}
use Rattle.lists.proofs.Write.{overwritten_take}
use Rattle.reading.specs.Promise.{joined}
use Rattle.log_index.specs.Last.{index}
use Rattle.log_layout.specs.Log.{LogEntry, laid, numbers_of, header, index_offset, segments_offset, directory, longest_file}
use Rattle.log_layout.proofs.Sound.{log_length}
use Rattle.log_parts.proofs.Parts.{parts_put}
use Rattle.log_writer.specs.Writing.{sum, cut, directory_by, written, write_refusal, write_answer, write_out, WritesSound}

-- ---- the segments by their lengths

pub cut_count : (ns bytes : List ℕ) → length (cut ns bytes) ≡ length ns
unfolding cut
cut_count [] bytes = refl
cut_count (n ∷ ns) bytes = ap suc (cut_count ns (drop n bytes))

module _ where
  cut_joined : (ns bytes : List ℕ) → sum ns ≡ length bytes → joined (cut ns bytes) ≡ bytes
  unfolding sum cut
  cut_joined [] [] e = refl
  cut_joined [] (b ∷ bytes) e = absurd (omega arith)
  cut_joined (n ∷ ns) bytes e =
      ap (λ (l : List ℕ). take n bytes ++ l) (cut_joined ns (drop n bytes) (omega (arith, length-drop n bytes)))
      ∙ take-append-drop n bytes

  cut_directory : (start : ℕ) (ns bytes : List ℕ) → sum ns ≡ length bytes → directory start (cut ns bytes) ≡ directory_by start ns
  unfolding sum cut directory directory_by
  cut_directory start [] bytes e = refl
  cut_directory start (n ∷ ns) bytes e =
      let l : length (take n bytes) ≡ n = length-take-le n bytes (omega arith) in
      rw l
      (ap {B = List LogEntry} (λ (d : List LogEntry). (start, n) ∷ d)
      (cut_directory (start + n) ns (drop n bytes) (omega (arith, length-drop n bytes))))

module _ (bytes lengths : List ℕ) (e : sum lengths ≡ length bytes) where
  pub written_length : length (written bytes lengths) ≡ segments_offset (length lengths) + length bytes
  written_length =
      log_length (cut lengths bytes)
      ∙ ap₂ (λ (n : ℕ) (s : List ℕ). segments_offset n + length s) (cut_count lengths bytes) (cut_joined lengths bytes e)

-- ---- the parts

module _ (out bytes lengths : List ℕ) (e : sum lengths ≡ length bytes) (h : segments_offset (length lengths) + length bytes ≤ length out) where
  abbrev n : ℕ
  n = length lengths

  abbrev ss : List (List ℕ)
  ss = cut lengths bytes

  pub parts_by_lengths :
      placed
      (placed (placed (placed out 0 (laid (header n) [])) 16 (laid (numbers_of (directory_by (segments_offset n) lengths)) []))
      (index_offset n) (laid (index ss) []))
      (segments_offset n) bytes
      ≡ overwritten out (written bytes lengths)
  parts_by_lengths =
      let c = cut_count lengths bytes in
      let j = cut_joined lengths bytes e in
      let d = cut_directory (segments_offset n) lengths bytes e in
      sym
      (ap (λ (b : List ℕ). placed (placed (placed (placed out 0 (laid (header n) [])) 16 (laid (numbers_of (directory (segments_offset n) ss)) [])) (index_offset n) (laid (index ss) [])) (segments_offset n) b) j
      ∙ ap (λ (x : List LogEntry). placed (placed (placed (placed out 0 (laid (header n) [])) 16 (laid (numbers_of x) [])) (index_offset n) (laid (index ss) [])) (segments_offset n) bytes) d)
      ∙ rw c at (parts_put out ss (omega (arith, c, ap length j, h)))

-- ---- the answer

module _ (bytes lengths out : List ℕ) where
  pub refused_sum : eqb (sum lengths) (length bytes) ≡ false → write_refusal bytes lengths out ≡ Some BadLog
  unfolding write_refusal
  refused_sum h = rw h

  module _ (e : eqb (sum lengths) (length bytes) ≡ true) where
    size : length (written bytes lengths) ≡ segments_offset (length lengths) + length bytes
    size = written_length bytes lengths (eqb-true (sum lengths) (length bytes) e)

    pub refused_long : longest_file < segments_offset (length lengths) + length bytes → write_refusal bytes lengths out ≡ Some BadLog
    unfolding write_refusal
    refused_long h = rw (e, lt-leb (length (written bytes lengths)) longest_file (omega (arith, size, h)))

    module _ (l : segments_offset (length lengths) + length bytes ≤ longest_file) where
      pub refused_room : length out < segments_offset (length lengths) + length bytes → write_refusal bytes lengths out ≡ Some NoRoom
      unfolding write_refusal
      refused_room h =
          rw (e, le-leb (length (written bytes lengths)) longest_file (omega (arith, size, l)), lt-leb (length (written bytes lengths)) (length out) (omega (arith, size, h)))

      pub not_refused : segments_offset (length lengths) + length bytes ≤ length out → write_refusal bytes lengths out ≡ None
      unfolding write_refusal
      not_refused h =
          rw (e, le-leb (length (written bytes lengths)) longest_file (omega (arith, size, l)), le-leb (length (written bytes lengths)) (length out) (omega (arith, size, h)))

  pub refusing : (refusal : Refusal) → write_refusal bytes lengths out ≡ Some refusal
      → (Err refusal ≡ write_answer bytes lengths out) × (out ≡ write_out bytes lengths out)
  refusing refusal r = (rw r refl, rw r refl)

  pub writing : (m : ℕ) (buffer : List ℕ) → write_refusal bytes lengths out ≡ None → length (written bytes lengths) ≡ m
      → buffer ≡ overwritten out (written bytes lengths)
      → (Ok m ≡ write_answer bytes lengths out) × (buffer ≡ write_out bytes lengths out)
  writing m buffer r l b = (rw (r, l) refl, rw r b)

  -- what a call that is not refused has passed
  fits : write_refusal bytes lengths out ≡ None → length (written bytes lengths) ≤ longest_file
  unfolding write_refusal
  fits r = leb-true _ _ (passed _ BadLog _ (passed (eqb (sum lengths) (length bytes)) BadLog _ r).1).0

pub writes_sound : WritesSound
writes_sound bytes lengths out r =
    let e : take (length (written bytes lengths)) (write_out bytes lengths out) ≡ written bytes lengths =
    rw r (overwritten_take out (written bytes lengths)) in
    record {
      fits = rw e (fits bytes lengths out r);
      segments = cut lengths bytes;
      are = e;
    }
