-- The question for the last packet of an ID: answered from header, directory, one index number and one segment.
use Rattle.std.specs.Prelude.{Err, None, Ok, Option, Result, Some}
use Rattle.std.specs.Prelude.{◌≡◌, true, List, [], ◌∷◌, ℕ, zero, suc, ◌+◌, ◌*◌, get_or, take}
use Rattle.answers.specs.Refusals.{first_failing}
use Rattle.answers.specs.declared.Refusal.{Refusal}
use Rattle.answers.specs.declared.Refusal.TheVariants.{BadLog, BadLogId}
use Rattle.packet_front.specs.Front.{good_id}
use Rattle.log_index.specs.Last.{Last, at, nowhere, or_in, last_in, last_of, mark_of}
use Rattle.log_layout.specs.Log.{index_offset, Sound}
use Rattle.log_layout.specs.Layout.{u32_at, count_in, entry_of, index_in, segment_by, segments_in, laid_out}
use Rattle.line_log.specs.declared.Place.{Place}

-- by an index number: in the segment that it names, and in no other [I19]
abbrev pub named : ℕ → ℕ → List (List ℕ) → Last
named zero id segments = nowhere
named (suc k) id segments = or_in nowhere k (last_in id (get_or segments k []))

-- [I18 I19]
unfoldable pub last_answer : List ℕ → ℕ → Last
last_answer file id = named (get_or (index_in file) (mark_of id) 0) id (segments_in file)

-- the layout, and then the ID, which has to be one that packets may have [I18 N15 N16]
unfoldable pub last_refusal : List ℕ → ℕ → Option Refusal
last_refusal file id = first_failing ((laid_out file, BadLog) ∷ (good_id id, BadLogId) ∷ [])

-- where the last packet stands, as the code says it [I18]
abbrev pub found : Last → Result (Option Place) Refusal
found (at k p) = Ok (Some (record { segment = k; offset = p }))
found nowhere = Ok None

abbrev pub found_unless : Option Refusal → Last → Result (Option Place) Refusal
found_unless None l = found l
found_unless (Some refusal) l = Err refusal

-- [I18]
abbrev pub question : List ℕ → ℕ → Result (Option Place) Refusal
question file id = found_unless (last_refusal file id) (last_answer file id)

-- the index number of an ID, by its offset in the file [I5]
abbrev pub index_number_of : List ℕ → ℕ → ℕ
index_number_of file id = u32_at file (index_offset (count_in file) + 4 * mark_of id)

-- What is promised of the question over all files.
pub record LogPromises : Type 0 where
  -- on a sound log it is never refused for the layout, and its answer is that of a reading of every segment [I19]
  pub answers : (file : List ℕ) (s : Sound file) (id : ℕ) → good_id id ≡ true → question file id ≡ found (last_of id s.segments)
  -- two files that are laid out and have the same header and directory, the same index number for the ID, and at the offset of the
  -- segment that it names the same bytes: the answers are the same, whatever else stands in them [I20]
  pub depends_only : (f g : List ℕ) (id : ℕ) → laid_out f ≡ true → laid_out g ≡ true
      → take (index_offset (count_in f)) f ≡ take (index_offset (count_in f)) g → index_number_of f id ≡ index_number_of g id
      → ((k : ℕ) → index_number_of f id ≡ suc k → segment_by f (entry_of f k) ≡ segment_by g (entry_of f k)) → question f id ≡ question g id
