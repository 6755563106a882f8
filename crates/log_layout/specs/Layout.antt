-- What a file says of itself as a log, and the test of its layout, which does not look into the segments.
use Rattle.std.specs.Prelude.{Bool, true, ◌&&◌, List, [], ◌∷◌, ℕ, zero, suc, ◌+◌, ◌*◌, leb, eqb, length, take, drop}
use Rattle.lists.specs.Numbers.{number_at}
use Rattle.log_index.specs.Last.{index_size}
use Rattle.log_layout.specs.Log.{LogEntry, directory_offset, index_offset, segments_offset, longest_file}
use Rattle.log_layout.specs.declared.Extent.{Extent}

-- the number of 32 bits at an offset [I1]
abbrev pub u32_at : List ℕ → ℕ → ℕ
u32_at file offset = number_at file offset 4

-- the first k numbers of some bytes, and the first k entries of a directory [I1 I3]
unfoldable pub numbers : ℕ → List ℕ → List ℕ
numbers zero s = []
numbers (suc k) s = u32_at s 0 ∷ numbers k (drop 4 s)

unfoldable pub entries : ℕ → List ℕ → List LogEntry
entries zero s = []
entries (suc k) s = (u32_at s 0, u32_at s 4) ∷ entries k (drop 8 s)

-- [I2]
abbrev pub count_in : List ℕ → ℕ
count_in file = u32_at file 0

-- [I3]
abbrev pub directory_in : List ℕ → List LogEntry
directory_in file = entries (count_in file) (drop directory_offset file)

-- the entry of a segment, by its offset in the file [I3]
abbrev pub entry_of : List ℕ → ℕ → LogEntry
entry_of file k = (u32_at file (16 + 8 * k), u32_at file (16 + 8 * k + 4))

-- an entry as the code has it [I3]
abbrev pub extent_of : LogEntry → Extent
extent_of e = record { start = e.0; count = e.1 }

-- [I5]
abbrev pub index_in : List ℕ → List ℕ
index_in file = numbers index_size (drop (index_offset (count_in file)) file)

-- the segments by their directory [I3]
abbrev pub segment_by : List ℕ → LogEntry → List ℕ
segment_by file e = take e.1 (drop e.0 file)

abbrev pub segments_by : List ℕ → List LogEntry → List (List ℕ)
segments_by file [] = []
segments_by file (e ∷ es) = segment_by file e ∷ segments_by file es

abbrev pub segments_in : List ℕ → List (List ℕ)
segments_in file = segments_by file (directory_in file)

-- each segment starts where the one before ends, and the last one ends the file, of so many bytes [I4]
unfoldable pub chained : List LogEntry → ℕ → ℕ → Bool
chained [] start end = eqb start end
chained (e ∷ es) start end = eqb e.0 start && chained es (start + e.1) end

-- [I5]
unfoldable pub none_above : ℕ → List ℕ → Bool
none_above n [] = true
none_above n (x ∷ xs) = leb x n && none_above n xs

-- the file is long enough for its directory and index, and no longer than a log may be; and the header is as stated [I2 I9]
unfoldable pub header_right : List ℕ → Bool
header_right file =
    let n = count_in file in
    leb (length file) longest_file
    && (leb (segments_offset n) (length file)
    && (eqb (u32_at file 4) directory_offset && (eqb (u32_at file 8) index_size && eqb (u32_at file 12) (index_offset n))))

-- What refusal 31 tests: all but the meaning of the index numbers. [I10]
unfoldable pub laid_out : List ℕ → Bool
laid_out file =
    header_right file
    && (chained (directory_in file) (segments_offset (count_in file)) (length file) && none_above (count_in file) (index_in file))
