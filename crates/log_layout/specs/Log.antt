-- A log of segments, byte for byte, and what a sound log is.
use Rattle.std.specs.Prelude.{◌≡◌, List, [], ◌∷◌, ◌++◌, ℕ, ◌+◌, ◌*◌, ◌≤◌, length}
use Rattle.lists.specs.Numbers.{bytes_of}
use Rattle.reading.specs.Promise.{joined}
use Rattle.log_index.specs.Last.{index_size, index}

-- numbers of 32 bits, low byte first, and then the rest [I1]
unfoldable pub laid : List ℕ → List ℕ → List ℕ
laid [] rest = rest
laid (x ∷ xs) rest = bytes_of 4 x ++ laid xs rest

-- where the directory begins, the index, and the first segment, for n segments [I2 I3 I4]
abbrev pub directory_offset : ℕ
directory_offset = 16

abbrev pub index_offset : ℕ → ℕ
index_offset n = 16 + 8 * n

abbrev pub segments_offset : ℕ → ℕ
segments_offset n = 1032 + 8 * n

-- [I2]
abbrev pub header : ℕ → List ℕ
header n = n ∷ directory_offset ∷ index_size ∷ index_offset n ∷ []

-- start and length of a segment
abbrev pub LogEntry : Type 0
LogEntry = ℕ × ℕ

-- of each segment, the first at `start` and the others right behind each other [I3 I4]
unfoldable pub directory : ℕ → List (List ℕ) → List LogEntry
directory start [] = []
directory start (s ∷ ss) = (start, length s) ∷ directory (start + length s) ss

abbrev pub numbers_of : List LogEntry → List ℕ
numbers_of [] = []
numbers_of (e ∷ es) = e.0 ∷ e.1 ∷ numbers_of es

-- header, directory, index, and the bytes of the segments [I1-I5]
unfoldable pub log_of : List (List ℕ) → List ℕ
log_of segments =
    let n = length segments in
    laid (header n) (laid (numbers_of (directory (segments_offset n) segments)) (laid (index segments) (joined segments)))

-- the bytes of the longest file [I9]
abbrev pub longest_file : ℕ
longest_file = 4294967295

-- "A sound log is exactly this". In a longer file the numbers would wrap. [I9]
pub record Sound (file : List ℕ) : Type 0 where
  pub fits : length file ≤ longest_file
  pub segments : List (List ℕ)
  pub are : file ≡ log_of segments
