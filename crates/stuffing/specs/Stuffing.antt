-- Byte stuffing. FF FF FD inside a body could be taken for a header, so one FD is added after it.
use Rattle.std.specs.Prelude.{◌≡◌, Bool, not, cond, ◌&&◌, ◌||◌, List, [], ◌∷◌, ℕ, ◌+◌, ◌<◌, eqb, get_or}

-- three bytes side by side are FF FF FD [S1]
abbrev pub mark : ℕ → ℕ → ℕ → Bool
mark a b c = eqb a 0xFF && (eqb b 0xFF && eqb c 0xFD)

-- the byte at i of s ends such three; `before` is the byte right before s, and what stands before that is no mark's
abbrev pub mark_at : ℕ → List ℕ → ℕ → Bool
mark_at before s i = mark (get_or (0 ∷ before ∷ s) i 0) (get_or (before ∷ s) i 0) (get_or s i 0)

-- Each definition below goes through the bytes with those that stand right before: at the start there are none, and 0 serves,
-- which no mark holds.

-- the stuffed form: after each FF FF FD one FD is added [S1]
unfoldable pub stuff_after : ℕ → ℕ → List ℕ → List ℕ
stuff_after a b [] = []
stuff_after a b (c ∷ s) = c ∷ cond (mark a b c) (0xFD ∷ stuff_after b c s) (stuff_after b c s)

-- [S1 S2]
abbrev pub stuff : List ℕ → List ℕ
stuff body = stuff_after 0 0 body

-- every FF FF FD is followed by FD, within the bytes [S3 S5]
unfoldable pub well_after : ℕ → ℕ → ℕ → List ℕ → Bool
well_after a b c [] = not (mark a b c)
well_after a b c (d ∷ s) = (not (mark a b c) || eqb d 0xFD) && well_after b c d s

-- [S3 S4]
abbrev pub well_stuffed : List ℕ → Bool
well_stuffed bytes = well_after 0 0 0 bytes

-- the unstuffed form: the byte after each FF FF FD is left out [S6]
unfoldable pub unstuff_after : ℕ → ℕ → ℕ → List ℕ → List ℕ
unstuff_after a b c [] = []
unstuff_after a b c (d ∷ s) = cond (mark a b c) (unstuff_after b c d s) (d ∷ unstuff_after b c d s)

-- [S6]
abbrev pub unstuff : List ℕ → List ℕ
unstuff bytes = unstuff_after 0 0 0 bytes

-- none of the first n bytes is FD
abbrev pub NoFd : List ℕ → ℕ → Type 0
NoFd s n = (k : ℕ) → k < n → ¬ (get_or s k 0 ≡ 0xFD)

-- how often FF FF FD stands in the bytes
unfoldable pub marks_after : ℕ → ℕ → List ℕ → ℕ
marks_after a b [] = 0
marks_after a b (c ∷ s) = cond (mark a b c) (1 + marks_after b c s) (marks_after b c s)

abbrev pub marks : List ℕ → ℕ
marks body = marks_after 0 0 body
