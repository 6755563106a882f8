-- What a feeding call and a gap call answer and leave, over the bytes that the reader holds.
use Rattle.std.specs.Prelude.{None, Option, Some}
use Rattle.std.specs.Prelude.{◌≡◌, ℕ, suc, ◌-◌, ◌≤◌, ◌<◌, length, take, drop}
use mathlib.Core.List.{List, [], ◌∷◌, ◌++◌}
use Rattle.reading.specs.Rules.{Verdict, is_packet, is_bad_checksum, is_waiting, is_nothing, Rules}
use Rattle.reading.specs.Reading.{Event, packet, bad_checksum, Mode, open', closed}

pub data First : Type 0 where
  -- the first event of some bytes, and those from where reading goes on
  event : Event → List ℕ → First
  -- no event, and the bytes from the waiting offset on, none if no offset waits
  silent : List ℕ → First

-- by the verdict on the bytes s, of which there is one at least; `later` is the first event from the next offset on [F7 V10]
abbrev pub first_at : Mode → Verdict → List ℕ → First → First
first_at m (is_packet n) s later = event (packet (take n s)) (drop n s)
first_at m (is_bad_checksum id) s later = event (bad_checksum id) (drop 1 s)
first_at m is_nothing s later = later
first_at closed is_waiting s later = later
first_at open' is_waiting s later = silent s

-- what a call answers and leaves: how many bytes it took, its event if any, the bytes then held
pub record CallResult : Type 0 where
  pub taken : ℕ
  pub answer : Option Event
  pub held : List ℕ

abbrev pub one_more : CallResult → CallResult
one_more r = record { taken = suc r.taken; answer = r.answer; held = r.held }

-- no byte is left to take [F6-F8]
abbrev pub fed_all : First → CallResult
fed_all (event e t) = record { taken = 0; answer = Some e; held = t }
fed_all (silent t) = record { taken = 0; answer = None; held = t }

-- one is, and `more` is the result once it is taken [F5 F7]
abbrev pub fed_on : First → CallResult → CallResult
fed_on (event e t) more = record { taken = 0; answer = Some e; held = t }
fed_on (silent t) more = one_more more

-- a gap call that finds no event says that nothing is left, and holds nothing [F12]
abbrev pub gapped : First → CallResult
gapped (event e t) = record { taken = 0; answer = Some e; held = t }
gapped (silent t) = record { taken = 0; answer = None; held = [] }

-- [F4 V1]
pub data Call : Type 0 where
  -- with a chunk of bytes, which may be empty (in the papers: a piece)
  feed : List ℕ → Call
  gap : Call

module _ (R : Rules) where
  -- [F8 V10]
  unfoldable pub first : Mode → List ℕ → First
  first m [] = silent []
  first m (b ∷ s) = first_at m (R.verdict (b ∷ s)) (b ∷ s) (first m s)

  -- A feeding call with the chunk s on a reader that holds h: after 0, 1, 2, .. bytes of the chunk, the fewest after which
  -- the held bytes and those have an event; or the whole chunk. [F4-F6]
  unfoldable pub fed : List ℕ → List ℕ → CallResult
  unfolding first
  fed h [] = fed_all (first open' h)
  fed h (b ∷ s) = fed_on (first open' h) (fed (h ++ b ∷ []) s)

  -- a call on a reader that holds h [F12 F14]
  unfoldable pub call : List ℕ → Call → CallResult
  unfolding fed first
  call h (feed s) = fed h s
  call h gap = gapped (first closed h)

-- The rule of the fewest bytes in words: r is what a feeding call with the chunk s on a reader that holds h answers and leaves.
pub record Fewest (R : Rules) (h s : List ℕ) (r : CallResult) : Type 0 where
  pub within : r.taken ≤ length s
  -- with fewer bytes no event is decided
  pub none_sooner : (k : ℕ) → k < r.taken → (t : List ℕ) × (first R open' (h ++ take k s) ≡ silent t)
  -- an event is decided with those taken; held are all taken bytes from where reading goes on
  pub decided : (e : Event) → r.answer ≡ Some e → first R open' (h ++ take r.taken s) ≡ event e r.held
  -- or with the whole chunk none is; held are the bytes from the waiting offset on, none if no offset waits
  pub undecided : r.answer ≡ None → (r.taken ≡ length s) × (first R open' (h ++ s) ≡ silent r.held)

-- the feeding call goes by that rule, and the rule leaves no choice
abbrev pub FewestRule : Rules → Type 0
FewestRule R = (h s : List ℕ) → Fewest R h s (fed R h s) × ((r : CallResult) → Fewest R h s r → r ≡ fed R h s)

-- one byte less than the longest packet is held at most, after any call [F3]
abbrev pub HeldBound : Rules → Type 0
HeldBound R = (h : List ℕ) (c : Call) → length h ≤ R.longest - 1 → length (call R h c).held ≤ R.longest - 1

-- a gap call that says that nothing is left finishes the gap, and then nothing is held [F13]
abbrev pub FinishedEmpty : Rules → Type 0
FinishedEmpty R = (h : List ℕ) → (call R h gap).answer ≡ None → (call R h gap).held ≡ []
