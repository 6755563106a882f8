-- Demand 3, one claim about a whole list of feeding and gap calls on one reader M, over any packet rules R. `Demand3` at the
-- end says of which lists of calls and of which bytes the promise is made, `Promised` what is promised. The user's words stand
-- in quotes beside the clause that says them; their 'damage' is the noise here, and a 'stretch' is bytes side by side.
use Rattle.std.specs.Prelude.{None}
use Rattle.std.specs.Prelude.{◌≡◌, ◌⊎◌, ℕ, ◌+◌, ◌≤◌, ◌<◌, length, take}
use mathlib.Core.List.{List, [], ◌∷◌, ◌++◌, map, Memᴰ}
use Rattle.reading.specs.Rules.{Rules}
use Rattle.reading.specs.Reading.{Event, packet, EventAt, reading}
use Rattle.reading.specs.Calls.{Call, feed, gap}
use Rattle.reading.specs.Lists.{AnyReader, model, feeds, gaps, after, took, given}

-- ---- events and where they begin

abbrev pub what : EventAt → Event
what f = f.1

-- the packets side by side
abbrev pub joined : List (List ℕ) → List ℕ
joined [] = []
joined (w ∷ ws) = w ++ joined ws

-- their events, the first at offset p
abbrev pub packets_at : ℕ → List (List ℕ) → List EventAt
packets_at p [] = []
packets_at p (w ∷ ws) = (p, packet w) ∷ packets_at (p + length w) ws

-- every event of the list begins before offset n
abbrev pub Before : ℕ → List EventAt → Type 0
Before n l = (p : ℕ) (e : Event) → Memᴰ (p, e) l → p < n

-- every event of the list begins at offset n or later
abbrev pub From : ℕ → List EventAt → Type 0
From n l = (p : ℕ) (e : Event) → Memᴰ (p, e) l → n ≤ p

-- the events are those of the packets, which stand from offset p on, each once, in order and as received, among others
-- that begin before all of them or after all of them [Q10]
pub record AllOut (events : List EventAt) (p : ℕ) (packets : List (List ℕ)) : Type 0 where
  pub sooner : List EventAt
  pub later : List EventAt
  pub are : events ≡ sooner ++ (packets_at p packets ++ later)
  pub begin_sooner : Before p sooner
  pub begin_later : From (p + length (joined packets)) later

-- ---- the calls

-- "the calls since the start or since a finished gap, wherever these are feeding calls, then gap calls or none": feeding calls
-- with these chunks, then g gap calls [Q3]
abbrev pub since : List (List ℕ) → ℕ → List Call
since chunks g = feeds chunks ++ gaps g

module _ (M : AnyReader) where
  -- c is the last of these calls on a reader that was x, and gave no event; of a gap call this says that nothing is left [F11]
  abbrev pub EndsSilent : M.State → List Call → Call → Type 0
  EndsSilent x cs c = (cs' : List Call) × (cs ≡ cs' ++ c ∷ []) × (M.answer (after M x cs') c ≡ None)

  -- "from a fresh start or a finished gap": there were no calls yet, or any calls whatever, the last of which is a gap call that
  -- finished the gap [Q1 Q3]
  abbrev pub AtStart : M.State → List Call → Type 0
  AtStart x earlier = (earlier ≡ []) ⊎ EndsSilent x earlier gap

  -- one of the g gap calls said that nothing is left [F13]
  abbrev pub Finished : M.State → List (List ℕ) → ℕ → Type 0
  Finished x chunks g = (k : ℕ) × (k < g) × (M.answer (after M x (since chunks k)) gap ≡ None)

-- ---- the bytes

module _ (R : Rules) where
  -- [Q7]
  abbrev pub AllWellFormed : List (List ℕ) → Type 0
  AllWellFormed packets = (w : List ℕ) → Memᴰ w packets → R.WellFormed w

  -- "no stretch that starts in the damage and ends beyond it passes every packet rule itself" [Q7]
  abbrev pub NoneAcross : List ℕ → List ℕ → Type 0
  NoneAcross noise beyond =
      (x y z : List ℕ) → noise ++ beyond ≡ x ++ (y ++ z) → length x < length noise → length noise < length x + length y
      → ¬ R.WellFormed y

  -- "at least 1,030 bytes have followed the damage": one byte less than the longest packet [Q11]
  abbrev pub Followed : List ℕ → Type 0
  Followed beyond = R.longest ≤ length beyond + 1

-- ---- the claim

-- the events that came out, each with the offset where the reading of the bytes taken finds it [V7]
abbrev pub given_at : (R : Rules) (M : AnyReader) → M.State → List (List ℕ) → ℕ → List EventAt
given_at R M x chunks g = take (length (given M x (since chunks g))) (reading R (took M x (since chunks g)))

-- What is promised of feeding calls and then g gap calls on a reader that was x, where the bytes that they took are the
-- noise, the packets and the rest.
pub record Promised (R : Rules) (M : AnyReader) (x : M.State) (chunks : List (List ℕ)) (g : ℕ) (noise : List ℕ)
    (packets : List (List ℕ)) (rest : List ℕ) : Type 0 where
  -- the bytes looked at are those that the rule of the fewest bytes takes: a reader that takes none is not let off [Q4 Q12]
  pub counted : took M x (since chunks g) ≡ took (model R) [] (since chunks g)
  -- "the events given are, in order and with all they carry, the first events of the reading of these bytes as one segment"
  -- [Q5]
  pub firsts : map what (given_at R M x chunks g) ≡ given M x (since chunks g)
  -- "and all of them once the gap is finished" [Q6]
  pub all : Finished M x chunks g → given_at R M x chunks g ≡ reading R (took M x (since chunks g))
  -- that reading has the packets
  pub reads : AllOut (reading R (took M x (since chunks g))) (length noise) packets
  -- "no event comes out that begins among these packets but the packets themselves" [Q8]
  pub only_packets : (p : ℕ) (e : Event) → Memᴰ (p, e) (given_at R M x chunks g) → length noise ≤ p
      → p < length noise + length (joined packets) → Memᴰ (p, e) (packets_at (length noise) packets)
  -- "and none that begins in a packet still arriving": no gap call yet, and the rest begins a well-formed packet [Q9]
  pub none_arriving : g ≡ 0 → (more : List ℕ) → 0 < length more → R.WellFormed (rest ++ more)
      → Before (length noise + length (joined packets)) (given_at R M x chunks g)
  -- "Once the gap is finished, the packets after the damage have all come out, each once, in order, as received." [Q10]
  pub out_by_gap : Finished M x chunks g → AllOut (given_at R M x chunks g) (length noise) packets
  -- "Without the gap they have when a feeding call ends without an event and by then at least 1,030 bytes have followed the
  -- damage." [Q11]
  pub out_by_feed : g ≡ 0 → (chunk : List ℕ) → EndsSilent M x (feeds chunks) (feed chunk)
      → Followed R (joined packets ++ rest) → AllOut (given_at R M x chunks g) (length noise) packets

-- Demand 3. "For every list of feeding and gap calls on one reader, from a fresh start or a finished gap, whatever was fed and
-- however the reads were cut, this holds": "Let the bytes they took be any damaged bytes, then well-formed packets, then any
-- bytes after them", each of which may be none, and let nothing that is well-formed reach from the noise beyond it.
-- [K7 Q1 Q3 Q7 Q12]
abbrev pub Demand3 : Rules → AnyReader → Type 0
Demand3 R M =
    (x : M.State) → M.Fresh x → (earlier : List Call) → AtStart M x earlier → (chunks : List (List ℕ)) (g : ℕ)
    (noise : List ℕ) (packets : List (List ℕ)) (rest : List ℕ)
    → took M (after M x earlier) (since chunks g) ≡ noise ++ (joined packets ++ rest) → AllWellFormed R packets
    → NoneAcross R noise (joined packets ++ rest) → Promised R M (after M x earlier) chunks g noise packets rest
