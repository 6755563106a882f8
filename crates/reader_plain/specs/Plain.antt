-- What is promised of the plain reader over all segments: its calls one after the other give the reading of the segment, and a
-- reader that holds bytes gives the same events.
use Rattle.std.specs.Prelude.{None, Option, Some}
use Rattle.std.specs.Prelude.{◌≡◌, cond, List, [], ◌∷◌, map, ℕ, zero, suc, ◌+◌, ◌≤◌, ◌<◌, eqb, length, take, drop}
use Rattle.reading.specs.Reading.{packet, bad_checksum, EventAt, reading}
use Rattle.reading.specs.Calls.{Call}
use Rattle.reading.specs.Lists.{AnyReader, model, after, took, given}
use Rattle.reading.specs.Promise.{what, since, AtStart, Finished}
use Rattle.packet_front.specs.Front.{id_of}
use Rattle.packet.specs.Verdict.{protocol2}
use Rattle.reader_plain.specs.declared.Event.{Event}
use Rattle.reader_plain.specs.declared.Event.TheVariants.{Packet, BadChecksum}
use Rattle.reader_plain.specs.Next.{next_event}

-- the segment's bytes from an offset on, so many
abbrev pub part : List ℕ → ℕ → ℕ → List ℕ
part s p n = take n (drop p s)

-- the event of an answer, and then those from where reading goes on; a packet is told by its offset and its count, and counts only
-- where the answer has its ID [R3 R6]
abbrev pub and_on : List ℕ → Option Event → (ℕ → List EventAt) → List EventAt
and_on s (Some (Packet p n q id)) go = cond (eqb id (id_of (part s p n))) ((p, packet (part s p n)) ∷ go q) []
and_on s (Some (BadChecksum p q id)) go = (p, bad_checksum id) ∷ go q
and_on s None go = []

-- calls from an offset on, each from where the one before says that reading goes on, until there is no event, or so many [R6]
unfoldable pub calls : List ℕ → ℕ → ℕ → List EventAt
unfolding next_event
calls s zero from = []
calls s (suc most) from = and_on s (next_event s from) (λ q. calls s most q)

-- calls from 0 on; an event moves on by a byte at least, so that as many as there are bytes give all events [R6]
abbrev pub plain : List ℕ → List EventAt
plain s = calls s (length s) 0

-- an event of a call from this offset begins there or behind it; it, and where reading goes on behind it, are within the segment
abbrev pub Within : List ℕ → ℕ → Option Event → Type 0
Within s from (Some (Packet p n q id)) = (from ≤ p) × (p < q) × (q ≤ length s) × (q ≡ p + n)
Within s from (Some (BadChecksum p q id)) = (from ≤ p) × (p < q) × (q ≤ length s)
Within s from None = Unit {0}

-- What is promised of a reader M beside the plain one, where it was x, feeding calls with these chunks and then g gap calls.
pub record SameEvents (M : AnyReader) (x : M.State) (chunks : List (List ℕ)) (g : ℕ) : Type 0 where
  -- a reader that takes nothing, or never finishes a gap, is not let off: it takes what the rules take, and finishes where they do
  pub counted : took M x (since chunks g) ≡ took (model protocol2) [] (since chunks g)
  pub finishes : Finished (model protocol2) [] chunks g → Finished M x chunks g
  -- where the gap is finished, the events, their order and all that they carry are those of the plain reader over the segment that
  -- the calls took
  pub same : Finished M x chunks g → given M x (since chunks g) ≡ map what (plain (took M x (since chunks g)))

-- of every list of calls that demand 3 is about in Protocol 2.0: the first one is on a reader at a start, and the chunks are any
-- [R7]
abbrev pub Same : AnyReader → Type 0
Same M =
    (x : M.State) → M.Fresh x → (earlier : List Call) → AtStart M x earlier → (chunks : List (List ℕ)) (g : ℕ)
    → SameEvents M (after M x earlier) chunks g

-- all of it, beside the reader M
pub record PlainPromises (M : AnyReader) : Type 0 where
  -- [R6]
  pub reads : (s : List ℕ) → plain s ≡ reading protocol2 s
  -- so calls one after the other come to an end [R6]
  pub within : (s : List ℕ) (from : ℕ) → Within s from (next_event s from)
  -- [R7]
  pub same : Same M
