-- What else is promised of the readers of each protocol, and of the plain reader, applied.
use Rattle.std.specs.Prelude.{Err, None, Some}
use Rattle.std.specs.Prelude.{◌≡◌, false, ℕ, ◌+◌, ◌-◌, ◌≤◌, ◌<◌, length, take, drop, replicate}
use mathlib.Core.List.{List, [], ◌∷◌, ◌++◌, map, Memᴰ}
use Rattle.answers.specs.declared.Refusal.TheVariants.{BadReader}
use Rattle.reading.specs.Rules.{Rules}
use Rattle.reading.specs.Reading.{Event, packet, bad_checksum, EventAt, open'}
use Rattle.reading.specs.Calls.{feed, gap, event, silent, first, fed, call}
use Rattle.reading.specs.Lists.{after, took, given}
use Rattle.reading.specs.Promise.{since, what, EndsSilent, NoneAcross, Followed, given_at}
use Rattle.reading.specs.Across.{reaches_across}
use Rattle.reader_records.specs.Records.{held_in, step_in, records_of, records, lent, ProtocolPromises}
use Rattle.reader_plain.specs.Plain.{plain, PlainPromises}
use Rattle.packet_protocols.specs.declared.Protocol.{Protocol}
use Rattle.packet_protocols.specs.declared.Protocol.TheVariants.{Two, One, Mercury}
use Rattle.packet_protocols.specs.Protocols.{rules_of}
use Rattle.reader_applications.specs.Demand3.{bad_ping, ping_to_1, write_status, read_to_1, ping_to_252, full, used, earlier, after_earlier}

-- two packets, each cut in two
abbrev pub halves : List ℕ → List ℕ → List (List ℕ)
halves a b = take 4 a ∷ drop 4 a ∷ take 4 b ∷ drop 4 b ∷ []

-- a packet, and another but for its last byte
abbrev pub lacking : List ℕ → List ℕ → List (List ℕ)
lacking a b = b ∷ take (length a - 1) a ∷ []

-- noise in which no FF stands
abbrev pub quiet : List ℕ
quiet = 0x00 ∷ 0x01 ∷ []

-- The rule of the fewest bytes on a reader that holds all bytes of a packet but the last six. With five bytes of the chunk nothing
-- is decided, with six the packet is; a chunk of three decides nothing and is taken.
pub record InWords (R : Rules) (held chunk w : List ℕ) : Type 0 where
  pub five : (t : List ℕ) × (first R open' (held ++ take 5 chunk) ≡ silent t)
  pub six : first R open' (held ++ take 6 chunk) ≡ event (packet w) []
  pub few : 6 ≤ length chunk
  pub three : (fed R held (take 3 chunk)).taken ≡ 3
  pub waits : first R open' (held ++ take 3 chunk) ≡ silent (held ++ take 3 chunk)

-- of two packets; the first has h bytes and six more
pub record ReaderApplied (p : Protocol) (most : ℕ) (a b : List ℕ) (h : ℕ) : Type 0 where
  pub clean_taken : took (records_of p) (after_earlier p) (since (halves a b) 3) ≡ a ++ b
  pub clean_line : given (records_of p) (after_earlier p) (since (halves a b) 3) ≡ packet a ∷ packet b ∷ []
  pub packet_by_packet : given (records_of p) (used p) (since (a ∷ b ∷ []) 1) ≡ packet a ∷ packet b ∷ []
  pub finished : (k : ℕ) × (k < 1) × ((records_of p).answer (after (records_of p) (used p) (since (a ∷ b ∷ []) k)) gap ≡ None)
  pub start_again : EndsSilent (records_of p) (used p) (since (a ∷ b ∷ []) 1) gap
  pub all_taken : took (records_of p) (used p) (since (a ∷ b ∷ []) 1) ≡ a ++ b
  -- no noise, no call before: no event that begins in the packet but the packet; none that begins in one that still arrives
  pub only_packets : (q : ℕ) (e : Event) → Memᴰ (q, e) (given_at (rules_of p) (records_of p) (used p) (lacking a b) 0) → q < length b
      → Memᴰ {A = EventAt} (q, e) ((0, packet b) ∷ [])
  pub none_arriving : (q : ℕ) (e : Event) → Memᴰ (q, e) (given_at (rules_of p) (records_of p) (used p) (lacking a b) 0) → q < length b
  -- of seven bytes behind those that are held, six are taken
  pub fewest : fed (rules_of p) (take h a) (drop h a ++ 0xFF ∷ []) ≡ record { taken = 6; answer = Some (packet a); held = [] }
  pub none_sooner : ¬ (fed (rules_of p) (take h a) (drop h a ++ 0xFF ∷ []) ≡ record { taken = 7; answer = Some (packet a); held = [] })
  pub in_words : InWords (rules_of p) (take h a) (drop h a ++ 0xFF ∷ []) a
  pub held_bound : length (call (rules_of p) (full p) (feed [])).held ≤ most
  pub finished_empty : (call (rules_of p) (full p) gap).held ≡ []
  -- a fresh record holds nothing, and a full one keeps to the rules
  pub fresh_legal : (used p).count ≤ most
  pub fresh_holds : held_in (used p) ≡ []
  pub same_answer_lem : (records_of p).answer (lent (full p) most) (feed []) ≡ None
  pub same_taken : (records_of p).taken (lent (full p) most) (feed (0x00 ∷ 0x00 ∷ [])) ≡ 1
  pub same_next : held_in ((records_of p).next (lent (full p) most) gap) ≡ []
  pub stays_legal : ((records_of p).next (lent (full p) most) (feed [])).count ≤ most
  -- as many bytes are held as can be
  pub never_refused : ¬ (step_in p (after (records_of p) (used p) (earlier ++ feed (full p) ∷ [])) gap ≡ Err BadReader)
  pub followed : Followed (rules_of p) (replicate most 0)
  pub too_few : ¬ Followed (rules_of p) (replicate (most - 1) 0)
  pub none_without_ff : ¬ (rules_of p).WellFormed (quiet ++ a)
  -- the test fails where nothing reaches across, and where a packet does, that is not supposed
  pub apart : reaches_across (rules_of p) quiet a ≡ false
  pub across : ¬ NoneAcross (rules_of p) (take 5 a) (drop 5 a)

abbrev pub ProtocolPromisesApplied : Type 0
ProtocolPromisesApplied =
    (ProtocolPromises Two 1030 → ReaderApplied Two 1030 ping_to_1 write_status 4)
    × (ProtocolPromises One 258 → ReaderApplied One 258 read_to_1 ping_to_252 2)
    × (ProtocolPromises Mercury 258 → ReaderApplied Mercury 258 read_to_1 ping_to_252 2)

-- a damaged Ping and a good one
abbrev pub segment : List ℕ
segment = bad_ping ++ ping_to_1

pub record PlainApplied : Type 0 where
  pub reads : plain segment ≡ (0, bad_checksum 1) ∷ (10, packet ping_to_1) ∷ []
  -- from 0 and from 1: where the event begins, and where reading goes on
  pub first : (0 ≤ 0) × (0 < 1) × (1 ≤ 20)
  pub second : (1 ≤ 10) × (10 < 20) × (20 ≤ 20) × (20 ≡ 10 + 10)
  -- behind a finished gap, and from a fresh start
  pub same : given records (after_earlier Two) (since (segment ∷ ping_to_1 ∷ []) 1) ≡ map what (plain segment)
  pub same_fresh : given records (used Two) (since (segment ∷ ping_to_1 ∷ []) 1) ≡ map what (plain segment)

abbrev pub PlainPromisesApplied : Type 0
PlainPromisesApplied = PlainPromises records → PlainApplied
