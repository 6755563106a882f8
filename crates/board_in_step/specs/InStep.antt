-- No board is behind. What comes to a board over a noisy line, behind the noise, is carried out: each packet, once, in order, and
-- nothing else among them. `InStep` at the end says of which calls and of which bytes this is promised, `CaughtUp` what it means.
use Rattle.std.specs.Prelude.{None}
use Rattle.std.specs.Prelude.{◌≡◌, cond, ℕ, ◌-◌, ◌≤◌, eqb, length, drop, replicate}
use mathlib.Core.List.{List, [], ◌∷◌, ◌++◌, map, Memᴰ}
use Rattle.reading.specs.Reading.{Event, packet, bad_checksum, EventAt, reading}
use Rattle.reading.specs.Calls.{Call, feed}
use Rattle.reading.specs.Lists.{AnyReader, model, feeds, after, took, given}
use Rattle.reading.specs.Promise.{what, joined, AllOut, since, EndsSilent, AtStart, Finished, AllWellFormed, NoneAcross, given_at, Demand3}
use Rattle.packet_front.specs.Front.{id_of}
use Rattle.packet.specs.Verdict.{protocol2}
use Rattle.reader_records.specs.Records.{left_by}
use Rattle.device_instructions.specs.declared.RegisteredWrite.{RegisteredWrite}
use Rattle.device_dispatch.specs.Reactions.{own_id}
use Rattle.device_status.specs.declared.Reply.{Reply}
use Rattle.board.specs.Board.{Board, carried_out, board_refusal, outcome}

-- ---- what a board has to show: its table, its registered write, and the replies that it owes the bus, in order

pub record Shown : Type 0 where
  pub table : List ℕ
  pub registered : RegisteredWrite
  pub replies : List Reply

-- silence is no reply
abbrev pub spoken : Reply → List Reply
spoken r = cond (eqb r.speaks 0) [] (r ∷ [])

-- events are carried out, one after the other [B9]
unfoldable pub hearing : List ℕ → RegisteredWrite → List Event → Shown
hearing table w [] = record { table = table; registered = w; replies = [] }
hearing table w (e ∷ es) =
    let done = carried_out table w e in
    let later = hearing done.table done.registered es in
    record { table = later.table; registered = later.registered; replies = spoken done.reply ++ later.replies }

-- ---- calls on a board

-- a board as a reader: a fresh one holds no bytes, and nothing that is lent is refused
abbrev pub boards : AnyReader
boards =
    record {
      State = Board;
      Fresh = λ b. (b.reader.count ≡ 0) × (board_refusal b ≡ None);
      taken = λ b c. (outcome b c).report.taken;
      answer = λ b c. (outcome b c).report.event;
      next = λ b c. (outcome b c).board;
    }

unfoldable pub replies_of : Board → List Call → List Reply
replies_of b [] = []
replies_of b (c ∷ cs) = spoken (outcome b c).report.reply ++ replies_of (outcome b c).board cs

-- what the board has to show after these calls
abbrev pub shown_after : Board → List Call → Shown
shown_after b cs =
    record { table = (after boards b cs).table; registered = (after boards b cs).registered; replies = replies_of b cs }

-- ---- the claim

-- an event is not for the device with this ID: a packet is sent neither to it nor to all, and a bad checksum has another ID, which may
-- be that of all
abbrev pub NotFor : ℕ → Event → Type 0
NotFor own (packet bytes) = ¬ (id_of bytes ≡ own) × ¬ (id_of bytes ≡ 254)
NotFor own (bad_checksum id) = ¬ (id ≡ own)

abbrev pub NoneFor : ℕ → List EventAt → Type 0
NoneFor own found = (p : ℕ) (e : Event) → Memᴰ (p, e) found → NotFor own e

-- of the packets alone
abbrev pub NoPacketFor : ℕ → List EventAt → Type 0
NoPacketFor own found = (p : ℕ) (w : List ℕ) → Memᴰ (p, packet w) found → ¬ (id_of w ≡ own) × ¬ (id_of w ≡ 254)

-- table and registered write are the same, whatever the replies
pub record SameState (a b : Shown) : Type 0 where
  pub table : a.table ≡ b.table
  pub registered : a.registered ≡ b.registered

-- Of these events, which begin in the noise, are the packets, or begin after them, the board has carried out each, once and in order;
-- what it shows is what comes of that.
pub record CaughtUp (b : Board) (cs : List Call) (events : List EventAt) (noise : List ℕ) (packets : List (List ℕ)) : Type 0 where
  -- sooner ones, the packets, later ones [B10]
  pub out : AllOut events (length noise) packets
  pub carried_out_lem : shown_after b cs
      ≡ hearing b.table b.registered (map what out.sooner ++ (map packet packets ++ map what out.later))
  -- where none in the noise is for this device, and none after the packets, it is as if only the packets had been heard
  -- [B10]
  pub only_packets : NoneFor (own_id b.table) out.sooner
      → NoneFor (own_id (hearing b.table b.registered (map packet packets)).table) out.later
      → shown_after b cs ≡ hearing b.table b.registered (map packet packets)
  -- a bad checksum is answered and changes nothing: for the state it is enough that no packet there is for this device
  -- [B11]
  pub same_state : NoPacketFor (own_id b.table) out.sooner
      → NoPacketFor (own_id (hearing b.table b.registered (map packet packets)).table) out.later
      → SameState (shown_after b cs) (hearing b.table b.registered (map packet packets))

-- What is promised of feeding calls and then g gap calls on the board b, where the bytes that they take are the noise, the packets and
-- the rest.
pub record NotBehind (b : Board) (chunks : List (List ℕ)) (g : ℕ) (noise : List ℕ) (packets : List (List ℕ)) (rest : List ℕ) : Type 0 where
  -- the board takes these bytes
  pub all_taken : took boards b (since chunks g) ≡ noise ++ (joined packets ++ rest)
  -- once the gap is finished: all that the reading of these bytes finds
  pub by_gap : Finished (model protocol2) [] chunks g
      → CaughtUp b (since chunks g) (reading protocol2 (noise ++ (joined packets ++ rest))) noise packets
  -- without a gap, once a feeding call ends without an event and 1,030 bytes have followed the noise: the first that it finds
  pub by_feed : g ≡ 0 → (chunk : List ℕ) → EndsSilent (model protocol2) [] (feeds chunks) (feed chunk)
      → 1030 ≤ length (joined packets ++ rest) → CaughtUp b (since chunks g) (given_at protocol2 boards b chunks g) noise packets

-- 0 follows the bytes that the board holds
abbrev pub Clean : Board → Type 0
Clean b = drop b.reader.count b.reader.bytes ≡ replicate (1030 - b.reader.count) 0

-- For every board that is not refused, from a fresh start or a finished gap, and every list of feeding calls and then gap calls on it,
-- whatever was fed and however it was cut: let the bytes that they take, by the packet rules, be any noise, then well-formed packets,
-- then any bytes, and let nothing well-formed reach from the noise beyond it. [B9-B11]
pub record InStep : Type 0 where
  pub in_step : (b : Board) → boards.Fresh b → (earlier : List Call) → AtStart (model protocol2) [] earlier
      → (chunks : List (List ℕ)) (g : ℕ) (noise : List ℕ) (packets : List (List ℕ)) (rest : List ℕ)
      → took (model protocol2) [] (since chunks g) ≡ noise ++ (joined packets ++ rest) → AllWellFormed protocol2 packets
      → NoneAcross protocol2 noise (joined packets ++ rest) → NotBehind (after boards b earlier) chunks g noise packets rest
  -- every list of calls whatever, at any time: each event that has come out is carried out, once and in order, and nothing else is
  pub each_once : (b : Board) → board_refusal b ≡ None → (cs : List Call) → shown_after b cs ≡ hearing b.table b.registered (given boards b cs)
  -- demand 3 of a board, word for word as of a reader: nothing comes out among the packets, or of a packet still arriving
  pub demand_3 : Demand3 protocol2 boards
  -- Two boards that were alike are alike again: one has caught up behind a noisy line, with nothing else for it in the noise and after
  -- the packets; the other took the packets from a clean line, however cut, and finished the gap. [B11]
  pub alike : (b clean : Board)
      → (cs : List Call) (events : List EventAt) (noise : List ℕ) (packets : List (List ℕ)) → AllWellFormed protocol2 packets
      → (up : CaughtUp b cs events noise packets) → NoneFor (own_id b.table) up.out.sooner
      → NoneFor (own_id (hearing b.table b.registered (map packet packets)).table) up.out.later
      → boards.Fresh clean → (earlier : List Call) → AtStart (model protocol2) [] earlier → (chunks : List (List ℕ)) (g : ℕ) → took (model protocol2) [] (since chunks g) ≡ joined packets
      → Finished (model protocol2) [] chunks g → b.table ≡ (after boards clean earlier).table → b.registered ≡ (after boards clean earlier).registered → shown_after b cs ≡ shown_after (after boards clean earlier) (since chunks g)
  -- no call is refused, whatever came before
  pub never_refused : (b : Board) → board_refusal b ≡ None → (cs : List Call) → board_refusal (after boards b cs) ≡ None
  -- 0 follows the held bytes after any calls if it did before; each call then leaves the reader as the reader's own calls do [B8]
  pub stays_clean : (b : Board) → Clean b → (cs : List Call) → Clean (after boards b cs)
  pub as_a_reader : (b : Board) → Clean b → board_refusal b ≡ None → (c : Call) → (outcome b c).board.reader ≡ left_by b.reader c
