-- The reader's record and the calls on it, and demand 3 over lists of these calls. The contracts of `feed` and `gap`, and of the
-- exports to C, cite `step_on` and `left_by`, of which the reader `records` is made.
use Rattle.std.specs.Prelude.{Err, None, Ok, Option, Result, Some}
use Rattle.std.specs.Prelude.{◌≡◌, cond, List, ℕ, ◌≤◌, eqb, length, take, replicate}
use Rattle.answers.specs.declared.Refusal.{Refusal}
use Rattle.reading.specs.Reading.{Event, packet, bad_checksum}
use Rattle.reading.specs.Calls.{Call, call}
use Rattle.reading.specs.Lists.{AnyReader, after, Follows}
use Rattle.reading.specs.Promise.{Followed}
use Rattle.reading.specs.Across.{NoneWithout, CallPromises}
use Rattle.packet_protocols.specs.declared.Protocol.{Protocol}
use Rattle.packet_protocols.specs.declared.Protocol.TheVariants.{Two, One, Mercury}
use Rattle.packet_protocols.specs.Protocols.{rules_of, id_in}
use Rattle.reader_core.specs.declared.Step.{Step}
use Rattle.reader_core.specs.declared.Event.{Event as Event-as-Code}
use Rattle.reader_core.specs.declared.Event.TheVariants.{Packet, BadChecksum}
use Rattle.reader_core.specs.Results.{step_for, held_for, packet_for}
use Rattle.reader_records.specs.declared.Reader.{Reader}

-- bytes past the count are ignored [F1 F15]
abbrev pub held_in : Reader → List ℕ
held_in r = take r.count r.bytes

-- what a call answers, by the protocol [F5 F12 O13]
unfoldable pub step_in : Protocol → Reader → Call → Result Step Refusal
step_in p r c = step_for p r.count (call (rules_of p) (held_in r) c)

-- how many bytes are taken by an answer, none by a refusal
abbrev pub taken_by : Result Step Refusal → ℕ
taken_by (Ok step) = step.taken
taken_by (Err refusal) = 0

-- how many are held then; as many as before by a refusal
abbrev pub held_by : ℕ → Result Step Refusal → ℕ
held_by count (Ok step) = step.held
held_by count (Err refusal) = count

-- and its event, none of a refusal
abbrev pub told_by : Result Step Refusal → Option Event-as-Code
told_by (Ok step) = step.event
told_by (Err refusal) = None

-- how it leaves the record: the bytes past its count are 0, and a refusal leaves it as it was [F7 F8 F15 O13]
unfoldable pub left_in : Protocol → Reader → Call → Reader
left_in p r c =
    record { bytes = held_for p r.count r.bytes (call (rules_of p) (held_in r) c); count = held_by r.count (step_in p r c) }

-- the record by its parts, as C lends it
abbrev pub lent : List ℕ → ℕ → Reader
lent bytes count = record { bytes = bytes; count = count }

-- and what a call leaves of the packet buffer that is lent beside it: the packet and 0 after it, unless the call is refused
unfoldable pub packet_in : Protocol → Reader → Call → List ℕ → List ℕ
packet_in p r c old = packet_for p r.count old (call (rules_of p) (held_in r) c)

-- in Protocol 2.0
abbrev pub step_on : Reader → Call → Result Step Refusal
step_on r c = step_in Two r c

abbrev pub left_by : Reader → Call → Reader
left_by r c = left_in Two r c

abbrev pub packet_on : Reader → Call → List ℕ → List ℕ
packet_on r c old = packet_in Two r c old

-- the event that an answer gives, beside the packet buffer: the bytes of a packet, where the answer has their ID, or the ID of a
-- bad checksum [F9 Q5]
abbrev pub event_in : Protocol → Option Event-as-Code → List ℕ → Option Event
event_in p (Some (Packet id n)) bytes = cond (eqb id (id_in p (take n bytes))) (Some (packet (take n bytes))) None
event_in p (Some (BadChecksum id)) bytes = Some (bad_checksum id)
event_in p None bytes = None

-- The records as a reader, of which demand 3 is promised: a fresh one is any with count 0, whatever lies past it. Each list of
-- calls keeps to one protocol. [F1 F2 O15 Q1]
abbrev pub records_of : Protocol → AnyReader
records_of p =
    record {
      State = Reader;
      Fresh = λ r. r.count ≡ 0;
      taken = λ r c. taken_by (step_in p r c);
      answer = λ r c. event_in p (told_by (step_in p r c)) (packet_in p r c (replicate (rules_of p).longest 0));
      next = λ r c. left_in p r c;
    }

abbrev pub records : AnyReader
records = records_of Two

-- "at most 1,030 bytes are held, so none of these calls gives 25", 258 on the old boards: from a fresh record on no call is refused,
-- whatever came before [O15 Q2]
abbrev pub NeverRefusedIn : Protocol → Type 0
NeverRefusedIn p =
    (r : Reader) → r.count ≡ 0 → (cs : List Call) (c : Call) (refusal : Refusal)
    → ¬ (step_in p (after (records_of p) r cs) c ≡ Err refusal)

-- what is promised of every list of calls of a protocol, with the figure: one byte less than its longest packet [O15]
pub record ProtocolPromises (p : Protocol) (most : ℕ) : Type 0 where
  -- there are fresh records: any bytes with a count of 0 [F2]
  pub any_fresh : (bytes : List ℕ) → (records_of p).Fresh (lent bytes 0)
  -- a record that holds at most so many bytes keeps to the protocol's rules
  pub follows : Follows (rules_of p) (records_of p) (λ r. r.count ≤ most) held_in
  -- the laws and demand 3, with what holds it in place
  pub calls : CallPromises (rules_of p) (records_of p)
  pub never_refused : NeverRefusedIn p
  -- "at least 1,030 bytes have followed the damage", 258 on the old boards: what `Followed` asks for, no more and no less [Q11]
  pub followed_by : (s : List ℕ) → (Followed (rules_of p) s → most ≤ length s) × (most ≤ length s → Followed (rules_of p) s)
  -- noise in which no byte is FF [Q14]
  pub none_without_ff : NoneWithout (rules_of p) 0xFF

-- demand 3 over all the packet rules, and what holds it in place [O15]
pub record EveryProtocol : Type 0 where
  pub two : ProtocolPromises Two 1030
  pub one : ProtocolPromises One 258
  pub mercury : ProtocolPromises Mercury 258
