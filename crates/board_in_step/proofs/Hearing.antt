-- What calls on a board come to is what their events come to, one after the other; events for another device come to nothing.
use Rattle.std.specs.Prelude.{None, Option, Some}
use mathlib.Core.Path.{◌≡◌, refl, sym, ap, ap₂, subst, ◌∙◌}
use mathlib.Core.Bool.{Bool, true, false, cond}
use mathlib.Core.List.{List, [], ◌∷◌, ◌++◌, map, append-nil, Memᴰ}
use Prim.Native.Nat.{ℕ}
use lib.Dec.{eqb}
use borrow.Author.Tests.{ne_eqb}
use Rattle.stuffing.specs.Stuffing.{unstuff}
use Rattle.reading.specs.Reading.{Event, packet, bad_checksum, EventAt}
use Rattle.reading.specs.Calls.{Call, call}
use Rattle.reading.specs.Lists.{listed, after, given}
use Rattle.reading.specs.Promise.{what}
use Rattle.packet_front.specs.Front.{id_of}
use Rattle.packet.specs.Packet.{body_of}
use Rattle.packet.specs.Verdict.{protocol2}
use Rattle.reader_records.specs.Records.{held_in}
use Rattle.device_instructions.specs.declared.RegisteredWrite.{RegisteredWrite}
use Rattle.device_dispatch.specs.declared.Heard.TheVariants.{Packet, BadChecksum}
use Rattle.device_dispatch.specs.Reactions.{own_id, Reaction, reacting, unchanged, reaction, silent}
use Rattle.device_status.specs.declared.Reply.{Reply}
use Rattle.device_status.specs.Status.{silence}
use Rattle.device.specs.Device.{Carried, carried, executed, carry_out}
use Rattle.device.proofs.Replies.{to_another, to_whomever}
use Rattle.board.specs.Board.{Board, Outcome, carried_out, carried_if_any, board_refusal, outcome}
use Rattle.board_in_step.specs.InStep.{Shown, spoken, hearing, boards, replies_of, shown_after, NotFor, NoneFor, NoPacketFor, SameState}
use Rattle.board_in_step.proofs.OneCall.{outcome_is, next_accepted}

-- ---- calls and their events

abbrev pub owing : List Reply → Shown → Shown
owing rs s = record { table = s.table; registered = s.registered; replies = rs ++ s.replies }

heard_first : (table : List ℕ) (w : RegisteredWrite) (a : Option Event) (es : List Event)
    → owing (spoken (carried_if_any table w a).reply) (hearing (carried_if_any table w a).table (carried_if_any table w a).registered es)
    ≡ hearing table w (listed a ++ es)
unfolding hearing
heard_first table w None es = refl
heard_first table w (Some e) es = refl

pub each_once : (cs : List Call) (b : Board) → board_refusal b ≡ None → shown_after b cs ≡ hearing b.table b.registered (given boards b cs)
unfolding after given replies_of hearing
each_once [] b e = refl
each_once (c ∷ cs) b e =
    let next = (outcome b c).board in
    ap (owing (spoken (outcome b c).report.reply)) (each_once cs next (next_accepted b c e))
    ∙ subst (λ (o : Outcome). owing (spoken o.report.reply) (hearing o.board.table o.board.registered (given boards next cs))
    ≡ hearing b.table b.registered (listed o.report.event ++ given boards next cs)) (sym (outcome_is b c e))
    (heard_first b.table b.registered (call protocol2 (held_in b.reader) c).answer (given boards next cs))

-- ---- events for another device

-- nothing comes of it but perhaps an error number, which is not told
pub record Nothing (table : List ℕ) (w : RegisteredWrite) (done : Carried) : Type 0 where
  pub table' : table ≡ done.table
  pub registered' : w ≡ done.registered
  pub reply' : silence ≡ done.reply

-- a bad checksum is answered to the own ID alone
bad_unanswered : (table : List ℕ) (w : RegisteredWrite) (id : ℕ) → ¬ (id ≡ own_id table) → Nothing table w (carry_out table w BadChecksum id [])
unfolding executed
bad_unanswered table w id n = by (eqb id 254) (ne_eqb id (own_id table) n)
  where
    by : (all : Bool) → eqb id (own_id table) ≡ false
        → Nothing table w (carried table (cond (eqb id (own_id table)) (reaction BadChecksum false table w [])
        (cond all (reaction BadChecksum true table w []) (reacting (unchanged table w) silent))))
    by true e = rw e (record { table' = refl; registered' = refl; reply' = refl })
    by false e = rw e (record { table' = refl; registered' = refl; reply' = refl })

not_heard : (table : List ℕ) (w : RegisteredWrite) (e : Event) → NotFor (own_id table) e → Nothing table w (carried_out table w e)
not_heard table w (packet bytes) n =
    let c = to_another table w Packet (id_of bytes) (unstuff (body_of bytes)) n.0 n.1 in
    record { table' = ap (λ (x : Carried). x.table) c; registered' = ap (λ (x : Carried). x.registered) c; reply' = ap (λ (x : Carried). x.reply) c }
not_heard table w (bad_checksum id) n = bad_unanswered table w id n

pub none_heard : (table : List ℕ) (w : RegisteredWrite) (found : List EventAt) (es : List Event) → NoneFor (own_id table) found
    → hearing table w (map what found ++ es) ≡ hearing table w es
unfolding hearing
none_heard table w [] es other = refl
none_heard table w (f ∷ found) es other =
    let n = not_heard table w f.1 (other f.0 f.1 (Memᴰ.head refl)) in
    (λ i. owing (spoken (sym n.reply' i)) (hearing (sym n.table' i) (sym n.registered' i) (map what found ++ es)))
    ∙ none_heard table w found es (λ p e m. other p e (Memᴰ.tail m))

pub none_after : (table : List ℕ) (w : RegisteredWrite) (es : List Event) (found : List EventAt) → NoneFor (own_id (hearing table w es).table) found
    → hearing table w (es ++ map what found) ≡ hearing table w es
unfolding hearing
none_after table w [] found other =
    ap (λ (l : List Event). hearing table w l) (sym (append-nil (map what found))) ∙ none_heard table w found [] other
none_after table w (e ∷ es) found other =
    let done = carried_out table w e in
    ap (owing (spoken done.reply)) (none_after done.table done.registered es found other)

-- ---- what changes neither table nor registered write

pub record Keeps (table : List ℕ) (w : RegisteredWrite) (done : Carried) : Type 0 where
  pub table' : done.table ≡ table
  pub registered' : done.registered ≡ w

bad_keeps : (table : List ℕ) (w : RegisteredWrite) (id : ℕ) → Keeps table w (carry_out table w BadChecksum id [])
bad_keeps table w id =
    let k = to_whomever table w BadChecksum id [] (λ (r : Reaction). (r.effect.table ≡ table) × (r.effect.registered ≡ w)) (λ all. (refl, refl)) (refl, refl) in
    record { table' = k.0; registered' = k.1 }

event_keeps : (table : List ℕ) (w : RegisteredWrite) (e : Event) → ((bytes : List ℕ) → e ≡ packet bytes → ¬ (id_of bytes ≡ own_id table) × ¬ (id_of bytes ≡ 254))
    → Keeps table w (carried_out table w e)
event_keeps table w (bad_checksum id) other = bad_keeps table w id
event_keeps table w (packet bytes) other =
    let n = other bytes refl in
    let c = to_another table w Packet (id_of bytes) (unstuff (body_of bytes)) n.0 n.1 in
    record { table' = ap (λ (x : Carried). x.table) (sym c); registered' = ap (λ (x : Carried). x.registered) (sym c) }

pub state_before : (table : List ℕ) (w : RegisteredWrite) (found : List EventAt) (es : List Event) → NoPacketFor (own_id table) found
    → SameState (hearing table w (map what found ++ es)) (hearing table w es)
unfolding hearing
state_before table w [] es other = record { table = refl; registered = refl }
state_before table w (f ∷ found) es other =
    let done = carried_out table w f.1 in
    let k = event_keeps table w f.1 (λ bytes i. other f.0 bytes (Memᴰ.head (ap (λ (e : Event). (f.0, e)) (sym i)))) in
    let r = state_before table w found es (λ p v m. other p v (Memᴰ.tail m)) in
    let l = map what found ++ es in
    record {
      table = ap₂ (λ (t : List ℕ) (v : RegisteredWrite). (hearing t v l).table) k.table' k.registered' ∙ r.table;
      registered = ap₂ (λ (t : List ℕ) (v : RegisteredWrite). (hearing t v l).registered) k.table' k.registered' ∙ r.registered;
    }

pub state_after : (table : List ℕ) (w : RegisteredWrite) (es : List Event) (found : List EventAt) → NoPacketFor (own_id (hearing table w es).table) found
    → SameState (hearing table w (es ++ map what found)) (hearing table w es)
unfolding hearing
state_after table w [] found other =
    let r = state_before table w found [] other in
    let n = ap (λ (l : List Event). hearing table w l) (sym (append-nil (map what found))) in
    record { table = ap (λ (s : Shown). s.table) n ∙ r.table; registered = ap (λ (s : Shown). s.registered) n ∙ r.registered }
state_after table w (e ∷ es) found other =
    let done = carried_out table w e in
    let r = state_after done.table done.registered es found other in
    record { table = r.table; registered = r.registered }
