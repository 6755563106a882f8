-- What the theorems on boards ask for is computed, and what they give is handed on.
use Rattle.std.specs.Prelude.{None}
use mathlib.Core.Path.{◌≡◌, refl, sym, ap, ap₂, subst, ◌∙◌}
use mathlib.Core.Bool.{false}
use mathlib.Core.List.Memᴰ
use mathlib.Core.List.{List, [], ◌∷◌, ◌++◌, map, Memᴰ}
use mathlib.Core.Logic.{◌⊎◌, ⊎_elim, inl, inr}
use Prim.Native.Nat.{ℕ, ◌-◌}
use native.Mathlib.Omega.{arith}
use lib.IntN.{pos, negsuc}
use lib.ListN.{length, take, drop, replicate}
use borrow.Author.Tests.{leb-true, ltb-true}
use Rattle.lists.specs.Numbers.{number_at, bytes_of}
use Rattle.crc.specs.Crc.{reduce_if, shift, shifts, crc_byte, crc_from}
use Rattle.stuffing.specs.Stuffing.{well_after, unstuff_after}
use Rattle.reading.specs.Reading.{Event, packet, bad_checksum, EventAt, read_fuel, read_from, reading}
use Rattle.reading.specs.Calls.{feed, gap, first, fed, call}
use Rattle.reading.specs.Lists.{model, feeds, after, took, given}
use Rattle.reading.specs.Promise.{what, joined, packets_at, since, EndsSilent, AtStart, Finished, AllWellFormed, NoneAcross, AllOut}
use Rattle.reading.specs.Across.{reaches_across}
use Rattle.reading.proofs.Across.{across_decided}
use Rattle.reading.proofs.Decided.{EachPacket, all_well}
use Rattle.packet_front.specs.Front.{length_of, id_of}
use Rattle.packet_front.specs.Header.{front_agrees, length_agrees}
use Rattle.packet.specs.Packet.{body_of, checksum_right}
use Rattle.packet.specs.Verdict.{protocol2}
use Rattle.packet.proofs.Laws.{laws}
use Rattle.packet_rules.specs.Shape.{verdict as shapeVerdict}
use Rattle.table_registers.specs.Registers.{device_id, goal_position, registers, permits_by, every_byte}
use Rattle.table_items.specs.Items.{value_at, put}
use Rattle.table_access.specs.Fresh.{freshened, fresh_table, measured}
use Rattle.table_rules.specs.Rules.{every_touched, goal_inside, limits_kept, write_rule}
use Rattle.device_instructions.specs.Instructions.{write}
use Rattle.device_instructions.specs.Registered.{dropped}
use Rattle.device_instructions.specs.declared.RegisteredWrite.{RegisteredWrite}
use Rattle.device_dispatch.specs.Reactions.{own_id, heard_instruction}
use Rattle.device_status.specs.Status.{status}
use Rattle.device.specs.Device.{executed}
use Rattle.device.specs.Answers.{state_refusal}
use Rattle.reader_records.specs.Records.{lent}
use Rattle.board.specs.Board.{Board, board_of, reader_left, lent_refusal, board_refusal, outcome}
use Rattle.board_in_step.specs.InStep.{Shown, hearing, boards, shown_after, NotFor, NoneFor, NoPacketFor, CaughtUp, NotBehind, InStep}
use Rattle.board_in_step.specs.Measured.{LoopStep, calls_in, Job, hears, measures, events_in, doing, taken_in, jobs_of, InStepMeasured}
use Rattle.board_in_step.proofs.Proved.{parts}
use Rattle.reader_applications.specs.Demand3.{earlier, bad_ping, ping_to_1, long_front, cut, followed}
use Rattle.board_applications.specs.Lives.{write_goal, bad_ping_to_2, bad_ping_to_all, rest, longest, fresh, after_earlier, chunks, answers, found, Noisy, ForAnother, ForAnotherBefore, ninth, ping_to_2, write_id, ping_to_9, filled, unregistered, cuts, clean_cuts, Renamed, RenamedUnregistered, holding, full, ByFeed, AsReader, InStepApplied, steps, full_steps, MeasuringOn, InStepMeasuredApplied}

-- ---- what is asked

packets_are : EachPacket protocol2 (write_goal ∷ ping_to_1 ∷ [])
unfolding reduce_if shift shifts crc_byte crc_from well_after length_of body_of checksum_right front_agrees length_agrees shapeVerdict
packets_are = (refl, (refl, tt))

good : AllWellFormed protocol2 (write_goal ∷ ping_to_1 ∷ [])
good = all_well protocol2 laws (write_goal ∷ ping_to_1 ∷ []) packets_are

ping_good : AllWellFormed protocol2 (ping_to_1 ∷ [])
ping_good = all_well protocol2 laws (ping_to_1 ∷ []) packets_are.1

fresh_board : boards.Fresh fresh
unfolding lent_refusal state_refusal registers freshened put bytes_of
fresh_board = (refl, refl)

at_start : AtStart (model protocol2) [] earlier
unfolding after first fed call front_agrees length_agrees shapeVerdict
at_start = inr (feed (0x01 ∷ []) ∷ [], refl, refl)

board_at_start : AtStart boards fresh earlier
unfolding after outcome lent_refusal state_refusal reader_left first fed call front_agrees length_agrees shapeVerdict registers freshened put bytes_of
board_at_start = inr (feed (0x01 ∷ []) ∷ [], refl, refl)

same_start : (after_earlier.table ≡ fresh_table) × (after_earlier.registered ≡ longest)
unfolding after outcome lent_refusal state_refusal reader_left first fed call front_agrees length_agrees shapeVerdict registers freshened put bytes_of
same_start = (refl, refl)

pub record Asked (noise behind : List ℕ) : Type 0 where
  pub taken : took (model protocol2) [] (since (cut noise write_goal ping_to_1 behind) 1) ≡ noise ++ (joined (write_goal ∷ ping_to_1 ∷ []) ++ behind)
  pub finished : Finished (model protocol2) [] (cut noise write_goal ping_to_1 behind) 1
  pub apart : reaches_across protocol2 noise (joined (write_goal ∷ ping_to_1 ∷ []) ++ behind) ≡ false

asked : Asked bad_ping rest
unfolding after took first fed call reaches_across reduce_if shift shifts crc_byte crc_from well_after length_of body_of checksum_right front_agrees length_agrees shapeVerdict
asked = record { taken = refl; finished = (0, omega arith, refl); apart = refl }

asked_of_2 : Asked bad_ping_to_2 rest
unfolding after took first fed call reaches_across reduce_if shift shifts crc_byte crc_from well_after length_of body_of checksum_right front_agrees length_agrees shapeVerdict
asked_of_2 = record { taken = refl; finished = (0, omega arith, refl); apart = refl }

read : reading protocol2 (bad_ping ++ (joined (write_goal ∷ ping_to_1 ∷ []) ++ rest)) ≡ (0, bad_checksum 1) ∷ found
unfolding read_fuel read_from reading reduce_if shift shifts crc_byte crc_from well_after length_of body_of checksum_right front_agrees length_agrees shapeVerdict
read = refl

read_of_2 : reading protocol2 (bad_ping_to_2 ++ (joined (write_goal ∷ ping_to_1 ∷ []) ++ rest)) ≡ (0, bad_checksum 2) ∷ found
unfolding read_fuel read_from reading reduce_if shift shifts crc_byte crc_from well_after length_of body_of checksum_right front_agrees length_agrees shapeVerdict
read_of_2 = refl

asked_of_all : Asked bad_ping_to_all rest
unfolding after took first fed call reaches_across reduce_if shift shifts crc_byte crc_from well_after length_of body_of checksum_right front_agrees length_agrees shapeVerdict
asked_of_all = record { taken = refl; finished = (0, omega arith, refl); apart = refl }

read_of_all : reading protocol2 (bad_ping_to_all ++ (joined (write_goal ∷ ping_to_1 ∷ []) ++ rest)) ≡ (0, bad_checksum 254) ∷ found
unfolding read_fuel read_from reading reduce_if shift shifts crc_byte crc_from well_after length_of body_of checksum_right front_agrees length_agrees shapeVerdict
read_of_all = refl

asked_of_all_alone : Asked bad_ping_to_all []
unfolding after took first fed call reaches_across reduce_if shift shifts crc_byte crc_from well_after length_of body_of checksum_right front_agrees length_agrees shapeVerdict
asked_of_all_alone = record { taken = refl; finished = (0, omega arith, refl); apart = refl }

read_of_all_alone : reading protocol2 (bad_ping_to_all ++ (joined (write_goal ∷ ping_to_1 ∷ []) ++ [])) ≡ (0, bad_checksum 254) ∷ found
unfolding read_fuel read_from reading reduce_if shift shifts crc_byte crc_from well_after length_of body_of checksum_right front_agrees length_agrees shapeVerdict
read_of_all_alone = refl

-- what is promised between this noise and these bytes
between : InStep → (noise behind : List ℕ) → Asked noise behind
    → NotBehind after_earlier (cut noise write_goal ping_to_1 behind) 1 noise (write_goal ∷ ping_to_1 ∷ []) behind
between t noise behind a =
    t.in_step fresh fresh_board earlier at_start (cut noise write_goal ping_to_1 behind) 1 noise (write_goal ∷ ping_to_1 ∷ []) behind a.taken good
    ((across_decided protocol2 laws noise (joined (write_goal ∷ ping_to_1 ∷ []) ++ behind)).0 a.apart)

abbrev id_of_event : Event → ℕ
id_of_event (packet bytes) = id_of bytes
id_of_event (bad_checksum id) = id

not_for : (own : ℕ) (e : Event) → ¬ (id_of_event e ≡ own) → ¬ (id_of_event e ≡ 254) → NotFor own e
not_for own (packet bytes) n m = (n, m)
not_for own (bad_checksum id) n m = n

-- ---- what begins in this noise, and behind these packets

module _ (events : List EventAt) (id : ℕ) (are : events ≡ (0, bad_checksum id) ∷ found) (n : ℕ) (ten : n ≡ 10)
    (out : AllOut events n (write_goal ∷ ping_to_1 ∷ [])) where
  -- one of the three
  which : (p : ℕ) (e : Event) → Memᴰ (p, e) events → ((p ≡ 0) × (e ≡ bad_checksum id)) ⊎ ((p ≡ 10) ⊎ (p ≡ 26))
  which p e m =
      ⊎_elim (λ i. inl (ap (λ (f : EventAt). f.0) i, ap (λ (f : EventAt). f.1) i))
      (λ n. ⊎_elim (λ i. inr (inl (ap (λ (f : EventAt). f.0) i)))
      (λ k. ⊎_elim (λ i. inr (inr (ap (λ (f : EventAt). f.0) i))) (λ none_left. absurd (Memᴰ.not-nil none_left)) (Memᴰ.cases_cons k)) (Memᴰ.cases_cons n))
      (Memᴰ.cases_cons (subst (λ (l : List EventAt). Memᴰ {A = EventAt} (p, e) l) are m))

  in_sooner : (p : ℕ) (e : Event) → Memᴰ (p, e) out.sooner → e ≡ bad_checksum id
  in_sooner p e m =
      let h = out.begin_sooner p e m in
      ⊎_elim (λ i. i.1) (λ i. ⊎_elim (λ j. absurd (omega (arith, ten, j))) (λ j. absurd (omega (arith, ten, j))) i)
      (which p e (subst (λ (l : List EventAt). Memᴰ {A = EventAt} (p, e) l) (sym out.are) (Memᴰ.append_left _ m)))

  none_later : (p : ℕ) (e : Event) → Memᴰ (p, e) out.later → ⊥
  none_later p e m =
      let h = out.begin_later p e m in
      ⊎_elim (λ i. absurd (omega (arith, ten, i.0))) (λ i. ⊎_elim (λ j. absurd (omega (arith, ten, j))) (λ j. absurd (omega (arith, ten, j))) i)
      (which p e (subst (λ (l : List EventAt). Memᴰ {A = EventAt} (p, e) l) (sym out.are) (Memᴰ.append_right out.sooner (Memᴰ.append_right (packets_at n (write_goal ∷ ping_to_1 ∷ [])) m))))

  no_packet : (own : ℕ) → NoPacketFor own out.sooner
  no_packet own p w m = let e = in_sooner p (packet w) m in let z : ◌≡◌ {A = ℕ} 0 1 = cc in absurd (omega arith)

  none_there : (own : ℕ) → NoPacketFor own out.later
  none_there own p w m = absurd (none_later p (packet w) m)

  none_for : (own : ℕ) → ¬ (id ≡ own) → NoneFor own out.sooner
  none_for own n p e m = subst (λ (x : Event). NotFor own x) (sym (in_sooner p e m)) n

  none_for_later : (own : ℕ) → NoneFor own out.later
  none_for_later own p e m = absurd (none_later p e m)

-- ---- the lives

two_heard : hearing fresh_table longest (packet write_goal ∷ packet ping_to_1 ∷ [])
    ≡ record { table = put fresh_table goal_position 512; registered = longest; replies = drop 1 answers }
unfolding hearing unstuff_after registers permits_by number_at value_at bytes_of put freshened every_byte every_touched goal_inside limits_kept write_rule write heard_instruction executed reduce_if shift shifts crc_byte crc_from well_after length_of body_of checksum_right front_agrees length_agrees shapeVerdict
two_heard = refl

own_id_lem : own_id after_earlier.table ≡ 1
unfolding after outcome lent_refusal state_refusal reader_left first fed call registers freshened put bytes_of front_agrees length_agrees shapeVerdict
own_id_lem = refl

clean_taken : took (model protocol2) [] (since (write_goal ∷ ping_to_1 ∷ []) 1) ≡ joined (write_goal ∷ ping_to_1 ∷ [])
unfolding after took first fed call reduce_if shift shifts crc_byte crc_from well_after length_of body_of checksum_right front_agrees length_agrees shapeVerdict
clean_taken = refl

clean_finished : Finished (model protocol2) [] (write_goal ∷ ping_to_1 ∷ []) 1
unfolding after first fed call reduce_if shift shifts crc_byte crc_from well_after length_of body_of checksum_right front_agrees length_agrees shapeVerdict
clean_finished = (0, omega arith, refl)

-- by gap, what the board shows, from what the reading found
shown : (noise : List ℕ) (id : ℕ) (events : List EventAt) → events ≡ (0, bad_checksum id) ∷ found
    → (up : CaughtUp after_earlier (since (chunks noise) 1) events noise (write_goal ∷ ping_to_1 ∷ []))
    → shown_after after_earlier (since (chunks noise) 1) ≡ hearing fresh_table longest (bad_checksum id ∷ packet write_goal ∷ packet ping_to_1 ∷ [])
shown noise id events are up =
    up.carried_out_lem
    ∙ ap (λ (l : List Event). hearing after_earlier.table after_earlier.registered l) (sym (parts events (length noise) (write_goal ∷ ping_to_1 ∷ []) up.out))
    ∙ ap (λ (l : List EventAt). hearing after_earlier.table after_earlier.registered (map what l)) are
    ∙ ap₂ (λ (t : List ℕ) (w : RegisteredWrite). hearing t w (bad_checksum id ∷ packet write_goal ∷ packet ping_to_1 ∷ [])) same_start.0 same_start.1

three_heard : hearing fresh_table longest (bad_checksum 1 ∷ packet write_goal ∷ packet ping_to_1 ∷ [])
    ≡ record { table = put fresh_table goal_position 512; registered = longest; replies = answers }
unfolding hearing unstuff_after registers permits_by number_at value_at bytes_of put freshened every_byte every_touched goal_inside limits_kept write_rule write heard_instruction executed reduce_if shift shifts crc_byte crc_from well_after length_of body_of checksum_right front_agrees length_agrees shapeVerdict
three_heard = refl

noisy : InStep → Noisy
noisy t =
    let n = between t bad_ping rest asked in
    let up = n.by_gap asked.finished in
    let events = reading protocol2 (bad_ping ++ (joined (write_goal ∷ ping_to_1 ∷ []) ++ rest)) in
    let e = shown bad_ping 1 events read up ∙ three_heard in
    let same = up.same_state (no_packet events 1 read 10 refl up.out _) (none_there events 1 read 10 refl up.out _) in
    record {
      all_taken = n.all_taken;
      table = ap (λ (x : Shown). x.table) e;
      registered = ap (λ (x : Shown). x.registered) e;
      replies = ap (λ (x : Shown). x.replies) e;
      same_table = same.table ∙ ap₂ (λ (t : List ℕ) (w : RegisteredWrite). (hearing t w (packet write_goal ∷ packet ping_to_1 ∷ [])).table) same_start.0 same_start.1;
      same_registered_lem = same.registered
          ∙ ap₂ (λ (t : List ℕ) (w : RegisteredWrite). (hearing t w (packet write_goal ∷ packet ping_to_1 ∷ [])).registered) same_start.0 same_start.1
          ∙ two_registered;
    }
  where
    two_registered : (hearing fresh_table longest (packet write_goal ∷ packet ping_to_1 ∷ [])).registered ≡ longest
    two_registered = ap (λ (x : Shown). x.registered) two_heard

for_another_before : InStep → (noise behind : List ℕ) (id : ℕ) → ¬ (id ≡ 1) → Asked noise behind
    → reading protocol2 (noise ++ (joined (write_goal ∷ ping_to_1 ∷ []) ++ behind)) ≡ (0, bad_checksum id) ∷ found → length noise ≡ 10
    → ForAnotherBefore noise behind
for_another_before t noise behind id other a are ten =
    let up = (between t noise behind a).by_gap a.finished in
    let events = reading protocol2 (noise ++ (joined (write_goal ∷ ping_to_1 ∷ []) ++ behind)) in
    let n = none_for events id are (length noise) ten up.out (own_id after_earlier.table) (λ z. other (z ∙ own_id_lem)) in
    let m = none_for_later events id are (length noise) ten up.out _ in
    record {
      only_packets = up.only_packets n m
          ∙ ap₂ (λ (t : List ℕ) (w : RegisteredWrite). hearing t w (packet write_goal ∷ packet ping_to_1 ∷ [])) same_start.0 same_start.1;
      alike = t.alike after_earlier fresh (since (cut noise write_goal ping_to_1 behind) 1) events noise (write_goal ∷ ping_to_1 ∷ []) good up n m
          fresh_board earlier at_start (write_goal ∷ ping_to_1 ∷ []) 1 clean_taken clean_finished refl refl;
    }

for_another : (noise : List ℕ) → ForAnotherBefore noise rest → ForAnother noise
for_another noise f = record { only_packets = f.only_packets; alike = f.alike }

-- ---- another ID

renamed_are : EachPacket protocol2 (write_id ∷ ping_to_9 ∷ [])
unfolding reduce_if shift shifts crc_byte crc_from well_after length_of body_of checksum_right front_agrees length_agrees shapeVerdict
renamed_are = (refl, (refl, tt))

renamed_good : AllWellFormed protocol2 (write_id ∷ ping_to_9 ∷ [])
renamed_good = all_well protocol2 laws (write_id ∷ ping_to_9 ∷ []) renamed_are

filled_board : boards.Fresh filled
unfolding lent_refusal state_refusal registers freshened put bytes_of
filled_board = (refl, refl)

unregistered_board : (filler : ℕ) → boards.Fresh (unregistered filler)
unfolding lent_refusal state_refusal registers freshened put bytes_of
unregistered_board filler = (refl, refl)

cuts_taken : took (model protocol2) [] (since cuts 6) ≡ (long_front ++ ping_to_2) ++ (joined (write_id ∷ ping_to_9 ∷ []) ++ ping_to_1)
unfolding after took first fed call reduce_if shift shifts crc_byte crc_from well_after length_of body_of checksum_right front_agrees length_agrees shapeVerdict
cuts_taken = refl

cuts_finished : Finished (model protocol2) [] cuts 6
unfolding after first fed call reduce_if shift shifts crc_byte crc_from well_after length_of body_of checksum_right front_agrees length_agrees shapeVerdict
cuts_finished = (4, omega arith, refl)

cuts_apart : reaches_across protocol2 (long_front ++ ping_to_2) (joined (write_id ∷ ping_to_9 ∷ []) ++ ping_to_1) ≡ false
unfolding reaches_across reduce_if shift shifts crc_byte crc_from well_after length_of body_of checksum_right front_agrees length_agrees shapeVerdict
cuts_apart = refl

cuts_read : reading protocol2 ((long_front ++ ping_to_2) ++ (joined (write_id ∷ ping_to_9 ∷ []) ++ ping_to_1))
    ≡ (7, packet ping_to_2) ∷ (17, packet write_id) ∷ (30, packet ping_to_9) ∷ (40, packet ping_to_1) ∷ []
unfolding read_fuel read_from reading reduce_if shift shifts crc_byte crc_from well_after length_of body_of checksum_right front_agrees length_agrees shapeVerdict
cuts_read = refl

clean_cuts_taken : took (model protocol2) [] (since clean_cuts 2) ≡ joined (write_id ∷ ping_to_9 ∷ [])
unfolding after took first fed call reduce_if shift shifts crc_byte crc_from well_after length_of body_of checksum_right front_agrees length_agrees shapeVerdict
clean_cuts_taken = refl

clean_cuts_finished : Finished (model protocol2) [] clean_cuts 2
unfolding after first fed call reduce_if shift shifts crc_byte crc_from well_after length_of body_of checksum_right front_agrees length_agrees shapeVerdict
clean_cuts_finished = (1, omega arith, refl)

renamed_heard : hearing fresh_table longest (packet write_id ∷ packet ping_to_9 ∷ [])
    ≡ record { table = put fresh_table device_id 9; registered = longest; replies = status 1 0x00 [] 0 ∷ status 9 0x00 (0x06 ∷ 0x04 ∷ 0x26 ∷ []) 0 ∷ [] }
unfolding hearing unstuff_after registers permits_by number_at value_at bytes_of put freshened every_byte every_touched goal_inside limits_kept write_rule write heard_instruction executed reduce_if shift shifts crc_byte crc_from well_after length_of body_of checksum_right front_agrees length_agrees shapeVerdict
renamed_heard = refl

unregistered_heard : hearing fresh_table dropped (packet write_id ∷ packet ping_to_9 ∷ [])
    ≡ record { table = put fresh_table device_id 9; registered = dropped; replies = status 1 0x00 [] 0 ∷ status 9 0x00 (0x06 ∷ 0x04 ∷ 0x26 ∷ []) 0 ∷ [] }
unfolding hearing unstuff_after registers permits_by number_at value_at bytes_of put freshened every_byte every_touched goal_inside limits_kept write_rule write heard_instruction executed reduce_if shift shifts crc_byte crc_from well_after length_of body_of checksum_right front_agrees length_agrees shapeVerdict
unregistered_heard = refl

ids : (own_id fresh_table ≡ 1) × (own_id (put fresh_table device_id 9) ≡ 9) × (id_of ping_to_2 ≡ 2) × (id_of ping_to_1 ≡ 1)
unfolding registers freshened put bytes_of
ids = (refl, refl, refl, refl)

module _ (events : List EventAt) (are : events ≡ (7, packet ping_to_2) ∷ (17, packet write_id) ∷ (30, packet ping_to_9) ∷ (40, packet ping_to_1) ∷ [])
    (out : AllOut events 17 (write_id ∷ ping_to_9 ∷ [])) where
  which_piece : (p : ℕ) (e : Event) → Memᴰ (p, e) events
      → ((p ≡ 7) × (e ≡ packet ping_to_2)) ⊎ ((p ≡ 17) ⊎ ((p ≡ 30) ⊎ ((p ≡ 40) × (e ≡ packet ping_to_1))))
  which_piece p e m =
      ⊎_elim (λ i. inl (ap (λ (f : EventAt). f.0) i, ap (λ (f : EventAt). f.1) i))
      (λ n. ⊎_elim (λ i. inr (inl (ap (λ (f : EventAt). f.0) i)))
      (λ k. ⊎_elim (λ i. inr (inr (inl (ap (λ (f : EventAt). f.0) i))))
      (λ l. ⊎_elim (λ i. inr (inr (inr (ap (λ (f : EventAt). f.0) i, ap (λ (f : EventAt). f.1) i)))) (λ none_left. absurd (Memᴰ.not-nil none_left))
      (Memᴰ.cases_cons l)) (Memᴰ.cases_cons k)) (Memᴰ.cases_cons n))
      (Memᴰ.cases_cons (subst (λ (l : List EventAt). Memᴰ {A = EventAt} (p, e) l) are m))

  sooner_to_2 : (p : ℕ) (e : Event) → Memᴰ (p, e) out.sooner → id_of_event e ≡ 2
  sooner_to_2 p e m =
      let h = out.begin_sooner p e m in
      ⊎_elim (λ i. ap id_of_event i.1 ∙ ids.2)
      (λ i. ⊎_elim (λ j. absurd (omega (arith, j))) (λ k. ⊎_elim (λ j. absurd (omega (arith, j))) (λ j. absurd (omega (arith, j.0))) k) i)
      (which_piece p e (subst (λ (l : List EventAt). Memᴰ {A = EventAt} (p, e) l) (sym out.are) (Memᴰ.append_left _ m)))

  later_to_1 : (p : ℕ) (e : Event) → Memᴰ (p, e) out.later → id_of_event e ≡ 1
  later_to_1 p e m =
      let h = out.begin_later p e m in
      ⊎_elim (λ i. absurd (omega (arith, i.0)))
      (λ i. ⊎_elim (λ j. absurd (omega (arith, j))) (λ k. ⊎_elim (λ j. absurd (omega (arith, j))) (λ j. ap id_of_event j.1 ∙ ids.3) k) i)
      (which_piece p e (subst (λ (l : List EventAt). Memᴰ {A = EventAt} (p, e) l) (sym out.are)
      (Memᴰ.append_right out.sooner (Memᴰ.append_right ((17, packet write_id) ∷ (30, packet ping_to_9) ∷ []) m))))

-- of a fresh board and of one on a clean line, with this registered write
pub record RenamedFrom (b clean : Board) (w : RegisteredWrite) : Type 0 where
  pub only_packets : shown_after b (since cuts 6) ≡ hearing fresh_table w (packet write_id ∷ packet ping_to_9 ∷ [])
  pub same_table : (shown_after b (since cuts 6)).table ≡ (hearing fresh_table w (packet write_id ∷ packet ping_to_9 ∷ [])).table
  pub alike : shown_after b (since cuts 6) ≡ shown_after clean (since clean_cuts 2)

renamed_from : InStep → (bytes clean : List ℕ) (w : RegisteredWrite)
    → boards.Fresh (board_of (lent bytes 0) fresh_table w) → boards.Fresh (board_of (lent clean 0) fresh_table w)
    → own_id (hearing fresh_table w (packet write_id ∷ packet ping_to_9 ∷ [])).table ≡ 9
    → RenamedFrom (board_of (lent bytes 0) fresh_table w) (board_of (lent clean 0) fresh_table w) w
unfolding after
renamed_from t bytes clean w begun clean_begun new_id =
    let across = (across_decided protocol2 laws (long_front ++ ping_to_2) (joined (write_id ∷ ping_to_9 ∷ []) ++ ping_to_1)).0 cuts_apart in
    let up = (t.in_step (board_of (lent bytes 0) fresh_table w) begun [] (inl refl) cuts 6 (long_front ++ ping_to_2) (write_id ∷ ping_to_9 ∷ []) ping_to_1 cuts_taken renamed_good across
    ).by_gap cuts_finished in
    let events = reading protocol2 ((long_front ++ ping_to_2) ++ (joined (write_id ∷ ping_to_9 ∷ []) ++ ping_to_1)) in
    let sooner : NoneFor (own_id fresh_table) up.out.sooner = λ p e m.
    let i = sooner_to_2 events cuts_read up.out p e m in
    not_for _ e (λ z. absurd (omega (arith, i, z, ids.0))) (λ z. absurd (omega (arith, i, z))) in
    let later : NoneFor (own_id (hearing fresh_table w (packet write_id ∷ packet ping_to_9 ∷ [])).table) up.out.later = λ p e m.
    let i = later_to_1 events cuts_read up.out p e m in
    not_for _ e (λ z. absurd (omega (arith, i, z, new_id))) (λ z. absurd (omega (arith, i, z))) in
    record {
      only_packets = up.only_packets sooner later;
      same_table = (up.same_state (λ p w m. sooner p (packet w) m) (λ p w m. later p (packet w) m)).table;
      alike = t.alike (board_of (lent bytes 0) fresh_table w) (board_of (lent clean 0) fresh_table w) (since cuts 6) events (long_front ++ ping_to_2) (write_id ∷ ping_to_9 ∷ []) renamed_good up sooner later
          clean_begun [] (inl refl) clean_cuts 2 clean_cuts_taken clean_cuts_finished refl refl;
    }

renamed : InStep → Renamed
renamed t =
    let r = renamed_from t (replicate 1030 0xAA) (replicate 1030 0) longest filled_board fresh_board (ap (λ (x : Shown). own_id x.table) renamed_heard ∙ ids.1) in
    record {
      only_packets = r.only_packets;
      table = ap (λ (x : Shown). x.table) (r.only_packets ∙ renamed_heard);
      same_table = r.same_table;
      replies = ap (λ (x : Shown). x.replies) (r.only_packets ∙ renamed_heard);
      alike = r.alike;
    }

renamed_unregistered : InStep → RenamedUnregistered
renamed_unregistered t =
    let r = renamed_from t (replicate 1030 0xAA) (replicate 1030 0) dropped (unregistered_board 0xAA) (unregistered_board 0)
    (ap (λ (x : Shown). own_id x.table) unregistered_heard ∙ ids.1) in
    record {
      only_packets = r.only_packets;
      table = ap (λ (x : Shown). x.table) (r.only_packets ∙ unregistered_heard);
      same_table = r.same_table;
      replies = ap (λ (x : Shown). x.replies) (r.only_packets ∙ unregistered_heard);
      alike = r.alike;
    }

-- ---- an idle line

read_none : reading protocol2 [] ≡ []
unfolding read_fuel read_from reading
read_none = refl

idle_taken : took (model protocol2) [] (since [] 1) ≡ []
unfolding after took first fed call
idle_taken = refl

idle_finished : Finished (model protocol2) [] [] 1
unfolding after first fed call
idle_finished = (0, omega arith, refl)

none_across : NoneAcross protocol2 [] []
unfolding reaches_across
none_across = (across_decided protocol2 laws [] []).0 refl

idle_board_finished : Finished boards (unregistered 0xAA) [] 1
unfolding after outcome lent_refusal state_refusal first fed call registers freshened put bytes_of
idle_board_finished = (0, omega arith, refl)

idle_behind : InStep → NotBehind (unregistered 0xAA) [] 1 [] [] []
unfolding after
idle_behind t = t.in_step (unregistered 0xAA) (unregistered_board 0xAA) [] (inl refl) [] 1 [] [] [] idle_taken (all_well protocol2 laws [] tt) none_across

idle_events : InStep → given boards (unregistered 0xAA) (since [] 1) ≡ []
unfolding after
idle_events t =
    let taken = (idle_behind t).all_taken in
    let promise = t.demand_3 (unregistered 0xAA) (unregistered_board 0xAA) [] (inl refl) [] 1 [] [] [] taken (all_well protocol2 laws [] tt) none_across in
    sym promise.firsts ∙ ap (map what) (promise.all idle_board_finished ∙ ap (reading protocol2) taken ∙ read_none)

idle : InStep → shown_after (unregistered 0xAA) (since [] 1) ≡ hearing fresh_table dropped []
idle t =
    let up = (idle_behind t).by_gap idle_finished in
    up.carried_out_lem
    ∙ ap (λ (l : List Event). hearing fresh_table dropped l) (sym (parts (reading protocol2 []) 0 [] up.out))
    ∙ ap (λ (l : List EventAt). hearing fresh_table dropped (map what l)) read_none

-- ---- without a gap

longer : took (model protocol2) [] (since (followed long_front ping_to_1 1030) 0) ≡ long_front ++ (joined (ping_to_1 ∷ []) ++ replicate 1020 0)
unfolding after took first fed call reduce_if shift shifts crc_byte crc_from well_after length_of body_of checksum_right front_agrees length_agrees shapeVerdict
longer = refl

silent_feed : EndsSilent (model protocol2) [] (feeds (followed long_front ping_to_1 1030)) (feed (replicate 6 0))
unfolding after first fed call reduce_if shift shifts crc_byte crc_from well_after length_of body_of checksum_right front_agrees length_agrees shapeVerdict
silent_feed = (feeds (take 2 (followed long_front ping_to_1 1030)), refl, refl)

apart_long : reaches_across protocol2 long_front (joined (ping_to_1 ∷ []) ++ replicate 1020 0) ≡ false
unfolding reaches_across reduce_if shift shifts crc_byte crc_from well_after length_of body_of checksum_right front_agrees length_agrees shapeVerdict
apart_long = refl

across_long : NoneAcross protocol2 long_front (joined (ping_to_1 ∷ []) ++ replicate 1020 0)
across_long = (across_decided protocol2 laws long_front (joined (ping_to_1 ∷ []) ++ replicate 1020 0)).0 apart_long

ninth_board : boards.Fresh ninth
unfolding lent_refusal state_refusal registers freshened put bytes_of
ninth_board = (refl, refl)

ninth_behind : InStep → NotBehind ninth (followed long_front ping_to_1 1030) 0 long_front (ping_to_1 ∷ []) (replicate 1020 0)
unfolding after
ninth_behind t =
    t.in_step ninth ninth_board [] (inl refl) (followed long_front ping_to_1 1030) 0 long_front (ping_to_1 ∷ []) (replicate 1020 0) longer ping_good across_long

long_behind : InStep → NotBehind after_earlier (followed long_front ping_to_1 1030) 0 long_front (ping_to_1 ∷ []) (replicate 1020 0)
long_behind t =
    t.in_step fresh fresh_board earlier at_start (followed long_front ping_to_1 1030) 0 long_front (ping_to_1 ∷ []) (replicate 1020 0) longer ping_good across_long

by_feed : InStep → ByFeed
by_feed t =
    let up = (ninth_behind t).by_feed refl (replicate 6 0) silent_feed (leb-true _ _ refl) in
    let sooner = map what up.out.sooner in
    let later = map what up.out.later in
    (sooner, later, up.carried_out_lem)

-- ---- demand 3 of the board itself

board_finished : Finished boards after_earlier (chunks bad_ping) 1
unfolding after outcome lent_refusal state_refusal reader_left first fed call registers freshened put bytes_of hearing unstuff_after permits_by number_at value_at every_byte every_touched goal_inside limits_kept write_rule write heard_instruction executed reduce_if shift shifts crc_byte crc_from well_after length_of body_of checksum_right front_agrees length_agrees shapeVerdict
board_finished = (0, omega arith, refl)

board_silent : EndsSilent boards after_earlier (feeds (followed long_front ping_to_1 1030)) (feed (replicate 6 0))
unfolding after outcome lent_refusal state_refusal reader_left first fed call registers freshened put bytes_of hearing unstuff_after permits_by number_at value_at every_byte every_touched goal_inside limits_kept write_rule write heard_instruction executed reduce_if shift shifts crc_byte crc_from well_after length_of body_of checksum_right front_agrees length_agrees shapeVerdict
board_silent = (feeds (take 2 (followed long_front ping_to_1 1030)), refl, refl)

arriving_taken : took boards after_earlier (since (write_goal ∷ take 7 ping_to_1 ∷ []) 0) ≡ write_goal ++ take 7 ping_to_1
unfolding took after outcome lent_refusal state_refusal reader_left first fed call registers freshened put bytes_of hearing unstuff_after permits_by number_at value_at every_byte every_touched goal_inside limits_kept write_rule write heard_instruction executed reduce_if shift shifts crc_byte crc_from well_after length_of body_of checksum_right front_agrees length_agrees shapeVerdict
arriving_taken = refl

nothing_before : NoneAcross protocol2 [] (joined (write_goal ∷ []) ++ take 7 ping_to_1)
unfolding reaches_across
nothing_before = (across_decided protocol2 laws [] (joined (write_goal ∷ []) ++ take 7 ping_to_1)).0 refl

as_reader : InStep → AsReader
as_reader t =
    let n = between t bad_ping rest asked in
    let across = (across_decided protocol2 laws bad_ping (joined (write_goal ∷ ping_to_1 ∷ []) ++ rest)).0 asked.apart in
    let promise = t.demand_3 fresh fresh_board earlier board_at_start (chunks bad_ping) 1 bad_ping (write_goal ∷ ping_to_1 ∷ []) rest n.all_taken good across in
    let reads = promise.reads in
    let by_gap = promise.out_by_gap board_finished in
    let first_good : AllWellFormed protocol2 (write_goal ∷ []) = all_well protocol2 laws (write_goal ∷ []) (packets_are.0, tt) in
    let arriving = t.demand_3 fresh fresh_board earlier board_at_start (write_goal ∷ take 7 ping_to_1 ∷ []) 0 [] (write_goal ∷ []) (take 7 ping_to_1) arriving_taken
    first_good nothing_before in
    let long = t.demand_3 fresh fresh_board earlier board_at_start (followed long_front ping_to_1 1030) 0 long_front (ping_to_1 ∷ []) (replicate 1020 0)
    (long_behind t).all_taken ping_good across_long in
    let by_bytes = long.out_by_feed refl (replicate 6 0) board_silent (leb-true _ _ refl) in
    record {
      counted = promise.counted;
      events = sym promise.firsts ∙ ap (map what) (promise.all board_finished) ∙ ap (λ (s : List ℕ). map what (reading protocol2 s)) n.all_taken ∙ ap (map what) read;
      only_packets = λ p e m lo hi. promise.only_packets p e m lo hi;
      reads = (reads.sooner, reads.later, reads.are);
      out_by_gap = (by_gap.sooner, by_gap.later, by_gap.are);
      none_arriving = arriving.none_arriving refl (drop 7 ping_to_1) (ltb-true _ _ refl) (ping_good ping_to_1 (Memᴰ.head refl));
      out_by_feed = (by_bytes.sooner, by_bytes.later, by_bytes.are);
    }

-- ---- any calls

nothing_given : given boards fresh (feed (take 7 ping_to_1) ∷ gap ∷ []) ≡ []
unfolding given after outcome lent_refusal state_refusal reader_left first fed call registers freshened put bytes_of reduce_if shift shifts crc_byte crc_from well_after length_of body_of checksum_right front_agrees length_agrees shapeVerdict
nothing_given = refl

holding_board : (filler : ℕ) → board_refusal (holding filler) ≡ None
unfolding lent_refusal state_refusal registers freshened put bytes_of
holding_board filler = refl

held_given : given boards (holding 0xAA) (feed (drop 7 ping_to_1) ∷ gap ∷ feed write_goal ∷ []) ≡ packet ping_to_1 ∷ packet write_goal ∷ []
unfolding given after outcome lent_refusal state_refusal reader_left first fed call hearing unstuff_after registers permits_by number_at value_at bytes_of put freshened every_byte every_touched goal_inside limits_kept write_rule write heard_instruction executed reduce_if shift shifts crc_byte crc_from well_after length_of body_of checksum_right front_agrees length_agrees shapeVerdict
held_given = refl

full_board : board_refusal full ≡ None
unfolding lent_refusal state_refusal registers freshened put bytes_of
full_board = refl

full_given : given boards full (gap ∷ []) ≡ packet ping_to_1 ∷ []
unfolding given after outcome lent_refusal state_refusal reader_left first fed call registers freshened put bytes_of reduce_if shift shifts crc_byte crc_from well_after length_of body_of checksum_right front_agrees length_agrees shapeVerdict
full_given = refl

full_left : (after boards full (gap ∷ [])).reader.count ≡ 1020
unfolding after outcome lent_refusal state_refusal reader_left first fed call registers freshened put bytes_of reduce_if shift shifts crc_byte crc_from well_after length_of body_of checksum_right front_agrees length_agrees shapeVerdict
full_left = refl

pub in_step_applied : InStepApplied
in_step_applied t =
    record {
      noisy = noisy t;
      for_another = for_another bad_ping_to_2 (for_another_before t bad_ping_to_2 rest 2 (λ z. absurd (omega (arith, z))) asked_of_2 read_of_2 refl);
      for_all = for_another bad_ping_to_all (for_another_before t bad_ping_to_all rest 254 (λ z. absurd (omega (arith, z))) asked_of_all read_of_all refl);
      for_all_alone = for_another_before t bad_ping_to_all [] 254 (λ z. absurd (omega (arith, z))) asked_of_all_alone read_of_all_alone refl;
      idle = idle t;
      idle_events = idle_events t;
      renamed = renamed t;
      renamed_unregistered = renamed_unregistered t;
      by_feed = by_feed t;
      as_reader = as_reader t;
      each_once = t.each_once fresh fresh_board.1 (feed (take 7 ping_to_1) ∷ gap ∷ []) ∙ ap (λ (l : List Event). hearing fresh_table longest l) nothing_given;
      each_once_held = t.each_once (holding 0xAA) (holding_board 0xAA) (feed (drop 7 ping_to_1) ∷ gap ∷ feed write_goal ∷ [])
          ∙ ap (λ (l : List Event). hearing fresh_table longest l) held_given;
      never_refused_held = t.never_refused (holding 0xAA) (holding_board 0xAA) (gap ∷ feed write_id ∷ gap ∷ feed ping_to_9 ∷ []);
      each_once_full = t.each_once full full_board (gap ∷ []) ∙ ap (λ (l : List Event). hearing fresh_table dropped l) full_given;
      never_refused_full = t.never_refused full full_board (gap ∷ feed write_id ∷ gap ∷ feed ping_to_9 ∷ []);
      never_refused = t.never_refused fresh fresh_board.1 (since (chunks bad_ping) 1);
      stays_clean = t.stays_clean fresh refl earlier;
      stays_clean_held = t.stays_clean (holding 0) refl (feed (drop 7 ping_to_1) ∷ feed rest ∷ []);
      stays_clean_full = subst (λ (n : ℕ). drop n (after boards full (gap ∷ [])).reader.bytes ≡ replicate (1030 - n) 0) full_left
          (t.stays_clean full refl (gap ∷ []));
      as_a_reader_held = t.as_a_reader (holding 0) refl (holding_board 0) gap;
      as_a_reader_full = t.as_a_reader full refl full_board gap;
      as_a_reader = t.as_a_reader fresh refl fresh_board.1 (feed (ping_to_1 ++ ping_to_1));
    }

-- ---- measurements within a packet and between two

jobs_are : jobs_of fresh steps ≡ measures (negsuc 4095) 1 ∷ hears (packet write_goal) ∷ measures (pos 166) 4 ∷ hears (packet ping_to_1) ∷ []
unfolding jobs_of after outcome lent_refusal state_refusal reader_left first fed call registers freshened put bytes_of hearing unstuff_after permits_by number_at value_at every_byte every_touched goal_inside limits_kept write_rule write heard_instruction executed reduce_if shift shifts crc_byte crc_from well_after length_of body_of checksum_right front_agrees length_agrees shapeVerdict
jobs_are = refl

taken_are : taken_in fresh steps ≡ write_goal ++ (ping_to_1 ++ [])
unfolding taken_in after outcome lent_refusal state_refusal reader_left first fed call registers freshened put bytes_of hearing unstuff_after permits_by number_at value_at every_byte every_touched goal_inside limits_kept write_rule write heard_instruction executed reduce_if shift shifts crc_byte crc_from well_after length_of body_of checksum_right front_agrees length_agrees shapeVerdict
taken_are = refl

done : doing fresh_table longest (measures (negsuc 4095) 1 ∷ hears (packet write_goal) ∷ measures (pos 166) 4 ∷ hears (packet ping_to_1) ∷ [])
    ≡ record { table = measured (put (measured fresh_table (negsuc 4095) 1) goal_position 512) (pos 166) 4; registered = longest; replies = status 1 0x80 [] 0 ∷ status 1 0x80 (0x06 ∷ 0x04 ∷ 0x26 ∷ []) 0 ∷ [] }
unfolding doing hearing unstuff_after registers permits_by number_at value_at bytes_of put freshened every_byte every_touched goal_inside limits_kept write_rule write heard_instruction executed reduce_if shift shifts crc_byte crc_from well_after length_of body_of checksum_right front_agrees length_agrees shapeVerdict
done = refl

full_jobs : jobs_of full full_steps ≡ measures (pos 166) 4 ∷ hears (packet ping_to_1) ∷ []
unfolding jobs_of after outcome lent_refusal state_refusal reader_left first fed call registers freshened put bytes_of reduce_if shift shifts crc_byte crc_from well_after length_of body_of checksum_right front_agrees length_agrees shapeVerdict
full_jobs = refl

full_taken : taken_in full full_steps ≡ []
unfolding taken_in after outcome lent_refusal state_refusal reader_left first fed call registers freshened put bytes_of reduce_if shift shifts crc_byte crc_from well_after length_of body_of checksum_right front_agrees length_agrees shapeVerdict
full_taken = refl

full_done : doing fresh_table dropped (measures (pos 166) 4 ∷ hears (packet ping_to_1) ∷ [])
    ≡ record { table = measured fresh_table (pos 166) 4; registered = dropped; replies = status 1 0x80 (0x06 ∷ 0x04 ∷ 0x26 ∷ []) 0 ∷ [] }
unfolding doing unstuff_after registers number_at value_at bytes_of put freshened heard_instruction executed length_of body_of
full_done = refl

measuring : InStepMeasured → (b : Board) → board_refusal b ≡ None → (steps : List LoopStep) (jobs : List Job) → jobs_of b steps ≡ jobs
    → (bytes : List ℕ) → taken_in b steps ≡ bytes → (shown : Shown) → doing b.table b.registered jobs ≡ shown
    → MeasuringOn b steps (calls_in steps) shown.table shown.replies (events_in jobs) bytes
measuring t b accepted steps jobs are bytes took-are shown done =
    let e = t.each_once b accepted steps ∙ ap (doing b.table b.registered) are ∙ done in
    record {
      table_after = ap (λ (x : Shown). x.table) e;
      replies_owed = ap (λ (x : Shown). x.replies) e;
      heard = ap events_in (sym are) ∙ t.same_heard b accepted steps;
      taken = sym took-are ∙ t.same_taken b accepted steps;
      reader = t.same_reader b accepted steps;
      never_refused = t.never_refused b accepted steps;
    }

pub in_step_measured_applied : InStepMeasuredApplied
in_step_measured_applied t =
    let m = measuring t fresh fresh_board.1 steps _ jobs_are _ taken_are _ done in (
      record {
        table = m.table_after;
        replies = m.replies_owed;
        heard = m.heard;
        taken = m.taken;
        reader = m.reader;
        never_refused = m.never_refused;
      },
      measuring t full full_board full_steps _ full_jobs _ full_taken _ full_done,
    )
