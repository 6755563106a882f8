-- All cases of the table hold. The checker runs one test over all of them, and a law leads from that test to the claim of each.
use Rattle.std.specs.Prelude.{Ok}
use Rattle.std.specs.Prelude.{Err, Result}
use Rattle.std.specs.Prelude.{None, Option, Some}
use mathlib.Core.Path.{◌≡◌, refl, sym, ap, ap₂, ◌∙◌, subst}
use mathlib.Core.Bool.{Bool, true, false, not, ◌&&◌}
use mathlib.Core.List.Memᴰ
use mathlib.Core.List.{List, [], ◌∷◌, ◌++◌, Memᴰ}
use mathlib.Core.Logic.{⊎_elim}
use Prim.Native.Nat.{ℕ, ◌-◌}
use native.Mathlib.Omega.{arith}
use lib.Dec.{eqb}
use lib.IntN.{ℤ}
use lib.ListN.{length, replicate}
use lib.Seq.{take-length}
use borrow.Author.Tests.{eqb-true, not-true}
use Rattle.answers.specs.Refusals.{number_of}
use Rattle.answers.specs.declared.Refusal.{Refusal}
use Rattle.answers.proofs.Laws.{same_number}
use Rattle.lists.proofs.Bools.{and_left, and_right, both_ways}
use Rattle.lists.proofs.Decided.{same, same_lists}
use Rattle.reading.specs.Rules.{Verdict, is_packet, is_bad_checksum, is_waiting, is_nothing}
use Rattle.reading.specs.Reading.{read_fuel, read_from, reading}
use Rattle.reading.specs.Promise.{joined}
use Rattle.reading.specs.Across.{reaches_across}
use Rattle.reading.proofs.Across.{across_decided}
use Rattle.crc.specs.Crc.{reduce_if, shift, shifts, crc_byte, crc_from}
use Rattle.stuffing.specs.Stuffing.{stuff_after, stuff, well_after, well_stuffed, unstuff_after, unstuff}
use Rattle.stuffing.specs.Answers.{removal_refusal}
use Rattle.packet_front.specs.Front.{length_of}
use Rattle.packet.specs.Packet.{body_of, checksum_right, WellFormed}
use Rattle.packet_front.specs.Header.{front_agrees, length_agrees}
use Rattle.packet.specs.Verdict.{verdict, protocol2}
use Rattle.packet.proofs.Laws.{laws}
use Rattle.packet_encoder.specs.Writing.{with_checksum, packet_of}
use Rattle.packet_rules.specs.Shape.{verdict as shapeVerdict}
use Rattle.packet_v1.specs.Packet.{sum, checksum_right as sumRight}
use Rattle.packet_v1.specs.Verdict.{protocol1, mercury, front_agrees as frontAgreesV1, length_agrees as lengthAgreesV1}
use Rattle.packet_encoder_v1.specs.Writing.{packet_of as packetV1Of}
use Rattle.log_index.specs.Last.{last_packet, last_from, index_from}
use Rattle.log_layout.specs.Log.{laid, directory, log_of}
use Rattle.table_registers.specs.Registers.{registers, permits_by}
use Rattle.lists.specs.Numbers.{number_at, bytes_of}
use Rattle.table_items.specs.Items.{same as sameNumber, value_at, put}
use Rattle.table_items.proofs.Same.{same_equal}
use Rattle.table_access.specs.Fresh.{freshened}
use Rattle.table_registers.specs.Registers.{every_byte}
use Rattle.table_rules.specs.Rules.{every_touched, goal_inside, limits_kept, write_rule, read_rule}
use Rattle.table_resets.specs.Resets.{rebooted, reset_rom}
use Rattle.device_instructions.specs.Instructions.{read, write, reg_write, action, factory_reset}
use Rattle.device_instructions.specs.Registered.{same_limits}
use Rattle.device_parameters.specs.Entries.{occurs, search_from}
use Rattle.device_dispatch.specs.Reactions.{heard_instruction}
use Rattle.device.specs.Device.{executed}
use Rattle.device.specs.Answers.{replied, state_refusal, room_refusal, call_refusal, call_answer, call_table, call_registered, call_out}
use Rattle.device_dispatch.specs.declared.Heard.TheVariants.{Packet, BadChecksum}
use Rattle.device_packet.specs.Exchange.{id_heard, heard_of}
use Rattle.device.specs.Demand1.{error_number}
use Rattle.plan.specs.Goals.{goals_within, goals_refusal}
use Rattle.plan.specs.Planner.{entries_from, list_bytes, packets_from, plan_of}
use Rattle.device_instructions.specs.declared.RegisteredWrite.{RegisteredWrite}
use Rattle.cases.specs.Exchanges.{Lent, answer_to, left_after, goal_registered}
use Rattle.cases.specs.Cases.{Case, packet, stuffing, exchange, refusal, bad_checksum, log, plan, apart, across, packet_v1, only_p1, Claim, table, CasesHold}
use Rattle.device.specs.declared.Sent.{Sent}

-- ---- equality as a test

abbrev is_packet_of : Verdict → ℕ → Bool
is_packet_of (is_packet m) n = eqb m n
is_packet_of (is_bad_checksum id) n = false
is_packet_of is_waiting n = false
is_packet_of is_nothing n = false

packet_of_lem : (v : Verdict) (n : ℕ) → is_packet_of v n ≡ true → v ≡ is_packet n
packet_of_lem (is_packet m) n e = ap is_packet (eqb-true m n e)
packet_of_lem (is_bad_checksum id) n e = let z : ◌≡◌ {A = ℕ} 0 1 = cc in absurd (omega arith)
packet_of_lem is_waiting n e = let z : ◌≡◌ {A = ℕ} 0 1 = cc in absurd (omega arith)
packet_of_lem is_nothing n e = let z : ◌≡◌ {A = ℕ} 0 1 = cc in absurd (omega arith)

abbrev is_none : Verdict → Bool
is_none (is_packet m) = false
is_none (is_bad_checksum id) = false
is_none is_waiting = false
is_none is_nothing = true

none_is : (v : Verdict) → is_none v ≡ true → v ≡ is_nothing
none_is (is_packet m) e = let z : ◌≡◌ {A = ℕ} 0 1 = cc in absurd (omega arith)
none_is (is_bad_checksum id) e = let z : ◌≡◌ {A = ℕ} 0 1 = cc in absurd (omega arith)
none_is is_waiting e = let z : ◌≡◌ {A = ℕ} 0 1 = cc in absurd (omega arith)
none_is is_nothing e = refl

abbrev accepted : Option Refusal → Bool
accepted None = true
accepted (Some r) = false

is_accepted : (o : Option Refusal) → accepted o ≡ true → o ≡ None
is_accepted None e = refl
is_accepted (Some r) e = let z : ◌≡◌ {A = ℕ} 0 1 = cc in absurd (omega arith)

abbrev same_registered : RegisteredWrite → RegisteredWrite → Bool
same_registered v w =
    eqb v.address w.address
    && (eqb v.count w.count && (same v.bytes w.bytes && (sameNumber v.min w.min && sameNumber v.max w.max)))

same_registered_lem : (v w : RegisteredWrite) → same_registered v w ≡ true → v ≡ w
same_registered_lem v w e =
    let a = eqb v.address w.address in
    let n = eqb v.count w.count in
    let b = same v.bytes w.bytes in
    let low = sameNumber v.min w.min in
    let high = sameNumber v.max w.max in
    let r = and_right a (n && (b && (low && high))) e in
    let q = and_right n (b && (low && high)) r in
    let l = and_right b (low && high) q in
    ap₂ (λ (x y : ℕ). record { address = x; count = y; bytes = v.bytes; min = v.min; max = v.max })
    (eqb-true v.address w.address (and_left a (n && (b && (low && high))) e))
    (eqb-true v.count w.count (and_left n (b && (low && high)) r))
    ∙ ap (λ (x : List ℕ). record { address = w.address; count = w.count; bytes = x; min = v.min; max = v.max })
    (same_lists v.bytes w.bytes (and_left b (low && high) q))
    ∙ ap₂ (λ (x y : ℤ). record { address = w.address; count = w.count; bytes = w.bytes; min = x; max = y })
    (same_equal v.min w.min (and_left low high l)) (same_equal v.max w.max (and_right low high l))

abbrev same_answer : Result Sent Refusal → Result Sent Refusal → Bool
same_answer (Ok a) (Ok b) = eqb a.count b.count && eqb a.slot b.slot
same_answer (Ok a) (Err r) = false
same_answer (Err r) (Ok b) = false
same_answer (Err r) (Err s) = eqb (number_of r) (number_of s)

same_answer_lem : (a b : Result Sent Refusal) → same_answer a b ≡ true → a ≡ b
same_answer_lem (Ok a) (Ok b) e =
    ap₂ replied (eqb-true a.count b.count (and_left (eqb a.count b.count) (eqb a.slot b.slot) e))
    (eqb-true a.slot b.slot (and_right (eqb a.count b.count) (eqb a.slot b.slot) e))
same_answer_lem (Ok a) (Err r) e = let z : ◌≡◌ {A = ℕ} 0 1 = cc in absurd (omega arith)
same_answer_lem (Err r) (Ok b) e = let z : ◌≡◌ {A = ℕ} 0 1 = cc in absurd (omega arith)
same_answer_lem (Err r) (Err s) e = ap Err (same_number r s (eqb-true (number_of r) (number_of s) e))

abbrev same_lent : Lent → Lent → Bool
same_lent k l =
    same k.table l.table
    && (same_registered k.registered l.registered && (same k.body l.body && same k.reply l.reply))

same_lent_lem : (k l : Lent) → same_lent k l ≡ true → k ≡ l
same_lent_lem k l e =
    let t = same k.table l.table in
    let w = same_registered k.registered l.registered in
    let b = same k.body l.body in
    let o = same k.reply l.reply in
    let r = and_right t (w && (b && o)) e in
    let q = and_right w (b && o) r in
    ap₂ (λ (x : List ℕ) (v : RegisteredWrite). record { table = x; registered = v; body = k.body; reply = k.reply })
    (same_lists k.table l.table (and_left t (w && (b && o)) e))
    (same_registered_lem k.registered l.registered (and_left w (b && o) r))
    ∙ ap₂ (λ (x y : List ℕ). record { table = l.table; registered = l.registered; body = x; reply = y })
    (same_lists k.body l.body (and_left b o q)) (same_lists k.reply l.reply (and_right b o q))

-- ---- the test of a case, and of the table

abbrev right : Case → Bool
right (packet id body bytes) = same (packet_of id body) bytes && is_packet_of (verdict bytes) (length bytes)
right (stuffing body stuffed) = same (stuff body) stuffed && (well_stuffed stuffed && same (unstuff stuffed) body)
right (exchange bytes before answer after) = same_answer (answer_to bytes before) answer && same_lent (left_after bytes before) after
right (refusal bytes before number) = eqb (error_number before.table before.registered Packet (heard_of bytes).id (heard_of bytes).body) number
right (bad_checksum id table status) =
    same_answer (call_answer table goal_registered BadChecksum id [] (replicate 32 0xAA)) (replied (length status) 0)
    && (same (call_table table goal_registered BadChecksum id [] (replicate 32 0xAA)) table
    && (same_registered (call_registered table goal_registered BadChecksum id [] (replicate 32 0xAA)) goal_registered
    && same (call_out table goal_registered BadChecksum id [] (replicate 32 0xAA)) (status ++ replicate (32 - length status) 0xAA)))
right (log segments numbers n) = same (log_of segments) (laid numbers (joined segments)) && eqb (length (log_of segments)) n
right (plan goals bytes) = accepted (goals_refusal goals) && same (plan_of goals) bytes
right (apart noise beyond) = not (reaches_across protocol2 noise beyond)
right (across noise beyond) = reaches_across protocol2 noise beyond
right (packet_v1 id body bytes) =
    same (packetV1Of id body) bytes
    && (is_packet_of (protocol1.verdict bytes) (length bytes) && is_packet_of (mercury.verdict bytes) (length bytes))
right (only_p1 bytes) = is_packet_of (protocol1.verdict bytes) (length bytes) && is_none (mercury.verdict bytes)

claimed : (c : Case) → right c ≡ true → Claim c
claimed (packet id body bytes) e =
    let a = same (packet_of id body) bytes in
    let b = is_packet_of (verdict bytes) (length bytes) in
    let v = packet_of_lem (verdict bytes) (length bytes) (and_right a b e) in (
      same_lists (packet_of id body) bytes (and_left a b e),
      v,
      subst WellFormed (take-length bytes) (laws.sound bytes (length bytes) v).2,
    )
claimed (stuffing body stuffed) e =
    let a = same (stuff body) stuffed in
    let b = well_stuffed stuffed in
    let c = same (unstuff stuffed) body in
    let r = and_right a (b && c) e in
    (same_lists (stuff body) stuffed (and_left a (b && c) e), and_left b c r, same_lists (unstuff stuffed) body (and_right b c r))
claimed (exchange bytes before answer after) e =
    let a = same_answer (answer_to bytes before) answer in
    let b = same_lent (left_after bytes before) after in
    (same_answer_lem (answer_to bytes before) answer (and_left a b e), same_lent_lem (left_after bytes before) after (and_right a b e))
claimed (refusal bytes before number) e = eqb-true (error_number before.table before.registered Packet (heard_of bytes).id (heard_of bytes).body) number e
claimed (bad_checksum id table status) e =
    let out : List ℕ = replicate 32 0xAA in
    let a = same_answer (call_answer table goal_registered BadChecksum id [] out) (replied (length status) 0) in
    let t = same (call_table table goal_registered BadChecksum id [] out) table in
    let w = same_registered (call_registered table goal_registered BadChecksum id [] out) goal_registered in
    let o = same (call_out table goal_registered BadChecksum id [] out) (status ++ replicate (32 - length status) 0xAA) in
    let r = and_right a (t && (w && o)) e in
    let q = and_right t (w && o) r in (
      same_answer_lem (call_answer table goal_registered BadChecksum id [] out) (replied (length status) 0) (and_left a (t && (w && o)) e),
      same_lists (call_table table goal_registered BadChecksum id [] out) table (and_left t (w && o) r),
      same_registered_lem (call_registered table goal_registered BadChecksum id [] out) goal_registered (and_left w o q),
      same_lists (call_out table goal_registered BadChecksum id [] out) (status ++ replicate (32 - length status) 0xAA) (and_right w o q),
    )
claimed (log segments numbers n) e =
    let a = same (log_of segments) (laid numbers (joined segments)) in
    let b = eqb (length (log_of segments)) n in (
      same_lists (log_of segments) (laid numbers (joined segments)) (and_left a b e),
      eqb-true (length (log_of segments)) n (and_right a b e),
    )
claimed (plan goals bytes) e =
    let a = accepted (goals_refusal goals) in
    let b = same (plan_of goals) bytes in
    (is_accepted (goals_refusal goals) (and_left a b e), same_lists (plan_of goals) bytes (and_right a b e))
claimed (apart noise beyond) e = (across_decided protocol2 laws noise beyond).0 (not-true (reaches_across protocol2 noise beyond) e)
claimed (across noise beyond) e =
    λ n. both_ways (reaches_across protocol2 noise beyond) e ((across_decided protocol2 laws noise beyond).1 n)
claimed (packet_v1 id body bytes) e =
    let a = same (packetV1Of id body) bytes in
    let b = is_packet_of (protocol1.verdict bytes) (length bytes) in
    let c = is_packet_of (mercury.verdict bytes) (length bytes) in
    let r = and_right a (b && c) e in (
      same_lists (packetV1Of id body) bytes (and_left a (b && c) e),
      packet_of_lem (protocol1.verdict bytes) (length bytes) (and_left b c r),
      packet_of_lem (mercury.verdict bytes) (length bytes) (and_right b c r),
    )
claimed (only_p1 bytes) e =
    let a = is_packet_of (protocol1.verdict bytes) (length bytes) in
    let b = is_none (mercury.verdict bytes) in
    (packet_of_lem (protocol1.verdict bytes) (length bytes) (and_left a b e), none_is (mercury.verdict bytes) (and_right a b e))

abbrev all_right : List Case → Bool
all_right [] = true
all_right (c ∷ cs) = right c && all_right cs

each : (cs : List Case) → all_right cs ≡ true → (c : Case) → Memᴰ c cs → Claim c
each [] e c m = absurd (Memᴰ.not-nil m)
each (d ∷ cs) e c m =
    ⊎_elim (λ i. subst Claim (sym i) (claimed d (and_left (right d) (all_right cs) e)))
    (λ i. each cs (and_right (right d) (all_right cs) e) c i) (Memᴰ.cases_cons m)

-- the test is computed here
pub cases_hold : CasesHold
unfolding reaches_across read_fuel read_from reading last_packet last_from index_from laid directory log_of reduce_if shift shifts crc_byte crc_from stuff_after well_after unstuff_after length_of body_of checksum_right with_checksum packet_of front_agrees length_agrees registers permits_by number_at value_at bytes_of put freshened every_byte every_touched goal_inside limits_kept write_rule read_rule read write same_limits reg_write action rebooted reset_rom factory_reset occurs search_from heard_instruction executed state_refusal room_refusal call_refusal removal_refusal id_heard shapeVerdict sum sumRight frontAgreesV1 lengthAgreesV1 packetV1Of goals_within goals_refusal entries_from list_bytes packets_from
cases_hold = each table refl
