use Rattle.std.specs.Prelude.{Err, Result}
use Rattle.std.specs.Prelude.{None, Some}
use mathlib.Core.Path.{◌≡◌, refl, ap, subst, ◌∙◌}
use mathlib.Core.Bool.{Bool, true, ◌&&◌}
use mathlib.Core.List.Memᴰ
use mathlib.Core.List.{List, [], ◌∷◌, ◌++◌, Memᴰ}
use mathlib.Core.Logic.{⊎_elim}
use Prim.Native.Nat.{ℕ, ◌≤◌}
use native.Mathlib.Omega.{arith}
use lib.Dec.{leb}
use lib.IntN.{ℤ, pos}
use lib.ListN.{take, replicate}
use borrow.Author.Tests.{leb-true, ltb-true}
use Rattle.answers.specs.declared.Refusal.{Refusal}
use Rattle.answers.specs.declared.Refusal.TheVariants.{BadStuffing, NoRoom, NotATable, BadRegistered, ShortReply}
use Rattle.lists.specs.Numbers.{number_at, bytes_of}
use Rattle.lists.proofs.Bools.{and_left, and_right, both_ways}
use Rattle.crc.specs.Crc.{reduce_if, shift, shifts, crc_byte, crc_from}
use Rattle.stuffing.specs.Stuffing.{stuff_after, well_after, well_stuffed, unstuff_after}
use Rattle.stuffing.specs.Answers.{removal_refusal}
use Rattle.reading.specs.Calls.{first, fed, call}
use Rattle.reading.proofs.Decided.{well}
use Rattle.packet_front.specs.Front.{good_id, id_of, length_of}
use Rattle.packet_front.specs.Header.{front_agrees, length_agrees}
use Rattle.packet_rules.specs.Shape.{verdict as shapeVerdict}
use Rattle.packet.specs.Packet.{body_of, checksum_right, WellFormed}
use Rattle.packet.specs.Verdict.{protocol2}
use Rattle.packet.proofs.Laws.{laws}
use Rattle.packet_encoder.specs.Writing.{with_checksum, packet_of}
use Rattle.packet_encoder.specs.Encoding.{encode_refusal}
use Rattle.table_registers.specs.Registers.{registers, permits_by, every_byte, device_id}
use Rattle.table_items.specs.Items.{value_at, put}
use Rattle.table_rules.specs.Rules.{every_touched, goal_inside, limits_kept, write_rule, read_rule}
use Rattle.table_access.specs.Fresh.{freshened, fresh_table}
use Rattle.device_parameters.specs.Entries.{occurs, search_from}
use Rattle.device_instructions.specs.Instructions.{read, write, reg_write, action}
use Rattle.device_instructions.specs.Registered.{dropped, same_limits, LimitsOf}
use Rattle.device_instructions.specs.declared.RegisteredWrite.{RegisteredWrite}
use Rattle.device_dispatch.specs.Reactions.{heard_instruction}
use Rattle.device_dispatch.specs.declared.Heard.TheVariants.{Packet, BadChecksum}
use Rattle.device.specs.Device.{executed}
use Rattle.device.specs.Answers.{replied, state_refusal, room_refusal, call_refusal}
use Rattle.device_packet.specs.Exchange.{id_heard}
use Rattle.board.specs.Board.{lent_refusal, outcome}
use Rattle.device_calls.specs.Calls.{State, DeviceCall, fresh, measurement, device, exchange, carry, carry_packet, on_board, lend, state_of, after_all, refusal_in}
use Rattle.cases.specs.Exchanges.{goal_at_512, registered_table, goal_too_large, goal_registered, ping_wrong_checksum}
use Rattle.cases.specs.Cases.{ping_to_all, write_goal}
use Rattle.device_applications.specs.Devices.{room, short, body_room, longest, behind_fresh, each_kind, start, none_start, ended, stored, on_stored, ended_stored, too_many, StaysAcceptedApplied, restored, GoalWithinLimitsApplied, write_too_large, other_limits, alerted, marked, sync_limits, cut, limits_registered, limited, DevicePromisesApplied, SplitApplied, seven_bytes, six_bytes, write_marked, badly_stuffed, to253, longest_packet, ExchangePromisesApplied}
use Rattle.device.specs.declared.Sent.{Sent}

-- every lent count is at most 8, by a test
abbrev lent_fits : DeviceCall → Bool
lent_fits fresh = true
lent_fits (measurement position error) = true
lent_fits (device heard id body out) = true
lent_fits (exchange packet body out) = true
lent_fits (carry heard id body) = true
lent_fits (carry_packet packet body) = true
lent_fits (on_board reader c) = true
lent_fits (lend w) = leb w.count 8

abbrev all_fit : List DeviceCall → Bool
all_fit [] = true
all_fit (c ∷ cs) = lent_fits c && all_fit cs

all_lent : (cs : List DeviceCall) → all_fit cs ≡ true → (w : RegisteredWrite) → Memᴰ (lend w) cs → w.count ≤ 8
all_lent [] e w m = absurd (Memᴰ.not-nil m)
all_lent (c ∷ cs) e w m =
    ⊎_elim (λ i. leb-true w.count 8 (ap lent_fits i ∙ and_left (lent_fits c) (all_fit cs) e)) (λ n. all_lent cs (and_right (lent_fits c) (all_fit cs) e) w n)
    (Memᴰ.cases_cons m)

ends : after_all start each_kind ≡ ended
unfolding reduce_if shift shifts crc_byte crc_from stuff_after well_after unstuff_after length_of body_of checksum_right with_checksum packet_of front_agrees length_agrees registers permits_by number_at value_at bytes_of put freshened every_byte every_touched goal_inside limits_kept write_rule read_rule read write same_limits reg_write action heard_instruction executed state_refusal room_refusal call_refusal removal_refusal id_heard shapeVerdict outcome lent_refusal first fed call
ends = refl

none_ends : after_all none_start each_kind ≡ ended
unfolding reduce_if shift shifts crc_byte crc_from stuff_after well_after unstuff_after length_of body_of checksum_right with_checksum packet_of front_agrees length_agrees registers permits_by number_at value_at bytes_of put freshened every_byte every_touched goal_inside limits_kept write_rule read_rule read write same_limits reg_write action heard_instruction executed state_refusal room_refusal call_refusal removal_refusal id_heard shapeVerdict outcome lent_refusal first fed call
none_ends = refl

stored_ends : after_all stored on_stored ≡ ended_stored
unfolding reduce_if shift shifts crc_byte crc_from stuff_after well_after unstuff_after length_of body_of checksum_right with_checksum packet_of front_agrees length_agrees registers permits_by number_at value_at bytes_of put freshened every_byte every_touched goal_inside limits_kept write_rule read_rule read write same_limits reg_write action heard_instruction executed state_refusal room_refusal call_refusal removal_refusal id_heard shapeVerdict outcome lent_refusal first fed call
stored_ends = refl

accepted_start : refusal_in start ≡ None
unfolding put bytes_of freshened registers state_refusal
accepted_start = refl

accepted_none_start : refusal_in none_start ≡ None
unfolding put bytes_of freshened registers state_refusal
accepted_none_start = refl

accepted_stored : refusal_in stored ≡ None
unfolding put bytes_of freshened registers state_refusal
accepted_stored = refl

pub stays_accepted_applied : StaysAcceptedApplied
stays_accepted_applied t = (
  ends,
  subst (λ (s : State). refusal_in s ≡ None) ends (t.stays start each_kind accepted_start (all_lent each_kind refl)),
  subst (λ (s : State). refusal_in (state_of s.table too_many) ≡ Some BadRegistered) ends (t.by_lent start (each_kind ++ lend too_many ∷ []) accepted_start),
  stored_ends,
  subst (λ (s : State). refusal_in s ≡ None) stored_ends (t.stays stored on_stored accepted_stored (all_lent on_stored refl)),
  subst (λ (s : State). refusal_in (state_of s.table too_many) ≡ Some BadRegistered) stored_ends (t.by_lent stored (on_stored ++ lend too_many ∷ []) accepted_stored),
  none_ends,
  t.stays none_start each_kind accepted_none_start (all_lent each_kind refl),
  t.by_lent none_start (each_kind ++ lend too_many ∷ []) accepted_none_start,
)

pub goal_within_limits_applied : GoalWithinLimitsApplied
unfolding put bytes_of freshened registers goal_inside value_at number_at state_refusal
goal_within_limits_applied t = (
  subst (λ (s : State). goal_inside s.table ≡ true) ends (t.stays start each_kind refl refl),
  subst (λ (s : State). goal_inside s.table ≡ true) stored_ends (t.stays stored on_stored refl refl),
  t.always (state_of (replicate 136 0xFF) longest) behind_fresh refl,
  t.from_reboot restored on_stored refl refl,
  t.stays none_start on_stored refl refl,
  t.always none_start behind_fresh refl,
  t.from_reboot none_start on_stored refl refl,
)

-- contradictory answers
not_refused : (n slot : ℕ) (refusal : Refusal) → ¬ (◌≡◌ {A = Result Sent Refusal} (replied n slot) (Err refusal))
not_refused n slot refusal e = let z : ◌≡◌ {A = ℕ} 0 1 = cc in absurd (omega arith)

other_limits_lem : ¬ LimitsOf other_limits goal_registered
unfolding put bytes_of freshened registers value_at number_at
other_limits_lem l = let z : ◌≡◌ {A = ℤ} (pos 4095) (pos 4000) = l.same_max in let y : ◌≡◌ {A = ℕ} 4095 4000 = cc in absurd (omega arith)

other_limits_to_all : ¬ LimitsOf other_limits longest
unfolding put bytes_of freshened registers value_at number_at
other_limits_to_all l = let z : ◌≡◌ {A = ℤ} (pos 0) (pos 4000) = l.same_max in let y : ◌≡◌ {A = ℕ} 0 4000 = cc in absurd (omega arith)

pub device_promises_applied : DevicePromisesApplied
unfolding reduce_if shift shifts crc_byte crc_from stuff_after well_after unstuff_after length_of body_of checksum_right with_checksum packet_of front_agrees length_agrees registers permits_by number_at value_at bytes_of put freshened every_byte every_touched goal_inside limits_kept write_rule read_rule read write same_limits reg_write action occurs search_from heard_instruction executed state_refusal room_refusal call_refusal removal_refusal id_heard shapeVerdict
device_promises_applied t =
    let refused_call = t.demand_1.refused_call goal_at_512 goal_registered Packet 1 (0x05 ∷ []) short ShortReply refl in
    let refused-cut = t.demand_1.refused_call cut too_many BadChecksum 1 [] short NotATable refl in
    let refused_write = t.demand_1.refused_instruction registered_table longest Packet 1 write_too_large room 11 0 refl (λ e. absurd (omega (arith, e))) in
    let refused_sum = t.demand_1.refused_instruction alerted goal_registered BadChecksum 1 [] room 11 0 refl (λ e. absurd (omega (arith, e))) in
    let refused_action = t.demand_1.refused_instruction registered_table longest Packet 254 (0x05 ∷ []) room 0 0 refl (λ e. absurd (omega (arith, e))) in
    let written = t.status_written alerted goal_too_large Packet 1 (0x05 ∷ []) room 11 0 refl (ltb-true _ _ refl) in
    let none-refused = t.demand_1.refused_call fresh_table dropped Packet 1 (0x05 ∷ []) short ShortReply refl in
    let none-acted = t.demand_1.refused_instruction fresh_table dropped Packet 1 (0x05 ∷ []) room 11 0 refl (λ e. absurd (omega (arith, e))) in
    let none_written = t.status_written fresh_table dropped Packet 1 (0x05 ∷ []) room 11 0 refl (ltb-true _ _ refl) in
    let written-sum = t.status_written alerted goal_registered BadChecksum 1 [] room 11 0 refl (ltb-true _ _ refl) in
    let written-long = t.status_written marked longest Packet 254 sync_limits room 21 2 refl (ltb-true _ _ refl) in
    let done = t.action_needs_same_limits.done registered_table goal_registered Packet 1 (0x05 ∷ []) room 11 0 refl refl refl in
    let done-to-all = t.action_needs_same_limits.done limited limits_registered Packet 254 (0x05 ∷ []) room 0 0 refl refl refl in
    let changed = t.action_needs_same_limits.changed other_limits goal_registered Packet 1 (0x05 ∷ []) room 11 0 refl refl other_limits_lem in
    let changed-to-all = t.action_needs_same_limits.changed other_limits longest Packet 254 (0x05 ∷ []) room 0 0 refl refl other_limits_to_all in
    record {
      call_table_lem = refused_call.same_table;
      call_registered_lem = refused_call.same_registered_lem;
      call_reply = refused_call.same_reply;
      cut_table = refused-cut.same_table;
      cut_registered = refused-cut.same_registered_lem;
      cut_reply = refused-cut.same_reply;
      write_table = refused_write.left_table;
      write_registered = refused_write.left_registered;
      checksum_table = refused_sum.left_table;
      checksum_registered = refused_sum.left_registered;
      action_table = refused_action.left_table;
      action_registered = refused_action.left_registered;
      error_byte_lem = t.demand_1.in_status alerted goal_too_large Packet 1 (0x05 ∷ []) room 11 0 refl (ltb-true _ _ refl);
      well_formed = written.formed;
      own_id_lem = written.own_id_lem;
      none_registered = none-refused.same_registered_lem;
      none_table = none-acted.left_table;
      none_byte = t.demand_1.in_status fresh_table dropped Packet 1 (0x05 ∷ []) room 11 0 refl (ltb-true _ _ refl);
      none_id = none_written.own_id_lem;
      checksum_byte = t.demand_1.in_status alerted goal_registered BadChecksum 1 [] room 11 0 refl (ltb-true _ _ refl);
      checksum_formed = written-sum.formed;
      checksum_id = written-sum.own_id_lem;
      long_byte = t.demand_1.in_status marked longest Packet 254 sync_limits room 21 2 refl (ltb-true _ _ refl);
      long_formed = written-long.formed;
      long_id = written-long.own_id_lem;
      few = written-long.short;
      slot = t.slot_within.in_one_lem (put fresh_table device_id 252) longest Packet 254 (0x01 ∷ []) room 14 252 refl;
      first_slot = t.slot_within.in_two_lem (put fresh_table device_id 252) longest Packet 254 (0x01 ∷ []);
      checksum_slot = t.slot_within.in_one_lem alerted goal_registered BadChecksum 1 [] room 11 0 refl;
      first_checksum_slot = t.slot_within.in_two_lem alerted goal_registered BadChecksum 1 [];
      none_slot = t.slot_within.in_one_lem (put fresh_table device_id 252) dropped Packet 254 (0x01 ∷ []) room 14 252 refl;
      none_first_slot = t.slot_within.in_two_lem (put fresh_table device_id 252) dropped Packet 254 (0x01 ∷ []);
      same_min = done.same_min;
      same_max = done.same_max;
      same_min_to_all = done-to-all.same_min;
      same_max_to_all = done-to-all.same_max;
      limits_number = changed.number;
      limits_table = changed.left_table;
      limits_registered_lem = changed.left_registered;
      limits_number_to_all = changed-to-all.number;
      limits_table_to_all = changed-to-all.left_table;
      limits_registered_to_all = changed-to-all.left_registered;
    }

write_well : WellFormed write_goal
unfolding reduce_if shift shifts crc_byte crc_from well_after length_of body_of checksum_right front_agrees length_agrees shapeVerdict
write_well = well protocol2 laws write_goal refl

to_all_well : WellFormed ping_to_all
unfolding reduce_if shift shifts crc_byte crc_from well_after length_of body_of checksum_right front_agrees length_agrees shapeVerdict
to_all_well = well protocol2 laws ping_to_all refl

marked_well : WellFormed write_marked
unfolding reduce_if shift shifts crc_byte crc_from well_after length_of body_of checksum_right front_agrees length_agrees shapeVerdict
marked_well = well protocol2 laws write_marked refl

long_well : WellFormed longest_packet
unfolding reduce_if shift shifts crc_byte crc_from well_after length_of body_of checksum_right front_agrees length_agrees shapeVerdict
long_well = well protocol2 laws longest_packet refl

wrong_sum : ¬ WellFormed ping_wrong_checksum
unfolding reduce_if shift shifts crc_byte crc_from body_of checksum_right
wrong_sum w = both_ways (checksum_right ping_wrong_checksum) w.summed refl

wrong_stuffing : ¬ WellFormed badly_stuffed
unfolding well_after body_of
wrong_stuffing w = both_ways (well_stuffed (body_of badly_stuffed)) w.stuffed refl

wrong_id : ¬ WellFormed to253
wrong_id w = both_ways (good_id (id_of to253)) w.identified refl

-- other refusals
not_short : ¬ (◌≡◌ {A = Result Sent Refusal} (Err BadRegistered) (Err ShortReply))
not_short e = let z : ◌≡◌ {A = ℕ} 23 24 = cc in absurd (omega arith)

pub split_applied : SplitApplied
unfolding reduce_if shift shifts crc_byte crc_from stuff_after well_after unstuff_after length_of body_of checksum_right with_checksum packet_of front_agrees length_agrees registers permits_by number_at value_at bytes_of put freshened every_byte every_touched goal_inside limits_kept write_rule read_rule read write same_limits reg_write action occurs search_from heard_instruction executed state_refusal room_refusal call_refusal removal_refusal id_heard shapeVerdict encode_refusal
split_applied t =
    let ping = t fresh_table longest Packet 1 (0x01 ∷ []) room (not_refused 14 0 ShortReply) in
    let none_ping = t fresh_table dropped Packet 1 (0x01 ∷ []) room (not_refused 14 0 ShortReply) in
    let act = t registered_table goal_registered Packet 1 (0x05 ∷ []) room (not_refused 11 0 ShortReply) in
    let sum = t alerted longest BadChecksum 1 [] room (not_refused 11 0 ShortReply) in
    let long = t marked longest Packet 254 sync_limits room (not_refused 21 2 ShortReply) in
    let stopped = t fresh_table too_many Packet 1 (0x01 ∷ []) short not_short in
    record {
      ping_answer = ping.same_answer_lem;
      ping_reply = ap (take 14) ping.same_reply;
      action_table = act.same_table;
      action_registered = act.same_registered_lem;
      none_ping_answer = none_ping.same_answer_lem;
      none_ping_reply = ap (take 14) none_ping.same_reply;
      checksum_answer = sum.same_answer_lem;
      checksum_table = sum.same_table;
      checksum_registered = sum.same_registered_lem;
      checksum_reply = ap (take 11) sum.same_reply;
      long_answer = long.same_answer_lem;
      long_reply = ap (take 21) long.same_reply;
      stopped_answer = stopped.same_answer_lem;
      stopped_table = stopped.same_table;
      stopped_registered = stopped.same_registered_lem;
      stopped_reply = stopped.same_reply;
    }

pub exchange_promises_applied : ExchangePromisesApplied
unfolding reduce_if shift shifts crc_byte crc_from stuff_after well_after unstuff_after length_of body_of checksum_right with_checksum packet_of front_agrees length_agrees registers permits_by number_at value_at bytes_of put freshened every_byte every_touched goal_inside limits_kept write_rule read_rule read write same_limits reg_write action heard_instruction executed state_refusal room_refusal call_refusal removal_refusal id_heard shapeVerdict
exchange_promises_applied t =
    let room_is = t.only_packets.with_room write_goal seven_bytes write_well (leb-true _ _ refl) in
    let heard = t.as_device.passed_on fresh_table longest write_goal seven_bytes room room_is in
    let marked-room = t.only_packets.with_room write_marked seven_bytes marked_well (leb-true _ _ refl) in
    let marked-heard = t.as_device.passed_on fresh_table longest write_marked seven_bytes room marked-room in
    let none-marked = t.as_device.passed_on fresh_table dropped write_marked seven_bytes room marked-room in
    let many = t.as_device.passed_on fresh_table too_many write_goal seven_bytes short room_is in
    let stopped = t.as_device.stopped fresh_table longest write_goal six_bytes room NoRoom refl in
    let none_stopped = t.as_device.stopped fresh_table dropped write_goal six_bytes room NoRoom refl in
    let bad = t.as_device.stopped fresh_table too_many badly_stuffed body_room short BadStuffing refl in
    let bad_unheard = t.only_packets.others fresh_table too_many badly_stuffed body_room short wrong_stuffing in
    let nobody = t.only_packets.others fresh_table longest to253 body_room room wrong_id in
    let none_nobody = t.only_packets.others fresh_table dropped to253 body_room room wrong_id in
    let unheard = t.only_packets.others fresh_table longest ping_wrong_checksum body_room room wrong_sum in
    let accepted = t.only_packets.never_refused fresh_table longest write_goal (replicate 1022 0xAA) room write_well (leb-true _ _ refl) (leb-true _ _ refl) refl in
    let none_accepted = t.only_packets.never_refused fresh_table dropped write_goal (replicate 1022 0xAA) room write_well (leb-true _ _ refl) (leb-true _ _ refl) refl in
    let long = t.only_packets.never_refused marked longest longest_packet (replicate 1022 0xAA) room long_well (leb-true _ _ refl) (leb-true _ _ refl) refl in
    record {
      its_id = t.only_packets.its_id write_goal write_well;
      to_all = t.only_packets.its_id ping_to_all to_all_well;
      answer = heard.answer;
      new_table = heard.new_table;
      registered = heard.registered;
      reply = ap (take 11) heard.reply;
      new_body = heard.new_body;
      first_answer = heard.first_answer;
      first_reply = heard.first_reply;
      first_table = heard.first_table;
      first_registered = heard.first_registered;
      first_body = heard.first_body;
      marked_answer = marked-heard.answer;
      marked_reply = ap (take 11) marked-heard.reply;
      marked_body = marked-heard.new_body;
      none_marked_answer = none-marked.answer;
      none_marked_reply = ap (take 11) none-marked.reply;
      none_marked_body = none-marked.new_body;
      many_answer = many.answer;
      many_table = many.new_table;
      many_body = many.new_body;
      many_first_answer = many.first_answer;
      many_first_reply = many.first_reply;
      many_first_body = many.first_body;
      stopped = stopped.answer;
      stopped_table = stopped.same_table;
      stopped_registered = stopped.same_registered_lem;
      stopped_reply = stopped.same_reply;
      stopped_body = stopped.same_body;
      stopped_first = stopped.first_answer;
      stopped_first_reply = stopped.first_reply;
      stopped_first_table = stopped.first_table;
      stopped_first_registered = stopped.first_registered;
      stopped_first_body = stopped.first_body;
      none_stopped = none_stopped.answer;
      none_stopped_table = none_stopped.same_table;
      none_stopped_registered = none_stopped.same_registered_lem;
      none_stopped_reply = none_stopped.same_reply;
      none_stopped_body = none_stopped.same_body;
      none_stopped_first = none_stopped.first_answer;
      none_stopped_first_reply = none_stopped.first_reply;
      none_stopped_first_table = none_stopped.first_table;
      none_stopped_first_registered = none_stopped.first_registered;
      none_stopped_first_body = none_stopped.first_body;
      bad_answer = bad.answer;
      bad_table = bad.same_table;
      bad_registered = bad.same_registered_lem;
      bad_reply = bad.same_reply;
      bad_body = bad.same_body;
      bad_first_answer = bad.first_answer;
      bad_first_reply = bad.first_reply;
      bad_first_table = bad.first_table;
      bad_first_registered = bad.first_registered;
      bad_first_body = bad.first_body;
      bad_unheard = bad_unheard.silent;
      bad_unheard_table = bad_unheard.same_table;
      unheard = unheard.silent;
      unheard_table = unheard.same_table;
      unheard_registered = unheard.same_registered_lem;
      unheard_reply = unheard.same_reply;
      unheard_first_table = unheard.first_table;
      unheard_first_registered = unheard.first_registered;
      unheard_first_reply = unheard.first_reply;
      nobody = nobody.silent;
      nobody_table = nobody.same_table;
      nobody_registered = nobody.same_registered_lem;
      nobody_reply = nobody.same_reply;
      nobody_first_table = nobody.first_table;
      nobody_first_registered = nobody.first_registered;
      nobody_first_reply = nobody.first_reply;
      none_nobody = none_nobody.silent;
      none_nobody_table = none_nobody.same_table;
      none_nobody_registered = none_nobody.same_registered_lem;
      none_nobody_reply = none_nobody.same_reply;
      none_nobody_first_table = none_nobody.first_table;
      none_nobody_first_registered = none_nobody.first_registered;
      none_nobody_first_reply = none_nobody.first_reply;
      accepted = accepted.0;
      first_accepted = accepted.1;
      long_accepted = long.0;
      first_long_accepted = long.1;
      none_accepted = none_accepted.0;
      none_first_accepted = none_accepted.1;
    }
