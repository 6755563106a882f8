-- Every list of calls leaves an accepted table, and a registered write whose count is as good as the one that was lent last.
use Rattle.std.specs.Prelude.{None, Option, Some}
use mathlib.Core.Path.{◌≡◌, refl, sym, ap, ◌∙◌}
use mathlib.Core.Bool.{Bool}
use mathlib.Core.List.{List, [], ◌∷◌, Memᴰ}
use Prim.Native.Nat.{ℕ, ◌≤◌}
use lib.Dec.{leb}
use lib.ListN.{length}
use borrow.Author.Tests.{le-leb, eq-eqb}
use Rattle.answers.specs.Refusals.{first_failing}
use Rattle.answers.specs.declared.Refusal.{Refusal}
use Rattle.answers.specs.declared.Refusal.TheVariants.{BadRegistered}
use Rattle.table_registers.specs.Registers.{table_size}
use Rattle.device_dispatch.specs.Reactions.{own_id}
use Rattle.device_instructions.proofs.Fit.{FitTable, fit_kept}
use Rattle.stuffing.specs.Answers.{removal_refusal}
use Rattle.reading.specs.Calls.{Call, call}
use Rattle.packet.specs.Packet.{body_of}
use Rattle.packet.specs.Verdict.{protocol2}
use Rattle.reader_records.specs.declared.Reader.{Reader}
use Rattle.reader_records.specs.Records.{held_in}
use Rattle.device_instructions.specs.Registered.{kept_by}
use Rattle.device.specs.Answers.{state_refusal}
use Rattle.device.proofs.Calls.{state_accepted}
use Rattle.device.proofs.Stays.{carry_count, call_count}
use Rattle.device_instructions.specs.declared.RegisteredWrite.{RegisteredWrite}
use Rattle.device_dispatch.specs.declared.Heard.TheVariants.{Packet}
use Rattle.device_packet.specs.Exchange.{heard_of, body_refusal}
use Rattle.board.specs.Board.{board_of, board_refusal, outcome_unless, outcome}
use Rattle.board.proofs.Refusals.{accepted, any_accepted}
use Rattle.device_calls.specs.Calls.{State, DeviceCall, fresh, measurement, device, exchange, carry, carry_packet, on_board, lend, after_call, after_all, refusal_in}
use Rattle.device_calls.specs.Stays.{lent_by, last_lent, StaysAccepted}
use Rattle.device_calls.proofs.Kept.{after_keeps}

-- ---- one call

-- of a call on a packet, by what removing the stuffing refuses
unless_count : (r : Option Refusal) (old new : RegisteredWrite) → leb new.count 8 ≡ leb old.count 8 → leb (kept_by r old new).count 8 ≡ leb old.count 8
unless_count None old new e = e
unless_count (Some number) old new e = refl

-- of a board's call, by its refusal: a registered write with a count above 8 stays
board_count : (reader : Reader) (table : List ℕ) (w : RegisteredWrite) (c : Call)
    → leb (outcome (board_of reader table w) c).board.registered.count 8 ≡ leb w.count 8
unfolding outcome
board_count reader table w c = by (board_refusal (board_of reader table w)) refl
  where
    by : (r : Option Refusal) → board_refusal (board_of reader table w) ≡ r → leb (outcome_unless r (board_of reader table w) c).board.registered.count 8 ≡ leb w.count 8
    by None f =
        let e = (accepted (board_of reader table w) f).state in
        le-leb _ 8 (state_accepted _ _ (any_accepted table w e (call protocol2 (held_in reader) c).answer)).short
        ∙ sym (le-leb w.count 8 (state_accepted table w e).short)
    by (Some number) f = refl

-- the count is as good as that of the registered write that was lent last
after_count : (s : State) (w : RegisteredWrite) → leb s.registered.count 8 ≡ leb w.count 8 → (call : DeviceCall)
    → leb (after_call s call).registered.count 8 ≡ leb (lent_by w call).count 8
after_count s w e fresh = e
after_count s w e (measurement position error) = e
after_count s w e (device heard id body out) = call_count s.table s.registered heard id body out ∙ e
after_count s w e (exchange packet body out) =
    unless_count (body_refusal s.table s.registered packet body out) s.registered _
    (call_count s.table s.registered Packet (heard_of packet).id (heard_of packet).body out)
    ∙ e
after_count s w e (carry heard id body) = carry_count s.table s.registered heard id body ∙ e
after_count s w e (carry_packet packet body) =
    unless_count (removal_refusal (body_of packet) body) s.registered _
    (carry_count s.table s.registered Packet (heard_of packet).id (heard_of packet).body)
    ∙ e
after_count s w e (on_board reader c) = board_count reader s.table s.registered c ∙ e
after_count s w e (lend new) = refl

-- ---- a list of calls

fit_refusal : (s : State) → FitTable s.table → refusal_in s ≡ first_failing ((leb s.registered.count 8, BadRegistered) ∷ [])
unfolding state_refusal
fit_refusal s f = rw (eq-eqb (length s.table) table_size f.sized, le-leb (own_id s.table) 252 f.known)

refusal_after : (calls : List DeviceCall) (s : State) → FitTable s.table → (w : RegisteredWrite) → leb s.registered.count 8 ≡ leb w.count 8
    → refusal_in (after_all s calls) ≡ first_failing ((leb (last_lent w calls).count 8, BadRegistered) ∷ [])
refusal_after [] s f w e = fit_refusal s f ∙ ap (λ (b : Bool). first_failing ((b, BadRegistered) ∷ [])) e
refusal_after (call ∷ calls) s f w e =
    refusal_after calls (after_call s call) (after_keeps FitTable fit_kept s f call) (lent_by w call) (after_count s w e call)

-- the one that was lent last is one of those lent
last_short : (calls : List DeviceCall) (w : RegisteredWrite) → w.count ≤ 8 → ((v : RegisteredWrite) → Memᴰ (lend v) calls → v.count ≤ 8)
    → (last_lent w calls).count ≤ 8
last_short [] w short each = short
last_short (call ∷ calls) w short each = last_short calls (lent_by w call) (by_call call each) (λ v m. each v (Memᴰ.tail m))
  where
    by_call : (call : DeviceCall) → ((v : RegisteredWrite) → Memᴰ (lend v) (call ∷ calls) → v.count ≤ 8) → (lent_by w call).count ≤ 8
    by_call fresh each = short
    by_call (measurement position error) each = short
    by_call (device heard id body out) each = short
    by_call (exchange packet body out) each = short
    by_call (carry heard id body) each = short
    by_call (carry_packet packet body) each = short
    by_call (on_board reader c) each = short
    by_call (lend new) each = each new (Memᴰ.head refl)

by_lent : (s : State) (calls : List DeviceCall) → refusal_in s ≡ None
    → refusal_in (after_all s calls) ≡ first_failing ((leb (last_lent s.registered calls).count 8, BadRegistered) ∷ [])
by_lent s calls e =
    let a = state_accepted s.table s.registered e in
    refusal_after calls s (record { sized = a.sized; known = a.known }) s.registered refl

pub stays_accepted : StaysAccepted
stays_accepted =
    record {
      stays = λ s calls e each.
          by_lent s calls e
          ∙ rw (le-leb (last_lent s.registered calls).count 8 (last_short calls s.registered (state_accepted s.table s.registered e).short each));
      by_lent = by_lent;
    }
