-- What comes over the line never leads to a 21, 22 or 23, whatever it is and whatever the buffers are.
use Rattle.std.specs.Prelude.{None}
use Rattle.std.specs.Prelude.{◌≡◌, ◌≤◌, leb}
use mathlib.Core.List.{List, [], ◌∷◌, Memᴰ}
use Rattle.answers.specs.Refusals.{first_failing}
use Rattle.answers.specs.declared.Refusal.TheVariants.{BadRegistered}
use Rattle.device_instructions.specs.declared.RegisteredWrite.{RegisteredWrite}
use Rattle.device_calls.specs.Calls.{State, DeviceCall, fresh, measurement, device, exchange, carry, carry_packet, on_board, lend, after_all, refusal_in}

-- the registered write that the caller lent last
abbrev pub lent_by : RegisteredWrite → DeviceCall → RegisteredWrite
lent_by w fresh = w
lent_by w (measurement position error) = w
lent_by w (device heard id body out) = w
lent_by w (exchange packet body out) = w
lent_by w (carry heard id body) = w
lent_by w (carry_packet packet body) = w
lent_by w (on_board reader c) = w
lent_by w (lend new) = new

abbrev pub last_lent : RegisteredWrite → List DeviceCall → RegisteredWrite
last_lent w [] = w
last_lent w (call ∷ calls) = last_lent (lent_by w call) calls

-- from a state that is not refused [D42]
pub record StaysAccepted : Type 0 where
  -- no list of calls in which every lent count is at most 8 leads to 21, 22 or 23
  pub stays : (s : State) (calls : List DeviceCall) → refusal_in s ≡ None → ((w : RegisteredWrite) → Memᴰ (lend w) calls → w.count ≤ 8)
      → refusal_in (after_all s calls) ≡ None
  -- and any list leads to 23 or to no refusal, by the count that was lent last
  pub by_lent : (s : State) (calls : List DeviceCall) → refusal_in s ≡ None
      → refusal_in (after_all s calls) ≡ first_failing ((leb (last_lent s.registered calls).count 8, BadRegistered) ∷ [])
