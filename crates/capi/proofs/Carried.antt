-- What a first call returns, by its three parts.
use Rattle.std.specs.Prelude.{Ok}
use Rattle.std.specs.Prelude.{Err, Result}
use mathlib.Core.Path.{◌≡◌, refl, ap, ap₂, ◌∙◌}
use Rattle.device_instructions.specs.declared.RegisteredWrite.{RegisteredWrite}
use Rattle.device_status.specs.declared.Reply.{Reply}
use Rattle.numbers.specs.declared.DeviceNumbers.{DeviceNumbers}
use Rattle.numbers.specs.Exported.{device_numbers, carried_numbers}
use Rattle.device.specs.declared.Sent.{Sent}
use Rattle.answers.specs.declared.Refusal.{Refusal}
use Rattle.device.specs.Answers.{replied}

pub by_parts : (a b : Result Sent Refusal) (r s : Reply) (v w : RegisteredWrite) → a ≡ b → r ≡ s → v ≡ w → carried_numbers a r v ≡ carried_numbers b s w
by_parts a b r s v w e f g =
    ap₂ (λ (x : Result Sent Refusal) (y : Reply). carried_numbers x y v) e f ∙ ap (λ (z : RegisteredWrite). carried_numbers b s z) g

-- the registered write that a device call returns
numbers_registered : (a : Result Sent Refusal) (w : RegisteredWrite) → (device_numbers a w).registered ≡ w
numbers_registered (Ok sent) w = refl
numbers_registered (Err refusal) w = refl

pub its_registered : (r : DeviceNumbers) {a b : Result Sent Refusal} {v w : RegisteredWrite} → a ≡ b → v ≡ w → r ≡ device_numbers a v → r.registered ≡ w
its_registered r {a} {b} {v} {w} e f g = ap (λ (x : DeviceNumbers). x.registered) g ∙ numbers_registered a v ∙ f
