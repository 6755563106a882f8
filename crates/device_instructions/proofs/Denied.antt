-- What a read or a write that is denied answers.
use Rattle.std.specs.Prelude.{Err, Ok, Result, IsErrAnd}
use mathlib.Core.Path.{◌≡◌, ap}
use mathlib.Core.List.{[]}
use Prim.Native.Nat.{ℕ}
use Rattle.table_rules.specs.Outcomes.{denial_number}
use Rattle.table_rules.specs.declared.Denied.{Denied}
use Rattle.device_instructions.specs.Results.{done_with, done_in, fault_number}
use Rattle.device_instructions.specs.declared.ReplyData.{ReplyData}
use Rattle.device_instructions.specs.declared.Fault.{Fault}
use Rattle.device_instructions.specs.declared.RegisteredWrite.{RegisteredWrite}

pub denied : (r : Result ReplyData Fault) (d : Denied) → IsErrAnd r (λ f. fault_number f ≡ denial_number d) → (w : RegisteredWrite)
    → done_in r w ≡ done_with (denial_number d) [] w
denied (Err f) d e w = ap (λ (n : ℕ). done_with n [] w) e
denied (Ok reply) d e w = absurd e
