-- What the functions answer: the reply and what is carried out, as the code holds them.
use Rattle.std.specs.Prelude.{Err, Ok, Result}
use Rattle.std.specs.Prelude.{cond, List, ℕ, leb}
use Rattle.answers.specs.declared.Refusal.{Refusal}
use Rattle.device_instructions.specs.Results.{Done, fault_number}
use Rattle.device_instructions.specs.declared.Fault.{Fault}
use Rattle.device_instructions.specs.declared.ReplyData.{ReplyData}
use Rattle.device_replies.specs.Replies.{ReplyRule, silent, speaks}
use Rattle.device_replies.specs.Results.{Told}
use Rattle.device_status.specs.Status.{silence, error_byte}
use Rattle.device_status.specs.declared.Reply.{Reply}
use Rattle.device.specs.Answers.{replied}
use Rattle.device.specs.Device.{Carried, hardware_error_in}
use Rattle.device.specs.declared.CarriedOut.{CarriedOut}
use Rattle.device.specs.declared.Sent.{Sent}

-- the error number, 0 for none
abbrev pub number_in : Result ReplyData Fault → ℕ
number_in (Ok reply) = 0
number_in (Err fault) = fault_number fault

abbrev pub reply_as : ReplyRule → List ℕ → ℕ → ℕ → Done → Reply
reply_as silent after own level done = silence
reply_as (speaks least slot) after own level done =
    cond (leb least level)
    (record {
      speaks = 1;
      id = own;
      error = error_byte done.error (hardware_error_in after);
      count = done.count;
      bytes = done.bytes;
      slot = slot;
    })
    silence

-- the reply of a reaction, by the table that it left
abbrev pub reply_to : List ℕ → ℕ → ℕ → Told → Reply
reply_to after own level r = reply_as r.replying after own level r.done

-- what is carried out, but for table and registered write
abbrev pub carried_of : Carried → CarriedOut
carried_of c = record { reply = c.reply; error = c.error }

-- the refusal of a call that sends nothing
abbrev pub nothing_sent : {A : Type 0} → Result A Refusal → Result Sent Refusal
nothing_sent (Ok done) = replied 0 0
nothing_sent (Err refusal) = Err refusal

-- the reply that waits: silence beside a refusal
abbrev pub reply_in : Result CarriedOut Refusal → Reply
reply_in (Ok carried) = carried.reply
reply_in (Err refusal) = silence

-- and the error number, 0 beside a refusal
abbrev pub error_in : Result CarriedOut Refusal → ℕ
error_in (Ok carried) = carried.error
error_in (Err refusal) = 0
