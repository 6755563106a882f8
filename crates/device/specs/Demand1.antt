-- Demand 1: a refusal leaves table and registered write as they were, except that an Action has dropped the one it found.
use Rattle.std.specs.Prelude.{Err}
use Rattle.std.specs.Prelude.{◌≡◌, List, ℕ, ◌<◌, get_or}
use Rattle.answers.specs.declared.Refusal.{Refusal}
use Rattle.device_status.specs.Status.{error_byte}
use Rattle.device_laws.specs.Refused.{table_if_refused, registered_if_refused}
use Rattle.device.specs.Device.{hardware_error_in, carry_out}
use Rattle.device.specs.Answers.{replied, call_answer, call_table, call_registered, call_out}
use Rattle.device_instructions.specs.declared.RegisteredWrite.{RegisteredWrite}
use Rattle.device_dispatch.specs.declared.Heard.{Heard}

-- the error number of an instruction, 0 for none: that of its status, or of the status that it would have where it is not answered
-- [D40]
abbrev pub error_number : List ℕ → RegisteredWrite → Heard → ℕ → List ℕ → ℕ
error_number table w heard id body = (carry_out table w heard id body).error

module _ (table : List ℕ) (w : RegisteredWrite) (heard : Heard) (id : ℕ) (body out : List ℕ) where
  pub record LeftAlone : Type 0 where
    pub same_table : call_table table w heard id body out ≡ table
    pub same_registered_lem : call_registered table w heard id body out ≡ w
    pub same_reply : call_out table w heard id body out ≡ out

  -- byte 69 is 0 and the registered write dropped, where an Action without parameters found one; else all is as it was
  pub record LeftByRefusal : Type 0 where
    pub left_table : call_table table w heard id body out ≡ table_if_refused table w heard body
    pub left_registered : call_registered table w heard id body out ≡ registered_if_refused w heard body

-- [D40]
pub record Demand1 : Type 0 where
  -- a call that is refused
  pub refused_call : (table : List ℕ) (w : RegisteredWrite) (heard : Heard) (id : ℕ) (body out : List ℕ) (refusal : Refusal)
      → call_answer table w heard id body out ≡ Err refusal → LeftAlone table w heard id body out
  -- an instruction that is refused, whether or not that is answered
  pub refused_instruction : (table : List ℕ) (w : RegisteredWrite) (heard : Heard) (id : ℕ) (body out : List ℕ) (n slot : ℕ)
      → call_answer table w heard id body out ≡ replied n slot → ¬ (error_number table w heard id body ≡ 0)
      → LeftByRefusal table w heard id body out
  -- the number is the one that a status carries: byte 8 is the error byte
  pub in_status : (table : List ℕ) (w : RegisteredWrite) (heard : Heard) (id : ℕ) (body out : List ℕ) (n slot : ℕ)
      → call_answer table w heard id body out ≡ replied n slot → 0 < n
      → get_or (call_out table w heard id body out) 8 0
      ≡ error_byte (error_number table w heard id body) (hardware_error_in (call_table table w heard id body out))
