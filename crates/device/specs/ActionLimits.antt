-- An Action carries the registered write out only under the limits at which it was registered.
use Rattle.std.specs.Prelude.{◌≡◌, Bool, true, ◌&&◌, ◌||◌, List, ℕ, eqb, set}
use Rattle.device_instructions.specs.Registered.{dropped, LimitsOf}
use Rattle.device_dispatch.specs.Reactions.{own_id}
use Rattle.device_laws.specs.Refused.{acts_on}
use Rattle.device.specs.Answers.{replied, call_answer, call_table, call_registered}
use Rattle.device.specs.Demand1.{error_number}
use Rattle.device_instructions.specs.declared.RegisteredWrite.{RegisteredWrite}
use Rattle.device_dispatch.specs.declared.Heard.{Heard}

-- an Action without parameters, to the device or to all, that finds a registered write [D49]
abbrev pub acts_here : List ℕ → RegisteredWrite → Heard → ℕ → List ℕ → Bool
acts_here table w heard id body = (eqb id (own_id table) || eqb id 254) && acts_on w heard body

-- 06; nothing but byte 69 is written, and all of the registered write is 0 [D49]
pub record DroppedByLimits (table : List ℕ) (w : RegisteredWrite) (heard : Heard) (id : ℕ) (body out : List ℕ) : Type 0 where
  pub number : error_number table w heard id body ≡ 0x06
  pub left_table : call_table table w heard id body out ≡ set table 69 0
  pub left_registered : call_registered table w heard id body out ≡ dropped

-- [D49]
pub record ActionNeedsSameLimits : Type 0 where
  -- one that is not refused has found them as they were
  pub done : (table : List ℕ) (w : RegisteredWrite) (heard : Heard) (id : ℕ) (body out : List ℕ) (n slot : ℕ)
      → call_answer table w heard id body out ≡ replied n slot → acts_here table w heard id body ≡ true
      → error_number table w heard id body ≡ 0 → LimitsOf table w
  -- and under others it is refused before the write rule
  pub changed : (table : List ℕ) (w : RegisteredWrite) (heard : Heard) (id : ℕ) (body out : List ℕ) (n slot : ℕ)
      → call_answer table w heard id body out ≡ replied n slot → acts_here table w heard id body ≡ true
      → ¬ LimitsOf table w → DroppedByLimits table w heard id body out
