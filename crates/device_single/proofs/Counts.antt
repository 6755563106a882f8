-- Instructions that leave the table.
use mathlib.Core.Path.{◌≡◌, refl}
use mathlib.Core.Bool.{Bool, true, false}
use mathlib.Core.List.{List}
use Prim.Native.Nat.{ℕ}
use lib.Dec.{eqb}
use lib.ListN.{length}
use Rattle.device_instructions.specs.Instructions.{Effect, ping, read}
use Rattle.device_instructions.specs.declared.RegisteredWrite.{RegisteredWrite}
use Rattle.device_parameters.specs.Parameters.{word_at}
use Rattle.device_replies.specs.Replies.{counted}
use Rattle.device_single.specs.Single.{heard_ping, heard_read}

module _ (table : List ℕ) (w : RegisteredWrite) where
  counted_keeps : (right : Bool) (e : Effect) → table ≡ e.table → table ≡ (counted right table w e).table
  counted_keeps true e h = h
  counted_keeps false e h = refl

  pub ping_keeps : (all : Bool) (params : List ℕ) → table ≡ (heard_ping all table w params).effect.table
  ping_keeps all params = counted_keeps (eqb (length params) 0) (ping table w) refl

  pub read_keeps : (all : Bool) (params : List ℕ) → table ≡ (heard_read all table w params).effect.table
  unfolding read
  read_keeps all params = counted_keeps (eqb (length params) 4) (read table w (word_at params 0) (word_at params 2)) refl
