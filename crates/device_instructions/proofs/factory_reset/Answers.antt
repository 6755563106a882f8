use mathlib.Core.Path.{refl}
use Rattle.device_instructions.specs.Instructions.{factory_reset}
use Rattle.device_instructions.proofs.Options.{option_is, option_other}
use Rattle.device_instructions.proofs.factory_reset.Goals as goal

pub returns-in-255 : goal.returns-in-255
unfolding factory_reset
returns-in-255 c = let both = option_is _ _ c.if-table-ne-TABLE_BYTES.false _ _ _ 0xFF _ refl c.in-255.is c.reset_with.ensures.value c.reset_with.ensures.table_after in record { value = both.0; table_after = both.1 }

pub returns-in-1 : goal.returns-in-1
unfolding factory_reset
returns-in-1 c = let both = option_is _ _ c.if-table-ne-TABLE_BYTES.false _ _ _ 0x01 _ refl c.in-1.is c.reset_with-in-1.ensures.value c.reset_with-in-1.ensures.table_after in record { value = both.0; table_after = both.1 }

pub returns-in-2 : goal.returns-in-2
unfolding factory_reset
returns-in-2 c = let both = option_is _ _ c.if-table-ne-TABLE_BYTES.false _ _ _ 0x02 _ refl c.in-2.is c.reset_with-in-2.ensures.value c.reset_with-in-2.ensures.table_after in record { value = both.0; table_after = both.1 }

pub returns-in_default : goal.returns-in_default
returns-in_default c = let n = c.in_default.in_default-own.rest in let both = option_other _ _ c.if-table-ne-TABLE_BYTES.false _ _ _ n.0.0.1 n.0.1 n.1 refl refl in record { value = both.0; table_after = both.1 }
