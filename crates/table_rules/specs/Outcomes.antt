-- What becomes of a read or a write, as a number of RULES.
use Rattle.std.specs.Prelude.{None, Option, Some, Result, Ok, Err}
use Rattle.std.specs.Prelude.{cond, List, [], ◌∷◌, ℕ, eqb, length}
use Rattle.answers.specs.Refusals.{number_of, first_failing, unless_refused}
use Rattle.answers.specs.declared.Refusal.{Refusal}
use Rattle.answers.specs.declared.Refusal.TheVariants.{NotATable}
use Rattle.table_registers.specs.Registers.{table_size}
use Rattle.table_rules.specs.declared.Denied.{Denied}
use Rattle.table_rules.specs.declared.Denied.TheVariants.{DataRange, DataLength, DataLimit, NoAccess, NotTable}

-- error numbers of a status packet, and 21, which is the caller's fault [K5 N5 N11]
abbrev pub denial_number : Denied → ℕ
denial_number DataRange = 0x04
denial_number DataLength = 0x05
denial_number DataLimit = 0x06
denial_number NoAccess = 0x07
denial_number NotTable = number_of NotATable

-- the number where it is denied [K5]
abbrev pub refusal_of : {A : Type 0} → Result A Denied → Option ℕ
refusal_of (Ok done) = None
refusal_of (Err denied) = Some (denial_number denied)

-- A table of another size is refused before anything else, and stays as it is: every function on a table goes by these.
-- [N5 N13]
abbrev pub in_table : List ℕ → Option ℕ → Option ℕ
in_table table next = cond (eqb (length table) table_size) next (Some (number_of NotATable))

-- the refusal of a change that any table takes [N5 N13]
abbrev pub size_refusal : List ℕ → Option Refusal
size_refusal table = first_failing ((eqb (length table) table_size, NotATable) ∷ [])

abbrev pub on_table : List ℕ → List ℕ → List ℕ
on_table table new = unless_refused (size_refusal table) table new
