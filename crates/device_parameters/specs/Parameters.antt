-- The parameters of an instruction: words, what the entries of lists are, and the list of a Sync instruction.
use Rattle.std.specs.Prelude.{None, Option}
use Rattle.std.specs.Prelude.{true, not, cond, List, ℕ, ◌+◌, ◌*◌, get_or, eqb}
use Rattle.device_parameters.specs.declared.EntryKind.{EntryKind}
use Rattle.device_parameters.specs.declared.EntryKind.TheVariants.{Plain, BulkRead, BulkWrite}
use Rattle.device_parameters.specs.declared.OwnEntry.{OwnEntry}
use Rattle.device_parameters.specs.Entries.{EntryShape, search}

-- two bytes of the parameters, low byte first [D5]
abbrev pub word_at : List ℕ → ℕ → ℕ
word_at params i = get_or params i 0 + get_or params (i + 1) 0 * 256

-- an ID and bytes, all of one size
abbrev pub plain : ℕ → EntryShape
plain size = record { size = λ rest. size; allowed = λ rest. true }

-- ID, address, length, which is not 0 [D44 D45]
abbrev pub bulk_read : EntryShape
bulk_read = record { size = λ rest. 5; allowed = λ rest. not (eqb (word_at rest 3) 0) }

-- and then as many bytes [D44 D45]
abbrev pub bulk_write : EntryShape
bulk_write = record { size = λ rest. 5 + word_at rest 3; allowed = λ rest. not (eqb (word_at rest 3) 0) }

abbrev pub entry_of : EntryKind → EntryShape
entry_of (Plain n) = plain (1 + n)
entry_of BulkRead = bulk_read
entry_of BulkWrite = bulk_write

-- address, length, entries: without a length there is no list [D22 D23]
abbrev pub sync_search : ℕ → ℕ → List ℕ → Option OwnEntry
sync_search size own params = cond (eqb (word_at params 2) 0) None (search (plain size) own params 4)
