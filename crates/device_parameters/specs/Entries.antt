-- The search for the own entry in a list of entries that each begin with an ID. What an entry is, and where the list begins, are
-- given. The list is judged to its end: an entry that is not allowed or cut short, an ID above 252 or one that stood before make it
-- no list at all.
use Rattle.std.specs.Prelude.{None, Option, Some}
use Rattle.std.specs.Prelude.{Bool, false, not, cond, ◌&&◌, ◌||◌, List, [], ◌∷◌, ℕ, zero, suc, ◌+◌, leb, eqb, length, drop, get_or}
use Rattle.device_parameters.specs.declared.OwnEntry.{OwnEntry}

-- the own entry that is found: its index among the entries, and its offset in the parameters
abbrev pub entry_at : ℕ → ℕ → Option OwnEntry
entry_at slot offset = Some (record { slot = slot; offset = offset })

-- of the bytes from an entry's first on: how many are the entry, and whether it is allowed beside its ID
pub record EntryShape : Type 0 where
  pub size : List ℕ → ℕ
  pub allowed : List ℕ → Bool

-- how many bytes the entry is, if it is allowed and all of it is there
abbrev pub size_here : EntryShape → List ℕ → Option ℕ
size_here e rest = cond (e.allowed rest && leb (e.size rest) (length rest)) (Some (e.size rest)) None

unfoldable pub occurs : ℕ → List ℕ → Bool
occurs id [] = false
occurs id (x ∷ xs) = eqb id x || occurs id xs

-- the entry at `at` is allowed and whole, and its ID is allowed and not among those of the entries before it [D23 D45]
abbrev pub entry_good : EntryShape → List ℕ → ℕ → List ℕ → Bool
entry_good e params at passed =
    e.allowed (drop at params)
    && (leb (at + e.size (drop at params)) (length params) && (leb (get_or params at 0) 252 && not (occurs (get_or params at 0) passed)))

-- `found` is the own entry among those before `at`, whose IDs are `passed`; an entry has a byte at least, so that as many
-- steps as there are bytes are enough [D23 D34 D45]
unfoldable pub search_from : EntryShape → ℕ → List ℕ → ℕ → ℕ → List ℕ → Option OwnEntry → Option OwnEntry
search_from e own params zero at passed found = cond (leb (length params) at) found None
search_from e own params (suc steps) at passed found =
    cond (leb (length params) at) found
    (cond (entry_good e params at passed)
    (search_from e own params steps (at + e.size (drop at params)) (get_or params at 0 ∷ passed)
    (cond (eqb (get_or params at 0) own) (entry_at (length passed) at) found))
    None)

-- a list that begins at `from`: at the end of the parameters or past it there is none [D24 D46 D47]
abbrev pub search : EntryShape → ℕ → List ℕ → ℕ → Option OwnEntry
search e own params from = search_from e own params (length params) from [] None
