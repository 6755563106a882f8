-- For the private functions: how far nothing is left out.
use Rattle.std.specs.Prelude.{◌≡◌, List, ◌++◌, ℕ, ◌≤◌, length, take, drop}
use Rattle.stuffing.specs.Stuffing.{unstuff}

-- the first n bytes stay, and what follows is as if it stood alone
abbrev pub Plain : List ℕ → ℕ → Type 0
Plain bytes n = (n ≤ length bytes) × (unstuff bytes ≡ take n bytes ++ unstuff (drop n bytes))
