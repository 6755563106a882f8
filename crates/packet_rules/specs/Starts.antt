-- Where a packet may begin, by a test of the bytes from there on.
use Rattle.std.specs.Prelude.{Bool, cond, List, [], ◌∷◌, ℕ, suc}

-- how many bytes stand before the first offset at which one may [V8]
unfoldable pub before_start : (List ℕ → Bool) → List ℕ → ℕ
before_start may [] = 0
before_start may (b ∷ s) = cond (may (b ∷ s)) 0 (suc (before_start may s))
