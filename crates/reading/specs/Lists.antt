-- Lists of calls on one reader, whatever the reader is made of.
use Rattle.std.specs.Prelude.{None, Option, Some}
use Rattle.std.specs.Prelude.{◌≡◌, List, [], ◌∷◌, ◌++◌, map, ℕ, zero, suc, take}
use Rattle.reading.specs.Rules.{Rules}
use Rattle.reading.specs.Reading.{Event}
use Rattle.reading.specs.Calls.{Call, feed, gap, call}

-- A reader: what it may be between calls, which of these are fresh ones, and of a call how many bytes it takes, the event
-- that it gives, if any, and how it leaves the reader. [F1 Q1]
pub record AnyReader : Type 1 where
  pub State : Type 0
  pub Fresh : State → Type 0
  pub taken : State → Call → ℕ
  pub answer : State → Call → Option Event
  pub next : State → Call → State

-- the reader of the rules, which is the bytes that it holds
abbrev pub model : Rules → AnyReader
model R =
    record {
      State = List ℕ;
      Fresh = λ h. h ≡ [];
      taken = λ h c. (call R h c).taken;
      answer = λ h c. (call R h c).answer;
      next = λ h c. (call R h c).held;
    }

abbrev pub chunk_of : Call → List ℕ
chunk_of (feed s) = s
chunk_of gap = []

-- [Q3]
abbrev pub feeds : List (List ℕ) → List Call
feeds chunks = map feed chunks

-- [Q3]
abbrev pub gaps : ℕ → List Call
gaps zero = []
gaps (suc n) = gap ∷ gaps n

abbrev pub listed : Option Event → List Event
listed None = []
listed (Some e) = e ∷ []

-- calls on a reader that is x: how they leave it, the bytes that they took, the events that they gave
module _ (M : AnyReader) where
  -- [F14 Q1]
  unfoldable pub after : M.State → List Call → M.State
  after x [] = x
  after x (c ∷ cs) = after (M.next x c) cs

  -- [Q4]
  unfoldable pub took : M.State → List Call → List ℕ
  took x [] = []
  took x (c ∷ cs) = take (M.taken x c) (chunk_of c) ++ took (M.next x c) cs

  unfoldable pub given : M.State → List Call → List Event
  given x [] = []
  given x (c ∷ cs) = listed (M.answer x c) ++ given (M.next x c) cs

-- A reader keeps to the rules where what it holds is all that matters: while it is legal, as a fresh one is, each call takes,
-- answers and leaves what the call of the rules does.
pub record Follows (R : Rules) (M : AnyReader) (Legal : M.State → Type 0) (held : M.State → List ℕ) : Type 0 where
  pub fresh : (x : M.State) → M.Fresh x → Legal x × (held x ≡ [])
  pub same_taken : (x : M.State) (c : Call) → Legal x → M.taken x c ≡ (call R (held x) c).taken
  pub same_answer_lem : (x : M.State) (c : Call) → Legal x → M.answer x c ≡ (call R (held x) c).answer
  pub same_next : (x : M.State) (c : Call) → Legal x → Legal (M.next x c) × (held (M.next x c) ≡ (call R (held x) c).held)
