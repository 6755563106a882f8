-- Packet rules of a protocol whose packets begin with a front (header, ID, length field) that says how long they are.
use Rattle.std.specs.Prelude.{Bool, cond, ◌&&◌, ◌||◌, List, ℕ, ◌-◌, leb, ltb, length, take, get_or}
use Rattle.reading.specs.Rules.{Verdict, is_waiting, is_nothing, Rules}

-- byte i passes the test, if it is there [V8]
abbrev pub so_far : List ℕ → ℕ → (ℕ → Bool) → Bool
so_far s i test = leb (length s) i || test (get_or s i 0)

pub record Shape : Type 1 where
  -- the byte count of the front
  pub front : ℕ
  -- and of the shortest and the longest packet
  pub shortest : ℕ
  pub longest : ℕ
  -- the bytes that are there agree with header, ID and length field
  pub agrees : List ℕ → Bool
  -- the byte count of the packet that the length field promises
  pub size : List ℕ → ℕ
  -- the verdict on a packet by header, ID and length, of which these are all the bytes
  pub judged : List ℕ → Verdict
  pub WellFormed : List ℕ → Type 0

module _ (S : Shape) where
  -- all bytes of the packet are there [V8]
  abbrev pub complete : List ℕ → Bool
  complete s = leb S.front (length s) && leb (S.size s) (length s)

  -- how many bytes a waiting offset surely lacks: those of the shortest packet, until the length field is there [O7 V11]
  unfoldable pub lacks : List ℕ → ℕ
  lacks s = cond (ltb (length s) S.front) (S.shortest - length s) (S.size s - length s)

  -- the tests in their order: agreement, completeness, the packet's own bytes [O6 V3-V6]
  unfoldable pub verdict : List ℕ → Verdict
  verdict s = cond (S.agrees s) (cond (complete s) (S.judged (take (S.size s) s)) is_waiting) is_nothing

  abbrev pub rules : Rules
  rules = record { longest = S.longest; verdict = verdict; lacks = lacks; WellFormed = S.WellFormed }
