-- A log of two Pings, for the applications of what is promised of logs.
use Rattle.std.specs.Prelude.{List, [], ◌∷◌, ◌++◌, ℕ, replicate}
use Rattle.log_layout.specs.Log.{laid}

abbrev pub ping_to_1 : List ℕ
ping_to_1 = 0xFF ∷ 0xFF ∷ 0xFD ∷ 0x00 ∷ 0x01 ∷ 0x03 ∷ 0x00 ∷ 0x01 ∷ 0x19 ∷ 0x4E ∷ []

abbrev pub ping_to_2 : List ℕ
ping_to_2 = 0xFF ∷ 0xFF ∷ 0xFD ∷ 0x00 ∷ 0x02 ∷ 0x03 ∷ 0x00 ∷ 0x01 ∷ 0x19 ∷ 0x72 ∷ []

abbrev pub two_pings : List (List ℕ)
two_pings = ping_to_1 ∷ ping_to_2 ∷ []

-- their log, number by number, with these index numbers for the IDs 0, 1 and 2
abbrev pub numbered : ℕ → ℕ → ℕ → List ℕ
numbered a b c = laid (2 ∷ 16 ∷ 254 ∷ 32 ∷ 1048 ∷ 10 ∷ 1058 ∷ 10 ∷ a ∷ b ∷ c ∷ replicate 251 0) (ping_to_1 ++ ping_to_2)

abbrev pub file : List ℕ
file = numbered 0 1 2
