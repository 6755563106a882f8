-- The planner's packets: entries that rise, their bytes, and that nothing in them is stuffed.
use mathlib.Core.Path.{◌≡◌, refl, ap₂, ◌∙◌}
use mathlib.Core.Bool.{Bool, true, false, ◌&&◌}
use mathlib.Core.List.{List, [], ◌∷◌, ◌++◌}
use Prim.Native.Nat.{ℕ, zero, suc, ◌+◌, ◌*◌, ◌/◌, ◌%◌, ◌≤◌, ◌<◌}
use native.Mathlib.Omega.{arith}
use lib.Dec.{eqb}
use lib.IntN.{ℤ, pos, negsuc}
use lib.ListN.{length, take, drop, length-append, length-take, length-drop}
use lib.Signed.{le_z}
use borrow.Author.Tests.{ne_eqb, leb-true}
use Rattle.lists.specs.Numbers.{bytes_of}
use Rattle.lists.proofs.Bools.{and_left, and_right}
use Rattle.lists.proofs.Numbers.{bytes_length}
use Rattle.stuffing.specs.Stuffing.{marks_after, marks, stuff, unstuff}
use Rattle.stuffing.proofs.Laws.{length_stuff}
use Rattle.reading.specs.Promise.{joined}
use Rattle.packet_encoder.proofs.Writing.{packet_length}
use Rattle.packet_encoder.proofs.RoundTrip.{round_trip}
use Rattle.packet.specs.Packet.{body_of, WellFormed}
use Rattle.plan.specs.Goals.{unwanted, goal_within, goals_within}
use Rattle.plan.specs.Plan.{plan_head}
use Rattle.plan.specs.Planner.{GoalEntry, entries_from, entry_bytes, list_bytes, goal_packet, packets_from}

-- ---- entries that rise

-- from b on, up to 252, with goals that are not too large
abbrev pub Rising : ℕ → List GoalEntry → Type 0
Rising b [] = Unit {0}
Rising b (e ∷ es) = (b ≤ e.0) × (e.0 ≤ 252) × (e.1 ≤ 4095) × Rising (suc e.0) es

pub lower : (a b : ℕ) (es : List GoalEntry) → a ≤ b → Rising b es → Rising a es
lower a b [] h r = tt
lower a b (e ∷ es) h r = (omega (arith, r.0), r.1, r.2, r.3)

pub rising_take : (k b : ℕ) (es : List GoalEntry) → Rising b es → Rising b (take k es)
rising_take zero b es r = tt
rising_take (suc k) b [] r = tt
rising_take (suc k) b (e ∷ es) r = (r.0, r.1, r.2, rising_take k (suc e.0) es r.3)

pub rising_drop : (k b : ℕ) (es : List GoalEntry) → Rising b es → Rising b (drop k es)
rising_drop zero b es r = r
rising_drop (suc k) b [] r = tt
rising_drop (suc k) b (e ∷ es) r = lower b (suc e.0) (drop k es) (omega (arith, r.0)) (rising_drop k (suc e.0) es r.3)

pub entries_rise : (goals : List ℤ) (id : ℕ) → id + length goals ≤ 253 → goals_within goals ≡ true → Rising id (entries_from goals id)
unfolding entries_from goals_within
entries_rise [] id h w = tt
entries_rise (pos n ∷ goals) id h w =
    let g = and_left (goal_within (pos n)) (goals_within goals) w in (
      omega arith,
      omega arith,
      leb-true n 4095 (and_right (le_z unwanted (pos n)) (le_z (pos n) (pos 4095)) g),
      entries_rise goals (suc id) (omega arith) (and_right (goal_within (pos n)) (goals_within goals) w),
    )
entries_rise (negsuc n ∷ goals) id h w =
    lower id (suc id) (entries_from goals (suc id)) (omega arith)
    (entries_rise goals (suc id) (omega arith) (and_right (goal_within (negsuc n)) (goals_within goals) w))

-- ---- nothing is stuffed: of an entry only the goal's low byte can be FF

and_no : (x : Bool) → (x && false) ≡ false
and_no true = refl
and_no false = refl

-- behind a byte that is not FF, and a 0
entry_marks : (p a b c : ℕ) (rest : List ℕ) → p < 255 → a < 255 → c < 255
    → marks_after p 0 (a ∷ b ∷ c ∷ 0 ∷ 0 ∷ rest) ≡ marks_after 0 0 rest
unfolding marks_after
entry_marks p a b c rest g h k =
    simp (ne_eqb p 0xFF (λ e. omega arith), ne_eqb a 0xFF (λ e. omega arith), ne_eqb c 0xFF (λ e. omega arith), and_no (eqb b 0xFF))

list_marks : (p b : ℕ) (es : List GoalEntry) → p < 255 → Rising b es → marks_after p 0 (list_bytes es) ≡ 0
unfolding list_bytes bytes_of marks_after
list_marks p b [] g r = refl
list_marks p b (e ∷ es) g r =
    let n = e.1 in
    let small = r.2 in
    let i = r.1 in
    let z₂ : n / 256 / 256 % 256 ≡ 0 = omega arith in
    let z₃ : n / 256 / 256 / 256 % 256 ≡ 0 = omega arith in
    ap₂ (λ (y z : ℕ). marks_after p 0 (e.0 ∷ n % 256 ∷ n / 256 % 256 ∷ y ∷ z ∷ list_bytes es)) z₂ z₃
    ∙ entry_marks p e.0 (n % 256) (n / 256 % 256) (list_bytes es) g (omega arith) (omega arith)
    ∙ list_marks 0 (suc e.0) es (omega arith) r.3

pub list_length : (es : List GoalEntry) → length (list_bytes es) ≡ 5 * length es
unfolding list_bytes
list_length [] = refl
list_length (e ∷ es) = length-append (entry_bytes e) (list_bytes es) ∙ omega (arith, bytes_length 4 e.1, list_length es)

-- instruction, address and length
pub body_length : (b : ℕ) (es : List GoalEntry) → Rising b es → length (stuff (plan_head ++ list_bytes es)) ≡ 5 + 5 * length es
unfolding marks_after
body_length b es r =
    let m : marks (plan_head ++ list_bytes es) ≡ 0 = list_marks 4 b es (omega arith) r in
    length_stuff (plan_head ++ list_bytes es) ∙ omega (arith, list_length es)

pub goal_packet_length : (b : ℕ) (es : List GoalEntry) → Rising b es → length (goal_packet es) ≡ 14 + 5 * length es
goal_packet_length b es r = packet_length 254 (plan_head ++ list_bytes es) ∙ omega (arith, body_length b es r)

-- ---- how many packets and bytes

pub packets_count : (steps : ℕ) (es : List GoalEntry) → length es ≤ steps → length (packets_from steps es) ≡ (length es + 202) / 203
unfolding packets_from
packets_count zero [] h = refl
packets_count zero (e ∷ es) h = absurd (omega arith)
packets_count (suc steps) [] h = refl
packets_count (suc steps) (e ∷ es) h =
    let l = length-drop 203 (e ∷ es) in
    omega (arith, packets_count steps (drop 203 (e ∷ es)) (omega arith))

pub plan_length : (steps b : ℕ) (es : List GoalEntry) → length es ≤ steps → Rising b es
    → length (joined (packets_from steps es)) ≡ 14 * ((length es + 202) / 203) + 5 * length es
unfolding packets_from
plan_length zero b [] h r = refl
plan_length zero b (e ∷ es) h r = absurd (omega arith)
plan_length (suc steps) b [] h r = refl
plan_length (suc steps) b (e ∷ es) h r =
    let l = length-drop 203 (e ∷ es) in
    let t = length-take 203 (e ∷ es) in
    length-append (goal_packet (take 203 (e ∷ es))) (joined (packets_from steps (drop 203 (e ∷ es))))
    ∙ omega (arith, goal_packet_length b (take 203 (e ∷ es)) (rising_take 203 b (e ∷ es) r), plan_length steps b (drop 203 (e ∷ es)) (omega arith) (rising_drop 203 b (e ∷ es) r))

-- an unstuffed body has 1,022 bytes at the most
pub packet_body_fits : (w : List ℕ) → WellFormed w → length (unstuff (body_of w)) ≤ 1022
packet_body_fits w f = omega (arith, (round_trip.accepted w f).2, length_stuff (unstuff (body_of w)))

pub entries_few : (goals : List ℤ) (id : ℕ) → length (entries_from goals id) ≤ length goals
unfolding entries_from
entries_few [] id = omega arith
entries_few (pos n ∷ goals) id = omega (arith, entries_few goals (suc id))
entries_few (negsuc n ∷ goals) id = omega (arith, entries_few goals (suc id))
