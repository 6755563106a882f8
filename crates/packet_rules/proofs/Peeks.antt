-- What header, ID and length field say, as a look has it, and the verdict.
use mathlib.Core.Path.{◌≡◌, refl, sym, ap, ap₂, ◌∙◌}
use mathlib.Core.Bool.{Bool, true, false}
use mathlib.Core.List.{List}
use Prim.Native.Nat.{ℕ, ◌+◌, ◌-◌, ◌≤◌, ◌<◌}
use native.Mathlib.Omega.{arith}
use lib.ListN.{length, take, drop, length-drop}
use lib.Seq.{length-take-le, take_all}
use Rattle.reading.specs.Rules.{Verdict, Rules, is_packet, is_bad_checksum, is_waiting, is_nothing}
use Rattle.reading.proofs.Ahead.{NoneBegins}
use Rattle.packet_rules.specs.Shape.{Shape, complete, lacks, verdict, rules}
use Rattle.packet_rules.specs.Answers.{front_as, front_by, settled_as, settled_by, answer_for, answer_by}
use Rattle.packet_rules.specs.declared.Verdict.{Verdict as Verdict-as-Code}
use Rattle.packet_rules.specs.declared.Verdict.TheVariants.{Packet, BadChecksum, Waiting, Nothing}
use Rattle.packet_rules.specs.declared.Front.{Front}
use Rattle.packet_rules.specs.declared.Front.TheVariants.{Whole}
use Rattle.packet_rules.specs.declared.Front.TheVariants.{Nothing as Front-as-Nothing, Waiting as Front-as-Waiting}
use Rattle.packet_rules.proofs.Asked.{ShapeLaws}
use Rattle.packet_rules.proofs.Tests.{incomplete_early, incomplete, completes, lacks_early, lacks_late, has_front, has_all, disagrees, waits, judges}

as_nothing : (a c : Bool) (k n : ℕ) → front_as a c k n ≡ Front-as-Nothing → a ≡ false
as_nothing false c k n e = refl
as_nothing true false k n e = let z : ◌≡◌ {A = ℕ} 0 1 = cc in absurd (omega arith)
as_nothing true true k n e = let z : ◌≡◌ {A = ℕ} 0 1 = cc in absurd (omega arith)

as_waiting : (a c : Bool) (k n m : ℕ) → front_as a c k n ≡ Front-as-Waiting m → (a ≡ true) × (c ≡ false) × (k ≡ m)
as_waiting false c k n m e = let z : ◌≡◌ {A = ℕ} 0 1 = cc in absurd (omega arith)
as_waiting true false k n m e = (refl, refl, cc)
as_waiting true true k n m e = let z : ◌≡◌ {A = ℕ} 0 1 = cc in absurd (omega arith)

as_whole : (a c : Bool) (k n m : ℕ) → front_as a c k n ≡ Whole m → (a ≡ true) × (c ≡ true) × (n ≡ m)
as_whole false c k n m e = let z : ◌≡◌ {A = ℕ} 0 1 = cc in absurd (omega arith)
as_whole true false k n m e = let z : ◌≡◌ {A = ℕ} 0 1 = cc in absurd (omega arith)
as_whole true true k n m e = (refl, refl, cc)

-- how many bytes are missing does not matter where none are
decided : (v : Verdict) (k : ℕ) → ¬ (v ≡ is_waiting) → answer_for v 0 ≡ answer_for v k
decided (is_packet n) k h = refl
decided (is_bad_checksum id) k h = refl
decided is_waiting k h = absurd (h refl)
decided is_nothing k h = refl

-- What the look at the bytes s tells of their verdict, by the rules R: no packet begins; they wait and lack so many bytes; or so
-- many of them settle the verdict.
abbrev pub Peeked : Rules → (List ℕ → ℕ) → List ℕ → Front → Type 0
Peeked R settled s Front-as-Nothing = NoneBegins R settled s
Peeked R settled s (Front-as-Waiting k) = (R.verdict s ≡ is_waiting) × (R.lacks s ≡ k)
Peeked R settled s (Whole n) = settled s ≡ n

-- what is said of bytes that are all there is their verdict, and they do not wait
abbrev pub VerdictIs : Rules → List ℕ → Verdict-as-Code → Type 0
VerdictIs R s (Packet n) = R.verdict s ≡ is_packet n
VerdictIs R s (BadChecksum id) = R.verdict s ≡ is_bad_checksum id
VerdictIs R s (Waiting k) = ⊥
VerdictIs R s Nothing = R.verdict s ≡ is_nothing

judged_as : (R : Rules) (s : List ℕ) (v : Verdict) (k : ℕ) → R.verdict s ≡ v → ¬ (v ≡ is_waiting) → VerdictIs R s (answer_for v k)
judged_as R s (is_packet n) k e h = e
judged_as R s (is_bad_checksum id) k e h = e
judged_as R s is_waiting k e h = h refl
judged_as R s is_nothing k e h = e

-- the look, by its tests
module _ (S : Shape) (s : List ℕ) where
  front_as_lem : {a c : Bool} → S.agrees s ≡ a → complete S s ≡ c → front_by S s ≡ front_as a c (lacks S s) (S.size s)
  front_as_lem i j = ap₂ (λ (a c : Bool). front_as a c (lacks S s) (S.size s)) i j

  pub front_nothing : S.agrees s ≡ false → Front-as-Nothing ≡ front_by S s
  front_nothing i = sym (front_as_lem i refl)

  pub front_early : S.agrees s ≡ true → length s < S.front → Front-as-Waiting (S.shortest - length s) ≡ front_by S s
  front_early i h = sym (front_as_lem i (incomplete_early S s h) ∙ ap Front-as-Waiting (lacks_early S s h))

  pub front_late : S.agrees s ≡ true → S.front ≤ length s → length s < S.size s → Front-as-Waiting (S.size s - length s) ≡ front_by S s
  front_late i h k = sym (front_as_lem i (incomplete S s h k) ∙ ap Front-as-Waiting (lacks_late S s h))

  pub front_whole : S.agrees s ≡ true → S.front ≤ length s → S.size s ≤ length s → Whole (S.size s) ≡ front_by S s
  front_whole i h k = sym (front_as_lem i (completes S s h k))

-- and the verdict by the look
module _ (S : Shape) (s : List ℕ) where
  pub none_begins : S.agrees s ≡ false → NoneBegins (rules S) (settled_by S) s
  none_begins a = (disagrees S s a, ap settled_as (sym (front_nothing S s a)))

  pub peeked : (b : Front) → front_by S s ≡ b → Peeked (rules S) (settled_by S) s b
  peeked Front-as-Nothing e = none_begins (as_nothing (S.agrees s) (complete S s) (lacks S s) (S.size s) e)
  peeked (Front-as-Waiting m) e =
      let w = as_waiting (S.agrees s) (complete S s) (lacks S s) (S.size s) m e in
      (waits S s w.0 w.1, w.2)
  peeked (Whole n) e = ap settled_as e

  pub peek_nothing : front_by S s ≡ Front-as-Nothing → Nothing ≡ answer_by (rules S) s
  peek_nothing e = rw (disagrees S s (as_nothing (S.agrees s) (complete S s) (lacks S s) (S.size s) e)) refl

  pub peek_waiting : (m : ℕ) → front_by S s ≡ Front-as-Waiting m → Waiting m ≡ answer_by (rules S) s
  peek_waiting m e =
      let w = as_waiting (S.agrees s) (complete S s) (lacks S s) (S.size s) m e in
      rw (waits S s w.0 w.1, w.2) refl

  -- all bytes of a packet are there
  module _ (l : ShapeLaws S) (m : ℕ) (e : front_by S s ≡ Whole m) where
    w : (S.agrees s ≡ true) × (complete S s ≡ true) × (S.size s ≡ m)
    w = as_whole (S.agrees s) (complete S s) (lacks S s) (S.size s) m e

    pub peek_size : S.size s ≡ m
    peek_size = w.2

    pub peek_agrees : S.agrees s ≡ true
    peek_agrees = w.0

    pub peek_fits : m ≤ length s
    peek_fits = omega (arith, has_all S s w.1, w.2)

    pub peek_front : S.front ≤ length s
    peek_front = has_front S s w.1

    pub peek_length : length (take m s) ≡ m
    peek_length = length-take-le m s peek_fits

    pub peek_long : S.shortest ≤ length (take m s)
    peek_long = omega (arith, peek_length, (l.bounds s w.0 (has_front S s w.1)).0, w.2)

    pub peek_whole : answer_for (S.judged (take m s)) 0 ≡ answer_by (rules S) s
    peek_whole =
        decided (S.judged (take m s)) (lacks S s) (l.never_waits (take m s))
        ∙ ap (λ (n : ℕ). answer_for (S.judged (take n s)) (lacks S s)) (sym w.2)
        ∙ ap (λ (v : Verdict). answer_for v (lacks S s)) (sym (judges S s w.0 w.1))

    pub judged : VerdictIs (rules S) s (answer_by (rules S) s)
    judged =
        judged_as (rules S) s (verdict S s) (lacks S s) refl
        (λ e. l.never_waits (take (S.size s) s) (sym (judges S s w.0 w.1) ∙ e))

-- the same for code that lends the bytes from an offset on
module _ (S : Shape) (s : List ℕ) (at : ℕ) where
  pub front_at : (b b' : Front) → b ≡ front_by S (take (length s - at) (drop at s)) → b ≡ b' → front_by S (drop at s) ≡ b'
  front_at b b' e i =
      ap (front_by S) (sym (take_all (length s - at) (drop at s) (simp length-drop (omega arith)))) ∙ sym e ∙ i

  pub whole_fits : (l : ShapeLaws S) (n : ℕ) → front_by S (drop at s) ≡ Whole n → at + n ≤ length s
  whole_fits l n e =
      let f = peek_fits S (drop at s) l n e in
      let g = peek_front S (drop at s) l n e in
      omega (arith, length-drop at s, l.some)
