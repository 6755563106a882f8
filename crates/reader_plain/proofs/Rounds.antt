-- One round of the walk: an event stands at the offset, or it is passed by one byte.
use Rattle.std.specs.Prelude.{None, Some}
use mathlib.Core.Path.{◌≡◌, refl, sym, ap, subst, ◌∙◌}
use mathlib.Core.List.{List, [], ◌∷◌}
use Prim.Native.Nat.{ℕ, ◌+◌, ◌≤◌, ◌<◌}
use native.Mathlib.Omega.{arith}
use lib.ListN.{length, take, drop, get_or, length-drop, drop_of_length-le}
use lib.Seq.{length-take-le, get_or-take, get_or-drop, drop-drop}
use Rattle.reading.specs.Rules.{Verdict, is_packet, is_bad_checksum, is_waiting, is_nothing}
use Rattle.reading.specs.Reading.{closed, at_offset, read_from}
use Rattle.reading.proofs.Offsets.{step, nil}
use Rattle.packet_rules.specs.Answers.{answer_for, answer_by}
use Rattle.packet_rules.specs.declared.Verdict.{Verdict as Verdict-as-Code}
use Rattle.packet_rules.specs.declared.Verdict.TheVariants.{Packet as Verdict-as-Packet, BadChecksum as Verdict-as-BadChecksum, Waiting, Nothing as Verdict-as-Nothing}
use Rattle.packet.specs.Verdict.{protocol2}
use Rattle.packet.proofs.Laws.{laws}
use Rattle.reader_plain.specs.declared.Event.TheVariants.{Packet, BadChecksum}
use Rattle.reader_plain.specs.Next.{first_of, next_event}

-- what a round at offset p comes to, by the verdict as the code has it
abbrev pub Turn : List ℕ → ℕ → Verdict-as-Code → Type 0
Turn s p (Verdict-as-Packet n) = (p + 4 < length s) × (p + n ≤ length s) × (next_event s p ≡ Some (Packet p n (p + n) (get_or s (p + 4) 0)))
Turn s p (Verdict-as-BadChecksum id) = next_event s p ≡ Some (BadChecksum p (p + 1) id)
Turn s p (Waiting k) = next_event s p ≡ next_event s (p + 1)
Turn s p Verdict-as-Nothing = next_event s p ≡ next_event s (p + 1)

-- the reading of bytes that there are, whose verdict is known
at_verdict : (p : ℕ) (t : List ℕ) (v : Verdict) → 0 < length t → protocol2.verdict t ≡ v
    → read_from protocol2 closed p t ≡ at_offset closed v p t (λ q u. read_from protocol2 closed q u)
at_verdict p [] v h e = absurd (omega arith)
at_verdict p (b ∷ t) v h e = step protocol2 laws closed p b t v e

module _ (s : List ℕ) (p : ℕ) (h : p < length s) where
  here : (v : Verdict) → protocol2.verdict (drop p s) ≡ v
      → next_event s p ≡ first_of (at_offset closed v p (drop p s) (λ q t. read_from protocol2 closed q t))
  unfolding next_event
  here v e = ap first_of (at_verdict p (drop p s) v (simp length-drop (omega arith)) e)

  on : first_of (read_from protocol2 closed (p + 1) (drop 1 (drop p s))) ≡ next_event s (p + 1)
  unfolding next_event
  on = ap (λ (t : List ℕ). first_of (read_from protocol2 closed (p + 1) t)) (drop-drop 1 p s)

  pub by_verdict : (v : Verdict) (k : ℕ) → protocol2.verdict (drop p s) ≡ v → Turn s p (answer_for v k)
  by_verdict (is_packet n) k e =
      let w = laws.sound (drop p s) n e in
      let size : length (take n (drop p s)) ≡ n = length-take-le n (drop p s) w.1 in
      let counted = w.2.counted in
      let shortest = w.2.shortest in
      let fits : p + n ≤ length s = omega (arith, w.1, length-drop p s) in
      let long : 10 ≤ n = omega (arith, size, counted, shortest) in
      let id : get_or (take n (drop p s)) 4 0 ≡ get_or s (p + 4) 0 = get_or-take n (drop p s) 4 0 (omega arith) ∙ get_or-drop p s 4 0 in
      (omega (arith, fits, long), fits, here (is_packet n) e ∙ rw (size, id))
  by_verdict (is_bad_checksum id) k e = here (is_bad_checksum id) e
  by_verdict is_waiting k e = here is_waiting e ∙ on
  by_verdict is_nothing k e = here is_nothing e ∙ on

  pub turn : (j r : Verdict-as-Code) → j ≡ answer_by protocol2 (drop p s) → j ≡ r → Turn s p r
  turn j r e i = subst (Turn s p) (sym e ∙ i) (by_verdict (protocol2.verdict (drop p s)) _ refl)

-- neither packet nor bad checksum
pub passed : (s : List ℕ) (p : ℕ) (r : Verdict-as-Code) → Turn s p r → ((n : ℕ) → r ≡ Verdict-as-Packet n → ⊥)
    → ((id : ℕ) → r ≡ Verdict-as-BadChecksum id → ⊥) → next_event s p ≡ next_event s (p + 1)
passed s p (Verdict-as-Packet n) t w v = absurd (w n refl)
passed s p (Verdict-as-BadChecksum id) t w v = absurd (v id refl)
passed s p (Waiting k) t w v = t
passed s p Verdict-as-Nothing t w v = t

pub next_end : (s : List ℕ) (p : ℕ) → length s ≤ p → next_event s p ≡ None
unfolding next_event
next_end s p h = rw (drop_of_length-le s h, nil protocol2 laws closed p)
