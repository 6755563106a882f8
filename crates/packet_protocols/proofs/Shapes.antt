-- The shape of each protocol's packets: what the code asks of the front is agreement with it, and the laws hold.
use mathlib.Core.Path.{◌≡◌, refl, sym, ap, ◌∙◌}
use mathlib.Core.Bool.{true, false, ◌&&◌}
use mathlib.Core.List.{List, [], ◌∷◌}
use Prim.Native.Nat.{ℕ, ◌+◌, ◌-◌, ◌≤◌, ◌<◌}
use native.Mathlib.Omega.{arith}
use lib.Dec.{leb}
use lib.ListN.{length, take, drop, get_or}
use borrow.Author.Tests.{lt-ltb, le-ltb}
use Rattle.lists.proofs.Bools.{and_left}
use Rattle.reading.specs.Rules.{Laws}
use Rattle.reading.specs.Progress.{Settles}
use Rattle.reading.proofs.Ahead.{NoneBegins}
use Rattle.packet_rules.specs.Answers.{front_by, settled_by, answer_by}
use Rattle.packet_rules.specs.Starts.{before_start}
use Rattle.packet_rules.specs.declared.Front.TheVariants.{Whole}
use Rattle.packet_rules.specs.declared.Verdict.{Verdict}
use Rattle.packet_rules.proofs.Asked.{ShapeLaws}
use Rattle.packet_rules.proofs.Laws.{laws as rule-laws}
use Rattle.packet_rules.proofs.Settled.{settles as rule-settles, none_lacks}
use Rattle.packet_rules.proofs.Peeks.{peek_whole as whole-judged}
use Rattle.packet_rules.proofs.Starts.{none_before}
use Rattle.packet_front.specs.Header.{length_agrees, front_agrees}
use Rattle.packet_front.proofs.Starts.{front_begins as begins2}
use Rattle.packet.proofs.Laws.{shape_laws as laws2}
use Rattle.packet.proofs.Peeks.{peek_whole as whole2}
use Rattle.packet_v1.specs.Packet.{up_to, last_of_p1, last_of_mercury}
use Rattle.packet_v1.specs.Verdict.{shape_up_to}
use Rattle.packet_v1.specs.Verdict.{length_agrees as lengthAgrees1}
use Rattle.packet_v1.proofs.Laws.{shape_laws as laws1, front_begins as begins1}
use Rattle.packet_protocols.specs.declared.Protocol.{Protocol}
use Rattle.packet_protocols.specs.declared.Protocol.TheVariants.{Two, One, Mercury}
use Rattle.packet_protocols.specs.Protocols.{shape_of, rules_of, id_in, id_offset, front_agrees_of, length_in, least_length, greatest_length, may_begin_of, whole_of}

-- ---- the laws

pub shapes_kept : (p : Protocol) → ShapeLaws (shape_of p)
shapes_kept Two = laws2
shapes_kept One = laws1 (up_to last_of_p1)
shapes_kept Mercury = laws1 (up_to last_of_mercury)

pub laws : (p : Protocol) → Laws (rules_of p)
laws p = rule-laws (shape_of p) (shapes_kept p)

pub settles : (p : Protocol) → Settles (rules_of p) (settled_by (shape_of p))
settles p = rule-settles (shape_of p) (shapes_kept p)

-- what begins a packet lacks some bytes, and packets have some
pub some_lacking : (p : Protocol) → 0 < (rules_of p).lacks []
some_lacking p = omega (arith, none_lacks (shape_of p) (shapes_kept p), (shapes_kept p).some, (shapes_kept p).fronted)

pub some_longest : (p : Protocol) → 0 < (rules_of p).longest
some_longest p = omega (arith, (shapes_kept p).some, (shapes_kept p).fronted, (shapes_kept p).ordered)

pub some_shortest : (p : Protocol) → 0 < (shape_of p).shortest
some_shortest p = omega (arith, (shapes_kept p).some, (shapes_kept p).fronted)

-- ---- the front, test by test

module _ (s : List ℕ) where
  pub front_fails : (p : Protocol) → front_agrees_of p s ≡ false → (shape_of p).agrees s ≡ false
  front_fails Two e = rw e
  front_fails One e = rw e
  front_fails Mercury e = rw e

  -- before the length field is there
  pub front_cut : (p : Protocol) → front_agrees_of p s ≡ true → length s < (shape_of p).front → (shape_of p).agrees s ≡ true
  unfolding length_agrees lengthAgrees1
  front_cut Two e h = rw (e, lt-ltb (length s) 7 h)
  front_cut One e h = rw (e, lt-ltb (length s) 4 h)
  front_cut Mercury e h = rw (e, lt-ltb (length s) 4 h)

  -- and where it is
  module _ (p : Protocol) (e : front_agrees_of p s ≡ true) (h : (shape_of p).front ≤ length s) where
    pub by_length : (shape_of p).agrees s ≡ (leb (least_length p) (length_in p s) && leb (length_in p s) (greatest_length p))
    unfolding length_agrees lengthAgrees1
    by_length = by p e h
      where
        by : (p : Protocol) → front_agrees_of p s ≡ true → (shape_of p).front ≤ length s
            → (shape_of p).agrees s ≡ (leb (least_length p) (length_in p s) && leb (length_in p s) (greatest_length p))
        by Two e h = rw (e, le-ltb (length s) 7 h)
        by One e h = rw (e, le-ltb (length s) 4 h)
        by Mercury e h = rw (e, le-ltb (length s) 4 h)

  pub size_is : (p : Protocol) → (shape_of p).size s ≡ (shape_of p).front + length_in p s
  size_is Two = refl
  size_is One = refl
  size_is Mercury = refl

-- ---- all bytes of a packet

pub whole_is : (p : Protocol) (s : List ℕ) (m : ℕ) → front_by (shape_of p) s ≡ Whole m → whole_of p (take m s) ≡ answer_by (rules_of p) s
whole_is Two s m e = whole2 s m e
whole_is One s m e = whole-judged (shape_up_to last_of_p1) s (laws1 (up_to last_of_p1)) m e
whole_is Mercury s m e = whole-judged (shape_up_to last_of_mercury) s (laws1 (up_to last_of_mercury)) m e

-- for code that lends them as a part of the bytes from an offset on
pub whole_at : (p : Protocol) (s : List ℕ) (at n : ℕ) (j j' : Verdict) → j ≡ whole_of p (take (at + n - at) (drop at s)) → j ≡ j'
    → whole_of p (take n (drop at s)) ≡ j'
whole_at p s at n j j' e i =
    let z : n ≡ at + n - at = omega arith in
    ap (λ (m : ℕ). whole_of p (take m (drop at s))) z ∙ sym e ∙ i

-- ---- where a packet may begin

begins : (p : Protocol) (b : ℕ) (s : List ℕ) → (shape_of p).agrees (b ∷ s) ≡ true → may_begin_of p (b ∷ s) ≡ true
begins Two b s e = begins2 b s (and_left (front_agrees (b ∷ s)) (length_agrees (b ∷ s)) e)
begins One b s e = begins1 (up_to last_of_p1) b s e
begins Mercury b s e = begins1 (up_to last_of_mercury) b s e

pub none_before_start : (p : Protocol) (s : List ℕ) (q : ℕ) → q < before_start (may_begin_of p) s
    → NoneBegins (rules_of p) (settled_by (shape_of p)) (drop q s)
none_before_start p s q h = none_before (may_begin_of p) (shape_of p) (begins p) s q h

-- ---- where the ID stands

pub id_at_lem : (p : Protocol) (w : List ℕ) → get_or w (id_offset p) 0 ≡ id_in p w
id_at_lem Two w = refl
id_at_lem One w = refl
id_at_lem Mercury w = refl
