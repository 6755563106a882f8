use mathlib.Core.Path.{◌≡◌, sym, ap, ap₂, ◌∙◌}
use mathlib.Core.Bool.{true, false}
use mathlib.Core.List.{◌++◌}
use Prim.Native.Nat.{ℕ, ◌+◌, ◌-◌}
use native.Mathlib.Omega.{arith}
use lib.Dec.{ltb, eqb}
use lib.ListN.{length, take, drop, get_or}
use borrow.Author.Tests.{eq-eqb, ne_eqb, lt-ltb, le-ltb}
use Rattle.crc.specs.Crc.{crc_from}
use Rattle.stuffing.specs.Stuffing.{well_stuffed}
use Rattle.stuffing.specs.Answers.{checked}
use Rattle.stuffing.proofs.Answers.{checked_bad, checked_good}
use Rattle.packet_front.specs.Front.{word, header}
use Rattle.packet.specs.Packet.{body_of, checksum_right}
use Rattle.packet.proofs.Header.{headed_length, headed_byte, headed_part}
use Rattle.packet.proofs.judge_whole.Goals as goal
use Rattle.packet.proofs.judge_whole.Goals.{After-word}

pub returns-then-n-lt-MIN_PACKET : goal.returns-then-n-lt-MIN_PACKET
returns-then-n-lt-MIN_PACKET c = rw (lt-ltb _ 10 c.if-n-lt-MIN_PACKET.true)

-- the code's test is that of the definition
sum_test : (c : After-word)
    → checksum_right (header ++ drop 4 c.args.packet.now)
    ≡ eqb c.checksum-crc.result c.word.result
unfolding checksum_right
sum_test c =
    let w = c.args.packet.now in
    let v = header ++ drop 4 w in
    let n = headed_length w (omega arith) in
    let last : length v - 2 ≡ length w - 2 = omega (arith, n) in
    let end : length v - 1 ≡ length w - 2 + 1 = omega (arith, n) in
    ap₂ eqb
    (ap (λ (i : ℕ). crc_from 0 (take i v)) last ∙ ap (crc_from 0) (headed_part w (length w - 2) (omega arith))
    ∙ sym c.checksum-crc.ensures)
    (ap₂ (λ (i j : ℕ). word (get_or v i 0) (get_or v j 0)) last end
    ∙ ap₂ word (headed_byte w (length w - 2) (omega arith)) (headed_byte w (length w - 2 + 1) (omega arith))
    ∙ sym c.word.ensures)

-- there are bytes enough
enough : (c : After-word) → ltb (length c.args.packet.now) 10 ≡ false
enough c = le-ltb (length c.args.packet.now) 10 (omega arith)

pub returns-then-crc-word : goal.returns-then-crc-word
returns-then-crc-word c = rw (enough (goal.at.returns-then-crc-word c).After-word, sum_test (goal.at.returns-then-crc-word c).After-word ∙ ne_eqb _ _ c.if-crc-word.true)

pub returns-in_default : goal.returns-in_default
returns-in_default c =
    let bad : well_stuffed (body_of c.args.packet.now) ≡ false =
    checked_bad _ (ap checked (sym c.body.ensures) ∙ sym c.check.ensures ∙ c.in_default.is) in
    rw (enough (goal.at.returns-in_default c).After-word, sum_test (goal.at.returns-in_default c).After-word ∙ eq-eqb _ _ c.if-crc-word.false, bad)

pub returns : goal.returns
returns c =
    let good : well_stuffed (body_of c.args.packet.now) ≡ true =
    (checked_good _ _ (ap checked (sym c.body.ensures) ∙ sym c.check.ensures ∙ c.in-Some.is)).0 in
    rw (enough (goal.at.returns c).After-word, sum_test (goal.at.returns c).After-word ∙ eq-eqb _ _ c.if-crc-word.false, good)
