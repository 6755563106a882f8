-- Where all bytes of a packet are there, by header, ID and length field, what is said of them is the verdict.
use mathlib.Core.Path.{◌≡◌, ◌∙◌}
use mathlib.Core.List.{List}
use Prim.Native.Nat.{ℕ, ◌≤◌}
use native.Mathlib.Omega.{arith}
use lib.ListN.{length, take}
use lib.Seq.{take-take}
use borrow.Author.Tests.{le-ltb}
use Rattle.lists.proofs.Bools.{and_left}
use Rattle.packet_rules.specs.Answers.{front_by, answer_for, answer_by}
use Rattle.packet_rules.specs.declared.Front.TheVariants.{Whole}
use Rattle.packet_rules.proofs.Peeks.{peek_agrees, peek_front, peek_long}
use Rattle.packet_rules.proofs.Peeks.{peek_length, peek_whole as whole-judged}
use Rattle.packet_front.specs.Front.{header}
use Rattle.packet_front.specs.Header.{front_agrees, length_agrees}
use Rattle.packet_front.proofs.Agreement.{front_tests, front_header}
use Rattle.packet.specs.Verdict.{judged, shape, protocol2, whole_answer}
use Rattle.packet.proofs.Header.{headed}
use Rattle.packet.proofs.Laws.{shape_laws}

module _ (s : List ℕ) (m : ℕ) (e : front_by shape s ≡ Whole m) where
  long : 10 ≤ length (take m s)
  long = peek_long shape s shape_laws m e

  pub peek_header : take 4 (take m s) ≡ header
  peek_header =
      let n = peek_length shape s shape_laws m e in
      take-take 4 m s (omega (arith, long))
      ∙ front_header s (front_tests s (and_left (front_agrees s) (length_agrees s) (peek_agrees shape s shape_laws m e)))
      (omega (arith, peek_front shape s shape_laws m e))

  -- where the header is right, it need not be looked at
  same_answer_lem : whole_answer (take m s) ≡ answer_for (judged (take m s)) 0
  same_answer_lem = rw (le-ltb (length (take m s)) 10 long, headed (take m s) peek_header)

  pub peek_whole : whole_answer (take m s) ≡ answer_by protocol2 s
  peek_whole = same_answer_lem ∙ whole-judged shape s shape_laws m e
