-- The bytes that settle the verdict of a shape's rules.
use mathlib.Core.Path.{◌≡◌, refl, sym, ap, ap₂, ◌∙◌}
use mathlib.Core.Bool.{Bool, true, false}
use mathlib.Core.List.{List, [], ◌++◌}
use Prim.Native.Nat.{ℕ, ◌≤◌, ◌<◌}
use native.Mathlib.Omega.{arith}
use lib.Dec.{leb}
use lib.ListN.{length, take, drop, take-append-drop}
use lib.Seq.{take_all, length-take-le}
use borrow.Author.Tests.{leb-true, leb-false}
use Rattle.lists.proofs.Bools.{both_ways}
use Rattle.reading.specs.Rules.{is_packet, is_bad_checksum, is_waiting}
use Rattle.reading.specs.Progress.{Settles}
use Rattle.packet_rules.specs.Shape.{Shape, complete, lacks, verdict, rules}
use Rattle.packet_rules.specs.Answers.{front_as, settled_as, settled_by}
use Rattle.packet_rules.proofs.Asked.{ShapeLaws}
use Rattle.packet_rules.proofs.Tests.{early_or_late, incomplete_early, incomplete, completes, lacks_early, has_front, has_all, disagrees, waits, by_tests}
use Rattle.packet_rules.proofs.Laws.{waits_by, stays, sized}

module _ (S : Shape) (l : ShapeLaws S) where
  -- what begins a packet lacks all its bytes, as many as the shortest has
  pub none_lacks : lacks S [] ≡ S.shortest
  none_lacks = omega (arith, lacks_early S [] l.some)

  module _ (s : List ℕ) where
    settled_as_lem : {a c : Bool} → S.agrees s ≡ a → complete S s ≡ c → settled_by S s ≡ settled_as (front_as a c (lacks S s) (S.size s))
    settled_as_lem i j = ap₂ (λ (a c : Bool). settled_as (front_as a c (lacks S s) (S.size s))) i j

    -- no packet begins here, or its bytes are not all there, and nothing settles it; or they are, and all of them do
    by_size : {A : Type 0} → (S.agrees s ≡ false → settled_by S s ≡ 0 → A) → (verdict S s ≡ is_waiting → settled_by S s ≡ 0 → A)
        → (S.agrees s ≡ true → complete S s ≡ true → settled_by S s ≡ S.size s → A) → A
    by_size none waiting all =
        by_tests S s (λ i v. none i (settled_as_lem i refl)) (λ i j v. waiting v (settled_as_lem i j)) (λ i j v. all i j (settled_as_lem i j))

    all_settle : S.agrees s ≡ true → complete S s ≡ true → (settled_by S s ≡ S.size s) × (S.shortest ≤ S.size s)
    all_settle i j = (settled_as_lem i j, (l.bounds s i (has_front S s j)).0)

    there : settled_by S s ≤ length s
    there = by_size (λ i z. omega (arith, z)) (λ w z. omega (arith, z)) (λ i j z. omega (arith, z, has_all S s j))

    of_packet : (n : ℕ) → verdict S s ≡ is_packet n → (settled_by S s ≡ n) × (lacks S [] ≤ n)
    of_packet n e =
        by_tests S s (λ i v. let z : ◌≡◌ {A = ℕ} 0 1 = cc in absurd (omega arith))
        (λ i j v. let z : ◌≡◌ {A = ℕ} 0 1 = cc in absurd (omega arith))
        (λ i j v.
        let a = all_settle i j in
        let m = sized S l s n j (sym v ∙ e) in
        (a.0 ∙ m, omega (arith, a.1, m, none_lacks)))

    of_bad : (id : ℕ) → verdict S s ≡ is_bad_checksum id → lacks S [] ≤ settled_by S s
    of_bad id e =
        by_tests S s (λ i v. let z : ◌≡◌ {A = ℕ} 0 1 = cc in absurd (omega arith))
        (λ i j v. let z : ◌≡◌ {A = ℕ} 0 1 = cc in absurd (omega arith))
        (λ i j v. let a = all_settle i j in omega (arith, a.0, a.1, none_lacks))

    module _ (k : ℕ) where
      parts : take k s ++ drop k s ≡ s
      parts = take-append-drop k s

      part_size : S.front ≤ length (take k s) → S.size (take k s) ≡ S.size s
      part_size h = sym (l.size_same (take k s) (drop k s) h) ∙ ap S.size parts

      sooner : k < settled_by S s → verdict S (take k s) ≡ is_waiting
      sooner h =
          by_size (λ i z. absurd (omega (arith, z))) (λ w z. absurd (omega (arith, z)))
          (λ i j z.
          let n : length (take k s) ≡ k = length-take-le k s (omega (arith, z, has_all S s j)) in
          waits S (take k s) (l.agrees_before (take k s) (drop k s) (ap S.agrees parts ∙ i))
          (early_or_late S (take k s) (λ e. incomplete_early S (take k s) e)
          (λ e. incomplete S (take k s) e (omega (arith, n, part_size e, z)))))

      -- where not all bytes are taken
      enough_part : length (take k s) ≡ k → ¬ (verdict S s ≡ is_waiting) → settled_by S s ≤ k → S.shortest ≤ k
          → verdict S (take k s) ≡ verdict S s
      enough_part n w h m =
          let f : S.front ≤ length (take k s) = omega (arith, l.fronted) in
          by_size
          (λ i z. disagrees S (take k s) (sym (l.agrees_same (take k s) (drop k s) f) ∙ ap S.agrees parts ∙ i) ∙ sym (disagrees S s i))
          (λ e z. absurd (w e))
          (λ i j z.
          let c : complete S (take k s) ≡ true = completes S (take k s) f (omega (arith, n, z, part_size f)) in
          sym (stays S l (take k s) (drop k s) (λ e. both_ways (complete S (take k s)) c (waits_by S l (take k s) e).1)) ∙ ap (verdict S) parts)

      enough : ¬ (verdict S s ≡ is_waiting) → settled_by S s ≤ k → lacks S [] ≤ k → verdict S (take k s) ≡ verdict S s
      enough w h m = go (leb (length s) k) refl
        where
          go : (x : Bool) → leb (length s) k ≡ x → verdict S (take k s) ≡ verdict S s
          go true e = ap (verdict S) (take_all k s (leb-true (length s) k e))
          go false e =
              enough_part (length-take-le k s (omega (arith, leb-false (length s) k e))) w h (omega (arith, m, none_lacks))

  pub settles : Settles (rules S) (settled_by S)
  settles = record { there = there; sooner = sooner; enough = enough; of_packet = of_packet; of_bad = of_bad }
