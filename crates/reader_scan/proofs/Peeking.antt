-- By the rules of a protocol: what the look at an offset and the judgement there tell, and the way to the next
-- offset at which a packet may begin.
use mathlib.Core.Path.{◌≡◌, refl, sym, subst, ◌∙◌}
use mathlib.Core.List.{List}
use Prim.Native.Nat.{ℕ, ◌+◌, ◌-◌, ◌≤◌, ◌<◌}
use native.Mathlib.Omega.{arith}
use lib.ListN.{length, take, drop, length-drop}
use Rattle.reading.specs.Rules.{Rules, Laws, is_nothing}
use Rattle.reading.specs.Reading.{Mode, closed}
use Rattle.reading.specs.Calls.{first}
use Rattle.packet_rules.specs.Answers.{front_by, settled_by}
use Rattle.packet_rules.specs.Starts.{before_start}
use Rattle.packet_rules.specs.declared.Front.{Front}
use Rattle.packet_rules.specs.declared.Front.TheVariants.{Whole}
use Rattle.packet_rules.specs.declared.Front.TheVariants.{Nothing as Front-as-Nothing, Waiting as Front-as-Waiting}
use Rattle.packet_rules.specs.declared.Verdict.{Verdict}
use Rattle.packet_rules.specs.declared.Verdict.TheVariants.{Packet, BadChecksum, Waiting, Nothing}
use Rattle.packet_rules.proofs.Peeks.{Peeked, VerdictIs, peeked, judged, front_at, whole_fits}
use Rattle.packet_rules.proofs.Starts.{before_fits}
use Rattle.packet_protocols.specs.declared.Protocol.{Protocol}
use Rattle.packet_protocols.specs.Protocols.{shape_of, rules_of, may_begin_of, whole_of}
use Rattle.packet_protocols.proofs.Shapes.{shapes_kept, laws, settles, whole_is, whole_at, none_before_start}
use Rattle.reader_scan.proofs.Scans.{scan_none, scan_nothing, scan_past}
use Rattle.reader_scan.proofs.Seeking.{Sought, sought_past}

-- what is judged to be neither packet nor bad checksum says nothing
judged_nothing : (R : Rules) (s : List ℕ) (j : Verdict) → VerdictIs R s j → ((n : ℕ) → j ≡ Packet n → ⊥)
    → ((id : ℕ) → j ≡ BadChecksum id → ⊥) → R.verdict s ≡ is_nothing
judged_nothing R s (Packet n) v p b = absurd (p n refl)
judged_nothing R s (BadChecksum id) v p b = absurd (b id refl)
judged_nothing R s (Waiting k) v p b = absurd v
judged_nothing R s Nothing v p b = v

neither_nothing : (b : Front) → ((k : ℕ) → b ≡ Front-as-Waiting k → ⊥) → ((n : ℕ) → b ≡ Whole n → ⊥) → b ≡ Front-as-Nothing
neither_nothing Front-as-Nothing w n = refl
neither_nothing (Front-as-Waiting k) w n = absurd (w k refl)
neither_nothing (Whole k) w n = absurd (n k refl)

-- a closed segment passes an offset where not all bytes of a packet are there
pub peek_past : (R : Rules) (L : Laws R) (settled : List ℕ → ℕ) (s : List ℕ) (at : ℕ) → at < length s → (b : Front)
    → Peeked R settled (drop at s) b → ((n : ℕ) → b ≡ Whole n → ⊥) → first R closed (drop at s) ≡ first R closed (drop (at + 1) s)
peek_past R L settled s at h Front-as-Nothing v w = scan_nothing R L closed s at at (omega arith) refl h v.0
peek_past R L settled s at h (Front-as-Waiting k) v w = scan_past R L s at at (omega arith) h v.0 refl
peek_past R L settled s at h (Whole n) v w = absurd (w n refl)

module _ (p : Protocol) (s : List ℕ) (at : ℕ) where
  -- b is what the look says
  module _ (b : Front) (e : b ≡ front_by (shape_of p) (take (length s - at) (drop at s))) where
    pub peek_at : (b' : Front) → b ≡ b' → Peeked (rules_of p) (settled_by (shape_of p)) (drop at s) b'
    peek_at b' i = peeked (shape_of p) (drop at s) b' (front_at (shape_of p) s at b b' e i)

    pub fits_at : (n : ℕ) → b ≡ Whole n → at + n ≤ length s
    fits_at n i = whole_fits (shape_of p) s at (shapes_kept p) n (front_at (shape_of p) s at b (Whole n) e i)

    -- what neither waits nor is whole: no packet begins there
    pub none_at : ((k : ℕ) → b ≡ Front-as-Waiting k → ⊥) → ((n : ℕ) → b ≡ Whole n → ⊥)
        → Peeked (rules_of p) (settled_by (shape_of p)) (drop at s) Front-as-Nothing
    none_at w n = peek_at Front-as-Nothing (neither_nothing b w n)

    pub judge_at : (n : ℕ) → b ≡ Whole n → (j j' : Verdict) → j ≡ whole_of p (take (at + n - at) (drop at s)) → j ≡ j'
        → VerdictIs (rules_of p) (drop at s) j'
    judge_at n i j j' k l =
        let w = front_at (shape_of p) s at b (Whole n) e i in
        subst (λ (x : Verdict). VerdictIs (rules_of p) (drop at s) x) (sym (whole_is p (drop at s) n w) ∙ whole_at p s at n j j' k l)
        (judged (shape_of p) (drop at s) (shapes_kept p) n w)

    -- all bytes are there, and they are judged to be neither packet nor bad checksum
    pub nothing_at : (n : ℕ) → b ≡ Whole n → (j : Verdict) → j ≡ whole_of p (take (at + n - at) (drop at s)) → ((k : ℕ) → j ≡ Packet k → ⊥)
        → ((id : ℕ) → j ≡ BadChecksum id → ⊥) → (rules_of p).verdict (drop at s) ≡ is_nothing
    nothing_at n i j k = judged_nothing (rules_of p) (drop at s) j (judge_at n i j j k refl)

  -- r is the next offset at which a packet may begin, or the end
  module _ (r : ℕ) (e : r ≡ at + before_start (may_begin_of p) (drop at s)) where
    abbrev passed : ℕ
    passed = before_start (may_begin_of p) (drop at s)

    pub start_at : (m : Mode) → at ≤ length s
        → (at ≤ r) × (r ≤ length s) × (first (rules_of p) m (drop at s) ≡ first (rules_of p) m (drop r s))
    start_at m h =
        let f = before_fits (may_begin_of p) (drop at s) in (
          omega (arith, e),
          omega (arith, e, f, length-drop at s),
          rw e (scan_none (rules_of p) (settled_by (shape_of p)) s at passed (none_before_start p (drop at s)) m f),
        )

    pub start_sought : (end : ℕ) → Sought (rules_of p) (settled_by (shape_of p)) s at end → Sought (rules_of p) (settled_by (shape_of p)) s r end
    start_sought end w =
        rw e
        (sought_past (rules_of p) (laws p) (settled_by (shape_of p)) (settles p) s at end w passed (none_before_start p (drop at s))
        (before_fits (may_begin_of p) (drop at s)))
