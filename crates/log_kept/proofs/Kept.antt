-- Kept and dropped entries: one more of them, how many there are, and how many bytes the kept ones have.
use Rattle.std.specs.Prelude.{None, Option, Some}
use mathlib.Core.Path.{◌≡◌, refl, sym, ap, ap₂, subst, ◌∙◌}
use mathlib.Core.List.{List, [], ◌∷◌}
use Prim.Native.Nat.{ℕ, suc, ◌+◌, ◌-◌, ◌≤◌, ◌<◌}
use native.Mathlib.Omega.{arith}
use lib.Dec.{leb}
use lib.ListN.{length, drop, length-append, length-drop}
use lib.Seq.{length-take-le}
use borrow.Author.Tests.{leb-true, le-leb, lt-leb}
use Rattle.answers.proofs.Laws.{passed}
use Rattle.reading.specs.Promise.{joined}
use Rattle.log_layout.specs.Log.{LogEntry, directory}
use Rattle.log_layout.specs.Layout.{segment_by, segments_by}
use Rattle.log_kept.specs.declared.Fault.{Fault}
use Rattle.log_kept.specs.declared.Fault.TheVariants.{BadStart, BadEnd}
use Rattle.log_kept.specs.Kept.{fault, reason, limit_after, keeping, kept, Dropped, dropping, dropped}

-- the bytes of the segments of some entries
abbrev pub bytes_by : List ℕ → List LogEntry → ℕ
bytes_by file es = length (joined (segments_by file es))

-- ---- one entry

module _ (size limit : ℕ) (e : LogEntry) where
  -- one without a fault starts and ends where it may
  pub fault_none : fault size limit e ≡ None → (limit ≤ e.0) × (e.0 + e.1 ≤ size)
  fault_none f =
      let s = passed (leb limit e.0) BadStart _ f in
      (leb-true _ _ s.0, leb-true _ _ (passed (leb (e.0 + e.1) size) BadEnd _ s.1).0)

  -- and one that does has none
  pub no_fault : limit ≤ e.0 → e.0 + e.1 ≤ size → fault size limit e ≡ None
  no_fault h k = rw (le-leb limit e.0 h, le-leb (e.0 + e.1) size k)

  pub starts_early : e.0 < limit → fault size limit e ≡ Some BadStart
  starts_early h = rw (lt-leb limit e.0 h)

  pub ends_late : limit ≤ e.0 → size < e.0 + e.1 → fault size limit e ≡ Some BadEnd
  ends_late h k = rw (le-leb limit e.0 h, lt-leb (e.0 + e.1) size k)

  module _ (es : List LogEntry) (i : ℕ) where
    module _ (f : fault size limit e ≡ None) where
      pub kept_here : kept size limit (e ∷ es) ≡ e ∷ kept size (e.0 + e.1) es
      unfolding kept
      kept_here = ap (λ (o : Option Fault). keeping o e (kept size (limit_after o limit e) es)) f

      pub dropped_not : dropped size limit i (e ∷ es) ≡ dropped size (e.0 + e.1) (suc i) es
      unfolding dropped
      dropped_not = ap (λ (o : Option Fault). dropping o i (dropped size (limit_after o limit e) (suc i) es)) f

    module _ (r : Fault) (f : fault size limit e ≡ Some r) where
      pub kept_not : kept size limit (e ∷ es) ≡ kept size limit es
      unfolding kept
      kept_not = ap (λ (o : Option Fault). keeping o e (kept size (limit_after o limit e) es)) f

      pub dropped_here : dropped size limit i (e ∷ es) ≡ (i, reason r) ∷ dropped size limit (suc i) es
      unfolding dropped
      dropped_here = ap (λ (o : Option Fault). dropping o i (dropped size (limit_after o limit e) (suc i) es)) f

-- ---- all of them

-- each is kept or dropped
pub counts_add : (size limit i : ℕ) (es : List LogEntry) → length (kept size limit es) + length (dropped size limit i es) ≡ length es
unfolding kept dropped
counts_add size limit i [] = refl
counts_add size limit i (e ∷ es) =
    by_fault (λ l. counts_add size l (suc i) es) (fault size limit e) refl
  where
    by_fault : ((l : ℕ) → length (kept size l es) + length (dropped size l (suc i) es) ≡ length es) → (o : Option Fault) → fault size limit e ≡ o → length (kept size limit (e ∷ es)) + length (dropped size limit i (e ∷ es)) ≡ suc (length es)
    by_fault rest None f =
        ap₂ (λ (k : List LogEntry) (d : List Dropped). length k + length d) (kept_here size limit e es i f) (dropped_not size limit e es i f)
        ∙ (let c = rest (e.0 + e.1) in omega arith)
    by_fault rest (Some r) f =
        let c = rest limit in
        ap₂ (λ (k : List LogEntry) (d : List Dropped). length k + length d) (kept_not size limit e es i r f) (dropped_here size limit e es i r f)
        ∙ omega arith

-- a segment within the file has all its bytes
pub whole_segment : (file : List ℕ) (s m : ℕ) → s + m ≤ length file → length (segment_by file (s, m)) ≡ m
whole_segment file s m h = length-take-le m (drop s file) (omega (arith, length-drop s file))

pub bytes_cons : (file : List ℕ) (s m : ℕ) (es : List LogEntry) → s + m ≤ length file → bytes_by file ((s, m) ∷ es) ≡ m + bytes_by file es
bytes_cons file s m es h =
    length-append (segment_by file (s, m)) (joined (segments_by file es)) ∙ ap (λ (k : ℕ). k + bytes_by file es) (whole_segment file s m h)

-- the kept ones lie side by side behind the limit
pub kept_fits : (file : List ℕ) (limit : ℕ) (es : List LogEntry) → bytes_by file (kept (length file) limit es) ≤ length file - limit
unfolding kept
kept_fits file limit [] = omega arith
kept_fits file limit (e ∷ es) = by_fault (λ l. kept_fits file l es) (fault (length file) limit e) refl
  where
    by_fault : ((l : ℕ) → bytes_by file (kept (length file) l es) ≤ length file - l) → (o : Option Fault) → fault (length file) limit e ≡ o → bytes_by file (kept (length file) limit (e ∷ es)) ≤ length file - limit
    by_fault rest None f =
        let w = fault_none (length file) limit e f in
        let k = rest (e.0 + e.1) in
        let b = bytes_cons file e.0 e.1 (kept (length file) (e.0 + e.1) es) w.1 in
        let q = ap (bytes_by file) (kept_here (length file) limit e es 0 f) in
        omega (arith, w.0, w.1, k, b, q)
    by_fault rest (Some r) f =
        subst (λ (l : List LogEntry). bytes_by file l ≤ length file - limit) (sym (kept_not (length file) limit e es 0 r f)) (rest limit)

-- of segments side by side from the limit on, all are kept
pub all_kept : (size start i : ℕ) (ss : List (List ℕ)) → start + length (joined ss) ≤ size
    → (kept size start (directory start ss) ≡ directory start ss) × (dropped size start i (directory start ss) ≡ [])
unfolding kept dropped directory
all_kept size start i [] h = (refl, refl)
all_kept size start i (s ∷ ss) h =
    let l = length-append s (joined ss) in
    let f = no_fault size start (start, length s) (omega arith) (omega arith) in
    let r = all_kept size (start + length s) (suc i) ss (omega arith) in (
      kept_here size start (start, length s) (directory (start + length s) ss) i f ∙ ap (λ (es : List LogEntry). (start, length s) ∷ es) r.0,
      dropped_not size start (start, length s) (directory (start + length s) ss) i f ∙ r.1,
    )
