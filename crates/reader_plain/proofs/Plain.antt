-- The calls one after the other give the reading of the segment, and a reader that keeps to the rules gives the same events.
use mathlib.Core.Path.{◌≡◌, refl, sym, ap, ◌∙◌}
use mathlib.Core.List.Memᴰ
use mathlib.Core.List.{List, [], ◌∷◌, map}
use Prim.Native.Nat.{ℕ, zero, suc, ◌+◌, ◌-◌, ◌≤◌, ◌<◌}
use native.Mathlib.Omega.{arith}
use lib.ListN.{length, take, drop, length-take, length-drop, drop_of_length-le}
use lib.Seq.{drop-drop}
use borrow.Author.Tests.{eq-eqb}
use Rattle.reading.specs.Rules.{Verdict, is_packet, is_bad_checksum, is_waiting, is_nothing}
use Rattle.reading.specs.Reading.{packet, bad_checksum, EventAt, closed, read_from, reading}
use Rattle.reading.specs.Calls.{gap}
use Rattle.reading.specs.Lists.{AnyReader, after, took, Follows}
use Rattle.reading.specs.Promise.{what, since}
use Rattle.reading.proofs.Offsets.{step, nil}
use Rattle.reading.proofs.Demand.{fresh}
use Rattle.reading.proofs.Follows.{follows_after, follows_answer, follows_demand, at_start}
use Rattle.reading.proofs.Across.{without_noise}
use Rattle.packet_front.specs.Front.{id_of}
use Rattle.packet.specs.Verdict.{protocol2}
use Rattle.packet.proofs.Laws.{laws}
use Rattle.reader_plain.specs.Next.{first_of, next_event}
use Rattle.reader_plain.specs.Plain.{part, and_on, calls, plain, Within, Same, PlainPromises}

-- ---- the first event of a reading, and what follows it

abbrev pub on_after : EventAt → ℕ
on_after (p, packet w) = p + length w
on_after (p, bad_checksum id) = p + 1

-- the event stands in the bytes t, which begin at offset p
abbrev pub Stands : ℕ → List ℕ → EventAt → Type 0
Stands p t (q, packet w) = (p ≤ q) × (0 < length w) × (q + length w ≤ p + length t) × (take (length w) (drop (q - p) t) ≡ w)
Stands p t (q, bad_checksum id) = (p ≤ q) × (q + 1 ≤ p + length t)

-- and the reading goes on behind it
unfoldable pub Goes : ℕ → List ℕ → List EventAt → Type 0
Goes p t [] = Unit {0}
Goes p t (f ∷ fs) = Stands p t f × (p < on_after f) × (fs ≡ read_from protocol2 closed (on_after f) (drop (on_after f - p) t))

stands_later : (p b : ℕ) (t : List ℕ) (f : EventAt) → Stands (p + 1) t f → Stands p (b ∷ t) f
stands_later p b t (q, packet w) g =
    let e : q - p ≡ suc (q - (p + 1)) = omega (arith, g.0) in
    (omega (arith, g.0), g.1, omega (arith, g.2), rw e g.3)
stands_later p b t (q, bad_checksum id) g = (omega (arith, g.0), omega (arith, g.1))

goes_later : (p b : ℕ) (t : List ℕ) (l : List EventAt) → Goes (p + 1) t l → Goes p (b ∷ t) l
unfolding Goes
goes_later p b t [] g = tt
goes_later p b t (f ∷ fs) g =
    let e : on_after f - p ≡ suc (on_after f - (p + 1)) = omega (arith, g.1) in
    (stands_later p b t f g.0, omega (arith, g.1), rw e g.2)

pub goes : (p : ℕ) (t : List ℕ) → Goes p t (read_from protocol2 closed p t)
unfolding Goes
goes p [] = rw (nil protocol2 laws closed p) tt
goes p (b ∷ t) = by_verdict (goes (p + 1) t) (protocol2.verdict (b ∷ t)) refl
  where
    later : Goes (p + 1) t (read_from protocol2 closed (p + 1) t) → Goes p (b ∷ t) (read_from protocol2 closed (p + 1) t)
    later g = goes_later p b t (read_from protocol2 closed (p + 1) t) g

    by_verdict : Goes (p + 1) t (read_from protocol2 closed (p + 1) t) → (v : Verdict) → protocol2.verdict (b ∷ t) ≡ v
        → Goes p (b ∷ t) (read_from protocol2 closed p (b ∷ t))
    by_verdict g (is_packet n) e =
        let k = laws.sound (b ∷ t) n e in
        let m : length (take n (b ∷ t)) ≡ n = simp length-take (omega (arith, k.1)) in
        let d : p + n - p ≡ n = omega arith in
        let z : p - p ≡ 0 = omega arith in
        rw (step protocol2 laws closed p b t (is_packet n) e)
        ((omega arith, omega (arith, k.0, m), omega (arith, k.1, m), rw (m, z)), omega (arith, k.0, m), rw (m, d))
    by_verdict g (is_bad_checksum id) e =
        let d : p + 1 - p ≡ 1 = omega arith in
        rw (step protocol2 laws closed p b t (is_bad_checksum id) e) ((omega arith, omega arith), omega arith, rw d)
    by_verdict g is_nothing e = rw (step protocol2 laws closed p b t is_nothing e) (later g)
    by_verdict g is_waiting e = rw (step protocol2 laws closed p b t is_waiting e) (later g)

-- ---- the calls one after the other

-- offset q, reached from offset p
pub reached : (s : List ℕ) (p q : ℕ) → p ≤ q → drop (q - p) (drop p s) ≡ drop q s
reached s p q h =
    let k : p + (q - p) ≡ q = omega arith in
    drop-drop (q - p) p s ∙ ap (λ (n : ℕ). drop n s) k

calls_from : (s : List ℕ) (most p : ℕ) → length s ≤ most + p → calls s most p ≡ read_from protocol2 closed p (drop p s)
unfolding calls next_event Goes
calls_from s zero p h = rw (drop_of_length-le s {i = p} (omega arith), nil protocol2 laws closed p)
calls_from s (suc most) p h =
    by_first (λ q l. calls_from s most q l) (read_from protocol2 closed p (drop p s)) refl (goes p (drop p s))
  where
    rest : (f : EventAt) (fs : List EventAt) → ((q : ℕ) → length s ≤ most + q → calls s most q ≡ read_from protocol2 closed q (drop q s))
        → Goes p (drop p s) (f ∷ fs) → calls s most (on_after f) ≡ fs
    rest f fs again g =
        again (on_after f) (omega (arith, g.1, h))
        ∙ sym (g.2 ∙ ap (read_from protocol2 closed (on_after f)) (reached s p (on_after f) (omega (arith, g.1))))

    by_first : ((q : ℕ) → length s ≤ most + q → calls s most q ≡ read_from protocol2 closed q (drop q s)) → (l : List EventAt)
        → read_from protocol2 closed p (drop p s) ≡ l → Goes p (drop p s) l → and_on s (first_of l) (λ q. calls s most q) ≡ l
    by_first again [] e g = refl
    by_first again ((q, packet w) ∷ fs) e g =
        let i : part s q (length w) ≡ w =
        ap (λ (t : List ℕ). take (length w) t) (sym (reached s p q g.0.0)) ∙ g.0.3 in
        rw (i, eq-eqb (id_of w) (id_of w) refl) (ap {B = List EventAt} (λ (l : List EventAt). (q, packet w) ∷ l) (rest (q, packet w) fs again g))
    by_first again ((q, bad_checksum id) ∷ fs) e g =
        ap {B = List EventAt} (λ (l : List EventAt). (q, bad_checksum id) ∷ l) (rest (q, bad_checksum id) fs again g)

reads : (s : List ℕ) → plain s ≡ reading protocol2 s
unfolding reading
reads s = calls_from s (length s) 0 (omega arith)

-- ---- within the segment

pub within : (s : List ℕ) (from : ℕ) → Within s from (next_event s from)
unfolding next_event Goes
within s from = by_first (read_from protocol2 closed from (drop from s)) (goes from (drop from s))
  where
    by_first : (l : List EventAt) → Goes from (drop from s) l → Within s from (first_of l)
    by_first [] g = tt
    by_first ((q, packet w) ∷ fs) g =
        let k = g.0 in
        (k.0, omega (arith, k.1), omega (arith, k.0, k.1, k.2, length-drop from s), refl)
    by_first ((q, bad_checksum id) ∷ fs) g =
        let k = g.0 in
        (k.0, omega arith, omega (arith, k.0, k.1, length-drop from s))

-- ---- beside a reader that keeps to the rules

module _ (M : AnyReader) (Legal : M.State → Type 0) (held : M.State → List ℕ) (F : Follows protocol2 M Legal held) where
  same : Same M
  same x is-fresh earlier start chunks g =
      let f = F.fresh x is-fresh in
      let n = follows_after protocol2 M Legal held F x [] earlier f.0 f.1 in
      let empty = n.1 ∙ fresh protocol2 laws earlier (at_start protocol2 M Legal held F x [] earlier f.0 f.1 start) in
      let y = after M x earlier in
      let t = took M y (since chunks g) in
      let d =
      follows_demand protocol2 M Legal held F laws x is-fresh earlier start chunks g [] [] t refl
      (λ w m. absurd (Memᴰ.not-nil m)) (without_noise protocol2 _) in
      record {
        counted = d.counted;
        finishes =
            λ e. (e.0, e.1, follows_answer protocol2 M Legal held F y [] (since chunks e.0) gap n.0 empty ∙ e.2);
        same = λ e. sym d.firsts ∙ ap (λ (l : List EventAt). map what l) (d.all e ∙ sym (reads t));
      }

  pub plain_promises : PlainPromises M
  plain_promises = record { reads = reads; within = within; same = same }
