-- Looking ahead in the chunk, where nothing is held: the offsets before `at` have been judged, and the bytes up to `end` settle
-- them.
use mathlib.Core.Path.{◌≡◌, refl, sym, ◌∙◌}
use mathlib.Core.List.{List, []}
use mathlib.Core.Logic.{◌⊎◌, inl, inr}
use Prim.Native.Nat.{ℕ, ◌+◌, ◌≤◌, ◌<◌}
use native.Mathlib.Omega.{arith}
use lib.ListN.{length, take, drop, length-take, length-drop}
use lib.Seq.{take_all}
use Rattle.reading.specs.Rules.{Rules, Laws, is_packet, is_bad_checksum, is_waiting, is_nothing}
use Rattle.reading.specs.Rules.{Verdict}
use Rattle.reading.specs.Reading.{open'}
use Rattle.reading.specs.Calls.{first}
use Rattle.reading.specs.Progress.{Reached, Settles}
use Rattle.reading.proofs.Progress.{reached_end}
use Rattle.reading.proofs.Ahead.{Ahead, NoneBegins, ahead_start, ahead_past, ahead_next, ahead_reached, ahead_verdict, ahead_first, ahead_whole, ahead_silent}
use Rattle.reader_scan.specs.declared.Scanned.TheVariants.{Packet, BadChecksum, Waiting}
use Rattle.reader_scan.specs.Scan.{Ends}
use Rattle.reader_scan.proofs.Scans.{scan_packet, scan_bad}
use Rattle.reader_scan.proofs.Windows.{ends_decided}

pub record Sought (R : Rules) (settled : List ℕ → ℕ) (chunk : List ℕ) (at end : ℕ) : Type 0 where
  pub fits : at ≤ length chunk
  pub within : end ≤ length chunk
  pub ahead : Ahead R settled chunk at end

module _ (R : Rules) (L : Laws R) (settled : List ℕ → ℕ) (S : Settles R settled) (chunk : List ℕ) where
  pub sought_start : Sought R settled chunk 0 0
  sought_start = record { fits = omega arith; within = omega arith; ahead = ahead_start R settled chunk }

  module _ (at end : ℕ) (w : Sought R settled chunk at end) where
    -- no packet begins at the next k offsets
    pub sought_past : (k : ℕ) → ((q : ℕ) → q < k → NoneBegins R settled (drop q (drop at chunk))) → k ≤ length (drop at chunk)
        → Sought R settled chunk (at + k) end
    sought_past k n h =
        record {
          fits = omega (arith, w.fits, length-drop at chunk);
          within = w.within;
          ahead = ahead_past R L settled S chunk at end w.ahead k n;
        }

    -- nor at this one
    pub sought_none : at < length chunk → NoneBegins R settled (drop at chunk) → Sought R settled chunk (at + 1) end
    sought_none h n =
        sought_past 1 (λ q i. let z : q ≡ 0 = omega arith in rw z n) (simp length-drop (omega arith))

    -- the bytes up to `last` settle `at` too
    module _ (last : ℕ) (h : at < length chunk) (l : end ≤ last) (m : at + settled (drop at chunk) ≤ last)
        (is : (last ≡ end) ⊎ (last ≡ at + settled (drop at chunk))) where
      last_within : last ≤ length chunk
      last_within = by is
        where
          by : (last ≡ end) ⊎ (last ≡ at + settled (drop at chunk)) → last ≤ length chunk
          by (inl e) = omega (arith, w.within)
          by (inr e) = omega (arith, S.there (drop at chunk), length-drop at chunk)

      pub sought_next : R.verdict (drop at chunk) ≡ is_nothing → Sought R settled chunk (at + 1) last
      sought_next v =
          record {
            fits = omega arith;
            within = last_within;
            ahead = ahead_next R L settled S chunk at end w.ahead last l m is h v;
          }

      -- `at` decides an event
      module _ (v : Verdict) (e : R.verdict (drop at chunk) ≡ v) (d : v ≡ is_waiting → ⊥) (o : 0 < R.lacks [])
          (n : R.lacks [] ≤ settled (drop at chunk)) where
        d' : R.verdict (drop at chunk) ≡ is_waiting → ⊥
        d' i = d (sym e ∙ i)

        reached : Reached R [] chunk (take last chunk) last
        reached = ahead_reached R L settled S chunk at end w.ahead last l m is h d' n

        first_here : first R open' (take last chunk) ≡ first R open' (drop at (take last chunk))
        first_here = ahead_first R L settled S chunk at end w.ahead last l m is h d' n

        verdict_here : R.verdict (drop at (take last chunk)) ≡ v
        verdict_here = ahead_verdict R L settled S chunk at end w.ahead last l m is h d' n ∙ e

        some : at < length (take last chunk)
        some = simp length-take (omega (arith, h, m, n, o))

      pub sought_packet : (k : ℕ) → 0 < R.lacks [] → R.verdict (drop at chunk) ≡ is_packet k
          → (last ≤ length chunk) × Ends R [] chunk (take last chunk) last (Packet at k)
      sought_packet k o e =
          let g = S.of_packet (drop at chunk) k e in
          let d : is_packet k ≡ is_waiting → ⊥ = λ i. let z : ◌≡◌ {A = ℕ} 0 1 = cc in omega arith in
          let n : R.lacks [] ≤ settled (drop at chunk) = omega (arith, g.0, g.1) in (
            last_within,
            ends_decided R L [] chunk (take last chunk) last 0 (Packet at k)
                (λ a i. let z : ◌≡◌ {A = ℕ} 0 1 = cc in omega arith)
                (scan_packet R L open' (take last chunk) 0 at (omega arith) (first_here (is_packet k) e d o n) k
                (some (is_packet k) e d o n) (verdict_here (is_packet k) e d o n))
                (reached (is_packet k) e d o n),
          )

      pub sought_bad : (id : ℕ) → 0 < R.longest → 0 < R.lacks [] → R.verdict (drop at chunk) ≡ is_bad_checksum id
          → (last ≤ length chunk) × Ends R [] chunk (take last chunk) last (BadChecksum at id)
      sought_bad id j o e =
          let d : is_bad_checksum id ≡ is_waiting → ⊥ = λ i. let z : ◌≡◌ {A = ℕ} 0 1 = cc in omega arith in
          let n = S.of_bad (drop at chunk) id e in (
            last_within,
            ends_decided R L [] chunk (take last chunk) last 0 (BadChecksum at id)
                (λ a i. let z : ◌≡◌ {A = ℕ} 0 1 = cc in omega arith)
                (scan_bad R L open' (take last chunk) 0 at (omega arith) (first_here (is_bad_checksum id) e d o n) id j
                (some (is_bad_checksum id) e d o n) (verdict_here (is_bad_checksum id) e d o n))
                (reached (is_bad_checksum id) e d o n),
          )

    -- `at` waits, or is the end: all of the chunk is taken
    pub sought_end : (R.verdict (drop at chunk) ≡ is_waiting) ⊎ (length chunk ≤ at)
        → (length chunk ≤ length chunk) × Ends R [] chunk (take (length chunk) chunk) (length chunk) (Waiting at)
    sought_end u =
        let all : take (length chunk) chunk ≡ chunk = take_all (length chunk) chunk (omega arith) in (
          omega arith,
          record {
            fits = simp length-take (omega (arith, w.fits));
            short = omega arith;
            fed_is =
                reached_end R [] chunk chunk (drop at chunk)
                (ahead_whole R L settled S chunk at end w.ahead u w.fits)
                (ahead_silent R L settled S chunk at end w.ahead u w.fits)
                ∙ rw all refl;
          },
        )
