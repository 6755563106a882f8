-- What holds the supposition of demand 3 in place: where there is no noise nothing is supposed, and a test that can be run says
-- of which noise it holds. And what is promised of every list of calls, as one record.
use Rattle.std.specs.Prelude.{◌≡◌, Bool, false, ◌||◌, ℕ, ltb, length}
use mathlib.Core.List.{List, [], ◌∷◌, ◌++◌, map, Memᴰ}
use Rattle.reading.specs.Rules.{Verdict, is_packet, is_bad_checksum, is_waiting, is_nothing, Rules, Laws}
use Rattle.reading.specs.Reading.{packet}
use Rattle.reading.specs.Calls.{Call, gap, FewestRule, HeldBound, FinishedEmpty}
use Rattle.reading.specs.Lists.{AnyReader, model, after, took, given}
use Rattle.reading.specs.Promise.{joined, EndsSilent, AtStart, since, Finished, AllWellFormed, NoneAcross, Demand3}

-- no noise: nothing reaches across [Q7]
abbrev pub WithoutNoise : Rules → Type 0
WithoutNoise R = (beyond : List ℕ) → NoneAcross R [] beyond

-- noise in which the byte that packets begin with does not stand: nothing reaches across [Q14]
abbrev pub NoneWithout : Rules → ℕ → Type 0
NoneWithout R start = (noise beyond : List ℕ) → ¬ Memᴰ start noise → NoneAcross R noise beyond

-- a packet of more than n bytes
abbrev pub longer_than : ℕ → Verdict → Bool
longer_than n (is_packet k) = ltb n k
longer_than n (is_bad_checksum id) = false
longer_than n is_waiting = false
longer_than n is_nothing = false

-- at some offset in the noise the verdict is a packet that has more bytes than the noise has from there on [Q7]
unfoldable pub reaches_across : Rules → List ℕ → List ℕ → Bool
reaches_across R [] beyond = false
reaches_across R (b ∷ noise) beyond =
    longer_than (length (b ∷ noise)) (R.verdict (b ∷ (noise ++ beyond))) || reaches_across R noise beyond

-- the supposition is that this test fails: nothing more and nothing less [Q7]
abbrev pub AcrossDecided : Rules → Type 0
AcrossDecided R =
    (noise beyond : List ℕ) → (reaches_across R noise beyond ≡ false → NoneAcross R noise beyond)
    × (NoneAcross R noise beyond → reaches_across R noise beyond ≡ false)

-- Demand 3 where there is no noise, with nothing supposed: on a reader at a fresh start or a finished gap, feeding calls and
-- then gap calls, of which by the rules the bytes taken are well-formed packets side by side and the gap is finished. The
-- reader takes these bytes, and the events given are these packets, in order and as received, and nothing else. All that is
-- asked is asked of the reader of the rules: one that takes nothing, or never finishes a gap, is not let off. [Q13]
abbrev pub CleanLine : Rules → AnyReader → Type 0
CleanLine R M =
    (x : M.State) → M.Fresh x → (earlier : List Call) → AtStart (model R) [] earlier → (chunks : List (List ℕ)) (g : ℕ)
    (packets : List (List ℕ)) → AllWellFormed R packets → took (model R) [] (since chunks g) ≡ joined packets
    → Finished (model R) [] chunks g
    → (took M (after M x earlier) (since chunks g) ≡ joined packets)
    × (given M (after M x earlier) (since chunks g) ≡ map packet packets)

-- feeding calls and then g gap calls take and give these packets, finish the gap, and leave the reader at a start again
pub record AllRead (M : AnyReader) (x : M.State) (chunks : List (List ℕ)) (g : ℕ) (packets : List (List ℕ)) : Type 0 where
  pub all_taken : took M x (since chunks g) ≡ joined packets
  pub all_given : given M x (since chunks g) ≡ map packet packets
  pub finished : Finished M x chunks g
  pub start_again : EndsSilent M x (since chunks g) gap

-- such calls are there for any packets: each packet is one chunk, and one gap call follows [Q13]
abbrev pub PacketByPacket : Rules → AnyReader → Type 0
PacketByPacket R M =
    (x : M.State) → M.Fresh x → (packets : List (List ℕ)) → AllWellFormed R packets → AllRead M x packets 1 packets

-- what is promised of every list of calls on a reader M that goes by the rules R
pub record CallPromises (R : Rules) (M : AnyReader) : Type 0 where
  pub laws : Laws R
  pub demand_3 : Demand3 R M
  pub clean_line : CleanLine R M
  pub packet_by_packet : PacketByPacket R M
  pub without_noise : WithoutNoise R
  pub across_decided : AcrossDecided R
  pub fewest_rule : FewestRule R
  pub held_bound : HeldBound R
  pub finished_empty : FinishedEmpty R
