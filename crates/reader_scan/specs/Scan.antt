-- What the parts of the reader find, over any packet rules R: where the first event stands, and how a feeding call ends.
use Rattle.std.specs.Prelude.{None, Option, Some}
use Rattle.std.specs.Prelude.{◌≡◌, List, [], ℕ, ◌+◌, ◌≤◌, ◌<◌, length, take, drop}
use Rattle.reading.specs.Rules.{Rules}
use Rattle.reading.specs.Reading.{Event, packet, bad_checksum, Mode, open'}
use Rattle.reading.specs.Calls.{event, silent, first, CallResult, fed}
use Rattle.reading.specs.Progress.{Reached, Patient}
use Rattle.reader_scan.specs.declared.Stop.{Stop}
use Rattle.reader_scan.specs.declared.Stop.TheVariants.{Done, Passed, Full}
use Rattle.reader_scan.specs.declared.Scanned.{Scanned}
use Rattle.reader_scan.specs.declared.Scanned.TheVariants.{Packet, BadChecksum, Waiting}

-- the first event of the bytes of s from offset `from` on is this one; it begins at offset `at`, and reading goes on at `on`
pub record Decides (R : Rules) (m : Mode) (s : List ℕ) (from at on : ℕ) (e : Event) : Type 0 where
  pub begins : from ≤ at
  pub moves : at < on
  pub fits : on ≤ length s
  pub short : on ≤ at + R.longest
  pub first_is : first R m (drop from s) ≡ event e (drop on s)

-- they have none, and what is left of them begins at offset `at`
pub record Waits (R : Rules) (m : Mode) (s : List ℕ) (from at : ℕ) : Type 0 where
  pub begins : from ≤ at
  pub fits : at ≤ length s
  pub first_is : first R m (drop from s) ≡ silent (drop at s)

abbrev pub Seen : Rules → Mode → List ℕ → ℕ → Scanned → Type 0
Seen R m s from (Packet at n) = Decides R m s from at (at + n) (packet (take n (drop at s)))
Seen R m s from (BadChecksum at id) = Decides R m s from at (at + 1) (bad_checksum id)
Seen R m s from (Waiting at) = Waits R m s from at

-- how many bytes more are wanted, where some wait
abbrev pub Wants : Rules → List ℕ → Scanned → ℕ → Type 0
Wants R s (Packet at n) k = k ≡ 0
Wants R s (BadChecksum at id) k = k ≡ 0
Wants R s (Waiting at) k = at < length s → Patient R (drop at s) k

-- where reading goes on
abbrev pub on_from : Scanned → ℕ
on_from (Packet at n) = at + n
on_from (BadChecksum at id) = at + 1
on_from (Waiting at) = at

-- the byte count of the packet, if it is one
abbrev pub size_seen : Scanned → ℕ
size_seen (Packet at n) = n
size_seen (BadChecksum at id) = 0
size_seen (Waiting at) = 0

abbrev pub answer_of : List ℕ → Scanned → Option Event
answer_of s (Packet at n) = Some (packet (take n (drop at s)))
answer_of s (BadChecksum at id) = Some (bad_checksum id)
answer_of s (Waiting at) = None

-- the result that ends with what was seen of the bytes s, n bytes taken
abbrev pub result_of : List ℕ → ℕ → Scanned → CallResult
result_of s n v = record { taken = n; answer = answer_of s v; held = drop (on_from v) s }

-- a feeding call with the chunk c on a reader that holds h ends so
pub record Ends (R : Rules) (h c s : List ℕ) (n : ℕ) (v : Scanned) : Type 0 where
  pub fits : on_from v ≤ length s
  pub short : size_seen v ≤ R.longest
  pub fed_is : fed R h c ≡ result_of s n v

-- where the held bytes wait: the window begins at offset `at` of the bytes s
pub record Stops (R : Rules) (h c s : List ℕ) (n at : ℕ) : Type 0 where
  pub fits : at ≤ length s
  pub reached : Reached R h c (drop at s) n
  pub waits : first R open' (drop at s) ≡ silent (drop at s)

-- What a feeding call with the chunk has come to on a reader that holds h, n bytes of the chunk taken. The buffer was `old` and is
-- `held` then, as long as before.
abbrev pub Filled : Rules → List ℕ → List ℕ → List ℕ → List ℕ → Stop → Type 0
-- It is done, with what was seen of the buffer up to `end`. Free are the bytes from `end` on, and those before where reading goes
-- on, but for a packet's.
Filled R h chunk old held (Done v end n) =
    (length held ≡ length old) × (n ≤ length chunk) × (end ≤ length held) × Ends R h chunk (take end held) n v
-- The held bytes have all been passed. All bytes of the buffer are free.
Filled R h chunk old held (Passed n) = (length held ≡ length old) × (n ≤ length chunk) × Reached R h chunk [] n
-- They fill the buffer, of which no byte is free, and the next byte of the chunk decides. All were held or taken.
Filled R h chunk old held (Full n) =
    (length held ≡ length old) × (n < length chunk) × Stops R h chunk held n 0 × (length held ≤ length h + n)
