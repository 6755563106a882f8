-- What the device hears, by the kind that C gives.
use Rattle.std.specs.Prelude.{◌==◌, cond, ◌||◌, ℕ}
use Rattle.device_dispatch.specs.declared.Heard.{Heard}
use Rattle.device_dispatch.specs.declared.Heard.TheVariants.{Packet, BadChecksum}

-- 1 is a packet, and a bad checksum has no body
abbrev pub heard_by : ℕ → Heard
heard_by kind = cond (kind == 1) Packet BadChecksum

-- of a kind that is neither 1 nor 2 nothing was heard, as of what is sent to an ID that no device has
abbrev pub id_of_kind : ℕ → ℕ → ℕ
id_of_kind kind id = cond (kind == 1 || kind == 2) id 255
