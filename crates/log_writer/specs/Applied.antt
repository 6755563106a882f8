-- What is promised of the writer of logs, applied to two Pings and a buffer that just suffices.
use Rattle.std.specs.Prelude.{[], ◌∷◌, ◌++◌, take, replicate}
use Rattle.log_layout.specs.Log.{Sound}
use Rattle.log_layout.specs.Samples.{ping_to_1, ping_to_2}
use Rattle.log_writer.specs.Writing.{write_out, WritesSound}

abbrev pub WritesSoundApplied : Type 0
WritesSoundApplied = WritesSound → Sound (take 1068 (write_out (ping_to_1 ++ ping_to_2) (10 ∷ 10 ∷ []) (replicate 1068 0xAA)))
