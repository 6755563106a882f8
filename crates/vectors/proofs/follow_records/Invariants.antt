use Rattle.std.proofs.Common.{◌≤◌, length}
use Rattle.vectors.proofs.follow_records.Given as goal

abbrev pub invariant-loop-record : goal.invariant-loop-record
invariant-loop-record g l = length l.rest ≤ length l.input

abbrev pub decreases-loop-record : goal.decreases-loop-record
decreases-loop-record g l = length l.rest
