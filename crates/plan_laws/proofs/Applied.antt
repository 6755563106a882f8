use mathlib.Core.Path.{refl}
use Rattle.lists.specs.Numbers.{bytes_of}
use Rattle.crc.specs.Crc.{reduce_if, shift, shifts, crc_byte, crc_from}
use Rattle.stuffing.specs.Stuffing.{stuff_after}
use Rattle.packet_encoder.specs.Writing.{with_checksum, packet_of}
use Rattle.plan.specs.Goals.{goals_within, goals_refusal}
use Rattle.plan.specs.Planner.{entries_from, list_bytes, packets_from}
use Rattle.plan.specs.Samples.{two_goals, plan_of_two, plan_in_two}
use Rattle.plan.proofs.Samples.{plan_of_two_lem, plan_in_two_lem, two_goals_good}
use Rattle.plan_laws.specs.Applied.{all_goals, PlannedApplied}

pub planned_applied : PlannedApplied
unfolding plan_of_two_lem plan_in_two_lem reduce_if shift shifts crc_byte crc_from stuff_after with_checksum packet_of bytes_of entries_from list_bytes packets_from goals_within goals_refusal
planned_applied t = (
  t.accepted two_goals two_goals_good,
  t.fewest two_goals plan_of_two two_goals_good plan_of_two_lem,
  t.fewest two_goals plan_in_two two_goals_good plan_in_two_lem,
  λ bytes plan. t.fewest all_goals bytes refl plan,
)
