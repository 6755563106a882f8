use Rattle.lists.specs.Numbers.{number_at, bytes_of}
use Rattle.table_items.specs.Items.{value_at, put}
use Rattle.table_rules.specs.Rules.{goal_inside}
use Rattle.table_rules.specs.Applied.{having, LimitTestsApplied}

pub limit_tests_applied : LimitTestsApplied
unfolding number_at bytes_of value_at put goal_inside
limit_tests_applied t =
    (t 48 8 (having 200 100 150), t 116 4 (having 0 4000 4001), t 52 4 (having 513 4095 512), t 104 4 (having 513 4095 512))
