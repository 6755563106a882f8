use mathlib.Core.Path.{◌∙◌, ap}
use Rattle.numbers.specs.Exported.{step_numbers}
use Rattle.capi_test.proofs.dxl_test_feed_value.Goals as goal

pub returns : goal.returns
returns c =
    let e = c.feed-fed.ensures in
    let f = e.step_value in
    record {
      step_value = c.from.ensures ∙ ap step_numbers f.0;
      packet_value = f.1;
      reader_value = f.2;
      every_protocol = e.every_protocol;
    }
