use Rattle.packet.proofs.Laws.{settles}
use Rattle.capi_test.proofs.dxl_test_verdict.Goals as goal

pub returns : goal.returns
returns c =
    record {
      value = c.verdict_of.ensures;
      settles = settles;
    }
