use Rattle.packet_v1.specs.Packet.{last_of_mercury}
use Rattle.packet_v1.proofs.Kept.{rules_kept}
use Rattle.capi_test.proofs.dxl_test_mercury_verdict.Goals as goal

pub returns : goal.returns
returns c =
    record {
      value = c.verdict_of.ensures;
      rules_kept = rules_kept last_of_mercury;
    }
