use Rattle.std.proofs.Common.{refl}
use Rattle.ioam_base.proofs.ResultLaws.{OnOk-map}
use Rattle.ioam_desk_outputs.proofs.ToldLaws.{Adds-few}
use Rattle.ioam_run_arrivals.proofs.FrontsLaws.{begin-few}
use Rattle.ioam_run_traffic.proofs.StepsLaws.{begins_heads}
use Rattle.ioam_run_traffic.proofs.stage.TrafficStage.begin.Goals as goal

pub returns-clause-begins : goal.returns-clause-begins
returns-clause-begins g c = OnOk-map c.put_heads.result _ _ c.put_heads.ensures (λ adds. begins_heads _ _ _ c.args.self.now c.args.outputs.now _ _ refl adds)

pub returns-clause-few : goal.returns-clause-few
returns-clause-few g c = OnOk-map c.put_heads.result _ _ c.put_heads.ensures
    (λ adds. Adds-few c.args.outputs.now c.put_heads.new.outputs _ c.requires.nothing adds (begin-few c.args.self.now.terms.domain.now c.args.self.now.terms.readings.now))
