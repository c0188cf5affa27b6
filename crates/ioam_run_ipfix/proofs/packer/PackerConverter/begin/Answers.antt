use Rattle.std.proofs.Common.{refl}
use Rattle.ioam_base.proofs.ResultLaws.{OnOk-map}
use Rattle.ioam_run_ipfix.proofs.PackerLaws.{packer_opens, opens_few}
use Rattle.ioam_run_ipfix.proofs.packer.PackerConverter.begin.Goals as goal

pub returns-clause-opens : goal.returns-clause-opens
returns-clause-opens c = OnOk-map c.put_templates.result _ _ c.put_templates.ensures.ok (packer_opens c.args.self.now c.args.outputs.now c.index-outputs-0.result _ c.requires.width refl)

pub returns-clause-few : goal.returns-clause-few
returns-clause-few c = OnOk-map c.put_templates.result _ _ c.put_templates.ensures.ok
    (λ is. opens_few c.args.self.now c.args.outputs.now c.index-outputs-0.result _ c.requires.width refl is c.requires.nothing)
