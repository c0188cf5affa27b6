use Rattle.ioam_report_options.proofs.AppendsLaws.{Appends-map}
use Rattle.ioam_report_options.proofs.line.put_line.Goals as goal

pub returns : goal.returns
returns c = Appends-map c.put_said.result _ _ _ _ c.put_said.ensures (λ text told. record { said = told.0; says = told.1; text_is = told.2 })
