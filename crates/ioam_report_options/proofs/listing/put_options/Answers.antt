use Rattle.ioam_report_options.proofs.AppendsLaws.{Appends-map}
use Rattle.ioam_report_options.proofs.OptionsLaws.{AreIoam-ioam_of}
use Rattle.ioam_report_options.proofs.UniqueLaws.{OptionsText-unique}
use Rattle.ioam_report_options.specs.OptionsText.{ioam_of}
use Rattle.ioam_report_options.proofs.listing.put_options.Goals as goal

pub returns-clause-lines : goal.returns-clause-lines
returns-clause-lines c = Appends-map c.put_all.result _ _ _ _ c.put_all.ensures
    (λ text lines. record { options = ioam_of c.args.packet.now; are = AreIoam-ioam_of c.args.packet.now c.requires.sound; lines = lines })

pub returns-clause-only : goal.returns-clause-only
returns-clause-only c = λ one other. OptionsText-unique c.args.packet.now one other
