use Rattle.std.proofs.Common.{◌≡◌, Option, rules, sym, subst}
use Rattle.ioam_ng.specs.declared.face.Face.{Face}
use Rattle.ioam_ng.specs.Blocks.{TellsFace, face_at}
use Rattle.ioam_ng.proofs.ItemLaws.{face_told}
use Rattle.ioam_ng.proofs.block.face_at.Goals as goal

pub returns-clause-reads : goal.returns-clause-reads
returns-clause-reads c =
    let same : c.face_in.result ≡ face_at c.args.order c.args.block.now = search rules in
    let Q : Option Face → Type 0 = λ face. TellsFace c.args.order c.args.block.now face in
    subst Q (sym same) (face_told c.args.order c.args.block.now)
