use Rattle.std.proofs.Common.{◌∙◌, ap₂}
use Rattle.ioam_dex.specs.RecordRef.{content}
use Rattle.ioam_dex.proofs.RefLaws.{content-rec}
use Rattle.ioam_collect.specs.Keyed.{hops_in}
use Rattle.ioam_collect.proofs.keying.hops_of.Goals as goal

pub element_in-kind-requires : goal.element_in-kind-requires
element_in-kind-requires c = (content c.args.export.now, content-rec c.args.export.now)

pub returns : goal.returns
returns c =
    let says = c.element_in-kind.ensures.says (content c.args.export.now) (content-rec c.args.export.now) in
    c.hops_in.ensures ∙ ap₂ hops_in says.0 says.1
