use Rattle.std.proofs.Common.{◌∙◌, ap₂}
use Rattle.ioam_dex.specs.Numbers.{u32_where}
use Rattle.ioam_dex.specs.RecordRef.{content}
use Rattle.ioam_dex.proofs.record_ref.RecordRef.flow.Goals as goal

pub returns : goal.returns
unfolding content
returns c = c.u32_where.ensures ∙ ap₂ (λ there at. u32_where there c.args.self.now.octets.now at) c.has_flow.ensures c.numbers_at.ensures.value
