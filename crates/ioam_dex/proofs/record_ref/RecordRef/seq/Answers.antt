use Rattle.std.proofs.Common.{◌+◌, ◌∙◌, ap, ap₂}
use Rattle.ioam_dex.specs.Numbers.{four_where, u32_where}
use Rattle.ioam_dex.specs.RecordRef.{content}
use Rattle.ioam_dex.proofs.record_ref.RecordRef.seq.Goals as goal

pub returns : goal.returns
unfolding content
returns c =
    c.u32_where.ensures
    ∙ ap₂ (λ there at. u32_where there c.args.self.now.octets.now at) c.has_seq.ensures
    (ap₂ (λ m n. m + n) c.numbers_at.ensures.value (c.four_where.ensures.value ∙ ap four_where c.has_flow.ensures))
