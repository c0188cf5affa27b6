use Rattle.std.proofs.Common.{◌-◌, ◌≡◌, ◌∙◌, ap, arith, drop, take}
use Rattle.ioam_dex.specs.RecordRef.{content, visit_size}
use Rattle.ioam_dex.proofs.RefLaws.{content-rec, visit_octets-at}
use Rattle.ioam_dex.proofs.record_ref.RecordRef.visit_octets.Goals as goal

pub returns : goal.returns
returns c =
    let octets = c.args.self.now.octets.now in
    let size : c.numbers_at.result - 10 ≡ visit_size octets = omega (arith, c.numbers_at.ensures.value) in
    record { octets = ap (λ n. take n (drop 10 octets)) size ∙ visit_octets-at octets (content c.args.self.now) (content-rec c.args.self.now) }
