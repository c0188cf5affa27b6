-- Laws of numbers in the order of a section.
use Rattle.std.proofs.Common.{◌≡◌, ℕ, ◌+◌, ◌≤◌, List, ◌++◌, length, arith}
use Rattle.std.proofs.lemmas.Grind.{common_steps}
use Rattle.ioam_base.proofs.OctetsLaws.{u32_at-append}
use Rattle.ioam_pcap.specs.declared.form.Order.{Order}
use Rattle.ioam_pcap.specs.declared.form.Order.TheVariants.{Big, Little}
use Rattle.ioam_pcap.specs.Form.{number_at}

pub number_at-append : (octets more : List ℕ) (order : Order) (at : ℕ) → at + 4 ≤ length octets → number_at order (octets ++ more) at ≡ number_at order octets at
number_at-append octets more Big at fits = u32_at-append octets more at fits
number_at-append octets more Little at fits = grind (arith, common_steps)
