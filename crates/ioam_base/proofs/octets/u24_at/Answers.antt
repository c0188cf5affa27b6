use Rattle.std.proofs.Common.{◌≡◌, ◌+◌, ◌-◌, length, take, drop, ap, ◌∙◌, arith, length-drop}
use Rattle.std.proofs.lemmas.List.{take_all}
use Rattle.byteorder.specs.Endian.{big_number}
use Rattle.ioam_base.specs.Octets.{u24_at}
use Rattle.ioam_base.proofs.OctetsLaws.{big_number-three}
use Rattle.ioam_base.proofs.octets.u24_at.Goals as goal

pub returns-clause-fits : goal.returns-clause-fits
returns-clause-fits c =
    let octets = c.args.octets.now in
    let at = c.args.at in
    let small = c.type_inv.octets in
    let whole : take (length octets - at) (drop at octets) ≡ drop at octets = take_all (length octets - at) (drop at octets) (omega (arith, length-drop at octets)) in
    let is : c.read_u24.result ≡ u24_at octets at = c.read_u24.ensures ∙ ap (big_number 3) whole ∙ big_number-three octets at in
    omega (arith, is, small at, small (at + 1), small (at + 2))
