use Rattle.std.proofs.Common.{◌++◌, refl, sym, ap, ◌∙◌, arith}
use Rattle.ioam_base.specs.Octets.{IsOctets}
use Rattle.ioam_part.specs.Part.{head_octets}
use Rattle.ioam_part.proofs.HeadLaws.{head_is}
use Rattle.ioam_part.proofs.head.count_of.Goals as goal

pub returns-then-found-gt-MOST_HELD : goal.returns-then-found-gt-MOST_HELD
returns-then-found-gt-MOST_HELD c =
    let small : IsOctets c.args.head.now = λ i. omega (arith, c.type_inv.head i) in
    let is = head_is c.args.head.now small c.requires (sym c.u64_at.ensures ∙ c.if-u64_at-ne-MARK.false) ∙ ap head_octets (sym c.u32_at-found.ensures) in
    λ more. (refl, (more, ap (λ o. o ++ more) is, omega arith, omega arith))

pub returns : goal.returns
returns c =
    let small : IsOctets c.args.head.now = λ i. omega (arith, c.type_inv.head i) in
    let is = head_is c.args.head.now small c.requires (sym c.u64_at.ensures ∙ c.if-u64_at-ne-MARK.false) ∙ ap head_octets (sym c.u32_at-found.ensures) in
    (is, omega arith)
