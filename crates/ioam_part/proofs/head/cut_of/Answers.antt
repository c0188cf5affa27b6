use Rattle.std.proofs.Common.{drop, refl, sym, ◌∙◌, arith, inl, inr}
use Rattle.std.proofs.lemmas.List.{length-drop}
use Rattle.ioam_base.specs.Octets.{IsOctets}
use Rattle.ioam_part.proofs.HeadLaws.{marked}
use Rattle.ioam_part.proofs.head.cut_of.Goals as goal

pub returns : goal.returns
returns c =
    let head = c.args.head.now in
    let small : IsOctets head = λ i. omega (arith, c.type_inv.head i) in
    let is = marked head small (omega arith) (sym c.u64_at.ensures ∙ c.if-u64_at-ne-MARK.false) in
    inl (inr (refl, (drop 8 head, is, omega (arith, length-drop 8 head), omega (arith, length-drop 8 head))))
