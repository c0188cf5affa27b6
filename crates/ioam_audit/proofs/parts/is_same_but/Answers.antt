use Rattle.std.proofs.Common.{arith}
use Rattle.ioam_base.specs.Octets.{IsOctets}
use Rattle.ioam_audit.proofs.PartsLaws.{alike-written, written-alike}
use Rattle.ioam_audit.proofs.parts.is_same_but.Goals as goal

pub returns : goal.returns
returns c =
    let old = c.args.old.now in
    let new = c.args.new.now in
    let small : IsOctets new = λ i. omega (arith, c.type_inv.new i) in
    let below = c.ranges.word.fits in (
      λ is. alike-written old new c.args.word c.args.start c.args.end small below c.requires.same c.requires.start c.requires.order c.requires.end (c.is_alike.ensures.0 is),
      λ is. c.is_alike.ensures.1 (written-alike old new c.args.word c.args.start c.args.end small below c.requires.same c.requires.start c.requires.order c.requires.end is),
    )
