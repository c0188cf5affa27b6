use Rattle.std.proofs.Common.{refl}
use Rattle.ioam_c.proofs.TraceLaws.{Gives-oldest, is_here}
use Rattle.ioam_c.proofs.trace.give.Goals as goal

pub returns-in-Some : goal.returns-in-Some
returns-in-Some c = λ free elements carries is.
    Gives-oldest free c.args.held.now c.args.head.now elements c.in-Some.octets.now c.args.cursor.now c.args.element.now
    _ c.shown.result 0 carries (is_here c.in-Some.octets c.args.oldest c.in-Some.is elements is) (c.requires.whole c.in-Some.octets c.in-Some.is) refl refl c.shown.ensures
