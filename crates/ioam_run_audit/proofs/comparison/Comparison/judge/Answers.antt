use Rattle.std.proofs.Common.{arith, refl}
use Rattle.ioam_run_audit.proofs.ComparisonLaws.{judges, judges_past, judges_short, room_so}
use Rattle.ioam_run_audit.proofs.comparison.Comparison.judge.Goals as goal

pub returns-in-Ok-Over : goal.returns-in-Ok-Over
returns-in-Ok-Over c = judges_past c.args.self.now c.next.new.self c.requires.known c.requires.more c.requires.judging c.in-Ok-Over.ensures.fed c.in-Ok-Over.ensures.ended
    c.in-Ok-Over.field-0-0 c.args.outputs.now c.requires.width (rw c.in-Ok-Over.field-0-is at c.in-Ok-Over.ensures.next)

pub returns-in-Ok-More : goal.returns-in-Ok-More
returns-in-Ok-More c = judges_short c.args.self.now c.next.new.self c.requires.known c.requires.more c.requires.judging c.in-Ok-More.ensures.fed c.in-Ok-More.ensures.ended
    c.requires.stands c.args.outputs.now (rw c.in-Ok-More.field-0-is at c.in-Ok-More.ensures.next)

pub fate-fate-requires-clause-few : goal.fate-fate-requires-clause-few
fate-fate-requires-clause-few c =
    let shown = rw c.in-Ok-Record.field-0-is at c.in-Ok-Record.ensures.next in
    let standing = c.requires.stands in
    omega (arith, room_so c.args.self.now c.next.new.self c.requires.known c.requires.more c.in-Ok-Record.why shown standing.begun standing.seen standing.stands.fates standing.stands.core)

pub count-requires : goal.count-requires
count-requires c =
    let shown = rw c.in-Ok-Record.field-0-is at c.in-Ok-Record.ensures.next in
    let standing = c.requires.stands in
    record { few = room_so c.args.self.now c.next.new.self c.requires.known c.requires.more c.in-Ok-Record.why shown standing.begun standing.seen standing.stands.fates standing.stands.core }

pub returns : goal.returns
returns c = judges c.args.self.now c.next.new.self c.requires.known c.requires.more c.requires.judging c.in-Ok-Record.ensures.fed c.in-Ok-Record.ensures.ended
    c.in-Ok-Record.why c.fate-fate.result c.count.new.self c.args.outputs.now c.index-outputs-0.result _ c.requires.width c.count.ensures
    (rw c.in-Ok-Record.field-0-is at c.in-Ok-Record.ensures.next) c.fate-fate.ensures refl c.in-Ok.ensures
