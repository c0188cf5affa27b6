use Rattle.ioam_run_audit.proofs.ComparisonLaws.{looks_held, looks_unfit, looks_past, looks_short}
use Rattle.ioam_run_audit.proofs.comparison.Comparison.look_ahead.Goals as goal

pub returns-in-Ok-More : goal.returns-in-Ok-More
returns-in-Ok-More c = λ outputs one. looks_short c.args.self.now c.next.new.self c.requires.asked c.requires.judging c.in-Ok-More.ensures.fed c.in-Ok-More.ensures.ended
    outputs one c.requires.stands (rw c.in-Ok-More.field-0-is at c.in-Ok-More.ensures.next)

pub returns-in-Ok-Record-None : goal.returns-in-Ok-Record-None
returns-in-Ok-Record-None c = λ outputs one.
    let shown = rw c.in-Ok-Record-None.field-0-is at c.in-Ok-Record-None.ensures.next in
    looks_held c.args.self.now c.next.new.self c.requires.asked c.requires.judging c.in-Ok-Record-None.ensures.fed c.in-Ok-Record-None.ensures.ended
    outputs one (rw c.in-Ok-Record-None.field-0-0-is at shown)

pub returns-in-Ok-Record-Some : goal.returns-in-Ok-Record-Some
returns-in-Ok-Record-Some c = λ outputs one.
    let shown = rw c.in-Ok-Record-Some.field-0-is at c.in-Ok-Record-Some.ensures.next in
    looks_unfit c.args.self.now c.next.new.self c.requires.asked c.requires.judging c.in-Ok-Record-Some.ensures.fed c.in-Ok-Record-Some.ensures.ended
    outputs one c.in-Ok-Record-Some.field-0-0-0 (rw c.in-Ok-Record-Some.field-0-0-is at shown)

pub returns-in-Ok-Over : goal.returns-in-Ok-Over
returns-in-Ok-Over c = λ outputs one. looks_past c.args.self.now c.next.new.self c.requires.asked c.requires.judging c.in-Ok-Over.ensures.fed c.in-Ok-Over.ensures.ended
    outputs one c.in-Ok-Over.field-0-0 (rw c.in-Ok-Over.field-0-is at c.in-Ok-Over.ensures.next)
