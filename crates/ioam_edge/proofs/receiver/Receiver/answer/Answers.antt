use Rattle.std.proofs.Common.{◌≡◌, ◌+◌, ◌-◌, arith, sym, ◌∙◌, ap}
use Rattle.ioam_edge.specs.Noted.{due}
use Rattle.ioam_edge.specs.Receiver.{above}
use Rattle.ioam_edge.proofs.ReceiverLaws.{held-noted, note-repeat, note-late}
use Rattle.ioam_edge.proofs.receiver.Receiver.answer.Goals as goal

pub returns-then-holds : goal.returns-then-holds
returns-then-holds c = λ noted stands.
    let both = sym c.in-Some.is ∙ c.in-Some-2.is in
    let same : c.in-Some.greatest ≡ c.in-Some-2.greatest = cc in
    let top : c.in-Some-2.greatest + 1 ≡ due noted = ap above (sym c.in-Some-2.is) ∙ stands.greatest in
    let held = held-noted noted c.args.seq c.args.self.now.window (c.in-Some-2.greatest - c.args.seq) stands.window (omega arith) in
    note-repeat noted c.args.seq (omega arith) (sym held ∙ sym c.holds.ensures ∙ c.if-holds.true)

pub returns-else-holds : goal.returns-else-holds
returns-else-holds c = λ noted stands.
    let both = sym c.in-Some.is ∙ c.in-Some-2.is in
    let same : c.in-Some.greatest ≡ c.in-Some-2.greatest = cc in
    let top : c.in-Some-2.greatest + 1 ≡ due noted = ap above (sym c.in-Some-2.is) ∙ stands.greatest in
    let held = held-noted noted c.args.seq c.args.self.now.window (c.in-Some-2.greatest - c.args.seq) stands.window (omega arith) in
    note-late noted c.args.seq (omega arith) (sym held ∙ sym c.holds.ensures ∙ c.if-holds.false)
