use Rattle.std.proofs.Common.{◌≡◌, ◌+◌, ◌-◌, arith, sym, ◌∙◌, ap}
use Rattle.ioam_edge.specs.Noted.{due}
use Rattle.ioam_edge.specs.Receiver.{above}
use Rattle.ioam_edge.proofs.ReceiverLaws.{due-above, due-below, Marks-first, Marks-moved, Marks-set}
use Rattle.ioam_edge.proofs.receiver.Receiver.mark.Goals as goal

pub returns-in-None-clause-greatest : goal.returns-in-None-clause-greatest
returns-in-None-clause-greatest c = λ noted stands.
    let top : 0 ≡ due noted = ap above (sym c.in-None.is) ∙ stands.greatest in
    due-above noted c.args.seq (omega arith)

pub returns-in-None-clause-window : goal.returns-in-None-clause-window
returns-in-None-clause-window c = λ noted stands.
    let top : 0 ≡ due noted = ap above (sym c.in-None.is) ∙ stands.greatest in
    Marks-first noted c.args.seq (sym top)

pub returns-in-Some-clause-greatest : goal.returns-in-Some-clause-greatest
returns-in-Some-clause-greatest c = λ noted stands.
    let top : c.in-Some.greatest + 1 ≡ due noted = ap above (sym c.in-Some.is) ∙ stands.greatest in
    due-above noted c.args.seq (omega arith)

pub returns-in-Some-clause-window : goal.returns-in-Some-clause-window
returns-in-Some-clause-window c = λ noted stands.
    let top : c.in-Some.greatest + 1 ≡ due noted = ap above (sym c.in-Some.is) ∙ stands.greatest in
    Marks-moved noted c.args.seq c.args.self.now.window c.moved-self.result (c.args.seq - c.in-Some.greatest) stands.window (omega arith) (omega arith) c.moved-self.ensures

pub returns-in-Some-2-clause-greatest : goal.returns-in-Some-2-clause-greatest
returns-in-Some-2-clause-greatest c = λ noted stands.
    let both = sym c.in-Some.is ∙ c.in-Some-2.is in
    let same : c.in-Some.greatest ≡ c.in-Some-2.greatest = cc in
    let top : c.in-Some-2.greatest + 1 ≡ due noted = ap above (sym c.in-Some-2.is) ∙ stands.greatest in
    stands.greatest ∙ due-below noted c.args.seq (omega arith)

pub returns-in-Some-2-clause-window : goal.returns-in-Some-2-clause-window
returns-in-Some-2-clause-window c = λ noted stands.
    let both = sym c.in-Some.is ∙ c.in-Some-2.is in
    let same : c.in-Some.greatest ≡ c.in-Some-2.greatest = cc in
    let top : c.in-Some-2.greatest + 1 ≡ due noted = ap above (sym c.in-Some-2.is) ∙ stands.greatest in
    Marks-set noted c.args.seq c.args.self.now.window c.set-self.result (c.in-Some-2.greatest - c.args.seq) stands.window (omega arith) c.set-self.ensures
