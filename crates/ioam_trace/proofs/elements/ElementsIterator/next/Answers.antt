use Rattle.std.proofs.Common.{length, ap, rules}
use Rattle.ioam_trace.proofs.AreaLaws.{elements_of-last, elements_of-none}
use Rattle.ioam_trace.proofs.elements.ElementsIterator.next.Goals as goal

pub returns-in_err-at-clause-steps : goal.returns-in_err-at-clause-steps
returns-in_err-at-clause-steps c =
    let none = elements_of-none c.args.self.now.kind c.args.self.now.node_len c.args.self.now.used.now (c.in_err-at.ensures) in
    rw c.from_residual.ensures (none, none)

pub returns-clause-steps : goal.returns-clause-steps
returns-clause-steps c =
    let last = c.in_ok-at.ensures in
    elements_of-last c.args.self.now.kind c.args.self.now.node_len c.args.self.now.used.now c.in_ok-at.at c.in_ok-at.size last.0 last.1

pub returns-clause-goes : goal.returns-clause-goes
returns-clause-goes c =
    let last = c.in_ok-at.ensures in
    let more = elements_of-last c.args.self.now.kind c.args.self.now.node_len c.args.self.now.used.now c.in_ok-at.at c.in_ok-at.size last.0 last.1 in
    let fewer = ap length more in
    search rules
