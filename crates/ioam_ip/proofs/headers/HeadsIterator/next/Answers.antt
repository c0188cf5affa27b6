use Rattle.std.proofs.Common.{rules}
use Rattle.ioam_ip.specs.HeadsLeft.{heads_left}
use Rattle.ioam_ip.specs.declared.chain.Head.{Head}
use Rattle.ioam_ip.proofs.HeadsLeftLaws.{step_head}
use Rattle.ioam_ip.proofs.IteratorLaws.{goes-first}
use Rattle.ioam_ip.proofs.headers.HeadsIterator.next.Goals as goal

pub returns-clause-steps : goal.returns-clause-steps
returns-clause-steps c =
    step_head c.args.self.now.packet.now c.args.self.now.spot c.in-Some.next c.in-Some.ensures.0 c.in-Some.ensures.1

pub returns-clause-goes : goal.returns-clause-goes
returns-clause-goes c =
    goes-first (λ (head : Head). head) heads_left _ _ _ _
    (step_head c.args.self.now.packet.now c.args.self.now.spot c.in-Some.next c.in-Some.ensures.0 c.in-Some.ensures.1) (search rules)
