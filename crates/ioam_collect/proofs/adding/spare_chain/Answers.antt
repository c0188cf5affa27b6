use Rattle.std.proofs.Common.{ap}
use Rattle.ioam_pool.specs.Chains.{Chains}
use Rattle.ioam_collect.proofs.StoreLaws.{spare_gathered, spare_inside}
use Rattle.ioam_collect.proofs.adding.spare_chain.Goals as goal

pub returns-in_ok-chain-in-None-clause-same : goal.returns-in_ok-chain-in-None-clause-same
returns-in_ok-chain-in-None-clause-same c =
    let inside = rw c.in-None.is at c.requires.inside in
    spare_gathered _ _ _ _ inside (ap (λ (p : Chains). p.chains) c.in_ok-chain-in-None.ensures.chains) (ap (λ (p : Chains). p.capacity) c.in_ok-chain-in-None.ensures.chains)

pub returns-in_ok-chain-in-None-clause-inside : goal.returns-in_ok-chain-in-None-clause-inside
returns-in_ok-chain-in-None-clause-inside c =
    let inside = rw c.in-None.is at c.requires.inside in
    rw c.in_ok-chain-in-None.ensures.chain
    (spare_inside _ _ _ _ inside (ap (λ (p : Chains). p.chains) c.in_ok-chain-in-None.ensures.chains) (ap (λ (p : Chains). p.capacity) c.in_ok-chain-in-None.ensures.chains))
