use Rattle.std.proofs.Common.{None, refl}
use Rattle.ioam_run_part.proofs.JoinedLaws.{counted, plan_is}
use Rattle.ioam_run_part.proofs.joined.make_plan.Goals as goal

pub returns-in-None : goal.returns-in-None
returns-in-None c = λ xs ys p q. (refl, counted c.args.one.now c.args.two.now xs ys None p q (c.in-None.ensures xs ys p q))

pub returns-in-Some : goal.returns-in-Some
returns-in-Some c = λ xs ys p q.
    plan_is c.args.one.now c.args.two.now xs ys c.new.result c.in-Some.count p q (c.in-Some.ensures xs ys p q) (c.new.ensures xs ys p q)
