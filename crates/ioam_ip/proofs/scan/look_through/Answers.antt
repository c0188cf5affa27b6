use Rattle.std.proofs.Common.{ℕ, ◌≡◌, length, arith, subst, sym}
use Rattle.ioam_ip.proofs.Looking.{Looked, Looked-push, Looked-all, Looked-unfit}
use Rattle.ioam_ip.proofs.scan.look_through.Goals as goal

pub loop-at-preserved : goal.loop-at-preserved
loop-at-preserved c =
    let P : ℕ → Type 0 = λ at. Looked c.args.head.now at c.with-found.result in (
      subst P (sym c.in-Some.ensures.0) (Looked-push c.args.head.now c.loop-at.at c.loop-at.found c.with-found.result
          c.loop-at.invariant.0 c.in-Some.ensures.1 c.with-found.ensures.ioam c.with-found.ensures.limit),
      omega (arith, c.in-Some.ensures),
    )

pub returns : goal.returns
returns c =
    let P : ℕ → Type 0 = λ at. Looked c.args.head.now at c.loop-at.found in
    let at_end : c.loop-at.at ≡ length c.args.head.now = omega arith in
    Looked-all c.args.head.now c.loop-at.found (subst P at_end c.loop-at.invariant.0)

pub returns-in_default : goal.returns-in_default
returns-in_default c = Looked-unfit c.args.head.now c.loop-at.at c.loop-at.found c.loop-at.invariant.0 c.loop-at-test.true c.in_default.ensures
