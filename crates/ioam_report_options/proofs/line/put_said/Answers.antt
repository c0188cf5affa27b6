use Rattle.std.proofs.Common.{◌≡◌, ◌-◌, false, length, take, drop, arith, length-drop, refl}
use Rattle.std.specs.Prelude.{nat_lt}
use Rattle.std.proofs.lemmas.Bool.Decides.{nat_tests}
use Rattle.std.proofs.lemmas.List.{take_all}
use Rattle.ioam_report_options.proofs.TypedLaws.{says_typed}
use Rattle.ioam_report_options.proofs.line.put_said.Goals as goal

pub returns-else-body-lt-IN_FRONT : goal.returns-else-body-lt-IN_FRONT
returns-else-body-lt-IN_FRONT c =
    let body = c.args.body.now in
    let long : nat_lt (length body) 2 ≡ false = grind (arith, nat_tests, c.if-body-lt-IN_FRONT.false) in
    let rest : take (length body - 2) (drop 2 body) ≡ drop 2 body =
    take_all (length body - 2) (drop 2 body) (omega (arith, length-drop 2 body)) in
    says_typed body _ _ c.args.front.kind c.args.front.at c.put_typed.result _ _ long refl rest c.put_typed.ensures
