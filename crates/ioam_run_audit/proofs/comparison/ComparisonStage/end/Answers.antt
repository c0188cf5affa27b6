use Rattle.std.proofs.Common.{◌≡◌, rules}
use Rattle.ioam_run_audit.proofs.ComparisonLaws.{ends_after, ends_before}
use Rattle.ioam_run_audit.proofs.comparison.ComparisonStage.end.Goals as goal

pub returns-then-input-eq0 : goal.returns-then-input-eq0
returns-then-input-eq0 c =
    let is : c.args.input ≡ 0 = search rules in
    ends_before c.args.self.now c.args.input c.requires.waits c.requires.stands c.finish.new.self is c.finish.ensures

pub returns-else-input-eq0 : goal.returns-else-input-eq0
returns-else-input-eq0 c =
    let other : c.args.input ≡ 0 → ⊥ = search rules in
    ends_after c.args.self.now c.args.input c.requires.waits c.requires.stands c.finish-else-input-eq0.new.self other c.finish-else-input-eq0.ensures
