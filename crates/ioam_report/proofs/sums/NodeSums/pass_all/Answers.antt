use Rattle.std.proofs.Common.{rules, ◌≡◌, ◌∙◌, ap, take}
use Rattle.std.specs.List.{count_by}
use Rattle.std.proofs.lemmas.List.{take_all}
use Rattle.ioam_report.specs.Sums.{is_at}
use Rattle.ioam_report.proofs.SumsLaws.{Raised-visit, Raised-by}
use Rattle.ioam_report.proofs.sums.NodeSums.pass_all.Goals as goal

pub loop-visit-preserved : goal.loop-visit-preserved
loop-visit-preserved c = record {
  count = c.pass.ensures.count ∙ c.loop-visit.invariant.count;
  raised = λ at. Raised-visit c.args.self.now c.loop-visit.self c.pass.new.self c.args.visits.now c.loop-visit.visit-index _ at
      c.loop-visit-test.true (c.loop-visit.invariant.raised at) (c.pass.ensures.raised at);
}

pub returns-clause-raised : goal.returns-clause-raised
returns-clause-raised c = λ at.
    let all : take c.loop-visit.visit-index c.args.visits.now ≡ c.args.visits.now = take_all c.loop-visit.visit-index c.args.visits.now c.loop-visit-test.false in
    Raised-by c.args.self.now c.loop-visit.self at _ _ _ _ (ap (λ xs. count_by (is_at at) xs) all) (search rules) (c.loop-visit.invariant.raised at)
