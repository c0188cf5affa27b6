use Rattle.std.proofs.Common.{ap, sym, ◌∙◌}
use Rattle.ioam_run_node.specs.Promise.{NodeNames}
use Rattle.ioam_run_node.proofs.EndsLaws.{ends_at}
use Rattle.ioam_run_node.proofs.node_run.run_set.Goals as goal

pub returns : goal.returns
returns g c = record {
  ends = ends_at g.D.Desk.tells c.args.files.now (g.D.Desk.reading c.args.desk.now) (g.D.Desk.reading c.run_at.new.desk)
      (g.D.Desk.writing c.args.desk.now) (g.D.Desk.writing c.run_at.new.desk) c.args.setting.now.domain c.args.setting.now.readings c.run_at.result
      c.in-Some.node c.in-Some-inward_of.inward c.files.inside.node.now c.text.result.now c.files.inside.link.now c.text.ensures
      (ap (λ (n : NodeNames). n.node) c.files.view_is) (sym c.node_named.ensures.value ∙ c.in-Some.is)
      (ap (λ (n : NodeNames). n.link) c.files.view_is) (sym c.inward_of.ensures ∙ c.in-Some-inward_of.is) c.run_at.ensures.ends;
  failures = c.run_at.ensures.failures;
}
