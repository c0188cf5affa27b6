use Rattle.std.proofs.Common.{ap, sym, ◌∙◌}
use Rattle.ioam_run_audit.specs.Promise.{AuditNames}
use Rattle.ioam_run_audit.proofs.PlaceLaws.{ends_at}
use Rattle.ioam_run_audit.proofs.audit.run_set.Goals as goal

pub returns : goal.returns
returns g c = record {
  ends = ends_at g.D.Desk.tells c.args.files.now (g.D.Desk.reading c.args.desk.now) (g.D.Desk.reading c.run_at.new.desk)
      (g.D.Desk.writing c.args.desk.now) (g.D.Desk.writing c.run_at.new.desk) c.args.domain.now c.in-Some.node c.in-Some-link_to.link c.run_at.result
      c.files.inside.node.now c.text.result.now c.files.inside.link.now c.text.ensures
      (ap (λ (n : AuditNames). n.node) c.files.view_is) (sym c.node_named.ensures.value ∙ c.in-Some.is)
      (ap (λ (n : AuditNames). n.link) c.files.view_is) (sym c.link_to.ensures.value ∙ c.in-Some-link_to.is) c.run_at.ensures.ends;
  failures = c.run_at.ensures.failures;
}
