use Rattle.std.proofs.Common.{[], append-nil, arith, inl, inr, ap, refl, rules, sym}
use Rattle.ioam_desk.specs.Touches.{state}
use Rattle.ioam_run_audit.specs.Promise.{AuditNames}
use Rattle.ioam_run_audit.proofs.FilesLaws.{files_named}
use Rattle.ioam_run_audit.proofs.files.run_files.Goals as goal

pub returns-clause-ran : goal.returns-clause-ran
returns-clause-ran g c = record {
  apart = c.requires.apart;
  runs =
      (files_named g.D.Desk.tells c.args.files.now.before c.args.files.now.after c.args.files.now.report _ (state (g.D.Desk.reading c.args.desk.now) (g.D.Desk.writing c.args.desk.now))
      (state (g.D.Desk.reading c.run-stop.new.desk) (g.D.Desk.writing c.run-stop.new.desk)) c.in-Ok.stage c.run-stop.new.stage c.in-Ok.ensures.seat
      _ _ _ _ c.run-stop.result c.answer.result c.run-stop.ensures.frame c.run-stop.ensures.leaves c.run-stop.ensures.sealed c.run-stop.ensures.marks c.answer.ensures.said c.answer.ensures.done
      (search rules) (search rules) (ap (λ (n : AuditNames). n.before) c.files.view_is) (ap (λ (n : AuditNames). n.after) c.files.view_is)).0;
}

pub returns-clause-failures : goal.returns-clause-failures
returns-clause-failures g c =
    (files_named g.D.Desk.tells c.args.files.now.before c.args.files.now.after c.args.files.now.report _ (state (g.D.Desk.reading c.args.desk.now) (g.D.Desk.writing c.args.desk.now))
    (state (g.D.Desk.reading c.run-stop.new.desk) (g.D.Desk.writing c.run-stop.new.desk)) c.in-Ok.stage c.run-stop.new.stage c.in-Ok.ensures.seat
    _ _ _ _ c.run-stop.result c.answer.result c.run-stop.ensures.frame c.run-stop.ensures.leaves c.run-stop.ensures.sealed c.run-stop.ensures.marks c.answer.ensures.said c.answer.ensures.done
    (search rules) (search rules) (ap (λ (n : AuditNames). n.before) c.files.view_is) (ap (λ (n : AuditNames). n.after) c.files.view_is)).1

-- no memory for the stage: nothing was opened
pub returns-in_default-clause-ran : goal.returns-in_default-clause-ran
returns-in_default-clause-ran g c =
    let inputs = g.D.Desk.reading c.args.desk.now in
    let outputs = g.D.Desk.writing c.args.desk.now in
    record {
      apart = c.requires.apart;
      runs = record {
        ends = inr (inr (inr (inr (record { answer_is = refl; parts = λ told. inl refl }))));
        asked_in = (0, sym (append-nil inputs.side.asked));
        asked_out = (0, sym (append-nil outputs.side.asked));
        all = λ never. absurd never;
        no_output = λ few. refl;
        unread = λ told same. (λ first. absurd (omega (arith, first)), λ second. absurd (omega (arith, second)));
        kept_in = record { left = λ k before. refl; ended = λ k before. refl };
        kept_out = λ told. record { slots = omega arith; asked = []; asks = sym (append-nil outputs.side.asked); written = λ k before. refl; files = λ name others. refl };
      };
    }
