use Rattle.std.proofs.Common.{ℕ, List, subst}
use Rattle.ioam_desk_outputs.specs.Names.{name_at}
use Rattle.ioam_run_capture.specs.SaveText.{SaveTexts}
use Rattle.ioam_run_stream.specs.Promise.{most_packets, Leaves}
use Rattle.ioam_run_capture.proofs.SavingLaws.{Leaves-saved, one_name}
use Rattle.ioam_run_capture.proofs.save.run_save.Goals as goal

pub returns : goal.returns
returns g c = record {
  keeps = record {
    keeps = c.run_over_capture.ensures.keeps;
    saved = λ done told.
        let P : List (List ℕ) → Type 0 = λ outputs. Leaves most_packets SaveTexts outputs c.args.files.now.input (g.D.Desk.reading c.args.desk.now)
        (g.D.Desk.reading c.run_over_capture.new.desk) (g.D.Desk.writing c.args.desk.now) (g.D.Desk.writing c.run_over_capture.new.desk) c.run_over_capture.result in
        Leaves-saved c.args.files.now.input (name_at c.args.files.now.outputs 0)
        (g.D.Desk.reading c.args.desk.now) (g.D.Desk.reading c.run_over_capture.new.desk) (g.D.Desk.writing c.args.desk.now) (g.D.Desk.writing c.run_over_capture.new.desk) c.run_over_capture.result
        (subst P (one_name c.args.files.now.outputs c.requires) (c.run_over_capture.ensures.keeps.leaves told)) done;
  };
}
