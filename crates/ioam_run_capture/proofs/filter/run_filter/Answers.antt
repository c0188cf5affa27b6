use Rattle.std.proofs.Common.{ℕ, List, subst}
use Rattle.ioam_desk_outputs.specs.Names.{name_at}
use Rattle.ioam_run_capture.specs.FilterText.{FilterTexts}
use Rattle.ioam_run_stream.specs.Promise.{most_packets, Leaves}
use Rattle.ioam_run_capture.proofs.LeavingLaws.{Leaves-bounded, two_names}
use Rattle.ioam_run_capture.proofs.filter.run_filter.Goals as goal

pub returns : goal.returns
returns g c = record {
  keeps = record {
    keeps = c.run_over_capture.ensures.keeps;
    boundary = λ behind told.
        let P : List (List ℕ) → Type 0 = λ outputs. Leaves most_packets FilterTexts outputs c.args.files.now.input (g.D.Desk.reading c.args.desk.now)
        (g.D.Desk.reading c.run_over_capture.new.desk) (g.D.Desk.writing c.args.desk.now) (g.D.Desk.writing c.run_over_capture.new.desk) c.run_over_capture.result in
        Leaves-bounded c.args.files.now.input (name_at c.args.files.now.outputs 0) (name_at c.args.files.now.outputs 1)
        (g.D.Desk.reading c.args.desk.now) (g.D.Desk.reading c.run_over_capture.new.desk) (g.D.Desk.writing c.args.desk.now) (g.D.Desk.writing c.run_over_capture.new.desk) c.run_over_capture.result
        (subst P (two_names c.args.files.now.outputs c.requires) (c.run_over_capture.ensures.keeps.leaves told)) behind;
  };
}
