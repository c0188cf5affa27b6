use Rattle.std.proofs.Common.{ℕ, List, subst, sym}
use Rattle.ioam_data.specs.View.{seen}
use Rattle.ioam_data.proofs.ElementLaws.{IsSnapshot-lent}
use Rattle.ioam_trace.specs.Filling.{Filling}
use Rattle.ioam_trace.proofs.DataLaws.{trace_data-Filling}
use Rattle.ioam_trace.proofs.FilledLaws.{filled-Filling, answer-Filling}
use Rattle.ioam_trace.proofs.addition.fill.Goals as goal

pub returns-clause-adds : goal.returns-clause-adds
returns-clause-adds c namespace kind capacity elements holds is =
    let view = c.args.view.now in
    let P : List ℕ → Type 0 = λ old. Filling old (seen view) c.fill_octets.new.octets c.fill_octets.result in
    trace_data-Filling namespace kind capacity elements (seen view) c.fill_octets.new.octets c.fill_octets.result holds
    (IsSnapshot-lent view.snapshot view.snapshot_fits) (subst P is c.fill_octets.ensures)

pub returns-clause-answer : goal.returns-clause-answer
returns-clause-answer c = sym (answer-Filling c.args.octets.now (seen c.args.view.now) c.fill_octets.new.octets c.fill_octets.result c.fill_octets.ensures)

pub returns-clause-octets : goal.returns-clause-octets
returns-clause-octets c = filled-Filling c.args.octets.now (seen c.args.view.now) c.fill_octets.new.octets c.fill_octets.result c.fill_octets.ensures
