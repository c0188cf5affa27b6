use Rattle.std.proofs.Common.{◌≡◌, ◌<◌, length, sym, ◌∙◌, subst, arith}
use Rattle.std.proofs.lemmas.List.{length-map}
use Rattle.ioam_desk.specs.Desk.{holds}
use Rattle.ioam_desk_outputs.specs.Names.{AreApart}
use Rattle.ioam_run_domain.proofs.ApartLaws.{apart-outputs}
use Rattle.ioam_topo.specs.Domain.{links, ports}
use Rattle.ioam_run_traffic.specs.declared.halt.Halt.TheVariants as halt
use Rattle.ioam_run_domain.specs.Promise.{run_outputs, run_inputs}
use Rattle.ioam_run_domain.proofs.WordsLaws.{taken_name, finishes_alike}
use Rattle.ioam_run_domain.proofs.domain_run.run_apart.Goals as goal

pub run_traffic-requires-clause-apart : goal.run_traffic-requires-clause-apart
run_traffic-requires-clause-apart g c κs within =
    let files = c.args.files.now in
    let is : c.deref-3.result.now ≡ run_outputs files c.args.domain.now = c.deref-3.ensures.value ∙ c.in-Ok-run_outputs.ensures.value in
    subst AreApart (sym is) (apart-outputs (ports c.args.domain.now) (links c.args.domain.now) files.domain files.readings files.report files.exports c.requires.apart)

pub returns-in-Broken-clause-ends : goal.returns-in-Broken-clause-ends
returns-in-Broken-clause-ends g c =
    let files = c.args.files.now in
    let inputs = c.in-Ok-input_names.ensures in
    let outputs : c.deref-3.result.now ≡ run_outputs files c.args.domain.now = c.deref-3.ensures.value ∙ c.in-Ok-run_outputs.ensures.value in
    let ends = finishes_alike g.G.Gate.opens g.D.Desk.tells c.args.domain.now c.args.readings.now c.deref.result.now _ c.deref-2.result.now (run_inputs c.args.domain.now) c.deref-3.result.now (run_outputs files c.args.domain.now)
    (g.D.Desk.reading c.args.desk.now) (g.D.Desk.reading c.run_traffic.new.desk) (g.D.Desk.writing c.args.desk.now) (g.D.Desk.writing c.run_traffic.new.desk)
    (halt.Broken c.in-Broken.place c.in-Broken.at c.in-Broken.fault) (c.deref.ensures.value ∙ c.in-Ok.ensures.value) (c.deref-2.ensures.value ∙ inputs) outputs c.in-Broken.ensures.finishes in
    let inside : c.in-Broken.place < length (run_inputs c.args.domain.now)
    = omega (arith, ends.0, length-map (run_inputs c.args.domain.now) (holds (g.D.Desk.writing c.args.desk.now))) in (
      c.requires.apart,
      (
        c.in-Broken.place,
        taken_name (run_inputs c.args.domain.now) c.in-Ok-input_names.inputs.items c.in-Broken.place c.swap_remove.result inputs c.swap_remove.ensures.value inside,
        ends,
      ),
    )
