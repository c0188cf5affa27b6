use Rattle.std.proofs.Common.{[], rules}
use Rattle.ioam_run_arrivals.specs.Texts.{texts_so_far}
use Rattle.ioam_run_bulk.specs.Generated.{arrivals}
use Rattle.ioam_run_bulk.specs.Load.{IsSkipped}
use Rattle.ioam_run_bulk.proofs.LoadLaws.{Takes-sums}
use Rattle.ioam_run_bulk.proofs.load.run_rest.Goals as goal

pub returns : goal.returns
returns g c =
    let domain = c.args.terms.now.domain.now in
    let readings = c.args.terms.now.readings.now in
    let seed = c.args.terms.now.seed in
    let count = c.args.terms.now.count in
    let skipped : IsSkipped domain readings c.args.load.now.gathered c.run.new.arg2 = search rules in
    record { sums = Takes-sums domain readings seed count c.run.new.arg2 (skipped.gathers (arrivals seed count) (texts_so_far domain readings []) c.requires.loads.takes) }
