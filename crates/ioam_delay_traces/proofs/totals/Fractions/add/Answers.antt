use Rattle.std.proofs.Common.{◌++◌, ℕ, List, take, subst, arith, length-append}
use Rattle.std.proofs.lemmas.List.{length-take}
use Rattle.ioam_delay_traces.specs.Totals.{AreFractions, fractions_in}
use Rattle.ioam_delay_traces.proofs.TotalLaws.{fractions_few, fractions_more}
use Rattle.ioam_delay_traces.proofs.totals.Fractions.add.Goals as goal

pub sights-preserved : goal.sights-preserved
sights-preserved c = λ seen short is.
    let sights = c.args.sights.now in
    let at = c.sights.sight-index in
    let P : List ℕ → Type 0 = λ fs. AreFractions fs c.add_one.new.self in
    subst P (fractions_more seen sights at _ c.sights-test.true)
    (c.add_one.ensures (seen ++ fractions_in (take at sights))
    (omega (arith, short, length-append seen (fractions_in (take at sights)), fractions_few (take at sights), length-take at sights)) (c.sights.invariant seen short is))
