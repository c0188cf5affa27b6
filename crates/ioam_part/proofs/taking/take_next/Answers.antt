use Rattle.std.proofs.Common.{◌≡◌, ◌+◌, ◌<◌, ◌++◌, ◌∙◌, ap, length, refl, subst, arith, Some}
use Rattle.std.specs.Prelude.{IfOk}
use Rattle.ioam_dex.specs.Record.{Record}
use Rattle.ioam_dex.specs.RecordRef.{content}
use Rattle.ioam_part.specs.Reading.{Goes}
use Rattle.ioam_part.specs.declared.fault.PartFault.TheVariants as fault
use Rattle.ioam_part.specs.declared.progress.Progress.{Progress}
use Rattle.ioam_part.proofs.ReaderLaws.{if_ok}
use Rattle.ioam_part.proofs.TakingLaws.{has_rest, is_bad, shown}
use Rattle.ioam_part.proofs.taking.take_next.Goals as goal

pub returns-then-progress-count-clause-turns : goal.returns-then-progress-count-clause-turns
returns-then-progress-count-clause-turns c = λ limit body xs none took.
    let small : c.args.count < 4294967296 = omega arith in
    let new : Progress = record c.args.progress.now { fault = Some (c.place_of.result, fault.Rest) } in
    has_rest c.args.count limit body xs c.args.reader.now c.args.progress.now took small new c.place_of.result refl c.place_of.ensures (omega arith)
    (λ same. c.if-fed-progress.false (c.fed.ensures ∙ same))

pub returns-in-Record-clause-turns : goal.returns-in-Record-clause-turns
returns-in-Record-clause-turns c =
    let told = rw c.in-Record.is at c.show.follows.holds-at-none in
    let small : c.args.count < 4294967296 = omega arith in
    let x = told.0.0 in
    let rec = told.0.1 in
    let same : content c.new.result ≡ x = c.new.ensures.says x rec in
    let goes = subst (λ (y : Record). IfOk c.take.result (λ fits. Goes c.args.progress.now y fits c.take.new.progress)) same c.take.ensures in
    if_ok c.take.result _ _ goes (λ more went limit body xs none took.
    shown c.args.count limit body xs c.args.reader.now c.args.progress.now took small c.show.follows.lender-at-none x rec.sayable
    (told.1 ∙ ap (λ o. o ++ c.show.follows.lender-at-none.pending) rec.is) (told.2 ∙ ap (λ o. c.args.reader.now.start + length o) rec.is)
    c.take.new.progress none (omega arith) (told.0.2 body xs took.stands) more went)

pub returns-in-Bad-clause-turns : goal.returns-in-Bad-clause-turns
returns-in-Bad-clause-turns c = λ limit body xs none took.
    let told = rw c.in-Bad.is at c.show.follows.holds-at-none in
    let small : c.args.count < 4294967296 = omega arith in
    let new : Progress = record c.args.progress.now { fault = Some (c.place_of-in-Bad.result, fault.Record c.in-Bad.fault) } in
    is_bad c.args.count limit body xs c.args.reader.now c.args.progress.now took small c.show.follows.lender-at-none new c.in-Bad.at c.place_of-in-Bad.result c.in-Bad.fault
    (omega arith) refl c.place_of-in-Bad.ensures told.1 told.2
