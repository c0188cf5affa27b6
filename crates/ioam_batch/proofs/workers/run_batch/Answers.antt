use Rattle.std.proofs.Common.{◌≡◌, List, drop, take, ap, ◌∙◌, sym, subst, arith}
use Rattle.std.specs.Prelude.{All}
use Rattle.std.specs.List.{AllZip}
use Rattle.std.proofs.lemmas.List.{with_items_is}
use Rattle.ioam_batch.specs.Batches.{Batched, IsBatch, IsSmall, MayRun, all_reserved}
use Rattle.ioam_batch.specs.Jobs.{HasRun, HasTaps, Holds, IsFresh, KeepsMemory}
use Rattle.ioam_batch.specs.declared.job.Job.{Job}
use Rattle.ioam_batch.proofs.JobsLaws.{holds-stay, memory-stays, reserved-stays, small-stay, taps-held}
use Rattle.ioam_batch.proofs.workers.run_batch.Goals as goal

pub invariant_of-batch : goal.invariant_of-batch
invariant_of-batch g c =
    let i = c.batch.inside in
    let is = c.batch.invariant in
    let after = c.run_front.new.jobs in
    let given = c.deref_mut.result.now in
    let before = ap (take i.count) c.deref_mut.ensures.value in
    let may = c.run_front.ensures.may in
    let small : List Job → Type 0 = All IsSmall in
    let P : List Job → Type 0 = λ jobs. IsBatch jobs i.jobs.cap i.count i.reserved i.has_large in
    subst P (sym (with_items_is i.jobs after (omega arith))) (record {
      within = omega arith;
      room = is.room;
      summed = is.summed ∙ ap all_reserved (sym before) ∙ sym (reserved-stays c.args.domain.now c.args.readings.now (take i.count given) (take i.count after) may);
      kept = subst small (sym (c.run_front.ensures.behind ∙ ap (drop i.count) c.deref_mut.ensures.value)) is.kept;
      unless_large = λ none.
          small-stay c.args.domain.now c.args.readings.now (take i.count given) (take i.count after) may (subst small (sym before) (is.unless_large none));
    })

pub returns-clause-runs : goal.returns-clause-runs
returns-clause-runs g c = λ opened.
    let count = c.batch.inside.count in
    let before = c.batch.inside.jobs in
    let after = c.run_front.new.jobs in
    let given = c.deref_mut.result.now in
    let new = ap (take count) (with_items_is before after (omega arith)) in
    let old : take count given ≡ c.args.batch.now.jobs = ap (take count) c.deref_mut.ensures.value ∙ ap (λ (b : Batched). b.jobs) c.batch.view_is in
    let P : List Job → Type 0 = λ jobs. AllZip (HasRun c.args.domain.now c.args.readings.now) jobs (take count after) in
    let Q : List Job → Type 0 = λ jobs. AllZip (HasRun c.args.domain.now c.args.readings.now) c.args.batch.now.jobs jobs in
    subst Q (sym new) (subst P old (c.run_front.ensures.runs opened))

pub returns-clause-may : goal.returns-clause-may
returns-clause-may g c =
    let count = c.batch.inside.count in
    let before = c.batch.inside.jobs in
    let after = c.run_front.new.jobs in
    let given = c.deref_mut.result.now in
    let new = ap (take count) (with_items_is before after (omega arith)) in
    let old : take count given ≡ c.args.batch.now.jobs = ap (take count) c.deref_mut.ensures.value ∙ ap (λ (b : Batched). b.jobs) c.batch.view_is in
    let P : List Job → Type 0 = λ jobs. AllZip (MayRun c.args.domain.now c.args.readings.now) jobs (take count after) in
    let Q : List Job → Type 0 = λ jobs. AllZip (MayRun c.args.domain.now c.args.readings.now) c.args.batch.now.jobs jobs in
    subst Q (sym new) (subst P old c.run_front.ensures.may)

pub returns-clause-memory : goal.returns-clause-memory
returns-clause-memory g c =
    let count = c.batch.inside.count in
    let before = c.batch.inside.jobs in
    let after = c.run_front.new.jobs in
    let given = c.deref_mut.result.now in
    let new = ap (take count) (with_items_is before after (omega arith)) in
    let old : take count given ≡ c.args.batch.now.jobs = ap (take count) c.deref_mut.ensures.value ∙ ap (λ (b : Batched). b.jobs) c.batch.view_is in
    let P : List Job → Type 0 = λ jobs. AllZip (KeepsMemory) jobs (take count after) in
    let Q : List Job → Type 0 = λ jobs. AllZip (KeepsMemory) c.args.batch.now.jobs jobs in
    subst Q (sym new) (subst P old (memory-stays c.args.domain.now c.args.readings.now (take count given) (take count after) c.run_front.ensures.may))

pub returns-clause-holds : goal.returns-clause-holds
returns-clause-holds g c = λ holds.
    let count = c.batch.inside.count in
    let before = c.batch.inside.jobs in
    let after = c.run_front.new.jobs in
    let given = c.deref_mut.result.now in
    let new = ap (take count) (with_items_is before after (omega arith)) in
    let old : take count given ≡ c.args.batch.now.jobs = ap (take count) c.deref_mut.ensures.value ∙ ap (λ (b : Batched). b.jobs) c.batch.view_is in
    let all : List Job → Type 0 = All (Holds c.args.domain.now) in
    subst all (sym new) (holds-stay c.args.domain.now c.args.readings.now (take count given) (take count after) c.run_front.ensures.may (subst all (sym old) holds))

pub returns-clause-taps : goal.returns-clause-taps
returns-clause-taps g c =
    let count = c.batch.inside.count in
    let before = c.batch.inside.jobs in
    let after = c.run_front.new.jobs in
    let given = c.deref_mut.result.now in
    let new = ap (take count) (with_items_is before after (omega arith)) in
    let old : take count given ≡ c.args.batch.now.jobs = ap (take count) c.deref_mut.ensures.value ∙ ap (λ (b : Batched). b.jobs) c.batch.view_is in
    let fresh : List Job → Type 0 = All (IsFresh c.args.domain.now) in
    let taps : List Job → Type 0 = All (HasTaps c.args.domain.now) in
    subst taps (sym new) (taps-held c.args.domain.now c.args.readings.now (take count given) (take count after) c.run_front.ensures.may (subst fresh (sym old) c.requires.fresh))
