use Rattle.std.proofs.Common.{sym, ◌++◌, ◌∙◌, ap, subst, arith}
use Rattle.ioam_collect.specs.Collected.{Answers, Leaves}
use Rattle.ioam_collect.specs.Keyed.{keyed_of}
use Rattle.ioam_collect.specs.declared.growing.Added.{Added}
use Rattle.ioam_dex.specs.Record.{Record}
use Rattle.ioam_collect_stream.specs.Gathering.{SaysLimit, most_of}
use Rattle.ioam_collect_stream.proofs.GatheringLaws.{shorter, gathers_more, leaves_more, past_read, past_held, full_is, full_not}
use Rattle.ioam_collect_stream.proofs.step.step.Goals as goal

pub new-export-requires : goal.new-export-requires
new-export-requires c = let told = rw c.in-Record.is at c.show.follows.holds-at-none in (told.0.0, told.0.1)

pub returns-then-read-from-clause-stepped : goal.returns-then-read-from-clause-stepped
returns-then-read-from-clause-stepped c =
    let told = rw c.in-Record.is at c.show.follows.holds-at-none in
    let x = told.0.0 in
    let new = c.show.follows.lender-at-none in
    let says = subst (λ (y : Record). SaysLimit c.args.collector.now y (most_of c.passed_limit-limit.result)) (c.new-export.ensures.says x told.0.1) c.passed_limit-limit.ensures.says in (
      shorter x new.pending c.args.reader.now.pending (told.1 ∙ ap (λ o. o ++ new.pending) told.0.1.is),
      c.passed_limit-limit.ensures.same,
      past_read c.args.reader.now new c.args.collector.now x (most_of c.passed_limit-limit.result) told.0.2 (omega (arith, c.read.ensures, c.if-read-from.true)) says,
    )

pub returns-then-is_full-clause-stepped : goal.returns-then-is_full-clause-stepped
returns-then-is_full-clause-stepped c =
    let told = rw c.in-Record.is at c.show.follows.holds-at-none in
    let x = told.0.0 in
    let new = c.show.follows.lender-at-none in
    let full = full_is c.in_ok-added-in-Record.added (sym c.is_full.ensures ∙ c.if-is_full.true) in
    let adds = rw (c.new-export.ensures.says x told.0.1) at c.in_ok-added-in-Record.ensures in
    let answers = subst (λ (a : Added). Answers c.args.collector.now (keyed_of x) a) full adds.0 in
    let leaves = subst (λ (a : Added). Leaves a c.args.collector.now x c.add.new.self) full adds.1 in
    (shorter x new.pending c.args.reader.now.pending (told.1 ∙ ap (λ o. o ++ new.pending) told.0.1.is), leaves, past_held c.args.reader.now new c.args.collector.now x told.0.2 answers)

pub returns-else-is_full-clause-stepped : goal.returns-else-is_full-clause-stepped
returns-else-is_full-clause-stepped c =
    let told = rw c.in-Record.is at c.show.follows.holds-at-none in
    let x = told.0.0 in
    let new = c.show.follows.lender-at-none in
    let other = full_not c.in_ok-added-in-Record.added (sym c.is_full.ensures ∙ c.if-is_full.false) in
    let adds = rw (c.new-export.ensures.says x told.0.1) at c.in_ok-added-in-Record.ensures in (
      shorter x new.pending c.args.reader.now.pending (told.1 ∙ ap (λ o. o ++ new.pending) told.0.1.is),
      gathers_more c.args.reader.now new c.args.collector.now c.add.new.self x c.in_ok-added-in-Record.added told.0.2
          (leaves_more c.in_ok-added-in-Record.added c.args.collector.now c.add.new.self x other adds.1) adds.0 other adds.2 adds.3
          (omega (arith, c.read.ensures, c.if-read-from.false)),
    )
