use Rattle.ioam_base.specs.declared.memory.NoMemory.{NoMemory}
use Rattle.ioam_dex.specs.RecordRef.{content}
use Rattle.ioam_part.proofs.TakingLaws.{holds_full, holds_more}
use Rattle.ioam_part.proofs.taking.hold.Goals as goal

pub returns-then-progress-clause-holds : goal.returns-then-progress-clause-holds
returns-then-progress-clause-holds c = λ limit xs in_order holds.
    holds_full limit c.args.progress.now.collector c.args.progress.now.full (content c.args.export.now) xs c.if-progress.true holds

pub returns-clause-holds : goal.returns-clause-holds
returns-clause-holds c = λ limit xs in_order holds.
    holds_more NoMemory limit c.args.progress.now.collector c.add.new.self c.args.progress.now.full (content c.args.export.now) c.in_ok-added.added c.if-progress.false
    c.in_ok-added.ensures xs in_order holds c.is_full-progress.result c.is_full-progress.ensures
