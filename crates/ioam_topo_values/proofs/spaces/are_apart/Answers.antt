use Rattle.std.proofs.Common.{[]}
use Rattle.ioam_topo_values.specs.Entries.{apart_from}
use Rattle.ioam_topo_values.proofs.EntryLaws.{apart_turn, apart_stop, apart_end}
use Rattle.ioam_topo_values.proofs.spaces.are_apart.Goals as goal

pub loop-space-preserved : goal.loop-space-preserved
loop-space-preserved c =
    apart_turn c.loop-space.seen.keys c.insert_full.new.self.keys c.args.spaces.now c.loop-space.space-index _ c.in-Ok-default-true.field-0-1 (apart_from [] c.args.spaces.now)
    c.loop-space-test.true c.in-Ok-default-true.ensures.added c.in-Ok-default-true.field-0-1-test c.in-Ok-default-true.ensures.keys c.loop-space.invariant

pub returns-in-Ok-default-false : goal.returns-in-Ok-default-false
returns-in-Ok-default-false c =
    apart_stop c.loop-space.seen.keys c.args.spaces.now c.loop-space.space-index _ c.in-Ok-default-false.field-0-1 (apart_from [] c.args.spaces.now)
    c.loop-space-test.true c.in-Ok-default-false.ensures.added c.in-Ok-default-false.field-0-1-test c.loop-space.invariant

pub returns : goal.returns
returns c = apart_end c.loop-space.seen.keys c.args.spaces.now c.loop-space.space-index (apart_from [] c.args.spaces.now) c.loop-space-test.false c.loop-space.invariant
