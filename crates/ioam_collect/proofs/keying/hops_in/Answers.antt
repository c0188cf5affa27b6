use Rattle.std.proofs.Common.{sym}
use Rattle.ioam_collect.proofs.CollectedLaws.{first_hops, first_room, no_hops, zero_from}
use Rattle.ioam_collect.proofs.keying.hops_in.Goals as goal

pub returns-then-is_empty : goal.returns-then-is_empty
returns-then-is_empty c = sym (no_hops c.args.kind c.args.element.now c.requires.filled (zero_from _ c.if-is_empty.ensures))

pub u32_at-requires : goal.u32_at-requires
u32_at-requires c = first_room c.args.kind c.args.element.now c.requires.filled (sym c.if-has.ensures)

pub returns-then-has : goal.returns-then-has
returns-then-has c = rw c.u32_at.ensures (sym (first_hops c.args.kind c.args.element.now (sym c.if-has.ensures)))
