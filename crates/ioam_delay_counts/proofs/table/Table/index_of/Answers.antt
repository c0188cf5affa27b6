use Rattle.std.proofs.Common.{rules, sym, ◌∙◌, ap, subst}
use Rattle.std.specs.List.{prefix_len}
use Rattle.std.proofs.lemmas.List.Sorted.{IsPartitionPoint-from_clause}
use Rattle.ioam_delay_counts.specs.Tables.{InOrder}
use Rattle.ioam_delay_counts.specs.declared.table.Row.{Row}
use Rattle.ioam_delay_counts.proofs.TableLaws.{parted, point_is}
use Rattle.ioam_delay_counts.proofs.table.Table.index_of.Goals as goal

pub returns-clause-is : goal.returns-clause-is
returns-clause-is g c = λ order.
    let before = g.K.Key.before in
    let rows = c.deref.result.now in
    let P = λ (row : Row g.row.K.Denot g.row.T.Denot). before row.key c.args.key.now in
    point_is P rows c.partition_point.result c.partition_point.ensures.bound
    (IsPartitionPoint-from_clause P rows _ c.partition_point.ensures.partitioned (parted before g.K.Key.onward c.args.key.now rows (subst (InOrder before) (sym c.deref.ensures.value) order))
    (λ a r f k. search rules)) ∙ ap (prefix_len P) c.deref.ensures.value
