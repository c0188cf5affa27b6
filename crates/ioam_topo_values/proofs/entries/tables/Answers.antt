use Rattle.std.proofs.Common.{List, ap, sym, ◌∙◌}
use Rattle.toml.specs.View.{items_view}
use Rattle.toml.specs.declared.value.Value.{Value}
use Rattle.ioam_topo_values.specs.Entries.{tables}
use Rattle.ioam_topo_values.proofs.EntryLaws.{views, table_turn, table_stop, table_end}
use Rattle.ioam_topo_values.proofs.entries.tables.Goals as goal

pub loop-value-preserved : goal.loop-value-preserved
loop-value-preserved c =
    table_turn c.loop-value.out.items c.push.new.self.items _ c.as_slice-items.result.now c.loop-value.value-index c.value-item.result (tables (items_view c.as_slice-items.result.now))
    c.loop-value-test.true c.value-item.is c.in-Ok.ensures.items c.in-Table.is c.loop-value.invariant

pub returns-in_default : goal.returns-in_default
returns-in_default c =
    ap (λ (vs : List Value). tables (items_view vs)) (sym c.as_slice-items.ensures.value)
    ∙ table_stop (views c.loop-value.out.items) c.as_slice-items.result.now c.loop-value.value-index c.value-item.result (tables (items_view c.as_slice-items.result.now))
    c.loop-value-test.true c.value-item.is c.in_default.not-Table c.loop-value.invariant

pub returns : goal.returns
returns c =
    ap (λ (vs : List Value). tables (items_view vs)) (sym c.as_slice-items.ensures.value)
    ∙ table_end (views c.loop-value.out.items) c.as_slice-items.result.now c.loop-value.value-index (tables (items_view c.as_slice-items.result.now))
    c.loop-value-test.false c.loop-value.invariant
