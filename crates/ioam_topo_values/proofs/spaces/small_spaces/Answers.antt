use Rattle.std.proofs.Common.{List, ap, sym, ◌∙◌}
use Rattle.toml.specs.View.{items_view}
use Rattle.toml.specs.declared.value.Value.{Value}
use Rattle.ioam_topo_values.specs.Entries.{spaces}
use Rattle.ioam_topo_values.proofs.EntryLaws.{space_turn, space_stop, space_end}
use Rattle.ioam_topo_values.proofs.spaces.small_spaces.Goals as goal

pub loop-value-preserved : goal.loop-value-preserved
loop-value-preserved c =
    space_turn c.loop-value.out.items c.push.new.self.items c.as_slice-items.result.now c.loop-value.value-index c.in-Ok.number c.value-item.result
    (spaces (items_view c.as_slice-items.result.now))
    c.loop-value-test.true c.value-item.is (sym c.in-Ok.ensures.value) c.in-Ok-push.ensures.items c.loop-value.invariant

pub returns-in-Err : goal.returns-in-Err
returns-in-Err c =
    ap (λ (vs : List Value). spaces (items_view vs)) (sym c.as_slice-items.ensures.value)
    ∙ space_stop c.loop-value.out.items c.as_slice-items.result.now c.loop-value.value-index c.value-item.result c.in-Err.why
    (spaces (items_view c.as_slice-items.result.now))
    c.loop-value-test.true c.value-item.is (sym c.in-Err.ensures.value) c.loop-value.invariant

pub returns : goal.returns
returns c =
    ap (λ (vs : List Value). spaces (items_view vs)) (sym c.as_slice-items.ensures.value)
    ∙ space_end c.loop-value.out.items c.as_slice-items.result.now c.loop-value.value-index (spaces (items_view c.as_slice-items.result.now))
    c.loop-value-test.false c.loop-value.invariant
