use Rattle.std.proofs.Common.{refl, sym, ◌∙◌}
use Rattle.ioam_topo_flows.proofs.TracedLaws.{traced_none, extras_turn, extras_there, extras_all}
use Rattle.ioam_topo_flows.proofs.extra_table.with_extras.Goals as goal

pub loop-extra-init : goal.loop-extra-init
loop-extra-init c = record {
  items = sym (traced_none 0 c.args.flows.items.items);
  names = refl;
  keys = refl;
}

pub add_trace-requires : goal.add_trace-requires
add_trace-requires c = extras_there c.args.flows.items.items c.args.extras.now c.loop-extra.extra-index c.extra-item.result c.loop-extra.out.items.items
    c.loop-extra-test.true c.extra-item.is c.requires c.loop-extra.invariant.items

pub loop-extra-preserved : goal.loop-extra-preserved
loop-extra-preserved c = record {
  items = extras_turn c.args.flows.items.items c.args.extras.now c.loop-extra.extra-index c.extra-item.result c.loop-extra.out.items.items c.add_trace.new.self.items.items
      c.loop-extra-test.true c.extra-item.is c.loop-extra.invariant.items c.in-Ok.ensures.items;
  names = c.add_trace.ensures.names ∙ c.loop-extra.invariant.names;
  keys = c.add_trace.ensures.keys ∙ c.loop-extra.invariant.keys;
}

pub returns-clause-items : goal.returns-clause-items
returns-clause-items c = extras_all c.args.flows.items.items c.args.extras.now c.loop-extra.extra-index c.loop-extra.out.items.items (c.loop-extra-test.false) c.loop-extra.invariant.items
