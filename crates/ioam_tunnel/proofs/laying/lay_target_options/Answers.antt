use Rattle.std.proofs.Common.{arith}
use Rattle.ioam_tunnel.specs.Enclosed.{limit_parts, edge_parts}
use Rattle.ioam_tunnel.proofs.LayLaws.{header-laid, laid-some, most-kept, room-first, room-second, room-finished}
use Rattle.ioam_tunnel.proofs.laying.lay_target_options.Goals as goal

pub add_limit-requires : goal.add_limit-requires
add_limit-requires c =
    let flow = c.args.flow.now in
    let numbers = c.args.numbers.now in
    room-first c.args.outer.now c.pair.new.self 41 (limit_parts numbers.limit) (edge_parts flow.namespace flow.edge numbers)
    c.requires.none c.pair.ensures.value c.requires.room

pub add_edge-requires-clause-room : goal.add_edge-requires-clause-room
add_edge-requires-clause-room c =
    let flow = c.args.flow.now in
    let numbers = c.args.numbers.now in
    room-second c.args.outer.now c.pair.new.self 41 (limit_parts numbers.limit) (edge_parts flow.namespace flow.edge numbers)
    c.requires.none c.pair.ensures.value c.requires.room c.add_limit.new.outer c.add_limit.ensures

pub finish-requires-clause-some : goal.finish-requires-clause-some
finish-requires-clause-some c =
    let flow = c.args.flow.now in
    let numbers = c.args.numbers.now in
    laid-some c.args.outer.now c.pair.new.self 41 (limit_parts numbers.limit) (edge_parts flow.namespace flow.edge numbers)
    c.requires.none c.pair.ensures.value c.add_limit.new.outer c.add_edge.new.outer c.add_limit.ensures c.add_edge.ensures

pub finish-requires-clause-small : goal.finish-requires-clause-small
finish-requires-clause-small c =
    let flow = c.args.flow.now in
    let numbers = c.args.numbers.now in
    omega (
      arith,
      c.requires.small,
      most-kept c.args.outer.now c.pair.new.self 41 (limit_parts numbers.limit) (edge_parts flow.namespace flow.edge numbers)
          c.requires.none c.pair.ensures.value c.add_limit.new.outer c.add_edge.new.outer c.add_limit.ensures c.add_edge.ensures,
    )

pub finish-requires-clause-room : goal.finish-requires-clause-room
finish-requires-clause-room c =
    let flow = c.args.flow.now in
    let numbers = c.args.numbers.now in
    room-finished c.args.outer.now c.pair.new.self 41 (limit_parts numbers.limit) (edge_parts flow.namespace flow.edge numbers)
    c.requires.none c.pair.ensures.value c.requires.room c.add_limit.new.outer c.add_edge.new.outer c.add_limit.ensures c.add_edge.ensures

pub returns : goal.returns
returns c =
    let flow = c.args.flow.now in
    let numbers = c.args.numbers.now in
    header-laid c.args.outer.now c.pair.new.self 41 (limit_parts numbers.limit) (edge_parts flow.namespace flow.edge numbers)
    c.requires.none c.pair.ensures.value c.add_limit.new.outer c.add_edge.new.outer c.finish.new.self c.add_limit.ensures c.add_edge.ensures c.finish.ensures
