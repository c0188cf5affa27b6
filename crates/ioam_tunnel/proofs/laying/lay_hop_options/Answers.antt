use Rattle.std.proofs.Common.{◌≤◌, List, length, map, sym, ap, ◌∙◌, subst, arith}
use Rattle.ioam_ip.specs.Laid.{laid_with}
use Rattle.ioam_topo.specs.declared.traces.FlowTrace.{FlowTrace}
use Rattle.ioam_tunnel.specs.Enclosed.{room_of, direct_parts}
use Rattle.ioam_tunnel.specs.Outer.{with_parts}
use Rattle.ioam_tunnel.specs.Wire.{trace_parts, no_elements}
use Rattle.ioam_tunnel.proofs.LayLaws.{header-laid, laid-some, most-kept, room-first, room-second, room-finished}
use Rattle.ioam_tunnel.proofs.laying.lay_hop_options.Goals as goal

pub add_traces-requires-clause-room : goal.add_traces-requires-clause-room
add_traces-requires-clause-room c =
    let flow = c.args.flow.now in
    let traces = trace_parts (map room_of flow.traces) no_elements in
    let directs = direct_parts flow flow.direct c.args.seq in
    subst (λ (ts : List FlowTrace). length (laid_with c.pair.new.self.laid (trace_parts (map room_of ts) no_elements)) ≤ c.pair.new.self.most) (sym c.traces.ensures)
    (room-first c.args.outer.now c.pair.new.self c.args.next traces directs c.requires.none c.pair.ensures.value c.requires.room)

pub add_direct-requires-clause-room : goal.add_direct-requires-clause-room
add_direct-requires-clause-room c =
    let flow = c.args.flow.now in
    let traces = trace_parts (map room_of flow.traces) no_elements in
    let directs = direct_parts flow flow.direct c.args.seq in
    let laid = c.add_traces.ensures.value ∙ ap (λ (ts : List FlowTrace). with_parts c.pair.new.self (trace_parts (map room_of ts) no_elements)) c.traces.ensures in
    room-second c.args.outer.now c.pair.new.self c.args.next traces directs c.requires.none c.pair.ensures.value c.requires.room c.add_traces.new.outer laid

pub finish-requires-clause-some : goal.finish-requires-clause-some
finish-requires-clause-some c =
    let flow = c.args.flow.now in
    let traces = trace_parts (map room_of flow.traces) no_elements in
    let directs = direct_parts flow flow.direct c.args.seq in
    let laid = c.add_traces.ensures.value ∙ ap (λ (ts : List FlowTrace). with_parts c.pair.new.self (trace_parts (map room_of ts) no_elements)) c.traces.ensures in
    laid-some c.args.outer.now c.pair.new.self c.args.next traces directs c.requires.none c.pair.ensures.value
    c.add_traces.new.outer c.add_direct.new.outer laid c.add_direct.ensures

pub finish-requires-clause-small : goal.finish-requires-clause-small
finish-requires-clause-small c =
    let flow = c.args.flow.now in
    let traces = trace_parts (map room_of flow.traces) no_elements in
    let directs = direct_parts flow flow.direct c.args.seq in
    let laid = c.add_traces.ensures.value ∙ ap (λ (ts : List FlowTrace). with_parts c.pair.new.self (trace_parts (map room_of ts) no_elements)) c.traces.ensures in
    omega (
      arith,
      c.requires.small,
      most-kept c.args.outer.now c.pair.new.self c.args.next traces directs c.requires.none c.pair.ensures.value
          c.add_traces.new.outer c.add_direct.new.outer laid c.add_direct.ensures,
    )

pub finish-requires-clause-room : goal.finish-requires-clause-room
finish-requires-clause-room c =
    let flow = c.args.flow.now in
    let traces = trace_parts (map room_of flow.traces) no_elements in
    let directs = direct_parts flow flow.direct c.args.seq in
    let laid = c.add_traces.ensures.value ∙ ap (λ (ts : List FlowTrace). with_parts c.pair.new.self (trace_parts (map room_of ts) no_elements)) c.traces.ensures in
    room-finished c.args.outer.now c.pair.new.self c.args.next traces directs c.requires.none c.pair.ensures.value c.requires.room
    c.add_traces.new.outer c.add_direct.new.outer laid c.add_direct.ensures

pub returns-clause-value : goal.returns-clause-value
returns-clause-value c =
    let flow = c.args.flow.now in
    let traces = trace_parts (map room_of flow.traces) no_elements in
    let directs = direct_parts flow flow.direct c.args.seq in
    let laid = c.add_traces.ensures.value ∙ ap (λ (ts : List FlowTrace). with_parts c.pair.new.self (trace_parts (map room_of ts) no_elements)) c.traces.ensures in
    header-laid c.args.outer.now c.pair.new.self c.args.next traces directs c.requires.none c.pair.ensures.value
    c.add_traces.new.outer c.add_direct.new.outer c.finish.new.self laid c.add_direct.ensures c.finish.ensures
