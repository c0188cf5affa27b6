use Rattle.std.proofs.Common.{[], List, ℕ, arith}
use Rattle.ioam_trace.specs.Data.{trace_data}
use Rattle.ioam_tunnel.proofs.LayLaws.{length-option, option-laid}
use Rattle.ioam_tunnel.proofs.SizeLaws.{length_trace}
use Rattle.ioam_tunnel.proofs.laying.add_trace.Goals as goal

pub begin_option-requires : goal.begin_option-requires
begin_option-requires c =
    let trace = c.args.trace in
    let octets : List ℕ = trace_data trace.namespace.0 trace.kind trace.capacity [] in
    omega (arith, c.requires.room, length-option c.args.outer.now.laid octets 0x31 0)

pub put_trace-requires-clause-room : goal.put_trace-requires-clause-room
put_trace-requires-clause-room c =
    let trace = c.args.trace in
    let octets : List ℕ = trace_data trace.namespace.0 trace.kind trace.capacity [] in
    omega (
      arith,
      c.requires.room,
      length-option c.args.outer.now.laid octets 0x31 0,
      length_trace trace.namespace.0 trace.kind trace.capacity,
      c.begin_option.ensures.size,
      c.begin_option.ensures.most,
    )

pub returns-clause-value : goal.returns-clause-value
returns-clause-value c =
    let trace = c.args.trace in
    let octets : List ℕ = trace_data trace.namespace.0 trace.kind trace.capacity [] in
    option-laid c.args.outer.now c.begin_option.new.self c.put_trace.new.self octets 0x31 c.trace_data_len.result 0
    (omega (arith, length_trace trace.namespace.0 trace.kind trace.capacity, c.trace_data_len.ensures)) c.begin_option.ensures.value c.put_trace.ensures.value
