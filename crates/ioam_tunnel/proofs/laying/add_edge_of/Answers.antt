use Rattle.std.proofs.Common.{◌≡◌, ◌+◌, length, List, ℕ, ap, ◌∙◌, arith}
use Rattle.ioam_edge.specs.Edge.{edge_octets, fields_size}
use Rattle.ioam_edge.proofs.EdgeLaws.{length-edge_octets}
use Rattle.ioam_tunnel.specs.Enclosed.{edge_of}
use Rattle.ioam_tunnel.specs.Outer.{more}
use Rattle.ioam_tunnel.proofs.LayLaws.{length-option, option-laid}
use Rattle.ioam_tunnel.proofs.SizeLaws.{edge-fields}
use Rattle.ioam_tunnel.proofs.laying.add_edge_of.Goals as goal

pub begin_option-requires : goal.begin_option-requires
begin_option-requires c =
    let octets : List ℕ = edge_octets (edge_of c.args.namespace c.args.kind c.args.numbers.now) in
    omega (arith, c.requires.room, length-option c.args.outer.now.laid octets 0x11 3)

pub put_edge-requires : goal.put_edge-requires
put_edge-requires c =
    let octets : List ℕ = edge_octets (edge_of c.args.namespace c.args.kind c.args.numbers.now) in
    omega (
      arith,
      c.requires.room,
      length-option c.args.outer.now.laid octets 0x11 3,
      ap (λ e. length (edge_octets e)) c.edge_of.ensures,
      c.begin_option.ensures.size,
      c.begin_option.ensures.most,
    )

pub returns : goal.returns
returns c =
    let edge = edge_of c.args.namespace c.args.kind c.args.numbers.now in
    let octets : List ℕ = edge_octets edge in
    let long : length octets ≡ 4 + fields_size c.args.kind = length-edge_octets edge (edge-fields c.args.namespace c.args.kind c.args.numbers.now) in
    option-laid c.args.outer.now c.begin_option.new.self c.put_edge.new.self octets 0x11 c.edge_data_len.result 3
    (omega (arith, long, c.edge_data_len.ensures.value)) c.begin_option.ensures.value
    (c.put_edge.ensures ∙ ap (λ e. more c.begin_option.new.self (edge_octets e)) c.edge_of.ensures)
