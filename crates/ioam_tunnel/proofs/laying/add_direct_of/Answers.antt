use Rattle.std.proofs.Common.{length, List, ℕ, refl, ap, ◌∙◌, arith}
use Rattle.ioam_dex.specs.Direct.{direct_octets}
use Rattle.ioam_tunnel.specs.Enclosed.{direct_of}
use Rattle.ioam_tunnel.specs.Outer.{more}
use Rattle.ioam_tunnel.proofs.LayLaws.{length-option, option-laid}
use Rattle.ioam_tunnel.proofs.SizeLaws.{length_direct}
use Rattle.ioam_tunnel.proofs.laying.add_direct_of.Goals as goal

pub begin_option-requires : goal.begin_option-requires
begin_option-requires c =
    let octets : List ℕ = direct_octets (direct_of c.args.flow.now c.args.kind c.args.seq) 0 in
    omega (arith, c.requires.room, length-option c.args.outer.now.laid octets 0x11 4)

pub put_direct-requires : goal.put_direct-requires
put_direct-requires c =
    let octets : List ℕ = direct_octets (direct_of c.args.flow.now c.args.kind c.args.seq) 0 in
    omega (
      arith,
      c.requires.room,
      length-option c.args.outer.now.laid octets 0x11 4,
      ap (λ d. length (direct_octets d 0)) c.direct_of.ensures,
      c.begin_option.ensures.size,
      c.begin_option.ensures.most,
    )

pub returns : goal.returns
returns c =
    let direct = direct_of c.args.flow.now c.args.kind c.args.seq in
    let octets : List ℕ = direct_octets direct 0 in
    option-laid c.args.outer.now c.begin_option.new.self c.put_direct.new.self octets 0x11 18 4
    (omega (arith, length_direct direct c.requires.id refl)) c.begin_option.ensures.value
    (c.put_direct.ensures ∙ ap (λ d. more c.begin_option.new.self (direct_octets d 0)) c.direct_of.ensures)
