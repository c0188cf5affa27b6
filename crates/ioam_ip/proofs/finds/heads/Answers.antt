use Rattle.std.proofs.Common.{length, sym, subst}
use Rattle.std.specs.List.{All}
use Rattle.ioam_ip.specs.ChainOptions.{HeadFits}
use Rattle.ioam_ip.specs.HeadsLeft.{AreHeads, OnlyHeads, heads_from}
use Rattle.ioam_ip.specs.declared.chain.HeadSpot.{HeadSpot}
use Rattle.ioam_ip.proofs.HeadsLeftLaws.{all_from}
use Rattle.ioam_ip.proofs.ChainLaws.{heads_only}
use Rattle.ioam_ip.proofs.FitLaws.{heads_fit}
use Rattle.ioam_ip.proofs.finds.heads.Goals as goal

pub returns-clause-heads : goal.returns-clause-heads
returns-clause-heads c =
    let packet = c.args.packet.now in
    let P : HeadSpot → Type 0 = λ spot. AreHeads packet (heads_from (length packet) packet spot) in
    subst P (sym c.start.ensures) (all_from packet c.requires.sound)

pub returns-clause-fit : goal.returns-clause-fit
returns-clause-fit c =
    let packet = c.args.packet.now in
    let P : HeadSpot → Type 0 = λ spot. All (HeadFits packet) (heads_from (length packet) packet spot) in
    subst P (sym c.start.ensures) (heads_fit packet _ (all_from packet c.requires.sound))

pub returns-clause-only : goal.returns-clause-only
returns-clause-only c =
    let packet = c.args.packet.now in
    let P : HeadSpot → Type 0 = λ spot. OnlyHeads packet (heads_from (length packet) packet spot) in
    subst P (sym c.start.ensures) (heads_only packet _ (all_from packet c.requires.sound))
