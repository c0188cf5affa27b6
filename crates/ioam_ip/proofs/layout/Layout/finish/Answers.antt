use Rattle.std.proofs.Common.{◌≡◌, ◌≤◌, ◌-◌, ◌/◌, List, ℕ, length, slice_set, rules, subst, sym}
use Rattle.ioam_ip.specs.Layout.{finished}
use Rattle.ioam_ip.specs.Options.{AreOptions}
use Rattle.ioam_ip.proofs.LayoutLaws.{AreOptions-finished}
use Rattle.ioam_ip.proofs.layout.Layout.finish.Goals as goal

pub returns-clause-options : goal.returns-clause-options
returns-clause-options c = λ os are.
    let octets : slice_set c.pad.new.octets.items 1 (c.padded-whole.result / 8 - 1) ≡ finished c.args.self = search rules in
    let behind : 2 ≤ length c.args.self = search rules in
    let P : List ℕ → Type 0 = λ head. AreOptions head os in
    subst P (sym octets) (AreOptions-finished c.args.self os behind are)
