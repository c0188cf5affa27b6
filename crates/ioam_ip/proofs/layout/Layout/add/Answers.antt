use Rattle.std.proofs.Common.{◌≡◌, ◌≤◌, ◌∷◌, [], ◌++◌, List, ℕ, length, rules, subst, sym}
use Rattle.ioam_ip.specs.Layout.{with_option, placed}
use Rattle.ioam_ip.specs.Options.{AreOptions}
use Rattle.ioam_ip.proofs.LayoutLaws.{AreOptions-with}
use Rattle.ioam_ip.proofs.layout.Layout.add.Goals as goal

pub returns-in-Ok-clause-options : goal.returns-in-Ok-clause-options
returns-in-Ok-clause-options c = λ os are.
    let octets : c.append_option.new.octets.items ≡ with_option c.args.self.now c.args.kind c.args.body.now = search rules in
    let behind : 2 ≤ length c.args.self.now = search rules in
    let P : List ℕ → Type 0 = λ head. AreOptions head (os ++ placed c.args.self.now c.args.kind c.args.body.now ∷ []) in
    subst P (sym octets) (AreOptions-with c.args.self.now c.args.body.now c.args.kind os behind c.requires.kind are)
