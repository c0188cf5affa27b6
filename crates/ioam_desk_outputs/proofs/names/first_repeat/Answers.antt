use Rattle.std.proofs.Common.{◌≡◌, ℕ, List, [], take, Contains, sym, ◌∙◌, subst, below_more, arith}
use Rattle.std.proofs.lemmas.List.{get_or_default}
use Rattle.std.proofs.lemmas.Bool.{false≢true}
use Rattle.ioam_desk_outputs.specs.Names.{name_at}
use Rattle.ioam_desk_outputs.proofs.names.first_repeat.Goals as goal

pub loop-at-preserved : goal.loop-at-preserved
loop-at-preserved c = below_more _ _ c.loop-at.invariant
    (λ repeats. false≢true (c.if-stands_in.ensures.1
    (let P : List ℕ → Type 0 = λ name. Contains (take c.loop-at.at c.args.names.now) name in
    let same : name_at c.args.names.now c.loop-at.at ≡ c.index-names-at.result = get_or_default c.args.names.now c.loop-at.at [] c.index-names-at.result c.loop-at-test.true ∙ sym c.index-names-at.is in
    subst P same repeats)))

pub returns : goal.returns
returns c = λ at inside. c.loop-at.invariant at (omega arith)
