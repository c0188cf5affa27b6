use Rattle.std.proofs.Common.{◌≡◌, cond, List, [], slice_range, sym, ap, ◌∙◌, subst}
use Rattle.std.proofs.lemmas.List.{take_rest}
use Rattle.ioam_ip.specs.Hop.{hop_head, hop_options}
use Rattle.ioam_ip.specs.Options.{Item}
use Rattle.ioam_ip.specs.Rewriting.{options_in}
use Rattle.ioam_audit.specs.Header.{AreLeft}
use Rattle.ioam_audit.proofs.LeftLaws.{last}
use Rattle.ioam_audit.proofs.sent.is_left.Goals as goal

pub returns-in-Some : goal.returns-in-Some
returns-in-Some c =
    let before = c.args.before.now in
    let sight = c.args.sight in
    let range = c.in-Some.ensures.place in
    let options : options_in (slice_range before 40 c.in-Some.hop.end) ≡ hop_options before =
    ap (λ n. options_in (slice_range before 40 n)) range.ends ∙ sym (ap (λ b. cond b (options_in (hop_head before)) []) range.there) in
    let Left : List Item → Type 0 = λ os. AreLeft c.args.domain.now c.args.node.0 sight.hops sight.id sight.inward before c.args.after.now 40 os in (
      λ is. subst Left options (c.agree.ensures.0 is),
      λ left. c.agree.ensures.1 (subst Left (sym options) left),
    )

pub returns-in-None : goal.returns-in-None
returns-in-None c =
    let before = c.args.before.now in
    let sight = c.args.sight in
    let options : hop_options before ≡ [] = ap (λ b. cond b (options_in (hop_head before)) []) c.in-None.ensures.place in
    let Left : List Item → Type 0 = λ os. AreLeft c.args.domain.now c.args.node.0 sight.hops sight.id sight.inward before c.args.after.now 40 os in
    let ends = last c.args.domain.now c.args.node.0 sight.hops sight.id sight.inward before c.args.after.now c.requires.same 40 in
    let old = take_rest before 40 in
    let new = take_rest c.args.after.now 40 in (
      λ is. subst Left (sym options) (ends.1 (sym new ∙ c.is_same.ensures.0 is ∙ old)),
      λ left. c.is_same.ensures.1 (new ∙ ends.0 (subst Left options left) ∙ sym old),
    )
