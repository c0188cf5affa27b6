use Rattle.std.proofs.Common.{◌-◌, List, ℕ, drop, length, take, sym, subst}
use Rattle.std.proofs.lemmas.List.{take_rest}
use Rattle.ioam_audit.specs.Becomes.{MayBecome}
use Rattle.ioam_audit.proofs.left.is_trace_left.Goals as goal

pub returns-then-is_same : goal.returns-then-is_same
returns-then-is_same c =
    let old = c.args.old.now in
    let new = c.args.new.now in
    let sight = c.args.sight in
    let May : List ℕ → List ℕ → Type 0 = MayBecome sight.hops sight.id sight.inward in (
      λ is. (c.is_same.ensures.0 c.if-is_same.true, subst (May (drop 2 old)) (take_rest new 2) (subst (λ xs. May xs (take (length new - 2) (drop 2 new))) (take_rest old 2) (c.may_become.ensures.0 is))),
      λ both. c.may_become.ensures.1 (subst (λ xs. May xs (take (length new - 2) (drop 2 new))) (sym (take_rest old 2)) (subst (May (drop 2 old)) (sym (take_rest new 2)) both.1)),
    )
