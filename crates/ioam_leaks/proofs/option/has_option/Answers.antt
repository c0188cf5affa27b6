use Rattle.std.proofs.Common.{ℕ, subst, sym, arith}
use Rattle.ioam_leaks.specs.Shows.{Counts, HasOption}
use Rattle.ioam_leaks.proofs.OptionLaws.{HasOption-last, HasOption-next, HasOption-on, HasOption-past}
use Rattle.ioam_leaks.proofs.option.has_option.Goals as goal

pub returns-in_default : goal.returns-in_default
returns-in_default c = (
  λ no. absurd (cc no),
  λ has. absurd (HasOption-last c.args.part c.args.head.now c.options.at
      (λ counts. absurd (cc (c.if-counts.false, c.counts.ensures.1 counts))) (λ fits. absurd (omega (arith, fits, c.in_default.ensures)))
      (c.options.invariant.0 has)),
)

pub options-preserved : goal.options-preserved
options-preserved c =
    let none : Counts c.args.part c.args.head.now c.options.at → ⊥ = λ counts. absurd (cc (c.if-counts.false, c.counts.ensures.1 counts)) in
    let P : ℕ → Type 0 = λ next. HasOption c.args.part c.args.head.now next in (
      (λ has. subst P (sym c.in-Some.ensures.0) (HasOption-next c.args.part c.args.head.now c.options.at none (c.options.invariant.0 has))),
      (λ has. c.options.invariant.1 (HasOption-on c.args.part c.args.head.now c.options.at c.in-Some.ensures.1 (subst P c.in-Some.ensures.0 has))),
    )

pub returns : goal.returns
returns c = (
  λ no. absurd (cc no),
  λ has. absurd (HasOption-past c.args.part c.args.head.now c.options.at (omega arith) (c.options.invariant.0 has)),
)
