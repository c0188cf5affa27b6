-- The ways of a namespace, those with the most traces first.
use Rattle.std.proofs.Common.{◌≡◌, ℕ, zero, suc, ◌-◌, ◌<◌, List, [], ◌++◌, refl, arith}
use Rattle.std.proofs.lemmas.Bool.{cond-false, cond-true, eq-eqb, ne_eqb}
use Rattle.ioam_delay_counts.specs.declared.table.Row.{Row}
use Rattle.ioam_delay_counts.specs.declared.keys.WayKey.{WayKey}
use Rattle.ioam_delay_counts.specs.declared.passed.Passed.{Passed}
use Rattle.ioam_delay_lines.specs.Spaces.{next_count, ways_of, ways_up_to}

module _ (namespace traces : ℕ) (rows : List (Row WayKey Passed)) where
  -- where no way has a trace, or none is left, there are no lines
  pub ways_none : (left limit : ℕ) → next_count namespace limit rows ≡ 0 → ways_up_to namespace traces rows left limit ≡ []
  unfolding ways_up_to
  ways_none zero limit none = refl
  ways_none (suc left) limit none = cond-true _ _ _ (eq-eqb (next_count namespace limit rows) 0 none)

  pub ways_end : (limit : ℕ) → ways_up_to namespace traces rows 0 limit ≡ []
  unfolding ways_up_to
  ways_end limit = refl

  -- else those with the most come first
  pub ways_some : (left limit : ℕ) → 0 < next_count namespace limit rows → ways_up_to namespace traces rows (suc left) limit
      ≡ ways_of namespace traces (next_count namespace limit rows) rows ++ ways_up_to namespace traces rows left (next_count namespace limit rows - 1)
  unfolding ways_up_to
  ways_some left limit some = cond-false _ _ _ (ne_eqb (next_count namespace limit rows) 0 (λ none. absurd (omega (arith, some, none))))
