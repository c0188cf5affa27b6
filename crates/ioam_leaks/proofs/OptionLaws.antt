-- A look for an IOAM option, one option of a header after the other.
use Rattle.std.proofs.Common.{ℕ, ◌+◌, ◌<◌, ◌≤◌, Bool, true, false, cond, List, [], ◌∷◌, length, slice_index, eqb, refl, sym, subst, arith}
use Rattle.ioam_base.specs.Leads.{Leads}
use Rattle.ioam_ip.specs.Options.{Item, OptionFits, item_at, option_end}
use Rattle.ioam_leaks.specs.Shows.{IsThere, Counts, HasOption}
use Rattle.ioam_leaks.specs.declared.option.Part.{Part}
use Rattle.ioam_leaks.specs.declared.option.Part.TheVariants.{Whole, Begun}

-- an option has one octet at least
end_by : (b : Bool) (at more : ℕ) → at < at + cond b 1 (more + 2)
end_by true at more = omega arith
end_by false at more = omega arith

pub end_further : (header : List ℕ) (at : ℕ) → at < option_end header at
end_further header at = end_by (eqb (slice_index header at) 0) at (slice_index header (at + 1))

fits_within : (header : List ℕ) (at : ℕ) → OptionFits header at → at < length header
fits_within header at fits = omega (arith, fits, end_further header at)

there_within : (part : Part) (header : List ℕ) (at : ℕ) → IsThere part header at → at < length header
there_within Whole header at there = fits_within header at there
there_within Begun header at there = there

module _ (part : Part) (header : List ℕ) where
  pub HasOption-here : (at : ℕ) → Counts part header at → HasOption part header at
  HasOption-here at counts = record { items = []; at = at; before = refl; counts = counts }

  -- what the options show behind a whole one
  pub HasOption-on : (at : ℕ) → OptionFits header at → HasOption part header (option_end header at) → HasOption part header at
  HasOption-on at fits has = record { items = item_at header at ∷ has.items; at = has.at; before = (fits, refl, has.before); counts = has.counts }

  on_by : (from : ℕ) (items : List Item) (at : ℕ) → Leads (OptionFits header) (item_at header) (option_end header) from items at
      → Counts part header at → (Counts part header from → ⊥) → HasOption part header (option_end header from)
  on_by from [] at here counts none = absurd (none (subst (λ (n : ℕ). Counts part header n) (sym here) counts))
  on_by from (x ∷ items) at leads counts none = record { items = items; at = at; before = leads.2; counts = counts }

  -- where none stands here, one stands behind
  pub HasOption-next : (from : ℕ) → (Counts part header from → ⊥) → HasOption part header from → HasOption part header (option_end header from)
  HasOption-next from none has = on_by from has.items has.at has.before has.counts none

  last_by : (from : ℕ) (items : List Item) (at : ℕ) → Leads (OptionFits header) (item_at header) (option_end header) from items at
      → Counts part header at → (Counts part header from → ⊥) → (OptionFits header from → ⊥) → ⊥
  last_by from [] at here counts none unfit = none (subst (λ (n : ℕ). Counts part header n) (sym here) counts)
  last_by from (x ∷ items) at leads counts none unfit = unfit leads.0

  -- and none behind one that doesn't fit
  pub HasOption-last : (from : ℕ) → (Counts part header from → ⊥) → (OptionFits header from → ⊥) → HasOption part header from → ⊥
  HasOption-last from none unfit has = last_by from has.items has.at has.before has.counts none unfit

  -- nor past the end
  pub HasOption-past : (from : ℕ) → length header ≤ from → HasOption part header from → ⊥
  HasOption-past from past has = HasOption-last from
      (λ counts. absurd (omega (arith, past, there_within part header from counts.0)))
      (λ fits. absurd (omega (arith, past, fits_within header from fits))) has
