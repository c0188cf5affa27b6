-- Laws of the options of one header.
use Rattle.std.proofs.Common.{◌≡◌, ℕ, ◌+◌, ◌≤◌, List, Bool, true, false, cond, length, slice_index, filter, eqb, sym, ap, ◌∙◌, arith}
use Rattle.ioam_base.proofs.LeadsLaws.{Leads-unique}
use Rattle.ioam_ip.specs.Options.{Item, OptionFits, option_end, option_size, item_at, AreOptions, IsFilled, UnfitAt, is_option}

one_or_more : (b : Bool) (n : ℕ) → 1 ≤ cond b 1 (n + 2)
one_or_more true n = omega arith
one_or_more false n = omega arith

-- an option has one octet or more
pub option_size-pos : (head : List ℕ) (at : ℕ) → 1 ≤ option_size head at
option_size-pos head at = one_or_more (eqb (slice_index head at) 0) (slice_index head (at + 1))

-- none fits at the end
full : (head : List ℕ) → OptionFits head (length head) → ⊥
full head fits = absurd (omega (arith, fits, option_size-pos head (length head)))

-- a header has one list of options
pub AreOptions-unique : (head : List ℕ) (os others : List Item) → AreOptions head os → AreOptions head others → os ≡ others
AreOptions-unique head os others a b =
    let same : (a.items ≡ b.items) × (length head ≡ length head) =
    Leads-unique (OptionFits head) (item_at head) (option_end head) 2 a.items (length head) b.items (length head) a.fill (full head) b.fill (full head) in
    a.options ∙ ap (λ items. filter is_option items) same.0 ∙ sym b.options

-- where an option doesn't fit, the header isn't filled
pub unfit_not_filled : (head : List ℕ) (at : ℕ) → UnfitAt head at → IsFilled head → ⊥
unfit_not_filled head at unfit filled =
    let same : (unfit.items ≡ filled.1.items) × (at ≡ length head) =
    Leads-unique (OptionFits head) (item_at head) (option_end head) 2 unfit.items at filled.1.items (length head) unfit.before (λ fits. absurd (omega (arith, unfit.unfit, fits))) filled.1.fill (full head) in
    absurd (omega (arith, same.1, unfit.within))
