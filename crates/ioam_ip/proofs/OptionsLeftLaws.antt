-- Laws of the options that an iterator has left.
use Rattle.std.proofs.Common.{◌≡◌, ℕ, zero, suc, ◌+◌, ◌<◌, ◌≤◌, List, [], ◌∷◌, Bool, true, false, cond, leb, ltb, length, filter, slice_index, refl, sym, ap, ◌∙◌, arith}
use Rattle.std.proofs.lemmas.Bool.Decides.{nat_tests}
use Rattle.ioam_base.specs.Leads.{Leads}
use Rattle.ioam_ip.specs.Options.{Item, OptionFits, option_end, item_at, AreOptions, is_option}
use Rattle.ioam_ip.specs.OptionsLeft.{options_from}
use Rattle.ioam_ip.proofs.OptionsLaws.{option_size-pos}

past : (b : Bool) (xs : List Item) → b ≡ false → cond b xs [] ≡ []
past true xs is = absurd (cc is)
past false xs is = refl

fit : (b : Bool) (xs : List Item) → b ≡ true → cond b xs [] ≡ xs
fit true xs is = refl
fit false xs is = absurd (cc is)

too_far : (head : List ℕ) (at : ℕ) → length head < option_end head at → leb (option_end head at) (length head) ≡ false
too_far head at unfit = grind (arith, nat_tests)

near : (head : List ℕ) (at : ℕ) → OptionFits head at → leb (option_end head at) (length head) ≡ true
near head at fits = grind (arith, nat_tests)

-- nothing is left where an option doesn't fit
pub unfit_from : (steps : ℕ) (head : List ℕ) (at : ℕ) → length head < option_end head at → options_from steps head at ≡ []
unfit_from zero head at unfit = refl
unfit_from (suc steps) head at unfit = past (leb (option_end head at) (length head))
    (cond (is_option (item_at head at)) (item_at head at ∷ options_from steps head (option_end head at)) (options_from steps head (option_end head at)))
    (too_far head at unfit)

-- more steps than the octets that are left change nothing
steps-more : (steps : ℕ) (head : List ℕ) (at : ℕ) → length head ≤ steps + at → options_from (suc steps) head at ≡ options_from steps head at
steps-more zero head at enough = unfit_from 1 head at (omega (arith, option_size-pos head at))
steps-more (suc steps) head at enough =
    ap (λ others. cond (leb (option_end head at) (length head)) (cond (is_option (item_at head at)) (item_at head at ∷ others) others) [])
    (steps-more steps head (option_end head at) (omega (arith, option_size-pos head at)))

-- the options from a place on, with one taken off
pub next_from : (head : List ℕ) (at : ℕ) → OptionFits head at
    → options_from (length head) head at
    ≡ cond (is_option (item_at head at)) (item_at head at ∷ options_from (length head) head (option_end head at)) (options_from (length head) head (option_end head at))
next_from head at fits =
    sym (steps-more (length head) head at (omega arith))
    ∙ fit (leb (option_end head at) (length head))
    (cond (is_option (item_at head at)) (item_at head at ∷ options_from (length head) head (option_end head at)) (options_from (length head) head (option_end head at)))
    (near head at fits)

taken : (b : Bool) (x : Item) (xs : List Item) → b ≡ true → cond b (x ∷ xs) xs ≡ x ∷ xs
taken true x xs is = refl
taken false x xs is = absurd (cc is)

skipped : (b : Bool) (x : Item) (xs : List Item) → b ≡ false → cond b (x ∷ xs) xs ≡ xs
skipped true x xs is = absurd (cc is)
skipped false x xs is = refl

pub option_from : (head : List ℕ) (at : ℕ) → OptionFits head at → is_option (item_at head at) ≡ true
    → options_from (length head) head at ≡ item_at head at ∷ options_from (length head) head (option_end head at)
option_from head at fits option = next_from head at fits
    ∙ taken (is_option (item_at head at)) (item_at head at) (options_from (length head) head (option_end head at)) option

pub padding_from : (head : List ℕ) (at : ℕ) → OptionFits head at → is_option (item_at head at) ≡ false
    → options_from (length head) head at ≡ options_from (length head) head (option_end head at)
padding_from head at fits padding = next_from head at fits
    ∙ skipped (is_option (item_at head at)) (item_at head at) (options_from (length head) head (option_end head at)) padding

open_leads : (head : List ℕ) (at : ℕ) (items : List Item) → Leads (OptionFits head) (item_at head) (option_end head) at items (length head)
    → options_from (length head) head at ≡ filter is_option items
open_leads head at [] here = unfit_from (length head) head at (omega (arith, option_size-pos head at, here))
open_leads head at (x ∷ xs) leads =
    next_from head at leads.0
    ∙ ap (λ others. cond (is_option (item_at head at)) (item_at head at ∷ others) others) (open_leads head (option_end head at) xs leads.2)
    ∙ ap (λ item. cond (is_option item) (item ∷ filter is_option xs) (filter is_option xs)) (sym leads.1)

-- the options from the first place on are those of the header
pub all_from : (head : List ℕ) (os : List Item) → AreOptions head os → options_from (length head) head 2 ≡ os
all_from head os are = open_leads head 2 are.items are.fill ∙ sym are.options

-- one step of a walk over the options, from place to place
pub step_option : (head it : List ℕ) (at end : ℕ) (item : Item) → it ≡ head → OptionFits head at → 1 < slice_index head at → end ≡ option_end head at
    → item ≡ item_at head at → options_from (length head) head at ≡ item ∷ options_from (length it) it end
step_option head it at end item same fits option is_end is_item =
    option_from head at fits (above (slice_index head at) option)
    ∙ (λ i. sym is_item i ∷ options_from (length (sym same i)) (sym same i) (sym is_end i)) where
      above : (n : ℕ) → 1 < n → ltb 1 n ≡ true
      above n more = grind (arith, nat_tests)

pub step_padding : (head : List ℕ) (at end : ℕ) → OptionFits head at → slice_index head at ≤ 1 → end ≡ option_end head at
    → options_from (length head) head end ≡ options_from (length head) head at
step_padding head at end fits padding is_end =
    ap (λ n. options_from (length head) head n) is_end ∙ sym (padding_from head at fits (below (slice_index head at) padding)) where
      below : (n : ℕ) → n ≤ 1 → ltb 1 n ≡ false
      below n less = grind (arith, nat_tests)
