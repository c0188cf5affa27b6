-- A look through an options header, one option after the other.
use Rattle.std.proofs.Common.{◌≡◌, ℕ, ◌<◌, List, [], ◌∷◌, ◌++◌, Bool, true, false, cond, ◌||◌, Option, Some, None, length, filter, slice_index, refl, sym, ap, ◌∙◌, arith}
use Rattle.std.specs.List.{find}
use Rattle.std.specs.Option.{option_or, option_map}
use Rattle.std.proofs.lemmas.List.Folds.{find-append, list_any-append}
use Rattle.std.proofs.lemmas.Grind.{common_steps}
use Rattle.std.proofs.lemmas.Bool.Decides.{nat_tests}
use Rattle.ioam_base.proofs.LeadsLaws.{Leads-push}
use Rattle.ioam_ip.specs.Options.{Item, OptionFits, option_end, item_at, ItemsUpTo, UnfitAt, is_option}
use Rattle.ioam_ip.specs.Findings.{is_ioam, has_ioam, is_limit, first_limit}
use Rattle.ioam_ip.specs.Scan.{IsFoundIn, Scans}
use Rattle.ioam_ip.specs.declared.scan.Findings.{Findings}
use Rattle.ioam_ip.specs.declared.scan.Scan.TheVariants.{Fills, Unfit}
use Rattle.ioam_ip.proofs.OptionsLaws.{unfit_not_filled}

-- the options up to this place were looked at, paddings too, and this was found
pub record Looked (head : List ℕ) (at : ℕ) (found : Findings) : Type 0 where
  pub items : List Item
  pub before : ItemsUpTo head items at
  pub is : IsFoundIn items found

-- the first limit of two parts is that of the first, or else of the second
pub first_limit-append : (xs ys : List Item) → first_limit (xs ++ ys) ≡ option_or (first_limit xs) (first_limit ys)
first_limit-append xs ys = rw (find-append is_limit xs ys) (joined (find is_limit xs) (find is_limit ys)) where
  joined : (o p : Option Item) → option_map (λ (item : Item). slice_index item.body 0) (option_or o p)
      ≡ option_or (option_map (λ (item : Item). slice_index item.body 0) o) (option_map (λ (item : Item). slice_index item.body 0) p)
  joined None p = refl
  joined (Some x) p = refl

-- a padding is neither
unmarked : (x : Item) → is_option x ≡ false → (is_ioam x ≡ false) × (is_limit x ≡ false)
unmarked x padding = (grind (arith, nat_tests), grind (arith, nat_tests))

has_ioam-cond : (b : Bool) (x : Item) (ys : List Item) → (b ≡ false → is_ioam x ≡ false)
    → has_ioam (cond b (x ∷ ys) ys) ≡ (is_ioam x || has_ioam ys)
has_ioam-cond true x ys not_there = refl
has_ioam-cond false x ys not_there = rw (not_there refl) refl

find-cond : (b : Bool) (x : Item) (ys : List Item) → (b ≡ false → is_limit x ≡ false)
    → find is_limit (cond b (x ∷ ys) ys) ≡ cond (is_limit x) (Some x) (find is_limit ys)
find-cond true x ys not_there = refl
find-cond false x ys not_there = rw (not_there refl) refl

pub has_ioam-filter : (xs : List Item) → has_ioam (filter is_option xs) ≡ has_ioam xs
has_ioam-filter [] = refl
has_ioam-filter (x ∷ xs) = has_ioam-cond (is_option x) x (filter is_option xs) (λ padding. (unmarked x padding).0)
    ∙ ap (λ b. is_ioam x || b) (has_ioam-filter xs)

find-filter : (xs : List Item) → find is_limit (filter is_option xs) ≡ find is_limit xs
find-filter [] = refl
find-filter (x ∷ xs) = find-cond (is_option x) x (filter is_option xs) (λ padding. (unmarked x padding).1)
    ∙ ap (λ o. cond (is_limit x) (Some x) o) (find-filter xs)

pub first_limit-filter : (xs : List Item) → first_limit (filter is_option xs) ≡ first_limit xs
first_limit-filter xs = ap (λ o. option_map (λ (item : Item). slice_index item.body 0) o) (find-filter xs)

ioam-push : (xs : List Item) (x : Item) (b c : Bool) → b ≡ has_ioam xs → c ≡ (b || is_ioam x) → c ≡ has_ioam (xs ++ x ∷ [])
ioam-push xs x b c was now = grind (arith, common_steps, list_any-append is_ioam xs (x ∷ []))

limit-push : (xs : List Item) (x : Item) (b c : Option ℕ) → b ≡ first_limit xs → c ≡ option_or b (first_limit (x ∷ []))
    → c ≡ first_limit (xs ++ x ∷ [])
limit-push xs x b c was now = now ∙ ap (λ o. option_or o (first_limit (x ∷ []))) was ∙ sym (first_limit-append xs (x ∷ []))

-- one option more
pub Looked-push : (head : List ℕ) (at : ℕ) (was now : Findings) → Looked head at was → OptionFits head at
    → now.ioam ≡ (was.ioam || is_ioam (item_at head at)) → now.limit ≡ option_or was.limit (first_limit (item_at head at ∷ []))
    → Looked head (option_end head at) now
Looked-push head at was now looked fits ioam limit = record {
  items = looked.items ++ item_at head at ∷ [];
  before = Leads-push (OptionFits head) (item_at head) (option_end head) 2 looked.items at looked.before fits;
  is = record {
    ioam = ioam-push looked.items (item_at head at) was.ioam now.ioam looked.is.ioam ioam;
    limit = limit-push looked.items (item_at head at) was.limit now.limit looked.is.limit limit;
  };
}

-- all of them
pub Looked-all : (head : List ℕ) (found : Findings) → Looked head (length head) found → Scans head (Fills found)
Looked-all head found looked = (
  filter is_option looked.items,
  record { items = looked.items; fill = looked.before; options = refl },
  record { ioam = looked.is.ioam ∙ sym (has_ioam-filter looked.items); limit = looked.is.limit ∙ sym (first_limit-filter looked.items) },
)

-- one that doesn't fit
pub Looked-unfit : (head : List ℕ) (at : ℕ) (found : Findings) → Looked head at found → at < length head → length head < option_end head at
    → Scans head (Unfit at)
Looked-unfit head at found looked within unfit =
    let here : UnfitAt head at = record { items = looked.items; before = looked.before; within = within; unfit = unfit } in
    (here, unfit_not_filled head at here)
