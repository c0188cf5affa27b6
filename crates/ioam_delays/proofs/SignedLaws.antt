-- The buckets of delays stand one after the other, and a delay is in one of them.
use Rattle.std.proofs.Common.{◌≡◌, ℕ, zero, suc, ◌+◌, ◌-◌, ◌<◌, ◌≤◌, ◌⊎◌, inl, inr, Bool, true, false, cond, ℤ, pos, negsuc, ◌+ℤ◌, ◌≤ℤ◌, ◌<ℤ◌, List, [], ◌∷◌, ◌++◌, length, get_or, set, refl, sym, ◌∙◌, ap, subst, arith}
use Rattle.std.specs.Prelude.{nat_lt, int_lt}
use Rattle.std.proofs.lemmas.Bool.{cases_lt, cases_order}
use Rattle.std.proofs.lemmas.Bool.Decides.{nat_tests}
use Rattle.std.proofs.lemmas.Int.{ints}
use Rattle.std.proofs.lemmas.List.{get_or-set_other, get_or-set_same}
use Rattle.std.proofs.lemmas.List.Sums.{sum_by_push}
use Rattle.ioam_delays.specs.Buckets.{IsWithin, greatest_of, high, is_within, least_of, low}
use Rattle.ioam_delays.specs.Counters.{count_within}
use Rattle.ioam_delays.proofs.BucketLaws.{next_least, wide}

-- one where a test is passed
abbrev pub one : Bool → ℕ
one passed = cond passed 1 0

below_half : (b : ℕ) → b < 2048 → nat_lt b 2048 ≡ true
below_half b h = grind (arith, nat_tests)

from_half : (b : ℕ) → 2048 ≤ b → nat_lt b 2048 ≡ false
from_half b h = grind (arith, nat_tests)

pub low_below : (b : ℕ) → b < 2048 → low b ≡ negsuc (greatest_of (2047 - b))
low_below b h = ap (λ (t : Bool). cond t (negsuc (greatest_of (2047 - b))) (pos (least_of (b - 2048)))) (below_half b h)

pub low_from : (b : ℕ) → 2048 ≤ b → low b ≡ pos (least_of (b - 2048))
low_from b h = ap (λ (t : Bool). cond t (negsuc (greatest_of (2047 - b))) (pos (least_of (b - 2048)))) (from_half b h)

pub high_below : (b : ℕ) → b < 2048 → high b ≡ negsuc (least_of (2047 - b))
high_below b h = ap (λ (t : Bool). cond t (negsuc (least_of (2047 - b))) (pos (greatest_of (b - 2048)))) (below_half b h)

pub high_from : (b : ℕ) → 2048 ≤ b → high b ≡ pos (greatest_of (b - 2048))
high_from b h = ap (λ (t : Bool). cond t (negsuc (least_of (2047 - b))) (pos (greatest_of (b - 2048)))) (from_half b h)

-- a bucket has a value
pub ordered : (b : ℕ) → low b ≤ℤ high b
ordered b = by_half (cases_lt b 2048) where
  by_half : (b < 2048) ⊎ (2048 ≤ b) → low b ≤ℤ high b
  by_half (inl h) = omega (arith, ints, low_below b h, high_below b h)
  by_half (inr h) = omega (arith, ints, low_from b h, high_from b h)

-- the one after it begins where it ends
pub next_low : (b : ℕ) → low (b + 1) ≡ (high b +ℤ pos 1)
next_low b = by_half (cases_lt b 2048) (cases_lt (b + 1) 2048) where
  by_half : (b < 2048) ⊎ (2048 ≤ b) → (b + 1 < 2048) ⊎ (2048 ≤ b + 1) → low (b + 1) ≡ (high b +ℤ pos 1)
  by_half (inl h) (inl more) =
      let before : 2047 - (b + 1) + 1 ≡ 2047 - b = omega arith in
      omega (arith, ints, low_below (b + 1) more, high_below b h, next_least (2047 - (b + 1)), ap least_of before, wide (2047 - (b + 1)))
  by_half (inl h) (inr last) =
      let is : b ≡ 2047 = omega arith in
      let P : ℕ → Type 0 = λ (k : ℕ). low (k + 1) ≡ (high k +ℤ pos 1) in
      subst P (sym is) refl
  by_half (inr h) (inl few) = absurd (omega arith)
  by_half (inr h) (inr more) =
      let after : b - 2048 + 1 ≡ b + 1 - 2048 = omega arith in
      omega (arith, ints, low_from (b + 1) more, high_from b h, next_least (b - 2048), ap least_of after, wide (b - 2048))

-- and those after it lie higher
pub apart : (i n : ℕ) → high i <ℤ low (i + 1 + n)
apart i zero = omega (arith, ints, next_low i, ap low (the_first i)) where
  the_first : (i : ℕ) → i + 1 + 0 ≡ i + 1
  the_first i = omega arith
apart i (suc n) = omega (arith, ints, apart i n, ordered (i + 1 + n), next_low (i + 1 + n), ap low (the_next i n)) where
  the_next : (i n : ℕ) → i + 1 + suc n ≡ i + 1 + n + 1
  the_next i n = omega arith

pub apart_by : (i j : ℕ) → i < j → high i <ℤ low j
apart_by i j h = let is : i + 1 + (j - (i + 1)) ≡ j = omega arith in subst (λ (k : ℕ). high i <ℤ low k) is (apart i (j - (i + 1)))

-- a delay is in no other bucket
pub within_yes : (b : ℕ) (d : ℤ) → IsWithin b d → is_within b d ≡ true
within_yes b d h = grind (arith, ints, h.0, h.1)

pub within_no : (b i : ℕ) (d : ℤ) → IsWithin b d → (i ≡ b → ⊥) → is_within i d ≡ false
within_no b i d h other = by_order (cases_order i b) where
  by_order : (i ≡ b) ⊎ ((i < b) ⊎ (b < i)) → is_within i d ≡ false
  by_order (inl same) = absurd (other same)
  by_order (inr (inl before)) = let far : high i <ℤ low b = apart_by i b before in let from : low b ≤ℤ d = h.0 in grind (arith, ints)
  by_order (inr (inr after)) = let far : high b <ℤ low i = apart_by b i after in let to : d ≤ℤ high b = h.1 in grind (arith, ints)

-- One delay more: its bucket counts it, and no other does.
pub buckets_more : (counts : List ℕ) (ds : List ℤ) (d : ℤ) (b n : ℕ) → length counts ≡ 4096 → b < 4096 → IsWithin b d
    → ((k : ℕ) → k < 4096 → get_or counts k 0 ≡ count_within k ds) → n ≡ get_or counts b 0 + 1
    → (k : ℕ) → k < 4096 → get_or (set counts b n) k 0 ≡ count_within k (ds ++ d ∷ [])
buckets_more counts ds d b n sized exists within are is k below = by_order (cases_order k b) where
  other : (k ≡ b → ⊥) → get_or (set counts b n) k 0 ≡ count_within k (ds ++ d ∷ [])
  other apart = get_or-set_other counts b k n 0 apart ∙ omega (arith, are k below, sum_by_push (λ (x : ℤ). cond (is_within k x) 1 0) ds d, ap one (within_no b k d within apart))

  by_order : (k ≡ b) ⊎ ((k < b) ⊎ (b < k)) → get_or (set counts b n) k 0 ≡ count_within k (ds ++ d ∷ [])
  by_order (inl same) =
      let P : ℕ → Type 0 = λ j. get_or (set counts b n) j 0 ≡ count_within j (ds ++ d ∷ []) in
      subst P (sym same)
      (get_or-set_same counts b n 0 (omega arith) ∙ omega (
        arith,
        is,
        are b exists,
        sum_by_push (λ (x : ℤ). cond (is_within b x) 1 0) ds d,
        ap one (within_yes b d within),
      ))
  by_order (inr (inl before)) = other (omega arith)
  by_order (inr (inr after)) = other (omega arith)

-- a delay is below a bucket, above it, or in it
pub below_not_within : (i : ℕ) (d : ℤ) → d <ℤ low i → is_within i d ≡ false
below_not_within i d h = grind (arith, ints)

pub above_not_within : (i : ℕ) (d : ℤ) → high i <ℤ d → is_within i d ≡ false
above_not_within i d h = grind (arith, ints)

pub lt_yes : (a b : ℤ) → a <ℤ b → int_lt a b ≡ true
lt_yes a b h = grind (arith, ints)

pub lt_no : (a b : ℤ) → b ≤ℤ a → int_lt a b ≡ false
lt_no a b h = grind (arith, ints)
