-- The buckets of numbers: which one a number is in, and that they stand one after the other.
use Rattle.std.proofs.Common.{◌≡◌, ℕ, ◌+◌, ◌-◌, ◌*◌, ◌/◌, ◌%◌, ◌<◌, ◌≤◌, ◌^◌, ◌⊎◌, inl, inr, ◌∙◌, ap, subst, arith}
use Rattle.std.proofs.Math.Nat.{pow-le-pow_right}
use Rattle.std.proofs.lemmas.Bool.{cases_lt}
use Rattle.std.proofs.lemmas.Nat.{pow_pos, pow-add, le-div, div_below, shr_split, mod_below, mul-le, one_shl, shl_whole}
use Rattle.ioam_delays.specs.Buckets.{shift, width, least_of, greatest_of}

-- a number from 64 on has 7 bits or more
pub seven_bits : (n e : ℕ) → 64 ≤ n → n < 2 * 2 ^ e → 6 ≤ e
seven_bits n e from below = by_size (cases_lt e 6) where
  by_size : (e < 6) ⊎ (6 ≤ e) → 6 ≤ e
  by_size (inl few) = absurd (omega (arith, pow-le-pow_right {n = 2} (omega arith) {i = e} {j = 5} (omega arith)))
  by_size (inr some) = some

-- one below 2^63 has 63 at most
pub few_bits : (n e : ℕ) → n < 2 ^ 63 → 2 ^ e ≤ n → e < 63
few_bits n e below from = by_size (cases_lt e 63) where
  by_size : (e < 63) ⊎ (63 ≤ e) → e < 63
  by_size (inl few) = few
  by_size (inr many) = absurd (omega (arith, pow-le-pow_right {n = 2} (omega arith) {i = 63} {j = e} many))

-- a power of two from 2^5 on
five_more : (e : ℕ) → 5 ≤ e → 2 ^ e ≡ 32 * 2 ^ (e - 5)
five_more e some = ap (λ (k : ℕ). 2 ^ k) (omega arith) ∙ pow-add 2 5 (e - 5)

-- the first six bits of a number
pub first_bits : (n e : ℕ) → 5 ≤ e → 2 ^ e ≤ n → n < 2 * 2 ^ e → (32 ≤ n / 2 ^ (e - 5)) × (n / 2 ^ (e - 5) < 64)
first_bits n e some from below = (
  le-div 32 n (2 ^ (e - 5)) (pow_pos (e - 5)) (omega (arith, five_more e some)),
  div_below n (2 ^ (e - 5)) 64 (pow_pos (e - 5)) (omega (arith, five_more e some)),
)

module _ (n s q b : ℕ) (is : q ≡ n / 2 ^ s) (from : 32 ≤ q) (below : q < 64) (b_is : b ≡ 32 * s + q) where
  shift_is : s ≡ shift b
  shift_is = omega arith

  first_is : (b - 32 * s) * 2 ^ s ≡ n / 2 ^ s * 2 ^ s
  first_is = ap (λ (k : ℕ). k * 2 ^ s) (omega arith)

  -- they are those of the least number of its bucket
  pub in_least : least_of b ≤ n
  in_least =
      let P : ℕ → Type 0 = λ k. (b - 32 * k) * 2 ^ k ≤ n in
      subst P shift_is (omega (arith, first_is, shr_split n s))

  pub in_greatest : n ≤ greatest_of b
  in_greatest =
      let P : ℕ → Type 0 = λ k. n ≤ (b - 32 * k) * 2 ^ k + (2 ^ k - 1) in
      subst P shift_is (omega (arith, first_is, shr_split n s, mod_below n (2 ^ s) (pow_pos s)))

-- the numbers of a bucket, by how far they are shifted
module _ (b s : ℕ) (is : s ≡ b / 32 - 1) (within : b ≤ 2048) where
  pub least_whole : (b - 32 * s) * 2 ^ s % 2 ^ 128 ≡ least_of b
  least_whole = shl_whole (b - 32 * s) 6 s 128 (omega arith) (omega arith) ∙ ap (λ (k : ℕ). (b - 32 * k) * 2 ^ k) is

  pub width_whole : 1 * 2 ^ s % 2 ^ 128 ≡ width b
  width_whole = one_shl s 128 (omega arith) ∙ ap (λ (k : ℕ). 2 ^ k) is

-- all of them are below 2^69
pub bucket_ends : (b : ℕ) → b ≤ 2048 → least_of b + width b ≤ 2 ^ 69
bucket_ends b within = omega (arith, mul-le (b - 32 * shift b + 1) (2 ^ shift b) 64 (2 ^ 63) (omega arith) (pow-le-pow_right {n = 2} (omega arith) {i = shift b} {j = 63} (omega arith)))

pub wide : (b : ℕ) → 1 ≤ width b
wide b = omega (arith, pow_pos (shift b))

-- the bucket after another begins where it ends
pub next_least : (b : ℕ) → least_of (b + 1) ≡ least_of b + width b
next_least b = by_shift (cases_lt (shift (b + 1)) (shift b + 1)) where
  by_shift : (shift (b + 1) < shift b + 1) ⊎ (shift b + 1 ≤ shift (b + 1)) → least_of (b + 1) ≡ least_of b + width b
  by_shift (inl same) =
      let here : shift (b + 1) ≡ shift b = omega arith in
      ap (λ (k : ℕ). (b + 1 - 32 * k) * 2 ^ k) here ∙ ap (λ (k : ℕ). k * 2 ^ shift b) (the_next (omega arith)) ∙ omega arith where
        the_next : 32 * shift b ≤ b → b + 1 - 32 * shift b ≡ (b - 32 * shift b) + 1
        the_next some = omega arith
  by_shift (inr more) =
      let here : shift (b + 1) ≡ shift b + 1 = omega arith in
      ap (λ (k : ℕ). (b + 1 - 32 * k) * 2 ^ k) here
      ∙ ap (λ (k : ℕ). k * 2 ^ (shift b + 1)) (the_first (omega arith))
      ∙ omega (arith, pow-add 2 (shift b) 1, the_last (omega arith)) where
        the_first : b + 1 ≡ 32 * (shift b + 2) → b + 1 - 32 * (shift b + 1) ≡ 32
        the_first is = omega arith

        the_last : b + 1 ≡ 32 * (shift b + 2) → (b - 32 * shift b) * 2 ^ shift b ≡ 63 * 2 ^ shift b
        the_last is = ap (λ (k : ℕ). k * 2 ^ shift b) (omega arith)

-- a bucket is no wider than a 32nd of its least number, and one more
pub spread : (b : ℕ) → 32 * (width b - 1) ≤ least_of b
spread b = by_shift (cases_lt b 64) where
  by_shift : (b < 64) ⊎ (64 ≤ b) → 32 * (width b - 1) ≤ least_of b
  by_shift (inl few) = let one : 2 ^ shift b ≡ 1 = ap (λ (k : ℕ). 2 ^ k) none in omega arith where
    none : shift b ≡ 0
    none = omega arith
  by_shift (inr some) = omega (arith, mul-le 32 (width b) (b - 32 * shift b) (width b) (omega arith) (omega arith))
