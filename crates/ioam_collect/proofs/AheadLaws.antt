-- How many items are read ahead.
use Rattle.std.proofs.Common.{◌≡◌, ◌≤◌, ◌+◌, ◌*◌, ℕ, min, sym, subst, arith}
use Rattle.std.proofs.Math.Nat.{min-le_left, mul-le-mul_right}

-- one more of each of so many
pub one_more : (count found at n new old most : ℕ) → count ≤ at * old → found ≤ old → new ≡ old → n ≡ min (count + found) most → n ≤ (at + 1) * new
one_more count found at n new old most so_far few same is =
    let le : n ≤ count + found = subst (λ k. k ≤ count + found) (sym is) (min-le_left (count + found) most) in
    let sum : (at + 1) * old ≡ at * old + old = omega arith in
    let all : n ≤ (at + 1) * old = omega (arith, le, so_far, few, sum) in
    subst (λ k. n ≤ (at + 1) * k) (sym same) all

-- no more than after the last
pub at_most : (count at most old new : ℕ) → count ≤ at * old → at ≤ most → old ≡ new → count ≤ most * new
at_most count at most old new so_far le same =
    let more : at * old ≤ most * old = mul-le-mul_right old le in
    let all : count ≤ most * old = omega (arith, so_far, more) in
    subst (λ k. count ≤ most * k) same all
