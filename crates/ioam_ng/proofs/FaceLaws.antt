-- The units in a second are a number of 64 bits.
use Rattle.std.proofs.Common.{◌≡◌, ℕ, zero, suc, ◌+◌, ◌-◌, ◌≤◌, ◌<◌, ◌^◌, arith, sym, subst}
use Rattle.std.proofs.Math.Nat.{pow-suc}
use Rattle.std.proofs.Math.Pow.{pow_mono}
use Rattle.std.proofs.lemmas.Nat.{pow_pos}

tens_le : (k r : ℕ) → r + k ≡ 18 → 10 ^ r ≤ 10 ^ 18
tens_le zero r same = let here : r ≡ 18 = omega arith in let Q : ℕ → Type 0 = λ n. 10 ^ n ≤ 10 ^ 18 in subst Q (sym here) (omega arith)
tens_le (suc k) r same = omega (arith, pow-suc 10 r, tens_le k (suc r) (omega arith))

pub tens_fit : (r : ℕ) → r ≤ 18 → 10 ^ r < 2 ^ 64
tens_fit r few = omega (arith, tens_le (18 - r) r (omega arith))

pub tens_some : (r : ℕ) → 0 < 10 ^ r
tens_some zero = omega arith
tens_some (suc r) = omega (arith, pow-suc 10 r, tens_some r)

pub twos_fit : (r : ℕ) → r ≤ 191 → 2 ^ (r - 128) < 2 ^ 64
twos_fit r few = omega (arith, pow_mono {i = r - 128} {j = 63} (omega arith))

pub twos_some : (r : ℕ) → 0 < 2 ^ (r - 128)
twos_some r = pow_pos (r - 128)
