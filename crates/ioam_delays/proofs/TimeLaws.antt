-- The delay from one time to another, by how far the other is ahead.
use Rattle.std.proofs.Common.{◌≡◌, ℕ, ◌+◌, ◌-◌, ◌*◌, ◌/◌, ◌%◌, ◌<◌, ◌≤◌, ◌⊎◌, inl, inr, Bool, true, false, cond, ℤ, pos, negsuc, refl, sym, arith}
use Rattle.std.specs.Prelude.{nat_lt}
use Rattle.std.proofs.lemmas.Bool.Decides.{nat_tests}
use Rattle.std.proofs.lemmas.Int.{ints}
use Rattle.std.proofs.lemmas.Nat.{div-add-mod', mod_below}
use Rattle.ioam_delays.specs.Times.{IsDelay, ahead_of, delay_of}

-- how far a time is ahead of another, modulo a number
abbrev pub IsAhead : ℕ → ℕ → ℕ → ℕ → Type 0
IsAhead modulus from to ahead = ((to < from) × (ahead ≡ to + (modulus - from))) ⊎ ((from ≤ to) × (ahead ≡ to - from))

-- less than half the modulus ahead
delay_ahead : (m f t fq tq fr tr a : ℕ) (d : ℤ) → fr < m → tr < m → f ≡ fq * m + fr → t ≡ tq * m + tr → IsAhead m fr tr a → 2 * a < m → d ≡ pos a → IsDelay m f t d
delay_ahead m f t fq tq fr tr a d below_f below_t f_is t_is (inl (before, is)) near d_is =
    record { behind = 1 + fq; ahead = tq; is = omega (arith, ints); least = omega (arith, ints); most = omega (arith, ints) }
delay_ahead m f t fq tq fr tr a d below_f below_t f_is t_is (inr (behind, is)) near d_is =
    record { behind = fq; ahead = tq; is = omega (arith, ints); least = omega (arith, ints); most = omega (arith, ints) }

-- half the modulus ahead or more
delay_behind : (m f t fq tq fr tr a : ℕ) (d : ℤ) → fr < m → tr < m → f ≡ fq * m + fr → t ≡ tq * m + tr → IsAhead m fr tr a → m ≤ 2 * a → d ≡ negsuc (m - a - 1) → IsDelay m f t d
delay_behind m f t fq tq fr tr a d below_f below_t f_is t_is (inl (before, is)) far d_is =
    record { behind = fq; ahead = tq; is = omega (arith, ints); least = omega (arith, ints); most = omega (arith, ints) }
delay_behind m f t fq tq fr tr a d below_f below_t f_is t_is (inr (behind, is)) far d_is =
    record { behind = fq; ahead = 1 + tq; is = omega (arith, ints); least = omega (arith, ints); most = omega (arith, ints) }

ahead_by : (m f t : ℕ) (b : Bool) → nat_lt t f ≡ b → IsAhead m f t (cond b (t + (m - f)) (t - f))
ahead_by m f t true is = inl (grind (arith, nat_tests), refl)
ahead_by m f t false is = inr (grind (arith, nat_tests), refl)

ahead_is : (m f t : ℕ) → IsAhead m f t (ahead_of m f t)
ahead_is m f t = ahead_by m f t (nat_lt t f) refl

-- the function gives the delay
pub delay_is : (m f t : ℕ) → 0 < m → IsDelay m f t (delay_of m f t)
delay_is m f t some = by_half (nat_lt (2 * ahead_of m (f % m) (t % m)) m) refl where
  f_is : f ≡ f / m * m + f % m
  f_is = sym (div-add-mod' f m)

  t_is : t ≡ t / m * m + t % m
  t_is = sym (div-add-mod' t m)

  by_half : (b : Bool) → nat_lt (2 * ahead_of m (f % m) (t % m)) m ≡ b → IsDelay m f t (cond b (pos (ahead_of m (f % m) (t % m))) (negsuc (m - ahead_of m (f % m) (t % m) - 1)))
  by_half true is = delay_ahead m f t (f / m) (t / m) (f % m) (t % m) (ahead_of m (f % m) (t % m)) _ (mod_below f m some) (mod_below t m some) f_is t_is
      (ahead_is m (f % m) (t % m)) (grind (arith, nat_tests)) refl
  by_half false is = delay_behind m f t (f / m) (t / m) (f % m) (t % m) (ahead_of m (f % m) (t % m)) _ (mod_below f m some) (mod_below t m some) f_is t_is
      (ahead_is m (f % m) (t % m)) (grind (arith, nat_tests)) refl
