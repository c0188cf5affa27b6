-- Laws of the guess at the sample of a time.
use Rattle.std.proofs.Common.{◌≡◌, ℕ, ◌+◌, ◌<◌, ◌≤◌, Bool, true, false, nat_le, nat_lt, ◌&&◌, List, length, get_or, slice_get, arith, refl, ap, sym, subst, ◌∙◌, ⊎_elim}
use Rattle.std.specs.Option.{option_map_or}
use Rattle.std.proofs.lemmas.Bool.{cases_eq, leb-true, ltb-true, le-leb, lt-leb}
use Rattle.std.proofs.lemmas.Option.{slice_get-get_or}
use Rattle.ioam_clock.specs.declared.sample.Sample.{Sample}
use Rattle.ioam_clock.specs.Samples.{Rise, IsCut}
use Rattle.ioam_clock.specs.Guess.{is_in_force}

both_on : (b c : Bool) → (b && c) ≡ true → (b ≡ true) × (c ≡ true)
both_on true c on = (refl, on)
both_on false c on = cc

not_after : (xs : List Sample) (time at : ℕ) (d : Sample) → at < length xs → option_map_or (λ (s : Sample). nat_le s.time time) (slice_get xs at) false ≡ true
    → (get_or xs at d).time ≤ time
not_after xs time at d lt on = leb-true _ _ (sym (ap (λ o. option_map_or (λ (s : Sample). nat_le s.time time) o false) (slice_get-get_or xs at d lt)) ∙ on)

is_after : (xs : List Sample) (time at : ℕ) (d : Sample) → at < length xs → option_map_or (λ (s : Sample). nat_lt time s.time) (slice_get xs at) true ≡ true
    → time < (get_or xs at d).time
is_after xs time at d lt on = ltb-true _ _ (sym (ap (λ o. option_map_or (λ (s : Sample). nat_lt time s.time) o true) (slice_get-get_or xs at d lt)) ∙ on)

-- where the times rise, those up to the one in force aren't after the time, and those behind it are
pub cut_in_force : (xs : List Sample) (time at : ℕ) → Rise xs → at < length xs → is_in_force xs time at ≡ true → IsCut xs time (at + 1)
cut_in_force xs time at rise lt on = (
  λ k d low high. le-leb _ _ (⊎_elim
      (λ same. omega (arith, ap (λ i. (get_or xs i d).time) same, here d))
      (λ other. omega (arith, rise k at d (omega arith) lt, here d))
      (cases_eq k at)),
  λ k d low high. lt-leb _ _ (⊎_elim
      (λ same. omega (arith, ap (λ i. (get_or xs i d).time) same, next d (omega arith)))
      (λ other. omega (arith, rise (at + 1) k d (omega arith) high, next d (omega arith)))
      (cases_eq k (at + 1))),
) where
  both : (option_map_or (λ (s : Sample). nat_le s.time time) (slice_get xs at) false ≡ true) × (option_map_or (λ (s : Sample). nat_lt time s.time) (slice_get xs (at + 1)) true ≡ true)
  both = both_on _ _ on

  here : (d : Sample) → (get_or xs at d).time ≤ time
  here d = not_after xs time at d lt both.0

  next : (d : Sample) → at + 1 < length xs → time < (get_or xs (at + 1) d).time
  next d more = is_after xs time (at + 1) d more both.1

-- the same, by how many there are up to the one in force
pub cut_at : (xs : List Sample) (time at count : ℕ) → Rise xs → at < length xs → is_in_force xs time at ≡ true → at + 1 ≡ count → IsCut xs time count
cut_at xs time at count rise lt on is = subst (IsCut xs time) is (cut_in_force xs time at rise lt on)
