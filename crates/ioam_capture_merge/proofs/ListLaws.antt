-- Lists of which one item is changed, and lists of a function's values.
use Rattle.std.proofs.Common.{◌≡◌, ℕ, zero, suc, ◌+◌, ◌<◌, ◌≤◌, ◌⊎◌, List, [], ◌∷◌, ◌++◌, length, Some, arith, refl, sym, ap, ◌∙◌, inl, inr, set}
use Rattle.std.specs.Prelude.{slice_get}
use Rattle.std.specs.List.{AllZip}
use Rattle.std.proofs.lemmas.Option.{none-some, same_Some}
use Rattle.ioam_capture_merge.specs.Merge.{each}

module _ {A : Type 0} where
  -- an item that is inside
  pub get-inside : (xs : List A) (k : ℕ) → k < length xs → (x : A) × (slice_get xs k ≡ Some x)
  get-inside [] k inside = absurd (omega (arith, inside))
  get-inside (x ∷ xs) zero inside = (x, refl)
  get-inside (x ∷ xs) (suc k) inside = get-inside xs k (omega (arith, inside))

  pub within : (xs : List A) (k : ℕ) (x : A) → slice_get xs k ≡ Some x → k < length xs
  within [] k x is = absurd (none-some x is)
  within (y ∷ ys) zero x is = omega arith
  within (y ∷ ys) (suc k) x is = omega (arith, within ys k x is)

  -- an item after the change is the new one, or it stood there before
  pub get-set : (xs : List A) (place : ℕ) (y : A) (k : ℕ) (x : A) → slice_get (set xs place y) k ≡ Some x
      → ((k ≡ place) × (x ≡ y)) ⊎ ((k ≡ place → ⊥) × (slice_get xs k ≡ Some x))
  get-set [] place y k x is = absurd (none-some x is)
  get-set (z ∷ zs) zero y zero x is = inl (refl, sym (same_Some y x is))
  get-set (z ∷ zs) zero y (suc k) x is = inr (λ same. absurd (omega (arith, same)), is)
  get-set (z ∷ zs) (suc place) y zero x is = inr (λ same. absurd (omega (arith, same)), is)
  get-set (z ∷ zs) (suc place) y (suc k) x is = elim (get-set zs place y k x is) [
    | inl here ↦ inl (ap suc here.0, here.1)
    | inr there ↦ inr (λ same. there.0 (omega (arith, same)), there.1)
  ]

  pub get-set_here : (xs : List A) (place : ℕ) (x y : A) → slice_get xs place ≡ Some x → slice_get (set xs place y) place ≡ Some y
  get-set_here [] place x y is = absurd (none-some x is)
  get-set_here (z ∷ zs) zero x y is = refl
  get-set_here (z ∷ zs) (suc place) x y is = get-set_here zs place x y is

  pub set-length : (xs : List A) (place : ℕ) (y : A) → length (set xs place y) ≡ length xs
  set-length [] place y = refl
  set-length (x ∷ xs) zero y = refl
  set-length (x ∷ xs) (suc place) y = omega (arith, set-length xs place y)

  -- an item of a list that got one more
  pub get-push : (xs : List A) (y : A) (k : ℕ) (x : A) → slice_get (xs ++ y ∷ []) k ≡ Some x
      → (slice_get xs k ≡ Some x) ⊎ ((k ≡ length xs) × (x ≡ y))
  get-push [] y zero x is = inr (refl, sym (same_Some y x is))
  get-push [] y (suc k) x is = absurd (none-some x is)
  get-push (z ∷ zs) y zero x is = inl is
  get-push (z ∷ zs) y (suc k) x is = elim (get-push zs y k x is) [
    | inl before ↦ inl before
    | inr last ↦ inr (ap suc last.0, last.1)
  ]

  -- a list of values
  pub each-get : (n from : ℕ) (f : ℕ → A) (k : ℕ) → k < n → slice_get (each n from f) k ≡ Some (f (from + k))
  each-get zero from f k inside = absurd (omega (arith, inside))
  each-get (suc n) from f zero inside = let here : from ≡ from + 0 = omega arith in ap (λ (m : ℕ). Some (f m)) here
  each-get (suc n) from f (suc k) inside =
      let there : suc from + k ≡ from + suc k = omega arith in
      each-get n (suc from) f k (omega (arith, inside)) ∙ ap (λ (m : ℕ). Some (f m)) there

  pub each-length : (n from : ℕ) (f : ℕ → A) → length (each n from f) ≡ n
  each-length zero from f = refl
  each-length (suc n) from f = omega (arith, each-length n (suc from) f)

  pub each-zip : {B : Type 0} (R : A → B → Type 0) (n from : ℕ) (f : ℕ → A) (g : ℕ → B) → ((k : ℕ) → from ≤ k → k < from + n → R (f k) (g k))
      → AllZip R (each n from f) (each n from g)
  each-zip R zero from f g all = tt
  each-zip R (suc n) from f g all =
      (all from (omega arith) (omega arith), each-zip R n (suc from) f g (λ k least below. all k (omega (arith, least)) (omega (arith, below))))

  pub each-same : (n from : ℕ) (f g : ℕ → A) → ((k : ℕ) → f k ≡ g k) → each n from f ≡ each n from g
  each-same zero from f g same = refl
  each-same (suc n) from f g same =
      let first = same from in
      let others = each-same n (suc from) f g same in
      cc
