-- The options from a place on.
use Rattle.std.proofs.Common.{◌≡◌, ℕ, zero, suc, ◌+◌, ◌-◌, ◌<◌, ◌≤◌, List, [], ◌∷◌, Bool, true, false, cond, eqb, leb, length, take, drop, slice_index, slice_range, get_or, refl, sym, ap, ◌∙◌, arith, get_or-drop}
use Rattle.std.proofs.lemmas.List.{drop-drop}
use Rattle.std.proofs.lemmas.Bool.Decides.{nat_tests}
use Rattle.ioam_ip.specs.Options.{option_end, item_at, body_at, is_option}
use Rattle.ioam_ip.specs.OptionsLeft.{options_from}

other : (k : ℕ) → 1 < k → eqb k 0 ≡ false
other k above = grind (arith, nat_tests)

data_of : (pad1 : Bool) (xs : List ℕ) → pad1 ≡ false → cond pad1 [] xs ≡ xs
data_of true xs is = absurd (cc is)
data_of false xs is = refl

-- the data of an option that is no padding
pub body_is : (head : List ℕ) (at : ℕ) → 1 < slice_index head at
    → slice_range head (at + 2) (at + 2 + slice_index head (at + 1)) ≡ body_at head at
body_is head at above =
    let size : (at + 2 + slice_index head (at + 1)) - (at + 2) ≡ slice_index head (at + 1) = omega arith in
    ap (λ n. take n (drop (at + 2) head)) size
    ∙ sym (data_of (eqb (slice_index head at) 0) (take (slice_index head (at + 1)) (drop (at + 2) head)) (other (slice_index head at) above))

-- where two headers are the same from a place on, so are their options
module _ (a b : List ℕ) (at : ℕ) (same : drop at a ≡ drop at b) where
  rest_same : (k : ℕ) → drop (at + k) a ≡ drop (at + k) b
  rest_same k = sym (drop-drop k at a) ∙ ap (λ xs. drop k xs) same ∙ drop-drop k at b

  octet_same : (k : ℕ) → slice_index a (at + k) ≡ slice_index b (at + k)
  octet_same k = sym (get_or-drop at a k 0) ∙ ap (λ xs. get_or xs k 0) same ∙ get_or-drop at b k 0

  first_same : slice_index a at ≡ slice_index b at
  first_same = let z : at + 0 ≡ at = omega arith in
      ap (λ n. slice_index a n) (sym z) ∙ octet_same 0 ∙ ap (λ n. slice_index b n) z

  pub item_same : item_at a at ≡ item_at b at
  item_same = λ i. record {
    kind = first_same i;
    at = at;
    body = cond (eqb (first_same i) 0) [] (take (octet_same 1 i) (rest_same 2 i));
  }

  pub end_same : option_end a at ≡ option_end b at
  end_same = λ i. at + cond (eqb (first_same i) 0) 1 (octet_same 1 i + 2)

pub suffix_same : (a b : List ℕ) (at to : ℕ) → at ≤ to → drop at a ≡ drop at b → drop to a ≡ drop to b
suffix_same a b at to behind same =
    let is : at + (to - at) ≡ to = omega arith in
    ap (λ n. drop n a) (sym is) ∙ rest_same a b at same (to - at) ∙ ap (λ n. drop n b) is

pub options_same : (n : ℕ) (a b : List ℕ) (at : ℕ) → length a ≡ length b → drop at a ≡ drop at b
    → options_from n a at ≡ options_from n b at
options_same zero a b at long same = refl
options_same (suc n) a b at long same =
    let rest : options_from n a (option_end a at) ≡ options_from n b (option_end b at) =
    options_same n a b (option_end a at) long (suffix_same a b at (option_end a at) (omega arith) same)
    ∙ ap (λ m. options_from n b m) (end_same a b at same) in
    λ i. cond (leb (end_same a b at same i) (long i))
    (cond (is_option (item_same a b at same i)) (item_same a b at same i ∷ rest i) (rest i)) []

size_of : (pad1 : Bool) (n : ℕ) → pad1 ≡ false → cond pad1 1 (n + 2) ≡ n + 2
size_of true n is = absurd (cc is)
size_of false n is = refl

-- where an option that is no padding ends
pub end_is : (head : List ℕ) (at : ℕ) → 1 < slice_index head at → at + 2 + slice_index head (at + 1) ≡ option_end head at
end_is head at above = omega (arith, size_of (eqb (slice_index head at) 0) (slice_index head (at + 1)) (other (slice_index head at) above))
