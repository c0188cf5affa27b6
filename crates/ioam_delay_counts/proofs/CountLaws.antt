-- What is counted of items, with one item more.
use Rattle.std.proofs.Common.{◌≡◌, ℕ, zero, suc, ◌+◌, ◌<◌, ◌≤◌, ◌^◌, min, Bool, true, false, cond, List, [], ◌∷◌, ◌++◌, length, drop, Option, Some, None, refl, ◌∙◌, ap, arith}
use mir.Val.{bool_byte}
use Rattle.std.specs.List.{cons_option, count_by, filter_map}
use Rattle.std.specs.Option.{option_to_list}
use Rattle.std.proofs.lemmas.List.{drop_all}
use Rattle.std.proofs.lemmas.List.Elements.{filter_map-append}
use Rattle.std.proofs.lemmas.List.Sums.{count_by-le-length, sum_by_push}
use Rattle.ioam_delay_counts.specs.Keys.{steps_before}
use Rattle.ioam_delay_counts.specs.declared.keys.Step.{Step}

cons_last : {Y : Type 0} (o : Option Y) → cons_option o [] ≡ option_to_list o
cons_last None = refl
cons_last (Some x) = refl

-- what is kept of one more
pub kept_more : {X Y : Type 0} (h : X → Option Y) (xs : List X) (x : X) → filter_map h (xs ++ x ∷ []) ≡ filter_map h xs ++ option_to_list (h x)
kept_more h xs x = filter_map-append h xs (x ∷ []) ∙ ap (λ ys. filter_map h xs ++ ys) (cons_last (h x))

cons_length : {Y : Type 0} (o : Option Y) (ys : List Y) → length (cons_option o ys) ≤ length ys + 1
cons_length None ys = omega arith
cons_length (Some x) ys = omega arith

-- no more are kept than there are
pub kept_few : {X Y : Type 0} (h : X → Option Y) (xs : List X) → length (filter_map h xs) ≤ length xs
kept_few h [] = omega arith
kept_few h (y ∷ ys) = omega (arith, cons_length (h y) (filter_map h ys), kept_few h ys)

-- ---- the order of steps where one list has ended

pub longer : (rest : Bool) (ones others : List Step) (at : ℕ) → at < length ones → length others ≤ at → steps_before rest (drop at ones) (drop at others) ≡ false
longer rest ones others at inside past = ap (steps_before rest (drop at ones)) (drop_all at others past) ∙ left ones at inside where
  left : (xs : List Step) (n : ℕ) → n < length xs → steps_before rest (drop n xs) [] ≡ false
  left [] n within = absurd (omega arith)
  left (x ∷ xs) zero within = refl
  left (x ∷ xs) (suc n) within = left xs n (omega arith)

pub shorter : (rest : Bool) (ones others : List Step) (at : ℕ) → length ones ≤ at → at < length others → steps_before rest (drop at ones) (drop at others) ≡ true
shorter rest ones others at past inside = ap (λ xs. steps_before rest xs (drop at others)) (drop_all at ones past) ∙ left others at inside where
  left : (xs : List Step) (n : ℕ) → n < length xs → steps_before rest [] (drop n xs) ≡ true
  left [] n within = absurd (omega arith)
  left (x ∷ xs) zero within = refl
  left (x ∷ xs) (suc n) within = left xs n (omega arith)

pub ended : (rest : Bool) (ones others : List Step) (at : ℕ) → length ones ≤ at → length others ≤ at → steps_before rest (drop at ones) (drop at others) ≡ rest
ended rest ones others at past passed =
    ap (λ xs. steps_before rest xs (drop at others)) (drop_all at ones past) ∙ ap (steps_before rest []) (drop_all at others passed)

-- ---- how many items pass a test, with one more

byte_is : (b : Bool) → bool_byte b ≡ cond b 1 0
byte_is true = refl
byte_is false = refl

byte_most : (b : Bool) → cond b 1 0 ≤ 1
byte_most true = omega arith
byte_most false = omega arith

pub tested_more : {X : Type 0} (p : X → Bool) (items : List X) (item : X) (n r after : ℕ) (b : Bool) → n ≡ count_by p items → b ≡ p item → r ≡ bool_byte b
    → after ≡ min (n + r) 18446744073709551615 → length items < 2 ^ 48 → after ≡ count_by p (items ++ item ∷ [])
tested_more p items item n r after b n_is b_is r_is after_is short =
    omega (arith, n_is, r_is ∙ byte_is b ∙ ap {B = ℕ} (λ (t : Bool). cond t 1 0) b_is, after_is, short, byte_most (p item), count_by-le-length p items, sum_by_push (λ x. cond (p x) 1 0) items item)
