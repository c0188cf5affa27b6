-- What counters say of the delays that they count.
use Rattle.std.proofs.Common.{◌≡◌, ℕ, ◌+◌, ◌-◌, ◌*◌, ◌/◌, ◌<◌, ◌≤◌, ◌^◌, min, ◌⊎◌, inl, inr, Bool, true, false, cond, ℤ, pos, negsuc, neg_ℤ, ◌+ℤ◌, ◌-ℤ◌, ◌≤ℤ◌, ◌<ℤ◌, List, [], ◌∷◌, ◌++◌, length, drop, get_or, replicate, refl, sym, ◌∙◌, ap, arith, add-one}
use Rattle.std.specs.Prelude.{int_lt, int_le, nat_le, nat_lt, unsigned_abs}
use Rattle.std.specs.Int.{int_max, int_min, saturate_signed, w128, w64}
use Rattle.std.specs.Int.RustNames.{FitsSigned}
use Rattle.std.specs.List.{All, Contains, count_by, fold}
use mir.Syntax.{Width}
use mir.Val.{bool_byte, of_z, to_z}
use Rattle.std.proofs.Math.Nat.{min-eq_left}
use Rattle.std.proofs.Math.Seq.{drop-cons}
use Rattle.std.proofs.lemmas.Bool.{cases_lt}
use Rattle.std.proofs.lemmas.Bool.Decides.{nat_tests}
use Rattle.std.proofs.lemmas.Int.{by_lt_z, clamps, fold-int_max_bounds, ints, to_z-of_z}
use Rattle.std.proofs.lemmas.List.{get_or-replicate}
use Rattle.std.proofs.lemmas.Nat.{mul-le}
use Rattle.std.proofs.lemmas.List.Elements.{All-cons, All-contains, All-head, All-nil, All-tail}
use Rattle.std.proofs.lemmas.List.Sums.{count_by-le-length, fold_push, sum_by-cons}
use Rattle.ioam_delays.specs.Buckets.{high, is_within, low}
use Rattle.ioam_delays.specs.Counters.{IsAt, IsNear, IsPercentile, count_below, count_up_to, count_within, least_of_all, most_of_all, rank, reached_at}
use Rattle.ioam_delays.proofs.BucketLaws.{spread}
use Rattle.ioam_delays.proofs.SignedLaws.{above_not_within, below_not_within, high_below, high_from, low_below, low_from, lt_no, lt_yes, next_low, one, ordered, within_yes}

le_yes : (a b : ℕ) → a ≤ b → nat_le a b ≡ true
le_yes a b h = grind (arith, nat_tests)

le_no : (a b : ℕ) → b < a → nat_le a b ≡ false
le_no a b h = grind (arith, nat_tests)

nat_lt_yes : (a b : ℕ) → a < b → nat_lt a b ≡ true
nat_lt_yes a b h = grind (arith, nat_tests)

nat_lt_no : (a b : ℕ) → b ≤ a → nat_lt a b ≡ false
nat_lt_no a b h = grind (arith, nat_tests)

-- ---- counts by two tests

count_same : (p q : ℤ → Bool) (ds : List ℤ) → ((d : ℤ) → p d ≡ q d) → count_by p ds ≡ count_by q ds
count_same p q [] same = refl
count_same p q (d ∷ ds) same = omega (arith, sum_by-cons (λ (x : ℤ). cond (p x) 1 0) d ds, sum_by-cons (λ (x : ℤ). cond (q x) 1 0) d ds, count_same p q ds same, ap one (same d))

one_le : (a b : Bool) → (a ≡ true → b ≡ true) → one a ≤ one b
one_le false b within = omega arith
one_le true b within = omega (arith, ap one (within refl))

count_le : (p q : ℤ → Bool) (ds : List ℤ) → ((d : ℤ) → p d ≡ true → q d ≡ true) → count_by p ds ≤ count_by q ds
count_le p q [] within = omega arith
count_le p q (d ∷ ds) within = omega (arith, sum_by-cons (λ (x : ℤ). cond (p x) 1 0) d ds, sum_by-cons (λ (x : ℤ). cond (q x) 1 0) d ds, count_le p q ds within, one_le (p d) (q d) (within d))

-- ---- how many are below a bucket

one_step : (i : ℕ) (d : ℤ) → one (int_lt d (low (i + 1))) ≡ one (int_lt d (low i)) + one (is_within i d)
one_step i d = by_lt_z d (low i) below (by_lt_z d (low (i + 1)) here above) where
  below : d <ℤ low i → one (int_lt d (low (i + 1))) ≡ one (int_lt d (low i)) + one (is_within i d)
  below h = omega (arith, ap one (lt_yes d (low i) h), ap one (lt_yes d (low (i + 1)) (omega (arith, ints, next_low i, ordered i))), ap one (below_not_within i d h))

  here : d <ℤ low (i + 1) → low i ≤ℤ d → one (int_lt d (low (i + 1))) ≡ one (int_lt d (low i)) + one (is_within i d)
  here h from = omega (arith, ap one (lt_no d (low i) from), ap one (lt_yes d (low (i + 1)) h), ap one (within_yes i d (from, omega (arith, ints, next_low i))))

  above : low (i + 1) ≤ℤ d → low i ≤ℤ d → one (int_lt d (low (i + 1))) ≡ one (int_lt d (low i)) + one (is_within i d)
  above h from = omega (arith, ap one (lt_no d (low i) from), ap one (lt_no d (low (i + 1)) h), ap one (above_not_within i d (omega (arith, ints, next_low i))))

-- those below the next one are those below it and those in it
pub step : (i : ℕ) (ds : List ℤ) → count_below (low (i + 1)) ds ≡ count_below (low i) ds + count_within i ds
step i [] = refl
step i (d ∷ ds) = omega (
  arith,
  sum_by-cons (λ (x : ℤ). cond (int_lt x (low (i + 1))) 1 0) d ds,
  sum_by-cons (λ (x : ℤ). cond (int_lt x (low i)) 1 0) d ds,
  sum_by-cons (λ (x : ℤ). cond (is_within i x) 1 0) d ds,
  step i ds,
  one_step i d,
)

-- those up to its end are those below the next one
pub up_to_high : (i : ℕ) (ds : List ℤ) → count_up_to (high i) ds ≡ count_below (low (i + 1)) ds
up_to_high i ds = count_same (λ (d : ℤ). int_le d (high i)) (λ (d : ℤ). int_lt d (low (i + 1))) ds same where
  same : (d : ℤ) → int_le d (high i) ≡ int_lt d (low (i + 1))
  same d = let next : low (i + 1) ≡ (high i +ℤ pos 1) = next_low i in grind (arith, ints)

abbrev pub Fit : ℤ → Type 0
Fit d = FitsSigned w64 d

-- none is below the first
pub none_below : (ds : List ℤ) → All Fit ds → count_below (low 0) ds ≡ 0
none_below ds fit = none ds fit where
  none : (ds : List ℤ) → All Fit ds → count_below (low 0) ds ≡ 0
  none [] fit = refl
  none (d ∷ ds) fit = omega (arith, sum_by-cons (λ (x : ℤ). one (int_lt x (low 0))) d ds, none ds (All-tail Fit d ds fit), ap one (lt_no d (low 0) (omega (arith, ints, All-head Fit d ds fit))))

-- and all are below the end of the last
pub all_below : (ds : List ℤ) → All Fit ds → count_below (low 4096) ds ≡ length ds
all_below [] fit = refl
all_below (d ∷ ds) fit = omega (arith, sum_by-cons (λ (x : ℤ). one (int_lt x (low 4096))) d ds, all_below ds (All-tail Fit d ds fit), ap one (lt_yes d (low 4096) (omega (arith, ints, All-head Fit d ds fit))))

-- ---- percentiles

-- the rank that is reached
pub reached : (per count passed : ℕ) → count * per ≤ 100 * passed → rank per count ≤ passed
reached per count passed enough = omega arith

pub not_reached : (per count passed : ℕ) → 100 * passed < count * per → passed < rank per count
not_reached per count passed few = omega arith

module _ (ds : List ℤ) (nth : ℕ) (v : ℤ) (at : IsAt ds nth v) (b : ℕ) (below : count_below (low b) ds < nth) (up_to : nth ≤ count_up_to (high b) ds) where
  -- the value of a rank is in the bucket in which the rank is reached
  pub at_low : low b ≤ℤ v
  at_low = by_lt_z v (low b) lower (λ (h : low b ≤ℤ v). h) where
    lower : v <ℤ low b → low b ≤ℤ v
    lower h = absurd (omega (arith, below, at.up_to, count_le (λ (d : ℤ). int_le d v) (λ (d : ℤ). int_lt d (low b)) ds (λ (d : ℤ) (is : int_le d v ≡ true). lt_yes d (low b) (grind (arith, ints)))))

  pub at_high : v ≤ℤ high b
  at_high = by_lt_z (high b) v higher (λ (h : v ≤ℤ high b). h) where
    higher : high b <ℤ v → v ≤ℤ high b
    higher h = absurd (omega (arith, up_to, at.below, count_le (λ (d : ℤ). int_le d (high b)) (λ (d : ℤ). int_lt d v) ds (λ (d : ℤ) (is : int_le d (high b) ≡ true). lt_yes d v (grind (arith, ints)))))

-- it is near
pub high_near : (b : ℕ) (v : ℤ) → low b ≤ℤ v → v ≤ℤ high b → (high b -ℤ v) ≤ℤ pos (unsigned_abs v / 32)
high_near b v from to = by_half (cases_lt b 2048) v from to where
  by_half : (b < 2048) ⊎ (2048 ≤ b) → (v : ℤ) → low b ≤ℤ v → v ≤ℤ high b → (high b -ℤ v) ≤ℤ pos (unsigned_abs v / 32)
  by_half (inl h) (pos n) from to = absurd (omega (arith, ints, to, high_below b h))
  by_half (inl h) (negsuc n) from to = omega (arith, ints, from, to, low_below b h, high_below b h, spread (2047 - b))
  by_half (inr h) (pos n) from to = omega (arith, ints, from, to, low_from b h, high_from b h, spread (b - 2048))
  by_half (inr h) (negsuc n) from to = absurd (omega (arith, ints, from, low_from b h))

at_most : (ds : List ℤ) (v : ℤ) → Contains ds v → v ≤ℤ most_of_all ds
at_most ds v is_one = All-contains (λ (x : ℤ). x ≤ℤ most_of_all ds) ds v (all ds) is_one where
  all : (ds : List ℤ) → All (λ (x : ℤ). x ≤ℤ most_of_all ds) ds
  all [] = All-nil (λ (x : ℤ). x ≤ℤ pos 0)
  all (d ∷ ds) =
      let bounds = fold-int_max_bounds d ds (fold int_max d ds) refl in
      All-cons (λ (x : ℤ). x ≤ℤ fold int_max d ds) d ds bounds.0 bounds.1

pub near : (ds : List ℤ) (per : ℕ) (v p : ℤ) → IsPercentile ds per p → IsAt ds (rank per (length ds)) v → IsNear ds v p
near ds per v p is at =
    let from : low is.bucket ≤ℤ v = at_low ds (rank per (length ds)) v at is.bucket is.below is.up_to in
    let to : v ≤ℤ high is.bucket = at_high ds (rank per (length ds)) v at is.bucket is.below is.up_to in
    let most : v ≤ℤ most_of_all ds = at_most ds v at.is_one in record {
      from = omega (arith, ints, clamps, is.is);
      to = omega (arith, ints, clamps, is.is, high_near is.bucket v from to);
      most = omega (arith, ints, clamps, is.is);
    }

-- ---- one delay more

pub least_push : (ds : List ℤ) (d : ℤ) → 0 < length ds → least_of_all (ds ++ d ∷ []) ≡ int_min (least_of_all ds) d
least_push [] d some = absurd (omega arith)
least_push (x ∷ xs) d some = fold_push int_min x xs d

pub most_push : (ds : List ℤ) (d : ℤ) → 0 < length ds → most_of_all (ds ++ d ∷ []) ≡ int_max (most_of_all ds) d
most_push [] d some = absurd (omega arith)
most_push (x ∷ xs) d some = fold_push int_max x xs d

-- a number that fits isn't changed
pub saturated : (z : ℤ) → FitsSigned w128 z → saturate_signed w128 z ≡ z
saturated (pos n) fits = ap pos (min-eq_left (omega (arith, fits)))
saturated (negsuc n) fits = ap negsuc (min-eq_left (omega (arith, fits)))

pub sum_fits : (s d : ℤ) (n : ℕ) → n < 2 ^ 48 → neg_ℤ (pos (2 ^ 63 * n)) ≤ℤ s → s ≤ℤ pos (2 ^ 63 * n) → Fit d → FitsSigned w128 (s +ℤ d)
sum_fits s d n few from to fit = omega (arith, ints)

-- what is made of two numbers that were passed
pub made_of : (f : ℤ → ℤ → ℤ) (w : Width) (r x y : ℤ) → FitsSigned w r → FitsSigned w x → FitsSigned w y → r ≡ f (to_z w (of_z w x)) (to_z w (of_z w y))
    → to_z w (of_z w r) ≡ f x y
made_of f w r x y r_fits x_fits y_fits is =
    to_z-of_z w r r_fits ∙ is ∙ ap (λ (z : ℤ). f z (to_z w (of_z w y))) (to_z-of_z w x x_fits) ∙ ap (λ (z : ℤ). f x z) (to_z-of_z w y y_fits)

-- the number that a test gives
pub byte_one : (b : Bool) → bool_byte b ≡ one b
byte_one true = refl
byte_one false = refl

pub one_most : (b : Bool) → one b ≤ 1
one_most true = omega arith
one_most false = omega arith

pub first_slots : (ns : List ℕ) (k : ℕ) → ns ≡ replicate 4096 0 → k < 4096 → get_or ns k 0 ≡ 0
first_slots ns k are below = ap (λ (xs : List ℕ). get_or xs k 0) are ∙ get_or-replicate 4096 k 0 0 below

-- ---- the walk over the buckets

-- so far it has passed those below a bucket, and now those in it too
pub passed_more : (ds : List ℤ) (i before seen passed : ℕ) → before ≡ count_below (low i) ds → seen ≡ count_within i ds → length ds < 2 ^ 48
    → passed ≡ min (before + seen) 18446744073709551615 → passed ≡ count_below (low (i + 1)) ds
passed_more ds i before seen passed before_is seen_is few is =
    omega (arith, before_is, seen_is, is, step i ds, count_by-le-length (λ (d : ℤ). int_lt d (low (i + 1))) ds)

-- the bucket in which the rank is reached
pub found : (ds : List ℤ) (i per count before passed : ℕ) (p most : ℤ) → i < 4096 → count ≡ length ds → most ≡ most_of_all ds
    → before ≡ count_below (low i) ds → passed ≡ count_below (low (i + 1)) ds → 100 * before < count * per → count * per ≤ 100 * passed
    → p ≡ int_min (high i) most → IsPercentile ds per p
found ds i per count before passed p most exists count_is most_is before_is passed_is few enough is = record {
  bucket = i;
  exists = exists;
  below = omega (arith, before_is, few, ap (λ (n : ℕ). n * per) count_is);
  up_to = omega (arith, passed_is, up_to_high i ds, enough, ap (λ (n : ℕ). n * per) count_is);
  is = is ∙ ap (λ (z : ℤ). int_min (high i) z) most_is;
}

-- the whole list reaches every rank
pub never_short : (ds : List ℤ) (per count passed : ℕ) → All Fit ds → count ≡ length ds → per ≤ 100 → passed ≡ count_below (low 4096) ds → 100 * passed < count * per → ⊥
never_short ds per count passed fit count_is most is few = omega (arith, is, all_below ds fit, count_is, few, mul-le count per count 100 (omega arith) most)

-- ---- the same as a function

module _ (ns : List ℕ) (i c nth : ℕ) (within : i < length ns) (c_is : c ≡ get_or ns i 0) where
  rest_is : drop i ns ≡ c ∷ drop (i + 1) ns
  rest_is = rw (add-one, drop-cons ns i 0 within, ← c_is) refl

  pub reach_here : nth ≤ c → reached_at nth (drop i ns) ≡ 0
  reach_here enough = ap (λ (xs : List ℕ). reached_at nth xs) rest_is ∙ ap (λ (b : Bool). cond b 0 (1 + reached_at (nth - c) (drop (i + 1) ns))) (le_yes nth c enough)

  pub reach_on : c < nth → reached_at nth (drop i ns) ≡ 1 + reached_at (nth - c) (drop (i + 1) ns)
  reach_on few = ap (λ (xs : List ℕ). reached_at nth xs) rest_is ∙ ap (λ (b : Bool). cond b 0 (1 + reached_at (nth - c) (drop (i + 1) ns))) (le_no nth c few)

-- the percentile of a bucket, or of none
pub chosen : (place i : ℕ) (most p : ℤ) → place ≡ i → i < 4096 → p ≡ int_min (high i) most → p ≡ cond (nat_lt place 4096) (int_min (high place) most) most
chosen place i most p is below p_is =
    p_is ∙ ap (λ (k : ℕ). int_min (high k) most) (sym is) ∙ ap (λ (b : Bool). cond b (int_min (high place) most) most) (sym (nat_lt_yes place 4096 (omega (arith, is, below))))

pub chosen_none : (place : ℕ) (most p : ℤ) → place ≡ 4096 → p ≡ most → p ≡ cond (nat_lt place 4096) (int_min (high place) most) most
chosen_none place most p is p_is = p_is ∙ ap (λ (b : Bool). cond b (int_min (high place) most) most) (sym (nat_lt_no place 4096 (omega (arith, is))))

-- a walk that hasn't reached the rank has counted all so far
pub not_full : (passed c count per after : ℕ) → count < 2 ^ 64 → per ≤ 100 → after ≡ min (passed + c) 18446744073709551615 → 100 * after < count * per
    → after ≡ passed + c
not_full passed c count per after fits most is few = omega (arith, fits, is, few, mul-le count per count 100 (omega arith) most)

-- it goes on behind the next bucket
pub walked_on : (ns : List ℕ) (i c nth passed after place : ℕ) → i < length ns → c ≡ get_or ns i 0 → after ≡ passed + c → after < nth
    → place ≡ i + reached_at (nth - passed) (drop i ns) → place ≡ i + 1 + reached_at (nth - after) (drop (i + 1) ns)
walked_on ns i c nth passed after place within c_is after_is few is =
    is ∙ ap (λ (n : ℕ). i + n) (reach_on ns i c (nth - passed) within c_is (omega (arith, after_is, few)))
    ∙ ap (λ (n : ℕ). i + (1 + reached_at n (drop (i + 1) ns))) the_rest ∙ omega arith where
      the_rest : nth - passed - c ≡ nth - after
      the_rest = omega (arith, after_is)

-- or ends there
pub walked_to : (ns : List ℕ) (i c nth passed place : ℕ) → i < length ns → c ≡ get_or ns i 0 → nth ≤ passed + c
    → place ≡ i + reached_at (nth - passed) (drop i ns) → place ≡ i
walked_to ns i c nth passed place within c_is enough is =
    is ∙ ap (λ (n : ℕ). i + n) (reach_here ns i c (nth - passed) within c_is (omega arith)) ∙ omega arith
