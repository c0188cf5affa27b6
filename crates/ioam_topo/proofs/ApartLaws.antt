-- Laws of what no two share.
use Rattle.std.proofs.Common.{◌≡◌, ◌≢◌, ◌<◌, ℕ, zero, suc, Bool, true, false, not, nat_eq, ◌&&◌, ◌||◌, List, [], ◌∷◌, map, length, Some, slice_get, slice_index_or, ⊎_elim, refl, ap, sym, subst, ◌∙◌, arith}
use Rattle.std.specs.List.{AllByRecursion, AllPairs, IsDistinct, list_any}
use Rattle.std.specs.Str.{bytes_eq}
use Rattle.std.proofs.lemmas.Bool.{cases_lt}
use Rattle.std.proofs.lemmas.Bool.Decides.{nat_tests}
use Rattle.std.proofs.lemmas.List.Elements.{All-map, All-from_recursion}
use Rattle.std.proofs.lemmas.List.Kept.{AllPairs-cons}
use Rattle.std.proofs.lemmas.Map.Keys.{IsDistinct-head, IsDistinct-tail}
use Rattle.std.proofs.lemmas.Slice.Eq.{bytes_eq-Decides}
use Rattle.ioam_topo.specs.declared.prefix.Prefix.{Prefix}
use Rattle.ioam_topo.specs.Apart.{AreApart}

-- no two are equal
abbrev pub Differ : {K : Type 0} → List K → Type 0
Differ {K} ks = AllPairs (λ (a b : K). a ≢ b) ks

-- whether none is equal to one behind it
abbrev pub all_differ : {K : Type 0} → (K → K → Bool) → List K → Bool
all_differ eq [] = true
all_differ eq (k ∷ ks) = not (list_any (eq k) ks) && all_differ eq ks

first_on : (b c : Bool) → (not b && c) ≡ true → (b ≡ false) × (c ≡ true)
first_on true c on = cc
first_on false c on = (refl, on)

either_off : (b c : Bool) → (b || c) ≡ false → (b ≡ false) × (c ≡ false)
either_off false c off = (refl, off)
either_off true c off = cc

none_passes : {K : Type 0} (test : K → Bool) (ks : List K) → list_any test ks ≡ false → AllByRecursion (λ y. test y ≡ false) ks
none_passes test [] off = tt
none_passes test (k ∷ ks) off = let both = either_off (test k) (list_any test ks) off in (both.0, none_passes test ks both.1)

pub distinct_by : {K : Type 0} (eq : K → K → Bool) (ks : List K) → all_differ eq ks ≡ true → IsDistinct eq ks
unfolding IsDistinct
distinct_by eq [] on = tt
distinct_by eq (k ∷ ks) on = let both = first_on (list_any (eq k) ks) (all_differ eq ks) on in (none_passes (eq k) ks both.0, distinct_by eq ks both.1)

not_both : {b : Bool} → b ≡ true → b ≡ false → ⊥
not_both on off = cc

-- what a set's keys show differs, where what is shown alike is equal
pub differ : {S K : Type 0} (eq : S → S → Bool) (f : S → K) → ((a b : S) → f a ≡ f b → eq a b ≡ true) → (ks : List S) → IsDistinct eq ks → Differ (map f ks)
differ eq f same [] distinct = λ i j d lt within. absurd (omega (arith, within))
differ {S} {K} eq f same (k ∷ ks) distinct = AllPairs-cons (λ (a b : K). a ≢ b) (f k) (map f ks)
    (All-map (λ (b : K). f k ≢ b) f ks (λ i d within is. not_both (same k (slice_index_or ks i d) is)
    (All-from_recursion (λ y. eq k y ≡ false) ks (IsDistinct-head eq k ks distinct) i d within)))
    (differ eq f same ks (IsDistinct-tail eq k ks distinct))

-- mapped to itself
pub map_same : {A : Type 0} (xs : List A) → map (λ x. x) xs ≡ xs
map_same [] = refl
map_same (x ∷ xs) = ap (λ l. x ∷ l) (map_same xs)

pub names_differ : (ks : List (List ℕ)) → IsDistinct bytes_eq ks → Differ ks
names_differ ks distinct = subst Differ (map_same ks) (differ bytes_eq (λ k. k) (λ a b is. (bytes_eq-Decides a b).1 is) ks distinct)

pub numbers_differ : (ks : List ℕ) → IsDistinct nat_eq ks → Differ ks
numbers_differ ks distinct = subst Differ (map_same ks) (differ nat_eq (λ k. k) (λ a b is. grind (arith, nat_tests, is)) ks distinct)

both_on : (a b c d : ℕ) → a ≡ c → b ≡ d → (nat_eq a c && nat_eq b d) ≡ true
both_on a b c d one two = grind (arith, nat_tests, one, two)

pub pairs_differ : (ks : List (ℕ × ℕ)) → IsDistinct (λ a b. nat_eq a.0 b.0 && nat_eq a.1 b.1) ks → Differ ks
pairs_differ ks distinct = subst Differ (map_same ks) (differ (λ (a b : ℕ × ℕ). nat_eq a.0 b.0 && nat_eq a.1 b.1) (λ k. k)
    (λ a b is. both_on a.0 a.1 b.0 b.1 (ap (λ (k : ℕ × ℕ). k.0) is) (ap (λ (k : ℕ × ℕ). k.1) is)) ks distinct)

both_parts : (a b c d e f : ℕ) → a ≡ d → b ≡ e → c ≡ f → (nat_eq a d && (nat_eq b e && nat_eq c f)) ≡ true
both_parts a b c d e f one two three = grind (arith, nat_tests, one, two, three)

pub prefixes_differ : (ks : List (ℕ × Prefix)) → IsDistinct (λ a b. nat_eq a.0 b.0 && (nat_eq a.1.bits b.1.bits && nat_eq a.1.length b.1.length)) ks → Differ ks
prefixes_differ ks distinct = subst Differ (map_same ks)
    (differ (λ (a b : ℕ × Prefix). nat_eq a.0 b.0 && (nat_eq a.1.bits b.1.bits && nat_eq a.1.length b.1.length)) (λ k. k)
    (λ a b is. both_parts a.0 a.1.bits a.1.length b.0 b.1.bits b.1.length (ap (λ (k : ℕ × Prefix). k.0) is) (ap (λ (k : ℕ × Prefix). k.1.bits) is) (ap (λ (k : ℕ × Prefix). k.1.length) is))
    ks distinct)

-- the key of an entry stands at its place
pub at_key : {A K : Type 0} (key : A → K) (xs : List A) (i : ℕ) (x : A) (d : K) → slice_get xs i ≡ Some x
    → (i < length (map key xs)) × (slice_index_or (map key xs) i d ≡ key x)
at_key key [] i x d is = cc
at_key key (y ∷ xs) zero x d is = let same : y ≡ x = cc in (omega arith, ap key same)
at_key key (y ∷ xs) (suc i) x d is = let rest = at_key key xs i x d is in (omega (arith, rest.0), rest.1)

-- no two have one key whose keys differ
pub apart_by : {A K : Type 0} (key : A → K) (xs : List A) (ks : List K) → ks ≡ map key xs → Differ ks → AreApart key xs
apart_by {A} {K} key xs ks keyed apart i j x y here there same =
    let all : Differ (map key xs) = subst Differ keyed apart in
    let a = at_key key xs i x (key x) here in
    let b = at_key key xs j y (key x) there in
    ⊎_elim (λ lt. absurd (all i j (key x) lt b.0 (a.1 ∙ same ∙ sym b.1)))
    (λ le. ⊎_elim (λ lt. absurd (all j i (key x) lt a.0 (b.1 ∙ sym same ∙ sym a.1))) (λ ge. omega (arith, le, ge)) (cases_lt j i)) (cases_lt i j)

-- a list of one has one place
pub only_place : {A : Type 0} (x : A) (i : ℕ) (y : A) → slice_get (x ∷ []) i ≡ Some y → i ≡ 0
only_place x zero y is = refl
only_place x (suc i) y is = cc
