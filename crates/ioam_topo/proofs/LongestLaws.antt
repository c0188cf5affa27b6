-- Laws of the longest.
use Rattle.std.proofs.Common.{◌≡◌, ℕ, ◌+◌, suc, Bool, true, false, not, cond, nat_lt, nat_eq, ◌&&◌, ◌<◌, ◌≤◌, List, [], ◌∷◌, length, Option, Some, None, refl, ap, sym, ◌∙◌, subst, arith, slice_get, slice_index_or}
use Rattle.std.specs.List.{All, Contains, filter, find, position, position_or_len}
use Rattle.std.proofs.lemmas.Bool.Decides.{nat_tests}
use Rattle.std.proofs.lemmas.List.Elements.{All-cons, All-nil}
use Rattle.ioam_topo.specs.Forward.{longer, longest}

module _ {A : Type 0} (size : A → ℕ) where
  -- the first of two where the other is off longer
  longer_first : (x : A) (o : Option A) → ((z : A) → o ≡ Some z → size z ≤ size x) → longer size x o ≡ x
  longer_first x None small = refl
  longer_first x (Some z) small = let le : size z ≤ size x = small z refl in let off : nat_lt (size x) (size z) ≡ false = grind (arith, nat_tests, le) in
      ap (λ b. cond b z x) off

  pass_two : (test : A → Bool) (x y z : A) (b : Bool) → test x ≡ true → test z ≡ true → Some (cond b z x) ≡ Some y → test y ≡ true
  pass_two test x y z true pass also is = let same : z ≡ y = cc in ap test (sym same) ∙ also
  pass_two test x y z false pass also is = let same : x ≡ y = cc in ap test (sym same) ∙ pass

  pass_one : (test : A → Bool) (x y : A) (o : Option A) (b : Bool) → test x ≡ b → ((z : A) → o ≡ Some z → test z ≡ true)
      → cond b (Some (longer size x o)) o ≡ Some y → test y ≡ true
  pass_one test x y o false off more is = more y is
  pass_one test x y None true pass more is = let same : x ≡ y = cc in ap test (sym same) ∙ pass
  pass_one test x y (Some z) true pass more is = pass_two test x y z (nat_lt (size x) (size z)) pass (more z refl) is

  -- the longest passes the test
  pub longest_passes : (test : A → Bool) (xs : List A) (y : A) → longest size test xs ≡ Some y → test y ≡ true
  longest_passes test [] y is = cc
  longest_passes test (x ∷ xs) y is = pass_one test x y (longest size test xs) (test x) refl (longest_passes test xs) is

  none_one : (b c d : Bool) (x : A) (o p q : Option A) → (b ≡ false → c ≡ d) → (o ≡ None → p ≡ q) → cond b (Some (longer size x o)) o ≡ None
      → cond c (Some (longer size x p)) p ≡ cond d (Some (longer size x q)) q
  none_one true c d x o p q same more is = cc
  none_one false c d x o p q same more is = rw (same refl, more is)

  below_same : (t : Bool) (n s : ℕ) → (t && nat_eq n s) ≡ false → (t && nat_lt s (n + 1)) ≡ (t && nat_lt s n)
  below_same false n s is = refl
  below_same true n s is = grind (arith, nat_tests)

  -- none of one length
  pub longest_none : (test : A → Bool) (n : ℕ) (xs : List A) → longest size (λ x. test x && nat_eq n (size x)) xs ≡ None
      → longest size (λ x. test x && nat_lt (size x) (n + 1)) xs ≡ longest size (λ x. test x && nat_lt (size x) n) xs
  longest_none test n [] is = refl
  longest_none test n (x ∷ xs) is = none_one (test x && nat_eq n (size x)) (test x && nat_lt (size x) (n + 1)) (test x && nat_lt (size x) n) x _ _ _
      (below_same (test x) n (size x)) (longest_none test n xs) is

  some_one : (n : ℕ) (x y : A) (b c : Bool) (o p : Option A) → (b ≡ true → c ≡ true) → (b ≡ true → size x ≡ n) → (b ≡ false → c ≡ true → size x < n)
      → ((z : A) → o ≡ Some z → size z ≡ n) → ((z : A) → p ≡ Some z → size z < n + 1) → ((z : A) → o ≡ Some z → p ≡ Some z)
      → cond b (Some (longer size x o)) o ≡ Some y → cond c (Some (longer size x p)) p ≡ Some y
  some_one n x y true c o p both here less by below more is =
      let m : size x ≡ n = here refl in
      let one : longer size x o ≡ x = longer_first x o (λ z e. let f : size z ≡ n = by z e in omega (arith, f, m)) in
      let two : longer size x p ≡ x = longer_first x p (λ z e. let f : size z < n + 1 = below z e in omega (arith, f, m)) in
      rw (both refl, two) (ap Some (sym one) ∙ is)
  some_one n x y false false o p both here less by below more is = more y is
  some_one n x y false true o p both here less by below more is =
      let m : size x < n = less refl refl in let f : size y ≡ n = by y is in
      let lt : nat_lt (size x) (size y) ≡ true = grind (arith, nat_tests, m, f) in
      ap (λ q. Some (longer size x q)) (more y is) ∙ ap (λ b. Some (cond b y x)) lt

  and_right : (t u : Bool) → (t && u) ≡ true → u ≡ true
  and_right true u is = is
  and_right false u is = cc

  sized : (t : Bool) (n s : ℕ) → (t && nat_eq n s) ≡ true → s ≡ n
  sized t n s is = let e : nat_eq n s ≡ true = and_right t (nat_eq n s) is in grind (arith, nat_tests, e)

  sized_below : (t : Bool) (n s : ℕ) → (t && nat_lt s n) ≡ true → s < n
  sized_below t n s is = let e : nat_lt s n ≡ true = and_right t (nat_lt s n) is in grind (arith, nat_tests, e)

  by_below : (t : Bool) (n s : ℕ) → (t && nat_eq n s) ≡ true → (t && nat_lt s (n + 1)) ≡ true
  by_below false n s is = cc
  by_below true n s is = grind (arith, nat_tests, is)

  less : (t : Bool) (n s : ℕ) → (t && nat_eq n s) ≡ false → (t && nat_lt s (n + 1)) ≡ true → s < n
  less false n s is also = cc
  less true n s is also = grind (arith, nat_tests, is, also)

  -- the longest is one of a length where none is longer
  pub longest_some : (test : A → Bool) (n : ℕ) (xs : List A) (y : A) → longest size (λ x. test x && nat_eq n (size x)) xs ≡ Some y
      → longest size (λ x. test x && nat_lt (size x) (n + 1)) xs ≡ Some y
  longest_some test n [] y is = cc
  longest_some test n (x ∷ xs) y is = some_one n x y (test x && nat_eq n (size x)) (test x && nat_lt (size x) (n + 1)) _ _
      (by_below (test x) n (size x)) (sized (test x) n (size x)) (less (test x) n (size x))
      (λ z e. sized (test z) n (size z) (longest_passes (λ x. test x && nat_eq n (size x)) xs z e))
      (λ z e. sized_below (test z) (n + 1) (size z) (longest_passes (λ x. test x && nat_lt (size x) (n + 1)) xs z e))
      (longest_some test n xs) is

  nothing_below : (t : Bool) (s : ℕ) → (t && nat_lt s 0) ≡ false
  nothing_below false s = refl
  nothing_below true s = grind (arith, nat_tests)

  -- none is shorter than 0
  pub longest_zero : (test : A → Bool) (xs : List A) → longest size (λ x. test x && nat_lt (size x) 0) xs ≡ None
  longest_zero test [] = refl
  longest_zero test (x ∷ xs) = rw (nothing_below (test x) (size x)) (longest_zero test xs)

  -- by two tests that agree on each
  pub longest_same : (p q : A → Bool) (xs : List A) → All (λ x. p x ≡ q x) xs → longest size p xs ≡ longest size q xs
  longest_same p q [] all = refl
  longest_same p q (x ∷ xs) all =
      let h : p x ≡ q x = all 0 x (omega arith) in
      let t : longest size p xs ≡ longest size q xs = longest_same p q xs (λ k d lt. all (suc k) d (omega (arith, lt))) in rw (h, t)

  first_one : (n k : ℕ) (x : A) (xs : List A) (b : Bool) (o : Option A) → (b ≡ true → size x ≡ n) → ((z : A) → o ≡ Some z → size z ≡ n) → o ≡ slice_get xs k
      → cond b (Some (longer size x o)) o ≡ slice_get (x ∷ xs) (cond (not b) (1 + k) 0)
  first_one n k x xs false o here by more = let one : suc k ≡ 1 + k = omega arith in more ∙ ap (slice_get (x ∷ xs)) one
  first_one n k x xs true o here by more = ap Some (longer_first x o (λ z e. let f : size z ≡ n = by z e in let m : size x ≡ n = here refl in omega (arith, f, m)))

  -- of those of one length the longest is the first
  pub longest_first : (test : A → Bool) (n : ℕ) (xs : List A) → ((x : A) → test x ≡ true → size x ≡ n)
      → longest size test xs ≡ slice_get xs (position_or_len test xs)
  longest_first test n [] by = refl
  longest_first test n (x ∷ xs) by = first_one n (position_or_len test xs) x xs (test x) (longest size test xs) (by x)
      (λ z e. by z (longest_passes test xs z e)) (longest_first test n xs by)

  pub same_place : (p q : A → Bool) (xs : List A) → ((x : A) → p x ≡ q x) → position_or_len p xs ≡ position_or_len q xs
  same_place p q [] same = refl
  same_place p q (x ∷ xs) same = rw (same x, same_place p q xs same)

  -- where something was found
  pub found_at : (p : A → Bool) (xs : List A) (at : ℕ) → position p xs ≡ Some at → position_or_len p xs ≡ at
  found_at p xs at is = one (nat_lt (position_or_len p xs) (length xs)) is where
    one : (b : Bool) → cond b (Some (position_or_len p xs)) None ≡ Some at → position_or_len p xs ≡ at
    one true is = cc
    one false is = cc

  -- what was not found is not there
  pub found_nowhere : (p : A → Bool) (xs : List A) → position p xs ≡ None → length xs ≤ position_or_len p xs
  found_nowhere p xs is = past (nat_lt (position_or_len p xs) (length xs)) refl is where
    past : (b : Bool) → nat_lt (position_or_len p xs) (length xs) ≡ b → cond b (Some (position_or_len p xs)) None ≡ None → length xs ≤ position_or_len p xs
    past true lt is = cc
    past false lt is = grind (arith, nat_tests, lt)

  -- none passes
  pub longest_nowhere : (test : A → Bool) (xs : List A) → All (λ x. test x ≡ false) xs → longest size test xs ≡ None
  longest_nowhere test [] all = refl
  longest_nowhere test (x ∷ xs) all =
      let h : test x ≡ false = all 0 x (omega arith) in rw h (longest_nowhere test xs (λ k d lt. all (suc k) d (omega (arith, lt))))

  tail_in : (x y : A) (xs : List A) → Contains xs y → Contains (x ∷ xs) y
  tail_in x y xs in_tail = (suc in_tail.0, let lt : in_tail.0 < length xs = in_tail.1 in omega (arith, lt), in_tail.2)

  in_two : (x y z : A) (xs : List A) (b : Bool) → Contains xs z → Some (cond b z x) ≡ Some y → Contains (x ∷ xs) y
  in_two x y z xs true also is = let same : z ≡ y = cc in let P : A → Type 0 = λ w. Contains (x ∷ xs) w in subst P same (tail_in x z xs also)
  in_two x y z xs false also is = let same : x ≡ y = cc in (0, omega arith, same)

  in_one : (x y : A) (xs : List A) (o : Option A) (b : Bool) → ((z : A) → o ≡ Some z → Contains xs z) → cond b (Some (longer size x o)) o ≡ Some y → Contains (x ∷ xs) y
  in_one x y xs o false more is = tail_in x y xs (more y is)
  in_one x y xs None true more is = let same : x ≡ y = cc in (0, omega arith, same)
  in_one x y xs (Some z) true more is = in_two x y z xs (nat_lt (size x) (size z)) (more z refl) is

  -- the longest is one of them
  pub longest_in : (test : A → Bool) (xs : List A) (y : A) → longest size test xs ≡ Some y → Contains xs y
  longest_in test [] y is = cc
  longest_in test (x ∷ xs) y is = in_one x y xs (longest size test xs) (test x) (longest_in test xs) is

  out_one : (b : Bool) (x : A) (o : Option A) → cond b (Some (longer size x o)) o ≡ None → (b ≡ false) × (o ≡ None)
  out_one true x o is = cc
  out_one false x o is = (refl, is)

  -- where there is none, none passes
  pub longest_out : (test : A → Bool) (xs : List A) → longest size test xs ≡ None → All (λ x. test x ≡ false) xs
  longest_out test [] is = All-nil (λ x. test x ≡ false)
  longest_out test (x ∷ xs) is = let both : (test x ≡ false) × (longest size test xs ≡ None) = out_one (test x) x (longest size test xs) is in
      All-cons (λ x. test x ≡ false) x xs both.0 (longest_out test xs both.1)

  most_two : (x y z : A) (b : Bool) → nat_lt (size x) (size z) ≡ b → Some (cond b z x) ≡ Some y → (size x ≤ size y) × (size z ≤ size y)
  most_two x y z true lt is = let same : z ≡ y = cc in let e : size z ≡ size y = ap size same in (grind (arith, nat_tests, lt, e), omega (arith, e))
  most_two x y z false lt is = let same : x ≡ y = cc in let e : size x ≡ size y = ap size same in (omega (arith, e), grind (arith, nat_tests, lt, e))

  most_one : (x y : A) (o : Option A) (b : Bool) → cond b (Some (longer size x o)) o ≡ Some y → (b ≡ true → size x ≤ size y) × ((z : A) → o ≡ Some z → size z ≤ size y)
  most_one x y o false is = ((λ e. cc), λ z e. let same : z ≡ y = cc in let f : size z ≡ size y = ap size same in omega (arith, f))
  most_one x y None true is = ((λ e. let same : x ≡ y = cc in let f : size x ≡ size y = ap size same in omega (arith, f)), λ z e. cc)
  most_one x y (Some w) true is =
      let both : (size x ≤ size y) × (size w ≤ size y) = most_two x y w (nat_lt (size x) (size w)) refl is in
      ((λ e. both.0), λ z e. let same : w ≡ z = cc in let f : size w ≡ size z = ap size same in omega (arith, f, both.1))

  rest_most : (test : A → Bool) (xs : List A) (y : A) (o : Option A) → longest size test xs ≡ o → ((z : A) → o ≡ Some z → size z ≤ size y)
      → ((z : A) → o ≡ Some z → All (λ x. test x ≡ true → size x ≤ size z) xs) → (o ≡ None → All (λ x. test x ≡ false) xs) → All (λ x. test x ≡ true → size x ≤ size y) xs
  rest_most test xs y None is less more out = λ k d lt pass. let e : test (slice_index_or xs k d) ≡ false = out refl k d lt in cc
  rest_most test xs y (Some z) is less more out = λ k d lt pass.
      let e : size (slice_index_or xs k d) ≤ size z = more z refl k d lt pass in let f : size z ≤ size y = less z refl in omega (arith, e, f)

  -- none that passes is longer
  pub longest_most : (test : A → Bool) (xs : List A) (y : A) → longest size test xs ≡ Some y → All (λ x. test x ≡ true → size x ≤ size y) xs
  longest_most test [] y is = cc
  longest_most test (x ∷ xs) y is =
      let both : (test x ≡ true → size x ≤ size y) × ((z : A) → longest size test xs ≡ Some z → size z ≤ size y) = most_one x y (longest size test xs) (test x) is in
      All-cons (λ x. test x ≡ true → size x ≤ size y) x xs both.0
      (rest_most test xs y (longest size test xs) refl both.1 (longest_most test xs) (longest_out test xs))

  and_on : (b : Bool) → (b && true) ≡ b
  and_on true = refl
  and_on false = refl

  and_off : (b : Bool) → (b && false) ≡ false
  and_off true = refl
  and_off false = refl

  found_one : (pass : A → Bool) (n : ℕ) (x : A) (own : List A) (mine so_long : Bool) (o : Option A) → nat_eq n (size x) ≡ so_long → ((z : A) → o ≡ Some z → size z ≡ n)
      → find pass (filter (λ y. nat_eq n (size y)) own) ≡ o
      → find pass (filter (λ y. nat_eq n (size y)) (cond mine (x ∷ own) own)) ≡ cond ((mine && pass x) && so_long) (Some (longer size x o)) o
  found_one pass n x own false so_long o is by more = more
  found_one pass n x own true false o is by more =
      ap (λ b. find pass (cond b (x ∷ filter (λ y. nat_eq n (size y)) own) (filter (λ y. nat_eq n (size y)) own))) is ∙ more
      ∙ sym (ap (λ b. cond b (Some (longer size x o)) o) (and_off (pass x)))
  found_one pass n x own true true o is by more =
      let here : size x ≡ n = grind (arith, nat_tests, is) in
      let alone : longer size x o ≡ x = longer_first x o (λ z e. let f : size z ≡ n = by z e in omega (arith, f, here)) in
      ap (λ b. find pass (cond b (x ∷ filter (λ y. nat_eq n (size y)) own) (filter (λ y. nat_eq n (size y)) own))) is
      ∙ ap (λ p. cond (pass x) (Some x) p) more
      ∙ sym (ap (λ b. cond b (Some (longer size x o)) o) (and_on (pass x)) ∙ ap (λ y. cond (pass x) (Some y) o) alone)

  -- of one's own that have one length the longest that passes is the first that does
  pub longest_found : (mine pass : A → Bool) (n : ℕ) (xs : List A)
      → find pass (filter (λ x. nat_eq n (size x)) (filter mine xs)) ≡ longest size (λ x. (mine x && pass x) && nat_eq n (size x)) xs
  longest_found mine pass n [] = refl
  longest_found mine pass n (x ∷ xs) = found_one pass n x (filter mine xs) (mine x) (nat_eq n (size x)) (longest size (λ y. (mine y && pass y) && nat_eq n (size y)) xs) refl
      (λ z e. sized (mine z && pass z) n (size z) (longest_passes (λ y. (mine y && pass y) && nat_eq n (size y)) xs z e)) (longest_found mine pass n xs)
