-- Lists in strict order: their members determine them, and `arranged` is one of them.
use Rattle.std.proofs.Common.{◌≡◌, ◌+◌, length, arith, Bool, true, false, cond, not, filter, List, [], ◌∷◌, refl, sym, ap, ap₂, ◌∙◌, subst, ◌⊎◌, inl, inr}
use Rattle.std.specs.Cmp.{IsTotalOrder}
use Rattle.std.specs.List.{AllByRecursion}
use Rattle.std.specs.declared.cmp.Ordering.{Ordering}
use Rattle.std.specs.declared.cmp.Ordering.TheVariants.{Less, Equal, Greater}
use Rattle.std.specs.Ordering.{is_eq}
use Rattle.std.proofs.lemmas.Cmp.{tied_itself}
use Rattle.ioam_pool.specs.Order.{IsInOrder, placed_by, placed}
use Rattle.ioam_collect.specs.Best.{arranged}
use Rattle.ioam_collect.proofs.Members.{Has, all_at, all_from, filter_has}

module _ {X : Type 0} (cmp : X → X → Ordering) (total : IsTotalOrder cmp) (exact : (a b : X) → cmp a b ≡ Equal → a ≡ b) where
  not_itself : (a : X) → cmp a a ≡ Less → ⊥
  not_itself a less = let itself = tied_itself total a in absurd (cc (less, itself))

  not_both : (a b : X) → cmp a b ≡ Less → cmp b a ≡ Less → ⊥
  not_both a b less back = not_itself a (total.trans a b a less back)

  same_first : (x y : X) (xs ys : List X) → IsInOrder cmp (x ∷ xs) → IsInOrder cmp (y ∷ ys) → Has (y ∷ ys) x → Has (x ∷ xs) y → x ≡ y
  same_first x y xs ys a b (inl same) back = sym same
  same_first x y xs ys a b (inr there) (inl same) = same
  same_first x y xs ys a b (inr there) (inr back) =
      absurd (not_both x y (all_at (λ z. cmp x z ≡ Less) xs y a.0 back) (all_at (λ z. cmp y z ≡ Less) ys x b.0 there))

  behind : (x y z : X) (xs ys : List X) → x ≡ y → IsInOrder cmp (x ∷ xs) → Has xs z → Has (y ∷ ys) z → Has ys z
  behind x y z xs ys same a has (inr there) = there
  behind x y z xs ys same a has (inl is) =
      let less : cmp x z ≡ Less = all_at (λ z. cmp x z ≡ Less) xs z a.0 has in
      absurd (not_itself x (ap (cmp x) (same ∙ is) ∙ less))

  -- a list in order is determined by its members
  pub same_members : (xs ys : List X) → IsInOrder cmp xs → IsInOrder cmp ys
      → ((z : X) → Has xs z → Has ys z) → ((z : X) → Has ys z → Has xs z) → xs ≡ ys
  same_members [] [] a b there back = refl
  same_members [] (y ∷ ys) a b there back = absurd (back y (inl refl))
  same_members (x ∷ xs) [] a b there back = absurd (there x (inl refl))
  same_members (x ∷ xs) (y ∷ ys) a b there back =
      let same : x ≡ y = same_first x y xs ys a b (there x (inl refl)) (back y (inl refl)) in
      let rest : xs ≡ ys = same_members xs ys a.1 b.1
      (λ z has. behind x y z xs ys same a has (there z (inr has)))
      (λ z has. behind y x z ys xs (sym same) b has (back z (inr has))) in
      ap₂ (λ z zs. z ∷ zs) same rest

  placed_by-has : (o : Ordering) (x y z : X) (ys more : List X) → (Has more z → (x ≡ z) ⊎ Has ys z)
      → Has (placed_by o x y ys more) z → (x ≡ z) ⊎ Has (y ∷ ys) z
  placed_by-has Less x y z ys more rest has = has
  placed_by-has Equal x y z ys more rest has = inr has
  placed_by-has Greater x y z ys more rest (inl is) = inr (inl is)
  placed_by-has Greater x y z ys more rest (inr has) = elim (rest has) [
    | inl is ↦ inl is
    | inr there ↦ inr (inr there)
  ]

  pub placed-has : (x z : X) (ys : List X) → Has (placed cmp x ys) z → (x ≡ z) ⊎ Has ys z
  placed-has x z [] has = has
  placed-has x z (y ∷ ys) has = placed_by-has (cmp x y) x y z ys (placed cmp x ys) (placed-has x z ys) has

  has-placed_by : (o : Ordering) (x y z : X) (ys more : List X) → cmp x y ≡ o → ((x ≡ z) ⊎ Has ys z → Has more z)
      → (x ≡ z) ⊎ Has (y ∷ ys) z → Has (placed_by o x y ys more) z
  has-placed_by Less x y z ys more is rest has = has
  has-placed_by Equal x y z ys more is rest (inl same) = inl (sym (exact x y is) ∙ same)
  has-placed_by Equal x y z ys more is rest (inr there) = there
  has-placed_by Greater x y z ys more is rest (inl same) = inr (rest (inl same))
  has-placed_by Greater x y z ys more is rest (inr (inl same)) = inl same
  has-placed_by Greater x y z ys more is rest (inr (inr there)) = inr (rest (inr there))

  pub has-placed : (x z : X) (ys : List X) → (x ≡ z) ⊎ Has ys z → Has (placed cmp x ys) z
  has-placed x z [] has = has
  has-placed x z (y ∷ ys) has = has-placed_by (cmp x y) x y z ys (placed cmp x ys) refl (has-placed x z ys) has

  all_behind : (x y : X) (ys : List X) → cmp x y ≡ Less → AllByRecursion (λ z. cmp y z ≡ Less) ys → AllByRecursion (λ z. cmp x z ≡ Less) ys
  all_behind x y [] less all = tt
  all_behind x y (z ∷ zs) less all = (total.trans x y z less all.0, all_behind x y zs less all.1)

  order_back : (x y : X) → cmp x y ≡ Greater → cmp y x ≡ Less
  order_back x y e = let r = total.antisymm y x in rw e at r

  placed_by-in_order : (o : Ordering) (x y : X) (ys : List X) → cmp x y ≡ o → IsInOrder cmp (y ∷ ys) → IsInOrder cmp (placed cmp x ys)
      → IsInOrder cmp (placed_by o x y ys (placed cmp x ys))
  placed_by-in_order Less x y ys is a more = ((is, all_behind x y ys is a.0), a)
  placed_by-in_order Equal x y ys is a more = a
  placed_by-in_order Greater x y ys is a more =
      let Behind : X → Type 0 = λ z. cmp y z ≡ Less in (
        all_from Behind (placed cmp x ys) (λ z has. elim (placed-has x z ys has) [
          | inl same ↦ subst Behind same (order_back x y is)
          | inr there ↦ all_at Behind ys z a.0 there
        ]),
        more,
      )

  pub placed-in_order : (x : X) (ys : List X) → IsInOrder cmp ys → IsInOrder cmp (placed cmp x ys)
  placed-in_order x [] a = (tt, tt)
  placed-in_order x (y ∷ ys) a = placed_by-in_order (cmp x y) x y ys refl a (placed-in_order x ys a.1)

  pub arranged-in_order : (xs : List X) → IsInOrder cmp (arranged cmp xs)
  arranged-in_order [] = tt
  arranged-in_order (x ∷ xs) = placed-in_order x (arranged cmp xs) (arranged-in_order xs)

  pub arranged-has : (xs : List X) (z : X) → Has (arranged cmp xs) z → Has xs z
  arranged-has [] z has = has
  arranged-has (x ∷ xs) z has = elim (placed-has x z (arranged cmp xs) has) [
    | inl same ↦ inl same
    | inr there ↦ inr (arranged-has xs z there)
  ]

  pub has-arranged : (xs : List X) (z : X) → Has xs z → Has (arranged cmp xs) z
  has-arranged [] z has = has
  has-arranged (x ∷ xs) z (inl same) = has-placed x z (arranged cmp xs) (inl same)
  has-arranged (x ∷ xs) z (inr there) = has-placed x z (arranged cmp xs) (inr (has-arranged xs z there))

  -- ---- lengths

  placed_by-length : (o : Ordering) (x y : X) (ys more : List X) → (o ≡ Equal → ⊥) → length more ≡ length ys + 1
      → length (placed_by o x y ys more) ≡ length (y ∷ ys) + 1
  placed_by-length Less x y ys more apart is = omega arith
  placed_by-length Equal x y ys more apart is = absurd (apart refl)
  placed_by-length Greater x y ys more apart is = omega arith

  pub placed-length : (x : X) (ys : List X) → (Has ys x → ⊥) → length (placed cmp x ys) ≡ length ys + 1
  placed-length x [] apart = refl
  placed-length x (y ∷ ys) apart =
      placed_by-length (cmp x y) x y ys (placed cmp x ys) (λ e. apart (inl (sym (exact x y e)))) (placed-length x ys (λ has. apart (inr has)))

  placed_by-some : (o : Ordering) (x y : X) (ys more : List X) → placed_by o x y ys more ≡ [] → ⊥
  placed_by-some Less x y ys more e = absurd (cc e)
  placed_by-some Equal x y ys more e = absurd (cc e)
  placed_by-some Greater x y ys more e = absurd (cc e)

  pub placed-some : (x : X) (ys : List X) → placed cmp x ys ≡ [] → ⊥
  placed-some x [] e = absurd (cc e)
  placed-some x (y ∷ ys) e = placed_by-some (cmp x y) x y ys (placed cmp x ys) e

  pub itself : (x : X) → is_eq (cmp x x) ≡ true
  itself x = ap is_eq (tied_itself total x)

  -- these without one
  abbrev pub left_out : X → List X → List X
  left_out z xs = filter (λ y. not (is_eq (cmp y z))) xs

  less_other : (o : Ordering) → o ≡ Less → is_eq o ≡ false
  less_other o is = ap is_eq is

  greater_other : (x y : X) → cmp y x ≡ Less → is_eq (cmp x y) ≡ false
  greater_other x y less = let r = total.antisymm x y in let greater : cmp x y ≡ Greater = rw less at r in ap is_eq greater

  pub left_out-all : (z : X) (xs : List X) → AllByRecursion (λ y. cmp z y ≡ Less) xs → left_out z xs ≡ xs
  left_out-all z [] all = refl
  left_out-all z (x ∷ xs) all = rw (greater_other x z all.0) (ap (λ ys. x ∷ ys) (left_out-all z xs all.1))

  pub left_out-length : (z : X) (xs : List X) → IsInOrder cmp xs → Has xs z → length (left_out z xs) + 1 ≡ length xs
  left_out-length z [] ordered has = absurd has
  left_out-length z (x ∷ xs) ordered (inl same) =
      let yes : is_eq (cmp x z) ≡ true = ap (λ y. is_eq (cmp y z)) same ∙ itself z in
      let Behind : X → Type 0 = λ w. AllByRecursion (λ y. cmp w y ≡ Less) xs in
      let rest : left_out z xs ≡ xs = left_out-all z xs (subst Behind same ordered.0) in
      rw (yes, rest) (omega arith)
  left_out-length z (x ∷ xs) ordered (inr has) =
      let less : cmp x z ≡ Less = all_at (λ y. cmp x y ≡ Less) xs z ordered.0 has in
      let more = left_out-length z xs ordered.1 has in
      rw (less_other (cmp x z) less) (omega arith)

  keep_order : (test : X → Bool) (b : Bool) (x : X) (xs : List X) → AllByRecursion (λ y. cmp x y ≡ Less) xs → IsInOrder cmp (filter test xs)
      → IsInOrder cmp (cond b (x ∷ filter test xs) (filter test xs))
  keep_order test true x xs all more =
      let Behind : X → Type 0 = λ y. cmp x y ≡ Less in
      (all_from Behind (filter test xs) (λ z has. all_at Behind xs z all (filter_has test xs z has).0), more)
  keep_order test false x xs all more = more

  pub filter-in_order : (test : X → Bool) (xs : List X) → IsInOrder cmp xs → IsInOrder cmp (filter test xs)
  filter-in_order test [] a = tt
  filter-in_order test (x ∷ xs) a = keep_order test (test x) x xs a.0 (filter-in_order test xs a.1)
