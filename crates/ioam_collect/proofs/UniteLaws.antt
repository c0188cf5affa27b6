-- Two lists of pairs in order, side by side.
use Rattle.std.proofs.Common.{◌≡◌, Bool, true, false, List, [], ◌∷◌, ◌++◌, refl, sym, ap, ap₂, ◌∙◌, subst, ◌⊎◌, inl, inr}
use Rattle.std.specs.List.{AllByRecursion}
use Rattle.std.specs.Ordering.{ordering_then}
use Rattle.std.specs.declared.cmp.Ordering.{Ordering}
use Rattle.std.specs.declared.cmp.Ordering.TheVariants.{Less, Equal, Greater}
use Rattle.std.proofs.lemmas.Bool.{cases_Bool}
use Rattle.std.proofs.lemmas.Cmp.{tied_itself, alike_right}
use Rattle.ioam_pool.specs.Entry.{Entry, bare}
use Rattle.ioam_pool.specs.Order.{meet, IsInOrder}
use Rattle.ioam_collect.specs.Keyed.{key_cmp}
use Rattle.ioam_collect.specs.Best.{pair_cmp, tells, untold, outdone, kept_of}
use Rattle.ioam_collect.specs.Unite.{pair_meet, tied, one_by, beside, united, AreApart}
use Rattle.ioam_collect.specs.declared.key.Key.{Key}
use Rattle.ioam_collect.proofs.Members.{Has, all_at, all_from}
use Rattle.ioam_pool.proofs.OrderLaws.{meet_trans, meet_back, meet_even, meet_order, tie_bare, tie_full, bare_itself, bare_ties}
use Rattle.ioam_collect.proofs.KeyLaws.{pair, key_total, key_same, then_equal, pair_total}
use Rattle.ioam_collect.proofs.BestLaws.{group-has, has-group, ordered, same_group, full_kept, outdone_by, outdoes}
use Rattle.ioam_collect.proofs.JoinLaws.{Within, both-has, has-left, has-right, kept_covered, covers_more}

-- ---- pairs that meet

pair_trans_by : (a b c : Key × Entry) (r s : Ordering) → key_cmp a.0 b.0 ≡ r → key_cmp b.0 c.0 ≡ s → ordering_then r (meet a.1 b.1) ≡ Less
    → ordering_then s (meet b.1 c.1) ≡ Less → pair_meet a c ≡ Less
pair_trans_by a b c Less Less p q x y = rw (key_total.trans a.0 b.0 c.0 p q) refl
pair_trans_by a b c Less Equal p q x y = let same : key_cmp a.0 c.0 ≡ Less = sym (alike_right key_total b.0 c.0 a.0 q) ∙ p in rw same refl
pair_trans_by a b c Less Greater p q x y = absurd (cc y)
pair_trans_by a b c Equal Less p q x y = let same : key_cmp a.0 c.0 ≡ Less = key_total.congr a.0 b.0 c.0 p ∙ q in rw same refl
pair_trans_by a b c Equal Equal p q x y = let same : key_cmp a.0 c.0 ≡ Equal = key_total.congr a.0 b.0 c.0 p ∙ q in rw same (meet_trans a.1 b.1 c.1 x y)
pair_trans_by a b c Equal Greater p q x y = absurd (cc y)
pair_trans_by a b c Greater s p q x y = absurd (cc x)

pub pair_meet_trans : (a b c : Key × Entry) → pair_meet a b ≡ Less → pair_meet b c ≡ Less → pair_meet a c ≡ Less
pair_meet_trans a b c x y = pair_trans_by a b c (key_cmp a.0 b.0) (key_cmp b.0 c.0) refl refl x y

key_back : (a b : Key) → key_cmp a b ≡ Greater → key_cmp b a ≡ Less
key_back a b e = let r = key_total.antisymm b a in rw e at r

key_even : (a b : Key) → key_cmp a b ≡ Equal → key_cmp b a ≡ Equal
key_even a b e = let r = key_total.antisymm b a in rw e at r

pair_back_by : (a b : Key × Entry) (r : Ordering) → key_cmp a.0 b.0 ≡ r → ordering_then r (meet a.1 b.1) ≡ Greater → pair_meet b a ≡ Less
pair_back_by a b Less is e = absurd (cc e)
pair_back_by a b Equal is e = rw (key_even a.0 b.0 is) (meet_back a.1 b.1 e)
pair_back_by a b Greater is e = rw (key_back a.0 b.0 is) refl

pub pair_meet_back : (a b : Key × Entry) → pair_meet a b ≡ Greater → pair_meet b a ≡ Less
pair_meet_back a b e = pair_back_by a b (key_cmp a.0 b.0) refl e

pair_order_by : (a b : Key × Entry) (r : Ordering) → key_cmp a.0 b.0 ≡ r → ordering_then r (meet a.1 b.1) ≡ Less → pair_cmp a b ≡ Less
pair_order_by a b Less is e = rw is refl
pair_order_by a b Equal is e = rw is (meet_order a.1 b.1 e)
pair_order_by a b Greater is e = absurd (cc e)

-- what doesn't tie is in the order
pub pair_meet_order : (a b : Key × Entry) → pair_meet a b ≡ Less → pair_cmp a b ≡ Less
pair_meet_order a b e = pair_order_by a b (key_cmp a.0 b.0) refl e

pair_tie : (a b : Key × Entry) → pair_meet a b ≡ Equal → (a.0 ≡ b.0) × (meet a.1 b.1 ≡ Equal)
pair_tie a b e = let parts = then_equal (key_cmp a.0 b.0) (meet a.1 b.1) e in (key_same a.0 b.0 parts.0, parts.1)

-- two that tie are the same without their visits
pub tie_untold : (a b : Key × Entry) → pair_meet a b ≡ Equal → untold a ≡ untold b
tie_untold a b e = let parts = pair_tie a b e in ap₂ pair parts.0 (tie_bare a.1 b.1 parts.1)

pub untold_bare : (a : Key × Entry) → tells a ≡ false → untold a ≡ a
untold_bare a is = ap (pair a.0) (bare_itself a.1 is)

pub tie_told : (a b : Key × Entry) → pair_meet a b ≡ Equal → tells a ≡ true → tells b ≡ true → a ≡ b
tie_told a b e one two = let parts = pair_tie a b e in ap₂ pair parts.0 (tie_full a.1 b.1 parts.1 one two)

pub tie_untold_both : (a b : Key × Entry) → pair_meet a b ≡ Equal → tells a ≡ false → tells b ≡ false → a ≡ b
tie_untold_both a b e one two = sym (untold_bare a one) ∙ tie_untold a b e ∙ untold_bare b two

-- one ties with the one that is the same without its visit, either way round
pub told_ties : (y z : Key × Entry) → untold y ≡ z → pair_meet z y ≡ Equal
told_ties y z same =
    let P : Key × Entry → Type 0 = λ w. pair_meet w y ≡ Equal in
    subst P same (ap (λ o. ordering_then o (meet (bare y.1) y.1)) (tied_itself key_total y.0) ∙ bare_ties y.1)

pub pair_meet_even : (a b : Key × Entry) → pair_meet a b ≡ Equal → pair_meet b a ≡ Equal
pair_meet_even a b e =
    let parts = then_equal (key_cmp a.0 b.0) (meet a.1 b.1) e in
    rw (key_even a.0 b.0 parts.0) (meet_even a.1 b.1 parts.1)

-- ---- lists in which no two tie

pub all_less : (x y : Key × Entry) (ys : List (Key × Entry)) → pair_meet x y ≡ Less → AllByRecursion (λ z. pair_meet y z ≡ Less) ys
    → AllByRecursion (λ z. pair_meet x z ≡ Less) ys
all_less x y [] less all = tt
all_less x y (z ∷ zs) less all = (pair_meet_trans x y z less all.0, all_less x y zs less all.1)

pub in_order_from : (ps : List (Key × Entry)) → AreApart ps → IsInOrder pair_cmp ps
in_order_from [] a = tt
in_order_from (p ∷ ps) a = (
  all_from (λ z. pair_cmp p z ≡ Less) ps (λ z has. pair_meet_order p z (all_at (λ z. pair_meet p z ≡ Less) ps z a.0 has)),
  in_order_from ps a.1,
)

abbrev One : Key × Entry → Key × Entry → Type 0
One a b = (a ≡ b) ⊎ ((pair_meet a b ≡ Less) ⊎ (pair_meet b a ≡ Less))

two_members : (ps : List (Key × Entry)) → AreApart ps → (a b : Key × Entry) → Has ps a → Has ps b → One a b
two_members [] s a b here there = absurd here
two_members (p ∷ ps) s a b (inl is) (inl same) = inl (sym is ∙ same)
two_members (p ∷ ps) s a b (inl is) (inr there) =
    inr (inl (subst (λ w. pair_meet w b ≡ Less) is (all_at (λ z. pair_meet p z ≡ Less) ps b s.0 there)))
two_members (p ∷ ps) s a b (inr here) (inl same) =
    inr (inr (subst (λ w. pair_meet w a ≡ Less) same (all_at (λ z. pair_meet p z ≡ Less) ps a s.0 here)))
two_members (p ∷ ps) s a b (inr here) (inr there) = two_members ps s.1 a b here there

-- nothing in such a list is outdone by another
none_outdone : (ps : List (Key × Entry)) → AreApart ps → (z : Key × Entry) → Has ps z → outdone ps z ≡ true → ⊥
none_outdone ps apart z has is_so =
    let by = outdone_by ps z is_so in
    let tie : pair_meet z by.0 ≡ Equal = told_ties by.0 z by.3 in
    elim (two_members ps apart z by.0 has by.1) [
      | inl same ↦ full_kept ps z (ap tells same ∙ by.2) is_so
      | inr (inl less) ↦ absurd (cc (less, tie))
      | inr (inr less) ↦ let even = pair_meet_even z by.0 tie in absurd (cc (less, even))
    ]

-- all of it is kept, as it stands
pub apart_kept : (ps : List (Key × Entry)) → AreApart ps → kept_of ps ≡ ps
apart_kept ps apart = same_group (kept_of ps) ps (ordered ps) (in_order_from ps apart)
    (λ z has. (group-has ps z has).0)
    (λ z has. has-group ps z has (none_outdone ps apart z has))

-- and what is kept is such a list
less_meets_by : (ps : List (Key × Entry)) (a b : Key × Entry) → Has (kept_of ps) a → Has (kept_of ps) b → pair_cmp a b ≡ Less
    → (o : Ordering) → pair_meet a b ≡ o → pair_meet a b ≡ Less
less_meets_by ps a b here there less Less is = is
less_meets_by ps a b here there less Greater is =
    let back : pair_cmp b a ≡ Less = pair_meet_order b a (pair_meet_back a b is) in
    let itself : pair_cmp a a ≡ Less = pair_total.trans a b a less back in
    let tied_is = tied_itself pair_total a in
    absurd (cc (itself, tied_is))
less_meets_by ps a b here there less Equal is =
    let same : untold a ≡ untold b = tie_untold a b is in
    let one = group-has ps a here in
    let two = group-has ps b there in
    let not_itself : a ≡ b → ⊥ = λ same. let itself : pair_cmp a a ≡ Less = ap (pair_cmp a) same ∙ less in let tied_is = tied_itself pair_total a in absurd (cc (itself, tied_is)) in
    elim (cases_Bool (tells a)) [
      | inl full ↦ elim (cases_Bool (tells b)) [
        | inl full' ↦ absurd (not_itself (tie_told a b is full full'))
        | inr bare' ↦ absurd (two.1 (ap (outdone ps) (sym (same ∙ untold_bare b bare')) ∙ outdoes ps a one.0 full))
      ]
      | inr bare_a ↦ elim (cases_Bool (tells b)) [
        | inl full' ↦ absurd (one.1 (ap (outdone ps) (sym (sym same ∙ untold_bare a bare_a)) ∙ outdoes ps b two.0 full'))
        | inr bare' ↦ absurd (not_itself (tie_untold_both a b is bare_a bare'))
      ]
    ]

kept_apart_by : (ps rest : List (Key × Entry)) → Within rest (kept_of ps) → IsInOrder pair_cmp rest → AreApart rest
kept_apart_by ps [] within a = tt
kept_apart_by ps (p ∷ rest) within a = (
  all_from (λ z. pair_meet p z ≡ Less) rest (λ z has.
      less_meets_by ps p z (within p (inl refl)) (within z (inr has)) (all_at (λ z. pair_cmp p z ≡ Less) rest z a.0 has) (pair_meet p z) refl),
  kept_apart_by ps rest (λ z has. within z (inr has)) a.1,
)

pub kept_apart : (ps : List (Key × Entry)) → AreApart (kept_of ps)
kept_apart ps = kept_apart_by ps (kept_of ps) (λ z has. has) (ordered ps)

-- ---- side by side: members

tied-has : (a b : Bool) (x z : Key × Entry) (left both right : List (Key × Entry)) → Has (tied a b x left both right) z
    → (x ≡ z) ⊎ (Has left z ⊎ (Has both z ⊎ Has right z))
tied-has true true x z left both right (inl is) = inl is
tied-has true true x z left both right (inr has) = inr (inr (inl has))
tied-has false false x z left both right (inl is) = inl is
tied-has false false x z left both right (inr has) = inr (inr (inl has))
tied-has false true x z left both right has = inr (inl has)
tied-has true false x z left both right has = inr (inr (inr has))

one-has : (o : Ordering) (x y z : Key × Entry) (left both right : List (Key × Entry)) → Has (one_by o x y left both right) z
    → ((x ≡ z) ⊎ (y ≡ z)) ⊎ (Has left z ⊎ (Has both z ⊎ Has right z))
one-has Less x y z left both right (inl is) = inl (inl is)
one-has Less x y z left both right (inr has) = inr (inl has)
one-has Equal x y z left both right has = elim (tied-has (tells x) (tells y) x z left both right has) [
  | inl is ↦ inl (inl is)
  | inr more ↦ inr more
]
one-has Greater x y z left both right (inl is) = inl (inr is)
one-has Greater x y z left both right (inr has) = inr (inr (inr has))

abbrev InEither : List (Key × Entry) → List (Key × Entry) → Key × Entry → Type 0
InEither xs ys z = Has xs z ⊎ Has ys z

more_left : (x : Key × Entry) (xs ys : List (Key × Entry)) (z : Key × Entry) → InEither xs ys z → InEither (x ∷ xs) ys z
more_left x xs ys z (inl one) = inl (inr one)
more_left x xs ys z (inr two) = inr two

more_right : (y : Key × Entry) (xs ys : List (Key × Entry)) (z : Key × Entry) → InEither xs ys z → InEither xs (y ∷ ys) z
more_right y xs ys z (inl one) = inl one
more_right y xs ys z (inr two) = inr (inr two)

module _ (x : Key × Entry) (xs : List (Key × Entry)) (below : (ys : List (Key × Entry)) (z : Key × Entry) → Has (united xs ys) z → InEither xs ys z) where
  beside-has : (ys : List (Key × Entry)) (z : Key × Entry) → Has (beside x (united xs) ys) z → InEither (x ∷ xs) ys z
  beside-has [] z (inl is) = inl (inl is)
  beside-has [] z (inr has) = more_left x xs [] z (below [] z has)
  beside-has (y ∷ ys) z has =
      elim (one-has (pair_meet x y) x y z (united xs (y ∷ ys)) (united xs ys) (beside x (united xs) ys) has) [
        | inl (inl is) ↦ inl (inl is)
        | inl (inr is) ↦ inr (inl is)
        | inr (inl left) ↦ more_left x xs (y ∷ ys) z (below (y ∷ ys) z left)
        | inr (inr (inl both)) ↦ more_left x xs (y ∷ ys) z (more_right y xs ys z (below ys z both))
        | inr (inr (inr right)) ↦ more_right y (x ∷ xs) ys z (beside-has ys z right)
      ]

united-has : (xs ys : List (Key × Entry)) (z : Key × Entry) → Has (united xs ys) z → InEither xs ys z
united-has [] ys z has = inr has
united-has (x ∷ xs) ys z has = beside-has x xs (united-has xs) ys z has

-- ---- in order

all_united : (P : Key × Entry → Type 0) (xs ys : List (Key × Entry)) → AllByRecursion P xs → AllByRecursion P ys → AllByRecursion P (united xs ys)
all_united P xs ys one two = all_from P (united xs ys) (λ z has. elim (united-has xs ys z has) [
  | inl here ↦ all_at P xs z one here
  | inr there ↦ all_at P ys z two there
])

abbrev Before : Key × Entry → List (Key × Entry) → Type 0
Before x ys = AllByRecursion (λ z. pair_meet x z ≡ Less) ys

module _ (x y : Key × Entry) (xs ys : List (Key × Entry)) (a : AreApart (x ∷ xs)) (b : AreApart (y ∷ ys))
    (left : AreApart (united xs (y ∷ ys))) (both : AreApart (united xs ys)) (right : AreApart (united (x ∷ xs) ys)) where
  same_apart : x ≡ y → AreApart (x ∷ united xs ys)
  same_apart same = (all_united (λ z. pair_meet x z ≡ Less) xs ys a.0 (subst (λ w. Before w ys) (sym same) b.0), both)

  tied_apart : (s t : Bool) → pair_meet x y ≡ Equal → tells x ≡ s → tells y ≡ t
      → AreApart (tied s t x (united xs (y ∷ ys)) (united xs ys) (united (x ∷ xs) ys))
  tied_apart true true tie p q = same_apart (tie_told x y tie p q)
  tied_apart false false tie p q = same_apart (tie_untold_both x y tie p q)
  tied_apart false true tie p q = left
  tied_apart true false tie p q = right

  one_apart : (o : Ordering) → pair_meet x y ≡ o → AreApart (one_by o x y (united xs (y ∷ ys)) (united xs ys) (united (x ∷ xs) ys))
  one_apart Less less = (all_united (λ z. pair_meet x z ≡ Less) xs (y ∷ ys) a.0 (less, all_less x y ys less b.0), left)
  one_apart Equal tie = tied_apart (tells x) (tells y) tie refl refl
  one_apart Greater more =
      let less : pair_meet y x ≡ Less = pair_meet_back x y more in
      (all_united (λ z. pair_meet y z ≡ Less) (x ∷ xs) ys (less, all_less y x xs less a.0) b.0, right)

module _ (x : Key × Entry) (xs : List (Key × Entry)) (a : AreApart (x ∷ xs)) (below : (ys : List (Key × Entry)) → AreApart ys → AreApart (united xs ys)) where
  beside_apart : (ys : List (Key × Entry)) → AreApart ys → AreApart (united (x ∷ xs) ys)
  beside_apart [] b = (all_united (λ z. pair_meet x z ≡ Less) xs [] a.0 tt, below [] tt)
  beside_apart (y ∷ ys) b = one_apart x y xs ys a b (below (y ∷ ys) b) (below ys b.1) (beside_apart ys b.1) (pair_meet x y) refl

pub united_apart : (xs ys : List (Key × Entry)) → AreApart xs → AreApart ys → AreApart (united xs ys)
united_apart [] ys a b = b
united_apart (x ∷ xs) ys a b = beside_apart x xs a (λ zs c. united_apart xs zs a.1 c) ys b

-- ---- what is left out is outdone

abbrev Has' : List (Key × Entry) → Key × Entry → Type 0
Has' qs z = Has qs z ⊎ (outdone qs z ≡ true)

-- one that is outdone by one that is there, or outdone there, is outdone
by_other : (qs : List (Key × Entry)) (x y : Key × Entry) → tells y ≡ true → untold y ≡ x → Has' qs y → outdone qs x ≡ true
by_other qs x y full same (inl there) = ap (outdone qs) (sym same) ∙ outdoes qs y there full
by_other qs x y full same (inr out) = absurd (full_kept qs y full out)

module _ (x y : Key × Entry) (xs ys : List (Key × Entry))
    (left : (z : Key × Entry) → InEither xs (y ∷ ys) z → Has' (united xs (y ∷ ys)) z)
    (both : (z : Key × Entry) → InEither xs ys z → Has' (united xs ys) z)
    (right : (z : Key × Entry) → InEither (x ∷ xs) ys z → Has' (united (x ∷ xs) ys) z) where
  behind_one : (w : Key × Entry) (qs : List (Key × Entry)) (z : Key × Entry) → Has' qs z → Has' (w ∷ qs) z
  behind_one w qs z has = covers_more (w ∷ qs) qs (λ v there. inr there) z has

  same_covers : x ≡ y → (z : Key × Entry) → InEither (x ∷ xs) (y ∷ ys) z → Has' (x ∷ united xs ys) z
  same_covers same z (inl (inl is)) = inl (inl is)
  same_covers same z (inl (inr one)) = behind_one x (united xs ys) z (both z (inl one))
  same_covers same z (inr (inl is)) = inl (inl (same ∙ is))
  same_covers same z (inr (inr two)) = behind_one x (united xs ys) z (both z (inr two))

  without_first : pair_meet x y ≡ Equal → tells x ≡ false → tells y ≡ true → (z : Key × Entry) → InEither (x ∷ xs) (y ∷ ys) z → Has' (united xs (y ∷ ys)) z
  without_first tie p q z (inl (inl is)) =
      let same : untold y ≡ x = sym (tie_untold x y tie) ∙ untold_bare x p in
      inr (ap (outdone (united xs (y ∷ ys))) (sym is) ∙ by_other (united xs (y ∷ ys)) x y q same (left y (inr (inl refl))))
  without_first tie p q z (inl (inr one)) = left z (inl one)
  without_first tie p q z (inr two) = left z (inr two)

  without_second : pair_meet x y ≡ Equal → tells x ≡ true → tells y ≡ false → (z : Key × Entry) → InEither (x ∷ xs) (y ∷ ys) z → Has' (united (x ∷ xs) ys) z
  without_second tie p q z (inr (inl is)) =
      let same : untold x ≡ y = tie_untold x y tie ∙ untold_bare y q in
      inr (ap (outdone (united (x ∷ xs) ys)) (sym is) ∙ by_other (united (x ∷ xs) ys) y x p same (right x (inl (inl refl))))
  without_second tie p q z (inr (inr two)) = right z (inr two)
  without_second tie p q z (inl one) = right z (inl one)

  tied_covers : (s t : Bool) → pair_meet x y ≡ Equal → tells x ≡ s → tells y ≡ t → (z : Key × Entry) → InEither (x ∷ xs) (y ∷ ys) z
      → Has' (tied s t x (united xs (y ∷ ys)) (united xs ys) (united (x ∷ xs) ys)) z
  tied_covers true true tie p q = same_covers (tie_told x y tie p q)
  tied_covers false false tie p q = same_covers (tie_untold_both x y tie p q)
  tied_covers false true tie p q = without_first tie p q
  tied_covers true false tie p q = without_second tie p q

  one_covers : (o : Ordering) → pair_meet x y ≡ o → (z : Key × Entry) → InEither (x ∷ xs) (y ∷ ys) z
      → Has' (one_by o x y (united xs (y ∷ ys)) (united xs ys) (united (x ∷ xs) ys)) z
  one_covers Less is z (inl (inl same)) = inl (inl same)
  one_covers Less is z (inl (inr one)) = behind_one x (united xs (y ∷ ys)) z (left z (inl one))
  one_covers Less is z (inr two) = behind_one x (united xs (y ∷ ys)) z (left z (inr two))
  one_covers Equal is z either = tied_covers (tells x) (tells y) is refl refl z either
  one_covers Greater is z (inr (inl same)) = inl (inl same)
  one_covers Greater is z (inr (inr two)) = behind_one y (united (x ∷ xs) ys) z (right z (inr two))
  one_covers Greater is z (inl one) = behind_one y (united (x ∷ xs) ys) z (right z (inl one))

module _ (x : Key × Entry) (xs : List (Key × Entry)) (below : (ys : List (Key × Entry)) (z : Key × Entry) → InEither xs ys z → Has' (united xs ys) z) where
  beside_covers : (ys : List (Key × Entry)) (z : Key × Entry) → InEither (x ∷ xs) ys z → Has' (united (x ∷ xs) ys) z
  beside_covers [] z (inl (inl is)) = inl (inl is)
  beside_covers [] z (inl (inr one)) = covers_more (x ∷ united xs []) (united xs []) (λ v there. inr there) z (below [] z (inl one))
  beside_covers [] z (inr two) = absurd two
  beside_covers (y ∷ ys) z either = one_covers x y xs ys (below (y ∷ ys)) (below ys) (beside_covers ys) (pair_meet x y) refl z either

united_covers : (xs ys : List (Key × Entry)) (z : Key × Entry) → InEither xs ys z → Has' (united xs ys) z
united_covers [] ys z (inl one) = absurd one
united_covers [] ys z (inr two) = inl two
united_covers (x ∷ xs) ys z either = beside_covers x xs (united_covers xs) ys z either

-- of two lists in order, in which no two tie, what is kept of both is what one finds going along them side by side
pub united_kept : (xs ys : List (Key × Entry)) → AreApart xs → AreApart ys → united xs ys ≡ kept_of (xs ++ ys)
united_kept xs ys a b =
    let u : List (Key × Entry) = united xs ys in
    sym (apart_kept u (united_apart xs ys a b))
    ∙ sym (kept_covered (xs ++ ys) u
    (λ z has. elim (united-has xs ys z has) [
      | inl one ↦ has-left xs ys z one
      | inr two ↦ has-right xs ys z two
    ])
    (λ z has. united_covers xs ys z (both-has xs ys z has)))
