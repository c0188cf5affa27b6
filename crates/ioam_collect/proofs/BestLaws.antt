-- What is kept of a list of pairs with one more at its end.
use Rattle.std.proofs.Common.{◌≡◌, Bool, true, false, not, ◌&&◌, List, [], ◌∷◌, ◌++◌, filter, refl, sym, ap, ◌∙◌, subst, ◌⊎◌, inl, inr}
use Rattle.std.specs.Ordering.{is_eq}
use Rattle.std.proofs.lemmas.Bool.{cases_Bool}
use Rattle.ioam_pool.specs.Entry.{Entry}
use Rattle.ioam_pool.specs.Order.{IsInOrder, placed}
use Rattle.ioam_collect.specs.Best.{pair_cmp, tells, untold, outdone, best, kept_of, RepeatsIn, ReplacesIn}
use Rattle.ioam_collect.specs.declared.key.Key.{Key}
use Rattle.ioam_collect.proofs.Members.{Has, has_from, contains_from, any_from, any_at, filter_has, has_filter}
use Rattle.ioam_collect.proofs.KeyLaws.{pair_total, pair_same, pair_itself, eq_equal, untold_tells, untold_itself}
use Rattle.ioam_collect.proofs.Sorting.{same_members, arranged-in_order, arranged-has, has-arranged, placed-has, has-placed, placed-in_order, filter-in_order}

-- these pairs without this one
abbrev pub without_pair : Key × Entry → List (Key × Entry) → List (Key × Entry)
without_pair p ps = filter (λ y. not (is_eq (pair_cmp y p))) ps

pub append-has : (es : List (Key × Entry)) (e z : Key × Entry) → Has (es ++ e ∷ []) z → Has es z ⊎ (e ≡ z)
append-has [] e z (inl is) = inr is
append-has [] e z (inr has) = absurd has
append-has (x ∷ es) e z (inl is) = inl (inl is)
append-has (x ∷ es) e z (inr has) = elim (append-has es e z has) [
  | inl there ↦ inl (inr there)
  | inr is ↦ inr is
]

pub has-append : (es : List (Key × Entry)) (e z : Key × Entry) → Has es z → Has (es ++ e ∷ []) z
has-append [] e z has = absurd has
has-append (x ∷ es) e z (inl is) = inl is
has-append (x ∷ es) e z (inr has) = inr (has-append es e z has)

has-last : (es : List (Key × Entry)) (e : Key × Entry) → Has (es ++ e ∷ []) e
has-last [] e = inl refl
has-last (x ∷ es) e = inr (has-last es e)

and_both : (b c : Bool) → (b && c) ≡ true → (b ≡ true) × (c ≡ true)
and_both true c is = (refl, is)
and_both false c is = absurd (cc is)

both_and : (b c : Bool) → b ≡ true → c ≡ true → (b && c) ≡ true
both_and true c b is = is
both_and false c b is = absurd (cc b)

-- a record that is outdone is the version 1 record of one that was read
pub outdone_by : (es : List (Key × Entry)) (e : Key × Entry) → outdone es e ≡ true → (y : Key × Entry) × Has es y × (tells y ≡ true) × (untold y ≡ e)
outdone_by es e is_so =
    let found = any_at (λ y. tells y && is_eq (pair_cmp (untold y) e)) es is_so in
    let both = and_both (tells found.0) (is_eq (pair_cmp (untold found.0) e)) found.2 in
    (found.0, found.1, both.0, pair_same (untold found.0) e (eq_equal (pair_cmp (untold found.0) e) both.1))

pub outdoes : (es : List (Key × Entry)) (y : Key × Entry) → Has es y → tells y ≡ true → outdone es (untold y) ≡ true
outdoes es y has full = any_from (λ z. tells z && is_eq (pair_cmp (untold z) (untold y))) es y has (both_and (tells y) _ full (pair_itself (untold y)))

pub not_true : (b : Bool) → not b ≡ true → b ≡ true → ⊥
not_true true is is_so = absurd (cc is)
not_true false is is_so = absurd (cc is_so)

pub true_not : (b : Bool) → (b ≡ true → ⊥) → not b ≡ true
true_not true not_so = absurd (not_so refl)
true_not false not_so = refl

pub best_has : (es : List (Key × Entry)) (e : Key × Entry) → Has (best es) e → Has es e × (outdone es e ≡ true → ⊥)
best_has es e has =
    let kept = filter_has (λ e. not (outdone es e)) es e has in
    (kept.0, not_true (outdone es e) kept.1)

pub has_best : (es : List (Key × Entry)) (e : Key × Entry) → Has es e → (outdone es e ≡ true → ⊥) → Has (best es) e
has_best es e has not_so = has_filter (λ e. not (outdone es e)) es e has (true_not (outdone es e) not_so)

pub group-has : (es : List (Key × Entry)) (z : Key × Entry) → Has (kept_of es) z → Has es z × (outdone es z ≡ true → ⊥)
group-has es z has = best_has es z (arranged-has pair_cmp pair_total pair_same (best es) z has)

pub has-group : (es : List (Key × Entry)) (z : Key × Entry) → Has es z → (outdone es z ≡ true → ⊥) → Has (kept_of es) z
has-group es z has kept = has-arranged pair_cmp pair_total pair_same (best es) z (has_best es z has kept)

pub ordered : (es : List (Key × Entry)) → IsInOrder pair_cmp (kept_of es)
ordered es = arranged-in_order pair_cmp pair_total pair_same (best es)

pub same_group : (xs ys : List (Key × Entry)) → IsInOrder pair_cmp xs → IsInOrder pair_cmp ys → ((z : Key × Entry) → Has xs z → Has ys z) → ((z : Key × Entry) → Has ys z → Has xs z) → xs ≡ ys
same_group = same_members pair_cmp pair_total pair_same

-- the best of what was read are kept
pub full_kept : (es : List (Key × Entry)) (e : Key × Entry) → tells e ≡ true → outdone es e ≡ true → ⊥
full_kept es e full is_so = let by = outdone_by es e is_so in untold_tells by.0 e by.3 full

module _ (es : List (Key × Entry)) (e : Key × Entry) where
  -- what is outdone with one record more
  outdone_more : (z : Key × Entry) → outdone (es ++ e ∷ []) z ≡ true → (outdone es z ≡ true) ⊎ ((tells e ≡ true) × (untold e ≡ z))
  outdone_more z is_so =
      let by = outdone_by (es ++ e ∷ []) z is_so in
      elim (append-has es e by.0 by.1) [
        | inl there ↦ inl (ap (outdone es) (sym by.3) ∙ outdoes es by.0 there by.2)
        | inr same ↦ inr (ap tells same ∙ by.2, ap untold same ∙ by.3)
      ]

  still_outdone : (z : Key × Entry) → outdone es z ≡ true → outdone (es ++ e ∷ []) z ≡ true
  still_outdone z is_so =
      let by = outdone_by es z is_so in
      ap (outdone (es ++ e ∷ [])) (sym by.3) ∙ outdoes (es ++ e ∷ []) by.0 (has-append es e by.0 by.1) by.2

  more-has : (z : Key × Entry) → Has (kept_of (es ++ e ∷ [])) z → (Has (kept_of es) z ⊎ (e ≡ z)) × (outdone (es ++ e ∷ []) z ≡ true → ⊥)
  more-has z has =
      let kept = group-has (es ++ e ∷ []) z has in (
        elim (append-has es e z kept.0) [
          | inl there ↦ inl (has-group es z there (λ is_so. kept.1 (still_outdone z is_so)))
          | inr same ↦ inr same
        ],
        kept.1,
      )

  has-more : (z : Key × Entry) → Has (kept_of es) z → ((tells e ≡ true) → untold e ≡ z → ⊥) → Has (kept_of (es ++ e ∷ [])) z
  has-more z has other =
      let kept = group-has es z has in
      has-group (es ++ e ∷ []) z (has-append es e z kept.0) (λ is_so. elim (outdone_more z is_so) [
        | inl before ↦ kept.1 before
        | inr now ↦ other now.0 now.1
      ])

  has-new : (outdone es e ≡ true → ⊥) → Has (kept_of (es ++ e ∷ [])) e
  has-new kept = has-group (es ++ e ∷ []) e (has-last es e) (λ is_so. elim (outdone_more e is_so) [
    | inl before ↦ kept before
    | inr now ↦ untold_tells e e now.1 now.0
  ])

  same_again : Has (kept_of es) e → kept_of (es ++ e ∷ []) ≡ kept_of es
  same_again there =
      let kept = group-has es e there in
      same_group _ _ (ordered (es ++ e ∷ [])) (ordered es)
      (λ z has. elim ((more-has z has).0) [
        | inl before ↦ before
        | inr same ↦ subst (Has (kept_of es)) same there
      ])
      (λ z has. has-more z has (λ full core. (group-has es z has).1 (ap (outdone es) (sym core) ∙ outdoes es e kept.0 full)))

  bare_again : (y : Key × Entry) → tells e ≡ false → tells y ≡ true → Has (kept_of es) y → untold y ≡ e → kept_of (es ++ e ∷ []) ≡ kept_of es
  bare_again y bare_e full there core =
      let done : outdone es e ≡ true = ap (outdone es) (sym core) ∙ outdoes es y (group-has es y there).0 full in
      same_group _ _ (ordered (es ++ e ∷ [])) (ordered es)
      (λ z has. elim ((more-has z has).0) [
        | inl before ↦ before
        | inr same ↦ absurd ((more-has z has).1 (ap (outdone (es ++ e ∷ [])) (sym same) ∙ still_outdone e done))
      ])
      (λ z has. has-more z has (λ full_e core_e. absurd (cc (full_e, bare_e))))

  pub repeat_is : RepeatsIn (kept_of es) e → kept_of (es ++ e ∷ []) ≡ kept_of es
  repeat_is (inl there) = same_again (has_from (kept_of es) e there)
  repeat_is (inr (bare_e, y, there, cores)) =
      let core : untold y ≡ e = cores ∙ untold_itself e bare_e in
      let has : Has (kept_of es) y = has_from (kept_of es) y there in
      elim (cases_Bool (tells y)) [
        | inl full ↦ bare_again y bare_e full has core
        | inr not_so ↦ same_again (subst (Has (kept_of es)) (sym (untold_itself y not_so) ∙ core) has)
      ]

  pub replaced_is : ReplacesIn (kept_of es) e → kept_of (es ++ e ∷ []) ≡ placed pair_cmp e (without_pair (untold e) (kept_of es))
  replaced_is is =
      let test : Key × Entry → Bool = λ y. not (is_eq (pair_cmp y (untold e))) in
      let rest : List (Key × Entry) = without_pair (untold e) (kept_of es) in
      same_group _ _ (ordered (es ++ e ∷ [])) (placed-in_order pair_cmp pair_total pair_same e rest (filter-in_order pair_cmp pair_total pair_same test (kept_of es) (ordered es)))
      (λ z has. let kept = more-has z has in has-placed pair_cmp pair_total pair_same e z rest (elim kept.0 [
        | inl before ↦ inr (has_filter test (kept_of es) z before (true_not (is_eq (pair_cmp z (untold e)))
            (λ is_so. kept.1 (ap (outdone (es ++ e ∷ [])) (pair_same z (untold e) (eq_equal (pair_cmp z (untold e)) is_so))
            ∙ outdoes (es ++ e ∷ []) e (has-last es e) is.0))))
        | inr same ↦ inl same
      ]))
      (λ z has. elim (placed-has pair_cmp pair_total pair_same e z rest has) [
        | inl same ↦ subst (Has (kept_of (es ++ e ∷ []))) same (has-new (full_kept es e is.0))
        | inr there ↦
            let kept = filter_has test (kept_of es) z there in
            has-more z kept.0 (λ full core. not_true (is_eq (pair_cmp z (untold e))) kept.1 (subst (λ x. is_eq (pair_cmp x (untold e)) ≡ true) core (pair_itself (untold e))))
      ])

  pub kept_is : (RepeatsIn (kept_of es) e → ⊥) → (ReplacesIn (kept_of es) e → ⊥) → kept_of (es ++ e ∷ []) ≡ placed pair_cmp e (kept_of es)
  kept_is no_repeat no_replace =
      let group : List (Key × Entry) = kept_of es in
      let kept_e : outdone es e ≡ true → ⊥ = λ is_so.
      let by = outdone_by es e is_so in
      let there : Has group by.0 = has-group es by.0 by.1 (full_kept es by.0 by.2) in
      let bare_e : tells e ≡ false = ap tells (sym by.3) in
      no_repeat (inr (bare_e, by.0, contains_from group by.0 there, by.3 ∙ sym (untold_itself e bare_e))) in
      same_group _ _ (ordered (es ++ e ∷ [])) (placed-in_order pair_cmp pair_total pair_same e group (ordered es))
      (λ z has. has-placed pair_cmp pair_total pair_same e z group (elim ((more-has z has).0) [
        | inl before ↦ inr before
        | inr same ↦ inl same
      ]))
      (λ z has. elim (placed-has pair_cmp pair_total pair_same e z group has) [
        | inl same ↦ subst (Has (kept_of (es ++ e ∷ []))) same (has-new kept_e)
        | inr there ↦ has-more z there (λ full core. no_replace (full, contains_from group (untold e) (subst (Has group) (sym core) there)))
      ])
