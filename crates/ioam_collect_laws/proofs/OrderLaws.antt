-- What is kept of the records that were read of one path.
use Rattle.std.proofs.Common.{◌≡◌, ℕ, ◌<◌, Bool, true, false, cond, List, [], ◌∷◌, refl, sym, ap, ◌∙◌, subst, arith, ◌⊎◌, inl, inr}
use Rattle.std.specs.List.{AllByRecursion, list_any}
use Rattle.std.specs.Ordering.{nat_cmp, is_eq}
use Rattle.std.specs.declared.cmp.Ordering.TheVariants.{Less}
use Rattle.std.proofs.lemmas.Bool.{cases_Bool}
use Rattle.std.proofs.lemmas.Bool.Decides.{nat_tests}
use Rattle.ioam_pool.specs.Entry.{Entry, is_full, bare}
use Rattle.ioam_pool.specs.Order.{order, IsInOrder}
use Rattle.ioam_pool.proofs.OrderLaws.{order_total, order_same, order_itself, eq_equal, bare_itself}
use Rattle.ioam_collect.specs.Best.{pair_cmp, outdone, best, kept_of, of_key}
use Rattle.ioam_collect.specs.declared.key.Key.{Key}
use Rattle.ioam_collect.proofs.Members.{Has, any_from, any_at, all_at, all_from}
use Rattle.ioam_collect.proofs.Sorting.{same_members, arranged-has, has-arranged}
use Rattle.ioam_collect.proofs.KeyLaws.{pair, pair_total, pair_same}
use Rattle.ioam_collect.proofs.BestLaws.{outdone_by, outdoes, best_has, has_best, ordered}
use Rattle.ioam_collect.proofs.FiledLaws.{of_key-has, has-of_key, of_key-in_order}

-- hop values fall
abbrev pub IsFalling : List Entry → Type 0
IsFalling [] = Unit {0}
IsFalling (e ∷ es) = AllByRecursion (λ later. later.hops < e.hops) es × IsFalling es

abbrev pub holds : List Entry → Entry → Bool
holds es e = list_any (λ y. is_eq (order y e)) es

-- of these items those that were read, each as it is where it was read, or else bare where that was
abbrev pub those_read : List Entry → List Entry → List Entry
those_read read [] = []
those_read read (visit ∷ visits) =
    cond (holds read visit) (visit ∷ those_read read visits)
    (cond (holds read (bare visit)) (bare visit ∷ those_read read visits) (those_read read visits))

-- one of these, or one without its extra part
abbrev pub IsVisit : List Entry → Entry → Type 0
IsVisit visits e = Has visits e ⊎ ((visit : Entry) × Has visits visit × (e ≡ bare visit))

pub holds_has : (es : List Entry) (e : Entry) → holds es e ≡ true → Has es e
holds_has es e is_so =
    let found = any_at (λ y. is_eq (order y e)) es is_so in
    subst (Has es) (order_same found.0 e (eq_equal (order found.0 e) found.2)) found.1

pub has_holds : (es : List Entry) (e : Entry) → Has es e → holds es e ≡ true
has_holds es e has = any_from (λ y. is_eq (order y e)) es e has (order_itself e)

pub not_held : (es : List Entry) (e : Entry) → holds es e ≡ false → Has es e → ⊥
not_held es e not_so has = absurd (cc (not_so, has_holds es e has))

bare_full : (y e : Entry) → bare y ≡ e → is_full e ≡ true → ⊥
bare_full y e same full = let not_so : is_full e ≡ false = ap is_full (sym same) in absurd (cc (not_so, full))

less_by : (a b : ℕ) → a < b → nat_cmp a b ≡ Less
less_by a b lt = grind (arith, nat_tests)

order_falls : (a b : Entry) → b.hops < a.hops → order a b ≡ Less
order_falls a b lt = let less : nat_cmp b.hops a.hops ≡ Less = less_by b.hops a.hops lt in rw less refl

-- what of a visit was read
abbrev pub IsShownBy : List Entry → Entry → Entry → Type 0
IsShownBy read visit e = ((visit ≡ e) × Has read visit) ⊎ ((bare visit ≡ e) × Has read (bare visit) × (Has read visit → ⊥))

abbrev pub ShowsOne : List Entry → List Entry → Entry → Type 0
ShowsOne read visits e = (visit : Entry) × Has visits visit × IsShownBy read visit e

those_by : (read : List Entry) (visit : Entry) (b c : Bool) (more : List Entry) (e : Entry) → holds read visit ≡ b → holds read (bare visit) ≡ c
    → Has (cond b (visit ∷ more) (cond c (bare visit ∷ more) more)) e → IsShownBy read visit e ⊎ Has more e
those_by read visit true c more e is core (inl same) = inl (inl (same, holds_has read visit is))
those_by read visit true c more e is core (inr has) = inr has
those_by read visit false true more e is core (inl same) = inl (inr (same, holds_has read (bare visit) core, not_held read visit is))
those_by read visit false true more e is core (inr has) = inr has
those_by read visit false false more e is core has = inr has

by_those : (read : List Entry) (visit : Entry) (b c : Bool) (more : List Entry) (e : Entry) → holds read visit ≡ b → holds read (bare visit) ≡ c
    → IsShownBy read visit e ⊎ Has more e → Has (cond b (visit ∷ more) (cond c (bare visit ∷ more) more)) e
by_those read visit true c more e is core (inl (inl here)) = inl here.0
by_those read visit true c more e is core (inl (inr there)) = absurd (there.2 (holds_has read visit is))
by_those read visit true c more e is core (inr has) = inr has
by_those read visit false c more e is core (inl (inl here)) = absurd (not_held read visit is here.1)
by_those read visit false true more e is core (inl (inr there)) = inl there.0
by_those read visit false true more e is core (inr has) = inr has
by_those read visit false false more e is core (inl (inr there)) = absurd (not_held read (bare visit) core there.1)
by_those read visit false false more e is core (inr has) = has

those-has : (read visits : List Entry) (e : Entry) → Has (those_read read visits) e → ShowsOne read visits e
those-has read [] e has = absurd has
those-has read (visit ∷ visits) e has = elim (those_by read visit (holds read visit) (holds read (bare visit)) (those_read read visits) e refl refl has) [
  | inl shown ↦ (visit, inl refl, shown)
  | inr more ↦ let there = those-has read visits e more in (there.0, inr there.1, there.2)
]

has-those : (read visits : List Entry) (visit e : Entry) → Has visits visit → IsShownBy read visit e → Has (those_read read visits) e
has-those read [] visit e has shown = absurd has
has-those read (first ∷ visits) visit e (inl same) shown =
    by_those read first (holds read first) (holds read (bare first)) (those_read read visits) e refl refl
    (inl (subst (λ v. IsShownBy read v e) (sym same) shown))
has-those read (first ∷ visits) visit e (inr has) shown =
    by_those read first (holds read first) (holds read (bare first)) (those_read read visits) e refl refl
    (inr (has-those read visits visit e has shown))

-- what is shown has the hop value of its visit
shown_hops : (read : List Entry) (visit e : Entry) → IsShownBy read visit e → visit.hops ≡ e.hops
shown_hops read visit e (inl here) = ap (λ (x : Entry). x.hops) here.0
shown_hops read visit e (inr there) = ap (λ (x : Entry). x.hops) there.0

before_all : (read visits : List Entry) (first : Entry) → AllByRecursion (λ later. later.hops < first.hops) visits → (e : Entry) → e.hops ≡ first.hops
    → AllByRecursion (λ z. order e z ≡ Less) (those_read read visits)
before_all read visits first all e same = all_from (λ z. order e z ≡ Less) (those_read read visits) (λ z has.
    let there = those-has read visits z has in
    let hops : there.0.hops ≡ z.hops = shown_hops read there.0 z there.2 in
    let lt : there.0.hops < first.hops = all_at (λ (later : Entry). later.hops < first.hops) visits there.0 all there.1 in
    order_falls e z (omega arith))

order_by : (b c : Bool) (visit : Entry) (more : List Entry) → ((e : Entry) → e.hops ≡ visit.hops → AllByRecursion (λ z. order e z ≡ Less) more)
    → IsInOrder order more → IsInOrder order (cond b (visit ∷ more) (cond c (bare visit ∷ more) more))
order_by true c visit more before more_in = (before visit refl, more_in)
order_by false true visit more before more_in = (before (bare visit) refl, more_in)
order_by false false visit more before more_in = more_in

those-in_order : (read visits : List Entry) → IsFalling visits → IsInOrder order (those_read read visits)
those-in_order read [] falls = tt
those-in_order read (visit ∷ visits) falls =
    order_by (holds read visit) (holds read (bare visit)) visit (those_read read visits)
    (before_all read visits visit falls.0) (those-in_order read visits falls.1)

-- on a falling path a hop value is that of one visit
same_visit : (visits : List Entry) (a b : Entry) → IsFalling visits → Has visits a → Has visits b → a.hops ≡ b.hops → a ≡ b
same_visit [] a b falls has there same = absurd has
same_visit (x ∷ xs) a b falls (inl here) (inl there) same = sym here ∙ there
same_visit (x ∷ xs) a b falls (inl here) (inr there) same =
    let lt : b.hops < x.hops = all_at (λ (later : Entry). later.hops < x.hops) xs b falls.0 there in
    let hops : x.hops ≡ a.hops = ap (λ (e : Entry). e.hops) here in
    absurd (omega arith)
same_visit (x ∷ xs) a b falls (inr here) (inl there) same =
    let lt : a.hops < x.hops = all_at (λ (later : Entry). later.hops < x.hops) xs a falls.0 here in
    let hops : x.hops ≡ b.hops = ap (λ (e : Entry). e.hops) there in
    absurd (omega arith)
same_visit (x ∷ xs) a b falls (inr here) (inr there) same = same_visit xs a b falls.1 here there same

-- ---- the items of one key

module _ (ps : List (Key × Entry)) (key : Key) where
  abbrev read : List Entry
  read = of_key key ps

  -- one that is outdone is the bare one of another that was read
  pub item_outdone : (e : Entry) → outdone ps (pair key e) ≡ true → (y : Entry) × Has read y × (is_full y ≡ true) × (bare y ≡ e)
  item_outdone e is_so =
      let by = outdone_by ps (pair key e) is_so in
      let its : by.0.0 ≡ key = ap (λ (q : Key × Entry). q.0) by.3 in
      (by.0.1, has-of_key key by.0.1 ps (subst (λ k. Has ps (pair k by.0.1)) its by.1), by.2, ap (λ (q : Key × Entry). q.1) by.3)

  pub outdoes_item : (y : Entry) → Has read y → is_full y ≡ true → outdone ps (pair key (bare y)) ≡ true
  outdoes_item y has full = outdoes ps (pair key y) (of_key-has key ps y has) full

  pub kept-has : (e : Entry) → Has (of_key key (kept_of ps)) e → Has read e × (outdone ps (pair key e) ≡ true → ⊥)
  kept-has e has =
      let there = best_has ps (pair key e) (arranged-has pair_cmp pair_total pair_same (best ps) (pair key e) (of_key-has key (kept_of ps) e has)) in
      (has-of_key key e ps there.0, there.1)

  pub has-kept : (e : Entry) → Has read e → (outdone ps (pair key e) ≡ true → ⊥) → Has (of_key key (kept_of ps)) e
  has-kept e has kept = has-of_key key e (kept_of ps)
      (has-arranged pair_cmp pair_total pair_same (best ps) (pair key e) (has_best ps (pair key e) (of_key-has key ps e has) kept))

  module _ (visits : List Entry) (falls : IsFalling visits) (of : (e : Entry) → Has read e → IsVisit visits e) where
    core_shown : (v e : Entry) → Has visits v → e ≡ bare v → Has read e → (outdone ps (pair key e) ≡ true → ⊥) → ShowsOne read visits e
    core_shown v e there is has kept = elim (cases_Bool (is_full v)) [
      | inl whole ↦ (v, there, inr (sym is, subst (Has read) is has, λ v_read. kept (ap (λ x. outdone ps (pair key x)) is ∙ outdoes_item v v_read whole)))
      | inr not_so ↦ let same : e ≡ v = is ∙ bare_itself v not_so in (v, there, inl (sym same, subst (Has read) same has))
    ]

    shown_by : (e : Entry) → Has read e → (outdone ps (pair key e) ≡ true → ⊥) → IsVisit visits e → ShowsOne read visits e
    shown_by e has kept (inl there) = (e, there, inl (refl, has))
    shown_by e has kept (inr core) = core_shown core.0 e core.1 core.2 has kept

    whole_visit : (y : Entry) → is_full y ≡ true → IsVisit visits y → Has visits y
    whole_visit y is (inl there) = there
    whole_visit y is (inr core) = absurd (bare_full core.0 y (sym core.2) is)

    not_itself : (v e y : Entry) → y ≡ v → bare y ≡ e → is_full y ≡ true → Has read y → IsShownBy read v e → ⊥
    not_itself v e y same core is has (inl here) = bare_full y y (core ∙ sym here.0 ∙ sym same) is
    not_itself v e y same core is has (inr other) = other.2 (subst (Has read) same has)

    not_outdone : (v e : Entry) → Has visits v → IsShownBy read v e → outdone ps (pair key e) ≡ true → ⊥
    not_outdone v e there shown is_so =
        let by = item_outdone e is_so in
        let y = by.0 in
        let whole : Has visits y = whole_visit y by.2 (of y by.1) in
        let hops : y.hops ≡ v.hops = ap (λ (x : Entry). x.hops) by.3 ∙ sym (shown_hops read v e shown) in
        not_itself v e y (same_visit visits y v falls whole there hops) by.3 by.2 by.1 shown

    shown_read : (v e : Entry) → IsShownBy read v e → Has read e
    shown_read v e (inl here) = subst (Has read) here.0 here.1
    shown_read v e (inr core) = subst (Has read) core.0 core.1

    -- what is kept is what was read of the path
    pub path_is : of_key key (kept_of ps) ≡ those_read read visits
    path_is = same_members order order_total order_same (of_key key (kept_of ps)) (those_read read visits)
        (of_key-in_order key (kept_of ps) (ordered ps)) (those-in_order read visits falls)
        (λ e has.
        let kept = kept-has e has in
        let shown = shown_by e kept.0 kept.1 (of e kept.0) in
        has-those read visits shown.0 e shown.1 shown.2)
        (λ e has.
        let shown = those-has read visits e has in
        has-kept e (shown_read shown.0 e shown.2) (not_outdone shown.0 e shown.1 shown.2))
