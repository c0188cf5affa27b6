-- What is kept of a list of pairs, key by key.
use Rattle.std.proofs.Common.{◌≡◌, ◌≢◌, ◌+◌, Bool, true, false, cond, not, List, [], ◌∷◌, ◌++◌, length, refl, sym, ap, ◌∙◌, subst, ◌⊎◌, inl, inr}
use Rattle.std.specs.Prelude.{Result, Ok, Err}
use Rattle.std.specs.List.{AllByRecursion}
use Rattle.std.specs.Ordering.{ordering_then, is_eq}
use Rattle.std.specs.declared.cmp.Ordering.TheVariants.{Less}
use Rattle.std.proofs.lemmas.Cmp.{tied_itself}
use Rattle.ioam_pool.specs.Entry.{Entry, bare}
use Rattle.ioam_pool.specs.Order.{order, IsInOrder, placed, without, Repeats, Replaces}
use Rattle.ioam_pool.proofs.OrderLaws.{order_total, order_same}
use Rattle.ioam_collect.specs.Keyed.{key_cmp}
use Rattle.ioam_collect.specs.Best.{pair_cmp, kept_of, of_key, RepeatsIn, ReplacesIn}
use Rattle.ioam_collect.specs.Gathered.{Gathered, group_in, AreOf}
use Rattle.ioam_collect.specs.Adds.{Adds, IsOf, Turns}
use Rattle.ioam_collect.specs.declared.growing.Added.{Added}
use Rattle.ioam_collect.specs.declared.growing.Added.TheVariants.{Kept, Replaced, Repeat, Unkeyed, Full}
use Rattle.ioam_collect.specs.declared.key.Key.{Key}
use Rattle.ioam_collect.proofs.Members.{Has, has_from, contains_from, all_at, all_from, filter_has, has_filter}
use Rattle.ioam_collect.proofs.Sorting.{same_members, placed-has, has-placed, placed-in_order, filter-in_order, placed-length, left_out-length}
use Rattle.ioam_collect.proofs.KeyLaws.{key_total, key_same, key_itself, key_or_not, eq_equal, pair, pair_total, pair_same, pair_itself}
use Rattle.ioam_collect.proofs.BestLaws.{without_pair, ordered, repeat_is, replaced_is, kept_is, not_true, true_not}

-- the items of a key are those that stand with it
of_key_by : (b : Bool) (y e : Entry) (more : List Entry) → Has (cond b (y ∷ more) more) e → ((b ≡ true) × (y ≡ e)) ⊎ Has more e
of_key_by true y e more (inl is) = inl (refl, is)
of_key_by true y e more (inr has) = inr has
of_key_by false y e more has = inr has

by_of_key : (b : Bool) (y e : Entry) (more : List Entry) → ((b ≡ true) × (y ≡ e)) ⊎ Has more e → Has (cond b (y ∷ more) more) e
by_of_key true y e more (inl is) = inl is.1
by_of_key true y e more (inr has) = inr has
by_of_key false y e more (inl is) = absurd (cc is.0)
by_of_key false y e more (inr has) = has

pub of_key-has : (key : Key) (ps : List (Key × Entry)) (e : Entry) → Has (of_key key ps) e → Has ps (pair key e)
of_key-has key [] e has = absurd has
of_key-has key (p ∷ ps) e has = elim (of_key_by (is_eq (key_cmp key p.0)) p.1 e (of_key key ps) has) [
  | inl here ↦
      let same : p.0 ≡ key = sym (key_same key p.0 (eq_equal (key_cmp key p.0) here.0)) in
      inl (ap (λ k. pair k p.1) same ∙ ap (pair key) here.1)
  | inr there ↦ inr (of_key-has key ps e there)
]

pub has-of_key : (key : Key) (e : Entry) (ps : List (Key × Entry)) → Has ps (pair key e) → Has (of_key key ps) e
has-of_key key e [] has = absurd has
has-of_key key e (p ∷ ps) (inl same) =
    let its : p.0 ≡ key = ap (λ (q : Key × Entry). q.0) same in
    let item : p.1 ≡ e = ap (λ (q : Key × Entry). q.1) same in
    by_of_key (is_eq (key_cmp key p.0)) p.1 e (of_key key ps) (inl (ap (λ k. is_eq (key_cmp key k)) its ∙ key_itself key, item))
has-of_key key e (p ∷ ps) (inr has) = by_of_key (is_eq (key_cmp key p.0)) p.1 e (of_key key ps) (inr (has-of_key key e ps has))

-- they are in order where the pairs are
item_less : (key : Key) (e z : Entry) → pair_cmp (pair key e) (pair key z) ≡ Less → order e z ≡ Less
item_less key e z less = sym (ap (λ o. ordering_then o (order e z)) (tied_itself key_total key)) ∙ less

first_in_order : (key : Key) (p : Key × Entry) (ps : List (Key × Entry)) (b : Bool) → is_eq (key_cmp key p.0) ≡ b
    → AllByRecursion (λ q. pair_cmp p q ≡ Less) ps → IsInOrder order (of_key key ps) → IsInOrder order (cond b (p.1 ∷ of_key key ps) (of_key key ps))
first_in_order key p ps true is all more =
    let its : p.0 ≡ key = sym (key_same key p.0 (eq_equal (key_cmp key p.0) is)) in
    let same : p ≡ pair key p.1 = ap (λ k. pair k p.1) its in
    let Behind : Entry → Type 0 = λ z. order p.1 z ≡ Less in (
      all_from Behind (of_key key ps) (λ z has.
          let less : pair_cmp p (pair key z) ≡ Less = all_at (λ q. pair_cmp p q ≡ Less) ps (pair key z) all (of_key-has key ps z has) in
          item_less key p.1 z (subst (λ q. pair_cmp q (pair key z) ≡ Less) same less)),
      more,
    )
first_in_order key p ps false is all more = more

pub of_key-in_order : (key : Key) (ps : List (Key × Entry)) → IsInOrder pair_cmp ps → IsInOrder order (of_key key ps)
of_key-in_order key [] a = tt
of_key-in_order key (p ∷ ps) a = first_in_order key p ps (is_eq (key_cmp key p.0)) refl a.0 (of_key-in_order key ps a.1)

same_items : (xs ys : List Entry) → IsInOrder order xs → IsInOrder order ys → ((z : Entry) → Has xs z → Has ys z) → ((z : Entry) → Has ys z → Has xs z) → xs ≡ ys
same_items = same_members order order_total order_same

module _ (ps : List (Key × Entry)) (a : IsInOrder pair_cmp ps) (key : Key) where
  same_pair : (item e : Entry) → item ≡ e → pair key item ≡ pair key e
  same_pair item e same = ap (pair key) same

  pair_item : (item e : Entry) → pair key item ≡ pair key e → item ≡ e
  pair_item item e same = ap (λ (q : Key × Entry). q.1) same

  apart_pair : (other : Key) (item e : Entry) → other ≢ key → pair key item ≡ pair other e → ⊥
  apart_pair other item e apart same = apart (sym (ap (λ (q : Key × Entry). q.0) same))

  -- one placed among the pairs is placed among the items of its key
  pub placed_here : (item : Entry) → of_key key (placed pair_cmp (pair key item) ps) ≡ placed order item (of_key key ps)
  placed_here item =
      let more : List (Key × Entry) = placed pair_cmp (pair key item) ps in
      same_items (of_key key more) (placed order item (of_key key ps))
      (of_key-in_order key more (placed-in_order pair_cmp pair_total pair_same (pair key item) ps a))
      (placed-in_order order order_total order_same item (of_key key ps) (of_key-in_order key ps a))
      (λ z has. has-placed order order_total order_same item z (of_key key ps)
      (elim (placed-has pair_cmp pair_total pair_same (pair key item) (pair key z) ps (of_key-has key more z has)) [
        | inl same ↦ inl (pair_item item z same)
        | inr there ↦ inr (has-of_key key z ps there)
      ]))
      (λ z has. has-of_key key z more (has-placed pair_cmp pair_total pair_same (pair key item) (pair key z) ps
      (elim (placed-has order order_total order_same item z (of_key key ps) has) [
        | inl same ↦ inl (same_pair item z same)
        | inr there ↦ inr (of_key-has key ps z there)
      ])))

  -- and leaves those of the other keys
  pub placed_other : (item : Entry) (other : Key) → other ≢ key → of_key other (placed pair_cmp (pair key item) ps) ≡ of_key other ps
  placed_other item other apart =
      let more : List (Key × Entry) = placed pair_cmp (pair key item) ps in
      same_items (of_key other more) (of_key other ps)
      (of_key-in_order other more (placed-in_order pair_cmp pair_total pair_same (pair key item) ps a))
      (of_key-in_order other ps a)
      (λ z has. elim (placed-has pair_cmp pair_total pair_same (pair key item) (pair other z) ps (of_key-has other more z has)) [
        | inl same ↦ absurd (apart_pair other item z apart same)
        | inr there ↦ has-of_key other z ps there
      ])
      (λ z has. has-of_key other z more (has-placed pair_cmp pair_total pair_same (pair key item) (pair other z) ps (inr (of_key-has other ps z has))))

  test : Key × Entry → Key × Entry → Bool
  test q y = not (is_eq (pair_cmp y q))

  rest_in_order : (q : Key × Entry) → IsInOrder pair_cmp (without_pair q ps)
  rest_in_order q = filter-in_order pair_cmp pair_total pair_same (λ y. not (is_eq (pair_cmp y q))) ps a

  -- likewise one that is left out
  pub without_here : (item : Entry) → of_key key (without_pair (pair key item) ps) ≡ without item (of_key key ps)
  without_here item =
      let rest : List (Key × Entry) = without_pair (pair key item) ps in
      let items : List Entry = without item (of_key key ps) in
      same_items (of_key key rest) items
      (of_key-in_order key rest (rest_in_order (pair key item)))
      (filter-in_order order order_total order_same (λ y. not (is_eq (order y item))) (of_key key ps) (of_key-in_order key ps a))
      (λ z has.
      let kept = filter_has (λ y. not (is_eq (pair_cmp y (pair key item)))) ps (pair key z) (of_key-has key rest z has) in
      has_filter (λ y. not (is_eq (order y item))) (of_key key ps) z (has-of_key key z ps kept.0)
      (true_not (is_eq (order z item)) (λ is_so. not_true (is_eq (pair_cmp (pair key z) (pair key item))) kept.1
      (subst (λ y. is_eq (pair_cmp (pair key z) y) ≡ true) (same_pair z item (order_same z item (eq_equal (order z item) is_so))) (pair_itself (pair key z))))))
      (λ z has.
      let kept = filter_has (λ y. not (is_eq (order y item))) (of_key key ps) z has in
      has-of_key key z rest (has_filter (λ y. not (is_eq (pair_cmp y (pair key item)))) ps (pair key z) (of_key-has key ps z kept.0)
      (true_not (is_eq (pair_cmp (pair key z) (pair key item))) (λ is_so. not_true (is_eq (order z item)) kept.1
      (subst (λ y. is_eq (order z y) ≡ true)
      (pair_item z item (pair_same (pair key z) (pair key item) (eq_equal (pair_cmp (pair key z) (pair key item)) is_so)))
      (ap is_eq (tied_itself order_total z)))))))

  pub without_other : (item : Entry) (other : Key) → other ≢ key → of_key other (without_pair (pair key item) ps) ≡ of_key other ps
  without_other item other apart =
      let rest : List (Key × Entry) = without_pair (pair key item) ps in
      same_items (of_key other rest) (of_key other ps)
      (of_key-in_order other rest (rest_in_order (pair key item)))
      (of_key-in_order other ps a)
      (λ z has. has-of_key other z ps (filter_has (λ y. not (is_eq (pair_cmp y (pair key item)))) ps (pair other z) (of_key-has other rest z has)).0)
      (λ z has. has-of_key other z rest (has_filter (λ y. not (is_eq (pair_cmp y (pair key item)))) ps (pair other z) (of_key-has other ps z has)
      (true_not (is_eq (pair_cmp (pair other z) (pair key item))) (λ is_so. apart_pair other item z apart
      (sym (pair_same (pair other z) (pair key item) (eq_equal (pair_cmp (pair other z) (pair key item)) is_so)))))))

  -- what a group repeats or replaces is what the pairs do
  pub repeats_item : (item : Entry) → Repeats (of_key key ps) item → RepeatsIn ps (pair key item)
  repeats_item item (inl there) = inl (contains_from ps (pair key item) (of_key-has key ps item (has_from (of_key key ps) item there)))
  repeats_item item (inr (is, y, there, same)) =
      inr (is, pair key y, contains_from ps (pair key y) (of_key-has key ps y (has_from (of_key key ps) y there)), ap (pair key) same)

  pub item_repeats : (item : Entry) → RepeatsIn ps (pair key item) → Repeats (of_key key ps) item
  item_repeats item (inl there) = inl (contains_from (of_key key ps) item (has-of_key key item ps (has_from ps (pair key item) there)))
  item_repeats item (inr (is, y, there, same)) =
      let its : y.0 ≡ key = ap (λ (q : Key × Entry). q.0) same in
      let bares : bare y.1 ≡ bare item = ap (λ (q : Key × Entry). q.1) same in
      let has : Has ps (pair key y.1) = subst (Has ps) (ap (λ k. pair k y.1) its) (has_from ps y there) in
      inr (is, y.1, contains_from (of_key key ps) y.1 (has-of_key key y.1 ps has), bares)

  pub replaces_item : (item : Entry) → Replaces (of_key key ps) item → ReplacesIn ps (pair key item)
  replaces_item item (full, there) = (full, contains_from ps (pair key (bare item)) (of_key-has key ps (bare item) (has_from (of_key key ps) (bare item) there)))

  pub item_replaces : (item : Entry) → ReplacesIn ps (pair key item) → Replaces (of_key key ps) item
  item_replaces item (full, there) = (full, contains_from (of_key key ps) (bare item) (has-of_key key (bare item) ps (has_from ps (pair key (bare item)) there)))

module _ (old : Gathered) (ps : List (Key × Entry)) (are : AreOf old ps) (key : Key) (item : Entry) where
  abbrev p : Key × Entry
  p = pair key item

  abbrev kept : List (Key × Entry)
  kept = kept_of ps

  abbrev more : List (Key × Entry)
  more = ps ++ p ∷ []

  a : IsInOrder pair_cmp kept
  a = ordered ps

  no_repeat_in : (Repeats (group_in old.groups key) item → ⊥) → RepeatsIn kept p → ⊥
  no_repeat_in none repeats = none (rw (are.each key) (item_repeats kept a key item repeats))

  no_replace_in : (Replaces (group_in old.groups key) item → ⊥) → ReplacesIn kept p → ⊥
  no_replace_in none replaces = none (rw (are.each key) (item_replaces kept a key item replaces))

  of_repeat : Repeats (group_in old.groups key) item → AreOf old more
  of_repeat repeats =
      let in_kept : RepeatsIn kept p = repeats_item kept a key item (rw (are.each key) at repeats) in
      let same : kept_of more ≡ kept = repeat_is ps p in_kept in
      record { each = λ other. are.each other ∙ ap (of_key other) (sym same); held = are.held ∙ ap length (sym same) }

  module _ (new : Gathered) (none : Repeats (group_in old.groups key) item → ⊥) where
    turned_by : (items : List Entry) (now : List (Key × Entry)) → Turns old key items new → items ≡ of_key key now
        → ((other : Key) → other ≢ key → of_key other now ≡ of_key other kept) → (other : Key) → (key ≡ other) ⊎ (is_eq (key_cmp key other) ≡ false)
        → group_in new.groups other ≡ of_key other now
    turned_by items now turns here others other (inl same) = rw (← same) (turns.here ∙ here)
    turned_by items now turns here others other (inr isnt) =
        let apart : other ≢ key = λ same. absurd (cc (rw same at isnt, key_itself key)) in
        turns.others other apart ∙ are.each other ∙ sym (others other apart)

    of_kept : (Replaces (group_in old.groups key) item → ⊥) → Turns old key (placed order item (group_in old.groups key)) new → new.held ≡ old.held + 1
        → AreOf new more
    of_kept none' turns one =
        let is : kept_of more ≡ placed pair_cmp p kept = kept_is ps p (no_repeat_in none) (no_replace_in none') in
        let absent : Has kept p → ⊥ = λ has. no_repeat_in none (inl (contains_from kept p has)) in
        let longer : length (placed pair_cmp p kept) ≡ length kept + 1 = placed-length pair_cmp pair_total pair_same p kept absent in
        record {
          each = λ other. turned_by (placed order item (group_in old.groups key)) (placed pair_cmp p kept) turns
              (ap (placed order item) (are.each key) ∙ sym (placed_here kept a key item)) (placed_other kept a key item) other (key_or_not key other)
              ∙ ap (of_key other) (sym is);
          held = one ∙ ap (λ n. n + 1) are.held ∙ sym longer ∙ ap length (sym is);
        }

    of_replaced : Replaces (group_in old.groups key) item → Turns old key (placed order item (without (bare item) (group_in old.groups key))) new → new.held ≡ old.held
        → AreOf new more
    of_replaced replaces turns same =
        let in_kept : ReplacesIn kept p = replaces_item kept a key item (rw (are.each key) at replaces) in
        let rest : List (Key × Entry) = without_pair (pair key (bare item)) kept in
        let is : kept_of more ≡ placed pair_cmp p rest = replaced_is ps p in_kept in
        let rest_order : IsInOrder pair_cmp rest = filter-in_order pair_cmp pair_total pair_same (λ y. not (is_eq (pair_cmp y (pair key (bare item))))) kept a in
        let absent : Has rest p → ⊥ = λ has. no_repeat_in none (inl (contains_from kept p (filter_has (λ y. not (is_eq (pair_cmp y (pair key (bare item))))) kept p has).0)) in
        let longer : length (placed pair_cmp p rest) ≡ length rest + 1 = placed-length pair_cmp pair_total pair_same p rest absent in
        let shorter : length rest + 1 ≡ length kept = left_out-length pair_cmp pair_total pair_same (pair key (bare item)) kept a (has_from kept (pair key (bare item)) in_kept.1) in
        record {
          each = λ other. turned_by (placed order item (without (bare item) (group_in old.groups key))) (placed pair_cmp p rest) turns
              (ap (λ es. placed order item (without (bare item) es)) (are.each key) ∙ ap (placed order item) (sym (without_here kept a key (bare item)))
              ∙ sym (placed_here rest rest_order key item))
              (λ other apart. placed_other rest rest_order key item other apart ∙ without_other kept a key (bare item) other apart) other (key_or_not key other)
              ∙ ap (of_key other) (sym is);
          held = same ∙ are.held ∙ sym shorter ∙ sym longer ∙ ap length (sym is);
        }

-- what adding answers says what the groups are of
pub is_of : {E : Type 0} (old new : Gathered) (key : Key) (item : Entry) (r : Result Added E) → Adds old key item r new → IsOf old key item r new
is_of old new key item (Ok Kept) adds = λ ps are. of_kept old ps are key item new adds.0 adds.1 adds.3 adds.4
is_of old new key item (Ok Replaced) adds = λ ps are. of_replaced old ps are key item new adds.0 adds.1 adds.2 adds.3
is_of old new key item (Ok Repeat) adds = λ ps are. rw adds.1 (of_repeat old ps are key item adds.0)
is_of old new key item (Ok Unkeyed) adds = absurd adds
is_of old new key item (Ok Full) adds = adds.3
is_of old new key item (Err e) adds = adds
