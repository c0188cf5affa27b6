-- Laws of a collector and the records that it stands for.
use Rattle.std.proofs.Common.{◌≡◌, ◌≢◌, ℕ, ◌+◌, ◌≤◌, suc, Bool, true, false, cond, List, [], ◌∷◌, ◌++◌, length, map, refl, sym, ap, ap₂, ◌∙◌, subst, ◌==◌, arith, ◌⊎◌, inl, inr, Option, None, Some, length-append}
use Rattle.std.specs.Prelude.{◌↔◌, ◌/◌, Result, Ok, Err}
use Rattle.std.specs.Map.{lookup, keys_of}
use Rattle.std.specs.List.{AllByRecursion}
use Rattle.std.specs.List.Sorted.{IsStrictlySortedBy}
use Rattle.std.specs.Ordering.{is_eq}
use Rattle.std.specs.declared.cmp.Ordering.TheVariants.{Less}
use Rattle.std.proofs.lemmas.Bool.{cases_eq, ne_eqb}
use Rattle.std.proofs.lemmas.Bool.Decides.{nat_tests}
use Rattle.ioam_base.specs.Octets.{u32_at}
use Rattle.ioam_data.specs.Kind.{has, where_has, words}
use Rattle.ioam_data.specs.Elements.{IsFilled}
use Rattle.ioam_data.specs.Fields.{fields_of}
use Rattle.ioam_data.specs.Table.{table}
use Rattle.ioam_dex.specs.Record.{Record}
use Rattle.ioam_pool.specs.Entry.{Entry}
use Rattle.ioam_pool.specs.Order.{IsInOrder}
use Rattle.ioam_collect.specs.Keyed.{key_cmp, hops_in, keyed_of, with_keyed, keyed}
use Rattle.ioam_collect.specs.Best.{kept_of, of_key, keys_in, group, groups_of}
use Rattle.ioam_collect.specs.Gathered.{Gathered, group_in, AreOf}
use Rattle.ioam_collect.specs.Adds.{Adds, IsOf}
use Rattle.ioam_collect.specs.Collected.{Collected, gathered_in, capped, one_where_none, count_unkeyed, Stands, Answers, AnswersKeyed, Leaves, LeavesPair, Grown, AddsRecord, AddsPair, Counts, IsOneMore}
use Rattle.ioam_collect.specs.declared.key.Key.{Key}
use Rattle.ioam_collect.specs.declared.growing.Added.{Added}
use Rattle.ioam_collect.specs.declared.growing.Added.TheVariants.{Kept, Replaced, Repeat, Unkeyed, Full}
use Rattle.ioam_collect.proofs.Members.{Has, has_map, map_has, all_at}
use Rattle.ioam_collect.proofs.Sorting.{same_members, arranged-in_order, arranged-has, has-arranged}
use Rattle.ioam_collect.proofs.KeyLaws.{key_total, key_same, key_itself, key_or_not, pair}
use Rattle.ioam_collect.proofs.FiledLaws.{of_key-has, has-of_key, repeats_item, item_repeats, replaces_item, item_replaces}
use Rattle.ioam_collect.proofs.BestLaws.{ordered}

-- ---- a record without a hop value

where_zero : (b : Bool) (n : ℕ) → cond b (suc n) 0 ≡ 0 → b ≡ false
where_zero true n none = absurd (omega arith)
where_zero false n none = refl

has_none : (kind : ℕ) → words kind ≡ 0 → (has kind 0 ≡ false) × (has kind 8 ≡ false)
unfolding words table
has_none kind none =
    let first : where_has kind 0 1 ≡ 0 = omega arith in
    let wide : where_has kind 8 2 ≡ 0 = omega arith in
    (where_zero (has kind 0) 0 first, where_zero (has kind 8) 1 wide)

no_hops_void : (kind : ℕ) (e : List ℕ) → has kind 0 ≡ false → has kind 8 ≡ false → hops_in kind e ≡ None
unfolding fields_of table
no_hops_void kind e first wide = rw (first, wide) refl

pub zero_from : (n : ℕ) → true ≡ (n == 0) → n ≡ 0
zero_from n is = elim (cases_eq n 0) [
  | inl same ↦ same
  | inr other ↦ let isnt = ne_eqb n 0 other in absurd (cc (is, isnt))
]

pub no_hops : (kind : ℕ) (e : List ℕ) → IsFilled kind e → length e ≡ 0 → hops_in kind e ≡ None
no_hops kind e (inl element) none =
    let some = element.stands.filled in
    let whole = element.whole in
    absurd (omega arith)
no_hops kind e (inr void) none = let both = has_none kind void.wordless in no_hops_void kind e both.0 both.1

-- a type with bit 0 has an element, which begins with the hop value
pub first_room : (kind : ℕ) (e : List ℕ) → IsFilled kind e → has kind 0 ≡ true → 4 ≤ length e
unfolding words table
first_room kind e (inl element) first =
    let whole = element.whole in
    let one : where_has kind 0 1 ≡ 1 = rw first refl in
    omega arith
first_room kind e (inr void) first = let none = (has_none kind void.wordless).0 in absurd (cc (none, first))

pub first_hops : (kind : ℕ) (e : List ℕ) → has kind 0 ≡ true → hops_in kind e ≡ Some (u32_at e 0 / 16777216)
unfolding fields_of table
first_hops kind e first = rw first refl

-- ---- one record more

capped-more : (n : ℕ) → capped (capped n + 1) ≡ capped (n + 1)
capped-more n = grind (arith, nat_tests)

with_keyed-append : (o : Option (Key × Entry)) (ps qs : List (Key × Entry)) → with_keyed o (ps ++ qs) ≡ with_keyed o ps ++ qs
with_keyed-append None ps qs = refl
with_keyed-append (Some p) ps qs = refl

pub keyed-push : (xs : List Record) (x : Record) → keyed (xs ++ x ∷ []) ≡ keyed xs ++ with_keyed (keyed_of x) []
keyed-push [] x = refl
keyed-push (y ∷ xs) x = ap (with_keyed (keyed_of y)) (keyed-push xs x) ∙ with_keyed-append (keyed_of y) (keyed xs) (with_keyed (keyed_of x) [])

pub append-none : (ps : List (Key × Entry)) → ps ++ [] ≡ ps
append-none = Rattle.std.proofs.lemmas.List.append-nil

count-push : (xs : List Record) (x : Record) → count_unkeyed (xs ++ x ∷ []) ≡ count_unkeyed xs + one_where_none (keyed_of x)
count-push [] x = omega arith
count-push (y ∷ xs) x = let more = count-push xs x in omega arith

length-more : (xs : List Record) (x : Record) → length (xs ++ x ∷ []) ≡ length xs + 1
length-more xs x = length-append xs (x ∷ [])

read-more : (xs : List Record) (x : Record) (old new : ℕ) → old ≡ capped (length xs) → new ≡ capped (old + 1) → new ≡ capped (length (xs ++ x ∷ []))
read-more xs x old new was is =
    is ∙ ap (λ n. capped (n + 1)) was ∙ capped-more (length xs) ∙ ap capped (sym (length-more xs x))

-- a record with a key
module _ (old new : Collected) (x : Record) (p : Key × Entry) (is : keyed_of x ≡ Some p) where
  grown_stands : Grown old p new → (xs : List Record) → Stands old xs → Stands new (xs ++ x ∷ [])
  grown_stands g xs s =
      let pairs : keyed (xs ++ x ∷ []) ≡ keyed xs ++ p ∷ [] = keyed-push xs x ∙ ap (λ o. keyed xs ++ with_keyed o []) is in
      let none : one_where_none (keyed_of x) ≡ 0 = ap one_where_none is in
      let count : count_unkeyed (xs ++ x ∷ []) ≡ count_unkeyed xs = count-push xs x ∙ ap (λ n. count_unkeyed xs + n) none ∙ omega arith in
      record {
        groups = rw pairs (g.are (keyed xs) s.groups);
        read = read-more xs x old.read new.read s.read g.read;
        unkeyed = g.unkeyed ∙ s.unkeyed ∙ ap capped (sym count);
      }

  leaves_record : (added : Added) → LeavesPair added old p new → Leaves added old x new
  leaves_record Full leaves = leaves
  leaves_record Kept leaves = grown_stands leaves
  leaves_record Replaced leaves = grown_stands leaves
  leaves_record Repeat leaves = grown_stands leaves
  leaves_record Unkeyed leaves = absurd leaves

  pub pair_adds : {E : Type 0} (r : Result Added E) → AddsPair old p r new → AddsRecord old x r new
  pair_adds (Ok added) adds = (rw is adds.0, leaves_record added adds.1, adds.2, adds.3)
  pair_adds (Err e) adds = adds

-- whether a record with a key would be refused as one too many; none without one is
pub pair_full : (old : Collected) (x : Record) (p : Key × Entry) → keyed_of x ≡ Some p → (B : Type 0) → (B ↔ AnswersKeyed old p Full)
    → B ↔ Answers old (keyed_of x) Full
pair_full old x p is B both =
    let P : Option (Key × Entry) → Type 0 = λ o. B ↔ Answers old o Full in
    subst P (sym is) both

-- a record without one
pub unkeyed_adds : (old new : Collected) (x : Record) → keyed_of x ≡ None → Counts old Unkeyed new
    → Answers old (keyed_of x) Unkeyed × Leaves Unkeyed old x new × (new.held ≡ old.held + 0) × (new.limit ≡ old.limit)
unkeyed_adds old new x is counts =
    let held : new.held ≡ old.held + 0 = ap (λ (c : Collected). c.held) counts ∙ omega arith in
    let limit : new.limit ≡ old.limit = ap (λ (c : Collected). c.limit) counts in (
      rw is refl,
      (λ xs s.
          let pairs : keyed (xs ++ x ∷ []) ≡ keyed xs = keyed-push xs x ∙ ap (λ o. keyed xs ++ with_keyed o []) is ∙ append-none (keyed xs) in
          let one : one_where_none (keyed_of x) ≡ 1 = ap one_where_none is in
          let count : count_unkeyed (xs ++ x ∷ []) ≡ count_unkeyed xs + 1 = count-push xs x ∙ ap (λ n. count_unkeyed xs + n) one in
          let same : gathered_in new ≡ gathered_in old = ap gathered_in counts in
          record {
            groups = rw (same, pairs) s.groups;
            read = read-more xs x old.read new.read s.read (ap (λ (c : Collected). c.read) counts);
            unkeyed = ap (λ (c : Collected). c.unkeyed) counts ∙ ap (λ n. capped (n + 1)) s.unkeyed ∙ capped-more (count_unkeyed xs) ∙ ap capped (sym count);
          }),
      held,
      limit,
    )

-- ---- one pair more

abbrev pub collected : Gathered → ℕ → ℕ → Collected
collected g read unkeyed = record { groups = g.groups; held = g.held; limit = g.limit; read = read; unkeyed = unkeyed }

module _ (g g' : Gathered) (read unkeyed : ℕ) (new : Collected) (key : Key) (item : Entry) where
  abbrev old : Collected
  old = collected g read unkeyed

  grown : ((ps : List (Key × Entry)) → AreOf g ps → AreOf g' (ps ++ (key, item) ∷ [])) → new ≡ record (collected g' read unkeyed) { read = capped (read + 1) }
      → Grown old (key, item) new
  grown are is =
      let same : gathered_in new ≡ g' = ap gathered_in is in
      record {
        are = λ ps before. rw same (are ps before);
        read = ap (λ (c : Collected). c.read) is;
        unkeyed = ap (λ (c : Collected). c.unkeyed) is;
      }

  held_is : (d : ℕ) → g'.held ≡ g.held + d → new ≡ record (collected g' read unkeyed) { read = capped (read + 1) } → new.held ≡ g.held + d
  held_is d more is = ap (λ (c : Collected). c.held) is ∙ more

  limit_is : g'.limit ≡ g.limit → new ≡ record (collected g' read unkeyed) { read = capped (read + 1) } → new.limit ≡ g.limit
  limit_is same is = ap (λ (c : Collected). c.limit) is ∙ same

  pub store_adds : (E : Type 0) (added : Added) → Adds {E = E} g key item (Ok added) g' → IsOf {E = E} g key item (Ok added) g' → Counts (collected g' read unkeyed) added new
      → AddsPair {E = E} old (key, item) (Ok added) new
  store_adds E Kept adds are is =
      ((adds.0, adds.1, adds.2), grown are is, held_is 1 adds.4 is, limit_is adds.3.limit is)
  store_adds E Replaced adds are is =
      ((adds.0, adds.1), grown are is, held_is 0 (adds.3 ∙ omega arith) is, limit_is adds.2.limit is)
  store_adds E Repeat adds are is =
      let held : g'.held ≡ g.held = ap (λ (c : Gathered). c.held) adds.1 in
      (adds.0, grown are is, held_is 0 (held ∙ omega arith) is, limit_is (ap (λ (c : Gathered). c.limit) adds.1) is)
  store_adds E Unkeyed adds are is = absurd adds
  store_adds E Full adds are is =
      let same : new ≡ old = is ∙ ap (λ h. collected h read unkeyed) are in
      let held : new.held ≡ old.held = ap (λ (c : Collected). c.held) same in
      ((adds.0, adds.1, adds.2), same, held ∙ omega arith, ap (λ (c : Collected). c.limit) same)

-- ---- the groups

in_order_from : (ks : List Key) → IsStrictlySortedBy key_cmp ks → IsInOrder key_cmp ks
unfolding IsStrictlySortedBy
in_order_from [] s = tt
in_order_from (k ∷ ks) s = (s.0, in_order_from ks s.1)

-- the group of the first key is the first
lookup-first : (group : Key × List Entry) (groups : List (Key × List Entry)) → group_in (group ∷ groups) group.0 ≡ group.1
lookup-first group groups = rw (key_itself group.0) refl

lookup-later : (group : Key × List Entry) (groups : List (Key × List Entry)) (key : Key) → is_eq (key_cmp key group.0) ≡ false
    → group_in (group ∷ groups) key ≡ group_in groups key
lookup-later group groups key isnt = rw isnt refl

later_not : (first later : Key) → key_cmp first later ≡ Less → is_eq (key_cmp later first) ≡ false
later_not first later less =
    let r = key_total.antisymm later first in
    let greater : key_cmp later first ≡ Rattle.std.specs.declared.cmp.Ordering.TheVariants.Greater = rw less at r in
    ap is_eq greater

abbrev under : (Key → List Entry) → Key → Key × List Entry
under f k = (k, f k)

-- groups in the order of their keys are the groups that are found under their keys
map_same : (first : Key × List Entry) (groups rest : List (Key × List Entry)) → AllByRecursion (λ k. key_cmp first.0 k ≡ Less) (keys_of groups)
    → map (under (group_in (first ∷ rest))) (keys_of groups) ≡ map (under (group_in rest)) (keys_of groups)
map_same first [] rest all = refl
map_same first (g ∷ groups) rest all =
    let same : group_in (first ∷ rest) g.0 ≡ group_in rest g.0 = lookup-later first rest g.0 (later_not first.0 g.0 all.0) in
    ap₂ (λ (items : List Entry) (gs : List (Key × List Entry)). (g.0, items) ∷ gs) same (map_same first groups rest all.1)

found_again : (groups : List (Key × List Entry)) → IsInOrder key_cmp (keys_of groups) → groups ≡ map (under (group_in groups)) (keys_of groups)
found_again [] ordered = refl
found_again (g ∷ groups) ordered =
    let first : g.1 ≡ group_in (g ∷ groups) g.0 = sym (lookup-first g groups) in
    let rest : groups ≡ map (under (group_in (g ∷ groups))) (keys_of groups) = found_again groups ordered.1 ∙ sym (map_same g groups groups ordered.0) in
    ap₂ (λ (items : List Entry) (gs : List (Key × List Entry)). (g.0, items) ∷ gs) first rest

some_has : (es : List Entry) → es ≢ [] → (e : Entry) × Has es e
some_has [] some = absurd (some refl)
some_has (e ∷ es) some = (e, inl refl)

none_has : (es : List Entry) (e : Entry) → Has es e → es ≢ []
none_has [] e has none = has
none_has (x ∷ es) e has none = absurd (cc none)

key_some : (groups : List (Key × List Entry)) (key : Key) → AllByRecursion (λ (g : Key × List Entry). g.1 ≢ []) groups → Has (keys_of groups) key
    → IsInOrder key_cmp (keys_of groups) → group_in groups key ≢ []
key_some [] key some has ordered = absurd has
key_some (g ∷ groups) key some (inl same) ordered = λ none. some.0 (sym (lookup-first g groups) ∙ ap (group_in (g ∷ groups)) same ∙ none)
key_some (g ∷ groups) key some (inr has) ordered =
    let less : key_cmp g.0 key ≡ Less = all_at (λ k. key_cmp g.0 k ≡ Less) (keys_of groups) key ordered.0 has in
    λ none. key_some groups key some.1 has ordered.1 (sym (lookup-later g groups key (later_not g.0 key less)) ∙ none)

some_by : (g : Key × List Entry) (groups : List (Key × List Entry)) (key : Key) → (key ≡ g.0) ⊎ (is_eq (key_cmp key g.0) ≡ false)
    → (group_in groups key ≢ [] → Has (keys_of groups) key) → group_in (g ∷ groups) key ≢ [] → Has (keys_of (g ∷ groups)) key
some_by g groups key (inl same) more some = inl (sym same)
some_by g groups key (inr isnt) more some = inr (more (λ none. some (lookup-later g groups key isnt ∙ none)))

some_key : (groups : List (Key × List Entry)) (key : Key) → group_in groups key ≢ [] → Has (keys_of groups) key
some_key [] key some = absurd (some refl)
some_key (g ∷ groups) key some = some_by g groups key (key_or_not key g.0) (some_key groups key) some

map_each : (f g : Key → List Entry) (ks : List Key) → ((k : Key) → f k ≡ g k) → map (under f) ks ≡ map (under g) ks
map_each f g [] same = refl
map_each f g (k ∷ ks) same = ap₂ (λ (items : List Entry) (gs : List (Key × List Entry)). (k, items) ∷ gs) (same k) (map_each f g ks same)

-- groups in the order of their keys, none empty, each that of the pairs with its key: there is one such list
pub groups_are : (groups : List (Key × List Entry)) (ps : List (Key × Entry)) → IsStrictlySortedBy key_cmp (keys_of groups)
    → AllByRecursion (λ (g : Key × List Entry). g.1 ≢ []) groups → ((key : Key) → group_in groups key ≡ of_key key (kept_of ps))
    → groups ≡ groups_of ps
groups_are groups ps sorted some each =
    let kept : List (Key × Entry) = kept_of ps in
    let ordered : IsInOrder key_cmp (keys_of groups) = in_order_from (keys_of groups) sorted in
    let firsts : List Key = map (λ (p : Key × Entry). p.0) kept in
    let keys : keys_of groups ≡ keys_in kept = same_members key_cmp key_total key_same (keys_of groups) (keys_in kept) ordered
    (arranged-in_order key_cmp key_total key_same firsts)
    (λ key has.
    let e = some_has (of_key key kept) (λ none. key_some groups key some has ordered (each key ∙ none)) in
    has-arranged key_cmp key_total key_same firsts key (has_map (λ (p : Key × Entry). p.0) kept (pair key e.0) (of_key-has key kept e.0 e.1)))
    (λ key has.
    let p = map_has (λ (p : Key × Entry). p.0) kept key (arranged-has key_cmp key_total key_same firsts key has) in
    let there : Has (of_key key kept) p.0.1 = has-of_key key p.0.1 kept (subst (λ k. Has kept (pair k p.0.1)) p.2 p.1) in
    some_key groups key (λ none. none_has (of_key key kept) p.0.1 there (sym (each key) ∙ none))) in
    found_again groups ordered ∙ map_each (group_in groups) (λ k. of_key k kept) (keys_of groups) each ∙ ap (map (group kept)) keys

pub stands_groups : (c : Collected) → IsStrictlySortedBy key_cmp (keys_of c.groups) → AllByRecursion (λ (g : Key × List Entry). g.1 ≢ []) c.groups
    → (xs : List Record) → Stands c xs → c.groups ≡ groups_of (keyed xs)
stands_groups c sorted some xs s = groups_are c.groups (keyed xs) sorted some s.groups.each

-- ---- Full, straight from the list

module _ (c : Collected) (xs : List Record) (s : Stands c xs) where
  abbrev now : List (Key × Entry)
  now = kept_of (keyed xs)

  more_by : (x : Record) (o : Option (Key × Entry)) → keyed_of x ≡ o → Answers c o Full → IsOneMore c.limit xs x
  more_by x None is full = absurd (cc full)
  more_by x (Some p) is full = (
    p,
    is,
    (λ r. full.0 (rw (s.groups.each p.0) (item_repeats now (ordered (keyed xs)) p.0 p.1 r))),
    (λ r. full.1 (rw (s.groups.each p.0) (item_replaces now (ordered (keyed xs)) p.0 p.1 r))),
    sym s.groups.held ∙ full.2,
  )

  pub full_more : (x : Record) → Answers c (keyed_of x) Full → IsOneMore c.limit xs x
  full_more x full = more_by x (keyed_of x) refl full

  pub more_full : (x : Record) → IsOneMore c.limit xs x → Answers c (keyed_of x) Full
  more_full x (p, is, none, none', all) =
      let P : Option (Key × Entry) → Type 0 = λ o. Answers c o Full in
      subst P (sym is) (
        (λ r. none (repeats_item now (ordered (keyed xs)) p.0 p.1 (rw (s.groups.each p.0) at r))),
        (λ r. none' (replaces_item now (ordered (keyed xs)) p.0 p.1 (rw (s.groups.each p.0) at r))),
        s.groups.held ∙ all,
      )

  pub one_more : (x : Record) (B : Type 0) → (B ↔ Answers c (keyed_of x) Full) → B ↔ IsOneMore c.limit xs x
  one_more x B both = ((λ b. full_more x (both.0 b)), (λ more. both.1 (more_full x more)))
