-- The rows of a table as what they count is counted.
use Rattle.std.proofs.Common.{◌≡◌, ℕ, zero, suc, ◌+◌, ◌<◌, ◌≤◌, ◌^◌, ◌⊎◌, inl, inr, Bool, true, false, cond, not, ◌&&◌, List, [], ◌∷◌, ◌++◌, length, get_or, set, refl, sym, ◌∙◌, ap, subst, arith, length-append}
use Rattle.std.specs.Prelude.{nat_lt}
use Rattle.std.specs.List.{AllByRecursion, insert, prefix_len}
use Rattle.std.specs.List.Sorted.{IsPartitionPoint, IsPartitionedBy}
use Rattle.std.proofs.lemmas.Bool.{cases_lt, le-ltb, lt-ltb}
use Rattle.std.proofs.lemmas.List.{get_or_default}
use Rattle.std.proofs.lemmas.List.Elements.{All-from_recursion}
use Rattle.std.proofs.lemmas.List.Sums.{fold_push, prefix_len_is}
use Rattle.ioam_delay_counts.specs.Tables.{AreTallies, Grouped, InOrder, group_at, grouped, grouped_at, grouped_more, groups_before, is_at, rows_before}
use Rattle.ioam_delay_counts.specs.declared.table.Row.{Row}

module _ {K T X : Type 0} (before : K → K → Bool) (counts : List X → T → Type 0) where
  -- one row for each group
  pub same_length : (m : ℕ) (groups : List (K × List X)) (rows : List (Row K T)) → AreTallies counts m groups rows → length rows ≡ length groups
  same_length m [] [] are = refl
  same_length m [] (row ∷ rows) are = absurd are
  same_length m (group ∷ groups) [] are = absurd are
  same_length m (group ∷ groups) (row ∷ rows) are = ap (λ (n : ℕ). suc n) (same_length m groups rows are.3)

  -- the same number come before a key
  pub same_before : (m : ℕ) (groups : List (K × List X)) (rows : List (Row K T)) (key : K) → AreTallies counts m groups rows
      → rows_before before rows key ≡ groups_before before groups key
  same_before m [] [] key are = refl
  same_before m [] (row ∷ rows) key are = absurd are
  same_before m (group ∷ groups) [] key are = absurd are
  same_before m (group ∷ groups) (row ∷ rows) key are =
      ap (λ (k : K). cond (before k key) (1 + rows_before before rows key) 0) are.0
      ∙ ap (λ (n : ℕ). cond (before group.0 key) (1 + n) 0) (same_before m groups rows key are.3)

  -- they still do where there may be more items
  pub more_items : (m n : ℕ) (groups : List (K × List X)) (rows : List (Row K T)) → m ≤ n → AreTallies counts m groups rows → AreTallies counts n groups rows
  more_items m n [] [] le are = tt
  more_items m n [] (row ∷ rows) le are = absurd are
  more_items m n (group ∷ groups) [] le are = absurd are
  more_items m n (group ∷ groups) (row ∷ rows) le are = (are.0, are.1, omega (arith, are.2), more_items m n groups rows le are.3)

  -- the row at an index
  pub row_at : (m : ℕ) (groups : List (K × List X)) (rows : List (Row K T)) (at : ℕ) (d : K × List X) (e : Row K T) → AreTallies counts m groups rows → at < length groups
      → ((get_or rows at e).key ≡ (get_or groups at d).0) × counts (get_or groups at d).1 (get_or rows at e).tally × (length (get_or groups at d).1 ≤ m)
  row_at m [] rows at d e are within = absurd (omega arith)
  row_at m (group ∷ groups) [] at d e are within = absurd are
  row_at m (group ∷ groups) (row ∷ rows) zero d e are within = (are.0, are.1, are.2)
  row_at m (group ∷ groups) (row ∷ rows) (suc at) d e are within = row_at m groups rows at d e are.3 (omega arith)

  -- a row and its group are replaced
  pub replaced : (m : ℕ) (groups : List (K × List X)) (rows : List (Row K T)) (at : ℕ) (group : K × List X) (row : Row K T) → AreTallies counts m groups rows
      → row.key ≡ group.0 → counts group.1 row.tally → length group.1 ≤ m → AreTallies counts m (set groups at group) (set rows at row)
  replaced m [] [] at g r are key tally few = tt
  replaced m [] (row ∷ rows) at g r are key tally few = absurd are
  replaced m (group ∷ groups) [] at g r are key tally few = absurd are
  replaced m (group ∷ groups) (row ∷ rows) zero g r are key tally few = (key, tally, few, are.3)
  replaced m (group ∷ groups) (row ∷ rows) (suc at) g r are key tally few = (are.0, are.1, are.2, replaced m groups rows at g r are.3 key tally few)

  -- a row and its group are put in
  pub put_in : (m : ℕ) (groups : List (K × List X)) (rows : List (Row K T)) (at : ℕ) (group : K × List X) (row : Row K T) → AreTallies counts m groups rows
      → row.key ≡ group.0 → counts group.1 row.tally → length group.1 ≤ m → AreTallies counts m (insert groups at group) (insert rows at row)
  put_in m groups rows zero g r are key tally few = (key, tally, few, are)
  put_in m [] [] (suc at) g r are key tally few = (key, tally, few, tt)
  put_in m [] (row ∷ rows) (suc at) g r are key tally few = absurd are
  put_in m (group ∷ groups) [] (suc at) g r are key tally few = absurd are
  put_in m (group ∷ groups) (row ∷ rows) (suc at) g r are key tally few = (are.0, are.1, are.2, put_in m groups rows at g r are.3 key tally few)

module _ {K T : Type 0} (before : K → K → Bool) (onward : (one other third : K) → before one other ≡ true → before other third ≡ true → before one third ≡ true) where
  -- a key comes before all these rows
  abbrev Later : K → List (Row K T) → Type 0
  Later key rows = AllByRecursion (λ (later : Row K T). before key later.key ≡ true) rows

  later_still : (key next : K) (rows : List (Row K T)) → before key next ≡ true → Later next rows → Later key rows
  later_still key next [] first later = tt
  later_still key next (row ∷ rows) first later = (onward key next row.key first later.0, later_still key next rows first later.1)

  later_set : (key : K) (rows : List (Row K T)) (at : ℕ) (new d : Row K T) → new.key ≡ (get_or rows at d).key → Later key rows → Later key (set rows at new)
  later_set key [] at new d is later = tt
  later_set key (row ∷ rows) zero new d is later = (ap (before key) is ∙ later.0, later.1)
  later_set key (row ∷ rows) (suc at) new d is later = (later.0, later_set key rows at new d is later.1)

  later_insert : (key : K) (rows : List (Row K T)) (at : ℕ) (new : Row K T) → before key new.key ≡ true → Later key rows → Later key (insert rows at new)
  later_insert key rows zero new first later = (first, later)
  later_insert key [] (suc at) new first later = (first, tt)
  later_insert key (row ∷ rows) (suc at) new first later = (later.0, later_insert key rows at new first later.1)

  -- rows stay in order where one is replaced by one of its key
  pub in_order_set : (rows : List (Row K T)) (at : ℕ) (new d : Row K T) → new.key ≡ (get_or rows at d).key → InOrder before rows → InOrder before (set rows at new)
  in_order_set [] at new d is order = tt
  in_order_set (row ∷ rows) zero new d is order = (subst (λ (key : K). Later key rows) (sym is) order.0, order.1)
  in_order_set (row ∷ rows) (suc at) new d is order = (later_set row.key rows at new d is order.0, in_order_set rows at new d is order.1)

  -- and where one is put in after those before it
  pub in_order_insert : (rows : List (Row K T)) (at : ℕ) (new : Row K T) → at ≡ rows_before before rows new.key
      → (at < length rows → (e : Row K T) → e ≡ get_or rows at e → before new.key e.key ≡ true) → InOrder before rows → InOrder before (insert rows at new)
  in_order_insert [] zero new at_is next order = (tt, tt)
  in_order_insert [] (suc at) new at_is next order = absurd (let none : suc at ≡ 0 = at_is in omega (arith, none))
  in_order_insert (row ∷ rows) zero new at_is next order =
      let first = next (omega arith) row refl in ((first, later_still new.key row.key rows first order.0), order)
  in_order_insert (row ∷ rows) (suc at) new at_is next order =
      by (before row.key new.key) refl at_is (λ is. in_order_insert rows at new is (λ inside. next (omega (arith, inside))) order.1) where
        by : (b : Bool) → before row.key new.key ≡ b → suc at ≡ cond b (1 + rows_before before rows new.key) 0
            → (at ≡ rows_before before rows new.key → InOrder before (insert rows at new)) → InOrder before (insert (row ∷ rows) (suc at) new)
        by true first is rest = let more : suc at ≡ 1 + rows_before before rows new.key = is in (later_insert row.key rows at new first order.0, rest (omega (arith, more)))
        by false first is rest = absurd (let none : suc at ≡ 0 = is in omega (arith, none))

  -- the rows that come before a key are the first ones
  pub parted : (key : K) (rows : List (Row K T)) → InOrder before rows → IsPartitionedBy (λ (row : Row K T). before row.key key) rows
  parted key [] order i j d le inside is = absurd (omega (arith, inside))
  parted key (row ∷ rows) order zero zero d le inside is = is
  parted key (row ∷ rows) order zero (suc j) d le inside is =
      onward row.key _ key (All-from_recursion (λ (later : Row K T). before row.key later.key ≡ true) rows order.0 j d (omega (arith, inside))) is
  parted key (row ∷ rows) order (suc i) zero d le inside is = absurd (omega (arith, le))
  parted key (row ∷ rows) order (suc i) (suc j) d le inside is = parted key rows order.1 i j d (omega (arith, le)) (omega (arith, inside)) is

-- so a search by halves finds how many they are
pub point_is : {R : Type 0} (p : R → Bool) (rows : List R) (at : ℕ) → at ≤ length rows → IsPartitionPoint (λ (row : R). p row ≡ true) (λ (row : R). p row ≡ false) rows at
    → at ≡ prefix_len p rows
point_is p [] at within point = omega (arith, within)
point_is p (row ∷ rows) at within point =
    sym (prefix_len_is p (row ∷ rows) at row within (λ k inside. point.0 k row (omega arith) inside) (λ inside. point.1 at row (omega arith) inside))

-- what is read of an index is one row
pub same_row : {R : Type 0} (rows : List R) (at : ℕ) (d e : R) → at < length rows → d ≡ get_or rows at d → e ≡ get_or rows at e → d ≡ e
same_row rows at d e inside d_is e_is = d_is ∙ get_or_default rows at d e inside ∙ sym e_is

pub some_row : {R : Type 0} (rows : List R) (at : ℕ) → at < length rows → (e : R) × (e ≡ get_or rows at e)
some_row [] at inside = absurd (omega arith)
some_row (row ∷ rows) zero inside = (row, refl)
some_row (row ∷ rows) (suc at) inside = some_row rows at (omega arith)

-- one item more
module _ {K T X : Type 0} (before : K → K → Bool) (counts : List X → T → Type 0) (limit : ℕ) (seen : List (K × X)) (key : K) (item : X) (rows : List (Row K T)) (at : ℕ)
    (are : AreTallies counts (length seen) (grouped before limit seen).groups rows) (at_is : at ≡ rows_before before rows key) where
  groups : List (K × List X)
  groups = (grouped before limit seen).groups

  sized : length rows ≡ length groups
  unfolding groups
  sized = same_length before counts (length seen) (grouped before limit seen).groups rows are

  key_at : (e : Row K T) → at < length rows → e ≡ get_or rows at e → e.key ≡ (group_at (grouped before limit seen).groups key at).0
  unfolding groups
  key_at e inside is =
      ap (λ (r : Row K T). r.key) is ∙ (row_at before counts (length seen) (grouped before limit seen).groups rows at (key, []) e are (omega (arith, sized, inside))).0

  tests : (a b : Bool) → nat_lt at (length (grouped before limit seen).groups) ≡ a → before key (group_at (grouped before limit seen).groups key at).0 ≡ b
      → is_at before (grouped before limit seen).groups key at ≡ (a && not b)
  tests a b a_is b_is =
      ap (λ (t : Bool). t && not (before key (group_at (grouped before limit seen).groups key at).0)) a_is ∙ ap (λ (t : Bool). a && not t) b_is

  pub is_yes : (e : Row K T) → at < length rows → e ≡ get_or rows at e → before key e.key ≡ false → is_at before (grouped before limit seen).groups key at ≡ true
  unfolding groups
  is_yes e inside is first = tests true false (lt-ltb at _ (omega (arith, sized, inside))) (ap (before key) (sym (key_at e inside is)) ∙ first)

  pub is_no_key : (e : Row K T) → at < length rows → e ≡ get_or rows at e → before key e.key ≡ true → is_at before (grouped before limit seen).groups key at ≡ false
  unfolding groups
  is_no_key e inside is first = tests true true (lt-ltb at _ (omega (arith, sized, inside))) (ap (before key) (sym (key_at e inside is)) ∙ first)

  pub is_no_end : length rows ≤ at → is_at before (grouped before limit seen).groups key at ≡ false
  unfolding groups
  is_no_end past = ap (λ (t : Bool). t && not (before key (group_at (grouped before limit seen).groups key at).0)) (le-ltb at _ (omega (arith, sized, past)))

  joins : Grouped K X
  joins = record (grouped before limit seen) {
    groups = set (grouped before limit seen).groups at
        ((group_at (grouped before limit seen).groups key at).0, (group_at (grouped before limit seen).groups key at).1 ++ item ∷ []);
  }

  begins : Grouped K X
  begins = record (grouped before limit seen) { groups = insert (grouped before limit seen).groups at (key, item ∷ []) }

  passes : Grouped K X
  passes = record (grouped before limit seen) { others = (grouped before limit seen).others + 1 }

  -- by the two tests
  more_by : (a b : Bool) → is_at before (grouped before limit seen).groups key at ≡ a → nat_lt (length (grouped before limit seen).groups) limit ≡ b
      → grouped before limit (seen ++ (key, item) ∷ []) ≡ cond a joins (cond b begins passes)
  unfolding joins begins passes
  more_by a b a_is b_is =
      fold_push (grouped_more before limit) (record { groups = []; others = 0 }) seen (key, item)
      ∙ ap (λ (n : ℕ). grouped_at before limit (grouped before limit seen) key item n)
      (sym (at_is ∙ same_before before counts (length seen) (grouped before limit seen).groups rows key are))
      ∙ ap (λ (t : Bool). cond t joins (cond (nat_lt (length (grouped before limit seen).groups) limit) begins passes)) a_is
      ∙ ap (λ (t : Bool). cond a joins (cond t begins passes)) b_is

  -- the rows are those of all items
  abbrev pub AreMore : List (Row K T) → ℕ → Type 0
  AreMore new others =
      AreTallies counts (length (seen ++ (key, item) ∷ [])) (grouped before limit (seen ++ (key, item) ∷ [])).groups new
      × (others ≡ (grouped before limit (seen ++ (key, item) ∷ [])).others)

  abbrev Are : List (Row K T) → ℕ → Grouped K X → Type 0
  Are new others all = AreTallies counts (length (seen ++ (key, item) ∷ [])) all.groups new × (others ≡ all.others)

  longer : length (seen ++ (key, item) ∷ []) ≡ length seen + 1
  longer = length-append seen ((key, item) ∷ [])

  still : AreTallies counts (length (seen ++ (key, item) ∷ [])) (grouped before limit seen).groups rows
  still = more_items before counts (length seen) _ (grouped before limit seen).groups rows (omega (arith, longer)) are

  -- an item of a key that has a row
  pub joined : (e old new : Row K T) (others : ℕ) → length seen < 2 ^ 48 → at < length rows → e ≡ get_or rows at e → before key e.key ≡ false → old ≡ get_or rows at old
      → new.key ≡ old.key → ((items : List X) → length items < 2 ^ 48 → counts items old.tally → counts (items ++ item ∷ []) new.tally)
      → others ≡ (grouped before limit seen).others → AreMore (set rows at new) others
  unfolding joins
  joined e old new others short inside e_is first old_is key_is counted others_are =
      let d : K × List X = (key, []) in
      let group = row_at before counts (length seen) (grouped before limit seen).groups rows at d old are (omega (arith, sized_of, inside)) in
      let tally : counts (get_or (grouped before limit seen).groups at d).1 old.tally =
      subst (λ (r : Row K T). counts (get_or (grouped before limit seen).groups at d).1 r.tally) (sym old_is) group.1 in
      subst (Are (set rows at new) others) (sym (more_by true (nat_lt (length (grouped before limit seen).groups) limit) (is_yes e inside e_is first) refl)) (
        replaced before counts _ (grouped before limit seen).groups rows at _ new still (key_is ∙ ap (λ (r : Row K T). r.key) old_is ∙ group.0)
            (counted _ (omega (arith, group.2, short)) tally) (omega (arith, group.2, longer, length-append (get_or (grouped before limit seen).groups at d).1 (item ∷ []))),
        others_are,
      ) where
        sized_of : length rows ≡ length (grouped before limit seen).groups
        sized_of = same_length before counts (length seen) (grouped before limit seen).groups rows are

  -- an item of a key that has none, where there is room
  pub begun : (new : Row K T) (others : ℕ) → is_at before (grouped before limit seen).groups key at ≡ false → length rows < limit → new.key ≡ key → counts (item ∷ []) new.tally
      → others ≡ (grouped before limit seen).others → AreMore (insert rows at new) others
  unfolding begins groups
  begun new others none room key_is counted others_are =
      subst (Are (insert rows at new) others) (sym (more_by false true none (lt-ltb _ _ (omega (arith, sized, room)))))
      (put_in before counts _ (grouped before limit seen).groups rows at _ new still key_is counted (omega (arith, longer)), others_are)

  -- and where there is none
  pub passed : (others : ℕ) → is_at before (grouped before limit seen).groups key at ≡ false → limit ≤ length rows → others ≡ (grouped before limit seen).others + 1
      → AreMore rows others
  unfolding passes groups
  passed others none full others_are =
      subst (Are rows others) (sym (more_by false false none (le-ltb _ _ (omega (arith, sized, full))))) (still, others_are)

  -- a row is not that of the key, by the test of the row
  pub is_no : (at < length rows → (e : Row K T) → e ≡ get_or rows at e → before key e.key ≡ true) → is_at before (grouped before limit seen).groups key at ≡ false
  is_no other = by_place (cases_lt at (length rows)) where
    by_place : (at < length rows) ⊎ (length rows ≤ at) → is_at before (grouped before limit seen).groups key at ≡ false
    by_place (inl inside) = let one = some_row rows at inside in is_no_key one.0 inside one.1 (other inside one.0 one.1)
    by_place (inr past) = is_no_end past
