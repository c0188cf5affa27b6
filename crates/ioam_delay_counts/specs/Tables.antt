-- Tables by the items that were counted, each with its key.
use Rattle.std.specs.Prelude.{◌≡◌, ℕ, ◌+◌, ◌≤◌, ⊤, Bool, true, not, ◌&&◌, nat_lt, if◌then◌else◌, List, [], ◌∷◌, ◌++◌, length, slice_index_or, slice_set}
use Rattle.std.specs.List.{AllByRecursion, fold, insert, prefix_len}
use Rattle.ioam_delay_counts.specs.declared.table.Row.{Row}
use Rattle.ioam_delay_counts.specs.declared.table.Table.{Table}

-- the items of each key, in the order of the keys, and how many items found no room
pub record Grouped (K X : Type 0) : Type 0 where
  pub groups : List (K × List X)
  pub others : ℕ

-- how many groups come before a key
abbrev pub groups_before : {K X : Type 0} → (K → K → Bool) → List (K × List X) → K → ℕ
groups_before {K} {X} before groups key = prefix_len (λ (group : K × List X). before group.0 key) groups

-- the group at an index, or an empty one of this key
abbrev pub group_at : {K X : Type 0} → List (K × List X) → K → ℕ → K × List X
group_at groups key at = slice_index_or groups at (key, [])

-- whether the group at an index is that of a key: it is there, and the key doesn't come before it
abbrev pub is_at : {K X : Type 0} → (K → K → Bool) → List (K × List X) → K → ℕ → Bool
is_at before groups key at = nat_lt at (length groups) && not (before key (group_at groups key at).0)

module _ {K X : Type 0} (before : K → K → Bool) (limit : ℕ) where
  -- with one item more: it joins those of its key, or begins a group where there is room
  abbrev pub grouped_at : Grouped K X → K → X → ℕ → Grouped K X
  grouped_at all key item at =
      if is_at before all.groups key at
      then record all { groups = slice_set all.groups at ((group_at all.groups key at).0, (group_at all.groups key at).1 ++ item ∷ []) }
      else (if nat_lt (length all.groups) limit
      then record all { groups = insert all.groups at (key, item ∷ []) }
      else record all { others = all.others + 1 })

  abbrev pub grouped_more : Grouped K X → K × X → Grouped K X
  grouped_more all one = grouped_at all one.0 one.1 (groups_before before all.groups one.0)

  -- of these items
  abbrev pub grouped : List (K × X) → Grouped K X
  grouped seen = fold grouped_more (record { groups = []; others = 0 }) seen

module _ {K T X : Type 0} (counts : List X → T → Type 0) where
  -- rows count the items of these groups, of which none has more than so many
  abbrev pub AreTallies : ℕ → List (K × List X) → List (Row K T) → Type 0
  AreTallies most [] [] = ⊤
  AreTallies most [] (row ∷ rows) = ⊥
  AreTallies most (group ∷ groups) [] = ⊥
  AreTallies most (group ∷ groups) (row ∷ rows) =
      (row.key ≡ group.0) × counts group.1 row.tally × (length group.1 ≤ most) × AreTallies most groups rows

-- how many rows come before a key
abbrev pub rows_before : {K T : Type 0} → (K → K → Bool) → List (Row K T) → K → ℕ
rows_before {K} {T} before rows key = prefix_len (λ (row : Row K T). before row.key key) rows

-- each row comes before all after it
abbrev pub InOrder : {K T : Type 0} → (K → K → Bool) → List (Row K T) → Type 0
InOrder {K} {T} before [] = ⊤
InOrder {K} {T} before (row ∷ rows) = AllByRecursion (λ (later : Row K T). before row.key later.key ≡ true) rows × InOrder before rows

-- a table counts these items, each with its key
pub record IsTable {K T X : Type 0} (before : K → K → Bool) (counts : List X → T → Type 0) (seen : List (K × X)) (table : Table K T) : Type 0 where
  pub rows_are : AreTallies counts (length seen) (grouped before table.limit seen).groups table.rows.items
  pub in_order : InOrder before table.rows.items
  pub others_are : table.others ≡ (grouped before table.limit seen).others
  pub few_others : table.others ≤ length seen
