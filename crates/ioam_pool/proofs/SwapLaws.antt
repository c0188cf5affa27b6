-- Laws of an item put in place of the one without its extra part.
use Rattle.std.proofs.Common.{◌≡◌, ◌≢◌, ℕ, ◌+◌, ◌<◌, ◌≤◌, true, false, List, [], ◌∷◌, ◌++◌, length, map, set, refl, sym, ap, ap₂, ◌∙◌, arith, get_or, ◌⊎◌, inl, inr, Option, None, length-set}
use Rattle.std.specs.Prelude.{sum_by, Contains, nat_lt}
use Rattle.std.proofs.lemmas.Bool.{cases_eq}
use Rattle.std.proofs.lemmas.List.{length-map, get_or-set_same, get_or-set_other, map-append, ext_get_or}
use Rattle.ioam_pool.specs.Entry.{Entry, is_full, bare}
use Rattle.ioam_pool.specs.Order.{order, IsChain, placed, without, Repeats, Replaces}
use Rattle.ioam_pool.specs.Cells.{blank, cell_at, entry_at, entries_from, Chained, Ties, Parted, times, with_item}
use Rattle.ioam_pool.specs.Chains.{chain_of, total, with_chain}
use Rattle.ioam_pool.specs.Kept.{seen}
use Rattle.ioam_pool.specs.declared.cells.Cell.{Cell}
use Rattle.ioam_pool.proofs.ChainLaws.{Chained-unique, Chained-behind, times-append, times-itself, entries-set}
use Rattle.ioam_pool.proofs.PartLaws.{at_most, one_at, shown_at, chain_is, total_is, below_one}
use Rattle.ioam_pool.proofs.OrderLaws.{tie_bare, tie_full, bare_itself, chain-instead, placed-instead, without-middle, no_repeat-instead}

-- an entry written over another leaves the links
cell_kept : (cells : List Cell) (i : ℕ) (item : Entry) (j : ℕ) → i < length cells
    → (cell_at (with_item cells i item) j).next ≡ (cell_at cells j).next
cell_kept cells i item j lt = elim (cases_eq j i) [
  | inl same ↦ rw same (ap (λ (c : Cell). c.next) (get_or-set_same cells i (record { item = item; next = (cell_at cells i).next }) blank lt))
  | inr other ↦ ap (λ (c : Cell). c.next) (get_or-set_other cells i j (record { item = item; next = (cell_at cells i).next }) blank other)
]

Chained-item : (cells : List Cell) (i : ℕ) (item : Entry) (at : Option ℕ) (is : List ℕ) → i < length cells → Chained cells at is
    → Chained (with_item cells i item) at is
Chained-item cells i item at [] lt c = c
Chained-item cells i item at (j ∷ is) lt c =
    let in_range : j < length (with_item cells i item) = rw length-set c.1 in
    (c.0, in_range, rw (cell_kept cells i item j lt) (Chained-item cells i item (cell_at cells j).next is lt c.2))

pub contains_middle : {X : Type 0} (front : List X) (x : X) (back : List X) → Contains (front ++ x ∷ back) x
contains_middle front x back = Rattle.std.proofs.lemmas.List.Elements.Contains-append_right front (x ∷ back) x (0, omega arith, refl)

module _ (cells : List Cell) (heads : List (Option ℕ)) (free : Option ℕ) (p : Parted cells heads free) (c : ℕ) (lt : c < length heads)
    (at : ℕ) (item : Entry) (tie : Ties cells (get_or heads c None) at item) where
  abbrev head : Option ℕ
  head = get_or heads c None

  abbrev list : List ℕ
  list = get_or p.lists c []

  is_list : list ≡ tie.front ++ at ∷ tie.back
  is_list = Chained-unique cells head list (tie.front ++ at ∷ tie.back) (p.chained c) tie.whole

  in_lists : c < length p.lists
  in_lists = rw p.each lt

  pub in_cells : at < length cells
  in_cells = (Chained-behind cells at head tie.front tie.back tie.whole).0

  times_list : times at list ≡ times at tie.front + (1 + times at tie.back)
  times_list = ap (times at) is_list ∙ times-append at tie.front (at ∷ tie.back) ∙ ap (λ n. times at tie.front + n) (times-itself at tie.back)

  once_here : (times at tie.front ≡ 0) × (times at tie.back ≡ 0) × (sum_by (times at) p.lists ≤ 1) × (1 ≤ times at list)
  once_here =
      let most : times at p.frees + sum_by (times at) p.lists ≤ 1 = rw (p.once at) (below_one (nat_lt at (length cells))) in
      let least : times at list ≤ sum_by (times at) p.lists = at_most (times at) p.lists c refl in
      let both = times_list in
      (omega arith, omega arith, omega arith, omega arith)

  abbrev fore : List Entry
  fore = map (entry_at cells) tie.front

  abbrev aft : List Entry
  aft = map (entry_at cells) tie.back

  abbrev was : Entry
  was = entry_at cells at

  pub chain_was : chain_of (seen cells heads) c ≡ fore ++ was ∷ aft
  chain_was = chain_is cells heads c ∙ shown_at cells heads free p c ∙ ap (map (entry_at cells)) is_list ∙ map-append (entry_at cells) tie.front (at ∷ tie.back)

  there : Contains (chain_of (seen cells heads) c) was
  there = rw chain_was (contains_middle fore was aft)

  -- the chain has the item, or the item has no extra part
  pub tied_bare : is_full item ≡ false → Repeats (chain_of (seen cells heads) c) item
  tied_bare is = inr (is, was, there, tie_bare was item tie.ties)

  pub tied_full : is_full was ≡ true → is_full item ≡ true → Repeats (chain_of (seen cells heads) c) item
  tied_full full full' =
      let same : was ≡ item = tie_full was item tie.ties full full' in
      inl (rw same at there)

  -- the chain has the item without its extra part, which goes out
  module _ (full : is_full item ≡ true) (not_full : is_full was ≡ false) where
    pub was_bare : was ≡ bare item
    was_bare = sym (bare_itself was not_full) ∙ tie_bare was item tie.ties

    pub tied_replaces : Replaces (chain_of (seen cells heads) c) item
    tied_replaces = (full, rw was_bare at there)

    bare_chain : chain_of (seen cells heads) c ≡ fore ++ bare item ∷ aft
    bare_chain = chain_was ∙ ap (λ e. fore ++ e ∷ aft) was_bare

    pub tied_no_repeat : IsChain (chain_of (seen cells heads) c) → Repeats (chain_of (seen cells heads) c) item → ⊥
    tied_no_repeat in_order repeats = no_repeat-instead item fore aft (rw bare_chain at in_order) full (rw bare_chain at repeats)

    abbrev cells' : List Cell
    cells' = with_item cells at item

    pub swapped_length : length cells' ≡ length cells
    swapped_length = length-set cells at (record { item = item; next = (cell_at cells at).next })

    pub swapped_parted : Parted cells' heads free
    swapped_parted = record {
      lists = p.lists;
      frees = p.frees;
      each = p.each;
      chained = λ d. Chained-item cells at item (get_or heads d None) (get_or p.lists d []) in_cells (p.chained d);
      freed = Chained-item cells at item free p.frees in_cells p.freed;
      once = λ i. rw swapped_length (p.once i);
      all = rw swapped_length p.all;
    }

    pub swapped_times : (d i : ℕ) → 1 ≤ times i (get_or p.lists d []) → 1 ≤ times i (get_or swapped_parted.lists d [])
    unfolding swapped_parted
    swapped_times d i there = there

    entry_now : entry_at cells' at ≡ item
    entry_now = ap (λ (c : Cell). c.item) (get_or-set_same cells at (record { item = item; next = (cell_at cells at).next }) blank in_cells)

    entries_there : map (entry_at cells') (tie.front ++ at ∷ tie.back) ≡ fore ++ item ∷ aft
    entries_there =
        let cell : Cell = record { item = item; next = (cell_at cells at).next } in
        map-append (entry_at cells') tie.front (at ∷ tie.back)
        ∙ ap₂ (λ xs ys. xs ++ ys) (entries-set cells at cell tie.front once_here.0)
        (ap₂ (λ x xs. x ∷ xs) entry_now (entries-set cells at cell tie.back once_here.1))

    chain_then : (d : ℕ) → (d ≡ c) ⊎ (d ≢ c) → chain_of (seen cells' heads) d ≡ get_or (set (seen cells heads).chains c (fore ++ item ∷ aft)) d []
    unfolding swapped_parted
    chain_then d (inl same) =
        let in_chains : c < length (map (entries_from cells) heads) = rw length-map lt in
        let list_d : get_or p.lists d [] ≡ tie.front ++ at ∷ tie.back = rw same is_list in
        chain_is cells' heads d ∙ shown_at cells' heads free swapped_parted d
        ∙ ap (map (entry_at cells')) list_d ∙ entries_there
        ∙ rw same (sym (get_or-set_same (map (entries_from cells) heads) c (fore ++ item ∷ aft) [] in_chains))
    chain_then d (inr other) =
        let cell : Cell = record { item = item; next = (cell_at cells at).next } in
        chain_is cells' heads d ∙ shown_at cells' heads free swapped_parted d
        ∙ entries-set cells at cell (get_or p.lists d []) (one_at (times at) p.lists c d refl once_here.2 in_lists once_here.3 other)
        ∙ sym (chain_is cells heads d ∙ shown_at cells heads free p d)
        ∙ sym (get_or-set_other (map (entries_from cells) heads) c d (fore ++ item ∷ aft) [] other)

    module _ (in_order : (d : ℕ) → IsChain (chain_of (seen cells heads) d)) where
      chain_c : IsChain (fore ++ bare item ∷ aft)
      chain_c = rw bare_chain at (in_order c)

      instead : placed order item (without (bare item) (chain_of (seen cells heads) c)) ≡ fore ++ item ∷ aft
      instead =
          ap (λ es. placed order item (without (bare item) es)) bare_chain
          ∙ ap (placed order item) (without-middle (bare item) fore aft chain_c)
          ∙ placed-instead item fore aft chain_c

      pub swapped_is : seen cells' heads ≡ with_chain (seen cells heads) c (placed order item (without (bare item) (chain_of (seen cells heads) c)))
      swapped_is =
          let chains : map (entries_from cells') heads ≡ set (map (entries_from cells) heads) c (fore ++ item ∷ aft) =
          ext_get_or [] (map (entries_from cells') heads) (set (map (entries_from cells) heads) c (fore ++ item ∷ aft))
          (simp (length-map, length-set) refl) (λ d lt. chain_then d (cases_eq d c)) in
          let all = chains ∙ ap (set (map (entries_from cells) heads) c) (sym instead) in
          let same = swapped_length in
          cc (all, same)

      pub swapped_order : (d : ℕ) → (d ≡ c) ⊎ (d ≢ c) → IsChain (chain_of (seen cells' heads) d)
      swapped_order d (inl same) =
          let in_chains : c < length (map (entries_from cells) heads) = rw length-map lt in
          let chain : chain_of (seen cells' heads) d ≡ fore ++ item ∷ aft =
          chain_then d (inl same) ∙ rw same (get_or-set_same (map (entries_from cells) heads) c (fore ++ item ∷ aft) [] in_chains) in
          rw chain (chain-instead item fore aft chain_c)
      swapped_order d (inr other) =
          let chain : chain_of (seen cells' heads) d ≡ chain_of (seen cells heads) d =
          chain_then d (inr other) ∙ get_or-set_other (map (entries_from cells) heads) c d (fore ++ item ∷ aft) [] other in
          rw chain (in_order d)

    pub swapped_total : total (seen cells' heads) ≡ total (seen cells heads)
    unfolding swapped_parted
    swapped_total = total_is cells' heads free swapped_parted ∙ sym (total_is cells heads free p)
