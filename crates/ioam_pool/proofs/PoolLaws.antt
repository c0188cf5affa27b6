-- Laws of a whole pool, as its methods cite them.
use Rattle.std.proofs.Common.{Bool, true, false, not, ◌&&◌, ◌==◌, ◌≡◌, ◌≢◌, ℕ, ◌+◌, ◌-◌, ◌<◌, ◌≤◌, ◌^◌, zero, suc, List, [], ◌∷◌, ◌++◌, length, map, set, refl, sym, ap, ap₂, ◌∙◌, subst, arith, rules, get_or, ◌⊎◌, inl, inr, ⊎_elim, Option, None, Some, length-set}
use Rattle.std.specs.Prelude.{sum_by, Contains, filter}
use Rattle.std.proofs.lemmas.Bool.{cases_eq, cases_Bool}
use Rattle.std.proofs.lemmas.List.{length-map, get_or_read, set-get_or}
use Rattle.ioam_pool.specs.Entry.{Entry, is_full, bare}
use Rattle.ioam_pool.specs.Order.{order, IsChain, IsInOrder, placed, without, Repeats, Replaces, IsApart}
use Rattle.ioam_pool.specs.Cells.{blank, cell_at, entry_at, entries_from, Chained, Ends, EndsWith, Parted, linked_in, head_then, Gap, Ties, IsLast, with_item}
use Rattle.ioam_pool.specs.Chains.{Chains, chain_of, total, with_chain, with_one_more}
use Rattle.ioam_pool.specs.Guides.{Guided}
use Rattle.ioam_pool.specs.Kept.{seen, IsPool, IsRoomFor}
use Rattle.ioam_pool.specs.declared.cells.Cell.{Cell}
use Rattle.ioam_pool.specs.declared.guides.Guide.{Guide}
use Rattle.ioam_pool.proofs.ChainLaws.{Chained-unique, Chained-behind, split_first}
use Rattle.ioam_pool.proofs.PartLaws.{at_most, chain_is, total_is, gap_no_repeat, gap_no_replace, kept_parted, kept_is, kept_order, kept_total, room_was, full_total, from_none}
use Rattle.ioam_pool.proofs.SwapLaws.{in_cells, tied_bare, tied_full, was_bare, tied_replaces, tied_no_repeat, swapped_length, swapped_parted, swapped_is, swapped_order, swapped_total}
use Rattle.ioam_pool.proofs.OrderLaws.{chain_in_order}
use Rattle.ioam_pool.proofs.GuideLaws.{guided_kept, guided_swapped, guided_freed}
use Rattle.ioam_pool.proofs.FreeLaws.{more_parted, more_is, more_total, freed_parted, freed_is, freed_order, freed_total, push_none}

pub gives : (full was_full : Bool) → (full && not was_full) ≡ true → (full ≡ true) × (was_full ≡ false)
gives true false so = (refl, refl)
gives true true so = absurd (cc so)
gives false was_full so = absurd (cc so)

module _ (cells : List Cell) (heads : List (Option ℕ)) (free : Option ℕ) (held : ℕ) (pool : IsPool cells heads free held) where
  p : Parted cells heads free
  p = pool.parted

  pub first_in : (at : ℕ) → free ≡ Some at → at < length cells
  first_in at is = (split_first cells at pool.parted.frees (rw is at pool.parted.freed)).2

  module _ (c : ℕ) (there : c < length (seen cells heads).chains) (head : Option ℕ) (read : head ≡ get_or heads c head) where
    in_heads : c < length heads
    in_heads = rw length-map at there

    pub head_is : head ≡ get_or heads c None
    head_is = get_or_read heads c head in_heads read None

    pub ends_at : Ends cells head
    ends_at =
        let most : length (get_or pool.parted.lists c []) ≤ sum_by length pool.parted.lists = at_most length pool.parted.lists c refl in
        let all = pool.parted.all in
        let short : length (get_or pool.parted.lists c []) ≤ length cells = omega arith in
        record { list = get_or pool.parted.lists c []; chained = rw head_is (pool.parted.chained c); short = short }

    pub chain_at : chain_of (seen cells heads) c ≡ entries_from cells head
    chain_at = chain_is cells heads c ∙ ap (entries_from cells) (sym head_is)

    pub chain_order : IsChain (entries_from cells head)
    chain_order = rw (← chain_at) (pool.in_order c)

    pub order_at : IsInOrder order (entries_from cells head)
    order_at = chain_in_order (entries_from cells head) chain_order

    -- a cell of the chain ties with an item
    module _ (item : Entry) (at : ℕ) (tie : Ties cells head at item) where
      tie' : Ties cells (get_or heads c None) at item
      tie' = rw head_is at tie

      pub tied_in : at < length cells
      tied_in = in_cells cells heads free pool.parted c in_heads at item tie'

      pub entry_is : (cell : Cell) → cell ≡ get_or cells at cell → cell.item ≡ entry_at cells at
      entry_is cell read_at = ap (λ (c : Cell). c.item) (get_or_read cells at cell tied_in read_at blank)

      pub repeat_bare : is_full item ≡ false → Repeats (chain_of (seen cells heads) c) item
      repeat_bare = tied_bare cells heads free pool.parted c in_heads at item tie'

      pub repeat_full : is_full (entry_at cells at) ≡ true → is_full item ≡ true → Repeats (chain_of (seen cells heads) c) item
      repeat_full = tied_full cells heads free pool.parted c in_heads at item tie'

      module _ (full : is_full item ≡ true) (not_full : is_full (entry_at cells at) ≡ false) where
        pub out_is : entry_at cells at ≡ bare item
        out_is = was_bare cells heads free pool.parted c in_heads at item tie' full not_full

        pub replaces : Replaces (chain_of (seen cells heads) c) item
        replaces = tied_replaces cells heads free pool.parted c in_heads at item tie' full not_full

        pub not_repeated : Repeats (chain_of (seen cells heads) c) item → ⊥
        not_repeated = tied_no_repeat cells heads free pool.parted c in_heads at item tie' full not_full (pool.in_order c)

        pub swapped_pool : IsPool (with_item cells at item) heads free held
        swapped_pool = record {
          parted = swapped_parted cells heads free pool.parted c in_heads at item tie' full not_full;
          count = pool.count ∙ sym (swapped_total cells heads free pool.parted c in_heads at item tie' full not_full);
          in_order = λ d. swapped_order cells heads free pool.parted c in_heads at item tie' full not_full pool.in_order d (cases_eq d c);
          room = rw (swapped_length cells heads free pool.parted c in_heads at item tie' full not_full) pool.room;
        }

        pub swapped_held : total (seen (with_item cells at item) heads) ≡ total (seen cells heads)
        swapped_held = swapped_total cells heads free pool.parted c in_heads at item tie' full not_full

        pub swapped_seen : seen (with_item cells at item) heads ≡ with_chain (seen cells heads) c (placed order item (without (bare item) (chain_of (seen cells heads) c)))
        swapped_seen = swapped_is cells heads free pool.parted c in_heads at item tie' full not_full pool.in_order

        pub swapped_guided : (guides : List Guide) → Guided cells heads guides → Guided (with_item cells at item) heads guides
        swapped_guided guides guided = guided_swapped cells heads free pool.parted c in_heads guides guided item at tie' full not_full

    -- the item gives way where it has no extra part and the new one has one
    repeat_by : (item : Entry) (at : ℕ) → Ties cells head at item → (full was_full : Bool) → is_full item ≡ full → is_full (entry_at cells at) ≡ was_full
        → (full && not was_full) ≡ false → Repeats (chain_of (seen cells heads) c) item
    repeat_by item at tie false was_full is was so = repeat_bare item at tie is
    repeat_by item at tie true true is was so = repeat_full item at tie was is
    repeat_by item at tie true false is was so = absurd (cc so)

    pub repeats : (item : Entry) (at : ℕ) → Ties cells head at item → (is_full item && not (is_full (entry_at cells at))) ≡ false
        → Repeats (chain_of (seen cells heads) c) item
    repeats item at tie so = repeat_by item at tie (is_full item) (is_full (entry_at cells at)) refl refl so

    -- an item that ties with another isn't apart
    pub tied_not_apart : (item : Entry) (at : ℕ) → Ties cells head at item → IsApart (chain_of (seen cells heads) c) item → ⊥
    tied_not_apart item at tie apart = ⊎_elim
        (λ so. let both = gives (is_full item) (is_full (entry_at cells at)) so in apart.1 (replaces item at tie both.0 both.1))
        (λ so. apart.0 (repeats item at tie so))
        (cases_Bool (is_full item && not (is_full (entry_at cells at))))

    module _ (item : Entry) (before : Option ℕ) (gap : Gap cells head before item) where
      gap' : Gap cells (get_or heads c None) before item
      gap' = rw head_is at gap

      pub no_repeat : Repeats (chain_of (seen cells heads) c) item → ⊥
      no_repeat = gap_no_repeat cells heads free pool.parted c item before gap' (pool.in_order c)

      pub no_replace : Replaces (chain_of (seen cells heads) c) item → ⊥
      no_replace = gap_no_replace cells heads free pool.parted c item before gap' (pool.in_order c)

      last_in : (before : Option ℕ) (front back : List ℕ) → IsLast before front → Chained cells head (front ++ back) → (b : ℕ) → before ≡ Some b → b < length cells
      last_in None front back last whole b is = absurd (cc is)
      last_in (Some a) front back last whole b is =
          let same : a ≡ b = cc is in
          let split : front ++ back ≡ last.0 ++ a ∷ back = ap (λ xs. xs ++ back) last.1 ∙ Rattle.std.proofs.Common.append_assoc last.0 (a ∷ []) back in
          rw (← same) (Chained-behind cells a head last.0 back (rw split at whole)).0

      pub before_in : (b : ℕ) → before ≡ Some b → b < length cells
      before_in = last_in before gap.front gap.back gap.last gap.whole

      module _ (at : ℕ) (begins : free ≡ Some at) (cell : Cell) (free_cell : cell ≡ get_or cells at cell)
          (cells' : List Cell) (linked : cells' ≡ linked_in cells head before at item)
          (head' : Option ℕ) (first : head' ≡ head_then head before at) where
        next_is : cell.next ≡ (cell_at cells at).next
        next_is = ap (λ (c : Cell). c.next) (get_or_read cells at cell (first_in at begins) free_cell blank)

        kept_at : IsPool (linked_in cells (get_or heads c None) before at item) (set heads c (head_then (get_or heads c None) before at)) (cell_at cells at).next (held + 1)
        kept_at = record {
          parted = kept_parted cells heads free pool.parted c item before gap' in_heads at begins;
          count = ap (λ n. n + 1) pool.count ∙ sym (kept_total cells heads free pool.parted c item before gap' in_heads at begins);
          in_order = λ d. kept_order cells heads free pool.parted c item before gap' in_heads at begins pool.in_order d (cases_eq d c);
          room = rw (Rattle.ioam_pool.proofs.ChainLaws.linked-length cells (get_or heads c None) at item before) pool.room;
        }

        pub kept_pool : IsPool cells' (set heads c head') cell.next (held + 1)
        kept_pool = rw (linked, first, next_is, head_is) kept_at

        pub kept_seen : seen cells' (set heads c head') ≡ with_chain (seen cells heads) c (placed order item (chain_of (seen cells heads) c))
        kept_seen = rw (linked, first, head_is) (kept_is cells heads free pool.parted c item before gap' in_heads at begins)

        pub kept_held : total (seen cells' (set heads c head')) ≡ total (seen cells heads) + 1
        kept_held = rw (linked, first, head_is) (kept_total cells heads free pool.parted c item before gap' in_heads at begins)

        pub kept_guided : (guides : List Guide) → Guided cells heads guides → Guided cells' (set heads c head') guides
        kept_guided guides guided = rw (linked, first, head_is) (guided_kept cells heads free pool.parted c in_heads guides guided item before gap' at begins)

      module _ (at : ℕ) (begins : free ≡ Some at) where
        pub kept_room : total (seen cells heads) < length cells
        kept_room = room_was cells heads free pool.parted c item before gap' in_heads at begins

        pub kept_few : held + 1 < 2 ^ 32
        kept_few = let room = pool.room in let count = pool.count in omega (arith, kept_room)

    pub last_in_cells : (last count : ℕ) → EndsWith cells head last count → last < length cells
    last_in_cells last count found = (Chained-behind cells last head found.init [] found.whole).0

    module _ (last count : ℕ) (found : EndsWith cells head last count) (cell : Cell) (read_last : cell ≡ get_or cells last cell) where
      found' : EndsWith cells (get_or heads c None) last count
      found' = rw head_is at found

      item_is : cell.item ≡ entry_at cells last
      item_is = ap (λ (c : Cell). c.item) (get_or_read cells last cell (last_in_cells last count found) read_last blank)

      freed_at : IsPool (set cells last (record { item = entry_at cells last; next = free })) (set heads c None) (get_or heads c None) (held - count)
      freed_at =
          let totals = freed_total cells heads free pool.parted c in_heads last count found' in
          let was = pool.count in
          record {
            parted = freed_parted cells heads free pool.parted c in_heads last count found';
            count = omega arith;
            in_order = λ d. freed_order cells heads free pool.parted c in_heads last count found' pool.in_order d (cases_eq d c);
            room = rw (length-set cells last (record { item = entry_at cells last; next = free })) pool.room;
          }

      pub freed_pool : IsPool (set cells last (record { item = cell.item; next = free })) (set heads c None) head (held - count)
      freed_pool = rw (item_is, head_is) freed_at

      pub freed_seen : seen (set cells last (record { item = cell.item; next = free })) (set heads c None) ≡ with_chain (seen cells heads) c []
      freed_seen = rw item_is (freed_is cells heads free pool.parted c in_heads last count found')

      pub freed_guided : (guides guides' : List Guide) → Guided cells heads guides → guides' ≡ filter (λ (g : Guide). not (g.chain == c)) guides
          → Guided (set cells last (record { item = cell.item; next = free })) (set heads c None) guides'
      freed_guided guides guides' guided dropped = rw (item_is, dropped) (guided_freed cells heads free pool.parted c in_heads guides guided last count found')

      pub freed_count : count ≤ held
      freed_count =
          let totals = freed_total cells heads free pool.parted c in_heads last count found' in
          let was = pool.count in
          omega arith

    abbrev of_chains : List (List Entry) → Chains
    of_chains chains = record { chains = chains; capacity = length cells }

    pub free_none : head ≡ None → seen cells heads ≡ with_chain (seen cells heads) c []
    free_none none =
        let empty : chain_of (seen cells heads) c ≡ [] = chain_at ∙ ap (entries_from cells) none ∙ from_none cells in
        let chains : set (seen cells heads).chains c [] ≡ (seen cells heads).chains =
        ap (set (seen cells heads).chains c) (sym empty) ∙ set-get_or (seen cells heads).chains c [] in
        ap of_chains (sym chains)

  pub within : held ≤ length cells
  within =
      let count = pool.count in
      let totals = total_is cells heads free pool.parted in
      let all = pool.parted.all in
      omega arith

  pub full : free ≡ None → total (seen cells heads) ≡ length cells
  full = full_total cells heads free pool.parted

  module _ (heads' : List (Option ℕ)) (pushed : heads' ≡ heads ++ None ∷ []) where
    more_order : (d : ℕ) → IsChain (chain_of (seen cells (heads ++ None ∷ [])) d)
    more_order d =
        let same : chain_of (seen cells (heads ++ None ∷ [])) d ≡ chain_of (seen cells heads) d =
        chain_is cells (heads ++ None ∷ []) d ∙ ap (entries_from cells) (push_none heads d None) ∙ sym (chain_is cells heads d) in
        rw same (pool.in_order d)

    more_count : held ≡ total (seen cells (heads ++ None ∷ []))
    more_count = pool.count ∙ sym (more_total cells heads free pool.parted)

    pub more_pool : IsPool cells heads' free held
    more_pool = rw pushed (record { parted = more_parted cells heads free pool.parted; count = more_count; in_order = more_order; room = pool.room })

    pub more_seen : seen cells heads' ≡ with_one_more (seen cells heads)
    more_seen = rw pushed (more_is cells heads free pool.parted)

pub new_pool : (cells : List Cell) (heads : List (Option ℕ)) → cells ≡ [] → heads ≡ [] → IsPool cells heads None 0
new_pool cells heads no_cells no_heads = rw (no_cells, no_heads) (record {
  parted = record {
    lists = [];
    frees = [];
    each = refl;
    chained = λ d. refl;
    freed = refl;
    once = λ i. let none : Rattle.std.specs.Prelude.nat_lt i 0 ≡ Rattle.std.proofs.Common.false = Rattle.std.proofs.lemmas.Bool.le-ltb i 0 (omega arith) in rw none refl;
    all = refl;
  };
  count = refl;
  in_order = λ d. tt;
  room = Rattle.std.proofs.Common.lit< tt;
})

-- the memory of a pool is as it was
pub still_room : (cells chains a b c cells' chains' a' b' c' : ℕ) → IsRoomFor cells chains a b c → cells' ≡ cells → chains' ≡ chains → a' ≡ a → b' ≡ b → c' ≡ c
    → IsRoomFor cells' chains' a' b' c'
still_room cells chains a b c cells' chains' a' b' c' room of_cells of_chains of_a of_b of_c = record {
  of_cells = of_a ∙ room.of_cells ∙ sym of_cells;
  of_guides = rw (of_b, of_cells) room.of_guides;
  of_heads = rw (of_c, of_chains) room.of_heads;
}
