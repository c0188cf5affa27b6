-- Laws of freeing a chain, of more chains and of more cells.
use Rattle.std.proofs.Common.{◌≡◌, ◌≢◌, ℕ, ◌+◌, ◌<◌, ◌≤◌, zero, suc, List, [], ◌∷◌, ◌++◌, length, map, cond, set, refl, sym, ap, ap₂, ◌∙◌, arith, get_or, ◌⊎◌, inl, inr, ◌==◌, nat_lt, Option, None, Some, length-set, length-append}
use Rattle.std.specs.Prelude.{sum_by}
use Rattle.std.proofs.lemmas.Bool.{cases_eq}
use Rattle.std.proofs.lemmas.Bool.Decides.{nat_tests}
use Rattle.std.proofs.lemmas.List.{length-map, get_or-set_same, get_or-set_other, get_or_append_left, get_or_push, ext_get_or, map_push, length_push}
use Rattle.std.proofs.lemmas.List.Sums.{sum_by-set, sum_by_push}
use Rattle.ioam_pool.specs.Entry.{Entry}
use Rattle.ioam_pool.specs.Order.{IsChain}
use Rattle.ioam_pool.specs.Cells.{blank, cell_at, entry_at, entries_from, Chained, EndsWith, Parted, times}
use Rattle.ioam_pool.specs.Chains.{chain_of, total, with_chain, with_one_more}
use Rattle.ioam_pool.specs.Kept.{seen, Grows}
use Rattle.ioam_pool.specs.declared.cells.Cell.{Cell}
use Rattle.ioam_pool.proofs.ChainLaws.{Chained-unique, times-append, times-itself, Chained-behind, Chained-set, Chained-turn, entries-kept}
use Rattle.ioam_pool.proofs.PartLaws.{one_at, at_most, shown_at, chain_is, total_is, below_one, from_none}

-- one None more at the end changes no place
pub push_none : {X : Type 0} (xs : List X) (d : ℕ) (n : X) → get_or (xs ++ n ∷ []) d n ≡ get_or xs d n
push_none [] zero n = refl
push_none [] (suc d) n = refl
push_none (x ∷ xs) zero n = refl
push_none (x ∷ xs) (suc d) n = push_none xs d n

module _ (cells : List Cell) (heads : List (Option ℕ)) (free : Option ℕ) (p : Parted cells heads free) where
  pub more_parted : Parted cells (heads ++ None ∷ []) free
  more_parted = record {
    lists = p.lists ++ [] ∷ [];
    frees = p.frees;
    each = length_push p.lists [] ∙ ap (λ n. n + 1) p.each ∙ sym (length_push heads None);
    chained = λ d. rw (push_none heads d None, push_none p.lists d []) (p.chained d);
    freed = p.freed;
    once = λ i. ap (λ n. times i p.frees + n) (sum_by_push (times i) p.lists [] ∙ omega arith) ∙ p.once i;
    all = ap (λ n. length p.frees + n) (sum_by_push length p.lists [] ∙ omega arith) ∙ p.all;
  }

  pub more_is : seen cells (heads ++ None ∷ []) ≡ with_one_more (seen cells heads)
  more_is =
      let chains : map (entries_from cells) (heads ++ None ∷ []) ≡ map (entries_from cells) heads ++ [] ∷ [] =
      map_push (entries_from cells) heads None ∙ ap (λ es. map (entries_from cells) heads ++ es ∷ []) (from_none cells) in
      cc chains

  pub more_total : total (seen cells (heads ++ None ∷ [])) ≡ total (seen cells heads)
  unfolding more_parted
  more_total =
      let sums = sum_by_push length p.lists [] in
      total_is cells (heads ++ None ∷ []) free more_parted ∙ omega arith ∙ sym (total_is cells heads free p)

  module _ (c : ℕ) (lt : c < length heads) (last count : ℕ) (e : EndsWith cells (get_or heads c None) last count) where
    abbrev head : Option ℕ
    head = get_or heads c None

    abbrev list : List ℕ
    list = get_or p.lists c []

    abbrev cell : Cell
    cell = record { item = entry_at cells last; next = free }

    abbrev cells' : List Cell
    cells' = set cells last cell

    abbrev heads' : List (Option ℕ)
    heads' = set heads c None

    is_list : list ≡ e.init ++ last ∷ []
    is_list = Chained-unique cells head list (e.init ++ last ∷ []) (p.chained c) e.whole

    in_lists : c < length p.lists
    in_lists = rw p.each lt

    in_cells : last < length cells
    in_cells = (Chained-behind cells last head e.init [] e.whole).0

    times_list : (i : ℕ) → times i list ≡ times i e.init + cond (last == i) 1 0
    times_list i = ap (times i) is_list ∙ times-append i e.init (last ∷ []) ∙ omega arith

    here : 1 ≤ times last list
    here = let is = times-itself last [] in let both = times_list last in omega arith

    once_last : (times last e.init ≡ 0) × (times last p.frees ≡ 0) × (sum_by (times last) p.lists ≤ 1)
    once_last =
        let most : times last p.frees + sum_by (times last) p.lists ≤ 1 = rw (p.once last) (below_one (nat_lt last (length cells))) in
        let least : times last list ≤ sum_by (times last) p.lists = at_most (times last) p.lists c refl in
        let is = times-itself last [] in
        let both = times_list last in
        let first = here in
        (omega arith, omega arith, omega arith)

    chained_at : (d : ℕ) → (d ≡ c) ⊎ (d ≢ c) → Chained cells' (get_or heads' d None) (get_or (set p.lists c []) d [])
    chained_at d (inl same) = rw (same, get_or-set_same heads c None None lt, get_or-set_same p.lists c [] [] in_lists) refl
    chained_at d (inr other) =
        rw (get_or-set_other heads c d None None other, get_or-set_other p.lists c d [] [] other)
        (Chained-set cells last cell (get_or heads d None) (get_or p.lists d [])
        (one_at (times last) p.lists c d refl once_last.2 in_lists here other) (p.chained d))

    pub freed_parted : Parted cells' heads' head
    freed_parted = record {
      lists = set p.lists c [];
      frees = e.init ++ last ∷ p.frees;
      each = length-set p.lists c [] ∙ p.each ∙ sym (length-set heads c None);
      chained = λ d. chained_at d (cases_eq d c);
      freed = Chained-turn cells last cell head e.init [] p.frees once_last.0 e.whole (Chained-set cells last cell free p.frees once_last.1 p.freed);
      once = λ i.
          let sums = sum_by-set (times i) p.lists c [] [] in_lists in
          let there = times_list i in
          let now = times-append i e.init (last ∷ p.frees) in
          let was = p.once i in
          rw (length-set cells last cell) (omega arith);
      all =
          let sums = sum_by-set length p.lists c [] [] in_lists in
          let there : length list ≡ length e.init + 1 = ap length is_list ∙ length-append e.init (last ∷ []) in
          let now = length-append e.init (last ∷ p.frees) in
          let was = p.all in
          rw (length-set cells last cell) (omega arith);
    }

    pub freed_times : (d i : ℕ) → d ≢ c → 1 ≤ times i (get_or p.lists d []) → 1 ≤ times i (get_or freed_parted.lists d [])
    unfolding freed_parted
    freed_times d i other there = rw (get_or-set_other p.lists c d [] [] other) there

    chain_then : (d : ℕ) → (d ≡ c) ⊎ (d ≢ c) → chain_of (seen cells' heads') d ≡ get_or (set (seen cells heads).chains c []) d []
    unfolding freed_parted
    chain_then d (inl same) =
        let there : get_or (set p.lists c []) d [] ≡ [] = rw same (get_or-set_same p.lists c [] [] in_lists) in
        let in_chains : c < length (map (entries_from cells) heads) = rw length-map lt in
        chain_is cells' heads' d ∙ shown_at cells' heads' head freed_parted d
        ∙ ap (map (entry_at cells')) there
        ∙ rw same (sym (get_or-set_same (map (entries_from cells) heads) c [] [] in_chains))
    chain_then d (inr other) =
        chain_is cells' heads' d ∙ shown_at cells' heads' head freed_parted d
        ∙ ap (map (entry_at cells')) (get_or-set_other p.lists c d [] [] other)
        ∙ entries-kept cells last free (get_or p.lists d []) in_cells
        ∙ sym (chain_is cells heads d ∙ shown_at cells heads free p d)
        ∙ sym (get_or-set_other (map (entries_from cells) heads) c d [] [] other)

    pub freed_is : seen cells' heads' ≡ with_chain (seen cells heads) c []
    freed_is =
        let chains : map (entries_from cells') heads' ≡ set (map (entries_from cells) heads) c [] =
        ext_get_or [] (map (entries_from cells') heads') (set (map (entries_from cells) heads) c [])
        (simp (length-map, length-set) refl) (λ d lt. chain_then d (cases_eq d c)) in
        let same : length cells' ≡ length cells = length-set cells last cell in
        cc (chains, same)

    pub freed_order : ((d : ℕ) → IsChain (chain_of (seen cells heads) d)) → (d : ℕ) → (d ≡ c) ⊎ (d ≢ c) → IsChain (chain_of (seen cells' heads') d)
    freed_order in_order d (inl same) =
        let in_chains : c < length (map (entries_from cells) heads) = rw length-map lt in
        let chain : chain_of (seen cells' heads') d ≡ [] =
        chain_then d (inl same) ∙ rw same (get_or-set_same (map (entries_from cells) heads) c [] [] in_chains) in
        rw chain tt
    freed_order in_order d (inr other) =
        let chain : chain_of (seen cells' heads') d ≡ chain_of (seen cells heads) d =
        chain_then d (inr other) ∙ get_or-set_other (map (entries_from cells) heads) c d [] [] other in
        rw chain (in_order d)

    pub freed_total : total (seen cells' heads') + count ≡ total (seen cells heads)
    unfolding freed_parted
    freed_total =
        let sums = sum_by-set length p.lists c [] [] in_lists in
        let there : length list ≡ length e.init + 1 = ap length is_list ∙ length-append e.init (last ∷ []) in
        let many = e.many in
        let now = total_is cells' heads' head freed_parted in
        let was = total_is cells heads free p in
        omega arith

  -- one cell more, at the front of the free list
  module _ (item : Entry) where
    abbrev grown : List Cell
    grown = cells ++ (record { item = item; next = free }) ∷ []

    grown_at : (i : ℕ) → i < length cells → cell_at grown i ≡ cell_at cells i
    grown_at i lt = get_or_append_left cells _ blank i lt

    grown_length : length grown ≡ length cells + 1
    grown_length = length_push cells _

    grown_chain : (at : Option ℕ) (is : List ℕ) → Chained cells at is → Chained grown at is × (map (entry_at grown) is ≡ map (entry_at cells) is)
    grown_chain at [] c = (c, refl)
    grown_chain at (i ∷ is) c =
        let same = grown_at i c.1 in
        let count = grown_length in
        let in_range : i < length grown = omega (arith, c.1) in
        let rest = grown_chain (cell_at cells i).next is c.2 in
        ((c.0, in_range, rw same rest.0), ap₂ (λ e es. e ∷ es) (ap (λ (cell : Cell). cell.item) same) rest.1)

    one_more : (i n m : ℕ) → m ≡ cond (nat_lt i n) 1 0 → cond (n == i) 1 0 + m ≡ cond (nat_lt i (n + 1)) 1 0
    one_more i n m is = grind (arith, nat_tests)

    grown_parted : Parted grown heads (Some (length cells))
    grown_parted =
        let here : cell_at grown (length cells) ≡ record { item = item; next = free } = get_or_push cells _ blank (length cells) refl in
        let count = grown_length in
        let in_range : length cells < length grown = omega arith in
        record {
          lists = p.lists;
          frees = length cells ∷ p.frees;
          each = p.each;
          chained = λ d. (grown_chain (get_or heads d None) (get_or p.lists d []) (p.chained d)).0;
          freed = (refl, in_range, rw here (grown_chain free p.frees p.freed).0);
          once = λ i.
              let more = one_more i (length cells) (times i p.frees + sum_by (times i) p.lists) (p.once i) in
              rw grown_length (omega arith);
          all = let was = p.all in omega arith;
        }

    grown_chains : map (entries_from grown) heads ≡ map (entries_from cells) heads
    unfolding grown_parted
    grown_chains = ext_get_or [] (map (entries_from grown) heads) (map (entries_from cells) heads) (simp length-map refl)
        (λ d lt. chain_is grown heads d ∙ shown_at grown heads (Some (length cells)) grown_parted d
        ∙ (grown_chain (get_or heads d None) (get_or p.lists d []) (p.chained d)).1
        ∙ sym (chain_is cells heads d ∙ shown_at cells heads free p d))

-- a step of growing
pub Grows-more : (cells : List Cell) (free : Option ℕ) (cells' : List Cell) (free' : Option ℕ) (item : Entry) → Grows cells free cells' free'
    → Grows cells free (cells' ++ (record { item = item; next = free' }) ∷ []) (Some (length cells'))
Grows-more cells free cells' free' item grows heads p =
    let so_far = grows heads p in (
      grown_parted cells' heads free' so_far.0 item,
      grown_chains cells' heads free' so_far.0 item ∙ so_far.1,
      λ at is c. (grown_chain cells' heads free' so_far.0 item at is (so_far.2 at is c)).0,
    )
