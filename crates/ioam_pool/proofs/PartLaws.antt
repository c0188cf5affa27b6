-- Laws of the cells parted among chains and the free list.
use Rattle.std.proofs.Common.{◌≡◌, ◌≢◌, ℕ, ◌+◌, ◌<◌, ◌≤◌, suc, Bool, true, false, List, [], ◌∷◌, ◌++◌, length, map, cond, set, refl, sym, ap, ap₂, ◌∙◌, arith, get_or, ◌⊎◌, inl, inr, ◌==◌, nat_lt, Option, None, Some, length-set, length-append, append_assoc}
use Rattle.std.specs.Prelude.{sum_by}
use Rattle.std.specs.List.{AllByRecursion}
use Rattle.std.proofs.lemmas.Bool.{cases_eq, cases_lt}
use Rattle.std.proofs.lemmas.Bool.Decides.{nat_tests}
use Rattle.std.proofs.lemmas.List.{length-map, get_or-set_same, get_or-set_other, get_or-map, get_or_past, ext_get_or, map-append}
use Rattle.std.proofs.lemmas.List.Sums.{sum_by-set, sum_by-cons, get_or-le-sum_by}
use Rattle.ioam_pool.specs.Entry.{Entry}
use Rattle.ioam_pool.specs.Order.{order, meet, IsChain, placed, Repeats, Replaces}
use Rattle.std.specs.declared.cmp.Ordering.TheVariants.{Less, Equal}
use Rattle.ioam_pool.specs.Cells.{cell_at, entry_at, entries_from, Chained, Parted, times, linked_in, head_then, IsLast, BeginsBehind, Gap}
use Rattle.ioam_pool.specs.Chains.{chain_of, total, with_chain}
use Rattle.ioam_pool.specs.Kept.{seen}
use Rattle.ioam_pool.specs.declared.cells.Cell.{Cell}
use Rattle.ioam_pool.proofs.ChainLaws.{walked-is, Chained-unique, times-append, times-itself, Misses, Inside, Once, linked-length, linked-frame, linked-entries, linked-item, linked-chain, Chained-behind, split_first}
use Rattle.ioam_pool.proofs.OrderLaws.{FirstBehind, placed-between, chain-between, none_ties, no_repeat, no_replace}

-- where the sum over lists is 0, each has 0
pub none_at : {X : Type 0} (g : List X → ℕ) (lists : List (List X)) (d : ℕ) → g [] ≡ 0 → sum_by g lists ≡ 0 → g (get_or lists d []) ≡ 0
none_at g lists d empty none = elim (cases_lt d (length lists)) [
  | inl lt ↦ omega (arith, get_or-le-sum_by g lists d [] lt)
  | inr past ↦ ap g (get_or_past lists d [] past) ∙ empty
]

-- where it is 1 and one list has it, no other has
pub one_at : {X : Type 0} (g : List X → ℕ) (lists : List (List X)) (c d : ℕ) → g [] ≡ 0 → sum_by g lists ≤ 1 → c < length lists
    → 1 ≤ g (get_or lists c []) → d ≢ c → g (get_or lists d []) ≡ 0
one_at g lists c d empty most lt here other =
    let without : sum_by g (set lists c []) + g (get_or lists c []) ≡ sum_by g lists + g [] = sum_by-set g lists c [] [] lt in
    let none : sum_by g (set lists c []) ≡ 0 = omega arith in
    sym (ap g (get_or-set_other lists c d [] [] other)) ∙ none_at g (set lists c []) d empty none

pub at_most : {X : Type 0} (g : List X → ℕ) (lists : List (List X)) (d : ℕ) → g [] ≡ 0 → g (get_or lists d []) ≤ sum_by g lists
at_most g lists d empty = elim (cases_lt d (length lists)) [
  | inl lt ↦ get_or-le-sum_by g lists d [] lt
  | inr past ↦ let none : g (get_or lists d []) ≡ 0 = ap g (get_or_past lists d [] past) ∙ empty in omega arith
]

-- what each chain shows
pub shown_at : (cells : List Cell) (heads : List (Option ℕ)) (free : Option ℕ) (p : Parted cells heads free) (d : ℕ)
    → entries_from cells (get_or heads d None) ≡ map (entry_at cells) (get_or p.lists d [])
shown_at cells heads free p d =
    let most : length (get_or p.lists d []) ≤ sum_by length p.lists = at_most length p.lists d refl in
    let all = p.all in
    walked-is (length cells) cells (get_or heads d None) (get_or p.lists d []) (p.chained d) (omega arith)

map_at : {X : Type 0} (f : Option ℕ → List X) (heads : List (Option ℕ)) (d : ℕ) → f None ≡ [] → get_or (map f heads) d [] ≡ f (get_or heads d None)
map_at f heads d none = elim (cases_lt d (length heads)) [
  | inl lt ↦ get_or-map f heads d None [] lt
  | inr past ↦
      let far : length (map f heads) ≤ d = rw length-map past in
      get_or_past (map f heads) d [] far ∙ sym none ∙ sym (ap f (get_or_past heads d None past))
]

pub from_none : (cells : List Cell) → entries_from cells None ≡ []
from_none cells = walked-is (length cells) cells None [] refl (omega arith)

pub chain_is : (cells : List Cell) (heads : List (Option ℕ)) (d : ℕ) → chain_of (seen cells heads) d ≡ entries_from cells (get_or heads d None)
chain_is cells heads d = map_at (entries_from cells) heads d (from_none cells)

sum_same : {X Y : Type 0} (f : List X → ℕ) (g : List Y → ℕ) (xs : List (List X)) (ys : List (List Y)) → length xs ≡ length ys
    → ((d : ℕ) → f (get_or xs d []) ≡ g (get_or ys d [])) → sum_by f xs ≡ sum_by g ys
sum_same f g [] [] l same = refl
sum_same f g [] (y ∷ ys) l same = absurd (omega arith)
sum_same f g (x ∷ xs) [] l same = absurd (omega arith)
sum_same f g (x ∷ xs) (y ∷ ys) l same =
    sum_by-cons f x xs ∙ ap₂ (λ a b. a + b) (same 0) (sum_same f g xs ys (omega arith) (λ d. same (suc d))) ∙ sym (sum_by-cons g y ys)

pub total_is : (cells : List Cell) (heads : List (Option ℕ)) (free : Option ℕ) (p : Parted cells heads free)
    → total (seen cells heads) ≡ sum_by length p.lists
total_is cells heads free p =
    let as_many : length (map (entries_from cells) heads) ≡ length p.lists = rw length-map (sym p.each) in
    sum_same length length (map (entries_from cells) heads) p.lists as_many
    (λ d. ap length (chain_is cells heads d ∙ shown_at cells heads free p d) ∙ length-map (get_or p.lists d []) (entry_at cells))

yes : (i n : ℕ) → i < n → ◌≡◌ {A = ℕ} (cond (nat_lt i n) 1 0) 1
yes i n lt = grind (arith, nat_tests)

pub below_one : (b : Bool) → cond b 1 0 ≤ 1
below_one true = omega arith
below_one false = omega arith

module _ (cells : List Cell) (heads : List (Option ℕ)) (free : Option ℕ) (p : Parted cells heads free) (c : ℕ)
    (item : Entry) (before : Option ℕ) (gap : Gap cells (get_or heads c None) before item) where
  abbrev head : Option ℕ
  head = get_or heads c None

  abbrev list : List ℕ
  list = get_or p.lists c []

  is_list : list ≡ gap.front ++ gap.back
  is_list = Chained-unique cells head list (gap.front ++ gap.back) (p.chained c) gap.whole

  -- the entries of the chain
  abbrev fore : List Entry
  fore = map (entry_at cells) gap.front

  abbrev aft : List Entry
  aft = map (entry_at cells) gap.back

  pub chain_was : chain_of (seen cells heads) c ≡ fore ++ aft
  chain_was = chain_is cells heads c ∙ shown_at cells heads free p c ∙ ap (map (entry_at cells)) is_list ∙ map-append (entry_at cells) gap.front gap.back

  passed_entries : (is : List ℕ) → AllByRecursion (λ i. meet (entry_at cells i) item ≡ Less) is → AllByRecursion (λ y. meet y item ≡ Less) (map (entry_at cells) is)
  passed_entries [] all = tt
  passed_entries (i ∷ is) all = (all.0, passed_entries is all.1)

  behind_entries : (is : List ℕ) → BeginsBehind cells item is → FirstBehind item (map (entry_at cells) is)
  behind_entries [] behind = tt
  behind_entries (i ∷ is) behind = behind

  apart : IsChain (chain_of (seen cells heads) c) → AllByRecursion (λ y. meet y item ≢ Equal) (fore ++ aft)
  apart in_order = none_ties item fore aft (passed_entries gap.front gap.passed) (behind_entries gap.back gap.behind) (rw chain_was at in_order)

  pub gap_no_repeat : IsChain (chain_of (seen cells heads) c) → Repeats (chain_of (seen cells heads) c) item → ⊥
  gap_no_repeat in_order there = no_repeat item (fore ++ aft) (apart in_order) (rw chain_was at there)

  pub gap_no_replace : IsChain (chain_of (seen cells heads) c) → Replaces (chain_of (seen cells heads) c) item → ⊥
  gap_no_replace in_order there = no_replace item (fore ++ aft) (apart in_order) (rw chain_was at there)

  module _ (lt : c < length heads) (at : ℕ) (begins : free ≡ Some at) where
    abbrev cells' : List Cell
    cells' = linked_in cells head before at item

    abbrev heads' : List (Option ℕ)
    heads' = set heads c (head_then head before at)

    abbrev free' : Option ℕ
    free' = (cell_at cells at).next

    split : (rest : List ℕ) × (p.frees ≡ at ∷ rest) × (at < length cells) × Chained cells (cell_at cells at).next rest
    split = split_first cells at p.frees (rw begins at p.freed)

    in_lists : c < length p.lists
    in_lists = rw p.each lt

    at_once : (times at split.0 ≡ 0) × (sum_by (times at) p.lists ≡ 0)
    at_once =
        let in_range : at < length cells = split.2 in
        let here : times at p.frees ≡ 1 + times at split.0 = ap (times at) split.1 ∙ times-itself at split.0 in
        let one : times at p.frees + sum_by (times at) p.lists ≡ 1 = p.once at ∙ yes at (length cells) in_range in
        (omega arith, omega arith)

    at_nowhere : (d : ℕ) → times at (get_or p.lists d []) ≡ 0
    at_nowhere d = none_at (times at) p.lists d refl at_once.1

    -- what is known of the cell behind which the item goes
    on_list : (b : ℕ) → IsLast (Some b) gap.front → (b < length cells) × (1 ≤ times b list)
    on_list b last =
        let whole : gap.front ++ gap.back ≡ last.0 ++ b ∷ gap.back = ap (λ xs. xs ++ gap.back) last.1 ∙ append_assoc last.0 (b ∷ []) gap.back in
        let count : times b list ≡ times b last.0 + (1 + times b gap.back) =
        ap (times b) (is_list ∙ whole) ∙ times-append b last.0 (b ∷ gap.back) ∙ ap (λ n. times b last.0 + n) (times-itself b gap.back) in
        ((Chained-behind cells b head last.0 gap.back (rw whole at gap.whole)).0, omega arith)

    inside_at : (before : Option ℕ) → IsLast before gap.front → Inside before cells
    inside_at None last = tt
    inside_at (Some b) last = (on_list b last).0

    most_once : (b : ℕ) → times b p.frees + sum_by (times b) p.lists ≤ 1
    most_once b = rw (p.once b) (below_one (nat_lt b (length cells)))

    once_at : (before : Option ℕ) → Once before (gap.front ++ gap.back)
    once_at None = tt
    once_at (Some b) =
        let most = most_once b in
        let least : times b list ≤ sum_by (times b) p.lists = at_most (times b) p.lists c refl in
        rw (← is_list) (omega arith)

    misses_at : (before : Option ℕ) → IsLast before gap.front → (d : ℕ) → d ≢ c → Misses before (get_or p.lists d [])
    misses_at None last d other = tt
    misses_at (Some b) last d other =
        let most = most_once b in
        one_at (times b) p.lists c d refl (omega arith) in_lists (on_list b last).1 other

    misses_free : (before : Option ℕ) → IsLast before gap.front → Misses before split.0
    misses_free None last = tt
    misses_free (Some b) last =
        let most = most_once b in
        let least : times b list ≤ sum_by (times b) p.lists = at_most (times b) p.lists c refl in
        let here : 1 ≤ times b list = (on_list b last).1 in
        let free_b : times b p.frees ≡ cond (at == b) 1 0 + times b split.0 = ap (times b) split.1 in
        omega arith

    abbrev lists' : List (List ℕ)
    lists' = set p.lists c (gap.front ++ at ∷ gap.back)

    chained_at : (d : ℕ) → (d ≡ c) ⊎ (d ≢ c) → Chained cells' (get_or heads' d None) (get_or lists' d [])
    chained_at d (inl same) =
        let none : times at (gap.front ++ gap.back) ≡ 0 = ap (times at) (sym is_list) ∙ at_nowhere c in
        let here : Chained cells' (head_then head before at) (gap.front ++ at ∷ gap.back) =
        linked-chain cells head at item before gap.front gap.back gap.last gap.whole none (once_at before) split.2 in
        rw (same, get_or-set_same heads c (head_then head before at) None lt, get_or-set_same p.lists c (gap.front ++ at ∷ gap.back) [] in_lists) here
    chained_at d (inr other) =
        rw (get_or-set_other heads c d (head_then head before at) None other, get_or-set_other p.lists c d (gap.front ++ at ∷ gap.back) [] other)
        (linked-frame cells head at item before (get_or heads d None) (get_or p.lists d []) (at_nowhere d) (misses_at before gap.last d other) (p.chained d))

    length-there : length (gap.front ++ at ∷ gap.back) ≡ length list + 1
    length-there = length-append gap.front (at ∷ gap.back) ∙ omega (arith, ap length is_list, length-append gap.front gap.back)

    times-there : (i : ℕ) → times i (gap.front ++ at ∷ gap.back) ≡ times i list + cond (at == i) 1 0
    times-there i =
        let old : times i list ≡ times i gap.front + times i gap.back = ap (times i) is_list ∙ times-append i gap.front gap.back in
        times-append i gap.front (at ∷ gap.back) ∙ omega arith

    pub kept_parted : Parted cells' heads' free'
    kept_parted = record {
      lists = lists';
      frees = split.0;
      each = length-set p.lists c (gap.front ++ at ∷ gap.back) ∙ p.each ∙ sym (length-set heads c (head_then head before at));
      chained = λ d. chained_at d (cases_eq d c);
      freed = linked-frame cells head at item before free' split.0 at_once.0 (misses_free before gap.last) split.3;
      once = λ i.
          let sums = sum_by-set (times i) p.lists c (gap.front ++ at ∷ gap.back) [] in_lists in
          let there = times-there i in
          let free_i : times i p.frees ≡ cond (at == i) 1 0 + times i split.0 = ap (times i) split.1 in
          let was = p.once i in
          rw (linked-length cells head at item before) (omega arith);
      all =
          let sums = sum_by-set length p.lists c (gap.front ++ at ∷ gap.back) [] in_lists in
          let frees : length p.frees ≡ 1 + length split.0 = ap length split.1 ∙ omega arith in
          let was = p.all in
          let there = length-there in
          rw (linked-length cells head at item before) (omega arith);
    }

    times_then : (d i : ℕ) → (d ≡ c) ⊎ (d ≢ c) → times i (get_or p.lists d []) ≤ times i (get_or lists' d [])
    times_then d i (inl same) =
        let there = times-there i in
        rw (same, get_or-set_same p.lists c (gap.front ++ at ∷ gap.back) [] in_lists) (omega arith)
    times_then d i (inr other) = rw (get_or-set_other p.lists c d (gap.front ++ at ∷ gap.back) [] other) (omega arith)

    -- what stands on a chain stays on it
    pub kept_times : (d i : ℕ) → 1 ≤ times i (get_or p.lists d []) → 1 ≤ times i (get_or kept_parted.lists d [])
    unfolding kept_parted
    kept_times d i there = let more = times_then d i (cases_eq d c) in omega arith

    entries_there : map (entry_at cells') (gap.front ++ at ∷ gap.back) ≡ fore ++ item ∷ aft
    entries_there =
        let inside : Inside before cells = inside_at before gap.last in
        let none : times at gap.front + times at gap.back ≡ 0 = sym (times-append at gap.front gap.back) ∙ ap (times at) (sym is_list) ∙ at_nowhere c in
        let front_none : times at gap.front ≡ 0 = omega arith in
        let back_none : times at gap.back ≡ 0 = omega arith in
        map-append (entry_at cells') gap.front (at ∷ gap.back)
        ∙ ap₂ (λ xs ys. xs ++ ys) (linked-entries cells head at item before gap.front front_none inside)
        (ap₂ (λ x xs. x ∷ xs) (linked-item cells head at item before split.2 inside) (linked-entries cells head at item before gap.back back_none inside))

    chain_then : (d : ℕ) → (d ≡ c) ⊎ (d ≢ c) → chain_of (seen cells' heads') d ≡ get_or (set (seen cells heads).chains c (fore ++ item ∷ aft)) d []
    unfolding kept_parted
    chain_then d (inl same) =
        let now = chain_is cells' heads' d ∙ shown_at cells' heads' free' kept_parted d in
        let there : get_or lists' d [] ≡ gap.front ++ at ∷ gap.back = rw same (get_or-set_same p.lists c (gap.front ++ at ∷ gap.back) [] in_lists) in
        let in_chains : c < length (map (entries_from cells) heads) = rw length-map lt in
        now ∙ ap (map (entry_at cells')) there ∙ entries_there
        ∙ rw same (sym (get_or-set_same (map (entries_from cells) heads) c (fore ++ item ∷ aft) [] in_chains))
    chain_then d (inr other) =
        let now = chain_is cells' heads' d ∙ shown_at cells' heads' free' kept_parted d in
        let there : get_or lists' d [] ≡ get_or p.lists d [] = get_or-set_other p.lists c d (gap.front ++ at ∷ gap.back) [] other in
        let was = chain_is cells heads d ∙ shown_at cells heads free p d in
        now ∙ ap (map (entry_at cells')) there
        ∙ linked-entries cells head at item before (get_or p.lists d []) (at_nowhere d) (inside_at before gap.last)
        ∙ sym was ∙ sym (get_or-set_other (map (entries_from cells) heads) c d (fore ++ item ∷ aft) [] other)

    chains_then : map (entries_from cells') heads' ≡ set (map (entries_from cells) heads) c (fore ++ item ∷ aft)
    chains_then =
        ext_get_or [] (map (entries_from cells') heads') (set (map (entries_from cells) heads) c (fore ++ item ∷ aft))
        (simp (length-map, length-set) refl) (λ d lt. chain_then d (cases_eq d c))

    pub kept_is : seen cells' heads' ≡ with_chain (seen cells heads) c (placed order item (chain_of (seen cells heads) c))
    kept_is =
        let place : placed order item (chain_of (seen cells heads) c) ≡ fore ++ item ∷ aft =
        ap (placed order item) chain_was ∙ placed-between item fore aft (passed_entries gap.front gap.passed) (behind_entries gap.back gap.behind) in
        let same : length cells' ≡ length cells = linked-length cells head at item before in
        let chains = chains_then ∙ ap (set (map (entries_from cells) heads) c) (sym place) in
        cc (chains, same)

    module _ (in_order : (d : ℕ) → IsChain (chain_of (seen cells heads) d)) where
      pub kept_order : (d : ℕ) → (d ≡ c) ⊎ (d ≢ c) → IsChain (chain_of (seen cells' heads') d)
      kept_order d (inl same) =
          let in_chains : c < length (map (entries_from cells) heads) = rw length-map lt in
          let chain : chain_of (seen cells' heads') d ≡ fore ++ item ∷ aft =
          chain_then d (inl same) ∙ rw same (get_or-set_same (map (entries_from cells) heads) c (fore ++ item ∷ aft) [] in_chains) in
          rw chain (chain-between item fore aft (passed_entries gap.front gap.passed) (behind_entries gap.back gap.behind) (rw chain_was at (in_order c)))
      kept_order d (inr other) =
          let chain : chain_of (seen cells' heads') d ≡ chain_of (seen cells heads) d =
          chain_then d (inr other) ∙ get_or-set_other (map (entries_from cells) heads) c d (fore ++ item ∷ aft) [] other in
          rw chain (in_order d)

    pub kept_total : total (seen cells' heads') ≡ total (seen cells heads) + 1
    unfolding kept_parted
    kept_total =
        let sums = sum_by-set length p.lists c (gap.front ++ at ∷ gap.back) [] in_lists in
        let there = length-there in
        total_is cells' heads' free' kept_parted ∙ omega arith ∙ ap (λ n. n + 1) (sym (total_is cells heads free p))

    pub room_was : total (seen cells heads) < length cells
    room_was =
        let frees : length p.frees ≡ 1 + length split.0 = ap length split.1 ∙ omega arith in
        let was = p.all in
        rw (total_is cells heads free p) (omega arith)

-- where no cell is free, the chains hold as many as there are
pub full_total : (cells : List Cell) (heads : List (Option ℕ)) (free : Option ℕ) (p : Parted cells heads free) → free ≡ None
    → total (seen cells heads) ≡ length cells
full_total cells heads free p none =
    let frees : p.frees ≡ [] = Chained-unique cells free p.frees [] p.freed none in
    let count : length p.frees ≡ 0 = ap length frees in
    let was = p.all in
    total_is cells heads free p ∙ omega arith
