-- Laws of guides: a search may begin behind them, and they stay on their chains.
use Rattle.std.proofs.Common.{◌≡◌, ◌≢◌, ℕ, ◌+◌, ◌<◌, ◌≤◌, ◌==◌, not, true, false, List, [], ◌∷◌, ◌++◌, length, map, set, refl, sym, ap, ◌∙◌, arith, get_or, All, Option, None, Some}
use Rattle.std.specs.Prelude.{filter}
use Rattle.std.proofs.lemmas.Bool.Decides.{nat_tests}
use Rattle.std.proofs.lemmas.List.{get_or_default}
use Rattle.std.proofs.lemmas.List.Elements.{All-nil, All-filter, filter_passes}
use Rattle.std.specs.declared.cmp.Ordering.TheVariants.{Less}
use Rattle.ioam_pool.specs.Entry.{Entry, is_full}
use Rattle.ioam_pool.specs.Order.{meet, IsChain}
use Rattle.ioam_pool.specs.Cells.{blank, cell_at, entry_at, entries_from, next_or, Ends, EndsWith, Gap, Parted, Passed, Ties, times, linked_in, head_then, with_item}
use Rattle.ioam_pool.specs.Guides.{OnChain, IsStart, GuidesOn, Guided}
use Rattle.ioam_pool.specs.declared.cells.Cell.{Cell}
use Rattle.ioam_pool.specs.declared.guides.Guide.{Guide}
use Rattle.ioam_pool.proofs.ChainLaws.{walked-is, split_first, Chained-unique, Chained-behind, times-append, times-itself}
use Rattle.ioam_pool.proofs.SeatLaws.{passed_none, start_behind, parts_at}
use Rattle.ioam_pool.proofs.PartLaws.{kept_parted, kept_times}
use Rattle.ioam_pool.proofs.SwapLaws.{swapped_parted, swapped_times}
use Rattle.ioam_pool.proofs.FreeLaws.{freed_parted, freed_times, push_none}

pub on_inside : (cells : List Cell) (head : Option ℕ) (i : ℕ) → OnChain cells head i → i < length cells
on_inside cells head i on = (Chained-behind cells i head on.front on.back on.whole).0

pub start_inside : (cells : List Cell) (head : Option ℕ) (item : Entry) (start : Option ℕ) → IsStart cells head item start
    → (i : ℕ) → start ≡ Some i → i < length cells
start_inside cells head item None starts i is = absurd (cc is)
start_inside cells head item (Some j) starts i is =
    let same : j ≡ i = cc is in
    rw (← same) (on_inside cells head j starts.0)

-- behind a start the walk of a search goes on
pub start_passed : (cells : List Cell) (head : Option ℕ) (item : Entry) → Ends cells head → IsChain (entries_from cells head)
    → (start : Option ℕ) → IsStart cells head item start → Passed cells head start (next_or cells head start) item
start_passed cells head item ends in_order None starts = passed_none cells head None item ends
start_passed cells head item ends in_order (Some i) starts =
    let on = starts.0 in
    let same : ends.list ≡ on.front ++ i ∷ on.back = Chained-unique cells head ends.list (on.front ++ i ∷ on.back) ends.chained on.whole in
    let short : length (on.front ++ i ∷ on.back) ≤ length cells = rw same at ends.short in
    let entries : entries_from cells head ≡ map (entry_at cells) (on.front ++ i ∷ on.back) =
    walked-is (length cells) cells head (on.front ++ i ∷ on.back) on.whole short in
    start_behind cells head item i on.front on.back on.whole short (rw entries at in_order) starts.1

-- the cell at which a search is stands on the chain
pub place_on : (cells : List Cell) (head before at : Option ℕ) (item : Entry) → Passed cells head before at item → (i : ℕ) → at ≡ Some i → OnChain cells head i
place_on cells head before at item p i is =
    let parts = split_first cells i p.back (rw is at p.rest) in
    record { front = p.front; back = parts.0; whole = rw parts.1 at p.whole }

pub start_is : (cells : List Cell) (head : Option ℕ) (i : ℕ) (d : Cell) (item : Entry) → OnChain cells head i
    → Less ≡ meet (get_or cells i d).item item → OnChain cells head i × (meet (entry_at cells i) item ≡ Less)
start_is cells head i d item on less =
    let same : get_or cells i d ≡ cell_at cells i = get_or_default cells i d blank (on_inside cells head i on) in
    (on, rw same at (sym less))

-- where a cell stands, by the lists of a pool
module _ (cells : List Cell) (heads : List (Option ℕ)) (free : Option ℕ) (p : Parted cells heads free) (d i : ℕ) where
  pub on_list : OnChain cells (get_or heads d None) i → 1 ≤ times i (get_or p.lists d [])
  on_list on =
      let same : get_or p.lists d [] ≡ on.front ++ i ∷ on.back =
      Chained-unique cells (get_or heads d None) (get_or p.lists d []) (on.front ++ i ∷ on.back) (p.chained d) on.whole in
      let count : times i (get_or p.lists d []) ≡ times i on.front + (1 + times i on.back) =
      ap (times i) same ∙ times-append i on.front (i ∷ on.back) ∙ ap (λ n. times i on.front + n) (times-itself i on.back) in
      omega arith

  pub from_list : 1 ≤ times i (get_or p.lists d []) → OnChain cells (get_or heads d None) i
  from_list there =
      let parts = parts_at i (get_or p.lists d []) there in
      record { front = parts.0; back = parts.1; whole = rw parts.2 at (p.chained d) }

-- the guides of one chain
pub guides_on : (cells : List Cell) (heads : List (Option ℕ)) (guides : List Guide) → Guided cells heads guides
    → (chain : ℕ) (head : Option ℕ) → head ≡ get_or heads chain None → GuidesOn cells head chain guides
guides_on cells heads guides guided chain head is = λ k d lt same. rw (is, ← same) (guided k d lt)

module _ (cells : List Cell) (heads : List (Option ℕ)) (free : Option ℕ) (p : Parted cells heads free) (c : ℕ) (lt : c < length heads)
    (guides : List Guide) (guided : Guided cells heads guides) where
  -- an item is linked in
  pub guided_kept : (item : Entry) (before : Option ℕ) (gap : Gap cells (get_or heads c None) before item) (at : ℕ) (begins : free ≡ Some at)
      → Guided (linked_in cells (get_or heads c None) before at item) (set heads c (head_then (get_or heads c None) before at)) guides
  guided_kept item before gap at begins = λ k d inside.
      let g : Guide = get_or guides k d in
      from_list _ _ _ (kept_parted cells heads free p c item before gap lt at begins) g.chain g.cell
      (kept_times cells heads free p c item before gap lt at begins g.chain g.cell (on_list cells heads free p g.chain g.cell (guided k d inside)))

  -- another item is in a cell
  pub guided_swapped : (item : Entry) (at : ℕ) (tie : Ties cells (get_or heads c None) at item) (full : is_full item ≡ true)
      (not_full : is_full (entry_at cells at) ≡ false) → Guided (with_item cells at item) heads guides
  guided_swapped item at tie full not_full = λ k d inside.
      let g : Guide = get_or guides k d in
      from_list _ _ _ (swapped_parted cells heads free p c lt at item tie full not_full) g.chain g.cell
      (swapped_times cells heads free p c lt at item tie full not_full g.chain g.cell (on_list cells heads free p g.chain g.cell (guided k d inside)))

  other_chain : (a b : ℕ) → not (a == b) ≡ true → a ≢ b
  other_chain a b isnt = λ same. absurd (grind (arith, nat_tests))

  -- a chain is freed, and its guides dropped
  pub guided_freed : (last count : ℕ) (e : EndsWith cells (get_or heads c None) last count)
      → Guided (set cells last (record { item = entry_at cells last; next = free })) (set heads c None) (filter (λ (g : Guide). not (g.chain == c)) guides)
  guided_freed last count e = λ k d inside.
      let test : Guide → Rattle.std.proofs.Common.Bool = λ (g : Guide). not (g.chain == c) in
      let g : Guide = get_or (filter test guides) k d in
      let on : OnChain cells (get_or heads g.chain None) g.cell = All-filter test (λ (g : Guide). OnChain cells (get_or heads g.chain None) g.cell) guides guided k d inside in
      let isnt : not (g.chain == c) ≡ true = filter_passes test guides k d inside in
      from_list _ _ _ (freed_parted cells heads free p c lt last count e) g.chain g.cell
      (freed_times cells heads free p c lt last count e g.chain g.cell (other_chain g.chain c isnt) (on_list cells heads free p g.chain g.cell on))

-- an empty chain more
pub guided_more : (cells : List Cell) (heads : List (Option ℕ)) (guides : List Guide) → Guided cells heads guides
    → (heads' : List (Option ℕ)) → heads' ≡ heads ++ None ∷ [] → Guided cells heads' guides
guided_more cells heads guides guided heads' pushed = λ k d inside.
    rw (pushed, push_none heads (get_or guides k d).chain None) (guided k d inside)

pub guided_none : (cells : List Cell) (heads : List (Option ℕ)) → Guided cells heads []
guided_none cells heads = All-nil (λ (g : Guide). OnChain cells (get_or heads g.chain None) g.cell)
