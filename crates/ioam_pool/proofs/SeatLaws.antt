-- Laws of the search on a chain.
use Rattle.std.proofs.lemmas.Bool.{cases_eq, ne_eqb}
use Rattle.std.proofs.Common.{◌≡◌, ◌≢◌, ◌⊎◌, inl, inr, false, ◌==◌, ℕ, ◌+◌, ◌<◌, ◌≤◌, List, [], ◌∷◌, ◌++◌, length, map, refl, sym, ap, ◌∙◌, arith, get_or, Option, None, Some, length-append, append_assoc}
use Rattle.std.specs.List.{AllByRecursion}
use Rattle.std.proofs.lemmas.List.{get_or_default, length-map}
use Rattle.std.specs.declared.cmp.Ordering.TheVariants.{Less, Equal}
use Rattle.ioam_pool.specs.Entry.{Entry}
use Rattle.ioam_pool.specs.Order.{meet, IsChain}
use Rattle.ioam_pool.specs.Cells.{blank, cell_at, entry_at, entries_from, Chained, Ends, Passed, Ties, EndsWith, Reaches, times}
use Rattle.ioam_pool.specs.declared.cells.Cell.{Cell}
use Rattle.ioam_pool.proofs.ChainLaws.{walked-is, split_first, Chained-unique, Chained-behind}
use Rattle.ioam_pool.proofs.OrderLaws.{meet_trans}

-- what an iterator over a chain gives
pub Ends-first : (cells : List Cell) (i : ℕ) → Ends cells (Some i) → (i < length cells) × Ends cells (cell_at cells i).next
    × (entries_from cells (Some i) ≡ entry_at cells i ∷ entries_from cells (cell_at cells i).next)
Ends-first cells i ends =
    let parts = split_first cells i ends.list ends.chained in
    let count : length ends.list ≡ length parts.0 + 1 = ap length parts.1 ∙ omega arith in
    let short = ends.short in
    let less : length parts.0 ≤ length cells = omega arith in
    let here = walked-is (length cells) cells (Some i) ends.list ends.chained short in
    let there = walked-is (length cells) cells (cell_at cells i).next parts.0 parts.3 less in (
      parts.2,
      record { list = parts.0; chained = parts.3; short = less },
      here ∙ ap (map (entry_at cells)) parts.1 ∙ ap (λ es. entry_at cells i ∷ es) (sym there),
    )

pub Ends-few : (cells : List Cell) (at : Option ℕ) → Ends cells at → length (entries_from cells at) ≤ length cells
Ends-few cells at ends =
    let short = ends.short in
    let entries = walked-is (length cells) cells at ends.list ends.chained short in
    let count : length (entries_from cells at) ≡ length ends.list = ap length entries ∙ length-map ends.list (entry_at cells) in
    omega arith

all_push : (P : ℕ → Type 0) (xs : List ℕ) (x : ℕ) → AllByRecursion P xs → P x → AllByRecursion P (xs ++ x ∷ [])
all_push P [] x all here = (here, tt)
all_push P (y ∷ xs) x all here = (all.0, all_push P xs x all.1 here)

module _ (cells : List Cell) (head before : Option ℕ) (item : Entry) where
  pub passed_none : (ends : Ends cells head) → Passed cells head None head item
  passed_none ends = record { front = []; back = ends.list; whole = ends.chained; rest = ends.chained; last = refl; passed = tt; short = ends.short }

  pub passed_ends : (at : Option ℕ) → Passed cells head before at item → Ends cells at
  passed_ends at p =
      let short = p.short in
      let less : length p.back ≤ length cells = omega (arith, length-append p.front p.back) in
      record { list = p.back; chained = p.rest; short = less }

  pub passed_more : (i : ℕ) → Passed cells head before (Some i) item → meet (entry_at cells i) item ≡ Less
      → Passed cells head (Some i) (cell_at cells i).next item
  passed_more i p less =
      let parts = split_first cells i p.back p.rest in
      let same : p.front ++ p.back ≡ (p.front ++ i ∷ []) ++ parts.0 = ap (λ xs. p.front ++ xs) parts.1 ∙ sym (append_assoc p.front (i ∷ []) parts.0) in
      record {
        front = p.front ++ i ∷ [];
        back = parts.0;
        whole = rw (← same) p.whole;
        rest = parts.3;
        last = (p.front, refl);
        passed = all_push (λ j. meet (entry_at cells j) item ≡ Less) p.front i p.passed less;
        short = rw (← same) p.short;
      }

  pub passed_held : (i : ℕ) → Passed cells head before (Some i) item → meet (entry_at cells i) item ≡ Equal → Ties cells head i item
  passed_held i p equal =
      let parts = split_first cells i p.back p.rest in
      record { front = p.front; back = parts.0; whole = rw parts.1 at p.whole; ties = equal }

-- the same of a cell that is read with any default
pub first_step : (cells : List Cell) (at : Option ℕ) (i : ℕ) (d : Cell) → at ≡ Some i → Ends cells at
    → (i < length cells) × Ends cells (get_or cells i d).next × (entries_from cells at ≡ (get_or cells i d).item ∷ entries_from cells (get_or cells i d).next)
first_step cells at i d is ends =
    let ends' : Ends cells (Some i) = rw is at ends in
    let step = Ends-first cells i ends' in
    let same : get_or cells i d ≡ cell_at cells i = get_or_default cells i d blank step.0 in
    rw (is, same) step

-- and of a cell that is a variable
pub cell_step : (cells : List Cell) (at : Option ℕ) (i : ℕ) (cell : Cell) → at ≡ Some i → cell ≡ get_or cells i cell → Ends cells at
    → (cell ≡ cell_at cells i) × (length (entries_from cells cell.next) < length (entries_from cells at))
cell_step cells at i cell is read ends =
    let step = first_step cells at i cell is ends in
    let same : cell ≡ cell_at cells i = read ∙ get_or_default cells i cell blank step.0 in
    let more : length (entries_from cells at) ≡ length (entries_from cells (get_or cells i cell).next) + 1 = ap length step.2 ∙ omega arith in
    let less : length (entries_from cells (get_or cells i cell).next) < length (entries_from cells at) = omega arith in
    (same, rw (← read) at less)

module _ (cells : List Cell) (head before at : Option ℕ) (item : Entry) (p : Passed cells head before at item) (i : ℕ) (cell : Cell)
    (is : at ≡ Some i) (read : cell ≡ get_or cells i cell) where
  same_cell : cell ≡ cell_at cells i
  same_cell = (cell_step cells at i cell is read (passed_ends cells head before item at p)).0

  passed_at : Passed cells head before (Some i) item
  passed_at = rw is at p

  pub step_smaller : length (entries_from cells cell.next) < length (entries_from cells at)
  step_smaller = (cell_step cells at i cell is read (passed_ends cells head before item at p)).1

  pub step_more : Less ≡ meet cell.item item → Passed cells head (Some i) cell.next item
  step_more less =
      let less' : meet (entry_at cells i) item ≡ Less = rw same_cell at (sym less) in
      rw same_cell (passed_more cells head before item i passed_at less')

  pub step_held : Equal ≡ meet cell.item item → Ties cells head i item
  step_held equal =
      let equal' : meet (entry_at cells i) item ≡ Equal = rw same_cell at (sym equal) in
      passed_held cells head before item i passed_at equal'

-- walking to the last cell
pub reaches_first : (cells : List Cell) (head : Option ℕ) (last : ℕ) → head ≡ Some last → Ends cells head → Reaches cells head last 1
reaches_first cells head last is ends =
    let chained : Chained cells (Some last) ends.list = rw is at ends.chained in
    let parts = split_first cells last ends.list chained in
    let rest : Chained cells (Some last) (last ∷ parts.0) = rw parts.1 at chained in
    record { init = []; back = parts.0; whole = rw parts.1 at ends.chained; rest = rest; many = omega arith; short = rw parts.1 at ends.short }

module _ (cells : List Cell) (head : Option ℕ) (last count : ℕ) (r : Reaches cells head last count) (d : Cell) where
  pub reaches_few : count ≤ length cells
  reaches_few = let short = r.short in let many = r.many in omega (arith, length-append r.init (last ∷ r.back))

  pub reaches_in : last < length cells
  reaches_in = r.rest.1

  same_next : (get_or cells last d).next ≡ (cell_at cells last).next
  same_next = ap (λ (c : Cell). c.next) (get_or_default cells last d blank reaches_in)

  behind_last : (next : Option ℕ) → (get_or cells last d).next ≡ next → Chained cells next r.back
  behind_last next is = rw (sym same_next ∙ is) at r.rest.2

  pub reaches_more : (next : ℕ) → (get_or cells last d).next ≡ Some next → Reaches cells head next (count + 1)
  reaches_more next is =
      let back : Chained cells (Some next) r.back = behind_last (Some next) is in
      let parts = split_first cells next r.back back in
      let same : r.init ++ last ∷ r.back ≡ (r.init ++ last ∷ []) ++ next ∷ parts.0 =
      ap (λ xs. r.init ++ last ∷ xs) parts.1 ∙ sym (append_assoc r.init (last ∷ []) (next ∷ parts.0)) in
      let many = r.many in
      let longer : length (r.init ++ last ∷ []) ≡ length r.init + 1 = length-append r.init (last ∷ []) in
      record {
        init = r.init ++ last ∷ [];
        back = parts.0;
        whole = rw (← same) r.whole;
        rest = rw parts.1 at back;
        many = omega arith;
        short = rw (← same) r.short;
      }

  pub reaches_smaller : (next : ℕ) → (get_or cells last d).next ≡ Some next
      → length (entries_from cells (Some next)) < length (entries_from cells (Some last))
  reaches_smaller next is =
      let ends : Ends cells (Some last) = record {
        list = last ∷ r.back;
        chained = r.rest;
        short = let short = r.short in omega (arith, length-append r.init (last ∷ r.back));
      } in
      let step = first_step cells (Some last) last d refl ends in
      let more : length (entries_from cells (Some last)) ≡ length (entries_from cells (get_or cells last d).next) + 1 = ap length step.2 ∙ omega arith in
      rw (← is) (omega arith)

  pub reaches_end : (get_or cells last d).next ≡ None → EndsWith cells head last count
  reaches_end is =
      let none : r.back ≡ [] = Chained-unique cells None r.back [] (behind_last None is) refl in
      record { init = r.init; whole = rw none at r.whole; many = r.many }

-- A search may begin behind any cell of the chain whose item is before the item: the items in front of that cell are before it too.
all_at : (cells : List Cell) (x : Entry) (i : ℕ) (front back : List ℕ) → AllByRecursion (λ y. meet x y ≡ Less) (map (entry_at cells) (front ++ i ∷ back)) → meet x (entry_at cells i) ≡ Less
all_at cells x i [] back all = all.0
all_at cells x i (j ∷ front) back all = all_at cells x i front back all.1

passed_front : (cells : List Cell) (item : Entry) (i : ℕ) (front back : List ℕ) → IsChain (map (entry_at cells) (front ++ i ∷ back))
    → meet (entry_at cells i) item ≡ Less → AllByRecursion (λ j. meet (entry_at cells j) item ≡ Less) front
passed_front cells item i [] back ordered less = tt
passed_front cells item i (j ∷ front) back ordered less =
    let here : meet (entry_at cells j) (entry_at cells i) ≡ Less = all_at cells (entry_at cells j) i front back ordered.0 in
    (meet_trans (entry_at cells j) (entry_at cells i) item here less, passed_front cells item i front back ordered.1 less)

pub start_behind : (cells : List Cell) (head : Option ℕ) (item : Entry) (i : ℕ) (front back : List ℕ) → Chained cells head (front ++ i ∷ back)
    → length (front ++ i ∷ back) ≤ length cells → IsChain (map (entry_at cells) (front ++ i ∷ back)) → meet (entry_at cells i) item ≡ Less
    → Passed cells head (Some i) (cell_at cells i).next item
start_behind cells head item i front back whole short ordered less =
    let same : front ++ i ∷ back ≡ (front ++ i ∷ []) ++ back = sym (append_assoc front (i ∷ []) back) in
    record {
      front = front ++ i ∷ [];
      back = back;
      whole = rw (← same) whole;
      rest = (Chained-behind cells i head front back whole).1;
      last = (front, refl);
      passed = all_push (λ j. meet (entry_at cells j) item ≡ Less) front i (passed_front cells item i front back ordered less) less;
      short = rw (← same) short;
    }

parts_by : (i j : ℕ) (is : List ℕ) → (j ≡ i) ⊎ (j ≢ i) → 1 ≤ times i (j ∷ is)
    → (1 ≤ times i is → (front : List ℕ) × (back : List ℕ) × (is ≡ front ++ i ∷ back))
    → (front : List ℕ) × (back : List ℕ) × (j ∷ is ≡ front ++ i ∷ back)
parts_by i j is (inl same) there more = ([], is, ap (λ k. k ∷ is) same)
parts_by i j is (inr other) there more =
    let isnt : (j == i) ≡ false = ne_eqb j i other in
    let rest : times i (j ∷ is) ≡ times i is = rw isnt (omega arith) in
    let less : 1 ≤ times i is = omega arith in
    let parts = more less in
    (j ∷ parts.0, parts.1, ap (λ ks. j ∷ ks) parts.2)

-- a cell that stands on a list parts it
pub parts_at : (i : ℕ) (is : List ℕ) → 1 ≤ times i is → (front : List ℕ) × (back : List ℕ) × (is ≡ front ++ i ∷ back)
parts_at i [] there = absurd (omega arith)
parts_at i (j ∷ is) there = parts_by i j is (cases_eq j i) there (parts_at i is)
