-- Cells linked by index.
use Rattle.std.specs.Prelude.{◌≡◌, ℕ, zero, suc, ◌+◌, ◌<◌, ◌≤◌, ◌==◌, List, [], ◌∷◌, ◌++◌, length, sum_by, cond, nat_lt, slice_index_or, slice_set, Option, None, Some, ⊤}
use Rattle.std.specs.List.{AllByRecursion}
use Rattle.std.specs.declared.cmp.Ordering.TheVariants.{Less, Equal, Greater}
use Rattle.ioam_pool.specs.Entry.{Entry}
use Rattle.ioam_pool.specs.Order.{meet}
use Rattle.ioam_pool.specs.declared.cells.Cell.{Cell}

-- a cell of no use: what stands at a place where there is no cell
abbrev pub blank : Cell
blank = record { item = record { hops = 0; core = []; extra = [] }; next = None }

-- the cell at a place
abbrev pub cell_at : List Cell → ℕ → Cell
cell_at cells i = slice_index_or cells i blank

-- the item in the cell at a place
abbrev pub entry_at : List Cell → ℕ → Entry
entry_at cells i = (cell_at cells i).item

-- the entries from a cell on, so many at most
abbrev pub walked : ℕ → List Cell → Option ℕ → List Entry
walked zero cells at = []
walked (suc n) cells None = []
walked (suc n) cells (Some i) = entry_at cells i ∷ walked n cells (cell_at cells i).next

-- all the entries from a cell on
abbrev pub entries_from : List Cell → Option ℕ → List Entry
entries_from cells at = walked (length cells) cells at

-- from this cell on stand the cells of this list, and no more
abbrev pub Chained : List Cell → Option ℕ → List ℕ → Type 0
Chained cells at [] = at ≡ None
Chained cells at (i ∷ is) = (at ≡ Some i) × (i < length cells) × Chained cells (cell_at cells i).next is

-- from this cell on stands a chain, of no more cells than there are
pub record Ends (cells : List Cell) (at : Option ℕ) : Type 0 where
  pub list : List ℕ
  pub chained : Chained cells at list
  pub short : length list ≤ length cells

-- how often a cell stands in a list
abbrev pub times : ℕ → List ℕ → ℕ
times i [] = 0
times i (j ∷ js) = cond (j == i) 1 0 + times i js

-- the cells are parted among the chains and the free list: each is on exactly one of them, once
pub record Parted (cells : List Cell) (heads : List (Option ℕ)) (free : Option ℕ) : Type 0 where
  pub lists : List (List ℕ)
  pub frees : List ℕ
  pub each : length lists ≡ length heads
  pub chained : (c : ℕ) → Chained cells (slice_index_or heads c None) (slice_index_or lists c [])
  pub freed : Chained cells free frees
  pub once : (i : ℕ) → times i frees + sum_by (times i) lists ≡ cond (nat_lt i (length cells)) 1 0
  pub all : length frees + sum_by length lists ≡ length cells

-- the cell behind which an item goes: none where it goes to the front
abbrev pub IsLast : Option ℕ → List ℕ → Type 0
IsLast None is = is ≡ []
IsLast (Some i) is = (init : List ℕ) × (is ≡ init ++ i ∷ [])

-- the first of these stands behind the item
abbrev pub BeginsBehind : List Cell → Entry → List ℕ → Type 0
BeginsBehind cells item [] = ⊤
BeginsBehind cells item (i ∷ is) = meet (entry_at cells i) item ≡ Greater

-- a chain is walked as far as some cell, and all items so far are before the item
pub record Passed (cells : List Cell) (head before at : Option ℕ) (item : Entry) : Type 0 where
  pub front : List ℕ
  pub back : List ℕ
  pub whole : Chained cells head (front ++ back)
  pub rest : Chained cells at back
  pub last : IsLast before front
  pub passed : AllByRecursion (λ i. meet (entry_at cells i) item ≡ Less) front
  pub short : length (front ++ back) ≤ length cells

-- an item goes between two parts of a chain
pub record Gap (cells : List Cell) (head before : Option ℕ) (item : Entry) : Type 0 where
  pub front : List ℕ
  pub back : List ℕ
  pub whole : Chained cells head (front ++ back)
  pub last : IsLast before front
  pub passed : AllByRecursion (λ i. meet (entry_at cells i) item ≡ Less) front
  pub behind : BeginsBehind cells item back

-- a cell on a chain whose item can't stand beside another
pub record Ties (cells : List Cell) (head : Option ℕ) (at : ℕ) (item : Entry) : Type 0 where
  pub front : List ℕ
  pub back : List ℕ
  pub whole : Chained cells head (front ++ at ∷ back)
  pub ties : meet (entry_at cells at) item ≡ Equal

-- an item in a cell, linked in behind another, or to the front
abbrev pub linked_in : List Cell → Option ℕ → Option ℕ → ℕ → Entry → List Cell
linked_in cells head None at item = slice_set cells at (record { item = item; next = head })
linked_in cells head (Some b) at item =
    let cell : Cell = record { item = item; next = (cell_at cells b).next } in
    let more : List Cell = slice_set cells at cell in
    slice_set more b (record { item = entry_at more b; next = Some at })

-- what stands behind a cell, or what the chain begins with
abbrev pub next_or : List Cell → Option ℕ → Option ℕ → Option ℕ
next_or cells head None = head
next_or cells head (Some i) = (cell_at cells i).next

-- the head of a chain to which a cell was linked: the cell where it went to the front, else as before
abbrev pub head_then : Option ℕ → Option ℕ → ℕ → Option ℕ
head_then head None at = Some at
head_then head (Some b) at = head

-- another item in a cell, which stays where it is linked
abbrev pub with_item : List Cell → ℕ → Entry → List Cell
with_item cells at item = slice_set cells at (record { item = item; next = (cell_at cells at).next })

-- a chain has so many cells, the last of which is this
pub record EndsWith (cells : List Cell) (head : Option ℕ) (last count : ℕ) : Type 0 where
  pub init : List ℕ
  pub whole : Chained cells head (init ++ last ∷ [])
  pub many : count ≡ length init + 1

-- a chain is walked as far as some cell of it
pub record Reaches (cells : List Cell) (head : Option ℕ) (last count : ℕ) : Type 0 where
  pub init : List ℕ
  pub back : List ℕ
  pub whole : Chained cells head (init ++ last ∷ back)
  pub rest : Chained cells (Some last) (last ∷ back)
  pub many : count ≡ length init + 1
  pub short : length (init ++ last ∷ back) ≤ length cells
