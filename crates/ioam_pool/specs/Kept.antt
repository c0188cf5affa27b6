-- What holds inside every pool.
use Rattle.std.specs.Prelude.{◌≡◌, ℕ, ◌+◌, ◌*◌, ◌/◌, ◌<◌, ◌≤◌, ◌^◌, List, length, map, Option}
use Rattle.ioam_pool.specs.Order.{IsChain}
use Rattle.ioam_pool.specs.Cells.{Chained, Parted, entries_from}
use Rattle.ioam_pool.specs.Chains.{Chains, total, chain_of}
use Rattle.ioam_pool.specs.declared.cells.Cell.{Cell}

-- the pool that cells and the heads of its chains show
abbrev pub seen : List Cell → List (Option ℕ) → Chains
seen cells heads = record { chains = map (entries_from cells) heads; capacity = length cells }

-- what every pool keeps: each cell is on one chain or free, the count is that of the items, each chain is in order, and there
-- are fewer than 2^31 cells
pub record IsPool (cells : List Cell) (heads : List (Option ℕ)) (free : Option ℕ) (held : ℕ) : Type 0 where
  pub parted : Parted cells heads free
  pub count : held ≡ total (seen cells heads)
  pub in_order : (c : ℕ) → IsChain (chain_of (seen cells heads) c)
  pub room : length cells < 2 ^ 31

-- A pool has memory for its cells and no more, for a guide of every 32 of them and one, and for twice its chains and four: a
-- call that leaves it as many cells and chains has taken none.
pub record IsRoomFor (cells chains cell_room guide_room head_room : ℕ) : Type 0 where
  pub of_cells : cell_room ≡ cells
  pub of_guides : guide_room ≤ cells / 32 + 1
  pub of_heads : head_room ≤ 2 * chains + 4

-- cells were added to the free list: the parts are kept, what the chains show, and where each cell stands
abbrev pub Grows : List Cell → Option ℕ → List Cell → Option ℕ → Type 0
Grows cells free cells' free' =
    (heads : List (Option ℕ)) → Parted cells heads free
    → Parted cells' heads free' × (map (entries_from cells') heads ≡ map (entries_from cells) heads)
    × ((at : Option ℕ) (is : List ℕ) → Chained cells at is → Chained cells' at is)
