-- Guides: cells of chains, at which a search may begin.
use Rattle.std.specs.Prelude.{◌≡◌, ℕ, List, ◌∷◌, ◌++◌, All, slice_index_or, Option, None, Some, ⊤}
use Rattle.std.specs.declared.cmp.Ordering.TheVariants.{Less}
use Rattle.ioam_pool.specs.Entry.{Entry}
use Rattle.ioam_pool.specs.Order.{meet}
use Rattle.ioam_pool.specs.Cells.{Chained, entry_at}
use Rattle.ioam_pool.specs.declared.cells.Cell.{Cell}
use Rattle.ioam_pool.specs.declared.guides.Guide.{Guide}
use Rattle.ioam_pool.specs.declared.seating.Trail.{Trail}

-- a cell stands on the chain that begins at `head`
pub record OnChain (cells : List Cell) (head : Option ℕ) (i : ℕ) : Type 0 where
  pub front : List ℕ
  pub back : List ℕ
  pub whole : Chained cells head (front ++ i ∷ back)

-- where there is a cell, it stands on the chain
abbrev pub IsOn : List Cell → Option ℕ → Option ℕ → Type 0
IsOn cells head None = ⊤
IsOn cells head (Some i) = OnChain cells head i

-- a search may begin behind this cell of the chain, or with its first
abbrev pub IsStart : List Cell → Option ℕ → Entry → Option ℕ → Type 0
IsStart cells head item None = ⊤
IsStart cells head item (Some i) = OnChain cells head i × (meet (entry_at cells i) item ≡ Less)

-- the guides of one chain stand on it
abbrev pub GuidesOn : List Cell → Option ℕ → ℕ → List Guide → Type 0
GuidesOn cells head chain guides = All (λ (g : Guide). g.chain ≡ chain → OnChain cells head g.cell) guides

-- each guide stands on the chain that it is kept for
abbrev pub Guided : List Cell → List (Option ℕ) → List Guide → Type 0
Guided cells heads guides = All (λ (g : Guide). OnChain cells (slice_index_or heads g.chain None) g.cell) guides

-- what was passed becomes a guide, or no guide is added
abbrev pub KeepsGuides : ℕ → Option ℕ → List Guide → List Guide → Type 0
KeepsGuides chain passed old new =
    (cells : List Cell) (heads : List (Option ℕ)) → IsOn cells (slice_index_or heads chain None) passed → Guided cells heads old → Guided cells heads new

-- the guides of a chain that begins at `head`, and all others, still stand on their chains
abbrev pub StaysGuided : List Cell → Option ℕ → ℕ → List Guide → List Guide → Type 0
StaysGuided cells head chain old new =
    (heads : List (Option ℕ)) → head ≡ slice_index_or heads chain None → Guided cells heads old → Guided cells heads new

-- what a search remembers stands on the chain
abbrev pub Trails : List Cell → Option ℕ → Trail → Type 0
Trails cells head trail = IsOn cells head trail.older × IsOn cells head trail.newer

-- a search goes on from a cell
abbrev pub Goes : ℕ → Trail → Trail → Type 0
Goes place old new = (cells : List Cell) (head : Option ℕ) → OnChain cells head place → Trails cells head old → Trails cells head new
