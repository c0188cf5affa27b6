-- What an insertion answers and leaves.
use Rattle.std.specs.Prelude.{◌≡◌, ℕ, ◌<◌}
use Rattle.ioam_pool.specs.Entry.{Entry, bare}
use Rattle.ioam_pool.specs.Order.{order, placed, without, Repeats, Replaces}
use Rattle.ioam_pool.specs.Chains.{Chains, chain_of, total, with_chain}
use Rattle.ioam_pool.specs.declared.pool.Inserted.{Inserted}
use Rattle.ioam_pool.specs.declared.pool.Inserted.TheVariants.{Kept, Replaced, Repeat, Full}

-- Repeat exactly where the chain has the item or, of one without an extra part, one of equal hop value and core;
-- else Replaced exactly where it has the item without its extra part, which goes out; else Full exactly where no
-- cell is free; else Kept
abbrev pub Inserts : Chains → ℕ → Entry → Inserted → Chains → Type 0
Inserts old c item Kept new =
    ¬ (Repeats (chain_of old c) item) × ¬ (Replaces (chain_of old c) item) × (total old < old.capacity)
    × (new ≡ with_chain old c (placed order item (chain_of old c)))
Inserts old c item (Replaced back) new =
    ¬ (Repeats (chain_of old c) item) × Replaces (chain_of old c) item × (back ≡ bare item)
    × (new ≡ with_chain old c (placed order item (without (bare item) (chain_of old c))))
Inserts old c item (Repeat back) new = Repeats (chain_of old c) item × (back ≡ item) × (new ≡ old)
Inserts old c item (Full back) new =
    ¬ (Repeats (chain_of old c) item) × ¬ (Replaces (chain_of old c) item) × (total old ≡ old.capacity) × (back ≡ item) × (new ≡ old)

-- how many more items there are then
abbrev pub gained : Inserted → ℕ
gained Kept = 1
gained (Replaced back) = 0
gained (Repeat back) = 0
gained (Full back) = 0
