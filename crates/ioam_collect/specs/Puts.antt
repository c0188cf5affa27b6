-- What an insertion below a limit answers and leaves.
use Rattle.std.specs.Prelude.{◌≡◌, ℕ, ◌+◌, ◌<◌, Result, Ok, Err, slice_set}
use Rattle.ioam_pool.specs.Entry.{Entry, bare}
use Rattle.ioam_pool.specs.Order.{order, placed, without, Repeats, Replaces}
use Rattle.ioam_pool.specs.Chains.{Chains, chain_of, total, with_chain}
use Rattle.ioam_collect.specs.declared.growing.Added.{Added}
use Rattle.ioam_collect.specs.declared.growing.Added.TheVariants.{Kept, Replaced, Repeat, Unkeyed, Full}

-- what an insertion answers and leaves: the item in its place in the chain, where it is new and the limit allows it; or in
-- place of the one without its extra part; or the chains as they were
abbrev pub Puts : {E : Type 0} → Chains → ℕ → ℕ → Entry → Result Added E → Chains → Type 0
Puts old limit c item (Ok Kept) new =
    ¬ (Repeats (chain_of old c) item) × ¬ (Replaces (chain_of old c) item) × (total old < limit)
    × (new.chains ≡ slice_set old.chains c (placed order item (chain_of old c))) × (total new ≡ total old + 1)
Puts old limit c item (Ok Replaced) new =
    ¬ (Repeats (chain_of old c) item) × Replaces (chain_of old c) item
    × (new ≡ with_chain old c (placed order item (without (bare item) (chain_of old c)))) × (total new ≡ total old)
Puts old limit c item (Ok Repeat) new = Repeats (chain_of old c) item × (new ≡ old)
Puts old limit c item (Ok Unkeyed) new = ⊥
Puts old limit c item (Ok Full) new =
    ¬ (Repeats (chain_of old c) item) × ¬ (Replaces (chain_of old c) item) × (total old ≡ limit) × (new ≡ old)
Puts old limit c item (Err _) new = new.chains ≡ old.chains
