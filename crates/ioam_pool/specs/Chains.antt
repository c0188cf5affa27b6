-- A pool as its callers see it: chains of entries, and how many entries it has room for.
use Rattle.std.specs.Prelude.{ℕ, List, [], ◌∷◌, ◌++◌, length, sum_by, slice_index_or, slice_set}
use Rattle.ioam_pool.specs.Entry.{Entry}

-- the pool: its chains, each as the list of its items, and how many items it has room for
pub record Chains : Type 0 where
  pub chains : List (List Entry)
  pub capacity : ℕ

-- the items of the chain of a number; none where there is no such chain
abbrev pub chain_of : Chains → ℕ → List Entry
chain_of pool c = slice_index_or pool.chains c []

-- how many items all chains have
abbrev pub total : Chains → ℕ
total pool = sum_by length pool.chains

-- the pool with this chain in place of that one
abbrev pub with_chain : Chains → ℕ → List Entry → Chains
with_chain pool c list = record { chains = slice_set pool.chains c list; capacity = pool.capacity }

-- the pool with an empty chain more
abbrev pub with_one_more : Chains → Chains
with_one_more pool = record { chains = pool.chains ++ [] ∷ []; capacity = pool.capacity }
