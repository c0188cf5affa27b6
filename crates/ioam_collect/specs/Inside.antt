-- What holds inside every collector.
use Rattle.std.specs.Prelude.{◌≡◌, ◌≢◌, ℕ, ◌+◌, ◌<◌, ◌≤◌, ◌^◌, [], length, map, Option, None, Some}
use Rattle.std.specs.BTreeMap.{BTreeMap, get}
use Rattle.ioam_pool.specs.Chains.{Chains, chain_of, total}
use Rattle.std.specs.List.{AllByRecursion}
use Rattle.ioam_collect.specs.Keyed.{key_cmp, IsOfRecord}
use Rattle.ioam_collect.specs.Gathered.{Gathered}
use Rattle.ioam_collect.specs.declared.key.Key.{Key}

-- the groups that a store shows: of each key of the map the items of its chain
abbrev pub gathered : Chains → BTreeMap Key ℕ → ℕ → Gathered
gathered pool chains limit = record { groups = map (λ e. (e.0, chain_of pool e.1)) chains.entries; held = total pool; limit = limit }

-- how many chains stand empty for later use: one or none
abbrev pub spares : Option ℕ → ℕ
spares None = 0
spares (Some c) = 1

-- an empty chain that no key has, left from a call without memory
pub record IsSpare (pool : Chains) (chains : BTreeMap Key ℕ) (spare : Option ℕ) : Type 0 where
  pub below : (c : ℕ) → spare ≡ Some c → c < length pool.chains
  pub empty : (c : ℕ) → spare ≡ Some c → chain_of pool c ≡ []
  pub free : (c : ℕ) → spare ≡ Some c → (key : Key) → get key_cmp chains key ≡ Some c → ⊥
  pub few : length pool.chains ≤ total pool + spares spare

-- what every store keeps: each key of the map has a chain of its own, which isn't empty and holds items of records, and no
-- more is held than the limit
pub record IsStore (pool : Chains) (chains : BTreeMap Key ℕ) (spare : Option ℕ) (limit : ℕ) : Type 0 where
  pub below : (key : Key) (c : ℕ) → get key_cmp chains key ≡ Some c → c < length pool.chains
  pub one : (key other : Key) (c : ℕ) → get key_cmp chains key ≡ Some c → get key_cmp chains other ≡ Some c → key ≡ other
  pub some : (key : Key) (c : ℕ) → get key_cmp chains key ≡ Some c → chain_of pool c ≢ []
  pub each : (key : Key) (c : ℕ) → get key_cmp chains key ≡ Some c → AllByRecursion IsOfRecord (chain_of pool c)
  pub left : IsSpare pool chains spare
  pub capacity : pool.capacity ≤ limit
  pub held : total pool ≤ limit
  pub room : limit < 2 ^ 31
