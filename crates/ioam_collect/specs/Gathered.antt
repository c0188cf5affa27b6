-- Items under keys, as the rest of the crate sees them.
use Rattle.std.specs.Prelude.{◌≡◌, ℕ, List, [], length, unwrap_or}
use Rattle.std.specs.Map.{lookup}
use Rattle.std.specs.Ordering.{is_eq}
use Rattle.ioam_pool.specs.Entry.{Entry}
use Rattle.ioam_collect.specs.Keyed.{key_cmp}
use Rattle.ioam_collect.specs.Best.{kept_of, of_key}
use Rattle.ioam_collect.specs.declared.key.Key.{Key}

-- the groups, how many items they have, and how many they may have
pub record Gathered : Type 0 where
  pub groups : List (Key × List Entry)
  pub held : ℕ
  pub limit : ℕ

-- the group of a key, which is empty where there is none
abbrev pub group_in : List (Key × List Entry) → Key → List Entry
group_in groups key = unwrap_or (lookup (λ k. is_eq (key_cmp key k)) groups) []

-- the groups of these pairs
pub record AreOf (gathered : Gathered) (ps : List (Key × Entry)) : Type 0 where
  pub each : (key : Key) → group_in gathered.groups key ≡ of_key key (kept_of ps)
  pub held : gathered.held ≡ length (kept_of ps)
