-- What joining answers and leaves.
use Rattle.std.specs.Prelude.{◌≡◌, ℕ, ◌+◌, ◌<◌, ◌≤◌, Bool, true, false, List, ◌++◌, length, map, Option, Some, None, Result, Ok, Err}
use Rattle.ioam_dex.specs.Record.{Record}
use Rattle.ioam_pool.specs.Entry.{Entry}
use Rattle.ioam_collect.specs.Best.{kept_of}
use Rattle.ioam_collect.specs.Collected.{Collected, Stands, capped}
use Rattle.ioam_collect.specs.Gathered.{Gathered, AreOf}
use Rattle.ioam_collect.specs.Join.{pairs_in, joined}
use Rattle.ioam_collect.specs.declared.growing.Added.{Added}
use Rattle.ioam_collect.specs.declared.growing.Added.TheVariants.{Kept, Replaced, Repeat, Unkeyed, Full}
use Rattle.ioam_collect.specs.declared.joining.Joined.{Joined}
use Rattle.ioam_collect.specs.declared.joining.Joined.TheVariants as answer
use Rattle.ioam_collect.specs.declared.key.Key.{Key}

-- how many records stand in groups
abbrev pub count_in : List (Key × List Entry) → ℕ
count_in groups = length (pairs_in groups)

-- ---- pairs that are added one after the other

-- one was refused as one too many
abbrev pub is_full : Added → Bool
is_full Full = true
is_full Kept = false
is_full Replaced = false
is_full Repeat = false
is_full Unkeyed = false

-- items, each under this key
abbrev pub under : Key → List Entry → List (Key × Entry)
under key es = map (λ e. (key, e)) es

-- whatever the groups were of, they are of the list with these pairs at its end
pub record AreAdded (old : Gathered) (ps : List (Key × Entry)) (new : Gathered) : Type 0 where
  pub are : (qs : List (Key × Entry)) → AreOf old qs → AreOf new (qs ++ ps)
  pub limit : new.limit ≡ old.limit
  pub within : old.held ≤ old.limit → new.held ≤ old.limit

-- whatever the groups were of, with these pairs they would pass the limit
abbrev pub ArePast : Gathered → List (Key × Entry) → Type 0
ArePast old ps = (qs : List (Key × Entry)) → AreOf old qs → old.limit < length (kept_of (qs ++ ps))

-- the pairs were added, or they would pass the limit
abbrev pub Takes : Gathered → List (Key × Entry) → Bool → Gathered → Type 0
Takes old ps true new = AreAdded old ps new
Takes old ps false new = ArePast old ps

-- ---- two stores, and two collectors

-- the groups of what either has
pub record HasBoth (one other new : Gathered) : Type 0 where
  pub groups : new.groups ≡ joined one.groups other.groups
  pub held : new.held ≡ count_in (joined one.groups other.groups)
  pub within : new.held ≤ one.limit
  pub limit : new.limit ≡ one.limit
  pub are : (ps qs : List (Key × Entry)) → AreOf one ps → AreOf other qs → AreOf new (ps ++ qs)

-- joining answers the groups of what either has; or none, where these would be more than the first may hold
abbrev pub JoinsStores : Gathered → Gathered → Option Gathered → Type 0
JoinsStores one other (Some new) = HasBoth one other new
JoinsStores one other None = one.limit < count_in (joined one.groups other.groups)

-- a collector has what it had and what the other has; it stands for the records of both
pub record IsJoined (old other new : Collected) : Type 0 where
  pub groups : new.groups ≡ joined old.groups other.groups
  pub held : new.held ≡ count_in (joined old.groups other.groups)
  pub within : new.held ≤ old.limit
  pub limit : new.limit ≡ old.limit
  pub read : new.read ≡ capped (old.read + other.read)
  pub unkeyed : new.unkeyed ≡ capped (old.unkeyed + other.unkeyed)
  pub stands : (xs ys : List Record) → Stands old xs → Stands other ys → Stands new (xs ++ ys)

-- Joined, or, exactly where the joined groups pass the limit, Full; but for Joined the collector is as it was
abbrev pub Joins : {E : Type 0} → Collected → Collected → Result Joined E → Collected → Type 0
Joins old other (Ok answer.Joined) new = IsJoined old other new
Joins old other (Ok answer.Full) new = (old.limit < count_in (joined old.groups other.groups)) × (new ≡ old)
Joins old other (Err _) new = new ≡ old
