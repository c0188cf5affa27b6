-- What adding an item under a key answers and leaves.
use Rattle.std.specs.Prelude.{◌≡◌, ◌≢◌, ◌+◌, ◌<◌, List, [], ◌∷◌, ◌++◌, Result, Ok, Err}
use Rattle.ioam_pool.specs.Entry.{Entry, bare}
use Rattle.ioam_pool.specs.Order.{order, placed, without, Repeats, Replaces}
use Rattle.ioam_collect.specs.Gathered.{Gathered, group_in, AreOf}
use Rattle.ioam_collect.specs.declared.key.Key.{Key}
use Rattle.ioam_collect.specs.declared.growing.Added.{Added}
use Rattle.ioam_collect.specs.declared.growing.Added.TheVariants.{Kept, Replaced, Repeat, Unkeyed, Full}

-- the group of one key is this, the other groups are as before
pub record Turns (old : Gathered) (key : Key) (items : List Entry) (new : Gathered) : Type 0 where
  pub here : group_in new.groups key ≡ items
  pub others : (other : Key) → other ≢ key → group_in new.groups other ≡ group_in old.groups other
  pub limit : new.limit ≡ old.limit

-- what is answered of an item and left: kept, where it is new and there is room; in place of the one without its extra part;
-- nothing, where it repeats one or there is no room or no memory
abbrev pub Adds : {E : Type 0} → Gathered → Key → Entry → Result Added E → Gathered → Type 0
Adds old key item (Ok Kept) new =
    ¬ (Repeats (group_in old.groups key) item) × ¬ (Replaces (group_in old.groups key) item) × (old.held < old.limit)
    × Turns old key (placed order item (group_in old.groups key)) new × (new.held ≡ old.held + 1)
Adds old key item (Ok Replaced) new =
    ¬ (Repeats (group_in old.groups key) item) × Replaces (group_in old.groups key) item
    × Turns old key (placed order item (without (bare item) (group_in old.groups key))) new × (new.held ≡ old.held)
Adds old key item (Ok Repeat) new = Repeats (group_in old.groups key) item × (new ≡ old)
Adds old key item (Ok Unkeyed) new = ⊥
Adds old key item (Ok Full) new =
    ¬ (Repeats (group_in old.groups key) item) × ¬ (Replaces (group_in old.groups key) item) × (old.held ≡ old.limit) × (new ≡ old)
Adds old key item (Err _) new = new ≡ old

-- what the groups are of afterwards, whatever they were of: the list with the pair at its end, where it was kept or held already
abbrev pub IsOf : {E : Type 0} → Gathered → Key → Entry → Result Added E → Gathered → Type 0
IsOf old key item (Ok Kept) new = (ps : List (Key × Entry)) → AreOf old ps → AreOf new (ps ++ (key, item) ∷ [])
IsOf old key item (Ok Replaced) new = (ps : List (Key × Entry)) → AreOf old ps → AreOf new (ps ++ (key, item) ∷ [])
IsOf old key item (Ok Repeat) new = (ps : List (Key × Entry)) → AreOf old ps → AreOf new (ps ++ (key, item) ∷ [])
IsOf old key item (Ok Unkeyed) new = ⊥
IsOf old key item (Ok Full) new = new ≡ old
IsOf old key item (Err _) new = new ≡ old

-- adding answers Full
abbrev pub IsFullFor : Gathered → Key → Entry → Type 0
IsFullFor old key item = ¬ (Repeats (group_in old.groups key) item) × ¬ (Replaces (group_in old.groups key) item) × (old.held ≡ old.limit)
