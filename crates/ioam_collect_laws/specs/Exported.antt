-- The octets that a run exports as they are read: exactly the records of its arrivals, in their order and to the end, so that
-- regrouped they are the whole path of each packet that was exported of (RFC 9326 section 3.2); and a front of these octets.
use Rattle.std.specs.Prelude.{◌≡◌, ℕ, ◌<◌, ◌^◌, List, [], ◌∷◌, ◌++◌, length, map, Contains, Option, Some, slice_get}
use Rattle.std.specs.List.{All}
use Rattle.ioam_base.specs.Octets.{IsFront}
use Rattle.ioam_run_texts.specs.Sample.{Sample}
use Rattle.ioam_collect.specs.Best.{groups_of}
use Rattle.ioam_collect.specs.Keyed.{keyed, keyed_of}
use Rattle.ioam_collect.specs.declared.key.Key.{Key}
use Rattle.ioam_dex.specs.declared.export.ExportFault.TheVariants as fault
use Rattle.ioam_dex.specs.Reads.{Ending, Whole, Faulty, Reads, ReadsOnly, Splits, records_octets}
use Rattle.ioam_dex.specs.Record.{Record, record_octets}
use Rattle.ioam_run_texts.specs.Fate.{Frame, Fate}
use Rattle.ioam_run_texts.specs.Texts.{exports_text}
use Rattle.ioam_pool.specs.Entry.{Entry}
use Rattle.ioam_topo.specs.declared.domain.Domain.{Domain}
use Rattle.ioam_collect_laws.specs.Paths.{IsAlone, IsRun, exports_of, key_of, path_of, under}

-- ---- what a record has room for

-- an arrival's time is below 2^62 nanoseconds, as that of each record that is read of a capture
abbrev pub IsTimely : Frame → Type 0
IsTimely frame = frame.entry.time < 2 ^ 62

-- a run whose times a record has room for
pub record IsTold (domain : Domain) (readings : List (List Sample)) (frames : List Frame) (fates : List Fate) : Type 0 where
  pub run : IsRun domain readings frames fates
  pub timely : All IsTimely frames

-- ---- the octets

-- the octets that the run exports read as its records, by arrival and then by visit, to the end; and as nothing else
pub record ReadsRun (domain : Domain) (readings : List (List Sample)) (fates : List Fate) : Type 0 where
  pub reads : Reads (exports_text domain readings fates) (exports_of domain readings fates) Whole
  pub only : ReadsOnly (exports_text domain readings fates) (exports_of domain readings fates) Whole

-- whatever the domain
abbrev pub ExportsAreRead : Type 0
ExportsAreRead = (domain : Domain) (readings : List (List Sample)) (frames : List Frame) (fates : List Fate) → IsTold domain readings frames fates
    → ReadsRun domain readings fates

-- ---- a front of them

-- these are the first of those
pub record AreFirst (read all : List Record) : Type 0 where
  pub more : List Record
  pub are : all ≡ read ++ more

-- the octets are none, where no more records come; or a front of the record that comes next, which isn't whole
abbrev pub IsFrontOfNext : List Record → List ℕ → Type 0
IsFrontOfNext [] left = left ≡ []
IsFrontOfNext (next ∷ more) left = IsFront left (record_octets next) × (length left < length (record_octets next))

-- how octets end of which these are left behind whole records
abbrev pub ending_with : List Record → List ℕ → Ending
ending_with read [] = Whole
ending_with read (octet ∷ left) = Faulty (length (records_octets read)) (fault.Short (length (octet ∷ left)))

-- the octets read as the first of these records, each whole, and behind them at most a front of the next one is left; and as nothing else
pub record ReadsFront (all : List Record) (octets : List ℕ) : Type 0 where
  pub read : List Record
  pub left : List ℕ
  pub first : AreFirst read all
  pub next : IsFrontOfNext first.more left
  pub splits : Splits octets read left
  pub reads : Reads octets read (ending_with read left)
  pub only : ReadsOnly octets read (ending_with read left)

-- whatever the domain
abbrev pub FrontsAreRead : Type 0
FrontsAreRead = (domain : Domain) (readings : List (List Sample)) (frames : List Frame) (fates : List Fate) (octets : List ℕ) → IsTold domain readings frames fates
    → IsFront octets (exports_text domain readings fates) → ReadsFront (exports_of domain readings fates) octets

-- ---- the groups

-- an item under a key, as a pair that is there
abbrev pub item_under : Key → Entry → Option (Key × Entry)
item_under key item = Some (under key item)

-- the group has an arrival's key, and an item for each record of the arrival's path, in the path's order
pub record IsWholePath (domain : Domain) (readings : List (List Sample)) (fate : Fate) (group : Key × List Entry) : Type 0 where
  pub key : key_of domain fate ≡ Some group.0
  pub items : map keyed_of (path_of domain readings fate) ≡ map (item_under group.0) group.1

-- the group is the whole path of one arrival, and no other has its key
pub record IsWholeOfOne (domain : Domain) (readings : List (List Sample)) (fates : List Fate) (group : Key × List Entry) : Type 0 where
  pub place : ℕ
  pub fate : Fate
  pub there : slice_get fates place ≡ Some fate
  pub path : IsWholePath domain readings fate group
  pub alone : IsAlone domain fates group.0 place

-- each of the groups is the whole path of one arrival, and each arrival of which there is a record has its group
pub record AreWholePaths (domain : Domain) (readings : List (List Sample)) (fates : List Fate) (groups : List (Key × List Entry)) : Type 0 where
  pub each : (group : Key × List Entry) → Contains groups group → IsWholeOfOne domain readings fates group
  pub all : (place : ℕ) (fate : Fate) (x : Record) → slice_get fates place ≡ Some fate → Contains (path_of domain readings fate) x
      → (group : Key × List Entry) × Contains groups group × IsWholePath domain readings fate group

-- ---- what was read

-- what was read of the exports of a run is all of its records, each once and in their order, and the groups are the whole paths
pub record AreRun (domain : Domain) (readings : List (List Sample)) (fates : List Fate) (read : List Record) (ending : Ending) : Type 0 where
  pub whole : ending ≡ Whole
  pub all : read ≡ exports_of domain readings fates
  pub paths : AreWholePaths domain readings fates (groups_of (keyed read))

-- it is the first of them
abbrev pub AreFirstOfRun : Domain → List (List Sample) → List Fate → List Record → Type 0
AreFirstOfRun domain readings fates read = AreFirst read (exports_of domain readings fates)

-- whatever run exported these octets, what they read as is all that it recorded, and what is read first of them the first of that
pub record TellsRun (octets : List ℕ) (read : List Record) : Type 0 where
  pub whole : (domain : Domain) (readings : List (List Sample)) (frames : List Frame) (fates : List Fate) (ending : Ending)
      → IsTold domain readings frames fates → octets ≡ exports_text domain readings fates → Reads octets read ending
      → AreRun domain readings fates read ending
  pub first : (domain : Domain) (readings : List (List Sample)) (frames : List Frame) (fates : List Fate) (rest : List ℕ)
      → IsTold domain readings frames fates → octets ≡ exports_text domain readings fates → Splits octets read rest
      → AreFirstOfRun domain readings fates read
