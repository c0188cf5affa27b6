-- Export records that are read in pieces while a collector regroups them.
use Rattle.std.specs.Prelude.{◌≡◌, ℕ, ◌<◌, ◌≤◌, ◌⊎◌, List, [], ◌∷◌, ◌++◌, length, Option, Some, None}
use Rattle.ioam_dex.specs.Record.{Record, most_records}
use Rattle.ioam_dex.specs.Reads.{Faulty, Reads, Splits}
use Rattle.ioam_dex.specs.Faults.{IsCut}
use Rattle.ioam_dex.specs.Reading.{Reading}
use Rattle.ioam_dex.specs.Reader.{Stands, Waits}
use Rattle.ioam_collect.specs.Keyed.{keyed_of}
use Rattle.ioam_collect.specs.Collected as collected
use Rattle.ioam_collect.specs.Collected.{Collected, Answers, count_kept}
use Rattle.ioam_collect.specs.declared.growing.Added.TheVariants.{Full}
use Rattle.ioam_collect_stream.specs.declared.step.Limit.{Limit}
use Rattle.ioam_collect_stream.specs.declared.step.Limit.TheVariants as limits
use Rattle.ioam_collect_stream.specs.declared.step.Pause.{Pause}
use Rattle.ioam_collect_stream.specs.declared.step.Pause.TheVariants as pause

-- the most records that a collector of the program holds: 1,048,576
abbrev pub most_held : ℕ
most_held = 1048576

-- no more than may be read, of which no more are kept than may be held
pub record AreFew (records : List Record) : Type 0 where
  pub read : length records ≤ most_records
  pub held : count_kept records ≤ most_held

-- behind these records one more is too many: with it more would be kept than may be held, or else more would be read than may be
abbrev pub IsPast : ℕ → List Record → Record → Type 0
IsPast limit records x = ((limit ≡ most_held) × (most_held < count_kept (records ++ x ∷ [])))
    ⊎ ((limit ≡ most_records) × (count_kept (records ++ x ∷ []) ≤ most_held) × (most_records < length (records ++ x ∷ [])))

-- the reader has given these records of these octets, and the collector stands for them
pub record Gathers (octets : List ℕ) (records : List Record) (reader : Reading) (collector : Collected) : Type 0 where
  pub stands : Stands reader octets records
  pub stands_for : collected.Stands collector records
  pub few : AreFew records
  pub limit : collector.limit ≡ most_held

-- one of the two limits
abbrev pub IsLimit : ℕ → Type 0
IsLimit limit = (limit ≡ most_held) ⊎ (limit ≡ most_records)

-- how many records a limit allows
abbrev pub most_of : Limit → ℕ
most_of limits.Held = most_held
most_of limits.Read = most_records

-- which limit is said of a record where as many were read as may be: that of what is held, where it would be one too many there too
abbrev pub SaysLimit : Collected → Record → ℕ → Type 0
SaysLimit collector x limit = ((limit ≡ most_held) × Answers collector (keyed_of x) Full)
    ⊎ ((limit ≡ most_records) × ¬ (Answers collector (keyed_of x) Full))

-- what a step did: one record more was gathered; or nothing was, and why
module _ (old new : Reading) (before after : Collected) where
  -- what one step did: one record more was gathered; or more octets are needed, or the next record has this fault, or it is
  -- one past this limit
  abbrev pub Steps : Option Pause → Type 0
  Steps None = (length new.pending < length old.pending)
      × ((octets : List ℕ) (records : List Record) → Gathers octets records old before → (x : Record) × Gathers octets (records ++ x ∷ []) new after)
  Steps (Some pause.More) = (new ≡ old) × (after ≡ before) × Waits old
  Steps (Some (pause.Bad at fault)) = (new ≡ old) × (after ≡ before)
      × ((octets : List ℕ) (records : List Record) → Stands old octets records → (more : List ℕ) → Reads (octets ++ more) records (Faulty at fault))
  Steps (Some (pause.Limit limit)) = (length new.pending < length old.pending) × (after ≡ before)
      × ((octets : List ℕ) (records : List Record) → Gathers octets records old before
      → (x : Record) × Stands new octets (records ++ x ∷ []) × IsPast (most_of limit) records x)

-- what the taking of all records did that the octets show whole: they were gathered, and then more octets are needed, or the next
-- record has this fault, or it is one past this limit
module _ (old new : Reading) (before after : Collected) where
  abbrev pub Shows : Pause → Type 0
  Shows pause.More = Waits new × ((octets : List ℕ) (records : List Record) → Gathers octets records old before → (all : List Record) × Gathers octets all new after)
  Shows (pause.Bad at fault) = (octets : List ℕ) (records : List Record) → Gathers octets records old before
      → (all : List Record) × Gathers octets all new after × ((more : List ℕ) → Reads (octets ++ more) all (Faulty at fault))
  Shows (pause.Limit limit) = (octets : List ℕ) (records : List Record) → Gathers octets records old before
      → (all : List Record) × (mid : Reading) × Gathers octets all mid after × (x : Record) × Stands new octets (all ++ x ∷ []) × IsPast (most_of limit) all x

-- the octets are these records, behind which one is too many
pub record Passes (limit : ℕ) (records : List Record) (octets : List ℕ) : Type 0 where
  pub next : Record
  pub rest : List ℕ
  pub splits : Splits octets (records ++ next ∷ []) rest
  pub past : IsPast limit records next

-- these are the records that are whole in the octets but for those that are left; the record behind them is cut there
pub record AreWhole (left : List ℕ) (records : List Record) (octets : List ℕ) : Type 0 where
  pub handed : List ℕ
  pub parts : octets ≡ handed ++ left
  pub rest : List ℕ
  pub splits : Splits handed records rest
  pub cut : IsCut rest
