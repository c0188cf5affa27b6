-- Where the data records of a message stand, and what they say.
use Rattle.std.specs.Prelude.{ℕ, ◌-◌, ◌*◌, ◌≤◌, List, map, length, take, drop}
use Rattle.std.specs.List.{AllByRecursion}
use Rattle.ioam_dex.specs.Record.{Record, IsRecord}
use Rattle.ioam_ipfix.specs.declared.place.Place.{Place}
use Rattle.ioam_ipfix.specs.Data.{data_at, HasRoom}

-- the octets from one place to another
abbrev pub slice : ℕ → ℕ → List ℕ → List ℕ
slice from to octets = take (to - from) (drop from octets)

-- the octets of the message where a record stands
abbrev pub octets_at : List ℕ → Place → List ℕ
octets_at message p = slice p.from p.to message

-- the record that these octets say
abbrev pub record_there : List ℕ → Place → Record
record_there message p = data_at p.id (octets_at message p)

-- the records at these places
abbrev pub records_at : List ℕ → List Place → List Record
records_at message places = map (record_there message) places

-- a record stands at the place
pub record IsPlace (message : List ℕ) (p : Place) : Type 0 where
  pub ordered : p.from ≤ p.to
  pub inside : p.to ≤ length message
  pub room : HasRoom p.id (octets_at message p)
  pub sayable : IsRecord (record_there message p)

-- at each of these places of the message a record stands
abbrev pub AllPlaces : List ℕ → List Place → Type 0
AllPlaces message places = AllByRecursion (λ p. IsPlace message p) places

-- there is room for the places of all records that a message can have behind a place: 65,535 octets have fewer than
-- 8,192 records of 8 octets
abbrev pub HasRoomFor : ℕ → ℕ → ℕ → Type 0
HasRoomFor at len capacity = (8 * len ≤ at) × (8192 ≤ capacity)
