-- Why octets are no part: the one fault that they have, and its place. Faults are looked for in the order of their places.
use Rattle.std.specs.Prelude.{◌≡◌, ◌≢◌, ℕ, ◌+◌, ◌<◌, ◌≤◌, ◌⊎◌, List, [], ◌∷◌, ◌++◌, length, take}
use Rattle.ioam_dex.specs.Faults.{Fault, IsCut}
use Rattle.ioam_dex.specs.Record.{Record, IsRecord, record_octets}
use Rattle.ioam_dex.specs.Reads.{records_octets, Splits}
use Rattle.ioam_part.specs.Part.{mark, most_records, head_octets, AreInOrder}
use Rattle.ioam_part.specs.declared.fault.PartFault.{PartFault}
use Rattle.ioam_part.specs.declared.fault.PartFault.TheVariants as fault

-- ---- behind the head

-- as far as this place stand these records, no more than are counted, and then a rest
pub record Reaches (count : ℕ) (body : List ℕ) (place : ℕ) (xs : List Record) (rest : List ℕ) : Type 0 where
  pub splits : Splits body xs rest
  pub in_order : AreInOrder xs
  pub within : length xs ≤ count
  pub at : place ≡ length (records_octets xs)

-- at this place another record is due, and what stands there is so
abbrev pub IsDue : ℕ → List ℕ → ℕ → (List Record → List ℕ → Type 0) → Type 0
IsDue count body place Is = (xs : List Record) × (rest : List ℕ) × Reaches count body place xs rest × (length xs < count) × Is xs rest

-- at this place as many records were read as are counted, and octets follow
abbrev pub HasRest : ℕ → List ℕ → ℕ → Type 0
HasRest count body place = (xs : List Record) × (rest : List ℕ) × Reaches count body place xs rest × (length xs ≡ count) × (0 < length rest)

-- the rest begins with a record that has no key, or may not stand behind these
abbrev pub IsMisplaced : List Record → List ℕ → Type 0
IsMisplaced xs rest = (x : Record) × (behind : List ℕ) × IsRecord x × (rest ≡ record_octets x ++ behind) × ¬ (AreInOrder (xs ++ x ∷ []))

-- the first fault behind a head with this count, and its place there
abbrev pub HasFaultBehind : ℕ → List ℕ → ℕ → PartFault → Type 0
HasFaultBehind count body place fault.Mark = ⊥
HasFaultBehind count body place (fault.Count found) = ⊥
HasFaultBehind count body place (fault.Record f) = IsDue count body place (λ xs rest. Fault rest f)
HasFaultBehind count body place fault.Order = IsDue count body place IsMisplaced
HasFaultBehind count body place (fault.Short have) = IsDue count body place (λ xs rest. IsCut rest × (have ≡ length rest))
HasFaultBehind count body place fault.Rest = HasRest count body place

-- ---- the whole

-- the head is sound, and behind it is this fault
abbrev pub IsBehindHead : List ℕ → ℕ → PartFault → Type 0
IsBehindHead octets at f = (count : ℕ) × (body : List ℕ) × (place : ℕ)
    × (octets ≡ head_octets count ++ body) × (count ≤ most_records) × (at ≡ 12 + place) × HasFaultBehind count body place f

-- the mark isn't whole, or the count isn't, of which so many octets are there
abbrev pub HasCutHead : List ℕ → ℕ → ℕ → Type 0
HasCutHead octets at have = ((at ≡ 0) × (length octets < 8) × (have ≡ length octets))
    ⊎ ((at ≡ 8) × ((front : List ℕ) × (octets ≡ mark ++ front) × (length front < 4) × (have ≡ length front)))

-- the octets have this fault at this place, and are sound in front of it
abbrev pub HasFault : List ℕ → ℕ → PartFault → Type 0
HasFault octets at fault.Mark = (at ≡ 0) × (8 ≤ length octets) × (take 8 octets ≢ mark)
HasFault octets at (fault.Count found) = (at ≡ 8)
    × ((rest : List ℕ) × (octets ≡ head_octets found ++ rest) × (most_records < found) × (found < 4294967296))
HasFault octets at (fault.Record f) = IsBehindHead octets at (fault.Record f)
HasFault octets at fault.Order = IsBehindHead octets at fault.Order
HasFault octets at (fault.Short have) = HasCutHead octets at have ⊎ IsBehindHead octets at (fault.Short have)
HasFault octets at fault.Rest = IsBehindHead octets at fault.Rest
