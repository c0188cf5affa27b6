-- Messages (RFC 7011 section 3.1): version 10 in 16 bits, length with these sixteen octets 16 bits, export time,
-- sequence number and observation domain 32 bits each, then sets.
use Rattle.std.specs.Prelude.{ℕ, ◌≡◌, ◌<◌, ◌≤◌, ◌⊎◌, List, [], ◌∷◌, ◌++◌, length, take, drop}
use Rattle.ioam_base.specs.Octets.{u16_at}
use Rattle.ioam_dex.specs.Record.{Record}
use Rattle.ioam_base.specs.Chain.{Chain, Stops}
use Rattle.ioam_ipfix.specs.Templates.{none_known}
use Rattle.ioam_ipfix.specs.Sets.{Spot, spot, SetPasses}

-- lists one behind the other, as one list
abbrev pub joined : {X : Type 0} → List (List X) → List X
joined [] = []
joined (xs ∷ xss) = xs ++ joined xss

-- a message is there whole
pub record IsWhole (octets : List ℕ) : Type 0 where
  pub begins : 4 ≤ length octets
  pub version : u16_at octets 0 ≡ 10
  pub least : 16 ≤ u16_at octets 2
  pub there : u16_at octets 2 ≤ length octets

-- its octets
abbrev pub message_of : List ℕ → List ℕ
message_of octets = take (u16_at octets 2) octets

-- a whole message without a fault stands in front, with these records
pub record MessagePasses (a : Spot) (xs : List Record) (b : Spot) : Type 0 where
  pub whole : IsWhole a.octets
  pub behind : b.octets ≡ drop (u16_at a.octets 2) a.octets
  pub sets : List (List Record)
  pub leads : Chain SetPasses (spot a.known (drop 16 (message_of a.octets))) sets (spot b.known [])
  pub records : xs ≡ joined sets

-- what stands in front is not whole, and has no fault so far
abbrev pub IsCutMessage : List ℕ → Type 0
IsCutMessage octets = (length octets < 2) ⊎ ((u16_at octets 0 ≡ 10)
    × ((length octets < 4) ⊎ ((16 ≤ u16_at octets 2) × (length octets < u16_at octets 2))))

-- The octets are whole messages without a fault, with these records message by message, and a rest that begins with
-- none.
pub record IpfixOf (octets : List ℕ) (messages : List (List Record)) (rest : Spot) : Type 0 where
  pub leads : Chain MessagePasses (spot none_known octets) messages rest
  pub stops : Stops MessagePasses rest
