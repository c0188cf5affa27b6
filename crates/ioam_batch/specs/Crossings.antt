-- The octets of a packet as its visits sent it on links with a tap.
use Rattle.std.specs.Prelude.{ℕ, ◌+◌, Bool, true, false, List, [], ◌∷◌, ◌++◌, if◌then◌else◌, map, take, drop, Option, Some, None, is_some}

-- what each visit that is done sent on a link with a tap; of each visit ahead whether it will; how long the packet is, and
-- the capacities of the two vectors that hold this
pub record Crossed : Type 0 where
  pub past : List (Option (List ℕ))
  pub ahead : List Bool
  pub size : ℕ
  pub capacities : ℕ × ℕ

-- of each visit, whether it sends on a link with a tap
abbrev pub taps_of : Crossed → List Bool
taps_of crossed = map is_some crossed.past ++ crossed.ahead

-- what a visit sent on a link, if that has a tap
abbrev pub sent_if : Bool → List ℕ → Option (List ℕ)
sent_if true octets = Some octets
sent_if false octets = None

-- so many octets for each visit that sends on a link with a tap
abbrev pub filled : ℕ → List Bool → ℕ
filled size [] = 0
filled size (tap ∷ taps) = (if tap then size else 0) + filled size taps

-- octets that stand one behind the other, so many for each such visit
abbrev pub parted : ℕ → List Bool → List ℕ → List (Option (List ℕ))
parted size [] octets = []
parted size (true ∷ taps) octets = Some (take size octets) ∷ parted size taps (drop size octets)
parted size (false ∷ taps) octets = None ∷ parted size taps octets

-- of each visit; one that is ahead has sent no octets
abbrev pub crossings : Crossed → List (Option (List ℕ))
crossings crossed = crossed.past ++ map (λ tap. sent_if tap []) crossed.ahead

-- what the visit at a place sent on a link with a tap; nothing where there is no such visit
abbrev pub joined : Option (Option (List ℕ)) → Option (List ℕ)
joined None = None
joined (Some found) = found
