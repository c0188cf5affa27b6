-- Where keys are found in a list.
use Rattle.std.specs.Prelude.{◌≡◌, ℕ, Bool, List, position}
use Rattle.std.specs.HashMap.{HashMap, get}

-- at each key the place of the first that is equal to it
abbrev pub ArePlaces : {K S : Type 0} → (K → K → Bool) → List K → HashMap K ℕ S → Type 0
ArePlaces {K} eq keys places = (key : K) → get eq places key ≡ position (eq key) keys
