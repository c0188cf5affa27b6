-- Where the next option of a header stands.
use Rattle.std.specs.Prelude.{ℕ, ◌+◌, ◌≡◌, ◌≤◌, List, ◌∷◌, length, slice_range}
use Rattle.ioam_ip.specs.Options.{Item}
use Rattle.ioam_ip.specs.OptionsLeft.{options_from}
use Rattle.ioam_ip.specs.declared.next.OptionSpot.{OptionSpot}

-- the place behind an option
abbrev pub spot_end : OptionSpot → ℕ
spot_end spot = spot.at + 2 + spot.size

-- the option itself
abbrev pub item_in : List ℕ → OptionSpot → Item
item_in head spot = record { kind = spot.kind; at = spot.at; body = slice_range head (spot.at + 2) (spot_end spot) }

-- of the options from a place on this is the first, and the others stand behind it
pub record IsNext (head : List ℕ) (from : ℕ) (spot : OptionSpot) : Type 0 where
  pub first : options_from (length head) head from ≡ item_in head spot ∷ options_from (length head) head (spot_end spot)
  pub behind : from ≤ spot.at
  pub within : spot_end spot ≤ length head
