-- Things that stand one behind the other: options in a header, headers in a chain, elements in a
-- trace, records in a file.
use Rattle.std.specs.Prelude.{◌≡◌, List, [], ◌∷◌}

-- CanPass says that a thing stands at a place, `thing` which one, and `behind` where the next begins.
module _ {Place Thing : Type 0} (CanPass : Place → Type 0) (thing : Place → Thing) (behind : Place → Place) where
  -- these things stand one behind the other, from place a up to place b
  abbrev pub Leads : Place → List Thing → Place → Type 0
  Leads a [] b = a ≡ b
  Leads a (x ∷ xs) b = CanPass a × (x ≡ thing a) × Leads (behind a) xs b
