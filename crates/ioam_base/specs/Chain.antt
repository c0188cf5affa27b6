-- Things that stand one behind the other, each by a relation: records in a set, sets in a message, messages in a
-- stream. Passes says that a thing stands at a place and ends at another.
use Rattle.std.specs.Prelude.{◌≡◌, List, [], ◌∷◌}

module _ {Place Thing : Type 0} (Passes : Place → Thing → Place → Type 0) where
  -- these things stand one behind the other, from place a up to place c
  abbrev pub Chain : Place → List Thing → Place → Type 0
  Chain a [] c = a ≡ c
  Chain a (x ∷ xs) c = (b : Place) × Passes a x b × Chain b xs c

  -- nothing stands at a place
  abbrev pub Stops : Place → Type 0
  Stops a = (x : Thing) (b : Place) → Passes a x b → ⊥

  -- at most one thing stands at a place, and ends at one place
  abbrev pub IsFunctional : Type 0
  IsFunctional = (a : Place) (x : Thing) (b : Place) (y : Thing) (c : Place) → Passes a x b → Passes a y c → (x ≡ y) × (b ≡ c)
