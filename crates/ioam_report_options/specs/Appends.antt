-- What a call appends that may find no memory.
use Rattle.std.specs.Prelude.{◌≡◌, ℕ, List, ◌++◌, Result, Ok, Err}

-- a text of which this holds stands behind what was there, or for want of memory nothing does
abbrev pub Appends : {T E : Type 0} → Result T E → (List ℕ → Type 0) → List ℕ → List ℕ → Type 0
Appends (Ok value) Is old new = (text : List ℕ) × Is text × (new ≡ old ++ text)
Appends (Err error) Is old new = new ≡ old
