-- What files hold of their texts, while and after they are written.
use Rattle.std.specs.Prelude.{◌≡◌, ℕ, ◌+◌, ◌<◌, ⊤, IsSomeAnd, List, [], ◌∷◌, Some}
use Rattle.std.specs.List.{AllZip}
use Rattle.ioam_base.specs.Octets.{IsFront}
use Rattle.ioam_desk.specs.Desk.{Writing, holds}

-- each of these files holds its text
abbrev pub HoldTexts : Writing → List (List ℕ) → List (List ℕ) → Type 0
HoldTexts desk names texts = AllZip (λ name text. holds desk name ≡ Some text) names texts

-- each of these files holds a front of its text
abbrev pub HoldAllFronts : Writing → List (List ℕ) → List (List ℕ) → Type 0
HoldAllFronts desk names texts = AllZip (λ name text. IsSomeAnd (holds desk name) (λ part. IsFront part text)) names texts

-- the file was the k-th that was opened since, or wasn't opened; where it was it holds a front of the text
abbrev pub HoldsFront : Writing → Writing → ℕ → List ℕ → List ℕ → Type 0
HoldsFront old new k name text = old.side.slots + k < new.side.slots → IsSomeAnd (holds new name) (λ part. IsFront part text)

-- each of these files, the k-th and those behind it that were opened, holds a front of its text if it was opened
abbrev pub HoldFronts : Writing → Writing → ℕ → List (List ℕ) → List (List ℕ) → Type 0
HoldFronts old new k [] [] = ⊤
HoldFronts old new k [] (text ∷ texts) = ⊥
HoldFronts old new k (name ∷ names) [] = ⊥
HoldFronts old new k (name ∷ names) (text ∷ texts) = HoldsFront old new k name text × HoldFronts old new (k + 1) names texts
