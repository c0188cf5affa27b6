-- What was said to outputs: what was written to their slots, and behind it what is gathered for them
-- and not yet written. Gathering adds to it, and writing leaves it as it is.
use Rattle.std.specs.Prelude.{◌≡◌, ℕ, ◌+◌, ◌<◌, ⊤, Bool, IsTrue, List, [], ◌∷◌, ◌++◌, length, map, All, Some}
use Rattle.ioam_desk.specs.Desk.{Writing, Written}
use Rattle.ioam_desk_outputs.specs.declared.output.Output.{Output}

-- the name is tied to the output, whose slot has this number, and this text was said to it
pub record IsTold (tells : Bool) (desk : Writing) (slot : ℕ) (name : List ℕ) (output : Output) (text : List ℕ) : Type 0 where
  pub number : output.slot ≡ slot
  pub inside : slot < desk.side.slots
  pub tied : IsTrue tells → desk.files name ≡ Some (Written slot)
  pub said : IsTrue tells → text ≡ desk.written slot ++ output.gathered.items

-- each of these texts was said to its output; the outputs' slots are numbered from this one on
abbrev pub AreTold : Bool → Writing → ℕ → List (List ℕ) → List Output → List (List ℕ) → Type 0
AreTold tells desk slot [] [] [] = ⊤
AreTold tells desk slot (name ∷ names) (output ∷ outputs) (text ∷ texts) = IsTold tells desk slot name output text
    × AreTold tells desk (slot + 1) names outputs texts
AreTold tells desk slot names outputs texts = ⊥

-- to each output its own octets were added; the slots stay
abbrev pub Adds : List Output → List Output → List (List ℕ) → Type 0
Adds [] [] [] = ⊤
Adds (before ∷ old) (after ∷ new) (added ∷ more) = (after.slot ≡ before.slot)
    × (after.gathered.items ≡ before.gathered.items ++ added) × Adds old new more
Adds old new added = ⊥

-- each text with its own octets behind it
abbrev pub said_more : List (List ℕ) → List (List ℕ) → List (List ℕ)
said_more (text ∷ texts) (added ∷ more) = (text ++ added) ∷ said_more texts more
said_more texts added = []

-- the slots of the outputs are open
abbrev pub AreOpen : Writing → List Output → Type 0
AreOpen desk outputs = All (λ output. output.slot < desk.side.slots) outputs

-- nothing is gathered for any output
abbrev pub GathersNothing : List Output → Type 0
GathersNothing outputs = All (λ output. output.gathered.items ≡ []) outputs

-- for each output less is gathered than the piece, of 65,536 octets, that is written at a time
abbrev pub GathersFew : List Output → Type 0
GathersFew outputs = All (λ output. length output.gathered.items < 65536) outputs

-- as many texts as names, in which nothing is said yet
abbrev pub unsaid : List (List ℕ) → List (List ℕ)
unsaid names = map (λ _. []) names
