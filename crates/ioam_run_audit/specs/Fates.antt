-- What becomes of each thing of one list, where those of another are taken in their order: a relation, since nothing has to
-- decide of any two things whether one can have become the other.
use Rattle.std.specs.Prelude.{◌≡◌, ⊤, ℕ, ◌+◌, ◌<◌, List, [], ◌∷◌, length, drop, Some, slice_get, IsSomeAnd}
use Rattle.ioam_node.specs.declared.reason.Reason.{Reason}
use Rattle.ioam_run_audit.specs.declared.fate.Fate.{Fate}
use Rattle.ioam_run_audit.specs.declared.fate.Fate.TheVariants.{Sent, Gone, Skipped}

-- the number of the next thing of the second list, and that list, behind a thing of the first that became so
abbrev pub number_behind : ℕ → Fate → ℕ
number_behind number (Sent m) = number + 1
number_behind number Gone = number
number_behind number (Skipped why) = number

-- what is left of the second list behind a thing of the first that became so
abbrev pub left_behind : {A : Type 0} → Fate → List A → List A
left_behind (Sent m) ys = drop 1 ys
left_behind Gone ys = ys
left_behind (Skipped why) ys = ys

module _ {B A : Type 0} (Skips : B → Reason → Type 0) (Fits : B → Type 0) (Becomes : B → A → Type 0) where
  -- the next thing of the second list can be this one, or can't
  abbrev pub IsNext : B → List A → Type 0
  IsNext b [] = ⊥
  IsNext b (a ∷ ys) = Becomes b a

  -- the next thing of the second list can't have become of this one, or there is none
  abbrev pub IsNotNext : B → List A → Type 0
  IsNotNext b [] = ⊤
  IsNotNext b (a ∷ ys) = Becomes b a → ⊥

  -- what becomes of a thing, where the next of the second list has this number: it is skipped, and why; or it is the next; or it
  -- is gone, since the next can't be this one
  abbrev pub IsFate : ℕ → B → List A → Fate → Type 0
  IsFate number b ys (Skipped why) = Skips b why
  IsFate number b ys Gone = Fits b × IsNotNext b ys
  IsFate number b ys (Sent m) = (m ≡ number) × IsNext b ys

  -- what becomes of all of them, and what is left of the second list behind them
  abbrev pub AreFates : ℕ → List B → List A → List Fate → List A → Type 0
  AreFates number [] ys [] rest = rest ≡ ys
  AreFates number [] ys (fate ∷ fates) rest = ⊥
  AreFates number (b ∷ bs) ys [] rest = ⊥
  AreFates number (b ∷ bs) ys (fate ∷ fates) rest = IsFate number b ys fate × AreFates (number_behind number fate) bs (left_behind fate ys) fates rest

-- a strictly increasing map takes each thing of the second list to one of the first that can have become it
pub record IsSentOn {B A : Type 0} (Becomes : B → A → Type 0) (before : List B) (after : List A) : Type 0 where
  pub place : ℕ → ℕ
  pub rises : (i j : ℕ) → i < j → j < length after → place i < place j
  pub each : (i : ℕ) (a : A) → slice_get after i ≡ Some a → IsSomeAnd (slice_get before (place i)) (λ b. Becomes b a)
