-- The names and what one input of export records holds ask for one answer.
use Rattle.std.proofs.Common.{◌≡◌, ◌≢◌, ℕ, ◌⊎◌, Bool, IsTrue, IsSomeAnd, List, Option, Some, None, refl, sym, ap, ◌∙◌, inl, inr}
use Rattle.std.specs.Bool.{⊤}
use Rattle.ioam_desk.specs.Desk.{Reading, Writing, Rose}
use Rattle.ioam_dex.specs.Reads.{Ending, Whole, Faulty}
use Rattle.ioam_run_answer.specs.declared.outcome.Outcome.{Outcome}
use Rattle.ioam_run_answer.specs.declared.outcome.Outcome.TheVariants as outcome

both_held : (o : Option (List ℕ)) (P Q : List ℕ → Type 0) → IsSomeAnd o P → IsSomeAnd o Q → (octets : List ℕ) × P octets × Q octets
both_held None P Q x y = absurd x
both_held (Some octets) P Q x y = (octets, x, y)

-- the answer of records that end so
abbrev answer_of : Ending → Outcome
answer_of Whole = outcome.Done
answer_of (Faulty at fault) = outcome.Exports at fault

-- `Ends` says that the records are no more than may be and end so, `Long` that they are more than this limit
module _ (tells : Bool) (content : Option (List ℕ)) (input out : List ℕ) (Limits : ℕ → Type 0) (Ends : Ending → List ℕ → Type 0) (Long : ℕ → List ℕ → Type 0) where
  -- the answers that may be asked for
  abbrev pub Asks : Outcome → Type 0
  Asks (outcome.Names name) = (input ≡ out) × (name ≡ out)
  Asks (outcome.Exports at fault) = (input ≢ out) × (IsTrue tells → IsSomeAnd content (Ends (Faulty at fault)))
  Asks (outcome.Records limit) = (input ≢ out) × Limits limit × (IsTrue tells → IsSomeAnd content (Long limit))
  Asks outcome.Done = (input ≢ out) × (IsTrue tells → IsSomeAnd content (Ends Whole))
  Asks _ = ⊥

  -- and the causes of those that are given
  abbrev pub Causes : Reading → Reading → Writing → Writing → Outcome → Type 0
  Causes old_in new_in old new outcome.ReadFault = Rose old_in.side.faults new_in.side.faults
  Causes old_in new_in old new outcome.WriteFault = Rose old.side.faults new.side.faults
  Causes old_in new_in old new outcome.NoMemory = ⊤
  Causes old_in new_in old new answer = Asks answer

  module _ (told : IsTrue tells) (one_ending : (octets : List ℕ) (d e : Ending) → Ends d octets → Ends e octets → d ≡ e)
      (long_or_ends : (octets : List ℕ) (limit : ℕ) (d : Ending) → Long limit octets → Ends d octets → ⊥)
      (one_limit : (octets : List ℕ) (a b : ℕ) → Long a octets → Long b octets → a ≡ b) where
    abbrev EndsSo : Outcome → Type 0
    EndsSo a = (ending : Ending) × (a ≡ answer_of ending) × (input ≢ out) × IsSomeAnd content (Ends ending)

    abbrev IsLong : Outcome → Type 0
    IsLong a = (limit : ℕ) × (a ≡ outcome.Records limit) × (input ≢ out) × IsSomeAnd content (Long limit)

    abbrev AreSame : Outcome → Type 0
    AreSame a = (a ≡ outcome.Names out) × (input ≡ out)

    abbrev View : Outcome → Type 0
    View a = EndsSo a ⊎ (IsLong a ⊎ AreSame a)

    view : (a : Outcome) → Asks a → View a
    view outcome.Done x = inl (Whole, refl, x.0, x.1 told)
    view (outcome.Exports at fault) x = inl (Faulty at fault, refl, x.0, x.1 told)
    view (outcome.Records limit) x = inr (inl (limit, refl, x.0, x.2 told))
    view (outcome.Names name) x = inr (inr (ap outcome.Names x.1, x.0))
    view _ x = absurd x

    long_and_ends : (limit : ℕ) (d : Ending) → IsSomeAnd content (Long limit) → IsSomeAnd content (Ends d) → ⊥
    long_and_ends limit d x y = let both = both_held content (Long limit) (Ends d) x y in long_or_ends both.0 limit d both.1 both.2

    once : (a b : Outcome) → View a → View b → a ≡ b
    once a b (inl x) (inl y) =
        let both = both_held content (Ends x.0) (Ends y.0) x.3 y.3 in
        x.1 ∙ ap answer_of (one_ending both.0 x.0 y.0 both.1 both.2) ∙ sym y.1
    once a b (inl x) (inr (inl y)) = absurd (long_and_ends y.0 x.0 y.3 x.3)
    once a b (inl x) (inr (inr y)) = absurd (x.2 y.1)
    once a b (inr (inl x)) (inl y) = absurd (long_and_ends x.0 y.0 x.3 y.3)
    once a b (inr (inl x)) (inr (inl y)) =
        let both = both_held content (Long x.0) (Long y.0) x.3 y.3 in
        x.1 ∙ ap outcome.Records (one_limit both.0 x.0 y.0 both.1 both.2) ∙ sym y.1
    once a b (inr (inl x)) (inr (inr y)) = absurd (x.2 y.1)
    once a b (inr (inr x)) (inl y) = absurd (y.2 x.1)
    once a b (inr (inr x)) (inr (inl y)) = absurd (y.2 x.1)
    once a b (inr (inr x)) (inr (inr y)) = x.0 ∙ sym y.0

    -- what is asked for is answered, unless a call failed or no memory could be had
    pub exact : (old_in new_in : Reading) (old new : Writing) (answer asked : Outcome) → Causes old_in new_in old new answer → Asks asked
        → (Rose old_in.side.faults new_in.side.faults → ⊥) → (Rose old.side.faults new.side.faults → ⊥) → (answer ≡ asked) ⊎ (answer ≡ outcome.NoMemory)
    exact old_in new_in old new outcome.ReadFault asked cause asks reads writes = absurd (reads cause)
    exact old_in new_in old new outcome.WriteFault asked cause asks reads writes = absurd (writes cause)
    exact old_in new_in old new outcome.NoMemory asked cause asks reads writes = inr refl
    exact old_in new_in old new outcome.Done asked cause asks reads writes = inl (once outcome.Done asked (view outcome.Done cause) (view asked asks))
    exact old_in new_in old new (outcome.Names name) asked cause asks reads writes =
        inl (once (outcome.Names name) asked (view (outcome.Names name) cause) (view asked asks))
    exact old_in new_in old new (outcome.Exports at fault) asked cause asks reads writes =
        inl (once (outcome.Exports at fault) asked (view (outcome.Exports at fault) cause) (view asked asks))
    exact old_in new_in old new (outcome.Records limit) asked cause asks reads writes =
        inl (once (outcome.Records limit) asked (view (outcome.Records limit) cause) (view asked asks))
    exact old_in new_in old new _ asked cause asks reads writes = absurd cause
