-- The words and PART ask for one answer of `parts`.
use Rattle.std.proofs.Common.{◌≡◌, ℕ, ◌⊎◌, Bool, IsTrue, List, Option, refl, sym, ap, ◌∙◌, inl, inr}
use Rattle.ioam_desk.specs.Desk.{Reading, Writing, Rose}
use Rattle.ioam_part.specs.Faults.{HasFault}
use Rattle.ioam_part.specs.declared.fault.PartFault.{PartFault}
use Rattle.ioam_run_answer.specs.declared.outcome.Outcome.{Outcome}
use Rattle.ioam_run_answer.specs.declared.outcome.Outcome.TheVariants as outcome
use Rattle.ioam_run_part.specs.PartsPromise.{PartsAsked, PartsCause}
use Rattle.ioam_run_part.specs.Records.{IsAPart}
use Rattle.ioam_run_part.proofs.MergeAskedLaws.{some_both, fault_same}
use Rattle.ioam_run_part.proofs.OneFault.{one_fault, part_or_fault}

module _ (tells : Bool) (content : Option (List ℕ)) (part report : List ℕ) (told : IsTrue tells) where
  abbrev Asked : Outcome → Type 0
  Asked = PartsAsked tells content part report

  whole_or_faulty : (name : List ℕ) (at : ℕ) (fault : PartFault) → Asked outcome.Done → Asked (outcome.Part name at fault) → ⊥
  whole_or_faulty name at fault x y =
      let both = some_both content IsAPart (λ o. HasFault o at fault) (x.1 told) (y.2 told) in
      part_or_fault both.0 both.1.0 at fault both.1.1 both.2

  asked_once : (a b : Outcome) → Asked a → Asked b → a ≡ b
  asked_once outcome.Done outcome.Done x y = refl
  asked_once outcome.Done (outcome.Names name') x y = absurd (x.0 y.0)
  asked_once outcome.Done (outcome.Part name' at' fault') x y = absurd (whole_or_faulty name' at' fault' x y)
  asked_once outcome.Done _ x y = absurd y
  asked_once (outcome.Names name) outcome.Done x y = absurd (y.0 x.0)
  asked_once (outcome.Names name) (outcome.Names name') x y = ap outcome.Names (x.1 ∙ sym y.1)
  asked_once (outcome.Names name) (outcome.Part name' at' fault') x y = absurd (y.0 x.0)
  asked_once (outcome.Names name) _ x y = absurd y
  asked_once (outcome.Part name at fault) outcome.Done x y = absurd (whole_or_faulty name at fault y x)
  asked_once (outcome.Part name at fault) (outcome.Names name') x y = absurd (x.0 y.0)
  asked_once (outcome.Part name at fault) (outcome.Part name' at' fault') x y =
      let both = some_both content (λ o. HasFault o at fault) (λ o. HasFault o at' fault') (x.2 told) (y.2 told) in
      fault_same name name' at at' fault fault' (x.1 ∙ sym y.1) (one_fault both.0 at at' fault fault' both.1 both.2)
  asked_once (outcome.Part name at fault) _ x y = absurd y
  asked_once _ b x y = absurd x

  -- what is asked for is answered, unless a call failed or no memory could be had
  pub parts_asked : (old_in new_in : Reading) (old new : Writing) (answer asked : Outcome)
      → PartsCause tells content part report old_in new_in old new answer → Asked asked
      → (Rose old_in.side.faults new_in.side.faults → ⊥) → (Rose old.side.faults new.side.faults → ⊥)
      → (answer ≡ asked) ⊎ (answer ≡ outcome.NoMemory)
  parts_asked old_in new_in old new outcome.Done asked cause asks reads writes = inl (asked_once outcome.Done asked cause asks)
  parts_asked old_in new_in old new (outcome.Names name) asked cause asks reads writes = inl (asked_once (outcome.Names name) asked cause asks)
  parts_asked old_in new_in old new (outcome.Part name at fault) asked cause asks reads writes = inl (asked_once (outcome.Part name at fault) asked cause asks)
  parts_asked old_in new_in old new outcome.ReadFault asked cause asks reads writes = absurd (reads cause)
  parts_asked old_in new_in old new outcome.WriteFault asked cause asks reads writes = absurd (writes cause)
  parts_asked old_in new_in old new outcome.NoMemory asked cause asks reads writes = inr refl
  parts_asked old_in new_in old new _ asked cause asks reads writes = absurd cause
