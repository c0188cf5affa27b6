-- Slots over real files that are opened.
use Rattle.std.proofs.Common.{◌≡◌, ℕ, List, [], ◌∷◌, ◌++◌, Option, Some, Result, Ok, Err, IfOk, IfErr, IfSome, MatchResult, ◌∙◌, ap, sym, subst}
use Rattle.ioam_desk.specs.HostDesk.{AddsOpened}
use Rattle.ioam_desk.specs.declared.fault.DeskFault.{DeskFault}
use Rattle.ioam_desk.specs.declared.fault.DeskFault.TheVariants.{Failed, NoMemory}
use Rattle.ioam_desk.specs.declared.host_fault.Reason.{Reason}
use Rattle.ioam_desk.specs.declared.host_side.Slot.{Slot}
use Rattle.ioam_desk.specs.declared.host_side.Opened.{Opened}

-- what the outside answered to a name was taken, behind the slots that were there
pub adds_opened : {F : Type 0} (old mid new : List (Slot F)) (name asked : List ℕ) (so : Opened F → Type 0)
    (opened : Result (Opened F) Reason) (result : Result ℕ DeskFault) (number : ℕ)
    → mid ≡ old → asked ≡ name → IfOk opened so
    → MatchResult opened (λ (one : Opened F). (result ≡ Ok number) × (new ≡ mid ++ record { name = asked; opened = one } ∷ []))
    (λ _. (result ≡ Err Failed) × (new ≡ mid))
    → AddsOpened old name so result new
adds_opened {F} old mid new name asked so (Ok one) (Ok slot) number same is such added = (
  one,
  added.1 ∙ ap (λ (xs : List (Slot F)). xs ++ record { name = asked; opened = one } ∷ []) same
      ∙ ap (λ (n : List ℕ). old ++ record { name = n; opened = one } ∷ []) is,
  such,
)
adds_opened old mid new name asked so (Ok one) (Err fault) number same is such added = let no : ⊥ = differ fault number added.0 in absurd no
  where
    differ : (fault : DeskFault) (number : ℕ) → Err fault ≡ Ok number → ⊥
    differ fault number e = cc
adds_opened old mid new name asked so (Err why) (Ok slot) number same is such added = let no : ⊥ = differ slot added.0 in absurd no
  where
    differ : (slot : ℕ) → Ok slot ≡ Err Failed → ⊥
    differ slot e = cc
adds_opened old mid new name asked so (Err why) (Err fault) number same is such added = added.1 ∙ same

-- two things are so where a call answered Ok
pub if_ok_both : {A E : Type 0} (r : Result A E) (P Q : A → Type 0) → IfOk r P → IfOk r Q → IfOk r (λ x. P x × Q x)
if_ok_both (Ok x) P Q p q = (p, q)
if_ok_both (Err e) P Q p q = tt

-- why an opening failed is what the outside answered to it
pub refused : {F : Type 0} (opened : Result (Opened F) Reason) (result : Result ℕ DeskFault) (number : ℕ) (said : Option Reason)
    (P : Reason → Type 0) (Q : Opened F → Type 0) (R : Type 0)
    → IfErr opened P → IfErr opened (λ reason. said ≡ Some reason)
    → MatchResult opened (λ (one : Opened F). (result ≡ Ok number) × Q one) (λ _. (result ≡ Err Failed) × R)
    → result ≡ Err Failed → IfSome said P
refused (Ok one) result number said P Q R is told added failed = let no : ⊥ = differ number (sym added.0 ∙ failed) in absurd no
  where
    differ : (number : ℕ) → Ok number ≡ Err Failed → ⊥
    differ number e = cc
refused (Err reason) result number said P Q R is told added failed = subst (λ (said : Option Reason). IfSome said P) (sym told) is

-- where the outside was asked, want of memory isn't what was answered
pub told : {F : Type 0} (opened : Result (Opened F) Reason) (result : Result ℕ DeskFault) (number : ℕ) (Q : Opened F → Type 0) (R : Type 0)
    → MatchResult opened (λ (one : Opened F). (result ≡ Ok number) × Q one) (λ _. (result ≡ Err Failed) × R)
    → result ≡ Err NoMemory → ⊥
told (Ok one) result number Q R added none = let same : Ok number ≡ Err NoMemory = sym added.0 ∙ none in cc
told (Err reason) result number Q R added none = let same : Err Failed ≡ Err NoMemory = sym added.0 ∙ none in cc
