-- A file that is opened and read as a part: what was asked for and kept.
use Rattle.std.proofs.Common.{◌≡◌, ℕ, Bool, List, [], ◌∷◌, Option, Err, refl, sym, ap, ◌∙◌, inl, inr, append-nil, arith}
use Rattle.std.specs.Prelude.{Result}
use Rattle.ioam_desk.specs.Asked.{AsksFront}
use Rattle.ioam_desk.specs.Desk.{Reading, Side}
use Rattle.ioam_desk.specs.Intake as intake
use Rattle.ioam_desk.specs.Intake.{FailsFile, TakesFile}
use Rattle.ioam_desk.specs.Whole.{KeepsSlots}
use Rattle.ioam_desk.specs.declared.fault.DeskFault.{DeskFault}
use Rattle.ioam_desk.specs.declared.fault.DeskFault.TheVariants.{Failed, NoMemory}
use Rattle.ioam_desk.proofs.AskedLaws.{HaveSlots-one, HaveSlots-still}
use Rattle.ioam_desk.proofs.KeptLaws.{KeepsInputs-but, KeepsInputs-same}
use Rattle.ioam_run_part.specs.Unread.{AnswersReads, TriesFile, unread_by}
use Rattle.ioam_run_part.specs.declared.unread.Unread.{Unread}

pub none_asked : (old new : Reading) (names : List (List ℕ)) → new ≡ old → AsksFront old.side.asked new.side.asked names
none_asked old new names same = (0, ap (λ (r : Reading). r.side.asked) same ∙ sym (append-nil old.side.asked))

module _ (tells : Bool) (content : Option (List ℕ)) (name : List ℕ) (old new : Reading) where
  -- it was not opened
  pub tries_none : new ≡ old → TriesFile tells content name old new
  tries_none same =
      let slots = ap (λ (r : Reading). r.side.slots) same in
      record {
        asked = none_asked old new (name ∷ []) same;
        grew = omega (arith, slots);
        slots = omega (arith, slots);
        kept = KeepsInputs-same old new same;
        few = λ more. absurd (omega (arith, slots, more));
      }

  tries_kept : AsksFront old.side.asked new.side.asked (name ∷ []) → KeepsSlots old new → intake.ReadsFew tells 300000000 old new content → TriesFile tells content name old new
  tries_kept asked kept few = record {
    asked = asked;
    grew = elim kept.slots [ inl same ↦ omega (arith, same) | inr more ↦ omega (arith, more) ];
    slots = elim kept.slots [ inl same ↦ omega (arith, same) | inr more ↦ omega (arith, more) ];
    kept = KeepsInputs-but old new old.side.slots (omega arith) kept.left kept.ended;
    few = λ more told. few told more;
  }

  pub tries_failed : (why : DeskFault) → FailsFile old new name why → intake.ReadsFew tells 300000000 old new content → TriesFile tells content name old new
  tries_failed Failed fails few = tries_kept (1, fails.1) fails.2 few
  tries_failed NoMemory fails few =
      let asked : AsksFront old.side.asked new.side.asked (name ∷ []) = elim fails.0 [
        | inl same ↦ (0, ap (λ (s : Side). s.asked) same ∙ sym (append-nil old.side.asked))
        | inr opened ↦ (1, ap (λ (s : Side). s.asked) opened)
      ] in
      tries_kept asked fails.1 few

  pub answers_failed : {A : Type 0} (why : DeskFault) → FailsFile old new name why → AnswersReads {A = A} old new (Err (unread_by why))
  answers_failed Failed fails other = absurd (other refl)
  answers_failed NoMemory fails other = elim fails.0 [
    | inl same ↦ (HaveSlots-still old.side new.side same, ap (λ (s : Side). s.faults) same)
    | inr opened ↦ (HaveSlots-one old.side new.side name opened, ap (λ (s : Side). s.faults) opened)
  ]

  module _ {T : Type 0} (Stands : T → List ℕ → T → Type 0) (full : T → Bool) (begun now : T) (takes : TakesFile Stands full tells begun old new content name now) where
    pub tries_taken : intake.ReadsFew tells 300000000 old new content → TriesFile tells content name old new
    tries_taken few = tries_kept (1, ap (λ (s : Side). s.asked) takes.side)
        (record { left = takes.other_left; ended = takes.other_ended; slots = inr (ap (λ (s : Side). s.slots) takes.side) }) few

    pub answers_taken : {A : Type 0} (result : Result A Unread) → AnswersReads {A = A} old new result
    answers_taken result other = (HaveSlots-one old.side new.side name takes.side, ap (λ (s : Side). s.faults) takes.side)
