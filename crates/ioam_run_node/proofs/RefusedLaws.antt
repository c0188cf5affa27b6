-- What a run owes whose domain or readings are refused.
use Rattle.std.proofs.Common.{◌≡◌, ◌≢◌, ℕ, zero, suc, ◌+◌, ◌≤◌, Bool, IsTrue, List, [], ◌∷◌, ◌++◌, take, refl, sym, ◌∙◌, ap, subst, inl, append-nil, arith}
use Rattle.ioam_run_files.specs.Desks.{around}
use Rattle.ioam_run_files.specs.Failures.{AnswersFailures}
use Rattle.ioam_run_files.specs.Outcomes.{IsDone, IsBehindAll, IsSettled}
use Rattle.ioam_run_files.specs.Outcome.{Outcome}
use Rattle.ioam_run_files.specs.Outcome.TheVariants as outcome
use Rattle.ioam_desk.specs.Asked.{AsksFront, HaveSlots}
use Rattle.ioam_desk.specs.Desk.{Reading, Writing, Rose}
use Rattle.ioam_desk.specs.Kept.{KeepsInputs}
use Rattle.ioam_desk.proofs.KeptLaws.{KeepsOutputs-same}
use Rattle.ioam_run_files.specs.DomainFault.{DomainFault}
use Rattle.ioam_run_files.specs.Setting.{IsDomainFirst, Refuses}
use Rattle.ioam_run_files.specs.declared.setting.Refusal.{Refusal}
use Rattle.ioam_run_files.specs.declared.setting.Refusal.TheVariants as refusal
use Rattle.ioam_run_files.specs.Answer.{refused_as}
use Rattle.ioam_run_node.specs.Promise.{NodeNames, HasCause, HaveDiffered, IsUntouched, Leaves, Owes}

take_none : (n : ℕ) → take {A = List ℕ} n [] ≡ []
take_none zero = refl
take_none (suc n) = refl

-- two names were asked for, or a front of them, and so a front of them and a third
pub asks_wider : (old new : List (List ℕ)) (a b c : List ℕ) → AsksFront old new (a ∷ b ∷ []) → AsksFront old new (a ∷ b ∷ c ∷ [])
asks_wider old new a b c (zero, asked) = (0, asked)
asks_wider old new a b c (suc zero, asked) = (1, asked)
asks_wider old new a b c (suc (suc n), asked) = (2, asked ∙ ap (λ (rest : List (List ℕ)). old ++ a ∷ b ∷ rest) (take_none n))

module _ (tells : Bool) (files : NodeNames) (old_in new_in : Reading) (old : Writing) where
  abbrev Refused : Refusal → Type 0
  Refused why = Refuses old files.domain files.readings tells old_in new_in why

  cause : (why : Refusal) → Refused why → IsTrue tells → HasCause files old_in new_in old old (refused_as why)
  cause (refusal.Domain fault) refuses told = refuses told
  cause (refusal.Readings fault) refuses told = refuses told
  cause refusal.ReadFault refuses told = refuses
  cause refusal.NoMemory refuses told = tt

  leaves : (why : Refusal) → AsksFront old_in.side.asked new_in.side.asked (files.domain ∷ files.readings ∷ [])
      → Leaves files old_in new_in old old (refused_as why)
  leaves (refusal.Domain fault) asked = refl
  leaves (refusal.Readings fault) asked = refl
  leaves refusal.ReadFault asked = inl (inl asked, refl)
  leaves refusal.NoMemory asked = inl refl

  untouched : (why : Refusal) → AsksFront old_in.side.asked new_in.side.asked (files.domain ∷ files.readings ∷ [])
      → IsUntouched files old_in new_in old old (refused_as why)
  untouched (refusal.Domain fault) asked = (asked, refl)
  untouched (refusal.Readings fault) asked = (asked, refl)
  untouched refusal.ReadFault asked = tt
  untouched refusal.NoMemory asked = tt

  differed : (why : Refusal) → HaveDiffered files (refused_as why)
  differed (refusal.Domain fault) = tt
  differed (refusal.Readings fault) = tt
  differed refusal.ReadFault = tt
  differed refusal.NoMemory = tt

  read : (why : Refusal) → Refused why → refused_as why ≡ outcome.ReadFault → Rose old_in.side.faults new_in.side.faults
  read (refusal.Domain fault) refuses is = absurd (cc)
  read (refusal.Readings fault) refuses is = absurd (cc)
  read refusal.ReadFault refuses is = refuses
  read refusal.NoMemory refuses is = absurd (cc)

  write : (why : Refusal) → refused_as why ≡ outcome.WriteFault → ⊥
  write (refusal.Domain fault) is = absurd (cc)
  write (refusal.Readings fault) is = absurd (cc)
  write refusal.ReadFault is = absurd (cc)
  write refusal.NoMemory is = absurd (cc)

  usage : (why : Refusal) → refused_as why ≡ outcome.Usage → ⊥
  usage (refusal.Domain fault) is = absurd (cc)
  usage (refusal.Readings fault) is = absurd (cc)
  usage refusal.ReadFault is = absurd (cc)
  usage refusal.NoMemory is = absurd (cc)

  domain : (why : Refusal) (fault : DomainFault) → refused_as why ≡ outcome.Domain fault → why ≡ refusal.Domain fault
  domain (refusal.Domain other) fault is = cc
  domain (refusal.Readings other) fault is = absurd (cc)
  domain refusal.ReadFault fault is = absurd (cc)
  domain refusal.NoMemory fault is = absurd (cc)

  done : (why : Refusal) → IsDone (refused_as why) → ⊥
  done (refusal.Domain fault) so = so
  done (refusal.Readings fault) so = so
  done refusal.ReadFault so = so
  done refusal.NoMemory so = so

  all : (why : Refusal) → IsBehindAll ⊥ (refused_as why) → ⊥
  all (refusal.Domain fault) so = so
  all (refusal.Readings fault) so = so
  all refusal.ReadFault so = so
  all refusal.NoMemory so = so

  module _ (why : Refusal) (refuses : Refused why)
      (asked : AsksFront old_in.side.asked new_in.side.asked (files.domain ∷ files.readings ∷ []))
      (first : (fault : DomainFault) → why ≡ refusal.Domain fault → AsksFront old_in.side.asked new_in.side.asked (files.domain ∷ []))
      (few : new_in.side.slots ≤ old_in.side.slots + 2) (kept : KeepsInputs old_in new_in)
      (turn : IsDomainFirst old files.domain files.readings tells old_in new_in) where
    owes : Owes tells files old_in new_in old old (refused_as why)
    owes = record {
      read_fault = read why refuses;
      write_fault = λ is. absurd (write why is);
      usage = usage why;
      differed = differed why;
      cause = cause why refuses;
      leaves = λ told. leaves why asked;
      asks = record {
        front_in = asks_wider old_in.side.asked new_in.side.asked files.domain files.readings files.input asked;
        front_out = (0, sym (append-nil old.side.asked));
        all_in = λ so. absurd (all why so);
        all_out = λ so. absurd (all why so);
        untouched = untouched why asked;
        domain_first = λ fault is. first fault (domain why fault is);
        in_turn = record { domain_first = turn; setting_first = inl asked };
        no_output = λ few. refl;
        of_domain = inl ((asked, refl), (why, refl));
      };
      unread = λ told unopened opened. absurd (omega (arith, opened, few));
      drained = λ so told. absurd (done why so);
      kept_in = kept;
      kept_out = λ told. KeepsOutputs-same old old refl;
    }

    pub refused_owes : (new : Writing) (answer : Outcome) → new ≡ old → answer ≡ refused_as why → Owes tells files old_in new_in old new answer
    refused_owes new answer same is =
        let P : Writing → Type 0 = λ w. Owes tells files old_in new_in old w answer in
        let Q : Outcome → Type 0 = λ a. Owes tells files old_in new_in old old a in
        subst P (sym same) (subst Q (sym is) owes)

-- what failed before it is answered
pub refused_failures : (tells : Bool) (old_in new_in : Reading) (old new : Writing) (why : Refusal) (answer : Outcome) → answer ≡ refused_as why
    → (refused_as why ≢ outcome.ReadFault → HaveSlots old_in.side new_in.side)
    → (IsSettled (refused_as why) → new_in.side.faults ≡ old_in.side.faults) → new ≡ old → AnswersFailures (around tells old_in new_in old new) answer
refused_failures tells old_in new_in old new why answer is opens settled same =
    let P : Outcome → Type 0 = λ a. IsSettled a → new_in.side.faults ≡ old_in.side.faults in
    let Q : Outcome → Type 0 = λ a. a ≢ outcome.ReadFault → HaveSlots old_in.side new_in.side in
    record { opens = subst Q (sym is) opens; reads = subst P (sym is) settled; writes = λ other. ap (λ (w : Writing). w.side.faults) same }
