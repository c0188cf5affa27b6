-- What a run owes that opened no capture.
use Rattle.std.proofs.Common.{◌≡◌, ℕ, zero, suc, ◌+◌, ◌≤◌, Bool, IsTrue, List, [], ◌∷◌, ◌++◌, take, Err, refl, sym, ◌∙◌, ap, subst, inl, inr, append-nil, arith}
use Rattle.ioam_desk.specs.Asked.{AsksFront}
use Rattle.ioam_desk.specs.Desk.{Reading, Writing, Rose, holds}
use Rattle.ioam_desk.specs.Kept.{KeepsInputs}
use Rattle.ioam_desk.proofs.KeptLaws.{KeepsOutputs-same}
use Rattle.ioam_run_answer.specs.Outcomes.{IsDone, IsBehindAll}
use Rattle.ioam_run_answer.specs.declared.outcome.Outcome.{Outcome}
use Rattle.ioam_run_answer.specs.declared.outcome.Outcome.TheVariants as outcome
use Rattle.ioam_run_audit.specs.Ends.{AreUnread}
use Rattle.ioam_run_audit.specs.Promise.{AuditNames, HasCause, HasDomain, HaveDiffered, IsUnfit, IsUntouched, Leaves, Owes}
use Rattle.ioam_run_files.specs.Answer.{refused_as}
use Rattle.ioam_run_files.specs.Reads.{IsDomainRead}
use Rattle.ioam_run_files.specs.declared.setting.Refusal.{Refusal}
use Rattle.ioam_run_files.specs.declared.setting.Refusal.TheVariants as refusal
use Rattle.ioam_topo.specs.declared.domain.Domain.{Domain}

take_none : (n : ℕ) → take {A = List ℕ} n [] ≡ []
take_none zero = refl
take_none (suc n) = refl

-- one name was asked for, or none, and so a front of it and two more
pub asks_wider : (old new : List (List ℕ)) (a b c : List ℕ) → AsksFront old new (a ∷ []) → AsksFront old new (a ∷ b ∷ c ∷ [])
asks_wider old new a b c (zero, asked) = (0, asked)
asks_wider old new a b c (suc n, asked) = (1, asked ∙ ap (λ (rest : List (List ℕ)). old ++ a ∷ rest) (take_none n))

module _ (tells : Bool) (files : AuditNames) (old_in new_in : Reading) (old : Writing)
    (asked : AsksFront old_in.side.asked new_in.side.asked (files.domain ∷ [])) (few : new_in.side.slots ≤ old_in.side.slots + 1)
    (kept : KeepsInputs old_in new_in) where
  unread : AreUnread new_in (holds old files.before) (holds old files.after) (old_in.side.slots + 1) (old_in.side.slots + 2)
  unread = (λ opened. absurd (omega (arith, opened, few)), λ opened. absurd (omega (arith, opened, few)))

  -- no memory could be had
  pub none_owes : Owes tells files old_in new_in old old outcome.NoMemory
  none_owes = record {
    read_fault = λ is. absurd (cc);
    write_fault = λ is. absurd (cc);
    usage = λ is. absurd (cc);
    differed = tt;
    cause = λ told. tt;
    leaves = λ told. inl refl;
    asks = record {
      front_in = asks_wider old_in.side.asked new_in.side.asked files.domain files.before files.after asked;
      front_out = (0, sym (append-nil old.side.asked));
      all_in = λ all. absurd all;
      all_out = λ all. absurd all;
      untouched = tt;
      domain_first = λ fault is. absurd (cc);
      no_output = λ early. refl;
      of_domain = inl ((asked, refl), (refusal.NoMemory, refl));
    };
    unread = λ told none. unread;
    drained = λ done told. absurd done;
    kept_in = kept;
    kept_out = λ told. KeepsOutputs-same old old refl;
  }

  -- a name is refused
  pub names_owes : (domain : Domain) → (IsTrue tells → HasDomain files old domain) → (name : List ℕ) → IsUnfit files domain name
      → Owes tells files old_in new_in old old (outcome.Names name)
  names_owes domain has name unfit = record {
    read_fault = λ is. absurd (cc);
    write_fault = λ is. absurd (cc);
    usage = λ is. absurd (cc);
    differed = tt;
    cause = λ told. (domain, has told, unfit);
    leaves = λ told. refl;
    asks = record {
      front_in = asks_wider old_in.side.asked new_in.side.asked files.domain files.before files.after asked;
      front_out = (0, sym (append-nil old.side.asked));
      all_in = λ all. absurd all;
      all_out = λ all. absurd all;
      untouched = (asked, refl);
      domain_first = λ fault is. absurd (cc);
      no_output = λ early. refl;
      of_domain = inr (domain, record { set = has; says = unfit; fit = inl (asked, refl) });
    };
    unread = λ told none. unread;
    drained = λ done told. absurd done;
    kept_in = kept;
    kept_out = λ told. KeepsOutputs-same old old refl;
  }

  -- ---- DOMAIN is refused

  abbrev Refused : Refusal → Type 0
  Refused why = IsDomainRead tells old_in new_in (holds old files.domain) (Err why)

  cause : (why : Refusal) → Refused why → IsTrue tells → HasCause files old_in new_in old old (refused_as why)
  cause (refusal.Domain fault) refuses told = refuses told
  cause (refusal.Readings fault) refuses told = absurd refuses
  cause refusal.ReadFault refuses told = refuses
  cause refusal.NoMemory refuses told = tt

  leaves : (why : Refusal) → Refused why → Leaves files old_in new_in old old (refused_as why)
  leaves (refusal.Domain fault) refuses = refl
  leaves (refusal.Readings fault) refuses = absurd refuses
  leaves refusal.ReadFault refuses = inl (omega (arith, few), refl)
  leaves refusal.NoMemory refuses = inl refl

  untouched : (why : Refusal) → IsUntouched files old_in new_in old old (refused_as why)
  untouched (refusal.Domain fault) = (asked, refl)
  untouched (refusal.Readings fault) = tt
  untouched refusal.ReadFault = tt
  untouched refusal.NoMemory = tt

  differed : (why : Refusal) → Refused why → HaveDiffered files (refused_as why)
  differed (refusal.Domain fault) refuses = tt
  differed (refusal.Readings fault) refuses = absurd refuses
  differed refusal.ReadFault refuses = tt
  differed refusal.NoMemory refuses = tt

  read : (why : Refusal) → Refused why → refused_as why ≡ outcome.ReadFault → Rose old_in.side.faults new_in.side.faults
  read (refusal.Domain fault) refuses is = absurd (cc)
  read (refusal.Readings fault) refuses is = absurd (cc)
  read refusal.ReadFault refuses is = refuses
  read refusal.NoMemory refuses is = absurd (cc)

  write : (why : Refusal) → refused_as why ≡ outcome.WriteFault → ⊥
  write (refusal.Domain fault) is = absurd (cc)
  write (refusal.Readings fault) is = absurd (cc)
  write refusal.ReadFault is = absurd (cc)
  write refusal.NoMemory is = absurd (cc)

  usage : (why : Refusal) → refused_as why ≡ outcome.Usage → ⊥
  usage (refusal.Domain fault) is = absurd (cc)
  usage (refusal.Readings fault) is = absurd (cc)
  usage refusal.ReadFault is = absurd (cc)
  usage refusal.NoMemory is = absurd (cc)

  done : (why : Refusal) → IsDone (refused_as why) → ⊥
  done (refusal.Domain fault) so = so
  done (refusal.Readings fault) so = so
  done refusal.ReadFault so = so
  done refusal.NoMemory so = so

  all : (why : Refusal) → IsBehindAll ⊥ (refused_as why) → ⊥
  all (refusal.Domain fault) so = so
  all (refusal.Readings fault) so = so
  all refusal.ReadFault so = so
  all refusal.NoMemory so = so

  owes : (why : Refusal) → Refused why → Owes tells files old_in new_in old old (refused_as why)
  owes why refuses = record {
    read_fault = read why refuses;
    write_fault = λ is. absurd (write why is);
    usage = usage why;
    differed = differed why refuses;
    cause = cause why refuses;
    leaves = λ told. leaves why refuses;
    asks = record {
      front_in = asks_wider old_in.side.asked new_in.side.asked files.domain files.before files.after asked;
      front_out = (0, sym (append-nil old.side.asked));
      all_in = λ so. absurd (all why so);
      all_out = λ so. absurd (all why so);
      untouched = untouched why;
      domain_first = λ fault is. asked;
      no_output = λ early. refl;
      of_domain = inl ((asked, refl), (why, refl));
    };
    unread = λ told none. unread;
    drained = λ so told. absurd (done why so);
    kept_in = kept;
    kept_out = λ told. KeepsOutputs-same old old refl;
  }

  pub refused_owes : (why : Refusal) → Refused why → (new : Writing) (answer : Outcome) → new ≡ old → answer ≡ refused_as why
      → Owes tells files old_in new_in old new answer
  refused_owes why refuses new answer same is =
      let P : Writing → Type 0 = λ w. Owes tells files old_in new_in old w answer in
      let Q : Outcome → Type 0 = λ a. Owes tells files old_in new_in old old a in
      subst P (sym same) (subst Q (sym is) (owes why refuses))
