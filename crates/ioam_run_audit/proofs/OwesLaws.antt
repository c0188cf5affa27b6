-- What a run owes whose domain was read.
use Rattle.std.proofs.Common.{◌≡◌, ◌≢◌, ℕ, suc, ◌+◌, ◌<◌, ◌≤◌, Bool, IsTrue, List, [], ◌∷◌, ◌++◌, take, refl, sym, ap, ◌∙◌, subst, inl, inr, arith, append_assoc}
use Rattle.ioam_desk.specs.Asked.{AsksFront}
use Rattle.ioam_desk.specs.Desk.{Side, Reading, Writing, Rose, holds, opened_side}
use Rattle.ioam_desk.specs.Kept.{KeepsInputs}
use Rattle.ioam_desk.proofs.KeptLaws.{KeepsInputs-then}
use Rattle.ioam_pcap.specs.Ending.{Whole, Faulty}
use Rattle.ioam_run_answer.specs.Outcomes.{IsDone, IsBehindAll}
use Rattle.ioam_run_answer.specs.declared.outcome.Outcome.{Outcome}
use Rattle.ioam_run_answer.specs.declared.outcome.Outcome.TheVariants as outcome
use Rattle.ioam_run_stream.specs.Promise.{EndsSo}
use Rattle.ioam_topo.specs.declared.domain.Domain.{Domain}
use Rattle.ioam_run_answer.specs.DomainFault.{DomainFault}
use Rattle.ioam_run_audit.specs.Ends.{AreUnread, BehindBy, Ends, NoneBehind, Ran, RanAt, Start, Stays, Written, WrittenCut, answer_of, start_of}
use Rattle.ioam_run_audit.specs.Fit.{Place}
use Rattle.ioam_run_audit.specs.Cursors.{EndsBy}
use Rattle.ioam_run_audit.specs.Promise.{AreDrained, AreFit, AreTaken, AuditNames, HasCause, HasDomain, HaveDiffered, IsAt, IsCapture, IsReady, IsUnfit, IsUntouched, Leaves, Owes, Says, input_files}
use Rattle.ioam_run_audit.specs.declared.cursor.End.{End}
use Rattle.ioam_run_audit.specs.declared.cursor.End.TheVariants as end
use Rattle.ioam_run_audit.proofs.RanLaws.{ends_taken}
use Rattle.ioam_run_audit.proofs.RefusedLaws.{names_owes, none_owes}
use Rattle.ioam_run_audit.proofs.ReportsLaws.{cut_reports, is_input, is_long, no_verdict, some_reports, with_verdict}

-- what is owed of an answer by itself
record Core (tells : Bool) (files : AuditNames) (old_in new_in : Reading) (old new : Writing) (domain : Domain) (answer : Outcome) : Type 0 where
  read_fault : answer ≡ outcome.ReadFault → Rose old_in.side.faults new_in.side.faults
  write_fault : answer ≡ outcome.WriteFault → Rose old.side.faults new.side.faults
  usage : answer ≢ outcome.Usage
  differed : HaveDiffered files answer
  cause : IsTrue tells → HasCause files old_in new_in old new answer
  leaves : IsTrue tells → Leaves files old_in new_in old new answer
  untouched : IsUntouched files old_in new_in old new answer
  not_domain : (fault : DomainFault) → answer ≡ outcome.Domain fault → ⊥
  says : Says files domain answer
  drained : IsDone answer → IsTrue tells → AreDrained files old_in new_in old new

module _ (tells : Bool) (files : AuditNames) (old_in mid_in : Reading) (opened : mid_in.side ≡ opened_side old_in.side files.domain)
    (ended : IsTrue tells → IsTrue (mid_in.ended old_in.side.slots)) (kept : KeepsInputs old_in mid_in) where
  same_faults : mid_in.side.faults ≡ old_in.side.faults
  same_faults = ap (λ (s : Side). s.faults) opened

  one_slot : mid_in.side.slots ≡ old_in.side.slots + 1
  one_slot = ap (λ (s : Side). s.slots) opened

  next_slot : mid_in.side.slots + 1 ≡ old_in.side.slots + 2
  next_slot = omega (arith, one_slot)

  one_asked : mid_in.side.asked ≡ old_in.side.asked ++ files.domain ∷ []
  one_asked = ap (λ (s : Side). s.asked) opened

  front : AsksFront old_in.side.asked mid_in.side.asked (files.domain ∷ [])
  front = (1, one_asked)

  asks_all : (new : List (List ℕ)) → AsksFront mid_in.side.asked new (files.before ∷ files.after ∷ []) → AsksFront old_in.side.asked new (input_files files)
  asks_all new (count, asked) = (
    suc count,
    asked ∙ ap (λ (m : List (List ℕ)). m ++ take count (files.before ∷ files.after ∷ [])) one_asked
        ∙ append_assoc old_in.side.asked (files.domain ∷ []) (take count (files.before ∷ files.after ∷ [])),
  )

  -- nothing more was opened
  stays_owes : (old : Writing) (domain : Domain) → (IsTrue tells → HasDomain files old domain) → (new_in : Reading) (new : Writing) (answer : Outcome)
      → Stays tells files mid_in new_in old new (IsUnfit files domain) answer → Owes tells files old_in new_in old new answer
  stays_owes old domain has new_in new answer stays =
      let few : mid_in.side.slots ≤ old_in.side.slots + 1 = omega (arith, one_slot) in
      let P : Reading → Type 0 = λ r. Owes tells files old_in r old new answer in
      let Q : Writing → Type 0 = λ w. Owes tells files old_in mid_in old w answer in
      let R : Outcome → Type 0 = λ a. Owes tells files old_in mid_in old old a in
      subst P (sym stays.same_in) (subst Q (sym stays.same) (elim stays.why [
        | inl none ↦ subst R (sym none) (none_owes tells files old_in mid_in old front few kept)
        | inr named ↦ subst R (sym named.1) (names_owes tells files old_in mid_in old front few kept domain has named.0 named.2)
      ]))

  -- the captures were to be opened
  module _ (old new : Writing) (new_in : Reading) (place : Place) (ready : IsTrue tells → IsReady files old place) (at : IsAt files place) (answer : Outcome)
      (ran : Ran tells files mid_in new_in old new place answer) where
    abbrev start : Start
    start = start_of old files.before files.after files.report

    abbrev Its : Outcome → Type 0
    Its a = Core tells files old_in new_in old new place.domain a

    fit : AreFit files place.domain
    fit = (place, refl, at, ran.apart)

    core_none : (IsTrue tells → Leaves files old_in new_in old new outcome.NoMemory) → Its outcome.NoMemory
    core_none leaves = record {
      read_fault = λ is. absurd (cc);
      write_fault = λ is. absurd (cc);
      usage = λ is. absurd (cc);
      differed = tt;
      cause = λ told. tt;
      leaves = leaves;
      untouched = tt;
      not_domain = λ fault is. cc;
      says = tt;
      drained = λ done told. absurd done;
    }

    core_read : Rose mid_in.side.faults new_in.side.faults → (IsTrue tells → Leaves files old_in new_in old new outcome.ReadFault) → Its outcome.ReadFault
    core_read rose leaves =
        let risen : Rose old_in.side.faults new_in.side.faults = subst (λ n. Rose n new_in.side.faults) same_faults rose in
        record {
          read_fault = λ is. risen;
          write_fault = λ is. absurd (cc);
          usage = λ is. absurd (cc);
          differed = tt;
          cause = λ told. risen;
          leaves = leaves;
          untouched = tt;
          not_domain = λ fault is. cc;
          says = fit;
          drained = λ done told. absurd done;
        }

    core_write : Rose old.side.faults new.side.faults → (IsTrue tells → Leaves files old_in new_in old new outcome.WriteFault) → Its outcome.WriteFault
    core_write rose leaves = record {
      read_fault = λ is. absurd (cc);
      write_fault = λ is. rose;
      usage = λ is. absurd (cc);
      differed = tt;
      cause = λ told. rose;
      leaves = leaves;
      untouched = tt;
      not_domain = λ fault is. cc;
      says = fit;
      drained = λ done told. absurd done;
    }

    core_packets : (IsTrue tells → HasCause files old_in new_in old new (outcome.Packets 16777216))
        → (IsTrue tells → Leaves files old_in new_in old new (outcome.Packets 16777216)) → Its (outcome.Packets 16777216)
    core_packets cause leaves = record {
      read_fault = λ is. absurd (cc);
      write_fault = λ is. absurd (cc);
      usage = λ is. absurd (cc);
      differed = ran.apart;
      cause = cause;
      leaves = leaves;
      untouched = tt;
      not_domain = λ fault is. cc;
      says = (fit, refl);
      drained = λ done told. absurd done;
    }

    core_capture : (name : List ℕ) (at : ℕ) (fault : _) → IsCapture files name → (IsTrue tells → HasCause files old_in new_in old new (outcome.Capture name at fault))
        → (IsTrue tells → Leaves files old_in new_in old new (outcome.Capture name at fault)) → Its (outcome.Capture name at fault)
    core_capture name at fault which cause leaves = record {
      read_fault = λ is. absurd (cc);
      write_fault = λ is. absurd (cc);
      usage = λ is. absurd (cc);
      differed = (ran.apart, which);
      cause = cause;
      leaves = leaves;
      untouched = tt;
      not_domain = λ why is. cc;
      says = (fit, which);
      drained = λ done told. absurd done;
    }

    core_done : (IsTrue tells → HasCause files old_in new_in old new outcome.Done) → (IsTrue tells → Leaves files old_in new_in old new outcome.Done)
        → (IsTrue tells → AreDrained files old_in new_in old new) → Its outcome.Done
    core_done cause leaves drained = record {
      read_fault = λ is. absurd (cc);
      write_fault = λ is. absurd (cc);
      usage = λ is. absurd (cc);
      differed = ran.apart;
      cause = cause;
      leaves = leaves;
      untouched = tt;
      not_domain = λ fault is. cc;
      says = fit;
      drained = λ done. drained;
    }

    -- ---- both were read

    abbrev Text : End → End → Type 0
    Text how last = IsTrue tells → Written start place new (EndsBy how) (EndsBy last) (BehindBy how last)

    taken_text : (how last : End) → IsTrue tells → Written start place new (EndsBy how) (EndsBy last) NoneBehind
        → Leaves files old_in new_in old new (outcome.Packets 16777216)
    taken_text how last told written = no_verdict tells files old_in new_in old new place (ready told) (EndsBy how) (EndsBy last) AreTaken AreTaken
        (ends_taken how) (ends_taken last) written

    abbrev Known : End → End → Type 0
    Known how last = IsTrue tells → (how ≡ end.Open → ⊥) × (last ≡ end.Open → ⊥)

    closes_core : (how last : End) → Known how last → Text how last → (how ≡ end.Whole → last ≡ end.Whole → IsTrue tells → AreDrained files old_in new_in old new)
        → Its (answer_of files.before files.after how last)
    closes_core end.Whole end.Whole known text drained = core_done
        (λ told. let written = text told in (
          (place, ready told),
          is_input start.before Whole written.matched.xs written.matched.few_before written.matched.of_before,
          is_input start.after Whole written.matched.ys written.matched.few_after written.matched.of_after,
        ))
        (λ told. with_verdict tells files old_in new_in old new place (ready told) (EndsSo Whole) (EndsSo Whole) (text told))
        (drained refl refl)
    closes_core end.Whole end.Limit known text drained = core_packets
        (λ told. let written = text told in (
          (place, ready told),
          refl,
          inr (
            is_input start.before Whole written.matched.xs written.matched.few_before written.matched.of_before,
            is_long start.after written.matched.ys written.matched.of_after,
          ),
        ))
        (λ told. taken_text end.Whole end.Limit told (text told))
    closes_core end.Whole (end.Bad at fault) known text drained = core_capture files.after at fault (inr refl)
        (λ told. let written = text told in (
          (place, ready told),
          inr (
            refl,
            is_input start.before Whole written.matched.xs written.matched.few_before written.matched.of_before,
            is_input start.after (Faulty at fault) written.matched.ys written.matched.few_after written.matched.of_after,
          ),
        ))
        (λ told. taken_text end.Whole (end.Bad at fault) told (text told))
    closes_core end.Whole end.Open known text drained = core_done (λ told. absurd ((known told).1 refl)) (λ told. absurd ((known told).1 refl)) (λ told. absurd ((known told).1 refl))
    closes_core end.Limit last known text drained = core_packets
        (λ told. let written = text told in ((place, ready told), refl, inl (is_long start.before written.matched.xs written.matched.of_before)))
        (λ told. taken_text end.Limit last told (text told))
    closes_core (end.Bad at fault) last known text drained = core_capture files.before at fault (inl refl)
        (λ told. let written = text told in
        ((place, ready told), inl (refl, is_input start.before (Faulty at fault) written.matched.xs written.matched.few_before written.matched.of_before)))
        (λ told. taken_text (end.Bad at fault) last told (text told))
    closes_core end.Open end.Whole known text drained = core_done (λ told. absurd ((known told).0 refl)) (λ told. absurd ((known told).0 refl)) (λ told. absurd ((known told).0 refl))
    closes_core end.Open end.Open known text drained = core_done (λ told. absurd ((known told).0 refl)) (λ told. absurd ((known told).0 refl)) (λ told. absurd ((known told).0 refl))
    closes_core end.Open end.Limit known text drained = core_packets (λ told. absurd ((known told).0 refl)) (λ told. absurd ((known told).0 refl))
    closes_core end.Open (end.Bad at fault) known text drained = core_capture files.after at fault (inr refl) (λ told. absurd ((known told).0 refl)) (λ told. absurd ((known told).0 refl))

    -- ---- by how it ended

    kept_ended : (k : ℕ) → k < mid_in.side.slots → IsTrue (mid_in.ended k) → IsTrue (new_in.ended k)
    kept_ended k below so = subst (λ (b : Bool). IsTrue b) (sym (ran.runs.kept_in.ended k below)) so

    its_core : Its answer
    its_core = elim ran.runs.ends [
      | inl closes ↦ subst Its (sym closes.answer_is) (closes_core closes.how closes.last closes.known closes.written (λ whole too told. (
        kept_ended old_in.side.slots (omega (arith, one_slot)) (ended told),
        subst (λ k. IsTrue (new_in.ended k)) one_slot (closes.drained whole too told).0,
        subst (λ k. IsTrue (new_in.ended k)) next_slot (closes.drained whole too told).1,
      )))
      | inr other ↦ elim other [
        | inl cuts ↦ subst Its (sym cuts.answer_is) (core_read cuts.rose (λ told. inr (
          omega (arith, cuts.opened, one_slot),
          cut_reports tells files old_in new_in old new place (ready told) (old_in.side.slots + 1) (old_in.side.slots + 2)
              (subst (λ k. WrittenCut tells start place new_in (old_in.side.slots + 1) k new) next_slot
              (subst (λ k. WrittenCut tells start place new_in k (mid_in.side.slots + 1) new) one_slot (cuts.written told))),
        )))
        | inr more ↦ elim more [
          | inl misses ↦ subst Its (sym misses.answer_is) (core_read misses.rose (λ told. inl (omega (arith, misses.few, one_slot), misses.same)))
          | inr last ↦ elim last [
            | inl sticks ↦ subst Its (sym sticks.answer_is) (core_write sticks.rose (λ told. some_reports tells files old_in new_in old new place (ready told) (sticks.parts told)))
            | inr lacks ↦ subst Its (sym lacks.answer_is) (core_none (λ told. elim (lacks.parts told) [
              | inl same ↦ inl same
              | inr parts ↦ inr (some_reports tells files old_in new_in old new place (ready told) parts)
            ]))
          ]
        ]
      ]
    ]

    all_in : IsBehindAll ⊥ answer → new_in.side.asked ≡ old_in.side.asked ++ input_files files
    all_in all = (ran.runs.all all).0 ∙ ap (λ (m : List (List ℕ)). m ++ files.before ∷ files.after ∷ []) one_asked
        ∙ append_assoc old_in.side.asked (files.domain ∷ []) (files.before ∷ files.after ∷ [])

    no_output : new_in.side.slots < old_in.side.slots + 3 → new ≡ old
    no_output few = ran.runs.no_output (omega (arith, few, one_slot))

    unread : IsTrue tells → new.side.slots ≡ old.side.slots
        → AreUnread new_in (holds old files.before) (holds old files.after) (old_in.side.slots + 1) (old_in.side.slots + 2)
    unread told none = subst (λ k. AreUnread new_in (holds old files.before) (holds old files.after) (old_in.side.slots + 1) k) next_slot
        (subst (λ k. AreUnread new_in (holds old files.before) (holds old files.after) k (mid_in.side.slots + 1)) one_slot (ran.runs.unread told none))

    ran_owes : Owes tells files old_in new_in old new answer
    ran_owes = record {
      read_fault = its_core.read_fault;
      write_fault = its_core.write_fault;
      usage = its_core.usage;
      differed = its_core.differed;
      cause = its_core.cause;
      leaves = its_core.leaves;
      asks = record {
        front_in = asks_all new_in.side.asked ran.runs.asked_in;
        front_out = ran.runs.asked_out;
        all_in = all_in;
        all_out = λ all. (ran.runs.all all).1;
        untouched = its_core.untouched;
        domain_first = λ fault is. absurd (its_core.not_domain fault is);
        no_output = no_output;
        of_domain = inr (place.domain, record { set = λ told. (ready told).has_domain; says = its_core.says; fit = inr fit });
      };
      unread = unread;
      drained = its_core.drained;
      kept_in = KeepsInputs-then old_in mid_in new_in (omega (arith, one_slot)) kept ran.runs.kept_in;
      kept_out = ran.runs.kept_out;
    }

  at_owes : (old new : Writing) (new_in : Reading) (domain : Domain) → (IsTrue tells → HasDomain files old domain) → (answer : Outcome)
      → RanAt tells files mid_in new_in old new domain answer → Owes tells files old_in new_in old new answer
  at_owes old new new_in domain has answer at = ran_owes old new new_in at.place
      (λ told. record { has_domain = subst (HasDomain files old) (sym at.same_domain) (has told); at = at.at; apart = at.ran.apart }) at.at answer at.ran

  pub ends_owes : (old mid new : Writing) (new_in : Reading) (domain : Domain) → mid ≡ old → (IsTrue tells → HasDomain files old domain) → (answer : Outcome)
      → Ends tells files mid_in new_in mid new domain answer → Owes tells files old_in new_in old new answer
  ends_owes old mid new new_in domain same has answer ends =
      let P : Writing → Type 0 = λ w. Ends tells files mid_in new_in w new domain answer in
      elim (subst P same ends) [
        | inl stays ↦ stays_owes old domain has new_in new answer stays
        | inr at ↦ at_owes old new new_in domain has answer at
      ]
