-- What a run promises for each of its answers: where it isn't set, and where its traffic ended.
use Rattle.std.proofs.Common.{◌≡◌, ◌≢◌, ℕ, ◌+◌, ◌<◌, ◌⊎◌, Bool, IsTrue, List, [], ◌∷◌, ◌++◌, length, refl, sym, ◌∙◌, ap, subst, inl, inr, ⊎_elim, append_assoc, arith}
use Rattle.ioam_clock.specs.declared.sample.Sample.{Sample}
use Rattle.ioam_desk.specs.Asked.{AsksFront, HaveSlots}
use Rattle.ioam_desk.specs.Desk.{Side, Reading, Writing, Rose, opened_each}
use Rattle.ioam_desk.specs.Kept.{KeepsInputs, KeepsOutputs}
use Rattle.ioam_desk.specs.Unread.{Unread}
use Rattle.ioam_desk.proofs.AskedLaws.{HaveSlots-each, HaveSlots-then}
use Rattle.ioam_desk.proofs.KeptLaws.{KeepsInputs-then, KeepsOutputs-same}
use Rattle.ioam_run_traffic.specs.Merging.{AreUnread, EndsKept, start_of}
use Rattle.ioam_desk_outputs.specs.Names.{AreApart}
use Rattle.ioam_run_files.specs.Desks.{around}
use Rattle.ioam_run_files.specs.Failures.{AnswersFailures}
use Rattle.ioam_run_files.specs.Outcomes.{IsDone, IsBehindAll, IsSettled}
use Rattle.ioam_run_files.specs.Outcome.{Outcome}
use Rattle.ioam_run_files.specs.Outcome.TheVariants as outcome
use Rattle.ioam_run_files.specs.Setting.{IsDomainFirst, Refuses}
use Rattle.ioam_run_files.specs.declared.setting.Refusal.{Refusal}
use Rattle.ioam_run_files.specs.declared.setting.Refusal.TheVariants as refusal
use Rattle.ioam_run_files.proofs.SettingLaws.{in_turn}
use Rattle.ioam_topo.specs.declared.domain.Domain.{Domain}
use Rattle.ioam_run_files.specs.DomainFault.{DomainFault}
use Rattle.ioam_run_traffic.specs.Traffic.{AllOpened}
use Rattle.ioam_run_files.specs.Answer.{refused_as}
use Rattle.ioam_run_domain.specs.Ends.{Ends}
use Rattle.ioam_run_domain.specs.Promise.{RunNames, HasCause, Asked, Leaves, Asks, OpensNone, OpensInputs, AreDrained, IsBounded, IsRefusal, IsUnset, HaveDiffered, Keeps, IsSet, run_files, run_inputs, run_outputs}
use Rattle.ioam_run_domain.proofs.AskedLaws.{HasCause-asked}
use Rattle.ioam_run_domain.proofs.BoundLaws.{Leaves-bounded}
use Rattle.ioam_run_domain.proofs.EndsLaws.{same_faults, Ends-cause, Ends-differed, Ends-leaves, Ends-says, Ends-drained, refused_unset, refused_differed, refused_domain, asks_more, asks_both, asks_none, refused_cause, refused_leaves, refused_read, refused_other, refused_done}

-- the domain or the readings are refused
module _ (opens tells : Bool) (files : RunNames) (old_in new_in : Reading) (old new : Writing) (why : Refusal) (answer : Outcome)
    (refuses : Refuses old files.domain files.readings tells old_in new_in why)
    (settled : IsSettled (refused_as why) → new_in.side.faults ≡ old_in.side.faults)
    (slots : refused_as why ≢ outcome.ReadFault → HaveSlots old_in.side new_in.side)
    (asked : AsksFront old_in.side.asked new_in.side.asked (files.domain ∷ files.readings ∷ []))
    (first : (fault : DomainFault) → why ≡ refusal.Domain fault → AsksFront old_in.side.asked new_in.side.asked (files.domain ∷ []))
    (turn : IsDomainFirst old files.domain files.readings tells old_in new_in)
    (same : new ≡ old) (is : answer ≡ refused_as why) (kept : KeepsInputs old_in new_in) where
  refused-read_fault : answer ≡ outcome.ReadFault → Rose old_in.side.faults new_in.side.faults
  refused-read_fault read = refused_read opens tells files old_in new_in old why refuses (sym is ∙ read)

  refused-write_fault : answer ≡ outcome.WriteFault → Rose old.side.faults new.side.faults
  refused-write_fault write = absurd ((refused_other opens tells files old_in new_in old why).0 (sym is ∙ write))

  refused-usage : answer ≡ outcome.Usage → ⊥
  refused-usage usage = (refused_other opens tells files old_in new_in old why).1 (sym is ∙ usage)

  refused-cause : IsTrue tells → HasCause files old_in new_in old new answer
  refused-cause told =
      let P : Writing → Type 0 = λ w. HasCause files old_in new_in old w answer in
      let Q : Outcome → Type 0 = λ a. HasCause files old_in new_in old old a in
      subst P (sym same) (subst Q (sym is) (refused_cause opens tells files old_in new_in old why refuses told))

  refused-leaves : Leaves opens files old_in new_in old new answer
  refused-leaves =
      let P : Writing → Type 0 = λ w. Leaves opens files old_in new_in old w answer in
      let Q : Outcome → Type 0 = λ a. Leaves opens files old_in new_in old old a in
      subst P (sym same) (subst Q (sym is) (refused_leaves opens tells files old_in new_in old why asked))

  refused-exact : (ask : Outcome) → IsTrue tells → Asked old files ask → (Rose old_in.side.faults new_in.side.faults → ⊥)
      → (Rose old.side.faults new.side.faults → ⊥) → (answer ≡ ask) ⊎ (answer ≡ outcome.NoMemory)
  refused-exact ask told asks reads writes = HasCause-asked old files old_in new_in new answer ask (refused-cause told) asks reads writes

  refused-bounded : IsBehindAll (old.side.slots < new.side.slots) answer → IsBounded opens files old_in new_in old new
  refused-bounded behind = Leaves-bounded opens files old_in new_in old new answer behind refused-leaves

  refused-drained : IsDone answer → AreDrained opens files old_in new_in old new
  refused-drained done = absurd (refused_done opens tells files old_in new_in old why (subst IsDone is done))

  refused-failures : AnswersFailures (around tells old_in new_in old new) answer
  refused-failures = record {
    opens = λ other. slots (λ read. other (is ∙ read));
    reads = λ decided. settled (subst IsSettled is decided);
    writes = λ other. ap (λ (w : Writing). w.side.faults) same;
  }

  pub refused-keeps : Keeps opens (around tells old_in new_in old new) files answer
  refused-keeps = record {
    read_fault = refused-read_fault;
    write_fault = refused-write_fault;
    usage = refused-usage;
    differed = subst (HaveDiffered files) (sym is) (refused_differed opens tells files old_in new_in old why);
    cause = refused-cause;
    leaves = λ told. refused-leaves;
    exact = refused-exact;
    domain_first = λ fault so. first fault (refused_domain opens tells files old_in new_in old why fault (sym is ∙ so));
    in_turn = record { domain_first = turn; setting_first = inl asked };
    asks = inl ((asked, same), subst IsUnset (sym is) (refused_unset opens tells files old_in new_in old why));
    no_output = λ early. same;
    untouched = λ refusal. (asked, same);
    drained = λ done told. refused-drained done;
    boundary = λ behind told. refused-bounded behind;
    failures = refused-failures;
    kept_in = kept;
    kept_out = λ told. KeepsOutputs-same old new same;
  }

no_read_usage : (opens tells : Bool) (files : RunNames) (domain : Domain) (readings : List (List Sample)) (mid_in new_in : Reading) (old new : Writing) (answer : Outcome)
    → Ends opens tells files domain readings mid_in new_in old new answer → answer ≡ outcome.Usage → ⊥
no_read_usage opens tells files domain readings mid_in new_in old new answer ends is =
    let P : Outcome → Type 0 = λ a. Ends opens tells files domain readings mid_in new_in old new a in
    subst P is ends

unwritten : (opens tells : Bool) (files : RunNames) (domain : Domain) (readings : List (List Sample)) (mid_in new_in : Reading) (old new : Writing) (answer : Outcome)
    → Ends opens tells files domain readings mid_in new_in old new answer → IsRefusal answer → (new_in ≡ mid_in) × (new ≡ old)
unwritten opens tells files domain readings mid_in new_in old new (outcome.Names name) ends refusal = (ends.1, ends.2)
unwritten opens tells files domain readings mid_in new_in old new (outcome.Domain fault) ends refusal = absurd ends
unwritten opens tells files domain readings mid_in new_in old new (outcome.Readings fault) ends refusal = absurd ends
unwritten opens tells files domain readings mid_in new_in old new outcome.Done ends refusal = absurd refusal
unwritten opens tells files domain readings mid_in new_in old new outcome.Usage ends refusal = absurd refusal
unwritten opens tells files domain readings mid_in new_in old new (outcome.Capture name at fault) ends refusal = absurd refusal
unwritten opens tells files domain readings mid_in new_in old new (outcome.Packets limit) ends refusal = absurd refusal
unwritten opens tells files domain readings mid_in new_in old new (outcome.Exports place fault) ends refusal = absurd refusal
unwritten opens tells files domain readings mid_in new_in old new (outcome.Ipfix place fault) ends refusal = absurd refusal
unwritten opens tells files domain readings mid_in new_in old new (outcome.Part which place fault) ends refusal = absurd refusal
unwritten opens tells files domain readings mid_in new_in old new (outcome.Records limit) ends refusal = absurd refusal
unwritten opens tells files domain readings mid_in new_in old new outcome.ReadFault ends refusal = absurd refusal
unwritten opens tells files domain readings mid_in new_in old new outcome.WriteFault ends refusal = absurd refusal
unwritten opens tells files domain readings mid_in new_in old new outcome.NoMemory ends refusal = absurd refusal

done_is : (answer : Outcome) → IsDone answer → answer ≡ outcome.Done
done_is outcome.Done done = refl
done_is outcome.Usage done = absurd done
done_is (outcome.Names name) done = absurd done
done_is (outcome.Domain fault) done = absurd done
done_is (outcome.Readings fault) done = absurd done
done_is (outcome.Capture name at fault) done = absurd done
done_is (outcome.Packets limit) done = absurd done
done_is (outcome.Exports place fault) done = absurd done
done_is (outcome.Ipfix place fault) done = absurd done
done_is (outcome.Part which place fault) done = absurd done
done_is (outcome.Records limit) done = absurd done
done_is outcome.ReadFault done = absurd done
done_is outcome.WriteFault done = absurd done
done_is outcome.NoMemory done = absurd done

-- the domain and the readings were read by two slots, and then its files were run
module _ (opens tells : Bool) (files : RunNames) (old_in mid_in new_in : Reading) (old mid new : Writing) (domain : Domain) (readings : List (List Sample))
    (answer : Outcome) (opened : mid_in.side ≡ opened_each old_in.side (files.domain ∷ files.readings ∷ [])) (same : mid ≡ old)
    (set : IsTrue tells → IsSet old files domain readings) (ended : Ends opens tells files domain readings mid_in new_in mid new answer) where
  ends : Ends opens tells files domain readings mid_in new_in old new answer
  ends = let P : Writing → Type 0 = λ w. Ends opens tells files domain readings mid_in new_in w new answer in subst P same ended

  ended-read_fault : answer ≡ outcome.ReadFault → Rose old_in.side.faults new_in.side.faults
  ended-read_fault is =
      let P : Outcome → Type 0 = λ a. Ends opens tells files domain readings mid_in new_in old new a in
      omega (arith, (subst P is ends).1.0, same_faults files old_in mid_in opened)

  ended-write_fault : answer ≡ outcome.WriteFault → Rose old.side.faults new.side.faults
  ended-write_fault is = let P : Outcome → Type 0 = λ a. Ends opens tells files domain readings mid_in new_in old new a in (subst P is ends).1.0

  ended-usage : answer ≡ outcome.Usage → ⊥
  ended-usage is = no_read_usage opens tells files domain readings mid_in new_in old new answer ends is

  ended-cause : IsTrue tells → HasCause files old_in new_in old new answer
  ended-cause told = Ends-cause files old_in mid_in opened opens tells new_in old new domain readings told (set told) answer ends

  ended-leaves : IsTrue tells → Leaves opens files old_in new_in old new answer
  ended-leaves told = Ends-leaves files old_in mid_in opened opens tells new_in old new domain readings told (set told) answer ends

  ended-exact : (ask : Outcome) → IsTrue tells → Asked old files ask → (Rose old_in.side.faults new_in.side.faults → ⊥)
      → (Rose old.side.faults new.side.faults → ⊥) → (answer ≡ ask) ⊎ (answer ≡ outcome.NoMemory)
  ended-exact ask told asks reads writes = HasCause-asked old files old_in new_in new answer ask (ended-cause told) asks reads writes

  ended-bounded : IsBehindAll (old.side.slots < new.side.slots) answer → IsTrue tells → IsBounded opens files old_in new_in old new
  ended-bounded behind told = Leaves-bounded opens files old_in new_in old new answer behind (ended-leaves told)

  ended-drained : (IsTrue tells → IsTrue (mid_in.ended old_in.side.slots) × IsTrue (mid_in.ended (old_in.side.slots + 1)))
      → EndsKept mid_in.side.slots mid_in new_in → IsDone answer → IsTrue tells → AreDrained opens files old_in new_in old new
  ended-drained both kept done told =
      let P : Outcome → Type 0 = λ a. Ends opens tells files domain readings mid_in new_in old new a in
      Ends-drained files old_in mid_in opened opens tells new_in old new domain readings told (set told) (both told).0 (both told).1 kept (subst P (done_is answer done) ends)

  both_asked : (names : List (List ℕ)) → AsksFront mid_in.side.asked new_in.side.asked names
      → AsksFront old_in.side.asked new_in.side.asked (files.domain ∷ files.readings ∷ names)
  both_asked names asks = asks_more old_in.side.asked mid_in.side.asked new_in.side.asked files.domain files.readings names
      (ap (λ (s : Side). s.asked) opened) asks

  -- the captures were opened behind DOMAIN and READINGS
  all_read : AllOpened mid_in.side new_in.side (run_inputs domain) → OpensInputs tells files old_in new_in old new domain
  all_read all = (
    all.0 ∙ ap (λ (s : Side). s.asked ++ run_inputs domain) opened
        ∙ append_assoc old_in.side.asked (files.domain ∷ files.readings ∷ []) (run_inputs domain),
    omega (arith, all.1, ap (λ (s : Side). s.slots) opened),
  )

  -- and nothing was read of them, counted from where DOMAIN is opened
  ended-unread : (IsTrue tells → new.side.slots < mid.side.slots + length (run_outputs files domain)
      → AreUnread (start_of mid_in.side.slots mid (run_inputs domain)) new_in)
      → IsTrue tells → new.side.slots < old.side.slots + length (run_outputs files domain)
      → AreUnread (start_of (old_in.side.slots + 2) old (run_inputs domain)) new_in
  ended-unread unread told few =
      let P : Writing → Type 0 = λ w. AreUnread (start_of mid_in.side.slots w (run_inputs domain)) new_in in
      let Q : ℕ → Type 0 = λ n. AreUnread (start_of n old (run_inputs domain)) new_in in
      subst Q (ap (λ (s : Side). s.slots) opened) (subst P same (unread told (omega (arith, few, ap (λ (w : Writing). w.side.slots) same))))

  none_asked : new_in ≡ mid_in → AsksFront old_in.side.asked new_in.side.asked (files.domain ∷ files.readings ∷ [])
  none_asked still = asks_both old_in.side.asked new_in.side.asked files.domain files.readings
      (ap (λ (r : Reading). r.side.asked) still ∙ ap (λ (s : Side). s.asked) opened)

  module _ (asked_in : (new_in ≡ mid_in) ⊎ (AreApart (run_files files domain) × AsksFront mid_in.side.asked new_in.side.asked (run_inputs domain)))
      (asked_out : (new ≡ mid) ⊎ (AreApart (run_files files domain) × AsksFront mid.side.asked new.side.asked (run_outputs files domain))) where
    front_in : AsksFront old_in.side.asked new_in.side.asked (files.domain ∷ files.readings ∷ run_inputs domain)
    front_in = both_asked (run_inputs domain)
        (⊎_elim (λ still. asks_none mid_in.side.asked new_in.side.asked (run_inputs domain) (ap (λ (r : Reading). r.side.asked) still)) (λ apart. apart.1) asked_in)

    front_out : AsksFront old.side.asked new.side.asked (run_outputs files domain)
    front_out = let P : Writing → Type 0 = λ w. AsksFront w.side.asked new.side.asked (run_outputs files domain) in
        subst P same (⊎_elim (λ still. asks_none mid.side.asked new.side.asked (run_outputs files domain) (ap (λ (w : Writing). w.side.asked) still)) (λ apart. apart.1) asked_out)

    ended-apart : OpensNone files old_in new_in old new ⊎ AreApart (run_files files domain)
    ended-apart = ⊎_elim
        (λ still. ⊎_elim (λ unwritten. inl (none_asked still, unwritten ∙ same)) (λ apart. inr apart.0) asked_out)
        (λ apart. inr apart.0) asked_in

    module _ (all_in : IsBehindAll ⊥ answer → AllOpened mid_in.side new_in.side (run_inputs domain))
        (all_out : IsBehindAll ⊥ answer → AreApart (run_files files domain) × (new.side.asked ≡ mid.side.asked ++ run_outputs files domain))
        (first : (new ≡ mid) ⊎ AllOpened mid_in.side new_in.side (run_inputs domain))
        (unread : IsTrue tells → new.side.slots < mid.side.slots + length (run_outputs files domain)
        → AreUnread (start_of mid_in.side.slots mid (run_inputs domain)) new_in) where
      ended-all_out : IsBehindAll ⊥ answer → new.side.asked ≡ old.side.asked ++ run_outputs files domain
      ended-all_out all = let P : Writing → Type 0 = λ w. new.side.asked ≡ w.side.asked ++ run_outputs files domain in subst P same (all_out all).1

      ended-asks : Asks tells files old_in new_in old new answer
      ended-asks = inr (
        domain,
        record {
          set = λ told. (readings, set told);
          says = Ends-says opens tells files domain readings mid_in new_in old new answer ends;
          apart = ended-apart;
          asked_in = front_in;
          asked_out = front_out;
          inputs_first = ⊎_elim (λ still. inl (still ∙ same)) (λ all. inr (all_read all)) first;
          unread = ended-unread unread;
          all_in = λ all. all_read (all_in all);
          all_out = ended-all_out;
        },
      )

  ended-no_output : (new ≡ mid) ⊎ AllOpened mid_in.side new_in.side (run_inputs domain) → new_in.side.slots < old_in.side.slots + 2 → new ≡ old
  ended-no_output first few = ⊎_elim (λ still. still ∙ same)
      (λ all. absurd (omega (arith, few, all.1, ap (λ (s : Side). s.slots) opened))) first

  both_kept : EndsKept mid_in.side.slots mid_in new_in → KeepsInputs mid_in new_in
  both_kept kept = record {
    left = λ k below. ap (λ (s : Unread). s.left) (kept k below);
    ended = λ k below. ap (λ (s : Unread). s.ended) (kept k below);
  }

  ended-kept_in : KeepsInputs old_in mid_in → EndsKept mid_in.side.slots mid_in new_in → KeepsInputs old_in new_in
  ended-kept_in first kept = KeepsInputs-then old_in mid_in new_in (omega (arith, ap (λ (s : Side). s.slots) opened)) first (both_kept kept)

  ended-kept_out : (IsTrue tells → KeepsOutputs mid new) → IsTrue tells → KeepsOutputs old new
  ended-kept_out kept told = let P : Writing → Type 0 = λ w. KeepsOutputs w new in subst P same (kept told)

  ended-untouched : IsRefusal answer → OpensNone files old_in new_in old new
  ended-untouched refusal = let none = unwritten opens tells files domain readings mid_in new_in old new answer ends refusal in (none_asked none.0, none.1)

  ended-failures : AnswersFailures (around tells mid_in new_in mid new) answer → AnswersFailures (around tells old_in new_in old new) answer
  ended-failures failures = record {
    opens = λ other. HaveSlots-then old_in.side mid_in.side new_in.side
        (HaveSlots-each old_in.side mid_in.side (files.domain ∷ files.readings ∷ []) opened) (failures.opens other);
    reads = λ settled. failures.reads settled ∙ ap (λ (s : Side). s.faults) opened;
    writes = λ other. failures.writes other ∙ ap (λ (w : Writing). w.side.faults) same;
  }

  module _ (both : IsTrue tells → IsTrue (mid_in.ended old_in.side.slots) × IsTrue (mid_in.ended (old_in.side.slots + 1)))
      (kept : EndsKept mid_in.side.slots mid_in new_in)
      (asked_in : (new_in ≡ mid_in) ⊎ (AreApart (run_files files domain) × AsksFront mid_in.side.asked new_in.side.asked (run_inputs domain)))
      (asked_out : (new ≡ mid) ⊎ (AreApart (run_files files domain) × AsksFront mid.side.asked new.side.asked (run_outputs files domain)))
      (all_in : IsBehindAll ⊥ answer → AllOpened mid_in.side new_in.side (run_inputs domain))
      (all_out : IsBehindAll ⊥ answer → AreApart (run_files files domain) × (new.side.asked ≡ mid.side.asked ++ run_outputs files domain))
      (first : (new ≡ mid) ⊎ AllOpened mid_in.side new_in.side (run_inputs domain))
      (unread : IsTrue tells → new.side.slots < mid.side.slots + length (run_outputs files domain)
      → AreUnread (start_of mid_in.side.slots mid (run_inputs domain)) new_in)
      (kept_in : KeepsInputs old_in mid_in) (kept_out : IsTrue tells → KeepsOutputs mid new)
      (failures : AnswersFailures (around tells mid_in new_in mid new) answer) where
    pub ended-keeps : Keeps opens (around tells old_in new_in old new) files answer
    ended-keeps = record {
      read_fault = ended-read_fault;
      write_fault = ended-write_fault;
      usage = ended-usage;
      differed = Ends-differed opens tells files domain readings mid_in new_in old new answer ends;
      cause = ended-cause;
      leaves = ended-leaves;
      exact = ended-exact;
      domain_first = λ fault so. absurd (subst (λ (a : Outcome). Ends opens tells files domain readings mid_in new_in old new a) so ends);
      in_turn = in_turn tells old_in mid_in new_in old files.domain files.readings domain readings set opened both (both_kept kept);
      asks = ended-asks asked_in asked_out all_in all_out first unread;
      no_output = ended-no_output first;
      untouched = ended-untouched;
      drained = ended-drained both kept;
      boundary = ended-bounded;
      failures = ended-failures failures;
      kept_in = ended-kept_in kept_in kept;
      kept_out = ended-kept_out kept_out;
    }
