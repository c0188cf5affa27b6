-- What a run owes whose domain and readings were read by two slots.
use Rattle.std.proofs.Common.{◌≡◌, ℕ, suc, ◌+◌, ◌<◌, Bool, IsTrue, IsSomeAnd, List, [], ◌∷◌, ◌++◌, length, take, Some, refl, sym, ◌∙◌, ap, subst, inl, inr, append-nil, append_assoc, arith}
use Rattle.ioam_run_files.specs.Outcomes.{IsDone}
use Rattle.ioam_run_files.specs.Outcome.{Outcome}
use Rattle.ioam_run_files.specs.Outcome.TheVariants as outcome
use Rattle.ioam_clock.specs.declared.sample.Sample.{Sample}
use Rattle.ioam_desk.specs.Asked.{AsksFront}
use Rattle.ioam_desk.specs.Desk.{Side, Reading, Writing, holds, opened_each}
use Rattle.ioam_desk.specs.Kept.{KeepsInputs}
use Rattle.ioam_desk.proofs.KeptLaws.{KeepsInputs-same, KeepsInputs-then, KeepsOutputs-same}
use Rattle.ioam_run_stream.specs.Promise.{HoldsAll, AreWhole}
use Rattle.ioam_run_stream.specs.Answers.{FileCause}
use Rattle.ioam_run_stream.specs.Promise as capture
use Rattle.ioam_run_files.specs.Setting.{IsSetting}
use Rattle.ioam_run_files.specs.declared.setting.Refusal.TheVariants as refusal
use Rattle.ioam_run_files.proofs.SettingLaws.{in_turn}
use Rattle.ioam_topo.specs.declared.domain.Domain.{Domain}
use Rattle.ioam_run_node.specs.Ends.{Stays, Ran, RanAt, Ends}
use Rattle.ioam_run_node.specs.NodeText.{NodeTexts}
use Rattle.ioam_run_node.specs.Promise.{NodeNames, AreFit, HasCause, HaveDiffered, IsReady, IsUnfit, IsUntouched, Leaves, Owes, Says, output_files}
use Rattle.ioam_run_node.specs.Seat.{Seat}
use Rattle.ioam_run_node.proofs.RefusedLaws.{asks_wider}

-- the third was asked for, or wasn't
asks_third : (start mid new : List (List ℕ)) (a b c : List ℕ) → mid ≡ start ++ a ∷ b ∷ [] → AsksFront mid new (c ∷ []) → AsksFront start new (a ∷ b ∷ c ∷ [])
asks_third start mid new a b c is (count, asked) =
    (suc (suc count), asked ∙ ap (λ (m : List (List ℕ)). m ++ take count (c ∷ [])) is ∙ append_assoc start (a ∷ b ∷ []) (take count (c ∷ [])))

done_is : (answer : Outcome) → IsDone answer → answer ≡ outcome.Done
done_is outcome.Done done = refl
done_is outcome.Usage done = absurd done
done_is (outcome.Names name) done = absurd done
done_is (outcome.Domain fault) done = absurd done
done_is (outcome.Readings fault) done = absurd done
done_is (outcome.Capture name at fault) done = absurd done
done_is (outcome.Packets limit) done = absurd done
done_is (outcome.Exports place fault) done = absurd done
done_is (outcome.Ipfix place fault) done = absurd done
done_is (outcome.Part which place fault) done = absurd done
done_is (outcome.Records limit) done = absurd done
done_is outcome.ReadFault done = absurd done
done_is outcome.WriteFault done = absurd done
done_is outcome.NoMemory done = absurd done

module _ (tells : Bool) (files : NodeNames) (old_in mid_in : Reading) (opened : mid_in.side ≡ opened_each old_in.side (files.domain ∷ files.readings ∷ []))
    (ended : IsTrue tells → IsTrue (mid_in.ended old_in.side.slots) × IsTrue (mid_in.ended (old_in.side.slots + 1))) (kept : KeepsInputs old_in mid_in) where
  same_faults : mid_in.side.faults ≡ old_in.side.faults
  same_faults = ap (λ (s : Side). s.faults) opened

  two_slots : mid_in.side.slots ≡ old_in.side.slots + 2
  two_slots = ap (λ (s : Side). s.slots) opened

  both_asked : mid_in.side.asked ≡ old_in.side.asked ++ files.domain ∷ files.readings ∷ []
  both_asked = ap (λ (s : Side). s.asked) opened

  both : AsksFront old_in.side.asked mid_in.side.asked (files.domain ∷ files.readings ∷ [])
  both = (2, both_asked)

  -- nothing more was opened
  module _ (old : Writing) (domain : Domain) (samples : List (List Sample))
      (setting : IsTrue tells → IsSetting old files.domain files.readings domain samples) where
    none_owes : Owes tells files old_in mid_in old old outcome.NoMemory
    none_owes = record {
      read_fault = λ is. absurd (cc);
      write_fault = λ is. absurd (cc);
      usage = λ is. absurd (cc);
      differed = tt;
      cause = λ told. tt;
      leaves = λ told. inl refl;
      asks = record {
        front_in = asks_wider old_in.side.asked mid_in.side.asked files.domain files.readings files.input both;
        front_out = (0, sym (append-nil old.side.asked));
        all_in = λ all. absurd all;
        all_out = λ all. absurd all;
        untouched = tt;
        domain_first = λ fault is. absurd (cc);
        in_turn = in_turn tells old_in mid_in mid_in old files.domain files.readings domain samples setting opened ended (KeepsInputs-same mid_in mid_in refl);
        no_output = λ few. refl;
        of_domain = inl ((both, refl), (refusal.NoMemory, refl));
      };
      unread = λ told unopened opened. absurd (omega (arith, opened, two_slots));
      drained = λ done told. absurd done;
      kept_in = kept;
      kept_out = λ told. KeepsOutputs-same old old refl;
    }

    names_owes : (name : List ℕ) → IsUnfit files domain name → Owes tells files old_in mid_in old old (outcome.Names name)
    names_owes name unfit = record {
      read_fault = λ is. absurd (cc);
      write_fault = λ is. absurd (cc);
      usage = λ is. absurd (cc);
      differed = tt;
      cause = λ told. (domain, samples, setting told, unfit);
      leaves = λ told. refl;
      asks = record {
        front_in = asks_wider old_in.side.asked mid_in.side.asked files.domain files.readings files.input both;
        front_out = (0, sym (append-nil old.side.asked));
        all_in = λ all. absurd all;
        all_out = λ all. absurd all;
        untouched = (both, refl);
        domain_first = λ fault is. absurd (cc);
        in_turn = in_turn tells old_in mid_in mid_in old files.domain files.readings domain samples setting opened ended (KeepsInputs-same mid_in mid_in refl);
        no_output = λ few. refl;
        of_domain = inr (domain, record { set = λ told. (samples, setting told); says = unfit; fit = inl (both, refl) });
      };
      unread = λ told unopened opened. absurd (omega (arith, opened, two_slots));
      drained = λ done told. absurd done;
      kept_in = kept;
      kept_out = λ told. KeepsOutputs-same old old refl;
    }

    stays_owes : (new_in : Reading) (new : Writing) (answer : Outcome) → Stays tells files mid_in new_in old new (IsUnfit files domain) answer
        → Owes tells files old_in new_in old new answer
    stays_owes new_in new answer stays =
        let P : Reading → Type 0 = λ r. Owes tells files old_in r old new answer in
        let Q : Writing → Type 0 = λ w. Owes tells files old_in mid_in old w answer in
        let R : Outcome → Type 0 = λ a. Owes tells files old_in mid_in old old a in
        subst P (sym stays.same_in) (subst Q (sym stays.same) (elim stays.why [
          | inl none ↦ subst R (sym none) none_owes
          | inr named ↦ subst R (sym named.1) (names_owes named.0 named.2)
        ]))

  -- IN was gathered
  module _ (old : Writing) (new_in : Reading) (new : Writing) (seat : Seat) (ready : IsTrue tells → IsReady files old seat) where
    cause : (answer : Outcome) → FileCause seat.domain.packets tells files.input mid_in old new_in new answer → IsTrue tells
        → HasCause files old_in new_in old new answer
    cause outcome.Done so told = (seat, ready told, so told)
    cause (outcome.Capture name at fault) so told = (so.0, (seat, ready told, so.1 told))
    cause (outcome.Packets limit) so told = (seat, ready told, so.0, so.1 told)
    cause (outcome.Exports place fault) so told = absurd so
    cause (outcome.Ipfix place fault) so told = absurd so
    cause (outcome.Part which place fault) so told = absurd so
    cause (outcome.Records limit) so told = absurd so
    cause outcome.ReadFault so told = omega (arith, so, same_faults)
    cause outcome.WriteFault so told = so
    cause outcome.NoMemory so told = tt
    cause outcome.Usage so told = absurd so
    cause (outcome.Names name) so told = absurd so
    cause (outcome.Domain fault) so told = absurd so
    cause (outcome.Readings fault) so told = absurd so

    leaves : (answer : Outcome) → FileCause seat.domain.packets tells files.input mid_in old new_in new answer → IsTrue tells
        → capture.Leaves seat.domain.packets (NodeTexts seat) (output_files files) files.input mid_in new_in old new answer
        → Leaves files old_in new_in old new answer
    leaves outcome.Done so told held = (seat, ready told, held)
    leaves (outcome.Capture name at fault) so told held = (seat, ready told, held)
    leaves (outcome.Packets limit) so told held = (seat, ready told, held)
    leaves (outcome.Exports place fault) so told held = absurd held
    leaves (outcome.Ipfix place fault) so told held = absurd held
    leaves (outcome.Part which place fault) so told held = absurd held
    leaves (outcome.Records limit) so told held = absurd held
    leaves outcome.ReadFault so told (inl early) = inl (inr (omega (arith, early.0, two_slots)), early.1)
    leaves outcome.ReadFault so told (inr late) =
        let P : ℕ → Type 0 = λ slot. IsSomeAnd (holds old files.input)
        (HoldsAll seat.domain.packets (NodeTexts seat) (output_files files) (AreWhole (new_in.left slot)) new) in
        inr (omega (arith, late.0, two_slots), (seat, ready told, subst P two_slots late.1))
    leaves outcome.WriteFault so told held = (seat, ready told, held)
    leaves outcome.NoMemory so told (inl same) = inl same
    leaves outcome.NoMemory so told (inr held) = inr (seat, ready told, held)
    leaves outcome.Usage so told held = absurd held
    leaves (outcome.Names name) so told held = held
    leaves (outcome.Domain fault) so told held = absurd held
    leaves (outcome.Readings fault) so told held = absurd held

  differed : (old : Writing) (new_in : Reading) (new : Writing) (seat : Seat) (answer : Outcome) → Ran tells files mid_in new_in old new seat answer
      → FileCause seat.domain.packets tells files.input mid_in old new_in new answer → HaveDiffered files answer
  differed old new_in new seat outcome.Done ran so = ran.apart
  differed old new_in new seat (outcome.Capture name at fault) ran so = (ran.apart, so.0)
  differed old new_in new seat (outcome.Packets limit) ran so = ran.apart
  differed old new_in new seat (outcome.Exports place fault) ran so = absurd so
  differed old new_in new seat (outcome.Ipfix place fault) ran so = absurd so
  differed old new_in new seat (outcome.Part which place fault) ran so = absurd so
  differed old new_in new seat (outcome.Records limit) ran so = absurd so
  differed old new_in new seat outcome.ReadFault ran so = tt
  differed old new_in new seat outcome.WriteFault ran so = tt
  differed old new_in new seat outcome.NoMemory ran so = tt
  differed old new_in new seat outcome.Usage ran so = tt
  differed old new_in new seat (outcome.Names name) ran so = tt
  differed old new_in new seat (outcome.Domain fault) ran so = tt
  differed old new_in new seat (outcome.Readings fault) ran so = tt

  says : (old : Writing) (new_in : Reading) (new : Writing) (seat : Seat) → AreFit files seat.domain → (answer : Outcome)
      → Ran tells files mid_in new_in old new seat answer → FileCause seat.domain.packets tells files.input mid_in old new_in new answer
      → Says files seat.domain answer
  says old new_in new seat fit outcome.Done ran so = fit
  says old new_in new seat fit (outcome.Capture name at fault) ran so = (fit, so.0)
  says old new_in new seat fit (outcome.Packets limit) ran so = (fit, so.0, omega (arith, so.0, ran.some), omega (arith, so.0, ran.most))
  says old new_in new seat fit outcome.ReadFault ran so = fit
  says old new_in new seat fit outcome.WriteFault ran so = fit
  says old new_in new seat fit outcome.NoMemory ran so = tt
  says old new_in new seat fit (outcome.Exports place fault) ran so = absurd so
  says old new_in new seat fit (outcome.Ipfix place fault) ran so = absurd so
  says old new_in new seat fit (outcome.Part which place fault) ran so = absurd so
  says old new_in new seat fit (outcome.Records limit) ran so = absurd so
  says old new_in new seat fit outcome.Usage ran so = absurd so
  says old new_in new seat fit (outcome.Names name) ran so = absurd so
  says old new_in new seat fit (outcome.Domain fault) ran so = absurd so
  says old new_in new seat fit (outcome.Readings fault) ran so = absurd so

  untouched : (old : Writing) (new_in : Reading) (new : Writing) (most : ℕ) (answer : Outcome)
      → FileCause most tells files.input mid_in old new_in new answer → IsUntouched files old_in new_in old new answer
  untouched old new_in new most outcome.Done so = tt
  untouched old new_in new most (outcome.Capture name at fault) so = tt
  untouched old new_in new most (outcome.Packets limit) so = tt
  untouched old new_in new most (outcome.Exports place fault) so = tt
  untouched old new_in new most (outcome.Ipfix place fault) so = tt
  untouched old new_in new most (outcome.Part which place fault) so = tt
  untouched old new_in new most (outcome.Records limit) so = tt
  untouched old new_in new most outcome.ReadFault so = tt
  untouched old new_in new most outcome.WriteFault so = tt
  untouched old new_in new most outcome.NoMemory so = tt
  untouched old new_in new most outcome.Usage so = tt
  untouched old new_in new most (outcome.Names name) so = absurd so
  untouched old new_in new most (outcome.Domain fault) so = absurd so
  untouched old new_in new most (outcome.Readings fault) so = absurd so

  module _ (old : Writing) (new_in : Reading) (new : Writing) (domain : Domain) (samples : List (List Sample))
      (setting : IsTrue tells → IsSetting old files.domain files.readings domain samples) (answer : Outcome)
      (at : RanAt tells files mid_in new_in old new domain samples answer) where
    ready : IsTrue tells → IsReady files old at.seat
    ready told = record {
      setting = let P : Domain → Type 0 = λ d. IsSetting old files.domain files.readings d at.seat.samples in
          let Q : List (List Sample) → Type 0 = λ s. IsSetting old files.domain files.readings domain s in
          subst P (sym at.same_domain) (subst Q (sym at.same_samples) (setting told));
      at = at.at;
      apart = at.ran.apart;
    }

    cause_for : (other : Outcome) → answer ≡ other → FileCause at.seat.domain.packets tells files.input mid_in old new_in new other
    cause_for other is = let P : Outcome → Type 0 = λ a. FileCause at.seat.domain.packets tells files.input mid_in old new_in new a in
        subst P is at.ran.gathered.cause

    kept_ended : (k : ℕ) → k < mid_in.side.slots → IsTrue (mid_in.ended k) → IsTrue (new_in.ended k)
    kept_ended k below so = subst (λ (b : Bool). IsTrue b) (sym (at.ran.gathered.kept_in.ended k below)) so

    drained : IsDone answer → IsTrue tells → IsTrue (new_in.ended old_in.side.slots) × IsTrue (new_in.ended (old_in.side.slots + 1))
        × IsTrue (new_in.ended (old_in.side.slots + 2))
    drained done told =
        let P : ℕ → Type 0 = λ k. IsTrue (new_in.ended k) in (
          kept_ended old_in.side.slots (omega (arith, two_slots)) (ended told).0,
          kept_ended (old_in.side.slots + 1) (omega (arith, two_slots)) (ended told).1,
          subst P two_slots (at.ran.gathered.drained done told),
        )

    unread : IsTrue tells → new.side.slots < old.side.slots + length (output_files files) → old_in.side.slots + 2 < new_in.side.slots
        → holds old files.input ≡ Some (new_in.left (old_in.side.slots + 2))
    unread told unopened opened =
        let P : ℕ → Type 0 = λ k. holds old files.input ≡ Some (new_in.left k) in
        subst P two_slots (at.ran.gathered.unread told unopened (omega (arith, opened, two_slots)))

    ran_owes : Owes tells files old_in new_in old new answer
    ran_owes = record {
      read_fault = λ is. omega (arith, cause_for outcome.ReadFault is, same_faults);
      write_fault = λ is. cause_for outcome.WriteFault is;
      usage = λ is. cause_for outcome.Usage is;
      differed = differed old new_in new at.seat answer at.ran at.ran.gathered.cause;
      cause = λ told. cause old new_in new at.seat ready answer at.ran.gathered.cause told;
      leaves = λ told. leaves old new_in new at.seat ready answer at.ran.gathered.cause told (at.ran.gathered.leaves told);
      asks = record {
        front_in = asks_third old_in.side.asked mid_in.side.asked new_in.side.asked files.domain files.readings files.input
            both_asked at.ran.gathered.asked_in;
        front_out = at.ran.gathered.asked_out;
        all_in = λ all. at.ran.gathered.all_in all ∙ ap (λ (names : List (List ℕ)). names ++ files.input ∷ []) both_asked
            ∙ append_assoc old_in.side.asked (files.domain ∷ files.readings ∷ []) (files.input ∷ []);
        all_out = at.ran.gathered.all_out;
        untouched = untouched old new_in new at.seat.domain.packets answer at.ran.gathered.cause;
        domain_first = λ fault is. absurd (cause_for (outcome.Domain fault) is);
        in_turn = in_turn tells old_in mid_in new_in old files.domain files.readings domain samples setting opened ended at.ran.gathered.kept_in;
        no_output = λ few. at.ran.gathered.no_output (omega (arith, few, two_slots));
        of_domain = inr (
          at.seat.domain,
          record {
            set = λ told. (at.seat.samples, (ready told).setting);
            says = says old new_in new at.seat (at.seat.node, at.seat.inward, at.at, at.ran.apart) answer at.ran at.ran.gathered.cause;
            fit = inr (at.seat.node, at.seat.inward, at.at, at.ran.apart);
          },
        );
      };
      unread = unread;
      drained = drained;
      kept_in = KeepsInputs-then old_in mid_in new_in (omega (arith, two_slots)) kept at.ran.gathered.kept_in;
      kept_out = at.ran.gathered.kept_out;
    }

  pub ends_owes : (old mid new : Writing) (new_in : Reading) (domain : Domain) (samples : List (List Sample)) → mid ≡ old
      → (IsTrue tells → IsSetting old files.domain files.readings domain samples) → (answer : Outcome)
      → Ends tells files mid_in new_in mid new domain samples answer → Owes tells files old_in new_in old new answer
  ends_owes old mid new new_in domain samples same setting answer ends =
      let P : Writing → Type 0 = λ w. Ends tells files mid_in new_in w new domain samples answer in
      elim (subst P same ends) [
        | inl stays ↦ stays_owes old domain samples setting new_in new answer stays
        | inr at ↦ ran_owes old new_in new domain samples setting answer at
      ]
