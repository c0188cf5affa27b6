-- From how a run ended whose domain and readings were read to what the whole run answers and leaves.
use Rattle.std.proofs.Common.{◌≡◌, ℕ, suc, ◌+◌, ◌-◌, ◌<◌, Bool, IsTrue, List, [], ◌∷◌, ◌++◌, length, refl, sym, ◌∙◌, ap, subst, inl, inr, take, append-nil, append_assoc, length-append, arith}
use Rattle.std.proofs.lemmas.Bool.{cases_lt}
use Rattle.std.proofs.lemmas.List.{length-map}
use Rattle.ioam_clock.specs.declared.sample.Sample.{Sample}
use Rattle.ioam_desk.specs.Asked.{AsksFront}
use Rattle.ioam_desk.specs.Desk.{Side, Reading, Writing, Rose, holds, opened_each}
use Rattle.ioam_desk.specs.Unread.{Unread}
use Rattle.ioam_desk_outputs.specs.Names.{AreApart, name_at}
use Rattle.ioam_run_traffic.specs.Merging.{EndsKept, PartsArrive, start_of}
use Rattle.ioam_run_traffic.specs.Merge.{Arrival}
use Rattle.ioam_run_traffic.specs.Turn.TheVariants as turn
use Rattle.ioam_run_files.specs.Outcome.{Outcome}
use Rattle.ioam_run_files.specs.Outcome.TheVariants as outcome
use Rattle.ioam_run_files.specs.Outcomes.{IsDone}
use Rattle.ioam_run_domain.proofs.ApartLaws.{apart-words}
use Rattle.ioam_run_files.specs.Answer.{refused_as}
use Rattle.ioam_run_files.specs.Names.{input_ports}
use Rattle.ioam_run_files.specs.Setting.{Refuses}
use Rattle.ioam_run_files.specs.declared.setting.Refusal.{Refusal}
use Rattle.ioam_run_files.specs.declared.setting.Refusal.TheVariants as refusal
use Rattle.ioam_topo.specs.Domain.{links, ports}
use Rattle.ioam_topo.specs.declared.domain.Domain.{Domain}
use Rattle.ioam_run_files.specs.DomainFault.{DomainFault}
use Rattle.ioam_run_traffic.specs.Traffic.{Course, HoldsAll, HoldsFronts, ArePassed, AreOpened, Arrive}
use Rattle.ioam_run_domain.specs.Ends.{Ends, begins}
use Rattle.ioam_run_domain.specs.Promise.{RunNames, HasCause, IsUnset, Says, HaveDiffered, HoldsCleanFronts, HoldsFiles, contents, Leaves, OfTraffic, AreDrained, IsSet, IsReady, run_files, run_inputs, run_outputs, word_files, course_for}
use Rattle.ioam_run_domain.proofs.FilesLaws.{files_held, fronts_held}

-- the two files were opened by two slots
module _ (files : RunNames) (old_in mid_in : Reading) (opened : mid_in.side ≡ opened_each old_in.side (files.domain ∷ files.readings ∷ [])) where
  pub same_faults : mid_in.side.faults ≡ old_in.side.faults
  same_faults = ap (λ (s : Side). s.faults) opened

  two_slots : mid_in.side.slots ≡ old_in.side.slots + 2
  two_slots = ap (λ (s : Side). s.slots) opened

  pub same_course : (opens : Bool) (old : Writing) (domain : Domain) (readings : List (List Sample))
      → begins opens files domain readings mid_in old ≡ course_for opens files old_in old domain readings
  same_course opens old domain readings = ap (λ (base : ℕ). record {
    opens = opens;
    domain = domain;
    readings = readings;
    ports = input_ports (ports domain);
    lanes = start_of base old (run_inputs domain);
    first = old.side.slots;
    names = run_outputs files domain;
  }) two_slots

  module _ (opens tells : Bool) (new_in : Reading) (old new : Writing) (domain : Domain) (readings : List (List Sample)) (told : IsTrue tells)
      (set : IsSet old files domain readings) where
    ready : AreApart (run_files files domain) → IsReady old files domain readings
    ready apart = record { set = set; apart = apart }

    of_traffic : (P : Course → Type 0) → AreApart (run_files files domain) → P (begins opens files domain readings mid_in old) → OfTraffic opens files old_in new_in old new P
    of_traffic P apart holds = (domain, readings, ready apart, subst P (same_course opens old domain readings) holds)

    pub Ends-cause : (answer : Outcome) → Ends opens tells files domain readings mid_in new_in old new answer → HasCause files old_in new_in old new answer
    Ends-cause outcome.Done ends =
        let holds = (ends.1 told).0 in
        (domain, readings, ready ends.0, record { taken = holds.taken; arrive = holds.are; few = holds.few })
    Ends-cause (outcome.Capture name at fault) ends =
        let holds = ends.1.2.1 told in
        (domain, readings, ready ends.0, (ends.1.0, ends.1.1, record { taken = holds.taken; arrive = holds.are; few = holds.few }))
    Ends-cause (outcome.Packets limit) ends =
        let passed = (ends.2 told).are in
        let more = (ends.2 told).taken in (
          domain,
          readings,
          ready ends.0,
          ends.1,
          record { taken = more ++ passed.next ∷ []; begin = passed.begin; many = omega (arith, passed.all, length-append more (passed.next ∷ [])) },
        )
    Ends-cause (outcome.Exports place fault) ends = absurd ends
    Ends-cause (outcome.Ipfix place fault) ends = absurd ends
    Ends-cause (outcome.Part which place fault) ends = absurd ends
    Ends-cause (outcome.Records limit) ends = absurd ends
    Ends-cause outcome.ReadFault ends = omega (arith, ends.1.0, same_faults)
    Ends-cause outcome.WriteFault ends = ends.1.0
    Ends-cause outcome.NoMemory ends = tt
    Ends-cause outcome.Usage ends = absurd ends
    Ends-cause (outcome.Names name) ends = (domain, readings, set, ends.0)
    Ends-cause (outcome.Domain fault) ends = absurd ends
    Ends-cause (outcome.Readings fault) ends = absurd ends

    all_held : (Are : Course → List Arrival → Type 0) → HoldsAll (begins opens files domain readings mid_in old) (Are (begins opens files domain readings mid_in old)) new
        → HoldsFiles opens files old_in new_in old new (begins opens files domain readings mid_in old) (Are (begins opens files domain readings mid_in old))
    all_held Are all = files_held opens files old_in new_in old new (begins opens files domain readings mid_in old) (Are (begins opens files domain readings mid_in old)) refl all

    clean_fronts : HoldsFronts (begins opens files domain readings mid_in old) old new → HoldsCleanFronts (begins opens files domain readings mid_in old) old new
    clean_fronts fronts = fronts_held files old new (begins opens files domain readings mid_in old) refl fronts

    pub Ends-leaves : (answer : Outcome) → Ends opens tells files domain readings mid_in new_in old new answer → Leaves opens files old_in new_in old new answer
    Ends-leaves outcome.Done ends = of_traffic (λ course. HoldsFiles opens files old_in new_in old new course (Arrive course turn.Over)) ends.0
        (all_held (λ course. Arrive course turn.Over) (ends.1 told).0)
    Ends-leaves (outcome.Capture name at fault) ends =
        of_traffic (λ course. (place : ℕ) × (name ≡ name_at (run_inputs course.domain) place)
        × HoldsFiles opens files old_in new_in old new course (Arrive course (turn.Broken place at fault))) ends.0
        (ends.1.0, ends.1.1, all_held (λ course. Arrive course (turn.Broken ends.1.0 at fault)) (ends.1.2.1 told))
    Ends-leaves (outcome.Packets limit) ends = of_traffic (λ course. HoldsFiles opens files old_in new_in old new course (ArePassed course)) ends.0
        (all_held (λ course. ArePassed course) (ends.2 told))
    Ends-leaves (outcome.Exports place fault) ends = absurd ends
    Ends-leaves (outcome.Ipfix place fault) ends = absurd ends
    Ends-leaves (outcome.Part which place fault) ends = absurd ends
    Ends-leaves (outcome.Records limit) ends = absurd ends
    Ends-leaves outcome.ReadFault ends = elim ends.1.1 [
      | inl early ↦ inl (inr (of_traffic (λ course. new_in.side.slots < course.lanes.base + length course.lanes.contents) ends.0 early.0), early.1)
      | inr late ↦ inr (of_traffic (λ course. AreOpened course new_in
          × HoldsFiles opens files old_in new_in old new course (PartsArrive course.lanes.contents new_in course.lanes.base)) ends.0
          (late.0, all_held (λ course. PartsArrive course.lanes.contents new_in course.lanes.base) (late.1 told)))
    ]
    Ends-leaves outcome.WriteFault ends = of_traffic (λ course. HoldsCleanFronts course old new) ends.0 (clean_fronts (ends.1.1 told))
    Ends-leaves outcome.NoMemory (inl same) = inl same
    Ends-leaves outcome.NoMemory (inr (apart, inl same)) = inl same
    Ends-leaves outcome.NoMemory (inr (apart, inr fronts)) = inr (of_traffic (λ course. HoldsCleanFronts course old new) apart (clean_fronts (fronts told)))
    Ends-leaves outcome.Usage ends = absurd ends
    Ends-leaves (outcome.Names name) ends = ends.2
    Ends-leaves (outcome.Domain fault) ends = absurd ends
    Ends-leaves (outcome.Readings fault) ends = absurd ends

    pub Ends-drained : IsTrue (mid_in.ended old_in.side.slots) → IsTrue (mid_in.ended (old_in.side.slots + 1)) → EndsKept mid_in.side.slots mid_in new_in
        → Ends opens tells files domain readings mid_in new_in old new outcome.Done → AreDrained opens files old_in new_in old new
    Ends-drained first second kept ends = (domain, readings, ready ends.0, λ k below. drained k below)
      where
        E : Reading → ℕ → Type 0
        E r n = IsTrue (r.ended n)

        early : (n : ℕ) → n < mid_in.side.slots → E mid_in n → E new_in n
        early n below was = subst (λ b. IsTrue b) (sym (ap (λ (s : Unread). s.ended) (kept n below))) was

        drained : (k : ℕ) → k < 2 + length (contents old files domain) → E new_in (old_in.side.slots + k)
        drained k below = elim (cases_lt k 1) [
          | inl none ↦ let at : old_in.side.slots ≡ old_in.side.slots + k = omega (arith, none) in
              subst (E new_in) at (early old_in.side.slots (omega (arith, two_slots)) first)
          | inr some ↦ elim (cases_lt k 2) [
            | inl one ↦ let at : old_in.side.slots + 1 ≡ old_in.side.slots + k = omega (arith, some, one) in
                subst (E new_in) at (early (old_in.side.slots + 1) (omega (arith, two_slots)) second)
            | inr more ↦ let at : mid_in.side.slots + (k - 2) ≡ old_in.side.slots + k = omega (arith, more, two_slots) in
                subst (E new_in) at ((ends.1 told).1 (k - 2) (omega (arith, below, more)))
          ]
        ]

-- the names of the files differ where all files do
pub Ends-differed : (opens tells : Bool) (files : RunNames) (domain : Domain) (readings : List (List Sample)) (mid_in new_in : Reading) (old new : Writing) (answer : Outcome)
    → Ends opens tells files domain readings mid_in new_in old new answer → HaveDiffered files answer
Ends-differed opens tells files domain readings mid_in new_in old new outcome.Done ends = apart-words (ports domain) (links domain) (word_files files) ends.0
Ends-differed opens tells files domain readings mid_in new_in old new (outcome.Capture name at fault) ends = apart-words (ports domain) (links domain) (word_files files) ends.0
Ends-differed opens tells files domain readings mid_in new_in old new (outcome.Packets limit) ends = apart-words (ports domain) (links domain) (word_files files) ends.0
Ends-differed opens tells files domain readings mid_in new_in old new outcome.Usage ends = tt
Ends-differed opens tells files domain readings mid_in new_in old new (outcome.Domain fault) ends = tt
Ends-differed opens tells files domain readings mid_in new_in old new (outcome.Readings fault) ends = tt
Ends-differed opens tells files domain readings mid_in new_in old new (outcome.Names name) ends = tt
Ends-differed opens tells files domain readings mid_in new_in old new (outcome.Exports place fault) ends = absurd ends
Ends-differed opens tells files domain readings mid_in new_in old new (outcome.Ipfix place fault) ends = absurd ends
Ends-differed opens tells files domain readings mid_in new_in old new (outcome.Part which place fault) ends = absurd ends
Ends-differed opens tells files domain readings mid_in new_in old new (outcome.Records limit) ends = absurd ends
Ends-differed opens tells files domain readings mid_in new_in old new outcome.ReadFault ends = tt
Ends-differed opens tells files domain readings mid_in new_in old new outcome.WriteFault ends = tt
Ends-differed opens tells files domain readings mid_in new_in old new outcome.NoMemory ends = tt

-- what the answer says of the domain
pub Ends-says : (opens tells : Bool) (files : RunNames) (domain : Domain) (readings : List (List Sample)) (mid_in new_in : Reading) (old new : Writing) (answer : Outcome)
    → Ends opens tells files domain readings mid_in new_in old new answer → Says files domain answer
Ends-says opens tells files domain readings mid_in new_in old new (outcome.Names name) ends = ends.0
Ends-says opens tells files domain readings mid_in new_in old new (outcome.Capture name at fault) ends =
    (ends.0, (ends.1.0, omega (arith, ends.1.2.0, length-map (run_inputs domain) (holds old)), ends.1.1))
Ends-says opens tells files domain readings mid_in new_in old new (outcome.Packets limit) ends = (ends.0, ends.1, ends.3)
Ends-says opens tells files domain readings mid_in new_in old new outcome.Done ends = ends.0
Ends-says opens tells files domain readings mid_in new_in old new (outcome.Exports place fault) ends = absurd ends
Ends-says opens tells files domain readings mid_in new_in old new (outcome.Ipfix place fault) ends = absurd ends
Ends-says opens tells files domain readings mid_in new_in old new (outcome.Part which place fault) ends = absurd ends
Ends-says opens tells files domain readings mid_in new_in old new (outcome.Records limit) ends = absurd ends
Ends-says opens tells files domain readings mid_in new_in old new outcome.ReadFault ends = ends.0
Ends-says opens tells files domain readings mid_in new_in old new outcome.WriteFault ends = ends.0
Ends-says opens tells files domain readings mid_in new_in old new outcome.NoMemory ends = tt
Ends-says opens tells files domain readings mid_in new_in old new outcome.Usage ends = absurd ends
Ends-says opens tells files domain readings mid_in new_in old new (outcome.Domain fault) ends = absurd ends
Ends-says opens tells files domain readings mid_in new_in old new (outcome.Readings fault) ends = absurd ends

-- names that were asked for, and then others
pub asks_more : (start mid new : List (List ℕ)) (first second : List ℕ) (names : List (List ℕ)) → mid ≡ start ++ first ∷ second ∷ []
    → AsksFront mid new names → AsksFront start new (first ∷ second ∷ names)
asks_more start mid new first second names is (count, asked) =
    (suc (suc count), asked ∙ ap (λ (m : List (List ℕ)). m ++ take count names) is ∙ append_assoc start (first ∷ second ∷ []) (take count names))

-- both were asked for, and no others
pub asks_both : (start new : List (List ℕ)) (first second : List ℕ) → new ≡ start ++ first ∷ second ∷ [] → AsksFront start new (first ∷ second ∷ [])
asks_both start new first second is = (2, is)

-- none was asked for
pub asks_none : (start new names : List (List ℕ)) → new ≡ start → AsksFront start new names
asks_none start new names is = (0, is ∙ sym (append-nil start))

-- a refusal of what a run is set by
module _ (opens tells : Bool) (files : RunNames) (old_in new_in : Reading) (old : Writing) where
  pub refused_cause : (why : Refusal) → Refuses old files.domain files.readings tells old_in new_in why → IsTrue tells
      → HasCause files old_in new_in old old (refused_as why)
  refused_cause (refusal.Domain fault) refuses told = refuses told
  refused_cause (refusal.Readings fault) refuses told = refuses told
  refused_cause refusal.ReadFault refuses told = refuses
  refused_cause refusal.NoMemory refuses told = tt

  pub refused_leaves : (why : Refusal) → AsksFront old_in.side.asked new_in.side.asked (files.domain ∷ files.readings ∷ [])
      → Leaves opens files old_in new_in old old (refused_as why)
  refused_leaves (refusal.Domain fault) asked = refl
  refused_leaves (refusal.Readings fault) asked = refl
  refused_leaves refusal.ReadFault asked = inl (inl asked, refl)
  refused_leaves refusal.NoMemory asked = inl refl

  pub refused_differed : (why : Refusal) → HaveDiffered files (refused_as why)
  refused_differed (refusal.Domain fault) = tt
  refused_differed (refusal.Readings fault) = tt
  refused_differed refusal.ReadFault = tt
  refused_differed refusal.NoMemory = tt

  pub refused_domain : (why : Refusal) (fault : DomainFault) → refused_as why ≡ outcome.Domain fault → why ≡ refusal.Domain fault
  refused_domain (refusal.Domain other) fault is = cc
  refused_domain (refusal.Readings other) fault is = absurd (cc)
  refused_domain refusal.ReadFault fault is = absurd (cc)
  refused_domain refusal.NoMemory fault is = absurd (cc)

  pub refused_read : (why : Refusal) → Refuses old files.domain files.readings tells old_in new_in why
      → refused_as why ≡ outcome.ReadFault → Rose old_in.side.faults new_in.side.faults
  refused_read (refusal.Domain fault) refuses is = absurd (cc)
  refused_read (refusal.Readings fault) refuses is = absurd (cc)
  refused_read refusal.ReadFault refuses is = refuses
  refused_read refusal.NoMemory refuses is = absurd (cc)

  pub refused_other : (why : Refusal) → (refused_as why ≡ outcome.WriteFault → ⊥) × (refused_as why ≡ outcome.Usage → ⊥)
  refused_other (refusal.Domain fault) = (λ is. absurd (cc), λ is. absurd (cc))
  refused_other (refusal.Readings fault) = (λ is. absurd (cc), λ is. absurd (cc))
  refused_other refusal.ReadFault = (λ is. absurd (cc), λ is. absurd (cc))
  refused_other refusal.NoMemory = (λ is. absurd (cc), λ is. absurd (cc))

  pub refused_done : (why : Refusal) → IsDone (refused_as why) → ⊥
  refused_done (refusal.Domain fault) done = done
  refused_done (refusal.Readings fault) done = done
  refused_done refusal.ReadFault done = done
  refused_done refusal.NoMemory done = done

  pub refused_unset : (why : Refusal) → IsUnset (refused_as why)
  refused_unset (refusal.Domain fault) = tt
  refused_unset (refusal.Readings fault) = tt
  refused_unset refusal.ReadFault = tt
  refused_unset refusal.NoMemory = tt
