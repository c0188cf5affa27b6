-- At most one answer is asked for.
use Rattle.std.proofs.Common.{◌≡◌, ℕ, ◌⊎◌, List, refl, sym, ◌∙◌, ap, subst, inl, inr, arith}
use Rattle.std.specs.Prelude.{map}
use Rattle.ioam_clock.specs.declared.sample.Sample.{Sample}
use Rattle.ioam_desk.specs.Desk.{Reading, Writing, Rose, holds}
use Rattle.ioam_run_traffic.specs.Merging.{FilesArrive, FilesBegin}
use Rattle.ioam_desk_outputs.proofs.NamesLaws.{first_unique}
use Rattle.ioam_desk_outputs.specs.Names.{IsFirstRepeat, name_at}
use Rattle.ioam_run_traffic.specs.CapFault.{CapFault}
use Rattle.ioam_run_traffic.specs.Turn.{Turn}
use Rattle.ioam_run_traffic.specs.Turn.TheVariants.{Over, Broken}
use Rattle.ioam_run_files.specs.Outcome.{Outcome}
use Rattle.ioam_run_files.specs.Outcome.TheVariants as outcome
use Rattle.ioam_run_files.specs.File.{Agree}
use Rattle.ioam_topo.specs.declared.domain.Domain.{Domain}
use Rattle.ioam_run_domain.specs.Promise.{RunNames, HasCause, Asked, IsSet, IsReady, Arrives, Exceeds, contents, run_files, run_inputs}
use Rattle.ioam_run_domain.proofs.SameLaws.{FilesArrive-unique, FilesBegin-few, one_set, one_domain_fault, fault_or_set, fault_or_readings, one_readings_fault, readings_or_set, same_files, same_inputs}

broken_or_over : (place at : ℕ) (fault : CapFault) → Broken place at fault ≡ Over → ⊥
broken_or_over place at fault same = cc

broken_parts : (p q a b : ℕ) (f g : CapFault) → Broken p a f ≡ Broken q b g → (p ≡ q) × (a ≡ b) × (f ≡ g)
broken_parts p q a b f g same = (cc, cc, cc)

module _ (desk : Writing) (files : RunNames) where
  agree : (a b : Domain) (r s : List (List Sample)) → IsReady desk files a r → IsReady desk files b s → Agree a b
  agree a b r s x y = one_set desk files a b r s x.set y.set

  -- what the captures of the one hold is what those of the other do
  same_contents : (a b : Domain) → Agree a b → contents desk files a ≡ contents desk files b
  same_contents a b same = ap (λ (ns : List (List ℕ)). map (holds desk) ns) (same_inputs a b same)

  one_name : (a b : Domain) (r s : List (List Sample)) (name other : List ℕ) → IsSet desk files a r → IsSet desk files b s → (at place : ℕ) → IsFirstRepeat (run_files files a) at
      → IsFirstRepeat (run_files files b) place → name ≡ name_at (run_files files a) at → other ≡ name_at (run_files files b) place → name ≡ other
  one_name a b r s name other x y at place first second is also =
      let same = same_files files a b (one_set desk files a b r s x y) in
      let here = first_unique (run_files files b) at place (subst (λ ns. IsFirstRepeat ns at) same first) second in
      is ∙ ap (λ ns. name_at ns at) same ∙ ap (name_at (run_files files b)) here ∙ sym also

  named_or_ready : (a b : Domain) (r s : List (List Sample)) (at : ℕ) → IsSet desk files a r → IsFirstRepeat (run_files files a) at → IsReady desk files b s → ⊥
  named_or_ready a b r s at x first y =
      let same = same_files files a b (one_set desk files a b r s x y.set) in
      let there = subst (λ ns. IsFirstRepeat ns at) same first in
      y.apart at there.inside there.repeats

  one_turn : (a b : Domain) (r s : List (List Sample)) → IsReady desk files a r → IsReady desk files b s → (t u : Turn)
      → Arrives desk files a t → Arrives desk files b u → t ≡ u
  one_turn a b r s x y t u first second =
      let same = same_contents a b (agree a b r s x y) in
      (FilesArrive-unique (contents desk files b) first.taken t second.taken u
      (subst (λ cs. FilesArrive cs first.taken t) same first.arrive) second.arrive).1

  exceeds_or_arrives : (a b : Domain) (r s : List (List Sample)) → IsReady desk files a r → IsReady desk files b s → (t : Turn) → Exceeds desk files a → Arrives desk files b t → ⊥
  exceeds_or_arrives a b r s x y t first second =
      let agrees = agree a b r s x y in
      let same = same_contents a b agrees in
      let few = FilesBegin-few (contents desk files b) first.taken second.taken t (subst (λ cs. FilesBegin cs first.taken) same first.begin) second.arrive in
      omega (arith, few, first.many, second.few, agrees.packets)

  one_capture : (a b : Domain) (r s : List (List Sample)) → IsReady desk files a r → IsReady desk files b s → (name other : List ℕ) (p q at place : ℕ) (fault cause : CapFault)
      → name ≡ name_at (run_inputs a) p → other ≡ name_at (run_inputs b) q → Arrives desk files a (Broken p at fault) → Arrives desk files b (Broken q place cause)
      → outcome.Capture name at fault ≡ outcome.Capture other place cause
  one_capture a b r s x y name other p q at place fault cause is also first second =
      let parts = broken_parts p q at place fault cause (one_turn a b r s x y (Broken p at fault) (Broken q place cause) first second) in
      let named : name ≡ other = is ∙ ap (λ ns. name_at ns p) (same_inputs a b (agree a b r s x y)) ∙ ap (name_at (run_inputs b)) parts.0 ∙ sym also in
      let there : at ≡ place = parts.1 in
      let why : fault ≡ cause = parts.2 in
      cc

  pub Asked-unique : (a b : Outcome) → Asked desk files a → Asked desk files b → a ≡ b
  Asked-unique outcome.Usage b x y = absurd x
  Asked-unique (outcome.Exports spot cut) b x y = absurd x
  Asked-unique (outcome.Ipfix spot cut) b x y = absurd x
  Asked-unique (outcome.Part which spot cut) b x y = absurd x
  Asked-unique (outcome.Records most) b x y = absurd x
  Asked-unique outcome.ReadFault b x y = absurd x
  Asked-unique outcome.WriteFault b x y = absurd x
  Asked-unique outcome.NoMemory b x y = absurd x
  Asked-unique (outcome.Domain f) outcome.Usage x y = absurd y
  Asked-unique (outcome.Domain f) (outcome.Exports spot cut) x y = absurd y
  Asked-unique (outcome.Domain f) (outcome.Ipfix spot cut) x y = absurd y
  Asked-unique (outcome.Domain f) (outcome.Part which spot cut) x y = absurd y
  Asked-unique (outcome.Domain f) (outcome.Records most) x y = absurd y
  Asked-unique (outcome.Domain f) outcome.ReadFault x y = absurd y
  Asked-unique (outcome.Domain f) outcome.WriteFault x y = absurd y
  Asked-unique (outcome.Domain f) outcome.NoMemory x y = absurd y
  Asked-unique (outcome.Domain f) (outcome.Domain g) x y = ap outcome.Domain (one_domain_fault desk files f g x y)
  Asked-unique (outcome.Domain f) (outcome.Readings g) x y = absurd (fault_or_readings desk files f g x y)
  Asked-unique (outcome.Domain f) (outcome.Names other) x y = absurd (fault_or_set desk files y.0 y.1 f x y.2)
  Asked-unique (outcome.Domain f) (outcome.Packets most) x y = absurd (fault_or_set desk files y.0 y.1 f x y.2.set)
  Asked-unique (outcome.Domain f) (outcome.Capture other place cause) x y = absurd (fault_or_set desk files y.0 y.1 f x y.2.set)
  Asked-unique (outcome.Domain f) outcome.Done x y = absurd (fault_or_set desk files y.0 y.1 f x y.2.set)
  Asked-unique (outcome.Readings f) outcome.Usage x y = absurd y
  Asked-unique (outcome.Readings f) (outcome.Exports spot cut) x y = absurd y
  Asked-unique (outcome.Readings f) (outcome.Ipfix spot cut) x y = absurd y
  Asked-unique (outcome.Readings f) (outcome.Part which spot cut) x y = absurd y
  Asked-unique (outcome.Readings f) (outcome.Records most) x y = absurd y
  Asked-unique (outcome.Readings f) outcome.ReadFault x y = absurd y
  Asked-unique (outcome.Readings f) outcome.WriteFault x y = absurd y
  Asked-unique (outcome.Readings f) outcome.NoMemory x y = absurd y
  Asked-unique (outcome.Readings f) (outcome.Domain g) x y = absurd (fault_or_readings desk files g f y x)
  Asked-unique (outcome.Readings f) (outcome.Readings g) x y = ap outcome.Readings (one_readings_fault desk files f g x y)
  Asked-unique (outcome.Readings f) (outcome.Names other) x y = absurd (readings_or_set desk files y.0 y.1 f x y.2)
  Asked-unique (outcome.Readings f) (outcome.Packets most) x y = absurd (readings_or_set desk files y.0 y.1 f x y.2.set)
  Asked-unique (outcome.Readings f) (outcome.Capture other place cause) x y = absurd (readings_or_set desk files y.0 y.1 f x y.2.set)
  Asked-unique (outcome.Readings f) outcome.Done x y = absurd (readings_or_set desk files y.0 y.1 f x y.2.set)
  Asked-unique (outcome.Names name) outcome.Usage x y = absurd y
  Asked-unique (outcome.Names name) (outcome.Exports spot cut) x y = absurd y
  Asked-unique (outcome.Names name) (outcome.Ipfix spot cut) x y = absurd y
  Asked-unique (outcome.Names name) (outcome.Part which spot cut) x y = absurd y
  Asked-unique (outcome.Names name) (outcome.Records most) x y = absurd y
  Asked-unique (outcome.Names name) outcome.ReadFault x y = absurd y
  Asked-unique (outcome.Names name) outcome.WriteFault x y = absurd y
  Asked-unique (outcome.Names name) outcome.NoMemory x y = absurd y
  Asked-unique (outcome.Names name) (outcome.Domain g) x y = absurd (fault_or_set desk files x.0 x.1 g y x.2)
  Asked-unique (outcome.Names name) (outcome.Readings g) x y = absurd (readings_or_set desk files x.0 x.1 g y x.2)
  Asked-unique (outcome.Names name) (outcome.Names other) x y = ap outcome.Names (one_name x.0 y.0 x.1 y.1 name other x.2 y.2 x.3.0 y.3.0 x.3.1 y.3.1 x.3.2 y.3.2)
  Asked-unique (outcome.Names name) (outcome.Packets most) x y = absurd (named_or_ready x.0 y.0 x.1 y.1 x.3.0 x.2 x.3.1 y.2)
  Asked-unique (outcome.Names name) (outcome.Capture other place cause) x y = absurd (named_or_ready x.0 y.0 x.1 y.1 x.3.0 x.2 x.3.1 y.2)
  Asked-unique (outcome.Names name) outcome.Done x y = absurd (named_or_ready x.0 y.0 x.1 y.1 x.3.0 x.2 x.3.1 y.2)
  Asked-unique (outcome.Packets limit) outcome.Usage x y = absurd y
  Asked-unique (outcome.Packets limit) (outcome.Exports spot cut) x y = absurd y
  Asked-unique (outcome.Packets limit) (outcome.Ipfix spot cut) x y = absurd y
  Asked-unique (outcome.Packets limit) (outcome.Part which spot cut) x y = absurd y
  Asked-unique (outcome.Packets limit) (outcome.Records most) x y = absurd y
  Asked-unique (outcome.Packets limit) outcome.ReadFault x y = absurd y
  Asked-unique (outcome.Packets limit) outcome.WriteFault x y = absurd y
  Asked-unique (outcome.Packets limit) outcome.NoMemory x y = absurd y
  Asked-unique (outcome.Packets limit) (outcome.Domain g) x y = absurd (fault_or_set desk files x.0 x.1 g y x.2.set)
  Asked-unique (outcome.Packets limit) (outcome.Readings g) x y = absurd (readings_or_set desk files x.0 x.1 g y x.2.set)
  Asked-unique (outcome.Packets limit) (outcome.Names other) x y = absurd (named_or_ready y.0 x.0 y.1 x.1 y.3.0 y.2 y.3.1 x.2)
  Asked-unique (outcome.Packets limit) (outcome.Packets most) x y = ap outcome.Packets (x.3 ∙ (agree x.0 y.0 x.1 y.1 x.2 y.2).packets ∙ sym y.3)
  Asked-unique (outcome.Packets limit) (outcome.Capture other place cause) x y = absurd (exceeds_or_arrives x.0 y.0 x.1 y.1 x.2 y.2 _ x.4 y.3.2)
  Asked-unique (outcome.Packets limit) outcome.Done x y = absurd (exceeds_or_arrives x.0 y.0 x.1 y.1 x.2 y.2 _ x.4 y.3)
  Asked-unique (outcome.Capture name at fault) outcome.Usage x y = absurd y
  Asked-unique (outcome.Capture name at fault) (outcome.Exports spot cut) x y = absurd y
  Asked-unique (outcome.Capture name at fault) (outcome.Ipfix spot cut) x y = absurd y
  Asked-unique (outcome.Capture name at fault) (outcome.Part which spot cut) x y = absurd y
  Asked-unique (outcome.Capture name at fault) (outcome.Records most) x y = absurd y
  Asked-unique (outcome.Capture name at fault) outcome.ReadFault x y = absurd y
  Asked-unique (outcome.Capture name at fault) outcome.WriteFault x y = absurd y
  Asked-unique (outcome.Capture name at fault) outcome.NoMemory x y = absurd y
  Asked-unique (outcome.Capture name at fault) (outcome.Domain g) x y = absurd (fault_or_set desk files x.0 x.1 g y x.2.set)
  Asked-unique (outcome.Capture name at fault) (outcome.Readings g) x y = absurd (readings_or_set desk files x.0 x.1 g y x.2.set)
  Asked-unique (outcome.Capture name at fault) (outcome.Names other) x y = absurd (named_or_ready y.0 x.0 y.1 x.1 y.3.0 y.2 y.3.1 x.2)
  Asked-unique (outcome.Capture name at fault) (outcome.Packets most) x y = absurd (exceeds_or_arrives y.0 x.0 y.1 x.1 y.2 x.2 _ y.4 x.3.2)
  Asked-unique (outcome.Capture name at fault) (outcome.Capture other place cause) x y = one_capture x.0 y.0 x.1 y.1 x.2 y.2 name other x.3.0 y.3.0 at place fault cause x.3.1 y.3.1 x.3.2 y.3.2
  Asked-unique (outcome.Capture name at fault) outcome.Done x y = absurd (broken_or_over _ _ _ (one_turn x.0 y.0 x.1 y.1 x.2 y.2 _ _ x.3.2 y.3))
  Asked-unique outcome.Done outcome.Usage x y = absurd y
  Asked-unique outcome.Done (outcome.Exports spot cut) x y = absurd y
  Asked-unique outcome.Done (outcome.Ipfix spot cut) x y = absurd y
  Asked-unique outcome.Done (outcome.Part which spot cut) x y = absurd y
  Asked-unique outcome.Done (outcome.Records most) x y = absurd y
  Asked-unique outcome.Done outcome.ReadFault x y = absurd y
  Asked-unique outcome.Done outcome.WriteFault x y = absurd y
  Asked-unique outcome.Done outcome.NoMemory x y = absurd y
  Asked-unique outcome.Done (outcome.Domain g) x y = absurd (fault_or_set desk files x.0 x.1 g y x.2.set)
  Asked-unique outcome.Done (outcome.Readings g) x y = absurd (readings_or_set desk files x.0 x.1 g y x.2.set)
  Asked-unique outcome.Done (outcome.Names other) x y = absurd (named_or_ready y.0 x.0 y.1 x.1 y.3.0 y.2 y.3.1 x.2)
  Asked-unique outcome.Done (outcome.Packets most) x y = absurd (exceeds_or_arrives y.0 x.0 y.1 x.1 y.2 x.2 _ y.4 x.3)
  Asked-unique outcome.Done (outcome.Capture other place cause) x y = absurd (broken_or_over _ _ _ (one_turn y.0 x.0 y.1 x.1 y.2 x.2 _ _ y.3.2 x.3))
  Asked-unique outcome.Done outcome.Done x y = refl

  -- what is asked for is answered, unless a call failed or no memory could be had
  pub HasCause-asked : (old_in new_in : Reading) (new : Writing) (answer asked : Outcome) → HasCause files old_in new_in desk new answer → Asked desk files asked
      → (Rose old_in.side.faults new_in.side.faults → ⊥) → (Rose desk.side.faults new.side.faults → ⊥)
      → (answer ≡ asked) ⊎ (answer ≡ outcome.NoMemory)
  HasCause-asked old_in new_in new outcome.Done asked cause asks reads writes = inl (Asked-unique outcome.Done asked cause asks)
  HasCause-asked old_in new_in new outcome.Usage asked cause asks reads writes = absurd cause
  HasCause-asked old_in new_in new (outcome.Names name) asked cause asks reads writes = inl (Asked-unique (outcome.Names name) asked cause asks)
  HasCause-asked old_in new_in new (outcome.Domain f) asked cause asks reads writes = inl (Asked-unique (outcome.Domain f) asked cause asks)
  HasCause-asked old_in new_in new (outcome.Readings f) asked cause asks reads writes = inl (Asked-unique (outcome.Readings f) asked cause asks)
  HasCause-asked old_in new_in new (outcome.Capture name at fault) asked cause asks reads writes = inl (Asked-unique (outcome.Capture name at fault) asked cause asks)
  HasCause-asked old_in new_in new (outcome.Packets limit) asked cause asks reads writes = inl (Asked-unique (outcome.Packets limit) asked cause asks)
  HasCause-asked old_in new_in new (outcome.Exports place fault) asked cause asks reads writes = absurd cause
  HasCause-asked old_in new_in new (outcome.Ipfix place fault) asked cause asks reads writes = absurd cause
  HasCause-asked old_in new_in new (outcome.Part which place fault) asked cause asks reads writes = absurd cause
  HasCause-asked old_in new_in new (outcome.Records limit) asked cause asks reads writes = absurd cause
  HasCause-asked old_in new_in new outcome.ReadFault asked cause asks reads writes = absurd (reads cause)
  HasCause-asked old_in new_in new outcome.WriteFault asked cause asks reads writes = absurd (writes cause)
  HasCause-asked old_in new_in new outcome.NoMemory asked cause asks reads writes = inr refl
