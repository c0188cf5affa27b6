-- Laws of the two files that a run is set by: what the second one's reading says once the first was read.
use Rattle.std.proofs.Common.{◌≡◌, ℕ, suc, ◌+◌, ◌<◌, Bool, IsTrue, IsSomeAnd, Option, List, [], ◌∷◌, ◌++◌, take, Result, Ok, Err, MatchResult, sym, ◌∙◌, ap, subst, inr, append_assoc, arith}
use Rattle.ioam_clock.specs.Reading.{readings_of, node_names}
use Rattle.ioam_clock.specs.declared.sample.Sample.{Sample}
use Rattle.ioam_desk.specs.Asked.{AsksFront}
use Rattle.ioam_desk.specs.Desk.{Side, Reading, Writing, Rose, holds, opened_each, opened_side}
use Rattle.ioam_desk.specs.Kept.{KeepsInputs}
use Rattle.ioam_desk.specs.Whole.{ReadsWhole, FailsWhole}
use Rattle.ioam_desk.specs.declared.fault.WholeFault.{WholeFault}
use Rattle.ioam_desk.specs.declared.fault.WholeFault.TheVariants as whole
use Rattle.ioam_desk.proofs.KeptLaws.{KeepsInputs-but}
use Rattle.ioam_topo.specs.declared.domain.Domain.{Domain}
use Rattle.ioam_run_answer.specs.DomainFault.{DomainFault}
use Rattle.ioam_run_files.specs.Reads.{IsDomainRead, AreReadingsRead}
use Rattle.ioam_run_files.specs.Setting.{InTurn, IsDomainFirst, IsSetting, Refuses}
use Rattle.ioam_run_files.specs.declared.setting.Refusal.{Refusal}
use Rattle.ioam_run_files.specs.declared.setting.Refusal.TheVariants as refusal

-- the refusal of an answer is one only
pub same_refusal : {T : Type 0} {answer : Result T Refusal} {why first last : Refusal} → answer ≡ Err why → why ≡ first → answer ≡ Err last → first ≡ last
same_refusal is why_is so = cc

-- one name was asked for, and then perhaps the next
pub asks_next : (old mid new : Side) (first second : List ℕ) → mid ≡ opened_side old first
    → AsksFront mid.asked new.asked (second ∷ []) → AsksFront old.asked new.asked (first ∷ second ∷ [])
asks_next old mid new first second opened asks = (
  suc asks.0,
  asks.1 ∙ ap (λ (s : Side). s.asked ++ take asks.0 (second ∷ [])) opened
      ∙ append_assoc old.asked (first ∷ []) (take asks.0 (second ∷ [])),
)

module _ (tells : Bool) (old mid new : Reading) (desk next : Writing) (domain_file readings_file : List ℕ) (domain : Domain) where
  -- the domain was read, and the readings were refused
  pub refuses_next : IsDomainRead tells old mid (holds desk domain_file) (Ok domain) → mid.side ≡ opened_side old.side domain_file → next ≡ desk
      → (why : Refusal) → AreReadingsRead tells mid new (holds next readings_file) (node_names domain) (Err why)
      → Refuses desk domain_file readings_file tells old new why
  refuses_next read opened same (refusal.Domain fault) refused = absurd refused
  refuses_next read opened same (refusal.Readings fault) refused = λ told. record {
    domain = domain;
    has_domain = read told;
    faulty = subst (λ (w : Writing). IsSomeAnd (holds w readings_file) (λ octets. readings_of (node_names domain) octets ≡ Err fault)) same (refused told);
  }
  refuses_next read opened same refusal.ReadFault refused =
      subst (λ (s : Side). Rose s.faults new.side.faults) opened refused
  refuses_next read opened same refusal.NoMemory refused = tt

-- what was read to its end stays so
still_ended : (old new : Reading) (k : ℕ) → KeepsInputs old new → k < old.side.slots → IsTrue (old.ended k) → IsTrue (new.ended k)
still_ended old new k kept below ended = subst (λ (b : Bool). IsTrue b) (sym (kept.ended k below)) ended

module _ (tells : Bool) (old mid new : Reading) (desk : Writing) (domain_file readings_file : List ℕ) (domain : Domain) where
  -- the domain was read, and whatever came then
  pub domain_first : IsDomainRead tells old mid (holds desk domain_file) (Ok domain) → mid.side ≡ opened_side old.side domain_file
      → (IsTrue tells → IsTrue (mid.ended old.side.slots)) → KeepsInputs mid new → IsDomainFirst desk domain_file readings_file tells old new
  domain_first read opened ended kept = inr (λ told. (
    still_ended mid new old.side.slots kept (omega (arith, ap (λ (s : Side). s.slots) opened)) (ended told),
    (domain, read told),
  ))

  -- both were read
  pub in_turn : (samples : List (List Sample)) → (IsTrue tells → IsSetting desk domain_file readings_file domain samples)
      → mid.side ≡ opened_each old.side (domain_file ∷ readings_file ∷ [])
      → (IsTrue tells → IsTrue (mid.ended old.side.slots) × IsTrue (mid.ended (old.side.slots + 1))) → KeepsInputs mid new
      → InTurn desk domain_file readings_file tells old new
  in_turn samples setting opened ended kept = record {
    domain_first = inr (λ told. (
      still_ended mid new old.side.slots kept (omega (arith, ap (λ (s : Side). s.slots) opened)) (ended told).0,
      (domain, (setting told).has_domain),
    ));
    setting_first = inr (λ told. (
      still_ended mid new (old.side.slots + 1) kept (omega (arith, ap (λ (s : Side). s.slots) opened)) (ended told).1,
      (domain, samples, setting told),
    ));
  }

-- the readings' file has no fault of the domain file
pub none_of_domain : (tells : Bool) (mid new : Reading) (held : Option (List ℕ)) (names : List (List ℕ)) (why : Refusal) (fault : DomainFault)
    → AreReadingsRead tells mid new held names (Err why) → why ≡ refusal.Domain fault → ⊥
none_of_domain tells mid new held names why fault read is =
    subst (λ (reason : Refusal). AreReadingsRead tells mid new held names (Err reason)) is read

-- a file that was read whole, or could not be, left the other slots as they were
pub whole_keeps : {T : Type 0} (tells : Bool) (old new : Reading) (held : Option (List ℕ)) (name : List ℕ) (limit : ℕ) (octets_of : T → List ℕ) (r : Result T WholeFault)
    → MatchResult r (λ (x : T). ReadsWhole tells old new held name limit (octets_of x)) (FailsWhole tells old new held name limit) → KeepsInputs old new
whole_keeps tells old new held name limit octets_of (Ok x) reads = KeepsInputs-but old new old.side.slots (omega arith) reads.other_left reads.other_ended
whole_keeps tells old new held name limit octets_of (Err whole.Failed) fails = KeepsInputs-but old new old.side.slots (omega arith) fails.2.left fails.2.ended
whole_keeps tells old new held name limit octets_of (Err (whole.TooLong most)) fails = KeepsInputs-but old new old.side.slots (omega arith) fails.3.left fails.3.ended
whole_keeps tells old new held name limit octets_of (Err whole.NoMemory) fails = KeepsInputs-but old new old.side.slots (omega arith) fails.1.left fails.1.ended
