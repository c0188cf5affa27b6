-- What a run over a domain is set by: the domain file, and the readings of its nodes' clocks.
use Rattle.std.specs.Prelude.{◌≡◌, ℕ, ◌+◌, ◌⊎◌, ⊤, Bool, IsTrue, IsSomeAnd, List, [], ◌∷◌, Ok, Err}
use Rattle.ioam_clock.specs.Reading.{readings_of, node_names}
use Rattle.ioam_clock.specs.declared.fault.ReadingsFault.{ReadingsFault}
use Rattle.ioam_clock.specs.declared.sample.Sample.{Sample}
use Rattle.ioam_desk.specs.Asked.{AsksFront}
use Rattle.ioam_desk.specs.Desk.{Reading, Writing, Rose, holds}
use Rattle.ioam_topo_file.specs.File.{IsDomainOf, HasFault}
use Rattle.ioam_topo.specs.declared.domain.Domain.{Domain}
use Rattle.ioam_run_answer.specs.DomainFault.{DomainFault}
use Rattle.ioam_run_files.specs.declared.setting.Refusal.{Refusal}
use Rattle.ioam_run_files.specs.declared.setting.Refusal.TheVariants as refusal

module _ (desk : Writing) (domain_file readings_file : List ℕ) where
  -- the domain file holds this domain
  abbrev pub HasDomain : Domain → Type 0
  HasDomain domain = IsSomeAnd (holds desk domain_file) (λ octets. IsDomainOf octets domain)

  -- it is faulty, and this is its first fault
  abbrev pub HasDomainFault : DomainFault → Type 0
  HasDomainFault fault = IsSomeAnd (holds desk domain_file) (λ octets. HasFault octets fault)

  -- the two files hold this domain, and these samples of each of its nodes
  pub record IsSetting (domain : Domain) (samples : List (List Sample)) : Type 0 where
    pub has_domain : HasDomain domain
    pub has_readings : IsSomeAnd (holds desk readings_file) (λ octets. readings_of (node_names domain) octets ≡ Ok samples)

  -- the domain is held, and the readings of its nodes are faulty, where this is their first fault
  pub record HasReadingsFault (fault : ReadingsFault) : Type 0 where
    pub domain : Domain
    pub has_domain : HasDomain domain
    pub faulty : IsSomeAnd (holds desk readings_file) (λ octets. readings_of (node_names domain) octets ≡ Err fault)

  -- why there is no setting; want of memory alone is free
  module _ (tells : Bool) (old new : Reading) where
    -- why a run isn't set: a fault of the domain file, one of the readings behind a domain, a failed read, or want of memory
    abbrev pub Refuses : Refusal → Type 0
    Refuses (refusal.Domain fault) = IsTrue tells → HasDomainFault fault
    Refuses (refusal.Readings fault) = IsTrue tells → HasReadingsFault fault
    Refuses refusal.ReadFault = Rose old.side.faults new.side.faults
    Refuses refusal.NoMemory = ⊤

  -- what came before what, whatever the answer
  module _ (tells : Bool) (old new : Reading) where
    -- READINGS wasn't asked for; or DOMAIN was read to its end before, and holds a domain
    abbrev pub IsDomainFirst : Type 0
    IsDomainFirst = AsksFront old.side.asked new.side.asked (domain_file ∷ [])
        ⊎ (IsTrue tells → IsTrue (new.ended old.side.slots) × ((domain : Domain) × HasDomain domain))

    -- nothing but the two was asked for; or READINGS was read to its end before, too, and holds what a run is set by
    abbrev pub IsSettingFirst : Type 0
    IsSettingFirst = AsksFront old.side.asked new.side.asked (domain_file ∷ readings_file ∷ [])
        ⊎ (IsTrue tells → IsTrue (new.ended (old.side.slots + 1)) × ((domain : Domain) × (samples : List (List Sample)) × IsSetting domain samples))

    -- DOMAIN, READINGS and what is behind them are asked for in turn, each once those before it were read
    pub record InTurn : Type 0 where
      pub domain_first : IsDomainFirst
      pub setting_first : IsSettingFirst
