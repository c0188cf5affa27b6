-- What two files hold says one setting, or one fault.
use Rattle.std.proofs.Common.{◌≡◌, ℕ, IsSomeAnd, List, Option, Some, None, Ok, Err, ap}
use Rattle.std.specs.Prelude.{map}
use Rattle.ioam_clock.specs.Reading.{readings_of, node_names}
use Rattle.ioam_clock.specs.declared.fault.ReadingsFault.{ReadingsFault}
use Rattle.ioam_clock.specs.declared.sample.Sample.{Sample}
use Rattle.ioam_desk.specs.Desk.{Writing, holds}
use Rattle.ioam_topo_file.specs.File.{IsDomainOf, HasFault, Agree}
use Rattle.ioam_topo_file.proofs.FileLaws.{one_domain, one_fault, domain_or_fault}
use Rattle.ioam_run_answer.specs.DomainFault.{DomainFault}
use Rattle.ioam_topo.specs.Keyed.{name_of_node}
use Rattle.ioam_topo.specs.declared.domain.Domain.{Domain}
use Rattle.ioam_topo.specs.declared.parts.Node.{Node}
use Rattle.ioam_run_files.specs.Setting.{HasDomain, HasDomainFault, HasReadingsFault, IsSetting}

-- what is held is both
both : (held : Option (List ℕ)) (P Q : List ℕ → Type 0) → IsSomeAnd held P → IsSomeAnd held Q → (octets : List ℕ) × P octets × Q octets
both None P Q x y = absurd x
both (Some octets) P Q x y = (octets, x, y)

module _ (desk : Writing) (domain_file readings_file : List ℕ) where
  -- one domain
  pub domains_agree : (a b : Domain) → HasDomain desk domain_file readings_file a → HasDomain desk domain_file readings_file b → Agree a b
  domains_agree a b x y =
      let it : (octets : List ℕ) × IsDomainOf octets a × IsDomainOf octets b
      = both (holds desk domain_file) (λ o. IsDomainOf o a) (λ o. IsDomainOf o b) x y in
      one_domain it.0 a b it.1 it.2

  -- one fault of the domain's file
  pub one_domain_fault : (f g : DomainFault) → HasDomainFault desk domain_file readings_file f
      → HasDomainFault desk domain_file readings_file g → f ≡ g
  one_domain_fault f g x y =
      let it : (octets : List ℕ) × HasFault octets f × HasFault octets g
      = both (holds desk domain_file) (λ o. HasFault o f) (λ o. HasFault o g) x y in
      one_fault it.0 f g it.1 it.2

  -- a fault of it, or a domain
  pub fault_or_domain : (domain : Domain) (f : DomainFault) → HasDomainFault desk domain_file readings_file f
      → HasDomain desk domain_file readings_file domain → ⊥
  fault_or_domain domain f x y =
      let it : (octets : List ℕ) × HasFault octets f × IsDomainOf octets domain
      = both (holds desk domain_file) (λ o. HasFault o f) (λ o. IsDomainOf o domain) x y in
      domain_or_fault it.0 domain f it.2 it.1

  same_names : (a b : Domain) → Agree a b → node_names a ≡ node_names b
  same_names a b agree = ap (λ (ns : List Node). map name_of_node ns) agree.same_nodes

  -- one fault of the readings
  pub one_readings_fault : (f g : ReadingsFault) → HasReadingsFault desk domain_file readings_file f
      → HasReadingsFault desk domain_file readings_file g → f ≡ g
  one_readings_fault f g x y =
      let P : ReadingsFault → Domain → List ℕ → Type 0 = λ h d o. readings_of (node_names d) o ≡ Err h in
      let it : (octets : List ℕ) × P f x.domain octets × P g y.domain octets = both (holds desk readings_file) (P f x.domain) (P g y.domain) x.faulty y.faulty in
      let same : readings_of (node_names x.domain) it.0 ≡ readings_of (node_names y.domain) it.0
      = ap (λ ns. readings_of ns it.0) (same_names x.domain y.domain (domains_agree x.domain y.domain x.has_domain y.has_domain)) in
      let first = it.1 in
      let second = it.2 in
      cc

  -- a fault of them, or readings
  pub fault_or_setting : (domain : Domain) (samples : List (List Sample)) (f : ReadingsFault) → HasReadingsFault desk domain_file readings_file f
      → IsSetting desk domain_file readings_file domain samples → ⊥
  fault_or_setting domain samples f x y =
      let P : List ℕ → Type 0 = λ o. readings_of (node_names x.domain) o ≡ Err f in
      let Q : List ℕ → Type 0 = λ o. readings_of (node_names domain) o ≡ Ok samples in
      let it : (octets : List ℕ) × P octets × Q octets = both (holds desk readings_file) P Q x.faulty y.has_readings in
      let same : readings_of (node_names x.domain) it.0 ≡ readings_of (node_names domain) it.0
      = ap (λ ns. readings_of ns it.0) (same_names x.domain domain (domains_agree x.domain domain x.has_domain y.has_domain)) in
      let first = it.1 in
      let second = it.2 in
      cc
