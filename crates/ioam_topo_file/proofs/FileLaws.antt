-- Laws of what the octets of a file say: one domain, or one first fault.
use Rattle.std.proofs.Common.{◌≡◌, ℕ, inl, inr, List, [], Some, None, Result, Ok, ap, sym, ◌∙◌, subst, arith}
use Rattle.std.proofs.lemmas.Option.{same_Some}
use Rattle.toml.specs.Data.{Members}
use Rattle.toml.specs.Parse.{parse_document}
use Rattle.ioam_topo_values.specs.declared.why.Why.{Why}
use Rattle.ioam_topo_entries.specs.declared.fault.DomainFault.{DomainFault}
use Rattle.ioam_topo.specs.declared.domain.Domain.{Domain}
use Rattle.ioam_topo_entries.specs.Faults.{first}
use Rattle.ioam_topo_file.specs.Top.{faults_of}
use Rattle.ioam_topo_file.specs.File.{IsDomain, IsTextOf, IsNoText, IsDomainOf, IsFirstFault, HasFault, Agree}

-- octets are the text of one table
one_table : (octets : List ℕ) (t u : Members) → IsTextOf octets t → IsTextOf octets u → t ≡ u
one_table octets t u at also = same_Some _ _ (sym at.parsed ∙ also.parsed)

-- what is text of a table is not text of none
no_text : (octets : List ℕ) (t : Members) → IsTextOf octets t → IsNoText octets → ⊥
no_text octets t at none = let empty : parse_document octets ≡ None = none.unparsed at.utf8 in let some : parse_document octets ≡ Some t = at.parsed in cc

same_read : {A : Type 0} (r : Result A Why) (x y : A) → r ≡ Ok x → r ≡ Ok y → x ≡ y
same_read r x y is also = cc

agree_of : (t : Members) (a b : Domain) → IsDomain t a → IsDomain t b → Agree a b
agree_of t a b is also = record {
  format = same_read _ _ _ is.format also.format;
  packets = same_read _ _ _ is.packets also.packets;
  same_nodes = is.has_nodes ∙ sym also.has_nodes;
  same_links = is.has_links ∙ sym also.has_links;
  same_ports = is.has_ports ∙ sym also.has_ports;
  same_routes = is.has_routes ∙ sym also.has_routes;
  same_data = is.has_data ∙ sym also.has_data;
  same_flows = is.has_flows ∙ sym also.has_flows;
}

-- a file has one domain
pub one_domain : (octets : List ℕ) (a b : Domain) → IsDomainOf octets a → IsDomainOf octets b → Agree a b
one_domain octets a b of also = let same : also.table ≡ of.table = one_table octets also.table of.table also.text of.text in
    let P : Members → Type 0 = λ t. IsDomain t b in agree_of of.table a b of.is (subst P same also.is)

-- a table has one first fault
one_first : (octets : List ℕ) (f g : DomainFault) → IsFirstFault octets f → IsFirstFault octets g → f ≡ g
one_first octets f g at also = same_Some _ _ (sym at.is ∙ ap (λ t. first (faults_of t)) (one_table octets at.table also.table at.text also.text) ∙ also.is)

-- a file has one first fault
pub one_fault : (octets : List ℕ) (f g : DomainFault) → HasFault octets f → HasFault octets g → f ≡ g
one_fault octets f g (inl at) (inl also) = at.is ∙ sym also.is
one_fault octets f g (inl at) (inr (inl also)) = absurd (let many = at.many in let few = also.text.few in omega arith)
one_fault octets f g (inl at) (inr (inr also)) = absurd (let many = at.many in let few = also.text.few in omega arith)
one_fault octets f g (inr (inl at)) (inl also) = absurd (let many = also.many in let few = at.text.few in omega arith)
one_fault octets f g (inr (inl at)) (inr (inl also)) = at.is ∙ sym also.is
one_fault octets f g (inr (inl at)) (inr (inr also)) = absurd (no_text octets also.table also.text at.text)
one_fault octets f g (inr (inr at)) (inl also) = absurd (let many = also.many in let few = at.text.few in omega arith)
one_fault octets f g (inr (inr at)) (inr (inl also)) = absurd (no_text octets at.table at.text also.text)
one_fault octets f g (inr (inr at)) (inr (inr also)) = one_first octets f g at also

none_first : (faults : List DomainFault) (f : DomainFault) → faults ≡ [] → first faults ≡ Some f → ⊥
none_first faults f none is = let empty : first faults ≡ None = ap first none in cc

-- a file that has a domain has no fault
pub domain_or_fault : (octets : List ℕ) (domain : Domain) (f : DomainFault) → IsDomainOf octets domain → HasFault octets f → ⊥
domain_or_fault octets domain f of (inl at) = let many = at.many in let few = of.text.few in omega arith
domain_or_fault octets domain f of (inr (inl at)) = no_text octets of.table of.text at.text
domain_or_fault octets domain f of (inr (inr at)) = none_first (faults_of at.table) f
    (ap faults_of (one_table octets at.table of.table at.text of.text) ∙ of.clear) at.is
