-- At most one answer is asked for.
use Rattle.std.proofs.Common.{◌≡◌, ℕ, ◌⊎◌, IsSomeAnd, List, [], Option, Some, None, refl, sym, ◌∙◌, ap, subst, inl, inr}
use Rattle.std.specs.Prelude.{map, option_map, option_and_then, slice_get}
use Rattle.ioam_desk.specs.Desk.{Reading, Writing, Rose, holds}
use Rattle.ioam_desk_outputs.proofs.NamesLaws.{first_unique}
use Rattle.ioam_desk_outputs.specs.Names.{AreApart, name_at}
use Rattle.ioam_pcap.specs.Ending.{Ending, Faulty, Whole}
use Rattle.ioam_pcap.specs.declared.capture.CapFault.{CapFault}
use Rattle.ioam_run_answer.specs.declared.outcome.Outcome.{Outcome}
use Rattle.ioam_run_answer.specs.declared.outcome.Outcome.TheVariants as outcome
use Rattle.ioam_run_files.proofs.OnlyLaws.{domains_agree, one_domain_fault, fault_or_domain}
use Rattle.ioam_run_stream.specs.Promise.{IsInput, IsLong}
use Rattle.ioam_run_stream.proofs.AskedLaws.{held_ending, too_long, whole_or_faulty, not_apart}
use Rattle.ioam_topo.specs.Domain.{node_of_name}
use Rattle.ioam_topo.specs.Keyed.{place_of, name_of_node, name_of_link}
use Rattle.ioam_topo.specs.declared.domain.Domain.{Domain}
use Rattle.ioam_topo.specs.declared.ids.LinkId.{LinkId}
use Rattle.ioam_topo.specs.declared.ids.NodeId.{NodeId}
use Rattle.ioam_topo.specs.declared.parts.Link.{Link}
use Rattle.ioam_topo.specs.declared.parts.Node.{Node}
use Rattle.ioam_run_files.specs.File.{Agree}
use Rattle.ioam_run_audit.specs.Fit.{Place}
use Rattle.ioam_run_audit.specs.Promise.{AuditNames, Asked, HasCause, HasDomain, IsAt, IsReady, IsUnfit, audit_files, link_by, link_to}

none_or_some : {A : Type 0} (o : Option A) (x : A) → o ≡ None → o ≡ Some x → ⊥
none_or_some o x none some = cc

one_some : {A : Type 0} (o : Option A) (x y : A) → o ≡ Some x → o ≡ Some y → x ≡ y
one_some o x y first second = cc

-- domains that agree have the same names
same_node : (a b : Domain) (name : List ℕ) → Agree a b → node_of_name a name ≡ node_of_name b name
same_node a b name agree =
    let found : List Node → Option NodeId = λ ns. option_map (λ at. record { 0 = at }) (place_of (map name_of_node ns) name) in
    ap found agree.same_nodes

same_link : (a b : Domain) (node : NodeId) (name : List ℕ) → Agree a b → link_to a node name ≡ link_to b node name
same_link a b node name agree =
    let found : List Link → Option LinkId = λ ls. option_map (λ at. record { 0 = at }) (place_of (map name_of_link ls) name) in
    let at : List Link → Option LinkId = λ ls. option_and_then (λ id. link_by node id (slice_get ls id.0)) (found ls) in
    ap at agree.same_links

module _ (files : AuditNames) (a b : Domain) (agree : Agree a b) where
  -- a place in the other is one where its names are found in the one
  at_node : (place : Place) → place.domain ≡ b → IsAt files place → node_of_name a files.node ≡ Some place.node
  at_node place same at = same_node a b files.node agree ∙ ap (λ (d : Domain). node_of_name d files.node) (sym same) ∙ at.has_node

  at_link : (place : Place) → place.domain ≡ b → IsAt files place → link_to a place.node files.link ≡ Some place.link
  at_link place same at = same_link a b place.node files.link agree ∙ ap (λ (d : Domain). link_to d place.node files.link) (sym same) ∙ at.has_link

  no_node : node_of_name a files.node ≡ None → (place : Place) → place.domain ≡ b → IsAt files place → ⊥
  no_node none place same at = none_or_some (node_of_name a files.node) place.node none (at_node place same at)

  no_link : (node : NodeId) → node_of_name a files.node ≡ Some node → link_to a node files.link ≡ None → (place : Place) → place.domain ≡ b → IsAt files place → ⊥
  no_link node here none place same at =
      let is : node ≡ place.node = one_some (node_of_name a files.node) node place.node here (at_node place same at) in
      none_or_some (link_to a place.node files.link) place.link (subst (λ n. link_to a n files.link ≡ None) is none) (at_link place same at)

  unfit_or_at : (name : List ℕ) (place : Place) → IsUnfit files a name → place.domain ≡ b → IsAt files place → AreApart (audit_files files) → ⊥
  unfit_or_at name place (inl x) same at apart = no_node x.0 place same at
  unfit_or_at name place (inr (inl x)) same at apart = no_link x.0 x.1 x.2 place same at
  unfit_or_at name place (inr (inr x)) same at apart = not_apart (audit_files files) x.3.0 x.3.1 apart

same_agree : (a b : Domain) → Agree a b → Agree b a
same_agree a b agree = record {
  format = sym agree.format;
  packets = sym agree.packets;
  same_nodes = sym agree.same_nodes;
  same_links = sym agree.same_links;
  same_ports = sym agree.same_ports;
  same_routes = sym agree.same_routes;
  same_data = sym agree.same_data;
  same_flows = sym agree.same_flows;
}

-- one name is refused
one_unfit : (files : AuditNames) (a b : Domain) → Agree a b → (n m : List ℕ) → IsUnfit files a n → IsUnfit files b m → n ≡ m
one_unfit files a b agree n m (inl x) (inl y) = x.1 ∙ sym y.1
one_unfit files a b agree n m (inl x) (inr (inl y)) = absurd (none_or_some (node_of_name b files.node) y.0 (sym (same_node a b files.node agree) ∙ x.0) y.1)
one_unfit files a b agree n m (inl x) (inr (inr y)) = absurd (no_node files a b agree x.0 y.0 y.1 y.2)
one_unfit files a b agree n m (inr (inl x)) (inl y) = absurd (none_or_some (node_of_name a files.node) x.0 (same_node a b files.node agree ∙ y.0) x.1)
one_unfit files a b agree n m (inr (inl x)) (inr (inl y)) = x.3 ∙ sym y.3
one_unfit files a b agree n m (inr (inl x)) (inr (inr y)) = absurd (no_link files a b agree x.0 x.1 x.2 y.0 y.1 y.2)
one_unfit files a b agree n m (inr (inr x)) (inl y) = absurd (no_node files b a (same_agree a b agree) y.0 x.0 x.1 x.2)
one_unfit files a b agree n m (inr (inr x)) (inr (inl y)) = absurd (no_link files b a (same_agree a b agree) y.0 y.1 y.2 x.0 x.1 x.2)
one_unfit files a b agree n m (inr (inr x)) (inr (inr y)) =
    let same : x.3.0 ≡ y.3.0 = first_unique (audit_files files) x.3.0 y.3.0 x.3.1 y.3.1 in
    x.3.2 ∙ ap (name_at (audit_files files)) same ∙ sym y.3.2

-- two captures, and what is wrong with them: the first is long, or faulty; or it is whole, and the second is long, faulty or whole
module _ (first second : Option (List ℕ)) where
  abbrev Long : Option (List ℕ) → Type 0
  Long held = IsSomeAnd held (IsLong 16777216)

  abbrev Ends : Option (List ℕ) → Ending → Type 0
  Ends held ending = IsSomeAnd held (IsInput 16777216 ending)

  abbrev AreLong : Type 0
  AreLong = Long first ⊎ (Ends first Whole × Long second)

  abbrev AreFaulty : List ℕ → List ℕ → List ℕ → ℕ → CapFault → Type 0
  AreFaulty before after name at fault = ((name ≡ before) × Ends first (Faulty at fault)) ⊎ ((name ≡ after) × Ends first Whole × Ends second (Faulty at fault))

  whole_faulty : (held : Option (List ℕ)) (at : ℕ) (fault : CapFault) → Ends held Whole → Ends held (Faulty at fault) → ⊥
  whole_faulty held at fault x y = whole_or_faulty at fault (held_ending 16777216 held Whole (Faulty at fault) x y)

  whole_long : Ends first Whole → Ends second Whole → AreLong → ⊥
  whole_long b a (inl long) = too_long 16777216 first Whole long b
  whole_long b a (inr long) = too_long 16777216 second Whole long.1 a

  module _ (before after : List ℕ) where
    whole_bad : (name : List ℕ) (at : ℕ) (fault : CapFault) → Ends first Whole → Ends second Whole → AreFaulty before after name at fault → ⊥
    whole_bad name at fault b a (inl bad) = whole_faulty first at fault b bad.1
    whole_bad name at fault b a (inr bad) = whole_faulty second at fault a bad.2

    long_bad : (name : List ℕ) (at : ℕ) (fault : CapFault) → AreLong → AreFaulty before after name at fault → ⊥
    long_bad name at fault (inl long) (inl bad) = too_long 16777216 first (Faulty at fault) long bad.1
    long_bad name at fault (inl long) (inr bad) = too_long 16777216 first Whole long bad.1
    long_bad name at fault (inr long) (inl bad) = whole_faulty first at fault long.0 bad.1
    long_bad name at fault (inr long) (inr bad) = too_long 16777216 second (Faulty at fault) long.1 bad.2

    same_bad : (name other : List ℕ) (at place : ℕ) (fault cause : CapFault) → name ≡ other → Faulty at fault ≡ Faulty place cause
        → outcome.Capture name at fault ≡ outcome.Capture other place cause
    same_bad name other at place fault cause named same = cc

    one_bad : (name other : List ℕ) (at place : ℕ) (fault cause : CapFault) → AreFaulty before after name at fault → AreFaulty before after other place cause
        → outcome.Capture name at fault ≡ outcome.Capture other place cause
    one_bad name other at place fault cause (inl x) (inl y) =
        same_bad name other at place fault cause (x.0 ∙ sym y.0) (held_ending 16777216 first (Faulty at fault) (Faulty place cause) x.1 y.1)
    one_bad name other at place fault cause (inl x) (inr y) = absurd (whole_faulty first at fault y.1 x.1)
    one_bad name other at place fault cause (inr x) (inl y) = absurd (whole_faulty first place cause x.1 y.1)
    one_bad name other at place fault cause (inr x) (inr y) =
        same_bad name other at place fault cause (x.0 ∙ sym y.0) (held_ending 16777216 second (Faulty at fault) (Faulty place cause) x.2 y.2)

module _ (files : AuditNames) (desk : Writing) where
  abbrev held : List ℕ → Option (List ℕ)
  held name = holds desk name

  agree : (a b : Domain) → HasDomain files desk a → HasDomain files desk b → Agree a b
  agree a b x y = domains_agree desk files.domain [] a b x y

  unfit_or_ready : (a : Domain) (n : List ℕ) → HasDomain files desk a → IsUnfit files a n → (place : Place) → IsReady files desk place → ⊥
  unfit_or_ready a n has unfit place ready =
      unfit_or_at files a place.domain (agree a place.domain has ready.has_domain) n place unfit refl ready.at ready.apart

  Asked-unique : (a b : Outcome) → Asked files desk a → Asked files desk b → a ≡ b
  Asked-unique outcome.Done outcome.Done x y = refl
  Asked-unique outcome.Done (outcome.Domain g) x y = absurd (fault_or_domain desk files.domain [] x.0.0.domain g y x.0.1.has_domain)
  Asked-unique outcome.Done (outcome.Names m) x y = absurd (unfit_or_ready y.0 m y.1 y.2 x.0.0 x.0.1)
  Asked-unique outcome.Done (outcome.Capture m spot g) x y = absurd (whole_bad (held files.before) (held files.after) files.before files.after m spot g x.1 x.2 y.1)
  Asked-unique outcome.Done (outcome.Packets m) x y = absurd (whole_long (held files.before) (held files.after) x.1 x.2 y.2)
  Asked-unique outcome.Done (outcome.Readings g) x y = absurd y
  Asked-unique outcome.Done (outcome.Exports spot g) x y = absurd y
  Asked-unique outcome.Done (outcome.Ipfix spot g) x y = absurd y
  Asked-unique outcome.Done (outcome.Part m spot g) x y = absurd y
  Asked-unique outcome.Done (outcome.Records m) x y = absurd y
  Asked-unique outcome.Done outcome.Usage x y = absurd y
  Asked-unique outcome.Done outcome.ReadFault x y = absurd y
  Asked-unique outcome.Done outcome.WriteFault x y = absurd y
  Asked-unique outcome.Done outcome.NoMemory x y = absurd y
  Asked-unique (outcome.Domain f) outcome.Done x y = absurd (fault_or_domain desk files.domain [] y.0.0.domain f x y.0.1.has_domain)
  Asked-unique (outcome.Domain f) (outcome.Domain g) x y = ap outcome.Domain (one_domain_fault desk files.domain [] f g x y)
  Asked-unique (outcome.Domain f) (outcome.Names m) x y = absurd (fault_or_domain desk files.domain [] y.0 f x y.1)
  Asked-unique (outcome.Domain f) (outcome.Capture m spot g) x y = absurd (fault_or_domain desk files.domain [] y.0.0.domain f x y.0.1.has_domain)
  Asked-unique (outcome.Domain f) (outcome.Packets m) x y = absurd (fault_or_domain desk files.domain [] y.0.0.domain f x y.0.1.has_domain)
  Asked-unique (outcome.Domain f) (outcome.Readings g) x y = absurd y
  Asked-unique (outcome.Domain f) (outcome.Exports spot g) x y = absurd y
  Asked-unique (outcome.Domain f) (outcome.Ipfix spot g) x y = absurd y
  Asked-unique (outcome.Domain f) (outcome.Part m spot g) x y = absurd y
  Asked-unique (outcome.Domain f) (outcome.Records m) x y = absurd y
  Asked-unique (outcome.Domain f) outcome.Usage x y = absurd y
  Asked-unique (outcome.Domain f) outcome.ReadFault x y = absurd y
  Asked-unique (outcome.Domain f) outcome.WriteFault x y = absurd y
  Asked-unique (outcome.Domain f) outcome.NoMemory x y = absurd y
  Asked-unique (outcome.Names n) outcome.Done x y = absurd (unfit_or_ready x.0 n x.1 x.2 y.0.0 y.0.1)
  Asked-unique (outcome.Names n) (outcome.Domain g) x y = absurd (fault_or_domain desk files.domain [] x.0 g y x.1)
  Asked-unique (outcome.Names n) (outcome.Names m) x y = ap outcome.Names (one_unfit files x.0 y.0 (agree x.0 y.0 x.1 y.1) n m x.2 y.2)
  Asked-unique (outcome.Names n) (outcome.Capture m spot g) x y = absurd (unfit_or_ready x.0 n x.1 x.2 y.0.0 y.0.1)
  Asked-unique (outcome.Names n) (outcome.Packets m) x y = absurd (unfit_or_ready x.0 n x.1 x.2 y.0.0 y.0.1)
  Asked-unique (outcome.Names n) (outcome.Readings g) x y = absurd y
  Asked-unique (outcome.Names n) (outcome.Exports spot g) x y = absurd y
  Asked-unique (outcome.Names n) (outcome.Ipfix spot g) x y = absurd y
  Asked-unique (outcome.Names n) (outcome.Part m spot g) x y = absurd y
  Asked-unique (outcome.Names n) (outcome.Records m) x y = absurd y
  Asked-unique (outcome.Names n) outcome.Usage x y = absurd y
  Asked-unique (outcome.Names n) outcome.ReadFault x y = absurd y
  Asked-unique (outcome.Names n) outcome.WriteFault x y = absurd y
  Asked-unique (outcome.Names n) outcome.NoMemory x y = absurd y
  Asked-unique (outcome.Capture n at f) outcome.Done x y = absurd (whole_bad (held files.before) (held files.after) files.before files.after n at f y.1 y.2 x.1)
  Asked-unique (outcome.Capture n at f) (outcome.Domain g) x y = absurd (fault_or_domain desk files.domain [] x.0.0.domain g y x.0.1.has_domain)
  Asked-unique (outcome.Capture n at f) (outcome.Names m) x y = absurd (unfit_or_ready y.0 m y.1 y.2 x.0.0 x.0.1)
  Asked-unique (outcome.Capture n at f) (outcome.Capture m spot g) x y = one_bad (held files.before) (held files.after) files.before files.after n m at spot f g x.1 y.1
  Asked-unique (outcome.Capture n at f) (outcome.Packets m) x y = absurd (long_bad (held files.before) (held files.after) files.before files.after n at f y.2 x.1)
  Asked-unique (outcome.Capture n at f) (outcome.Readings g) x y = absurd y
  Asked-unique (outcome.Capture n at f) (outcome.Exports spot g) x y = absurd y
  Asked-unique (outcome.Capture n at f) (outcome.Ipfix spot g) x y = absurd y
  Asked-unique (outcome.Capture n at f) (outcome.Part m spot g) x y = absurd y
  Asked-unique (outcome.Capture n at f) (outcome.Records m) x y = absurd y
  Asked-unique (outcome.Capture n at f) outcome.Usage x y = absurd y
  Asked-unique (outcome.Capture n at f) outcome.ReadFault x y = absurd y
  Asked-unique (outcome.Capture n at f) outcome.WriteFault x y = absurd y
  Asked-unique (outcome.Capture n at f) outcome.NoMemory x y = absurd y
  Asked-unique (outcome.Packets n) outcome.Done x y = absurd (whole_long (held files.before) (held files.after) y.1 y.2 x.2)
  Asked-unique (outcome.Packets n) (outcome.Domain g) x y = absurd (fault_or_domain desk files.domain [] x.0.0.domain g y x.0.1.has_domain)
  Asked-unique (outcome.Packets n) (outcome.Names m) x y = absurd (unfit_or_ready y.0 m y.1 y.2 x.0.0 x.0.1)
  Asked-unique (outcome.Packets n) (outcome.Capture m spot g) x y = absurd (long_bad (held files.before) (held files.after) files.before files.after m spot g x.2 y.1)
  Asked-unique (outcome.Packets n) (outcome.Packets m) x y = ap outcome.Packets (x.1 ∙ sym y.1)
  Asked-unique (outcome.Packets n) (outcome.Readings g) x y = absurd y
  Asked-unique (outcome.Packets n) (outcome.Exports spot g) x y = absurd y
  Asked-unique (outcome.Packets n) (outcome.Ipfix spot g) x y = absurd y
  Asked-unique (outcome.Packets n) (outcome.Part m spot g) x y = absurd y
  Asked-unique (outcome.Packets n) (outcome.Records m) x y = absurd y
  Asked-unique (outcome.Packets n) outcome.Usage x y = absurd y
  Asked-unique (outcome.Packets n) outcome.ReadFault x y = absurd y
  Asked-unique (outcome.Packets n) outcome.WriteFault x y = absurd y
  Asked-unique (outcome.Packets n) outcome.NoMemory x y = absurd y
  Asked-unique (outcome.Readings f) b x y = absurd x
  Asked-unique (outcome.Exports at f) b x y = absurd x
  Asked-unique (outcome.Ipfix at f) b x y = absurd x
  Asked-unique (outcome.Part n at f) b x y = absurd x
  Asked-unique (outcome.Records n) b x y = absurd x
  Asked-unique outcome.Usage b x y = absurd x
  Asked-unique outcome.ReadFault b x y = absurd x
  Asked-unique outcome.WriteFault b x y = absurd x
  Asked-unique outcome.NoMemory b x y = absurd x

  -- what is asked for is answered, unless a call failed or no memory could be had
  pub HasCause-asked : (old_in new_in : Reading) (new : Writing) (answer asked : Outcome) → HasCause files old_in new_in desk new answer → Asked files desk asked
      → (Rose old_in.side.faults new_in.side.faults → ⊥) → (Rose desk.side.faults new.side.faults → ⊥)
      → (answer ≡ asked) ⊎ (answer ≡ outcome.NoMemory)
  HasCause-asked old_in new_in new outcome.Done asked cause asks reads writes = inl (Asked-unique outcome.Done asked cause asks)
  HasCause-asked old_in new_in new (outcome.Domain f) asked cause asks reads writes = inl (Asked-unique (outcome.Domain f) asked cause asks)
  HasCause-asked old_in new_in new (outcome.Names n) asked cause asks reads writes = inl (Asked-unique (outcome.Names n) asked cause asks)
  HasCause-asked old_in new_in new (outcome.Capture n at f) asked cause asks reads writes = inl (Asked-unique (outcome.Capture n at f) asked cause asks)
  HasCause-asked old_in new_in new (outcome.Packets n) asked cause asks reads writes = inl (Asked-unique (outcome.Packets n) asked cause asks)
  HasCause-asked old_in new_in new (outcome.Readings f) asked cause asks reads writes = absurd cause
  HasCause-asked old_in new_in new (outcome.Exports at f) asked cause asks reads writes = absurd cause
  HasCause-asked old_in new_in new (outcome.Ipfix at f) asked cause asks reads writes = absurd cause
  HasCause-asked old_in new_in new (outcome.Part n at f) asked cause asks reads writes = absurd cause
  HasCause-asked old_in new_in new (outcome.Records n) asked cause asks reads writes = absurd cause
  HasCause-asked old_in new_in new outcome.Usage asked cause asks reads writes = absurd cause
  HasCause-asked old_in new_in new outcome.ReadFault asked cause asks reads writes = absurd (reads cause)
  HasCause-asked old_in new_in new outcome.WriteFault asked cause asks reads writes = absurd (writes cause)
  HasCause-asked old_in new_in new outcome.NoMemory asked cause asks reads writes = inr refl
