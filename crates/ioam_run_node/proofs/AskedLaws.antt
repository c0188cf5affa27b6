-- At most one answer is asked for.
use Rattle.std.proofs.Common.{◌≡◌, ℕ, ◌⊎◌, IsSomeAnd, List, Option, Some, None, refl, sym, ◌∙◌, ap, subst, inl, inr}
use Rattle.std.specs.Prelude.{map, option_map, option_and_then, slice_get}
use Rattle.ioam_run_files.specs.Outcome.{Outcome}
use Rattle.ioam_run_files.specs.Outcome.TheVariants as outcome
use Rattle.ioam_desk.specs.Desk.{Reading, Writing, Rose, holds}
use Rattle.ioam_run_files.specs.File.{Agree}
use Rattle.ioam_desk_outputs.proofs.NamesLaws.{first_unique}
use Rattle.ioam_desk_outputs.specs.Names.{AreApart, name_at}
use Rattle.ioam_pcap.specs.Ending.{Ending, Faulty}
use Rattle.ioam_pcap.specs.Ending.{Whole as Ended}
use Rattle.ioam_run_stream.specs.Promise.{IsInput, IsLong}
use Rattle.ioam_run_stream.proofs.AskedLaws.{held_ending, too_long, whole_or_faulty, not_apart}
use Rattle.ioam_run_files.specs.Setting.{HasDomain}
use Rattle.ioam_run_files.proofs.OnlyLaws.{domains_agree, one_domain_fault, fault_or_domain, one_readings_fault, fault_or_setting}
use Rattle.ioam_topo.specs.Domain.{node_of_name}
use Rattle.ioam_topo.specs.Keyed.{place_of, name_of_node, name_of_link}
use Rattle.ioam_topo.specs.declared.domain.Domain.{Domain}
use Rattle.ioam_topo.specs.declared.ids.NodeId.{NodeId}
use Rattle.ioam_topo.specs.declared.ids.LinkId.{LinkId}
use Rattle.ioam_topo.specs.declared.parts.Link.{Link}
use Rattle.ioam_topo.specs.declared.parts.Node.{Node}
use Rattle.ioam_run_node.specs.Promise.{NodeNames, Asked, HasCause, IsAt, IsReady, IsUnfit, node_files, inward_by, inward_of}
use Rattle.ioam_run_node.specs.Seat.{Seat}

none_or_some : {A : Type 0} (o : Option A) (x : A) → o ≡ None → o ≡ Some x → ⊥
none_or_some o x none some = cc

one_some : {A : Type 0} (o : Option A) (x y : A) → o ≡ Some x → o ≡ Some y → x ≡ y
one_some o x y first second = cc

-- domains that agree have the same names
same_node : (a b : Domain) (name : List ℕ) → Agree a b → node_of_name a name ≡ node_of_name b name
same_node a b name agree =
    let found : List Node → Option NodeId = λ ns. option_map (λ at. record { 0 = at }) (place_of (map name_of_node ns) name) in
    ap found agree.same_nodes

same_inward : (a b : Domain) (node : NodeId) (name : List ℕ) → Agree a b → inward_of a node name ≡ inward_of b node name
same_inward a b node name agree =
    let found : List Link → Option LinkId = λ ls. option_map (λ at. record { 0 = at }) (place_of (map name_of_link ls) name) in
    let at : List Link → Option ℕ = λ ls. option_and_then (λ id. inward_by node (slice_get ls id.0)) (found ls) in
    ap at agree.same_links

module _ (files : NodeNames) (a b : Domain) (agree : Agree a b) where
  no_node : (node : NodeId) → node_of_name a files.node ≡ None → node_of_name b files.node ≡ Some node → ⊥
  no_node node none some = none_or_some (node_of_name b files.node) node (sym (same_node a b files.node agree) ∙ none) some

  no_link : (node other : NodeId) (inward : ℕ) → node_of_name a files.node ≡ Some node → inward_of a node files.link ≡ None
      → IsAt files b other inward → ⊥
  no_link node other inward here none at =
      let same : node ≡ other = one_some (node_of_name b files.node) node other (sym (same_node a b files.node agree) ∙ here) at.has_node in
      let P : NodeId → Type 0 = λ n. inward_of b n files.link ≡ None in
      none_or_some (inward_of b other files.link) inward (subst P same (sym (same_inward a b node files.link agree) ∙ none)) at.has_link

  unfit_or_at : (name : List ℕ) (node : NodeId) (inward : ℕ) → IsUnfit files a name → IsAt files b node inward → AreApart (node_files files) → ⊥
  unfit_or_at name node inward (inl x) at apart = no_node node x.0 at.has_node
  unfit_or_at name node inward (inr (inl x)) at apart = no_link x.0 node inward x.1 x.2 at
  unfit_or_at name node inward (inr (inr x)) at apart = not_apart (node_files files) x.3.0 x.3.1 apart

same_agree : (a b : Domain) → Agree a b → Agree b a
same_agree a b agree = record {
  format = sym agree.format;
  packets = sym agree.packets;
  same_nodes = sym agree.same_nodes;
  same_links = sym agree.same_links;
  same_ports = sym agree.same_ports;
  same_routes = sym agree.same_routes;
  same_data = sym agree.same_data;
  same_flows = sym agree.same_flows;
}

-- one name is refused
one_unfit : (files : NodeNames) (a b : Domain) → Agree a b → (n m : List ℕ) → IsUnfit files a n → IsUnfit files b m → n ≡ m
one_unfit files a b agree n m (inl x) (inl y) = x.1 ∙ sym y.1
one_unfit files a b agree n m (inl x) (inr (inl y)) = absurd (no_node files a b agree y.0 x.0 y.1)
one_unfit files a b agree n m (inl x) (inr (inr y)) = absurd (no_node files a b agree y.0 x.0 y.2.has_node)
one_unfit files a b agree n m (inr (inl x)) (inl y) = absurd (no_node files b a (same_agree a b agree) x.0 y.0 x.1)
one_unfit files a b agree n m (inr (inl x)) (inr (inl y)) = x.3 ∙ sym y.3
one_unfit files a b agree n m (inr (inl x)) (inr (inr y)) = absurd (no_link files a b agree x.0 y.0 y.1 x.1 x.2 y.2)
one_unfit files a b agree n m (inr (inr x)) (inl y) = absurd (no_node files b a (same_agree a b agree) x.0 y.0 x.2.has_node)
one_unfit files a b agree n m (inr (inr x)) (inr (inl y)) = absurd (no_link files b a (same_agree a b agree) y.0 x.0 x.1 y.1 y.2 x.2)
one_unfit files a b agree n m (inr (inr x)) (inr (inr y)) =
    let same : x.3.0 ≡ y.3.0 = first_unique (node_files files) x.3.0 y.3.0 x.3.1 y.3.1 in
    x.3.2 ∙ ap (name_at (node_files files)) same ∙ sym y.3.2

module _ (files : NodeNames) (desk : Writing) where
  agree : (a b : Domain) → HasDomain desk files.domain files.readings a
      → HasDomain desk files.domain files.readings b → Agree a b
  agree a b x y = domains_agree desk files.domain files.readings a b x y

  unfit_or_ready : (a : Domain) (n : List ℕ) → HasDomain desk files.domain files.readings a → IsUnfit files a n
      → (seat : Seat) → IsReady files desk seat → ⊥
  unfit_or_ready a n has unfit seat ready =
      unfit_or_at files a seat.domain (agree a seat.domain has ready.setting.has_domain) n seat.node seat.inward unfit ready.at ready.apart

  same_limit : (a b : Seat) → IsReady files desk a → IsReady files desk b → a.domain.packets ≡ b.domain.packets
  same_limit a b x y = (agree a.domain b.domain x.setting.has_domain y.setting.has_domain).packets

  long_or_input : (a b : Seat) → IsReady files desk a → IsReady files desk b → (d : Ending) → IsSomeAnd (holds desk files.input) (IsLong a.domain.packets)
      → IsSomeAnd (holds desk files.input) (IsInput b.domain.packets d) → ⊥
  long_or_input a b x y d long so =
      let P : ℕ → Type 0 = λ most. IsSomeAnd (holds desk files.input) (IsLong most) in
      too_long b.domain.packets (holds desk files.input) d (subst P (same_limit a b x y) long) so

  one_ending : (a b : Seat) → IsReady files desk a → IsReady files desk b → (d e : Ending) → IsSomeAnd (holds desk files.input) (IsInput a.domain.packets d)
      → IsSomeAnd (holds desk files.input) (IsInput b.domain.packets e) → d ≡ e
  one_ending a b x y d e so also =
      let P : ℕ → Type 0 = λ most. IsSomeAnd (holds desk files.input) (IsInput most d) in
      held_ending b.domain.packets (holds desk files.input) d e (subst P (same_limit a b x y) so) also

  Asked-unique : (a b : Outcome) → Asked files desk a → Asked files desk b → a ≡ b
  Asked-unique outcome.Done outcome.Done x y = refl
  Asked-unique outcome.Done (outcome.Domain g) x y = absurd (fault_or_domain desk files.domain files.readings x.0.domain g y x.1.setting.has_domain)
  Asked-unique outcome.Done (outcome.Readings g) x y = absurd (fault_or_setting desk files.domain files.readings x.0.domain x.0.samples g y x.1.setting)
  Asked-unique outcome.Done (outcome.Names m) x y = absurd (unfit_or_ready y.0 m y.2.has_domain y.3 x.0 x.1)
  Asked-unique outcome.Done (outcome.Capture m place g) x y = absurd (whole_or_faulty place g (one_ending x.0 y.1.0 x.1 y.1.1 Ended (Faulty place g) x.2 y.1.2))
  Asked-unique outcome.Done (outcome.Packets m) x y = absurd (long_or_input y.0 x.0 y.1 x.1 Ended y.3 x.2)
  Asked-unique outcome.Done (outcome.Exports spot cut) x y = absurd y
  Asked-unique outcome.Done (outcome.Ipfix spot cut) x y = absurd y
  Asked-unique outcome.Done (outcome.Part which spot cut) x y = absurd y
  Asked-unique outcome.Done (outcome.Records most) x y = absurd y
  Asked-unique outcome.Done outcome.Usage x y = absurd y
  Asked-unique outcome.Done outcome.ReadFault x y = absurd y
  Asked-unique outcome.Done outcome.WriteFault x y = absurd y
  Asked-unique outcome.Done outcome.NoMemory x y = absurd y
  Asked-unique (outcome.Domain f) outcome.Done x y = absurd (fault_or_domain desk files.domain files.readings y.0.domain f x y.1.setting.has_domain)
  Asked-unique (outcome.Domain f) (outcome.Domain g) x y = ap outcome.Domain (one_domain_fault desk files.domain files.readings f g x y)
  Asked-unique (outcome.Domain f) (outcome.Readings g) x y = absurd (fault_or_domain desk files.domain files.readings y.domain f x y.has_domain)
  Asked-unique (outcome.Domain f) (outcome.Names m) x y = absurd (fault_or_domain desk files.domain files.readings y.0 f x y.2.has_domain)
  Asked-unique (outcome.Domain f) (outcome.Capture m place g) x y = absurd (fault_or_domain desk files.domain files.readings y.1.0.domain f x y.1.1.setting.has_domain)
  Asked-unique (outcome.Domain f) (outcome.Packets m) x y = absurd (fault_or_domain desk files.domain files.readings y.0.domain f x y.1.setting.has_domain)
  Asked-unique (outcome.Domain f) (outcome.Exports spot cut) x y = absurd y
  Asked-unique (outcome.Domain f) (outcome.Ipfix spot cut) x y = absurd y
  Asked-unique (outcome.Domain f) (outcome.Part which spot cut) x y = absurd y
  Asked-unique (outcome.Domain f) (outcome.Records most) x y = absurd y
  Asked-unique (outcome.Domain f) outcome.Usage x y = absurd y
  Asked-unique (outcome.Domain f) outcome.ReadFault x y = absurd y
  Asked-unique (outcome.Domain f) outcome.WriteFault x y = absurd y
  Asked-unique (outcome.Domain f) outcome.NoMemory x y = absurd y
  Asked-unique (outcome.Readings f) outcome.Done x y = absurd (fault_or_setting desk files.domain files.readings y.0.domain y.0.samples f x y.1.setting)
  Asked-unique (outcome.Readings f) (outcome.Domain g) x y = absurd (fault_or_domain desk files.domain files.readings x.domain g y x.has_domain)
  Asked-unique (outcome.Readings f) (outcome.Readings g) x y = ap outcome.Readings (one_readings_fault desk files.domain files.readings f g x y)
  Asked-unique (outcome.Readings f) (outcome.Names m) x y = absurd (fault_or_setting desk files.domain files.readings y.0 y.1 f x y.2)
  Asked-unique (outcome.Readings f) (outcome.Capture m place g) x y = absurd (fault_or_setting desk files.domain files.readings y.1.0.domain y.1.0.samples f x y.1.1.setting)
  Asked-unique (outcome.Readings f) (outcome.Packets m) x y = absurd (fault_or_setting desk files.domain files.readings y.0.domain y.0.samples f x y.1.setting)
  Asked-unique (outcome.Readings f) (outcome.Exports spot cut) x y = absurd y
  Asked-unique (outcome.Readings f) (outcome.Ipfix spot cut) x y = absurd y
  Asked-unique (outcome.Readings f) (outcome.Part which spot cut) x y = absurd y
  Asked-unique (outcome.Readings f) (outcome.Records most) x y = absurd y
  Asked-unique (outcome.Readings f) outcome.Usage x y = absurd y
  Asked-unique (outcome.Readings f) outcome.ReadFault x y = absurd y
  Asked-unique (outcome.Readings f) outcome.WriteFault x y = absurd y
  Asked-unique (outcome.Readings f) outcome.NoMemory x y = absurd y
  Asked-unique (outcome.Names n) outcome.Done x y = absurd (unfit_or_ready x.0 n x.2.has_domain x.3 y.0 y.1)
  Asked-unique (outcome.Names n) (outcome.Domain g) x y = absurd (fault_or_domain desk files.domain files.readings x.0 g y x.2.has_domain)
  Asked-unique (outcome.Names n) (outcome.Readings g) x y = absurd (fault_or_setting desk files.domain files.readings x.0 x.1 g y x.2)
  Asked-unique (outcome.Names n) (outcome.Names m) x y = ap outcome.Names (one_unfit files x.0 y.0 (agree x.0 y.0 x.2.has_domain y.2.has_domain) n m x.3 y.3)
  Asked-unique (outcome.Names n) (outcome.Capture m place g) x y = absurd (unfit_or_ready x.0 n x.2.has_domain x.3 y.1.0 y.1.1)
  Asked-unique (outcome.Names n) (outcome.Packets m) x y = absurd (unfit_or_ready x.0 n x.2.has_domain x.3 y.0 y.1)
  Asked-unique (outcome.Names n) (outcome.Exports spot cut) x y = absurd y
  Asked-unique (outcome.Names n) (outcome.Ipfix spot cut) x y = absurd y
  Asked-unique (outcome.Names n) (outcome.Part which spot cut) x y = absurd y
  Asked-unique (outcome.Names n) (outcome.Records most) x y = absurd y
  Asked-unique (outcome.Names n) outcome.Usage x y = absurd y
  Asked-unique (outcome.Names n) outcome.ReadFault x y = absurd y
  Asked-unique (outcome.Names n) outcome.WriteFault x y = absurd y
  Asked-unique (outcome.Names n) outcome.NoMemory x y = absurd y
  Asked-unique (outcome.Capture n at f) outcome.Done x y = absurd (whole_or_faulty at f (sym (one_ending x.1.0 y.0 x.1.1 y.1 (Faulty at f) Ended x.1.2 y.2)))
  Asked-unique (outcome.Capture n at f) (outcome.Domain g) x y = absurd (fault_or_domain desk files.domain files.readings x.1.0.domain g y x.1.1.setting.has_domain)
  Asked-unique (outcome.Capture n at f) (outcome.Readings g) x y = absurd (fault_or_setting desk files.domain files.readings x.1.0.domain x.1.0.samples g y x.1.1.setting)
  Asked-unique (outcome.Capture n at f) (outcome.Names m) x y = absurd (unfit_or_ready y.0 m y.2.has_domain y.3 x.1.0 x.1.1)
  Asked-unique (outcome.Capture n at f) (outcome.Capture m place g) x y =
      let same : Faulty at f ≡ Faulty place g = one_ending x.1.0 y.1.0 x.1.1 y.1.1 (Faulty at f) (Faulty place g) x.1.2 y.1.2 in
      let named : n ≡ m = x.0 ∙ sym y.0 in
      cc
  Asked-unique (outcome.Capture n at f) (outcome.Packets m) x y = absurd (long_or_input y.0 x.1.0 y.1 x.1.1 (Faulty at f) y.3 x.1.2)
  Asked-unique (outcome.Capture n at f) (outcome.Exports spot cut) x y = absurd y
  Asked-unique (outcome.Capture n at f) (outcome.Ipfix spot cut) x y = absurd y
  Asked-unique (outcome.Capture n at f) (outcome.Part which spot cut) x y = absurd y
  Asked-unique (outcome.Capture n at f) (outcome.Records most) x y = absurd y
  Asked-unique (outcome.Capture n at f) outcome.Usage x y = absurd y
  Asked-unique (outcome.Capture n at f) outcome.ReadFault x y = absurd y
  Asked-unique (outcome.Capture n at f) outcome.WriteFault x y = absurd y
  Asked-unique (outcome.Capture n at f) outcome.NoMemory x y = absurd y
  Asked-unique (outcome.Packets n) outcome.Done x y = absurd (long_or_input x.0 y.0 x.1 y.1 Ended x.3 y.2)
  Asked-unique (outcome.Packets n) (outcome.Domain g) x y = absurd (fault_or_domain desk files.domain files.readings x.0.domain g y x.1.setting.has_domain)
  Asked-unique (outcome.Packets n) (outcome.Readings g) x y = absurd (fault_or_setting desk files.domain files.readings x.0.domain x.0.samples g y x.1.setting)
  Asked-unique (outcome.Packets n) (outcome.Names m) x y = absurd (unfit_or_ready y.0 m y.2.has_domain y.3 x.0 x.1)
  Asked-unique (outcome.Packets n) (outcome.Capture m place g) x y = absurd (long_or_input x.0 y.1.0 x.1 y.1.1 (Faulty place g) x.3 y.1.2)
  Asked-unique (outcome.Packets n) (outcome.Packets m) x y = ap outcome.Packets (x.2 ∙ same_limit x.0 y.0 x.1 y.1 ∙ sym y.2)
  Asked-unique (outcome.Packets n) (outcome.Exports spot cut) x y = absurd y
  Asked-unique (outcome.Packets n) (outcome.Ipfix spot cut) x y = absurd y
  Asked-unique (outcome.Packets n) (outcome.Part which spot cut) x y = absurd y
  Asked-unique (outcome.Packets n) (outcome.Records most) x y = absurd y
  Asked-unique (outcome.Packets n) outcome.Usage x y = absurd y
  Asked-unique (outcome.Packets n) outcome.ReadFault x y = absurd y
  Asked-unique (outcome.Packets n) outcome.WriteFault x y = absurd y
  Asked-unique (outcome.Packets n) outcome.NoMemory x y = absurd y
  Asked-unique outcome.Usage b x y = absurd x
  Asked-unique outcome.ReadFault b x y = absurd x
  Asked-unique outcome.WriteFault b x y = absurd x
  Asked-unique outcome.NoMemory b x y = absurd x
  Asked-unique (outcome.Exports spot cut) b x y = absurd x
  Asked-unique (outcome.Ipfix spot cut) b x y = absurd x
  Asked-unique (outcome.Part which spot cut) b x y = absurd x
  Asked-unique (outcome.Records most) b x y = absurd x

  -- what is asked for is answered, unless a call failed or no memory could be had
  pub HasCause-asked : (old_in new_in : Reading) (new : Writing) (answer asked : Outcome) → HasCause files old_in new_in desk new answer → Asked files desk asked
      → (Rose old_in.side.faults new_in.side.faults → ⊥) → (Rose desk.side.faults new.side.faults → ⊥)
      → (answer ≡ asked) ⊎ (answer ≡ outcome.NoMemory)
  HasCause-asked old_in new_in new outcome.Done asked cause asks reads writes = inl (Asked-unique outcome.Done asked cause asks)
  HasCause-asked old_in new_in new outcome.Usage asked cause asks reads writes = absurd cause
  HasCause-asked old_in new_in new (outcome.Domain why) asked cause asks reads writes = inl (Asked-unique (outcome.Domain why) asked cause asks)
  HasCause-asked old_in new_in new (outcome.Readings why) asked cause asks reads writes = inl (Asked-unique (outcome.Readings why) asked cause asks)
  HasCause-asked old_in new_in new (outcome.Names name) asked cause asks reads writes = inl (Asked-unique (outcome.Names name) asked cause asks)
  HasCause-asked old_in new_in new (outcome.Capture name at fault) asked cause asks reads writes = inl (Asked-unique (outcome.Capture name at fault) asked cause asks)
  HasCause-asked old_in new_in new (outcome.Packets limit) asked cause asks reads writes = inl (Asked-unique (outcome.Packets limit) asked cause asks)
  HasCause-asked old_in new_in new (outcome.Exports place fault) asked cause asks reads writes = absurd cause
  HasCause-asked old_in new_in new (outcome.Ipfix place fault) asked cause asks reads writes = absurd cause
  HasCause-asked old_in new_in new (outcome.Part which place fault) asked cause asks reads writes = absurd cause
  HasCause-asked old_in new_in new (outcome.Records limit) asked cause asks reads writes = absurd cause
  HasCause-asked old_in new_in new outcome.ReadFault asked cause asks reads writes = absurd (reads cause)
  HasCause-asked old_in new_in new outcome.WriteFault asked cause asks reads writes = absurd (writes cause)
  HasCause-asked old_in new_in new outcome.NoMemory asked cause asks reads writes = inr refl
