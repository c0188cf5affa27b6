-- The arrivals of a run by their keys.
use Rattle.std.proofs.Common.{◌≡◌, ℕ, ◌-◌, ◌*◌, true, List, [], ◌∷◌, ◌++◌, length, Option, Some, None, slice_get, refl, sym, ap, ap₂, ◌∙◌, subst, arith}
use Rattle.std.specs.Prelude.{is_some, unwrap_or}
use Rattle.ioam_run_texts.specs.Along.{along}
use Rattle.ioam_run_texts.specs.Sample.{Sample}
use Rattle.ioam_collect.specs.declared.key.Key.{Key}
use Rattle.ioam_collect.proofs.Members.{Has}
use Rattle.ioam_dex.specs.Record.{Record}
use Rattle.ioam_run_texts.specs.Fate.{Frame, Fate}
use Rattle.ioam_ip.specs.Laid.{Part}
use Rattle.ioam_run_texts.specs.Drawn.{direct_number}
use Rattle.ioam_run_texts.specs.Visit.{Visit}
use Rattle.ioam_topo.specs.Domain.{flows}
use Rattle.ioam_topo.specs.declared.domain.Domain.{Domain}
use Rattle.ioam_topo.specs.declared.ids.FlowId.{FlowId}
use Rattle.ioam_topo.specs.declared.parts.Flow.{Flow}
use Rattle.ioam_run_texts.specs.Enclosed.{direct_parts, tunnel_by}
use Rattle.ioam_run_texts.specs.Wire.{Tunnel}
use Rattle.ioam_run_texts.specs.Numbers.{Numbers}
use Rattle.ioam_run_texts.specs.Exports.{records_of}
use Rattle.ioam_run_texts.specs.Visits.{part_records}
use Rattle.ioam_collect_laws.specs.Paths.{IsRun, carried_key, flow_key, key_for, key_of, path_of, recorded_at, records_by}
use Rattle.ioam_collect_laws.proofs.EnclosedLaws.{Encloses, Known, known, same_place}
use Rattle.ioam_collect_laws.proofs.TrailLaws.{IsTrail, key_parts, number_is, some_is, trail_of}

-- a flow without direct export, or a packet without a number, exports nothing
pub along_none : (domain : Domain) (readings : List (List Sample)) (tunnel : Tunnel) → tunnel.others ≡ [] → (done visits : List Visit)
    → along (recorded_at domain readings tunnel) done visits ≡ []
along_none domain readings tunnel none done [] = refl
along_none domain readings tunnel none done (visit ∷ visits) =
    let P : List Part → Type 0 = λ os. part_records
    (records_of domain readings visit.place visit.time (tunnel.hops - length done)) os ≡ [] in
    let first : recorded_at domain readings tunnel done visit ≡ [] = subst P (sym none) refl in
    ap₂ (λ xs ys. xs ++ ys) first (along_none domain readings tunnel none (done ++ visit ∷ []) visits)

pub parts_none : (flow : Flow) (kind : Option ℕ) → direct_parts flow kind None ≡ []
parts_none flow None = refl
parts_none flow (Some kind) = refl

pub numbered : (kind every : Option ℕ) (count seq : ℕ) → direct_number kind every count ≡ Some seq → is_some kind ≡ true
numbered None every count seq is = absurd (cc is)
numbered (Some kind) every count seq is = refl

module _ (domain : Domain) (readings : List (List Sample)) (frames : List Frame) (fates : List Fate) (run : IsRun domain readings frames fates) where
  pub known_at : (i : ℕ) (fate : Fate) (id : FlowId) (numbers : Numbers) → slice_get fates i ≡ Some fate → fate.itinerary.carried ≡ Some (id, numbers)
      → Known domain fate.itinerary id numbers 0 4294967296
  known_at i fate id numbers there some =
      let k = known domain readings [] frames fates i fate id numbers run.become there some in
      let below = k.below in
      let few = run.few in
      let most = domain.packets_most in
      record { count = k.count; is = k.is; no_less = omega arith; below = omega (arith, below, few, most) }

  trail_by : (i : ℕ) (fate : Fate) (key : Key) (carried : Option (FlowId × Numbers)) → slice_get fates i ≡ Some fate → fate.itinerary.carried ≡ carried
      → carried_key domain carried ≡ Some key → IsTrail key (records_by domain readings fate.packet fate.itinerary.visits carried)
  trail_by i fate key None there is its = absurd (cc its)
  trail_by i fate key (Some (id, numbers)) there is its =
      let k = known_at i fate id numbers there is in
      trail_of domain readings fate.packet fate.itinerary id numbers k.count k.is k.below key its

  -- the records of an arrival with a key have this key, and their hop values fall
  pub trail_at : (i : ℕ) (fate : Fate) (key : Key) → slice_get fates i ≡ Some fate → key_of domain fate ≡ Some key
      → IsTrail key (path_of domain readings fate)
  trail_at i fate key there its = trail_by i fate key fate.itinerary.carried there refl its

  flow_keyed : (flow : Flow) (numbers : Numbers) (packet : List ℕ) (visits : List Visit) (count : ℕ) (x : Record) (seq : Option ℕ)
      → is_some flow.flow_id ≡ is_some flow.direct → numbers.direct ≡ direct_number flow.direct flow.every count → numbers.direct ≡ seq
      → Has (along (recorded_at domain readings (tunnel_by domain (Some flow) numbers packet)) [] visits) x
      → (key : Key) × (key_for flow.namespace flow.flow_id numbers.direct ≡ Some key)
  flow_keyed flow numbers packet visits count x None both direct is has =
      let none = ap (direct_parts flow flow.direct) is ∙ parts_none flow flow.direct in
      absurd (subst (λ xs. Has xs x) (along_none domain readings (tunnel_by domain (Some flow) numbers packet) none [] visits) has)
  flow_keyed flow numbers packet visits count x (Some s) both direct is has =
      let id = some_is flow.flow_id (both ∙ numbered flow.direct flow.every count s (sym direct ∙ is)) in
      (record { namespace = flow.namespace; flow = id.0; seq = s }, ap₂ (key_for flow.namespace) id.1 is)

  keyed_by : (i : ℕ) (fate : Fate) (x : Record) (carried : Option (FlowId × Numbers)) → slice_get fates i ≡ Some fate → fate.itinerary.carried ≡ carried
      → Has (records_by domain readings fate.packet fate.itinerary.visits carried) x → (key : Key) × (carried_key domain carried ≡ Some key)
  keyed_by i fate x None there is has = absurd has
  keyed_by i fate x (Some (id, numbers)) there is has =
      let k = known_at i fate id numbers there is in
      let P : Option Flow → Type 0 = λ o. Has (along (recorded_at domain readings (tunnel_by domain o numbers fate.packet)) [] fate.itinerary.visits) x in
      let found = flow_keyed k.is.flow numbers fate.packet fate.itinerary.visits k.count x numbers.direct k.is.sound.direct_id k.is.direct refl (subst P k.is.found has) in
      (found.0, ap (λ o. flow_key o numbers.direct) k.is.found ∙ found.1)

  -- an arrival of which there is a record has a key
  pub keyed_at : (i : ℕ) (fate : Fate) (x : Record) → slice_get fates i ≡ Some fate → Has (path_of domain readings fate) x
      → (key : Key) × (key_of domain fate ≡ Some key)
  keyed_at i fate x there has = keyed_by i fate x fate.itinerary.carried there refl has

  -- ---- no two have one key

  -- what a key says of an arrival that has it
  record Says (key : Key) (id : FlowId) (numbers : Numbers) (flow : Flow) : Type 0 where
    pub found : slice_get (flows domain) id.0 ≡ Some flow
    pub namespace : flow.namespace.0 ≡ key.namespace.0
    pub id_is : flow.flow_id ≡ Some key.flow
    pub seq_is : numbers.direct ≡ Some key.seq

  says : (key : Key) (id : FlowId) (numbers : Numbers) (flow : Flow) → slice_get (flows domain) id.0 ≡ Some flow
      → flow_key (slice_get (flows domain) id.0) numbers.direct ≡ Some key → Says key id numbers flow
  says key id numbers flow found its =
      let parts = key_parts flow.namespace flow.flow_id numbers.direct key (ap (λ o. flow_key o numbers.direct) (sym found) ∙ its) in
      record {
        found = found;
        namespace = ap (λ (k : Key). k.namespace.0) parts.4;
        id_is = parts.2 ∙ ap (λ (k : Key). Some k.flow) parts.4;
        seq_is = parts.3 ∙ ap (λ (k : Key). Some k.seq) parts.4;
      }

  one_flow : (key : Key) (a b : FlowId) (m n : Numbers) (f g : Flow) → Says key a m f → Says key b n g → a ≡ b
  one_flow key a b m n f g x y =
      let same : a.0 ≡ b.0 = domain.sound_flows.apart.ids a.0 b.0 f g key.flow x.found y.found x.id_is y.id_is (x.namespace ∙ sym y.namespace) in
      let P : ℕ → FlowId = λ k. record { 0 = k } in
      ap P same

  one_rate : (e f : ℕ) (o : Option ℕ) → o ≡ Some e → o ≡ Some f → e ≡ f
  one_rate e f o a b = ap (λ (p : Option ℕ). unwrap_or p 0) (sym a ∙ b)

  one_count : (key : Key) (a b : Fate) (id : FlowId) (m n : Numbers) → m.direct ≡ Some key.seq → n.direct ≡ Some key.seq
      → (k l : ℕ) → Encloses domain a.itinerary id m k → Encloses domain b.itinerary id n l → k ≡ l
  one_count key a b id m n of_m of_n k l x y =
      let same : x.flow ≡ y.flow = ap (λ (o : Option Flow). unwrap_or o x.flow) (sym x.found ∙ y.found) in
      let one = number_is x.flow.direct x.flow.every k key.seq (sym x.direct ∙ of_m) in
      let other = number_is y.flow.direct y.flow.every l key.seq (sym y.direct ∙ of_n) in
      let rates : one.0 ≡ other.0 = one_rate one.0 other.0 y.flow.every (ap (λ (f : Flow). f.every) (sym same) ∙ one.1) other.1 in
      one.2 ∙ ap (λ e. key.seq * e) rates ∙ sym other.2

  apart_by : (key : Key) (i j : ℕ) (a b : Fate) (c d : Option (FlowId × Numbers)) → slice_get fates i ≡ Some a → slice_get fates j ≡ Some b
      → a.itinerary.carried ≡ c → b.itinerary.carried ≡ d → carried_key domain c ≡ Some key → carried_key domain d ≡ Some key → i ≡ j
  apart_by key i j a b None d there here of_a of_b its also = absurd (cc its)
  apart_by key i j a b (Some c) None there here of_a of_b its also = absurd (cc also)
  apart_by key i j a b (Some (id, m)) (Some (other, n)) there here of_a of_b its also =
      let one = known_at i a id m there of_a in
      let two = known_at j b other n here of_b in
      let x = says key id m one.is.flow one.is.found its in
      let y = says key other n two.is.flow two.is.found also in
      let same : id ≡ other = one_flow key id other m n one.is.flow two.is.flow x y in
      let of_same : b.itinerary.carried ≡ Some (id, n) = of_b ∙ ap (λ (f : FlowId). Some (f, n)) (sym same) in
      same_place domain readings [] frames fates i j a b id m n run.become there here of_a of_same (one_count key a b id m n x.seq_is y.seq_is)

  pub apart : (key : Key) (i j : ℕ) (a b : Fate) → slice_get fates i ≡ Some a → slice_get fates j ≡ Some b
      → key_of domain a ≡ Some key → key_of domain b ≡ Some key → i ≡ j
  apart key i j a b there here its also = apart_by key i j a b a.itinerary.carried b.itinerary.carried there here refl refl its also
