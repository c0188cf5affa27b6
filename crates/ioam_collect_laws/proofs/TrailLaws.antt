-- The records of an arrival that carries direct export: all have its key, and their hop values fall.
use Rattle.std.proofs.Common.{◌≡◌, ℕ, ◌+◌, ◌-◌, ◌*◌, ◌/◌, ◌%◌, ◌<◌, ◌≤◌, ◌^◌, zero, suc, Bool, true, false, cond, not, ◌&&◌, ◌||◌, List, [], ◌∷◌, ◌++◌, length, length-append, Option, Some, None, IfSome, slice_get, refl, sym, ap, ap₂, ◌∙◌, subst, arith}
use Rattle.std.specs.Prelude.{is_some, unwrap_or, ◌==◌}
use Rattle.std.specs.List.{AllByRecursion}
use Rattle.std.specs.Option.{ForSome}
use Rattle.std.proofs.Math.Nat.{div-le_self}
use Rattle.std.proofs.lemmas.Nat.{div-add-mod'}
use Rattle.std.proofs.lemmas.Bool.{and_parts, eqb-true}
use Rattle.std.proofs.lemmas.List.{append-nil}
use Rattle.std.proofs.lemmas.List.Elements.{recursion_from_All}
use Rattle.ioam_run_texts.specs.Along.{along}
use Rattle.ioam_run_texts.specs.Sample.{Sample}
use Rattle.ioam_collect.specs.Keyed.{core_of, hops_of, item_of, keyed_by, keyed_of}
use Rattle.ioam_collect.specs.declared.key.Key.{Key}
use Rattle.ioam_data.specs.Kind.{has, is_entry_type}
use Rattle.ioam_data.specs.declared.namespace.Namespace.{Namespace}
use Rattle.ioam_dex.specs.Direct.{IsDirect, HasItsNumbers, direct_octets}
use Rattle.ioam_dex.specs.Numbers.{has_flow, has_seq}
use Rattle.ioam_dex.specs.Record.{Record}
use Rattle.ioam_dex.specs.Visit.{visit_octets}
use Rattle.ioam_dex.specs.declared.direct.Direct.{Direct}
use Rattle.ioam_ip.specs.Laid.{Part}
use Rattle.ioam_run_texts.specs.Place.{Place}
use Rattle.ioam_run_texts.specs.Drawn.{direct_number}
use Rattle.ioam_run_texts.specs.Itinerary.{Itinerary}
use Rattle.ioam_run_texts.specs.Visit.{Visit}
use Rattle.ioam_pool.specs.Entry.{Entry, bare, has_some, is_full}
use Rattle.ioam_topo.specs.Domain.{flows, nodes}
use Rattle.ioam_topo.specs.Sound.{IsFlow, IsNode}
use Rattle.ioam_topo.specs.declared.domain.Domain.{Domain}
use Rattle.ioam_topo.specs.declared.ids.FlowId.{FlowId}
use Rattle.ioam_topo.specs.declared.parts.Flow.{Flow}
use Rattle.ioam_topo.specs.declared.parts.Node.{Node}
use Rattle.ioam_run_texts.specs.Enclosed.{direct_of, direct_parts, tunnel_by, tunnel_of}
use Rattle.ioam_run_texts.specs.Wire.{Tunnel}
use Rattle.ioam_run_texts.specs.Numbers.{Numbers}
use Rattle.ioam_run_texts.specs.Exports.{export_type, record_for, records_of}
use Rattle.ioam_run_texts.specs.Seeing.{id_of, view_of}
use Rattle.ioam_run_texts.specs.Step.{knows}
use Rattle.ioam_run_texts.specs.Visits.{part_records}
use Rattle.ioam_run_texts.proofs.RecordsLaws.{records-direct}
use Rattle.ioam_collect_laws.specs.Paths.{flow_key, key_for, recorded_at}
use Rattle.ioam_collect_laws.proofs.EnclosedLaws.{Encloses}
use Rattle.ioam_collect_laws.proofs.HopLaws.{hops-read}

-- ---- a record with a key

abbrev pub hop_in : Record → ℕ
hop_in x = unwrap_or (hops_of x) 0

abbrev pub item : Record → Entry
item x = item_of (hop_in x) x

-- the record and its version 1 record have this key, and it tells its visit
pub record IsKeyed (key : Key) (x : Record) : Type 0 where
  pub keyed : keyed_of x ≡ Some (key, item x)
  pub core : keyed_of (core_of x) ≡ Some (key, bare (item x))
  pub tells : is_full (item x) ≡ true

abbrev key_with : ℕ → ℕ → ℕ → Key
key_with namespace flow seq = record { namespace = record { 0 = namespace }; flow = flow; seq = seq }

keyed_parts : (x : Record) (a b c : Option ℕ) (flow seq hops : ℕ) → a ≡ Some flow → b ≡ Some seq → c ≡ Some hops
    → keyed_by x a b c ≡ Some (key_with x.namespace flow seq, item_of (unwrap_or c 0) x)
keyed_parts x None b c flow seq hops f s h = absurd (cc f)
keyed_parts x (Some a) None c flow seq hops f s h = absurd (cc s)
keyed_parts x (Some a) (Some b) None flow seq hops f s h = absurd (cc h)
keyed_parts x (Some a) (Some b) (Some c) flow seq hops f s h =
    let one : a ≡ flow = ap (λ (o : Option ℕ). unwrap_or o a) f in
    let two : b ≡ seq = ap (λ (o : Option ℕ). unwrap_or o b) s in
    ap (λ n. Some (key_with x.namespace n b, item_of c x)) one ∙ ap (λ n. Some (key_with x.namespace flow n, item_of c x)) two

pub is_keyed : (x : Record) (flow seq hops : ℕ) (visit : ℕ × ℕ) → x.flow ≡ Some flow → x.seq ≡ Some seq → hops_of x ≡ Some hops → x.visit ≡ Some visit
    → IsKeyed (key_with x.namespace flow seq) x
is_keyed x flow seq hops visit f s h v = record {
  keyed = keyed_parts x x.flow x.seq (hops_of x) flow seq hops f s h;
  core = keyed_parts (core_of x) x.flow x.seq (hops_of x) flow seq hops f s h;
  tells = ap (λ (o : Option (ℕ × ℕ)). has_some (visit_octets o)) v;
}

-- ---- the hop value of a record

not_off : (b : Bool) → not b ≡ true → b ≡ false
not_off true is = absurd (cc is)
not_off false is = refl

id_below : (xs : List Node) (at : ℕ) → AllByRecursion IsNode xs → id_of (slice_get xs at) < 72057594037927936
id_below [] at all = omega arith
id_below (x ∷ xs) zero all = let below = all.0.id_below in omega (arith, below)
id_below (x ∷ xs) (suc at) all = id_below xs at all.1

module _ (domain : Domain) (readings : List (List Sample)) where
  view-hops : (place : Place) (time hops space : ℕ) → (view_of domain readings place time hops space).hops ≡ hops
  unfolding view_of
  view-hops place time hops space = refl

  view-id : (place : Place) (time hops space : ℕ) → (view_of domain readings place time hops space).id < 72057594037927936
  unfolding view_of
  view-id place time hops space = id_below (nodes domain) place.node.0 (recursion_from_All IsNode (nodes domain) domain.sound_nodes.sound)

  kept_type : (kind : ℕ) → has kind 7 ≡ false → export_type kind ≡ kind
  kept_type kind off = ap (λ (b : Bool). cond b (kind - 65536) kind) off

  module _ (place : Place) (time hops : ℕ) (direct : Direct) where
    record-hops : hops < 256 → has direct.kind 7 ≡ false → (has direct.kind 0 || has direct.kind 8) ≡ true
        → hops_of (record_for domain readings place time hops direct) ≡ Some hops
    unfolding record_for
    record-hops below off some =
        let kind = export_type direct.kind in
        let view = view_of domain readings place time hops direct.namespace.0 in
        let given = view-hops place time hops direct.namespace.0 in
        let on : (has kind 0 || has kind 8) ≡ true = ap (λ k. has k 0 || has k 8) (kept_type direct.kind off) ∙ some in
        hops-read kind view on (omega (arith, given, below)) (view-id place time hops direct.namespace.0) ∙ ap (λ n. Some n) given

    record-flow : (record_for domain readings place time hops direct).flow ≡ direct.flow
    unfolding record_for
    record-flow = refl

    record-seq : (record_for domain readings place time hops direct).seq ≡ direct.seq
    unfolding record_for
    record-seq = refl

    record-namespace : (record_for domain readings place time hops direct).namespace ≡ direct.namespace.0
    unfolding record_for
    record-namespace = refl

    record-visit : (record_for domain readings place time hops direct).visit ≡ Some (time, place.inward)
    unfolding record_for
    record-visit = refl

-- ---- the records of a path

abbrev pub Falls : List Record → Type 0
Falls [] = Unit {0}
Falls (x ∷ xs) = AllByRecursion (λ later. hop_in later < hop_in x) xs × Falls xs

pub record IsTrail (key : Key) (xs : List Record) : Type 0 where
  pub each : AllByRecursion (IsKeyed key) xs
  pub falls : Falls xs

pub cond_append : (b : Bool) (x : Record) (more : List Record) → cond b (x ∷ []) [] ++ more ≡ cond b (x ∷ more) more
cond_append true x more = refl
cond_append false x more = refl

pub all_cond : (P : Record → Type 0) (b : Bool) (x : Record) (more : List Record) → P x → AllByRecursion P more → AllByRecursion P (cond b (x ∷ more) more)
all_cond P true x more first rest = (first, rest)
all_cond P false x more first rest = rest

all_weaker : (P Q : Record → Type 0) (xs : List Record) → ((x : Record) → P x → Q x) → AllByRecursion P xs → AllByRecursion Q xs
all_weaker P Q [] turn all = tt
all_weaker P Q (x ∷ xs) turn all = (turn x all.0, all_weaker P Q xs turn all.1)

falls_cond : (b : Bool) (x : Record) (more : List Record) → AllByRecursion (λ later. hop_in later < hop_in x) more → Falls more → Falls (cond b (x ∷ more) more)
falls_cond true x more first rest = (first, rest)
falls_cond false x more first rest = rest

module _ (domain : Domain) (readings : List (List Sample)) (direct : Direct) (hops flow seq : ℕ) (is : IsDirect direct) (has_both : HasItsNumbers direct)
    (of_flow : direct.flow ≡ Some flow) (of_seq : direct.seq ≡ Some seq) (below : hops < 256) (off : has direct.kind 7 ≡ false)
    (some : (has direct.kind 0 || has direct.kind 8) ≡ true) where
  abbrev told : ℕ → Visit → Record
  told before visit = record_for domain readings visit.place visit.time (hops - before) direct

  abbrev trail : ℕ → List Visit → List Record
  trail before [] = []
  trail before (visit ∷ visits) =
      cond (knows domain visit.place.node.0 direct.namespace.0) (told before visit ∷ trail (before + 1) visits) (trail (before + 1) visits)

  abbrev key : Key
  key = record { namespace = direct.namespace; flow = flow; seq = seq }

  told-hops : (before : ℕ) (visit : Visit) → hops_of (told before visit) ≡ Some (hops - before)
  told-hops before visit = record-hops domain readings visit.place visit.time (hops - before) direct (omega (arith, below)) off some

  told-hop : (before : ℕ) (visit : Visit) → hop_in (told before visit) ≡ hops - before
  told-hop before visit = ap (λ (o : Option ℕ). unwrap_or o 0) (told-hops before visit)

  told-keyed : (before : ℕ) (visit : Visit) → IsKeyed key (told before visit)
  told-keyed before visit =
      let n = hops - before in
      let named = record-namespace domain readings visit.place visit.time n direct in
      subst (λ space. IsKeyed (key_with space flow seq) (told before visit)) named
      (is_keyed (told before visit) flow seq n (visit.time, visit.place.inward) (record-flow domain readings visit.place visit.time n direct ∙ of_flow)
      (record-seq domain readings visit.place visit.time n direct ∙ of_seq) (told-hops before visit) (record-visit domain readings visit.place visit.time n direct))

  trail-keyed : (before : ℕ) (visits : List Visit) → AllByRecursion (IsKeyed key) (trail before visits)
  trail-keyed before [] = tt
  trail-keyed before (visit ∷ visits) = all_cond (IsKeyed key) (knows domain visit.place.node.0 direct.namespace.0) (told before visit) (trail (before + 1) visits)
      (told-keyed before visit) (trail-keyed (before + 1) visits)

  trail-low : (before : ℕ) (visits : List Visit) → AllByRecursion (λ x. hop_in x ≤ hops - before) (trail before visits)
  trail-low before [] = tt
  trail-low before (visit ∷ visits) =
      let same = told-hop before visit in
      all_cond (λ x. hop_in x ≤ hops - before) (knows domain visit.place.node.0 direct.namespace.0) (told before visit) (trail (before + 1) visits)
      (omega (arith, same))
      (all_weaker (λ x. hop_in x ≤ hops - (before + 1)) (λ x. hop_in x ≤ hops - before) (trail (before + 1) visits) (λ x low. omega (arith, low)) (trail-low (before + 1) visits))

  behind : (before : ℕ) (visit : Visit) (visits : List Visit) → before + 1 + length visits ≤ hops + 1
      → AllByRecursion (λ later. hop_in later < hop_in (told before visit)) (trail (before + 1) visits)
  behind before visit [] fits = tt
  behind before visit (next ∷ visits) fits =
      let same = told-hop before visit in
      all_weaker (λ x. hop_in x ≤ hops - (before + 1)) (λ x. hop_in x < hop_in (told before visit)) (trail (before + 1) (next ∷ visits))
      (λ x low. omega (arith, low, same, fits)) (trail-low (before + 1) (next ∷ visits))

  trail-falls : (before : ℕ) (visits : List Visit) → before + length visits ≤ hops + 1 → Falls (trail before visits)
  trail-falls before [] fits = tt
  trail-falls before (visit ∷ visits) fits =
      falls_cond (knows domain visit.place.node.0 direct.namespace.0) (told before visit) (trail (before + 1) visits)
      (behind before visit visits (omega (arith, fits))) (trail-falls (before + 1) visits (omega (arith, fits)))

  abbrev part : Part
  part = record { kind = 0x11; body = 0 ∷ 4 ∷ direct_octets direct 0 }

  module _ (tunnel : Tunnel) (others : tunnel.others ≡ part ∷ []) (same : tunnel.hops ≡ hops) where
    pub recorded : (done : List Visit) (visit : Visit)
        → recorded_at domain readings tunnel done visit ≡ cond (knows domain visit.place.node.0 direct.namespace.0) (told (length done) visit ∷ []) []
    recorded done visit =
        ap₂ (λ os (h : ℕ). part_records (records_of domain readings visit.place visit.time (h - length done)) os) others same
        ∙ append-nil (records_of domain readings visit.place visit.time (hops - length done) 0x11 (0 ∷ 4 ∷ direct_octets direct 0))
        ∙ records-direct domain readings visit.place visit.time (hops - length done) direct is has_both

    along-trail : (done visits : List Visit) → along (recorded_at domain readings tunnel) done visits ≡ trail (length done) visits
    along-trail done [] = refl
    along-trail done (visit ∷ visits) =
        ap₂ (λ xs ys. xs ++ ys) (recorded done visit)
        (along-trail (done ++ visit ∷ []) visits ∙ ap (λ n. trail n visits) (length-append done (visit ∷ [])))
        ∙ cond_append (knows domain visit.place.node.0 direct.namespace.0) (told (length done) visit) (trail (length done + 1) visits)

    pub path-trail : (visits : List Visit) → length visits ≤ hops + 1 → IsTrail key (along (recorded_at domain readings tunnel) [] visits)
    path-trail visits fits = subst (IsTrail key) (sym (along-trail [] visits))
        (record { each = trail-keyed 0 visits; falls = trail-falls 0 visits (omega (arith, fits)) })

-- ---- the path of an arrival

pub key_parts : (namespace : Namespace) (flow seq : Option ℕ) (key : Key) → key_for namespace flow seq ≡ Some key
    → (f : ℕ) × (s : ℕ) × (flow ≡ Some f) × (seq ≡ Some s) × (record { namespace = namespace; flow = f; seq = s } ≡ key)
key_parts namespace None seq key is = absurd (cc is)
key_parts namespace (Some f) None key is = absurd (cc is)
key_parts namespace (Some f) (Some s) key is = (f, s, refl, refl, ap (λ (o : Option Key). unwrap_or o key) is)

pub some_is : (o : Option ℕ) → is_some o ≡ true → (n : ℕ) × (o ≡ Some n)
some_is None is = absurd (cc is)
some_is (Some n) is = (n, refl)

-- the number is so many times the rate
pub number_is : (kind every : Option ℕ) (count seq : ℕ) → direct_number kind every count ≡ Some seq → (e : ℕ) × (every ≡ Some e) × (count ≡ seq * e) × (seq ≤ count)
number_is None every count seq is = absurd (cc is)
number_is (Some kind) None count seq is = absurd (cc is)
number_is (Some kind) (Some e) count seq is = by_test (count % e == 0) refl is where
  by_test : (b : Bool) → (count % e == 0) ≡ b → cond b (Some (count / e)) None ≡ Some seq → (f : ℕ) × (Some e ≡ Some f) × (count ≡ seq * f) × (seq ≤ count)
  by_test true zero_is same =
      let its : count / e ≡ seq = ap (λ (o : Option ℕ). unwrap_or o seq) same in
      let rest : count % e ≡ 0 = eqb-true (count % e) 0 zero_is in
      let whole : count / e * e + count % e ≡ count = div-add-mod' count e in
      let times : count / e * e ≡ seq * e = ap (λ n. n * e) its in
      let less : count / e ≤ count = div-le_self count e in
      (e, refl, omega (arith, whole, rest, times), omega (arith, less, its))
  by_test false zero_is same = absurd (cc same)

pub if_some : (P : ℕ → Type 0) (o : Option ℕ) → ForSome o P → IfSome o P
if_some P None all = tt
if_some P (Some x) all = all x refl

module _ (flow : Flow) (sound : IsFlow flow) (kind id seq : ℕ) (direct : flow.direct ≡ Some kind) (of_id : flow.flow_id ≡ Some id)
    (seq_below : seq < 4294967296) where
  pub is_direct : IsDirect (direct_of flow kind seq)
  is_direct = record {
    namespace_below = sound.namespace_below;
    flags_below = omega arith;
    ext_below = omega arith;
    kind_below = sound.direct_below kind direct;
    flow_below = if_some (λ id. id < 2 ^ 32) flow.flow_id sound.id_below;
    seq_below = seq_below;
  }

  pub has_its : HasItsNumbers (direct_of flow kind seq)
  unfolding has_flow has_seq
  has_its = record { flow = ap is_some of_id; seq = refl }

  pub bits : (has kind 7 ≡ false) × ((has kind 0 || has kind 8) ≡ true)
  bits =
      let entry = and_parts (is_entry_type kind) (not (has kind 7) && (has kind 0 || has kind 8)) (sound.direct_type kind direct) in
      let both = and_parts (not (has kind 7)) (has kind 0 || has kind 8) entry.1 in
      (not_off (has kind 7) both.0, both.1)

  pub flow-trail : (domain : Domain) (readings : List (List Sample)) (numbers : Numbers) (packet : List ℕ) (visits : List Visit) → numbers.direct ≡ Some seq
      → length visits ≤ flow.hops + 1
      → IsTrail (record { namespace = flow.namespace; flow = id; seq = seq }) (along (recorded_at domain readings (tunnel_by domain (Some flow) numbers packet)) [] visits)
  flow-trail domain readings numbers packet visits of_seq fits =
      path-trail domain readings (direct_of flow kind seq) flow.hops id seq is_direct has_its of_id refl sound.hops_below bits.0 bits.1
      (tunnel_by domain (Some flow) numbers packet) (ap₂ (direct_parts flow) direct of_seq) refl visits fits

module _ (domain : Domain) (readings : List (List Sample)) (packet : List ℕ) (it : Itinerary) (id : FlowId) (numbers : Numbers) (count : ℕ)
    (is : Encloses domain it id numbers count) (below : count < 4294967296) where
  trail_by : (key : Key) → key_for is.flow.namespace is.flow.flow_id numbers.direct ≡ Some key
      → IsTrail key (along (recorded_at domain readings (tunnel_by domain (Some is.flow) numbers packet)) [] it.visits)
  trail_by key its =
      let parts = key_parts is.flow.namespace is.flow.flow_id numbers.direct key its in
      let f = parts.0 in
      let s = parts.1 in
      let of_id : is.flow.flow_id ≡ Some f = parts.2 in
      let of_seq : numbers.direct ≡ Some s = parts.3 in
      let kind = some_is is.flow.direct (sym is.sound.direct_id ∙ ap is_some of_id) in
      let number = number_is is.flow.direct is.flow.every count s (sym is.direct ∙ of_seq) in
      let small = number.3 in
      subst (λ k. IsTrail k (along (recorded_at domain readings (tunnel_by domain (Some is.flow) numbers packet)) [] it.visits)) parts.4
      (flow-trail is.flow is.sound kind.0 f s kind.1 of_id (omega (arith, small, below)) domain readings numbers packet it.visits of_seq is.few)

  pub trail_of : (key : Key) → flow_key (slice_get (flows domain) id.0) numbers.direct ≡ Some key
      → IsTrail key (along (recorded_at domain readings (tunnel_of domain id numbers packet)) [] it.visits)
  trail_of key its =
      let P : Option Flow → Type 0 = λ o. IsTrail key (along (recorded_at domain readings (tunnel_by domain o numbers packet)) [] it.visits) in
      subst P (sym is.found) (trail_by key (ap (λ o. flow_key o numbers.direct) (sym is.found) ∙ its))
