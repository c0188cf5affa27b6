-- Laws of the extra traces that are collected.
use Rattle.std.proofs.Common.{◌≡◌, ◌≢◌, ◌<◌, ◌≤◌, ℕ, ◌+◌, Bool, true, false, nat_eq, nat_lt, cond, List, [], ◌∷◌, ◌++◌, map, length, take, set, slice_get, Option, Some, None, is_some, option_map, Result, Ok, Err, refl, ap, sym, subst, ◌∙◌, arith, codes, get_or}
use Rattle.std.specs.List.{All, list_any}
use Rattle.std.proofs.lemmas.Bool.Decides.{nat_tests}
use Rattle.std.proofs.lemmas.List.Elements.{All-cons, All-nil, All-push, All-append, All-get_or, All-set}
use Rattle.std.proofs.lemmas.List.{length-append}
use Rattle.std.proofs.lemmas.List.Quantifiers.{all_pairs_push}
use Rattle.std.proofs.lemmas.Option.{slice_get-map, slice_get_cases, slice_get_within, get_or_from_slice_get}
use Rattle.toml.specs.Data.{Data, Members, get_member}
use Rattle.ioam_data.specs.declared.namespace.Namespace.{Namespace}
use Rattle.ioam_topo_values.specs.declared.why.Why.{Why}
use Rattle.ioam_topo_values.specs.declared.why.Why.TheVariants.{Twice, TooMany}
use Rattle.ioam_topo_values.specs.Reads.{◌▷◌, needed}
use Rattle.ioam_topo_values.specs.Numbers.{number}
use Rattle.ioam_topo_values.specs.Texts.{name}
use Rattle.ioam_topo_tables.specs.declared.nodes.Nodes.{Nodes}
use Rattle.ioam_topo.specs.declared.parts.Node.{Node}
use Rattle.ioam_topo.specs.declared.parts.Flow.{Flow}
use Rattle.ioam_topo_tables.specs.declared.flows.Flows.{Flows}
use Rattle.ioam_topo.specs.declared.traces.FlowTrace.{FlowTrace}
use Rattle.ioam_topo_tables.specs.Flows.{with_trace}
use Rattle.ioam_topo.specs.Keyed.{is_pair}
use Rattle.ioam_topo.specs.Kept.{JoinsEnds}
use Rattle.ioam_topo.specs.Known.{is_known, IsKnownAtEnds}
use Rattle.ioam_topo.specs.Sound.{IsFlow}
use Rattle.ioam_topo.specs.Traces.{IsFlowTrace, own_traces}
use Rattle.ioam_topo_entries.specs.Goods.{known, list_of}
use Rattle.ioam_topo_entries.proofs.GoodsLaws.{goods_push, known_below}
use Rattle.ioam_topo_entries.proofs.KeyLaws.{kept_by}
use Rattle.ioam_topo_entries.proofs.ReadLaws.{passed, needed_bounds}
use Rattle.ioam_topo_entries.specs.declared.words.Table.TheVariants.{ExtraTable}
use Rattle.ioam_topo_entries.specs.declared.fault.DomainFault.{DomainFault}
use Rattle.ioam_topo_entries.specs.Faults.{at, other_key}
use Rattle.ioam_topo_entries.specs.Keys.{own_keys}
use Rattle.ioam_data.specs.Kind.{is_entry_type}
use Rattle.ioam_topo_values.specs.Types.{trace_type}
use Rattle.ioam_topo_flows.proofs.DataLaws.{fresh_with_new}
use Rattle.ioam_topo_flows.specs.declared.extra_table.Extras.{Extras}
use Rattle.ioam_topo_flows.specs.Apart.{fresh_with}
use Rattle.ioam_topo_flows.specs.Spaces.{known_at}
use Rattle.ioam_topo_flows.proofs.SpaceLaws.{known_read}
use Rattle.ioam_topo_flows.specs.FlowTable.{FlowLook}
use Rattle.ioam_topo_flows.specs.FlowRead.{look_of}
use Rattle.ioam_topo_flows.specs.ExtraTable.{extra_flow, extra_trace, extra_capacity, kind_keys, extra_keys, extra_faults, extra_space, extra_look, seen, look_in, traced_at, times, few_of, unlike, traces_at, with_traces, traced}
use Rattle.ioam_topo_flows.specs.ExtraRead.{OwnAlone, IsFitting, KeepsFlows, HoldsExtras, IsNewExtra, place_of_extra, key_of_extra, flow_behind, key_behind, extra_behind}
use Rattle.ioam_topo_flows.proofs.TracedLaws.{traced_push, traced_get, traced_none, times_traces, apart_traces}

pub held_faults : (nodes : Nodes) (flows : Flows) (earlier : List Members) (extras : Extras) (place : ℕ) (m : Members) → HoldsExtras nodes flows earlier extras
    → place ≡ length earlier + 1 → extra_keys flows.names (map look_of flows.items.items) (map list_of nodes.items.items) place extras.places.items extras.taken.keys m
    ≡ extra_faults flows.names (map look_of flows.items.items) (map list_of nodes.items.items) earlier m
held_faults nodes flows earlier extras place m holds there = rw (holds.places, holds.keys, there)

-- what was read and then found to be of few is what was read
few_under : (b : Bool) (i x : ℕ) → cond b (Ok i) (Err TooMany) ≡ Ok x → (b ≡ true) × (i ≡ x)
few_under true i x is = (refl, cc)
few_under false i x is = cc

pub few_read : (before : List ℕ) (r : Result ℕ Why) (x : ℕ) → r ▷ few_of before ≡ Ok x → (r ≡ Ok x) × (times x before < 2)
few_read before (Ok i) x is =
    let both : (nat_lt (times i before) 2 ≡ true) × (i ≡ x) = few_under (nat_lt (times i before) 2) i x is in
    let below : times i before < 2 = grind (arith, nat_tests, both.0) in
    (ap Ok both.1, subst (λ n. times n before < 2) both.1 below)
few_read before (Err why) x is = cc

twice_under : (b : Bool) (n x : ℕ) → cond b (Err Twice) (Ok n) ≡ Ok x → (b ≡ false) × (n ≡ x)
twice_under true n x is = cc
twice_under false n x is = (refl, cc)

-- a namespace that isn't the flow's own
pub unlike_read : (own : ℕ) (r : Result ℕ Why) (x : ℕ) → r ▷ unlike (Ok own) ≡ Ok x → (r ≡ Ok x) × (own ≢ x)
unlike_read own (Ok n) x is =
    let both : (nat_eq own n ≡ false) × (n ≡ x) = twice_under (nat_eq own n) n x is in
    let other : own ≢ n = grind (arith, nat_tests, both.0) in
    (ap Ok both.1, subst (λ m. own ≢ m) both.1 other)
unlike_read own (Err why) x is = cc

-- a namespace that isn't the flow's own is what was read
pub unlike_any : (own : Result ℕ Why) (r : Result ℕ Why) (x : ℕ) → r ▷ unlike own ≡ Ok x → r ≡ Ok x
unlike_any (Ok own) r x is = (unlike_read own r x is).0
unlike_any (Err why) (Ok n) x is = is
unlike_any (Err why) (Err other) x is = cc

-- what was found to be fresh is what was read
pub fresh_read : (a : ℕ) (taken : List (ℕ × ℕ)) (r : Result ℕ Why) (x : ℕ) → r ▷ fresh_with (Ok a) taken ≡ Ok x → r ≡ Ok x
fresh_read a taken (Ok n) x is = ap Ok (twice_under (list_any (is_pair a n) taken) n x is).1
fresh_read a taken (Err why) x is = cc

-- what a flow that is there, and has a trace, says
has_trace : (trace : Option ℕ) (i x : ℕ) → traced_at (Ok trace) i ≡ Ok x → (is_some trace ≡ true) × (i ≡ x)
has_trace None i x is = cc
has_trace (Some kind) i x is = (refl, cc)

look_there : (items : List Flow) (i : ℕ) (flow : Flow) → slice_get items i ≡ Some flow → seen (slice_get (map look_of items) i) ≡ look_of flow
look_there items i flow there = ap seen (slice_get-map look_of items i ∙ ap (option_map look_of) there)

-- a flow that an entry names is one of those
traced_place : (trace : Result (Option ℕ) Why) (i x : ℕ) → traced_at trace i ≡ Ok x → i ≡ x
traced_place (Ok None) i x is = cc
traced_place (Ok (Some kind)) i x is = cc
traced_place (Err why) i x is = cc

named_within : (names : List (List ℕ)) (items : List Flow) (r : Result (List ℕ) Why) (x : ℕ)
    → r ▷ known names ▷ (λ i. traced_at (seen (slice_get (map look_of items) i)).trace i) ≡ Ok x → x < length names
named_within names items r x is = of_place (r ▷ known names) refl is where
  of_place : (s : Result ℕ Why) → r ▷ known names ≡ s → s ▷ (λ i. traced_at (seen (slice_get (map look_of items) i)).trace i) ≡ Ok x → x < length names
  of_place (Ok i) knows also =
      let below : i < length names = known_below names r i knows in
      let same : i ≡ x = traced_place (seen (slice_get (map look_of items) i)).trace i x also in omega (arith, below, same)
  of_place (Err why) knows also = cc

-- a flow that an entry names has a trace
pub named_traced : (names : List (List ℕ)) (items : List Flow) (r : Result ℕ Why) (x : ℕ) (flow : Flow)
    → r ▷ (λ i. traced_at (seen (slice_get (map look_of items) i)).trace i) ≡ Ok x → slice_get items x ≡ Some flow → is_some flow.trace ≡ true
named_traced names items (Ok i) x flow is there =
    let same : i ≡ x = traced_place (seen (slice_get (map look_of items) i)).trace i x is in
    let P : ℕ → Type 0 = λ n. traced_at (seen (slice_get (map look_of items) n)).trace n ≡ Ok x in
    let at : traced_at (seen (slice_get (map look_of items) x)).trace x ≡ Ok x = subst P same is in
    let Q : FlowLook → Type 0 = λ look. traced_at look.trace x ≡ Ok x in
    (has_trace flow.trace x x (subst Q (look_there items x flow there) at)).0
named_traced names items (Err why) x flow is there = cc

-- a namespace that was read behind a flow fits the flow
pub space_fits : (nodes : List Node) (items : List Flow) (i : ℕ) (r : Result ℕ Why) (n : ℕ) (flow : Flow) (t : FlowTrace) → t.namespace.0 ≡ n
    → r ▷ known_at (map list_of nodes) (look_in (map look_of items) (Ok i)).entry ▷ known_at (map list_of nodes) (look_in (map look_of items) (Ok i)).exit
    ▷ unlike (look_in (map look_of items) (Ok i)).space ≡ Ok n
    → is_some flow.trace ≡ true → slice_get items i ≡ Some flow → JoinsEnds (length nodes) flow → IsFitting nodes flow t
space_fits nodes items i r n flow t named is here there joins =
    let P : FlowLook → Type 0 = λ look. r ▷ known_at (map list_of nodes) look.entry ▷ known_at (map list_of nodes) look.exit ▷ unlike look.space ≡ Ok n in
    let read : r ▷ known_at (map list_of nodes) (Ok flow.entry.0) ▷ known_at (map list_of nodes) (Ok flow.exit.0) ▷ unlike (Ok flow.namespace.0) ≡ Ok n
    = subst P (look_there items i flow there) is in
    let apart : (r ▷ known_at (map list_of nodes) (Ok flow.entry.0) ▷ known_at (map list_of nodes) (Ok flow.exit.0) ≡ Ok n) × (flow.namespace.0 ≢ n)
    = unlike_read flow.namespace.0 (r ▷ known_at (map list_of nodes) (Ok flow.entry.0) ▷ known_at (map list_of nodes) (Ok flow.exit.0)) n read in
    let exit : (r ▷ known_at (map list_of nodes) (Ok flow.entry.0) ≡ Ok n) × (is_known nodes flow.exit.0 n ≡ true)
    = known_read nodes flow.exit.0 (r ▷ known_at (map list_of nodes) (Ok flow.entry.0)) n joins.ends apart.0 in
    let entry : (r ≡ Ok n) × (is_known nodes flow.entry.0 n ≡ true) = known_read nodes flow.entry.0 r n joins.starts exit.0 in
    record {
      own = here;
      other = λ same. apart.1 (same ∙ named);
      at_entry = ap (is_known nodes flow.entry.0) named ∙ entry.1;
      at_exit = ap (is_known nodes flow.exit.0) named ∙ exit.1;
    }

-- a flow with one trace more keeps what is true of flows
some_own : (traces : List FlowTrace) (space : Namespace) (kind capacity : Option ℕ) (t : FlowTrace) → take 1 traces ≡ own_traces space kind capacity
    → is_some kind ≡ true → is_some capacity ≡ is_some kind → take 1 (traces ++ t ∷ []) ≡ own_traces space kind capacity
some_own (x ∷ xs) space kind capacity t own here both = own
some_own [] space (Some k) (Some c) t own here both = cc
some_own [] space (Some k) None t own here both = cc
some_own [] space None capacity t own here both = cc

pub flow_more : (flow : Flow) (t : FlowTrace) → IsFlow flow → IsFlowTrace t → is_some flow.trace ≡ true → length flow.traces ≤ 2
    → All (λ (other : FlowTrace). other.namespace.0 ≢ t.namespace.0) flow.traces → IsFlow (with_trace flow t)
flow_more flow t is sound here few others = record {
  source = is.source;
  target = is.target;
  namespace_below = is.namespace_below;
  hops_some = is.hops_some;
  hops_below = is.hops_below;
  label_most = is.label_most;
  trace_type = is.trace_type;
  capacity_some = is.capacity_some;
  capacity_most = is.capacity_most;
  trace_room = is.trace_room;
  own_first = some_own flow.traces flow.namespace flow.trace flow.capacity t is.own_first here is.trace_room;
  few_traces = omega (arith, few, length-append flow.traces (t ∷ []));
  traces_sound = All-push IsFlowTrace flow.traces t is.traces_sound sound;
  traces_apart = all_pairs_push (λ a b. a.namespace.0 ≢ b.namespace.0) flow.traces t is.traces_apart others;
  edge_some = is.edge_some;
  edge_type = is.edge_type;
  direct_type = is.direct_type;
  direct_below = is.direct_below;
  every_some = is.every_some;
  every_most = is.every_most;
  direct_every = is.direct_every;
  direct_id = is.direct_id;
  id_below = is.id_below;
}

pub known_more : (nodes : List Node) (flow : Flow) (t : FlowTrace) → IsKnownAtEnds nodes flow → is_known nodes flow.entry.0 t.namespace.0 ≡ true
    → is_known nodes flow.exit.0 t.namespace.0 ≡ true → IsKnownAtEnds nodes (with_trace flow t)
known_more nodes flow t is entry exit = record {
  at_entry = is.at_entry;
  at_exit = is.at_exit;
  traces_at_entry = All-push (λ (trace : FlowTrace). is_known nodes flow.entry.0 trace.namespace.0 ≡ true) flow.traces t is.traces_at_entry entry;
  traces_at_exit = All-push (λ (trace : FlowTrace). is_known nodes flow.exit.0 trace.namespace.0 ≡ true) flow.traces t is.traces_at_exit exit;
}

own_few : (space : Namespace) (kind capacity : Option ℕ) → length (own_traces space kind capacity) ≤ 1
own_few space (Some k) (Some c) = omega arith
own_few space (Some k) None = omega arith
own_few space None c = omega arith

own_other : (space : Namespace) (kind capacity : Option ℕ) (n : ℕ) → space.0 ≢ n
    → All (λ (other : FlowTrace). other.namespace.0 ≢ n) (own_traces space kind capacity)
own_other space (Some k) (Some c) n other = All-cons (λ (t : FlowTrace). t.namespace.0 ≢ n) _ [] other (All-nil (λ (t : FlowTrace). t.namespace.0 ≢ n))
own_other space (Some k) None n other = All-nil (λ (t : FlowTrace). t.namespace.0 ≢ n)
own_other space None c n other = All-nil (λ (t : FlowTrace). t.namespace.0 ≢ n)

all_at : (P : Flow → Type 0) (fs : List Flow) (i : ℕ) (f : Flow) → All P fs → slice_get fs i ≡ Some f → P f
all_at P fs i f all there = let at : get_or fs i f ≡ f = get_or_from_slice_get fs i f f there in
    subst P at (All-get_or P fs i f (slice_get_within fs i f there) all)

module _ (nodes : Nodes) (flows : Flows) (earlier : List Members) (m : Members) (extra : ℕ × FlowTrace) (old new : Extras) (holds : HoldsExtras nodes flows earlier old)
    (fits : IsNewExtra nodes flows old m extra) (items : new.items.items ≡ old.items.items ++ extra ∷ []) (places : new.places.items ≡ old.places.items ++ extra.0 ∷ [])
    (keys : new.taken.keys ≡ old.taken.keys ++ (extra.0, extra.1.namespace.0) ∷ []) (flow : Flow) (there : slice_get flows.items.items extra.0 ≡ Some flow) where
  abbrev now : Flow
  now = with_traces flow (traces_at extra.0 old.items.items)

  now_there : slice_get (traced 0 flows.items.items old.items.items) extra.0 ≡ Some now
  now_there = let place : 0 + extra.0 ≡ extra.0 = omega arith in
      traced_get 0 extra.0 flows.items.items old.items.items flow there ∙ ap (λ n. Some (with_traces flow (traces_at n old.items.items))) place

  more : traced 0 flows.items.items new.items.items ≡ set (traced 0 flows.items.items old.items.items) extra.0 (with_trace now extra.1)
  more = ap (traced 0 flows.items.items) items ∙ traced_push 0 extra.0 flows.items.items old.items.items extra now (omega arith) now_there

  fitting : IsFitting nodes.items.items flow extra.1
  fitting = fits.fits flow there (all_at (JoinsEnds (length nodes.items.items)) flows.items.items extra.0 flow holds.base.joined there)

  own : flow.traces ≡ own_traces flow.namespace flow.trace flow.capacity
  own = all_at OwnAlone flows.items.items extra.0 flow holds.base.own there

  few : length now.traces ≤ 2
  few = let a : length (flow.traces ++ traces_at extra.0 old.items.items) ≡ length flow.traces + length (traces_at extra.0 old.items.items) = length-append flow.traces (traces_at extra.0 old.items.items) in
      let b : length flow.traces ≤ 1 = subst (λ l. length l ≤ 1) (sym own) (own_few flow.namespace flow.trace flow.capacity) in
      let c : times extra.0 old.places.items ≡ length (traces_at extra.0 old.items.items) = ap (times extra.0) holds.placed ∙ times_traces extra.0 old.items.items in
      let d : times extra.0 old.places.items < 2 = fits.room in omega (arith, a, b, c, d)

  others : All (λ (other : FlowTrace). other.namespace.0 ≢ extra.1.namespace.0) now.traces
  others = All-append (λ (other : FlowTrace). other.namespace.0 ≢ extra.1.namespace.0) flow.traces (traces_at extra.0 old.items.items)
      (subst (λ l. All (λ (other : FlowTrace). other.namespace.0 ≢ extra.1.namespace.0) l) (sym own) (own_other flow.namespace flow.trace flow.capacity extra.1.namespace.0 fitting.other))
      (apart_traces extra.0 extra.1.namespace.0 old.items.items (ap (list_any (is_pair extra.0 extra.1.namespace.0)) (sym holds.keyed) ∙ fits.new_key))

  sound_now : IsFlow (with_trace now extra.1)
  sound_now = flow_more now extra.1 (all_at IsFlow (traced 0 flows.items.items old.items.items) extra.0 now holds.sound now_there) fits.sound fitting.own few others

  known_now : IsKnownAtEnds nodes.items.items (with_trace now extra.1)
  known_now = known_more nodes.items.items now extra.1
      (all_at (IsKnownAtEnds nodes.items.items) (traced 0 flows.items.items old.items.items) extra.0 now holds.known now_there) fitting.at_entry fitting.at_exit

  added : HoldsExtras nodes flows (earlier ++ m ∷ []) new
  added = record {
    items = goods_push (extra_behind nodes flows) earlier m extra _ _ fits.is holds.items items;
    places = goods_push (flow_behind nodes flows) earlier m extra.0 _ _ fits.flow_is holds.places places;
    keys = goods_push (key_behind nodes flows) earlier m (key_of_extra extra) _ _ fits.key_is holds.keys keys;
    placed = kept_by place_of_extra old.items.items new.items.items extra _ _ holds.placed items places;
    keyed = kept_by key_of_extra old.items.items new.items.items extra _ _ holds.keyed items keys;
    within = let P : List (ℕ × FlowTrace) → Type 0 = All (λ (x : ℕ × FlowTrace). x.0 < length flows.items.items) in
        subst P (sym items) (All-push (λ (x : ℕ × FlowTrace). x.0 < length flows.items.items) old.items.items extra holds.within (slice_get_within flows.items.items extra.0 flow there));
    base = holds.base;
    sound = let P : List Flow → Type 0 = All IsFlow in
        subst P (sym more) (All-set IsFlow (traced 0 flows.items.items old.items.items) extra.0 (with_trace now extra.1) sound_now holds.sound);
    known = let P : List Flow → Type 0 = All (IsKnownAtEnds nodes.items.items) in
        subst P (sym more) (All-set (IsKnownAtEnds nodes.items.items) (traced 0 flows.items.items old.items.items) extra.0 (with_trace now extra.1) known_now holds.known);
  }

-- no extra traces yet
pub extras_none : (nodes : Nodes) (flows : Flows) (none : Extras) → KeepsFlows nodes flows → none.items.items ≡ [] → none.places.items ≡ [] → none.taken.keys ≡ []
    → HoldsExtras nodes flows [] none
extras_none nodes flows none base items places keys = record {
  items = items;
  places = places;
  keys = keys;
  placed = places ∙ sym (ap (map place_of_extra) items);
  keyed = keys ∙ sym (ap (map key_of_extra) items);
  within = let P : List (ℕ × FlowTrace) → Type 0 = All (λ (x : ℕ × FlowTrace). x.0 < length flows.items.items) in subst P (sym items) (All-nil (λ (x : ℕ × FlowTrace). x.0 < length flows.items.items));
  base = base;
  sound = let P : List Flow → Type 0 = All IsFlow in subst P (sym (ap (traced 0 flows.items.items) items ∙ traced_none 0 flows.items.items)) base.sound;
  known = let P : List Flow → Type 0 = All (IsKnownAtEnds nodes.items.items) in
      subst P (sym (ap (traced 0 flows.items.items) items ∙ traced_none 0 flows.items.items)) base.known;
}

pub extra_added : (nodes : Nodes) (flows : Flows) (earlier : List Members) (m : Members) (extra : ℕ × FlowTrace) (old new : Extras)
    → HoldsExtras nodes flows earlier old → IsNewExtra nodes flows old m extra → new.items.items ≡ old.items.items ++ extra ∷ []
    → new.places.items ≡ old.places.items ++ extra.0 ∷ [] → new.taken.keys ≡ old.taken.keys ++ (extra.0, extra.1.namespace.0) ∷ []
    → HoldsExtras nodes flows (earlier ++ m ∷ []) new
extra_added nodes flows earlier m extra old new holds fits items places keys = of_flow (slice_get flows.items.items extra.0) refl where
  of_flow : (o : Option Flow) → slice_get flows.items.items extra.0 ≡ o → HoldsExtras nodes flows (earlier ++ m ∷ []) new
  of_flow (Some flow) there = added nodes flows earlier m extra old new holds fits items places keys flow there
  of_flow None there = let w : extra.0 < length flows.names = fits.within in let c : length flows.names ≡ length flows.items.items = holds.base.count in
      absurd (grind (arith, slice_get_cases flows.items.items extra.0, w, c, there))

-- the keys of an entry whose flow is read
module _ (names : List (List ℕ)) (looks : List FlowLook) (lists : List (Result (List Namespace) Why)) (m : Members) (i : ℕ) (flow_is : extra_flow names looks lists m ≡ Ok i) where
  pub space_behind : extra_space names looks lists m ≡ needed (number 0 65535) (get_member (codes "namespace") m) ▷ known_at lists (look_in looks (Ok i)).entry ▷ known_at lists (look_in looks (Ok i)).exit
  space_behind = ap (λ r. needed (number 0 65535) (get_member (codes "namespace") m) ▷ known_at lists (look_in looks r).entry ▷ known_at lists (look_in looks r).exit) flow_is

  pub fresh_behind : (taken : List (ℕ × ℕ)) → extra_space names looks lists m ▷ unlike (extra_look names looks lists m).space ▷ fresh_with (extra_flow names looks lists m) taken
      ≡ needed (number 0 65535) (get_member (codes "namespace") m) ▷ known_at lists (look_in looks (Ok i)).entry ▷ known_at lists (look_in looks (Ok i)).exit
      ▷ unlike (look_in looks (Ok i)).space ▷ fresh_with (Ok i) taken
  fresh_behind taken = ap (λ r. needed (number 0 65535) (get_member (codes "namespace") m) ▷ known_at lists (look_in looks r).entry ▷ known_at lists (look_in looks r).exit
      ▷ unlike (look_in looks r).space ▷ fresh_with r taken) flow_is

trace_allowed : (o : Option Data) (kind : ℕ) → needed trace_type o ≡ Ok kind → is_entry_type kind ≡ true
trace_allowed None kind is = cc
trace_allowed (Some d) kind is = passed is_entry_type (number 0 16777215 d) kind is

-- an extra trace of these, and what no two may share
abbrev extra_with : ℕ → ℕ → ℕ → ℕ → ℕ × FlowTrace
extra_with i space kind capacity = (i, record { namespace = record { 0 = space }; kind = kind; capacity = capacity })

abbrev key_with : ℕ → ℕ → ℕ × ℕ
key_with i space = (i, space)

extra_parts : (a b c d : Result ℕ Why) (i space kind capacity : ℕ) → a ≡ Ok i → b ≡ Ok space → c ≡ Ok kind → d ≡ Ok capacity
    → a ▷ (λ i. b ▷ (λ space. c ▷ (λ kind. d ▷ (λ capacity. Ok (extra_with i space kind capacity))))) ≡ Ok (extra_with i space kind capacity)
extra_parts a b c d i space kind capacity a_is b_is c_is d_is = rw (a_is, b_is, c_is, d_is)

key_parts : (a b : Result ℕ Why) (i space : ℕ) → a ≡ Ok i → b ≡ Ok space → a ▷ (λ i. b ▷ (λ space. Ok (key_with i space))) ≡ Ok (key_with i space)
key_parts a b i space a_is b_is = rw (a_is, b_is)

-- the extra trace of keys that were read
pub extra_read : (nodes : Nodes) (flows : Flows) (extras : Extras) (m : Members) (i space kind capacity : ℕ)
    → flow_behind nodes flows m ▷ few_of extras.places.items ≡ Ok i
    → needed (number 0 65535) (get_member (codes "namespace") m) ▷ known_at (map list_of nodes.items.items) (look_in (map look_of flows.items.items) (Ok i)).entry
    ▷ known_at (map list_of nodes.items.items) (look_in (map look_of flows.items.items) (Ok i)).exit
    ▷ unlike (look_in (map look_of flows.items.items) (Ok i)).space ▷ fresh_with (Ok i) extras.taken.keys ≡ Ok space
    → extra_trace m ≡ Ok kind → extra_capacity m ≡ Ok capacity
    → IsNewExtra nodes flows extras m (i, record { namespace = record { 0 = space }; kind = kind; capacity = capacity })
extra_read nodes flows extras m i space kind capacity named spaced traced_is sized =
    let few : (flow_behind nodes flows m ≡ Ok i) × (times i extras.places.items < 2) = few_read extras.places.items (flow_behind nodes flows m) i named in
    let other : needed (number 0 65535) (get_member (codes "namespace") m) ▷ known_at (map list_of nodes.items.items) (look_in (map look_of flows.items.items) (Ok i)).entry
    ▷ known_at (map list_of nodes.items.items) (look_in (map look_of flows.items.items) (Ok i)).exit ▷ unlike (look_in (map look_of flows.items.items) (Ok i)).space ≡ Ok space
    = fresh_read i extras.taken.keys _ space spaced in
    let read : extra_space flows.names (map look_of flows.items.items) (map list_of nodes.items.items) m ≡ Ok space
    = space_behind flows.names (map look_of flows.items.items) (map list_of nodes.items.items) m i few.0
    ∙ unlike_any (look_in (map look_of flows.items.items) (Ok i)).space _ space other in
    record {
      is = extra_parts _ _ _ _ i space kind capacity few.0 read traced_is sized;
      flow_is = few.0;
      key_is = key_parts _ _ i space few.0 read;
      within = named_within flows.names flows.items.items (needed name (get_member (codes "flow") m)) i few.0;
      room = few.1;
      new_key = fresh_with_new i extras.taken.keys _ space spaced;
      sound = record {
        kind_is = trace_allowed (get_member (codes "trace") m) kind traced_is;
        capacity_some = (needed_bounds 1 61 (get_member (codes "capacity") m) capacity sized).0;
        capacity_most = (needed_bounds 1 61 (get_member (codes "capacity") m) capacity sized).1;
      };
      fits = λ flow there joins. space_fits nodes.items.items flows.items.items i _ space flow (record { namespace = record { 0 = space }; kind = kind; capacity = capacity }) refl other
          (named_traced flows.names flows.items.items _ i flow few.0 there) there joins;
    }

-- such an entry has no faults but those of its type and its capacity
pub extra_rest : (nodes : Nodes) (flows : Flows) (extras : Extras) (m : Members) (place i space : ℕ) → at ExtraTable place other_key (own_keys ExtraTable m) ≡ []
    → flow_behind nodes flows m ▷ few_of extras.places.items ≡ Ok i
    → needed (number 0 65535) (get_member (codes "namespace") m) ▷ known_at (map list_of nodes.items.items) (look_in (map look_of flows.items.items) (Ok i)).entry
    ▷ known_at (map list_of nodes.items.items) (look_in (map look_of flows.items.items) (Ok i)).exit
    ▷ unlike (look_in (map look_of flows.items.items) (Ok i)).space ▷ fresh_with (Ok i) extras.taken.keys ≡ Ok space
    → kind_keys place m ≡ extra_keys flows.names (map look_of flows.items.items) (map list_of nodes.items.items) place extras.places.items extras.taken.keys m
extra_rest nodes flows extras m place i space own named spaced =
    let few : (flow_behind nodes flows m ≡ Ok i) × (times i extras.places.items < 2) = few_read extras.places.items (flow_behind nodes flows m) i named in
    let read = fresh_behind flows.names (map look_of flows.items.items) (map list_of nodes.items.items) m i few.0 extras.taken.keys ∙ spaced in
    behind_three own (ap (at ExtraTable place (codes "flow")) named) (ap (at ExtraTable place (codes "namespace")) read) where
      behind_three : {a b c d : List DomainFault} → a ≡ [] → b ≡ [] → c ≡ [] → d ≡ a ++ (b ++ (c ++ d))
      behind_three a b c = rw (a, b, c)
