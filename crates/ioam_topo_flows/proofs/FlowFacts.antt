-- What is true of flows, from what their entries read as.
use Rattle.std.proofs.Common.{◌≡◌, ◌<◌, ◌≤◌, ◌^◌, ℕ, Bool, true, false, cond, ◌||◌, codes, List, Option, Some, None, is_some, Result, Ok, Err, refl, ap, subst, arith}
use Rattle.std.specs.List.{All}
use Rattle.std.specs.Option.{ForSome}
use Rattle.toml.specs.Data.{Data, Members, get_member}
use Rattle.ioam_data.specs.Kind.{is_entry_type}
use Rattle.ioam_data.specs.declared.namespace.Namespace.{Namespace}
use Rattle.ioam_topo_values.specs.declared.why.Why.{Why}
use Rattle.ioam_topo_values.specs.declared.why.Why.TheVariants.{Range}
use Rattle.ioam_topo_values.specs.Reads.{◌▷◌, maybe, needed, optional}
use Rattle.ioam_topo_values.specs.Numbers.{number}
use Rattle.ioam_topo_values.specs.Types.{trace_type, direct_type, edge_type}
use Rattle.ioam_topo.specs.declared.prefix.Prefix.{Prefix}
use Rattle.ioam_topo.specs.Prefixes.{IsPrefix}
use Rattle.ioam_topo_values.proofs.PrefixSpelledLaws.{key_is_prefix}
use Rattle.ioam_topo.specs.Spaces.{knows_space}
use Rattle.ioam_topo.specs.Types.{is_direct_type, is_edge_type}
use Rattle.ioam_topo.specs.declared.parts.Flow.{Flow}
use Rattle.ioam_topo.specs.Sound.{IsFlow}
use Rattle.ioam_topo.proofs.TracesLaws.{own_first, own_few, own_sound, own_apart}
use Rattle.ioam_topo_entries.specs.Goods.{goods}
use Rattle.ioam_topo_entries.proofs.ReadLaws.{number_bounds, needed_bounds, passed, passed_from, beside_off, maybe_for, paired}
use Rattle.ioam_topo_entries.proofs.GoodsLaws.{goods_all}
use Rattle.ioam_topo_flows.proofs.PartLaws.{selection_read, outer_read, tracing_read, exporting_read, flow_read}
use Rattle.ioam_topo_flows.specs.declared.flow_parts.Selection.{Selection}
use Rattle.ioam_topo_flows.specs.declared.flow_parts.Outer.{Outer}
use Rattle.ioam_topo_flows.specs.declared.flow_parts.Tracing.{Tracing}
use Rattle.ioam_topo_flows.specs.declared.flow_parts.Exporting.{Exporting}
use Rattle.ioam_topo_flows.specs.FlowParts.{flow_entry, flow_exit, flow_source, flow_target, flow_space, flow_hops, flow_label, flow_trace, flow_capacity, flow_edge, flow_direct, flow_every, flow_id, flow_limit, selection_of, outer_of, tracing_of, exporting_of}
use Rattle.ioam_topo_flows.specs.FlowTable.{flow_name, flow_of, flow_with}
use Rattle.ioam_topo_flows.specs.Spaces.{known_at, known_in}

or_left : (a b : Bool) → a ≡ true → (a || b) ≡ true
or_left true b on = refl
or_left false b on = cc

or_right : (a b : Bool) → b ≡ true → (a || b) ≡ true
or_right true b on = refl
or_right false b on = on

record IsOuter (o : Outer) : Type 0 where
  hops : (1 ≤ o.hops) × (o.hops ≤ 255)
  label : o.label ≤ 1048575

record IsSelection (s : Selection) : Type 0 where
  source : IsPrefix s.source
  target : IsPrefix s.target
  namespace : s.namespace ≤ 65535

record IsTracing (t : Tracing) : Type 0 where
  kind : ForSome t.trace (λ kind. is_entry_type kind ≡ true)
  least : ForSome t.capacity (λ n. 1 ≤ n)
  most : ForSome t.capacity (λ n. n ≤ 61)
  both : is_some t.capacity ≡ is_some t.trace
  edge_least : ForSome t.edge (λ kind. 1 ≤ kind)
  edge_kind : ForSome t.edge (λ kind. is_edge_type kind ≡ true)

record IsExporting (e : Exporting) : Type 0 where
  kind : ForSome e.direct (λ kind. is_direct_type kind ≡ true)
  below : ForSome e.direct (λ kind. kind < 2 ^ 24)
  least : ForSome e.every (λ n. 1 ≤ n)
  most : ForSome e.every (λ n. n ≤ 1000000)
  counted : is_some e.every ≡ is_some e.direct
  named : is_some e.flow_id ≡ is_some e.direct
  id : ForSome e.flow_id (λ id. id < 2 ^ 32)

module _ (m : Members) where
  zero_or : (high : ℕ) (o : Option Data) (x : ℕ) → optional 0 (number 0 high) o ≡ Ok x → x ≤ high
  zero_or high None x is = let same : 0 ≡ x = cc in omega (arith, same)
  zero_or high (Some d) x is = (number_bounds 0 high d x is).1

  outer_facts : (o : Outer) → outer_of m ≡ Ok o → IsOuter o
  outer_facts o is =
      let read = outer_read m o is in
      record { hops = needed_bounds 1 255 (get_member (codes "hops") m) o.hops read.hops; label = zero_or 1048575 (get_member (codes "label") m) o.label read.label }

  tracing_facts : (t : Tracing) → tracing_of m ≡ Ok t → IsTracing t
  tracing_facts t is =
      let read = tracing_read m t is in
      let trace : maybe trace_type (get_member (codes "trace") m) ≡ Ok t.trace = beside_off (is_some (get_member (codes "capacity") m)) (maybe trace_type (get_member (codes "trace") m)) t.trace read.trace in
      let capacity : maybe (number 1 61) (get_member (codes "capacity") m) ≡ Ok t.capacity = beside_off (is_some (get_member (codes "trace") m)) (maybe (number 1 61) (get_member (codes "capacity") m)) t.capacity read.capacity in
      record {
        kind = maybe_for trace_type (λ k. is_entry_type k ≡ true) (λ d n read. passed is_entry_type (number 0 16777215 d) n read) (get_member (codes "trace") m) t.trace trace;
        least = maybe_for (number 1 61) (λ n. 1 ≤ n) (λ d n read. (number_bounds 1 61 d n read).0) (get_member (codes "capacity") m) t.capacity capacity;
        most = maybe_for (number 1 61) (λ n. n ≤ 61) (λ d n read. (number_bounds 1 61 d n read).1) (get_member (codes "capacity") m) t.capacity capacity;
        both = paired trace_type (number 1 61) (is_some (get_member (codes "capacity") m)) (get_member (codes "trace") m) (get_member (codes "capacity") m) t.trace t.capacity (λ on. on) read.trace read.capacity;
        edge_least = maybe_for edge_type (λ k. 1 ≤ k) (λ d n read. (number_bounds 1 65535 d n (passed_from is_edge_type (number 1 65535 d) n read)).0) (get_member (codes "edge") m) t.edge read.edge;
        edge_kind = maybe_for edge_type (λ k. is_edge_type k ≡ true) (λ d n read. passed is_edge_type (number 1 65535 d) n read) (get_member (codes "edge") m) t.edge read.edge;
      }

  exporting_facts : (e : Exporting) → exporting_of m ≡ Ok e → IsExporting e
  exporting_facts e is =
      let read = exporting_read m e is in
      let others : Bool = is_some (get_member (codes "every") m) || is_some (get_member (codes "flow_id") m) in
      let direct : maybe direct_type (get_member (codes "direct") m) ≡ Ok e.direct = beside_off others (maybe direct_type (get_member (codes "direct") m)) e.direct read.direct in
      let id : maybe (number 0 4294967295) (get_member (codes "flow_id") m) ≡ Ok e.flow_id
      = beside_off (is_some (get_member (codes "direct") m)) (maybe (number 0 4294967295) (get_member (codes "flow_id") m)) e.flow_id read.id in
      let every : maybe (number 1 1000000) (get_member (codes "every") m) ≡ Ok e.every
      = beside_off (is_some (get_member (codes "direct") m)) (maybe (number 1 1000000) (get_member (codes "every") m)) e.every read.every in
      record {
        kind = maybe_for direct_type (λ k. is_direct_type k ≡ true) (λ d n read. passed is_direct_type (number 0 16777215 d) n read) (get_member (codes "direct") m) e.direct direct;
        below = maybe_for direct_type (λ k. k < 2 ^ 24) (λ d n read.
            let most = (number_bounds 0 16777215 d n (passed_from is_direct_type (number 0 16777215 d) n read)).1 in omega (arith, most)) (get_member (codes "direct") m) e.direct direct;
        least = maybe_for (number 1 1000000) (λ n. 1 ≤ n) (λ d n read. (number_bounds 1 1000000 d n read).0) (get_member (codes "every") m) e.every every;
        most = maybe_for (number 1 1000000) (λ n. n ≤ 1000000) (λ d n read. (number_bounds 1 1000000 d n read).1) (get_member (codes "every") m) e.every every;
        counted = paired direct_type (number 1 1000000) others (get_member (codes "direct") m) (get_member (codes "every") m) e.direct e.every
            (λ on. or_left (is_some (get_member (codes "every") m)) (is_some (get_member (codes "flow_id") m)) on) read.direct read.every;
        named = paired direct_type (number 0 4294967295) others (get_member (codes "direct") m) (get_member (codes "flow_id") m) e.direct e.flow_id
            (λ on. or_right (is_some (get_member (codes "every") m)) (is_some (get_member (codes "flow_id") m)) on) read.direct read.id;
        id = maybe_for (number 0 4294967295) (λ n. n < 2 ^ 32) (λ d n read. let most = (number_bounds 0 4294967295 d n read).1 in omega (arith, most)) (get_member (codes "flow_id") m) e.flow_id id;
      }

-- a namespace that a node knows is the number that was read
known_keeps : (list : Result (List Namespace) Why) (n x : ℕ) → known_in list n ≡ Ok x → n ≡ x
known_keeps (Ok spaces) n x is = by_test (knows_space spaces n) is where
  by_test : (b : Bool) → cond {A = Result ℕ Why} b (Ok n) (Err Range) ≡ Ok x → n ≡ x
  by_test true is = cc
  by_test false is = cc
known_keeps (Err why) n x is = cc

known_from : (lists : List (Result (List Namespace) Why)) (end r : Result ℕ Why) (x : ℕ) → r ▷ known_at lists end ≡ Ok x → r ≡ Ok x
known_from lists (Ok i) (Ok n) x is = ap Ok (known_keeps _ n x is)
known_from lists (Err why) (Ok n) x is = cc
known_from lists end (Err why) x is = cc

module _ (nodes : List (List ℕ)) (lists : List (Result (List Namespace) Why)) where
  space_most : (m : Members) (x : ℕ) → flow_space nodes lists m ≡ Ok x → x ≤ 65535
  space_most m x is =
      let read : Result ℕ Why = needed (number 0 65535) (get_member (codes "namespace") m) in
      let entry = known_from lists (flow_exit nodes lists m) (read ▷ known_at lists (flow_entry nodes lists m)) x is in
      (needed_bounds 0 65535 (get_member (codes "namespace") m) x (known_from lists (flow_entry nodes lists m) read x entry)).1

  selection_facts : (m : Members) (s : Selection) → selection_of nodes lists m ≡ Ok s → IsSelection s
  selection_facts m s is =
      let read = selection_read nodes lists m s is in
      record {
        source = key_is_prefix (get_member (codes "source") m) s.source read.source;
        target = key_is_prefix (get_member (codes "target") m) s.target read.target;
        namespace = space_most m s.namespace read.space;
      }

  flow_facts : (m : Members) (flow : Flow) → flow_of nodes lists m ≡ Ok flow → IsFlow flow
  flow_facts m flow is =
      let read = flow_read nodes lists m flow is in
      let k = selection_facts m read.s read.selected in
      let f = outer_facts m read.o read.around in
      let g = tracing_facts m read.t read.traced in
      let h = exporting_facts m read.e read.exported in
      subst IsFlow read.is (record {
        source = k.source;
        target = k.target;
        namespace_below = let most = k.namespace in omega (arith, most);
        hops_some = f.hops.0;
        hops_below = let most = f.hops.1 in omega (arith, most);
        label_most = f.label;
        trace_type = g.kind;
        capacity_some = g.least;
        capacity_most = g.most;
        trace_room = g.both;
        own_first = own_first (record { 0 = read.s.namespace }) read.t.trace read.t.capacity;
        few_traces = let few = own_few (record { 0 = read.s.namespace }) read.t.trace read.t.capacity in omega (arith, few);
        traces_sound = own_sound (record { 0 = read.s.namespace }) read.t.trace read.t.capacity g.kind g.least g.most;
        traces_apart = own_apart (record { 0 = read.s.namespace }) read.t.trace read.t.capacity;
        edge_some = g.edge_least;
        edge_type = g.edge_kind;
        direct_type = h.kind;
        direct_below = h.below;
        every_some = h.least;
        every_most = h.most;
        direct_every = h.counted;
        direct_id = h.named;
        id_below = h.id;
      })

  -- what is true of the flows of entries
  pub flows_sound : (ms : List Members) (flows : List Flow) → flows ≡ goods (flow_of nodes lists) ms → All IsFlow flows
  flows_sound ms flows are = rw are (goods_all IsFlow (flow_of nodes lists) ms flow_facts)
