-- Laws of the flows that are collected.
use Rattle.std.proofs.Common.{◌≡◌, ℕ, ◌+◌, List, [], ◌∷◌, ◌++◌, map, length, false, Option, Result, Ok, ap, sym, ◌∙◌, subst}
use Rattle.std.specs.List.{list_any}
use Rattle.std.specs.Str.{bytes_eq}
use Rattle.toml.specs.Data.{Members}
use Rattle.ioam_data.specs.declared.namespace.Namespace.{Namespace}
use Rattle.ioam_topo_values.specs.declared.why.Why.{Why}
use Rattle.ioam_topo_values.specs.Reads.{◌▷◌}
use Rattle.ioam_topo_tables.specs.declared.flows.Flows.{Flows}
use Rattle.ioam_topo.specs.declared.parts.Flow.{Flow}
use Rattle.ioam_topo_flows.specs.declared.flow_parts.Selection.{Selection}
use Rattle.ioam_topo_flows.specs.declared.flow_parts.Outer.{Outer}
use Rattle.ioam_topo_flows.specs.declared.flow_parts.Tracing.{Tracing}
use Rattle.ioam_topo_flows.specs.declared.flow_parts.Exporting.{Exporting}
use Rattle.ioam_topo_entries.specs.declared.fault.DomainFault.{DomainFault}
use Rattle.ioam_topo_entries.specs.Goods.{goods, kept}
use Rattle.ioam_topo.specs.Keyed.{pairs_of}
use Rattle.ioam_topo_tables.specs.Flows.{name_of_flow, ids_of_flows}
use Rattle.ioam_topo.proofs.KeyLaws.{map_append}
use Rattle.std.proofs.lemmas.List.{append_assoc, append-nil}
use Rattle.ioam_topo_flows.specs.FlowTable.{FlowLook, flow_keys, flow_faults, flow_of, flow_with, flow_name, flow_look, flow_key, id_key}
use Rattle.ioam_topo_flows.specs.FlowParts.{flow_entry, flow_exit, flow_space, flow_trace, selection_of, outer_of, tracing_of, exporting_of}
use Rattle.ioam_topo_flows.specs.FlowRead.{HoldsFlows, IsNewFlow, IsNewExport, look_of}
use Rattle.ioam_topo_flows.proofs.PartLaws.{selection_read, tracing_read}
use Rattle.ioam_topo_entries.proofs.KeyLaws.{kept_by}
use Rattle.ioam_topo_entries.proofs.GoodsLaws.{goods_push, kept_append}

goods_last : {A : Type 0} (read : Members → Result A Why) (ms : List Members) (m : Members) (xs : List A) → kept (read m) [] ≡ xs
    → goods read (ms ++ m ∷ []) ≡ goods read ms ++ xs
goods_last read [] m xs is = is
goods_last read (n ∷ ms) m xs is = ap (kept (read n)) (goods_last read ms m xs is) ∙ kept_append (read n) (goods read ms) xs

-- the ids of flows and one more
ids_push : (flows : List Flow) (flow : Flow) → ids_of_flows (flows ++ flow ∷ []) ≡ ids_of_flows flows ++ pairs_of flow.namespace.0 flow.flow_id
ids_push [] flow = append-nil (pairs_of flow.namespace.0 flow.flow_id)
ids_push (x ∷ flows) flow = ap (λ l. pairs_of x.namespace.0 x.flow_id ++ l) (ids_push flows flow)
    ∙ sym (append_assoc (pairs_of x.namespace.0 x.flow_id) (ids_of_flows flows) (pairs_of flow.namespace.0 flow.flow_id))

module _ (nodes : List (List ℕ)) (lists : List (Result (List Namespace) Why)) where
  pub held_faults : (earlier : List Members) (flows : Flows) (place : ℕ) (m : Members) → HoldsFlows nodes lists earlier flows → place ≡ length earlier + 1
      → flow_keys nodes lists place flows.names flows.taken.keys m ≡ flow_faults nodes lists earlier m
  held_faults earlier flows place m holds there = rw (holds.names, holds.keys, there)

  pub flow_added : (earlier : List Members) (m : Members) (text : List ℕ) (flow : Flow) (old new : Flows)
      → HoldsFlows nodes lists earlier old → IsNewFlow nodes lists old m text flow
      → new.items.items ≡ old.items.items ++ flow ∷ [] → new.names ≡ old.names ++ flow.name ∷ []
      → new.taken.keys ≡ old.taken.keys ++ pairs_of flow.namespace.0 flow.flow_id
      → HoldsFlows nodes lists (earlier ++ m ∷ []) new
  flow_added earlier m text flow old new holds fits items names keys = record {
    items = goods_push (flow_of nodes lists) earlier m flow _ _ fits.is holds.items items;
    names = goods_push flow_name earlier m flow.name _ _ fits.name_is holds.names names;
    keys = keys ∙ ap (λ l. l ++ pairs_of flow.namespace.0 flow.flow_id) holds.keys ∙ sym (goods_last (flow_key nodes lists) earlier m _ fits.key_is);
    looks = goods_push (flow_look nodes lists) earlier m (look_of flow) _ _ fits.look_is holds.looks (ap (map look_of) items ∙ map_append look_of old.items.items (flow ∷ []));
    named = kept_by name_of_flow old.items.items new.items.items flow _ _ holds.named items names;
    keyed = keys ∙ ap (λ l. l ++ pairs_of flow.namespace.0 flow.flow_id) holds.keyed ∙ sym (ap ids_of_flows items ∙ ids_push old.items.items flow);
  }

flow_is : (n : Result (List ℕ) Why) (ss : Result Selection Why) (oo : Result Outer Why) (tt' : Result Tracing Why) (ee : Result Exporting Why)
    (name : List ℕ) (s : Selection) (o : Outer) (t : Tracing) (e : Exporting) → n ≡ Ok name → ss ≡ Ok s → oo ≡ Ok o → tt' ≡ Ok t → ee ≡ Ok e
    → n ▷ (λ name. ss ▷ (λ s. oo ▷ (λ o. tt' ▷ (λ t. ee ▷ (λ e. Ok (flow_with name s o t e)))))) ≡ Ok (flow_with name s o t e)
flow_is n ss oo tt' ee name s o t e n_is s_is o_is t_is e_is = rw (n_is, s_is, o_is, t_is, e_is)

abbrev look : Result ℕ Why → Result ℕ Why → Result ℕ Why → Result (Option ℕ) Why → FlowLook
look a b c d = record { entry = a; exit = b; space = c; trace = d }

look_read : (n : Result (List ℕ) Why) (a b c : Result ℕ Why) (d : Result (Option ℕ) Why) (name : List ℕ) (s : Selection) (t : Tracing)
    → n ≡ Ok name → (a ≡ Ok s.entry) × (b ≡ Ok s.exit) → c ≡ Ok s.namespace → d ≡ Ok t.trace
    → n ▷ (λ name. Ok (look a b c d)) ≡ Ok (look (Ok s.entry) (Ok s.exit) (Ok s.namespace) (Ok t.trace))
look_read n a b c d name s t read ends space trace = rw (read, ends.0, ends.1, space, trace)

module _ (nodes : List (List ℕ)) (lists : List (Result (List Namespace) Why)) where
  -- the flow of parts that were read
  pub new_flow : (flows : Flows) (m : Members) (text name : List ℕ) (s : Selection) (o : Outer) (t : Tracing) (e : Exporting) (flow : Flow)
      → flow ≡ flow_with name s o t e → name ≡ text → flow_name m ≡ Ok text → list_any (bytes_eq text) flows.names ≡ false
      → selection_of nodes lists m ≡ Ok s → flow_space nodes lists m ≡ Ok s.namespace → outer_of m ≡ Ok o → tracing_of m ≡ Ok t
      → IsNewExport s.namespace flows.taken.keys m e → IsNewFlow nodes lists flows m text flow
  new_flow flows m text name s o t e flow made named read fresh selected_is space around traced exported =
      let named_read : flow_name m ≡ Ok name = read ∙ ap Ok (sym named) in
      let keys = selection_read nodes lists m s selected_is in
      let whole : IsNewFlow nodes lists flows m text (flow_with name s o t e) = record {
        name = named;
        is = flow_is (flow_name m) (selection_of nodes lists m) (outer_of m) (tracing_of m) (exporting_of m) name s o t e named_read selected_is around traced exported.is;
        name_is = named_read;
        look_is = look_read (flow_name m) (flow_entry nodes lists m) (flow_exit nodes lists m) (flow_space nodes lists m) (flow_trace m) name s t named_read
            (keys.entry, keys.exit) space (tracing_read m t traced).trace;
        new_name = fresh;
        key_is = ap (λ (r : Result ℕ Why). kept (id_key r m) []) space ∙ exported.key_is;
        new_id = exported.new_id;
      } in
      let P : Flow → Type 0 = λ f. IsNewFlow nodes lists flows m text f in subst P (sym made) whole

-- faults behind none
module _ (xs ys zs ps qs es : List DomainFault) where
  pub last_of_six : xs ≡ [] → ys ≡ [] → zs ≡ [] → ps ≡ [] → qs ≡ [] → xs ++ (ys ++ (zs ++ (ps ++ (qs ++ es)))) ≡ es
  last_of_six x y z p q = rw (x, y, z, p, q)
