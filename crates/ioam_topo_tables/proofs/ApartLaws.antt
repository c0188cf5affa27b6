-- Laws of what no two names of a set, and no two flows, share.
use Rattle.std.proofs.Common.{◌≡◌, ◌<◌, ◌≤◌, ℕ, zero, suc, List, [], ◌∷◌, ◌++◌, map, length, Option, Some, None, slice_get, slice_index_or, String, Global, string_bytes, ⊎_elim, refl, ap, sym, subst, ◌∙◌, arith}
use Rattle.std.specs.List.{IsDistinct}
use Rattle.std.specs.Str.{bytes_eq}
use Rattle.std.proofs.lemmas.Bool.{cases_lt}
use Rattle.std.proofs.lemmas.Slice.Eq.{bytes_eq-Decides}
use Rattle.ioam_topo.specs.declared.parts.Flow.{Flow}
use Rattle.ioam_topo.specs.Keyed.{pairs_of}
use Rattle.ioam_topo.specs.Apart.{FlowsApart}
use Rattle.ioam_topo.proofs.ApartLaws.{Differ, differ, map_same, at_key, apart_by}
use Rattle.ioam_topo_tables.specs.Flows.{ids_of_flows}

pub texts_differ : (ks : List (String Global)) → IsDistinct (λ a b. bytes_eq (string_bytes a) (string_bytes b)) ks → Differ (map string_bytes ks)
texts_differ ks = differ (λ a b. bytes_eq (string_bytes a) (string_bytes b)) string_bytes (λ a b is. (bytes_eq-Decides (string_bytes a) (string_bytes b)).1 is) ks

-- a flow that has an id has its place among the ids
has_id : (flows : List Flow) (j : ℕ) (g : Flow) (id : ℕ) → slice_get flows j ≡ Some g → g.flow_id ≡ Some id
    → (k : ℕ) × (slice_get (ids_of_flows flows) k ≡ Some (g.namespace.0, id))
has_id [] j g id there is = cc
has_id (h ∷ flows) zero g id there is = let same : h ≡ g = cc in (0, first h.flow_id (ap (λ (f : Flow). f.flow_id) same ∙ is) (ap (λ (f : Flow). f.namespace.0) same)) where
  first : (o : Option ℕ) → o ≡ Some id → h.namespace.0 ≡ g.namespace.0 → slice_get (pairs_of h.namespace.0 o ++ ids_of_flows flows) 0 ≡ Some (g.namespace.0, id)
  first (Some n) some space = let same : n ≡ id = cc in rw (space, same) refl
  first None some space = cc
has_id (h ∷ flows) (suc j) g id there is = behind h.flow_id (has_id flows j g id there is) where
  behind : (o : Option ℕ) → (k : ℕ) × (slice_get (ids_of_flows flows) k ≡ Some (g.namespace.0, id))
      → (k : ℕ) × (slice_get (pairs_of h.namespace.0 o ++ ids_of_flows flows) k ≡ Some (g.namespace.0, id))
  behind None rest = rest
  behind (Some n) rest = (suc rest.0, rest.1)

differ_behind : (space : ℕ) (o : Option ℕ) (ids : List (ℕ × ℕ)) → Differ (pairs_of space o ++ ids) → Differ ids
differ_behind space None ids apart = apart
differ_behind space (Some n) ids apart = λ i j d lt within. apart (suc i) (suc j) d (omega (arith, lt)) (omega (arith, within))

two_ids : (flows : List Flow) → Differ (ids_of_flows flows) → (i j : ℕ) (f g : Flow) (id : ℕ) → i < j → slice_get flows i ≡ Some f → slice_get flows j ≡ Some g
    → f.flow_id ≡ Some id → g.flow_id ≡ Some id → f.namespace.0 ≡ g.namespace.0 → ⊥
two_ids [] apart i j f g id lt here there one two same = cc
two_ids (h ∷ flows) apart i zero f g id lt here there one two same = absurd (omega (arith, lt))
two_ids (h ∷ flows) apart (suc i) (suc j) f g id lt here there one two same =
    two_ids flows (differ_behind h.namespace.0 h.flow_id (ids_of_flows flows) apart) i j f g id (omega (arith, lt)) here there one two same
two_ids (h ∷ flows) apart zero (suc j) f g id lt here there one two same =
    let is : h ≡ f = cc in
    clash h.flow_id (ap (λ (x : Flow). x.flow_id) is ∙ one) (ap (λ (x : Flow). x.namespace.0) is ∙ same) (has_id flows j g id there two) apart where
      clash : (o : Option ℕ) → o ≡ Some id → h.namespace.0 ≡ g.namespace.0 → (k : ℕ) × (slice_get (ids_of_flows flows) k ≡ Some (g.namespace.0, id))
          → Differ (pairs_of h.namespace.0 o ++ ids_of_flows flows) → ⊥
      clash None some space found all = cc
      clash (Some n) some space found all =
          let b = at_key (λ (k : ℕ × ℕ). k) (ids_of_flows flows) found.0 (g.namespace.0, id) (h.namespace.0, n) found.1 in
          let list : map (λ (k : ℕ × ℕ). k) (ids_of_flows flows) ≡ ids_of_flows flows = map_same (ids_of_flows flows) in
          let lt : found.0 < length (ids_of_flows flows) = subst (λ l. found.0 < length l) list b.0 in
          let at : slice_index_or (ids_of_flows flows) found.0 (h.namespace.0, n) ≡ (g.namespace.0, id) = subst (λ l. slice_index_or l found.0 (h.namespace.0, n) ≡ (g.namespace.0, id)) list b.1 in
          let number : n ≡ id = cc in
          let first : ℕ × ℕ = (h.namespace.0, n) in let second : ℕ × ℕ = (g.namespace.0, id) in
          let key : first ≡ second = rw (space, number) refl in
          all 0 (suc found.0) (h.namespace.0, n) (omega arith) (omega (arith, lt)) (key ∙ sym at)

-- no two flows share a name or, in one namespace, an id whose names and ids differ
pub flows_apart : (flows : List Flow) (names : List (List ℕ)) (ids : List (ℕ × ℕ)) → names ≡ map (λ f. f.name) flows → ids ≡ ids_of_flows flows → Differ names → Differ ids → FlowsApart flows
flows_apart flows names ids named keyed names_apart ids_apart = record {
  names = apart_by (λ f. f.name) flows names named names_apart;
  ids = λ i j f g id here there one two same.
      let all : Differ (ids_of_flows flows) = subst Differ keyed ids_apart in
      ⊎_elim (λ lt. absurd (two_ids flows all i j f g id lt here there one two same))
      (λ le. ⊎_elim (λ lt. absurd (two_ids flows all j i g f id lt there here two one (sym same))) (λ ge. omega (arith, le, ge)) (cases_lt j i)) (cases_lt i j);
}

-- at most one id a flow
pub ids_few : (flows : List Flow) → length (ids_of_flows flows) ≤ length flows
ids_few [] = omega arith
ids_few (flow ∷ flows) = with_id flow.flow_id (ids_few flows) where
  with_id : (o : Option ℕ) → length (ids_of_flows flows) ≤ length flows → length (pairs_of flow.namespace.0 o ++ ids_of_flows flows) ≤ suc (length flows)
  with_id None few = omega (arith, few)
  with_id (Some id) few = omega (arith, few)
