-- Numbers that stand for arrivals, and one arrival more.
use Rattle.std.proofs.Common.{get_or-set_other, ◌≡◌, ℕ, ◌+◌, ◌<◌, Bool, false, cond, nat_eq, List, [], ◌∷◌, ◌++◌, length, length-set, set, get_or, Option, Some, None, slice_get, sym, ◌∙◌, ap, arith, ⊎_elim}
use Rattle.std.specs.Prelude.{slice_index, slice_set}
use Rattle.std.proofs.lemmas.List.Sums.{sum_by_push}
use Rattle.std.proofs.lemmas.Bool.{cases_eq, eq-eqb, ne_eqb}
use Rattle.std.proofs.lemmas.Grind.{get_or-set_at}
use Rattle.std.proofs.lemmas.Option.{slice_get-get_or, get_or_from_slice_get}
use Rattle.ioam_topo.specs.declared.domain.Domain.{Domain}
use Rattle.ioam_topo.specs.declared.ids.FlowId.{FlowId}
use Rattle.ioam_tunnel.specs.declared.numbers.Numbers.{Numbers}
use Rattle.ioam_plan.specs.declared.itinerary.Itinerary.{Itinerary}
use Rattle.ioam_plan.specs.Counted.{CountFor, enclosed_in, is_enclosed_in, is_of_flow}

-- one arrival more of a flow, counted where it is of this one
more_of : (flow : ℕ) (earlier : List Itinerary) (it : Itinerary)
    → enclosed_in flow (earlier ++ it ∷ []) ≡ enclosed_in flow earlier + cond (is_enclosed_in flow it) 1 0
more_of flow earlier it = sum_by_push (λ (i : Itinerary). cond (is_enclosed_in flow i) 1 0) earlier it

-- an arrival that wasn't enclosed
pub count_same : (domain : Domain) (counters : List ℕ) (earlier : List Itinerary) (it : Itinerary) → it.carried ≡ None
    → CountFor domain counters earlier → CountFor domain counters (earlier ++ it ∷ [])
count_same domain counters earlier it none stand = record {
  count = stand.count;
  each = λ flow below.
      let not_here : is_enclosed_in flow it ≡ false = ap (λ (c : Option (FlowId × Numbers)). is_of_flow flow c) none in
      let zero : cond (is_enclosed_in flow it) 1 0 ≡ 0 = ap (λ (b : Bool). cond {A = ℕ} b 1 0) not_here in
      stand.each flow below ∙ ap (λ (n : ℕ). Some n) (omega (arith, more_of flow earlier it, zero));
}

-- an arrival that was enclosed
pub count_more : (domain : Domain) (counters new : List ℕ) (earlier : List Itinerary) (it : Itinerary) (flow : FlowId) (numbers : Numbers)
    → it.carried ≡ Some (flow, numbers) → flow.0 < length counters → new ≡ slice_set counters flow.0 (slice_index counters flow.0 + 1)
    → CountFor domain counters earlier → CountFor domain new (earlier ++ it ∷ [])
count_more domain counters new earlier it flow numbers some inside written stand =
    let long : length new ≡ length counters = ap length written ∙ length-set counters flow.0 (slice_index counters flow.0 + 1) in
    record {
      count = long ∙ stand.count;
      each = λ at below.
          let had : get_or counters at 0 ≡ enclosed_in at earlier = get_or_from_slice_get counters at (enclosed_in at earlier) 0 (stand.each at below) in
          let here : is_enclosed_in at it ≡ nat_eq at flow.0 = ap (λ (c : Option (FlowId × Numbers)). is_of_flow at c) some in
          let added : cond {A = ℕ} (is_enclosed_in at it) 1 0 ≡ cond {A = ℕ} (nat_eq at flow.0) 1 0 = ap (λ (b : Bool). cond {A = ℕ} b 1 0) here in
          let found : slice_get new at ≡ Some (get_or new at 0) = slice_get-get_or new at 0 (omega (arith, long, below, stand.count)) in
          let moved : get_or new at 0 ≡ get_or (set counters flow.0 (get_or counters flow.0 0 + 1)) at 0 = ap (λ (xs : List ℕ). get_or xs at 0) written in
          ⊎_elim
          (λ same.
          let one : cond {A = ℕ} (nat_eq at flow.0) 1 0 ≡ 1 = ap (λ (b : Bool). cond {A = ℕ} b 1 0) (eq-eqb at flow.0 same) in
          let now : get_or (set counters flow.0 (get_or counters flow.0 0 + 1)) at 0 ≡ get_or counters flow.0 0 + 1 =
          get_or-set_at counters flow.0 at (get_or counters flow.0 0 + 1) 0 same inside in
          let there : get_or counters flow.0 0 ≡ get_or counters at 0 = ap (λ (k : ℕ). get_or counters k 0) (sym same) in
          found ∙ ap (λ (n : ℕ). Some n) (omega (arith, moved, now, there, had, more_of at earlier it, added, one)))
          (λ other.
          let none : cond {A = ℕ} (nat_eq at flow.0) 1 0 ≡ 0 = ap (λ (b : Bool). cond {A = ℕ} b 1 0) (ne_eqb at flow.0 other) in
          let now : get_or (set counters flow.0 (get_or counters flow.0 0 + 1)) at 0 ≡ get_or counters at 0 =
          get_or-set_other counters flow.0 at (get_or counters flow.0 0 + 1) 0 other in
          found ∙ ap (λ (n : ℕ). Some n) (omega (arith, moved, now, had, more_of at earlier it, added, none)))
          (cases_eq at flow.0);
    }
