-- Sums that count an arrival more stand for one arrival more.
use Rattle.std.proofs.Common.{◌≡◌, ℕ, ◌+◌, ◌*◌, ◌-◌, min, ◌<◌, ◌≤◌, ◌^◌, Bool, true, false, cond, nat_eq, List, [], ◌∷◌, ◌++◌, Some, length, take, get_or, refl, sym, ap, subst, ◌∙◌, arith, length-append, inl, inr, ◌⊎◌, suc}
use Rattle.std.specs.Prelude.{not, ◌&&◌, IsSomeAnd}
use Rattle.std.specs.List.{All, slice_get, sum_by, count_by, flat_map, enumerate_from}
use Rattle.std.proofs.lemmas.List.{append-nil}
use Rattle.std.proofs.lemmas.List.Elements.{All-push, All-weaker}
use Rattle.std.proofs.lemmas.List.Sums.{sum_by_push, sum_by_more, sum_by-le, count_by-le-length}
use Rattle.ioam_topo.specs.declared.domain.Domain.{Domain}
use Rattle.ioam_topo.specs.declared.parts.Node.{Node}
use Rattle.ioam_topo.specs.Domain.{nodes, flows}
use Rattle.ioam_topo.specs.declared.ids.NodeId.{NodeId}
use Rattle.ioam_topo.specs.declared.ids.PortId.{PortId}
use Rattle.ioam_node.specs.declared.reason.Reason.{Reason}
use Rattle.ioam_plan.specs.declared.itinerary.Itinerary.{Itinerary}
use Rattle.ioam_plan.specs.declared.itinerary.Visit.{Visit}
use Rattle.ioam_plan.specs.declared.itinerary.End.{End}
use Rattle.ioam_plan.specs.declared.itinerary.End.TheVariants.{Left, Drop}
use Rattle.ioam_report.specs.declared.flows.FlowSum.{FlowSum}
use Rattle.ioam_report.specs.declared.sums.NodeSum.{NodeSum}
use Rattle.ioam_report.specs.declared.sums.Sums.{Sums}
use Rattle.ioam_report.specs.Sums.{is_at, has_left, is_dropped, is_dropped_at, is_stopped_at, seen_of, node_sum, StandFor, Raised}
use Rattle.ioam_report.specs.Flows.{IsSumOf}
use Rattle.ioam_report.specs.SumsText.{packets_line, node_line, node_lines, flow_lines, sums_text, arrivals_text}
use Rattle.ioam_report.proofs.FlowsLaws.{flows_lines}

abbrev sum_of : ℕ → ℕ → NodeSum
sum_of seen dropped = record { seen = seen; dropped = dropped }

same_sum : (a b c d : ℕ) → a ≡ c → b ≡ d → Some (sum_of a b) ≡ Some (sum_of c d)
same_sum a b c d p q = ap (λ (n : ℕ). Some (sum_of n b)) p ∙ ap (λ (n : ℕ). Some (sum_of c n)) q

pub Raised-then : (a b c : List NodeSum) (node s d t e : ℕ) → Raised a b node s d → Raised b c node t e → Raised a c node (s + t) (d + e)
Raised-then a b c node s d t e first second = record {
  raised = λ before is seen dropped.
      second.raised (record { seen = before.seen + s; dropped = before.dropped + d }) (first.raised before is (omega arith) (omega arith)) (omega arith) (omega arith)
      ∙ same_sum (before.seen + s + t) (before.dropped + d + e) (before.seen + (s + t)) (before.dropped + (d + e)) (omega arith) (omega arith);
}

pub Raised-by : (a b : List NodeSum) (node s d t e : ℕ) → s ≡ t → d ≡ e → Raised a b node s d → Raised a b node t e
Raised-by a b node s d t e p q r = record {
  raised = λ before is seen dropped.
      r.raised before is (omega arith) (omega arith)
      ∙ same_sum (before.seen + s) (before.dropped + d) (before.seen + t) (before.dropped + e) (omega arith) (omega arith);
}

pub cond-zero : (b : Bool) → cond {A = ℕ} b 0 0 ≡ 0
cond-zero true = refl
cond-zero false = refl

-- one visit more was counted
pub Raised-visit : (start before after : List NodeSum) (visits : List Visit) (i : ℕ) (d : Visit) (at : ℕ) → i < length visits
    → Raised start before at (count_by (is_at at) (take i visits)) 0
    → Raised before after at (cond (nat_eq at (get_or visits i d).place.node.0) 1 0) (cond (nat_eq at (get_or visits i d).place.node.0) 0 0)
    → Raised start after at (count_by (is_at at) (take (i + 1) visits)) 0
Raised-visit start before after visits i d at inside so_far step =
    let f : Visit → ℕ = λ v. cond (is_at at v) 1 0 in
    let more : count_by (is_at at) (take (i + 1) visits) ≡ count_by (is_at at) (take i visits) + f (get_or visits i d) = sum_by_more f visits i d inside in
    Raised-by start after at _ _ _ _ (sym more) (omega (arith, cond-zero (nat_eq at (get_or visits i d).place.node.0)))
    (Raised-then start before after at _ _ _ _ so_far step)

one_most : (b : Bool) → cond b 1 0 ≤ 1
one_most true = omega arith
one_most false = omega arith

-- a node counts an arrival once for each visit, and once more where it stops it
seen_few : (node : ℕ) (it : Itinerary) → length it.visits ≤ 256 → seen_of node it ≤ 257
seen_few node it short =
    let few : count_by (is_at node) it.visits ≤ length it.visits = count_by-le-length (is_at node) it.visits in
    omega (arith, one_most (is_stopped_at node it))

all_few : (node : ℕ) (arrivals : List Itinerary) → All (λ arrival. length arrival.visits ≤ 256) arrivals
    → All (λ arrival. seen_of node arrival ≤ 257) arrivals
all_few node arrivals short = All-weaker _ _ (λ arrival few. seen_few node arrival few) arrivals short

-- the sums of flows count this arrival
abbrev pub FlowsCount : List FlowSum → List FlowSum → Itinerary → Type 0
FlowsCount old new it = (flow : ℕ) (arrivals : List Itinerary) → length arrivals < 2 ^ 32 → IsSomeAnd (slice_get old flow) (IsSumOf flow arrivals)
    → IsSomeAnd (slice_get new flow) (IsSumOf flow (arrivals ++ it ∷ []))

pub StandFor-more : (domain : Domain) (old new : Sums) (arrivals : List Itinerary) (it : Itinerary)
    → StandFor domain old arrivals → old.packets < 2 ^ 32 → length it.visits ≤ 256
    → new.packets ≡ old.packets + 1
    → (old.left < 2 ^ 63 → new.left ≡ old.left + cond (has_left it.end) 1 0)
    → (old.dropped < 2 ^ 63 → new.dropped ≡ old.dropped + cond (is_dropped it.end) 1 0)
    → length new.nodes ≡ length old.nodes
    → ((at : ℕ) → Raised old.nodes new.nodes at (seen_of at it) (cond (is_dropped_at at it.end) 1 0))
    → length new.flows ≡ length old.flows → FlowsCount old.flows new.flows it
    → StandFor domain new (arrivals ++ it ∷ [])
StandFor-more domain old new arrivals it stand room short packets left dropped count raised same_flows noted =
    let goes : Itinerary → Bool = λ arrival. has_left arrival.end in
    let stays : Itinerary → Bool = λ arrival. is_dropped arrival.end in
    let few : old.packets ≡ length arrivals = stand.packets in
    let few_left : count_by goes arrivals ≤ length arrivals = count_by-le-length goes arrivals in
    let few_dropped : count_by stays arrivals ≤ length arrivals = count_by-le-length stays arrivals in
    let was_left : old.left ≡ count_by goes arrivals = stand.left in
    let was_dropped : old.dropped ≡ count_by stays arrivals = stand.dropped in
    record {
      packets = packets ∙ omega (arith, length-append arrivals (it ∷ []), stand.packets);
      left = left (omega arith) ∙ ap (λ n. n + cond (has_left it.end) 1 0) stand.left ∙ sym (sum_by_push (λ (a : Itinerary). cond (goes a) 1 0) arrivals it);
      dropped = dropped (omega arith) ∙ ap (λ n. n + cond (stays it) 1 0) stand.dropped ∙ sym (sum_by_push (λ (a : Itinerary). cond (stays a) 1 0) arrivals it);
      count = count ∙ stand.count;
      each = λ node below.
          let seen : Itinerary → ℕ = λ a. seen_of node a in
          let here : Itinerary → ℕ = λ a. cond (is_dropped_at node a.end) 1 0 in
          let few_seen : sum_by seen arrivals ≤ length arrivals * 257 = sum_by-le seen 257 arrivals (all_few node arrivals stand.short) in
          let few_here : sum_by here arrivals ≤ length arrivals = count_by-le-length (λ (a : Itinerary). is_dropped_at node a.end) arrivals in
          let now : seen_of node it ≤ 257 = seen_few node it short in
          (raised node).raised (record { seen = sum_by seen arrivals; dropped = sum_by here arrivals }) (stand.each node below) (omega arith) (omega (arith, one_most (is_dropped_at node it.end)))
          ∙ same_sum _ _ _ _ (sym (sum_by_push seen arrivals it)) (sym (sum_by_push here arrivals it));
      flow_count = same_flows ∙ stand.flow_count;
      each_flow = λ flow below. noted flow arrivals (omega arith) (stand.each_flow flow below);
      short = All-push (λ (a : Itinerary). length a.visits ≤ 256) arrivals it stand.short short;
    }

-- an arrival more that left
pub StandFor-left : (domain : Domain) (old new : Sums) (arrivals : List Itinerary) (it : Itinerary) (port : PortId)
    → it.end ≡ Left port → StandFor domain old arrivals → old.packets < 2 ^ 32 → length it.visits ≤ 256
    → new.packets ≡ old.packets + 1 → new.left ≡ min (old.left + 1) (2 ^ 64 - 1) → new.dropped ≡ old.dropped → length new.nodes ≡ length old.nodes
    → ((at : ℕ) → Raised old.nodes new.nodes at (count_by (is_at at) it.visits) 0)
    → length new.flows ≡ length old.flows → FlowsCount old.flows new.flows it
    → StandFor domain new (arrivals ++ it ∷ [])
StandFor-left domain old new arrivals it port is stand room short packets left dropped count raised same_flows noted =
    let goes : cond {A = ℕ} (has_left it.end) 1 0 ≡ 1 = ap (λ (e : End). cond {A = ℕ} (has_left e) 1 0) is in
    let stays : cond {A = ℕ} (is_dropped it.end) 1 0 ≡ 0 = ap (λ (e : End). cond {A = ℕ} (is_dropped e) 1 0) is in
    StandFor-more domain old new arrivals it stand room short packets (λ few. omega (arith, goes, left)) (λ few. omega (arith, stays, dropped)) count
    (λ at.
    let here : cond {A = ℕ} (is_dropped_at at it.end) 1 0 ≡ 0 = ap (λ (e : End). cond {A = ℕ} (is_dropped_at at e) 1 0) is in
    let not_stopped : cond {A = ℕ} (is_stopped_at at it) 1 0 ≡ 0 = ap (λ (e : End). cond {A = ℕ} (is_dropped_at at e && not it.exited) 1 0) is in
    Raised-by old.nodes new.nodes at _ _ _ _ (omega (arith, not_stopped)) (sym here) (raised at)) same_flows noted

stopped_here : (here exited : Bool) (seen : ℕ) → seen ≡ cond (not exited) 1 0 → cond here seen 0 ≡ cond (here && not exited) 1 0
stopped_here true exited seen is = is
stopped_here false exited seen is = refl

-- an arrival more that was dropped at a node
pub StandFor-dropped : (domain : Domain) (old new : Sums) (between : List NodeSum) (arrivals : List Itinerary) (it : Itinerary) (reason : Reason) (node : NodeId) (seen : ℕ)
    → it.end ≡ Drop reason node → StandFor domain old arrivals → old.packets < 2 ^ 32 → length it.visits ≤ 256
    → new.packets ≡ old.packets + 1 → new.left ≡ old.left → new.dropped ≡ min (old.dropped + 1) (2 ^ 64 - 1)
    → length between ≡ length old.nodes → length new.nodes ≡ length between → seen ≡ cond (not it.exited) 1 0
    → ((at : ℕ) → Raised old.nodes between at (count_by (is_at at) it.visits) 0)
    → ((at : ℕ) → Raised between new.nodes at (cond (nat_eq at node.0) seen 0) (cond (nat_eq at node.0) 1 0))
    → length new.flows ≡ length old.flows → FlowsCount old.flows new.flows it
    → StandFor domain new (arrivals ++ it ∷ [])
StandFor-dropped domain old new between arrivals it reason node seen is stand room short packets left dropped count more once raised here same_flows noted =
    let goes : cond {A = ℕ} (has_left it.end) 1 0 ≡ 0 = ap (λ (e : End). cond {A = ℕ} (has_left e) 1 0) is in
    let stays : cond {A = ℕ} (is_dropped it.end) 1 0 ≡ 1 = ap (λ (e : End). cond {A = ℕ} (is_dropped e) 1 0) is in
    StandFor-more domain old new arrivals it stand room short packets (λ few. omega (arith, goes, left)) (λ few. omega (arith, stays, dropped)) (more ∙ count)
    (λ at.
    let there : cond {A = ℕ} (is_dropped_at at it.end) 1 0 ≡ cond (nat_eq at node.0) 1 0 = ap (λ (e : End). cond {A = ℕ} (is_dropped_at at e) 1 0) is in
    let stopped : cond {A = ℕ} (is_stopped_at at it) 1 0 ≡ cond (nat_eq at node.0 && not it.exited) 1 0 =
    ap (λ (e : End). cond {A = ℕ} (is_dropped_at at e && not it.exited) 1 0) is in
    Raised-by old.nodes new.nodes at _ _ _ _
    (omega (arith, stopped, stopped_here (nat_eq at node.0) it.exited seen once)) (omega (arith, there))
    (Raised-then old.nodes between new.nodes at _ _ _ _ (raised at) (here at))) same_flows noted

-- Sums that stand for arrivals have the lines of these.
nodes_lines : (arrivals : List Itinerary) (nodes : List Node) (sums : List NodeSum) (from : ℕ) → length sums ≡ length nodes
    → ((i : ℕ) → i < length nodes → slice_get sums i ≡ Some (node_sum arrivals (from + i)))
    → node_lines nodes sums ≡ flat_map (λ entry. node_line entry.1.name (node_sum arrivals entry.0)) (enumerate_from from nodes)
nodes_lines arrivals [] [] from count each = refl
nodes_lines arrivals [] (sum ∷ sums) from count each = refl
nodes_lines arrivals (node ∷ nodes) [] from count each = absurd (omega arith)
nodes_lines arrivals (node ∷ nodes) (sum ∷ sums) from count each =
    let zero_more : from + 0 ≡ from = omega arith in
    let first : Some sum ≡ Some (node_sum arrivals (from + 0)) = each 0 (omega arith) in
    let is : sum ≡ node_sum arrivals from = cc in
    let rest : (i : ℕ) → i < length nodes → slice_get sums i ≡ Some (node_sum arrivals (from + 1 + i)) = λ i below.
    let further : from + suc i ≡ from + 1 + i = omega arith in
    let there : slice_get sums i ≡ Some (node_sum arrivals (from + suc i)) = each (suc i) (omega arith) in
    there ∙ ap (λ n. Some (node_sum arrivals n)) further in
    ap (λ s. node_line node.name s ++ node_lines nodes sums) is
    ∙ ap (λ xs. node_line node.name (node_sum arrivals from) ++ xs) (nodes_lines arrivals nodes sums (from + 1) (omega arith) rest)

pub sums_text-of : (domain : Domain) (sums : Sums) (arrivals : List Itinerary) → StandFor domain sums arrivals
    → sums_text domain sums ≡ arrivals_text domain arrivals
sums_text-of domain sums arrivals stand =
    let goes : ℕ = count_by (λ (arrival : Itinerary). has_left arrival.end) arrivals in
    let stays : ℕ = count_by (λ (arrival : Itinerary). is_dropped arrival.end) arrivals in
    let of_nodes : List ℕ = flat_map (λ entry. node_line entry.1.name (node_sum arrivals entry.0)) (enumerate_from 0 (nodes domain)) in
    ap (λ n. packets_line n sums.left sums.dropped ++ node_lines (nodes domain) sums.nodes ++ flow_lines (flows domain) sums.flows) stand.packets
    ∙ ap (λ n. packets_line (length arrivals) n sums.dropped ++ node_lines (nodes domain) sums.nodes ++ flow_lines (flows domain) sums.flows) stand.left
    ∙ ap (λ n. packets_line (length arrivals) goes n ++ node_lines (nodes domain) sums.nodes ++ flow_lines (flows domain) sums.flows) stand.dropped
    ∙ ap (λ xs. packets_line (length arrivals) goes stays ++ xs ++ flow_lines (flows domain) sums.flows)
    (nodes_lines arrivals (nodes domain) sums.nodes 0 stand.count (λ i below. stand.each i below ∙ ap (λ n. Some (node_sum arrivals n)) (omega arith)))
    ∙ ap (λ xs. packets_line (length arrivals) goes stays ++ of_nodes ++ xs)
    (flows_lines arrivals (flows domain) sums.flows 0 stand.flow_count (λ i below.
    let same : i ≡ 0 + i = omega arith in
    let P : ℕ → Type 0 = λ n. IsSomeAnd (slice_get sums.flows i) (IsSumOf n arrivals) in
    subst P same (stand.each_flow i below)))

-- where a list is at its end, no line is left to append
none_left : (nodes : List Node) (sums : List NodeSum) → (nodes ≡ []) ⊎ (sums ≡ []) → node_lines nodes sums ≡ []
none_left [] sums either = refl
none_left (node ∷ nodes) [] either = refl
none_left (node ∷ nodes) (sum ∷ sums) either = elim either [ inl is ↦ absurd (cc) | inr is ↦ absurd (cc) ]

pub all_told : (out text : List ℕ) (nodes : List Node) (sums : List NodeSum) → (nodes ≡ []) ⊎ (sums ≡ []) → out ++ node_lines nodes sums ≡ text → out ≡ text
all_told out text nodes sums either so_far = sym (append-nil out) ∙ ap (λ xs. out ++ xs) (sym (none_left nodes sums either)) ∙ so_far
