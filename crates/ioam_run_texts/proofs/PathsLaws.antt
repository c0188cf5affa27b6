-- The lines of the traces of a packet that reached the exit of its tunnel.
use Rattle.std.proofs.Common.{◌≡◌, ℕ, Bool, true, false, cond, leb, eqb, slice_index, List, [], ◌∷◌, ◌++◌, Option, Some, None, length, map, refl, sym, ap, ◌∙◌, arith}
use Rattle.std.specs.List.{All, filter, flat_map}
use Rattle.std.specs.Prelude.{◌&&◌}
use Rattle.std.proofs.lemmas.Bool.{le-leb}
use Rattle.std.proofs.lemmas.List.{map-append}
use Rattle.std.proofs.lemmas.List.Elements.{All-head, All-tail}
use Rattle.ioam_batch.specs.Ran.{passed}
use Rattle.ioam_batch.specs.declared.job.Job.{Job}
use Rattle.ioam_batch.specs.Sample.{Sample}
use Rattle.ioam_ip.specs.Laid.{Part, items_of, behind_part, place_of}
use Rattle.ioam_ip.specs.Options.{Item}
use Rattle.ioam_plan.specs.declared.itinerary.Itinerary.{Itinerary}
use Rattle.ioam_plan.specs.declared.itinerary.Visit.{Visit}
use Rattle.ioam_report_lines.specs.HopText.{changing_lines, hop_traces_text, is_changing_trace}
use Rattle.ioam_report.specs.RunText.{arrival_line}
use Rattle.ioam_report_lines.specs.TracesText.{option_lines}
use Rattle.ioam_report_lines.proofs.FilledLaws.{trace_lines-recorded}
use Rattle.ioam_topo.specs.declared.domain.Domain.{Domain}
use Rattle.ioam_topo.specs.declared.ids.FlowId.{FlowId}
use Rattle.ioam_node_visit.specs.Data.{trace_data}
use Rattle.ioam_batch.specs.Enclosed.{tunnel_of}
use Rattle.ioam_batch.specs.Wire.{Room, Tunnel, IsRoom, IsTunnel, AreConstant, hop_parts, limit_after, trace_part, trace_parts}
use Rattle.ioam_batch.specs.Numbers.{Numbers}
use Rattle.ioam_node_visit.specs.Visits.{Visited, closed_after, elements}
use Rattle.ioam_node_visit.proofs.PartsLaws.{hop_options-packet}
use Rattle.ioam_node_visit.proofs.VisitLaws.{are_parts, can_hold}
use Rattle.ioam_run_texts.specs.Fate.{Fate}
use Rattle.ioam_run_texts.specs.Standing.{hop_lines, job_lines}
use Rattle.ioam_run_texts.specs.Texts.{path_lines, paths_by, fate_lines}
use Rattle.ioam_run_texts.specs.Told.{RanFor}
use Rattle.ioam_run_texts.proofs.AfterLaws.{AfterBy, after, same-way}

-- options that stay as they are are none that nodes fill
constant-lines : (size : ℕ) (parts : List Part) → AreConstant parts → changing_lines (items_of size parts) ≡ []
constant-lines size [] are = refl
constant-lines size (part ∷ parts) are =
    let item : Item = record { kind = part.kind; at = place_of size part; body = part.body } in
    let rest = filter is_changing_trace (items_of (behind_part size part) parts) in
    ap (λ (b : Bool). flat_map option_lines (cond (b && (leb 2 (length part.body) && eqb (slice_index part.body 1) 0)) (item ∷ rest) rest)) are.1
    ∙ constant-lines (behind_part size part) parts are.2

-- the option of a trace is one
is-trace : (at : ℕ) (octets : List ℕ) → is_changing_trace (record { kind = 0x31; at = at; body = 0 ∷ 0 ∷ octets }) ≡ true
is-trace at octets = ap (λ (b : Bool). b && true) (le-leb 2 (length (0 ∷ 0 ∷ octets)) (omega arith))

module _ (domain : Domain) (readings : List (List Sample)) (tunnel : Tunnel) (is : IsTunnel tunnel) (visits : List Visited) where
  abbrev es : Room → List (List ℕ)
  es = elements domain readings tunnel visits

  -- its lines are those of the elements that were recorded
  traces-lines : (size : ℕ) (rooms : List Room) → All IsRoom rooms
      → changing_lines (items_of size (trace_parts rooms es ++ tunnel.others)) ≡ flat_map (path_lines domain readings tunnel visits) rooms
  traces-lines size [] right = constant-lines size tunnel.others is.others
  traces-lines size (room ∷ rooms) right =
      let octets = trace_data room.namespace room.kind room.capacity (es room) in
      let part = trace_part room (es room) in
      let item : Item = record { kind = 0x31; at = place_of size part; body = 0 ∷ 0 ∷ octets } in
      let rest = items_of (behind_part size part) (trace_parts rooms es ++ tunnel.others) in
      let first = trace_lines-recorded room.namespace room.kind room.capacity (es room)
      (can_hold domain readings tunnel is room (All-head IsRoom room rooms right) visits) in
      ap (λ (b : Bool). flat_map option_lines (cond b (item ∷ filter is_changing_trace rest) (filter is_changing_trace rest))) (is-trace (place_of size part) octets)
      ∙ ap (λ (t : List ℕ). t ++ changing_lines rest) first
      ∙ ap (λ (t : List ℕ). path_lines domain readings tunnel visits room ++ t) (traces-lines (behind_part size part) rooms (All-tail IsRoom room rooms right))

-- of a packet at its exit
exit-lines : (domain : Domain) (readings : List (List Sample)) (tunnel : Tunnel) (is : IsTunnel tunnel) (front : List Visit) (last : Visit) (packet : List ℕ)
    → packet ≡ closed_after domain readings tunnel (map passed front) (passed last)
    → hop_traces_text packet ≡ flat_map (path_lines domain readings tunnel (map passed (front ++ last ∷ []))) tunnel.traces
unfolding closed_after
exit-lines domain readings tunnel is front last packet same =
    let vs = map passed front ++ passed last ∷ [] in
    let es = elements domain readings tunnel vs in
    ap (λ (p : List ℕ). hop_traces_text p) same
    ∙ ap changing_lines (hop_options-packet tunnel (limit_after tunnel (length (map passed front))) (hop_parts tunnel es) (are_parts domain readings tunnel is es))
    ∙ traces-lines domain readings tunnel is vs 2 tunnel.traces is.rooms
    ∙ ap (λ (ws : List Visited). flat_map (path_lines domain readings tunnel ws) tunnel.traces) (sym (map-append passed front (last ∷ [])))

-- of any job
paths-after : (domain : Domain) (readings : List (List Sample)) (packet : List ℕ) (visits : List Visit) (exited : Bool) (job : Job)
    (carried : Option (FlowId × Numbers)) → AfterBy domain readings packet visits exited job carried
    → hop_lines exited carried job.packet.items ≡ paths_by domain readings packet visits exited carried
paths-after domain readings packet visits true job None held = refl
paths-after domain readings packet visits false job None held = refl
paths-after domain readings packet visits false job (Some carried) held = refl
paths-after domain readings packet visits true job (Some carried) held =
    let tunnel = tunnel_of domain carried.0 carried.1 packet in
    exit-lines domain readings tunnel held.0 held.1.front held.1.last job.packet.items held.1.closed.packet_is
    ∙ ap (λ (vs : List Visit). flat_map (path_lines domain readings tunnel (map passed vs)) tunnel.traces) (sym held.1.are)

pub lines-are : (domain : Domain) (readings : List (List Sample)) (number : ℕ) (fate : Fate) (job : Job) → RanFor domain readings fate job
    → job_lines domain number job ≡ fate_lines domain readings number fate
lines-are domain readings number fate job ran =
    ap (λ (it : Itinerary). arrival_line domain number it ++ hop_lines it.exited it.carried job.packet.items) (same-way domain readings fate job ran)
    ∙ ap (λ (t : List ℕ). arrival_line domain number fate.itinerary ++ t)
    (paths-after domain readings fate.packet fate.itinerary.visits fate.itinerary.exited job fate.itinerary.carried (after domain readings fate job ran))
