-- What an enclosed packet carries at its exit.
use Rattle.std.proofs.Common.{◌≡◌, ℕ, suc, ◌+◌, ◌*◌, List, [], ◌∷◌, ◌++◌, length, drop, Option, refl, sym, ap, ◌∙◌, arith, length-append}
use Rattle.std.specs.Prelude.{IsSomeAnd, All}
use Rattle.std.specs.declared.ops.Range.{Range}
use Rattle.std.proofs.lemmas.List.Elements.{All-head, All-tail}
use Rattle.ioam_clock.specs.declared.sample.Sample.{Sample}
use Rattle.ioam_ip.specs.Chain.{IsSound}
use Rattle.ioam_ip.specs.Laid.{Part, header_if, parts_end, place_of}
use Rattle.ioam_ip.specs.Packet.{IsPacket}
use Rattle.ioam_ip.proofs.LaidLaws.{length-header}
use Rattle.ioam_topo.specs.declared.domain.Domain.{Domain}
use Rattle.ioam_trace.specs.Data.{trace_data}
use Rattle.ioam_trace.proofs.DataLaws.{length-trace_data}
use Rattle.ioam_tunnel.specs.Inner.{IsOuter, GivesBack}
use Rattle.ioam_tunnel.specs.Wire.{Tunnel, Room, IsRoom, IsTunnel, trace_part, trace_parts, no_elements, hop_parts, next_value, limit_after}
use Rattle.ioam_node_visit.specs.Visits.{Visited, elements, closed_after}
use Rattle.ioam_node_visit.proofs.VisitLaws.{can_hold, are_parts}

module _ (domain : Domain) (readings : List (List Sample)) (tunnel : Tunnel) (is : IsTunnel tunnel) (visits : List Visited) where
  abbrev es : Room → List (List ℕ)
  es = elements domain readings tunnel visits

  -- a trace is as long as when it was empty
  trace_long : (room : Room) → IsRoom room → length ((trace_part room (es room)).body) ≡ length ((trace_part room []).body)
  trace_long room right =
      let now : length (trace_data room.namespace room.kind room.capacity (es room)) ≡ 8 + 4 * room.capacity =
      length-trace_data room.namespace room.kind room.capacity (es room) (can_hold domain readings tunnel is room right visits) in
      let first : length (trace_data room.namespace room.kind room.capacity []) ≡ 8 + 4 * room.capacity =
      length-trace_data room.namespace room.kind room.capacity [] (can_hold domain readings tunnel is room right []) in
      ap (λ n. suc (suc n)) (now ∙ sym first)

  -- so the options end where they did
  ends_stay : (size : ℕ) (rooms : List Room) (others : List Part) → All IsRoom rooms
      → parts_end size (trace_parts rooms es ++ others) ≡ parts_end size (trace_parts rooms no_elements ++ others)
  ends_stay size [] others right = refl
  ends_stay size (room ∷ rooms) others right =
      let first = trace_part room [] in
      ap (λ n. parts_end (place_of size first + 2 + n) (trace_parts rooms es ++ others)) (trace_long room (All-head IsRoom room rooms right))
      ∙ ends_stay (place_of size first + 2 + length (first.body)) rooms others (All-tail IsRoom room rooms right)

  -- and the header is as long
  header_long : (next : ℕ) (rooms : List Room) (others : List Part) → All IsRoom rooms
      → length (header_if next (trace_parts rooms es ++ others)) ≡ length (header_if next (trace_parts rooms no_elements ++ others))
  header_long next [] others right = refl
  header_long next (room ∷ rooms) others right =
      length-header next (trace_parts (room ∷ rooms) es ++ others)
      ∙ ends_stay 2 (room ∷ rooms) others right
      ∙ sym (length-header next (trace_parts (room ∷ rooms) no_elements ++ others))

  outer_right : IsOuter tunnel (hop_parts tunnel es)
  outer_right =
      let same = header_long (next_value tunnel) tunnel.traces tunnel.others is.rooms in
      let back = header_if 41 tunnel.targets ++ tunnel.inner in
      record {
        class_below = is.class_below;
        label_below = is.label_below;
        payload_below = omega (
          arith,
          same,
          is.payload_below,
          length-append (header_if (next_value tunnel) (hop_parts tunnel es)) back,
          length-append (header_if (next_value tunnel) (hop_parts tunnel no_elements)) back,
        );
        targets = is.targets;
        others = are_parts domain readings tunnel is es;
      }

module _ (domain : Domain) (readings : List (List Sample)) (tunnel : Tunnel) (is : IsTunnel tunnel) where
  pub carried-closed : (packet : List ℕ) (result : Option (Range ℕ)) → GivesBack packet result → (visits : List Visited) (last : Visited)
      → IsPacket tunnel.inner → IsSound tunnel.inner → packet ≡ closed_after domain readings tunnel visits last
      → IsSomeAnd result (λ range. (range.end ≡ length packet) × (drop range.start packet ≡ tunnel.inner))
  unfolding closed_after
  carried-closed packet result gives visits last is_packet sound same =
      gives tunnel (limit_after tunnel (length visits)) (hop_parts tunnel (elements domain readings tunnel (visits ++ last ∷ [])))
      (outer_right domain readings tunnel is (visits ++ last ∷ [])) is_packet sound same
