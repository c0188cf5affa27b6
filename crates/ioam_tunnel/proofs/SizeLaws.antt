-- How long the options of an outer packet are.
use Rattle.std.proofs.Common.{◌≡◌, ◌≢◌, ℕ, suc, ◌+◌, ◌*◌, ◌≤◌, Bool, true, false, IsTrue, cond, List, [], ◌∷◌, ◌++◌, length, map, replicate, Option, Some, None, is_some, refl, ap, ◌∙◌, arith, length-append}
use Rattle.std.proofs.lemmas.List.{length-replicate}
use Rattle.ioam_base.specs.Words.{four_octets_if}
use Rattle.ioam_data.specs.Kind.{words}
use Rattle.ioam_data.specs.declared.namespace.Namespace.{Namespace}
use Rattle.ioam_dex.specs.Direct.{direct_octets}
use Rattle.ioam_dex.specs.declared.direct.Direct.{Direct}
use Rattle.ioam_edge.specs.Edge.{asks, edge_octets, fields_size, HasItsFields}
use Rattle.ioam_edge.proofs.EdgeLaws.{length-edge_octets}
use Rattle.ioam_ip.specs.Layout.{padded}
use Rattle.ioam_ip.specs.Sizes.{Sized, sized, size_with, options_end, header_size}
use Rattle.ioam_topo.specs.declared.parts.Flow.{Flow}
use Rattle.ioam_topo.specs.declared.traces.FlowTrace.{FlowTrace}
use Rattle.ioam_trace.specs.Data.{trace_data}
use Rattle.ioam_trace.proofs.DataLaws.{trace_data-none}
use Rattle.ioam_trace.proofs.HeadLaws.{length-header}
use Rattle.ioam_tunnel.specs.declared.numbers.Numbers.{Numbers}
use Rattle.ioam_data.specs.Written.{seconds_of, fraction_of}
use Rattle.ioam_tunnel.specs.Enclosed.{room_of, direct_of, direct_parts, edge_of, edge_parts, limit_parts}
use Rattle.ioam_tunnel.specs.Size.{trace_size, direct_sizes, limit_sizes, edge_sizes}
use Rattle.ioam_tunnel.specs.Wire.{trace_parts, no_elements}

-- ---- the data of each option

pub length_trace : (namespace kind capacity : ℕ) → length (trace_data namespace kind capacity []) ≡ 8 + 4 * capacity
length_trace namespace kind capacity =
    ap length (trace_data-none namespace kind capacity)
    ∙ length-header namespace (words kind) 0 capacity kind 0 (replicate (4 * capacity) 0)
    ∙ ap (λ n. 8 + n) (length-replicate (4 * capacity) 0)

four_if : (number : Option ℕ) → length (four_octets_if number) ≡ cond (is_some number) 4 0
four_if None = refl
four_if (Some number) = refl

pub length_direct : (direct : Direct) → is_some direct.flow ≡ true → is_some direct.seq ≡ true → length (direct_octets direct 0) ≡ 16
length_direct direct flow seq =
    omega (
      arith,
      length-append (four_octets_if direct.flow) (four_octets_if direct.seq),
      four_if direct.flow ∙ ap (λ b. cond b 4 0) flow,
      four_if direct.seq ∙ ap (λ b. cond b 4 0) seq,
    )

asked : (b : Bool) (number : ℕ) → is_some (cond b (Some number) None) ≡ b
asked true number = refl
asked false number = refl

pub edge-fields : (namespace : Namespace) (kind : ℕ) (numbers : Numbers) → HasItsFields (edge_of namespace kind numbers)
edge-fields namespace kind numbers = record {
  seq64 = asked (asks kind 0) numbers.number;
  seq32 = asked (asks kind 1) numbers.number;
  seconds = asked (asks kind 2) (seconds_of numbers.stamp);
  fraction = asked (asks kind 3) (fraction_of numbers.stamp);
}

-- ---- the options, by their sizes

pub sized-traces : (traces : List FlowTrace) → map sized (trace_parts (map room_of traces) no_elements) ≡ map trace_size traces
sized-traces [] = refl
sized-traces (trace ∷ traces) =
    let one : length (trace_data trace.namespace.0 trace.kind trace.capacity []) ≡ 8 + 4 * trace.capacity = length_trace trace.namespace.0 trace.kind trace.capacity in
    let size : suc (suc (length (trace_data trace.namespace.0 trace.kind trace.capacity []))) ≡ 10 + 4 * trace.capacity = omega (arith, one) in
    λ i. record { kind = 0x31; size = size i } ∷ sized-traces traces i

-- the direct export option is there exactly where the packet has a number, which it has only where the flow has direct
-- exports
pub sized-direct : (flow : Flow) (kind seq : Option ℕ) → is_some flow.flow_id ≡ is_some kind → (IsTrue (is_some seq) → IsTrue (is_some kind))
    → map sized (direct_parts flow kind seq) ≡ direct_sizes (is_some seq)
sized-direct flow (Some kind) (Some seq) id only =
    let long : length (direct_octets (direct_of flow kind seq) 0) ≡ 16 = length_direct (direct_of flow kind seq) id refl in
    let size : suc (suc (length (direct_octets (direct_of flow kind seq) 0))) ≡ 18 = omega (arith, long) in
    λ i. record { kind = 0x11; size = size i } ∷ []
sized-direct flow (Some kind) None id only = refl
sized-direct flow None (Some seq) id only = absurd (cc (only refl))
sized-direct flow None None id only = refl

pub sized-limit : (limit : Option ℕ) → map sized (limit_parts limit) ≡ limit_sizes (is_some limit)
sized-limit None = refl
sized-limit (Some limit) = refl

pub sized-edge : (namespace : Namespace) (edge : Option ℕ) (numbers : Numbers) → map sized (edge_parts namespace edge numbers) ≡ edge_sizes edge
sized-edge namespace None numbers = refl
sized-edge namespace (Some kind) numbers =
    let long : length (edge_octets (edge_of namespace kind numbers)) ≡ 4 + fields_size kind = length-edge_octets (edge_of namespace kind numbers) (edge-fields namespace kind numbers) in
    let size : suc (suc (length (edge_octets (edge_of namespace kind numbers)))) ≡ 6 + fields_size kind = omega (arith, long) in
    λ i. record { kind = 0x11; size = size i } ∷ []

-- ---- headers, by where their options end

pub options_end-append : (size : ℕ) (xs ys : List Sized) → options_end size (xs ++ ys) ≡ options_end (options_end size xs) ys
options_end-append size [] ys = refl
options_end-append size (x ∷ xs) ys = options_end-append (size_with size x.kind x.size) xs ys

-- options end no earlier than they begin
end-least : (size : ℕ) (options : List Sized) → size ≤ options_end size options
end-least size [] = omega arith
end-least size (x ∷ xs) = omega (arith, end-least (size_with size x.kind x.size) xs)

-- and later where there are any
end-more : (size : ℕ) (x : Sized) (xs : List Sized) → size + 2 ≤ options_end size (x ∷ xs)
end-more size x xs = omega (arith, end-least (size_with size x.kind x.size) xs)

pub size_none : (end : ℕ) (options : List Sized) → end ≡ 2 → end ≡ options_end 2 options → 0 ≡ header_size options
size_none end [] none is = refl
size_none end (x ∷ xs) none is = absurd (omega (arith, none, is, end-more 2 x xs))

pub size_some : (end : ℕ) (options : List Sized) → end ≢ 2 → end ≡ options_end 2 options → padded end ≡ header_size options
size_some end [] some is = absurd (some is)
size_some end (x ∷ xs) some is = ap padded is
