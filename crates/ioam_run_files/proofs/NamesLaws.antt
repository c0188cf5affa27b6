-- Laws of the names of a run's files.
use Rattle.std.proofs.Common.{◌≡◌, ℕ, suc, ◌+◌, ◌<◌, List, [], ◌∷◌, ◌++◌, map, length, take, get_or, slice_get, Option, Some, None, Result, Ok, Err, IfOk, refl, sym, ◌∙◌, ap, subst, append-nil, append_assoc, length-append, arith}
use Rattle.std.specs.List.{All}
use Rattle.std.specs.Option.{option_map_or}
use Rattle.std.proofs.Math.Seq.{get_or-append_seam}
use Rattle.std.proofs.lemmas.Option.{slice_get-get_or}
use Rattle.std.proofs.lemmas.List.{map-append, length-map, length-take-le, take_more}
use Rattle.std.proofs.lemmas.List.Elements.{All-nil, All-cons, All-append}
use Rattle.ioam_topo.specs.Domain.{links, ports}
use Rattle.ioam_topo.specs.Keyed.{count_of, taps_of}
use Rattle.ioam_topo.specs.declared.domain.Domain.{Domain}
use Rattle.ioam_topo.specs.declared.ids.PortId.{PortId}
use Rattle.ioam_topo.specs.declared.parts.Link.{Link}
use Rattle.ioam_topo.specs.declared.parts.Port.{Port}
use Rattle.ioam_run_outputs.specs.Outlets.{tapped, outlet_count}
use Rattle.ioam_run_outputs.proofs.OutletsLaws.{length-tapped}
use Rattle.ioam_run_files.specs.Names.{input_of, input_names, port_with, ports_from, input_ports, inputs_at, tap_name, tap_names, output_names}

-- one port more at the end
pub ports_more : (place : ℕ) (ports : List Port) (port : Port)
    → ports_from place (ports ++ port ∷ []) ≡ ports_from place ports ++ port_with (place + length ports) port.input
ports_more place [] port = append-nil (port_with place port.input) ∙ ap (λ n. port_with n port.input) (omega arith)
ports_more place (first ∷ ports) port =
    let next : suc place + length ports ≡ place + length (first ∷ ports) = omega arith in
    ap (λ l. port_with place first.input ++ l) (ports_more (suc place) ports port)
    ∙ sym (append_assoc (port_with place first.input) (ports_from (suc place) ports) (port_with (suc place + length ports) port.input))
    ∙ ap (λ n. (port_with place first.input ++ ports_from (suc place) ports) ++ port_with n port.input) next

-- the port at a place behind those before it
pub ports_step : (ports : List Port) (place : ℕ) (port : Port) (ids new : List PortId) → place < length ports → port ≡ get_or ports place port
    → ids ≡ input_ports (take place ports) → new ≡ ids ++ port_with place port.input → new ≡ input_ports (take (place + 1) ports)
ports_step ports place port ids new inside is before now =
    let so_far = take place ports in
    let count : 0 + length so_far ≡ place = omega (arith, length-take-le place ports) in
    let next : take (place + 1) ports ≡ so_far ++ port ∷ []
    = take_more ports place port inside ∙ ap (λ (p : Port). so_far ++ p ∷ []) (sym is) in
    now ∙ ap (λ (l : List PortId). l ++ port_with place port.input) before
    ∙ ap (λ (n : ℕ). input_ports so_far ++ port_with n port.input) (sym count)
    ∙ sym (ports_more 0 so_far port) ∙ ap input_ports (sym next)

one_each : (place : ℕ) (input : Option (List ℕ)) → length (port_with place input) ≡ length (input_of input)
one_each place None = refl
one_each place (Some name) = refl

as_many : (place : ℕ) (ports : List Port) → length (ports_from place ports) ≡ length (input_names ports)
as_many place [] = refl
as_many place (port ∷ ports) = omega (
  arith,
  length-append (port_with place port.input) (ports_from (suc place) ports),
  length-append (input_of port.input) (input_names ports),
  one_each place port.input,
  as_many (suc place) ports,
)

pub length-input_ports : (ports : List Port) → length (input_ports ports) ≡ length (input_names ports)
length-input_ports ports = as_many 0 ports

-- the capture of the port at a place
inputs_one : (all : List Port) (place : ℕ) (port : Port) (input : Option (List ℕ)) → slice_get all place ≡ Some port → port.input ≡ input
    → inputs_at all (port_with place input) ≡ map (λ name. Some name) (input_of input)
inputs_one all place port None found is = refl
inputs_one all place port (Some name) found is =
    ap (λ (at : Option Port). option_map_or (λ p. p.input) at None ∷ []) found ∙ ap (λ (held : Option (List ℕ)). held ∷ []) is

inputs_from : (front ports : List Port)
    → inputs_at (front ++ ports) (ports_from (length front) ports) ≡ map (λ name. Some name) (input_names ports)
inputs_from front [] = refl
inputs_from front (port ∷ ports) =
    let all = front ++ port ∷ ports in
    let f : PortId → Option (List ℕ) = λ id. option_map_or (λ p. p.input) (slice_get all id.0) None in
    let some : List ℕ → Option (List ℕ) = λ name. Some name in
    let there : slice_get all (length front) ≡ Some port
    = slice_get-get_or all (length front) port (omega (arith, length-append front (port ∷ ports)))
    ∙ ap (λ (p : Port). Some p) (get_or-append_seam front port ports port) in
    let grown : (front ++ port ∷ []) ++ ports ≡ all = append_assoc front (port ∷ []) ports in
    let count : length (front ++ port ∷ []) ≡ suc (length front) = omega (arith, length-append front (port ∷ [])) in
    let P : ℕ → Type 0 = λ n. inputs_at ((front ++ port ∷ []) ++ ports) (ports_from n ports) ≡ map some (input_names ports) in
    let Q : List Port → Type 0 = λ l. inputs_at l (ports_from (suc (length front)) ports) ≡ map some (input_names ports) in
    let behind : inputs_at all (ports_from (suc (length front)) ports) ≡ map some (input_names ports)
    = subst Q grown (subst P count (inputs_from (front ++ port ∷ []) ports)) in
    map-append f (port_with (length front) port.input) (ports_from (suc (length front)) ports)
    ∙ ap (λ (l : List (Option (List ℕ))). l ++ map f (ports_from (suc (length front)) ports)) (inputs_one all (length front) port port.input there refl)
    ∙ ap (λ (l : List (Option (List ℕ))). map some (input_of port.input) ++ l) behind
    ∙ sym (map-append some (input_of port.input) (input_names ports))

-- the k-th of the ports with a capture has the k-th capture
pub inputs-input_ports : (ports : List Port) → inputs_at ports (input_ports ports) ≡ map (λ name. Some name) (input_names ports)
inputs-input_ports ports = inputs_from [] ports

-- as many taps' captures as links with a tap
one_tap : (tap : Option (List ℕ)) → length (tap_name tap) ≡ count_of tap
one_tap None = refl
one_tap (Some name) = refl

as_many_taps : (links : List Link) → length (tap_names links) ≡ taps_of links
as_many_taps [] = refl
as_many_taps (link ∷ links) = omega (arith, length-append (tap_name link.tap) (tap_names links), one_tap link.tap, as_many_taps links)

pub length-tap_names : (links : List Link) → length (tap_names links) ≡ length (tapped links)
length-tap_names links = as_many_taps links ∙ sym (length-tapped links)

-- a name for each output
pub length-output_names : (ports : List Port) (links : List Link) (report exports : List ℕ)
    → length (output_names ports links report exports) ≡ length ports + length (tapped links) + 2
length-output_names ports links report exports = omega (
  arith,
  length-append (map (λ (port : Port). port.output) ports) (tap_names links ++ report ∷ exports ∷ []),
  length-map ports (λ (port : Port). port.output),
  length-append (tap_names links) (report ∷ exports ∷ []),
  length-tap_names links,
)

-- so there are as many as outputs
pub named_each : (domain : Domain) (report exports : List ℕ) (names : List (List ℕ)) → names ≡ output_names (ports domain) (links domain) report exports
    → length names ≡ outlet_count domain
named_each domain report exports names is = ap length is ∙ length-output_names (ports domain) (links domain) report exports

pub named_each_of : {T E : Type 0} (domain : Domain) (report exports : List ℕ) (items : T → List (List ℕ)) (r : Result T E)
    → IfOk r (λ names. items names ≡ output_names (ports domain) (links domain) report exports) → IfOk r (λ names. length (items names) ≡ outlet_count domain)
named_each_of domain report exports items (Ok names) is = named_each domain report exports (items names) is
named_each_of domain report exports items (Err refused) is = tt

-- these ports are below a number
abbrev AreBelow : ℕ → List PortId → Type 0
AreBelow most ids = All (λ port. port.0 < most) ids

port_below : (most place : ℕ) (input : Option (List ℕ)) → place < most → AreBelow most (port_with place input)
port_below most place None below = All-nil (λ (port : PortId). port.0 < most)
port_below most place (Some name) below = All-cons (λ (port : PortId). port.0 < most) (record { 0 = place }) [] below
    (All-nil (λ (port : PortId). port.0 < most))

ports_below : (place : ℕ) (ports : List Port) → AreBelow (place + length ports) (ports_from place ports)
ports_below place [] = All-nil (λ (port : PortId). port.0 < place + 0)
ports_below place (port ∷ ports) =
    let most = place + length (port ∷ ports) in
    let next : suc place + length ports ≡ most = omega arith in
    let below : place < most = omega arith in
    All-append (λ (id : PortId). id.0 < most) (port_with place port.input) (ports_from (suc place) ports) (port_below most place port.input below)
    (subst (λ (n : ℕ). AreBelow n (ports_from (suc place) ports)) next (ports_below (suc place) ports))

-- they are ports of the file
pub ports_inside : (ports : List Port) → All (λ port. port.0 < length ports) (input_ports ports)
ports_inside ports = let same : 0 + length ports ≡ length ports = omega arith in
    subst (λ (n : ℕ). AreBelow n (input_ports ports)) same (ports_below 0 ports)
