-- The files of a run over a domain: the words of the command name four, each port of the domain the capture of the
-- packets that leave by it and perhaps one of the packets that arrive at it, and a link perhaps one of what crosses it.
use Rattle.std.specs.Prelude.{ℕ, suc, List, [], ◌∷◌, ◌++◌, map, slice_get, Option, Some, None}
use Rattle.std.specs.List.{flat_map}
use Rattle.std.specs.Option.{option_map_or}
use Rattle.ioam_topo.specs.declared.ids.PortId.{PortId}
use Rattle.ioam_topo.specs.declared.parts.Link.{Link}
use Rattle.ioam_topo.specs.declared.parts.Port.{Port}

-- the capture of the packets that arrive at a port, if it has one
abbrev pub input_of : Option (List ℕ) → List (List ℕ)
input_of None = []
input_of (Some name) = name ∷ []

-- those of all ports, in file order
abbrev pub input_names : List Port → List (List ℕ)
input_names ports = flat_map (λ port. input_of port.input) ports

-- the port at a place of the file, if it has such a capture
abbrev pub port_with : ℕ → Option (List ℕ) → List PortId
port_with place None = []
port_with place (Some name) = record { 0 = place } ∷ []

-- the ports that have one, in file order, where the first of these stands at a place of the file
abbrev pub ports_from : ℕ → List Port → List PortId
ports_from place [] = []
ports_from place (port ∷ ports) = port_with place port.input ++ ports_from (suc place) ports

-- the ports that have a capture of arrivals, in file order
abbrev pub input_ports : List Port → List PortId
input_ports ports = ports_from 0 ports

-- the captures of the packets that arrive at the ports at these places
abbrev pub inputs_at : List Port → List PortId → List (Option (List ℕ))
inputs_at ports ids = map (λ id. option_map_or (λ port. port.input) (slice_get ports id.0) None) ids

-- the capture of a link's tap, if it has one
abbrev pub tap_name : Option (List ℕ) → List (List ℕ)
tap_name None = []
tap_name (Some name) = name ∷ []

-- those of all links, in file order
abbrev pub tap_names : List Link → List (List ℕ)
tap_names links = flat_map (λ link. tap_name link.tap) links

-- the files that are written: a capture for each port and one for each link with a tap, in file order, the report and the exports
abbrev pub output_names : List Port → List Link → List ℕ → List ℕ → List (List ℕ)
output_names ports links report exports = map (λ port. port.output) ports ++ (tap_names links ++ report ∷ exports ∷ [])

-- all files, in the order in which equal ones are looked for: those of the words, those of each port, those of the taps
abbrev pub file_names : List Port → List Link → List (List ℕ) → List (List ℕ)
file_names ports links words = words ++ (flat_map (λ port. input_of port.input ++ port.output ∷ []) ports ++ tap_names links)
