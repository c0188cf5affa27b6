-- The outputs of a run over a domain, numbered once: the capture of each port in file order, then the capture of the
-- tap of each link that has one in file order, then the report, then the exports.
use Rattle.std.specs.Prelude.{ℕ, zero, suc, ◌+◌, List, [], ◌∷◌, ◌++◌, map, length, slice_get, Option, Some, None, IsSome, IsSomeAnd}
use Rattle.ioam_topo.specs.Domain.{links, ports}
use Rattle.ioam_topo.specs.declared.domain.Domain.{Domain}
use Rattle.ioam_topo.specs.declared.ids.LinkId.{LinkId}
use Rattle.ioam_topo.specs.declared.ids.PortId.{PortId}
use Rattle.ioam_topo.specs.declared.parts.Link.{Link}

-- the link at a place of the file, if it has a tap
abbrev pub tap_at : ℕ → Option (List ℕ) → List LinkId
tap_at place None = []
tap_at place (Some name) = record { 0 = place } ∷ []

-- the links that have one, in file order, where the first of these stands at a place of the file
abbrev pub tapped_from : ℕ → List Link → List LinkId
tapped_from place [] = []
tapped_from place (link ∷ links) = tap_at place link.tap ++ tapped_from (suc place) links

-- the links that have a tap, in file order
abbrev pub tapped : List Link → List LinkId
tapped links = tapped_from 0 links

-- one of these links, which has a tap
abbrev pub HasTap : List Link → LinkId → Type 0
HasTap links id = IsSomeAnd (slice_get links id.0) (λ (link : Link). IsSome link.tap)

-- how many outputs there are: a capture for each port and for each tap, the report and the exports
abbrev pub outlet_count : Domain → ℕ
outlet_count domain = length (ports domain) + length (tapped (links domain)) + 2

-- the place of the output of a port: they stand in file order, in front of all others
abbrev pub place_of_port : PortId → ℕ
place_of_port port = port.0

-- of that of a tap, behind so many other taps
abbrev pub place_of_tap : Domain → ℕ → ℕ
place_of_tap domain tap = length (ports domain) + tap

-- of the report, behind all captures
abbrev pub place_of_report : Domain → ℕ
place_of_report domain = length (ports domain) + length (tapped (links domain))

-- of the exports, behind the report
abbrev pub place_of_exports : Domain → ℕ
place_of_exports domain = place_of_report domain + 1

-- something for each of so many places, from one on
abbrev pub each_from : {A : Type 0} → ℕ → ℕ → (ℕ → A) → List A
each_from zero place f = []
each_from (suc count) place f = f place ∷ each_from count (suc place) f

-- something for each output, in their order: for the ports and for the links with a tap by their places in the file
abbrev pub of_outlets : {A : Type 0} → Domain → (ℕ → A) → (ℕ → A) → A → A → List A
of_outlets domain port tap report exports =
    each_from (length (ports domain)) 0 port ++ (map (λ link. tap link.0) (tapped (links domain)) ++ report ∷ exports ∷ [])
