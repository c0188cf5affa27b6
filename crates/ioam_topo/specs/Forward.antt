-- Where a node sends a target: the way of the route with the longest prefix, of whatever length (RFC 7608 section 2).
use Rattle.std.specs.Prelude.{◌≡◌, ◌<◌, ◌≤◌, ℕ, Bool, true, false, nat_eq, nat_lt, ◌&&◌, List, [], ◌∷◌, length, Option, Some, None, option_map, slice_get, if◌then◌else◌}
use Rattle.std.specs.List.{All, Contains}
use Rattle.std.specs.Option.{ForSome}
use Rattle.ioam_topo.specs.Prefixes.{matches}
use Rattle.ioam_topo.specs.declared.ids.Way.{Way}
use Rattle.ioam_topo.specs.declared.ids.Way.TheVariants.{Link as ByLink, Port as ByPort}
use Rattle.ioam_topo.specs.declared.parts.Link.{Link}
use Rattle.ioam_topo.specs.declared.parts.Port.{Port}
use Rattle.ioam_topo.specs.declared.parts.Route.{Route}

module _ {A : Type 0} (size : A → ℕ) where
  -- the longer of two, else the first
  abbrev pub longer : A → Option A → A
  longer x None = x
  longer x (Some y) = if nat_lt (size x) (size y) then y else x

  -- of those that pass a test the longest, the first of several
  abbrev pub longest : (A → Bool) → List A → Option A
  longest test [] = None
  longest test (x ∷ xs) = if test x then Some (longer x (longest test xs)) else longest test xs

-- how many bits a route's prefix has
abbrev pub bits_of : Route → ℕ
bits_of route = route.prefix.length

-- whether a route is one of the node, and the target has its prefix
abbrev pub fits : ℕ → ℕ → Route → Bool
fits node target route = nat_eq node route.node.0 && matches route.prefix target

-- the way of a target from a node, among these routes
abbrev pub way_to : List Route → ℕ → ℕ → Option Way
way_to routes node target = option_map (λ route. route.way) (longest bits_of (fits node target) routes)

-- the way is that of a route that fits, and none that fits is longer; there is none where no route fits
abbrev pub IsWayTo : List Route → ℕ → ℕ → Option Way → Type 0
IsWayTo routes node target None = All (λ route. fits node target route ≡ false) routes
IsWayTo routes node target (Some way) = (route : Route) × Contains routes route × (fits node target route ≡ true) × (route.way ≡ way)
    × All (λ other. fits node target other ≡ true → bits_of other ≤ bits_of route) routes

-- a way from a node: a link from it or a port of it
abbrev pub IsWayFrom : List Link → List Port → ℕ → Way → Type 0
IsWayFrom links ports node (ByLink link) = (link.0 < length links) × ForSome (slice_get links link.0) (λ l. l.from.0 ≡ node)
IsWayFrom links ports node (ByPort port) = (port.0 < length ports) × ForSome (slice_get ports port.0) (λ p. p.node.0 ≡ node)
