-- Laws of the route with the longest prefix.
use Rattle.std.proofs.Common.{◌≡◌, ◌<◌, ◌≤◌, ℕ, Bool, true, false, nat_eq, nat_lt, ◌&&◌, ◌==◌, List, map, length, Option, Some, None, option_map, slice_get, refl, ap, sym, subst, ◌∙◌, arith}
use Rattle.std.specs.List.{All, Contains, position, position_or_len}
use Rattle.std.specs.Option.{ForSome}
use Rattle.std.proofs.lemmas.Bool.Decides.{nat_tests}
use Rattle.std.proofs.lemmas.Option.{slice_get_past}
use Rattle.ioam_topo.specs.declared.prefix.Prefix.{Prefix}
use Rattle.ioam_topo.specs.Prefixes.{masked, matches}
use Rattle.ioam_topo.specs.declared.ids.Way.{Way}
use Rattle.ioam_topo.specs.declared.ids.Way.TheVariants.{Link as ByLink, Port as ByPort}
use Rattle.ioam_topo.specs.declared.parts.Link.{Link}
use Rattle.ioam_topo.specs.declared.parts.Port.{Port}
use Rattle.ioam_topo.specs.declared.parts.Route.{Route}
use Rattle.ioam_topo.specs.Keyed.{is_route, key_of_route}
use Rattle.ioam_topo.specs.Kept.{IsRouteOf, is_of, is_way_from}
use Rattle.ioam_topo.specs.Forward.{longest, bits_of, fits, IsWayTo, IsWayFrom}
use Rattle.ioam_topo.proofs.KeyLaws.{place_map, length_map}
use Rattle.ioam_topo.proofs.LongestLaws.{same_place, found_at, found_nowhere, longest_first, longest_passes, longest_in, longest_most, longest_out}

and_off : (b : Bool) → (b && false) ≡ false
and_off true = refl
and_off false = refl

and_on : (b : Bool) → (b && true) ≡ b
and_on true = refl
and_on false = refl

and_left : (t u : Bool) → (t && u) ≡ true → t ≡ true
and_left true u is = refl
and_left false u is = cc

-- a route of a node that fits and has so many bits
abbrev fits_by : ℕ → ℕ → ℕ → Route → Bool
fits_by node target n route = fits node target route && nat_eq n (bits_of route)

same_bits : (a : Bool) (n s target bits : ℕ) (e : Bool) → nat_eq n s ≡ e → ((a && (masked s target == bits)) && e) ≡ (a && (nat_eq (masked n target) bits && e))
same_bits a n s target bits false is = and_off (a && (masked s target == bits)) ∙ sym (ap (λ b. a && b) (and_off (nat_eq (masked n target) bits)) ∙ and_off a)
same_bits a n s target bits true is = let same : s ≡ n = grind (arith, nat_tests, is) in
    and_on (a && (masked s target == bits)) ∙ ap (λ k. a && nat_eq (masked k target) bits) same ∙ ap (λ b. a && b) (sym (and_on (nat_eq (masked n target) bits)))

-- the key of so many bits of a target
abbrev key_bits : ℕ → ℕ → Prefix
key_bits n target = record { bits = masked n target; length = n }

same_test : (node target n : ℕ) (route : Route) → fits_by node target n route ≡ is_route node (key_bits n target) (key_of_route route)
same_test node target n route = same_bits (nat_eq node route.node.0) n route.prefix.length target route.prefix.bits (nat_eq n route.prefix.length) refl

by_length : (node target n : ℕ) (route : Route) → fits_by node target n route ≡ true → bits_of route ≡ n
by_length node target n route is = one (fits node target route) (nat_eq n (bits_of route)) refl is where
  one : (f e : Bool) → nat_eq n (bits_of route) ≡ e → (f && e) ≡ true → bits_of route ≡ n
  one true true same also = grind (arith, nat_tests, same)
  one true false same also = cc
  one false e same also = cc

place_of_key : (routes : List Route) (node target n : ℕ) → position_or_len (fits_by node target n) routes ≡ position_or_len (is_route node (key_bits n target)) (map key_of_route routes)
place_of_key routes node target n = same_place bits_of (fits_by node target n) (λ r. is_route node (key_bits n target) (key_of_route r)) routes (same_test node target n)
    ∙ place_map (is_route node (key_bits n target)) key_of_route routes

-- the route of a key that was found
pub route_found : (routes : List Route) (keys : List (ℕ × Prefix)) (node target n at : ℕ) (route : Route) → keys ≡ map key_of_route routes
    → Some at ≡ position (is_route node (key_bits n target)) keys → slice_get routes at ≡ Some route → Some route ≡ longest bits_of (fits_by node target n) routes
route_found routes keys node target n at route keyed found there =
    let place : position_or_len (is_route node (key_bits n target)) keys ≡ at = found_at (λ (x : ℕ × Prefix). x.0) (is_route node (key_bits n target)) keys at (sym found) in
    sym (longest_first bits_of (fits_by node target n) n routes (by_length node target n)
    ∙ ap (slice_get routes) (place_of_key routes node target n ∙ ap (position_or_len (is_route node (key_bits n target))) (sym keyed) ∙ place) ∙ there)

-- no route has a key that wasn't found
pub route_missing : (routes : List Route) (keys : List (ℕ × Prefix)) (node target n : ℕ) → keys ≡ map key_of_route routes
    → None ≡ position (is_route node (key_bits n target)) keys → None ≡ longest bits_of (fits_by node target n) routes
route_missing routes keys node target n keyed found =
    let past : length keys ≤ position_or_len (is_route node (key_bits n target)) keys = found_nowhere (λ (x : ℕ × Prefix). x.0) (is_route node (key_bits n target)) keys (sym found) in
    let place : position_or_len (fits_by node target n) routes ≡ position_or_len (is_route node (key_bits n target)) keys =
    place_of_key routes node target n ∙ ap (position_or_len (is_route node (key_bits n target))) (sym keyed) in
    let many : length keys ≡ length routes = ap length keyed ∙ sym (length_map key_of_route routes) in
    sym (longest_first bits_of (fits_by node target n) n routes (by_length node target n)
    ∙ slice_get_past routes (position_or_len (fits_by node target n) routes) (omega (arith, past, place, many)))

-- the longest route's way is the way to the target
pub way_is : (routes : List Route) (node target : ℕ) (o : Option Route) → o ≡ longest bits_of (fits node target) routes
    → IsWayTo routes node target (option_map (λ route. route.way) o)
way_is routes node target None is = longest_out bits_of (fits node target) routes (sym is)
way_is routes node target (Some route) is = (
  route,
  longest_in bits_of (fits node target) routes route (sym is),
  longest_passes bits_of (fits node target) routes route (sym is),
  refl,
  longest_most bits_of (fits node target) routes route (sym is),
)

of_there : {A : Type 0} (node_of : A → ℕ) (node i : ℕ) (xs : List A) → is_of node_of node (slice_get xs i) ≡ true → (i < length xs) × ForSome (slice_get xs i) (λ x. node_of x ≡ node)
of_there {A} node_of node i xs is = (below (slice_get xs i) refl is, λ x there. at_one x (sym (ap (is_of node_of node) there) ∙ is)) where
  below : (o : Option A) → slice_get xs i ≡ o → is_of node_of node o ≡ true → i < length xs
  below None there on = cc
  below (Some x) there on = past (nat_lt i (length xs)) refl there where
    past : (b : Bool) → nat_lt i (length xs) ≡ b → slice_get xs i ≡ Some x → i < length xs
    past true lt there = grind (arith, nat_tests, lt)
    past false lt there = let no_more : length xs ≤ i = grind (arith, nat_tests, lt) in let off : slice_get xs i ≡ None = slice_get_past xs i no_more in cc

  at_one : (x : A) → is_of node_of node (Some x) ≡ true → node_of x ≡ node
  at_one x on = grind (arith, nat_tests, on)

way_from : (links : List Link) (ports : List Port) (node : ℕ) (way : Way) → is_way_from links ports node way ≡ true → IsWayFrom links ports node way
way_from links ports node (ByLink link) is = of_there (λ l. l.from.0) node link.0 links is
way_from links ports node (ByPort port) is = of_there (λ p. p.node.0) node port.0 ports is

-- the way of a route that fits is from its node
pub way_inside : (nodes : ℕ) (links : List Link) (ports : List Port) (routes : List Route) (node target : ℕ) (route : Route) → All (IsRouteOf nodes links ports) routes
    → Some route ≡ longest bits_of (fits node target) routes → IsWayFrom links ports node route.way
way_inside nodes links ports routes node target route routed is =
    let place : Contains routes route = longest_in bits_of (fits node target) routes route (sym is) in
    let P : Route → Type 0 = IsRouteOf nodes links ports in
    let of : IsRouteOf nodes links ports route = subst P place.2 (routed place.0 route place.1) in
    let on : nat_eq node route.node.0 ≡ true = and_left (nat_eq node route.node.0) (matches route.prefix target) (longest_passes bits_of (fits node target) routes route (sym is)) in
    let same : node ≡ route.node.0 = grind (arith, nat_tests, on) in
    way_from links ports node route.way (ap (λ n. is_way_from links ports n route.way) same ∙ of.leads)
