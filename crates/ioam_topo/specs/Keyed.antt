-- What the parts of a domain are found by, and what no two of them may share.
use Rattle.std.specs.Prelude.{◌≡◌, ℕ, ◌+◌, Bool, false, nat_eq, ◌&&◌, List, [], ◌∷◌, Option, Some, None, IfSome, position}
use Rattle.std.specs.List.{list_any}
use Rattle.std.specs.Str.{bytes_eq}
use Rattle.ioam_topo.specs.declared.prefix.Prefix.{Prefix}
use Rattle.ioam_topo.specs.declared.parts.Node.{Node}
use Rattle.ioam_topo.specs.declared.parts.Link.{Link}
use Rattle.ioam_topo.specs.declared.parts.Port.{Port}
use Rattle.ioam_topo.specs.declared.parts.Route.{Route}
use Rattle.ioam_topo.specs.declared.parts.NodeData.{NodeData}

-- the place of a name
abbrev pub place_of : List (List ℕ) → List ℕ → Option ℕ
place_of names name = position (bytes_eq name) names

-- the name, and the address, of a node
abbrev pub name_of_node : Node → List ℕ
name_of_node node = node.name

-- the address of a node
abbrev pub address_of_node : Node → ℕ
address_of_node node = node.address

-- the id of a node
abbrev pub id_of_node : Node → ℕ
id_of_node node = node.id

-- the name of a link
abbrev pub name_of_link : Link → List ℕ
name_of_link link = link.name

-- one more where there is something
abbrev pub count_of : {A : Type 0} → Option A → ℕ
count_of None = 0
count_of (Some x) = 1

-- how many of these links have a tap
abbrev pub taps_of : List Link → ℕ
taps_of [] = 0
taps_of (link ∷ links) = count_of link.tap + taps_of links

-- the name of a port
abbrev pub name_of_port : Port → List ℕ
name_of_port port = port.name

-- whether a route is one of a node for a prefix
abbrev pub is_route : ℕ → Prefix → ℕ × Prefix → Bool
is_route node p other = nat_eq node other.0 && (nat_eq p.bits other.1.bits && nat_eq p.length other.1.length)

-- what no two routes share
abbrev pub key_of_route : Route → ℕ × Prefix
key_of_route route = (route.node.0, route.prefix)

-- what no two rows of node data share
abbrev pub key_of_data : NodeData → ℕ × ℕ
key_of_data row = (row.node.0, row.namespace.0)

-- whether a pair is of these two numbers
abbrev pub is_pair : ℕ → ℕ → ℕ × ℕ → Bool
is_pair a b other = nat_eq a other.0 && nat_eq b other.1

-- the pair of a number and one that may be absent
abbrev pub pairs_of : ℕ → Option ℕ → List (ℕ × ℕ)
pairs_of a None = []
pairs_of a (Some b) = (a, b) ∷ []

-- an id, where there is one, that no flow of the namespace has
abbrev pub IsNewId : ℕ → Option ℕ → List (ℕ × ℕ) → Type 0
IsNewId space id seen = IfSome id (λ i. list_any (is_pair space i) seen ≡ false)
