-- Laws of what a node knows of a packet.
use Rattle.std.proofs.Common.{◌≡◌, ℕ, ◌%◌, ◌≤◌, Bool, true, false, cond, List, [], ◌∷◌, length, Option, Some, None, refl, arith}
use Rattle.std.specs.Prelude.{IfSome}
use Rattle.std.specs.Option.{ForSome}
use Rattle.std.specs.List.{All, find}
use Rattle.std.proofs.lemmas.List.Elements.{All-head, All-rest}
use Rattle.ioam_clock.specs.declared.sample.Sample.{Sample}
use Rattle.ioam_data.specs.Snapshot.{IsSnapshot}
use Rattle.ioam_node.specs.declared.place.Place.{Place}
use Rattle.ioam_topo.specs.declared.domain.Domain.{Domain}
use Rattle.ioam_topo.specs.declared.parts.NodeData.{NodeData}
use Rattle.ioam_topo.specs.Domain.{node_data}
use Rattle.ioam_topo.specs.Finding.{data_at, is_data_of}
use Rattle.ioam_topo.specs.Sound.{IsNodeData}
use Rattle.ioam_node_visit.specs.Seeing.{both, snapshot_in, view_of}

at_first : (P : NodeData → Type 0) (b : Bool) (row : NodeData) (others : Option NodeData) → P row → IfSome others P → IfSome (cond b (Some row) others) P
at_first P true row others here rest = here
at_first P false row others here rest = rest

found_all : (P : NodeData → Type 0) (test : NodeData → Bool) (rows : List NodeData) → All P rows → IfSome (find test rows) P
found_all P test [] all = tt
found_all P test (row ∷ rows) all =
    at_first P (test row) row (find test rows) (All-head P row rows all) (found_all P test rows (All-rest P row rows (row ∷ rows) refl all))

both_right : (schema : Option ℕ) (octets : Option (List ℕ)) → ForSome schema (λ n. n ≤ 16777214) → ForSome octets (λ xs. length xs % 4 ≡ 0)
    → ForSome octets (λ xs. length xs ≤ 180) → IfSome (both schema octets) (λ s. IsSnapshot s.0 s.1)
both_right None octets s w m = tt
both_right (Some schema) None s w m = tt
both_right (Some schema) (Some octets) s w m =
    let below = s schema refl in
    record { schema_below = omega arith; in_words = w octets refl; short = m octets refl }

pub snapshot_in-right : (row : Option NodeData) → IfSome row IsNodeData → IfSome (snapshot_in row) (λ s. IsSnapshot s.0 s.1)
snapshot_in-right None right = tt
snapshot_in-right (Some row) right = both_right row.schema row.snapshot right.schema_most right.words right.most

pub view_of-right : (domain : Domain) (readings : List (List Sample)) (place : Place) (time hops space : ℕ)
    → IfSome (view_of domain readings place time hops space).snapshot (λ s. IsSnapshot s.0 s.1)
unfolding view_of
view_of-right domain readings place time hops space =
    snapshot_in-right (data_at (node_data domain) place.node.0 space)
    (found_all IsNodeData (is_data_of place.node.0 space) (node_data domain) domain.sound_data.sound)
