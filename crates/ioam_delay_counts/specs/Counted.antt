-- What is counted of all traces.
use Rattle.std.specs.Prelude.{◌≡◌, ℕ, ℤ, ◌+◌, ⊤, List, [], ◌∷◌, length, map, Option}
use Rattle.std.specs.List.{flat_map, sum_by}
use Rattle.ioam_delays.specs.declared.sight.Sight.{Sight}
use Rattle.ioam_delay_counts.specs.Tables.{IsTable}
use Rattle.ioam_delay_counts.specs.Courses.{Course, IsWay, hops_from, nodes_from, space_of}
use Rattle.ioam_delay_counts.specs.Orders.{hop_before, node_before, space_before, way_before}
use Rattle.ioam_delay_counts.specs.Tallies.{CountsFilled, CountsPassed, CountsSeen}
use Rattle.ioam_delay_counts.specs.declared.keys.HopKey.{HopKey}
use Rattle.ioam_delay_counts.specs.declared.keys.NodeKey.{NodeKey}
use Rattle.ioam_delay_counts.specs.declared.keys.WayKey.{WayKey}
use Rattle.ioam_delay_counts.specs.declared.sums.Sums.{Sums}

-- how many traces and elements there are
abbrev pub weight : List Course → ℕ
weight courses = sum_by (λ (course : Course). length course.sights + 1) courses

-- the nodes and the hops of a trace
abbrev pub nodes_in : Course → List (NodeKey × Sight)
nodes_in course = nodes_from course.namespace course.sights

abbrev pub hops_in : Course → List (HopKey × Option ℤ)
hops_in course = hops_from course.namespace course.sights

-- these are the ways of traces, each with its delay
abbrev pub AreWays : List Course → List (WayKey × Option ℤ) → Type 0
AreWays [] [] = ⊤
AreWays [] (way ∷ ways) = ⊥
AreWays (course ∷ courses) [] = ⊥
AreWays (course ∷ courses) (way ∷ ways) = IsWay course way.0 way.1 × AreWays courses ways

-- these traces are counted: each in its namespace and on its way, each of its hops, and each element of its nodes
pub record AreCounted (courses : List Course) (sums : Sums) : Type 0 where
  pub spaces : IsTable space_before CountsFilled (map space_of courses) sums.spaces
  pub ways_seen : List (WayKey × Option ℤ)
  pub are_ways : AreWays courses ways_seen
  pub ways : IsTable way_before CountsPassed ways_seen sums.ways
  pub hops : IsTable hop_before CountsPassed (flat_map hops_in courses) sums.hops
  pub nodes : IsTable node_before CountsSeen (flat_map nodes_in courses) sums.nodes
  -- the tables have room for so many rows
  pub most_spaces : sums.spaces.limit ≡ 1024
  pub most_ways : sums.ways.limit ≡ 1024
  pub most_hops : sums.hops.limit ≡ 1024
  pub most_nodes : sums.nodes.limit ≡ 1024
