use Rattle.std.proofs.Common.{◌≡◌, ◌++◌, ◌∷◌, [], List, ℤ, Bool, Option, map, flat_map, sym, ◌∙◌, ap, subst, arith}
use Rattle.std.proofs.lemmas.List.{length-map, map-append}
use Rattle.ioam_delay_counts.specs.Tables.{IsTable}
use Rattle.ioam_delays.specs.declared.sight.Sight.{Sight}
use Rattle.ioam_delay_counts.specs.Counted.{hops_in, nodes_in}
use Rattle.ioam_delay_counts.specs.Courses.{Course, IsWay, space_of}
use Rattle.ioam_delay_counts.specs.Orders.{hop_before, node_before, space_before}
use Rattle.ioam_delay_counts.specs.Tallies.{CountsFilled, CountsPassed, CountsSeen}
use Rattle.ioam_delay_counts.specs.declared.filled.Fill.{Fill}
use Rattle.ioam_delay_counts.specs.declared.keys.HopKey.{HopKey}
use Rattle.ioam_delay_counts.specs.declared.keys.NodeKey.{NodeKey}
use Rattle.ioam_delay_counts.specs.declared.keys.SpaceKey.{SpaceKey}
use Rattle.ioam_delay_counts.proofs.SumLaws.{empty_is, hops_weight, nodes_weight, of_more, ways_length, ways_more, weight_more}
use Rattle.ioam_delay_counts.proofs.sums.Sums.count.Goals as goal

pub returns : goal.returns
returns c = λ courses light are.
    let course : Course = record { namespace = c.args.namespace; overflow = c.args.overflow; limit = c.args.limit; sights = c.args.sights.now } in
    let more = weight_more courses course in
    let Spaces : List (SpaceKey × Fill) → Type 0 = λ all. IsTable space_before CountsFilled all c.count.new.self in
    let Hops : List (HopKey × Option ℤ) → Type 0 = λ all. IsTable hop_before CountsPassed all c.count_hops.new.hops in
    let Nodes : List (NodeKey × Sight) → Type 0 = λ all. IsTable node_before CountsSeen all c.count_nodes.new.nodes in
    let same : map space_of courses ++ (record { 0 = c.args.namespace }, record { overflow = c.args.overflow; empty = c.is_empty.result }) ∷ [] ≡ map space_of (courses ++ course ∷ []) =
    ap (λ (b : Bool). map space_of courses ++ (record { 0 = c.args.namespace }, record { overflow = c.args.overflow; empty = b }) ∷ []) (c.is_empty.ensures ∙ empty_is c.args.sights.now)
    ∙ sym (map-append space_of courses (course ∷ [])) in
    record {
      spaces = subst Spaces same (c.in_ok-count.ensures.counted (map space_of courses) (omega (arith, light, more, hops_weight courses, length-map courses space_of)) are.spaces);
      ways_seen = are.ways_seen ++ (c.put_way.new.way, c.whole_delay.result) ∷ [];
      are_ways = ways_more courses are.ways_seen course c.put_way.new.way c.whole_delay.result are.are_ways (subst (IsWay course c.put_way.new.way) (sym c.whole_delay.ensures) c.in_ok-put_way.ensures);
      ways = c.in_ok-count-2.ensures.counted are.ways_seen (omega (arith, light, more, hops_weight courses, ways_length courses are.ways_seen are.are_ways)) are.ways;
      hops = subst Hops (sym (of_more hops_in courses course)) (c.in_ok-count_hops.ensures.counted (flat_map hops_in courses) (omega (arith, light, more, hops_weight courses)) are.hops);
      nodes = subst Nodes (sym (of_more nodes_in courses course))
          (c.in_ok-count_nodes.ensures.counted (flat_map nodes_in courses) (omega (arith, light, more, nodes_weight courses)) are.nodes);
      most_spaces = c.in_ok-count.ensures.limit ∙ are.most_spaces;
      most_ways = c.in_ok-count-2.ensures.limit ∙ are.most_ways;
      most_hops = c.in_ok-count_hops.ensures.limit ∙ are.most_hops;
      most_nodes = c.in_ok-count_nodes.ensures.limit ∙ are.most_nodes;
    }
