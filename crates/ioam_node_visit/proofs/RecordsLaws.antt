-- What nodes export of an enclosed packet: a record of its direct export option.
use Rattle.std.proofs.Common.{◌≡◌, ℕ, ◌-◌, ◌≤◌, true, cond, leb, List, [], ◌∷◌, ◌++◌, length, slice_index, refl, ap, ◌∙◌, arith}
use Rattle.std.proofs.lemmas.Bool.Decides.{nat_tests}
use Rattle.ioam_clock.specs.declared.sample.Sample.{Sample}
use Rattle.ioam_dex.specs.Direct.{IsDirect, HasItsNumbers, direct_octets}
use Rattle.ioam_dex.specs.Record.{Record}
use Rattle.ioam_dex.specs.declared.direct.Direct.{Direct}
use Rattle.ioam_dex.proofs.DirectLaws.{read_of-octets}
use Rattle.ioam_ip.specs.Laid.{Part, items_of, behind_part}
use Rattle.ioam_node.specs.declared.place.Place.{Place}
use Rattle.ioam_topo.specs.declared.domain.Domain.{Domain}
use Rattle.ioam_trace.specs.Data.{trace_data}
use Rattle.ioam_tunnel.specs.Wire.{Tunnel, Room, IsTunnel, trace_parts, hop_parts, limit_after}
use Rattle.ioam_node_visit.proofs.PartsLaws.{hop_options-packet}
use Rattle.ioam_node_visit.specs.declared.met.Met.TheVariants.{Cut, Direct as Exporting}
use Rattle.ioam_node_visit.specs.Counted.{records_in, hop_records}
use Rattle.ioam_node_visit.specs.Exports.{record_for, direct_records, records_by, records_of}
use Rattle.ioam_node_visit.specs.Met.{met_of}
use Rattle.ioam_node_visit.specs.Step.{knows}
use Rattle.ioam_node_visit.specs.Visits.{Visited, elements, wire_after, part_records, tunnel_records}
use Rattle.ioam_node_visit.proofs.StepLaws.{records-trace}
use Rattle.ioam_node_visit.proofs.VisitLaws.{are_parts, old_is, hops_is}

le_true : (m n : ℕ) → m ≤ n → leb m n ≡ true
le_true m n is = grind (arith, nat_tests)

met-direct : (old : List ℕ) → met_of 0x11 (0 ∷ 4 ∷ old) ≡ Exporting
unfolding met_of
met-direct old = ap (λ b. cond b Exporting Cut) (le_true 2 (length (0 ∷ 4 ∷ old)) (omega arith))

module _ (domain : Domain) (readings : List (List Sample)) (place : Place) (time hops : ℕ) where
  -- the record of a direct export option with these data
  pub records-direct : (direct : Direct) → IsDirect direct → HasItsNumbers direct
      → records_of domain readings place time hops 0x11 (0 ∷ 4 ∷ direct_octets direct 0)
      ≡ cond (knows domain place.node.0 direct.namespace.0) (record_for domain readings place time hops direct ∷ []) []
  unfolding records_of
  records-direct direct is has =
      ap (λ m. records_by domain readings place time hops m (0 ∷ 4 ∷ direct_octets direct 0)) (met-direct (direct_octets direct 0))
      ∙ ap (λ r. direct_records domain readings place time hops r) (read_of-octets direct is has)

  abbrev records : ℕ → List ℕ → List Record
  records = records_of domain readings place time hops

  records-items : (size : ℕ) (parts : List Part) → records_in records (items_of size parts) ≡ part_records records parts
  records-items size [] = refl
  records-items size (part ∷ parts) = ap (λ xs. records part.kind part.body ++ xs) (records-items (behind_part size part) parts)

  -- traces give none
  records-behind : (rooms : List Room) (es : Room → List (List ℕ)) (others : List Part)
      → part_records records (trace_parts rooms es ++ others) ≡ part_records records others
  records-behind [] es others = refl
  records-behind (room ∷ rooms) es others =
      ap (λ xs. xs ++ part_records records (trace_parts rooms es ++ others))
      (records-trace domain readings place time hops (trace_data room.namespace room.kind room.capacity (es room)))
      ∙ records-behind rooms es others

-- the records that a visit exports
module _ (domain : Domain) (readings : List (List Sample)) (tunnel : Tunnel) (is : IsTunnel tunnel) (visits : List Visited) (visit : Visited)
    (old : List ℕ) (same : old ≡ wire_after domain readings tunnel visits) where
  abbrev given : ℕ → ℕ → List ℕ → List Record
  given hops = records_of domain readings visit.place visit.time hops

  visit-records : (hops : ℕ) → hop_records (given hops) old ≡ part_records (given hops) tunnel.others
  visit-records hops =
      let es = elements domain readings tunnel visits in
      ap (λ xs. hop_records (given hops) xs) (old_is domain readings tunnel is visits visit old same)
      ∙ ap (λ os. records_in (given hops) os) (hop_options-packet tunnel (limit_after tunnel (length visits)) (hop_parts tunnel es) (are_parts domain readings tunnel is es))
      ∙ records-items domain readings visit.place visit.time hops 2 (hop_parts tunnel es)
      ∙ records-behind domain readings visit.place visit.time hops tunnel.traces es tunnel.others

  pub first-records : visits ≡ [] → hop_records (given (slice_index old 7)) old ≡ tunnel_records domain readings tunnel (length visits) visit
  first-records none =
      let hops : slice_index old 7 ≡ tunnel.hops - length visits = omega (arith, hops_is domain readings tunnel is visits visit old same, ap length none) in
      visit-records (slice_index old 7) ∙ ap (λ n. part_records (given n) tunnel.others) hops

  pub later-records : 1 ≤ length visits → hop_records (given (slice_index old 7 - 1)) old ≡ tunnel_records domain readings tunnel (length visits) visit
  later-records some =
      let hops : slice_index old 7 - 1 ≡ tunnel.hops - length visits = omega (arith, hops_is domain readings tunnel is visits visit old same) in
      visit-records (slice_index old 7 - 1) ∙ ap (λ n. part_records (given n) tunnel.others) hops
