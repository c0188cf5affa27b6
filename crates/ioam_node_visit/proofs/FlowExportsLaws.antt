-- The records of a packet that carries the direct export option of its flow.
use Rattle.std.proofs.Common.{◌≡◌, ℕ, ◌-◌, Bool, true, false, cond, List, [], ◌∷◌, refl, sym, ◌∙◌, subst, arith}
use Rattle.std.specs.Prelude.{MatchBool, Option, Some, None}
use Rattle.std.proofs.lemmas.List.{append-nil}
use Rattle.ioam_clock.specs.declared.sample.Sample.{Sample}
use Rattle.ioam_dex.specs.Direct.{IsDirect, HasItsNumbers, direct_octets}
use Rattle.ioam_dex.specs.Numbers.{has_flow, has_seq}
use Rattle.ioam_dex.specs.Record.{Record}
use Rattle.ioam_ip.specs.Laid.{Part}
use Rattle.ioam_node.specs.declared.place.Place.{Place}
use Rattle.ioam_topo.specs.declared.domain.Domain.{Domain}
use Rattle.ioam_topo.specs.declared.parts.Flow.{Flow}
use Rattle.ioam_tunnel.specs.Enclosed.{direct_of, direct_parts}
use Rattle.ioam_tunnel.specs.Wire.{Tunnel}
use Rattle.ioam_node_visit.specs.Exports.{record_for, records_of}
use Rattle.ioam_node_visit.specs.FlowExports.{HasDirect, MayHaveDirect, CarriesDirect, IsFlowExport, AreFlowExports}
use Rattle.ioam_node_visit.specs.Step.{knows}
use Rattle.ioam_node_visit.specs.Visits.{Visited, part_records, tunnel_records}
use Rattle.ioam_node_visit.proofs.ExportedLaws.{type_is}
use Rattle.ioam_node_visit.proofs.RecordsLaws.{records-direct}

direct_right : (flow : Flow) (kind seq : ℕ) → HasDirect flow kind seq → IsDirect (direct_of flow kind seq)
direct_right flow kind seq has = record {
  namespace_below = has.namespace_below;
  flags_below = omega arith;
  ext_below = omega arith;
  kind_below = has.kind_below;
  flow_below = has.id_below;
  seq_below = has.seq_below;
}

direct_numbers : (flow : Flow) (kind seq : ℕ) → HasDirect flow kind seq → HasItsNumbers (direct_of flow kind seq)
unfolding has_flow has_seq
direct_numbers flow kind seq has = record { flow = has.id_there; seq = refl }

module _ (domain : Domain) (readings : List (List Sample)) (place : Place) (time hops : ℕ) where
  abbrev record_of_flow : Flow → ℕ → ℕ → Record
  record_of_flow flow kind seq = record_for domain readings place time hops (direct_of flow kind seq)

  record_is : (flow : Flow) (kind seq : ℕ) → IsFlowExport domain readings place time hops flow kind seq (record_of_flow flow kind seq)
  unfolding record_for
  record_is flow kind seq = record {
    namespace = refl;
    flags = refl;
    ext = refl;
    type = type_is kind;
    id = refl;
    number = refl;
    visit = refl;
    element = refl;
  }

  by_known : (flow : Flow) (kind seq : ℕ) (known : Bool) (xs : List Record) → xs ≡ cond known (record_of_flow flow kind seq ∷ []) []
      → MatchBool known ((x : Record) × (xs ≡ x ∷ []) × IsFlowExport domain readings place time hops flow kind seq x) (xs ≡ [])
  by_known flow kind seq true xs is = (record_of_flow flow kind seq, is, record_is flow kind seq)
  by_known flow kind seq false xs is = is

  exports_of_flow : (flow : Flow) (direct number : Option ℕ) → MayHaveDirect flow direct number
      → AreFlowExports domain readings place time hops flow direct number
      (part_records (records_of domain readings place time hops) (direct_parts flow direct number))
  exports_of_flow flow (Some kind) (Some seq) has =
      let body : List ℕ = 0 ∷ 4 ∷ direct_octets (direct_of flow kind seq) 0 in
      by_known flow kind seq (knows domain place.node.0 flow.namespace.0)
      (part_records (records_of domain readings place time hops) (direct_parts flow (Some kind) (Some seq)))
      (append-nil (records_of domain readings place time hops 0x11 body)
      ∙ records-direct domain readings place time hops (direct_of flow kind seq) (direct_right flow kind seq has) (direct_numbers flow kind seq has))
  exports_of_flow flow (Some kind) None has = refl
  exports_of_flow flow None number has = refl

-- those of a visit, so many visits after the entry's
pub flow-exports : (domain : Domain) (readings : List (List Sample)) (tunnel : Tunnel) (before : ℕ) (visit : Visited) (flow : Flow) (number : Option ℕ)
    → CarriesDirect tunnel flow number
    → AreFlowExports domain readings visit.place visit.time (tunnel.hops - before) flow flow.direct number (tunnel_records domain readings tunnel before visit)
flow-exports domain readings tunnel before visit flow number carries =
    let P : List Part → Type 0 = λ parts. AreFlowExports domain readings visit.place visit.time (tunnel.hops - before) flow flow.direct number
    (part_records (records_of domain readings visit.place visit.time (tunnel.hops - before)) parts) in
    subst P (sym carries.others) (exports_of_flow domain readings visit.place visit.time (tunnel.hops - before) flow flow.direct number carries.may)
