-- What a node exports of a packet that carries the direct export option of its flow, as its entry node laid it out
-- (RFC 9326 section 3.2).
use Rattle.std.specs.Prelude.{⊤, ◌≡◌, ◌<◌, ℕ, true, List, [], ◌∷◌, ◌++◌, MatchBool, Option, Some, None, is_some, IfSome}
use Rattle.ioam_clock.specs.declared.sample.Sample.{Sample}
use Rattle.ioam_data.specs.Kind.{words}
use Rattle.ioam_data.specs.Written.{element_of}
use Rattle.ioam_dex.specs.Reads.{records_octets}
use Rattle.ioam_dex.specs.Record.{Record}
use Rattle.ioam_node.specs.declared.place.Place.{Place}
use Rattle.ioam_topo.specs.declared.domain.Domain.{Domain}
use Rattle.ioam_topo.specs.declared.parts.Flow.{Flow}
use Rattle.ioam_tunnel.specs.Enclosed.{direct_parts}
use Rattle.ioam_tunnel.specs.Wire.{Tunnel}
use Rattle.ioam_node_visit.specs.Exported.{without_check}
use Rattle.ioam_node_visit.specs.Seeing.{view_of}
use Rattle.ioam_node_visit.specs.Step.{knows}

-- the flow has an id, and its numbers are within the fields of the option
pub record HasDirect (flow : Flow) (kind seq : ℕ) : Type 0 where
  pub namespace_below : flow.namespace.0 < 65536
  pub kind_below : kind < 16777216
  pub id_there : is_some flow.flow_id ≡ true
  pub id_below : IfSome flow.flow_id (λ id. id < 4294967296)
  pub seq_below : seq < 4294967296

-- so it is where the flow has direct exports and the packet a number for them
abbrev pub MayHaveDirect : Flow → Option ℕ → Option ℕ → Type 0
MayHaveDirect flow (Some kind) (Some seq) = HasDirect flow kind seq
MayHaveDirect flow (Some kind) None = ⊤
MayHaveDirect flow None seq = ⊤

-- a tunnel's packet carries the option of this flow, with this number; without a number it carries none
pub record CarriesDirect (tunnel : Tunnel) (flow : Flow) (number : Option ℕ) : Type 0 where
  pub others : tunnel.others ≡ direct_parts flow flow.direct number
  pub may : MayHaveDirect flow flow.direct number

module _ (domain : Domain) (readings : List (List Sample)) (place : Place) (time hops : ℕ) where
  -- The record of such a packet, by the flow's type for direct exports and the packet's number. Flags are 0, and Flow ID
  -- and Sequence Number are there, so Extension-Flags are 0xC0; the rest is the node's own.
  pub record IsFlowExport (flow : Flow) (kind seq : ℕ) (x : Record) : Type 0 where
    pub namespace : x.namespace ≡ flow.namespace.0
    pub flags : x.flags ≡ 0
    pub ext : x.ext ≡ 0xC0
    pub type : x.kind ≡ without_check kind
    pub id : x.flow ≡ flow.flow_id
    pub number : x.seq ≡ Some seq
    pub visit : x.visit ≡ Some (time, place.inward)
    pub element : x.element ≡ element_of x.kind (words x.kind) (view_of domain readings place time hops x.namespace)

  -- the records: one where the packet carries the option and the node knows the flow's namespace, else none
  abbrev pub AreFlowExports : Flow → Option ℕ → Option ℕ → List Record → Type 0
  AreFlowExports flow (Some kind) (Some seq) xs =
      MatchBool (knows domain place.node.0 flow.namespace.0) ((x : Record) × (xs ≡ x ∷ []) × IsFlowExport flow kind seq x) (xs ≡ [])
  AreFlowExports flow (Some kind) None xs = xs ≡ []
  AreFlowExports flow None seq xs = xs ≡ []

  -- what was exported of a packet of a flow with this number, behind what was there
  pub record HasFlowExports (flow : Flow) (number : Option ℕ) (old new : List ℕ) : Type 0 where
    pub records : List Record
    pub are : AreFlowExports flow flow.direct number records
    pub is : new ≡ old ++ records_octets records
