-- What a node leaves of any packet, place by place (RFC 9197 section 4.4.1, RFC 9486 section 3).
use Rattle.std.specs.Prelude.{◌≡◌, ◌≢◌, ◌<◌, ◌≤◌, ◌+◌, ℕ, true, List, length, drop, slice_index, slice_range, Contains}
use Rattle.ioam_base.specs.Octets.{u16_at}
use Rattle.ioam_clock.specs.declared.sample.Sample.{Sample}
use Rattle.ioam_ip.specs.Hop.{hop_options}
use Rattle.ioam_ip.specs.Options.{Item}
use Rattle.ioam_node.specs.declared.place.Place.{Place}
use Rattle.ioam_topo.specs.declared.domain.Domain.{Domain}
use Rattle.ioam_trace.specs.Filling.{Filling}
use Rattle.ioam_trace.specs.declared.addition.Filled.{Filled}
use Rattle.ioam_node_visit.specs.Seeing.{view_of}
use Rattle.ioam_node_visit.specs.Step.{knows}

-- Where the octets of a trace begin in the packet, and the place behind them: the Hop-by-Hop Options header stands at
-- 40, and in front of the trace its option's type, length, reserved octet and IOAM-Option-Type.
abbrev pub trace_start : Item → ℕ
trace_start option = 44 + option.at

-- the place behind the octets of the trace that an option holds
abbrev pub trace_end : Item → ℕ
trace_end option = 42 + option.at + length option.body

module _ (domain : Domain) (node : ℕ) where
  -- The node fills the trace of an option: one that may change on the way, of type 0x31, with the IOAM-Option-Type 0, the
  -- 8 octets of a trace's header behind that, and a namespace that the node knows.
  pub record Fills (option : Item) : Type 0 where
    pub type : option.kind ≡ 0x31
    pub trace : slice_index option.body 1 ≡ 0
    pub header : 10 ≤ length option.body
    pub known : knows domain node (u16_at option.body 2) ≡ true

  -- a place of a packet lies in a trace that the node fills
  pub record LiesInTrace (packet : List ℕ) (place : ℕ) : Type 0 where
    pub option : Item
    pub among : Contains (hop_options packet) option
    pub fills : Fills option
    pub from : trace_start option ≤ place
    pub below : place < trace_end option

module _ (domain : Domain) (readings : List (List Sample)) (place : Place) (time hops : ℕ) where
  -- The packet is as long as before and has this hop limit, in octet 7. Every other octet is as it was, but for those of
  -- the traces that the node fills: each of these became what filling it may make of it, where the node adds what it
  -- knows of the trace's namespace.
  pub record Stepped (limit : ℕ) (before after : List ℕ) : Type 0 where
    pub long : length after ≡ length before
    pub limit_is : slice_index after 7 ≡ limit
    pub same : (at : ℕ) → at ≢ 7 → (LiesInTrace domain place.node.0 before at → ⊥) → slice_index after at ≡ slice_index before at
    pub filled : (option : Item) → Contains (hop_options before) option → Fills domain place.node.0 option
        → (answer : Filled) × Filling (drop 2 option.body) (view_of domain readings place time hops (u16_at option.body 2))
        (slice_range after (trace_start option) (trace_end option)) answer
