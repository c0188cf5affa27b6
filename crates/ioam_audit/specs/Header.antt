-- Two packets of one length, compared part by part.
use Rattle.std.specs.Prelude.{◌≡◌, ◌<◌, ◌≤◌, ◌-◌, ℕ, List, take, drop, slice_index, slice_range, Contains}
use Rattle.ioam_ip.specs.Options.{Item}
use Rattle.ioam_ip.specs.declared.next.OptionSpot.{OptionSpot}
use Rattle.ioam_node_visit.specs.Stepped.{Fills, trace_start, trace_end}
use Rattle.ioam_topo.specs.declared.domain.Domain.{Domain}
use Rattle.ioam_audit.specs.Becomes.{MayBecome}

-- the IPv6 header is that of the other with its hop limit, 2 or more, one less
pub record IsLowered (before after : List ℕ) : Type 0 where
  pub limit : 2 ≤ slice_index before 7
  pub front : take 7 after ≡ take 7 before
  pub less : slice_index after 7 ≡ slice_index before 7 - 1
  pub rest : slice_range after 8 40 ≡ slice_range before 8 40

-- an option with this data
abbrev pub option_of : OptionSpot → List ℕ → Item
option_of spot body = record { kind = spot.kind; at = spot.at; body = body }

module _ (domain : Domain) (node hops id inward : ℕ) where
  -- a node may have made this of the data of an option
  pub record MayBecomeData (option : Item) (new : List ℕ) : Type 0 where
    pub stays : ¬ Fills domain node option → new ≡ option.body
    pub trace : Fills domain node option → (take 2 new ≡ take 2 option.body) × MayBecome hops id inward (drop 2 option.body) (drop 2 new)

  -- From an offset on the octets are as they were, but for the traces of these options that the node fills, and each of these
  -- is as the node may have left it.
  pub record AreLeft (before after : List ℕ) (from : ℕ) (options : List Item) : Type 0 where
    pub same : (at : ℕ) → from ≤ at
        → ((option : Item) → Contains options option → Fills domain node option → trace_start option ≤ at → at < trace_end option → ⊥)
        → slice_index after at ≡ slice_index before at
    pub traces : (option : Item) → Contains options option → Fills domain node option
        → MayBecome hops id inward (drop 2 option.body) (slice_range after (trace_start option) (trace_end option))
