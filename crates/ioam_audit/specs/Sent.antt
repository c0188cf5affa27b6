-- What another node of a domain may have made of a packet that it sent on (RFC 8200 section 3, RFC 9197 section 4.4).
use Rattle.std.specs.Prelude.{◌≡◌, ◌≢◌, ◌≤◌, ◌-◌, ℕ, List, length, drop, slice_index, slice_range, slice_get, Contains, Option, Some, None}
use Rattle.ioam_ip.specs.Hop.{hop_options}
use Rattle.ioam_ip.specs.Options.{Item}
use Rattle.ioam_node_visit.specs.Seeing.{id_of}
use Rattle.ioam_node_visit.specs.Stepped.{Fills, LiesInTrace, trace_start, trace_end}
use Rattle.ioam_topo.specs.Domain.{nodes}
use Rattle.ioam_topo.specs.declared.domain.Domain.{Domain}
use Rattle.ioam_topo.specs.declared.parts.Link.{Link}
use Rattle.ioam_audit.specs.Becomes.{MayBecome}

-- the interface at the end of a link
abbrev pub end_of : Option Link → ℕ
end_of None = 0
end_of (Some link) = link.in_id

-- A node of a domain, which the packet reached by the interface `inward`, may have sent it on so: the packet is as long as
-- before, and its hop limit, octet 7, was 2 or more and is one less. Every other octet is as it was, but for those of the
-- traces that the node fills. Each of these traces is as the node may have left it.
pub record IsSentAs (domain : Domain) (node inward : ℕ) (before after : List ℕ) : Type 0 where
  pub long : length after ≡ length before
  pub limit : 2 ≤ slice_index before 7
  pub less : slice_index after 7 ≡ slice_index before 7 - 1
  pub same : (at : ℕ) → at ≢ 7 → ¬ LiesInTrace domain node before at → slice_index after at ≡ slice_index before at
  pub traces : (option : Item) → Contains (hop_options before) option → Fills domain node option
      → MayBecome (slice_index before 7 - 1) (id_of (slice_get (nodes domain) node)) inward (drop 2 option.body)
      (slice_range after (trace_start option) (trace_end option))
