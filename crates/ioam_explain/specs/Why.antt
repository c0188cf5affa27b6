-- The list of rules for a packet before and after a router (RFC 8200, RFC 9197, RFC 9486), in the order of the packet.
use Rattle.std.specs.Prelude.{ℕ, ◌+◌, List, [], ◌∷◌, ◌++◌, drop, slice_get, slice_index, Option, Some, None}
use Rattle.ioam_node_visit.specs.Seeing.{id_of}
use Rattle.ioam_node_visit.specs.Step.{knows}
use Rattle.ioam_topo.specs.Domain.{nodes}
use Rattle.ioam_topo.specs.declared.domain.Domain.{Domain}
use Rattle.ioam_explain.specs.Headers.{header_rules, hop_octets, presence_rules}
use Rattle.ioam_explain.specs.Options.{options_rules}
use Rattle.ioam_explain.specs.Rows.{differing}
use Rattle.ioam_explain.specs.declared.reason.Reason.{Reason}
use Rattle.ioam_explain.specs.declared.reason.Rule.TheVariants as rule
use Rattle.ioam_explain.specs.declared.reason.Value.TheVariants.{Nothing}

-- all octets after the headers stay (RFC 8200 section 4)
unfoldable pub payload_rule : List ℕ → List ℕ → Option Reason
payload_rule before after = differing rule.Payload 0 (40 + hop_octets before) (drop (40 + hop_octets before) after) (drop (40 + hop_octets before) before)

-- the whole list, for a node of a domain that the packet reached by an interface
unfoldable pub rules : Domain → ℕ → ℕ → List ℕ → List ℕ → List (Option Reason)
rules domain node inward before after =
    presence_rules before after ++ (header_rules before after
    ++ (options_rules (knows domain node) (slice_index after 7) (id_of (slice_get (nodes domain) node)) inward before after
    ++ payload_rule before after ∷ []))

-- the reason of a packet that isn't legal
abbrev pub or_other : Option Reason → Reason
or_other (Some reason) = reason
or_other None = record { rule = rule.Other; trace = 0; at = 0; found = Nothing; wanted = Nothing }
