-- What the octets of a file say: a domain, or a first fault.
use Rattle.std.specs.Prelude.{◌≡◌, ⊤, ℕ, ◌<◌, ◌≤◌, ◌⊎◌, List, [], length, Some, None, Result, Ok, Err}
use Rattle.std.specs.Str.{IsUtf8}
use Rattle.toml.specs.Data.{Members}
use Rattle.toml.specs.Parse.{parse_document}
use Rattle.ioam_topo_values.specs.declared.why.Why.TheVariants.{Long, Text}
use Rattle.ioam_topo_entries.specs.declared.words.Table.TheVariants.{Top}
use Rattle.ioam_topo_entries.specs.declared.fault.DomainFault.{DomainFault}
use Rattle.ioam_topo_entries.specs.declared.fault.DomainRefused.{DomainRefused}
use Rattle.ioam_topo_entries.specs.declared.fault.DomainRefused.TheVariants.{Fault, NoMemory}
use Rattle.ioam_topo.specs.declared.domain.Domain.{Domain}
use Rattle.ioam_topo_entries.specs.Faults.{fault, first, no_key}
use Rattle.ioam_topo_network.specs.Places.{nodes_of, links_of, ports_of, routes_of}
use Rattle.ioam_topo_file.specs.Top.{faults_of, format_of, packets_of, node_data_of, flows_of}
use Rattle.std.specs.List.{All}
use Rattle.ioam_topo.specs.Apart.{NodesApart, FlowsApart}
use Rattle.ioam_topo.specs.Known.{IsKnownAtEnds}
use Rattle.ioam_topo.specs.Domain.{nodes, links, ports, routes, node_data, flows}

-- this is the domain of a file's table
pub record IsDomain (t : Members) (domain : Domain) : Type 0 where
  pub format : format_of t ≡ Ok domain.format
  pub packets : packets_of t ≡ Ok domain.packets
  pub has_nodes : nodes domain ≡ nodes_of t
  pub has_links : links domain ≡ links_of t
  pub has_ports : ports domain ≡ ports_of t
  pub has_routes : routes domain ≡ routes_of t
  pub has_data : node_data domain ≡ node_data_of t
  pub has_flows : flows domain ≡ flows_of t

-- in a domain no two nodes have one name, one id or one address, no two flows have one name, no two flows of one namespace have one id,
-- and both ends of a flow know its namespaces, whatever the file says
pub record IsApart (domain : Domain) : Type 0 where
  pub nodes_apart : NodesApart (nodes domain)
  pub flows_apart : FlowsApart (flows domain)
  pub known : All (IsKnownAtEnds (nodes domain)) (flows domain)

-- these octets, no more than a file may have, are the text of a table
pub record IsTextOf (octets : List ℕ) (table : Members) : Type 0 where
  pub few : length octets ≤ 1048576
  pub utf8 : IsUtf8 octets
  pub parsed : parse_document octets ≡ Some table

-- these octets, no more than a file may have, are the text of none
pub record IsNoText (octets : List ℕ) : Type 0 where
  pub few : length octets ≤ 1048576
  pub unparsed : IsUtf8 octets → parse_document octets ≡ None

-- this is the domain of a file of these octets, which has no fault
pub record IsDomainOf (octets : List ℕ) (domain : Domain) : Type 0 where
  pub table : Members
  pub text : IsTextOf octets table
  pub clear : faults_of table ≡ []
  pub is : IsDomain table domain

-- the fault of a file of too many octets, and of one that is no text
pub record IsLongFile (octets : List ℕ) (found : DomainFault) : Type 0 where
  pub many : 1048576 < length octets
  pub is : found ≡ fault Top 0 no_key Long

-- the fault of a file whose octets are no TOML document
pub record IsFaultyText (octets : List ℕ) (found : DomainFault) : Type 0 where
  pub text : IsNoText octets
  pub is : found ≡ fault Top 0 no_key Text

-- the first fault of the table of a file
pub record IsFirstFault (octets : List ℕ) (found : DomainFault) : Type 0 where
  pub table : Members
  pub text : IsTextOf octets table
  pub is : first (faults_of table) ≡ Some found

-- a file of these octets has this fault, and none before it
abbrev pub HasFault : List ℕ → DomainFault → Type 0
HasFault octets found = IsLongFile octets found ⊎ (IsFaultyText octets found ⊎ IsFirstFault octets found)

-- what was answered of a file of these octets; want of memory is free
abbrev pub IsFileRead : List ℕ → Result Domain DomainRefused → Type 0
IsFileRead octets (Ok domain) = IsDomainOf octets domain
IsFileRead octets (Err (Fault found)) = HasFault octets found
IsFileRead octets (Err NoMemory) = ⊤

-- two domains have the same tables and keys
pub record Agree (a b : Domain) : Type 0 where
  pub format : a.format ≡ b.format
  pub packets : a.packets ≡ b.packets
  pub same_nodes : nodes a ≡ nodes b
  pub same_links : links a ≡ links b
  pub same_ports : ports a ≡ ports b
  pub same_routes : routes a ≡ routes b
  pub same_data : node_data a ≡ node_data b
  pub same_flows : flows a ≡ flows b
