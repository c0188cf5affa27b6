-- What is known of the links of the entries so far, and of one that was read.
use Rattle.std.specs.Prelude.{◌≡◌, ◌≤◌, ℕ, ◌+◌, false, List, map, Result, Ok, length}
use Rattle.std.specs.List.{list_any}
use Rattle.std.specs.Str.{bytes_eq}
use Rattle.toml.specs.Data.{Members}
use Rattle.ioam_topo_values.specs.declared.why.Why.{Why}
use Rattle.ioam_topo.specs.declared.parts.Link.{Link}
use Rattle.ioam_topo_tables.specs.declared.links.Links.{Links}
use Rattle.ioam_topo_entries.specs.Goods.{goods, kept}
use Rattle.ioam_topo_network.specs.LinkTable.{link_of, link_name, link_end, tap_there, tap_count}
use Rattle.ioam_topo.specs.Keyed.{name_of_link, count_of, taps_of}

-- the node that a link is from
abbrev pub from_of : Link → Result ℕ Why
from_of link = Ok link.from.0

-- `most` is how many links may have a tap
module _ (nodes : List (List ℕ)) (most : ℕ) where
  -- these are the links of these entries
  pub record HoldsLinks (entries : List Members) (links : Links) : Type 0 where
    pub items : links.items.items ≡ goods (link_of nodes) entries
    pub ends : map from_of links.items.items ≡ goods (link_end nodes) entries
    pub names : links.names ≡ goods link_name entries
    pub named : links.names ≡ map name_of_link links.items.items
    pub taps : links.taps ≡ tap_count entries
    pub tapped : links.taps ≡ taps_of links.items.items
    pub few_taps : links.taps ≤ most

  -- this is the link of an entry, and its name is not among the others
  pub record IsNewLink (links : Links) (m : Members) (text : List ℕ) (link : Link) : Type 0 where
    pub name : link.name ≡ text
    pub is : link_of nodes m ≡ Ok link
    pub end_is : link_end nodes m ≡ Ok (from_of link)
    pub name_is : link_name m ≡ Ok link.name
    pub new_name : list_any (bytes_eq text) links.names ≡ false
    pub tap_is : (taps : List (List ℕ)) → length (kept (tap_there m) taps) ≡ length taps + count_of link.tap
    pub room : links.taps ≤ most → links.taps + count_of link.tap ≤ most
