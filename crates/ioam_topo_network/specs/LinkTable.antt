-- The table `link`.
use Rattle.std.specs.Prelude.{ℕ, ◌+◌, nat_lt, codes, List, ◌++◌, length, Option, Some, None, Result, Ok, Err, if◌then◌else◌}
use Rattle.std.specs.Str.{bytes_eq}
use Rattle.toml.specs.Data.{Members, get_member}
use Rattle.ioam_topo_values.specs.declared.why.Why.{Why}
use Rattle.ioam_topo_values.specs.declared.why.Why.TheVariants.{TooMany}
use Rattle.ioam_topo_values.specs.Reads.{◌▷◌, needed, maybe}
use Rattle.ioam_topo_values.specs.Texts.{name, file_name}
use Rattle.ioam_topo_entries.specs.declared.words.Table.TheVariants.{LinkTable}
use Rattle.ioam_topo_entries.specs.declared.fault.DomainFault.{DomainFault}
use Rattle.ioam_topo.specs.declared.parts.Link.{Link}
use Rattle.ioam_topo_entries.specs.Faults.{at, other_key}
use Rattle.ioam_topo_entries.specs.Goods.{goods, fresh, known, differs}
use Rattle.ioam_topo_entries.specs.Keys.{own_keys, link_rows}
use Rattle.ioam_topo_entries.specs.Rows.{row_numbers, row_faults, nth}

-- the name of a link, which is needed
abbrev pub link_name : Members → Result (List ℕ) Why
link_name m = needed name (get_member (codes "name") m)

-- a tap, where fewer links than the most have one before it
abbrev pub few_taps : ℕ → ℕ → Option (List ℕ) → Result (Option (List ℕ)) Why
few_taps most taps None = Ok None
few_taps most taps (Some file) = if nat_lt taps most then Ok (Some file) else Err TooMany

-- the file of its tap, where it has one and no more links than may have one before it
abbrev pub link_tap : ℕ → ℕ → Members → Result (Option (List ℕ)) Why
link_tap most taps m = maybe file_name (get_member (codes "tap") m) ▷ few_taps most taps

-- a tap that is there
abbrev pub tap_there : Members → Result (List ℕ) Why
tap_there m = needed file_name (get_member (codes "tap") m)

-- how many of these have a tap
abbrev pub tap_count : List Members → ℕ
tap_count entries = length (goods tap_there entries)

-- the link of these parts, whose numbers are in the order of their rows
abbrev pub link_with : List ℕ → ℕ × ℕ → List ℕ → Option (List ℕ) → Link
link_with name ends numbers tap = record {
  name = name;
  from = record { 0 = ends.0 };
  to = record { 0 = ends.1 };
  out_id = nth numbers 0;
  in_id = nth numbers 1;
  delay = nth numbers 2;
  mtu = nth numbers 3;
  tap = tap;
}

-- `nodes` are the names of the nodes
module _ (nodes : List (List ℕ)) where
  -- the node that a link is from, by its place
  abbrev pub link_from : Members → Result ℕ Why
  link_from m = needed name (get_member (codes "from") m) ▷ known nodes

  -- the node that it leads to, by its place: another one
  abbrev pub link_to : Members → Result ℕ Why
  link_to m = needed name (get_member (codes "to") m) ▷ known nodes ▷ differs (link_from m)

  -- the node that a link of a name is from
  abbrev pub link_end : Members → Result (Result ℕ Why) Why
  link_end m = link_name m ▷ (λ name. Ok (link_from m))

  -- the nodes at its two ends, by their places
  abbrev pub link_ends : Members → Result (ℕ × ℕ) Why
  link_ends m = link_from m ▷ (λ from. link_to m ▷ (λ to. Ok (from, to)))

  -- a link, whether or not its tap is one too many
  abbrev pub link_of : Members → Result Link Why
  link_of m = link_name m ▷ (λ name. link_ends m ▷ (λ ends. row_numbers link_rows m ▷ (λ numbers.
      maybe file_name (get_member (codes "tap") m) ▷ (λ tap. Ok (link_with name ends numbers tap)))))

  -- the faults of a link's two ends
  abbrev pub end_keys : ℕ → Members → List DomainFault
  end_keys place m = at LinkTable place (codes "from") (link_from m) ++ at LinkTable place (codes "to") (link_to m)

  -- the faults of the entry at a place, with these names and so many taps, of no more than the most, before it
  abbrev pub link_keys : ℕ → ℕ → List (List ℕ) → ℕ → Members → List DomainFault
  link_keys most place names taps m =
      at LinkTable place other_key (own_keys LinkTable m)
      ++ (at LinkTable place (codes "name") (link_name m ▷ fresh bytes_eq names)
      ++ (end_keys place m ++ (row_faults LinkTable place link_rows m
      ++ at LinkTable place (codes "tap") (link_tap most taps m))))

  -- the faults of an entry behind others
  abbrev pub link_faults : ℕ → List Members → Members → List DomainFault
  link_faults most earlier m = link_keys most (length earlier + 1) (goods link_name earlier) (tap_count earlier) m
