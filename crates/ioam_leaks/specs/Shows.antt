-- The IOAM options that octets show which may end anywhere: in a packet whose chain a header breaks, and in a packet of which only
-- the first octets were quoted.
use Rattle.std.specs.Prelude.{ℕ, ◌<◌, List, IsTrue, length, slice_index}
use Rattle.ioam_base.specs.Leads.{Leads}
use Rattle.ioam_ip.specs.Chain.{CanPass, head_at, behind}
use Rattle.ioam_ip.specs.ChainOptions.{is_options_head, octets_of}
use Rattle.ioam_ip.specs.Findings.{is_ioam_type}
use Rattle.ioam_ip.specs.Options.{Item, OptionFits, item_at, option_end}
use Rattle.ioam_ip.specs.declared.chain.Head.{Head}
use Rattle.ioam_ip.specs.declared.chain.HeadSpot.{HeadSpot}
use Rattle.ioam_leaks.specs.declared.option.Part.{Part}
use Rattle.ioam_leaks.specs.declared.option.Part.TheVariants.{Whole, Begun}

-- enough of the option at an offset of the header is there: all its octets, or its type octet
abbrev pub IsThere : Part → List ℕ → ℕ → Type 0
IsThere Whole header at = OptionFits header at
IsThere Begun header at = at < length header

-- an IOAM option stands at the offset, and enough of it is there
abbrev pub Counts : Part → List ℕ → ℕ → Type 0
Counts part header at = IsThere part header at × IsTrue (is_ioam_type (slice_index header at))

-- whole options and paddings, one after the other, lead from an offset of the header to an IOAM option that counts
pub record HasOption (part : Part) (header : List ℕ) (from : ℕ) : Type 0 where
  pub items : List Item
  pub at : ℕ
  pub before : Leads (OptionFits header) (item_at header) (option_end header) from items at
  pub counts : Counts part header at

-- an options header stands at the spot, and those of its octets that are there show an IOAM option
abbrev pub ShowsAt : Part → List ℕ → HeadSpot → Type 0
ShowsAt part p spot = IsTrue (is_options_head (head_at p spot)) × HasOption part (octets_of p (head_at p spot)) 2

-- from a spot on the chain reaches a header that shows an IOAM option. The chain need not go on after that header, and it need not be
-- whole
pub record Shows (part : Part) (p : List ℕ) (from : HeadSpot) : Type 0 where
  pub headers : List Head
  pub spot : HeadSpot
  pub reaches : Leads (CanPass p) (head_at p) (behind p) from headers spot
  pub shows : ShowsAt part p spot
