-- The IOAM options on the chain of a packet, nested IPv6 headers included (RFC 8200 section 4, RFC 9486 section 3), and the first of
-- them at or after an offset.
use Rattle.std.specs.Prelude.{◌≡◌, ◌⊎◌, ℕ, ◌+◌, ◌-◌, Bool, nat_le, if◌then◌else◌, List, [], ◌∷◌, ◌++◌, length, map, filter, slice_index, Option, Some, None, option_map}
use Rattle.std.specs.List.{find, flat_map}
use Rattle.ioam_base.specs.Octets.{u16_at}
use Rattle.ioam_ip.specs.Chain.{Chain, IsSound, start}
use Rattle.ioam_ip.specs.ChainOptions.{octets_of, is_options_head, HeadOptions}
use Rattle.ioam_ip.specs.Findings.{is_ioam}
use Rattle.ioam_ip.specs.HeadsLeft.{heads_from}
use Rattle.ioam_ip.specs.Options.{Item}
use Rattle.ioam_ip.specs.Rewriting.{options_in}
use Rattle.ioam_ip.specs.declared.chain.Head.{Head}
use Rattle.ioam_c.specs.Status.{ok, at_end, broken_chain}
use Rattle.ioam_c.specs.declared.next.IoamOption.{IoamOption}

-- an option of a packet: the offset of its header, and the option with its own offset in the packet
pub record Placed : Type 0 where
  pub header : ℕ
  pub option : Item

-- an option of a header that starts at an offset of the packet
abbrev pub placed : ℕ → Item → Placed
placed start option = record { header = start; option = record { kind = option.kind; at = start + option.at; body = option.body } }

-- those of these options that are IOAM options
abbrev pub ioam_among : ℕ → List Item → List Placed
ioam_among start options = map (placed start) (filter is_ioam options)

-- ---- by the chain

-- the IOAM options of these headers, joined in order
abbrev pub IoamOf : List ℕ → List Head → List Placed → Type 0
IoamOf p [] options = options ≡ []
IoamOf p (head ∷ heads) options = (first : List Item) × (others : List Placed)
    × HeadOptions p head first × IoamOf p heads others × (options ≡ ioam_among head.range.start first ++ others)

-- these are the IOAM options of a packet, in order
pub record AreIoam (p : List ℕ) (options : List Placed) : Type 0 where
  pub heads : List Head
  pub upper : ℕ
  pub at : ℕ
  pub chain : Chain p heads upper at
  pub are : IoamOf p heads options

-- ---- as a function

-- those of one header; another header than an options header has none
abbrev pub ioam_in : List ℕ → Head → List Placed
ioam_in p head = if is_options_head head then ioam_among head.range.start (options_in (octets_of p head)) else []

-- those of these headers
abbrev pub ioam_from : List ℕ → List Head → List Placed
ioam_from p heads = flat_map (ioam_in p) heads

-- those of a packet whose chain is sound
unfoldable pub ioam_of : List ℕ → List Placed
ioam_of p = ioam_from p (heads_from (length p) p (start p))

-- ---- what a call gives

-- an option starts at an offset or after it
abbrev pub at_least : ℕ → Placed → Bool
at_least from placed = nat_le from placed.option.at

-- how many octets of an option's data precede what its IOAM-Option-Type names: one that is reserved, and that type
abbrev pub before_data : ℕ → ℕ
before_data size = if nat_le size 2 then size else 2

-- 1 if `size` octets are at least the `wanted` ones
abbrev pub there_if : ℕ → ℕ → ℕ
there_if size wanted = if nat_le wanted size then 1 else 0

-- the IOAM-Option-Type of an option's data, or 0
abbrev pub option_type_of : List ℕ → ℕ
option_type_of body = if nat_le 2 (length body) then slice_index body 1 else 0

-- the Namespace-ID that begins what that type names, or 0
abbrev pub namespace_of : List ℕ → ℕ
namespace_of body = if nat_le 4 (length body) then u16_at body 2 else 0

-- the option as C sees it
abbrev pub option_of : Placed → IoamOption
option_of placed =
    let body = placed.option.body in
    let size = length body in
    record {
      header = placed.header;
      offset = placed.option.at;
      data_offset = placed.option.at + 2 + before_data size;
      data_length = size - before_data size;
      kind = placed.option.kind;
      has_option_type = there_if size 2;
      option_type = option_type_of body;
      has_namespace = there_if size 4;
      namespace = namespace_of body;
    }

-- with the offset after it
abbrev pub described : Placed → IoamOption × ℕ
described placed = (option_of placed, placed.option.at + 2 + length placed.option.body)

-- what becomes of the cursor and the option by what was found
abbrev pub Finds : Option (IoamOption × ℕ) → ℕ → IoamOption → ℕ → IoamOption → ℕ → Type 0
Finds None cursor option next new status = (status ≡ at_end) × ((next ≡ cursor) × (new ≡ option))
Finds (Some found) cursor option next new status = (status ≡ ok) × ((next ≡ found.1) × (new ≡ found.0))

-- of a sound packet the first IOAM option at or after the cursor is given; of another none
abbrev pub GivesNext : List ℕ → ℕ → IoamOption → ℕ → IoamOption → ℕ → Type 0
GivesNext p cursor option next new status =
    ((options : List Placed) × AreIoam p options × Finds (option_map described (find (at_least cursor) options)) cursor option next new status)
    ⊎ ((IsSound p → ⊥) × ((status ≡ broken_chain) × ((next ≡ cursor) × (new ≡ option))))
