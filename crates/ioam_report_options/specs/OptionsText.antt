-- The IOAM options on the chain of a packet, nested IPv6 headers included (RFC 8200 section 4, RFC 9486
-- section 3), and their lines.
use Rattle.std.specs.Prelude.{◌≡◌, ℕ, ◌+◌, if◌then◌else◌, List, [], ◌∷◌, ◌++◌, length, map, filter, decimal, codes}
use Rattle.std.specs.List.{flat_map}
use Rattle.ioam_ip.specs.Chain.{Chain, start}
use Rattle.ioam_ip.specs.ChainOptions.{octets_of, is_options_head, HeadOptions}
use Rattle.ioam_ip.specs.Findings.{is_ioam}
use Rattle.ioam_ip.specs.HeadsLeft.{heads_from}
use Rattle.ioam_ip.specs.Options.{Item}
use Rattle.ioam_ip.specs.OptionsLeft.{options_from}
use Rattle.ioam_ip.specs.declared.chain.Head.{Head}
use Rattle.ioam_report_lines.specs.TraceText.{line_feed}
use Rattle.ioam_report_options.specs.OptionText.{IsOptionLine}

-- an option of a header that starts at a place of the packet, with its own place in the packet
abbrev pub placed : ℕ → Item → Item
placed start option = record { kind = option.kind; at = start + option.at; body = option.body }

-- those of these options that are IOAM options
abbrev pub ioam_among : ℕ → List Item → List Item
ioam_among start options = map (placed start) (filter is_ioam options)

-- the IOAM options of these headers, joined in order
abbrev pub IoamOf : List ℕ → List Head → List Item → Type 0
IoamOf p [] options = options ≡ []
IoamOf p (head ∷ heads) options = (first : List Item) × (others : List Item)
    × HeadOptions p head first × IoamOf p heads others × (options ≡ ioam_among head.range.start first ++ others)

-- these are the IOAM options of a packet, in order, each with its place in the packet
pub record AreIoam (p : List ℕ) (options : List Item) : Type 0 where
  pub heads : List Head
  pub upper : ℕ
  pub at : ℕ
  pub chain : Chain p heads upper at
  pub are : IoamOf p heads options

-- the lines of options, one option behind the other
abbrev pub OptionLines : List Item → List ℕ → Type 0
OptionLines [] text = text ≡ []
OptionLines (option ∷ options) text = (first : List ℕ) × (others : List ℕ)
    × IsOptionLine option first × OptionLines options others × (text ≡ first ++ others)

-- the lines of a packet's IOAM options
pub record OptionsText (p text : List ℕ) : Type 0 where
  pub options : List Item
  pub are : AreIoam p options
  pub lines : OptionLines options text

-- how many they are, and their lines
pub record CountedText (p text : List ℕ) : Type 0 where
  pub options : List Item
  pub lines : List ℕ
  pub are : AreIoam p options
  pub are_lines : OptionLines options lines
  pub text_is : text ≡ codes " options " ++ (decimal (length options) ++ (line_feed ++ lines))

-- ---- the options as a function

-- those of one header; another kind of header than an options header has none
abbrev pub ioam_in : List ℕ → Head → List Item
ioam_in p head = if is_options_head head
    then ioam_among head.range.start (options_from (length (octets_of p head)) (octets_of p head) 2)
    else []

-- those of these headers
abbrev pub ioam_from : List ℕ → List Head → List Item
ioam_from p heads = flat_map (ioam_in p) heads

-- those of a packet whose chain is sound
unfoldable pub ioam_of : List ℕ → List Item
ioam_of p = ioam_from p (heads_from (length p) p (start p))
