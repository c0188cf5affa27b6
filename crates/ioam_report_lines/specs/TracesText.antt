-- How the traces of a packet are listed: those of the options headers that stand in front of any nested
-- IPv6 header (RFC 8200 section 4, RFC 9486 section 3).
use Rattle.std.specs.Prelude.{◌≡◌, ℕ, ◌&&◌, if◌then◌else◌, Bool, List, [], ◌∷◌, ◌++◌, length, drop, filter, decimal, codes}
use Rattle.std.specs.List.{flat_map}
use Rattle.ioam_data.specs.OptionType.{holds_trace}
use Rattle.ioam_ip.specs.Chain.{Chain, start}
use Rattle.ioam_ip.specs.ChainOptions.{octets_of, is_options_head, is_nested, OptionsOf}
use Rattle.ioam_ip.specs.Findings.{is_ioam}
use Rattle.ioam_ip.specs.HeadsLeft.{heads_from}
use Rattle.ioam_ip.specs.Options.{Item}
use Rattle.ioam_ip.specs.OptionsLeft.{options_from}
use Rattle.ioam_ip.specs.declared.chain.Head.{Head}
use Rattle.ioam_report_lines.specs.TraceText.{line_feed, trace_lines}

-- a pre-allocated trace in an option of either type of IOAM options
abbrev pub is_trace : Item → Bool
is_trace item = is_ioam item && holds_trace item.body

-- the headers in front of the first nested IPv6 header
abbrev pub in_front : List Head → List Head
in_front [] = []
in_front (head ∷ heads) = if is_nested head then [] else head ∷ in_front heads

-- these are the traces of a packet that are listed, in order
pub record AreTraces (p : List ℕ) (traces : List Item) : Type 0 where
  pub heads : List Head
  pub upper : ℕ
  pub at : ℕ
  pub options : List Item
  pub chain : Chain p heads upper at
  pub are_options : OptionsOf p (in_front heads) options
  pub traces_are : traces ≡ filter is_trace options

-- the lines of the octets behind the IOAM-Option-Type
abbrev pub option_lines : Item → List ℕ
option_lines item = trace_lines (drop 2 item.body)

-- how many traces there are, and the lines of each
abbrev pub traces_lines : List Item → List ℕ
traces_lines traces = codes " traces " ++ decimal (length traces) ++ line_feed ++ flat_map option_lines traces

-- the text that is appended for a packet
pub record TracesText (p text : List ℕ) : Type 0 where
  pub traces : List Item
  pub are_traces : AreTraces p traces
  pub text_is : text ≡ traces_lines traces

-- ---- the same as a function

-- the traces of one header; another kind of header than an options header has none
abbrev pub traces_in : List ℕ → Head → List Item
traces_in p head = if is_options_head head
    then filter is_trace (options_from (length (octets_of p head)) (octets_of p head) 2)
    else []

-- those of these headers up to the first nested IPv6 header
abbrev pub traces_from : List ℕ → List Head → List Item
traces_from p [] = []
traces_from p (head ∷ heads) = if is_nested head then [] else traces_in p head ++ traces_from p heads

-- those of a packet whose chain is sound
unfoldable pub traces_of : List ℕ → List Item
traces_of p = traces_from p (heads_from (length p) p (start p))

-- the lines of all traces of a packet, as they are printed
unfoldable pub traces_text : List ℕ → List ℕ
traces_text p = traces_lines (traces_of p)
