-- The options on the chain of a packet, and what they say of it.
use Rattle.std.specs.Prelude.{◌≡◌, ℕ, List, [], ◌∷◌, ◌++◌, Bool, not, IsTrue, Option, ◌==◌, ◌||◌, if◌then◌else◌, ◌≤◌, length, slice_range}
use Rattle.std.specs.declared.ops.Range.{Range}
use Rattle.std.specs.Bool.{MatchBool}
use Rattle.std.specs.List.{Any}
use Rattle.ioam_ip.specs.Chain.{Chain}
use Rattle.ioam_ip.specs.Findings.{has_ioam, first_limit}
use Rattle.ioam_ip.specs.Options.{Item, AreOptions, IsFilled}
use Rattle.ioam_ip.specs.declared.chain.Head.{Head}

-- the octets of a header on the chain
abbrev pub octets_of : List ℕ → Head → List ℕ
octets_of p head = slice_range p head.range.start head.range.end

-- Hop-by-Hop Options and Destination Options
abbrev pub is_options_head : Head → Bool
is_options_head head = (head.value == 0) || (head.value == 60)

-- any other header
abbrev pub is_other : Head → Bool
is_other head = not (is_options_head head)

-- the options of one header; another kind of header has none
abbrev pub HeadOptions : List ℕ → Head → List Item → Type 0
HeadOptions p head os = MatchBool (is_options_head head) (AreOptions (octets_of p head) os) (os ≡ [])

-- the options of these headers, joined in order
abbrev pub OptionsOf : List ℕ → List Head → List Item → Type 0
OptionsOf p [] os = os ≡ []
OptionsOf p (head ∷ hs) os = (first : List Item) × (others : List Item)
    × HeadOptions p head first × OptionsOf p hs others × (os ≡ first ++ others)

-- this is an options header, and one of its options is an IOAM option
pub record HasIoam (p : List ℕ) (head : Head) : Type 0 where
  pub holds_options : IsTrue (is_options_head head)
  pub options : List Item
  pub are_options : AreOptions (octets_of p head) options
  pub ioam : IsTrue (has_ioam options)

-- the packet is sound, and some header on its chain, nested ones included, has an IOAM option
pub record CarriesIoam (p : List ℕ) : Type 0 where
  pub heads : List Head
  pub upper : ℕ
  pub at : ℕ
  pub chain : Chain p heads upper at
  pub has_ioam : Any (HasIoam p) heads

-- an IPv6 header inside the packet (next header value 41)
abbrev pub is_nested : Head → Bool
is_nested head = head.value == 41

-- a Destination Options header (next header value 60)
abbrev pub is_destination : Head → Bool
is_destination head = head.value == 60

-- the Destination Options headers in front of any nested IPv6 header
abbrev pub outer_targets : List Head → List Head
outer_targets [] = []
outer_targets (head ∷ hs) =
    if is_nested head then []
    else (if is_destination head then head ∷ outer_targets hs else outer_targets hs)

-- the data octet of the first Tunnel Encapsulation Limit in such a header, or none
pub record LimitOf (p : List ℕ) (limit : Option ℕ) : Type 0 where
  pub heads : List Head
  pub upper : ℕ
  pub at : ℕ
  pub options : List Item
  pub chain : Chain p heads upper at
  pub are_options : OptionsOf p (outer_targets heads) options
  pub first : limit ≡ first_limit options

-- these octets of the packet are an options header that its options fill
pub record IsFilledRange (p : List ℕ) (range : Range ℕ) : Type 0 where
  pub ordered : range.start ≤ range.end
  pub within : range.end ≤ length p
  pub filled : IsFilled (slice_range p range.start range.end)

-- a header lies within the packet, and the options of an options header fill it
pub record HeadFits (p : List ℕ) (head : Head) : Type 0 where
  pub ordered : head.range.start ≤ head.range.end
  pub within : head.range.end ≤ length p
  pub filled : IsTrue (is_options_head head) → IsFilled (octets_of p head)
