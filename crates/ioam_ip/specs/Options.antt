-- The options of one options header (RFC 8200 section 4.2). A header is all its octets: the next
-- header value, the length octet, and then options up to its end.
use Rattle.std.specs.Prelude.{◌≡◌, ℕ, ◌+◌, ◌<◌, ◌≤◌, List, [], Bool, ◌==◌, nat_lt, if◌then◌else◌, length, slice_index, take, drop, filter}
use Rattle.ioam_base.specs.Leads.{Leads}

-- one option, or one padding: its type, the place of its type octet, its data
pub record Item : Type 0 where
  pub kind : ℕ
  pub at : ℕ
  pub body : List ℕ

-- the octets of the option at a place: one for Pad1 (type 0), else type, length and so many octets
abbrev pub option_size : List ℕ → ℕ → ℕ
option_size head at = if slice_index head at == 0 then 1 else slice_index head (at + 1) + 2

-- the place behind the option or padding at a place
abbrev pub option_end : List ℕ → ℕ → ℕ
option_end head at = at + option_size head at

-- the option at a place lies within the header; past the end no option does
abbrev pub OptionFits : List ℕ → ℕ → Type 0
OptionFits head at = option_end head at ≤ length head

-- the data of the option at a place; Pad1 has none
abbrev pub body_at : List ℕ → ℕ → List ℕ
body_at head at = if slice_index head at == 0 then [] else take (slice_index head (at + 1)) (drop (at + 2) head)

-- the option or padding that stands at a place: its type, its place and its data
abbrev pub item_at : List ℕ → ℕ → Item
item_at head at = record { kind = slice_index head at; at = at; body = body_at head at }

-- options and paddings, one behind the other, from the first place up to this one
abbrev pub ItemsUpTo : List ℕ → List Item → ℕ → Type 0
ItemsUpTo head items at = Leads (OptionFits head) (item_at head) (option_end head) 2 items at

-- Pad1 and PadN are the types 0 and 1
abbrev pub is_option : Item → Bool
is_option item = nat_lt 1 item.kind

-- these are the options of the header, in order and without paddings: they fill it exactly
pub record AreOptions (head : List ℕ) (os : List Item) : Type 0 where
  pub items : List Item
  pub fill : ItemsUpTo head items (length head)
  pub options : os ≡ filter is_option items

-- options and paddings fill the header exactly
abbrev pub IsFilled : List ℕ → Type 0
IsFilled head = (os : List Item) × AreOptions head os

-- the first option that doesn't fit stands at this place
pub record UnfitAt (head : List ℕ) (at : ℕ) : Type 0 where
  pub items : List Item
  pub before : ItemsUpTo head items at
  pub within : at < length head
  pub unfit : length head < option_end head at
