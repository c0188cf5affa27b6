-- The options of one options header as a list of octets is read from its front (RFC 8200 section 4.2).
use Rattle.std.specs.Prelude.{◌≡◌, ℕ, ◌+◌, ◌<◌, List, [], ◌∷◌, ◌++◌, length, drop}
use Rattle.ioam_ip.specs.Options.{Item}

-- The octets that stand behind so many octets of their header hold these options, in order and without paddings: nothing is left; or
-- Pad1 stands first, which is the octet 0 alone; or PadN, which is type 1, a length and as many octets; or an option of another type
-- with its length and its data. Behind either of these stands the rest.
pub data IsOptionList : ℕ → List ℕ → List Item → Type 0 where
  nothing : (at : ℕ) (octets : List ℕ) → octets ≡ [] → IsOptionList at octets []
  pad1 : (at : ℕ) (octets rest : List ℕ) (options : List Item) → octets ≡ 0 ∷ rest → IsOptionList (at + 1) rest options → IsOptionList at octets options
  padn : (at : ℕ) (octets body rest : List ℕ) (options : List Item) → octets ≡ 1 ∷ length body ∷ (body ++ rest)
      → IsOptionList (at + 2 + length body) rest options → IsOptionList at octets options
  option : (at : ℕ) (octets : List ℕ) (kind : ℕ) (body rest : List ℕ) (options : List Item) → 1 < kind → octets ≡ kind ∷ length body ∷ (body ++ rest)
      → IsOptionList (at + 2 + length body) rest options → IsOptionList at octets (record { kind = kind; at = at; body = body } ∷ options)

-- a header holds these options behind its Next Header and its Hdr Ext Len
abbrev pub HoldsOptions : List ℕ → List Item → Type 0
HoldsOptions head options = IsOptionList 2 (drop 2 head) options

-- and no others
abbrev pub OnlyOptions : List ℕ → List Item → Type 0
OnlyOptions head options = (others : List Item) → HoldsOptions head others → others ≡ options
