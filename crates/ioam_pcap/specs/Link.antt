-- The link types of captures.
use Rattle.std.specs.Prelude.{ℕ, List, [], ◌∷◌, Option, nat_eq}
use Rattle.std.specs.List.{Contains}
use Rattle.std.specs.Map.{lookup}
use Rattle.ioam_ip.specs.declared.layer.Layer.{Layer}
use Rattle.ioam_ip.specs.declared.layer.Layer.TheVariants.{Ethernet, Raw}

-- those that are read, each with the layer that its frames begin at: Ethernet, IP of either version, and
-- version 6 alone
abbrev pub link_types : List (ℕ × Layer)
link_types = (1, Ethernet) ∷ (101, Raw) ∷ (229, Raw) ∷ []

-- the number is a link type of this layer
abbrev pub IsLinkType : ℕ → Layer → Type 0
IsLinkType number layer = Contains link_types (number, layer)

-- the number is none of the link types that are read
abbrev pub IsNoLinkType : ℕ → Type 0
IsNoLinkType number = (layer : Layer) → IsLinkType number layer → ⊥

-- the layer of a link type
abbrev pub link_type : ℕ → Option Layer
link_type number = lookup (nat_eq number) link_types
