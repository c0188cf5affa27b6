-- A number is a link type of one layer, or none that is read.
use Rattle.std.proofs.Common.{◌≡◌, ℕ, ◌⊎◌, Option, Some, None, refl, sym, ◌∙◌, inl, inr}
use Rattle.std.proofs.lemmas.Bool.{eqb-true}
use Rattle.std.proofs.lemmas.Cmp.{nat_eq_equiv}
use Rattle.std.proofs.lemmas.Map.Views.{lookup-from_Contains, Contains-from_lookup}
use Rattle.std.specs.List.{IsDistinct}
use Rattle.std.specs.Map.{keys_of}
use Rattle.std.specs.Prelude.{MatchOption, nat_eq}
use Rattle.ioam_ip.specs.declared.layer.Layer.{Layer}
use Rattle.ioam_pcap.specs.Link.{link_types, IsLinkType, IsNoLinkType, link_type}

-- no number stands twice in the list
link_types_distinct : IsDistinct nat_eq (keys_of link_types)
unfolding IsDistinct
link_types_distinct = search

link_type-from : (number : ℕ) (layer : Layer) → IsLinkType number layer → link_type number ≡ Some layer
link_type-from number layer is = lookup-from_Contains nat_eq_equiv number layer link_types link_types_distinct is

pub link_unique : (number : ℕ) (a b : Layer) → IsLinkType number a → IsLinkType number b → a ≡ b
link_unique number a b x y =
    let same : ◌≡◌ {A = Option Layer} (Some a) (Some b) = sym (link_type-from number a x) ∙ link_type-from number b y in
    cc

-- what is found of a number in the list
link_type-is : (number : ℕ) (found : Option Layer) → link_type number ≡ found → MatchOption found (IsNoLinkType number) (IsLinkType number)
link_type-is number (Some layer) is = Contains-from_lookup eqb-true number layer link_types is
link_type-is number None is = λ layer known. let wrong : ◌≡◌ {A = Option Layer} None (Some layer) = sym is ∙ link_type-from number layer known in absurd (cc)

pub link_type_says : (number : ℕ) → MatchOption (link_type number) (IsNoLinkType number) (λ layer. IsLinkType number layer)
link_type_says number = link_type-is number (link_type number) refl

either : (number : ℕ) (found : Option Layer) → MatchOption found (IsNoLinkType number) (IsLinkType number) → ((layer : Layer) × IsLinkType number layer) ⊎ IsNoLinkType number
either number (Some layer) is = inl (layer, is)
either number None is = inr is

pub linked_or_not : (number : ℕ) → ((layer : Layer) × IsLinkType number layer) ⊎ IsNoLinkType number
linked_or_not number = either number (link_type number) (link_type_says number)
