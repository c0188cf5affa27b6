-- Laws of the chain of a packet.
use Rattle.std.proofs.Common.{◌≡◌, ℕ, List, sym, ap, ◌∙◌, subst}
use Rattle.ioam_base.proofs.LeadsLaws.{Leads-unique}
use Rattle.ioam_ip.specs.Chain.{kind_of, Admits, CanPass, EndsBy, EndsAt, head_at, behind, start, Reaches, Chain, IsSound, BadAt}
use Rattle.ioam_ip.specs.HeadsLeft.{AreHeads, OnlyHeads}
use Rattle.ioam_ip.specs.declared.chain.Kind.{Kind}
use Rattle.ioam_ip.specs.declared.chain.Kind.TheVariants.{HopByHop, Destination, Routing, Fragment, Nested, Upper}
use Rattle.ioam_ip.specs.declared.chain.HeadSpot.{HeadSpot}
use Rattle.ioam_ip.specs.declared.chain.Head.{Head}

by_kind : (p : List ℕ) (spot : HeadSpot) (k : Kind) → EndsBy p spot.at k → Admits p spot k → ⊥
by_kind p spot HopByHop ends admits = ends
by_kind p spot Destination ends admits = ends
by_kind p spot Routing ends admits = ends
by_kind p spot Fragment ends admits = ends.1 admits
by_kind p spot Nested ends admits = ends
by_kind p spot Upper ends admits = admits

-- where the chain ends, it doesn't go on
pub ends_no_pass : (p : List ℕ) (spot : HeadSpot) → EndsAt p spot → CanPass p spot → ⊥
ends_no_pass p spot ends pass = by_kind p spot (kind_of spot.value) ends pass.1

-- two ways along the chain, up to where it doesn't go on, are one
pub Reaches-unique : (p : List ℕ) (hs : List Head) (spot : HeadSpot) (others : List Head) (other : HeadSpot)
    → Reaches p hs spot → (CanPass p spot → ⊥) → Reaches p others other → (CanPass p other → ⊥)
    → (hs ≡ others) × (spot ≡ other)
Reaches-unique p hs spot others other = Leads-unique (CanPass p) (head_at p) (behind p) (start p) hs spot others other

-- a packet has one chain
pub Chain-unique : (p : List ℕ) (hs : List Head) (upper at : ℕ) (others : List Head) (upper' at' : ℕ)
    → Chain p hs upper at → Chain p others upper' at' → (hs ≡ others) × (upper ≡ upper') × (at ≡ at')
Chain-unique p hs upper at others upper' at' a b =
    let same : (hs ≡ others) × (a.last ≡ b.last) = Reaches-unique p hs a.last others b.last a.reaches (ends_no_pass p a.last a.ends)
    b.reaches (ends_no_pass p b.last b.ends) in
    (same.0, sym a.value ∙ ap (λ (spot : HeadSpot). spot.value) same.1 ∙ b.value, sym a.place ∙ ap (λ (spot : HeadSpot). spot.at) same.1 ∙ b.place)

pub heads_only : (p : List ℕ) (hs : List Head) → AreHeads p hs → OnlyHeads p hs
heads_only p hs are others heads = (Chain-unique p others heads.upper heads.at hs are.upper are.at heads.chain are.chain).0

-- where a header breaks the chain, the packet isn't sound
pub bad_not_sound : (p : List ℕ) (at : ℕ) → BadAt p at → IsSound p → ⊥
bad_not_sound p at bad sound =
    let chain = sound.chain in
    let same : (bad.heads ≡ sound.heads) × (bad.spot ≡ chain.last) =
    Reaches-unique p bad.heads bad.spot sound.heads chain.last bad.reaches bad.no_pass chain.reaches (ends_no_pass p chain.last chain.ends) in
    let P : HeadSpot → Type 0 = λ spot. EndsAt p spot in
    bad.no_end (subst P (sym same.1) chain.ends)

-- a packet breaks at one place
pub BadAt-unique : (p : List ℕ) (a b : ℕ) → BadAt p a → BadAt p b → a ≡ b
BadAt-unique p a b one other =
    let same : (one.heads ≡ other.heads) × (one.spot ≡ other.spot) =
    Reaches-unique p one.heads one.spot other.heads other.spot one.reaches one.no_pass other.reaches other.no_pass in
    sym one.place ∙ ap (λ (spot : HeadSpot). spot.at) same.1 ∙ other.place
