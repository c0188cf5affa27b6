-- An enclosed packet has a whole chain where the packet that it carries has one, and that packet is found in it.
use Rattle.std.proofs.Common.{◌≡◌, ℕ, ◌+◌, ◌<◌, List, ◌++◌, length, drop, Option, Some, None, MatchOption, refl, sym, ap, ◌∙◌, subst, arith, append_assoc, length-append}
use Rattle.std.specs.List.{find}
use Rattle.std.specs.declared.ops.Range.{Range}
use Rattle.std.proofs.lemmas.List.{drop_at}
use Rattle.ioam_ip.specs.Packet.{IsPacket}
use Rattle.ioam_ip.specs.Chain.{IsSound}
use Rattle.ioam_ip.specs.ChainOptions.{is_other}
use Rattle.ioam_ip.specs.declared.chain.Head.{Head}
use Rattle.ioam_ip.specs.Laid.{Part, AreParts, header_if, value_if}
use Rattle.ioam_ip.proofs.ChainLaws.{Chain-unique}
use Rattle.ioam_ip.proofs.NestedLaws.{Nests, Nests-laid}
use Rattle.ioam_tunnel.specs.Inner.{InnerAt, FirstOther, IsOuter, GivesBack}
use Rattle.ioam_tunnel.specs.Wire.{Tunnel, next_value, behind_outer, outer_header, packet_with}

-- where the packet that is carried stands
abbrev pub inner_place : Tunnel → List Part → ℕ
inner_place tunnel parts = 40 + length (header_if (next_value tunnel) parts) + length (header_if 41 tunnel.targets)

module _ (tunnel : Tunnel) (limit : ℕ) (parts : List Part) (kinds : AreParts tunnel.targets) (others : AreParts parts)
    (is_packet : IsPacket tunnel.inner) (sound : IsSound tunnel.inner) where
  nests : Nests (packet_with tunnel limit parts) (inner_place tunnel parts)
  unfolding packet_with
  nests = Nests-laid (outer_header tunnel (length (behind_outer tunnel parts)) (value_if 0 parts (next_value tunnel)) limit)
      parts tunnel.targets tunnel.inner refl refl others kinds is_packet sound

  carried : drop (inner_place tunnel parts) (packet_with tunnel limit parts) ≡ tunnel.inner
  unfolding packet_with
  carried =
      let outer = outer_header tunnel (length (behind_outer tunnel parts)) (value_if 0 parts (next_value tunnel)) limit in
      let hop = header_if (next_value tunnel) parts in
      let targets = header_if 41 tunnel.targets in
      let all : outer ++ (hop ++ (targets ++ tunnel.inner)) ≡ ((outer ++ hop) ++ targets) ++ tunnel.inner =
      sym (append_assoc outer hop (targets ++ tunnel.inner)) ∙ sym (append_assoc (outer ++ hop) targets tunnel.inner) in
      ap (λ xs. drop (inner_place tunnel parts) xs) all
      ∙ drop_at ((outer ++ hop) ++ targets) tunnel.inner (inner_place tunnel parts) (omega (arith, length-append (outer ++ hop) targets, length-append outer hop))

  -- its chain is whole
  pub IsSound-packet : IsSound (packet_with tunnel limit parts)
  IsSound-packet = record { heads = nests.heads; upper = nests.are_heads.upper; at = nests.are_heads.at; chain = nests.are_heads.chain }

  pub InnerAt-packet : InnerAt (packet_with tunnel limit parts) (inner_place tunnel parts)
  InnerAt-packet = record {
    heads = nests.heads;
    are_heads = nests.are_heads;
    head = nests.head;
    first = nests.first;
    nested = nests.nested;
    start = nests.start_is;
    is_packet = subst (λ xs. IsPacket xs) (sym carried) is_packet;
  }

  pub carried-packet : drop (inner_place tunnel parts) (packet_with tunnel limit parts) ≡ tunnel.inner
  carried-packet = carried

-- an enclosed packet is a packet
pub IsPacket-packet : (tunnel : Tunnel) (limit : ℕ) (parts : List Part) → IsOuter tunnel parts → IsPacket (packet_with tunnel limit parts)
unfolding packet_with
IsPacket-packet tunnel limit parts right =
    let below : length (behind_outer tunnel parts) < 65536 = right.payload_below in
    let class_below : tunnel.class < 256 = right.class_below in
    let label_below : tunnel.label < 1048576 = right.label_below in
    record {
      header_there = omega arith;
      version = omega arith;
      whole = omega arith;
    }

-- a packet carries one packet
pub InnerAt-unique : (packet : List ℕ) (a b : ℕ) → InnerAt packet a → InnerAt packet b → a ≡ b
InnerAt-unique packet a b one other =
    let same : one.heads ≡ other.heads = (Chain-unique packet one.heads one.are_heads.upper one.are_heads.at other.heads other.are_heads.upper other.are_heads.at one.are_heads.chain other.are_heads.chain).0 in
    let head : Some one.head ≡ Some other.head = sym one.first ∙ ap (λ hs. find is_other hs) same ∙ other.first in
    let heads : one.head ≡ other.head = cc in
    sym one.start ∙ ap (λ (h : Head). h.range.start) heads ∙ other.start

pub gives-back : (packet : List ℕ) (result : Option (Range ℕ))
    → MatchOption result ((place : ℕ) → IsPacket packet → InnerAt packet place → ⊥) (λ range. InnerAt packet range.start × (range.end ≡ length packet))
    → GivesBack packet result
gives-back packet None none tunnel limit parts right is_packet sound is =
    let P : List ℕ → Type 0 = λ xs. IsPacket xs in
    let Q : List ℕ → Type 0 = λ xs. InnerAt xs (inner_place tunnel parts) in
    absurd (none (inner_place tunnel parts) (subst P (sym is) (IsPacket-packet tunnel limit parts right))
    (subst Q (sym is) (InnerAt-packet tunnel limit parts right.targets right.others is_packet sound)))
gives-back packet (Some range) there tunnel limit parts right is_packet sound is =
    let Q : List ℕ → Type 0 = λ xs. InnerAt xs (inner_place tunnel parts) in
    let place : range.start ≡ inner_place tunnel parts = InnerAt-unique packet range.start (inner_place tunnel parts) there.0
    (subst Q (sym is) (InnerAt-packet tunnel limit parts right.targets right.others is_packet sound)) in
    (there.1, ap (λ n. drop n packet) place ∙ ap (λ xs. drop (inner_place tunnel parts) xs) is ∙ carried-packet tunnel limit parts right.targets right.others is_packet sound)

-- the first header that holds no options is that of the packet that is carried
pub first-same : (packet : List ℕ) (found : Option Head) (place : ℕ) → FirstOther packet found → (at : InnerAt packet place) → found ≡ Some at.head
first-same packet found place first at =
    let same : first.heads ≡ at.heads = (Chain-unique packet first.heads first.are_heads.upper first.are_heads.at at.heads at.are_heads.upper at.are_heads.at first.are_heads.chain at.are_heads.chain).0 in
    sym first.first ∙ ap (λ hs. find is_other hs) same ∙ at.first

pub none-first : (packet : List ℕ) → FirstOther packet None → (place : ℕ) → InnerAt packet place → ⊥
none-first packet first place at = let same = first-same packet None place first at in absurd (cc)

pub head-first : (packet : List ℕ) (head : Head) → FirstOther packet (Some head) → (place : ℕ) → (at : InnerAt packet place) → head ≡ at.head
head-first packet head first place at = let same = first-same packet (Some head) place first at in cc
