-- Laws of an enclosed packet on its way.
use Rattle.std.proofs.Common.{◌≡◌, ℕ, ◌+◌, ◌-◌, ◌≤◌, Bool, true, false, cond, eqb, List, [], ◌∷◌, ◌++◌, length, take, drop, map, set, slice_index, slice_range, length-append, refl, sym, ap, ◌∙◌, arith}
use Rattle.std.proofs.lemmas.List.{take_at}
use Rattle.ioam_base.specs.Octets.{written}
use Rattle.ioam_ip.specs.Rewriting.{options_in, with_steps}
use Rattle.ioam_ip.specs.Hop.{has_hop, hop_end, hop_head, HopFits, hop_stepped}
use Rattle.ioam_ip.specs.Laid.{Part, header_of, stepped, AreParts, header_if, value_if}
use Rattle.ioam_base.proofs.WrittenLaws.{written-at}
use Rattle.ioam_ip.proofs.LaidLaws.{length-header, said-header, header-stepped, parts_end-stepped}
use Rattle.ioam_tunnel.specs.Wire.{Room, Tunnel, AreConstant, trace_parts, hop_parts, next_value, behind_outer, outer_header, packet_with}

-- the outer header has 40 octets
length-outer : (tunnel : Tunnel) (payload next limit : ℕ) → length (outer_header tunnel payload next limit) ≡ 40
length-outer tunnel payload next limit = refl

pub length-packet : (tunnel : Tunnel) (limit : ℕ) (parts : List Part) → length (packet_with tunnel limit parts) ≡ 40 + length (behind_outer tunnel parts)
unfolding packet_with
length-packet tunnel limit parts =
    let next = value_if 0 parts (next_value tunnel) in
    let payload = length (behind_outer tunnel parts) in
    length-append (outer_header tunnel payload next limit) (behind_outer tunnel parts)
    ∙ ap (λ n. n + length (behind_outer tunnel parts)) (length-outer tunnel payload next limit)

-- none of the options of its Hop-by-Hop header is a padding
constant-parts : (parts : List Part) → AreConstant parts → AreParts parts
constant-parts [] are = tt
constant-parts (part ∷ parts) are = (are.0, constant-parts parts are.2)

parts-hop : (rooms : List Room) (elements : Room → List (List ℕ)) (others : List Part) → AreParts others → AreParts (trace_parts rooms elements ++ others)
parts-hop [] elements others are = are
parts-hop (room ∷ rooms) elements others are = (omega arith, parts-hop rooms elements others are)

pub AreParts-hop : (tunnel : Tunnel) (elements : Room → List (List ℕ)) → AreConstant tunnel.others → AreParts (hop_parts tunnel elements)
AreParts-hop tunnel elements are = parts-hop tunnel.traces elements tunnel.others (constant-parts tunnel.others are)

-- its hop limit
pub limit-set : (tunnel : Tunnel) (limit other : ℕ) (parts : List Part) → set (packet_with tunnel limit parts) 7 other ≡ packet_with tunnel other parts
unfolding packet_with
limit-set tunnel limit other parts = refl

pub limit-is : (tunnel : Tunnel) (limit : ℕ) (parts : List Part) → slice_index (packet_with tunnel limit parts) 7 ≡ limit
unfolding packet_with
limit-is tunnel limit parts = refl

value_is : (tunnel : Tunnel) (limit : ℕ) (parts : List Part) → slice_index (packet_with tunnel limit parts) 6 ≡ value_if 0 parts (next_value tunnel)
unfolding packet_with
value_is tunnel limit parts = refl

other_value : (targets : List Part) → eqb (value_if 60 targets 41) 0 ≡ false
other_value [] = refl
other_value (part ∷ parts) = refl

-- without options there is no Hop-by-Hop header
no_hop : (tunnel : Tunnel) (limit : ℕ) → has_hop (packet_with tunnel limit []) ≡ false
no_hop tunnel limit = ap (λ n. eqb n 0) (value_is tunnel limit []) ∙ other_value tunnel.targets

a_hop : (tunnel : Tunnel) (limit : ℕ) (part : Part) (parts : List Part) → has_hop (packet_with tunnel limit (part ∷ parts)) ≡ true
a_hop tunnel limit part parts = ap (λ n. eqb n 0) (value_is tunnel limit (part ∷ parts))

not_there : (b : Bool) (xs ys : List ℕ) → b ≡ false → cond b xs ys ≡ ys
not_there true xs ys is = absurd (cc is)
not_there false xs ys is = refl

there : (b : Bool) (xs ys : List ℕ) → b ≡ true → cond b xs ys ≡ xs
there true xs ys is = refl
there false xs ys is = absurd (cc is)

module _ (tunnel : Tunnel) (limit : ℕ) (part : Part) (parts : List Part) where
  abbrev head : List ℕ
  head = header_of (next_value tunnel) (part ∷ parts)

  abbrev rest : List ℕ
  rest = header_if 41 tunnel.targets ++ tunnel.inner

  abbrev outer : List Part → List ℕ
  outer others = outer_header tunnel (length (behind_outer tunnel others)) 0 limit

  packet_is : packet_with tunnel limit (part ∷ parts) ≡ outer (part ∷ parts) ++ (head ++ rest)
  unfolding packet_with
  packet_is = refl

  end_is : hop_end (packet_with tunnel limit (part ∷ parts)) ≡ 40 + length head
  end_is = ap (λ xs. hop_end xs) packet_is ∙ ap (λ n. 40 + n) (said-header (next_value tunnel) (part ∷ parts))

  head_is : hop_head (packet_with tunnel limit (part ∷ parts)) ≡ head
  head_is =
      let size : (40 + length head) - 40 ≡ length head = omega arith in
      ap (λ n. slice_range (packet_with tunnel limit (part ∷ parts)) 40 n) end_is
      ∙ ap (λ n. take n (drop 40 (packet_with tunnel limit (part ∷ parts)))) size
      ∙ ap (λ xs. take (length head) (drop 40 xs)) packet_is
      ∙ take_at head rest (length head) refl

  pub fits-there : 40 + length head ≤ length (packet_with tunnel limit (part ∷ parts))
  fits-there = omega (arith, ap length packet_is, length-append head rest)

short_packet : (tunnel : Tunnel) (limit : ℕ) → 40 ≤ length (packet_with tunnel limit [])
unfolding packet_with
short_packet tunnel limit = omega arith

no_both : (b : Bool) → b ≡ true → b ≡ false → ⊥
no_both b is not = cc

-- the header lies within the packet
pub HopFits-packet : (tunnel : Tunnel) (limit : ℕ) (parts : List Part) → HopFits (packet_with tunnel limit parts)
HopFits-packet tunnel limit [] = record {
  header_there = short_packet tunnel limit;
  within = λ is. absurd (no_both (has_hop (packet_with tunnel limit [])) is (no_hop tunnel limit));
}
HopFits-packet tunnel limit (part ∷ parts) = record {
  header_there = omega (arith, fits-there tunnel limit part parts);
  within = λ is. omega (arith, fits-there tunnel limit part parts, end_is tunnel limit part parts);
}

module _ (step : ℕ → List ℕ → List ℕ) (keeps : (kind : ℕ) (body : List ℕ) → length (step kind body) ≡ length body) (tunnel : Tunnel) (limit : ℕ) where
  -- changed in place is laid out anew
  pub packet-stepped : (parts : List Part) → AreParts parts
      → hop_stepped step (packet_with tunnel limit parts) ≡ packet_with tunnel limit (map (stepped step) parts)
  packet-stepped [] kinds =
      let packet = packet_with tunnel limit [] in
      not_there (has_hop packet) (written packet 40 (with_steps step (hop_head packet) (options_in (hop_head packet)))) packet (no_hop tunnel limit)
  packet-stepped (part ∷ parts) kinds =
      let packet = packet_with tunnel limit (part ∷ parts) in
      let old = head tunnel limit part parts in
      let new = header_of (next_value tunnel) (map (stepped step) (part ∷ parts)) in
      let back = rest tunnel limit part parts in
      let same : length new ≡ length old = length-header (next_value tunnel) (map (stepped step) (part ∷ parts))
      ∙ parts_end-stepped step keeps 2 (part ∷ parts) ∙ sym (length-header (next_value tunnel) (part ∷ parts)) in
      let long : length (new ++ back) ≡ length (old ++ back) = omega (arith, same, length-append new back, length-append old back) in
      there (has_hop packet) (written packet 40 (with_steps step (hop_head packet) (options_in (hop_head packet)))) packet (a_hop tunnel limit part parts)
      ∙ ap (λ xs. written packet 40 (with_steps step xs (options_in xs))) (head_is tunnel limit part parts)
      ∙ ap (λ xs. written packet 40 xs) (header-stepped step keeps (next_value tunnel) (part ∷ parts) kinds)
      ∙ ap (λ xs. written xs 40 new) (packet_is tunnel limit part parts)
      ∙ written-at (outer tunnel limit part parts (part ∷ parts)) old new back 40 refl same
      ∙ ap (λ n. (outer_header tunnel n 0 limit) ++ (new ++ back)) (sym long)
      ∙ sym (packet_is tunnel limit (stepped step part) (map (stepped step) parts))
