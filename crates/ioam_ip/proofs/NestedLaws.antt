-- The chain of a packet that carries another packet behind options headers.
use Rattle.std.proofs.Common.{◌≡◌, ℕ, ◌+◌, ◌-◌, ◌*◌, ◌/◌, ◌≤◌, Bool, true, false, List, [], ◌∷◌, ◌++◌, length, take, drop, map, slice_index, slice_range, get_or, Some, refl, sym, ap, ◌∙◌, subst, arith, append_assoc, length-append}
use Rattle.std.specs.List.{find}
use Rattle.std.proofs.lemmas.List.{take_at, drop_at, drop-drop, get_or-drop, get_or-append-add, get_or_append_left}
use Rattle.ioam_base.specs.Leads.{Leads}
use Rattle.ioam_ip.specs.Packet.{IsPacket}
use Rattle.ioam_ip.specs.Options.{IsFilled}
use Rattle.ioam_ip.specs.Chain.{said_size, CanPass, head_at, behind, start, EndsAt, IsSound}
use Rattle.ioam_ip.specs.ChainOptions.{is_other}
use Rattle.ioam_ip.specs.HeadsLeft.{AreHeads}
use Rattle.ioam_ip.specs.declared.chain.HeadSpot.{HeadSpot}
use Rattle.ioam_ip.specs.declared.chain.Head.{Head}
use Rattle.ioam_ip.specs.Laid.{Part, header_of, parts_end, items_of, AreParts, header_if, value_if}
use Rattle.ioam_ip.proofs.LaidLaws.{said-header, AreOptions-header}
use Rattle.ioam_ip.proofs.CarryLaws.{moved, moved_head, leads_same, ends_at_same, last_behind}

-- a header that stands in a packet
record Stands (packet : List ℕ) (at next : ℕ) (parts : List Part) : Type 0 where
  value : slice_index packet at ≡ next
  said : said_size packet at ≡ length (header_of next parts)
  filled : IsFilled (slice_range packet at (at + said_size packet at))
  within : at + said_size packet at ≤ length packet

stands : (packet front rest : List ℕ) (at next : ℕ) (parts : List Part) → AreParts parts → packet ≡ front ++ (header_of next parts ++ rest)
    → at ≡ length front → Stands packet at next parts
stands packet front rest at next parts kinds is place =
    let head = header_of next parts in
    let zero_more : at ≡ length front + 0 = omega arith in
    let value : slice_index packet at ≡ next =
    ap (λ n. slice_index packet n) zero_more ∙ ap (λ xs. slice_index xs (length front + 0)) is ∙ get_or-append-add front (head ++ rest) 0 0 in
    let second : slice_index packet (at + 1) ≡ parts_end 2 parts / 8 - 1 =
    ap (λ n. slice_index packet (n + 1)) place ∙ ap (λ xs. slice_index xs (length front + 1)) is ∙ get_or-append-add front (head ++ rest) 1 0 in
    let said : said_size packet at ≡ length head = ap (λ n. (n + 1) * 8) second ∙ said-header next parts in
    let size : (at + length head) - at ≡ length head = omega arith in
    let range : slice_range packet at (at + said_size packet at) ≡ head =
    ap (λ n. slice_range packet at (at + n)) said ∙ ap (λ n. take n (drop at packet)) size
    ∙ ap (λ xs. take (length head) (drop at xs)) is ∙ ap (λ xs. take (length head) xs) (drop_at front (head ++ rest) at (sym place)) ∙ take_at head rest (length head) refl in
    let P : List ℕ → Type 0 = λ xs. IsFilled xs in
    record {
      value = value;
      said = said;
      filled = subst P (sym range) (items_of 2 parts, AreOptions-header next parts kinds);
      within = omega (arith, said, ap length is, length-append front (head ++ rest), length-append head rest);
    }

-- the headers from a spot on, up to the end of the chain
record Goes (packet : List ℕ) (spot : HeadSpot) (place : ℕ) : Type 0 where
  heads : List Head
  last : HeadSpot
  leads : Leads (CanPass packet) (head_at packet) (behind packet) spot heads last
  ends : EndsAt packet last
  head : Head
  first : find is_other heads ≡ Some head
  nested : head.value ≡ 41
  start_is : head.range.start ≡ place

-- the nested packet
inside : (packet inner : List ℕ) (at : ℕ) (behind_ip : Bool) → IsPacket inner → IsSound inner → drop at packet ≡ inner → length packet ≡ length inner + at
    → Goes packet (record { value = 41; at = at; behind_ip = behind_ip }) at
inside packet inner at behind_ip is_packet sound same long =
    let spot : HeadSpot = record { value = 41; at = at; behind_ip = behind_ip } in
    let chain = sound.chain in
    let forty : 40 ≤ length inner = is_packet.header_there in
    let from_same : drop (40 + at) packet ≡ drop 40 inner =
    let order : 40 + at ≡ at + 40 = omega arith in ap (λ n. drop n packet) order ∙ sym (drop-drop 40 at packet) ∙ ap (λ xs. drop 40 xs) same in
    let octet : (k : ℕ) → slice_index packet (at + k) ≡ slice_index inner k = λ k. sym (get_or-drop at packet k 0) ∙ ap (λ xs. get_or xs k 0) same in
    let none : at + 0 ≡ at = omega arith in
    let version : slice_index packet at / 16 ≡ 6 = ap (λ n. n / 16) (ap (λ n. slice_index packet n) (sym none) ∙ octet 0) ∙ is_packet.version in
    let next : behind packet spot ≡ moved inner packet 40 at from_same long (start inner) =
    let order : at + 40 ≡ 40 + at = omega arith in
    λ i. record { value = octet 6 i; at = order i; behind_ip = true } in
    let P : HeadSpot → Type 0 = λ s. Leads (CanPass packet) (head_at packet) (behind packet) s (map (moved_head inner packet 40 at from_same long) sound.heads) (moved inner packet 40 at from_same long chain.last) in
    let others = leads_same inner packet 40 at from_same long (start inner) sound.heads chain.last (omega arith) chain.reaches in
    let later : 40 ≤ chain.last.at = last_behind inner (start inner) sound.heads chain.last chain.reaches in
    record {
      heads = head_at packet spot ∷ map (moved_head inner packet 40 at from_same long) sound.heads;
      last = moved inner packet 40 at from_same long chain.last;
      leads = ((omega arith, version), refl, subst P (sym next) others);
      ends = ends_at_same inner packet 40 at from_same long chain.last later chain.ends;
      head = head_at packet spot;
      first = refl;
      nested = refl;
      start_is = refl;
    }

-- Destination Options in front of it
over_targets : (packet : List ℕ) (at next place : ℕ) (behind_ip : Bool) (parts : List Part) → Stands packet at next parts
    → Goes packet (record { value = next; at = at + length (header_of next parts); behind_ip = false }) place
    → Goes packet (record { value = 60; at = at; behind_ip = behind_ip }) place
over_targets packet at next place behind_ip parts stand goes =
    let spot : HeadSpot = record { value = 60; at = at; behind_ip = behind_ip } in
    let P : HeadSpot → Type 0 = λ s. Leads (CanPass packet) (head_at packet) (behind packet) s goes.heads goes.last in
    let after : behind packet spot ≡ record { value = next; at = at + length (header_of next parts); behind_ip = false } =
    λ i. record { value = stand.value i; at = at + stand.said i; behind_ip = false } in
    record {
      heads = head_at packet spot ∷ goes.heads;
      last = goes.last;
      leads = ((stand.within, stand.filled), refl, subst P (sym after) goes.leads);
      ends = goes.ends;
      head = goes.head;
      first = goes.first;
      nested = goes.nested;
      start_is = goes.start_is;
    }

-- Hop-by-Hop Options in front of these
over_hop : (packet : List ℕ) (at next place : ℕ) (parts : List Part) → Stands packet at next parts
    → Goes packet (record { value = next; at = at + length (header_of next parts); behind_ip = false }) place
    → Goes packet (record { value = 0; at = at; behind_ip = true }) place
over_hop packet at next place parts stand goes =
    let spot : HeadSpot = record { value = 0; at = at; behind_ip = true } in
    let P : HeadSpot → Type 0 = λ s. Leads (CanPass packet) (head_at packet) (behind packet) s goes.heads goes.last in
    let after : behind packet spot ≡ record { value = next; at = at + length (header_of next parts); behind_ip = false } =
    λ i. record { value = stand.value i; at = at + stand.said i; behind_ip = false } in
    record {
      heads = head_at packet spot ∷ goes.heads;
      last = goes.last;
      leads = ((stand.within, (refl, stand.filled)), refl, subst P (sym after) goes.leads);
      ends = goes.ends;
      head = goes.head;
      first = goes.first;
      nested = goes.nested;
      start_is = goes.start_is;
    }

module _ (inner : List ℕ) (is_packet : IsPacket inner) (sound : IsSound inner) where
  -- behind so many octets: Destination Options, if there are any, and the packet
  behind_hop : (packet front : List ℕ) (behind_ip : Bool) (targets : List Part) → AreParts targets → packet ≡ front ++ (header_if 41 targets ++ inner)
      → Goes packet (record { value = value_if 60 targets 41; at = length front; behind_ip = behind_ip }) (length front + length (header_if 41 targets))
  behind_hop packet front behind_ip [] kinds is =
      let Q : ℕ → Type 0 = λ n. Goes packet (record { value = 41; at = length front; behind_ip = behind_ip }) n in
      let none : length front ≡ length front + 0 = omega arith in
      subst Q none (inside packet inner (length front) behind_ip is_packet sound (ap (λ xs. drop (length front) xs) is ∙ drop_at front inner (length front) refl)
      (omega (arith, ap length is, length-append front inner)))
  behind_hop packet front behind_ip (part ∷ parts) kinds is =
      let head = header_of 41 (part ∷ parts) in
      let place = length front + length head in
      let all : packet ≡ (front ++ head) ++ inner = is ∙ sym (append_assoc front head inner) in
      let here : length (front ++ head) ≡ place = length-append front head in
      let goes = inside packet inner place false is_packet sound (ap (λ xs. drop place xs) all ∙ drop_at (front ++ head) inner place here)
      (omega (arith, ap length all, here, length-append (front ++ head) inner)) in
      over_targets packet (length front) 41 place behind_ip (part ∷ parts) (stands packet front inner (length front) 41 (part ∷ parts) kinds is refl) goes

  -- and the same behind Hop-by-Hop Options, if there are any
  behind_header : (packet front : List ℕ) (targets parts : List Part) → AreParts targets → AreParts parts
      → packet ≡ front ++ (header_if (value_if 60 targets 41) parts ++ (header_if 41 targets ++ inner))
      → Goes packet (record { value = value_if 0 parts (value_if 60 targets 41); at = length front; behind_ip = true })
      (length front + length (header_if (value_if 60 targets 41) parts) + length (header_if 41 targets))
  behind_header packet front targets [] kinds others is =
      let Q : ℕ → Type 0 = λ n. Goes packet (record { value = value_if 60 targets 41; at = length front; behind_ip = true }) n in
      let none : length front + length (header_if 41 targets) ≡ length front + 0 + length (header_if 41 targets) = omega arith in
      subst Q none (behind_hop packet front true targets kinds is)
  behind_header packet front targets (part ∷ parts) kinds others is =
      let next = value_if 60 targets 41 in
      let head = header_of next (part ∷ parts) in
      let rest = header_if 41 targets ++ inner in
      let all : packet ≡ (front ++ head) ++ rest = is ∙ sym (append_assoc front head rest) in
      let here : length (front ++ head) ≡ length front + length head = length-append front head in
      let R : ℕ → Type 0 = λ n. Goes packet (record { value = next; at = n; behind_ip = false }) (n + length (header_if 41 targets)) in
      let goes = subst R here (behind_hop packet (front ++ head) false targets kinds all) in
      over_hop packet (length front) next (length front + length head + length (header_if 41 targets)) (part ∷ parts)
      (stands packet front rest (length front) next (part ∷ parts) others is refl) goes

-- a packet whose first header that holds no options is a nested IPv6 header, which stands at this place
pub record Nests (packet : List ℕ) (place : ℕ) : Type 0 where
  pub heads : List Head
  pub are_heads : AreHeads packet heads
  pub head : Head
  pub first : find is_other heads ≡ Some head
  pub nested : head.value ≡ 41
  pub start_is : head.range.start ≡ place

-- such is a packet of an IPv6 header, options headers as far as they have options, and a packet
pub Nests-laid : (outer : List ℕ) (parts targets : List Part) (inner : List ℕ) → length outer ≡ 40
    → slice_index outer 6 ≡ value_if 0 parts (value_if 60 targets 41) → AreParts parts → AreParts targets → IsPacket inner → IsSound inner
    → Nests (outer ++ (header_if (value_if 60 targets 41) parts ++ (header_if 41 targets ++ inner)))
    (40 + length (header_if (value_if 60 targets 41) parts) + length (header_if 41 targets))
Nests-laid outer parts targets inner long value kinds others is_packet sound =
    let rest = header_if (value_if 60 targets 41) parts ++ (header_if 41 targets ++ inner) in
    let packet = outer ++ rest in
    let goes = behind_header inner is_packet sound packet outer targets parts others kinds refl in
    let named : slice_index packet 6 ≡ value_if 0 parts (value_if 60 targets 41) = get_or_append_left outer rest 0 6 (omega (arith, long)) ∙ value in
    let begins : (record { value = value_if 0 parts (value_if 60 targets 41); at = length outer; behind_ip = true }) ≡ start packet =
    λ i. record { value = sym named i; at = long i; behind_ip = true } in
    let P : HeadSpot → Type 0 = λ s. Leads (CanPass packet) (head_at packet) (behind packet) s goes.heads goes.last in
    record {
      heads = goes.heads;
      are_heads = record {
        upper = goes.last.value;
        at = goes.last.at;
        chain = record { last = goes.last; reaches = subst P begins goes.leads; ends = goes.ends; value = refl; place = refl };
      };
      head = goes.head;
      first = goes.first;
      nested = goes.nested;
      start_is = goes.start_is ∙ ap (λ n. n + length (header_if (value_if 60 targets 41) parts) + length (header_if 41 targets)) long;
    }
