-- Laws of headers that hold options.
use Rattle.std.proofs.Common.{◌≡◌, ℕ, zero, suc, ◌+◌, ◌-◌, ◌*◌, ◌/◌, ◌≤◌, List, [], ◌∷◌, ◌++◌, length, map, append_assoc, length-append, refl, sym, ap, ◌∙◌, subst, arith}
use Rattle.std.proofs.lemmas.List.{append-nil, length-replicate}
use Rattle.ioam_base.specs.Octets.{written}
use Rattle.ioam_base.proofs.WrittenLaws.{written-at}
use Rattle.ioam_ip.specs.Options.{Item, AreOptions}
use Rattle.ioam_ip.specs.Layout.{padding, gap_before, padded}
use Rattle.ioam_ip.proofs.LayoutLaws.{AreOptions-padding, AreOptions-with}
use Rattle.ioam_ip.proofs.OptionsLeftLaws.{all_from}
use Rattle.ioam_ip.specs.Rewriting.{options_in, with_step, with_steps}
use Rattle.ioam_ip.specs.Laid.{Part, place_of, behind_part, part_octets, parts_octets, parts_end, header_of, items_of, stepped, AreParts}

length-padding : (n : ℕ) → length (padding n) ≡ n
length-padding zero = refl
length-padding (suc zero) = refl
length-padding (suc (suc n)) = ap (λ m. suc (suc m)) (length-replicate n 0)

pub length-part : (size : ℕ) (part : Part) → size + length (part_octets size part) ≡ behind_part size part
length-part size part = omega (arith, length-append (padding (gap_before size part.kind)) (part.kind ∷ length part.body ∷ part.body), length-padding (gap_before size part.kind))

pub length-parts : (size : ℕ) (parts : List Part) → size + length (parts_octets size parts) ≡ parts_end size parts
length-parts size [] = omega (arith, length-padding (padded size - size))
length-parts size (part ∷ parts) =
    omega (arith, length-append (part_octets size part) (parts_octets (behind_part size part) parts), length-part size part, length-parts (behind_part size part) parts)

-- a header is whole units of 8 octets
pub parts_end-units : (size : ℕ) (parts : List Part) → parts_end size parts / 8 * 8 ≡ parts_end size parts
parts_end-units size [] = omega arith
parts_end-units size (part ∷ parts) = parts_end-units (behind_part size part) parts

pub length-header : (next : ℕ) (parts : List Part) → length (header_of next parts) ≡ parts_end 2 parts
length-header next parts = omega (arith, length-parts 2 parts)

pub said-header : (next : ℕ) (parts : List Part) → (parts_end 2 parts / 8 - 1 + 1) * 8 ≡ length (header_of next parts)
said-header next parts = omega (arith, length-parts 2 parts, parts_end-units 2 parts)

-- ---- the options of such a header

options_at : (laid : List ℕ) (os : List Item) (size : ℕ) (parts : List Part) → size ≡ length laid → 2 ≤ size → AreParts parts → AreOptions laid os
    → AreOptions (laid ++ parts_octets size parts) (os ++ items_of size parts)
options_at laid os size [] long behind kinds are =
    let P : ℕ → List Item → Type 0 = λ n xs. AreOptions (laid ++ padding n) xs in
    let Q : List Item → Type 0 = λ xs. P (padded size - size) xs in
    subst Q (sym (append-nil os)) (AreOptions-padding laid (padded size - size) os (omega arith) are)
options_at laid os size (part ∷ parts) long behind kinds are =
    let R : ℕ → Type 0 = λ n. AreOptions (laid ++ part_octets n part) (os ++ record { kind = part.kind; at = place_of n part; body = part.body } ∷ []) in
    let one = subst R (sym long) (AreOptions-with laid part.body part.kind os (omega arith) kinds.0 are) in
    let item : Item = record { kind = part.kind; at = place_of size part; body = part.body } in
    let all = options_at (laid ++ part_octets size part) (os ++ item ∷ []) (behind_part size part) parts
    (omega (arith, length-append laid (part_octets size part), length-part size part)) (omega arith) kinds.1 one in
    let P : List ℕ → Type 0 = λ xs. AreOptions xs ((os ++ item ∷ []) ++ items_of (behind_part size part) parts) in
    let Q : List Item → Type 0 = λ xs. AreOptions (laid ++ (part_octets size part ++ parts_octets (behind_part size part) parts)) xs in
    subst Q (append_assoc os (item ∷ []) (items_of (behind_part size part) parts))
    (subst P (append_assoc laid (part_octets size part) (parts_octets (behind_part size part) parts)) all)

pub AreOptions-header : (next : ℕ) (parts : List Part) → AreParts parts → AreOptions (header_of next parts) (items_of 2 parts)
AreOptions-header next parts kinds =
    options_at (next ∷ (parts_end 2 parts / 8 - 1) ∷ []) [] 2 parts refl (omega arith) kinds (record { items = []; fill = refl; options = refl })

pub options_in-header : (next : ℕ) (parts : List Part) → AreParts parts → options_in (header_of next parts) ≡ items_of 2 parts
options_in-header next parts kinds = all_from (header_of next parts) (items_of 2 parts) (AreOptions-header next parts kinds)

-- ---- changed in place is laid out anew

module _ (step : ℕ → List ℕ → List ℕ) (keeps : (kind : ℕ) (body : List ℕ) → length (step kind body) ≡ length body) where
  behind_stepped : (size : ℕ) (part : Part) → behind_part size (stepped step part) ≡ behind_part size part
  behind_stepped size part = ap (λ n. place_of size part + 2 + n) (keeps part.kind part.body)

  pub parts_end-stepped : (size : ℕ) (parts : List Part) → parts_end size (map (stepped step) parts) ≡ parts_end size parts
  parts_end-stepped size [] = refl
  parts_end-stepped size (part ∷ parts) =
      ap (λ n. parts_end n (map (stepped step) parts)) (behind_stepped size part) ∙ parts_end-stepped (behind_part size part) parts

  steps_at : (front : List ℕ) (size : ℕ) (parts : List Part) → length front ≡ size
      → with_steps step (front ++ parts_octets size parts) (items_of size parts) ≡ front ++ parts_octets size (map (stepped step) parts)
  steps_at front size [] long = refl
  steps_at front size (part ∷ parts) long =
      let pad = padding (gap_before size part.kind) in
      let new : List ℕ = step part.kind part.body in
      let rest = parts_octets (behind_part size part) parts in
      let mark : List ℕ = part.kind ∷ length part.body ∷ [] in
      let before : List ℕ = front ++ (pad ++ mark) in
      let cut : (body : List ℕ) → front ++ ((pad ++ (part.kind ∷ length part.body ∷ body)) ++ rest) ≡ before ++ (body ++ rest) =
      λ body. ap (λ xs. front ++ xs) (append_assoc pad (part.kind ∷ length part.body ∷ body) rest ∙ sym (append_assoc pad mark (body ++ rest))) ∙ sym (append_assoc front (pad ++ mark) (body ++ rest)) in
      let place : length before ≡ place_of size part + 2 = omega (arith, length-append front (pad ++ mark), length-append pad mark, length-padding (gap_before size part.kind)) in
      let one : with_step step (front ++ parts_octets size (part ∷ parts)) (record { kind = part.kind; at = place_of size part; body = part.body }) ≡ (before ++ new) ++ rest =
      ap (λ xs. written xs (place_of size part + 2) new) (cut part.body)
      ∙ written-at before part.body new rest (place_of size part + 2) place (keeps part.kind part.body)
      ∙ sym (append_assoc before new rest) in
      let others = steps_at (before ++ new) (behind_part size part) parts (omega (arith, length-append before new, place, keeps part.kind part.body)) in
      let after : ℕ → List ℕ = λ n. parts_octets n (map (stepped step) parts) in
      let front_is : before ++ new ≡ front ++ part_octets size (stepped step part) =
      append_assoc front (pad ++ mark) new ∙ ap (λ xs. front ++ xs) (append_assoc pad mark new)
      ∙ ap (λ n. front ++ (pad ++ (part.kind ∷ n ∷ new))) (sym (keeps part.kind part.body)) in
      ap (λ xs. with_steps step xs (items_of (behind_part size part) parts)) one
      ∙ others
      ∙ ap (λ n. (before ++ new) ++ after n) (sym (behind_stepped size part))
      ∙ ap (λ xs. xs ++ after (behind_part size (stepped step part))) front_is
      ∙ append_assoc front (part_octets size (stepped step part)) (after (behind_part size (stepped step part)))

  pub header-stepped : (next : ℕ) (parts : List Part) → AreParts parts
      → with_steps step (header_of next parts) (options_in (header_of next parts)) ≡ header_of next (map (stepped step) parts)
  header-stepped next parts kinds =
      ap (λ os. with_steps step (header_of next parts) os) (options_in-header next parts kinds)
      ∙ steps_at (next ∷ (parts_end 2 parts / 8 - 1) ∷ []) 2 parts refl
      ∙ ap (λ n. next ∷ (n / 8 - 1) ∷ parts_octets 2 (map (stepped step) parts)) (sym (parts_end-stepped 2 parts))
