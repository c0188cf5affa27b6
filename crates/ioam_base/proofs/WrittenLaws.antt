-- Laws of octets that are written over as many octets at a place.
use Rattle.std.proofs.Common.{◌≡◌, ℕ, ◌+◌, ◌-◌, ◌<◌, ◌≤◌, List, [], ◌++◌, length, take, drop, slice_index, ap, sym, ◌∙◌, arith, append_assoc, length-append, length-take, length-drop, get_or-take, refl}
use Rattle.std.proofs.lemmas.List.{append-nil, drop-drop, drop_all, drop_at, take_all, take_at, get_or_append_left}
use Rattle.std.proofs.Math.Seq.{drop-append-add}
use borrow.Rule.Slice.PartMut.{put_mid}
use Rattle.ioam_base.specs.Octets.{written}

pub length-written : (octets part : List ℕ) (at : ℕ) → at + length part ≤ length octets → length (written octets at part) ≡ length octets
length-written octets part at fits =
    omega (arith, length-append (take at octets) (part ++ drop (at + length part) octets), length-append part (drop (at + length part) octets), length-take at octets, length-drop (at + length part) octets)

-- what is written stands there
pub written-part : (octets part : List ℕ) (at : ℕ) → at ≤ length octets → take (length part) (drop at (written octets at part)) ≡ part
written-part octets part at within =
    let front : length (take at octets) ≡ at = omega (arith, length-take at octets) in
    ap (λ ys. take (length part) ys) (drop_at (take at octets) (part ++ drop (at + length part) octets) at front)
    ∙ take_at part (drop (at + length part) octets) (length part) refl

-- what stands in front of it stays
pub written-front : (octets part : List ℕ) (at i : ℕ) → i < at → at ≤ length octets → slice_index (written octets at part) i ≡ slice_index octets i
written-front octets part at i below within =
    let long : i < length (take at octets) = omega (arith, length-take at octets) in
    get_or_append_left (take at octets) (part ++ drop (at + length part) octets) 0 i long ∙ get_or-take at octets i 0 below

-- and what stands behind it
pub written-behind : (octets part : List ℕ) (at to : ℕ) → at + length part ≤ to → at ≤ length octets → drop to (written octets at part) ≡ drop to octets
written-behind octets part at to behind within =
    let front : length (take at octets ++ part) ≡ at + length part = omega (arith, length-append (take at octets) part, length-take at octets) in
    let is : (at + length part) + (to - (at + length part)) ≡ to = omega arith in
    let rest = drop (at + length part) octets in
    ap (λ n. drop n (written octets at part)) (sym is)
    ∙ sym (drop-drop (to - (at + length part)) (at + length part) (written octets at part))
    ∙ ap (λ ys. drop (to - (at + length part)) ys)
    (ap (λ ys. drop (at + length part) ys) (sym (append_assoc (take at octets) part rest)) ∙ drop_at (take at octets ++ part) rest (at + length part) front)
    ∙ drop-drop (to - (at + length part)) (at + length part) octets
    ∙ ap (λ n. drop n octets) is

-- between a front and a rest
pub written-at : (front old part rest : List ℕ) (at : ℕ) → length front ≡ at → length part ≡ length old
    → written (front ++ (old ++ rest)) at part ≡ front ++ (part ++ rest)
written-at front old part rest at is_at same =
    let place : drop (at + length part) (front ++ (old ++ rest)) ≡ rest =
    ap (λ n. drop (n + length part) (front ++ (old ++ rest))) (sym is_at)
    ∙ drop-append-add front (old ++ rest) (length part) ∙ drop_at old rest (length part) (sym same) in
    ap (λ ys. ys ++ (part ++ drop (at + length part) (front ++ (old ++ rest)))) (take_at front (old ++ rest) at is_at)
    ∙ ap (λ ys. front ++ (part ++ ys)) place

-- through a slice that is lent
pub written-mid : (octets part : List ℕ) (from to : ℕ) → from ≤ to → length part ≡ to - from → put_mid from (to - from) octets part ≡ written octets from part
written-mid octets part from to ordered long =
    let end : from + (to - from) ≡ from + length part = omega arith in
    ap (λ rest. take from octets ++ (part ++ rest)) (drop-drop (to - from) from octets ∙ ap (λ n. drop n octets) end)

-- the octets up to the part's end
pub written-ahead : (octets part : List ℕ) (at : ℕ) → at ≤ length octets → take (at + length part) (written octets at part) ≡ take at octets ++ part
written-ahead octets part at within =
    let long : at + length part ≡ length (take at octets ++ part) = omega (arith, length-append (take at octets) part, length-take at octets) in
    ap (take (at + length part)) (sym (append_assoc (take at octets) part (drop (at + length part) octets)))
    ∙ take_at (take at octets ++ part) (drop (at + length part) octets) (at + length part) (sym long)

-- over the front of all octets from a place on, which are lent
pub written-from : (octets part : List ℕ) (at n : ℕ) (new : List ℕ) → length part ≡ n → at + n ≤ length octets
    → new ≡ part ++ drop n (take (length octets - at) (drop at octets)) → put_mid at (length octets - at) octets new ≡ written octets at part
written-from octets part at n new long fits is =
    let count : at + n ≡ at + length part = omega arith in
    let none : drop (length octets - at) (drop at octets) ≡ [] = drop_all (length octets - at) (drop at octets) (omega (arith, length-drop at octets)) in
    let whole : take (length octets - at) (drop at octets) ≡ drop at octets = take_all (length octets - at) (drop at octets) (omega (arith, length-drop at octets)) in
    let behind : drop n (take (length octets - at) (drop at octets)) ≡ drop (at + length part) octets = ap (drop n) whole ∙ drop-drop n at octets ∙ ap (λ m. drop m octets) count in
    ap (λ rest. take at octets ++ (new ++ rest)) none
    ∙ ap (λ ys. take at octets ++ ys) (append-nil new ∙ is ∙ ap (λ ys. part ++ ys) behind)

-- two parts that are written one behind the other are written as one
pub written-next : (octets first second : List ℕ) (at : ℕ) → at + length first ≤ length octets
    → written (written octets at first) (at + length first) second ≡ written octets at (first ++ second)
written-next octets first second at fits =
    let end : at + length first + length second ≡ at + length (first ++ second) = omega (arith, length-append first second) in
    let front = written-ahead octets first at (omega arith) in
    let behind = written-behind octets first at (at + length first + length second) (omega arith) (omega arith) ∙ ap (λ n. drop n octets) end in
    (λ i. front i ++ (second ++ behind i))
    ∙ append_assoc (take at octets) first (second ++ drop (at + length (first ++ second)) octets)
    ∙ ap (λ ys. take at octets ++ ys) (sym (append_assoc first second (drop (at + length (first ++ second)) octets)))
