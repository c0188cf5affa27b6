use Rattle.std.proofs.Common.{◌≡◌, ◌-◌, ℕ, List, take, drop, sym, ap, ◌∙◌, subst, arith}
use Rattle.std.specs.Prelude.{MatchOption}
use Rattle.std.proofs.lemmas.List.{drop-drop}
use Rattle.ioam_ipfix.specs.Data.{HasRoom, data_with, element_at, front_of, prefix_at, size_at}
use Rattle.ioam_ipfix.specs.Steps.{IsElementPlace}
use Rattle.ioam_ipfix.proofs.data.read_data.Goals as goal

-- the element's octets by its place
element-is : (id : ℕ) (octets : List ℕ) (from to : ℕ) → IsElementPlace id octets from to → take (to - from) (drop from octets) ≡ element_at (drop (front_of id) octets)
element-is id octets from to place =
    let rest = drop (front_of id) octets in
    let size : to - from ≡ size_at rest = omega (arith, place.1, place.2) in
    ap (λ n. take n (drop from octets)) size
    ∙ ap (λ n. take (size_at rest) (drop n octets)) place.1
    ∙ ap (take (size_at rest)) (sym (drop-drop (prefix_at rest) (front_of id) octets))

pub returns : goal.returns
returns c =
    let id = c.args.id in
    let octets = c.args.octets.now in
    let place = subst (λ o. MatchOption o (HasRoom id octets → ⊥) (λ found. IsElementPlace id octets found.0 found.1)) c.unwrap-from.ensures c.element_place.ensures in
    c.with_element.ensures ∙ ap (data_with id octets) (element-is id octets c.unwrap-from.result.0 c.unwrap-from.result.1 place)
