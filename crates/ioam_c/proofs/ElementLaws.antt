-- Where the parts of an element lie among the octets of its trace, and an element among those of its record.
use Rattle.std.proofs.Common.{◌≡◌, ℕ, suc, ◌+◌, ◌*◌, ◌-◌, ◌≤◌, Bool, true, false, cond, List, [], ◌∷◌, ◌++◌, length, take, drop, get_or, arith, refl, sym, ap, ◌∙◌, subst, Some, None}
use Rattle.std.proofs.lemmas.List.{length-drop, length-take-le, drop-drop, take_all}
use Rattle.ioam_base.specs.Words.{two_octets, three_octets, four_octets_if}
use Rattle.ioam_data.specs.Elements.{IsElement}
use Rattle.ioam_data.specs.Fields.{fields_of, snapshot_at}
use Rattle.ioam_data.specs.Kind.{has, words}
use Rattle.ioam_data.specs.Table.{table, rest_by}
use Rattle.ioam_data.proofs.TableLaws.{drop-rest_by}
use Rattle.ioam_dex.specs.Record.{Record, Rec, record_octets, record_size}
use Rattle.ioam_dex.specs.Visit.{visit_octets}
use Rattle.ioam_c.specs.Element.{opaque_of, shown, Places}

-- ---- in a trace

-- what fills an element up to NodeLen
fill_is : (octets x rest : List ℕ) (offset before count node_len : ℕ) → drop offset octets ≡ x → rest ≡ drop before x → before + count ≡ 4 * node_len → 4 * node_len ≤ length x
    → take (length (take count rest)) (drop (offset + (4 * node_len - length (take count rest))) octets) ≡ take count rest
fill_is octets x rest offset before count node_len here is place long =
    let size : length (take count rest) ≡ count = length-take-le count rest (omega (arith, ap length is, length-drop before x)) in
    let start : offset + (4 * node_len - length (take count rest)) ≡ offset + before = omega (arith, size) in
    let there : drop (offset + before) octets ≡ rest = sym (drop-drop before offset octets) ∙ ap (drop before) here ∙ sym is in
    ap (λ n. take (length (take count rest)) (drop n octets)) start
    ∙ ap (take (length (take count rest))) there
    ∙ ap (λ n. take n rest) size

-- the opaque data, which ends it
opaque_is : (b : Bool) (octets x last : List ℕ) (offset node_len first : ℕ) → drop offset octets ≡ x → last ≡ drop (4 * node_len) x → 4 * node_len + cond b (4 + 4 * first) 0 ≡ length x
    → take (length (opaque_of (cond b (Some (snapshot_at last)) None))) (drop (offset + (length x - length (opaque_of (cond b (Some (snapshot_at last)) None)))) octets)
    ≡ opaque_of (cond b (Some (snapshot_at last)) None)
opaque_is true octets x last offset node_len first here is size =
    let long : length last ≡ length x - 4 * node_len = ap length is ∙ length-drop (4 * node_len) x in
    let start : offset + (length x - length (drop 4 last)) ≡ offset + (4 * node_len + 4) = omega (arith, length-drop 4 last, size) in
    let there : drop (offset + (4 * node_len + 4)) octets ≡ drop 4 last =
    sym (drop-drop (4 * node_len + 4) offset octets) ∙ ap (drop (4 * node_len + 4)) here ∙ sym (drop-drop 4 (4 * node_len) x) ∙ sym (ap (drop 4) is) in
    ap (λ n. take (length (drop 4 last)) (drop n octets)) start
    ∙ ap (take (length (drop 4 last))) there
    ∙ take_all (length (drop 4 last)) (drop 4 last) (omega arith)
opaque_is false octets x last offset node_len first here is size = refl

pub places : (kind node_len offset : ℕ) (octets x : List ℕ) → IsElement kind node_len x → drop offset octets ≡ x
    → Places octets (shown kind node_len offset x) (fields_of kind node_len x)
unfolding fields_of words
places kind node_len offset octets x element here =
    let count = 4 * (node_len - words kind) in
    let rest = rest_by table kind x in
    let after : rest ≡ drop (4 * words kind) x = sym (drop-rest_by table kind x) in
    let last = drop count rest in
    let room = element.stands.room in
    let first = get_or x (0 + 4 * node_len) 0 in
    let more : ℕ = cond (has kind 22) (4 + 4 * first) 0 in
    let size : 4 * node_len + more ≡ length x = element.whole in
    let place : 4 * words kind + count ≡ 4 * node_len = omega (arith, room) in
    let same : last ≡ drop (4 * node_len) x = ap (drop count) after ∙ drop-drop count (4 * words kind) x ∙ ap (λ n. drop n x) place in
    record {
      fill = fill_is octets x rest offset (4 * words kind) count node_len here after place (omega (arith, size));
      opaque = opaque_is (has kind 22) octets x last offset node_len first here same size;
    }

-- ---- in a record

-- octets end with these
record Ends (octets last : List ℕ) : Type 0 where
  fits : length last ≤ length octets
  is : drop (length octets - length last) octets ≡ last

ends_all : (last : List ℕ) → Ends last last
ends_all last =
    let none : length last - length last ≡ 0 = omega arith in
    record { fits = omega arith; is = ap (λ n. drop n last) none }

ends_more : (first : ℕ) (octets last : List ℕ) → Ends octets last → Ends (first ∷ octets) last
ends_more first octets last ends =
    let more : length (first ∷ octets) - length last ≡ suc (length octets - length last) = omega (arith, ends.fits) in
    record { fits = omega (arith, ends.fits); is = ap (λ n. drop n (first ∷ octets)) more ∙ ends.is }

ends_after : (front octets last : List ℕ) → Ends octets last → Ends (front ++ octets) last
ends_after [] octets last ends = ends
ends_after (first ∷ front) octets last ends = ends_more first (front ++ octets) last (ends_after front octets last ends)

ends_record : (x : Record) → Ends (record_octets x) x.element
ends_record x =
    ends_more _ _ _ (ends_more _ _ _ (ends_after (two_octets (record_size x)) _ _ (ends_after (two_octets x.namespace) _ _ (ends_more _ _ _
    (ends_after (three_octets x.kind) _ _ (ends_after (visit_octets x.visit) _ _ (ends_after (four_octets_if x.flow) _ _
    (ends_after (four_octets_if x.seq) _ _ (ends_all x.element)))))))))

pub element_ends : (octets : List ℕ) (x : Record) → Rec octets x → drop (length octets - length x.element) octets ≡ x.element
element_ends octets x is =
    let P : List ℕ → Type 0 = λ xs. drop (length xs - length x.element) xs ≡ x.element in
    subst P (sym is.is) (ends_record x).is
