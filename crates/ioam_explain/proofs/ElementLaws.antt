-- The element that was added, and its filler.
use Rattle.std.proofs.Common.{◌≡◌, ℕ, ◌+◌, ◌-◌, ◌*◌, ◌/◌, ◌%◌, ◌<◌, ◌≤◌, Bool, true, false, cond, eqb, List, [], ◌∷◌, length, take, slice_index, length-take, arith, refl, ap, ◌∙◌, replicate, None}
use Rattle.std.proofs.lemmas.List.{take-replicate}
use Rattle.std.proofs.lemmas.Bool.{eq-eqb, ne_eqb}
use Rattle.ioam_data.specs.Elements.{IsElement, size_at}
use Rattle.ioam_data.specs.Fields.{fields_of, held}
use Rattle.ioam_data.specs.Kind.{has, words}
use Rattle.ioam_data.specs.Table.{rest_by, table}
use Rattle.ioam_data.specs.declared.held.Fields.{Fields}
use Rattle.ioam_explain.specs.Fields.{HasRoom, element_rules, field_rules, snapshot_rule}
use Rattle.ioam_explain.specs.Rows.{first_broken, number}
use Rattle.ioam_explain.specs.declared.reason.Rule.{Rule}
use Rattle.ioam_explain.specs.declared.reason.Rule.TheVariants as rule
use Rattle.ioam_explain.proofs.HoldLaws.{number-holds}

counted : (b : Bool) (r : Rule) (trace at found wanted : ℕ) → cond b (number r trace at found wanted) None ≡ None → b ≡ true → found ≡ wanted
counted true r trace at found wanted is there = number-holds r trace at found wanted is
counted false r trace at found wanted is there = absurd (cc there)

size : (b : Bool) (n octets count : ℕ) → octets % 4 ≡ 0 → 4 * (n + cond b 1 0) ≤ octets → (b ≡ false → octets ≡ 4 * n)
    → (b ≡ true → count ≡ octets / 4 - n - 1) → 4 * n + cond b (4 + 4 * count) 0 ≡ octets
size true n octets count words least plain counts = omega (arith, words, least, counts refl)
size false n octets count words least plain counts = omega (arith, plain refl)

pub is_element : (trace at kind node_len : ℕ) (element : List ℕ) → words kind ≤ node_len → HasRoom kind node_len (length element)
    → 0 < length element → snapshot_rule trace at kind node_len element ≡ None → IsElement kind node_len element
is_element trace at kind node_len element room has_room some is =
    let place : 0 + 4 * node_len ≡ 4 * node_len = omega arith in
    let whole : size_at kind node_len element 0 ≡ length element =
    ap (λ n. 4 * node_len + cond (has kind 22) (4 + 4 * slice_index element n) 0) place
    ∙ size (has kind 22) node_len (length element) (slice_index element (4 * node_len)) has_room.0 has_room.1 has_room.2
    (counted (has kind 22) rule.SnapshotLength trace (at + 4 * node_len) (slice_index element (4 * node_len)) (length element / 4 - node_len - 1) is) in
    record {
      stands = record { room = room; filled = omega (arith, whole, some); inside = omega (arith, whole) };
      whole = whole;
    }

fill-long : (kind node_len : ℕ) (octets : List ℕ) → node_len < 32 → length (fields_of kind node_len octets).filler ≤ 124
unfolding fields_of
fill-long kind node_len octets below = omega (arith, below, length-take (4 * (node_len - words kind)) (rest_by table kind octets))

pub fill_long : (kind node_len : ℕ) (octets : List ℕ) (fields : Fields) → node_len < 32 → held fields ≡ fields_of kind node_len octets
    → length fields.fill.now ≤ 124
fill_long kind node_len octets fields below is =
    let same : length fields.fill.now ≡ length (fields_of kind node_len octets).filler = ap (λ h. length h.filler) is in
    omega (arith, same, fill-long kind node_len octets below)

pub all_ones : (n : ℕ) → n ≤ 124 → ◌≡◌ {A = List ℕ} (take n (replicate 124 255)) (replicate n 255)
all_ones n most = take-replicate n 124 255 most

pub no_words : (hops id inward trace at kind node_len : ℕ) (element : List ℕ) → length element ≡ 0
    → first_broken (element_rules hops id inward trace at kind node_len element) ≡ None
unfolding element_rules first_broken
no_words hops id inward trace at kind node_len element none = empty (eqb (length element) 0) (eq-eqb (length element) 0 none)
  where
    empty : (b : Bool) → b ≡ true → first_broken (cond b [] (snapshot_rule trace at kind node_len element ∷ field_rules hops id inward trace at kind (fields_of kind node_len element))) ≡ None
    empty true is = refl
    empty false is = absurd (cc is)

pub some_words : (hops id inward trace at kind node_len : ℕ) (element : List ℕ) → (length element ≡ 0 → ⊥)
    → element_rules hops id inward trace at kind node_len element ≡ snapshot_rule trace at kind node_len element ∷ field_rules hops id inward trace at kind (fields_of kind node_len element)
unfolding element_rules
some_words hops id inward trace at kind node_len element some = filled (eqb (length element) 0) (ne_eqb (length element) 0 some)
  where
    filled : (b : Bool) → b ≡ false → cond b [] (snapshot_rule trace at kind node_len element ∷ field_rules hops id inward trace at kind (fields_of kind node_len element)) ≡ snapshot_rule trace at kind node_len element ∷ field_rules hops id inward trace at kind (fields_of kind node_len element)
    filled true is = absurd (cc is)
    filled false is = refl
