-- The traces of a packet are few: they have no more elements than the packet has octets.
use Rattle.std.proofs.Common.{◌≡◌, ℕ, zero, suc, ◌+◌, ◌-◌, ◌*◌, ◌<◌, ◌≤◌, Bool, true, false, cond, List, [], ◌∷◌, ◌++◌, length, take, drop, filter, map, Option, Some, None, refl, ◌∙◌, ap, arith, length-take, length-drop}
use Rattle.std.specs.Prelude.{nat_le, slice_index, ◌==◌, ◌&&◌}
use Rattle.std.proofs.lemmas.Bool.{eqb-true, leb-true, ltb-true}
use Rattle.std.proofs.lemmas.List.{length-map}
use Rattle.std.proofs.lemmas.List.Elements.{filter_map-append}
use Rattle.std.proofs.lemmas.List.Sums.{sum_by-append}
use Rattle.ioam_delay_counts.specs.Counted.{weight}
use Rattle.ioam_delay_counts.specs.Courses.{Course}
use Rattle.ioam_delay_traces.specs.Shown.{limit_of, option_course, shown_of}
use Rattle.ioam_delay_traces.specs.Totals.{courses_of}
use Rattle.ioam_delay_traces.specs.Traces.{course_by, sights_of}
use Rattle.ioam_ip.specs.Chain.{behind, end_at, head_at, start}
use Rattle.ioam_ip.specs.ChainOptions.{is_nested, is_options_head, octets_of}
use Rattle.ioam_ip.specs.HeadsLeft.{goes_on, heads_from}
use Rattle.ioam_ip.specs.Options.{Item, is_option, item_at, option_end}
use Rattle.ioam_ip.specs.OptionsLeft.{options_from}
use Rattle.ioam_ip.specs.declared.chain.Head.{Head}
use Rattle.ioam_ip.specs.declared.chain.HeadSpot.{HeadSpot}
use Rattle.ioam_report_lines.specs.TracesText.{is_trace, traces_from, traces_in, traces_of}
use Rattle.ioam_report_lines.proofs.ElementsLaws.{few_elements}
use Rattle.ioam_trace.specs.Head.{kind_of, node_len_of, remaining_of}
use Rattle.ioam_trace.specs.Read.{elements_behind, fault_of, used_behind}
use Rattle.ioam_trace.specs.declared.fault.TraceFault.{TraceFault}

-- the octets of options, each with its type and its length
abbrev costs : List Item → ℕ
costs [] = 0
costs (item ∷ items) = 2 + length item.body + costs items

abbrev cost : Item → ℕ
cost item = 2 + length item.body

costs_cons : (item : Item) (items : List Item) → costs (item ∷ items) ≡ cost item + costs items
costs_cons item items = refl

costs_none : costs [] ≡ 0
costs_none = refl

costs_append : (xs ys : List Item) → costs (xs ++ ys) ≡ costs xs + costs ys
costs_append [] ys = omega arith
costs_append (x ∷ xs) ys = omega (arith, costs_append xs ys)

-- ---- an option's octets stand in its header

body_sized : (b : Bool) (size : ℕ) (octets : List ℕ) → (b ≡ true → ⊥) → 2 + length (cond b [] (take size octets)) ≤ cond b 1 (size + 2)
body_sized true size octets other = absurd (other refl)
body_sized false size octets other = omega (arith, length-take size octets)

option_cost : (head : List ℕ) (at : ℕ) → is_option (item_at head at) ≡ true → at + cost (item_at head at) ≤ option_end head at
option_cost head at is =
    let kind : 1 < slice_index head at = ltb-true 1 (slice_index head at) is in
    omega (
      arith,
      body_sized (slice_index head at == 0) (slice_index head (at + 1)) (drop (at + 2) head)
          (λ none. let zero_is : slice_index head at ≡ 0 = eqb-true (slice_index head at) 0 none in absurd (omega (arith, kind, zero_is))),
    )

one_more : (fits takes : Bool) (item : Item) (rest : List Item) (size at end : ℕ) → (fits ≡ true → end ≤ size) → (takes ≡ true → at + cost item ≤ end) → at ≤ end
    → costs rest ≤ size - end → costs (cond fits (cond takes (item ∷ rest) rest) []) ≤ size - at
one_more false takes item rest size at end within here order more = omega (arith, costs_none)
one_more true true item rest size at end within here order more = omega (arith, costs_cons item rest, within refl, here refl, more)
one_more true false item rest size at end within here order more = omega (arith, within refl, order, more)

size_some : (b : Bool) (size : ℕ) → 1 ≤ cond b 1 (size + 2)
size_some true size = omega arith
size_some false size = omega arith

options_cost : (steps : ℕ) (head : List ℕ) (at : ℕ) → costs (options_from steps head at) ≤ length head - at
options_cost zero head at = omega (arith, costs_none)
options_cost (suc steps) head at =
    let end = option_end head at in
    one_more (nat_le end (length head)) (is_option (item_at head at)) (item_at head at) (options_from steps head end) (length head) at end
    (λ fits. leb-true end (length head) fits) (λ is. option_cost head at is)
    (omega (arith, size_some (slice_index head at == 0) (slice_index head (at + 1)))) (options_cost steps head end)

-- and so do those that are traces

kept_either : (b : Bool) (item : Item) (kept rest : List Item) → costs kept ≤ costs rest → costs (cond b (item ∷ kept) kept) ≤ costs (item ∷ rest)
kept_either true item kept rest less = omega (arith, costs_cons item kept, costs_cons item rest, less)
kept_either false item kept rest less = omega (arith, costs_cons item rest, less)

kept_cost : (items : List Item) → costs (filter is_trace items) ≤ costs items
kept_cost [] = omega arith
kept_cost (item ∷ items) = kept_either (is_trace item) item (filter is_trace items) items (kept_cost items)

-- ---- the headers stand one behind the other in the packet

in_either : (b : Bool) (items : List Item) (most : ℕ) → costs items ≤ most → costs (cond b items []) ≤ most
in_either true items most few = few
in_either false items most few = omega (arith, costs_none)

head_cost : (p : List ℕ) (spot : HeadSpot) → spot.at + costs (traces_in p (head_at p spot)) ≤ end_at p spot
head_cost p spot =
    let octets = octets_of p (head_at p spot) in
    let size : length octets ≤ end_at p spot - spot.at = omega (arith, length-take (end_at p spot - spot.at) (drop spot.at p)) in
    let few : costs (filter is_trace (options_from (length octets) octets 2)) ≤ end_at p spot - spot.at =
    omega (arith, size, kept_cost (options_from (length octets) octets 2), options_cost (length octets) octets 2) in
    omega (arith, in_either (is_options_head (head_at p spot)) (filter is_trace (options_from (length octets) octets 2)) (end_at p spot - spot.at) few)

along : (nested : Bool) (here rest : List Item) (at end size : ℕ) → at + costs here ≤ end → end ≤ size → costs rest ≤ size - end → costs (cond nested [] (here ++ rest)) ≤ size - at
along true here rest at end size first within more = omega (arith, costs_none)
along false here rest at end size first within more = omega (arith, costs_append here rest, first, within, more)

and_first : (a b : Bool) → (a && b) ≡ true → a ≡ true
and_first true b is = refl
and_first false b is = is

heads_either : (goes : Bool) (p : List ℕ) (spot : HeadSpot) (rest : List Head) → (goes ≡ true → end_at p spot ≤ length p) → costs (traces_from p rest) ≤ length p - end_at p spot
    → costs (traces_from p (cond goes (head_at p spot ∷ rest) [])) ≤ length p - spot.at
heads_either false p spot rest within more = omega (arith, costs_none)
heads_either true p spot rest within more =
    along (is_nested (head_at p spot)) (traces_in p (head_at p spot)) (traces_from p rest) spot.at (end_at p spot) (length p) (head_cost p spot) (within refl) more

heads_cost : (steps : ℕ) (p : List ℕ) (spot : HeadSpot) → costs (traces_from p (heads_from steps p spot)) ≤ length p - spot.at
heads_cost zero p spot = omega (arith, costs_none)
heads_cost (suc steps) p spot = heads_either (goes_on p spot) p spot (heads_from steps p (behind p spot))
    (λ goes. leb-true (end_at p spot) (length p) (and_first _ _ goes)) (heads_cost steps p (behind p spot))

traces_cost : (p : List ℕ) → costs (traces_of p) ≤ length p
unfolding traces_of
traces_cost p = omega (arith, heads_cost (length p) p (start p))

-- ---- a trace has no more elements than its option has octets

sights_sized : (units kind node_len : ℕ) (elements : List (List ℕ)) → length (sights_of units kind node_len elements) ≡ length elements
sights_sized units kind node_len elements = length-map elements _

by_fault : (units limit : ℕ) (octets : List ℕ) (fault : Option TraceFault) → weight (courses_of (course_by units limit octets fault ∷ [])) ≤ 1 + length octets
by_fault units limit octets (Some fault) = omega arith
by_fault units limit octets None =
    let free = remaining_of octets in
    omega (arith, few_elements (kind_of octets) (node_len_of octets) (used_behind free octets), length-drop (8 + 4 * free) octets, sights_sized units (kind_of octets) (node_len_of octets) (elements_behind free octets))

trace_weight : (units limit : ℕ) (item : Item) → weight (courses_of (option_course units limit item ∷ [])) ≤ cost item
trace_weight units limit item =
    let octets = drop 2 item.body in
    omega (arith, by_fault units limit octets (fault_of (remaining_of octets) octets), length-drop 2 item.body)

pub weight_append : (xs ys : List (Option Course)) → weight (courses_of (xs ++ ys)) ≡ weight (courses_of xs) + weight (courses_of ys)
weight_append xs ys = ap weight (filter_map-append (λ (one : Option Course). one) xs ys) ∙ sum_by-append (λ (course : Course). length course.sights + 1) (courses_of xs) (courses_of ys)

traces_weight : (units limit : ℕ) (items : List Item) → weight (courses_of (map (option_course units limit) items)) ≤ costs items
traces_weight units limit [] = omega (arith, costs_none)
traces_weight units limit (item ∷ items) = omega (
  arith,
  weight_append (option_course units limit item ∷ []) (map (option_course units limit) items),
  trace_weight units limit item,
  traces_weight units limit items,
  costs_cons item items,
)

traces_many : (items : List Item) → length items ≤ costs items
traces_many [] = omega arith
traces_many (item ∷ items) = omega (arith, traces_many items, costs_cons item items)

-- so they have no more elements than the packet has octets, and neither are they more
pub shown_weight : (units : ℕ) (p : List ℕ) → weight (courses_of (shown_of units p)) ≤ length p
shown_weight units p = omega (arith, traces_weight units (limit_of p) (traces_of p), traces_cost p)

pub shown_many : (units : ℕ) (p : List ℕ) → length (shown_of units p) ≤ length p
shown_many units p = omega (arith, length-map (traces_of p) (option_course units (limit_of p)), traces_many (traces_of p), traces_cost p)
