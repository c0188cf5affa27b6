-- Laws of the traces that are listed of a packet.
use Rattle.std.proofs.Common.{◌≡◌, ℕ, ◌+◌, ◌-◌, ◌*◌, ◌<◌, ◌≤◌, ◌≢◌, zero, suc, Bool, true, false, IsTrue, cond, List, [], ◌∷◌, ◌++◌, length, drop, filter, append_assoc, length-append, length-drop, arith, refl, sym, ap, ◌∙◌, subst}
use Rattle.std.specs.Bool.{MatchBool}
use Rattle.std.specs.List.{All, flat_map}
use Rattle.std.proofs.lemmas.List.Elements.{filter-append, All-head, All-rest, All-cons, All-nil}
use Rattle.std.proofs.lemmas.List.{length-take, append-nil}
use Rattle.std.proofs.lemmas.List.Concat.{flat_map-append}
use Rattle.std.proofs.lemmas.Bool.{eq-eqb, ne_eqb}
use Rattle.std.proofs.Math.Nat.{mul-le-mul_left}
use Rattle.ioam_base.specs.Octets.{IsOctets}
use Rattle.ioam_base.proofs.OctetsLaws.{u16_at-fits}
use Rattle.ioam_ip.specs.Chain.{IsSound, start, head_at, behind}
use Rattle.ioam_ip.specs.ChainOptions.{octets_of, is_options_head, is_nested, OptionsOf, HeadFits}
use Rattle.ioam_ip.specs.HeadsLeft.{heads_from, goes_on, AreHeads}
use Rattle.ioam_ip.specs.Options.{Item, AreOptions, IsFilled}
use Rattle.ioam_ip.specs.OptionsLeft.{options_from}
use Rattle.ioam_ip.specs.Packet.{IsPacket}
use Rattle.ioam_ip.specs.declared.chain.Head.{Head}
use Rattle.ioam_ip.specs.declared.chain.HeadSpot.{HeadSpot}
use Rattle.ioam_ip.proofs.ChainLaws.{Chain-unique}
use Rattle.ioam_ip.proofs.ChainOptionsLaws.{OptionsOf-unique}
use Rattle.ioam_ip.proofs.FitLaws.{heads_fit}
use Rattle.ioam_ip.proofs.HeadsLeftLaws.{all_from as all_heads}
use Rattle.ioam_ip.proofs.OptionsLeftLaws.{all_from as all_options}
use Rattle.ioam_report_lines.proofs.ListedLaws.{few_traces}
use Rattle.ioam_report_lines.specs.TracesText.{is_trace, in_front, AreTraces, option_lines, traces_lines, TracesText, traces_in, traces_from, traces_of, traces_text}

-- a packet has one list of headers
pub the_heads : (p : List ℕ) (hs : List Head) → IsSound p → AreHeads p hs → hs ≡ heads_from (length p) p (start p)
the_heads p hs sound are =
    let all = all_heads p sound in
    (Chain-unique p hs are.upper are.at (heads_from (length p) p (start p)) all.upper all.at are.chain all.chain).0

-- ---- the function gives the traces of the relation

-- the options of one header
abbrev pub options_in : List ℕ → Head → List Item
options_in p head = cond (is_options_head head) (options_from (length (octets_of p head)) (octets_of p head) 2) []

filter-either : (b : Bool) (xs : List Item) → filter is_trace (cond b xs []) ≡ cond b (filter is_trace xs) []
filter-either true xs = refl
filter-either false xs = refl

pub options_either : (b : Bool) (octets : List ℕ) → (IsTrue b → IsFilled octets)
    → MatchBool b (AreOptions octets (cond b (options_from (length octets) octets 2) [])) (cond b (options_from (length octets) octets 2) [] ≡ [])
options_either true octets filled =
    let here = filled refl in
    let P : List Item → Type 0 = λ os. AreOptions octets os in
    subst P (sym (all_options octets here.0 here.1)) here.1
options_either false octets filled = refl

-- the options of headers that fit are those that an iterator over each gives
options_joined : (p : List ℕ) (hs : List Head) → All (HeadFits p) hs → OptionsOf p hs (flat_map (options_in p) hs)
options_joined p [] fit = refl
options_joined p (head ∷ hs) fit =
    let P : Head → Type 0 = λ head. HeadFits p head in
    let here : HeadFits p head = All-head P head hs fit in (
      options_in p head,
      flat_map (options_in p) hs,
      options_either (is_options_head head) (octets_of p head) here.filled,
      options_joined p hs (All-rest P head hs (head ∷ hs) refl fit),
      refl,
    )

front_either : (P : Head → Type 0) (b : Bool) (head : Head) (hs : List Head) → P head → All P hs → All P (cond b [] (head ∷ hs))
front_either P true head hs here rest = All-nil P
front_either P false head hs here rest = All-cons P head hs here rest

-- what holds of headers holds of those in front
in_front_all : (P : Head → Type 0) (hs : List Head) → All P hs → All P (in_front hs)
in_front_all P [] all = all
in_front_all P (head ∷ hs) all =
    front_either P (is_nested head) head (in_front hs) (All-head P head hs all) (in_front_all P hs (All-rest P head hs (head ∷ hs) refl all))

joined_either : (p : List ℕ) (b : Bool) (head : Head) (hs : List Head) (more : List Item)
    → filter is_trace (flat_map (options_in p) hs) ≡ more
    → filter is_trace (flat_map (options_in p) (cond b [] (head ∷ hs))) ≡ cond b [] (traces_in p head ++ more)
joined_either p true head hs more is = refl
joined_either p false head hs more is =
    filter-append is_trace (options_in p head) (flat_map (options_in p) hs)
    ∙ ap (λ xs. xs ++ filter is_trace (flat_map (options_in p) hs))
    (filter-either (is_options_head head) (options_from (length (octets_of p head)) (octets_of p head) 2))
    ∙ ap (λ xs. traces_in p head ++ xs) is

traces_joined : (p : List ℕ) (hs : List Head) → filter is_trace (flat_map (options_in p) (in_front hs)) ≡ traces_from p hs
traces_joined p [] = refl
traces_joined p (head ∷ hs) = joined_either p (is_nested head) head (in_front hs) (traces_from p hs) (traces_joined p hs)

-- the traces that are listed of a packet are those of its chain and its options
pub AreTraces-traces_of : (p : List ℕ) → IsSound p → AreTraces p (traces_of p)
unfolding traces_of
AreTraces-traces_of p sound =
    let hs = heads_from (length p) p (start p) in
    let are = all_heads p sound in
    record {
      heads = hs;
      upper = are.upper;
      at = are.at;
      options = flat_map (options_in p) (in_front hs);
      chain = are.chain;
      are_options = options_joined p (in_front hs) (in_front_all (λ head. HeadFits p head) hs (heads_fit p hs are));
      traces_are = sym (traces_joined p hs);
    }

pub TracesText-traces_text : (p : List ℕ) → IsSound p → TracesText p (traces_text p)
unfolding traces_text
TracesText-traces_text p sound = record { traces = traces_of p; are_traces = AreTraces-traces_of p sound; text_is = refl }

-- a packet has one list of traces
pub AreTraces-unique : (p : List ℕ) (xs ys : List Item) → AreTraces p xs → AreTraces p ys → xs ≡ ys
AreTraces-unique p xs ys a b =
    let same : a.heads ≡ b.heads = (Chain-unique p a.heads a.upper a.at b.heads b.upper b.at a.chain b.chain).0 in
    let P : List Head → Type 0 = λ hs. OptionsOf p (in_front hs) a.options in
    let one : a.options ≡ b.options = OptionsOf-unique p (in_front b.heads) a.options b.options (subst P same a.are_options) b.are_options in
    a.traces_are ∙ ap (λ os. filter is_trace os) one ∙ sym b.traces_are

-- and one text
pub TracesText-unique : (p a b : List ℕ) → TracesText p a → TracesText p b → a ≡ b
TracesText-unique p a b one other =
    one.text_is ∙ ap traces_lines (AreTraces-unique p one.traces other.traces one.are_traces other.are_traces) ∙ sym other.text_is

-- ---- steps along the headers

on_either : (b : Bool) (xs : List Item) → b ≡ false → cond b [] xs ≡ xs
on_either true xs is = absurd (cc is)
on_either false xs is = refl

end_either : (b : Bool) (xs : List Item) → b ≡ true → cond b [] xs ≡ []
end_either true xs is = refl
end_either false xs is = absurd (cc is)

-- the traces of a header, and of those behind it
pub traces_from-next : (p : List ℕ) (hs rest : List Head) (head : Head) → hs ≡ head ∷ rest → head.value ≢ 41
    → traces_from p hs ≡ traces_in p head ++ traces_from p rest
traces_from-next p hs rest head is other =
    ap (λ hs. traces_from p hs) is ∙ on_either (is_nested head) (traces_in p head ++ traces_from p rest) (ne_eqb head.value 41 other)

-- none from a nested header on
pub traces_from-nested : (p : List ℕ) (hs rest : List Head) (head : Head) → hs ≡ head ∷ rest → head.value ≡ 41 → traces_from p hs ≡ []
traces_from-nested p hs rest head is nested =
    ap (λ hs. traces_from p hs) is ∙ end_either (is_nested head) (traces_in p head ++ traces_from p rest) (eq-eqb head.value 41 nested)

-- ---- how many there are

heads_either : (b : Bool) (head : Head) (hs : List Head) (steps : ℕ) → length hs ≤ steps → length (cond b (head ∷ hs) []) ≤ suc steps
heads_either true head hs steps few = omega arith
heads_either false head hs steps few = omega arith

pub few_heads : (steps : ℕ) (p : List ℕ) (spot : HeadSpot) → length (heads_from steps p spot) ≤ steps
few_heads zero p spot = omega arith
few_heads (suc steps) p spot =
    heads_either (goes_on p spot) (head_at p spot) (heads_from steps p (behind p spot)) steps (few_heads steps p (behind p spot))

pub few_octets : (p : List ℕ) (head : Head) → length (octets_of p head) ≤ length p
few_octets p head =
    omega (arith, length-take (head.range.end - head.range.start) (drop head.range.start p), length-drop head.range.start p)

options_few : (b : Bool) (octets : List ℕ) → length (cond b (filter is_trace (options_from (length octets) octets 2)) []) ≤ length octets
options_few true octets = few_traces octets 2
options_few false octets = omega arith

few_in : (p : List ℕ) (head : Head) → length (traces_in p head) ≤ length p
few_in p head = omega (arith, options_few (is_options_head head) (octets_of p head), few_octets p head)

more_either : (b : Bool) (xs ys : List Item) (most more : ℕ) → length xs ≤ most → length ys ≤ more → length (cond b [] (xs ++ ys)) ≤ more + most
more_either true xs ys most more few less = omega arith
more_either false xs ys most more few less = omega (arith, length-append xs ys)

few_along : (p : List ℕ) (hs : List Head) → length (traces_from p hs) ≤ length hs * length p
few_along p [] = omega arith
few_along p (head ∷ hs) =
    let rest = more_either (is_nested head) (traces_in p head) (traces_from p hs) (length p) (length hs * length p) (few_in p head) (few_along p hs) in
    omega arith

pub squared : (n m : ℕ) → m ≤ n → n ≤ 65575 → m * n < 18446744073709551616
squared n m less few = omega (arith, mul-le-mul_left n few, mul-le-mul_left n less)

-- there are few enough to be counted
pub few_traces_of : (p : List ℕ) → IsPacket p → IsOctets p → length (traces_of p) < 18446744073709551616
unfolding traces_of
few_traces_of p packet octets =
    let hs = heads_from (length p) p (start p) in
    omega (arith, few_along p hs, squared (length p) (length hs) (few_heads (length p) p (start p)) (omega (arith, packet.whole, u16_at-fits p 4 octets)))

-- ---- the loops over the headers

module _ (p : List ℕ) (sound : IsSound p) (first : List Head) (are : AreHeads p first) where
  first_traces : traces_from p first ≡ traces_of p
  unfolding traces_of
  first_traces = ap (λ hs. traces_from p hs) (the_heads p first sound are)

  -- all traces were counted, or told
  pub counted_traces : (count : ℕ) (left : List Head) → count + length (traces_from p left) ≡ length (traces_from p first)
      → traces_from p left ≡ [] → count ≡ length (traces_of p)
  counted_traces count left so_far none =
      let here : length (traces_from p left) ≡ 0 = ap (λ (xs : List Item). length xs) none in
      let all : length (traces_from p first) ≡ length (traces_of p) = ap (λ (xs : List Item). length xs) first_traces in
      omega arith

  pub told_traces : (out old : List ℕ) (left : List Head)
      → out ++ flat_map option_lines (traces_from p left) ≡ old ++ flat_map option_lines (traces_from p first)
      → traces_from p left ≡ [] → out ≡ old ++ flat_map option_lines (traces_of p)
  told_traces out old left so_far none =
      sym (append-nil out)
      ∙ ap (λ xs. out ++ flat_map option_lines xs) (sym none)
      ∙ so_far
      ∙ ap (λ xs. old ++ flat_map option_lines xs) first_traces

  -- those of one header more were counted
  pub counting_traces : (count more : ℕ) (left next : List Head) (head : Head) → count + length (traces_from p left) ≡ length (traces_from p first)
      → left ≡ head ∷ next → head.value ≢ 41 → more ≡ length (traces_in p head)
      → count + more + length (traces_from p next) ≡ length (traces_from p first)
  counting_traces count more left next head so_far is other amount =
      let here : length (traces_from p left) ≡ length (traces_in p head ++ traces_from p next) = ap (λ (xs : List Item). length xs) (traces_from-next p left next head is other) in
      omega (arith, length-append (traces_in p head) (traces_from p next))

  pub counting_fits : (count more : ℕ) (next : List Head) → IsPacket p → IsOctets p
      → count + more + length (traces_from p next) ≡ length (traces_from p first) → count + more < 18446744073709551616
  counting_fits count more next packet octets step =
      let all : length (traces_from p first) ≡ length (traces_of p) = ap (λ (xs : List Item). length xs) first_traces in
      omega (arith, few_traces_of p packet octets)

-- those of one header more were told
pub telling_traces : (p out new old : List ℕ) (left next : List Head) (head : Head)
    → out ++ flat_map option_lines (traces_from p left) ≡ old → left ≡ head ∷ next → head.value ≢ 41
    → new ≡ out ++ flat_map option_lines (traces_in p head) → new ++ flat_map option_lines (traces_from p next) ≡ old
telling_traces p out new old left next head so_far is other is_new =
    ap (λ xs. xs ++ flat_map option_lines (traces_from p next)) is_new
    ∙ append_assoc out (flat_map option_lines (traces_in p head)) (flat_map option_lines (traces_from p next))
    ∙ ap (λ xs. out ++ xs) (sym (flat_map-append option_lines (traces_in p head) (traces_from p next)))
    ∙ ap (λ xs. out ++ flat_map option_lines xs) (sym (traces_from-next p left next head is other))
    ∙ so_far
