-- Laws of the IOAM options of a packet.
use Rattle.std.proofs.Common.{◌≡◌, ℕ, zero, suc, ◌+◌, ◌*◌, ◌<◌, ◌≤◌, Bool, true, false, cond, leb, List, [], ◌∷◌, ◌++◌, length, take, drop, filter, length-append, ◌==◌, refl, sym, ap, ◌∙◌, subst, arith}
use Rattle.std.specs.Bool.{MatchBool, if◌then◌else◌}
use Rattle.std.specs.Prelude.{slice_index}
use Rattle.std.specs.List.{All}
use Rattle.std.proofs.lemmas.Bool.{leb-true}
use Rattle.std.proofs.lemmas.List.{length-map}
use Rattle.std.proofs.lemmas.List.Elements.{All-head, All-rest, All-cons, All-nil}
use Rattle.ioam_base.specs.Octets.{IsOctets}
use Rattle.ioam_base.proofs.OctetsLaws.{u16_at-fits}
use Rattle.ioam_ip.specs.Chain.{IsSound, start}
use Rattle.ioam_ip.specs.ChainOptions.{octets_of, is_options_head, HeadFits}
use Rattle.ioam_ip.specs.Findings.{is_ioam}
use Rattle.ioam_ip.specs.HeadsLeft.{heads_from, AreHeads}
use Rattle.ioam_ip.specs.Options.{Item, AreOptions, option_end, item_at, is_option}
use Rattle.ioam_ip.specs.OptionsLeft.{options_from}
use Rattle.ioam_ip.specs.Packet.{IsPacket}
use Rattle.ioam_ip.specs.declared.chain.Head.{Head}
use Rattle.ioam_ip.proofs.ChainLaws.{Chain-unique}
use Rattle.ioam_ip.proofs.FitLaws.{heads_fit}
use Rattle.ioam_ip.proofs.HeadsLeftLaws.{all_from as all_heads}
use Rattle.ioam_ip.proofs.OptionsLaws.{option_size-pos}
use Rattle.ioam_ip.proofs.OptionsLeftLaws.{all_from as all_options}
use Rattle.ioam_report_lines.proofs.FittingLaws.{take-few}
use Rattle.ioam_report_lines.proofs.ListedLaws.{few_filtered, few_options}
use Rattle.ioam_report_lines.proofs.TracesLaws.{options_in, options_either, the_heads, few_heads, few_octets, squared}
use Rattle.ioam_report_options.specs.OptionsText.{placed, ioam_among, IoamOf, AreIoam, ioam_in, ioam_from, ioam_of}

-- ---- the options are those that the chain gives

among_options : (b : Bool) (octets : List ℕ) (start : ℕ) (options : List Item) → MatchBool b (AreOptions octets options) (options ≡ [])
    → ioam_among start options ≡ cond b (ioam_among start (options_from (length octets) octets 2)) []
among_options true octets start options are = ap (ioam_among start) (sym (all_options octets options are))
among_options false octets start options none = ap (ioam_among start) none

-- the IOAM options of headers are those that iterators over them give
IoamOf-is : (p : List ℕ) (heads : List Head) (options : List Item) → IoamOf p heads options → options ≡ ioam_from p heads
IoamOf-is p [] options are = are
IoamOf-is p (head ∷ heads) options are =
    are.4
    ∙ ap (λ (xs : List Item). xs ++ are.1) (among_options (is_options_head head) (octets_of p head) head.range.start are.0 are.2)
    ∙ ap (λ (xs : List Item). ioam_in p head ++ xs) (IoamOf-is p heads are.1 are.3)

among_either : (b : Bool) (start : ℕ) (options : List Item) → cond b (ioam_among start options) [] ≡ ioam_among start (cond b options [])
among_either true start options = refl
among_either false start options = refl

IoamOf-from : (p : List ℕ) (heads : List Head) → All (HeadFits p) heads → IoamOf p heads (ioam_from p heads)
IoamOf-from p [] fit = refl
IoamOf-from p (head ∷ heads) fit =
    let P : Head → Type 0 = λ head. HeadFits p head in
    let here : HeadFits p head = All-head P head heads fit in (
      options_in p head,
      ioam_from p heads,
      options_either (is_options_head head) (octets_of p head) here.filled,
      IoamOf-from p heads (All-rest P head heads (head ∷ heads) refl fit),
      ap (λ (xs : List Item). xs ++ ioam_from p heads)
          (among_either (is_options_head head) head.range.start (options_from (length (octets_of p head)) (octets_of p head) 2)),
    )

-- the function gives the IOAM options of a packet
pub AreIoam-ioam_of : (p : List ℕ) → IsSound p → AreIoam p (ioam_of p)
unfolding ioam_of
AreIoam-ioam_of p sound =
    let heads = heads_from (length p) p (start p) in
    let are = all_heads p sound in
    record {
      heads = heads;
      upper = are.upper;
      at = are.at;
      chain = are.chain;
      are = IoamOf-from p heads (heads_fit p heads are);
    }

-- a packet has one list of IOAM options
pub AreIoam-unique : (p : List ℕ) (xs ys : List Item) → AreIoam p xs → AreIoam p ys → xs ≡ ys
AreIoam-unique p xs ys a b =
    let same : a.heads ≡ b.heads = (Chain-unique p a.heads a.upper a.at b.heads b.upper b.at a.chain b.chain).0 in
    IoamOf-is p a.heads xs a.are ∙ ap (λ (heads : List Head). ioam_from p heads) same ∙ sym (IoamOf-is p b.heads ys b.are)

-- ---- their places

-- an option begins within a header of this length
abbrev pub IsInside : ℕ → Item → Type 0
IsInside size option = (option.at < size) × (length option.body ≤ 255)

inside_either : (size : ℕ) (fits option : Bool) (item : Item) (items : List Item) → (fits ≡ true → IsInside size item)
    → All (IsInside size) items → All (IsInside size) (cond fits (cond option (item ∷ items) items) [])
inside_either size true true item items here rest = All-cons (IsInside size) item items (here refl) rest
inside_either size true false item items here rest = rest
inside_either size false option item items here rest = All-nil (IsInside size)

body-few : (head : List ℕ) (at : ℕ) (padding : Bool) (amount : ℕ) → amount < 256 → length (if padding then [] else take amount (drop (at + 2) head)) ≤ 255
body-few head at true amount below = omega arith
body-few head at false amount below = omega (arith, below, take-few amount (drop (at + 2) head))

inside_from : (steps : ℕ) (head : List ℕ) (at : ℕ) → IsOctets head → All (IsInside (length head)) (options_from steps head at)
inside_from zero head at octets = All-nil (IsInside (length head))
inside_from (suc steps) head at octets =
    inside_either (length head) (leb (option_end head at) (length head)) (is_option (item_at head at)) (item_at head at) (options_from steps head (option_end head at))
    (λ fits. (
      omega (arith, leb-true (option_end head at) (length head) fits, option_size-pos head at),
      body-few head at (slice_index head at == 0) (slice_index head (at + 1)) (octets (at + 1)),
    ))
    (inside_from steps head (option_end head at) octets)

-- each option of a header begins within it, and its data are 255 octets at most
pub options_inside : (head : List ℕ) (options : List Item) → IsOctets head → AreOptions head options → All (IsInside (length head)) options
options_inside head options octets are =
    let P : List Item → Type 0 = λ items. All (IsInside (length head)) items in
    subst P (all_options head options are) (inside_from (length head) head 2 octets)

-- ---- how many there are

few_among : (head : List ℕ) (at : ℕ) → length (filter is_ioam (options_from (length head) head at)) ≤ length head
few_among head at = omega (arith, few_filtered is_ioam (options_from (length head) head at), few_options (length head) head at)

among_few : (b : Bool) (octets : List ℕ) (start : ℕ) → length (cond b (ioam_among start (options_from (length octets) octets 2)) []) ≤ length octets
among_few true octets start =
    omega (arith, length-map (filter is_ioam (options_from (length octets) octets 2)) (placed start), few_among octets 2)
among_few false octets start = omega arith

few_in : (p : List ℕ) (head : Head) → length (ioam_in p head) ≤ length p
few_in p head = omega (arith, among_few (is_options_head head) (octets_of p head) head.range.start, few_octets p head)

few_along : (p : List ℕ) (heads : List Head) → length (ioam_from p heads) ≤ length heads * length p
few_along p [] = omega arith
few_along p (head ∷ heads) =
    omega (arith, length-append (ioam_in p head) (ioam_from p heads), few_in p head, few_along p heads)

-- there are few enough to be counted
pub few_ioam_of : (p : List ℕ) → IsPacket p → IsOctets p → length (ioam_of p) < 18446744073709551616
unfolding ioam_of
few_ioam_of p packet octets =
    let heads = heads_from (length p) p (start p) in
    omega (arith, few_along p heads, squared (length p) (length heads) (few_heads (length p) p (start p)) (omega (arith, packet.whole, u16_at-fits p 4 octets)))

-- the loop over all options of a header has counted the IOAM options
pub counted_among : (head : List ℕ) (count : ℕ) (left first : List Item) → count + length (filter is_ioam left) ≡ length (filter is_ioam first)
    → left ≡ [] → AreOptions head first → count ≡ length (filter is_ioam (options_from (length head) head 2))
counted_among head count left first so_far none are =
    let here : length (filter is_ioam left) ≡ 0 = ap (λ xs. length (filter is_ioam xs)) none in
    let all : length (filter is_ioam (options_from (length head) head 2)) ≡ length (filter is_ioam first) = ap (λ xs. length (filter is_ioam xs)) (all_options head first are) in
    omega arith

more_left : (b : Bool) (x : Item) (xs : List Item) → b ≡ true → 1 ≤ length (cond b (x ∷ xs) xs)
more_left true x xs is = omega arith
more_left false x xs is = absurd (cc is)

-- one more is still no more than octets
pub counting_among : (head : List ℕ) (count : ℕ) (left first next : List Item) (x : Item) → count + length (filter is_ioam left) ≡ length (filter is_ioam first)
    → left ≡ x ∷ next → is_ioam x ≡ true → AreOptions head first → count + 1 ≤ length head
counting_among head count left first next x so_far is ioam are =
    let some : 1 ≤ length (filter is_ioam (x ∷ next)) = more_left (is_ioam x) x (filter is_ioam next) ioam in
    let here : length (filter is_ioam left) ≡ length (filter is_ioam (x ∷ next)) = ap (λ xs. length (filter is_ioam xs)) is in
    let all : length (filter is_ioam (options_from (length head) head 2)) ≡ length (filter is_ioam first) = ap (λ xs. length (filter is_ioam xs)) (all_options head first are) in
    omega (arith, few_among head 2)

-- ---- the loops over the headers

module _ (p : List ℕ) (sound : IsSound p) (first : List Head) (are : AreHeads p first) where
  pub first_options : ioam_from p first ≡ ioam_of p
  unfolding ioam_of
  first_options = ap (λ (heads : List Head). ioam_from p heads) (the_heads p first sound are)

  -- all options were counted
  pub counted_options : (count : ℕ) (left : List Head) → count + length (ioam_from p left) ≡ length (ioam_from p first)
      → left ≡ [] → count ≡ length (ioam_of p)
  counted_options count left so_far none =
      let here : length (ioam_from p left) ≡ 0 = ap (λ (heads : List Head). length (ioam_from p heads)) none in
      let all : length (ioam_from p first) ≡ length (ioam_of p) = ap (λ (xs : List Item). length xs) first_options in
      omega arith

  -- those of one header more were counted
  pub counting_options : (count more : ℕ) (left next : List Head) (head : Head) → count + length (ioam_from p left) ≡ length (ioam_from p first)
      → left ≡ head ∷ next → more ≡ length (ioam_in p head)
      → count + more + length (ioam_from p next) ≡ length (ioam_from p first)
  counting_options count more left next head so_far is amount =
      let here : length (ioam_from p left) ≡ length (ioam_in p head ++ ioam_from p next) = ap (λ (heads : List Head). length (ioam_from p heads)) is in
      omega (arith, length-append (ioam_in p head) (ioam_from p next))

  pub counting_fits : (count more : ℕ) (next : List Head) → IsPacket p → IsOctets p
      → count + more + length (ioam_from p next) ≡ length (ioam_from p first) → count + more < 18446744073709551616
  counting_fits count more next packet octets step =
      let all : length (ioam_from p first) ≡ length (ioam_of p) = ap (λ (xs : List Item). length xs) first_options in
      omega (arith, few_ioam_of p packet octets)
