-- Laws of data records: octets begin with one, and it is the one that is read there by places.
use Rattle.std.proofs.Common.{◌≡◌, ℕ, zero, suc, ◌+◌, ◌*◌, ◌-◌, ◌/◌, ◌%◌, ◌<◌, ◌≤◌, Bool, true, false, cond, nat_lt, List, [], ◌∷◌, ◌++◌, length, take, drop, get_or, Option, Some, None, refl, sym, ap, ◌∙◌, subst, arith, inl, inr, append_assoc, length-append, length-drop}
use Rattle.std.specs.Option.{is_some, IfSome}
use Rattle.std.proofs.lemmas.Bool.Decides.{nat_tests}
use Rattle.std.proofs.lemmas.List.{length-take-le, take-append-drop, take_at, drop_at, drop-drop, get_or-drop}
use Rattle.ioam_base.specs.Octets.{IsOctets, u16_at, u24_at}
use Rattle.ioam_base.specs.Words.{two_octets, three_octets, four_octets_if}
use Rattle.ioam_base.proofs.OctetsLaws.{u32_at-fits}
use Rattle.ioam_base.proofs.WordsLaws.{octet-at, two-at, three-at, two_octets-front, two_octets-same, three_octets-same, four_octets_if-same}
use Rattle.ioam_data.specs.Elements.{IsFilled}
use Rattle.ioam_data.specs.Written.{most_exported}
use Rattle.ioam_dex.specs.Numbers.{has_flow, has_seq, four_where, u32_where}
use Rattle.ioam_dex.specs.Visit.{has_visit, version_of, visit_octets, twelve_where, visit_where}
use Rattle.ioam_dex.specs.Record.{Record, IsRecord, IsNumbered, Rec, record_size, record_octets}
use Rattle.ioam_dex.proofs.RecordLaws.{record_octets-length}
use Rattle.ioam_dex.proofs.NumbersLaws.{four_where-at, u32_where-is_some}
use Rattle.ioam_dex.proofs.VisitLaws.{visit_where-at, visit_where-below, visit_octets-same}
use Rattle.ioam_base.specs.Chain.{Stops, IsFunctional}
use Rattle.ioam_ipfix.specs.Templates.{IsTemplate, tells_flow, tells_seq, tells_visit}
use Rattle.ioam_ipfix.specs.Data.{weight, template_at, template_of, front_octets, data_octets, moved, back, Spelled, front_of, prefix_at, size_at, data_size, element_at, data_with, data_at, HasRoom}
use Rattle.ioam_ipfix.specs.Sets.{IsPadding, RecordPasses}
use Rattle.ioam_ipfix.specs.Steps.{IsElementPlace}

-- ---- what a template tells of its records

module _ where
  abbrev form : Bool → Bool → Bool → ℕ
  form flow seq visit = 256 + weight flow 4 + weight seq 2 + weight visit 1

  form-tells : (flow seq visit : Bool) → (tells_flow (form flow seq visit) ≡ flow) × (tells_seq (form flow seq visit) ≡ seq) × (tells_visit (form flow seq visit) ≡ visit)
  unfolding tells_flow tells_seq tells_visit
  form-tells false false false = (refl, refl, refl)
  form-tells false false true = (refl, refl, refl)
  form-tells false true false = (refl, refl, refl)
  form-tells false true true = (refl, refl, refl)
  form-tells true false false = (refl, refl, refl)
  form-tells true false true = (refl, refl, refl)
  form-tells true true false = (refl, refl, refl)
  form-tells true true true = (refl, refl, refl)

  told-form : (k id : ℕ) → id ≡ 256 + k → k < 8 → form (tells_flow id) (tells_seq id) (tells_visit id) ≡ id
  unfolding tells_flow tells_seq tells_visit
  told-form zero id is few = rw is refl
  told-form (suc zero) id is few = rw is refl
  told-form (suc (suc zero)) id is few = rw is refl
  told-form (suc (suc (suc zero))) id is few = rw is refl
  told-form (suc (suc (suc (suc zero)))) id is few = rw is refl
  told-form (suc (suc (suc (suc (suc zero))))) id is few = rw is refl
  told-form (suc (suc (suc (suc (suc (suc zero)))))) id is few = rw is refl
  told-form (suc (suc (suc (suc (suc (suc (suc zero))))))) id is few = rw is refl
  told-form (suc (suc (suc (suc (suc (suc (suc (suc k)))))))) id is few = absurd (omega (arith, few))

-- what a record has is what its template tells
record Shaped (id : ℕ) (x : Record) : Type 0 where
  flow : is_some x.flow ≡ tells_flow id
  seq : is_some x.seq ≡ tells_seq id
  visit : is_some x.visit ≡ tells_visit id

shaped : (id : ℕ) (x : Record) → template_of x ≡ id → Shaped id x
shaped id x is =
    let tells = form-tells (is_some x.flow) (is_some x.seq) (is_some x.visit) in
    record {
      flow = sym tells.0 ∙ ap tells_flow is;
      seq = sym tells.1 ∙ ap tells_seq is;
      visit = sym tells.2 ∙ ap tells_visit is;
    }

visit-alike : (a b : Option (ℕ × ℕ)) → is_some a ≡ is_some b → version_of a ≡ version_of b
visit-alike None None same = refl
visit-alike None (Some v) same = absurd (cc)
visit-alike (Some u) None same = absurd (cc)
visit-alike (Some u) (Some v) same = refl

-- ---- the front of a record

front-fields : (n k v a b rest : List ℕ) (flags ext : ℕ)
    → (n ++ (flags ∷ ext ∷ (k ++ (v ++ (a ++ b))))) ++ rest ≡ n ++ (flags ∷ ext ∷ (k ++ (v ++ (a ++ (b ++ rest)))))
front-fields n k v a b rest flags ext = simp append_assoc

front-octets : (x : Record) (rest : List ℕ) → front_octets x ++ rest ≡ two_octets x.namespace ++ (x.flags ∷ x.ext ∷ (three_octets x.kind
    ++ (visit_octets x.visit ++ (four_octets_if x.flow ++ (four_octets_if x.seq ++ rest)))))
front-octets x rest = front-fields (two_octets x.namespace) (three_octets x.kind) (visit_octets x.visit) (four_octets_if x.flow) (four_octets_if x.seq) rest x.flags x.ext

flow-length : (flow : Option ℕ) (there : Bool) → is_some flow ≡ there → length (four_octets_if flow) ≡ four_where there
flow-length None true is = absurd (cc)
flow-length None false is = refl
flow-length (Some n) true is = refl
flow-length (Some n) false is = absurd (cc)

visit-length : (visit : Option (ℕ × ℕ)) (there : Bool) → is_some visit ≡ there → length (visit_octets visit) ≡ twelve_where there
visit-length None true is = absurd (cc)
visit-length None false is = refl
visit-length (Some v) true is = refl
visit-length (Some v) false is = absurd (cc)

front-length : (id : ℕ) (x : Record) → Shaped id x → length (front_octets x) ≡ front_of id
front-length id x shape = omega (
  arith,
  length-append (visit_octets x.visit) (four_octets_if x.flow ++ four_octets_if x.seq),
  length-append (four_octets_if x.flow) (four_octets_if x.seq),
  visit-length x.visit (tells_visit id) shape.visit,
  flow-length x.flow (tells_flow id) shape.flow,
  flow-length x.seq (tells_seq id) shape.seq,
)

visit-told : (visit : Option (ℕ × ℕ)) → has_visit (version_of visit) ≡ is_some visit
visit-told None = refl
visit-told (Some v) = refl

-- the template of a record by its octets
pub template-by : (octets : List ℕ) (x : Record) → Rec octets x → template_at octets ≡ template_of x
template-by octets x whole =
    let ext : get_or octets 1 0 ≡ x.ext = ap (λ o. get_or o 1 0) whole.is in
    let version : get_or octets 0 0 ≡ version_of x.visit = ap (λ o. get_or o 0 0) whole.is in
    let flow : has_flow (get_or octets 1 0) ≡ is_some x.flow = ap has_flow ext ∙ sym whole.sayable.parts.flow in
    let seq : has_seq (get_or octets 1 0) ≡ is_some x.seq = ap has_seq ext ∙ sym whole.sayable.parts.seq in
    let visit : has_visit (get_or octets 0 0) ≡ is_some x.visit = ap has_visit version ∙ visit-told x.visit in
    λ i. form (flow i) (seq i) (visit i)

-- the fields of an export record are appended in four parts
pub moved_built : (out octets : List ℕ) (front : ℕ)
    → (((out ++ (get_or octets 4 0 ∷ get_or octets 5 0 ∷ get_or octets 6 0 ∷ get_or octets 1 0 ∷ [])) ++ take (front - 7) (drop 7 octets))
    ++ ((length octets - front) ∷ [])) ++ drop front octets ≡ out ++ moved front octets
moved_built out octets front =
    let a = get_or octets 4 0 ∷ get_or octets 5 0 ∷ get_or octets 6 0 ∷ get_or octets 1 0 ∷ [] in
    let m = take (front - 7) (drop 7 octets) in
    let s = (length octets - front) ∷ [] in
    append_assoc ((out ++ a) ++ m) s (drop front octets) ∙ append_assoc (out ++ a) m (s ++ drop front octets) ∙ append_assoc out a (m ++ (s ++ drop front octets))

-- octets of which the element stands behind seven and some others
moved-plain : (a b c d e f g : ℕ) (m element : List ℕ)
    → moved (7 + length m) (a ∷ b ∷ c ∷ d ∷ e ∷ f ∷ g ∷ (m ++ element)) ≡ e ∷ f ∷ g ∷ b ∷ (m ++ (length element ∷ element))
moved-plain a b c d e f g m element =
    let octets : List ℕ = a ∷ b ∷ c ∷ d ∷ e ∷ f ∷ g ∷ (m ++ element) in
    let seven : length m ≡ 7 + length m - 7 = omega arith in
    let middle : take (7 + length m - 7) (m ++ element) ≡ m = take_at m element (7 + length m - 7) seven in
    let size : length octets - (7 + length m) ≡ length element = omega (arith, length-append m element) in
    let last : drop (7 + length m) octets ≡ element = sym (drop-drop (length m) 7 octets) ∙ drop_at m element (length m) refl in
    ap (λ o. e ∷ f ∷ g ∷ b ∷ (o ++ ((length octets - (7 + length m)) ∷ drop (7 + length m) octets))) middle
    ∙ ap (λ n. e ∷ f ∷ g ∷ b ∷ (m ++ (n ∷ drop (7 + length m) octets))) size
    ∙ ap (λ o. e ∷ f ∷ g ∷ b ∷ (m ++ (length element ∷ o))) last

-- what stands between an export record's flags and its element
abbrev middle_octets : Record → List ℕ
middle_octets x = three_octets x.kind ++ (visit_octets x.visit ++ (four_octets_if x.flow ++ four_octets_if x.seq))

middle-front : (k v a b e : List ℕ) → k ++ (v ++ (a ++ (b ++ e))) ≡ (k ++ (v ++ (a ++ b))) ++ e
middle-front k v a b e = simp append_assoc

-- an export record so moved is a data record
pub moved-is : (x : Record) (front : ℕ) → front + length x.element ≡ length (record_octets x) → moved front (record_octets x) ≡ data_octets x
moved-is x front at =
    let m = middle_octets x in
    let e = x.element in
    let split : three_octets x.kind ++ (visit_octets x.visit ++ (four_octets_if x.flow ++ (four_octets_if x.seq ++ e))) ≡ m ++ e =
    middle-front (three_octets x.kind) (visit_octets x.visit) (four_octets_if x.flow) (four_octets_if x.seq) e in
    let whole : record_octets x ≡ version_of x.visit ∷ x.ext ∷ (two_octets (record_size x) ++ (two_octets x.namespace ++ (x.flags ∷ (m ++ e)))) =
    ap (λ o. version_of x.visit ∷ x.ext ∷ (two_octets (record_size x) ++ (two_octets x.namespace ++ (x.flags ∷ o)))) split in
    let here : front ≡ 7 + length m = omega (arith, at, ap length whole, length-append m e) in
    ap (λ n. moved n (record_octets x)) here
    ∙ ap (moved (7 + length m)) whole
    ∙ moved-plain (version_of x.visit) x.ext (get_or (two_octets (record_size x)) 0 0) (get_or (two_octets (record_size x)) 1 0) (get_or (two_octets x.namespace) 0 0)
    (get_or (two_octets x.namespace) 1 0) x.flags m e
    ∙ ap (λ o. two_octets x.namespace ++ (x.flags ∷ x.ext ∷ o)) (sym (middle-front (three_octets x.kind) (visit_octets x.visit) (four_octets_if x.flow) (four_octets_if x.seq) (length e ∷ e)))
    ∙ data-front x
  where
    data-front : (x : Record) → two_octets x.namespace ++ (x.flags ∷ x.ext ∷ (three_octets x.kind ++ (visit_octets x.visit ++ (four_octets_if x.flow ++ (four_octets_if x.seq ++ (length x.element ∷ x.element))))))
        ≡ data_octets x
    data-front x = sym (front-octets x (length x.element ∷ x.element))

-- a record by its fields
record-by : (x y : Record) → x.namespace ≡ y.namespace → x.flags ≡ y.flags → x.ext ≡ y.ext → x.kind ≡ y.kind → x.visit ≡ y.visit → x.flow ≡ y.flow
    → x.seq ≡ y.seq → x.element ≡ y.element → x ≡ y
record-by x y n f e k v a b o =
    let same : ◌≡◌ {A = Record}
    (record { namespace = x.namespace; flags = x.flags; ext = x.ext; kind = x.kind; visit = x.visit; flow = x.flow; seq = x.seq; element = x.element })
    (record { namespace = y.namespace; flags = y.flags; ext = y.ext; kind = y.kind; visit = y.visit; flow = y.flow; seq = y.seq; element = y.element }) = cc in
    same

-- octets begin with one front of a template, up to the element
front-same : (id : ℕ) (x y : Record) (r s : List ℕ) → Shaped id x → Shaped id y → IsNumbered x → IsNumbered y → front_octets x ++ r ≡ front_octets y ++ s
    → (x.element ≡ y.element → x ≡ y) × (r ≡ s)
front-same id x y r s shape_x shape_y is_x is_y same =
    let whole = sym (front-octets x r) ∙ same ∙ front-octets y s in
    let namespace = two_octets-same x.namespace y.namespace _ _ is_x.namespace_below is_y.namespace_below whole in
    let flags : x.flags ≡ y.flags = ap (λ xs. get_or xs 0 0) namespace.1 in
    let ext : x.ext ≡ y.ext = ap (λ xs. get_or xs 1 0) namespace.1 in
    let kind = three_octets-same x.kind y.kind _ _ is_x.kind_below is_y.kind_below (ap (drop 2) namespace.1) in
    let visit = visit_octets-same x.visit y.visit _ _ (visit-alike x.visit y.visit (shape_x.visit ∙ sym shape_y.visit)) is_x.visit_below is_y.visit_below kind.1 in
    let flow = four_octets_if-same x.flow y.flow _ _ (shape_x.flow ∙ sym shape_y.flow) is_x.flow_below is_y.flow_below visit.1 in
    let seq = four_octets_if-same x.seq y.seq _ _ (shape_x.seq ∙ sym shape_y.seq) is_x.seq_below is_y.seq_below flow.1 in
    (λ element. record-by x y namespace.0 flags ext kind.0 visit.0 flow.0 seq.0 element, seq.1)

-- ---- the variable field

-- fronts of the same length are the same, and what stands behind them is
pub append-same : {X : Type 0} (a b r s : List X) → length a ≡ length b → a ++ r ≡ b ++ s → (a ≡ b) × (r ≡ s)
append-same [] [] r s size same = (refl, same)
append-same [] (y ∷ b) r s size same = absurd (omega (arith, size))
append-same (x ∷ a) [] r s size same = absurd (omega (arith, size))
append-same (x ∷ a) (y ∷ b) r s size same =
    let size' : length a ≡ length b = omega (arith, size) in
    let rest : a ++ r ≡ b ++ s = cc in
    let first : x ≡ y = cc in
    let more = append-same a b r s size' rest in
    (λ i. first i ∷ more.0 i, more.1)

spelled-same : (e f s t r q : List ℕ) → Spelled (length e) s → Spelled (length f) t → s ++ (e ++ r) ≡ t ++ (f ++ q) → (e ≡ f) × (r ≡ q)
spelled-same e f s t r q (inl one) (inl other) same =
    let whole : length e ∷ (e ++ r) ≡ length f ∷ (f ++ q) = ap (λ o. o ++ (e ++ r)) (sym one.1) ∙ same ∙ ap (λ o. o ++ (f ++ q)) other.1 in
    append-same e f r q (ap (λ xs. get_or xs 0 0) whole) (ap (drop 1) whole)
spelled-same e f s t r q (inl one) (inr other) same =
    let whole : length e ∷ (e ++ r) ≡ (255 ∷ two_octets (length f)) ++ (f ++ q) = ap (λ o. o ++ (e ++ r)) (sym one.1) ∙ same ∙ ap (λ o. o ++ (f ++ q)) other.1 in
    let first : length e ≡ 255 = ap (λ xs. get_or xs 0 0) whole in
    let small = one.0 in
    absurd (omega (arith, first, small))
spelled-same e f s t r q (inr one) (inl other) same =
    let whole : (255 ∷ two_octets (length e)) ++ (e ++ r) ≡ length f ∷ (f ++ q) = ap (λ o. o ++ (e ++ r)) (sym one.1) ∙ same ∙ ap (λ o. o ++ (f ++ q)) other.1 in
    let first : 255 ≡ length f = ap (λ xs. get_or xs 0 0) whole in
    let small = other.0 in
    absurd (omega (arith, first, small))
spelled-same e f s t r q (inr one) (inr other) same =
    let whole : two_octets (length e) ++ (e ++ r) ≡ two_octets (length f) ++ (f ++ q) =
    ap (drop 1) (ap (λ o. o ++ (e ++ r)) (sym one.1) ∙ same ∙ ap (λ o. o ++ (f ++ q)) other.1) in
    let sizes = two_octets-same (length e) (length f) (e ++ r) (f ++ q) one.0 other.0 whole in
    append-same e f r q sizes.0 sizes.1

below-true : (n : ℕ) → n < 255 → nat_lt n 255 ≡ true
below-true n small = by_test (nat_lt n 255) refl where
  by_test : (b : Bool) → nat_lt n 255 ≡ b → b ≡ true
  by_test true is = refl
  by_test false is = absurd (grind (arith, nat_tests))

-- a spelled element stands whole where it is looked for
variable-room : (e s b : List ℕ) → Spelled (length e) s
    → (prefix_at (s ++ (e ++ b)) + size_at (s ++ (e ++ b)) ≤ length (s ++ (e ++ b))) × (element_at (s ++ (e ++ b)) ≡ e)
variable-room e s b (inl one) =
    let P : List ℕ → Type 0 = λ o. (prefix_at (o ++ (e ++ b)) + size_at (o ++ (e ++ b)) ≤ length (o ++ (e ++ b))) × (element_at (o ++ (e ++ b)) ≡ e) in
    let n = length e in
    let test = below-true n one.0 in
    let Q : Bool → Type 0 = λ t. ((cond t 1 3) + (cond t n (u16_at (n ∷ (e ++ b)) 1)) ≤ length (n ∷ (e ++ b)))
    × (take (cond t n (u16_at (n ∷ (e ++ b)) 1)) (drop (cond t 1 3) (n ∷ (e ++ b))) ≡ e) in
    let long = length-append e b in
    subst P (sym one.1) (subst Q (sym test) (omega (arith, long), take_at e b n refl))
variable-room e s b (inr one) =
    let P : List ℕ → Type 0 = λ o. (prefix_at (o ++ (e ++ b)) + size_at (o ++ (e ++ b)) ≤ length (o ++ (e ++ b))) × (element_at (o ++ (e ++ b)) ≡ e) in
    let n = length e in
    let small = one.0 in
    let size : n / 256 % 256 * 256 + n % 256 ≡ n = omega (arith, small) in
    let long = length-append e b in
    subst P (sym one.1) (omega (arith, long, size), ap (λ m. take m (e ++ b)) size ∙ take_at e b n refl)

-- and what stands whole is spelled
spelled-front : (rest : List ℕ) (t : Bool) → nat_lt (get_or rest 0 0) 255 ≡ t → IsOctets rest
    → cond t 1 3 + cond t (get_or rest 0 0) (u16_at rest 1) ≤ length rest → 1 ≤ length rest
    → Spelled (cond t (get_or rest 0 0) (u16_at rest 1)) (take (cond t 1 3) rest)
spelled-front [] t is small fits some = absurd (omega (arith, some))
spelled-front (a ∷ rest) true is small fits some = inl (grind (arith, nat_tests), refl)
spelled-front (a ∷ []) false is small fits some = absurd (omega (arith, fits))
spelled-front (a ∷ b ∷ []) false is small fits some = absurd (omega (arith, fits))
spelled-front (a ∷ b ∷ c ∷ rest) false is small fits some =
    let first = small 0 in
    let second = small 1 in
    let third = small 2 in
    let most : 255 ≤ a = grind (arith, nat_tests) in
    let is_a : a ≡ 255 = omega (arith, first, most) in
    let cells : b ∷ c ∷ [] ≡ two_octets (b * 256 + c) = two_octets-front b c [] second third in
    inr (omega (arith, second, third), λ i. is_a i ∷ cells i)

variable-spelled : (rest : List ℕ) → IsOctets rest → prefix_at rest + size_at rest ≤ length rest → 1 ≤ length rest → Spelled (size_at rest) (take (prefix_at rest) rest)
variable-spelled rest small fits some = spelled-front rest (nat_lt (get_or rest 0 0) 255) refl small fits some

variable-splits : (rest : List ℕ) (p n : ℕ) → rest ≡ take p rest ++ (take n (drop p rest) ++ drop (p + n) rest)
variable-splits rest p n = sym (take-append-drop p rest) ∙ ap (λ o. take p rest ++ o) (sym (take-append-drop n (drop p rest)) ∙ ap (λ o. take n (drop p rest) ++ o) (drop-drop n p rest))

spelled-long : (n : ℕ) (s : List ℕ) → Spelled n s → 1 ≤ length s
spelled-long n s (inl one) = let is = ap length one.1 in omega (arith, is)
spelled-long n s (inr one) = let is = ap length one.1 in omega (arith, is)

-- ---- records pass in one way

passes-parts : (id : ℕ) (a : List ℕ) (x : Record) (b : List ℕ) (pass : RecordPasses id a x b)
    → a ≡ front_octets x ++ (pass.1.spelling ++ (x.element ++ b))
passes-parts id a x b pass =
    let s = pass.1.spelling in
    pass.2 ∙ ap (λ o. o ++ b) pass.1.is ∙ append_assoc (front_octets x) (s ++ x.element) b ∙ ap (λ o. front_octets x ++ o) (append_assoc s x.element b)

pub record-functional : (id : ℕ) → IsFunctional (RecordPasses id)
record-functional id a x b y c one other =
    let same : front_octets x ++ (one.1.spelling ++ (x.element ++ b)) ≡ front_octets y ++ (other.1.spelling ++ (y.element ++ c)) =
    sym (passes-parts id a x b one) ∙ passes-parts id a y c other in
    let fronts = front-same id x y _ _ (shaped id x one.1.form) (shaped id y other.1.form) one.1.sayable.numbers other.1.sayable.numbers same in
    let rest = spelled-same x.element y.element one.1.spelling other.1.spelling b c one.1.spelled other.1.spelled fronts.1 in
    (fronts.0 rest.0, rest.1)

pub record-long : (id : ℕ) (a : List ℕ) (x : Record) (b : List ℕ) → RecordPasses id a x b → 8 ≤ length a
record-long id a x b pass =
    let is = ap length (passes-parts id a x b pass) in
    let s = pass.1.spelling in
    let some = spelled-long (length x.element) s pass.1.spelled in
    let outer = length-append (front_octets x) (s ++ (x.element ++ b)) in
    let inner = length-append s (x.element ++ b) in
    let front : 7 ≤ length (front_octets x) = omega arith in
    omega (arith, is, some, outer, inner, front)

pub record_padding-stops : (id : ℕ) (rest : List ℕ) → IsPadding 8 rest → Stops (RecordPasses id) rest
record_padding-stops id rest padding x b pass =
    let few = padding.0 in
    let many = record-long id rest x b pass in
    omega (arith, few, many)

-- ---- by places

number-below : (b : Bool) (octets : List ℕ) (at : ℕ) → IsOctets octets → IfSome (u32_where b octets at) (λ number. number < 4294967296)
number-below true octets at small = u32_at-fits octets at small
number-below false octets at small = tt

visit_where-is_some : (octets : List ℕ) (at : ℕ) (b : Bool) → is_some (visit_where b octets at) ≡ b
visit_where-is_some octets at true = refl
visit_where-is_some octets at false = refl

module _ (id : ℕ) (octets : List ℕ) (small : IsOctets octets) (element : List ℕ) where
  abbrev there : Record
  there = data_with id octets element

  shaped-at : Shaped id there
  shaped-at = record {
    flow = u32_where-is_some octets (7 + twelve_where (tells_visit id)) (tells_flow id);
    seq = u32_where-is_some octets (7 + twelve_where (tells_visit id) + four_where (tells_flow id)) (tells_seq id);
    visit = visit_where-is_some octets 7 (tells_visit id);
  }

  numbered-at : IsNumbered there
  numbered-at = record {
    namespace_below = omega (arith, small 0, small 1);
    flags_below = small 2;
    ext_below = small 3;
    kind_below = omega (arith, small 4, small 5, small 6);
    visit_below = visit_where-below octets 7 small (tells_visit id);
    flow_below = number-below (tells_flow id) octets (7 + twelve_where (tells_visit id)) small;
    seq_below = number-below (tells_seq id) octets (7 + twelve_where (tells_visit id) + four_where (tells_flow id)) small;
  }

  front-at : front_of id ≤ length octets → octets ≡ front_octets there ++ drop (front_of id) octets
  front-at fits =
      let numbers = 7 + twelve_where (tells_visit id) in
      let behind = numbers + four_where (tells_flow id) in
      two-at octets 0 small (omega arith)
      ∙ ap (λ r. two_octets (u16_at octets 0) ++ r) (octet-at octets 2 (omega arith)
      ∙ ap (λ r. get_or octets 2 0 ∷ r) (octet-at octets 3 (omega arith)
      ∙ ap (λ r. get_or octets 3 0 ∷ r) (three-at octets 4 small (omega arith)
      ∙ ap (λ r. three_octets (u24_at octets 4) ++ r) (visit_where-at octets 7 small (tells_visit id) (omega arith)
      ∙ ap (λ r. visit_octets (visit_where (tells_visit id) octets 7) ++ r) (four_where-at octets numbers (tells_flow id) small (omega arith)
      ∙ ap (λ r. four_octets_if (u32_where (tells_flow id) octets numbers) ++ r) (four_where-at octets behind (tells_seq id) small (omega arith)))))))
      ∙ sym (front-octets there (drop (front_of id) octets))

  form-at : IsTemplate id → template_of there ≡ id
  form-at is =
      let least = is.0 in
      let most = is.1 in
      let shape = shaped-at in
      ap (λ f. form f (is_some there.seq) (is_some there.visit)) shape.flow
      ∙ ap (λ s. form (tells_flow id) s (is_some there.visit)) shape.seq
      ∙ ap (λ v. form (tells_flow id) (tells_seq id) v) shape.visit
      ∙ told-form (id - 256) id (omega (arith, least)) (omega (arith, least, most))

-- where a record passes, it is the one that is read by places, and stands whole
pub record-at : (id : ℕ) (octets : List ℕ) → IsOctets octets → (x : Record) (b : List ℕ) → RecordPasses id octets x b → HasRoom id octets × (x ≡ data_at id octets)
record-at id octets small x b pass =
    let s = pass.1.spelling in
    let shape = shaped id x pass.1.form in
    let parts = passes-parts id octets x b pass in
    let rest : drop (front_of id) octets ≡ s ++ (x.element ++ b) =
    ap (drop (front_of id)) parts ∙ drop_at (front_octets x) (s ++ (x.element ++ b)) (front_of id) (front-length id x shape) in
    let long : front_of id ≤ length octets =
    (let size = ap length parts in let outer = length-append (front_octets x) (s ++ (x.element ++ b)) in let front = front-length id x shape in omega (arith, size, outer, front)) in
    let room = variable-room x.element s b pass.1.spelled in
    let P : List ℕ → Type 0 = λ o. (prefix_at o + size_at o ≤ length o) × (element_at o ≡ x.element) in
    let here = subst P (sym rest) room in
    let fits = here.0 in
    let count = length-drop (front_of id) octets in
    let element = element_at (drop (front_of id) octets) in
    let same = front-same id x (data_with id octets element) _ _ shape (shaped-at id octets small element) pass.1.sayable.numbers (numbered-at id octets small element)
    (sym parts ∙ front-at id octets small element long) in
    (omega (arith, long, fits, count), same.0 (sym here.1))

-- and so it does where it stands whole and may be said
pub record-there : (id : ℕ) (octets : List ℕ) → IsOctets octets → IsTemplate id → HasRoom id octets → IsRecord (data_at id octets)
    → RecordPasses id octets (data_at id octets) (drop (data_size id octets) octets)
record-there id octets small is room sayable =
    let rest = drop (front_of id) octets in
    let p = prefix_at rest in
    let n = size_at rest in
    let count = length-drop (front_of id) octets in
    let some = prefix-some rest in
    let long : front_of id ≤ length octets = omega (arith, room) in
    let fits : p + n ≤ length rest = omega (arith, room, count, some) in
    let octets_of_rest : IsOctets rest = small-behind octets (front_of id) small in
    let first : 1 ≤ length rest = omega (arith, fits, some) in
    let element = element_at rest in
    let y = data_with id octets element in
    let size : length element ≡ n = length-take-le n (drop p rest) (let left = length-drop p rest in omega (arith, fits, left)) in
    let spelled : Spelled (length element) (take p rest) = subst (λ m. Spelled m (take p rest)) (sym size) (variable-spelled rest octets_of_rest fits first) in (
      front_octets y ++ (take p rest ++ element),
      record { sayable = sayable; form = form-at id octets small element is; spelling = take p rest; spelled = spelled; is = refl },
      front-at id octets small element long
          ∙ ap (λ o. front_octets y ++ o) (variable-splits rest p n ∙ sym (append_assoc (take p rest) element (drop (p + n) rest)))
          ∙ sym (append_assoc (front_octets y) (take p rest ++ element) (drop (p + n) rest))
          ∙ ap (λ o. (front_octets y ++ (take p rest ++ element)) ++ o) (drop-drop (p + n) (front_of id) octets),
    )
  where
    prefix-by : (b : Bool) → 1 ≤ cond b 1 3
    prefix-by true = omega arith
    prefix-by false = omega arith

    prefix-some : (rest : List ℕ) → 1 ≤ prefix_at rest
    prefix-some rest = prefix-by (nat_lt (get_or rest 0 0) 255)

    small-behind : (octets : List ℕ) (n : ℕ) → IsOctets octets → IsOctets (drop n octets)
    small-behind octets n small = λ i. subst (λ o. o < 256) (sym (get_or-drop n octets i 0)) (small (n + i))

-- ---- what may be said, by places

pub sayable-at : (id : ℕ) (octets : List ℕ) → IsOctets octets → has_flow (get_or octets 3 0) ≡ tells_flow id → has_seq (get_or octets 3 0) ≡ tells_seq id
    → IsFilled (u24_at octets 4) (element_at (drop (front_of id) octets)) → length (element_at (drop (front_of id) octets)) ≤ most_exported → IsRecord (data_at id octets)
sayable-at id octets small flow seq filled short =
    let element = element_at (drop (front_of id) octets) in
    let shape = shaped-at id octets small element in
    record {
      parts = record { flow = shape.flow ∙ sym flow; seq = shape.seq ∙ sym seq; filled = filled; short = short };
      numbers = numbered-at id octets small element;
    }

pub sayable-agrees : (id : ℕ) (octets : List ℕ) → IsOctets octets → IsRecord (data_at id octets)
    → (has_flow (get_or octets 3 0) ≡ tells_flow id) × (has_seq (get_or octets 3 0) ≡ tells_seq id)
sayable-agrees id octets small is =
    let shape = shaped-at id octets small (element_at (drop (front_of id) octets)) in
    (sym is.parts.flow ∙ shape.flow, sym is.parts.seq ∙ shape.seq)

-- the element of a record that is there whole, as a slice
pub element-slice : (id : ℕ) (octets : List ℕ) (from to : ℕ) → IsElementPlace id octets from to → take (to - from) (drop from octets) ≡ element_at (drop (front_of id) octets)
element-slice id octets from to place =
    let rest = drop (front_of id) octets in
    let start = place.1 in
    let end = place.2 in
    let count : to - from ≡ size_at rest = omega (arith, start, end) in
    ap (λ n. take n (drop from octets)) count ∙ ap (λ n. take (size_at rest) (drop n octets)) start
    ∙ ap (take (size_at rest)) (sym (drop-drop (prefix_at rest) (front_of id) octets))

prefix-least : (b : Bool) → 1 ≤ cond b 1 3
prefix-least true = omega arith
prefix-least false = omega arith

-- a data record has 8 octets and more
pub data_size-least : (id : ℕ) (octets : List ℕ) → 8 ≤ data_size id octets
data_size-least id octets = let least = prefix-least (nat_lt (get_or (drop (front_of id) octets) 0 0) 255) in omega (arith, least)

-- ---- a data record as an export record

version-by : (b : Bool) (octets : List ℕ) → 1 + weight b 1 ≡ version_of (visit_where b octets 7)
version-by true octets = refl
version-by false octets = refl

back-plain : (a b f e : ℕ) (m rest octets : List ℕ) (front : ℕ) → octets ≡ a ∷ b ∷ f ∷ e ∷ (m ++ rest) → front ≡ 4 + length m
    → take (front - 4) (drop 4 octets) ≡ m
back-plain a b f e m rest octets front is at =
    let four : length m ≡ front - 4 = omega (arith, at) in
    ap (λ o. take (front - 4) (drop 4 o)) is ∙ take_at m rest (front - 4) four

module _ (id : ℕ) (octets : List ℕ) (small : IsOctets octets) (from to : ℕ) (place : IsElementPlace id octets from to) (sayable : IsRecord (data_at id octets)) where
  abbrev x : Record
  x = data_at id octets

  abbrev rest : List ℕ
  rest = drop (front_of id) octets

  abbrev m : List ℕ
  m = middle_octets x

  cells : octets ≡ two_octets x.namespace ++ (x.flags ∷ x.ext ∷ (m ++ rest))
  cells =
      let room = place.0 in
      front-at id octets small (element_at rest) (omega (arith, room)) ∙ front-octets x rest
      ∙ ap (λ o. two_octets x.namespace ++ (x.flags ∷ x.ext ∷ o)) (middle-front (three_octets x.kind) (visit_octets x.visit) (four_octets_if x.flow) (four_octets_if x.seq) rest)

  count : front_of id ≡ 4 + length m
  count = let front = front-length id x (shaped-at id octets small (element_at rest)) in omega (arith, front)

  middle : take (front_of id - 4) (drop 4 octets) ≡ m
  middle = back-plain (get_or (two_octets x.namespace) 0 0) (get_or (two_octets x.namespace) 1 0) x.flags x.ext m rest octets (front_of id) cells count

  last : take (to - from) (drop from octets) ≡ x.element
  last = element-slice id octets from to place

  whole : record_octets x ≡ version_of x.visit ∷ x.ext ∷ (two_octets (record_size x) ++ (two_octets x.namespace ++ (x.flags ∷ (m ++ x.element))))
  whole = ap (λ o. version_of x.visit ∷ x.ext ∷ (two_octets (record_size x) ++ (two_octets x.namespace ++ (x.flags ∷ o))))
      (middle-front (three_octets x.kind) (visit_octets x.visit) (four_octets_if x.flow) (four_octets_if x.seq) x.element)

  -- the octets of that record
  pub back-size : front_of id + 3 + (to - from) ≡ record_size x
  back-size =
      let room = place.0 in
      let start = place.1 in
      let end = place.2 in
      let left = length-drop from octets in
      let wide : length (take (to - from) (drop from octets)) ≡ to - from = length-take-le (to - from) (drop from octets) (omega (arith, left, room, end)) in
      let element = ap length last in
      let size = ap length whole in
      let parts = length-append m x.element in
      let front = count in
      omega (arith, record_octets-length x sayable.parts, size, parts, front, wide, element)

  -- its parts in the order of an export record are that record
  pub back-is : back id octets from to ≡ record_octets x
  back-is =
      let size = back-size in
      let zeroth : get_or octets 0 0 ≡ get_or (two_octets x.namespace) 0 0 = ap (λ o. get_or o 0 0) cells in
      let first : get_or octets 1 0 ≡ get_or (two_octets x.namespace) 1 0 = ap (λ o. get_or o 1 0) cells in
      (λ i. version-by (tells_visit id) octets i ∷ x.ext ∷ (two_octets (size i) ++ (zeroth i ∷ first i ∷ x.flags ∷ (middle i ++ last i))))
      ∙ sym whole
