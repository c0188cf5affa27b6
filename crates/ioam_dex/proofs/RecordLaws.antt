-- Laws of export records: by places and as octets.
use Rattle.std.proofs.Common.{◌≡◌, ℕ, ◌+◌, ◌-◌, ◌<◌, ◌≤◌, Bool, true, false, List, [], ◌∷◌, ◌++◌, length, take, drop, get_or, Option, Some, None, arith, refl, sym, ap, ◌∙◌, subst, append_assoc, length-append, length-take, length-drop, ap₂}
use Rattle.std.specs.Option.{is_some, IfSome}
use Rattle.std.proofs.lemmas.List.{length-take-le, take-append-drop, take_at, drop_at, drop-drop, append-nil}
use Rattle.ioam_base.specs.Octets.{IsOctets, u16_at}
use Rattle.ioam_base.specs.Words.{two_octets, three_octets, four_octets_if}
use Rattle.ioam_base.proofs.OctetsLaws.{u32_at-fits}
use Rattle.ioam_base.proofs.WordsLaws.{octet-at, two-at, three-at, two_octets-same, three_octets-same, four_octets_if-same}
use Rattle.ioam_data.specs.Elements.{IsFilled}
use Rattle.ioam_data.specs.Written.{most_exported}
use Rattle.ioam_dex.specs.Numbers.{has_flow, has_seq, four_where, numbers_size, u32_where}
use Rattle.ioam_dex.specs.Visit.{has_visit, version_of, visit_octets, twelve_where, visit_where}
use Rattle.ioam_dex.specs.Record.{Record, HasItsParts, front_size, record_size, record_octets, IsRecord, Rec, length_of, front_of, element_of, kind_of, record_at, IsSized}
use Rattle.ioam_dex.proofs.FaultLaws.{IsWhole}
use Rattle.ioam_dex.proofs.NumbersLaws.{four_where-at, u32_where-is_some}
use Rattle.ioam_dex.proofs.VisitLaws.{visit_where-at, visit_where-below, version-where, version_of-is, visit_octets-same, visit_octets-length}

-- the octets in groups of one field each, with what follows
fields_of : (l n k v a b e rest : List ℕ) (version ext flags : ℕ)
    → (version ∷ ext ∷ (l ++ (n ++ (flags ∷ (k ++ (v ++ (a ++ (b ++ e)))))))) ++ rest
    ≡ version ∷ ext ∷ (l ++ (n ++ (flags ∷ (k ++ (v ++ (a ++ (b ++ (e ++ rest))))))))
fields_of l n k v a b e rest version ext flags = simp append_assoc

record_octets-fields : (x : Record) (rest : List ℕ) → record_octets x ++ rest ≡ version_of x.visit ∷ x.ext ∷ (two_octets (record_size x)
    ++ (two_octets x.namespace ++ (x.flags ∷ (three_octets x.kind ++ (visit_octets x.visit ++ (four_octets_if x.flow ++ (four_octets_if x.seq
    ++ (x.element ++ rest))))))))
record_octets-fields x rest = fields_of (two_octets (record_size x)) (two_octets x.namespace) (three_octets x.kind) (visit_octets x.visit) (four_octets_if x.flow) (four_octets_if x.seq) x.element rest
    (version_of x.visit) x.ext x.flags

-- ---- a record that stands at the front, by its places

module _ (octets : List ℕ) (small : IsOctets octets) (sized : IsSized octets) (there : length_of octets ≤ length octets) where
  abbrev ext : ℕ
  ext = get_or octets 1 0

  abbrev second : Bool
  second = has_visit (get_or octets 0 0)

  abbrev numbers : ℕ
  numbers = 10 + twelve_where second

  abbrev behind : ℕ
  behind = numbers + four_where (has_flow ext)

  version-is : version_of (visit_where second octets 10) ≡ get_or octets 0 0
  version-is = version-where (get_or octets 0 0) octets 10 sized.version

  element-length : length (element_of octets) ≡ length_of octets - front_of octets
  element-length = length-take-le (length_of octets - front_of octets) (drop (front_of octets) octets) (omega (arith, sized.least, length-drop (front_of octets) octets))

  size-is : record_size (record_at octets) ≡ length_of octets
  size-is = ap (λ n. front_size n ext + length (element_of octets)) version-is ∙ omega (arith, element-length, sized.least)

  rest-is : drop (front_of octets) octets ≡ element_of octets ++ drop (length_of octets) octets
  rest-is = sym (take-append-drop (length_of octets - front_of octets) (drop (front_of octets) octets))
      ∙ ap (λ r. element_of octets ++ r) (drop-drop (length_of octets - front_of octets) (front_of octets) octets ∙ ap (λ n. drop n octets) (omega (arith, sized.least)))

  front-is : behind + four_where (has_seq ext) ≡ front_of octets
  front-is = omega arith

  -- the octets begin with it
  pub octets-record_at : octets ≡ record_octets (record_at octets) ++ drop (length_of octets) octets
  octets-record_at =
      octet-at octets 0 (omega (arith, sized.begins))
      ∙ ap (λ v. v ∷ drop 1 octets) (sym version-is)
      ∙ ap (λ r. version_of (visit_where second octets 10) ∷ r) (octet-at octets 1 (omega (arith, sized.begins))
      ∙ ap (λ r. ext ∷ r) (two-at octets 2 small (omega (arith, sized.begins))
      ∙ ap (λ n. two_octets n ++ drop 4 octets) (sym size-is)
      ∙ ap (λ r. two_octets (record_size (record_at octets)) ++ r) (two-at octets 4 small (omega (arith, sized.least))
      ∙ ap (λ r. two_octets (u16_at octets 4) ++ r) (octet-at octets 6 (omega (arith, sized.least))
      ∙ ap (λ r. get_or octets 6 0 ∷ r) (three-at octets 7 small (omega (arith, sized.least))
      ∙ ap (λ r. three_octets (kind_of octets) ++ r) (visit_where-at octets 10 small second (omega (arith, sized.least))
      ∙ ap (λ r. visit_octets (visit_where second octets 10) ++ r) (four_where-at octets numbers (has_flow ext) small (omega (arith, sized.least))
      ∙ ap (λ r. four_octets_if (u32_where (has_flow ext) octets numbers) ++ r) (four_where-at octets behind (has_seq ext) small (omega (arith, sized.least))
      ∙ ap (λ r. four_octets_if (u32_where (has_seq ext) octets behind) ++ r) (ap (λ n. drop n octets) front-is ∙ rest-is)))))))))
      ∙ sym (record_octets-fields (record_at octets) (drop (length_of octets) octets))

  number-below : (b : Bool) (at : ℕ) → IfSome (u32_where b octets at) (λ number. number < 4294967296)
  number-below true at = u32_at-fits octets at small
  number-below false at = tt

  -- and it may be said, where its element is right
  pub IsRecord-record_at : IsFilled (kind_of octets) (element_of octets) → IsRecord (record_at octets)
  IsRecord-record_at filled = record {
    parts = record {
      flow = u32_where-is_some octets numbers (has_flow ext);
      seq = u32_where-is_some octets behind (has_seq ext);
      filled = filled;
      short = omega (arith, element-length, sized.most);
    };
    numbers = record {
      namespace_below = omega (arith, small 4, small 5);
      flags_below = small 6;
      ext_below = small 1;
      kind_below = omega (arith, small 7, small 8, small 9);
      visit_below = visit_where-below octets 10 small second;
      flow_below = number-below (has_flow ext) numbers;
      seq_below = number-below (has_seq ext) behind;
    };
  }

-- ---- the octets of a record, by places

-- the octets behind the two numbers
behind_numbers : (f s : Option ℕ) (p q : Bool) (tail : List ℕ) → is_some f ≡ p → is_some s ≡ q
    → drop (four_where p + four_where q) (four_octets_if f ++ (four_octets_if s ++ tail)) ≡ tail
behind_numbers None None true q tail a b = absurd (cc)
behind_numbers None None false true tail a b = absurd (cc)
behind_numbers None None false false tail a b = refl
behind_numbers None (Some n) true q tail a b = absurd (cc)
behind_numbers None (Some n) false true tail a b = refl
behind_numbers None (Some n) false false tail a b = absurd (cc)
behind_numbers (Some m) s false q tail a b = absurd (cc)
behind_numbers (Some m) None true true tail a b = absurd (cc)
behind_numbers (Some m) None true false tail a b = refl
behind_numbers (Some m) (Some n) true true tail a b = refl
behind_numbers (Some m) (Some n) true false tail a b = absurd (cc)

pub behind_visit : (visit : Option (ℕ × ℕ)) (tail : List ℕ) → drop (twelve_where (has_visit (version_of visit))) (visit_octets visit ++ tail) ≡ tail
behind_visit None tail = refl
behind_visit (Some (time, inward)) tail = refl

visit-small : (there : Bool) → twelve_where there ≤ 12
visit-small true = omega arith
visit-small false = omega arith

four_octets_if-length : (f : Option ℕ) (p : Bool) → is_some f ≡ p → length (four_octets_if f) ≡ four_where p
four_octets_if-length None true a = absurd (cc)
four_octets_if-length None false a = refl
four_octets_if-length (Some n) true a = refl
four_octets_if-length (Some n) false a = absurd (cc)

numbers-small : (p q : Bool) → four_where p + four_where q ≤ 8
numbers-small true true = omega arith
numbers-small true false = omega arith
numbers-small false true = omega arith
numbers-small false false = omega arith

pub numbers_size-small : (ext : ℕ) → numbers_size ext ≤ 8
numbers_size-small ext = numbers-small (has_flow ext) (has_seq ext)

module _ (x : Record) (parts : HasItsParts x) where
  -- a record has as many octets as it says, 274 at most
  pub record_octets-length : length (record_octets x) ≡ record_size x
  record_octets-length = omega (
    arith,
    length-append (visit_octets x.visit) (four_octets_if x.flow ++ (four_octets_if x.seq ++ x.element)),
    length-append (four_octets_if x.flow) (four_octets_if x.seq ++ x.element),
    length-append (four_octets_if x.seq) x.element,
    visit_octets-length x.visit,
    four_octets_if-length x.flow (has_flow x.ext) parts.flow,
    four_octets_if-length x.seq (has_seq x.ext) parts.seq,
  )

  pub record_size-small : record_size x ≤ 274
  record_size-small = omega (arith, parts.short, numbers_size-small x.ext, visit-small (has_visit (version_of x.visit)))

  module _ (kind_below : x.kind < 16777216) (rest : List ℕ) where
    abbrev text : List ℕ
    text = record_octets x ++ rest

    length_of-record : length_of text ≡ record_size x
    length_of-record = omega (arith, record_size-small)

    kind_of-record : kind_of text ≡ x.kind
    kind_of-record = omega (arith, kind_below)

    abbrev version : ℕ
    version = version_of x.visit

    abbrev twelve : ℕ
    twelve = twelve_where (has_visit version)

    behind-front : drop (front_size version x.ext) text ≡ x.element ++ rest
    behind-front = sym (drop-drop (numbers_size x.ext) (10 + twelve) text)
        ∙ ap (drop (numbers_size x.ext)) (sym (drop-drop twelve 10 text) ∙ ap (drop twelve) (ap (drop 10) (record_octets-fields x rest))
        ∙ behind_visit x.visit (four_octets_if x.flow ++ (four_octets_if x.seq ++ (x.element ++ rest))))
        ∙ behind_numbers x.flow x.seq (has_flow x.ext) (has_seq x.ext) (x.element ++ rest) parts.flow parts.seq

    element_of-record : element_of text ≡ x.element
    element_of-record =
        ap (λ n. take (n - front_size version x.ext) (drop (front_size version x.ext) text)) length_of-record
        ∙ ap (take (record_size x - front_size version x.ext)) behind-front
        ∙ take_at x.element rest (record_size x - front_size version x.ext) (omega arith)

    pub IsWhole-record : IsWhole text
    IsWhole-record =
        let size = length_of-record in
        record {
          sized = record {
            begins = omega arith;
            version = version_of-is x.visit;
            least = omega arith;
            most = omega (arith, parts.short);
          };
          there = omega (arith, record_octets-length, length-append (record_octets x) rest);
          filled = (
              let P : ℕ → Type 0 = λ k. IsFilled k (element_of text) in
              let Q : List ℕ → Type 0 = λ e. IsFilled x.kind e in
              subst P (sym kind_of-record) (subst Q (sym element_of-record) parts.filled)
              );
        }

-- a record by its fields
record_by : (x y : Record) → x.namespace ≡ y.namespace → x.flags ≡ y.flags → x.ext ≡ y.ext → x.kind ≡ y.kind → x.visit ≡ y.visit → x.flow ≡ y.flow
    → x.seq ≡ y.seq → x.element ≡ y.element → x ≡ y
record_by x y n f e k v a b o =
    let same : ◌≡◌ {A = Record}
    (record { namespace = x.namespace; flags = x.flags; ext = x.ext; kind = x.kind; visit = x.visit; flow = x.flow; seq = x.seq; element = x.element })
    (record { namespace = y.namespace; flags = y.flags; ext = y.ext; kind = y.kind; visit = y.visit; flow = y.flow; seq = y.seq; element = y.element }) = cc in
    same

-- octets begin with one record
pub record_octets-same : (x y : Record) (r s : List ℕ) → IsRecord x → IsRecord y → record_octets x ++ r ≡ record_octets y ++ s → (x ≡ y) × (r ≡ s)
record_octets-same x y r s is_x is_y same =
    let whole = sym (record_octets-fields x r) ∙ same ∙ record_octets-fields y s in
    let version : version_of x.visit ≡ version_of y.visit = ap (λ xs. get_or xs 0 0) whole in
    let ext : x.ext ≡ y.ext = ap (λ xs. get_or xs 1 0) whole in
    let small_x = record_size-small x is_x.parts in
    let small_y = record_size-small y is_y.parts in
    let size = two_octets-same (record_size x) (record_size y) _ _ (omega arith) (omega arith) (ap (drop 2) whole) in
    let namespace = two_octets-same x.namespace y.namespace _ _ is_x.numbers.namespace_below is_y.numbers.namespace_below size.1 in
    let flags : x.flags ≡ y.flags = ap (λ xs. get_or xs 0 0) namespace.1 in
    let kind = three_octets-same x.kind y.kind _ _ is_x.numbers.kind_below is_y.numbers.kind_below (ap (drop 1) namespace.1) in
    let visit = visit_octets-same x.visit y.visit _ _ version is_x.numbers.visit_below is_y.numbers.visit_below kind.1 in
    let flow = four_octets_if-same x.flow y.flow _ _ (is_x.parts.flow ∙ ap has_flow ext ∙ sym is_y.parts.flow) is_x.numbers.flow_below is_y.numbers.flow_below visit.1 in
    let seq = four_octets_if-same x.seq y.seq _ _ (is_x.parts.seq ∙ ap has_seq ext ∙ sym is_y.parts.seq) is_x.numbers.seq_below is_y.numbers.seq_below flow.1 in
    let front : front_size (version_of x.visit) x.ext ≡ front_size (version_of y.visit) y.ext =
    ap (λ n. front_size n x.ext) version ∙ ap (front_size (version_of y.visit)) ext in
    let long : length x.element ≡ length y.element = omega (arith, size.0) in
    let element : x.element ≡ y.element =
    sym (take_at x.element r (length x.element) refl) ∙ ap (take (length x.element)) seq.1 ∙ ap (λ n. take n (y.element ++ s)) long ∙ take_at y.element s (length y.element) refl in
    let rest : r ≡ s =
    sym (drop_at x.element r (length x.element) refl) ∙ ap (drop (length x.element)) seq.1 ∙ ap (λ n. drop n (y.element ++ s)) long ∙ drop_at y.element s (length y.element) refl in
    (record_by x y namespace.0 flags ext kind.0 visit.0 flow.0 seq.0 element, rest)

-- ---- one record and nothing else

-- the octets of a record are whole, and as many as it says
pub Rec-whole : (octets : List ℕ) (x : Record) → Rec octets x → IsWhole octets × (length_of octets ≡ length octets)
Rec-whole octets x rec =
    let P : List ℕ → Type 0 = λ o. IsWhole o × (length_of o ≡ length o) in
    let alone = append-nil (record_octets x) in
    let whole = IsWhole-record x rec.sayable.parts rec.sayable.numbers.kind_below [] in
    let size = length_of-record x rec.sayable.parts rec.sayable.numbers.kind_below [] in
    subst P (sym (rec.is ∙ sym alone)) (whole, size ∙ sym (record_octets-length x rec.sayable.parts) ∙ ap length (sym alone))

-- and its type and its element are what it says
pub Rec-parts : (octets : List ℕ) (x : Record) → Rec octets x → (kind_of octets ≡ x.kind) × (element_of octets ≡ x.element)
Rec-parts octets x rec =
    let P : List ℕ → Type 0 = λ o. (kind_of o ≡ x.kind) × (element_of o ≡ x.element) in
    let parts = rec.sayable.parts in
    let below = rec.sayable.numbers.kind_below in
    subst P (sym (rec.is ∙ sym (append-nil (record_octets x)))) (kind_of-record x parts below [], element_of-record x parts below [])

-- the octets of a record by its places: nothing stands behind its element
pub record AtPlaces (octets : List ℕ) : Type 0 where
  pub begins : 10 ≤ length octets
  pub front : front_of octets ≤ length octets
  pub size : length octets ≡ length_of octets
  pub filled : IsFilled (kind_of octets) (element_of octets)
  pub short : length (element_of octets) ≤ most_exported

pub at_places : (octets : List ℕ) (x : Record) → Rec octets x → AtPlaces octets
at_places octets x rec =
    let whole = Rec-whole octets x rec in
    let behind = drop (front_of octets) octets in
    record {
      begins = omega (arith, whole.0.sized.least, whole.1);
      front = omega (arith, whole.0.sized.least, whole.1);
      size = sym whole.1;
      filled = whole.0.filled;
      short = omega (arith, length-take (length_of octets - front_of octets) behind, whole.0.sized.most);
    }

-- its element by its places
pub element_at : (octets : List ℕ) (front : ℕ) → front ≡ front_of octets → length octets ≡ length_of octets
    → take (length octets - front) (drop front octets) ≡ element_of octets
element_at octets front is size = ap₂ (λ (n : ℕ) (m : ℕ). take (n - m) (drop m octets)) size is

-- ---- what a step tells of a whole record

module _ (octets : List ℕ) (small : IsOctets octets) (whole : IsWhole octets) (x : Record) (says : x ≡ record_at octets) where
  step-record : IsRecord x
  step-record = let P : Record → Type 0 = λ y. IsRecord y in
      subst P (sym says) (IsRecord-record_at octets small whole.sized whole.there whole.filled)

  step-size : length (record_octets x) ≡ length_of octets
  step-size = record_octets-length x step-record.parts ∙ ap record_size says ∙ size-is octets small whole.sized whole.there

  pub step-whole : (size : ℕ) → size ≡ length_of octets → (size ≡ length (record_octets x)) × IsRecord x × (octets ≡ record_octets x ++ drop size octets)
  step-whole size is = (
    is ∙ sym step-size,
    step-record,
    octets-record_at octets small whole.sized whole.there ∙ ap (λ y. record_octets y ++ drop (length_of octets) octets) (sym says)
        ∙ ap (λ n. record_octets x ++ drop n octets) (sym is),
  )

-- octets in front of which a record stands say its length
pub front-length : (octets : List ℕ) (x : Record) (rest : List ℕ) → IsRecord x → octets ≡ record_octets x ++ rest → length_of octets ≡ length (record_octets x)
front-length octets x rest is_x front = ap length_of front ∙ length_of-record x is_x.parts is_x.numbers.kind_below rest ∙ sym (record_octets-length x is_x.parts)

-- octets are one record with one content
pub Rec-unique : (octets : List ℕ) (x y : Record) → Rec octets x → Rec octets y → x ≡ y
Rec-unique octets x y one other = (record_octets-same x y [] [] one.sayable other.sayable
    (append-nil (record_octets x) ∙ sym one.is ∙ other.is ∙ sym (append-nil (record_octets y)))).0
