-- A front of the octets of records reads as the first of them, each whole, and at most the front of one more.
use Rattle.std.proofs.Common.{◌≡◌, ℕ, ◌<◌, ◌≤◌, List, [], ◌∷◌, ◌++◌, length, drop, get_or, append-nil, append_assoc, refl, sym, ap, ap₂, ◌∙◌, subst, inl, inr, arith}
use Rattle.std.specs.List.{AllByRecursion}
use Rattle.std.proofs.lemmas.Bool.{cases_lt}
use Rattle.std.proofs.lemmas.List.{append_cancel_left, get_or_append_left}
use Rattle.std.proofs.lemmas.List.Elements.{All-from_recursion}
use Rattle.ioam_base.specs.Octets.{IsFront}
use Rattle.ioam_base.proofs.OctetsLaws.{u16_at-append}
use Rattle.ioam_dex.specs.Faults.{IsCut}
use Rattle.ioam_dex.specs.Reads.{EndsAt, Reads, Splits, records_octets}
use Rattle.ioam_dex.specs.Record.{IsRecord, Record, front_of, front_size, length_of, record_octets}
use Rattle.ioam_dex.specs.Visit.{IsVersion}
use Rattle.ioam_dex.proofs.FaultLaws.{IsWhole}
use Rattle.ioam_dex.proofs.ReadsLaws.{NoRecord, Reads-unique}
use Rattle.ioam_dex.proofs.RecordLaws.{IsWhole-record, front-length, record_octets-same}
use Rattle.ioam_collect_laws.specs.Exported.{AreFirst, IsFrontOfNext, ReadsFront, ending_with}

-- of two lists that begin the same octets the shorter begins the longer
shorter : (a b c d : List ℕ) → a ++ b ≡ c ++ d → length a ≤ length c → IsFront a c
shorter [] b c d same fits = record { rest = c; is = refl }
shorter (x ∷ a) b [] d same fits = absurd (omega (arith, fits))
shorter (x ∷ a) b (y ∷ c) d same fits =
    let begin = shorter a b c d (ap (drop 1) same) (omega (arith, fits)) in
    record { rest = begin.rest; is = ap₂ (λ (z : ℕ) zs. z ∷ zs) (sym (ap (λ xs. get_or xs 0 0) same)) begin.is }

nothing_before : (front rest : List ℕ) → [] ≡ front ++ rest → front ≡ []
nothing_before [] rest same = refl
nothing_before (x ∷ front) rest same = absurd (cc same)

-- ---- a front of a record

module _ (octets more : List ℕ) (whole : IsWhole (octets ++ more)) where
  octet_same : (i : ℕ) → i < length octets → get_or (octets ++ more) i 0 ≡ get_or octets i 0
  octet_same i inside = get_or_append_left octets more 0 i inside

  length_same : 4 ≤ length octets → length_of (octets ++ more) ≡ length_of octets
  length_same fits = u16_at-append octets more 2 fits

  front_same : 4 ≤ length octets → front_of (octets ++ more) ≡ front_of octets
  front_same fits = ap (λ n. front_size n (get_or (octets ++ more) 1 0)) (octet_same 0 (omega (arith, fits)))
      ∙ ap (front_size (get_or octets 0 0)) (octet_same 1 (omega (arith, fits)))

  version_is : 0 < length octets → IsVersion (get_or octets 0 0)
  version_is some = let P : ℕ → Type 0 = λ n. IsVersion n in subst P (octet_same 0 some) whole.sized.version

  -- it is cut
  front_cut : length octets < length_of (octets ++ more) → IsCut octets
  front_cut few = elim (cases_lt (length octets) 1) [
    | inl none ↦ inl none
    | inr some ↦ elim (cases_lt (length octets) 4) [
      | inl short ↦ inr (inl (version_is (omega (arith, some)), short))
      | inr begins ↦ (
          let size = length_same (omega (arith, begins)) in
          let front = front_same (omega (arith, begins)) in
          inr (inr (
            record {
              begins = omega (arith, begins);
              version = version_is (omega (arith, begins));
              least = omega (arith, whole.sized.least, size, front);
              most = omega (arith, whole.sized.most, size, front);
            },
            omega (arith, few, size),
          )))
    ]
  ]

-- octets that begin a record and aren't all of it are cut
record_cut : (x : Record) (octets : List ℕ) → IsRecord x → IsFront octets (record_octets x) → length octets < length (record_octets x) → IsCut octets
record_cut x octets is_x front few =
    let alone : record_octets x ++ [] ≡ octets ++ front.rest = append-nil (record_octets x) ∙ front.is in
    let whole = subst IsWhole alone (IsWhole-record x is_x.parts is_x.numbers.kind_below []) in
    let size : length_of (octets ++ front.rest) ≡ length (record_octets x) = front-length (octets ++ front.rest) x [] is_x (sym alone) in
    front_cut octets front.rest whole (omega (arith, few, size))

-- ---- a front of records

-- the octets are the first of these records, and at most the front of the next
record Divides (all : List Record) (octets : List ℕ) : Type 0 where
  pub read : List Record
  pub more : List Record
  pub left : List ℕ
  pub are : all ≡ read ++ more
  pub each : AllByRecursion IsRecord read
  pub next : IsFrontOfNext more left
  pub cut : IsCut left
  pub is : octets ≡ records_octets read ++ left

divided : (all : List Record) (octets rest : List ℕ) → AllByRecursion IsRecord all → records_octets all ≡ octets ++ rest → Divides all octets
divided [] octets rest each same =
    let none = nothing_before octets rest same in
    record { read = []; more = []; left = octets; are = refl; each = tt; next = none; cut = inl (omega (arith, ap length none)); is = refl }
divided (x ∷ all) octets rest each same = elim (cases_lt (length octets) (length (record_octets x))) [
  | inl few ↦ (
      let front = shorter octets rest (record_octets x) (records_octets all) (sym same) (omega (arith, few)) in
      record { read = []; more = x ∷ all; left = octets; are = refl; each = tt; next = (front, few); cut = record_cut x octets each.0 front few; is = refl })
  | inr many ↦ (
      let size : length (record_octets x) ≤ length octets = omega (arith, many) in
      let front = shorter (record_octets x) (records_octets all) octets rest same size in
      let whole : record_octets x ++ records_octets all ≡ record_octets x ++ (front.rest ++ rest) =
      same ∙ ap (λ o. o ++ rest) front.is ∙ append_assoc (record_octets x) front.rest rest in
      let behind = append_cancel_left (record_octets x) (records_octets all) (front.rest ++ rest) whole in
      let found = divided all front.rest rest each.1 behind in
      record {
        read = x ∷ found.read;
        more = found.more;
        left = found.left;
        are = ap (λ xs. x ∷ xs) found.are;
        each = (each.0, found.each);
        next = found.next;
        cut = found.cut;
        is = front.is ∙ ap (λ o. record_octets x ++ o) found.is ∙ sym (append_assoc (record_octets x) (records_octets found.read) found.left);
      })
]

-- what is left behind whole records, and is cut, ends the octets
ends_with : (read : List Record) (left : List ℕ) → IsCut left → EndsAt (length (records_octets read)) left (ending_with read left)
ends_with read [] cut = refl
ends_with read (octet ∷ left) cut = (refl, cut, refl, omega arith)

pub front-reads : (all : List Record) (octets : List ℕ) → AllByRecursion IsRecord all → IsFront octets (records_octets all) → ReadsFront all octets
front-reads all octets each front =
    let found = divided all octets front.rest each front.is in
    let splits : Splits octets found.read found.left = record { each = All-from_recursion IsRecord found.read found.each; is = found.is } in
    let reads : Reads octets found.read (ending_with found.read found.left) =
    record { rest = found.left; splits = splits; ends = ends_with found.read found.left found.cut } in
    record {
      read = found.read;
      left = found.left;
      first = record { more = found.more; are = found.are };
      next = found.next;
      splits = splits;
      reads = reads;
      only = λ others other so. Reads-unique octets others found.read other (ending_with found.read found.left) so reads;
    }

-- ---- records that octets begin with

-- they are the first of those that they read as
pub first_among : (xs ys : List Record) (r s : List ℕ) → AllByRecursion IsRecord xs → AllByRecursion IsRecord ys → NoRecord s
    → records_octets xs ++ r ≡ records_octets ys ++ s → AreFirst xs ys
first_among [] ys r s all_x all_y none same = record { more = ys; are = refl }
first_among (x ∷ xs) [] r s all_x all_y none same =
    absurd (none x (records_octets xs ++ r) all_x.0 (sym same ∙ append_assoc (record_octets x) (records_octets xs) r))
first_among (x ∷ xs) (y ∷ ys) r s all_x all_y none same =
    let whole : record_octets x ++ (records_octets xs ++ r) ≡ record_octets y ++ (records_octets ys ++ s) =
    sym (append_assoc (record_octets x) (records_octets xs) r) ∙ same ∙ append_assoc (record_octets y) (records_octets ys) s in
    let first = record_octets-same x y (records_octets xs ++ r) (records_octets ys ++ s) all_x.0 all_y.0 whole in
    let rest = first_among xs ys r s all_x.1 all_y.1 none first.1 in
    record { more = rest.more; are = ap₂ (λ (z : Record) zs. z ∷ zs) (sym first.0) rest.are }
