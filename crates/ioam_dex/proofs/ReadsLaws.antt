-- Laws of records one behind the other.
use Rattle.std.proofs.Common.{◌≡◌, ℕ, ◌<◌, ◌⊎◌, List, [], ◌∷◌, ◌++◌, length, All, arith, refl, sym, ap, ◌∙◌, subst, inl, inr, append_assoc}
use Rattle.std.proofs.lemmas.List.{append-nil}
use Rattle.std.proofs.lemmas.List.Elements.{All-head, All-tail, All-push, All-append}
use Rattle.ioam_dex.specs.declared.export.ExportFault.{ExportFault}
use Rattle.ioam_dex.specs.declared.export.ExportFault.TheVariants as fault
use Rattle.ioam_dex.specs.Record.{Record, IsRecord, record_octets}
use Rattle.ioam_dex.specs.Faults.{Fault, IsCut}
use Rattle.ioam_dex.specs.Reads.{records_octets, Splits, Ending, Whole, Faulty, EndsAt, Reads}
use Rattle.ioam_dex.proofs.RecordLaws.{IsWhole-record, record_octets-same}
use Rattle.ioam_dex.proofs.FaultLaws.{whole-not-cut, whole-not-faulty, cut-not-faulty, fault-unique, fault-inside, Fault-behind}

-- the octets of two lists of records
pub records_octets-append : (xs ys : List Record) → records_octets (xs ++ ys) ≡ records_octets xs ++ records_octets ys
records_octets-append [] ys = refl
records_octets-append (x ∷ xs) ys = ap (λ r. record_octets x ++ r) (records_octets-append xs ys) ∙ sym (append_assoc (record_octets x) (records_octets xs) (records_octets ys))

-- the records of octets that come in two pieces are those of the first, and those of its rest with the second
pub Splits-append : (a b : List ℕ) (xs ys : List Record) (r s : List ℕ) → Splits a xs r → Splits (r ++ b) ys s → Splits (a ++ b) (xs ++ ys) s
Splits-append a b xs ys r s first second = record {
  each = All-append IsRecord xs ys first.each second.each;
  is = ap (λ o. o ++ b) first.is ∙ append_assoc (records_octets xs) r b ∙ ap (λ o. records_octets xs ++ o) second.is
      ∙ sym (append_assoc (records_octets xs) (records_octets ys) s) ∙ ap (λ o. o ++ s) (sym (records_octets-append xs ys));
}

-- a piece more behind the rest
pub Splits-feed : (octets piece : List ℕ) (xs : List Record) (rest : List ℕ) → Splits octets xs rest → Splits (octets ++ piece) xs (rest ++ piece)
Splits-feed octets piece xs rest splits = record {
  each = splits.each;
  is = ap (λ o. o ++ piece) splits.is ∙ append_assoc (records_octets xs) rest piece;
}

-- a record more in front of the rest
pub Splits-push : (octets : List ℕ) (xs : List Record) (rest : List ℕ) (x : Record) (behind : List ℕ) → Splits octets xs rest → IsRecord x
    → rest ≡ record_octets x ++ behind → Splits octets (xs ++ x ∷ []) behind
Splits-push octets xs rest x behind splits is_x front = record {
  each = All-push IsRecord xs x splits.each is_x;
  is = splits.is ∙ ap (λ o. records_octets xs ++ o) front ∙ sym (append_assoc (records_octets xs) (record_octets x) behind)
      ∙ ap (λ o. (records_octets xs ++ o) ++ behind) (sym (append-nil (record_octets x)))
      ∙ ap (λ o. o ++ behind) (sym (records_octets-append xs (x ∷ [])));
}

-- no whole record stands at the front
abbrev pub NoRecord : List ℕ → Type 0
NoRecord rest = (x : Record) (behind : List ℕ) → IsRecord x → rest ≡ record_octets x ++ behind → ⊥

pub cut-no-record : (rest : List ℕ) → IsCut rest → NoRecord rest
cut-no-record rest cut x behind is_x front =
    let P : List ℕ → Type 0 = λ o. IsCut o in
    whole-not-cut (record_octets x ++ behind) (IsWhole-record x is_x.parts is_x.numbers.kind_below behind) (subst P front cut)

pub fault-no-record : (rest : List ℕ) (f : ExportFault) → Fault rest f → NoRecord rest
fault-no-record rest f bad x behind is_x front =
    let P : List ℕ → Type 0 = λ o. Fault o f in
    whole-not-faulty (record_octets x ++ behind) f (IsWhole-record x is_x.parts is_x.numbers.kind_below behind) (subst P front bad)

-- octets are records and a rest that begins with none in one way
pub Splits-unique : (xs ys : List Record) (r s : List ℕ) → All IsRecord xs → All IsRecord ys → NoRecord r → NoRecord s
    → records_octets xs ++ r ≡ records_octets ys ++ s → (xs ≡ ys) × (r ≡ s)
Splits-unique [] [] r s all_x all_y no_r no_s same = (refl, same)
Splits-unique [] (y ∷ ys) r s all_x all_y no_r no_s same =
    absurd (no_r y (records_octets ys ++ s) (All-head IsRecord y ys all_y) (same ∙ append_assoc (record_octets y) (records_octets ys) s))
Splits-unique (x ∷ xs) [] r s all_x all_y no_r no_s same =
    absurd (no_s x (records_octets xs ++ r) (All-head IsRecord x xs all_x) (sym same ∙ append_assoc (record_octets x) (records_octets xs) r))
Splits-unique (x ∷ xs) (y ∷ ys) r s all_x all_y no_r no_s same =
    let whole = sym (append_assoc (record_octets x) (records_octets xs) r) ∙ same ∙ append_assoc (record_octets y) (records_octets ys) s in
    let first = record_octets-same x y (records_octets xs ++ r) (records_octets ys ++ s) (All-head IsRecord x xs all_x) (All-head IsRecord y ys all_y) whole in
    let rest = Splits-unique xs ys r s (All-tail IsRecord x xs all_x) (All-tail IsRecord y ys all_y) no_r no_s first.1 in
    let head : x ≡ y = first.0 in
    let tail : xs ≡ ys = rest.0 in
    (cc, rest.1)

-- ---- endings

-- a fault of what an ended input leaves over
abbrev IsShort : List ℕ → ExportFault → Type 0
IsShort rest f = (have : ℕ) × (f ≡ fault.Short have) × IsCut rest × (have ≡ length rest) × (0 < have)

ends-cases : (at : ℕ) (rest : List ℕ) (place : ℕ) (f : ExportFault) → EndsAt at rest (Faulty place f) → (place ≡ at) × (Fault rest f ⊎ IsShort rest f)
ends-cases at rest place (fault.Version found) ends = (ends.0, inl ends.1)
ends-cases at rest place (fault.Length found) ends = (ends.0, inl ends.1)
ends-cases at rest place (fault.Element front) ends = (ends.0, inl ends.1)
ends-cases at rest place (fault.Short have) ends = (ends.0, inr (have, refl, ends.1, ends.2, ends.3))

pub ends_by_fault : (at : ℕ) (rest : List ℕ) (f : ExportFault) → Fault rest f → EndsAt at rest (Faulty at f)
ends_by_fault at rest (fault.Version found) bad = (refl, bad)
ends_by_fault at rest (fault.Length found) bad = (refl, bad)
ends_by_fault at rest (fault.Element front) bad = (refl, bad)
ends_by_fault at rest (fault.Short have) bad = absurd bad

whole-or-faulty : (at : ℕ) (rest : List ℕ) (place : ℕ) (f : ExportFault) → rest ≡ [] → EndsAt at rest (Faulty place f) → ⊥
whole-or-faulty at rest place f none ends = elim (ends-cases at rest place f ends).1 [
  | inl bad ↦ omega (arith, fault-inside rest f bad, ap length none)
  | inr short ↦ let (have, is, cut, many, some) = short in omega (arith, ap length none)
]

faults-unique : (rest : List ℕ) (f g : ExportFault) → (Fault rest f ⊎ IsShort rest f) → (Fault rest g ⊎ IsShort rest g) → f ≡ g
faults-unique rest f g (inl x) (inl y) = fault-unique rest f g x y
faults-unique rest f g (inl x) (inr y) = absurd (cut-not-faulty rest f y.2 x)
faults-unique rest f g (inr x) (inl y) = absurd (cut-not-faulty rest g x.2 y)
faults-unique rest f g (inr x) (inr y) =
    let (have, is, cut, many, some) = x in
    let (had, was, cuts, much, more) = y in
    let same : have ≡ had = omega arith in
    is ∙ ap fault.Short same ∙ sym was

ends-unique : (at : ℕ) (rest : List ℕ) (d e : Ending) → EndsAt at rest d → EndsAt at rest e → d ≡ e
ends-unique at rest Whole Whole x y = refl
ends-unique at rest Whole (Faulty p f) x y = absurd (whole-or-faulty at rest p f x y)
ends-unique at rest (Faulty p f) Whole x y = absurd (whole-or-faulty at rest p f y x)
ends-unique at rest (Faulty p f) (Faulty q g) x y =
    let first = ends-cases at rest p f x in
    let second = ends-cases at rest q g y in
    let same = faults-unique rest f g first.1 second.1 in
    let place : p ≡ q = first.0 ∙ sym second.0 in
    cc

nothing-no-record : (rest : List ℕ) → rest ≡ [] → NoRecord rest
nothing-no-record rest none x behind is_x front = absurd (cc)

ends-no-record : (at : ℕ) (rest : List ℕ) (d : Ending) → EndsAt at rest d → NoRecord rest
ends-no-record at rest Whole none = nothing-no-record rest none
ends-no-record at rest (Faulty p f) ends = elim (ends-cases at rest p f ends).1 [
  | inl bad ↦ fault-no-record rest f bad
  | inr short ↦ cut-no-record rest short.2
]

-- octets read in one way
pub Reads-unique : (octets : List ℕ) (xs ys : List Record) (d e : Ending) → Reads octets xs d → Reads octets ys e → (xs ≡ ys) × (d ≡ e)
Reads-unique octets xs ys d e x y =
    let no_x = ends-no-record _ x.rest d x.ends in
    let no_y = ends-no-record _ y.rest e y.ends in
    let same = Splits-unique xs ys x.rest y.rest x.splits.each y.splits.each no_x no_y (sym x.splits.is ∙ y.splits.is) in
    let P : List ℕ → Type 0 = λ r. EndsAt (length (records_octets ys)) r e in
    let Q : List Record → Type 0 = λ zs. EndsAt (length (records_octets zs)) x.rest e in
    let there : EndsAt (length (records_octets xs)) x.rest e = subst Q (sym same.0) (subst P (sym same.1) y.ends) in
    (same.0, ends-unique (length (records_octets xs)) x.rest d e x.ends there)

-- records that were written are read as they were, to the end
pub Reads-octets : (xs : List Record) → All IsRecord xs → Reads (records_octets xs) xs Whole
Reads-octets xs all = record { rest = []; splits = record { each = all; is = sym (append-nil (records_octets xs)) }; ends = refl }

-- octets with a fault end there, whatever stands behind
pub Reads-faulty : (octets : List ℕ) (xs : List Record) (rest : List ℕ) (f : ExportFault) → Splits octets xs rest → Fault rest f
    → (more : List ℕ) → Reads (octets ++ more) xs (Faulty (length (records_octets xs)) f)
Reads-faulty octets xs rest f splits bad more = record {
  rest = rest ++ more;
  splits = Splits-feed octets more xs rest splits;
  ends = ends_by_fault (length (records_octets xs)) (rest ++ more) f (Fault-behind rest more f bad);
}
