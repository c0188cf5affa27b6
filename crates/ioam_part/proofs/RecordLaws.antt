-- Records of which pairs are.
use Rattle.std.proofs.Common.{◌≡◌, ℕ, ◌+◌, true, false, cond, List, [], ◌∷◌, ◌++◌, length, All, refl, sym, ap, ap₂, ◌∙◌, subst, arith, inl, inr, Option, None, Some}
use Rattle.std.specs.List.{flat_map}
use Rattle.std.proofs.lemmas.List.Elements.{All-nil, All-cons, All-head, All-tail}
use Rattle.ioam_base.specs.Words.{two_octets, three_octets, four_octets_if}
use Rattle.ioam_dex.specs.Record.{Record, IsRecord, record_octets, record_size}
use Rattle.ioam_dex.specs.Reads.{records_octets}
use Rattle.ioam_dex.specs.Visit.{visit_octets}
use Rattle.ioam_dex.proofs.RecordLaws.{record_octets-length}
use Rattle.ioam_pool.specs.Entry.{Entry, has_some, is_full}
use Rattle.ioam_collect.specs.Keyed.{core_of, keyed_of, keyed, with_keyed, hops_of}
use Rattle.ioam_collect.specs.declared.key.Key.{Key}
use Rattle.ioam_collect.proofs.Members.{Has}
use Rattle.ioam_part.specs.Part.{HasKey, told_octets, item_octets}
use Rattle.ioam_part.proofs.PartLaws.{item_parts, core_sayable, keyed-cons}

-- ---- one record

-- a record is spliced of its version 1 record and its visit
told_is : (x : Record) (visit : ℕ × ℕ) → IsRecord x → x.visit ≡ Some visit → told_octets (record_octets (core_of x)) (visit_octets x.visit) ≡ record_octets x
told_is x visit is_x is =
    let P : Option (ℕ × ℕ) → Type 0 = λ v. told_octets (record_octets (core_of x)) (visit_octets v) ≡ record_octets (record x { visit = v }) in
    let size : length (record_octets (core_of x)) ≡ record_size (core_of x) = record_octets-length (core_of x) (core_sayable x is_x).parts in
    let longer : length (record_octets (core_of x)) + 12 ≡ record_size (record x { visit = Some visit }) = omega (arith, size) in
    let rest : List ℕ = two_octets x.namespace ++ (x.flags ∷ (three_octets x.kind ++ (visit_octets (Some visit) ++ (four_octets_if x.flow ++ (four_octets_if x.seq ++ x.element))))) in
    subst P (sym is) (ap (λ n. 2 ∷ x.ext ∷ (two_octets n ++ rest)) longer)

item_by : (x : Record) (e : Entry) (visit : Option (ℕ × ℕ)) → IsRecord x → x.visit ≡ visit → e.core ≡ record_octets (core_of x) → e.extra ≡ visit_octets x.visit
    → item_octets e ≡ record_octets x
item_by x e None is_x is core extra =
    let none : e.extra ≡ [] = extra ∙ ap visit_octets is in
    let full : is_full e ≡ false = ap has_some none in
    let same : record_octets (core_of x) ≡ record_octets x = ap (λ v. record_octets (record x { visit = v })) (sym is) in
    ap (λ b. cond b (told_octets e.core e.extra) e.core) full ∙ core ∙ same
item_by x e (Some visit) is_x is core extra =
    let some : e.extra ≡ visit_octets (Some visit) = extra ∙ ap visit_octets is in
    let full : is_full e ≡ true = ap has_some some in
    ap (λ b. cond b (told_octets e.core e.extra) e.core) full ∙ ap₂ told_octets core extra ∙ told_is x visit is_x is

pub item_is : (x : Record) (p : Key × Entry) → IsRecord x → keyed_of x ≡ Some p → item_octets p.1 ≡ record_octets x
item_is x p is_x is =
    let parts = item_parts x x.flow x.seq (hops_of x) p is in
    item_by x p.1 x.visit is_x refl parts.0 parts.1

-- ---- the records of pairs

-- their octets, one behind the other
abbrev pub pairs_octets : List (Key × Entry) → List ℕ
pairs_octets ps = flat_map (λ (p : Key × Entry). item_octets p.1) ps

-- records for pairs
pub record For (ps : List (Key × Entry)) : Type 0 where
  pub records : List Record
  pub each : All IsRecord records
  pub keys : All HasKey records
  pub same : keyed records ≡ ps
  pub count : length records ≡ length ps
  pub octets : pairs_octets ps ≡ records_octets records

abbrev pub Says : Key × Entry → Type 0
Says p = (x : Record) × IsRecord x × (keyed_of x ≡ Some p)

pub records_for : (ps : List (Key × Entry)) → ((p : Key × Entry) → Has ps p → Says p) → For ps
records_for [] each = record { records = []; each = All-nil IsRecord; keys = All-nil HasKey; same = refl; count = refl; octets = refl }
records_for (p ∷ ps) each =
    let first = each p (inl refl) in
    let rest = records_for ps (λ q has. each q (inr has)) in
    let count = rest.count in
    record {
      records = first.0 ∷ rest.records;
      each = All-cons IsRecord first.0 rest.records first.1 rest.each;
      keys = All-cons HasKey first.0 rest.records (p, first.2) rest.keys;
      same = keyed-cons first.0 rest.records p first.2 ∙ ap (λ qs. p ∷ qs) rest.same;
      count = omega (arith, count);
      octets = ap₂ (λ (a b : List ℕ). a ++ b) (item_is first.0 p first.1 first.2) rest.octets;
    }

-- each pair is one of a record
said_by : (x : Record) (xs : List Record) (o : Option (Key × Entry)) → keyed_of x ≡ o → IsRecord x → (p : Key × Entry) → Has (with_keyed o (keyed xs)) p
    → (Has (keyed xs) p → Says p) → Says p
said_by x xs None is is_x p has more = more has
said_by x xs (Some q) is is_x p (inl same) more = (x, is_x, is ∙ ap (λ r. Some r) same)
said_by x xs (Some q) is is_x p (inr has) more = more has

pub said : (xs : List Record) → All IsRecord xs → (p : Key × Entry) → Has (keyed xs) p → Says p
said [] all p has = absurd has
said (x ∷ xs) all p has = said_by x xs (keyed_of x) refl (All-head IsRecord x xs all) p has (said xs (All-tail IsRecord x xs all) p)
