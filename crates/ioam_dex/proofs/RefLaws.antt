-- Laws of records that are held as their octets.
use Rattle.std.proofs.Common.{◌≡◌, ◌≢◌, ◌==◌, ℕ, ◌-◌, ◌≤◌, List, [], ◌∷◌, ◌++◌, length, take, drop, All, Bool, true, false, arith, refl, sym, ap, ◌∙◌, subst, inl, inr, length-append}
use Rattle.std.specs.Option.{is_some}
use Rattle.std.proofs.Math.Logic.{∥∥₁_elim}
use Rattle.std.proofs.Props.{props}
use Rattle.ioam_data.specs.Elements.{IsElement, IsFilled, IsVoid}
use Rattle.ioam_data.specs.Kind.{words}
use Rattle.std.specs.Cmp.Lexicographic.{slice_cmp}
use Rattle.std.specs.Ordering.{nat_cmp, ordering_then}
use Rattle.std.specs.declared.cmp.Ordering.{Ordering}
use Rattle.std.specs.declared.cmp.Ordering.TheVariants.{Less, Equal, Greater}
use Rattle.std.proofs.lemmas.List.{append-nil, drop_all, drop-drop, take_at, drop_at}
use Rattle.std.proofs.lemmas.List.Elements.{All-head, All-tail}
use Rattle.ioam_base.specs.Octets.{IsOctets}
use Rattle.ioam_base.specs.Words.{two_octets, four_octets_if}
use Rattle.ioam_dex.specs.Visit.{visit_octets, visit_where}
use Rattle.ioam_dex.specs.Record.{Record, IsRecord, Rec, record_at, record_octets, record_size, length_of}
use Rattle.ioam_dex.specs.Reads.{records_octets}
use Rattle.ioam_dex.specs.declared.record_ref.RecordRef.{RecordRef}
use Rattle.ioam_dex.specs.RecordRef.{AreRecords, content, fields_between, plain, plain_head, plain_tail, visit_size}
use Rattle.ioam_dex.proofs.RecordLaws.{Rec-whole, Rec-unique, behind_visit, front-length, numbers_size-small, record_octets-length, record_size-small, step-whole}
use Rattle.ioam_dex.proofs.VisitLaws.{visit_octets-length}

-- ---- one record

-- octets that are a record say by their places what it says
pub Rec-at : (octets : List ℕ) (x : Record) → IsOctets octets → Rec octets x → Rec octets (record_at octets)
Rec-at octets x small rec =
    let whole = Rec-whole octets x rec in
    let found = step-whole octets small whole.0 (record_at octets) refl (length octets) (sym whole.1) in
    record {
      sayable = found.1;
      is = found.2 ∙ ap (λ r. record_octets (record_at octets) ++ r) (drop_all (length octets) octets (omega arith)) ∙ append-nil (record_octets (record_at octets));
    }

-- and they are few
pub Rec-short : (octets : List ℕ) (x : Record) → Rec octets x → length octets ≤ 274
Rec-short octets x rec =
    omega (arith, ap length rec.is, record_octets-length x rec.sayable.parts, record_size-small x rec.sayable.parts)

pub visit_where-is_some : (there : Bool) (octets : List ℕ) (at : ℕ) → is_some (visit_where there octets at) ≡ there
visit_where-is_some true octets at = refl
visit_where-is_some false octets at = refl

-- ---- a record without its visit

module _ (x : Record) (is_x : IsRecord x) where
  abbrev text : List ℕ
  text = record_octets x

  abbrev tail : List ℕ
  tail = four_octets_if x.flow ++ (four_octets_if x.seq ++ x.element)

  tail-is : plain_tail text ≡ tail
  tail-is = sym (drop-drop (visit_size text) 10 text) ∙ behind_visit x.visit tail

  plain-size : record_size (plain x) ≡ length text - visit_size text
  plain-size = omega (arith, record_octets-length x is_x.parts)

  plain-parts : record_octets (plain x) ≡ plain_head text ++ (fields_between text ++ plain_tail text)
  plain-parts =
      ap (λ n. 1 ∷ x.ext ∷ (two_octets n ++ (fields_between text ++ tail))) plain-size
      ∙ ap (λ t. plain_head text ++ (fields_between text ++ t)) (sym tail-is)

  visit-is : take (visit_size text) (drop 10 text) ≡ visit_octets x.visit
  visit-is = take_at (visit_octets x.visit) tail (visit_size text) (visit_octets-length x.visit)

  plain-short : length (record_octets (plain x)) ≤ 262
  plain-short = omega (
    arith,
    record_octets-length (plain x) (record { flow = is_x.parts.flow; seq = is_x.parts.seq; filled = is_x.parts.filled; short = is_x.parts.short }),
    is_x.parts.short,
    numbers_size-small x.ext,
  )

module _ (octets : List ℕ) (x : Record) (rec : Rec octets x) where
  -- the version 1 record of a record in three parts of its octets
  pub plain-is : record_octets (plain x) ≡ plain_head octets ++ (fields_between octets ++ plain_tail octets)
  plain-is =
      let P : List ℕ → Type 0 = λ o. record_octets (plain x) ≡ plain_head o ++ (fields_between o ++ plain_tail o) in
      subst P (sym rec.is) (plain-parts x rec.sayable)

  pub fields_between-length : length (fields_between octets) ≡ 6
  fields_between-length =
      let P : List ℕ → Type 0 = λ o. length (fields_between o) ≡ 6 in
      subst P (sym rec.is) refl

  pub visit_octets-at : take (visit_size octets) (drop 10 octets) ≡ visit_octets x.visit
  visit_octets-at =
      let P : List ℕ → Type 0 = λ o. take (visit_size o) (drop 10 o) ≡ visit_octets x.visit in
      subst P (sym rec.is) (visit-is x rec.sayable)

  pub plain-small : length (record_octets (plain x)) ≤ 262
  plain-small = plain-short x rec.sayable

  -- it is a record
  pub plain-rec : Rec (record_octets (plain x)) (plain x)
  plain-rec = record {
    sayable = record {
      parts = record { flow = rec.sayable.parts.flow; seq = rec.sayable.parts.seq; filled = rec.sayable.parts.filled; short = rec.sayable.parts.short };
      numbers = record {
        namespace_below = rec.sayable.numbers.namespace_below;
        flags_below = rec.sayable.numbers.flags_below;
        ext_below = rec.sayable.numbers.ext_below;
        kind_below = rec.sayable.numbers.kind_below;
        visit_below = tt;
        flow_below = rec.sayable.numbers.flow_below;
        seq_below = rec.sayable.numbers.seq_below;
      };
    };
    is = refl;
  }

-- ---- the order of octets

then-then : (a b c : Ordering) → ordering_then (ordering_then a b) c ≡ ordering_then a (ordering_then b c)
then-then Less b c = refl
then-then Equal b c = refl
then-then Greater b c = refl

-- octets that begin with as many are compared by these first
slice_cmp-append : (xs ys us vs : List ℕ) → length xs ≡ length ys
    → slice_cmp nat_cmp (xs ++ us) (ys ++ vs) ≡ ordering_then (slice_cmp nat_cmp xs ys) (slice_cmp nat_cmp us vs)
slice_cmp-append [] [] us vs same = refl
slice_cmp-append [] (y ∷ ys) us vs same = absurd (omega (arith, same))
slice_cmp-append (x ∷ xs) [] us vs same = absurd (omega (arith, same))
slice_cmp-append (x ∷ xs) (y ∷ ys) us vs same =
    ap (ordering_then (nat_cmp x y)) (slice_cmp-append xs ys us vs (omega (arith, same)))
    ∙ sym (then-then (nat_cmp x y) (slice_cmp nat_cmp xs ys) (slice_cmp nat_cmp us vs))

-- two records without their visits are compared part by part
pub plain-cmp : (one two : List ℕ) (x y : Record) → Rec one x → Rec two y
    → slice_cmp nat_cmp (record_octets (plain x)) (record_octets (plain y))
    ≡ ordering_then (slice_cmp nat_cmp (plain_head one) (plain_head two))
    (ordering_then (slice_cmp nat_cmp (fields_between one) (fields_between two)) (slice_cmp nat_cmp (plain_tail one) (plain_tail two)))
plain-cmp one two x y rec other =
    ap (λ o. slice_cmp nat_cmp o (record_octets (plain y))) (plain-is one x rec)
    ∙ ap (λ o. slice_cmp nat_cmp (plain_head one ++ (fields_between one ++ plain_tail one)) o) (plain-is two y other)
    ∙ slice_cmp-append (plain_head one) (plain_head two) (fields_between one ++ plain_tail one) (fields_between two ++ plain_tail two) refl
    ∙ ap (ordering_then (slice_cmp nat_cmp (plain_head one) (plain_head two)))
    (slice_cmp-append (fields_between one) (fields_between two) (plain_tail one) (plain_tail two)
    (fields_between-length one x rec ∙ sym (fields_between-length two y other)))

-- ---- records one after another

-- what octets begin with that are records, if they are any
pub record BeginsWith (octets : List ℕ) : Type 0 where
  pub first : Record
  pub others : List Record
  pub is_first : IsRecord first
  pub are : All IsRecord others
  pub size : length_of octets ≡ length (record_octets first)
  pub is : octets ≡ record_octets first ++ records_octets others

pub begins_with : (octets : List ℕ) → AreRecords octets → octets ≢ [] → BeginsWith octets
begins_with octets ([], all, is) some = absurd (some is)
begins_with octets (x ∷ xs, all, is) some =
    let is_x : IsRecord x = All-head IsRecord x xs all in
    record {
      first = x;
      others = xs;
      is_first = is_x;
      are = All-tail IsRecord x xs all;
      size = front-length octets x (records_octets xs) is_x is;
      is = is;
    }

nonempty : (octets : List ℕ) → false ≡ (length octets == 0) → octets ≡ [] → ⊥
nonempty [] some none = absurd (cc some)
nonempty (o ∷ os) some none = absurd (cc none)

pub begun : (octets : List ℕ) → AreRecords octets → false ≡ (length octets == 0) → BeginsWith octets
begun octets are some = begins_with octets are (nonempty octets some)

module _ (octets : List ℕ) (begins : BeginsWith octets) where
  pub first_some : 4 ≤ length octets
  first_some = omega (arith, ap length begins.is, length-append (record_octets begins.first) (records_octets begins.others))

  pub first_fits : length_of octets ≤ length octets
  first_fits = omega (arith, begins.size, ap length begins.is, length-append (record_octets begins.first) (records_octets begins.others))

  pub first_rec : Rec (take (length_of octets) octets) begins.first
  first_rec = record {
    sayable = begins.is_first;
    is = ap (take (length_of octets)) begins.is ∙ take_at (record_octets begins.first) (records_octets begins.others) (length_of octets) (sym begins.size);
  }

  pub others_are : AreRecords (drop (length_of octets) octets)
  others_are = (
    begins.others,
    begins.are,
    ap (drop (length_of octets)) begins.is ∙ drop_at (record_octets begins.first) (records_octets begins.others) (length_of octets) (sym begins.size),
  )

-- ---- what a record says that is held as its octets

IsElement-prop : (kind node_len : ℕ) (e : List ℕ) → IsProp (IsElement kind node_len e)
IsElement-prop kind node_len e = Prim.hlevel props

IsVoid-prop : (kind : ℕ) (e : List ℕ) → IsProp (IsVoid kind e)
IsVoid-prop kind e = Prim.hlevel props

IsFilled-prop : (kind : ℕ) (e : List ℕ) → IsProp (IsFilled kind e)
IsFilled-prop kind e (inl a) (inl b) = ap inl (IsElement-prop kind (words kind) e a b)
IsFilled-prop kind e (inl a) (inr b) = absurd (omega (arith, a.stands.filled, a.whole, ap length b.nothing))
IsFilled-prop kind e (inr a) (inl b) = absurd (omega (arith, b.stands.filled, b.whole, ap length a.nothing))
IsFilled-prop kind e (inr a) (inr b) = ap inr (IsVoid-prop kind e a b)

Rec-prop : (octets : List ℕ) (x : Record) → IsProp (Rec octets x)
Rec-prop octets x = Prim.hlevel (props, IsFilled-prop)

-- a record that is there is one
pub Rec-had : (octets : List ℕ) (x : Record) → ∥ Rec octets x ∥₁ → Rec octets x
Rec-had octets x had = ∥∥₁_elim had (Rec-prop octets x) (λ rec. rec)

pub content-rec : (r : RecordRef) → Rec r.octets.now (content r)
unfolding content
content-rec r = Rec-had r.octets.now (record_at r.octets.now) r.whole

-- it is what they say by their places
pub content-at : (r : RecordRef) → content r ≡ record_at r.octets.now
unfolding content
content-at r = refl

pub content-is : (r : RecordRef) (x : Record) → Rec r.octets.now x → content r ≡ x
content-is r x rec = Rec-unique r.octets.now (content r) x (content-rec r) rec
