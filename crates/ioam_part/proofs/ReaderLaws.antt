-- A part that is read in pieces.
use Rattle.std.proofs.Common.{◌≡◌, ℕ, ◌+◌, ◌-◌, ◌<◌, ◌≤◌, Bool, true, false, List, [], ◌++◌, length, length-append, length-take, take, drop, append_assoc, refl, sym, ap, ap₂, ◌∙◌, subst, arith, ◌⊎◌, inl, inr, Option, None, Some}
use Rattle.std.specs.Prelude.{is_some, max, min, Result, Ok, Err, IfOk}
use Rattle.std.proofs.lemmas.Bool.Decides.{nat_tests}
use Rattle.std.proofs.lemmas.List.{append-nil, take-append-drop, take_all}
use Rattle.ioam_base.specs.Octets.{u32_at}
use Rattle.ioam_dex.specs.Faults.{IsCut}
use Rattle.ioam_dex.specs.Record.{Record}
use Rattle.ioam_dex.specs.Reader as dex
use Rattle.ioam_dex.specs.Reading.{Reading}
use Rattle.ioam_dex.specs.Reads.{records_octets}
use Rattle.ioam_dex.specs.Visit.{has_visit, twelve_where}
use Rattle.ioam_dex.proofs.RecordLaws.{numbers_size-small}
use Rattle.ioam_collect.specs.Collected.{count_kept}
use Rattle.ioam_part.specs.Part.{most_records, head_octets, IsPart}
use Rattle.ioam_part.specs.Faults.{Reaches, IsBehindHead, HasFault}
use Rattle.ioam_part.specs.Reading.{PartReading, Holds, Took, IsOpen, IsBehind, StandsBy, Stands, IsReadAs, FoundBehind, HoldsFew, Stops}
use Rattle.ioam_part.specs.declared.fault.PartFault.{PartFault}
use Rattle.ioam_part.specs.declared.fault.PartFault.TheVariants as fault
use Rattle.ioam_part.proofs.HeadLaws.{count_same}
use Rattle.ioam_part.proofs.TakingLaws.{count_all, took_fed, start_small}

-- what is known of an answer
pub if_ok : {T E : Type 0} (r : Result T E) (P Q : T → Type 0) → IfOk r P → ((x : T) → P x → Q x) → IfOk r Q
if_ok (Ok x) P Q known gives = gives x known
if_ok (Err e) P Q known gives = tt

-- ---- nothing was fed

-- ---- a fault stays

pub still_faulty : (limit : ℕ) (octets piece : List ℕ) (r : PartReading) (o : Option (ℕ × PartFault)) → is_some o ≡ true → StandsBy limit octets r o
    → StandsBy limit (octets ++ piece) r o
still_faulty limit octets piece r None is stands = absurd (cc is)
still_faulty limit octets piece r (Some bad) is stands = λ more.
    subst (λ os. HasFault os bad.0 bad.1) (sym (append_assoc octets piece more)) (stands (piece ++ more))

pub no_fault : (o : Option (ℕ × PartFault)) → is_some o ≡ false → o ≡ None
no_fault None is = refl
no_fault (Some bad) is = absurd (cc is)

behind_is : (octets : List ℕ) (at : ℕ) (f : PartFault) → IsBehindHead octets at f → HasFault octets at f
behind_is octets at fault.Mark (count, body, place, is, few, there, bad) = absurd bad
behind_is octets at (fault.Count found) (count, body, place, is, few, there, bad) = absurd bad
behind_is octets at (fault.Record f) bad = bad
behind_is octets at fault.Order bad = bad
behind_is octets at (fault.Short have) bad = inr bad
behind_is octets at fault.Rest bad = bad

-- ---- a piece more

sound : (limit : ℕ) (octets : List ℕ) (r : PartReading) → r.progress.fault ≡ None → Stands limit octets r → IsOpen limit octets r ⊎ IsBehind limit octets r
sound limit octets r none stands = subst (StandsBy limit octets r) none stands

-- what is known once the head was filled from the piece: octets behind it, of which records were taken
pub record Filled (limit : ℕ) (octets piece head : List ℕ) (r : PartReading) (filled : ℕ) : Type 0 where
  pub body : List ℕ
  pub records : List Record
  pub is : octets ++ piece ≡ head ++ (body ++ drop filled piece)
  pub took : (count : ℕ) → head ≡ head_octets count → count ≤ most_records → Took count limit body records r.reading r.progress

pub fill : (limit : ℕ) (octets piece head : List ℕ) (r : PartReading) (filled : ℕ) → head ≡ r.head ++ take filled piece → filled ≤ 12 - length r.head
    → IsOpen limit octets r ⊎ IsBehind limit octets r → Filled limit octets piece head r filled
fill limit octets piece head r filled is most (inl opened) = record {
  body = [];
  records = [];
  is = ap (λ o. o ++ piece) opened.head ∙ ap (λ o. r.head ++ o) (sym (take-append-drop filled piece)) ∙ sym (append_assoc r.head (take filled piece) (drop filled piece))
      ∙ ap (λ o. o ++ drop filled piece) (sym is);
  took = λ count same few. opened.took count;
}
fill limit octets piece head r filled is most (inr behind) =
    let size : length r.head ≡ 12 = ap length behind.head in
    let none : filled ≡ 0 = omega (arith, most, size) in
    let same : head ≡ r.head = is ∙ ap (λ n. r.head ++ take n piece) none ∙ append-nil r.head in
    let whole : drop filled piece ≡ piece = ap (λ n. drop n piece) none in
    record {
      body = behind.body;
      records = behind.records;
      is = ap (λ o. o ++ piece) behind.is ∙ append_assoc r.head behind.body piece
          ∙ ap₂ (λ (a b : List ℕ). a ++ (behind.body ++ b)) (sym same) (sym whole);
      took = λ count head_is few.
          subst (λ n. Took n limit behind.body behind.records r.reading r.progress)
          (sym (count_same count behind.count few behind.few (sym head_is ∙ same ∙ behind.head))) behind.took;
    }

-- what is filled of the head
min_first : (a b : ℕ) → min a b ≤ a
min_first a b = grind (arith, nat_tests)

min_second : (a b : ℕ) → min a b ≤ b
min_second a b = grind (arith, nat_tests)

min_either : (a b : ℕ) → (b ≤ min a b) ⊎ (a ≤ min a b)
min_either a b = elim (Rattle.std.proofs.lemmas.Bool.cases_lt a b) [
  | inl less ↦ inr (grind (arith, nat_tests))
  | inr least ↦ inl (grind (arith, nat_tests))
]

pub most_filled : (free size filled : ℕ) → filled ≡ min free size → filled ≤ free
most_filled free size filled is = let most = min_first free size in omega (arith, is, most)

-- the head isn't whole yet
pub still_open : (limit : ℕ) (octets piece head : List ℕ) (r r' : PartReading) (filled : ℕ) → head ≡ r.head ++ take filled piece
    → filled ≡ min (12 - length r.head) (length piece) → length head < 12 → r' ≡ record r { head = head }
    → r.progress.fault ≡ None → Stands limit octets r → Stands limit (octets ++ piece) r'
still_open limit octets piece head r r' filled is fill_is short same none stands =
    let P : PartReading → Type 0 = λ q. StandsBy limit (octets ++ piece) q q.progress.fault in
    let now : PartReading = record r { head = head } in
    subst P (sym same) (subst (StandsBy limit (octets ++ piece) now) (sym none) (inl (by (sound limit octets r none stands))))
  where
    free : ℕ
    free = 12 - length r.head

    fits : filled ≤ length piece
    fits = let second = min_second free (length piece) in omega (arith, fill_is, second)

    sizes : length head ≡ length r.head + filled
    sizes = let both = ap length is in let few = fits in omega (arith, both, length-append r.head (take filled piece), length-take filled piece, few)

    rest : length piece ≤ filled
    rest = elim (min_either free (length piece)) [
      | inl whole ↦ omega (arith, fill_is, whole)
      | inr much ↦ let size = sizes in absurd (omega (arith, size, much, fill_is, short))
    ]

    by : IsOpen limit octets r ⊎ IsBehind limit octets r → IsOpen limit (octets ++ piece) (record r { head = head })
    by (inl opened) =
        let whole : take filled piece ≡ piece = take_all filled piece rest in
        let now : octets ++ piece ≡ head = ap (λ o. o ++ piece) opened.head ∙ ap (λ o. r.head ++ o) (sym whole) ∙ sym is in
        let size = ap length now in
        record { short = omega (arith, size, short); head = now; took = opened.took }
    by (inr behind) =
        let size : length r.head ≡ 12 = ap length behind.head in
        let both = sizes in
        absurd (omega (arith, size, both, short))

-- the head has a fault
pub head_faulty : (limit : ℕ) (octets piece head : List ℕ) (r r' : PartReading) (filled at : ℕ) (f : PartFault) → head ≡ r.head ++ take filled piece
    → filled ≤ 12 - length r.head → ((more : List ℕ) → HasFault (head ++ more) at f) → r'.progress.fault ≡ Some (at, f) → r.progress.fault ≡ None
    → Stands limit octets r → Stands limit (octets ++ piece) r'
head_faulty limit octets piece head r r' filled at f is most bad found none stands =
    let filled_so = fill limit octets piece head r filled is most (sound limit octets r none stands) in
    let pair : ℕ × PartFault = (at, f) in
    let rest : List ℕ = filled_so.body ++ drop filled piece in
    let all : (more : List ℕ) → HasFault ((octets ++ piece) ++ more) pair.0 pair.1 = λ more.
    subst (λ os. HasFault os at f) (sym (ap (λ o. o ++ more) filled_so.is ∙ append_assoc head rest more)) (bad (rest ++ more)) in
    subst (StandsBy limit (octets ++ piece) r') (sym found) all

-- and what was taken behind a sound one
module _ (limit : ℕ) (octets : List ℕ) (r : PartReading) (count : ℕ) (body : List ℕ) (xs : List Record) (head : r.head ≡ head_octets count) (few : count ≤ most_records)
    (is : octets ≡ r.head ++ body) where
  stopped_by : (o : Option (ℕ × PartFault)) → r.progress.fault ≡ o → Stops count limit body xs r.reading r.progress → StandsBy limit octets r o
  stopped_by None none (inl (was, took, rests)) = inr (record { count = count; body = body; records = xs; head = head; is = is; few = few; took = took; rests = rests })
  stopped_by None none (inr found) = absurd (subst (FoundBehind count body) none found)
  stopped_by (Some bad) some (inl (was, took, rests)) = absurd (cc (some, was))
  stopped_by (Some bad) some (inr found) =
      let (place, at, all) = subst (FoundBehind count body) some found in
      λ more.
      let whole : octets ++ more ≡ head_octets count ++ (body ++ more) = ap (λ o. o ++ more) is ∙ append_assoc r.head body more ∙ ap (λ o. o ++ (body ++ more)) head in
      behind_is (octets ++ more) bad.0 bad.1 (count, body ++ more, place, whole, few, at, all more)

  pub stopped : Stops count limit body xs r.reading r.progress → Stands limit octets r
  stopped stops = stopped_by r.progress.fault refl stops

pub taken : (limit : ℕ) (octets piece head : List ℕ) (r r' : PartReading) (filled count : ℕ) (fed : Reading) → head ≡ r.head ++ take filled piece
    → filled ≤ 12 - length r.head → head ≡ head_octets count → count ≤ most_records → fed ≡ record r.reading { pending = r.reading.pending ++ drop filled piece; given = 0 }
    → r'.head ≡ head
    → ((limit : ℕ) (body : List ℕ) (xs : List Record) → r.progress.fault ≡ None → Took count limit body xs fed r.progress
    → (ys : List Record) × Stops count limit body ys r'.reading r'.progress)
    → r.progress.fault ≡ None → Stands limit octets r → Stands limit (octets ++ piece) r'
taken limit octets piece head r r' filled count fed is most says few feeds same takes none stands =
    let so = fill limit octets piece head r filled is most (sound limit octets r none stands) in
    let all : List ℕ = so.body ++ drop filled piece in
    let took : Took count limit all so.records fed r.progress = took_fed count limit so.body (drop filled piece) so.records r.reading fed r.progress feeds (so.took count says few) in
    let now = takes limit all so.records none took in
    stopped limit (octets ++ piece) r' count all now.0 (same ∙ says) few (so.is ∙ ap (λ o. o ++ all) (sym same)) now.1

-- ---- the end

pub faulty_end : (limit : ℕ) (octets : List ℕ) (r : PartReading) (at : ℕ) (f : PartFault) → r.progress.fault ≡ Some (at, f) → Stands limit octets r → HasFault octets at f
faulty_end limit octets r at f is stands =
    let all = subst (StandsBy limit octets r) is stands in
    subst (λ os. HasFault os at f) (append-nil octets) (all [])

pub opened_end : (limit : ℕ) (octets : List ℕ) (r : PartReading) → r.progress.fault ≡ None → length r.head < 12 → Stands limit octets r → octets ≡ r.head
opened_end limit octets r none short stands = by (sound limit octets r none stands)
  where
    by : IsOpen limit octets r ⊎ IsBehind limit octets r → octets ≡ r.head
    by (inl opened) = opened.head
    by (inr behind) = let size : length r.head ≡ 12 = ap length behind.head in absurd (omega (arith, size, short))

pub behind_end : (limit : ℕ) (octets : List ℕ) (r : PartReading) → r.progress.fault ≡ None → (length r.head < 12 → ⊥) → Stands limit octets r → IsBehind limit octets r
behind_end limit octets r none whole stands = by (sound limit octets r none stands)
  where
    by : IsOpen limit octets r ⊎ IsBehind limit octets r → IsBehind limit octets r
    by (inl opened) = let same = ap length opened.head in let short = opened.short in absurd (whole (omega (arith, same, short)))
    by (inr behind) = behind

counted : (count : ℕ) → count ≤ 1048576 → u32_at (head_octets count) 8 ≡ count
counted count few = omega arith

pub count_is : (limit : ℕ) (octets : List ℕ) (r : PartReading) → (b : IsBehind limit octets r) → u32_at r.head 8 ≡ b.count
count_is limit octets r b = ap (λ o. u32_at o 8) b.head ∙ counted b.count b.few

twelve_small : (there : Bool) → twelve_where there ≤ 12
twelve_small true = omega arith
twelve_small false = omega arith

cut_few : (octets : List ℕ) → IsCut octets → length octets < 274
cut_few octets (inl none) = omega arith
cut_few octets (inr (inl short)) = let few = short.1 in omega arith
cut_few octets (inr (inr sized)) =
    let less = sized.1 in
    let most = sized.0.most in
    let visit = twelve_small (has_visit (Rattle.std.specs.Prelude.slice_index octets 0)) in
    let numbers = numbers_size-small (Rattle.std.specs.Prelude.slice_index octets 1) in
    omega arith

-- what is pending then is less than a record
pub keeps_few : (limit : ℕ) (octets : List ℕ) (r : PartReading) → Stands limit octets r → HoldsFew r
keeps_few limit octets r stands none = elim (sound limit octets r none stands) [
  | inl opened ↦
      let took = opened.took 0 in
      let pending : length r.reading.pending ≡ 0 = sym (ap length took.stands.splits.is) in
      omega (arith, pending)
  | inr b ↦ cut_few r.reading.pending b.rests.waits
]

-- what is kept where a piece was fed, and where it wasn't
pub kept_fed : (old now more pending : ℕ) → now ≤ pending + more → now ≤ max old (pending + more)
kept_fed old now more pending few = grind (arith, nat_tests)

kept_still : (old more pending : ℕ) → old ≤ max old (pending + more)
kept_still old more pending = grind (arith, nat_tests)

pub kept_same : (now old more pending : ℕ) → now ≡ old → now ≤ max old (pending + more)
kept_same now old more pending same = subst (λ n. n ≤ max old (pending + more)) (sym same) (kept_still old more pending)

-- a number of 32 bits, of more
pub kept_small : (x most n : ℕ) → n ≡ min x most → most ≡ 4294967295 → x < 4294967296 → n ≡ x
kept_small x most n is all small = grind (arith, nat_tests)

module _ (limit : ℕ) (octets : List ℕ) (r : PartReading) (b : IsBehind limit octets r) where
  whole : octets ≡ head_octets b.count ++ b.body
  whole = b.is ∙ ap (λ o. o ++ b.body) b.head

  -- a record that is due isn't whole
  pub short_end : (at have : ℕ) → r.progress.given < b.count → (dex.fed r.reading - r.progress.end < 4294967296 → have ≡ dex.fed r.reading - r.progress.end)
      → (r.progress.end < 9223372036854775808 → at ≡ 12 + r.progress.end) → HasFault octets at (fault.Short have)
  short_end at have few has there =
      let t = b.took in
      let end = t.end in
      let given = t.given in
      let cut = cut_few r.reading.pending b.rests.waits in
      let most = b.few in
      let low = start_small b.count limit b.body b.records r.reading r.progress t (omega (arith, most)) in
      let size : dex.fed r.reading - r.progress.end ≡ length r.reading.pending = omega (arith, end) in
      let here = has (omega (arith, size, cut)) in
      let place = there (omega (arith, end, low)) in
      let less : length b.records < b.count = omega (arith, given, few) in
      let reaches : Reaches b.count b.body r.reading.start b.records r.reading.pending = record { splits = t.stands.splits; in_order = t.in_order; within = t.within; at = t.stands.place } in
      inr (b.count, b.body, r.reading.start, whole, b.few, omega (arith, place, end), (b.records, r.reading.pending, reaches, less, (b.rests.waits, here ∙ size)))

  -- all records were taken
  pub part_end : (r.progress.given < b.count → ⊥) → IsPart octets b.records
  part_end all =
      let t = b.took in
      let given = t.given in
      let within = t.within in
      let many : length b.records ≡ b.count = by (length b.records) refl in
      let none : r.reading.pending ≡ [] = b.rests.done many in
      let body : b.body ≡ records_octets b.records = t.stands.splits.is ∙ ap (λ o. records_octets b.records ++ o) none ∙ append-nil (records_octets b.records) in
      let few = b.few in
      record {
        each = t.stands.splits.each;
        few = omega (arith, many, few);
        in_order = t.in_order;
        is = whole ∙ ap₂ (λ (n : ℕ) (o : List ℕ). head_octets n ++ o) (sym many) body;
      }
    where
      by : (n : ℕ) → length b.records ≡ n → length b.records ≡ b.count
      by n is =
          let given = b.took.given in
          let within = b.took.within in
          elim (Rattle.std.proofs.lemmas.Bool.cases_lt (length b.records) b.count) [
            | inl less ↦ absurd (all (omega (arith, given, less)))
            | inr least ↦ omega (arith, within, least)
          ]

  pub full_end : r.progress.full ≡ true → limit < length b.records
  full_end is = subst (λ full. Holds limit full r.progress.collector b.records) is b.took.holds

  pub read_end : r.progress.full ≡ false → IsPart octets b.records → IsReadAs limit octets r.progress.collector
  read_end is part =
      let holds = subst (λ full. Holds limit full r.progress.collector b.records) is b.took.holds in
      let count : count_kept b.records ≡ length b.records = count_all b.records part.in_order in
      let held = holds.0.groups.held in
      let fits = holds.1 in
      (b.records, part, holds.0, omega (arith, count, held, fits), holds.2)
