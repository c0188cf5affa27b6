-- Records that are handed to the writer one behind the other, and the data records that it puts of them.
use Rattle.std.proofs.Common.{◌≡◌, ℕ, zero, suc, ◌+◌, ◌-◌, ◌*◌, ◌%◌, ◌<◌, ◌≤◌, List, [], ◌∷◌, ◌++◌, length, take, drop, refl, sym, ap, ◌∙◌, arith, append_assoc, length-append, length-drop}
use Rattle.std.specs.Prelude.{flat_map, replicate}
use Rattle.std.specs.List.{AllByRecursion}
use Rattle.std.proofs.lemmas.List.{append-nil, take_all, take_at, drop_at, drop-drop, drop_all, flat_map_more}
use Rattle.ioam_base.specs.Octets.{u16_at, written}
use Rattle.ioam_base.specs.Words.{two_octets, four_octets, four_octets_if}
use Rattle.ioam_base.proofs.WrittenLaws.{written-at, length-written}
use Rattle.ioam_dex.specs.Visit.{visit_octets}
use Rattle.ioam_dex.specs.Record.{Record, IsRecord, Rec, record_octets}
use Rattle.ioam_dex.specs.Reads.{records_octets}
use Rattle.ioam_dex.proofs.RecordLaws.{front-length, record_octets-length, record_size-small}
use Rattle.ioam_ipfix.specs.Templates.{template_octets, all_ids}
use Rattle.ioam_ipfix.specs.Data.{template_of, data_octets}
use Rattle.ioam_ipfix.specs.Written.{message_octets, IsRun, AreRecords, BeginsRecord, IsRunText}

-- ---- one record

-- seven octets and others stand in front of its element
pub front-small : (x : Record) → 7 + length x.element ≤ length (record_octets x)
front-small x = omega (
  arith,
  length-append (visit_octets x.visit) (four_octets_if x.flow ++ (four_octets_if x.seq ++ x.element)),
  length-append (four_octets_if x.flow) (four_octets_if x.seq ++ x.element),
  length-append (four_octets_if x.seq) x.element,
)

module _ (rest : List ℕ) (x : Record) (behind : List ℕ) (is_x : IsRecord x) (is : rest ≡ record_octets x ++ behind) where
  pub first-size : u16_at rest 2 ≡ length (record_octets x)
  first-size = front-length rest x behind is_x is

  pub first-fits : length (record_octets x) ≤ length rest
  first-fits = let size = ap length is in omega (arith, size, length-append (record_octets x) behind)

  pub first-is : (size : ℕ) → size ≡ u16_at rest 2 → Rec (take size rest) x
  first-is size same = record {
    sayable = is_x;
    is = ap (λ n. take n rest) (same ∙ first-size) ∙ ap (take (length (record_octets x))) is ∙ take_at (record_octets x) behind (length (record_octets x)) refl;
  }

-- ---- many

-- the data records of the records up to a place were put
abbrev pub Put : List ℕ → List ℕ → ℕ → List ℕ → Type 0
Put run old at new = (xs : List Record) → AllByRecursion IsRecord xs → run ≡ records_octets xs
    → (done : List Record) × (left : List Record) × (xs ≡ done ++ left) × AllByRecursion IsRecord left × (drop at run ≡ records_octets left)
    × (new ≡ old ++ flat_map data_octets done)

-- behind a place that is not the end a record begins
pub Put-begins : (run old : List ℕ) (at : ℕ) (new : List ℕ) → Put run old at new → AreRecords run → at < length run → BeginsRecord (drop at run)
Put-begins run old at new put are inside =
    let (done, left, parts, all, rest, is) = put are.0 are.1 are.2 in
    begins-by left all rest
  where
    begins-by : (left : List Record) → AllByRecursion IsRecord left → drop at run ≡ records_octets left → BeginsRecord (drop at run)
    begins-by [] all rest = let size = ap length rest in let long = length-drop at run in absurd (omega (arith, size, long, inside))
    begins-by (x ∷ left) all rest = (x, records_octets left, all.0, rest)

pub Put-push : (run old : List ℕ) (at : ℕ) (mid : List ℕ) (size : ℕ) (new : List ℕ) → Put run old at mid → at < length run
    → ((x : Record) (behind : List ℕ) → IsRecord x → drop at run ≡ record_octets x ++ behind → (size ≡ length (record_octets x)) × (new ≡ mid ++ data_octets x))
    → Put run old (at + size) new
Put-push run old at mid size new put inside taken xs all is =
    let (done, left, parts, all_left, rest, was) = put xs all is in
    push-by done left parts all_left rest was
  where
    push-by : (done left : List Record) → xs ≡ done ++ left → AllByRecursion IsRecord left → drop at run ≡ records_octets left → mid ≡ old ++ flat_map data_octets done
        → (more : List Record) × (rest : List Record) × (xs ≡ more ++ rest) × AllByRecursion IsRecord rest × (drop (at + size) run ≡ records_octets rest)
        × (new ≡ old ++ flat_map data_octets more)
    push-by done [] parts all_left rest was = let size = ap length rest in let long = length-drop at run in absurd (omega (arith, size, long, inside))
    push-by done (x ∷ left) parts all_left rest was =
        let took = taken x (records_octets left) all_left.0 rest in (
          done ++ x ∷ [],
          left,
          parts ∙ sym (append_assoc done (x ∷ []) left),
          all_left.1,
          sym (drop-drop size at run) ∙ ap (drop size) rest ∙ drop_at (record_octets x) (records_octets left) size (sym took.0),
          took.1 ∙ ap (λ o. o ++ data_octets x) was ∙ flat_map_more data_octets old done x,
        )

pub Put-all : (run old : List ℕ) (at : ℕ) (new : List ℕ) → Put run old at new → length run ≤ at → (xs : List Record) → AllByRecursion IsRecord xs → run ≡ records_octets xs
    → new ≡ old ++ flat_map data_octets xs
Put-all run old at new put over xs all is =
    let (done, left, parts, all_left, rest, was) = put xs all is in
    all-by done left parts (sym rest ∙ drop_all at run over) was
  where
    all-by : (done left : List Record) → xs ≡ done ++ left → records_octets left ≡ [] → new ≡ old ++ flat_map data_octets done → new ≡ old ++ flat_map data_octets xs
    all-by done [] parts none was = was ∙ ap (λ ys. old ++ flat_map data_octets ys) (sym (append-nil done) ∙ sym parts)
    all-by done (x ∷ left) parts none was = let size = ap length none in absurd (omega (arith, size))

-- the heads of a message are written over the octets that were left open
pub heads-written : (front content : List ℕ) (start count id size : ℕ) → length front ≡ start → size ≡ length content + 20
    → written (front ++ (replicate 20 0 ++ content)) start (two_octets 10 ++ (two_octets size ++ (four_octets 0 ++ (four_octets count ++ (four_octets 0 ++ (two_octets id ++ two_octets (size - 16)))))))
    ≡ front ++ (two_octets 10 ++ (two_octets (length content + 20) ++ (four_octets 0 ++ (four_octets count ++ (four_octets 0 ++ (two_octets id ++ (two_octets (length content + 4) ++ content)))))))
heads-written front content start count id size at is =
    let four : size - 16 ≡ length content + 4 = omega (arith, is) in
    written-at front (replicate 20 0) (two_octets 10 ++ (two_octets size ++ (four_octets 0 ++ (four_octets count ++ (four_octets 0 ++ (two_octets id ++ two_octets (size - 16))))))) content start at refl
    ∙ (λ i. front ++ (two_octets 10 ++ (two_octets (is i) ++ (four_octets 0 ++ (four_octets count ++ (four_octets 0 ++ (two_octets id ++ (two_octets (four i) ++ content))))))))

-- ---- a run, and the eight templates

pub run-records : (id : ℕ) (xs : List Record) → AllByRecursion (λ x. IsRecord x × (template_of x ≡ id)) xs → AllByRecursion IsRecord xs
run-records id [] alike = tt
run-records id (x ∷ xs) alike = (alike.0.0, run-records id xs alike.1)

records-small : (xs : List Record) → AllByRecursion IsRecord xs → length (records_octets xs) ≤ 274 * length xs
records-small [] all = omega arith
records-small (x ∷ xs) all = omega (arith, length-append (record_octets x) (records_octets xs), record_octets-length x all.0.parts, record_size-small x all.0.parts, records-small xs all.1)

pub run-small : (run : List ℕ) → IsRunText run → length run ≤ 8768
run-small run (id, xs, is, text) =
    let size = ap length text in
    let few = is.few in
    let small = records-small xs (run-records id xs is.alike) in
    omega (arith, size, few, small)

pub run-begins : (run : List ℕ) → IsRunText run → BeginsRecord run
run-begins run (id, xs, is, text) = begins-by xs is.some (run-records id xs is.alike) text
  where
    begins-by : (xs : List Record) → 1 ≤ length xs → AllByRecursion IsRecord xs → run ≡ records_octets xs → BeginsRecord run
    begins-by [] some all text = absurd (omega (arith, some))
    begins-by (x ∷ xs) some all text = (x, records_octets xs, all.0, text)

-- the template of the first record is that of the run
pub run-first : (run : List ℕ) (found id : ℕ) (xs : List Record) → IsRun id xs → run ≡ records_octets xs
    → ((x : Record) (behind : List ℕ) → IsRecord x → run ≡ record_octets x ++ behind → found ≡ template_of x) → found ≡ id
run-first run found id xs is text first = first-by xs is.some is.alike text
  where
    first-by : (xs : List Record) → 1 ≤ length xs → AllByRecursion (λ x. IsRecord x × (template_of x ≡ id)) xs → run ≡ records_octets xs → found ≡ id
    first-by [] some alike text = absurd (omega (arith, some))
    first-by (x ∷ xs) some alike text = first x (records_octets xs) alike.0.0 text ∙ alike.0.1

next-by : (k id : ℕ) → id ≡ 256 + k → k < 8 → take (k + 1) all_ids ≡ take k all_ids ++ id ∷ []
next-by zero id is few = rw is refl
next-by (suc zero) id is few = rw is refl
next-by (suc (suc zero)) id is few = rw is refl
next-by (suc (suc (suc zero))) id is few = rw is refl
next-by (suc (suc (suc (suc zero)))) id is few = rw is refl
next-by (suc (suc (suc (suc (suc zero))))) id is few = rw is refl
next-by (suc (suc (suc (suc (suc (suc zero)))))) id is few = rw is refl
next-by (suc (suc (suc (suc (suc (suc (suc zero))))))) id is few = rw is refl
next-by (suc (suc (suc (suc (suc (suc (suc (suc k)))))))) id is few = absurd (omega (arith, few))

-- the templates up to an id, with its own
pub next-template : (old mid new : List ℕ) (id next : ℕ) → 256 ≤ id → id < 264 → next ≡ id + 1 → mid ≡ old ++ flat_map template_octets (take (id - 256) all_ids)
    → new ≡ mid ++ template_octets id → new ≡ old ++ flat_map template_octets (take (next - 256) all_ids)
next-template old mid new id next least most is was put =
    let count : id - 256 + 1 ≡ next - 256 = omega (arith, least, is) in
    let ids : take (id - 256) all_ids ++ id ∷ [] ≡ take (next - 256) all_ids =
    sym (next-by (id - 256) id (omega (arith, least)) (omega (arith, least, most))) ∙ ap (λ n. take n all_ids) count in
    put ∙ ap (λ o. o ++ template_octets id) was ∙ flat_map_more template_octets old (take (id - 256) all_ids) id ∙ ap (λ xs. old ++ flat_map template_octets xs) ids

-- a message that was opened, filled and closed
pub closed : (old opened filled new content : List ℕ) (start count id : ℕ) → length old ≡ start → opened ≡ old ++ replicate 20 0 → filled ≡ opened ++ content
    → ((front inside : List ℕ) → length front ≡ start → filled ≡ front ++ (replicate 20 0 ++ inside) → new ≡ front ++ message_octets count id inside)
    → new ≡ old ++ message_octets count id content
closed old opened filled new content start count id at opens fills closes =
    closes old content at (fills ∙ ap (λ o. o ++ content) opens ∙ append_assoc old (replicate 20 0) content)

abbrev heads : ℕ → ℕ → ℕ → List ℕ
heads size count id = two_octets 10 ++ (two_octets size ++ (four_octets 0 ++ (four_octets count ++ (four_octets 0 ++ (two_octets id ++ two_octets (size - 16))))))

-- the same through the slice of a buffer that is lent
pub close-written : (items new front content : List ℕ) (len start count id size : ℕ) → len ≡ length items → length front ≡ start → items ≡ front ++ (replicate 20 0 ++ content)
    → size ≡ len - start → new ≡ written items start (heads size (count % 4294967296) id) → take len (new ++ drop (length new) items) ≡ front ++ message_octets count id content
close-written items new front content len start count id size is_len at is is_size put =
    let parts = length-append front (replicate 20 0 ++ content) in
    let all = ap length is in
    let long = length-written items (heads size (count % 4294967296) id) start (omega (arith, at, parts, all)) in
    let same : length new ≡ length items = ap length put ∙ long in
    let size-is : size ≡ length content + 20 = omega (arith, is_size, is_len, at, parts, all) in
    ap (λ o. take len (new ++ o)) (drop_all (length new) items (omega (arith, same))) ∙ ap (take len) (append-nil new)
    ∙ take_all len new (omega (arith, same, is_len)) ∙ put ∙ ap (λ o. written o start (heads size (count % 4294967296) id)) is
    ∙ heads-written front content start (count % 4294967296) id size at size-is
