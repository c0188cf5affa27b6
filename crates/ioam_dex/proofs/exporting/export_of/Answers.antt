use Rattle.std.proofs.Common.{◌≡◌, ℕ, ◌-◌, ◌++◌, List, length, take, drop, sym, ap, ◌∙◌, subst, arith}
use Rattle.std.proofs.lemmas.List.{append-nil, drop_all}
use Rattle.ioam_dex.specs.declared.head.RecordHead.{RecordHead}
use Rattle.ioam_dex.specs.Record.{Record, IsRecord, Rec, record_octets, length_of, front_of, element_of, record_of}
use Rattle.ioam_dex.specs.Faults.{said}
use Rattle.ioam_dex.proofs.RecordLaws.{Rec-whole, Rec-unique, front-length}
use Rattle.ioam_dex.proofs.FaultLaws.{whole-not-cut, whole-not-faulty}
use Rattle.ioam_dex.proofs.exporting.export_of.Goals as goal

pub returns-in-Cut-clause-reads : goal.returns-in-Cut-clause-reads
returns-in-Cut-clause-reads c = λ x rec. whole-not-cut c.args.octets.now (Rec-whole c.args.octets.now x rec).0 c.in-Cut.ensures

pub returns-in-Bad-clause-reads : goal.returns-in-Bad-clause-reads
returns-in-Bad-clause-reads c = λ x rec. whole-not-faulty c.args.octets.now _ (Rec-whole c.args.octets.now x rec).0 c.in-Bad.ensures

pub returns-in-Cut-clause-again : goal.returns-in-Cut-clause-again
returns-in-Cut-clause-again c = λ x rec. absurd (whole-not-cut c.args.octets.now (Rec-whole c.args.octets.now x rec).0 c.in-Cut.ensures)

pub returns-in-Bad-clause-again : goal.returns-in-Bad-clause-again
returns-in-Bad-clause-again c = λ x rec. absurd (whole-not-faulty c.args.octets.now _ (Rec-whole c.args.octets.now x rec).0 c.in-Bad.ensures)

-- a record of another length than the octets have
longer : (octets : List ℕ) (size : ℕ) (y : Record) (rest : List ℕ) → size ≡ length (record_octets y) → IsRecord y → octets ≡ record_octets y ++ rest
    → (size ≡ length octets → ⊥) → (x : Record) → Rec octets x → ⊥
longer octets size y rest told is_y front other x rec = other (told ∙ sym (front-length octets y rest is_y front) ∙ (Rec-whole octets x rec).1)

pub returns-then-head-octets-clause-reads : goal.returns-then-head-octets-clause-reads
returns-then-head-octets-clause-reads c =
    let told = c.in-Whole.ensures in
    longer c.args.octets.now c.in-Whole.head.size (said c.in-Whole.head (element_of c.args.octets.now)) _ told.1 told.2 told.3 c.if-head-octets.true

pub returns-then-head-octets-clause-again : goal.returns-then-head-octets-clause-again
returns-then-head-octets-clause-again c = λ x rec.
    let told = c.in-Whole.ensures in
    absurd (longer c.args.octets.now c.in-Whole.head.size (said c.in-Whole.head (element_of c.args.octets.now)) _ told.1 told.2 told.3 c.if-head-octets.true x rec)

-- a whole record that has all the octets
all_of : (octets : List ℕ) (h : RecordHead) → h.front ≡ front_of octets → h.size ≡ length (record_octets (said h (element_of octets)))
    → IsRecord (said h (element_of octets)) → octets ≡ record_octets (said h (element_of octets)) ++ drop h.size octets → h.size ≡ length octets
    → (x : Record) → x ≡ said h (take (length octets - h.front) (drop h.front octets)) → Rec octets x
all_of octets h fronts sizes is_y front all x says =
    let y = said h (element_of octets) in
    let size : length_of octets ≡ length octets = front-length octets y _ is_y front ∙ sym sizes ∙ all in
    let count : length octets - h.front ≡ length_of octets - front_of octets = omega arith in
    let same : x ≡ y =
    says
    ∙ ap (λ n. said h (take n (drop h.front octets))) count
    ∙ ap (λ n. said h (take (length_of octets - front_of octets) (drop n octets))) fronts in
    let P : Record → Type 0 = λ z. Rec octets z in
    subst P (sym same) (record {
      sayable = is_y;
      is = front ∙ ap (λ r. record_octets y ++ r) (drop_all h.size octets (omega arith)) ∙ append-nil (record_octets y);
    })

pub returns-else-head-octets-clause-reads : goal.returns-else-head-octets-clause-reads
returns-else-head-octets-clause-reads c =
    let told = c.in-Whole.ensures in
    all_of c.args.octets.now c.in-Whole.head told.0 told.1 told.2 told.3 c.if-head-octets.false (record_of c.with_element.result) c.with_element.ensures

pub returns-else-head-octets-clause-again : goal.returns-else-head-octets-clause-again
returns-else-head-octets-clause-again c = λ x rec.
    let told = c.in-Whole.ensures in
    let read = all_of c.args.octets.now c.in-Whole.head told.0 told.1 told.2 told.3 c.if-head-octets.false (record_of c.with_element.result) c.with_element.ensures in
    Rec-unique c.args.octets.now (record_of c.with_element.result) x read rec
