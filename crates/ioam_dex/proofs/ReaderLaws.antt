-- What a reader stands for after a piece or a step.
use Rattle.std.proofs.Common.{◌≡◌, ℕ, ◌+◌, ◌-◌, ◌≤◌, List, [], ◌∷◌, ◌++◌, length, take, drop, arith, sym, ap, ◌∙◌, subst, length-append}
use Rattle.std.proofs.lemmas.List.{append-nil, take_at}
use Rattle.ioam_base.specs.Fed.{Kept, passed, with_piece}
use Rattle.ioam_base.proofs.FedLaws.{last_taken, passed_held}
use Rattle.ioam_dex.specs.declared.export.ExportFault.{ExportFault}
use Rattle.ioam_dex.specs.declared.head.RecordHead.{RecordHead}
use Rattle.ioam_dex.specs.declared.head.RecordStep.TheVariants as step
use Rattle.ioam_dex.specs.Record.{Record, IsRecord, record_of, record_octets, length_of, element_of}
use Rattle.ioam_dex.specs.Faults.{Fault, TellsRecord, said}
use Rattle.ioam_dex.specs.Reads.{records_octets, Faulty, Reads, ReadsOnly}
use Rattle.ioam_dex.specs.Reading.{Reading}
use Rattle.ioam_dex.specs.declared.reader.Step.{Step}
use Rattle.ioam_dex.specs.declared.reader.Step.TheVariants.{Export, More, Bad}
use Rattle.ioam_dex.specs.Reader.{Stands, Waits, Moved, SaysFault, held as held_by}
use Rattle.ioam_dex.proofs.FaultLaws.{cut-not-faulty, fault-unique}
use Rattle.ioam_dex.proofs.RecordLaws.{front-length}
use Rattle.ioam_dex.proofs.ReadsLaws.{records_octets-append, Splits-feed, Splits-push, Splits-unique, cut-no-record, fault-no-record, Reads-unique, Reads-faulty}

-- a piece more
pub Stands-feed : (reader : Reading) (piece octets : List ℕ) (records : List Record) → Stands reader octets records
    → Stands (record reader { pending = reader.pending ++ piece; given = 0 }) (octets ++ piece) records
Stands-feed reader piece octets records stands = record {
  splits = Splits-feed octets piece records reader.pending stands.splits;
  place = stands.place;
}

-- a record more
pub Stands-step : (old new : Reading) (x : Record) → IsRecord x → old.pending ≡ record_octets x ++ new.pending
    → new.start ≡ old.start + length (record_octets x)
    → (octets : List ℕ) (records : List Record) → Stands old octets records
    → Stands new octets (records ++ x ∷ [])
Stands-step old new x is_x front place octets records stands = record {
  splits = Splits-push octets records old.pending x new.pending stands.splits is_x front;
  place = place ∙ ap (λ n. n + length (record_octets x)) stands.place ∙ sym (length-append (records_octets records) (record_octets x))
      ∙ ap (λ o. length (records_octets records ++ o)) (sym (append-nil (record_octets x)))
      ∙ ap length (sym (records_octets-append records (x ∷ [])));
}

-- a step that takes nothing off
pub Stands-still : (old new : Reading) → new ≡ old → (octets : List ℕ) (records : List Record) → Stands old octets records → Stands new octets records
Stands-still old new same octets records stands = let S : Reading → Type 0 = λ r. Stands r octets records in subst S (sym same) stands

-- a fault
pub Stands-faulty : (old : Reading) (place : ℕ) (f : ExportFault) → place ≡ old.start → Fault old.pending f → (octets : List ℕ) (records : List Record)
    → Stands old octets records → (more : List ℕ) → Reads (octets ++ more) records (Faulty place f) × ReadsOnly (octets ++ more) records (Faulty place f)
Stands-faulty old place f here bad octets records stands more =
    let P : ℕ → Type 0 = λ n. Reads (octets ++ more) records (Faulty n f) in
    let so = subst P (sym (here ∙ stands.place)) (Reads-faulty octets records old.pending f stands.splits bad more) in
    (so, λ others other reads. Reads-unique (octets ++ more) others records other (Faulty place f) reads so)

-- where what is due has a fault a step says it
pub says_fault : (old new : Reading) (step : Step) → Moved old new step → SaysFault old new step
says_fault old new (Export e) moved f bad = absurd (fault-no-record old.pending f bad (record_of e) new.pending moved.0 moved.1)
says_fault old new More moved f bad = absurd (cut-not-faulty old.pending f moved.1 bad)
says_fault old new (Bad at g) moved f bad =
    let place : at ≡ old.start = moved.1 in
    let same : g ≡ f = fault-unique old.pending g f moved.2 bad in
    (cc, moved.0)

-- However octets were cut into pieces, two readers that were fed them and wait have given the same records
-- and have the same octets left over, at the same place.
pub Stands-unique : (one other : Reading) (octets : List ℕ) (xs ys : List Record) → Waits one → Waits other → Stands one octets xs → Stands other octets ys
    → (xs ≡ ys) × (one.pending ≡ other.pending) × (one.start ≡ other.start)
Stands-unique one other octets xs ys cut cuts stands stood =
    let same = Splits-unique xs ys one.pending other.pending stands.splits.each stood.splits.each
    (cut-no-record one.pending cut) (cut-no-record other.pending cuts) (sym stands.splits.is ∙ stood.splits.is) in
    (same.0, same.1, stands.place ∙ ap (λ zs. length (records_octets zs)) same.0 ∙ sym stood.place)

-- the reader's value where a piece more was fed
pub fed_with : (held new : Kept) (old : Reading) (piece : List ℕ)
    → ◌≡◌ {A = Reading} (record { start = held.start; pending = held.pending; given = length held.given }) old → new ≡ with_piece piece held
    → ◌≡◌ {A = Reading} (record old { pending = old.pending ++ piece; given = 0 }) (record { start = new.start; pending = new.pending; given = length new.given })
fed_with held new old piece view fed =
    sym (ap (λ (k : Kept). record { start = k.start; pending = k.pending; given = length k.given }) fed ∙ ap (λ (r : Reading). record r { pending = r.pending ++ piece; given = 0 }) view)

-- a whole record in front of the pending octets, as it is taken off
module _ (held new : Kept) (head : RecordHead) (old : Reading) (view : ◌≡◌ {A = Reading} (record { start = held.start; pending = held.pending; given = length held.given }) old)
    (taken : new ≡ passed head.size held) (told : TellsRecord old.pending (step.Whole head)) where
  abbrev element : List ℕ
  element = drop (length new.given - (head.size - head.front)) new.given

  size-is : head.size ≡ length_of old.pending
  size-is = told.1 ∙ sym (front-length old.pending (said head (element_of old.pending)) (drop head.size old.pending) told.2 told.3)

  fits : head.size ≤ length held.pending
  fits = omega (arith, told.1, ap (λ r. length r.pending) view, ap length told.3, length-append (record_octets (said head (element_of old.pending))) (drop head.size old.pending))

  element-is : head.front ≤ head.size → element ≡ element_of old.pending
  element-is few =
      let front : head.size - (head.size - head.front) ≡ head.front = omega arith in
      ap (λ k. drop (length k.given - (head.size - head.front)) k.given) taken
      ∙ last_taken held head.size (head.size - head.front) fits (omega arith)
      ∙ ap (λ n. take (head.size - head.front) (drop n held.pending)) front
      ∙ ap (λ r. take (head.size - head.front) (drop head.front r.pending)) view
      ∙ ap (λ n. take (n - head.front) (drop head.front old.pending)) size-is
      ∙ ap (λ n. take (length_of old.pending - n) (drop n old.pending)) told.0

  -- as many octets are kept
  pub held_kept : length new.given + length new.pending ≡ held_by old
  held_kept =
      ap (λ (k : Kept). length k.given + length k.pending) taken ∙ passed_held held head.size fits ∙ ap (λ (r : Reading). held_by r) view

  pub taken_off : head.front ≤ head.size → IsRecord (said head element) × (old.pending ≡ record_octets (said head element) ++ new.pending)
      × (new.start ≡ old.start + length (record_octets (said head element)))
  taken_off few =
      let says : said head element ≡ said head (element_of old.pending) = ap (said head) (element-is few) in
      let P : Record → Type 0 = λ x. IsRecord x in
      let rest : drop head.size old.pending ≡ new.pending = sym (ap (λ k. k.pending) taken ∙ ap (λ r. drop head.size r.pending) view) in
      let size : head.size ≡ length (record_octets (said head element)) = told.1 ∙ ap (λ x. length (record_octets x)) (sym says) in (
        subst P (sym says) told.2,
        told.3 ∙ ap (λ x. record_octets x ++ drop head.size old.pending) (sym says) ∙ ap (λ o. record_octets (said head element) ++ o) rest,
        ap (λ k. k.start) taken ∙ ap (λ r. r.start + head.size) view ∙ ap (λ n. old.start + n) size,
      )

  -- the octets that were taken off are the record's
  pub octets_off : drop (length new.given - head.size) new.given ≡ record_octets (said head (element_of old.pending))
  octets_off =
      let x = said head (element_of old.pending) in
      let none : head.size - head.size ≡ 0 = omega arith in
      ap (λ k. drop (length k.given - head.size) k.given) taken
      ∙ last_taken held head.size head.size fits (omega arith)
      ∙ ap (λ n. take head.size (drop n held.pending)) none
      ∙ ap (λ r. take head.size r.pending) view
      ∙ ap (take head.size) told.3
      ∙ take_at (record_octets x) (drop head.size old.pending) head.size (sym told.1)

  pub whole_off : (old.pending ≡ record_octets (said head (element_of old.pending)) ++ new.pending)
      × (new.start ≡ old.start + length (record_octets (said head (element_of old.pending))))
  whole_off =
      let x = said head (element_of old.pending) in
      let rest : drop head.size old.pending ≡ new.pending = sym (ap (λ k. k.pending) taken ∙ ap (λ r. drop head.size r.pending) view) in (
        told.3 ∙ ap (λ o. record_octets x ++ o) rest,
        ap (λ k. k.start) taken ∙ ap (λ r. r.start + head.size) view ∙ ap (λ n. old.start + n) told.1,
      )
