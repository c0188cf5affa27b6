-- What is due of a capture, by what a form's reader finds behind the records that it gave.
use Rattle.std.proofs.Common.{◌≡◌, ℕ, Bool, true, false, List, [], ◌∷◌, ◌++◌, Option, Some, None, refl, sym, ap, ◌∙◌, subst, inl, inr, length, arith}
use Rattle.std.proofs.lemmas.Bool.{false≢true}
use Rattle.ioam_pcap.specs.declared.capture.CapFault.{CapFault}
use Rattle.ioam_pcap.specs.declared.capture.CapFault.TheVariants.{Short}
use Rattle.ioam_pcap.specs.Ending.{Ending, Faulty, ending_of}
use Rattle.ioam_pcap.specs.Entries.{Entry, Taken}
use Rattle.ioam_pcap.specs.Reads.{EntryAt, FaultAt, EndsAt, Reads as classic_reads}
use Rattle.ioam_pcap.specs.Reading as classic_reading
use Rattle.ioam_pcap.specs.Reader as classic
use Rattle.ioam_ng.specs.Reading as ng_reading
use Rattle.ioam_ng.specs.Reader as ng
use Rattle.ioam_ng.specs.Reads as ng_reads
use Rattle.ioam_ng.proofs.LaterLaws.{Packet-next}
use Rattle.ioam_capture.specs.declared.turns.Due.{Due}
use Rattle.ioam_capture.specs.declared.turns.Due.TheVariants.{Record, Bad, More}
use Rattle.ioam_capture.specs.Merge.{due_of, due_by}
use Rattle.ioam_capture.specs.Reading.{Reading, Front, Classic, Ng}
use Rattle.ioam_capture.specs.Reads.{IsClassicly, Reads}
use Rattle.ioam_capture.specs.Reader.{Stands, Waits, IsDue}
use Rattle.ioam_capture.proofs.ClassicLaws.{Classic-due, Classic-fault}
use Rattle.ioam_capture.proofs.NgLaws.{Ng-fault}
use Rattle.ioam_capture.proofs.StandsLaws.{Stands-shows}
use Rattle.ioam_capture.proofs.StreamsLaws.{due-record, due-bad, due-more, due-end}

-- ---- where the reader waits

pub waits-more : (reader : Reading) (ended : Bool) → ended ≡ false → Waits reader → IsDue reader ended More
waits-more reader ended unended waits octets taken stream stands shows =
    sym (due-more octets ended taken stream shows unended (Stands-shows reader octets taken stands waits))

-- what is due of a capture that ends so
abbrev pub due_at_end : Option (ℕ × CapFault) → Due
due_at_end left = due_by [] (Some (ending_of left))

pub waits-end : (reader : Reading) (ended : Bool) (left : Option (ℕ × CapFault)) → ended ≡ true
    → ((octets : List ℕ) (taken : List Taken) → Stands reader octets taken → Reads octets taken (ending_of left)) → IsDue reader ended (due_at_end left)
waits-end reader ended left over reads octets taken stream stands shows =
    sym (due-end octets ended taken stream shows over (ending_of left) (reads octets taken stands))

-- ---- where the form isn't known

pub front-ends : (held : List ℕ) (octets : List ℕ) (taken : List Taken) → Stands (Front held) octets taken → Reads octets taken (Faulty 0 (Short (length held)))
front-ends held octets taken stands =
    let size : length held ≡ length octets = ap length stands.0 in
    let short : EndsAt octets None 0 (Faulty 0 (Short (length held))) = (refl, inr (length held, refl, inl stands.1, omega (arith, size), λ some. absurd (false≢true some))) in
    let reads : classic_reads octets None [] (Faulty 0 (Short (length held))) = record { form = None; at = 0; reached = (refl, refl); ends = short; linked = refl } in
    inr (λ ng. omega (arith, stands.1, ng.0), record { link = None; entries = []; reads = reads; are = stands.2 })

-- ---- of the classic form

module _ (reader : classic_reading.Reading) where
  pub classic-ends : (ending : Ending) → ((octets : List ℕ) (entries : List Entry) → classic.Stands reader octets entries → classic_reads octets (classic.link_of reader) entries ending)
      → (octets : List ℕ) (taken : List Taken) → Stands (Classic reader) octets taken → Reads octets taken ending
  classic-ends ending reads octets taken stands =
      let (entries, stood, is) = stands.2 in
      inr (stands.0, record { link = classic.link_of reader; entries = entries; reads = reads octets entries stood; are = is })

  -- a record is due
  pub classic-record : (ended : Bool) (time : ℕ)
      → ((octets : List ℕ) (entries : List Entry) → classic.Stands reader octets entries → (e : Entry) × EntryAt octets reader.form reader.start e × (time ≡ e.time))
      → IsDue (Classic reader) ended (Record time)
  classic-record ended time there octets taken stream stands shows = by shows.reads
    where
      by : Reads octets (taken ++ stream.records) shows.ending → Record time ≡ due_of stream
      by (inl ng) = absurd (stands.0 ng.0)
      by (inr x) =
          let (entries, stood, is) = stands.2 in
          let (e, here, same) = there octets entries stood in
          let (link, more, all) = Classic-due reader octets entries stood e here (taken ++ stream.records) shows.ending x.1 in
          let first : taken ++ stream.records ≡ taken ++ record { link = link; entry = e } ∷ more = all ∙ ap (λ xs. xs ++ record { link = link; entry = e } ∷ more) (sym is) in
          sym (due-record octets ended taken stream shows (record { link = link; entry = e }) more time first same)

  -- what is due has a fault
  pub classic-bad : (ended : Bool) (at : ℕ) (f : CapFault) → at ≡ reader.start
      → ((octets : List ℕ) (entries : List Entry) → classic.Stands reader octets entries → FaultAt octets reader.form reader.start f)
      → IsDue (Classic reader) ended (Bad at f)
  classic-bad ended at f place bad octets taken stream stands shows =
      let (entries, stood, is) = stands.2 in
      let (reads, still) = Classic-fault reader octets entries stood f (bad octets entries stood) in
      let P : List Taken → Type 0 = λ xs. IsClassicly octets xs (Faulty reader.start f) in
      let due = due-bad octets ended taken stream shows reader.start f (inr (stands.0, subst P (sym is) reads)) still in
      ap (λ n. Bad n f) place ∙ sym due

-- ---- of the form pcapng

module _ (reader : ng_reading.Reading) where
  pub ng-ends : (ending : Ending) → ((octets : List ℕ) (taken : List Taken) → ng.Stands reader octets taken → ng_reads.Reads octets taken ending)
      → (octets : List ℕ) (taken : List Taken) → Stands (Ng reader) octets taken → Reads octets taken ending
  ng-ends ending reads octets taken stands = inl (stands.0, reads octets taken stands.1)

  pub ng-record : (ended : Bool) (time : ℕ) (packet : Taken) → ng.HasPacket reader packet → packet.entry.time ≡ time → IsDue (Ng reader) ended (Record time)
  ng-record ended time packet has same octets taken stream stands shows = by shows.reads
    where
      by : Reads octets (taken ++ stream.records) shows.ending → Record time ≡ due_of stream
      by (inr x) = absurd (x.0 stands.0)
      by (inl x) =
          let (more, all) = Packet-next reader octets taken stands.1 (taken ++ stream.records) shows.ending x.1 packet has in
          sym (due-record octets ended taken stream shows packet more time all (sym same))

  pub ng-bad : (ended : Bool) (at : ℕ) (f : CapFault) → at ≡ reader.start → ng.IsFaulty reader f → IsDue (Ng reader) ended (Bad at f)
  ng-bad ended at f place bad octets taken stream stands shows =
      let (reads, still) = Ng-fault reader octets taken stands.1 f bad in
      ap (λ n. Bad n f) place ∙ sym (due-bad octets ended taken stream shows reader.start f (inl (stands.0, reads)) still)
