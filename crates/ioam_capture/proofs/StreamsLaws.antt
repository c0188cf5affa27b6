-- Laws of what the octets of a capture show while more of them may come.
use Rattle.std.proofs.Common.{◌≡◌, ℕ, ◌⊎◌, Bool, true, false, List, [], ◌∷◌, ◌++◌, drop, Option, Some, None, refl, sym, ap, ◌∙◌, subst, inl, inr, append_assoc}
use Rattle.std.proofs.lemmas.List.{append-nil, append_cancel_left}
use Rattle.ioam_pcap.specs.declared.capture.CapFault.{CapFault}
use Rattle.ioam_pcap.specs.declared.capture.Packet as packet
use Rattle.ioam_ip.specs.declared.layer.Layer.{Layer}
use Rattle.ioam_pcap.specs.Ending.{Ending, Faulty, stays}
use Rattle.ioam_pcap.specs.Entries.{Taken}
use Rattle.ioam_capture.specs.declared.reader.Step.{Step}
use Rattle.ioam_capture.specs.declared.reader.Step.TheVariants as step
use Rattle.ioam_capture.specs.declared.turns.Due.TheVariants.{Record, Bad, More}
use Rattle.ioam_capture.specs.Reads.{Reads}
use Rattle.ioam_capture.specs.Reading.{Reading}
use Rattle.ioam_capture.specs.Reader.{Stands, Told, taken_of}
use Rattle.ioam_capture.specs.Merge.{Stream, due_of, due_by, first_of}
use Rattle.ioam_capture.specs.Streams.{known_ending, ShowsSo, Streams}
use Rattle.ioam_capture.proofs.ClassicLaws.{stays_known}
use Rattle.ioam_capture.proofs.MergeLaws.{Continues, due_first}
use Rattle.ioam_capture.proofs.ReadsLaws.{Reads-total, Reads-unique, Reads-later}
use Rattle.ioam_capture.proofs.StandsLaws.{Stands-first}
use Rattle.ioam_capture.proofs.TurnLaws.{record_time}

-- octets show one thing, and they show something
pub ShowsSo-unique : (octets : List ℕ) (ended : Bool) (xs ys : List Taken) (a b : Option Ending)
    → ShowsSo octets ended xs a → ShowsSo octets ended ys b → (xs ≡ ys) × (a ≡ b)
ShowsSo-unique octets ended xs ys a b x y =
    let same = Reads-unique octets xs ys x.ending y.ending x.reads y.reads in
    (same.0, x.known_is ∙ ap (known_ending ended) same.1 ∙ sym y.known_is)

pub ShowsSo-total : (octets : List ℕ) (ended : Bool) → (taken : List Taken) × (known : Option Ending) × ShowsSo octets ended taken known
ShowsSo-total octets ended =
    let (taken, ending, reads) = Reads-total octets in
    (taken, known_ending ended ending, record { ending = ending; reads = reads; known_is = refl })

-- an ending that is known before the end is it
known_still : (ended : Bool) (ending : Ending) → known_ending false ending ≡ Some ending → known_ending ended ending ≡ Some ending
known_still true ending is = refl
known_still false ending is = is

-- more octets add records where it isn't known how the capture ends, and else change nothing
pub ShowsSo-later : (octets more : List ℕ) (ended : Bool) (xs ys : List Taken) (known then : Option Ending)
    → ShowsSo octets false xs known → ShowsSo (octets ++ more) ended ys then
    → ((known ≡ None) × ((others : List Taken) × (ys ≡ xs ++ others))) ⊎ ((ys ≡ xs) × (then ≡ known))
ShowsSo-later octets more ended xs ys known then old new = elim (Reads-later octets more xs ys old.ending new.ending old.reads new.reads) [
  | inl on ↦ inl (old.known_is ∙ on.0, on.1)
  | inr same ↦ inr (same.0, new.known_is ∙ ap (known_ending ended) same.1 ∙ known_still ended old.ending same.2 ∙ sym same.2 ∙ sym old.known_is)
]

-- so a stream goes on: whatever was taken, later the octets show the same of what is left, and more
pub Streams-later : (octets more : List ℕ) (ended : Bool) (taken : List Taken) (old new : Stream)
    → Streams octets false taken old → Streams (octets ++ more) ended taken new → Continues old new
Streams-later octets more ended taken old new x y = elim (ShowsSo-later octets more ended (taken ++ old.records) (taken ++ new.records) old.ending new.ending x y) [
  | inl on ↦
      let (unended, (others, same)) = on in
      inl (unended, (others, append_cancel_left taken new.records (old.records ++ others) (same ∙ append_assoc taken old.records others)))
  | inr same ↦
      let records = append_cancel_left taken new.records old.records same.0 in
      inr (λ i. record { records = records i; ending = same.1 i })
]

-- what is due of a capture, behind the records that were taken of it
module _ (octets : List ℕ) (ended : Bool) (taken : List Taken) (stream : Stream) (shows : Streams octets ended taken stream) where
  -- where the octets read as what was taken, nothing is left
  nothing_left : (ending : Ending) → Reads octets taken ending → (stream.records ≡ []) × (stream.ending ≡ known_ending ended ending)
  nothing_left ending reads =
      let same = Reads-unique octets (taken ++ stream.records) taken shows.ending ending shows.reads reads in
      let none : taken ++ stream.records ≡ taken ++ [] = same.0 ∙ sym (append-nil taken) in
      (append_cancel_left taken stream.records [] none, shows.known_is ∙ ap (known_ending ended) same.1)

  due_none : (ending : Ending) → Reads octets taken ending → due_of stream ≡ due_by [] (known_ending ended ending)
  due_none ending reads = let none = nothing_left ending reads in λ i. due_by (none.0 i) (none.1 i)

  -- where all that they read as begins with one record more, it is the first that is left
  first_left : (t : Taken) (more : List Taken) → taken ++ stream.records ≡ taken ++ t ∷ more → stream.records ≡ t ∷ more
  first_left t more is = append_cancel_left taken stream.records (t ∷ more) is

  -- the octets shown begin with the record that a step gave: it was the first that was left, and then
  -- the others are
  pub Streams-take : (new : Reading) (t : Taken) → Stands new octets (taken ++ t ∷ [])
      → (first_of stream.records ≡ t) × Streams octets ended (taken ++ t ∷ []) (record stream { records = drop 1 stream.records })
  Streams-take new t stands =
      let (more, is) = Stands-first new octets (taken ++ t ∷ []) stands (taken ++ stream.records) shows.ending shows.reads in
      let left = first_left t more (is ∙ append_assoc taken (t ∷ []) more) in
      let joined : taken ++ stream.records ≡ (taken ++ t ∷ []) ++ drop 1 stream.records = is ∙ ap (λ xs. (taken ++ t ∷ []) ++ drop 1 xs) (sym left) in
      let P : List Taken → Type 0 = λ xs. ShowsSo octets ended xs stream.ending in
      (ap first_of left, subst P joined shows)

  pub due-record : (t : Taken) (more : List Taken) (time : ℕ) → taken ++ stream.records ≡ taken ++ t ∷ more → time ≡ t.entry.time → due_of stream ≡ Record time
  due-record t more time is same = ap (λ xs. due_by xs stream.ending) (first_left t more is) ∙ ap Record (sym same)

  pub due-bad : (at : ℕ) (f : CapFault) → Reads octets taken (Faulty at f) → stays f ≡ true → due_of stream ≡ Bad at f
  due-bad at f reads still = due_none (Faulty at f) reads ∙ ap (due_by []) (stays_known ended at f still)

  pub due-more : ended ≡ false → ShowsSo octets false taken None → due_of stream ≡ More
  due-more unended cut = due_none cut.ending cut.reads ∙ ap (λ b. due_by [] (known_ending b cut.ending)) unended ∙ ap (due_by []) (sym cut.known_is)

  pub due-end : ended ≡ true → (ending : Ending) → Reads octets taken ending → due_of stream ≡ due_by [] (Some ending)
  due-end over ending reads = due_none ending reads ∙ ap (λ b. due_by [] (known_ending b ending)) over

  -- where the octets read as what was taken, no record is due
  record_due : (time : ℕ) (ending : Ending) → due_of stream ≡ Record time → Reads octets taken ending → ⊥
  record_due time ending due reads =
      let (t, ts, is) = due_first stream.records stream.ending time due in
      let wrong : ◌≡◌ {A = List Taken} (t ∷ ts) [] = sym is ∙ (nothing_left ending reads).0 in
      absurd (cc)

  -- where a record is due a step that has memory gives it, with its time
  pub due-packet : (new : Reading) (s : Step) (time : ℕ) → due_of stream ≡ Record time → Told octets taken new s → (s ≡ step.NoMemory → ⊥)
      → (link : Layer) × (p : packet.Packet) × (s ≡ step.Packet link p) × (p.time ≡ time)
  due-packet new (step.Packet link p) time due told room =
      let took = Streams-take new (taken_of link p) told.0 in
      let (t, ts, is) = due_first stream.records stream.ending time due in
      let first : t ≡ taken_of link p = sym (ap first_of is) ∙ took.0 in
      let times : t.entry.time ≡ time = record_time t.entry.time time (ap (λ xs. due_by xs stream.ending) (sym is) ∙ due) in
      (link, p, refl, ap (λ x. x.entry.time) (sym first) ∙ times)
  due-packet new step.More time due told room = absurd (record_due time told.1.ending due told.1.reads)
  due-packet new (step.Bad at fault) time due told room =
      let Q : List ℕ → Type 0 = λ xs. Reads xs taken (Faulty at fault) in
      absurd (record_due time (Faulty at fault) due (subst Q (append-nil octets) (told.1.0 [])))
  due-packet new step.NoMemory time due told room = absurd (room refl)
