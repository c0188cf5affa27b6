-- Laws of captures that are merged by time.
use Rattle.std.proofs.Common.{◌≡◌, ◌≢◌, ℕ, zero, suc, ◌+◌, ◌-◌, ◌^◌, ◌<◌, ◌≤◌, Bool, true, false, List, [], ◌∷◌, ◌++◌, length, Option, Some, None, arith, refl, sym, ap, ◌∙◌, subst, inl, inr, set, length-append}
use Rattle.std.specs.Prelude.{map, slice_get, if◌then◌else◌}
use Rattle.std.specs.List.{AllZip}
use Rattle.std.proofs.lemmas.Bool.{cases_eq, false_from_ne_true}
use Rattle.std.proofs.lemmas.List.{append-nil}
use Rattle.std.proofs.lemmas.Option.{none-some, same_Some}
use Rattle.ioam_capture.specs.Arrives.{Handed, HandsOn, IsStream, Arrives}
use Rattle.ioam_pcap.specs.Ending.{Ending, Whole, Faulty, stays}
use Rattle.ioam_pcap.specs.Entries.{Taken}
use Rattle.ioam_pcap.specs.declared.capture.CapFault.{CapFault}
use Rattle.ioam_pcap.specs.declared.capture.Packet as packet
use Rattle.ioam_ip.specs.declared.layer.Layer.{Layer}
use Rattle.ioam_capture.specs.Merge.{Stream, due_by, due_of, turn, Arrival, arrival, arrival_of, first_of, of_capture, rest_by, rest, without_first, Takes, IsNext}
use Rattle.ioam_capture.specs.Reader.{IsDue as IsDueOf, IsFed as IsFedOf, KeepsOn, Stands, Told}
use Rattle.ioam_capture.specs.Reading.{HoldsFew, Reading, fed as fed_of, pending}
use Rattle.ioam_capture.specs.Streams.{known_ending, Streams}
use Rattle.ioam_capture.specs.Turn.{IsTurn, turn_of}
use Rattle.ioam_capture.specs.declared.reader.Step.{Step}
use Rattle.ioam_capture.specs.declared.reader.Step.TheVariants.{Packet, NoMemory}
use Rattle.ioam_capture.specs.declared.turns.Due.{Due}
use Rattle.ioam_capture.specs.declared.turns.Due.TheVariants.{Record, End, Bad, More}
use Rattle.ioam_capture.specs.declared.turns.Turn.{Turn}
use Rattle.ioam_capture.specs.declared.turns.Turn.TheVariants.{Next, Over, Broken, Unshown}
use Rattle.ioam_capture.proofs.ArrivesLaws.{Arrives-total, Arrives-known, Takes-streams, Takes-handed}
use Rattle.ioam_capture.proofs.MergeLaws.{Takes-push, Next-first, Next-due, of_capture-few, of_capture-push_same, of_capture-push_other}
use Rattle.ioam_capture.proofs.StandsLaws.{Stands-room}
use Rattle.ioam_capture.proofs.StreamsLaws.{Streams-take, due-packet}
use Rattle.ioam_capture.proofs.TurnLaws.{next_due, turn_says}
use Rattle.ioam_capture_merge.specs.Capture.{Lane, IsDue, most_taken}
use Rattle.ioam_capture_merge.specs.Merging.{Begins}
use Rattle.ioam_capture_merge.specs.Merge.{AreKnown, ArriveOf, Comes, Covered, IsEnded, IsFed, IsShort, Merging, ShowsOne, Turns, ended_at, part, parts, room_of, wholes}
use Rattle.ioam_capture_merge.specs.declared.capture.Capture.{Capture}
use Rattle.ioam_capture_merge.specs.declared.merge.Merge.{Merge}
use Rattle.ioam_capture_merge.proofs.ListLaws.{each-get, each-length, each-same, each-zip, get-inside, get-push, get-set, get-set_here, set-length, within}

-- ---- what was taken first

-- of any captures nothing is taken first
pub Begins-none : (captures : List Handed) → Begins captures []
Begins-none captures =
    let (taken, last, arrives) = Arrives-total captures in
    record { streams = arrives.streams; now = arrives.streams; shown = arrives.shown; takes = refl }

-- more was handed out, and what was taken first still is
pub Begins-on : (olds news : List Handed) (taken : List Arrival) → AllZip HandsOn olds news → Begins olds taken → Begins news taken
Begins-on olds news taken on begins =
    let (longer, later, shown, takes, others) = Takes-handed olds news begins.streams taken begins.now on begins.shown begins.takes in
    record { streams = longer; now = later; shown = shown; takes = takes }

-- where no record comes next, all that can be taken was taken
pub Begins-all : (captures : List Handed) (taken : List Arrival) (begins : Begins captures taken) (last : Turn) → turn begins.now ≡ last → (IsNext last → ⊥)
    → Arrives captures taken last
Begins-all captures taken begins last is stops = record {
  streams = begins.streams;
  shown = begins.shown;
  all = record { now = begins.now; takes = begins.takes; stops = stops; last_is = is };
}

-- and of what is handed out later too, if it is known why none comes
Arrives-on : (olds news : List Handed) (taken : List Arrival) (last : Turn) → AllZip HandsOn olds news → Arrives olds taken last → (last ≡ Unshown → ⊥)
    → Arrives news taken last
Arrives-on olds news taken last on arrives known =
    let (all, end, after) = Arrives-total news in
    let same = Arrives-known olds news on taken all last end arrives after known in
    subst (λ t. Arrives news taken t) same.1 (subst (λ xs. Arrives news xs end) same.0 after)

-- where it isn't known what is due of a capture, the turn isn't
turn_unshown : (dues : List Due) (k : ℕ) (t : Turn) → slice_get dues k ≡ Some More → IsTurn dues t → t ≡ Unshown
turn_unshown dues k (Next place time) is says = absurd (says.0 k More is)
turn_unshown dues k Over is says = let wrong : ◌≡◌ {A = Due} More End = says k More is in absurd (cc)
turn_unshown dues k (Broken place at fault) is says = absurd (says.1 k More is)
turn_unshown dues k Unshown is says = refl

-- as many captures are left as there were
passed_length : (streams : List Stream) (place : ℕ) → length (without_first streams place) ≡ length streams
passed_length [] place = refl
passed_length (s ∷ ss) zero = refl
passed_length (s ∷ ss) (suc place) = omega (arith, passed_length ss place)

rest_length : (streams : List Stream) (t : Turn) → length (rest_by streams t) ≡ length streams
rest_length streams (Next place time) = passed_length streams place
rest_length streams Over = refl
rest_length streams (Broken place at fault) = refl
rest_length streams Unshown = refl

Takes-length : (streams : List Stream) (taken : List Arrival) (now : List Stream) → Takes streams taken now → length now ≡ length streams
Takes-length streams [] now here = ap length (sym here)
Takes-length streams (x ∷ xs) now takes = Takes-length (rest streams) xs now takes.2 ∙ rest_length streams (turn streams)

zip_length : {A B : Type 0} (R : A → B → Type 0) (xs : List A) (ys : List B) → AllZip R xs ys → length ys ≡ length xs
zip_length R [] [] all = refl
zip_length R [] (y ∷ ys) all = absurd all
zip_length R (x ∷ xs) [] all = absurd all
zip_length R (x ∷ xs) (y ∷ ys) all = omega (arith, zip_length R xs ys all.1)

-- ---- what is due

-- the captures have ended where their end is due
kept_fault : (stays : Bool) (at : ℕ) (f : CapFault) → due_by [] (if stays then Some (Faulty at f) else None) ≡ End → ⊥
kept_fault true at f due = absurd (cc)
kept_fault false at f due = absurd (cc)

ending_end : (records : List Taken) (ended : Bool) (ending : Ending) → due_by records (known_ending ended ending) ≡ End → ended ≡ true
ending_end records true ending due = refl
ending_end (t ∷ ts) false ending due = absurd (cc)
ending_end [] false Whole due = absurd (cc)
ending_end [] false (Faulty at f) due = absurd (kept_fault (stays f) at f due)

stream_end : (octets : List ℕ) (ended : Bool) (given : List Taken) (stream : Stream) → Streams octets ended given stream → due_of stream ≡ End → ended ≡ true
stream_end octets ended given stream shows due =
    ending_end stream.records ended shows.ending (ap (λ e. due_by stream.records e) (sym shows.known_is) ∙ due)

-- of a capture that has ended it is known what is due
shown_by_ending : (records : List Taken) (ending : Option Ending) (e : Ending) → ending ≡ Some e → due_by records ending ≡ More → ⊥
shown_by_ending (x ∷ xs) ending e is due = absurd (cc)
shown_by_ending [] None e is due = absurd (cc)
shown_by_ending [] (Some Whole) e is due = absurd (cc)
shown_by_ending [] (Some (Faulty at fault)) e is due = absurd (cc)

ended_shown : (octets : List ℕ) (ended : Bool) (given : List Taken) (stream : Stream) → ended ≡ true → Streams octets ended given stream
    → due_of stream ≡ More → ⊥
ended_shown octets ended given stream is shows =
    shown_by_ending stream.records stream.ending shows.ending (shows.known_is ∙ ap (λ b. known_ending b shows.ending) is)

dues_same : (dues : List Due) (now : List Stream) → length now ≡ length dues
    → ((k : ℕ) (due : Due) (s : Stream) → slice_get dues k ≡ Some due → slice_get now k ≡ Some s → due ≡ due_of s)
    → dues ≡ map due_of now
dues_same [] [] size same = refl
dues_same [] (s ∷ ss) size same = absurd (omega (arith, size))
dues_same (d ∷ ds) [] size same = absurd (omega (arith, size))
dues_same (d ∷ ds) (s ∷ ss) size same =
    let first = same 0 d s refl refl in
    let others = dues_same ds ss (omega (arith, size)) (λ k x t. same (suc k) x t) in
    cc

get_map : {A B : Type 0} (f : A → B) (xs : List A) (k : ℕ) (x : A) → slice_get xs k ≡ Some x → slice_get (map f xs) k ≡ Some (f x)
get_map f [] k x is = absurd (none-some x is)
get_map f (z ∷ zs) zero x is = ap (λ w. Some (f w)) (same_Some z x is)
get_map f (z ∷ zs) (suc k) x is = get_map f zs k x is

below_other : (k place : ℕ) → k < place + 1 → (k ≡ place → ⊥) → k < place
below_other k place below other = elim (cases_eq k place) [
  | inl same ↦ absurd (other same)
  | inr differ ↦ omega (arith, below, differ)
]

-- ---- what was handed out

-- whether one of some captures has ended
ended_there : (captures : List Capture) (k : ℕ) (capture : Capture) → slice_get captures k ≡ Some capture → ended_at captures k ≡ capture.ended
ended_there [] k capture is = absurd (none-some capture is)
ended_there (c ∷ cs) zero capture is = ap (λ (x : Capture). x.ended) (same_Some c capture is)
ended_there (c ∷ cs) (suc k) capture is = ended_there cs k capture is

same_part : {xs ys : List ℕ} {a b : Bool} → xs ≡ ys → a ≡ b → ◌≡◌ {A = Handed} (record { octets = xs; ended = a }) (record { octets = ys; ended = b })
same_part octets ended = cc

module _ (n : ℕ) (fed : ℕ → List ℕ) (ended : ℕ → Bool) where
  -- a whole file continues what was handed out of it
  part_whole : (contents : ℕ → List ℕ) → Covered n fed ended contents → (k : ℕ) → k < n → HandsOn (part fed ended k) (part contents (λ k. true) k)
  part_whole contents covered k inside = by_end (ended k) refl
    where
      by_end : (b : Bool) → ended k ≡ b → HandsOn (part fed ended k) (part contents (λ k. true) k)
      by_end false going = let front = covered.front k inside in inl (going, (front.rest, front.is))
      by_end true end =
          let whole = covered.whole k inside end in
          let both : ◌≡◌ {A = Handed} (record { octets = contents k; ended = true }) (record { octets = fed k; ended = ended k }) = cc in
          inr both

  -- and hands out as much where nothing was handed out since
  pub parts_on : (after_fed : ℕ → List ℕ) (after_ended : ℕ → Bool) → ((k : ℕ) → after_fed k ≡ fed k) → ((k : ℕ) → after_ended k ≡ ended k)
      → AllZip HandsOn (parts n fed ended) (parts n after_fed after_ended)
  parts_on after_fed after_ended same ends = each-zip HandsOn n 0 (part fed ended) (part after_fed after_ended) (λ k least below. inr (same_part (same k) (ends k)))

  pub parts_same : (after_fed : ℕ → List ℕ) (after_ended : ℕ → Bool) → ((k : ℕ) → after_fed k ≡ fed k) → ((k : ℕ) → after_ended k ≡ ended k)
      → parts n after_fed after_ended ≡ parts n fed ended
  parts_same after_fed after_ended same ends = each-same n 0 (part after_fed after_ended) (part fed ended) (λ k. same_part (same k) (ends k))

  pub wholes_on : (contents : ℕ → List ℕ) → Covered n fed ended contents → AllZip HandsOn (parts n fed ended) (wholes n contents)
  wholes_on contents covered = each-zip HandsOn n 0 (part fed ended) (part contents (λ k. true)) (λ k least below. part_whole contents covered k (omega (arith, below)))

  module _ (taken : List Arrival) (begins : Begins (parts n fed ended) taken) where
    streams_sized : length begins.now ≡ n
    streams_sized = omega (
      arith,
      Takes-length begins.streams taken begins.now begins.takes,
      zip_length IsStream (parts n fed ended) begins.streams begins.shown,
      each-length n 0 (part fed ended),
    )

    -- what is left of a capture is what its streams say
    stream_there : (k : ℕ) → k < n → (s : Stream) × (slice_get begins.now k ≡ Some s) × Streams (fed k) (ended k) (of_capture k taken) s
    stream_there k inside =
        let (s, there) = get-inside begins.now k (omega (arith, inside, streams_sized)) in
        let from : 0 + k ≡ k = omega arith in
        let here : slice_get (parts n fed ended) k ≡ Some (part fed ended k) = each-get n 0 (part fed ended) k inside ∙ ap (λ (m : ℕ). Some (part fed ended m)) from in
        (s, there, Takes-streams (parts n fed ended) begins.streams taken begins.now begins.shown begins.takes k (part fed ended k) s here there)

    -- a capture whose next record isn't shown
    pub unshown : (k : ℕ) → k < n → IsDue (part fed ended k) (of_capture k taken) More → turn begins.now ≡ Unshown
    unshown k inside due =
        let (s, there, shows) = stream_there k inside in
        let more : slice_get (map due_of begins.now) k ≡ Some More = get_map due_of begins.now k s there ∙ ap Some (sym (due s shows)) in
        turn_unshown (map due_of begins.now) k (turn begins.now) more (turn_says (map due_of begins.now))

    -- of what was handed out all was taken that it shows
    pub arrives_unshown : (k : ℕ) → k < n → IsDue (part fed ended k) (of_capture k taken) More → Arrives (parts n fed ended) taken Unshown
    arrives_unshown k inside due = Begins-all (parts n fed ended) taken begins Unshown (unshown k inside due) (λ next. next)

  module _ (taken : List Arrival) (merge : Merge) (merging : Merging n fed ended taken merge) where
    -- which of them have ended
    pub ended_are : (k : ℕ) → k < n → ended k ≡ ended_at merge.captures.items k
    ended_are k inside =
        let (capture, there) = get-inside merge.captures.items k (omega (arith, inside, merging.captures)) in
        (merging.lanes k capture there).same_end ∙ sym (ended_there merge.captures.items k capture there)

    -- the turn, where it is known what is due of each
    turn_is : AreKnown n merge → turn_of merge.dues.items ≡ turn merging.begins.now
    turn_is known = ap turn_of (dues_same merge.dues.items merging.begins.now (omega (arith, streams_sized taken merging.begins, merging.dues)) same)
      where
        same : (k : ℕ) (due : Due) (s : Stream) → slice_get merge.dues.items k ≡ Some due → slice_get merging.begins.now k ≡ Some s → due ≡ due_of s
        same k due s is there =
            let inside : k < n = omega (arith, within merge.dues.items k due is, merging.dues) in
            let (t, here, shows) = stream_there taken merging.begins k inside in
            merging.known k due is (known k due inside is) s
            (subst (λ x. Streams (fed k) (ended k) (of_capture k taken) x) (same_Some t s (sym here ∙ there)) shows)

    -- one capture was asked what is due of it
    module _ (place : ℕ) (before after : Capture) (there : slice_get merge.captures.items place ≡ Some before) (keeps : KeepsOn before.reader after.reader)
        (still : after.ended ≡ before.ended) (due : Due) (asked : IsDueOf before.reader before.ended due) where
      inside : place < n
      inside = omega (arith, within merge.captures.items place before there, merging.captures)

      is_due : IsDue (part fed ended place) (of_capture place taken) due
      is_due = λ stream shows.
          let lane = merging.lanes place before there in
          asked (fed place) (of_capture place taken) stream lane.stands (subst (λ b. Streams (fed place) b (of_capture place taken) stream) lane.same_end shows)

      lanes_asked : (later : Merge) → later.captures.items ≡ set merge.captures.items place after
          → (k : ℕ) (capture : Capture) → slice_get later.captures.items k ≡ Some capture → Lane capture (part fed ended k) (of_capture k taken)
      lanes_asked later captures k capture is =
          let P : List Capture → Type 0 = λ cs. slice_get cs k ≡ Some capture in
          elim (get-set merge.captures.items place after k capture (subst P captures is)) [
            | inl here ↦
                let lane = merging.lanes place before there in
                let new : Lane after (part fed ended place) (of_capture place taken) =
                record { stands = keeps (fed place) (of_capture place taken) lane.stands; same_end = lane.same_end ∙ sym still } in
                let W : ℕ → Capture → Type 0 = λ m c. Lane c (part fed ended m) (of_capture m taken) in
                subst (λ m. W m capture) (sym here.0) (subst (W place) (sym here.1) new)
            | inr other ↦ merging.lanes k capture other.1
          ]

      -- it is known
      pub shows_known : (later : Merge) → AreKnown place merge → (due ≡ More → ⊥) → later.captures.items ≡ set merge.captures.items place after
          → later.dues.items ≡ set merge.dues.items place due → ShowsOne n fed ended taken later place true
      shows_known later known is captures dues = (
        record {
          captures = ap length captures ∙ set-length merge.captures.items place after ∙ merging.captures;
          dues = ap length dues ∙ set-length merge.dues.items place due ∙ merging.dues;
          lanes = lanes_asked later captures;
          known = λ k d at shown.
              let P : List Due → Type 0 = λ ds. slice_get ds k ≡ Some d in
              elim (get-set merge.dues.items place due k d (subst P dues at)) [
                | inl here ↦
                    let W : ℕ → Due → Type 0 = λ m x. IsDue (part fed ended m) (of_capture m taken) x in
                    subst (λ m. W m d) (sym here.0) (subst (W place) (sym here.1) is_due)
                | inr other ↦ merging.known k d other.1 shown
              ];
          begins = merging.begins;
        },
        λ k d below at un.
            let P : List Due → Type 0 = λ ds. slice_get ds k ≡ Some d in
            elim (get-set merge.dues.items place due k d (subst P dues at)) [
              | inl here ↦ is (sym here.1 ∙ un)
              | inr other ↦ known k d (below_other k place below other.0) other.1 un
            ],
      )

      -- or more of it is needed
      pub shows_short : (later : Merge) → due ≡ More → HoldsFew after.reader → slice_get merge.dues.items place ≡ Some More
          → later.captures.items ≡ set merge.captures.items place after → later.dues.items ≡ merge.dues.items → IsShort n fed ended taken later place
      shows_short later more few again captures dues = record {
        merging = record {
          captures = ap length captures ∙ set-length merge.captures.items place after ∙ merging.captures;
          dues = ap length dues ∙ merging.dues;
          lanes = lanes_asked later captures;
          known = λ k d at shown. let P : List Due → Type 0 = λ ds. slice_get ds k ≡ Some d in merging.known k d (subst P dues at) shown;
          begins = merging.begins;
        };
        inside = inside;
        asked = let P : List Due → Type 0 = λ ds. slice_get ds place ≡ Some More in subst P (sym dues) again;
        few = λ capture at.
            let P : List Capture → Type 0 = λ cs. slice_get cs place ≡ Some capture in
            subst (λ (c : Capture). HoldsFew c.reader) (same_Some after capture (sym (get-set_here merge.captures.items place before after there) ∙ subst P captures at)) few;
        due = subst (λ d. IsDue (part fed ended place) (of_capture place taken) d) more is_due;
        unended = false_from_ne_true (ended place) (λ yes.
            let lane = merging.lanes place before there in
            let (s, at, shows) = stream_there taken merging.begins place inside in
            ended_shown (fed place) (ended place) (of_capture place taken) s yes shows (sym (is_due s shows) ∙ more));
      }

    -- what comes next
    pub turns_of : AreKnown n merge → (t : Turn) → turn_of merge.dues.items ≡ t → Turns n fed ended taken merge t
    turns_of known t is = by_turn t is (sym (turn_is known) ∙ is) (subst (IsTurn merge.dues.items) is (turn_says merge.dues.items))
      where
        arrives : (last : Turn) → turn merging.begins.now ≡ last → (IsNext last → ⊥) → (last ≡ Unshown → ⊥) → ArriveOf n fed ended taken merge last
        arrives last now stops shown contents covered = Arrives-on (parts n fed ended) (wholes n contents) taken last (wholes_on contents covered)
            (Begins-all (parts n fed ended) taken merging.begins last now stops) shown

        by_turn : (t : Turn) → turn_of merge.dues.items ≡ t → turn merging.begins.now ≡ t → IsTurn merge.dues.items t → Turns n fed ended taken merge t
        by_turn (Next place time) is now says = record {
          merging = merging;
          inside = omega (arith, within merge.dues.items place (Record time) (next_due merge.dues.items place time is), merging.dues);
          next = now;
        }
        by_turn Over is now says = (
          arrives Over now (λ next. next) (λ un. over_shown un),
          λ k inside.
              let (due, at) = get-inside merge.dues.items k (omega (arith, inside, merging.dues)) in
              let end : due ≡ End = says k due at in
              let known_end : due ≡ More → ⊥ = λ un. let wrong : ◌≡◌ {A = Due} More End = sym un ∙ end in absurd (cc) in
              let (s, there, shows) = stream_there taken merging.begins k inside in
              stream_end (fed k) (ended k) (of_capture k taken) s shows (sym (merging.known k due at known_end s shows) ∙ end),
        )
          where
            over_shown : ◌≡◌ {A = Turn} Over Unshown → ⊥
            over_shown same = absurd (cc)
        by_turn (Broken place at fault) is now says = (
          omega (arith, within merge.dues.items place (Bad at fault) says.0, merging.dues),
          arrives (Broken place at fault) now (λ next. next) (λ un. absurd (cc)),
        )
        by_turn Unshown is now says = known says.0 More (omega (arith, within merge.dues.items says.0 More says.1, merging.dues)) says.1 refl

-- ---- more is handed out

module _ (n : ℕ) (fed after_fed : ℕ → List ℕ) (ended after_ended : ℕ → Bool) (taken : List Arrival) (merge : Merge) (merging : Merging n fed ended taken merge)
    (place : ℕ) (others : (k : ℕ) → k ≢ place → part after_fed after_ended k ≡ part fed ended k) (on : HandsOn (part fed ended place) (part after_fed after_ended place)) where
  -- of one capture
  handed_on : (before after : Capture) (later : Merge) → slice_get merge.captures.items place ≡ Some before → slice_get merge.dues.items place ≡ Some More
      → Lane after (part after_fed after_ended place) (of_capture place taken)
      → later.captures.items ≡ set merge.captures.items place after → later.dues.items ≡ merge.dues.items → Merging n after_fed after_ended taken later
  handed_on before after later there asked lane captures dues = record {
    captures = ap length captures ∙ set-length merge.captures.items place after ∙ merging.captures;
    dues = ap length dues ∙ merging.dues;
    lanes = λ k capture is.
        let P : List Capture → Type 0 = λ cs. slice_get cs k ≡ Some capture in
        elim (get-set merge.captures.items place after k capture (subst P captures is)) [
          | inl here ↦
              let W : ℕ → Capture → Type 0 = λ m c. Lane c (part after_fed after_ended m) (of_capture m taken) in
              subst (λ m. W m capture) (sym here.0) (subst (W place) (sym here.1) lane)
          | inr other ↦ subst (λ (h : Handed). Lane capture h (of_capture k taken)) (sym (others k other.0)) (merging.lanes k capture other.1)
        ];
    known = λ k due at shown.
        let P : List Due → Type 0 = λ ds. slice_get ds k ≡ Some due in
        let was = subst P dues at in
        elim (cases_eq k place) [
          | inl same ↦
              let Q : ℕ → Type 0 = λ m. slice_get merge.dues.items m ≡ Some due in
              absurd (shown (sym (same_Some More due (sym asked ∙ subst Q same was))))
          | inr other ↦ subst (λ (h : Handed). IsDue h (of_capture k taken) due) (sym (others k other)) (merging.known k due was shown)
        ];
    begins = Begins-on (parts n fed ended) (parts n after_fed after_ended) taken (each-zip HandsOn n 0 (part fed ended) (part after_fed after_ended) hands) merging.begins;
  }
    where
      hands : (k : ℕ) → 0 ≤ k → k < 0 + n → HandsOn (part fed ended k) (part after_fed after_ended k)
      hands k least below = elim (cases_eq k place) [
        | inl same ↦ subst (λ m. HandsOn (part fed ended m) (part after_fed after_ended m)) (sym same) on
        | inr other ↦ inr (others k other)
      ]

module _ (n : ℕ) (fed after_fed : ℕ → List ℕ) (ended after_ended : ℕ → Bool) (taken : List Arrival) (merge : Merge) (merging : Merging n fed ended taken merge)
    (place : ℕ) (before after : Capture) (later : Merge) (there : slice_get merge.captures.items place ≡ Some before) (asked : slice_get merge.dues.items place ≡ Some More)
    (unended : ended place ≡ false) (captures : later.captures.items ≡ set merge.captures.items place after) (dues : later.dues.items ≡ merge.dues.items) where
  -- a piece
  pub piece_on : (piece : List ℕ) → IsFed place piece fed ended after_fed after_ended
      → ((octets : List ℕ) (given : List Taken) → Stands before.reader octets given → Stands after.reader (octets ++ piece) given) → after.ended ≡ before.ended
      → Merging n after_fed after_ended taken later
  piece_on piece is stands same = handed_on n fed after_fed ended after_ended taken merge merging place
      (λ k other. same_part (is.others k other) (is.ends k)) (inl (unended, (piece, is.here))) before after later there asked
      (record {
        stands = subst (λ (xs : List ℕ). Stands after.reader xs (of_capture place taken)) (sym is.here) (stands (fed place) (of_capture place taken) (merging.lanes place before there).stands);
        same_end = is.ends place ∙ (merging.lanes place before there).same_end ∙ sym same;
      }) captures dues

  -- or the end
  pub end_on : IsEnded place fed ended after_fed after_ended → after.reader ≡ before.reader → after.ended ≡ true → Merging n after_fed after_ended taken later
  end_on is same end = handed_on n fed after_fed ended after_ended taken merge merging place
      (λ k other. same_part (is.handed k) (is.others k other)) (inl (unended, ([], is.handed place ∙ sym (append-nil (fed place))))) before after later there asked
      (record {
        stands = subst (λ (xs : List ℕ). Stands after.reader xs (of_capture place taken)) (sym (is.handed place))
            (subst (λ (r : Reading). Stands r (fed place) (of_capture place taken)) (sym same) (merging.lanes place before there).stands);
        same_end = is.here ∙ sym end;
      }) captures dues

-- a piece can be handed out
pub fits : (n : ℕ) (fed : ℕ → List ℕ) (ended : ℕ → Bool) (taken : List Arrival) (merge : Merge) (place : ℕ) → IsShort n fed ended taken merge place → length taken ≤ most_taken
    → (capture : Capture) → slice_get merge.captures.items place ≡ Some capture → fed_of capture.reader + 65536 < 2 ^ 63
fits n fed ended taken merge place short many capture there = Stands-room capture.reader (fed place) (of_capture place taken)
    (short.merging.lanes place capture there).stands (omega (arith, many, of_capture-few place taken)) (short.few capture there)

-- ---- how much may still be handed out

-- a reader was asked
pub room_kept : (captures : List Capture) (place : ℕ) (before after : Capture) → slice_get captures place ≡ Some before → fed_of after.reader ≡ fed_of before.reader
    → after.ended ≡ before.ended → room_of (set captures place after) ≡ room_of captures
room_kept [] place before after there fed ended = absurd (none-some before there)
room_kept (c ∷ cs) zero before after there fed ended =
    let same : before ≡ c = sym (same_Some c before there) in
    let measure : Bool → ℕ = λ b. if b then 0 else 1 in
    let fed_same : fed_of after.reader ≡ fed_of c.reader = fed ∙ ap (λ (x : Capture). fed_of x.reader) same in
    let end_same : measure after.ended ≡ measure c.ended = ap measure (ended ∙ ap (λ (x : Capture). x.ended) same) in
    omega (arith, fed_same, end_same)
room_kept (c ∷ cs) (suc place) before after there fed ended = omega (arith, room_kept cs place before after there fed ended)

-- a piece, or the end
room_less : (captures : List Capture) (place : ℕ) (before after : Capture) → slice_get captures place ≡ Some before
    → 9223372036854775808 - fed_of after.reader + (if after.ended then 0 else 1) < 9223372036854775808 - fed_of before.reader + (if before.ended then 0 else 1)
    → room_of (set captures place after) < room_of captures
room_less [] place before after there less = absurd (none-some before there)
room_less (c ∷ cs) zero before after there less =
    let measure : Capture → ℕ = λ x. 9223372036854775808 - fed_of x.reader + (if x.ended then 0 else 1) in
    let same : measure before ≡ measure c = ap measure (sym (same_Some c before there)) in
    omega (arith, less, same)
room_less (c ∷ cs) (suc place) before after there less = omega (arith, room_less cs place before after there less)

pub room_fed : (captures : List Capture) (place : ℕ) (before after : Capture) (piece : List ℕ) → slice_get captures place ≡ Some before → IsFedOf before.reader piece after.reader
    → after.ended ≡ before.ended → 0 < length piece → fed_of before.reader + length piece < 2 ^ 63 → room_of (set captures place after) < room_of captures
room_fed captures place before after piece there feeds same some fits =
    let measure : Bool → ℕ = λ b. if b then 0 else 1 in
    room_less captures place before after there
    (omega (arith, some, fits, feeds.1, ap length feeds.0, length-append (pending before.reader) piece, ap measure same))

pub room_end : (captures : List Capture) (place : ℕ) (before after : Capture) → slice_get captures place ≡ Some before → after.reader ≡ before.reader
    → before.ended ≡ false → after.ended ≡ true → room_of (set captures place after) < room_of captures
room_end captures place before after there same going end =
    let measure : Bool → ℕ = λ b. if b then 0 else 1 in
    let was : measure before.ended ≡ 1 = ap measure going in
    let is : measure after.ended ≡ 0 = ap measure end in
    room_less captures place before after there (omega (arith, ap fed_of same, was, is))

-- ---- one capture more, of which nothing was handed out

pub more_merged : (n : ℕ) (merge later : Merge) (capture : Capture) → Merging n (λ k. []) (λ k. false) [] merge → Stands capture.reader [] [] → capture.ended ≡ false
    → later.captures.items ≡ merge.captures.items ++ capture ∷ [] → later.dues.items ≡ merge.dues.items ++ More ∷ [] → Merging (n + 1) (λ k. []) (λ k. false) [] later
more_merged n merge later capture merging stands unended captures dues = record {
  captures = omega (arith, ap length captures, length-append merge.captures.items (capture ∷ []), merging.captures);
  dues = omega (arith, ap length dues, length-append merge.dues.items (More ∷ []), merging.dues);
  lanes = λ k c is.
      let P : List Capture → Type 0 = λ cs. slice_get cs k ≡ Some c in
      elim (get-push merge.captures.items capture k c (subst P captures is)) [
        | inl before ↦ merging.lanes k c before
        | inr last ↦
            let W : Capture → Type 0 = λ x. Lane x (record { octets = []; ended = false }) [] in
            subst W (sym last.1) (record { stands = stands; same_end = sym unended })
      ];
  known = λ k due is shown.
      let P : List Due → Type 0 = λ ds. slice_get ds k ≡ Some due in
      elim (get-push merge.dues.items More k due (subst P dues is)) [
        | inl before ↦ merging.known k due before shown
        | inr last ↦ absurd (shown last.1)
      ];
  begins = Begins-none (parts (n + 1) (λ k. []) (λ k. false));
}

-- ---- a record is taken

-- a reader gave this record, the next of its capture
abbrev pub GivesRecord : Reading → Taken → Reading → Type 0
GivesRecord before record_given after = (octets : List ℕ) (given : List Taken) → Stands before octets given → Stands after octets (given ++ record_given ∷ [])

module _ (n : ℕ) (fed : ℕ → List ℕ) (ended : ℕ → Bool) (taken : List Arrival) (merge : Merge) (place time : ℕ) (comes : Comes n fed ended taken merge place time)
    (capture : Capture) (there : slice_get merge.captures.items place ≡ Some capture) where
  abbrev now : List Stream
  now = comes.merging.begins.now

  abbrev lane : Lane capture (part fed ended place) (of_capture place taken)
  lane = comes.merging.lanes place capture there

  -- the next step of its reader gives a packet, or wants memory
  pub comes_packet : (new : Reading) (step : Step) → ((octets : List ℕ) (given : List Taken) → Stands capture.reader octets given → Told octets given new step)
      → (step ≡ NoMemory → ⊥) → (l : Layer) × (p : packet.Packet) × (step ≡ Packet l p)
  comes_packet new step told ample =
      let (s, at, shows) = stream_there n fed ended taken comes.merging.begins place comes.inside in
      let (t, here, due) = Next-due now place time comes.next in
      let due_is : due_of s ≡ Record time = ap due_of (same_Some s t (sym at ∙ here)) ∙ due in
      let (l, p, gives, timed) = due-packet (fed place) (ended place) (of_capture place taken) s shows new step time due_is (told (fed place) (of_capture place taken) lane.stands) ample in
      (l, p, gives)

  module _ (after : Capture) (item : Taken) (gives : GivesRecord capture.reader item after.reader) (ends : after.ended ≡ capture.ended) where
    abbrev one : Arrival
    one = arrival_of place item

    stood : Stands after.reader (fed place) (of_capture place taken ++ item ∷ [])
    stood = gives (fed place) (of_capture place taken) lane.stands

    is_next : (arrival now ≡ one) × (item.entry.time ≡ time)
    is_next =
        let (s, at, shows) = stream_there n fed ended taken comes.merging.begins place comes.inside in
        let first : first_of s.records ≡ item = (Streams-take (fed place) (ended place) (of_capture place taken) s shows after.reader item stood).0 in
        let (t, where_t, time_is, arrives, behind) = Next-first now place time comes.next in
        let same_stream : t ≡ s = same_Some t s (sym where_t ∙ at) in (
          arrives ∙ ap (λ (x : Stream). arrival_of place (first_of x.records)) same_stream ∙ ap (arrival_of place) first,
          ap (λ (t : Taken). t.entry.time) (sym first) ∙ ap (λ (x : Stream). (first_of x.records).entry.time) (sym same_stream) ∙ time_is,
        )

    -- its capture has to be asked again
    pub comes_taken : (later : Merge) → later.captures.items ≡ set merge.captures.items place after → later.dues.items ≡ set merge.dues.items place More
        → Merging n fed ended (taken ++ one ∷ []) later × (item.entry.time ≡ time)
    comes_taken later captures dues = (
      record {
        captures = ap length captures ∙ set-length merge.captures.items place after ∙ comes.merging.captures;
        dues = ap length dues ∙ set-length merge.dues.items place More ∙ comes.merging.dues;
        lanes = λ k c is.
            let P : List Capture → Type 0 = λ cs. slice_get cs k ≡ Some c in
            elim (get-set merge.captures.items place after k c (subst P captures is)) [
              | inl here ↦
                  let G : List Taken → Type 0 = λ given. Lane after (part fed ended place) given in
                  let new : Lane after (part fed ended place) (of_capture place (taken ++ one ∷ [])) =
                  subst G (sym (of_capture-push_same place one taken refl)) (record { stands = stood; same_end = lane.same_end ∙ sym ends }) in
                  let W : ℕ → Capture → Type 0 = λ m x. Lane x (part fed ended m) (of_capture m (taken ++ one ∷ [])) in
                  subst (λ m. W m c) (sym here.0) (subst (W place) (sym here.1) new)
              | inr other ↦
                  let Q : List Taken → Type 0 = λ given. Lane c (part fed ended k) given in
                  subst Q (sym (of_capture-push_other k one taken (λ at. other.0 (sym at)))) (comes.merging.lanes k c other.1)
            ];
        known = λ k due at shown.
            let P : List Due → Type 0 = λ ds. slice_get ds k ≡ Some due in
            elim (get-set merge.dues.items place More k due (subst P dues at)) [
              | inl here ↦ absurd (shown here.1)
              | inr other ↦
                  let Q : List Taken → Type 0 = λ given. IsDue (part fed ended k) given due in
                  subst Q (sym (of_capture-push_other k one taken (λ at. other.0 (sym at)))) (comes.merging.known k due other.1 shown)
            ];
        begins = record {
          streams = comes.merging.begins.streams;
          now = rest now;
          shown = comes.merging.begins.shown;
          takes = subst (λ a. Takes comes.merging.begins.streams (taken ++ a ∷ []) (rest now)) is_next.0
              (Takes-push comes.merging.begins.streams taken now comes.merging.begins.takes (subst IsNext (sym comes.next) tt));
        };
      },
      is_next.1,
    )

-- one record more can be taken of the whole files
pub comes_begins : (n : ℕ) (fed : ℕ → List ℕ) (ended : ℕ → Bool) (taken : List Arrival) (merge : Merge) (place time : ℕ) → Comes n fed ended taken merge place time
    → (contents : ℕ → List ℕ) → Covered n fed ended contents → (next : Arrival) × Begins (wholes n contents) (taken ++ next ∷ [])
comes_begins n fed ended taken merge place time comes contents covered =
    let begins = comes.merging.begins in
    let longer : Begins (parts n fed ended) (taken ++ arrival begins.now ∷ []) = record {
      streams = begins.streams;
      now = rest begins.now;
      shown = begins.shown;
      takes = Takes-push begins.streams taken begins.now begins.takes (subst IsNext (sym comes.next) tt);
    } in
    (arrival begins.now, Begins-on (parts n fed ended) (wholes n contents) (taken ++ arrival begins.now ∷ []) (wholes_on n fed ended contents covered) longer)
