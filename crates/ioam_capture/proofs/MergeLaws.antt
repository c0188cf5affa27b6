-- Laws of captures that are merged by time.
use Rattle.std.proofs.Common.{◌≡◌, ℕ, zero, suc, ◌+◌, ◌≤◌, ◌⊎◌, List, [], ◌∷◌, ◌++◌, length, drop, Option, Some, None, arith, refl, sym, ap, ◌∙◌, subst, inl, inr}
use Rattle.std.specs.Prelude.{Bool, true, false, ◌==◌, map, slice_get, if◌then◌else◌}
use Rattle.std.specs.List.{AllZip}
use Rattle.std.proofs.lemmas.Bool.{cases_eq, eq-eqb, ne_eqb}
use Rattle.std.proofs.lemmas.Option.{none-some, same_Some}
use Rattle.ioam_base.proofs.LeadsLaws.{Leads-append, Leads-push, Leads-unique}
use Rattle.ioam_capture.specs.declared.turns.Due.{Due}
use Rattle.ioam_capture.specs.declared.turns.Due.TheVariants.{Record, End, Bad, More}
use Rattle.ioam_capture.specs.declared.turns.Turn.{Turn}
use Rattle.ioam_capture.specs.declared.turns.Turn.TheVariants.{Next, Over, Broken, Unshown}
use Rattle.ioam_pcap.specs.Entries.{Taken}
use Rattle.ioam_pcap.specs.Ending.{Ending, Whole, Faulty}
use Rattle.ioam_capture.specs.Turn.{ahead, turn_from, turn_of}
use Rattle.ioam_capture.specs.Merge.{Stream, due_by, due_of, turn, Arrival, stream_at, first_of, taken_at, of_capture, without_first, IsNext, CanTake, arrival_of, arrival_by, arrival, rest_by, rest, Takes, TakesAll}
use Rattle.ioam_capture.proofs.TurnLaws.{next_due, record_time}

-- The second is what the first capture shows later. Where it wasn't known how it ends, there may be
-- more records.
abbrev pub Continues : Stream → Stream → Type 0
Continues old new = ((old.ending ≡ None) × ((more : List Taken) × (new.records ≡ old.records ++ more))) ⊎ (new ≡ old)

-- and so each of several captures
abbrev pub ContinueAll : List Stream → List Stream → Type 0
ContinueAll olds news = AllZip Continues olds news

-- a record comes next, or not
take_cases : (t : Turn) → ((place : ℕ) × (time : ℕ) × (t ≡ Next place time)) ⊎ (IsNext t → ⊥)
take_cases (Next place time) = inl (place, time, refl)
take_cases Over = inr (λ next. next)
take_cases (Broken place at fault) = inr (λ next. next)
take_cases Unshown = inr (λ next. next)

-- it is due of the capture at its place
due_next : (streams : List Stream) (place time : ℕ) → turn streams ≡ Next place time → slice_get (map due_of streams) place ≡ Some (Record time)
due_next streams place time next = next_due (map due_of streams) place time next

-- what is due as a record is the first one
pub due_first : (records : List Taken) (ending : Option Ending) (time : ℕ) → due_by records ending ≡ Record time
    → (e : Taken) × (es : List Taken) × (records ≡ e ∷ es)
due_first (e ∷ es) ending time due = (e, es, refl)
due_first [] None time due = absurd (cc)
due_first [] (Some Whole) time due = absurd (cc)
due_first [] (Some (Faulty at fault)) time due = absurd (cc)

-- how many records there are
abbrev left : List Stream → ℕ
left [] = 0
left (s ∷ ss) = length s.records + left ss

left_behind : (streams : List Stream) (place time : ℕ) → slice_get (map due_of streams) place ≡ Some (Record time)
    → left (without_first streams place) + 1 ≡ left streams
left_behind [] place time due = absurd (none-some (Record time) due)
left_behind (s ∷ ss) zero time due =
    let (e, es, is) = due_first s.records s.ending time (same_Some (due_of s) (Record time) due) in
    let here : length s.records ≡ length es + 1 = omega (arith, ap length is) in
    let behind : length (drop 1 s.records) ≡ length es = ap (λ xs. length (drop 1 xs)) is in
    omega arith
left_behind (s ∷ ss) (suc place) time due = let others = left_behind ss place time due in omega arith

left_rest : (streams : List Stream) (place time : ℕ) → turn streams ≡ Next place time → left (rest streams) + 1 ≡ left streams
left_rest streams place time next =
    let Q : Turn → Type 0 = λ t. left (rest_by streams t) + 1 ≡ left streams in
    subst Q (sym next) (left_behind streams place time (due_next streams place time next))

-- two takings up to captures of which no more can be taken are one
pub Takes-unique : (streams : List Stream) (xs : List Arrival) (b : List Stream) (ys : List Arrival) (c : List Stream)
    → Takes streams xs b → (CanTake b → ⊥) → Takes streams ys c → (CanTake c → ⊥) → (xs ≡ ys) × (b ≡ c)
Takes-unique streams xs b ys c = Leads-unique CanTake arrival rest streams xs b ys c

-- one behind the other
pub Takes-append : (streams : List Stream) (xs : List Arrival) (b : List Stream) (ys : List Arrival) (c : List Stream)
    → Takes streams xs b → Takes b ys c → Takes streams (xs ++ ys) c
Takes-append streams xs b ys c = Leads-append CanTake arrival rest streams xs b ys c

-- a front of what is taken is taken, and then the others
pub Takes-split : (streams : List Stream) (xs ys : List Arrival) (c : List Stream) → Takes streams (xs ++ ys) c
    → (b : List Stream) × Takes streams xs b × Takes b ys c
Takes-split streams [] ys c takes = (streams, refl, takes)
Takes-split streams (x ∷ xs) ys c takes =
    let (b, front, others) = Takes-split (rest streams) xs ys c takes.2 in
    (b, (takes.0, takes.1, front), others)

abbrev IsTaken : List Stream → Type 0
IsTaken streams = (taken : List Arrival) × (last : Turn) × TakesAll streams taken last

ends_here : (streams : List Stream) → (CanTake streams → ⊥) → IsTaken streams
ends_here streams stops = ([], turn streams, record { now = streams; takes = refl; stops = stops; last_is = refl })

take_one : (streams : List Stream) (place time : ℕ) → turn streams ≡ Next place time → IsTaken (rest streams) → IsTaken streams
take_one streams place time next (taken, last, all) =
    (arrival streams ∷ taken, last, record { now = all.now; takes = (subst IsNext (sym next) tt, refl, all.takes); stops = all.stops; last_is = all.last_is })

takes_within : (n : ℕ) (streams : List Stream) → left streams ≤ n → IsTaken streams
takes_within zero streams few = elim (take_cases (turn streams)) [
  | inr stops ↦ ends_here streams stops
  | inl next ↦ let fewer = left_rest streams next.0 next.1 next.2 in absurd (omega arith)
]
takes_within (suc n) streams few = elim (take_cases (turn streams)) [
  | inr stops ↦ ends_here streams stops
  | inl next ↦ take_one streams next.0 next.1 next.2 (takes_within n (rest streams) (omega (arith, left_rest streams next.0 next.1 next.2)))
]

-- of any captures some records are taken, until no more can be
pub TakesAll-total : (streams : List Stream) → (taken : List Arrival) × (last : Turn) × TakesAll streams taken last
TakesAll-total streams = takes_within (left streams) streams (omega arith)

pub TakesAll-unique : (streams : List Stream) (xs : List Arrival) (s : Turn) (ys : List Arrival) (t : Turn)
    → TakesAll streams xs s → TakesAll streams ys t → (xs ≡ ys) × (s ≡ t)
TakesAll-unique streams xs s ys t x y =
    let stop : CanTake x.now → ⊥ = λ next. x.stops (subst IsNext x.last_is next) in
    let stops : CanTake y.now → ⊥ = λ next. y.stops (subst IsNext y.last_is next) in
    let same = Takes-unique streams xs x.now ys y.now x.takes stop y.takes stops in
    (same.0, sym x.last_is ∙ ap turn same.1 ∙ y.last_is)

-- what is taken begins all that is taken
pub Takes-front : (streams : List Stream) (xs : List Arrival) (b : List Stream) (all : List Arrival) (last : Turn)
    → Takes streams xs b → TakesAll streams all last → (more : List Arrival) × (all ≡ xs ++ more) × TakesAll b more last
Takes-front streams xs b all last takes whole =
    let (more, end, others) = TakesAll-total b in
    let joined : TakesAll streams (xs ++ more) end = record { now = others.now; takes = Takes-append streams xs b more others.now takes others.takes; stops = others.stops; last_is = others.last_is } in
    let same = TakesAll-unique streams all last (xs ++ more) end whole joined in
    (more, same.0, subst (TakesAll b more) (sym same.1) others)

-- what was due of a capture, if it was known, is due of it later
due_kept : (records others : List Taken) (ending later : Option Ending) (more : List Taken) → ending ≡ None → others ≡ records ++ more
    → (due_by records ending ≡ More → ⊥) → due_by others later ≡ due_by records ending
due_kept [] others ending later more unended is shown = absurd (shown (ap (due_by []) unended))
due_kept (e ∷ es) others ending later more unended is shown = ap (λ xs. due_by xs later) is

due_later : (s t : Stream) → Continues s t → (due_of s ≡ More → ⊥) → due_of t ≡ due_of s
due_later s t (inr same) shown = ap due_of same
due_later s t (inl (unended, (more, is))) shown = due_kept s.records t.records s.ending t.ending more unended is shown

ahead_unshown : (place : ℕ) (due : Due) → ahead place due Unshown ≡ Unshown
ahead_unshown place (Record time) = refl
ahead_unshown place End = refl
ahead_unshown place (Bad at fault) = refl
ahead_unshown place More = refl

dues_later : (from : ℕ) (ss ts : List Stream) → ContinueAll ss ts → (turn_from from (map due_of ss) ≡ Unshown → ⊥) → map due_of ts ≡ map due_of ss
dues_later from [] [] all shown = refl
dues_later from [] (t ∷ ts) all shown = absurd all
dues_later from (s ∷ ss) [] all shown = absurd all
dues_later from (s ∷ ss) (t ∷ ts) all shown =
    let others = dues_later (from + 1) ss ts all.1 (λ un. shown (ap (ahead from (due_of s)) un ∙ ahead_unshown from (due_of s))) in
    let first = due_later s t all.0 (λ un. shown (ap (λ d. ahead from d (turn_from (from + 1) (map due_of ss))) un)) in
    cc

-- a turn that is known stays
pub turn-later : (ss ts : List Stream) → ContinueAll ss ts → (turn ss ≡ Unshown → ⊥) → turn ts ≡ turn ss
turn-later ss ts all shown = ap turn_of (dues_later 0 ss ts all shown)

-- a record was taken of a capture and of what it shows later
first_later : (s t : Stream) (time : ℕ) → Continues s t → due_of s ≡ Record time
    → (first_of t.records ≡ first_of s.records) × Continues (record s { records = drop 1 s.records }) (record t { records = drop 1 t.records })
first_later s t time (inr same) due =
    let passed : Stream → Stream = λ x. record x { records = drop 1 x.records } in
    (ap (λ x. first_of x.records) same, inr (ap passed same))
first_later s t time (inl (unended, (more, is))) due =
    let (e, es, here) = due_first s.records s.ending time due in
    let there : t.records ≡ e ∷ (es ++ more) = is ∙ ap (λ xs. xs ++ more) here in
    (ap first_of there ∙ sym (ap first_of here), inl (unended, (more, ap (drop 1) there ∙ ap (λ xs. drop 1 xs ++ more) (sym here))))

passed_later : (ss ts : List Stream) (place time : ℕ) → ContinueAll ss ts → slice_get (map due_of ss) place ≡ Some (Record time)
    → (first_of (stream_at ts place).records ≡ first_of (stream_at ss place).records)
    × ContinueAll (without_first ss place) (without_first ts place)
passed_later [] ts place time all due = absurd (none-some (Record time) due)
passed_later (s ∷ ss) [] place time all due = absurd all
passed_later (s ∷ ss) (t ∷ ts) zero time all due =
    let first = first_later s t time all.0 (same_Some (due_of s) (Record time) due) in (first.0, (first.1, all.1))
passed_later (s ∷ ss) (t ∷ ts) (suc place) time all due =
    let others = passed_later ss ts place time all.1 due in (others.0, (all.0, others.1))

take_later : (ss ts : List Stream) → ContinueAll ss ts → CanTake ss → CanTake ts × (arrival ts ≡ arrival ss) × ContinueAll (rest ss) (rest ts)
take_later ss ts all can = elim (take_cases (turn ss)) [
  | inr stops ↦ absurd (stops can)
  | inl next ↦ by_next next.0 next.1 next.2
]
  where
    by_next : (place time : ℕ) → turn ss ≡ Next place time → CanTake ts × (arrival ts ≡ arrival ss) × ContinueAll (rest ss) (rest ts)
    by_next place time next =
        let shown : turn ss ≡ Unshown → ⊥ = λ un. let wrong : Next place time ≡ Unshown = sym next ∙ un in absurd (cc) in
        let same : turn ts ≡ Next place time = turn-later ss ts all shown ∙ next in
        let passed = passed_later ss ts place time all (due_next ss place time next) in
        let same_taken : taken_at ts place ≡ taken_at ss place = ap (arrival_of place) passed.0 in
        let Q : Turn → Turn → Type 0 = λ a b. IsNext b × (arrival_by ts b ≡ arrival_by ss a) × ContinueAll (rest_by ss a) (rest_by ts b) in
        let here : Q (Next place time) (Next place time) = (tt, same_taken, passed.1) in
        subst (λ b. Q (turn ss) b) (sym same) (subst (λ a. Q a (Next place time)) (sym next) here)

-- more records behind captures whose end wasn't known keep what was taken
pub Takes-later : (ss ts : List Stream) → ContinueAll ss ts → (taken : List Arrival) (now : List Stream) → Takes ss taken now
    → (later : List Stream) × Takes ts taken later × ContinueAll now later
Takes-later ss ts all [] now here = (ts, refl, subst (λ xs. ContinueAll xs ts) here all)
Takes-later ss ts all (x ∷ xs) now takes =
    let (can, same, behind) = take_later ss ts all takes.0 in
    let (later, more, others) = Takes-later (rest ss) (rest ts) behind xs now takes.2 in
    (later, (can, takes.1 ∙ sym same, more), others)

-- so what was taken begins all that is taken of what the captures show in the end
pub Takes-before : (ss ts : List Stream) → ContinueAll ss ts → (taken : List Arrival) (now : List Stream) → Takes ss taken now
    → (all : List Arrival) (last : Turn) → TakesAll ts all last → (more : List Arrival) × (all ≡ taken ++ more)
Takes-before ss ts on taken now takes all last whole =
    let (later, front, others) = Takes-later ss ts on taken now takes in
    let (more, same, end) = Takes-front ts taken later all last front whole in
    (more, same)

-- the captures, once a record was taken of one of them
passed_same : (streams : List Stream) (k : ℕ) (s : Stream) → slice_get streams k ≡ Some s
    → slice_get (without_first streams k) k ≡ Some (record s { records = drop 1 s.records })
passed_same [] k s is = absurd (none-some s is)
passed_same (x ∷ xs) zero s is = let passed : Stream → Stream = λ y. record y { records = drop 1 y.records } in ap (λ y. Some (passed y)) (same_Some x s is)
passed_same (x ∷ xs) (suc k) s is = passed_same xs k s is

passed_other : (streams : List Stream) (place k : ℕ) (s : Stream) → (place ≡ k → ⊥) → slice_get streams k ≡ Some s
    → slice_get (without_first streams place) k ≡ Some s
passed_other [] place k s other is = absurd (none-some s is)
passed_other (x ∷ xs) zero zero s other is = absurd (other refl)
passed_other (x ∷ xs) zero (suc k) s other is = is
passed_other (x ∷ xs) (suc place) zero s other is = is
passed_other (x ∷ xs) (suc place) (suc k) s other is = passed_other xs place k s (λ same. other (ap suc same)) is

stream_is : (streams : List Stream) (k : ℕ) (s : Stream) → slice_get streams k ≡ Some s → stream_at streams k ≡ s
stream_is [] k s is = absurd (none-some s is)
stream_is (x ∷ xs) zero s is = same_Some x s is
stream_is (x ∷ xs) (suc k) s is = stream_is xs k s is

due_is : (streams : List Stream) (k : ℕ) (s : Stream) (due : Due) → slice_get streams k ≡ Some s → slice_get (map due_of streams) k ≡ Some due → due_of s ≡ due
due_is [] k s due is there = absurd (none-some s is)
due_is (x ∷ xs) zero s due is there = ap due_of (sym (same_Some x s is)) ∙ same_Some (due_of x) due there
due_is (x ∷ xs) (suc k) s due is there = due_is xs k s due is there

-- the capture at a place, once these records of it were taken
abbrev pub LeftOf : ℕ → Stream → List Stream → List Taken → Type 0
LeftOf k s streams given = (t : Stream) × (slice_get streams k ≡ Some t) × (s.records ≡ given ++ t.records) × (t.ending ≡ s.ending)

-- one record more in front
taken_first : (k : ℕ) (s : Stream) (now : List Stream) (given : List Taken) (time : ℕ) → due_of s ≡ Record time
    → LeftOf k (record s { records = drop 1 s.records }) now given → LeftOf k s now (first_of s.records ∷ given)
taken_first k s now given time due (t, there, parts, ending) =
    let (e, es, here) = due_first s.records s.ending time due in
    let rest : es ≡ given ++ t.records = ap (drop 1) (sym here) ∙ parts in
    let first : first_of s.records ≡ e = ap first_of here in
    let whole : s.records ≡ first_of s.records ∷ (given ++ t.records) = cc in
    (t, there, whole, ending)

module _ (k : ℕ) where
  left_of_step : (streams : List Stream) (s : Stream) (now : List Stream) (arrivals : List Arrival) → slice_get streams k ≡ Some s
      → ((s' : Stream) → slice_get (rest streams) k ≡ Some s' → LeftOf k s' now (of_capture k arrivals))
      → CanTake streams → LeftOf k s now (of_capture k (arrival streams ∷ arrivals))
  left_of_step streams s now arrivals is others can = elim (take_cases (turn streams)) [
    | inr stops ↦ absurd (stops can)
    | inl next ↦ by_next next.0 next.1 next.2
  ]
    where
      by_next : (place time : ℕ) → turn streams ≡ Next place time → LeftOf k s now (of_capture k (arrival streams ∷ arrivals))
      by_next place time next =
          let Q : Turn → Type 0 = λ t. ((s' : Stream) → slice_get (rest_by streams t) k ≡ Some s' → LeftOf k s' now (of_capture k arrivals)) in
          let behind : Q (Next place time) = subst Q next others in
          let R : Turn → Type 0 = λ t. LeftOf k s now (of_capture k (arrival_by streams t ∷ arrivals)) in
          let S : Bool → Type 0 = λ b. LeftOf k s now (if b then first_of (stream_at streams place).records ∷ of_capture k arrivals else of_capture k arrivals) in
          let here : R (Next place time) = elim (cases_eq place k) [
            | inl same ↦
                let at : slice_get streams place ≡ Some s = subst (λ n. slice_get streams n ≡ Some s) (sym same) is in
                let due = due_is streams place s (Record time) at (due_next streams place time next) in
                let passed : slice_get (without_first streams place) k ≡ Some (record s { records = drop 1 s.records }) =
                subst (λ n. slice_get (without_first streams n) k ≡ Some (record s { records = drop 1 s.records })) (sym same) (passed_same streams k s is) in
                let more = taken_first k s now (of_capture k arrivals) time due (behind (record s { records = drop 1 s.records }) passed) in
                let T : Stream → Type 0 = λ x. LeftOf k s now (first_of x.records ∷ of_capture k arrivals) in
                subst S (sym (eq-eqb place k same)) (subst T (sym (stream_is streams place s at)) more)
            | inr other ↦ subst S (sym (ne_eqb place k other)) (behind s (passed_other streams place k s other is))
          ] in
          subst R (sym next) here

  -- what was taken of a capture, and what is left of it, is what it showed
  pub Takes-of : (streams : List Stream) (taken : List Arrival) (now : List Stream) → Takes streams taken now
      → (s : Stream) → slice_get streams k ≡ Some s → LeftOf k s now (of_capture k taken)
  Takes-of streams [] now here s is = (s, subst (λ xs. slice_get xs k ≡ Some s) here is, refl, refl)
  Takes-of streams (x ∷ xs) now takes s is =
      let step = left_of_step streams s now xs is (λ s' there. Takes-of (rest streams) xs now takes.2 s' there) takes.0 in
      subst (λ a. LeftOf k s now (of_capture k (a ∷ xs))) (sym takes.1) step

-- one record more
pub Takes-push : (streams : List Stream) (taken : List Arrival) (now : List Stream) → Takes streams taken now → CanTake now
    → Takes streams (taken ++ arrival now ∷ []) (rest now)
Takes-push streams taken now = Leads-push CanTake arrival rest streams taken now

-- the record of an arrival
abbrev pub taken_in : Arrival → Taken
taken_in a = record { link = a.link; entry = a.entry }

push_behind : (b : Bool) (x : Taken) (es : List Taken) (e : Taken) → (if b then x ∷ (es ++ e ∷ []) else es ++ e ∷ []) ≡ (if b then x ∷ es else es) ++ e ∷ []
push_behind true x es e = refl
push_behind false x es e = refl

module _ (k : ℕ) (a : Arrival) where
  pub of_capture-push_same : (taken : List Arrival) → a.capture ≡ k → of_capture k (taken ++ a ∷ []) ≡ of_capture k taken ++ taken_in a ∷ []
  of_capture-push_same [] same = ap (λ b. if b then taken_in a ∷ [] else []) (eq-eqb a.capture k same)
  of_capture-push_same (x ∷ xs) same =
      ap (λ es. if x.capture == k then taken_in x ∷ es else es) (of_capture-push_same xs same) ∙ push_behind (x.capture == k) (taken_in x) (of_capture k xs) (taken_in a)

  pub of_capture-push_other : (taken : List Arrival) → (a.capture ≡ k → ⊥) → of_capture k (taken ++ a ∷ []) ≡ of_capture k taken
  of_capture-push_other [] other = ap (λ b. if b then taken_in a ∷ [] else []) (ne_eqb a.capture k other)
  of_capture-push_other (x ∷ xs) other = ap (λ es. if x.capture == k then taken_in x ∷ es else es) (of_capture-push_other xs other)

few_behind : (b : Bool) (x : Taken) (es : List Taken) (n : ℕ) → length es ≤ n → length (if b then x ∷ es else es) ≤ n + 1
few_behind true x es n few = omega (arith, few)
few_behind false x es n few = omega (arith, few)

-- no more were taken of one capture than of all
pub of_capture-few : (k : ℕ) (taken : List Arrival) → length (of_capture k taken) ≤ length taken
of_capture-few k [] = omega arith
of_capture-few k (x ∷ xs) = omega (arith, few_behind (x.capture == k) (taken_in x) (of_capture k xs) (length xs) (of_capture-few k xs))

stream_due : (streams : List Stream) (place : ℕ) (due : Due) → slice_get (map due_of streams) place ≡ Some due
    → (s : Stream) × (slice_get streams place ≡ Some s) × (due_of s ≡ due)
stream_due [] place due is = absurd (none-some due is)
stream_due (s ∷ ss) zero due is = (s, refl, same_Some (due_of s) due is)
stream_due (s ∷ ss) (suc place) due is = stream_due ss place due is

-- what comes next, where a record does, is due of the capture at its place
pub Next-due : (streams : List Stream) (place time : ℕ) → turn streams ≡ Next place time
    → (s : Stream) × (slice_get streams place ≡ Some s) × (due_of s ≡ Record time)
Next-due streams place time next = stream_due streams place (Record time) (due_next streams place time next)

-- what comes next, where a record does: the first of the capture at its place, with its time
pub Next-first : (streams : List Stream) (place time : ℕ) → turn streams ≡ Next place time
    → (s : Stream) × (slice_get streams place ≡ Some s) × ((first_of s.records).entry.time ≡ time)
    × (arrival streams ≡ arrival_of place (first_of s.records)) × (rest streams ≡ without_first streams place)
Next-first streams place time next =
    let (s, there, due) = Next-due streams place time next in
    let (e, es, is) = due_first s.records s.ending time due in
    let first_due : ◌≡◌ {A = Due} (Record e.entry.time) (Record time) = ap (λ xs. due_by xs s.ending) (sym is) ∙ due in
    let here = stream_is streams place s there in
    let P : Stream → Arrival = λ x. arrival_of place (first_of x.records) in
    (s, there, ap (λ xs. (first_of xs).entry.time) is ∙ record_time e.entry.time time first_due, ap (arrival_by streams) next ∙ ap P here, ap (rest_by streams) next)
