-- The turn of several captures is what its words say.
use Rattle.std.proofs.Common.{◌≡◌, ℕ, zero, suc, ◌+◌, ◌<◌, ◌≤◌, false, List, [], ◌∷◌, length, Some, None, arith, refl, sym, ap, subst, inl, inr}
use Rattle.std.specs.Prelude.{if◌then◌else◌, map, slice_get, nat_lt}
use Rattle.std.proofs.lemmas.Bool.{cases_lt, ltb-true, lt-ltb, false_from_ne_true}
use Rattle.std.proofs.lemmas.Option.{none-some, same_Some}
use Rattle.ioam_pcap.specs.declared.capture.CapFault.{CapFault}
use Rattle.ioam_capture.specs.declared.turns.Due.{Due}
use Rattle.ioam_capture.specs.declared.turns.Due.TheVariants.{Record, End, Bad, More}
use Rattle.ioam_capture.specs.declared.turns.Turn.{Turn}
use Rattle.ioam_capture.specs.declared.turns.Turn.TheVariants.{Next, Over, Broken, Unshown}
use Rattle.ioam_capture.specs.Turn.{ahead, turn_from, turn_of, IsReady, IsShown, IsTurn, time_of}

-- the words, for captures that are counted from a place on
abbrev TurnsSo : ℕ → List Due → Turn → Type 0
TurnsSo from dues (Next place time) = (i : ℕ) × (place ≡ from + i) × (slice_get dues i ≡ Some (Record time))
    × ((k : ℕ) (due : Due) → slice_get dues k ≡ Some due → IsReady due)
    × ((k other : ℕ) → slice_get dues k ≡ Some (Record other) → (time ≤ other) × (k < i → time < other))
TurnsSo from dues Over = (k : ℕ) (due : Due) → slice_get dues k ≡ Some due → due ≡ End
TurnsSo from dues (Broken place at fault) = (i : ℕ) × (place ≡ from + i) × (slice_get dues i ≡ Some (Bad at fault))
    × ((k : ℕ) (due : Due) → slice_get dues k ≡ Some due → IsShown due)
    × ((k : ℕ) (due : Due) → k < i → slice_get dues k ≡ Some due → IsReady due)
TurnsSo from dues Unshown = (k : ℕ) × (slice_get dues k ≡ Some More)

-- what is so of the first and of each of the others is so of all
each : (P : Due → Type 0) (d : Due) (ds : List Due) → P d → ((k : ℕ) (due : Due) → slice_get ds k ≡ Some due → P due)
    → (k : ℕ) (due : Due) → slice_get (d ∷ ds) k ≡ Some due → P due
each P d ds first others zero due is = subst P (same_Some d due is) first
each P d ds first others (suc k) due is = others k due is

each_before : (P : Due → Type 0) (d : Due) (ds : List Due) (i : ℕ) → P d → ((k : ℕ) (due : Due) → k < i → slice_get ds k ≡ Some due → P due)
    → (k : ℕ) (due : Due) → k < suc i → slice_get (d ∷ ds) k ≡ Some due → P due
each_before P d ds i first others zero due below is = subst P (same_Some d due is) first
each_before P d ds i first others (suc k) due below is = others k due (omega arith) is

ready_shown : (due : Due) → IsReady due → IsShown due
ready_shown (Record time) ready = tt
ready_shown End ready = tt
ready_shown (Bad at fault) ready = absurd ready
ready_shown More ready = absurd ready

end_ready : (due : Due) → due ≡ End → IsReady due
end_ready due is = subst IsReady (sym is) tt

end_no_record : (time : ℕ) → ◌≡◌ {A = Due} (Record time) End → ⊥
end_no_record time same = absurd (cc)

pub record_time : (a b : ℕ) → ◌≡◌ {A = Due} (Record a) (Record b) → a ≡ b
record_time a b same = cc

-- one capture in front
module _ (from : ℕ) (dues : List Due) where
  so_end : (turn : Turn) → TurnsSo (from + 1) dues turn → TurnsSo from (End ∷ dues) turn
  so_end (Next place time) (i, here, is, ready, least) = (
    suc i,
    omega arith,
    is,
    each IsReady End dues tt ready,
    λ k other.
        least_behind k other,
  )
    where
      least_behind : (k other : ℕ) → slice_get (End ∷ dues) k ≡ Some (Record other) → (time ≤ other) × (k < suc i → time < other)
      least_behind zero other there = absurd (end_no_record other (sym (same_Some End (Record other) there)))
      least_behind (suc k) other there = let l = least k other there in (l.0, λ below. l.1 (omega arith))
  so_end Over all = each (λ due. due ≡ End) End dues refl all
  so_end (Broken place at fault) (i, here, is, shown, ready) =
      (suc i, omega arith, is, each IsShown End dues tt shown, each_before IsReady End dues i tt ready)
  so_end Unshown (k, is) = (suc k, is)

  so_bad : (at : ℕ) (fault : CapFault) (turn : Turn) → TurnsSo (from + 1) dues turn → TurnsSo from (Bad at fault ∷ dues) (ahead from (Bad at fault) turn)
  so_bad at fault (Next place time) (i, here, is, ready, least) =
      (0, omega arith, refl, each IsShown (Bad at fault) dues tt (λ k due there. ready_shown due (ready k due there)), λ k due below. absurd (omega arith))
  so_bad at fault Over all =
      (0, omega arith, refl, each IsShown (Bad at fault) dues tt (λ k due there. ready_shown due (end_ready due (all k due there))), λ k due below. absurd (omega arith))
  so_bad at fault (Broken place there other) (i, here, is, shown, ready) =
      (0, omega arith, refl, each IsShown (Bad at fault) dues tt shown, λ k due below. absurd (omega arith))
  so_bad at fault Unshown (k, is) = (suc k, is)

  -- a record whose time is no more than that of those behind it
  first_least : (time : ℕ) → ((k other : ℕ) → slice_get dues k ≡ Some (Record other) → time ≤ other)
      → (k other : ℕ) → slice_get (Record time ∷ dues) k ≡ Some (Record other) → (time ≤ other) × (k < 0 → time < other)
  first_least time least zero other there = let same = record_time time other (same_Some (Record time) (Record other) there) in (omega arith, λ below. absurd (omega arith))
  first_least time least (suc k) other there = (least k other there, λ below. absurd (omega arith))

  -- a record whose time is more than the least of those behind it
  behind_least : (time soonest i : ℕ) → soonest < time
      → ((k other : ℕ) → slice_get dues k ≡ Some (Record other) → (soonest ≤ other) × (k < i → soonest < other))
      → (k other : ℕ) → slice_get (Record time ∷ dues) k ≡ Some (Record other) → (soonest ≤ other) × (k < suc i → soonest < other)
  behind_least time soonest i later least zero other there = let same = record_time time other (same_Some (Record time) (Record other) there) in (omega arith, λ below. omega arith)
  behind_least time soonest i later least (suc k) other there = let l = least k other there in (l.0, λ below. l.1 (omega arith))

  so_record : (time : ℕ) (turn : Turn) → TurnsSo (from + 1) dues turn → TurnsSo from (Record time ∷ dues) (ahead from (Record time) turn)
  so_record time Unshown (k, is) = (suc k, is)
  so_record time Over all = (
    0,
    omega arith,
    refl,
    each IsReady (Record time) dues tt (λ k due there. end_ready due (all k due there)),
    first_least time (λ k other there. absurd (end_no_record other (all k (Record other) there))),
  )
  so_record time (Broken place at fault) (i, here, is, shown, ready) =
      (suc i, omega arith, is, each IsShown (Record time) dues tt shown, each_before IsReady (Record time) dues i tt ready)
  so_record time (Next place soonest) (i, here, is, ready, least) = elim (cases_lt soonest time) [
    | inl later ↦ subst (TurnsSo from (Record time ∷ dues)) (ap (λ b. if b then Next place soonest else Next from time) (sym (lt-ltb soonest time later)))
        (suc i, omega arith, is, each IsReady (Record time) dues tt ready, behind_least time soonest i later least)
    | inr sooner ↦ subst (TurnsSo from (Record time ∷ dues)) (ap (λ b. if b then Next place soonest else Next from time) (sym (not_below soonest time sooner)))
        (0, omega arith, refl, each IsReady (Record time) dues tt ready, first_least time (λ k other there. let l = least k other there in omega (arith, l.0)))
  ]
    where
      not_below : (a b : ℕ) → b ≤ a → nat_lt a b ≡ false
      not_below a b le = false_from_ne_true (nat_lt a b) (λ yes. let below = ltb-true a b yes in omega arith)

so_ahead : (from : ℕ) (dues : List Due) (due : Due) (turn : Turn) → TurnsSo (from + 1) dues turn → TurnsSo from (due ∷ dues) (ahead from due turn)
so_ahead from dues (Record time) turn so = so_record from dues time turn so
so_ahead from dues End turn so = so_end from dues turn so
so_ahead from dues (Bad at fault) turn so = so_bad from dues at fault turn so
so_ahead from dues More turn so = (0, refl)

turns_so : (from : ℕ) (dues : List Due) → TurnsSo from dues (turn_from from dues)
turns_so from [] = λ k due there. absurd (none-some due there)
turns_so from (due ∷ dues) = so_ahead from dues due (turn_from (from + 1) dues) (turns_so (from + 1) dues)

due_inside : (dues : List Due) (k : ℕ) (due : Due) → slice_get dues k ≡ Some due → k < length dues
due_inside [] k due is = absurd (none-some due is)
due_inside (d ∷ ds) zero due is = omega arith
due_inside (d ∷ ds) (suc k) due is = let below = due_inside ds k due is in omega arith

-- a capture has the time of a record exactly where that record is due of it
time_there : (dues : List Due) (k time : ℕ) → slice_get dues k ≡ Some (Record time) → slice_get (map time_of dues) k ≡ Some (Some time)
time_there [] k time is = absurd (none-some (Record time) is)
time_there (d ∷ ds) zero time is = ap (λ due. Some (time_of due)) (same_Some d (Record time) is)
time_there (d ∷ ds) (suc k) time is = time_there ds k time is

pub record_there : (dues : List Due) (k time : ℕ) → slice_get (map time_of dues) k ≡ Some (Some time) → slice_get dues k ≡ Some (Record time)
record_there [] k time is = absurd (none-some (Some time) is)
record_there (Record t ∷ ds) zero time is = ap (λ n. Some (Record n)) (same_Some t time (same_Some (Some t) (Some time) is))
record_there (End ∷ ds) zero time is = absurd (none-some time (same_Some None (Some time) is))
record_there (Bad at fault ∷ ds) zero time is = absurd (none-some time (same_Some None (Some time) is))
record_there (More ∷ ds) zero time is = absurd (none-some time (same_Some None (Some time) is))
record_there (d ∷ ds) (suc k) time is = record_there ds k time is

-- the words, from the front on
from_front : (dues : List Due) (turn : Turn) → TurnsSo 0 dues turn → IsTurn dues turn
from_front dues (Next place time) (i, here, is, ready, least) =
    let at : i ≡ place = omega arith in
    let P : ℕ → Type 0 = λ n. (slice_get dues n ≡ Some (Record time)) × ((k other : ℕ) → slice_get dues k ≡ Some (Record other) → (time ≤ other) × (k < n → time < other)) in
    let there : P place = subst P at (is, least) in
    (ready, (due_inside dues place (Record time) there.0, time_there dues place time there.0, λ k other below timed. there.1 k other (record_there dues k other timed)))
from_front dues Over all = all
from_front dues (Broken place at fault) (i, here, is, shown, ready) =
    let same : i ≡ place = omega arith in
    let P : ℕ → Type 0 = λ n. (slice_get dues n ≡ Some (Bad at fault)) × ((k : ℕ) (due : Due) → k < n → slice_get dues k ≡ Some due → IsReady due) in
    let there : P place = subst P same (is, ready) in
    (there.0, shown, there.1)
from_front dues Unshown shown = shown

pub turn_says : (dues : List Due) → IsTurn dues (turn_of dues)
turn_says dues = from_front dues (turn_of dues) (turns_so 0 dues)

-- the capture that comes next has the record due
pub next_due : (dues : List Due) (place time : ℕ) → turn_of dues ≡ Next place time → slice_get dues place ≡ Some (Record time)
next_due dues place time is =
    let (ready, least) = subst (IsTurn dues) is (turn_says dues) in
    record_there dues place time least.1
