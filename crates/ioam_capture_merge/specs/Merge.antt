-- Several captures that are merged by time: what was handed out of them, and what was taken of what that shows.
use Rattle.std.specs.Prelude.{◌≡◌, ◌≢◌, ℕ, zero, suc, ◌+◌, ◌-◌, ◌<◌, ◌≤◌, if◌then◌else◌, Bool, true, false, List, [], ◌∷◌, ◌++◌, length, slice_get, Option, Some, None}
use Rattle.ioam_base.specs.Octets.{IsFront}
use Rattle.ioam_capture.specs.Arrives.{Handed, Arrives}
use Rattle.ioam_capture.specs.Merge.{Arrival, turn, of_capture}
use Rattle.ioam_capture.specs.Reading.{HoldsFew, fed as fed_of}
use Rattle.ioam_capture.specs.declared.turns.Due.{Due}
use Rattle.ioam_capture.specs.declared.turns.Due.TheVariants.{More}
use Rattle.ioam_capture.specs.declared.turns.Turn.{Turn}
use Rattle.ioam_capture.specs.declared.turns.Turn.TheVariants.{Next, Over, Broken, Unshown}
use Rattle.ioam_capture_merge.specs.Capture.{Lane, IsDue, most_taken}
use Rattle.ioam_capture_merge.specs.Merging.{Begins}
use Rattle.ioam_capture_merge.specs.declared.capture.Capture.{Capture}
use Rattle.ioam_capture_merge.specs.declared.merge.Merge.{Merge}

-- `count` values of a function, of the numbers from `from` on
abbrev pub each : {A : Type 0} → ℕ → ℕ → (ℕ → A) → List A
each zero from f = []
each (suc count) from f = f from ∷ each count (suc from) f

-- as much of a capture as was handed out, by its index
abbrev pub part : (ℕ → List ℕ) → (ℕ → Bool) → ℕ → Handed
part fed ended k = record { octets = fed k; ended = ended k }

-- of each capture as much as was handed out
abbrev pub parts : ℕ → (ℕ → List ℕ) → (ℕ → Bool) → List Handed
parts n fed ended = each n 0 (part fed ended)

-- and all of each
abbrev pub wholes : ℕ → (ℕ → List ℕ) → List Handed
wholes n contents = parts n contents (λ k. true)

-- a piece of one capture was handed out, or its end was found
pub record IsFed (place : ℕ) (piece : List ℕ) (fed : ℕ → List ℕ) (ended : ℕ → Bool) (after_fed : ℕ → List ℕ) (after_ended : ℕ → Bool) : Type 0 where
  pub here : after_fed place ≡ fed place ++ piece
  pub others : (k : ℕ) → k ≢ place → after_fed k ≡ fed k
  pub ends : (k : ℕ) → after_ended k ≡ ended k

pub record IsEnded (place : ℕ) (fed : ℕ → List ℕ) (ended : ℕ → Bool) (after_fed : ℕ → List ℕ) (after_ended : ℕ → Bool) : Type 0 where
  pub handed : (k : ℕ) → after_fed k ≡ fed k
  pub here : after_ended place ≡ true
  pub others : (k : ℕ) → k ≢ place → after_ended k ≡ ended k

-- what was handed out is a prefix of what the files hold, and all of it where they have ended
pub record Covered (n : ℕ) (fed : ℕ → List ℕ) (ended : ℕ → Bool) (contents : ℕ → List ℕ) : Type 0 where
  pub front : (k : ℕ) → k < n → IsFront (fed k) (contents k)
  pub whole : (k : ℕ) → k < n → ended k ≡ true → contents k ≡ fed k

module _ (n : ℕ) (fed : ℕ → List ℕ) (ended : ℕ → Bool) (taken : List Arrival) where
  -- of `n` captures, of which so much was handed out, these records were taken; and it is known what is due of them, unless
  -- they have to be asked
  pub record Merging (merge : Merge) : Type 0 where
    pub captures : length merge.captures.items ≡ n
    pub dues : length merge.dues.items ≡ n
    pub lanes : (k : ℕ) (capture : Capture) → slice_get merge.captures.items k ≡ Some capture → Lane capture (part fed ended k) (of_capture k taken)
    pub known : (k : ℕ) (due : Due) → slice_get merge.dues.items k ≡ Some due → (due ≡ More → ⊥) → IsDue (part fed ended k) (of_capture k taken) due
    pub begins : Begins (parts n fed ended) taken

-- whether each of these captures has ended
abbrev pub ended_at : List Capture → ℕ → Bool
ended_at [] k = false
ended_at (capture ∷ captures) zero = capture.ended
ended_at (capture ∷ captures) (suc k) = ended_at captures k

-- how many octets of captures may still be handed out, and how many ends
abbrev pub room_of : List Capture → ℕ
room_of [] = 0
room_of (capture ∷ captures) = (9223372036854775808 - fed_of capture.reader) + (if capture.ended then 0 else 1) + room_of captures

-- of some captures some records were taken
abbrev pub IsMerging : Merge → Type 0
IsMerging merge = (n : ℕ) × (fed : ℕ → List ℕ) × (ended : ℕ → Bool) × (taken : List Arrival) × Merging n fed ended taken merge

-- it is known what is due of the first captures
abbrev pub AreKnown : ℕ → Merge → Type 0
AreKnown count merge = (k : ℕ) (due : Due) → k < count → slice_get merge.dues.items k ≡ Some due → due ≡ More → ⊥

module _ (n : ℕ) (fed : ℕ → List ℕ) (ended : ℕ → Bool) (taken : List Arrival) (merge : Merge) where
  -- more is needed of this capture, which hasn't ended
  pub record IsShort (place : ℕ) : Type 0 where
    pub merging : Merging n fed ended taken merge
    pub inside : place < n
    pub asked : slice_get merge.dues.items place ≡ Some More
    pub few : (capture : Capture) → slice_get merge.captures.items place ≡ Some capture → HoldsFew capture.reader
    pub due : IsDue (part fed ended place) (of_capture place taken) More
    pub unended : ended place ≡ false

  -- it is known what is due of one capture more, or more of it is needed
  abbrev pub ShowsOne : ℕ → Bool → Type 0
  ShowsOne place true = Merging n fed ended taken merge × AreKnown (place + 1) merge
  ShowsOne place false = IsShort place

  abbrev pub Shows : Option ℕ → Type 0
  Shows None = Merging n fed ended taken merge × AreKnown n merge
  Shows (Some place) = IsShort place

  -- the next record is of the capture at this place
  pub record Comes (place time : ℕ) : Type 0 where
    pub merging : Merging n fed ended taken merge
    pub inside : place < n
    pub next : turn merging.begins.now ≡ Next place time

  -- of the whole files these are all the records that can be taken, and this is the turn after them
  abbrev pub ArriveOf : Turn → Type 0
  ArriveOf last = (contents : ℕ → List ℕ) → Covered n fed ended contents → Arrives (wholes n contents) taken last

  -- what comes next: a record, the end of all or the first fault of them
  abbrev pub Turns : Turn → Type 0
  Turns (Next place time) = Comes place time
  Turns Over = ArriveOf Over × ((k : ℕ) → k < n → ended k ≡ true)
  Turns (Broken place at fault) = (place < n) × ArriveOf (Broken place at fault)
  Turns Unshown = ⊥

-- of some captures, and of no more records than may be taken, more is needed of this one
abbrev pub IsShortOf : Merge → ℕ → Type 0
IsShortOf merge place = (n : ℕ) × (fed : ℕ → List ℕ) × (ended : ℕ → Bool) × (taken : List Arrival) × IsShort n fed ended taken merge place × (length taken ≤ most_taken)
