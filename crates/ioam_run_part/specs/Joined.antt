-- Two parts, joined and written as one.
use Rattle.std.specs.Prelude.{◌≡◌, ℕ, ◌+◌, ◌<◌, ◌≤◌, ◌⊎◌, ⊤, Bool, IsTrue, List, [], ◌∷◌, ◌++◌, length, Option, None, Some}
use Rattle.ioam_desk.specs.Desk.{Writing, Rose, holds}
use Rattle.ioam_run_answer.specs.Record.{Record}
use Rattle.ioam_collect.specs.Entry.{Entry}
use Rattle.ioam_collect.specs.Keyed.{keyed}
use Rattle.ioam_collect.specs.Unite.{united}
use Rattle.ioam_collect.specs.declared.key.Key.{Key}
use Rattle.ioam_part.specs.Part.{head_octets}
use Rattle.ioam_part_merge.specs.Walk.{Walking, Comes, left, pairs_octets}
use Rattle.ioam_run_answer.specs.declared.outcome.Outcome.{Outcome}
use Rattle.ioam_run_answer.specs.declared.outcome.Outcome.TheVariants as outcome
use Rattle.ioam_run_part.specs.Records.{IsPartOfAll, KeepFew, KeepMany}
use Rattle.ioam_run_part.specs.Stored.{HoldsFrontOf}
use Rattle.ioam_stream.specs.declared.conversion.Tail.{Tail}
use Rattle.ioam_stream.specs.declared.conversion.Tail.TheVariants as tail

-- how many pairs these are, or none where they are more than a part may have
abbrev pub Counts : List (Key × Entry) → Option ℕ → Type 0
Counts ps None = 1048576 < length ps
Counts ps (Some count) = (count ≡ length ps) × (count ≤ 1048576)

-- the same of the records that are kept of both
abbrev pub CountsBoth : List Record → List Record → Option ℕ → Type 0
CountsBoth xs ys None = KeepMany xs ys
CountsBoth xs ys (Some count) = KeepFew xs ys

-- the head that says so many records, until it is said
abbrev pub head_if : Option ℕ → List ℕ
head_if None = []
head_if (Some count) = head_octets count

-- the head, if it isn't said yet, and the records that come of a walk
pub record SaysJoined (count : Option ℕ) (walk : Walking) (text : List ℕ) : Type 0 where
  pub pairs : List (Key × Entry)
  pub comes : Comes walk pairs
  pub is : text ≡ head_if count ++ pairs_octets pairs

module _ (old new : Walking) (before after : List ℕ) where
  -- some of the records that come of a walk were appended
  pub record PutsSome : Type 0 where
    pub added : List ℕ
    pub is : after ≡ before ++ added
    pub rest : (ps : List (Key × Entry)) → Comes old ps → (more : List (Key × Entry)) × Comes new more × (pairs_octets ps ≡ added ++ pairs_octets more)

  -- and none is left
  pub record PutsAll : Type 0 where
    pub added : List ℕ
    pub is : after ≡ before ++ added
    pub all : (ps : List (Key × Entry)) → Comes old ps → pairs_octets ps ≡ added

  -- one at least, or all
  abbrev pub PutsRecords : Tail → Type 0
  PutsRecords tail.Rest = (left new < left old) × PutsSome
  PutsRecords tail.End = PutsAll

-- of how many parts this is at most
abbrev pub left_of : Option ℕ → Walking → ℕ
left_of None walk = left walk
left_of (Some count) walk = left walk + 1

-- what comes of the walk are the records of both, which are no more than a part may have, and as many as these
pub record IsPlan (xs ys : List Record) (count : Option ℕ) (walk : Walking) : Type 0 where
  pub few : KeepFew xs ys
  pub comes : Comes walk (united (keyed xs) (keyed ys))
  pub same : count ≡ Some (length (united (keyed xs) (keyed ys)))

-- or the answer where there is none
abbrev pub RefusesJoined : List Record → List Record → Outcome → Type 0
RefusesJoined xs ys (outcome.Records limit) = (limit ≡ 1048576) × KeepMany xs ys
RefusesJoined xs ys outcome.NoMemory = ⊤
RefusesJoined xs ys _ = ⊥

module _ (tells : Bool) (name : List ℕ) (xs ys : List Record) (old new : Writing) where
  -- the name holds the part of the records of both
  pub record HoldsBoth : Type 0 where
    pub text : List ℕ
    pub part : IsPartOfAll (xs ++ ys) text
    pub held : IsTrue tells → holds new name ≡ Some text

  -- or, where it was opened, a front of it
  pub record HoldsBothFront : Type 0 where
    pub text : List ℕ
    pub part : IsPartOfAll (xs ++ ys) text
    pub held : IsTrue tells → old.side.slots < new.side.slots → HoldsFrontOf new name text

  -- what became of writing them, by the answer: the part of both; nothing, where both keep too many; or a front of it
  abbrev pub WritesJoined : Outcome → Type 0
  WritesJoined outcome.Done = KeepFew xs ys × HoldsBoth × (new.side.asked ≡ old.side.asked ++ name ∷ [])
  WritesJoined (outcome.Records limit) = (limit ≡ 1048576) × KeepMany xs ys × (new ≡ old)
  WritesJoined outcome.WriteFault = Rose old.side.faults new.side.faults × HoldsBothFront
  WritesJoined outcome.NoMemory = (new ≡ old) ⊎ HoldsBothFront
  WritesJoined _ = ⊥
