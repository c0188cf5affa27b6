-- Two parts that are walked side by side.
use Rattle.std.specs.Prelude.{◌≡◌, ℕ, ◌+◌, ⊤, Bool, true, false, List, [], ◌∷◌, length, All, Option, None, Some, is_some}
use Rattle.std.specs.List.{flat_map}
use Rattle.std.specs.declared.cmp.Ordering.{Ordering}
use Rattle.std.specs.declared.cmp.Ordering.TheVariants.{Less, Equal, Greater}
use Rattle.ioam_dex.specs.Record.{Record, IsRecord}
use Rattle.ioam_dex.specs.RecordRef.{content}
use Rattle.ioam_dex.specs.Reads.{records_octets}
use Rattle.ioam_dex.specs.declared.record_ref.RecordRef.{RecordRef}
use Rattle.ioam_collect.specs.Entry.{Entry}
use Rattle.ioam_collect.specs.Keyed.{keyed}
use Rattle.ioam_collect.specs.Pairs.{pair_of}
use Rattle.ioam_collect.specs.Unite.{pair_meet, united}
use Rattle.ioam_collect.specs.declared.key.Key.{Key}
use Rattle.ioam_part.specs.Part.{HasKey, item_octets}
use Rattle.ioam_part_merge.specs.declared.side.Side.{Side}
use Rattle.ioam_part_merge.specs.declared.turn.Turn.{Turn}
use Rattle.ioam_part_merge.specs.declared.turn.Turn.TheVariants as turn
use Rattle.ioam_part_merge.specs.declared.step.Step.{Step}
use Rattle.ioam_part_merge.specs.declared.step.Step.TheVariants as step

-- ---- one of the two

-- the first of these records is next, and those behind it follow
abbrev pub ShowsNext : Option RecordRef → List ℕ → List Record → Type 0
ShowsNext None behind [] = ⊤
ShowsNext None behind (x ∷ xs) = ⊥
ShowsNext (Some e) behind [] = ⊥
ShowsNext (Some e) behind (x ∷ xs) = (content e ≡ x) × (behind ≡ records_octets xs)

-- these records are left, and have keys
pub record IsSide (side : Side) (xs : List Record) : Type 0 where
  pub each : All IsRecord xs
  pub keys : All HasKey xs
  pub shows : ShowsNext side.next side.behind xs

-- ---- which comes next

-- by where two records stand to each other, and which of them tell a visit
abbrev pub turn_by : Ordering → Bool → Bool → Turn
turn_by Less first second = turn.First
turn_by Equal true true = turn.Both
turn_by Equal true false = turn.WithoutSecond
turn_by Equal false true = turn.WithoutFirst
turn_by Equal false false = turn.Both
turn_by Greater first second = turn.Second

-- by what is next
abbrev pub turn_of : Option RecordRef → Option RecordRef → Turn
turn_of None None = turn.Done
turn_of None (Some f) = turn.Second
turn_of (Some e) None = turn.First
turn_of (Some e) (Some f) = turn_by (pair_meet (pair_of (content e)) (pair_of (content f))) (is_some (content e).visit) (is_some (content f).visit)

-- ---- the walk

-- a walk as its callers see it: its two sides
pub record Walking : Type 0 where
  pub first : Side
  pub second : Side

-- a walk of these two sides
abbrev pub sides : Side → Side → Walking
sides first second = record { first = first; second = second }

-- these pairs come of the walk
pub record Comes (walk : Walking) (ps : List (Key × Entry)) : Type 0 where
  pub firsts : List Record
  pub seconds : List Record
  pub first : IsSide walk.first firsts
  pub second : IsSide walk.second seconds
  pub are : ps ≡ united (keyed firsts) (keyed seconds)

-- the first of these comes next, as these octets, and the others behind it
pub record NextIs (ps : List (Key × Entry)) (octets : List ℕ) (new : Walking) : Type 0 where
  pub pair : Key × Entry
  pub rest : List (Key × Entry)
  pub are : ps ≡ pair ∷ rest
  pub is : octets ≡ item_octets pair.1
  pub comes : Comes new rest

-- how many octets a record has, if it is there
abbrev pub size_of : Option RecordRef → ℕ
size_of None = 0
size_of (Some e) = length e.octets.now

-- how many octets are left of one
abbrev pub left_of : Side → ℕ
left_of side = size_of side.next + length side.behind

-- the same of a walk
abbrev pub left : Walking → ℕ
left walk = left_of walk.first + left_of walk.second

-- the step that takes a record
abbrev pub taken_of : Option RecordRef → Step
taken_of None = step.Done
taken_of (Some e) = step.Taken e.octets

-- what a step leaves of the pairs that come
abbrev pub StepsSo : List (Key × Entry) → Step → Walking → Type 0
StepsSo ps step.Done new = ps ≡ []
StepsSo ps step.Without new = Comes new ps
StepsSo ps (step.Taken octets) new = NextIs ps octets.now new

-- unless the step ends the walk, this holds
abbrev pub Goes : Step → Type 0 → Type 0
Goes step.Done P = ⊤
Goes step.Without P = P
Goes (step.Taken octets) P = P

-- ---- the text

-- the records of pairs, one behind the other
abbrev pub pairs_octets : List (Key × Entry) → List ℕ
pairs_octets ps = flat_map (λ (p : Key × Entry). item_octets p.1) ps
