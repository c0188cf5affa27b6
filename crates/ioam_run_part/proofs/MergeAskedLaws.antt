-- The words, ONE and TWO ask for one answer of `merge`.
use Rattle.std.proofs.Common.{◌≡◌, ℕ, ◌⊎◌, Bool, IsTrue, IsSomeAnd, List, ◌++◌, Option, Some, None, refl, sym, ap, ap₂, ◌∙◌, inl, inr, arith}
use Rattle.ioam_desk.specs.Desk.{Reading, Writing, Rose}
use Rattle.ioam_run_answer.specs.Record.{Record}
use Rattle.ioam_collect.specs.Collected.{count_kept}
use Rattle.ioam_part.specs.Faults.{HasFault}
use Rattle.ioam_part.specs.declared.fault.PartFault.{PartFault}
use Rattle.ioam_part.proofs.PartLaws.{part_unique}
use Rattle.ioam_run_answer.specs.declared.outcome.Outcome.{Outcome}
use Rattle.ioam_run_answer.specs.declared.outcome.Outcome.TheVariants as outcome
use Rattle.ioam_run_part.specs.Files.{AreApart, IsRepeat}
use Rattle.ioam_run_part.specs.MergePromise.{IsFaulty, MergeAsked, MergeCause}
use Rattle.ioam_run_part.specs.Records.{HoldBoth, AreParts, KeepFew, KeepMany, IsSecondFaulty}
use Rattle.ioam_run_part.proofs.OneFault.{one_fault, part_or_fault}

-- ---- what two names hold

pub some_both : (o : Option (List ℕ)) (P Q : List ℕ → Type 0) → IsSomeAnd o P → IsSomeAnd o Q → (octets : List ℕ) × P octets × Q octets
some_both None P Q x y = absurd x
some_both (Some octets) P Q x y = (octets, x, y)

both_both : (o u : Option (List ℕ)) (P Q : List ℕ → List ℕ → Type 0) → HoldBoth o u P → HoldBoth o u Q → (one two : List ℕ) × P one two × Q one two
both_both None u P Q x y = absurd x
both_both (Some one) None P Q x y = absurd x
both_both (Some one) (Some two) P Q x y = (one, two, x, y)

first_both : (o u : Option (List ℕ)) (P : List ℕ → Type 0) (Q : List ℕ → List ℕ → Type 0) → IsSomeAnd o P → HoldBoth o u Q → (one two : List ℕ) × P one × Q one two
first_both None u P Q x y = absurd x
first_both (Some one) None P Q x y = absurd y
first_both (Some one) (Some two) P Q x y = (one, two, x, y)

pub fault_same : (name other : List ℕ) (at place : ℕ) (f g : PartFault) → name ≡ other → (at ≡ place) × (f ≡ g) → outcome.Part name at f ≡ outcome.Part other place g
fault_same name other at place f g named same = let there = same.0 in let why = same.1 in cc

few_or_many : (one two : List ℕ) → AreParts KeepFew one two → AreParts KeepMany one two → ⊥
few_or_many one two few many =
    let first : few.firsts ≡ many.firsts = part_unique one few.firsts many.firsts few.first many.first in
    let second : few.seconds ≡ many.seconds = part_unique two few.seconds many.seconds few.second many.second in
    let same : count_kept (few.firsts ++ few.seconds) ≡ count_kept (many.firsts ++ many.seconds) = ap₂ (λ (xs ys : List Record). count_kept (xs ++ ys)) first second in
    let less = few.are in
    let more = many.are in
    omega (arith, same, less, more)

module _ (tells : Bool) (first second : Option (List ℕ)) (one two part : List ℕ) (told : IsTrue tells) where
  abbrev Asked : Outcome → Type 0
  Asked = MergeAsked tells first second one two part

  apart_repeat : (name : List ℕ) → AreApart one two part → IsRepeat one two part name → ⊥
  apart_repeat name apart (inl repeat) = apart.inputs repeat.0
  apart_repeat name apart (inr (other, inl same, is)) = apart.first same
  apart_repeat name apart (inr (other, inr same, is)) = apart.second same

  one_repeat : (a b : List ℕ) → IsRepeat one two part a → IsRepeat one two part b → a ≡ b
  one_repeat a b (inl x) (inl y) = x.1 ∙ sym y.1
  one_repeat a b (inl x) (inr y) = absurd (y.0 x.0)
  one_repeat a b (inr x) (inl y) = absurd (x.0 y.0)
  one_repeat a b (inr x) (inr y) = x.2 ∙ sym y.2

  -- no fault of parts
  no_fault : (P : List Record → List Record → Type 0) (name : List ℕ) (at : ℕ) (f : PartFault) → HoldBoth first second (AreParts P) → IsFaulty tells first second one two name at f → ⊥
  no_fault P name at f parts (inl (is, bad)) =
      let both = first_both first second (λ o. HasFault o at f) (AreParts P) (bad told) parts in
      part_or_fault both.0 both.3.firsts at f both.3.first both.2
  no_fault P name at f parts (inr (is, bad)) =
      let both = both_both first second (AreParts P) (IsSecondFaulty at f) parts (bad told) in
      part_or_fault both.1 both.2.seconds at f both.2.second both.3.1

  fault_once : (a b : List ℕ) (p q : ℕ) (f g : PartFault) → IsFaulty tells first second one two a p f → IsFaulty tells first second one two b q g → outcome.Part a p f ≡ outcome.Part b q g
  fault_once a b p q f g (inl x) (inl y) =
      let both = some_both first (λ o. HasFault o p f) (λ o. HasFault o q g) (x.1 told) (y.1 told) in
      fault_same a b p q f g (x.0 ∙ sym y.0) (one_fault both.0 p q f g both.1 both.2)
  fault_once a b p q f g (inl x) (inr y) =
      let both = first_both first second (λ o. HasFault o p f) (IsSecondFaulty q g) (x.1 told) (y.1 told) in
      absurd (part_or_fault both.0 both.3.0.0 p f both.3.0.1 both.2)
  fault_once a b p q f g (inr x) (inl y) =
      let both = first_both first second (λ o. HasFault o q g) (IsSecondFaulty p f) (y.1 told) (x.1 told) in
      absurd (part_or_fault both.0 both.3.0.0 q g both.3.0.1 both.2)
  fault_once a b p q f g (inr x) (inr y) =
      let both = both_both first second (IsSecondFaulty p f) (IsSecondFaulty q g) (x.1 told) (y.1 told) in
      fault_same a b p q f g (x.0 ∙ sym y.0) (one_fault both.1 p q f g both.2.1 both.3.1)

  few_many : HoldBoth first second (AreParts KeepFew) → HoldBoth first second (AreParts KeepMany) → ⊥
  few_many few many = let both = both_both first second (AreParts KeepFew) (AreParts KeepMany) few many in few_or_many both.0 both.1 both.2 both.3

  asked_once : (a b : Outcome) → Asked a → Asked b → a ≡ b
  asked_once outcome.Done outcome.Done x y = refl
  asked_once outcome.Done (outcome.Names name') x y = absurd (apart_repeat name' x.0 y)
  asked_once outcome.Done (outcome.Part name' at' fault') x y = absurd (no_fault KeepFew name' at' fault' (x.1 told) y.1)
  asked_once outcome.Done (outcome.Records limit') x y = absurd (few_many (x.1 told) (y.2 told))
  asked_once outcome.Done _ x y = absurd y
  asked_once (outcome.Names name) outcome.Done x y = absurd (apart_repeat name y.0 x)
  asked_once (outcome.Names name) (outcome.Names name') x y = ap outcome.Names (one_repeat name name' x y)
  asked_once (outcome.Names name) (outcome.Part name' at' fault') x y = absurd (apart_repeat name y.0 x)
  asked_once (outcome.Names name) (outcome.Records limit') x y = absurd (apart_repeat name y.0 x)
  asked_once (outcome.Names name) _ x y = absurd y
  asked_once (outcome.Part name at fault) outcome.Done x y = absurd (no_fault KeepFew name at fault (y.1 told) x.1)
  asked_once (outcome.Part name at fault) (outcome.Names name') x y = absurd (apart_repeat name' x.0 y)
  asked_once (outcome.Part name at fault) (outcome.Part name' at' fault') x y = fault_once name name' at at' fault fault' x.1 y.1
  asked_once (outcome.Part name at fault) (outcome.Records limit') x y = absurd (no_fault KeepMany name at fault (y.2 told) x.1)
  asked_once (outcome.Part name at fault) _ x y = absurd y
  asked_once (outcome.Records limit) outcome.Done x y = absurd (few_many (y.1 told) (x.2 told))
  asked_once (outcome.Records limit) (outcome.Names name') x y = absurd (apart_repeat name' x.0 y)
  asked_once (outcome.Records limit) (outcome.Part name' at' fault') x y = absurd (no_fault KeepMany name' at' fault' (x.2 told) y.1)
  asked_once (outcome.Records limit) (outcome.Records limit') x y = ap outcome.Records (x.1 ∙ sym y.1)
  asked_once (outcome.Records limit) _ x y = absurd y
  asked_once _ b x y = absurd x

  -- what is asked for is answered, unless a call failed or no memory could be had
  pub merge_asked : (old_in new_in : Reading) (old new : Writing) (answer asked : Outcome)
      → MergeCause tells first second one two part old_in new_in old new answer → Asked asked
      → (Rose old_in.side.faults new_in.side.faults → ⊥) → (Rose old.side.faults new.side.faults → ⊥)
      → (answer ≡ asked) ⊎ (answer ≡ outcome.NoMemory)
  merge_asked old_in new_in old new outcome.Done asked cause asks reads writes = inl (asked_once outcome.Done asked cause asks)
  merge_asked old_in new_in old new (outcome.Names name) asked cause asks reads writes = inl (asked_once (outcome.Names name) asked cause asks)
  merge_asked old_in new_in old new (outcome.Part name at fault) asked cause asks reads writes = inl (asked_once (outcome.Part name at fault) asked cause asks)
  merge_asked old_in new_in old new (outcome.Records limit) asked cause asks reads writes = inl (asked_once (outcome.Records limit) asked cause asks)
  merge_asked old_in new_in old new outcome.ReadFault asked cause asks reads writes = absurd (reads cause)
  merge_asked old_in new_in old new outcome.WriteFault asked cause asks reads writes = absurd (writes cause)
  merge_asked old_in new_in old new outcome.NoMemory asked cause asks reads writes = inr refl
  merge_asked old_in new_in old new _ asked cause asks reads writes = absurd cause
