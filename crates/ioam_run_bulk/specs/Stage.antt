-- A generated load as a stage: it reads nothing, and says the sums.
use Rattle.std.specs.Prelude.{◌≡◌, ℕ, ◌+◌, ◌-◌, ◌≤◌, ⊤, Bool, true, false, List, [], ◌∷◌}
use Rattle.std.specs.Borrow.{MutBor}
use Rattle.ioam_run_arrivals.specs.declared.forwarding.Forwarding.{Forwarding}
use Rattle.ioam_stream.specs.Stage.{Kind, Seen}
use Rattle.ioam_run_bulk.specs.Load.{IsSet, Loads}
use Rattle.ioam_run_bulk.specs.Promise.{IsReport, MayReport}
use Rattle.ioam_run_bulk.specs.declared.stage.Generating.{Generating}

-- one text, that is so
abbrev pub SaysOne : (List ℕ → Type 0) → List (List ℕ) → Type 0
SaysOne Is so = (text : List ℕ) × Is text × (so ≡ text ∷ [])

-- how much is still to be done
abbrev pub held_in : Bool → ℕ → ℕ
held_in false left = left + 1
held_in true left = 0

module _ {F : Type 0} where
  -- the first arrivals were taken
  abbrev pub HasTaken : ℕ → Generating F → Type 0
  HasTaken count stage = Loads stage.terms.domain.now stage.terms.readings.now stage.terms.seed count stage.load

  -- nothing was said of the arrivals that were taken, or the sums of all
  abbrev pub StandsIn : Bool → Generating F → List (List ℕ) → Type 0
  StandsIn false stage so_far = (so_far ≡ [] ∷ []) × HasTaken stage.taken stage × (stage.taken ≤ stage.terms.count)
  StandsIn true stage so_far = SaysOne (IsReport stage.terms.seed stage.terms.count) so_far

  -- of all arrivals, whatever was handed to it
  abbrev pub Says : Generating F → List (List ℕ) → Type 0
  Says begun = SaysOne (IsReport begun.terms.seed begun.terms.count)

-- what may still be handed to a stage that never asks for it, and doesn't look at it: once something
abbrev pub unfed : Bool → ℕ
unfed false = 1
unfed true = 0

module _ {F : Type 0} (Pre : F → MutBor Forwarding → Type 0) (Post : F → MutBor Forwarding → Unit {0} → MutBor Forwarding → Type 0) where
  -- none was taken
  pub record IsFresh (stage : Generating F) : Type 0 where
    pub set : IsSet Pre Post stage.terms
    pub none : stage.taken ≡ 0
    pub loads : HasTaken 0 stage
    pub unsaid : stage.said ≡ false

  -- the stage began so, and has said this
  pub record Sends (begun : Generating F) (seen : Seen) (so_far : List (List ℕ)) (stage : Generating F) : Type 0 where
    pub set : IsSet Pre Post stage.terms
    pub same : stage.terms ≡ begun.terms
    pub says : StandsIn stage.said stage so_far

  abbrev pub kind : Kind (Generating F)
  kind = record {
    inputs = λ begun. 0;
    width = λ begun. 1;
    fresh = IsFresh;
    stands = Sends;
    texts = λ begun stage how contents. Says begun;
    firsts = λ begun contents. SaysOne (MayReport begun.terms.seed begun.terms.count);
    sealed = λ begun contents so. ⊥;
    parts = λ begun contents. SaysOne (MayReport begun.terms.seed begun.terms.count);
    drains = λ stage. ⊤;
    marks = λ stage ended. ⊤;
    waits = λ stage input. stage.fed ≡ false;
    held = λ stage. held_in stage.said (stage.terms.count - stage.taken);
    room = λ stage. unfed stage.fed;
  }
