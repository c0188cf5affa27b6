-- Records that are gathered into runs of one template, each of which becomes a message.
use Rattle.std.specs.Prelude.{◌≡◌, ◌≢◌, ℕ, ◌+◌, ◌<◌, ◌⊎◌, List, [], ◌∷◌, ◌++◌, length}
use Rattle.ioam_dex.specs.Record.{Record}
use Rattle.ioam_dex.specs.Reads.{records_octets}
use Rattle.ioam_ipfix.specs.Messages.{joined}
use Rattle.ioam_ipfix.specs.Written.{IsRun, AreRuns, AreLongest, runs_of, run_message, runs_text}
use Rattle.ioam_run_ipfix.specs.Texts.{AreCut}

-- the run that is gathered: its octets, how many records it has, and their template; and how many records stand in
-- earlier messages
pub record Packed : Type 0 where
  pub octets : List ℕ
  pub held : ℕ
  pub template : ℕ
  pub before : ℕ

-- behind these runs this one is the last; only behind none it may be empty
abbrev pub IsLast : List (ℕ × List Record) → ℕ → List Record → Type 0
IsLast done template [] = done ≡ []
IsLast done template (x ∷ run) = AreRuns (done ++ (template, x ∷ run) ∷ []) × AreLongest (done ++ (template, x ∷ run) ∷ [])

-- of these records these runs were put as messages, and the others are the run that is gathered
pub record IsPacked (done : List (ℕ × List Record)) (records : List Record) (packing : Packed) : Type 0 where
  pub run : List Record
  pub octets : packing.octets ≡ records_octets run
  pub held : packing.held ≡ length run
  pub before : packing.before ≡ length (joined (runs_of done))
  pub are : records ≡ joined (runs_of done) ++ run
  pub last : IsLast done packing.template run

-- some records were packed
abbrev pub HasPacked : Packed → Type 0
HasPacked packing = (done : List (ℕ × List Record)) × (records : List Record) × IsPacked done records packing

-- ---- what calls do

-- the run was put as a message, and none is gathered
abbrev pub Puts : Packed → Packed → List ℕ → List ℕ → Type 0
Puts old new out with_run = (new ≡ record { octets = []; held = 0; template = old.template; before = old.before + old.held })
    × ((id : ℕ) (run : List Record) → IsRun id run → old.octets ≡ records_octets run → with_run ≡ out ++ run_message old.before id run)

-- the run may have one record more, of this template, or it was put
abbrev pub Closes : Packed → Packed → ℕ → List ℕ → List ℕ → Type 0
Closes old new template out with_run = ((new ≡ old) × (with_run ≡ out) × ((old.held ≡ 0) ⊎ ((old.held < 32) × (template ≡ old.template))))
    ⊎ ((0 < old.held) × ((old.held ≡ 32) ⊎ (template ≢ old.template)) × Puts old new out with_run)

-- a record more was packed
abbrev pub Packs : Packed → Packed → Record → List ℕ → List ℕ → Type 0
Packs old new x out with_more = (done : List (ℕ × List Record)) (records : List Record) → IsPacked done records old
    → (runs : List (ℕ × List Record)) × (added : List ℕ) × IsPacked runs (records ++ x ∷ []) new
    × (with_more ≡ out ++ added) × (runs_text 0 runs ≡ runs_text 0 done ++ added)

-- the last run was put, if it has a record
abbrev pub Ends : Packed → List ℕ → List ℕ → Type 0
Ends old out with_rest = (done : List (ℕ × List Record)) (records : List Record) → IsPacked done records old
    → (runs : List (ℕ × List Record)) × (added : List ℕ) × AreCut records runs
    × (with_rest ≡ out ++ added) × (runs_text 0 runs ≡ runs_text 0 done ++ added)
