-- The texts that are written of records: as messages, or one behind the other; and what OUT holds of them.
use Rattle.std.specs.Prelude.{◌≡◌, ℕ, ◌<◌, All, IsSomeAnd, List, [], ◌∷◌, Some}
use Rattle.ioam_base.specs.Octets.{IsFront}
use Rattle.ioam_desk.specs.Desk.{Writing, holds}
use Rattle.ioam_dex.specs.Record.{Record, IsRecord}
use Rattle.ioam_dex.specs.Reads.{records_octets}
use Rattle.ioam_ipfix.specs.Messages.{joined}
use Rattle.ioam_ipfix.specs.Written.{AreRuns, AreLongest, runs_of, messages_text}
use Rattle.ioam_run_ipfix.specs.Exports.{AreFew}

-- the runs are these records, each the longest of 1 to 32 of one template; there is one way to cut them so
pub record AreCut (records : List Record) (runs : List (ℕ × List Record)) : Type 0 where
  pub are : AreRuns runs
  pub longest : AreLongest runs
  pub joins : joined (runs_of runs) ≡ records

-- the text is one message with the templates, and one for each of these runs
pub record AreMessages (records : List Record) (text : List ℕ) : Type 0 where
  pub runs : List (ℕ × List Record)
  pub cut : AreCut records runs
  pub is : text ≡ messages_text runs

-- the text is these records one behind the other
pub record AreRecords (records : List Record) (text : List ℕ) : Type 0 where
  pub each : All IsRecord records
  pub is : text ≡ records_octets records

-- `Is` says which text is that of records, `Are` which records of the input
module _ (Is Are : List Record → List ℕ → Type 0) where
  -- OUT holds the text of some records, no more than may be
  pub record HoldsText (new : Writing) (out : List ℕ) (octets : List ℕ) : Type 0 where
    pub records : List Record
    pub are : Are records octets
    pub few : AreFew records
    pub text : List ℕ
    pub is : Is records text
    pub held : holds new out ≡ Some text

  -- OUT, where it was opened, holds a front of the text of some records, no more than may be
  pub record HoldsFront (old new : Writing) (out : List ℕ) (octets : List ℕ) : Type 0 where
    pub records : List Record
    pub are : Are records octets
    pub few : AreFew records
    pub text : List ℕ
    pub is : Is records text
    pub held : old.side.slots < new.side.slots → IsSomeAnd (holds new out) (λ part. IsFront part text)

  -- the one text is that of some records of the octets, no more than may be
  pub record Says (octets : List ℕ) (so : List (List ℕ)) : Type 0 where
    pub records : List Record
    pub are : Are records octets
    pub few : AreFew records
    pub text : List ℕ
    pub is : Is records text
    pub said : so ≡ text ∷ []
