-- What is said of regrouped records, part by part.
use Rattle.std.specs.Prelude.{◌≡◌, ℕ, ◌<◌, ◌≤◌, All, List, ◌++◌}
use Rattle.ioam_dex.specs.Record.{Record, IsRecord}
use Rattle.ioam_collect.specs.Collected as collected
use Rattle.ioam_collect.specs.Collected.{Collected}
use Rattle.ioam_collect_stream.specs.Gathering.{AreFew}
use Rattle.ioam_stream.specs.declared.conversion.Tail.{Tail}
use Rattle.ioam_stream.specs.declared.conversion.Tail.TheVariants as tail

module _ {T : Type 0} (tells : List Record → List ℕ → Type 0) (rest : T → List ℕ) (left : T → ℕ) (most : ℕ) where
  -- a first part was said; with what follows it is the text of the records that the collector stands for
  pub record Begins (collector : Collected) (old new : List ℕ) (report : T) : Type 0 where
    pub added : List ℕ
    pub says : new ≡ old ++ added
    pub text : (records : List Record) → All IsRecord records → AreFew records → collected.Stands collector records → tells records (added ++ rest report)
    pub few : (records : List Record) → All IsRecord records → AreFew records → collected.Stands collector records → left report ≤ most

module _ {T : Type 0} (rest : T → List ℕ) (left : T → ℕ) (before after : T) (old new : List ℕ) where
  -- a part was said, and more is to come
  pub record PutsPart : Type 0 where
    pub added : List ℕ
    pub says : new ≡ old ++ added
    pub rest_is : rest before ≡ added ++ rest after
    pub fewer : left after < left before

  -- what one call said: a part, or all that was to be said
  abbrev pub Puts : Tail → Type 0
  Puts tail.Rest = PutsPart
  Puts tail.End = new ≡ old ++ rest before
