-- The words and EXPORTS ask for one answer of `part`.
use Rattle.std.proofs.Common.{◌≡◌, ℕ, ◌⊎◌, Bool, IsTrue, List, Option}
use Rattle.ioam_desk.specs.Desk.{Reading, Writing, Rose}
use Rattle.ioam_dex.proofs.ReadsLaws.{Reads-unique}
use Rattle.ioam_collect_stream.specs.Gathering.{IsLimit}
use Rattle.ioam_collect_stream.proofs.RecordsLaws.{long_or_few, long_once}
use Rattle.ioam_run_answer.specs.declared.outcome.Outcome.{Outcome}
use Rattle.ioam_run_answer.specs.declared.outcome.Outcome.TheVariants as outcome
use Rattle.ioam_run_answer.proofs.AskedLaws.{Asks, Causes, exact}
use Rattle.ioam_run_part.specs.PartPromise.{PartAsked, PartCause}
use Rattle.ioam_run_part.specs.Records.{IsExports, IsLong}

module _ (tells : Bool) (content : Option (List ℕ)) (exports part : List ℕ) where
  asks_so : (a : Outcome) → PartAsked tells content exports part a → Asks tells content exports part IsLimit IsExports IsLong a
  asks_so outcome.Done x = x
  asks_so (outcome.Names name) x = x
  asks_so (outcome.Exports at fault) x = x
  asks_so (outcome.Records limit) x = x
  asks_so _ x = absurd x

  module _ (told : IsTrue tells) (old_in new_in : Reading) (old new : Writing) where
    caused_so : (answer : Outcome) → PartCause tells content exports part old_in new_in old new answer
        → Causes tells content exports part IsLimit IsExports IsLong old_in new_in old new answer
    caused_so outcome.Done x = x
    caused_so (outcome.Names name) x = x
    caused_so (outcome.Exports at fault) x = x
    caused_so (outcome.Records limit) x = x
    caused_so outcome.ReadFault x = x
    caused_so outcome.WriteFault x = x
    caused_so outcome.NoMemory x = x
    caused_so _ x = absurd x

    -- what is asked for is answered, unless a call failed or no memory could be had
    pub part_asked : (answer asked : Outcome) → PartCause tells content exports part old_in new_in old new answer → PartAsked tells content exports part asked
        → (Rose old_in.side.faults new_in.side.faults → ⊥) → (Rose old.side.faults new.side.faults → ⊥) → (answer ≡ asked) ⊎ (answer ≡ outcome.NoMemory)
    part_asked answer asked cause asks = exact tells content exports part IsLimit IsExports IsLong told
        (λ octets d e x y. (Reads-unique octets x.records y.records d e x.reads y.reads).1)
        (λ octets limit d x y. long_or_few limit d octets x.records y.records x.passes y.reads y.few)
        (λ octets a b x y. long_once a b octets x.records y.records x.passes x.few y.passes y.few)
        old_in new_in old new answer asked (caused_so answer cause) (asks_so asked asks)
