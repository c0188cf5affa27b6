-- What a step tells that shows a data record by its octets.
use Rattle.std.specs.Prelude.{◌≡◌, ℕ, List, [], ◌∷◌, ◌++◌}
use Rattle.std.specs.Io.BufRead.{Rests}
use Rattle.std.specs.Borrow.{Fml, MutBor}
use Rattle.ioam_dex.specs.Record.{Record, IsRecord}
use Rattle.ioam_ipfix.specs.declared.reader.IpfixStep.TheVariants as step
use Rattle.ioam_ipfix.specs.declared.reader.IpfixShown.{IpfixShown}
use Rattle.ioam_ipfix.specs.declared.reader.IpfixShown.TheVariants as shown
use Rattle.ioam_ipfix.specs.contracts.reader.IpfixReader.{the_row}
use Rattle.ioam_ipfix.specs.Data.{data_at, HasRoom}
use Rattle.ioam_ipfix.specs.Reading.{Reading, fed, held, with_due}
use Rattle.ioam_ipfix.specs.Reader.{Stands, GoesOver, Tells}

-- a record more was given: where one was due this one, and nothing else changed, and else the first of the last message
-- that was taken then; as many octets are kept as before
pub record Gives (old new : Reading) (x : Record) : Type 0 where
  pub fed : fed new ≡ fed old
  pub held : held new ≡ held old
  pub goes : GoesOver old new (x ∷ [])
  pub stands : (octets : List ℕ) (given : List Record) → Stands old octets given → Stands new octets (given ++ x ∷ [])
  pub due : (y : Record) (ys : List Record) → old.due ≡ y ∷ ys → (x ≡ y) × (new ≡ with_due ys old)

-- the octets begin with a data record of the template, which was given; without one it is as with every step
abbrev pub Finds : Reading → Reading → IpfixShown → Type 0
Finds old new (shown.Record id octets) = HasRoom id octets.now × IsRecord (data_at id octets.now) × Gives old new (data_at id octets.now)
Finds old new shown.More = Tells old new step.More
Finds old new (shown.Bad at fault) = Tells old new (step.Bad at fault)

-- so the reader is once the octets are no longer lent
abbrev pub ShowsSo : MutBor Reading → IpfixShown → Fml
ShowsSo reader step = Rests the_row reader (λ new. Finds reader.now new step)
