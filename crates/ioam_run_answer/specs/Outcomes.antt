-- What an answer says of the files, whatever the command.
use Rattle.std.specs.Prelude.{⊤}
use Rattle.ioam_run_answer.specs.declared.outcome.Outcome.{Outcome}
use Rattle.ioam_run_answer.specs.declared.outcome.Outcome.TheVariants as outcome

-- all is done
abbrev pub IsDone : Outcome → Type 0
IsDone outcome.Done = ⊤
IsDone _ = ⊥

-- the answer comes once the outputs were written; `opened` says that the files were: IN for `filter` and
-- `paths`, an output for `run`
abbrev pub IsBehindAll : Type 0 → Outcome → Type 0
IsBehindAll opened outcome.Done = ⊤
IsBehindAll opened (outcome.Capture name at fault) = ⊤
IsBehindAll opened (outcome.Exports at fault) = ⊤
IsBehindAll opened (outcome.Ipfix at fault) = ⊤
IsBehindAll opened (outcome.Packets limit) = ⊤
IsBehindAll opened (outcome.Records limit) = ⊤
IsBehindAll opened outcome.ReadFault = opened
IsBehindAll opened _ = ⊥

-- the answer comes before anything was opened
abbrev pub OpensNothing : Outcome → Type 0
OpensNothing outcome.Usage = ⊤
OpensNothing (outcome.Names name) = ⊤
OpensNothing _ = ⊥

-- the words and the files decided it: neither a call of the outside that failed nor want of memory
abbrev pub IsSettled : Outcome → Type 0
IsSettled outcome.ReadFault = ⊥
IsSettled outcome.WriteFault = ⊥
IsSettled outcome.NoMemory = ⊥
IsSettled _ = ⊤
