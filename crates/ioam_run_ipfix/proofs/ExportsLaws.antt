-- Octets that are more export records than may be don't end with few.
use Rattle.std.proofs.Common.{List, ℕ, [], ◌∷◌, ◌++◌, length, length-append, sym, ap, ◌∙◌, arith}
use Rattle.ioam_dex.specs.Record.{Record}
use Rattle.ioam_dex.specs.Reads.{Ending}
use Rattle.ioam_run_answer.proofs.ExportsLaws.{ends-no-record, front_of}
use Rattle.ioam_run_ipfix.specs.Exports.{IsExports, IsLong}

pub long_or_few : (ending : Ending) (octets : List ℕ) → IsLong octets → IsExports ending octets → ⊥
long_or_few ending octets long ends =
    let xs : List Record = long.records ++ long.passed.next ∷ [] in
    let front = front_of xs ends.records long.passed.rest ends.reads.rest long.passed.splits.each ends.reads.splits.each
    (ends-no-record _ ends.reads.rest ending ends.reads.ends) (sym long.passed.splits.is ∙ ends.reads.splits.is) in
    let size = ap length front.1 in
    let parts = length-append xs front.0 in
    let last = length-append long.records (long.passed.next ∷ []) in
    omega (arith, size, parts, last, long.passed.all, ends.few)
