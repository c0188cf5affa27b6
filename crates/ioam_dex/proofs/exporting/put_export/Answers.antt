use Rattle.std.proofs.Common.{refl, arith, ap}
use Rattle.ioam_dex.specs.Record.{record_of}
use Rattle.ioam_dex.proofs.RecordLaws.{record_octets-length, record_size-small}
use Rattle.ioam_dex.proofs.exporting.put_export.Goals as goal

pub returns-clause-spare : goal.returns-clause-spare
returns-clause-spare c =
    let x = record_of c.args.export.now in
    omega (arith, ap (λ r. r.spare) c.append_record.ensures.appended, record_octets-length x c.requires.parts, record_size-small x c.requires.parts, c.requires.spare)

pub returns-clause-size : goal.returns-clause-size
returns-clause-size c =
    let x = record_of c.args.export.now in
    omega (arith, record_octets-length x c.requires.parts, record_size-small x c.requires.parts)

pub returns-clause-says : goal.returns-clause-says
returns-clause-says c = record {
  sayable = record { parts = c.requires.parts; numbers = c.append_record.ensures.numbers };
  is = refl;
}

pub returns-clause-capacity : goal.returns-clause-capacity
returns-clause-capacity c = ap (λ r. r.capacity) c.append_record.ensures.appended
