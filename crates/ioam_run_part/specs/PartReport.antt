-- The part of no records. It stands here, since a ghost member of an `impl` cites specs/ alone.
use Rattle.std.specs.Prelude.{refl, []}
use Rattle.std.proofs.Common.{arith}
use Rattle.std.proofs.lemmas.List.Elements.{All-nil}
use Rattle.ioam_run_answer.specs.Record.{IsRecord}
use Rattle.ioam_part.specs.Part.{HasKey, head_octets}
use Rattle.ioam_run_part.specs.Records.{IsPartOfAll}

pub no_part : IsPartOfAll [] (head_octets 0)
no_part = record {
  records = [];
  part = record { each = All-nil IsRecord; few = omega arith; in_order = record { keys = All-nil HasKey; apart = tt }; is = refl };
  same = refl;
}
