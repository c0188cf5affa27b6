use Rattle.std.proofs.Common.{ap, ◌++◌, ◌∙◌}
use Rattle.ioam_dex.specs.Record.{record_octets}
use Rattle.ioam_dex.specs.Room.{Room}
use Rattle.ioam_ipfix.specs.Data.{data_at}
use Rattle.ioam_run_ipfix.proofs.taker.show.Goals as goal

pub put_record-requires-clause-whole : goal.put_record-requires-clause-whole
put_record-requires-clause-whole c = let told = rw c.in-Record.is at c.show.follows.holds-at-none in told.0

pub put_record-requires-clause-sayable : goal.put_record-requires-clause-sayable
put_record-requires-clause-sayable c = let told = rw c.in-Record.is at c.show.follows.holds-at-none in told.1

pub returns-in-Record-clause-shows : goal.returns-in-Record-clause-shows
returns-in-Record-clause-shows c =
    let told = rw c.in-Record.is at c.show.follows.holds-at-none in
    let gives = told.2 in
    let x = data_at c.in-Record.id c.in-Record.octets.now in (
      x,
      told.1,
      ap (λ (r : Room). r.octets) c.put_record.ensures.appended ∙ ap (λ (r : Room). r.octets ++ record_octets x) c.clear.ensures,
      record { over = gives.goes; fed = gives.fed; stands = gives.stands },
    )

pub returns-in-More-clause-shows : goal.returns-in-More-clause-shows
returns-in-More-clause-shows c =
    let told = rw c.in-More.is at c.show.follows.holds-at-none in
    (told.rested, record { over = told.goes; fed = told.fed; stands = λ o g s. (told.told o g s).0 })

pub returns-in-Bad-clause-shows : goal.returns-in-Bad-clause-shows
returns-in-Bad-clause-shows c =
    let told = rw c.in-Bad.is at c.show.follows.holds-at-none in (
      record { over = told.goes; fed = told.fed; stands = λ o g s. (told.told o g s).0 },
      λ all before stands. let says = (told.told all before stands).1 in (says.0, says.1, says.2, says.3),
    )
