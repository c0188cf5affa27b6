use Rattle.ioam_dex.specs.Record.{record_of}
use Rattle.ioam_test_codecs.proofs.groups.add_record.Goals as goal

pub new-requires : goal.new-requires
new-requires c = (record_of c.in-Some.field-0, c.in-Some.ensures.reads)
