use Rattle.std.proofs.Common.{refl, rules}
use Rattle.ioam_trace.specs.Data.{header}
use Rattle.ioam_trace.proofs.DataLaws.{trace_data-none, appended_size}
use Rattle.ioam_trace.proofs.beginning.put_trace.Goals as goal

pub returns-clause-ok : goal.returns-clause-ok
returns-clause-ok c =
    let none = trace_data-none c.args.namespace.0 c.args.kind c.args.capacity in
    rw none (search rules)

pub returns-clause-size : goal.returns-clause-size
returns-clause-size c = appended_size c.put_empty.result c.args.out.now.items c.put_empty.new.out.items (header c.args.namespace.0 c.words.result 0 c.args.capacity c.args.kind 0) c.args.capacity refl c.put_empty.ensures
