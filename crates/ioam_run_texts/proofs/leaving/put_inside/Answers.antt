use Rattle.std.proofs.Common.{Some}
use Rattle.ioam_ip.specs.Lowered.{lowered}
use Rattle.ioam_run_texts.proofs.LeavingLaws.{one-record}
use Rattle.ioam_run_texts.proofs.leaving.put_inside.Goals as goal

pub returns-in_ok-put_lowered-in-Some : goal.returns-in_ok-put_lowered-in-Some
returns-in_ok-put_lowered-in-Some c = (
  Some c.in-Some.inner.now,
  one-record c.args.out.now.items c.put_lowered.new.out.items (record { time = c.args.time; octets = lowered 1 c.in-Some.inner.now }) c.in_ok-put_lowered-in-Some.ensures,
  c.in-Some.ensures.inner,
  c.in-Some.ensures.exact,
)
