use Rattle.std.proofs.Common.{arith}
use Rattle.ioam_run_part.proofs.JoinedLaws.{none_yet, none_left, record_put}
use Rattle.ioam_run_part.proofs.joined.put_records.Goals as goal

pub records-init : goal.records-init
records-init c = record { puts = none_yet c.args.walk.now c.args.out.now.items; fewer = omega arith }

pub records-preserved : goal.records-preserved
records-preserved c = record {
  puts = record_put c.args.walk.now c.records.walk c.next.new.self c.in-Some.octets.now c.args.out.now.items c.records.out.items c.append.new.out.items
      c.records.invariant.puts c.in-Some.ensures.next c.in_ok-append-in-Some.ensures;
  fewer = omega (arith, c.in-Some.ensures.fewer, c.records.invariant.fewer);
}

pub returns-then-len-ge-PIECE : goal.returns-then-len-ge-PIECE
returns-then-len-ge-PIECE c = (
  omega (arith, c.in-Some.ensures.fewer, c.records.invariant.fewer),
  record_put c.args.walk.now c.records.walk c.next.new.self c.in-Some.octets.now c.args.out.now.items c.records.out.items c.append.new.out.items
      c.records.invariant.puts c.in-Some.ensures.next c.in_ok-append-in-Some.ensures,
)

pub returns-in-None : goal.returns-in-None
returns-in-None c = none_left c.args.walk.now c.records.walk c.next.new.self c.args.out.now.items c.records.out.items c.records.invariant.puts c.in-None.ensures.next
