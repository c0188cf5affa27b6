use Rattle.std.proofs.Common.{ap, length, arith}
use Rattle.ioam_part_merge.proofs.counting.count_both.Goals as goal

pub records-preserved : goal.records-preserved
records-preserved c = record {
  came = λ ps comes.
      let now = c.records.invariant.came ps comes in
      let next = c.in-Some.ensures.next now.0 now.1 in
      let one = ap length next.are in
      let all = now.2 in
      (next.rest, next.comes, omega (arith, one, all));
  within = omega arith;
}

pub returns-in-None : goal.returns-in-None
returns-in-None c = λ ps comes.
    let now = c.records.invariant.came ps comes in
    let none = ap length (c.in-None.ensures.next now.0 now.1) in
    let all = now.2 in
    let within = c.records.invariant.within in
    (omega (arith, none, all), within)

pub returns-then-count-ge-MOST_HELD : goal.returns-then-count-ge-MOST_HELD
returns-then-count-ge-MOST_HELD c = λ ps comes.
    let now = c.records.invariant.came ps comes in
    let next = c.in-Some.ensures.next now.0 now.1 in
    let one = ap length next.are in
    let all = now.2 in
    omega (arith, one, all)
