use Rattle.std.proofs.Common.{ℕ, ◌-◌, List, length, length-drop, drop, sym, subst, arith}
use Rattle.std.proofs.lemmas.List.{take_all}
use Rattle.ioam_ip.specs.Header.{HasFields}
use Rattle.ioam_node_visit.proofs.exits.leave_from.Goals as goal

pub returns-in-Ok-clause-leaves : goal.returns-in-Ok-clause-leaves
returns-in-Ok-clause-leaves c =
    let P : List ℕ → Type 0 = λ octets. HasFields octets c.in-Some.header in
    let all = take_all (length c.args.packet.now - c.args.range.start) (drop c.args.range.start c.args.packet.now)
    (omega (arith, length-drop c.args.range.start c.args.packet.now)) in
    record { header = c.in-Some.header; leaves = (sym c.in-Ok.ensures.port, subst P all c.in-Some.ensures.fields, c.requires) }

pub returns-in-Err-clause-leaves : goal.returns-in-Err-clause-leaves
returns-in-Err-clause-leaves c =
    let P : List ℕ → Type 0 = λ octets. HasFields octets c.in-Some.header in
    let all = take_all (length c.args.packet.now - c.args.range.start) (drop c.args.range.start c.args.packet.now)
    (omega (arith, length-drop c.args.range.start c.args.packet.now)) in
    record {
      header = c.in-Some.header;
      leaves = (sym c.in-Err.ensures.port, (c.args.range.start, c.requires.carries, subst P all c.in-Some.ensures.fields));
    }
