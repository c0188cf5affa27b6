use Rattle.std.proofs.Common.{◌≡◌, ◌-◌, ◌≤◌, length, length-append, length-drop, drop, decimal, sym, ap, ◌∙◌, arith, rules}
use Rattle.std.proofs.lemmas.Fmt.{length-decimal-le}
use Rattle.ioam_line.proofs.buffer.LineBuffer.put_number.Goals as goal

pub write_digits-self-inside-requires : goal.write_digits-self-inside-requires
write_digits-self-inside-requires g c =
    let short : length (decimal c.args.number) ≤ 20 = search (rules, length-decimal-le 20) in
    let held : length c.self.inside.octets - c.self.inside.start ≡ length c.args.self.now = sym (length-drop c.self.inside.start c.self.inside.octets) ∙ ap length c.self.view_is in
    (omega (arith, short, held), omega arith)

pub returns-clause-size : goal.returns-clause-size
returns-clause-size g c =
    let short : length (decimal c.args.number) ≤ 20 = search (rules, length-decimal-le 20) in
    let behind = drop c.self.inside.start c.self.inside.octets in
    omega (arith, short, ap length c.write_digits-self-inside.ensures.written, length-append (decimal c.args.number) behind, ap length c.self.view_is)
