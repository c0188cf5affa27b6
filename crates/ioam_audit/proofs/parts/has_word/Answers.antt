use Rattle.std.proofs.Common.{◌≡◌, ◌-◌, length, take, drop, arith, sym, ap, ◌∙◌}
use Rattle.ioam_base.specs.Octets.{written}
use Rattle.ioam_trace.specs.Filling.{with_lengths}
use Rattle.ioam_audit.proofs.DataLaws.{nothing_written}
use Rattle.ioam_audit.proofs.parts.has_word.Goals as goal

pub returns : goal.returns
returns c =
    let old = c.args.old.now in
    let new = c.args.new.now in
    let worded = with_lengths old c.args.word in
    let none : length old - length old ≡ 0 = omega arith in
    let whole : written worded (length old) (take (length old - length old) (drop (length old) new)) ≡ worded =
    ap (λ n. written worded (length old) (take n (drop (length old) new))) none ∙ nothing_written worded (length old) in
    (λ is. c.is_same_but.ensures.0 is ∙ whole, λ is. c.is_same_but.ensures.1 (is ∙ sym whole))
