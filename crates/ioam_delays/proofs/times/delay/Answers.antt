use Rattle.std.proofs.Common.{rules, ◌≡◌, ◌-◌, ℤ, negsuc, ◌-ℤ◌, sym, subst, to_z, of_z, w64}
use Rattle.ioam_delays.specs.Times.{IsDelay, delay_of}
use Rattle.ioam_delays.proofs.TimeLaws.{delay_is}
use Rattle.ioam_delays.proofs.times.delay.Goals as goal

pub returns-then-ahead-modulus-clause-is : goal.returns-then-ahead-modulus-clause-is
returns-then-ahead-modulus-clause-is c =
    let P : ℤ → Type 0 = λ d. IsDelay c.args.modulus c.args.from c.args.to d in
    let value : to_z w64 c.ahead-ahead.result ≡ delay_of c.args.modulus c.args.from c.args.to = search rules in
    subst P (sym value) (delay_is c.args.modulus c.args.from c.args.to c.requires.some)

pub returns-else-ahead-modulus-clause-is : goal.returns-else-ahead-modulus-clause-is
returns-else-ahead-modulus-clause-is c =
    let P : ℤ → Type 0 = λ d. IsDelay c.args.modulus c.args.from c.args.to d in
    let value : to_z w64 (of_z w64 (negsuc 0 -ℤ to_z w64 (c.args.modulus - c.ahead-ahead.result - 1))) ≡ delay_of c.args.modulus c.args.from c.args.to = search rules in
    subst P (sym value) (delay_is c.args.modulus c.args.from c.args.to c.requires.some)
