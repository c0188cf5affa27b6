use Rattle.std.proofs.Common.{refl, arith}
use Rattle.ioam_run_ipfix.proofs.PackerLaws.{packer_takes, packer_limit, packer_bad}
use Rattle.ioam_run_ipfix.specs.declared.packer.Cause.TheVariants as cause
use Rattle.ioam_run_ipfix.proofs.packer.PackerConverter.take.Goals as goal

pub returns-then-taken-from-clause-takes : goal.returns-then-taken-from-clause-takes
returns-then-taken-from-clause-takes c =
    let told = rw c.in-Record.is at c.show.follows.holds-at-none in
    packer_limit c.args.self.now (record { reader = c.show.follows.lender-at-none; packing = c.args.self.now.packing; cause = cause.Limit }) c.args.outputs.now refl refl
    (omega (arith, c.taken.ensures, c.if-taken-from.true)) told.0.0 told.0.2

pub returns-in_ok-add-in-Record-clause-takes : goal.returns-in_ok-add-in-Record-clause-takes
returns-in_ok-add-in-Record-clause-takes c =
    let told = rw c.in-Record.is at c.show.follows.holds-at-none in
    packer_takes c.args.self.now (record { reader = c.show.follows.lender-at-none; packing = c.add.new.self; cause = c.args.self.now.cause }) c.args.outputs.now
    c.index-outputs-0.result _ told.0.0 c.requires.width refl c.requires.stands (omega (arith, c.taken.ensures, c.if-taken-from.false)) told.0.2
    (c.in_ok-add-in-Record.ensures told.0.0 told.0.1) refl

pub returns-in-Bad-clause-takes : goal.returns-in-Bad-clause-takes
returns-in-Bad-clause-takes c =
    let told = rw c.in-Bad.is at c.show.follows.holds-at-none in
    packer_bad c.args.self.now (record { reader = c.show.follows.lender-at-none; packing = c.args.self.now.packing; cause = cause.Bad c.in-Bad.at c.in-Bad.fault })
    c.args.outputs.now refl c.in-Bad.at c.in-Bad.fault refl (λ octets records stands more. (told.3 octets records stands more).0)
