use Rattle.std.proofs.Common.{rules}
use Rattle.ioam_ip.proofs.OptionListLaws.{HoldsOptions-AreOptions, AreOptions-HoldsOptions}
use Rattle.ioam_ip.proofs.checks.check_options.Goals as goal

pub returns-in-Fills-clause-held : goal.returns-in-Fills-clause-held
returns-in-Fills-clause-held c = (
  (λ _. (c.in-Fills.ensures.0, HoldsOptions-AreOptions c.args.head.now c.in-Fills.ensures.0 c.in-Fills.ensures.1)),
  (λ _. search rules),
)

pub returns-in-Unfit-clause-held : goal.returns-in-Unfit-clause-held
returns-in-Unfit-clause-held c = (
  (λ ok. absurd (cc ok)),
  (λ held. absurd (c.in-Unfit.ensures.1 (held.0, AreOptions-HoldsOptions c.args.head.now held.0 c.requires.long held.1))),
)
