use Rattle.ioam_audit.proofs.left.may_leave.Goals as goal

pub returns-then-not-is_filled : goal.returns-then-not-is_filled
returns-then-not-is_filled c = (
  λ is. record { stays = λ never. c.is_same.ensures.0 is; trace = λ fills. absurd (cc (c.if-not-is_filled.true, c.is_filled.ensures.fills.1 fills)) },
  λ may. c.is_same.ensures.1 (may.stays (λ fills. absurd (cc (c.if-not-is_filled.true, c.is_filled.ensures.fills.1 fills)))),
)

pub returns : goal.returns
returns c =
    let fills = c.is_filled.ensures.fills.0 c.if-not-is_filled.false in (
      λ is. record { stays = λ never. absurd (never fills); trace = λ again. c.is_trace_left.ensures.0 is },
      λ may. c.is_trace_left.ensures.1 (may.trace fills),
    )
