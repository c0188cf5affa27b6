use Rattle.std.proofs.Common.{◌≡◌, ◌++◌, flat_map, take}
use Rattle.ioam_delay_lines.specs.Words.{step_text}
use Rattle.ioam_delay_lines.proofs.words.put_steps.Given as goal

abbrev pub invariant-steps : goal.invariant-steps
invariant-steps l = l.out.items ≡ l.initial.out.items ++ flat_map step_text (take l.step-index l.steps)
