use Rattle.ioam_stream.specs.ConversionLaws.{leading}
use Rattle.ioam_stream.proofs.ConversionLaws.{closing_stops, on_err, stop_stops}
use Rattle.ioam_stream.proofs.conversion.ConversionStage.step.Goals as goal

pub close-requires-clause-stops : goal.close-requires-clause-stops
close-requires-clause-stops g c = stop_stops g.C.Converter.does c.args.self.now c.take.new.self c.args.outputs.now c.take.new.outputs c.requires.stands c.in-Taking.is
    (rw c.in-Stop.is at c.in_ok-take-in-Taking.ensures.takes)

pub close-requires-in-Closing-clause-stops : goal.close-requires-in-Closing-clause-stops
close-requires-in-Closing-clause-stops g c = closing_stops g.C.Converter.does c.args.self.now c.requires.stands c.in-Closing.is

pub returns-in_err-take-in-Taking-clause-leads : goal.returns-in_err-take-in-Taking-clause-leads
returns-in_err-take-in-Taking-clause-leads g c = on_err c.from_residual.result _ (leading g.C.Converter.does g.met.C.Converter.sound c.args.self.now)

pub returns-in-Stop-clause-leads : goal.returns-in-Stop-clause-leads
returns-in-Stop-clause-leads g c = on_err c.close.result _ (leading g.C.Converter.does g.met.C.Converter.sound c.args.self.now)
