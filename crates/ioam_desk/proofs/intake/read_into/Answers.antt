use Rattle.std.proofs.Common.{◌≡◌, ℕ, ◌+◌, List, length, refl, ap, ◌∙◌, arith}
use Rattle.ioam_desk.specs.Desk.{Side, holds}
use Rattle.ioam_desk.specs.declared.fault.DeskFault.TheVariants.{NoMemory}
use Rattle.ioam_desk.proofs.IntakeLaws.{file_few, file_reads, unopened_fails, unopened_reads_few}
use Rattle.ioam_desk.proofs.intake.read_into.Goals as goal

pub returns-in_default : goal.returns-in_default
returns-in_default g c =
    let inputs = g.D.Desk.reading c.args.desk.now in
    let held = holds (g.D.Desk.writing c.args.desk.now) c.args.name.now in
    record {
      reads = unopened_fails g.D.Desk.tells inputs inputs held c.args.name.now NoMemory refl;
      few = unopened_reads_few g.D.Desk.tells inputs inputs held c.args.name.now (g.T.Intake.room c.args.intake) NoMemory refl;
      outputs = refl;
    }

pub read_slot-requires : goal.read_slot-requires
read_slot-requires g c =
    let opened = c.in-Ok-open_in.ensures.opened in
    let number = opened.number in
    let slots : (g.D.Desk.reading c.open_in.new.self).side.slots ≡ (g.D.Desk.reading c.args.desk.now).side.slots + 1 = ap (λ (s : Side). s.slots) opened.side in
    record {
      input = omega (arith, number, slots);
      room = ap (λ (o : List ℕ). length o) c.deref_mut.ensures.value ∙ c.in-Ok.ensures;
      stands = c.requires;
    }

pub returns-in-Ok-open_in : goal.returns-in-Ok-open_in
returns-in-Ok-open_in g c =
    let tells = g.D.Desk.tells in
    let old = g.D.Desk.reading c.args.desk.now in
    let mid = g.D.Desk.reading c.open_in.new.self in
    let new = g.D.Desk.reading c.read_slot.new.desk in
    let held = holds (g.D.Desk.writing c.args.desk.now) c.args.name.now in
    let opened = c.in-Ok-open_in.ensures.opened in
    record {
      reads = file_reads tells old mid new held c.args.name.now c.in-Ok-open_in.slot opened g.T.Intake.stands g.T.Intake.full c.args.intake c.read_slot.result c.read_slot.ensures.reads;
      few = file_few tells old mid new held c.args.name.now c.in-Ok-open_in.slot opened (g.T.Intake.room c.args.intake) c.read_slot.ensures.few;
      outputs = c.read_slot.ensures.outputs ∙ c.in-Ok-open_in.ensures.outputs;
    }

pub returns-in-Err : goal.returns-in-Err
returns-in-Err g c =
    let old = g.D.Desk.reading c.args.desk.now in
    let new = g.D.Desk.reading c.open_in.new.self in
    let held = holds (g.D.Desk.writing c.args.desk.now) c.args.name.now in
    record {
      reads = unopened_fails g.D.Desk.tells old new held c.args.name.now c.in-Err.fault c.in-Err.ensures.opened;
      few = unopened_reads_few g.D.Desk.tells old new held c.args.name.now (g.T.Intake.room c.args.intake) c.in-Err.fault c.in-Err.ensures.opened;
      outputs = c.in-Err.ensures.outputs;
    }
