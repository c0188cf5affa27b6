use Rattle.std.proofs.Common.{ℕ, ◌*◌, ◌∙◌, false, length, ap, arith}
use Rattle.ioam_run_bulk.proofs.LoadLaws.{Loads-next, arrives}
use Rattle.ioam_run_bulk.proofs.ReportLaws.{first-port}
use Rattle.ioam_run_bulk.proofs.load.take_next.Goals as goal

pub take-requires-clause-port : goal.take-requires-clause-port
take-requires-clause-port g c = first-port c.args.terms.now.count c.args.terms.now.domain.now c.requires.set.domain

pub returns-clause-loads : goal.returns-clause-loads
returns-clause-loads g c = λ seed loads.
    Loads-next c.args.terms.now.domain.now c.args.terms.now.readings.now seed c.args.number c.args.load.now _ _
    (λ at. arrives seed c.args.number c.args.load.now.state (c.from.result * 1000) c.len.result c.deref.result.now (ap (λ (n : ℕ). n * 1000) c.from.ensures)
    (omega (arith, c.len.ensures, ap length c.deref.ensures.value)) (c.deref.ensures.value ∙ c.in_ok-put_packet.ensures) at)
    c.next_state-load.ensures (omega (arith, c.in_ok-take.ensures.counted, c.make_room.ensures.counted))
    (λ frames texts forwards. c.in_ok-take.ensures.gathers false frames texts (c.make_room.ensures.gathers frames texts forwards)) loads
