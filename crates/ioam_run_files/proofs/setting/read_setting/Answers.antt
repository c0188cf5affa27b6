use Rattle.std.proofs.Common.{ap, inl, arith}
use Rattle.std.proofs.lemmas.Result.{err_from_is_err_and}
use Rattle.ioam_clock.specs.Reading.{node_names}
use Rattle.ioam_desk.specs.Desk.{Side, holds}
use Rattle.ioam_desk.proofs.AskedLaws.{HaveSlots-one, HaveSlots-then}
use Rattle.ioam_desk.proofs.KeptLaws.{KeepsInputs-then}
use Rattle.ioam_run_files.proofs.SettingLaws.{asks_next, domain_first, refuses_next, none_of_domain, same_refusal}
use Rattle.ioam_run_files.proofs.setting.read_setting.Goals as goal

pub returns-in_err-readings-clause-refused :
    goal.returns-in_err-readings-clause-refused
returns-in_err-readings-clause-refused g c =
    let p = err_from_is_err_and c.from_residual-in_err-readings.result c.from_residual-in_err-readings.ensures.1 in
    rw (p.1, p.2) (refuses_next g.D.Desk.tells (g.D.Desk.reading c.args.desk.now) (g.D.Desk.reading c.read_domain_file.new.desk)
    (g.D.Desk.reading c.read_readings_file.new.desk) (g.D.Desk.writing c.args.desk.now) (g.D.Desk.writing c.read_domain_file.new.desk)
    c.args.domain.now c.args.readings.now c.in_ok-domain.domain c.in_ok-domain.ensures.read c.in_ok-domain.ensures.side c.in_ok-domain.ensures.outputs
    c.in_err-readings.field-0.0 c.in_err-readings.ensures.read)

pub returns-in_err-readings-clause-asked :
    goal.returns-in_err-readings-clause-asked
returns-in_err-readings-clause-asked g c =
    asks_next (g.D.Desk.reading c.args.desk.now).side (g.D.Desk.reading c.read_domain_file.new.desk).side
    (g.D.Desk.reading c.read_readings_file.new.desk).side c.args.domain.now c.args.readings.now c.in_ok-domain.ensures.side
    c.in_err-readings.ensures.asked

pub returns-clause-asked : goal.returns-clause-asked
returns-clause-asked g c =
    asks_next (g.D.Desk.reading c.args.desk.now).side (g.D.Desk.reading c.read_domain_file.new.desk).side
    (g.D.Desk.reading c.read_readings_file.new.desk).side c.args.domain.now c.args.readings.now c.in_ok-domain.ensures.side
    c.in_ok-readings.ensures.asked

pub returns-in_err-domain-clause-in_turn : goal.returns-in_err-domain-clause-in_turn
returns-in_err-domain-clause-in_turn g c = inl c.read_domain_file.ensures.asked

pub returns-in_err-readings-clause-in_turn : goal.returns-in_err-readings-clause-in_turn
returns-in_err-readings-clause-in_turn g c = domain_first g.D.Desk.tells (g.D.Desk.reading c.args.desk.now) (g.D.Desk.reading c.read_domain_file.new.desk)
    (g.D.Desk.reading c.read_readings_file.new.desk) (g.D.Desk.writing c.args.desk.now) c.args.domain.now c.args.readings.now c.in_ok-domain.domain
    c.in_ok-domain.ensures.read c.in_ok-domain.ensures.side c.in_ok-domain.ensures.ended c.read_readings_file.ensures.kept

pub returns-clause-in_turn : goal.returns-clause-in_turn
returns-clause-in_turn g c = domain_first g.D.Desk.tells (g.D.Desk.reading c.args.desk.now) (g.D.Desk.reading c.read_domain_file.new.desk)
    (g.D.Desk.reading c.read_readings_file.new.desk) (g.D.Desk.writing c.args.desk.now) c.args.domain.now c.args.readings.now c.in_ok-domain.domain
    c.in_ok-domain.ensures.read c.in_ok-domain.ensures.side c.in_ok-domain.ensures.ended c.read_readings_file.ensures.kept

pub returns-in_err-readings-clause-opens : goal.returns-in_err-readings-clause-opens
returns-in_err-readings-clause-opens g c =
    let p = err_from_is_err_and c.from_residual-in_err-readings.result c.from_residual-in_err-readings.ensures.1 in
    let old = (g.D.Desk.reading c.args.desk.now).side in
    let mid = (g.D.Desk.reading c.read_domain_file.new.desk).side in
    rw (p.1, p.2) (λ other. HaveSlots-then old mid (g.D.Desk.reading c.read_readings_file.new.desk).side
    (HaveSlots-one old mid c.args.domain.now c.in_ok-domain.ensures.side) (c.in_err-readings.ensures.opens other))

pub returns-in_err-readings-clause-domain_first :
    goal.returns-in_err-readings-clause-domain_first
returns-in_err-readings-clause-domain_first g c = λ fault is.
    let p = err_from_is_err_and c.from_residual-in_err-readings.result c.from_residual-in_err-readings.ensures.1 in
    let same = same_refusal p.1 p.2 is in
    absurd (none_of_domain g.D.Desk.tells (g.D.Desk.reading c.read_domain_file.new.desk) (g.D.Desk.reading c.read_readings_file.new.desk)
    (holds (g.D.Desk.writing c.read_domain_file.new.desk) c.args.readings.now) (node_names c.in_ok-domain.domain) c.in_err-readings.field-0.0 fault c.in_err-readings.ensures.read same)

pub returns-in_err-readings-clause-kept : goal.returns-in_err-readings-clause-kept
returns-in_err-readings-clause-kept g c = KeepsInputs-then (g.D.Desk.reading c.args.desk.now) (g.D.Desk.reading c.read_domain_file.new.desk) (g.D.Desk.reading c.read_readings_file.new.desk)
    (omega (arith, ap (λ (s : Side). s.slots) c.in_ok-domain.ensures.side)) c.read_domain_file.ensures.kept c.read_readings_file.ensures.kept

pub returns-clause-kept : goal.returns-clause-kept
returns-clause-kept g c = KeepsInputs-then (g.D.Desk.reading c.args.desk.now) (g.D.Desk.reading c.read_domain_file.new.desk) (g.D.Desk.reading c.read_readings_file.new.desk)
    (omega (arith, ap (λ (s : Side). s.slots) c.in_ok-domain.ensures.side)) c.read_domain_file.ensures.kept c.read_readings_file.ensures.kept

pub returns-in_err-domain-clause-few : goal.returns-in_err-domain-clause-few
returns-in_err-domain-clause-few g c = omega (arith, c.read_domain_file.ensures.few)

pub returns-in_err-readings-clause-few : goal.returns-in_err-readings-clause-few
returns-in_err-readings-clause-few g c = omega (arith, c.read_readings_file.ensures.few, ap (λ (s : Side). s.slots) c.in_ok-domain.ensures.side)

pub returns-clause-few : goal.returns-clause-few
returns-clause-few g c = omega (arith, c.read_readings_file.ensures.few, ap (λ (s : Side). s.slots) c.in_ok-domain.ensures.side)
