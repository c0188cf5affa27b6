use Rattle.std.proofs.Common.{ℕ, length-take-le, Ok, refl, sym, ◌∙◌, subst, arith}
use Rattle.ioam_desk.specs.Desk.{ReadInto}
use Rattle.ioam_desk.proofs.IntakeLaws.{few_failed, few_read, few_still, took_all, took_enough, took_failed, took_more, took_none, took_unheld}
use Rattle.ioam_desk.proofs.intake.read_slot.Goals as goal

pub pieces-init : goal.pieces-init
pieces-init g c = record {
  took = took_none g.T.Intake.stands g.T.Intake.room g.D.Desk.tells c.args.intake (g.D.Desk.reading c.args.desk.now) c.args.slot c.requires.stands;
  room = c.requires.room;
  outputs = refl;
}

pub take-requires : goal.take-requires
take-requires g c =
    let took = c.pieces.invariant.took in
    let size = length-take-le c.in-Ok.count c.read.new.into c.in-Ok.ensures.read.0 in
    record {
      needed = sym c.is_full.ensures.full ∙ c.pieces-test.true;
      some = omega (arith, size, c.if-count-eq0.false);
      few = omega (arith, size, c.in-Ok.ensures.read.0, c.read.auto.into, c.pieces.invariant.room);
      stands = record { begun = c.args.intake; octets = took.octets; stands = took.stands };
    }

pub pieces-preserved : goal.pieces-preserved
pieces-preserved g c =
    let took = c.pieces.invariant.took in
    record {
      took = took_more g.T.Intake.stands g.T.Intake.room g.D.Desk.tells c.args.intake (g.D.Desk.reading c.args.desk.now) c.args.slot (g.D.Desk.reading c.pieces.desk) c.pieces.intake took
          (g.D.Desk.reading c.read.new.self) c.read.new.into c.in-Ok.count c.in-Ok.ensures.read c.in-Ok-take.intake
          (c.in-Ok-take.ensures.takes c.args.intake took.octets took.stands) c.in-Ok-take.ensures.room;
      room = omega (arith, c.read.auto.into, c.pieces.invariant.room);
      outputs = c.in-Ok.ensures.outputs ∙ c.pieces.invariant.outputs;
    }

pub pieces-smaller : goal.pieces-smaller
pieces-smaller g c =
    let size = length-take-le c.in-Ok.count c.read.new.into c.in-Ok.ensures.read.0 in
    let room = c.in-Ok-take.ensures.room in
    omega (arith, size, room, c.if-count-eq0.false)

pub returns-then-count-eq0-clause-reads : goal.returns-then-count-eq0-clause-reads
returns-then-count-eq0-clause-reads g c =
    let P : ℕ → Type 0 = λ n. ReadInto g.D.Desk.tells (g.D.Desk.reading c.pieces.desk) c.args.slot c.read.new.into (Ok n) (g.D.Desk.reading c.read.new.self) in
    took_all g.T.Intake.stands g.T.Intake.room g.D.Desk.tells c.args.intake (g.D.Desk.reading c.args.desk.now) c.args.slot (g.D.Desk.reading c.pieces.desk) c.pieces.intake c.pieces.invariant.took
    (g.D.Desk.reading c.read.new.self) c.read.new.into g.T.Intake.full (subst P c.if-count-eq0.true c.in-Ok.ensures.read)

pub returns-then-count-eq0-clause-few : goal.returns-then-count-eq0-clause-few
returns-then-count-eq0-clause-few g c =
    let P : ℕ → Type 0 = λ n. ReadInto g.D.Desk.tells (g.D.Desk.reading c.pieces.desk) c.args.slot c.read.new.into (Ok n) (g.D.Desk.reading c.read.new.self) in
    few_read g.T.Intake.stands g.T.Intake.room g.D.Desk.tells c.args.intake (g.D.Desk.reading c.args.desk.now) c.args.slot (g.D.Desk.reading c.pieces.desk) c.pieces.intake c.pieces.invariant.took
    (g.D.Desk.reading c.read.new.self) c.read.new.into 0 (subst P c.if-count-eq0.true c.in-Ok.ensures.read) (omega arith)

pub returns-in-Err-clause-reads : goal.returns-in-Err-clause-reads
returns-in-Err-clause-reads g c = took_failed g.T.Intake.stands g.T.Intake.room g.D.Desk.tells c.args.intake (g.D.Desk.reading c.args.desk.now) c.args.slot (g.D.Desk.reading c.pieces.desk) c.pieces.intake c.pieces.invariant.took
    (g.D.Desk.reading c.read.new.self) c.read.new.into c.in-Err.fault c.in-Err.ensures.read

pub returns-in-Err-clause-few : goal.returns-in-Err-clause-few
returns-in-Err-clause-few g c = few_failed g.T.Intake.stands g.T.Intake.room g.D.Desk.tells c.args.intake (g.D.Desk.reading c.args.desk.now) c.args.slot (g.D.Desk.reading c.pieces.desk) c.pieces.intake c.pieces.invariant.took
    (g.D.Desk.reading c.read.new.self) c.read.new.into c.in-Err.fault c.in-Err.ensures.read

pub returns-in-Err-take-clause-reads : goal.returns-in-Err-take-clause-reads
returns-in-Err-take-clause-reads g c = took_unheld g.T.Intake.stands g.T.Intake.room g.D.Desk.tells c.args.intake (g.D.Desk.reading c.args.desk.now) c.args.slot (g.D.Desk.reading c.pieces.desk) c.pieces.intake c.pieces.invariant.took
    (g.D.Desk.reading c.read.new.self) c.read.new.into c.in-Ok.count c.in-Ok.ensures.read

pub returns-in-Err-take-clause-few : goal.returns-in-Err-take-clause-few
returns-in-Err-take-clause-few g c = few_read g.T.Intake.stands g.T.Intake.room g.D.Desk.tells c.args.intake (g.D.Desk.reading c.args.desk.now) c.args.slot (g.D.Desk.reading c.pieces.desk) c.pieces.intake c.pieces.invariant.took
    (g.D.Desk.reading c.read.new.self) c.read.new.into c.in-Ok.count c.in-Ok.ensures.read
    (let room = c.is_full.ensures.room c.pieces-test.true in omega (arith, room, c.in-Ok.ensures.read.0, c.read.auto.into, c.pieces.invariant.room))

pub returns-clause-reads : goal.returns-clause-reads
returns-clause-reads g c = took_enough g.T.Intake.stands g.T.Intake.room g.D.Desk.tells c.args.intake (g.D.Desk.reading c.args.desk.now) c.args.slot (g.D.Desk.reading c.pieces.desk) c.pieces.intake c.pieces.invariant.took
    g.T.Intake.full (sym c.is_full.ensures.full ∙ c.pieces-test.false)

pub returns-clause-few : goal.returns-clause-few
returns-clause-few g c = few_still g.T.Intake.stands g.T.Intake.room g.D.Desk.tells c.args.intake (g.D.Desk.reading c.args.desk.now) c.args.slot (g.D.Desk.reading c.pieces.desk) c.pieces.intake c.pieces.invariant.took
