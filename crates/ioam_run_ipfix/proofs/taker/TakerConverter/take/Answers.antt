use Rattle.std.proofs.Common.{List, ℕ, ◌+◌, ◌++◌, ◌∙◌, ap, get_or, refl, arith}
use Rattle.ioam_run_ipfix.proofs.TakerLaws.{shows_goes, taker_takes, taker_bad, taker_messages, taker_records}
use Rattle.ioam_run_ipfix.specs.declared.taker.Cause.TheVariants as cause
use Rattle.ioam_run_ipfix.proofs.taker.TakerConverter.take.Goals as goal

pub returns-then-messages-from-clause-takes : goal.returns-then-messages-from-clause-takes
returns-then-messages-from-clause-takes c =
    let went = shows_goes c.args.self.now.reader c.show-shown.new.reader c.show-shown.new.room.octets c.show-shown.result c.show-shown.ensures.shows in
    taker_messages c.args.self.now (record { reader = c.show-shown.new.reader; room = c.show-shown.new.room; given = c.args.self.now.given; cause = cause.Messages })
    c.args.outputs.now went.0 refl refl (omega (arith, c.messages.ensures, c.if-messages-from.true)) went.1

pub returns-then-self-from-clause-takes : goal.returns-then-self-from-clause-takes
returns-then-self-from-clause-takes c =
    let shows = c.in-Record.ensures.shows in
    taker_records c.args.self.now (record { reader = c.show-shown.new.reader; room = c.show-shown.new.room; given = c.args.self.now.given; cause = cause.Records })
    c.args.outputs.now shows.0 refl refl (omega (arith, c.if-self-from.true)) (omega (arith, c.messages.ensures, c.if-messages-from.false)) shows.3

pub returns-in_ok-append-in-Record-clause-takes : goal.returns-in_ok-append-in-Record-clause-takes
returns-in_ok-append-in-Record-clause-takes c =
    let shows = c.in-Record.ensures.shows in
    taker_takes c.args.self.now (record { reader = c.show-shown.new.reader; room = c.show-shown.new.room; given = c.args.self.now.given + 1; cause = c.args.self.now.cause })
    c.args.outputs.now c.index-outputs-0.result _ shows.0 c.requires.width refl
    (c.in_ok-append-in-Record.ensures ∙ ap (λ (o : List ℕ). (get_or c.args.outputs.now 0 c.index-outputs-0.result).gathered.items ++ o) (c.octets.ensures ∙ shows.2))
    (omega (arith, c.if-self-from.false)) refl (omega (arith, c.messages.ensures, c.if-messages-from.false)) shows.1 shows.3 c.in-Record.ensures.room refl

pub returns-in-Bad-clause-takes : goal.returns-in-Bad-clause-takes
returns-in-Bad-clause-takes c =
    taker_bad c.args.self.now (record { reader = c.show-shown.new.reader; room = c.show-shown.new.room; given = c.args.self.now.given; cause = cause.Bad c.in-Bad.at c.in-Bad.fault })
    c.args.outputs.now c.in-Bad.at c.in-Bad.fault refl refl (omega (arith, c.messages.ensures, c.if-messages-from.false)) c.in-Bad.ensures.shows.1
