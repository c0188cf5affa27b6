use Rattle.std.proofs.Common.{drop, arith}
use Rattle.std.proofs.lemmas.Result.{err_from_is_err_and}
use Rattle.ioam_ipfix.proofs.ViewLaws.{owed-most, fed-rest, fed-held, fed-none, fed-inside, kept-inside}
use Rattle.ioam_ipfix.proofs.reader.IpfixReader.feed_piece.Goals as goal

pub returns-clause-rest : goal.returns-clause-rest
returns-clause-rest c =
    fed-rest c.self.inside.octets c.take.new.self c.feed.new.self c.self.inside.size c.self.inside.known c.self.inside.messages
    (drop c.self.inside.given c.self.inside.places.items) c.args.self.now c.owed-owed.result _ c.self.invariant.0 c.self.view_is c.owed-owed.ensures c.take.ensures
    (omega arith) (λ all. omega (arith, all))
    c.args.piece.now c.in_ok-feed.ensures.ok

pub returns-clause-held : goal.returns-clause-held
returns-clause-held c =
    let all = fed-held c.self.inside.octets c.take.new.self c.feed.new.self c.self.inside.size c.self.inside.known c.self.inside.messages
    (drop c.self.inside.given c.self.inside.places.items) c.args.self.now c.owed-owed.result _ c.self.invariant.0 c.self.view_is c.owed-owed.ensures c.take.ensures
    (omega arith) (λ all. omega (arith, all))
    c.args.piece.now c.in_ok-feed.ensures.ok in
    let inside = c.self.inside in
    let most = owed-most inside.octets inside.size inside.known inside.messages (drop inside.given inside.places.items) c.args.self.now c.self.view_is in
    omega (arith, all, most, c.owed-owed.ensures)

pub returns-in_err-feed-clause-err : goal.returns-in_err-feed-clause-err
returns-in_err-feed-clause-err c =
    let p = err_from_is_err_and c.from_residual.result c.from_residual.ensures.1 in
    rw p.1 (fed-none c.self.inside.octets c.take.new.self c.feed.new.self c.self.inside.size c.self.inside.known c.self.inside.messages
    (drop c.self.inside.given c.self.inside.places.items) c.args.self.now c.owed-owed.result _ c.self.invariant.0 c.self.view_is c.owed-owed.ensures c.take.ensures
    (omega arith) (λ all. omega (arith, all))
    c.in_err-feed.ensures.err)

pub invariant_of-self : goal.invariant_of-self
invariant_of-self c =
    let was = c.self.invariant in
    let now = kept-inside c.self.inside.octets c.take.new.self c.feed.new.self c.self.inside.size c.self.inside.known c.self.inside.messages
    (drop c.self.inside.given c.self.inside.places.items) c.args.self.now c.owed-owed.result _ c.self.invariant.0 c.self.view_is c.owed-owed.ensures c.take.ensures
    (omega arith) (λ all. omega (arith, all))
    c.in_err-feed.ensures.err (was.0, was.1, was.2, was.5) in
    (now.0, now.1, now.2, was.3, was.4, now.3)

pub invariant_of-self-2 : goal.invariant_of-self-2
invariant_of-self-2 c =
    let was = c.self.invariant in
    let now = fed-inside c.self.inside.octets c.take.new.self c.feed.new.self c.self.inside.size c.self.inside.known c.self.inside.messages
    (drop c.self.inside.given c.self.inside.places.items) c.args.self.now c.owed-owed.result _ c.self.invariant.0 c.self.view_is c.owed-owed.ensures c.take.ensures
    (omega arith) (λ all. omega (arith, all))
    c.args.piece.now c.in_ok-feed.ensures.ok c.requires (was.0, was.1, was.2, was.5) in
    (now.0, now.1, now.2, was.3, was.4, now.3)
