use Rattle.std.proofs.lemmas.Result.{err_from_is_err_and}
use Rattle.ioam_ipfix.proofs.PlacesLaws.{Sets-push, Sets-stuck}
use Rattle.ioam_ipfix.proofs.message.take_message.Goals as goal

pub sets-preserved : goal.sets-preserved
sets-preserved c =
    let found = c.in_ok-size.ensures.found in
    record {
      few = found.1.0;
      room = found.1.1;
      taken = Sets-push c.args.message.now c.args.known c.sets.at c.sets.behind c.sets.places.items c.in_ok-size.size c.take_set.new.known c.take_set.new.places.items
          c.sets.invariant.taken found.0;
    }

pub returns-in_err-size-clause-found : goal.returns-in_err-size-clause-found
returns-in_err-size-clause-found c =
    let p = err_from_is_err_and c.from_residual.result c.from_residual.ensures.1 in
    rw (p.1, p.2) (Sets-stuck c.args.message.now c.args.known c.sets.at c.sets.behind c.sets.places.items c.in_err-size.field-0.0 c.sets.invariant.taken
    c.in_err-size.ensures.found)
