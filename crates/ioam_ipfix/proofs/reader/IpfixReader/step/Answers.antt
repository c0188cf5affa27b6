use Rattle.std.proofs.Common.{drop, ap, ◌∙◌}
use Rattle.ioam_ipfix.specs.Reading.{Reading}
use Rattle.ioam_ipfix.proofs.ViewLaws.{let-go, waits-by, faulty-head, faulty-inside, taken-by}
use Rattle.ioam_ipfix.proofs.reader.IpfixReader.step.Goals as goal

pub returns-in-Cut : goal.returns-in-Cut
returns-in-Cut c =
    let inside = c.self.inside in
    let old = c.args.self.now in
    let nothing = ap (λ (r : Reading). r.due) c.self.view_is ∙ c.requires in (
      let-go inside.octets inside.size c.self.invariant.0 inside.known inside.messages (drop inside.given inside.places.items) nothing c.take.new.self c.take.ensures
          c.clear.new.self.items c.clear.ensures.items ∙ c.self.view_is,
      waits-by inside.octets c.take.new.self inside.size inside.known inside.messages (drop inside.given inside.places.items) old c.self.view_is c.requires c.take.ensures
          c.pending-pending.result.now c.pending-pending.ensures c.in-Cut.ensures,
    )

pub returns-in-Bad : goal.returns-in-Bad
returns-in-Bad c =
    let inside = c.self.inside in
    let old = c.args.self.now in
    let nothing = ap (λ (r : Reading). r.due) c.self.view_is ∙ c.requires in (
      let-go inside.octets inside.size c.self.invariant.0 inside.known inside.messages (drop inside.given inside.places.items) nothing c.take.new.self c.take.ensures
          c.clear.new.self.items c.clear.ensures.items ∙ c.self.view_is,
      faulty-head inside.octets c.take.new.self inside.size inside.known inside.messages (drop inside.given inside.places.items) old c.self.view_is c.requires c.take.ensures
          c.pending-pending.result.now c.pending-pending.ensures c.in-Bad.fault c.in-Bad.ensures,
    )

pub returns-in-Err : goal.returns-in-Err
returns-in-Err c =
    let inside = c.self.inside in
    let old = c.args.self.now in
    let nothing = ap (λ (r : Reading). r.due) c.self.view_is ∙ c.requires in (
      let-go inside.octets inside.size c.self.invariant.0 inside.known inside.messages (drop inside.given inside.places.items) nothing c.take.new.self c.take.ensures
          c.clear-in-Err.new.self.items c.clear-in-Err.ensures.items ∙ c.self.view_is,
      faulty-inside inside.octets c.take.new.self inside.size inside.known inside.messages (drop inside.given inside.places.items) old c.self.view_is c.requires c.take.ensures
          c.pending-pending.result.now c.pending-pending.ensures c.in-Whole.size c.in-Whole.ensures c.in-Err.fault c.in-Err.ensures.found,
    )

pub returns-in-Ok : goal.returns-in-Ok
returns-in-Ok c =
    let inside = c.self.inside in
    let old = c.args.self.now in
    let places = drop inside.given inside.places.items in
    let nothing = ap (λ (r : Reading). r.due) c.self.view_is ∙ c.requires in
    taken-by inside.octets c.take.new.self inside.size c.in-Whole.size inside.known c.in-Ok.known inside.messages places c.take_message.new.places.items
    c.pending-pending.result.now c.self.invariant.0 c.take.ensures c.pending-pending.ensures c.in-Whole.ensures nothing c.in-Ok.ensures.found old c.self.view_is
