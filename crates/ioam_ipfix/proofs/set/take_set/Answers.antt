use Rattle.std.proofs.Common.{◌≡◌, ◌+◌, drop, sym, ap, ◌∙◌, subst, arith, length-drop}
use Rattle.std.proofs.lemmas.List.{take_rest}
use Rattle.std.proofs.lemmas.Result.{err_from_is_err_and}
use Rattle.ioam_base.specs.Octets.{u16_at}
use Rattle.ioam_ipfix.specs.Faults.{IsStuckAs, IsUnsized}
use Rattle.ioam_ipfix.specs.Places.{slice}
use Rattle.ioam_ipfix.specs.Sets.{IsSized, set_kind}
use Rattle.ioam_ipfix.specs.Steps.{AddsContent, AddsSet}
use Rattle.ioam_ipfix.proofs.PlacesLaws.{set-added, set-stuck, set-unsized}
use Rattle.ioam_ipfix.proofs.set.take_set.Goals as goal

pub returns-in_err-size-clause-room : goal.returns-in_err-size-clause-room
returns-in_err-size-clause-room c = c.requires.room.1

pub returns-in_err-size-clause-found : goal.returns-in_err-size-clause-found
returns-in_err-size-clause-found c =
    let message = c.args.message.now in
    let at = c.args.at in
    let known = c.args.known.now in
    let places = c.args.places.now.items in
    let fault = c.in_err-size.field-0.0 in
    let p = err_from_is_err_and c.from_residual.result c.from_residual.ensures.1 in
    rw (p.1, p.2)
    (set-unsized message at c.requires.inside.0 known known places places fault (subst (λ o. IsUnsized o fault) (take_rest message at) c.in_err-size.ensures))

pub take_content-requires-clause-inside : goal.take_content-requires-clause-inside
take_content-requires-clause-inside c =
    let message = c.args.message.now in
    let at = c.args.at in
    let size = c.in_ok-size.size in
    let inside = c.requires.inside in
    let sized = subst (λ o. IsSized o × (size ≡ u16_at o 2)) (take_rest message at) c.in_ok-size.ensures in (
      omega (arith, sized.0.least, sized.1),
      omega (arith, sized.0.there, sized.1, length-drop at message, inside.0),
      inside.1,
    )

pub returns-in_err-take_content-clause-room : goal.returns-in_err-take_content-clause-room
returns-in_err-take_content-clause-room c = c.in_err-take_content.ensures.room.1

pub returns-in_err-take_content-clause-found : goal.returns-in_err-take_content-clause-found
returns-in_err-take_content-clause-found c =
    let message = c.args.message.now in
    let at = c.args.at in
    let size = c.in_ok-size.size in
    let known = c.args.known.now in
    let rest = drop at message in
    let fault = c.in_err-take_content.field-0.0 in
    let sized = subst (λ o. IsSized o × (size ≡ u16_at o 2)) (take_rest message at) c.in_ok-size.ensures in
    let is_id : c.u16_at.result ≡ u16_at rest 0 = c.u16_at.ensures ∙ ap (λ o. u16_at o 0) (take_rest message at) in
    let stuck = subst (λ n. IsStuckAs (set_kind n) at known n (slice (at + 4) (at + size) message) fault) is_id c.in_err-take_content.ensures.found in
    let whole = subst (λ n. IsStuckAs (set_kind (u16_at rest 0)) at known (u16_at rest 0) (slice (at + 4) (at + n) message) fault) sized.1 stuck in
    let p = err_from_is_err_and c.from_residual-in_err-take_content.result c.from_residual-in_err-take_content.ensures.1 in
    rw (p.1, p.2)
    (set-stuck message at c.requires.inside.0 known c.take_content.new.known c.args.places.now.items c.take_content.new.places.items fault sized.0 whole)

pub returns : goal.returns
returns c =
    let message = c.args.message.now in
    let at = c.args.at in
    let size = c.in_ok-size.size in
    let known = c.args.known.now in
    let behind = c.take_content.new.known in
    let old = c.args.places.now.items in
    let new = c.take_content.new.places.items in
    let rest = drop at message in
    let sized = subst (λ o. IsSized o × (size ≡ u16_at o 2)) (take_rest message at) c.in_ok-size.ensures in
    let is_id : c.u16_at.result ≡ u16_at rest 0 = c.u16_at.ensures ∙ ap (λ o. u16_at o 0) (take_rest message at) in
    let adds = subst (λ n. AddsContent n message (slice (at + 4) (at + size) message) known behind old new) is_id c.in_ok-take_content.ensures.found in
    let whole = subst (λ n. AddsContent (u16_at rest 0) message (slice (at + 4) (at + n) message) known behind old new) sized.1 adds in
    let made = set-added message at c.requires.inside.0 known behind old new sized.0 whole in
    record { room = c.in_ok-take_content.ensures.room.1; found = (subst (λ n. AddsSet message at n known behind old new) (sym sized.1) made, c.in_ok-take_content.ensures.room) }
