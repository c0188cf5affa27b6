use Rattle.std.proofs.Common.{◌≡◌, ◌<◌, ◌+◌, ℕ, List, [], ◌∷◌, length, Ok, Err, get_or, refl, sym, ◌∙◌, subst, ap, arith}
use Rattle.std.proofs.lemmas.List.{length-take-le}
use Rattle.ioam_desk.specs.Desk.{Side, OpenIn, holds}
use Rattle.ioam_desk.specs.Touches.{state, Quiet, opening, failing_open}
use Rattle.ioam_desk.proofs.TouchesLaws.{touches-none, touches-within, touches-open_in}
use Rattle.ioam_desk_outputs.specs.Open.{AreSlots}
use Rattle.ioam_desk_outputs.proofs.OpenLaws.{side_more, slots_more, unread_more, unended_more, asked_more, asked_fault_in, within_in, opened_none, fewer_fault}
use Rattle.ioam_desk_outputs.proofs.open_in.open_inputs.Goals as goal

pub names-preserved : goal.names-preserved
names-preserved g c =
    let start = (state (g.D.Desk.reading c.args.desk.now) (g.D.Desk.writing c.args.desk.now)) in
    let mid = (state (g.D.Desk.reading c.names.desk) (g.D.Desk.writing c.names.desk)) in
    let new = (state (g.D.Desk.reading c.open_in.new.self) (g.D.Desk.writing c.open_in.new.self)) in
    let names = c.args.names.now in
    let name = c.text.result.now in
    let i = c.names.name-index in
    let slot = c.in-Ok-open_in.slot in
    let inside : i < length names = omega arith in
    let is : name ≡ get_or names i name = subst (λ (x : List ℕ). x ≡ get_or names i x) (sym c.text.ensures) c.name-item.is in
    let opened : OpenIn g.D.Desk.tells mid.inputs (holds mid.outputs name) name (Ok slot) new.inputs = c.in-Ok-open_in.ensures.opened in
    let number : slot ≡ start.inputs.side.slots + i = opened.number ∙ ap (λ (s : Side). s.slots) c.names.invariant.side
    ∙ ap (λ (n : ℕ). start.inputs.side.slots + n) (length-take-le i names (omega (arith, inside))) in
    record {
      slots = slots_more start.inputs.side.slots names i slot c.names.slots.items c.push.new.self.items inside number c.in-Ok-push.ensures.items c.names.invariant.slots;
      side = side_more start.inputs.side mid.inputs.side new.inputs.side names i name inside is c.names.invariant.side opened.side;
      unread = unread_more g.D.Desk.tells start mid new names i slot name inside is c.names.invariant.side c.names.invariant.outputs opened c.names.invariant.unread;
      unended = unended_more g.D.Desk.tells start mid new names i slot name inside c.names.invariant.side opened c.names.invariant.unended;
      none = λ empty. absurd (omega (arith, inside, empty));
      outputs = c.in-Ok-open_in.ensures.outputs ∙ c.names.invariant.outputs;
      touches = touches-within g.D.Desk.tells (opening names []) (opening _ []) Quiet start mid new (within_in names i name inside is) c.names.invariant.touches
          (touches-open_in g.D.Desk.tells mid new name (Ok slot) opened c.in-Ok-open_in.ensures.outputs);
    }

pub returns-in-Err-push-clause-asked : goal.returns-in-Err-push-clause-asked
returns-in-Err-push-clause-asked g c =
    let names = c.args.names.now in
    let name = c.text.result.now in
    let i = c.names.name-index in
    let is : name ≡ get_or names i name = subst (λ (x : List ℕ). x ≡ get_or names i x) (sym c.text.ensures) c.name-item.is in
    asked_more (g.D.Desk.reading c.args.desk.now).side (g.D.Desk.reading c.names.desk).side (g.D.Desk.reading c.open_in.new.self).side.asked names i name (omega arith) is c.names.invariant.side (ap (λ (s : Side). s.asked) c.in-Ok-open_in.ensures.opened.side)

pub returns-in-Err-push-clause-unread : goal.returns-in-Err-push-clause-unread
returns-in-Err-push-clause-unread g c =
    let names = c.args.names.now in
    let name = c.text.result.now in
    let i = c.names.name-index in
    let is : name ≡ get_or names i name = subst (λ (x : List ℕ). x ≡ get_or names i x) (sym c.text.ensures) c.name-item.is in
    unread_more g.D.Desk.tells (state (g.D.Desk.reading c.args.desk.now) (g.D.Desk.writing c.args.desk.now)) (state (g.D.Desk.reading c.names.desk) (g.D.Desk.writing c.names.desk)) (state (g.D.Desk.reading c.open_in.new.self) (g.D.Desk.writing c.open_in.new.self)) names i c.in-Ok-open_in.slot name (omega arith) is c.names.invariant.side c.names.invariant.outputs c.in-Ok-open_in.ensures.opened c.names.invariant.unread

pub returns-in-Err-push-clause-outputs : goal.returns-in-Err-push-clause-outputs
returns-in-Err-push-clause-outputs g c = c.in-Ok-open_in.ensures.outputs ∙ c.names.invariant.outputs

pub returns-in-Err-push-clause-touches : goal.returns-in-Err-push-clause-touches
returns-in-Err-push-clause-touches g c =
    let names = c.args.names.now in
    let name = c.text.result.now in
    let i = c.names.name-index in
    let is : name ≡ get_or names i name = subst (λ (x : List ℕ). x ≡ get_or names i x) (sym c.text.ensures) c.name-item.is in
    touches-within g.D.Desk.tells (opening names []) (opening _ []) Quiet (state (g.D.Desk.reading c.args.desk.now) (g.D.Desk.writing c.args.desk.now)) (state (g.D.Desk.reading c.names.desk) (g.D.Desk.writing c.names.desk)) (state (g.D.Desk.reading c.open_in.new.self) (g.D.Desk.writing c.open_in.new.self))
    (within_in names i name (omega arith) is) c.names.invariant.touches
    (touches-open_in g.D.Desk.tells _ _ name (Ok c.in-Ok-open_in.slot) c.in-Ok-open_in.ensures.opened c.in-Ok-open_in.ensures.outputs)

pub returns-in-Err-clause-touches : goal.returns-in-Err-clause-touches
returns-in-Err-clause-touches g c =
    let names = c.args.names.now in
    let name = c.text.result.now in
    let i = c.names.name-index in
    let is : name ≡ get_or names i name = subst (λ (x : List ℕ). x ≡ get_or names i x) (sym c.text.ensures) c.name-item.is in
    touches-within g.D.Desk.tells (opening names []) (opening (name ∷ []) []) (failing_open {A = ℕ} (Err c.in-Err.fault)) (state (g.D.Desk.reading c.args.desk.now) (g.D.Desk.writing c.args.desk.now)) (state (g.D.Desk.reading c.names.desk) (g.D.Desk.writing c.names.desk)) (state (g.D.Desk.reading c.open_in.new.self) (g.D.Desk.writing c.open_in.new.self))
    (within_in names i name (omega arith) is) c.names.invariant.touches
    (touches-open_in g.D.Desk.tells _ _ name (Err c.in-Err.fault) c.in-Err.ensures.opened c.in-Err.ensures.outputs)

pub names-init : goal.names-init
names-init g c =
    let start = state (g.D.Desk.reading c.args.desk.now) (g.D.Desk.writing c.args.desk.now) in
    record {
      slots = subst (λ (xs : List ℕ). AreSlots start.inputs.side.slots 0 xs) (sym c.in-Ok.ensures.items) (record { size = refl; number = λ i below. absurd (omega (arith, below)) });
      side = opened_none start.inputs.side;
      unread = λ told i below. absurd (omega (arith, below));
      unended = λ i below. absurd (omega (arith, below));
      none = λ empty. refl;
      outputs = refl;
      touches = touches-none g.D.Desk.tells (opening c.args.names.now []) start;
    }

pub returns-in-Err-clause-asked : goal.returns-in-Err-clause-asked
returns-in-Err-clause-asked g c =
    let names = c.args.names.now in
    let name = c.text.result.now in
    let i = c.names.name-index in
    let is : name ≡ get_or names i name = subst (λ (x : List ℕ). x ≡ get_or names i x) (sym c.text.ensures) c.name-item.is in
    asked_fault_in g.D.Desk.tells (state (g.D.Desk.reading c.args.desk.now) (g.D.Desk.writing c.args.desk.now)) (state (g.D.Desk.reading c.names.desk) (g.D.Desk.writing c.names.desk))
    (state (g.D.Desk.reading c.open_in.new.self) (g.D.Desk.writing c.open_in.new.self)) names i name c.in-Err.fault (omega arith) is c.names.invariant.side c.in-Err.ensures.opened

pub returns-in-Err-clause-fewer : goal.returns-in-Err-clause-fewer
returns-in-Err-clause-fewer g c =
    fewer_fault g.D.Desk.tells (state (g.D.Desk.reading c.args.desk.now) (g.D.Desk.writing c.args.desk.now)) (state (g.D.Desk.reading c.names.desk) (g.D.Desk.writing c.names.desk))
    (state (g.D.Desk.reading c.open_in.new.self) (g.D.Desk.writing c.open_in.new.self)) c.args.names.now c.names.name-index c.text.result.now c.in-Err.fault (omega arith) c.names.invariant.side c.in-Err.ensures.opened

pub returns-in-Err-push-clause-none : goal.returns-in-Err-push-clause-none
returns-in-Err-push-clause-none g c = λ empty. absurd (omega (arith, empty))

pub returns-in-Err-clause-none : goal.returns-in-Err-clause-none
returns-in-Err-clause-none g c = λ empty. absurd (omega (arith, empty))
