use Rattle.std.proofs.Common.{◌≡◌, ◌<◌, ◌+◌, ℕ, List, [], ◌∷◌, length, take, Ok, Err, get_or, refl, sym, ◌∙◌, subst, arith}
use Rattle.std.proofs.lemmas.List.Elements.{All-nil}
use Rattle.ioam_desk_outputs.specs.declared.output.Output.{Output}
use Rattle.ioam_desk_outputs.specs.Told.{AreTold, GathersNothing, unsaid}
use Rattle.ioam_desk_outputs.proofs.OpenLaws.{nothing_more, side_more, told_more, stops_more, fails_more, unopened, within_out, opened_none, asked_fault_out}
use Rattle.ioam_desk.specs.Touches.{state, Quiet, opening, failing_out}
use Rattle.ioam_desk.proofs.TouchesLaws.{touches-none, touches-within, touches-open_out}
use Rattle.ioam_desk_outputs.proofs.ToldLaws.{AreTold-open}
use Rattle.ioam_desk_outputs.proofs.open.open_outputs.Goals as goal

pub returns-in_default-clause-fronts : goal.returns-in_default-clause-fronts
returns-in_default-clause-fronts g c =
    let desk = g.D.Desk.writing c.args.desk.now in
    λ tells texts size. unopened desk desk 0 c.args.names.now texts (omega arith) size

pub names-preserved : goal.names-preserved
names-preserved g c =
    let start = g.D.Desk.writing c.args.desk.now in
    let new = g.D.Desk.writing c.open_out.new.self in
    let names = c.args.names.now in
    let name = c.text.result.now in
    let i = c.names.name-index in
    let output : Output = record { slot = c.in-Ok-open_out.slot; gathered = c.new-gathered.result } in
    let inside : i < length names = omega arith in
    let is : name ≡ get_or names i name = subst (λ (x : List ℕ). x ≡ get_or names i x) (sym c.text.ensures) c.name-item.is in
    record {
      told = subst (λ (outputs : List Output). AreTold g.D.Desk.tells new start.side.slots (take (i + 1) names) outputs (unsaid (take (i + 1) names)))
          (sym c.in-Ok-push.ensures.items)
          (told_more g.D.Desk.tells start (g.D.Desk.writing c.names.desk) new names i c.names.outputs.items name output c.requires inside is
          c.in-Ok-open_out.ensures.opened c.new-gathered.ensures.items c.names.invariant.side c.names.invariant.told);
      nothing = nothing_more c.names.outputs.items c.push.new.self.items output c.names.invariant.nothing c.new-gathered.ensures.items c.in-Ok-push.ensures.items;
      side = side_more start.side (g.D.Desk.writing c.names.desk).side new.side names i name inside is
          c.names.invariant.side c.in-Ok-open_out.ensures.opened.1;
      inputs = c.open_out.ensures.inputs ∙ c.names.invariant.inputs;
      touches = touches-within g.D.Desk.tells (opening [] names) (opening [] _) Quiet (state (g.D.Desk.reading c.args.desk.now) start)
          (state (g.D.Desk.reading c.names.desk) (g.D.Desk.writing c.names.desk)) (state (g.D.Desk.reading c.open_out.new.self) new)
          (within_out names i name inside is) c.names.invariant.touches
          (touches-open_out g.D.Desk.tells (state (g.D.Desk.reading c.names.desk) (g.D.Desk.writing c.names.desk)) (state (g.D.Desk.reading c.open_out.new.self) new)
          name (Ok c.in-Ok-open_out.slot) c.in-Ok-open_out.ensures.opened c.open_out.ensures.inputs);
    }

pub returns-in-Err-push-clause-fronts : goal.returns-in-Err-push-clause-fronts
returns-in-Err-push-clause-fronts g c =
    let names = c.args.names.now in
    let name = c.text.result.now in
    let i = c.names.name-index in
    let output : Output = record { slot = c.in-Ok-open_out.slot; gathered = c.new-gathered.result } in
    let inside : i < length names = omega arith in
    let is : name ≡ get_or names i name = subst (λ (x : List ℕ). x ≡ get_or names i x) (sym c.text.ensures) c.name-item.is in
    stops_more g.D.Desk.tells (g.D.Desk.writing c.args.desk.now) (g.D.Desk.writing c.names.desk) (g.D.Desk.writing c.open_out.new.self)
    names i c.names.outputs.items name output c.requires inside is
    c.in-Ok-open_out.ensures.opened c.new-gathered.ensures.items c.names.invariant.side c.names.invariant.told

pub returns-in-Err-clause-fronts : goal.returns-in-Err-clause-fronts
returns-in-Err-clause-fronts g c = fails_more _ (g.D.Desk.writing c.args.desk.now) (g.D.Desk.writing c.names.desk) _ c.args.names.now c.names.name-index _ _ _
    c.names.invariant.side c.names.invariant.told c.in-Err.ensures.opened

pub returns-clause-open : goal.returns-clause-open
returns-clause-open g c = AreTold-open g.D.Desk.tells (g.D.Desk.writing c.names.desk) _ _ c.names.outputs.items _ c.names.invariant.told

pub returns-in-Err-push-clause-touches : goal.returns-in-Err-push-clause-touches
returns-in-Err-push-clause-touches g c =
    let names = c.args.names.now in
    let name = c.text.result.now in
    let i = c.names.name-index in
    let is : name ≡ get_or names i name = subst (λ (x : List ℕ). x ≡ get_or names i x) (sym c.text.ensures) c.name-item.is in
    touches-within g.D.Desk.tells (opening [] names) (opening [] _) Quiet (state (g.D.Desk.reading c.args.desk.now) (g.D.Desk.writing c.args.desk.now)) (state (g.D.Desk.reading c.names.desk) (g.D.Desk.writing c.names.desk)) (state (g.D.Desk.reading c.open_out.new.self) (g.D.Desk.writing c.open_out.new.self))
    (within_out names i name (omega arith) is) c.names.invariant.touches
    (touches-open_out g.D.Desk.tells _ _ name (Ok c.in-Ok-open_out.slot) c.in-Ok-open_out.ensures.opened c.open_out.ensures.inputs)

pub returns-in-Err-clause-touches : goal.returns-in-Err-clause-touches
returns-in-Err-clause-touches g c =
    let names = c.args.names.now in
    let name = c.text.result.now in
    let i = c.names.name-index in
    let is : name ≡ get_or names i name = subst (λ (x : List ℕ). x ≡ get_or names i x) (sym c.text.ensures) c.name-item.is in
    touches-within g.D.Desk.tells (opening [] names) (opening [] (name ∷ [])) (failing_out {A = ℕ} (Err c.in-Err.fault)) (state (g.D.Desk.reading c.args.desk.now) (g.D.Desk.writing c.args.desk.now)) (state (g.D.Desk.reading c.names.desk) (g.D.Desk.writing c.names.desk)) (state (g.D.Desk.reading c.open_out.new.self) (g.D.Desk.writing c.open_out.new.self))
    (within_out names i name (omega arith) is) c.names.invariant.touches
    (touches-open_out g.D.Desk.tells _ _ name (Err c.in-Err.fault) c.in-Err.ensures.opened c.open_out.ensures.inputs)

pub names-init : goal.names-init
names-init g c =
    let desk = g.D.Desk.writing c.args.desk.now in
    record {
      told = subst (λ (outputs : List Output). AreTold g.D.Desk.tells desk desk.side.slots [] outputs []) (sym c.in-Ok.ensures.items) tt;
      nothing = subst (λ (outputs : List Output). GathersNothing outputs) (sym c.in-Ok.ensures.items) (All-nil (λ (output : Output). output.gathered.items ≡ []));
      side = opened_none desk.side;
      inputs = refl;
      touches = touches-none g.D.Desk.tells (opening [] c.args.names.now) (state (g.D.Desk.reading c.args.desk.now) desk);
    }

pub returns-in-Err-clause-asked : goal.returns-in-Err-clause-asked
returns-in-Err-clause-asked g c =
    let names = c.args.names.now in
    let name = c.text.result.now in
    let i = c.names.name-index in
    let is : name ≡ get_or names i name = subst (λ (x : List ℕ). x ≡ get_or names i x) (sym c.text.ensures) c.name-item.is in
    asked_fault_out g.D.Desk.tells (state (g.D.Desk.reading c.args.desk.now) (g.D.Desk.writing c.args.desk.now)) (state (g.D.Desk.reading c.names.desk) (g.D.Desk.writing c.names.desk))
    (state (g.D.Desk.reading c.open_out.new.self) (g.D.Desk.writing c.open_out.new.self)) names i name c.in-Err.fault (omega arith) is c.names.invariant.side c.in-Err.ensures.opened
