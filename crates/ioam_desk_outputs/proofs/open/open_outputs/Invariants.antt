use Rattle.std.proofs.Common.{◌≡◌, [], take}
use Rattle.ioam_desk.specs.Desk.{opened_each}
use Rattle.ioam_desk.specs.Touches.{Touches, state, Quiet, opening}
use Rattle.ioam_desk_outputs.specs.Told.{AreTold, GathersNothing, unsaid}
use Rattle.ioam_desk_outputs.proofs.open.open_outputs.Given as goal

-- the outputs so far are open, and nothing was said to them
abbrev pub invariant-names : goal.invariant-names
invariant-names g l = record {
  told : AreTold g.D.Desk.tells (g.D.Desk.writing l.desk) (g.D.Desk.writing l.initial.desk).side.slots (take l.name-index l.names) l.outputs.items (unsaid (take l.name-index l.names));
  nothing : GathersNothing l.outputs.items;
  side : (g.D.Desk.writing l.desk).side ≡ opened_each (g.D.Desk.writing l.initial.desk).side (take l.name-index l.names);
  inputs : g.D.Desk.reading l.desk ≡ g.D.Desk.reading l.initial.desk;
  touches : Touches g.D.Desk.tells (opening [] l.names) Quiet (state (g.D.Desk.reading l.initial.desk) (g.D.Desk.writing l.initial.desk))
      (state (g.D.Desk.reading l.desk) (g.D.Desk.writing l.desk));
}
