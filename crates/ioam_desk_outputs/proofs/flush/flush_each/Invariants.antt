use Rattle.std.proofs.Common.{◌≡◌, ◌<◌, ℕ, List, All, take, length}
use Rattle.ioam_desk.specs.Touches.{Touches, state, Quiet, writes_from}
use Rattle.ioam_desk_outputs.specs.Flush.{KeepsTold}
use Rattle.ioam_desk_outputs.specs.Told.{AreOpen, AreTold}
use Rattle.ioam_desk_outputs.specs.declared.output.Output.{Output}
use Rattle.ioam_desk_outputs.proofs.FlushLaws.{AreKept}
use Rattle.ioam_desk_outputs.proofs.flush.flush_each.Given as goal

-- what was said is still said, and the outputs so far have too little to be written
abbrev pub invariant-outputs : goal.invariant-outputs
invariant-outputs g l = record {
  told : KeepsTold g.D.Desk.tells (g.D.Desk.writing l.initial.desk) (g.D.Desk.writing l.desk) l.initial.outputs l.outputs;
  kept : AreKept l.least (g.D.Desk.writing l.initial.desk) (g.D.Desk.writing l.desk) l.initial.outputs l.outputs l.output-index;
  are_open : AreOpen (g.D.Desk.writing l.desk) l.outputs;
  few : All (λ (output : Output). length output.gathered.items < l.least) (take l.output-index l.outputs);
  inputs : g.D.Desk.reading l.desk ≡ g.D.Desk.reading l.initial.desk;
  touches : (slot : ℕ) (names texts : List (List ℕ)) → AreTold g.D.Desk.tells (g.D.Desk.writing l.initial.desk) slot names l.initial.outputs texts
      → Touches g.D.Desk.tells (writes_from slot) Quiet (state (g.D.Desk.reading l.initial.desk) (g.D.Desk.writing l.initial.desk)) (state (g.D.Desk.reading l.desk) (g.D.Desk.writing l.desk));
}
