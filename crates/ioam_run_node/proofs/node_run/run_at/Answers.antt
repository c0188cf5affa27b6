use Rattle.std.proofs.Common.{◌≡◌, ℕ, List, refl, ◌∙◌, subst, inl, inr}
use Rattle.ioam_desk.proofs.AskedLaws.{HaveSlots-still}
use Rattle.ioam_desk_outputs.specs.Names.{AreApart, IsFirstRepeat}
use Rattle.ioam_run_node.specs.Ends.{IsTwice}
use Rattle.ioam_run_node.specs.Promise.{node_files}
use Rattle.ioam_run_node.specs.Seat.{seat_at}
use Rattle.ioam_run_node.proofs.EndsLaws.{stays_file, stays_none, taken_name}
use Rattle.ioam_run_stream.proofs.FailuresLaws.{failures-none}
use Rattle.ioam_run_node.proofs.node_run.run_at.Goals as goal

pub returns-in_default : goal.returns-in_default
returns-in_default g c =
    let reading = g.D.Desk.reading c.args.desk.now in
    let writing = g.D.Desk.writing c.args.desk.now in
    record {
      ends = inl (stays_none g.D.Desk.tells c.args.files.now reading writing (IsTwice g.D.Desk.tells c.args.files.now reading reading writing writing));
      failures = failures-none g.D.Desk.tells reading reading writing writing (HaveSlots-still reading.side reading.side refl) _ refl refl;
    }

pub returns-in-Some : goal.returns-in-Some
returns-in-Some g c =
    let files = c.args.files.now in
    let lent : c.deref.result.now ≡ node_files files = c.deref.ensures.value ∙ c.in-Ok.ensures in
    let P : List (List ℕ) → Type 0 = λ names. IsFirstRepeat names c.in-Some.at in
    let first : IsFirstRepeat (node_files files) c.in-Some.at = subst P lent c.in-Some.ensures in
    record {
      ends = stays_file g.D.Desk.tells files (g.D.Desk.reading c.args.desk.now) (g.D.Desk.writing c.args.desk.now)
          (seat_at c.args.setting.now.domain c.args.setting.now.readings c.args.node c.args.inward) (node_files files) c.in-Some.at c.swap_remove.result refl first
          (taken_name (node_files files) c.in-Ok.names.items c.in-Some.at c.swap_remove.result c.in-Ok.ensures c.swap_remove.ensures.value first.inside);
      failures = failures-none g.D.Desk.tells (g.D.Desk.reading c.args.desk.now) _ (g.D.Desk.writing c.args.desk.now) _
          (HaveSlots-still (g.D.Desk.reading c.args.desk.now).side _ refl) _ refl refl;
    }

pub run_apart-requires-clause-apart : goal.run_apart-requires-clause-apart
run_apart-requires-clause-apart g c =
    let lent : c.deref.result.now ≡ node_files c.args.files.now = c.deref.ensures.value ∙ c.in-Ok.ensures in
    subst AreApart lent c.in-None.ensures

pub returns : goal.returns
returns g c = record { ends = inr c.run_apart.ensures.ran; failures = c.run_apart.ensures.failures }
