use Rattle.std.proofs.Common.{refl}
use Rattle.ioam_run_audit.proofs.CursorLaws.{fed_of, on_ok_two}
use Rattle.ioam_run_audit.proofs.cursor.Cursor.feed.Goals as goal

pub returns : goal.returns
returns c = on_ok_two c.feed.result (λ fed stands. fed_of c.args.self.now _ c.args.octets.now refl refl refl refl fed stands) c.feed.ensures.ok c.feed.ensures.stands
