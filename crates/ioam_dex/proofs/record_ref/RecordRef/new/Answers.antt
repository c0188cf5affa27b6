use Rattle.std.proofs.Common.{arith}
use Rattle.std.proofs.lemmas.Grind.{merely}
use Rattle.ioam_dex.proofs.RecordLaws.{at_places}
use Rattle.ioam_dex.proofs.RefLaws.{Rec-at, Rec-short, content-is}
use Rattle.ioam_dex.proofs.record_ref.RecordRef.new.Goals as goal

pub invariant_of-result : goal.invariant_of-result
invariant_of-result c =
    let octets = c.args.octets.now in
    let places = at_places octets c.requires.0 c.requires.1 in
    record {
      whole = merely (Rec-at octets c.requires.0 (λ i. omega (arith, c.type_inv.octets i)) c.requires.1);
      front = places.front;
      size = places.size;
      short = Rec-short octets c.requires.0 c.requires.1;
    }

pub returns-clause-says : goal.returns-clause-says
returns-clause-says c = λ x rec. content-is _ x rec
