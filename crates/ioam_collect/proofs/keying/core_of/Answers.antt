use Rattle.std.proofs.Common.{◌≡◌, ◌∙◌, List, ℕ, None, Option, Some, ap, arith, false, length, refl, subst, sym}
use Rattle.std.specs.Option.{is_some}
use Rattle.ioam_dex.specs.Record.{Rec, Record, record_octets}
use Rattle.ioam_dex.specs.RecordRef.{content, plain}
use Rattle.ioam_dex.proofs.RefLaws.{content-rec, plain-small}
use Rattle.ioam_collect.proofs.keying.core_of.Goals as goal

none_is : (visit : Option (ℕ × ℕ)) → false ≡ is_some visit → visit ≡ None
none_is None none = refl
none_is (Some visit) none = absurd (cc none)

-- a record that tells no visit is its version 1 record
plain_same : (x : Record) → false ≡ is_some x.visit → plain x ≡ x
plain_same x none = ap (λ (visit : Option (ℕ × ℕ)). record x { visit = visit }) (sym (none_is x.visit none))

pub returns-else-has_visit : goal.returns-else-has_visit
returns-else-has_visit c =
    let x = content c.args.export.now in
    let rec = content-rec c.args.export.now in
    let same = plain_same x c.if-has_visit.ensures.visit in
    let are : c.args.octets.now ≡ record_octets (plain x) = c.requires.octets ∙ rec.is ∙ ap record_octets (sym same) in
    record {
      are = are;
      says = subst (λ (o : List ℕ). Rec o (plain x)) (sym c.requires.octets) (subst (λ (y : Record). Rec c.args.export.now.octets.now y) (sym same) rec);
      size = omega (arith, ap length are, plain-small c.args.export.now.octets.now x rec);
    }
