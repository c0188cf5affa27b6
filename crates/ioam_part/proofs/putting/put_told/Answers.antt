use Rattle.std.proofs.Common.{◌≡◌, ◌++◌, if◌then◌else◌, ℕ, List, Ok, Err, length, take, refl, ap, ◌∙◌}
use Rattle.std.specs.Prelude.{Result, OnErr, is_ok}
use Rattle.std.proofs.lemmas.List.{take_at}
use Rattle.ioam_part.proofs.putting.put_told.Goals as goal

-- where no memory is left for what stands behind, the octets from before are still in front
kept : {E U : Type 0} (r : Result U E) (old front back mid new : List ℕ) → mid ≡ old ++ front → new ≡ (if is_ok r then mid ++ back else mid)
    → OnErr r (take (length old) new ≡ old)
kept (Ok x) old front back mid new is so = tt
kept (Err e) old front back mid new is so = ap (take (length old)) (so ∙ is) ∙ take_at old front (length old) refl

pub returns-clause-kept : goal.returns-clause-kept
returns-clause-kept c = kept c.append-5.result c.args.out.now.items c.octets.result.now _ c.append-4.new.out.items c.append-5.new.out.items
    c.in_ok-append.ensures c.append-5.ensures
