use Rattle.std.proofs.Common.{◌∷◌, [], List, ℤ, Option, sym, subst, arith, length-append}
use Rattle.ioam_delay_counts.specs.Tallies.{CountsAll, somes}
use Rattle.ioam_delay_counts.proofs.CountLaws.{kept_few, kept_more}
use Rattle.ioam_delay_counts.proofs.passed.PassedTally.add.Goals as goal

pub returns : goal.returns
returns c = λ items short is.
    let P : List ℤ → Type 0 = λ delays. CountsAll delays c.put_some.new.delays in
    record {
      count_is = omega (arith, c.saturating_add-self.ensures, is.count_is, short, length-append items (c.args.item ∷ []));
      delays_are = subst P (sym (kept_more (λ (item : Option ℤ). item) items c.args.item))
          (c.in_ok-put_some.ensures (somes items) (omega (arith, short, kept_few (λ (item : Option ℤ). item) items)) is.delays_are);
    }
