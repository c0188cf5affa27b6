use Rattle.std.proofs.Common.{◌++◌, List, ℕ, sym, ap, ◌∙◌, subst}
use Rattle.ioam_part.specs.Reading as part
use Rattle.ioam_part_merge.specs.Keeping.{Keeping, Keeps}
use Rattle.ioam_part_merge.proofs.keeper.PartKeeper.feed.Goals as goal

pub returns : goal.returns
returns c = record {
  keeps = λ octets keeps.
      let inside : Keeping = record { reader = c.self.inside.reader; octets = c.self.inside.octets.items } in
      let was : Keeps octets inside = subst (Keeps octets) (sym c.self.view_is) keeps in
      record { stands = c.in_ok-feed.ensures.stands 0 octets was.stands; kept = c.in_ok-append.ensures ∙ ap (λ (o : List ℕ). o ++ c.args.piece.now) was.kept };
}

pub invariant_of-result : goal.invariant_of-result
invariant_of-result c =
    subst (λ (o : List ℕ). part.Stands 0 o c.in_ok-feed.field-0) (sym c.in_ok-append.ensures) (c.in_ok-feed.ensures.stands 0 c.self.inside.octets.items c.self.invariant)
