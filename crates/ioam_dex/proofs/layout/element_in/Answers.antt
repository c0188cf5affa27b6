use Rattle.std.proofs.Common.{ℕ, List, sym, subst}
use Rattle.ioam_data.specs.Elements.{IsFilled}
use Rattle.ioam_dex.specs.Record.{element_of}
use Rattle.ioam_dex.proofs.RecordLaws.{at_places, element_at}
use Rattle.ioam_dex.proofs.layout.element_in.Goals as goal

pub returns-clause-filled : goal.returns-clause-filled
returns-clause-filled c =
    let octets = c.args.octets.now in
    let places = at_places octets c.requires.0 c.requires.1 in
    let element = element_at octets c.front_size-front.result c.front_size-front.ensures.value places.size in
    subst (λ (e : List ℕ). IsFilled c.at.result e) (sym element)
    (subst (λ (kind : ℕ). IsFilled kind (element_of octets)) (sym c.at.ensures) places.filled)
