use Rattle.std.proofs.Common.{◌<◌, length, IfSome, sym, subst, ◌∙◌, Option, ℕ}
use Rattle.ioam_topo.specs.Domain.{routes}
use Rattle.ioam_topo.specs.Keyed.{is_route, key_of_route}
use Rattle.ioam_topo.proofs.PlacesLaws.{place_within}
use Rattle.ioam_topo.proofs.domain.Domain.place_of_route.Goals as goal

pub returns-clause-value : goal.returns-clause-value
returns-clause-value c = c.copied.ensures ∙ c.get.ensures.value ∙ c.args.self.now.prefixes (c.args.node.0, c.args.prefix)

pub returns-clause-within : goal.returns-clause-within
returns-clause-within c =
    let P : Option ℕ → Type 0 = λ o. IfSome o (λ at. at < length (routes c.args.self.now)) in
    subst P (sym (returns-clause-value c)) (place_within (is_route c.args.node.0 c.args.prefix) key_of_route (routes c.args.self.now))
