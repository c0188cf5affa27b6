use Rattle.std.proofs.Common.{◌<◌, length, IfSome, sym, subst, ◌∙◌, Option, ℕ}
use Rattle.ioam_topo.specs.Domain.{node_data}
use Rattle.ioam_topo.specs.Keyed.{is_pair, key_of_data}
use Rattle.ioam_topo.proofs.PlacesLaws.{place_within}
use Rattle.ioam_topo.proofs.domain.Domain.place_in_table.Goals as goal

pub returns-clause-value : goal.returns-clause-value
returns-clause-value c = c.copied.ensures ∙ c.get.ensures.value ∙ c.args.self.now.namespaces (c.args.node.0, c.args.namespace.0)

pub returns-clause-within : goal.returns-clause-within
returns-clause-within c =
    let P : Option ℕ → Type 0 = λ o. IfSome o (λ at. at < length (node_data c.args.self.now)) in
    subst P (sym (returns-clause-value c)) (place_within (is_pair c.args.node.0 c.args.namespace.0) key_of_data (node_data c.args.self.now))
