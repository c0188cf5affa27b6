use Rattle.std.proofs.Common.{ap, ◌∙◌, nat_eq, map}
use Rattle.std.specs.List.{position}
use Rattle.ioam_topo.specs.Keyed.{address_of_node, key_of_route, key_of_data, is_route, is_pair}
use Rattle.ioam_topo.proofs.domain.Domain.new.Goals as goal

pub invariant_of-result-clause-addresses : goal.invariant_of-result-clause-addresses
invariant_of-result-clause-addresses c key = c.in_ok-by_address.ensures key
    ∙ ap (position (nat_eq key)) (c.deref-2.ensures.value ∙ c.in_ok-addresses_of.ensures ∙ ap (map address_of_node) c.deref.ensures.value)

pub invariant_of-result-clause-prefixes : goal.invariant_of-result-clause-prefixes
invariant_of-result-clause-prefixes c key = c.in_ok-by_prefix.ensures key
    ∙ ap (position (is_route key.0 key.1)) (c.deref-4.ensures.value ∙ c.in_ok-prefixes_of.ensures ∙ ap (map key_of_route) c.deref-3.ensures.value)

pub invariant_of-result-clause-namespaces : goal.invariant_of-result-clause-namespaces
invariant_of-result-clause-namespaces c key = c.in_ok-by_namespace.ensures key
    ∙ ap (position (is_pair key.0 key.1)) (c.deref-6.ensures.value ∙ c.in_ok-namespaces_of.ensures ∙ ap (map key_of_data) c.deref-5.ensures.value)
