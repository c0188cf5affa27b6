-- What no two of a domain's nodes, links, ports or flows share.
use Rattle.std.specs.Prelude.{◌≡◌, ℕ, List, Some, slice_get}
use Rattle.ioam_topo.specs.declared.parts.Node.{Node}
use Rattle.ioam_topo.specs.declared.parts.Flow.{Flow}

-- no two have one key: where two keys are equal, the places are
abbrev pub AreApart : {A K : Type 0} → (A → K) → List A → Type 0
AreApart {A} key xs = (i j : ℕ) (x y : A) → slice_get xs i ≡ Some x → slice_get xs j ≡ Some y → key x ≡ key y → i ≡ j

-- no two nodes have one name, one id or one address
pub record NodesApart (nodes : List Node) : Type 0 where
  pub names : AreApart (λ n. n.name) nodes
  pub ids : AreApart (λ n. n.id) nodes
  pub addresses : AreApart (λ n. n.address) nodes

-- no two flows have one name, and no two flows of one namespace have one id in direct exports
pub record FlowsApart (flows : List Flow) : Type 0 where
  pub names : AreApart (λ f. f.name) flows
  pub ids : (i j : ℕ) (f g : Flow) (id : ℕ) → slice_get flows i ≡ Some f → slice_get flows j ≡ Some g → f.flow_id ≡ Some id → g.flow_id ≡ Some id
      → f.namespace.0 ≡ g.namespace.0 → i ≡ j
