-- What an iterator over elements has left.
use Rattle.std.specs.Prelude.{ℕ, List}
use Rattle.ioam_trace.specs.Area.{elements_of}
use Rattle.ioam_trace.specs.declared.elements.Elements.{Elements}

-- the elements to come, in visit order
abbrev pub left : Elements → List (List ℕ)
left elements = elements_of elements.kind elements.node_len elements.used.now
