-- What a trace says, element by element.
use Rattle.std.proofs.Common.{◌≡◌, ℕ, Bool, Option, Some, None, List, [], ◌∷◌, ◌++◌, sym, ◌∙◌, ap, append_assoc}
use Rattle.std.specs.Prelude.{◌==◌}
use Rattle.ioam_base.specs.Octets.{u16_at}
use Rattle.ioam_data.specs.Fields.{fields_of}
use Rattle.ioam_delay_counts.specs.Courses.{Course}
use Rattle.ioam_delays.specs.Sights.{sight_of}
use Rattle.ioam_delays.specs.declared.sight.Sight.{Sight}
use Rattle.ioam_trace.specs.Head.{kind_of, node_len_of, overflow_of, remaining_of}
use Rattle.ioam_trace.specs.Read.{IsHead, elements_behind, fault_of}
use Rattle.ioam_trace.specs.declared.head.TraceHead.{TraceHead}
use Rattle.ioam_delay_traces.specs.Traces.{course_by, course_of, sights_of}

-- one element more is read
pub sight_more : (units kind node_len : ℕ) (ss new whole : List Sight) (all rest : List (List ℕ)) (e : List ℕ) (r : Sight) → all ≡ e ∷ rest → new ≡ ss ++ r ∷ []
    → r ≡ sight_of units (fields_of kind node_len e) → ss ++ sights_of units kind node_len all ≡ whole → new ++ sights_of units kind node_len rest ≡ whole
sight_more units kind node_len ss new whole all rest e r all_is new_is r_is lead =
    ap (λ (xs : List Sight). xs ++ sights_of units kind node_len rest) new_is ∙ append_assoc ss (r ∷ []) (sights_of units kind node_len rest)
    ∙ ap (λ (s : Sight). ss ++ (s ∷ sights_of units kind node_len rest)) r_is ∙ ap (λ (es : List (List ℕ)). ss ++ sights_of units kind node_len es) (sym all_is) ∙ lead

abbrev whole : ℕ → ℕ → Bool → List Sight → Option Course
whole limit namespace overflow sights = Some (record { namespace = namespace; overflow = overflow; limit = limit; sights = sights })

-- the trace that octets without a fault are, by what was read of them
pub course_is : (units limit : ℕ) (octets : List ℕ) (head : TraceHead) (elements : List (List ℕ)) (b : Bool) (sights : List Sight) → None ≡ fault_of (remaining_of octets) octets
    → IsHead octets head → elements ≡ elements_behind (remaining_of octets) octets → b ≡ (overflow_of octets == 1) → sights ≡ sights_of units head.kind head.node_len elements
    → course_of units limit octets ≡ Some (record { namespace = head.namespace.0; overflow = b; limit = limit; sights = sights })
course_is units limit octets head elements b sights none is_head elements_are b_is sights_are =
    ap (course_by units limit octets) (sym none) ∙ ap (whole limit (u16_at octets 0) (overflow_of octets == 1)) (sym all_are)
    ∙ ap (λ (n : ℕ). whole limit n (overflow_of octets == 1) sights) (sym is_head.namespace) ∙ ap (λ (t : Bool). whole limit head.namespace.0 t sights) (sym b_is) where
      all_are : sights ≡ sights_of units (kind_of octets) (node_len_of octets) (elements_behind (remaining_of octets) octets)
      all_are = sights_are ∙ ap (sights_of units head.kind head.node_len) elements_are
          ∙ ap (λ (k : ℕ). sights_of units k head.node_len (elements_behind (remaining_of octets) octets)) is_head.kind
          ∙ ap (λ (n : ℕ). sights_of units (kind_of octets) n (elements_behind (remaining_of octets) octets)) is_head.node_len
