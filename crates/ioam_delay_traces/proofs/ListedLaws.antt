-- The traces that are counted are those that `paths` lists.
use Rattle.std.proofs.Common.{◌≡◌, ℕ, ◌/◌, List, [], ◌∷◌, map, drop, Some, refl, sym, ap, subst, arith}
use Rattle.std.specs.Prelude.{◌==◌}
use Rattle.std.specs.List.{AllZip}
use Rattle.ioam_delay_traces.specs.Listed.{IsCounted, ListedAs, ShowsListed}
use Rattle.ioam_delay_traces.specs.Shown.{limit_of, option_course, shown_of}
use Rattle.ioam_delay_traces.specs.Traces.{course_by, course_of, sights_of}
use Rattle.ioam_delay_traces.proofs.TraceLaws.{course_is}
use Rattle.ioam_ip.specs.Chain.{IsSound}
use Rattle.ioam_ip.specs.Options.{Item}
use Rattle.ioam_report_lines.specs.TracesText.{traces_of}
use Rattle.ioam_report_lines.proofs.LinesLaws.{IsTraceText-trace_lines}
use Rattle.ioam_report_lines.proofs.TracesLaws.{AreTraces-traces_of, AreTraces-unique}
use Rattle.ioam_trace.specs.Head.{overflow_of, remaining_of}
use Rattle.ioam_trace.specs.Read.{Carries, TraceOf}
use Rattle.ioam_trace.specs.declared.head.TraceHead.{TraceHead}
use Rattle.ioam_trace.proofs.ReadLaws.{elements_behind-Carries, fault_of-Carries, fault_of-HasFault}

module _ (units limit : ℕ) where
  whole_is : (octets : List ℕ) (head : TraceHead) (elements : List (List ℕ)) → TraceOf octets head elements
      → course_of units limit octets ≡ Some (record { namespace = head.namespace.0; overflow = head.flags / 8 == 1; limit = limit; sights = sights_of units head.kind head.node_len elements })
  whole_is octets head elements trace =
      let P : ℕ → Type 0 = λ free. Carries free octets head elements in
      let carries : Carries (remaining_of octets) octets head elements = subst P trace.is_head.remaining trace in
      let overflow : head.flags / 8 ≡ overflow_of octets = omega (arith, trace.is_head.flags) in
      course_is units limit octets head elements _ _ (sym (fault_of-Carries (remaining_of octets) octets head elements carries)) trace.is_head
      (sym (elements_behind-Carries (remaining_of octets) octets head elements carries)) (ap (λ (n : ℕ). n == 1) overflow) refl

  counted_is : (octets : List ℕ) → IsCounted units limit octets (course_of units limit octets)
  counted_is octets = record {
    whole = whole_is octets;
    bad = λ fault has. ap (course_by units limit octets) (fault_of-HasFault (remaining_of octets) octets fault has);
  }

  each_listed : (items : List Item) → AllZip (ListedAs units limit) items (map (option_course units limit) items)
  each_listed [] = tt
  each_listed (item ∷ items) = ((IsTraceText-trace_lines (drop 2 item.body), counted_is (drop 2 item.body)), each_listed items)

pub shows_listed : (units : ℕ) (p : List ℕ) → IsSound p → ShowsListed units p
shows_listed units p sound = λ text told. record {
  traces = told.traces;
  are_traces = told.are_traces;
  text_is = told.text_is;
  counted = subst (λ (items : List Item). AllZip (ListedAs units (limit_of p)) items (shown_of units p))
      (AreTraces-unique p (traces_of p) told.traces (AreTraces-traces_of p sound) told.are_traces) (each_listed units (limit_of p) (traces_of p));
}
