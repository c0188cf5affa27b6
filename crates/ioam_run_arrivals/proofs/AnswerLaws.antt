-- What was answered of a frame at its port.
use Rattle.std.proofs.Common.{◌≡◌, ℕ, ◌≤◌, Bool, List, length, Option, Some, None, IsSomeAnd, refl, sym, subst, ap, arith}
use Rattle.std.specs.Prelude.{⊤}
use Rattle.ioam_clock.specs.declared.sample.Sample.{Sample}
use Rattle.ioam_ip.specs.declared.layer.Layer.{Layer}
use Rattle.ioam_run_texts.specs.Framing.{Framing, Holds, NoIpv6, CutShort, TooShort, framing_of}
use Rattle.ioam_run_texts.proofs.WithinLaws.{Within, framing-within}
use Rattle.ioam_node.specs.Admission.{Admits, packet_of}
use Rattle.ioam_node.specs.declared.answer.Admit.{Admit}
use Rattle.ioam_node.specs.declared.answer.Admit.TheVariants as admit
use Rattle.ioam_node.specs.declared.reason.Reason.{Reason}
use Rattle.ioam_plan.specs.Plans.{PlansBy}
use Rattle.ioam_plan.specs.declared.itinerary.Itinerary.{Itinerary}
use Rattle.ioam_plan.specs.declared.itinerary.End.{End}
use Rattle.ioam_plan.specs.declared.itinerary.End.TheVariants.{Left, Drop}
use Rattle.ioam_topo.specs.declared.domain.Domain.{Domain}
use Rattle.ioam_topo.specs.declared.parts.Port.{Port}

admits-within : (domain : Domain) (node size : ℕ) (framing : Framing) (answer : Admit) → Within size framing → Admits domain node framing answer
    → length (packet_of answer) ≤ size
admits-within domain node size (Holds packet) (admit.Plain kept) few admits = omega (arith, few, ap length admits.0)
admits-within domain node size (Holds packet) (admit.Enclose flow kept limit) few admits = omega (arith, few, ap length admits.0)
admits-within domain node size (Holds packet) (admit.Drop reason) few admits = omega arith
admits-within domain node size NoIpv6 (admit.Plain kept) few admits = absurd admits
admits-within domain node size NoIpv6 (admit.Enclose flow kept limit) few admits = absurd admits
admits-within domain node size NoIpv6 (admit.Drop reason) few admits = omega arith
admits-within domain node size CutShort (admit.Plain kept) few admits = absurd admits
admits-within domain node size CutShort (admit.Enclose flow kept limit) few admits = absurd admits
admits-within domain node size CutShort (admit.Drop reason) few admits = omega arith
admits-within domain node size TooShort (admit.Plain kept) few admits = absurd admits
admits-within domain node size TooShort (admit.Enclose flow kept limit) few admits = absurd admits
admits-within domain node size TooShort (admit.Drop reason) few admits = omega arith

-- the packet that is taken in has no more octets than its frame
pub answer-within : (domain : Domain) (at : Option Port) (layer : Layer) (cut : Bool) (frame : List ℕ) (answer : Admit)
    → IsSomeAnd at (λ port. Admits domain port.node.0 (framing_of layer cut frame) answer) → length (packet_of answer) ≤ length frame
answer-within domain (Some port) layer cut frame answer admits =
    admits-within domain port.node.0 (length frame) (framing_of layer cut frame) answer (framing-within layer cut frame (length frame) (omega arith)) admits
answer-within domain None layer cut frame answer admits = absurd admits

-- what is dropped on arrival doesn't leave
abbrev pub DropsAlike : Admit → End → Type 0
DropsAlike (admit.Drop reason) (Drop cause node) = ⊤
DropsAlike (admit.Drop reason) (Left port) = ⊥
DropsAlike (admit.Plain kept) end = ⊤
DropsAlike (admit.Enclose flow kept limit) end = ⊤

drops_alike : (answer : Admit) (reason : Reason) (port : Port) (end : End) → answer ≡ admit.Drop reason → end ≡ Drop reason port.node → DropsAlike answer end
drops_alike answer reason port end is ends =
    let P : Admit → Type 0 = λ a. DropsAlike a end in
    let Q : End → Type 0 = λ e. DropsAlike (admit.Drop reason) e in
    subst P (sym is) (subst Q (sym ends) tt)

pub plan-drops : (domain : Domain) (readings : List (List Sample)) (earlier : List Itinerary) (at : Option Port) (time : ℕ) (answer : Admit) (it : Itinerary)
    → IsSomeAnd at (PlansBy domain readings earlier time it answer) → DropsAlike answer it.end
plan-drops domain readings earlier (Some port) time (admit.Plain kept) it plans = tt
plan-drops domain readings earlier (Some port) time (admit.Enclose flow kept limit) it plans = tt
plan-drops domain readings earlier (Some port) time (admit.Drop reason) it plans = drops_alike (admit.Drop reason) reason port it.end refl plans.ends
plan-drops domain readings earlier None time answer it plans = absurd plans
