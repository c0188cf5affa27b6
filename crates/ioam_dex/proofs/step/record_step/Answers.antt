use Rattle.std.proofs.Common.{◌≡◌, ◌-◌, List, ℕ, take, drop, ap, ◌∙◌, subst, arith}
use Rattle.ioam_data.specs.Elements.{IsFilled}
use Rattle.ioam_dex.specs.Record.{length_of, element_of, kind_of}
use Rattle.ioam_dex.specs.Faults.{said}
use Rattle.ioam_dex.proofs.FaultLaws.{IsWhole}
use Rattle.ioam_dex.proofs.RecordLaws.{step-whole}
use Rattle.ioam_dex.proofs.step.record_step.Goals as goal

pub returns-then-is_filled : goal.returns-then-is_filled
returns-then-is_filled c =
    let octets = c.args.octets.now in
    let told = c.in-Sized.ensures in
    let filled = c.is_filled.ensures.0 c.if-is_filled.true in
    let element : take (c.in-Sized.size - c.in-Sized.front) (drop c.in-Sized.front octets) ≡ element_of octets =
    ap (λ n. take (n - c.in-Sized.front) (drop c.in-Sized.front octets)) told.2
    ∙ ap (λ n. take (length_of octets - n) (drop n octets)) told.1 in
    let P : ℕ → Type 0 = λ k. IsFilled k (take (c.in-Sized.size - c.in-Sized.front) (drop c.in-Sized.front octets)) in
    let Q : List ℕ → Type 0 = λ e. IsFilled (kind_of octets) e in
    let whole : IsWhole octets = record {
      sized = told.0;
      there = omega (arith, told.2);
      filled = subst Q element (subst P c.at.ensures filled);
    } in
    let found = step-whole octets (λ i. omega (arith, c.type_inv.octets i)) whole (said c.head.result (element_of octets)) c.head.ensures.says
    c.head.result.size (c.head.ensures.size ∙ told.2) in
    (c.head.ensures.front ∙ told.1, found.0, found.1, found.2)
