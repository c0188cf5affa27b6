use Rattle.std.proofs.Common.{◌≡◌, ◌+◌, ◌-◌, Some, List, ℕ, length, drop, arith, sym, ap, ◌∙◌, subst, length-drop}
use Rattle.std.proofs.lemmas.List.{drop-drop, take_rest}
use Rattle.ioam_ng.specs.declared.option.OptionStep.TheVariants.{End, Past, Next}
use Rattle.ioam_ng.specs.Steps.{TellsOption}
use Rattle.ioam_ng.specs.Options.{item_size}
use Rattle.ioam_ng.proofs.OptionLaws.{Left, left_end, left_past, left_next}
use Rattle.ioam_ng.proofs.option.face_in.Goals as goal

pub returns-in-End : goal.returns-in-End
returns-in-End c =
    let octets = c.args.octets.now in
    let T : List ℕ → Type 0 = λ xs. TellsOption c.args.order c.options.found xs End in
    ap Some c.face.ensures ∙ sym (left_end c.args.order c.args.kind octets (length octets - c.options.step) (length octets - (c.options.step + 1)) (drop c.options.at octets) c.options.found (omega arith) c.options.invariant.1 (subst T (take_rest octets c.options.at) c.in-End.ensures))

pub returns-in-Past : goal.returns-in-Past
returns-in-Past c =
    let octets = c.args.octets.now in
    let T : List ℕ → Type 0 = λ xs. TellsOption c.args.order c.options.found xs Past in
    let e = subst T (take_rest octets c.options.at) c.in-Past.ensures in
    sym (left_past c.args.order c.args.kind octets (length octets - c.options.step) (length octets - (c.options.step + 1)) (drop c.options.at octets) c.options.found (omega arith) c.options.invariant.1 e.0 e.1)

pub options-preserved : goal.options-preserved
options-preserved c =
    let octets = c.args.octets.now in
    let at = c.options.at in
    let size = c.in-Next.size in
    let T : List ℕ → Type 0 = λ xs. TellsOption c.args.order c.options.found xs (Next c.in-Next.next size) in
    let e = subst T (take_rest octets at) c.in-Next.ensures in
    let left = left_next c.args.order c.args.kind octets (length octets - c.options.step) (length octets - (c.options.step + 1)) (drop at octets) c.options.found c.in-Next.next (omega arith) c.options.invariant.1 e.0 e.1 e.4 e.5 in
    let there : drop (item_size c.args.order (drop at octets)) (drop at octets) ≡ drop (at + size) octets =
    ap (λ n. drop n (drop at octets)) (sym e.2) ∙ drop-drop size at octets in
    let Q : List ℕ → Type 0 = λ xs. Left c.args.order c.args.kind octets (length octets - (c.options.step + 1)) xs c.in-Next.next in
    (omega (arith, e.3, length-drop at octets), subst Q there left)
