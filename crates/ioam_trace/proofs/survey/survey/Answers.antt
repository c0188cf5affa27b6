use Rattle.std.proofs.Common.{◌≡◌, ℕ, ◌+◌, ◌*◌, List, length, take, drop, arith, ap, sym, subst, ◌∙◌, if◌then◌else◌}
use Rattle.std.proofs.lemmas.List.{take_rest}
use Rattle.ioam_trace.specs.Area.{Stops}
use Rattle.ioam_trace.specs.Head.{remaining_of}
use Rattle.ioam_trace.specs.Read.{used_behind}
use Rattle.ioam_trace.proofs.ReadLaws.{Carries-Stops}
use Rattle.ioam_trace.proofs.survey.survey.Goals as goal

pub returns : goal.returns
returns c =
    let octets = c.args.octets.now in
    let head = c.read-head.result in
    let free = if c.args.is_incremental then 0 else remaining_of octets in
    let is_free : c.from.result ≡ free = c.from.ensures ∙ c.free_words-free.ensures ∙ ap (λ n. if c.args.is_incremental then 0 else n) c.read-head.ensures.remaining in
    let used : take _ (drop (8 + 4 * c.from.result) octets) ≡ used_behind free octets =
    take_rest octets (8 + 4 * c.from.result) ∙ ap (λ n. drop (8 + 4 * n) octets) is_free in
    let P : List ℕ → Type 0 = λ xs. Stops head.kind head.node_len xs c.end_of.result in
    Carries-Stops free octets head c.end_of.result (omega arith) c.read-head.ensures (sym c.fits.ensures.value ∙ c.if-not-fits.false)
    (omega arith) (subst P used c.end_of.ensures.stops) (omega arith) (omega (arith, ap length used))
