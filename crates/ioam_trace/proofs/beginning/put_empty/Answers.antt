use Rattle.std.proofs.Common.{ℕ, List, ◌+◌, ◌*◌, ap, ◌∙◌, ◌++◌, take, replicate, refl, arith, is_ok, if◌then◌else◌}
use Rattle.ioam_base.specs.Octets.{written}
use Rattle.ioam_trace.specs.Data.{head_octets}
use Rattle.ioam_trace.proofs.DataLaws.{written-zeros}
use Rattle.ioam_trace.proofs.beginning.put_empty.Goals as goal

pub returns : goal.returns
returns c =
    let head = head_octets c.args.head.now in
    let words = c.args.words in
    let made = c.put_at.ensures ∙ ap (λ (xs : List ℕ). written (replicate 252 0) 0 xs) (c.octets.ensures ∙ c.in_octets.ensures) in
    let cut = ap (λ n. take (8 + 4 * n) c.put_at.new.octets) c.from.ensures
    ∙ ap (λ xs. take (8 + 4 * words) xs) made ∙ written-zeros head words refl (omega arith) in
    c.append.ensures
    ∙ ap (λ xs. if is_ok c.append.result then c.args.out.now.items ++ xs else c.args.out.now.items) cut
