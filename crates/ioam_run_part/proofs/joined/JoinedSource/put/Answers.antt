use Rattle.std.proofs.Common.{◌++◌, IfOk, ℕ, List, Option, None, ap, ◌∙◌, sym, subst}
use Rattle.ioam_run_part.proofs.JoinedLaws.{Left, Says, head_put, joined, puts_so}
use Rattle.ioam_run_part.specs.Telling.{Puts, PutsPart}
use Rattle.ioam_run_part.proofs.joined.JoinedSource.put.Goals as goal

pub returns-in_ok-append-in-Some : goal.returns-in_ok-append-in-Some
returns-in_ok-append-in-Some c =
    let walk = c.args.self.now.walk in
    let P : Option ℕ → Type 0 = λ count. PutsPart Says Left (joined count walk) (joined None walk) c.args.out.now.items c.append.new.out.items in
    subst P (sym c.in-Some.is) (head_put c.in-Some.count walk c.args.out.now.items c.append.new.out.items
    (c.in_ok-append-in-Some.ensures ∙ ap (λ (o : List ℕ). c.args.out.now.items ++ o) (c.octets.ensures ∙ c.head_of.ensures)))

pub returns-in-None : goal.returns-in-None
returns-in-None c =
    let old = c.args.self.now.walk in
    let new = c.put_records.new.walk in
    let P : Option ℕ → Type 0 = λ count. IfOk c.put_records.result (Puts Says Left (joined count old) (joined count new) c.args.out.now.items c.put_records.new.out.items) in
    subst P (sym c.in-None.is) (puts_so old new c.args.out.now.items c.put_records.new.out.items c.put_records.result c.put_records.ensures)
