use Rattle.std.proofs.Common.{◌≡◌, ℕ, List, refl, ◌∙◌, subst, inr, arith}
use Rattle.ioam_desk_outputs.specs.Names.{AreApart, IsFirstRepeat}
use Rattle.ioam_run_domain.specs.Promise.{run_files}
use Rattle.ioam_run_domain.proofs.WordsLaws.{taken_name}
use Rattle.ioam_desk.proofs.KeptLaws.{KeepsOutputs-same}
use Rattle.ioam_run_domain.proofs.domain_run.run_set.Goals as goal

pub returns-in-Some-clause-ends : goal.returns-in-Some-clause-ends
returns-in-Some-clause-ends g c =
    let files = c.args.files.now in
    let lent : c.deref.result.now ≡ run_files files c.args.domain.now = c.deref.ensures.value ∙ c.in-Ok.ensures in
    let P : List (List ℕ) → Type 0 = λ names. IsFirstRepeat names c.in-Some.at in
    let first : IsFirstRepeat (run_files files c.args.domain.now) c.in-Some.at = subst P lent c.in-Some.ensures in (
      (c.in-Some.at, first, taken_name (run_files files c.args.domain.now) c.in-Ok.names.items c.in-Some.at c.swap_remove.result c.in-Ok.ensures c.swap_remove.ensures.value first.inside),
      refl,
      refl,
    )

pub run_apart-requires-clause-apart : goal.run_apart-requires-clause-apart
run_apart-requires-clause-apart g c κs within =
    let files = c.args.files.now in
    let lent : c.deref.result.now ≡ run_files files c.args.domain.now = c.deref.ensures.value ∙ c.in-Ok.ensures in
    subst AreApart lent c.in-None.ensures

pub returns-clause-asked_in : goal.returns-clause-asked_in
returns-clause-asked_in g c =
    let files = c.args.files.now in
    let lent : c.deref.result.now ≡ run_files files c.args.domain.now = c.deref.ensures.value ∙ c.in-Ok.ensures in
    inr (subst AreApart lent c.in-None.ensures, c.run_apart.ensures.asked_in)

pub returns-clause-asked_out : goal.returns-clause-asked_out
returns-clause-asked_out g c =
    let files = c.args.files.now in
    let lent : c.deref.result.now ≡ run_files files c.args.domain.now = c.deref.ensures.value ∙ c.in-Ok.ensures in
    inr (subst AreApart lent c.in-None.ensures, c.run_apart.ensures.asked_out)

pub returns-clause-all_out : goal.returns-clause-all_out
returns-clause-all_out g c = λ all.
    let files = c.args.files.now in
    let lent : c.deref.result.now ≡ run_files files c.args.domain.now = c.deref.ensures.value ∙ c.in-Ok.ensures in
    (subst AreApart lent c.in-None.ensures, c.run_apart.ensures.all_out all)

pub returns-in_default-clause-kept_out : goal.returns-in_default-clause-kept_out
returns-in_default-clause-kept_out g c = λ told. KeepsOutputs-same (g.D.Desk.writing c.args.desk.now) _ refl

pub returns-in-Some-clause-kept_out : goal.returns-in-Some-clause-kept_out
returns-in-Some-clause-kept_out g c = λ told. KeepsOutputs-same (g.D.Desk.writing c.args.desk.now) _ refl

pub returns-in_default-clause-unread : goal.returns-in_default-clause-unread
returns-in_default-clause-unread g c = λ told few k below. absurd (omega (arith, below))

pub returns-in-Some-clause-unread : goal.returns-in-Some-clause-unread
returns-in-Some-clause-unread g c = λ told few k below. absurd (omega (arith, below))
