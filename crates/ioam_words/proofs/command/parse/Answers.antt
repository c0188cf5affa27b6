use Rattle.std.proofs.Common.{Option, Some, None, MatchOption, sym, ◌∙◌, subst}
use Rattle.ioam_words.specs.Words.{IsForm, IsNoForm, row_of}
use Rattle.ioam_words.specs.declared.command.Command.{Command}
use Rattle.ioam_words.proofs.WordsLaws.{by_row, form_found, no_count, no_name, row_count}
use Rattle.ioam_words.proofs.command.parse.Goals as goal

pub returns-in_err-form : goal.returns-in_err-form
returns-in_err-form c =
    let words = c.args.words.now in
    let found = form_found words c.text.result.now c.forms.result.now None _ c.text.ensures c.in_ok-name.ensures.value c.forms.ensures c.in_err-form.ensures in
    subst (λ (answer : Option Command). MatchOption answer (IsNoForm words) (λ command. IsForm command words)) (sym c.from_residual-in_err-form.ensures)
    (no_name words found)

pub returns-then-words-form : goal.returns-then-words-form
returns-then-words-form c =
    let words = c.args.words.now in
    let found = form_found words c.text.result.now c.forms.result.now (Some c.in_ok-form.form.now) _ c.text.ensures c.in_ok-name.ensures.value c.forms.ensures
    c.in_ok-form.ensures in
    no_count words (row_of c.in_ok-form.form.now) found c.if-words-form.true

pub command_of-requires : goal.command_of-requires
command_of-requires c =
    let words = c.args.words.now in
    let found = form_found words c.text.result.now c.forms.result.now (Some c.in_ok-form.form.now) _ c.text.ensures c.in_ok-name.ensures.value c.forms.ensures
    c.in_ok-form.ensures in
    c.if-words-form.false ∙ row_count words (row_of c.in_ok-form.form.now) found

pub returns : goal.returns
returns c =
    let words = c.args.words.now in
    let found = form_found words c.text.result.now c.forms.result.now (Some c.in_ok-form.form.now) _ c.text.ensures c.in_ok-name.ensures.value c.forms.ensures
    c.in_ok-form.ensures in
    by_row words (row_of c.in_ok-form.form.now) found c.command_of.result c.if-words-form.false c.command_of.ensures
