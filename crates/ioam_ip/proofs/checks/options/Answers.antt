use Rattle.std.proofs.Common.{List, subst, sym}
use Rattle.ioam_ip.specs.OptionList.{HoldsOptions, OnlyOptions}
use Rattle.ioam_ip.specs.Options.{Item, AreOptions}
use Rattle.ioam_ip.proofs.OptionListLaws.{HoldsOptions-AreOptions, OnlyOptions-AreOptions}
use Rattle.ioam_ip.proofs.OptionsLeftLaws.{all_from}
use Rattle.ioam_ip.proofs.checks.options.Goals as goal

pub returns-clause-options : goal.returns-clause-options
returns-clause-options c =
    let P : List Item → Type 0 = λ os. AreOptions c.args.head.now os in
    subst P (sym (all_from c.args.head.now c.requires.0 c.requires.1)) c.requires.1

pub returns-clause-held : goal.returns-clause-held
returns-clause-held c =
    let P : List Item → Type 0 = λ os. HoldsOptions c.args.head.now os in
    subst P (sym (all_from c.args.head.now c.requires.0 c.requires.1)) (HoldsOptions-AreOptions c.args.head.now c.requires.0 c.requires.1)

pub returns-clause-only : goal.returns-clause-only
returns-clause-only c =
    let P : List Item → Type 0 = λ os. OnlyOptions c.args.head.now os in
    subst P (sym (all_from c.args.head.now c.requires.0 c.requires.1)) (OnlyOptions-AreOptions c.args.head.now c.requires.0 c.requires.1)
