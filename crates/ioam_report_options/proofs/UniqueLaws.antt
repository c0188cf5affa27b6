-- A packet's options have one text.
use Rattle.std.proofs.Common.{◌≡◌, ℕ, List, [], ◌∷◌, ◌++◌, length, sym, ap, ◌∙◌, subst, codes, decimal}
use Rattle.ioam_ip.specs.Options.{Item}
use Rattle.ioam_report_lines.specs.TraceText.{line_feed}
use Rattle.ioam_report_options.specs.OptionText.{IsOptionLine, front_text}
use Rattle.ioam_report_options.specs.OptionsText.{OptionLines, OptionsText, CountedText}
use Rattle.ioam_report_options.proofs.SaysLaws.{Says-unique}
use Rattle.ioam_report_options.proofs.OptionsLaws.{AreIoam-unique}

-- an option has one
IsOptionLine-unique : (option : Item) (a b : List ℕ) → IsOptionLine option a → IsOptionLine option b → a ≡ b
IsOptionLine-unique option a b x y =
    x.text_is ∙ ap (λ (said : List ℕ). front_text option.kind option.at ++ said) (Says-unique option.body x.said y.said x.says y.says) ∙ sym y.text_is

OptionLines-unique : (options : List Item) (a b : List ℕ) → OptionLines options a → OptionLines options b → a ≡ b
OptionLines-unique [] a b x y = x ∙ sym y
OptionLines-unique (option ∷ options) a b x y =
    x.4
    ∙ ap (λ (text : List ℕ). text ++ x.1) (IsOptionLine-unique option x.0 y.0 x.2 y.2)
    ∙ ap (λ (text : List ℕ). y.0 ++ text) (OptionLines-unique options x.1 y.1 x.3 y.3)
    ∙ sym y.4

-- the lines of one list of options are those of the other
same_lines : (xs ys : List Item) (a b : List ℕ) → xs ≡ ys → OptionLines xs a → OptionLines ys b → a ≡ b
same_lines xs ys a b same x y =
    let P : List Item → Type 0 = λ options. OptionLines options a in
    OptionLines-unique ys a b (subst P same x) y

pub OptionsText-unique : (p a b : List ℕ) → OptionsText p a → OptionsText p b → a ≡ b
OptionsText-unique p a b x y = same_lines x.options y.options a b (AreIoam-unique p x.options y.options x.are y.are) x.lines y.lines

pub CountedText-unique : (p a b : List ℕ) → CountedText p a → CountedText p b → a ≡ b
CountedText-unique p a b x y =
    let same = AreIoam-unique p x.options y.options x.are y.are in
    x.text_is
    ∙ ap (λ (options : List Item). codes " options " ++ (decimal (length options) ++ (line_feed ++ x.lines))) same
    ∙ ap (λ (lines : List ℕ). codes " options " ++ (decimal (length y.options) ++ (line_feed ++ lines)))
    (same_lines x.options y.options x.lines y.lines same x.are_lines y.are_lines)
    ∙ sym y.text_is
