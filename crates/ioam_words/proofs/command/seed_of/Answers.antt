use Rattle.std.proofs.Common.{◌≡◌, ℕ, ◌<◌, List, ◌∙◌, subst, arith}
use Rattle.std.specs.Prelude.{◌↔◌, Some, decimal}
use Rattle.std.proofs.lemmas.Bool.{iff_false}
use Rattle.ioam_words.proofs.WordsLaws.{greatest, spells_seed}
use Rattle.ioam_words.proofs.command.seed_of.Goals as goal

pub returns-then-is_greatest : goal.returns-then-is_greatest
returns-then-is_greatest c = (c.is_greatest.ensures.0 c.if-is_greatest.true ∙ greatest, omega arith)

pub returns : goal.returns
returns c =
    let P : List ℕ → Type 0 = λ word. (n : ℕ) → (c.decimal_below.result ≡ Some n) ↔ ((n < 18446744073709551615) × (word ≡ decimal n)) in
    spells_seed c.args.word.now c.decimal_below.result (subst P (c.as_bytes.ensures.value ∙ c.text.ensures) c.decimal_below.ensures.read)
    (iff_false c.is_greatest.ensures c.if-is_greatest.false)
