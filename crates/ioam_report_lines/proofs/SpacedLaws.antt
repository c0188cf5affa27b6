-- Words that are put before others, from the last to the first.
use Rattle.std.proofs.Common.{◌≡◌, ℕ, suc, ◌+◌, ◌-◌, ◌*◌, ◌/◌, ◌<◌, ◌≤◌, List, [], ◌∷◌, ◌++◌, length, length-drop, take, drop, codes, append_assoc, arith, refl, sym, ap, ◌∙◌}
use Rattle.std.proofs.lemmas.List.{drop-drop, length-take-le}
use Rattle.ioam_line.specs.Digits.{digits_of}
use Rattle.ioam_line.specs.Line.{digits, value_text}
use Rattle.ioam_data.specs.Fields.{Held}
use Rattle.ioam_report_lines.specs.Spaced.{bits_text, fillers_text, snapshot_text, spaced_fields}

digits-text : (octets : List ℕ) → 0 < length octets → value_text (digits octets) ≡ digits_of octets
digits-text [] some = absurd (omega (arith, some))
digits-text (octet ∷ octets) some = refl

-- a filler word was put before the others
pub filler-before : (octets initial between new : List ℕ) (at next size : ℕ) → size ≡ 4 → next ≡ at + 1 → next ≤ length octets / 4
    → between ≡ fillers_text (length octets / 4 - next) (drop (4 * next) octets) ++ initial
    → new ≡ (codes " fill=" ++ value_text (digits (take size (drop (4 * at) octets)))) ++ between
    → new ≡ fillers_text (length octets / 4 - at) (drop (4 * at) octets) ++ initial
filler-before octets initial between new at next size four is inside so_far is_new =
    let rest = drop (4 * at) octets in
    let long : length (take 4 rest) ≡ 4 = length-take-le 4 rest (omega (arith, is, inside, length-drop (4 * at) octets)) in
    let others : drop (4 * next) octets ≡ drop 4 rest = ap (λ n. drop n octets) (omega (arith, is)) ∙ sym (drop-drop 4 (4 * at) octets) in
    let more : suc (length octets / 4 - next) ≡ length octets / 4 - at = omega (arith, is, inside) in
    is_new
    ∙ ap (λ n. (codes " fill=" ++ value_text (digits (take n rest))) ++ between) four
    ∙ ap (λ xs. (codes " fill=" ++ xs) ++ between) (digits-text (take 4 rest) (omega (arith, long)))
    ∙ ap (λ xs. (codes " fill=" ++ digits_of (take 4 rest)) ++ xs) (so_far ∙ ap (λ xs. fillers_text (length octets / 4 - next) xs ++ initial) others)
    ∙ sym (append_assoc (codes " fill=" ++ digits_of (take 4 rest)) (fillers_text (length octets / 4 - next) (drop 4 rest)) initial)
    ∙ ap (λ n. fillers_text n rest ++ initial) more

-- the fields, the filler words and the snapshot before what was put
pub spaced-parts : (held : Held) (old : List ℕ)
    → bits_text held ++ (fillers_text (length held.filler / 4) held.filler ++ (snapshot_text held.snapshot ++ old)) ≡ spaced_fields held ++ old
unfolding spaced_fields
spaced-parts held old =
    let fillers = fillers_text (length held.filler / 4) held.filler in
    sym (append_assoc (bits_text held ++ fillers) (snapshot_text held.snapshot) old
    ∙ append_assoc (bits_text held) fillers (snapshot_text held.snapshot ++ old))
