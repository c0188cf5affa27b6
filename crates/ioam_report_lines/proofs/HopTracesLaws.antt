-- The lines of the traces of a header, one option after the other.
use Rattle.std.proofs.Common.{◌≡◌, ℕ, Bool, true, false, cond, List, [], ◌∷◌, ◌++◌, append_assoc, sym, ap, ◌∙◌, refl}
use Rattle.std.proofs.lemmas.List.{append-nil}
use Rattle.ioam_ip.specs.Options.{Item}
use Rattle.std.specs.List.{flat_map, filter}
use Rattle.ioam_report_lines.specs.HopText.{is_changing_trace, changing_lines}
use Rattle.ioam_report_lines.specs.TracesText.{option_lines}

split_either : (b : Bool) (x : Item) (xs : List Item)
    → flat_map option_lines (cond b (x ∷ xs) xs) ≡ flat_map option_lines (cond b (x ∷ []) []) ++ flat_map option_lines xs
split_either true x xs = ap (λ ys. ys ++ flat_map option_lines xs) (sym (append-nil (option_lines x)))
split_either false x xs = refl

-- one option more was told
pub telling : (out new old : List ℕ) (left next : List Item) (x : Item) → out ++ changing_lines left ≡ old → left ≡ x ∷ next
    → new ≡ out ++ changing_lines (x ∷ []) → new ++ changing_lines next ≡ old
telling out new old left next x so_far is is_new =
    ap (λ xs. xs ++ changing_lines next) is_new
    ∙ append_assoc out (changing_lines (x ∷ [])) (changing_lines next)
    ∙ ap (λ xs. out ++ xs) (sym (split_either (is_changing_trace x) x (filter_next next)))
    ∙ ap (λ xs. out ++ changing_lines xs) (sym is)
    ∙ so_far
  where
    filter_next : List Item → List Item
    filter_next items = filter is_changing_trace items

-- none is left
pub told : (out old : List ℕ) (left : List Item) → out ++ changing_lines left ≡ old → left ≡ [] → out ≡ old
told out old left so_far none = sym (append-nil out) ∙ ap (λ xs. out ++ changing_lines xs) (sym none) ∙ so_far

-- the lines of one option
pub one_line : (x : Item) → is_changing_trace x ≡ true → option_lines x ≡ changing_lines (x ∷ [])
one_line x is = sym (append-nil (option_lines x)) ∙ ap (λ b. flat_map option_lines (cond b (x ∷ []) [])) (sym is)

pub no_line : (x : Item) → is_changing_trace x ≡ false → [] ≡ changing_lines (x ∷ [])
no_line x is = ap (λ b. flat_map option_lines (cond b (x ∷ []) [])) (sym is)
