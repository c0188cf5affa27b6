-- Laws of the traces that are listed of one header.
use Rattle.std.proofs.Common.{◌≡◌, ℕ, zero, suc, ◌+◌, ◌≤◌, Bool, true, false, cond, leb, List, [], ◌∷◌, ◌++◌, length, filter, arith, sym, ap, ◌∙◌}
use Rattle.std.proofs.lemmas.List.{append-nil}
use Rattle.std.specs.List.{flat_map}
use Rattle.ioam_ip.specs.Options.{Item, AreOptions, option_end, item_at, is_option}
use Rattle.ioam_ip.specs.OptionsLeft.{options_from}
use Rattle.ioam_ip.proofs.OptionsLeftLaws.{all_from}
use Rattle.ioam_report_lines.specs.TracesText.{is_trace, option_lines}

shorter : (b : Bool) (x : Item) (xs ys : List Item) → length ys ≤ length xs → length (cond b (x ∷ ys) ys) ≤ suc (length xs)
shorter true x xs ys less = omega arith
shorter false x xs ys less = omega arith

pub few_filtered : (test : Item → Bool) (xs : List Item) → length (filter test xs) ≤ length xs
few_filtered test [] = omega arith
few_filtered test (x ∷ xs) = omega (arith, shorter (test x) x xs (filter test xs) (few_filtered test xs))

few_either : (fits option : Bool) (x : Item) (xs : List Item) (steps : ℕ) → length xs ≤ steps
    → length (cond fits (cond option (x ∷ xs) xs) []) ≤ suc steps
few_either true true x xs steps few = omega arith
few_either true false x xs steps few = omega arith
few_either false option x xs steps few = omega arith

pub few_options : (steps : ℕ) (head : List ℕ) (at : ℕ) → length (options_from steps head at) ≤ steps
few_options zero head at = omega arith
few_options (suc steps) head at =
    few_either (leb (option_end head at) (length head)) (is_option (item_at head at)) (item_at head at) (options_from steps head (option_end head at)) steps
    (few_options steps head (option_end head at))

-- a header has no more traces than octets
pub few_traces : (head : List ℕ) (at : ℕ) → length (filter is_trace (options_from (length head) head at)) ≤ length head
few_traces head at = omega (arith, few_filtered is_trace (options_from (length head) head at), few_options (length head) head at)

-- the loop over all options has counted, or told, the traces of the header
pub counted : (head : List ℕ) (count : ℕ) (left first : List Item) → count + length (filter is_trace left) ≡ length (filter is_trace first)
    → left ≡ [] → AreOptions head first → count ≡ length (filter is_trace (options_from (length head) head 2))
counted head count left first so_far none are =
    let here : length (filter is_trace left) ≡ 0 = ap (λ xs. length (filter is_trace xs)) none in
    let all : length (filter is_trace (options_from (length head) head 2)) ≡ length (filter is_trace first) = ap (λ xs. length (filter is_trace xs)) (all_from head first are) in
    omega arith

pub told : (head : List ℕ) (out old : List ℕ) (left first : List Item)
    → out ++ flat_map option_lines (filter is_trace left) ≡ old ++ flat_map option_lines (filter is_trace first)
    → left ≡ [] → AreOptions head first → out ≡ old ++ flat_map option_lines (filter is_trace (options_from (length head) head 2))
told head out old left first so_far none are =
    sym (append-nil out)
    ∙ ap (λ xs. out ++ flat_map option_lines (filter is_trace xs)) (sym none)
    ∙ so_far
    ∙ ap (λ xs. old ++ flat_map option_lines (filter is_trace xs)) (sym (all_from head first are))

more_left : (b : Bool) (x : Item) (xs : List Item) → b ≡ true → 1 ≤ length (cond b (x ∷ xs) xs)
more_left true x xs is = omega arith
more_left false x xs is = absurd (cc is)

-- one trace more is still no more than octets
pub counting : (head : List ℕ) (count : ℕ) (left first next : List Item) (x : Item) → count + length (filter is_trace left) ≡ length (filter is_trace first)
    → left ≡ x ∷ next → is_trace x ≡ true → AreOptions head first → count + 1 ≤ length head
counting head count left first next x so_far is trace are =
    let some : 1 ≤ length (filter is_trace (x ∷ next)) = more_left (is_trace x) x (filter is_trace next) trace in
    let here : length (filter is_trace left) ≡ length (filter is_trace (x ∷ next)) = ap (λ xs. length (filter is_trace xs)) is in
    let all : length (filter is_trace (options_from (length head) head 2)) ≡ length (filter is_trace first) = ap (λ xs. length (filter is_trace xs)) (all_from head first are) in
    omega (arith, few_traces head 2)
