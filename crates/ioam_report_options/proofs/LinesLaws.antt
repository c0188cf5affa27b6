-- Laws of the lines of options that stand one behind the other.
use Rattle.std.proofs.Common.{◌≡◌, ℕ, Bool, true, false, cond, List, [], ◌∷◌, ◌++◌, length, take, map, filter, refl, sym, ap, ◌∙◌, subst, append_assoc, append-nil}
use Rattle.std.proofs.lemmas.List.{map-append}
use Rattle.std.proofs.Math.Seq.{take-append_seam}
use Rattle.std.proofs.lemmas.List.Elements.{filter-append}
use Rattle.ioam_ip.specs.Findings.{is_ioam}
use Rattle.ioam_ip.specs.Chain.{IsSound}
use Rattle.ioam_ip.specs.HeadsLeft.{AreHeads}
use Rattle.ioam_ip.specs.Options.{Item, AreOptions}
use Rattle.ioam_ip.specs.OptionsLeft.{options_from}
use Rattle.ioam_ip.specs.declared.chain.Head.{Head}
use Rattle.ioam_ip.proofs.OptionsLeftLaws.{all_from as all_options}
use Rattle.ioam_report_options.specs.OptionText.{IsOptionLine}
use Rattle.ioam_report_options.specs.OptionsText.{placed, ioam_among, ioam_from, ioam_of, OptionLines}
use Rattle.ioam_report_options.proofs.OptionsLaws.{first_options}

-- of options, and of others behind them
OptionLines-append : (xs ys : List Item) (a b : List ℕ) → OptionLines xs a → OptionLines ys b → OptionLines (xs ++ ys) (a ++ b)
OptionLines-append [] ys a b x y =
    let P : List ℕ → Type 0 = λ text. OptionLines ys (text ++ b) in
    subst P (sym x) y
OptionLines-append (option ∷ xs) ys a b x y =
    (x.0, x.1 ++ b, x.2, OptionLines-append xs ys x.1 b x.3 y, ap (λ (text : List ℕ). text ++ b) x.4 ∙ append_assoc x.0 x.1 b)

-- of the lines of all these options those in front of the ones that are left were appended
pub record Appended (all left : List Item) (old out : List ℕ) : Type 0 where
  pub told : List ℕ
  pub out_is : out ≡ old ++ told
  pub behind : (rest : List ℕ) → OptionLines left rest → OptionLines all (told ++ rest)

-- none yet
pub Appended-none : (all : List Item) (old : List ℕ) → Appended all all old old
Appended-none all old = record { told = []; out_is = sym (append-nil old); behind = λ rest lines. lines }

-- those of some of the options that were left were appended
pub Appended-more : (all part left next : List Item) (old out new text : List ℕ) → Appended all left old out → left ≡ part ++ next
    → OptionLines part text → new ≡ out ++ text → Appended all next old new
Appended-more all part left next old out new text so_far is lines is_new =
    record {
      told = so_far.told ++ text;
      out_is = is_new ∙ ap (λ (xs : List ℕ). xs ++ text) so_far.out_is ∙ append_assoc old so_far.told text;
      behind = λ rest others.
          let Q : List Item → Type 0 = λ options. OptionLines options (text ++ rest) in
          let R : List ℕ → Type 0 = λ whole. OptionLines all whole in
          subst R (sym (append_assoc so_far.told text rest))
          (so_far.behind (text ++ rest) (subst Q (sym is) (OptionLines-append part next text rest lines others)));
    }

-- all of them
pub Appended-all : (all left : List Item) (old out : List ℕ) → Appended all left old out → left ≡ []
    → (text : List ℕ) × OptionLines all text × (out ≡ old ++ text)
Appended-all all left old out so_far none =
    let Q : List Item → Type 0 = λ options. OptionLines options [] in (
      so_far.told ++ [],
      so_far.behind [] (subst Q (sym none) refl),
      so_far.out_is ∙ ap (λ (xs : List ℕ). old ++ xs) (sym (append-nil so_far.told)),
    )

-- what stood there before stands there still
pub Appended-front : (all left : List Item) (old out : List ℕ) → Appended all left old out → take (length old) out ≡ old
Appended-front all left old out so_far = ap (take (length old)) so_far.out_is ∙ take-append_seam old so_far.told

-- ---- one option

one_either : (b : Bool) (start : ℕ) (option : Item) (text : List ℕ) → b ≡ true → IsOptionLine (placed start option) text
    → OptionLines (map (placed start) (cond b (option ∷ []) [])) text
one_either true start option text is line = (text, [], line, refl, sym (append-nil text))
one_either false start option text is line = absurd (cc is)

none_either : (b : Bool) (start : ℕ) (option : Item) → b ≡ false → OptionLines (map (placed start) (cond b (option ∷ []) [])) []
none_either true start option is = absurd (cc is)
none_either false start option is = refl

-- an IOAM option has its lines
pub one_line : (start : ℕ) (option : Item) (text : List ℕ) → is_ioam option ≡ true → IsOptionLine (placed start option) text
    → OptionLines (ioam_among start (option ∷ [])) text
one_line start option text is line = one_either (is_ioam option) start option text is line

-- another option has none
pub no_line : (start : ℕ) (option : Item) → is_ioam option ≡ false → OptionLines (ioam_among start (option ∷ [])) []
no_line start option is = none_either (is_ioam option) start option is

-- the first of some options, and the others
pub ioam_among-next : (start : ℕ) (options others : List Item) (option : Item) → options ≡ option ∷ others
    → ioam_among start options ≡ ioam_among start (option ∷ []) ++ ioam_among start others
ioam_among-next start options others option is =
    ap (ioam_among start) is
    ∙ ap (map (placed start)) (filter-append is_ioam (option ∷ []) others)
    ∙ map-append (placed start) (filter is_ioam (option ∷ [])) (filter is_ioam others)

-- ---- the loops

-- the lines of some options are those of equal ones
lines_same : (xs ys : List Item) (old out : List ℕ) → xs ≡ ys → ((text : List ℕ) × OptionLines xs text × (out ≡ old ++ text))
    → (text : List ℕ) × OptionLines ys text × (out ≡ old ++ text)
lines_same xs ys old out same told =
    let Q : List Item → Type 0 = λ options. OptionLines options told.0 in
    (told.0, subst Q same told.1, told.2)

-- the loop over all options of a header has appended the lines of its IOAM options
pub told_among : (start : ℕ) (head : List ℕ) (left first : List Item) (old out : List ℕ)
    → Appended (ioam_among start first) (ioam_among start left) old out → left ≡ [] → AreOptions head first
    → (text : List ℕ) × OptionLines (ioam_among start (options_from (length head) head 2)) text × (out ≡ old ++ text)
told_among start head left first old out so_far none are =
    lines_same (ioam_among start first) (ioam_among start (options_from (length head) head 2)) old out (ap (ioam_among start) (sym (all_options head first are)))
    (Appended-all (ioam_among start first) (ioam_among start left) old out so_far (ap (ioam_among start) none))

-- the loop over all headers of a packet has appended the lines of its IOAM options
pub told_all : (p : List ℕ) → IsSound p → (left first : List Head) (old out : List ℕ)
    → Appended (ioam_from p first) (ioam_from p left) old out → left ≡ [] → AreHeads p first
    → (text : List ℕ) × OptionLines (ioam_of p) text × (out ≡ old ++ text)
told_all p sound left first old out so_far none are =
    lines_same (ioam_from p first) (ioam_of p) old out (first_options p sound first are)
    (Appended-all (ioam_from p first) (ioam_from p left) old out so_far (ap (λ (heads : List Head). ioam_from p heads) none))
