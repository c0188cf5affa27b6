-- Laws of the IOAM options of a packet, and of the first at or after an offset.
use Rattle.std.proofs.Common.{◌≡◌, ℕ, ◌+◌, Bool, true, false, ◌&&◌, cond, leb, List, [], ◌∷◌, ◌++◌, length, map, filter, Option, Some, None, option_map, refl, sym, ap, ◌∙◌, subst}
use Rattle.std.specs.Bool.{MatchBool}
use Rattle.std.specs.List.{All, find}
use Rattle.std.specs.Option.{option_or}
use Rattle.std.proofs.lemmas.Bool.{cond-true, cond-false}
use Rattle.std.proofs.lemmas.List.Elements.{All-head, All-rest}
use Rattle.std.proofs.lemmas.List.Folds.{find-append}
use Rattle.ioam_ip.specs.Chain.{IsSound, start}
use Rattle.ioam_ip.specs.ChainOptions.{octets_of, is_options_head, HeadFits}
use Rattle.ioam_ip.specs.Findings.{is_ioam, is_ioam_type}
use Rattle.ioam_ip.specs.HeadsLeft.{heads_from, AreHeads}
use Rattle.ioam_ip.specs.Options.{Item, AreOptions, IsFilled}
use Rattle.ioam_ip.specs.OptionsLeft.{options_from}
use Rattle.ioam_ip.specs.Rewriting.{options_in}
use Rattle.ioam_ip.specs.Spot.{IsNext, item_in, spot_end}
use Rattle.ioam_ip.specs.declared.next.OptionSpot.{OptionSpot}
use Rattle.ioam_ip.specs.declared.chain.Head.{Head}
use Rattle.ioam_ip.proofs.ChainLaws.{Chain-unique}
use Rattle.ioam_ip.proofs.FitLaws.{heads_fit}
use Rattle.ioam_ip.proofs.HeadsLeftLaws.{all_from as all_heads}
use Rattle.ioam_ip.proofs.OptionsLeftLaws.{all_from as all_options}
use Rattle.ioam_c.specs.declared.next.IoamOption.{IoamOption}
use Rattle.ioam_c.specs.Next.{Placed, placed, ioam_among, IoamOf, AreIoam, ioam_in, ioam_from, ioam_of, at_least, described}

-- ---- the function gives the options of the chain

-- the options of one header
abbrev options_if : Bool → List ℕ → List Item
options_if b octets = cond b (options_in octets) []

options_either : (b : Bool) (octets : List ℕ) → (b ≡ true → IsFilled octets)
    → MatchBool b (AreOptions octets (options_if b octets)) (options_if b octets ≡ [])
options_either true octets filled =
    let here = filled refl in
    let P : List Item → Type 0 = λ os. AreOptions octets os in
    subst P (sym (all_options octets here.0 here.1)) here.1
options_either false octets filled = refl

among_either : (b : Bool) (start : ℕ) (options : List Item) → cond b (ioam_among start options) [] ≡ ioam_among start (cond b options [])
among_either true start options = refl
among_either false start options = refl

IoamOf-from : (p : List ℕ) (heads : List Head) → All (HeadFits p) heads → IoamOf p heads (ioam_from p heads)
IoamOf-from p [] fit = refl
IoamOf-from p (head ∷ heads) fit =
    let P : Head → Type 0 = λ head. HeadFits p head in
    let here : HeadFits p head = All-head P head heads fit in (
      options_if (is_options_head head) (octets_of p head),
      ioam_from p heads,
      options_either (is_options_head head) (octets_of p head) here.filled,
      IoamOf-from p heads (All-rest P head heads (head ∷ heads) refl fit),
      ap (λ (xs : List Placed). xs ++ ioam_from p heads)
          (among_either (is_options_head head) head.range.start (options_in (octets_of p head))),
    )

pub AreIoam-ioam_of : (p : List ℕ) → IsSound p → AreIoam p (ioam_of p)
unfolding ioam_of
AreIoam-ioam_of p sound =
    let heads = heads_from (length p) p (start p) in
    let are = all_heads p sound in
    record {
      heads = heads;
      upper = are.upper;
      at = are.at;
      chain = are.chain;
      are = IoamOf-from p heads (heads_fit p heads are);
    }

-- a packet has one list of headers, which the function gives
pub first_options : (p : List ℕ) → IsSound p → (heads : List Head) → AreHeads p heads → ioam_from p heads ≡ ioam_of p
unfolding ioam_of
first_options p sound heads are =
    let all = all_heads p sound in
    ap (λ (heads : List Head). ioam_from p heads)
    (Chain-unique p heads are.upper are.at (heads_from (length p) p (start p)) all.upper all.at are.chain all.chain).0

-- ---- the first at or after an offset, among the options of a header

module _ (start from : ℕ) where
  passed_by : (b : Bool) (x : Item) (xs : List Item) → (b && leb from (start + x.at)) ≡ false
      → find (at_least from) (map (placed start) (cond b (x ∷ xs) xs)) ≡ find (at_least from) (map (placed start) xs)
  passed_by true x xs test = cond-false _ _ _ test
  passed_by false x xs test = refl

  -- an option that isn't the first is passed
  pub find-passed : (x : Item) (xs : List Item) → (is_ioam x && leb from (start + x.at)) ≡ false
      → find (at_least from) (ioam_among start (x ∷ xs)) ≡ find (at_least from) (ioam_among start xs)
  find-passed x xs test = passed_by (is_ioam x) x (filter is_ioam xs) test

  here_by : (b : Bool) (x : Item) (xs : List Item) → (b && leb from (start + x.at)) ≡ true
      → find (at_least from) (map (placed start) (cond b (x ∷ xs) xs)) ≡ Some (placed start x)
  here_by true x xs test = cond-true _ _ _ test
  here_by false x xs test = absurd (cc test)

  -- one that is the first is found
  pub find-here : (x : Item) (xs : List Item) → (is_ioam x && leb from (start + x.at)) ≡ true
      → find (at_least from) (ioam_among start (x ∷ xs)) ≡ Some (placed start x)
  find-here x xs test = here_by (is_ioam x) x (filter is_ioam xs) test

-- ---- the loop over the options of a header

module _ (start from : ℕ) (head : List ℕ) where
  -- the first of the options from an offset of the header on
  abbrev first_from : ℕ → Option Placed
  first_from at = find (at_least from) (ioam_among start (options_from (length head) head at))

  abbrev first : Option Placed
  first = find (at_least from) (ioam_among start (options_in head))

  after : (at : ℕ) (spot : OptionSpot) → IsNext head at spot
      → first_from at ≡ find (at_least from) (ioam_among start (item_in head spot ∷ options_from (length head) head (spot_end spot)))
  after at spot next = ap (λ (xs : List Item). find (at_least from) (ioam_among start xs)) next.first

  pub among-passed : (at : ℕ) (spot : OptionSpot) → IsNext head at spot → (is_ioam_type spot.kind && leb from (start + spot.at)) ≡ false
      → first_from at ≡ first → first_from (spot_end spot) ≡ first
  among-passed at spot next test same =
      sym (find-passed start from (item_in head spot) (options_from (length head) head (spot_end spot)) test) ∙ sym (after at spot next) ∙ same

  pub among-here : (at : ℕ) (spot : OptionSpot) (one : IoamOption × ℕ) → IsNext head at spot → (is_ioam_type spot.kind && leb from (start + spot.at)) ≡ true
      → first_from at ≡ first → one ≡ described (placed start (item_in head spot)) → Some one ≡ option_map described first
  among-here at spot one next test same is =
      ap (λ (x : IoamOption × ℕ). Some x) is
      ∙ sym (ap (option_map described) (sym same ∙ after at spot next ∙ find-here start from (item_in head spot) (options_from (length head) head (spot_end spot)) test))

  pub among-none : (at : ℕ) → options_from (length head) head at ≡ [] → first_from at ≡ first → None ≡ option_map described first
  among-none at none same =
      sym (ap (option_map described) (sym same ∙ ap (λ (xs : List Item). find (at_least from) (ioam_among start xs)) none))

-- ---- the loop over the headers

map_none : {A B : Type 0} (f : A → B) (o : Option A) → option_map f o ≡ None → o ≡ None
map_none f None is = refl
map_none f (Some x) is = absurd (cc is)

or_some : {A B : Type 0} (f : A → B) (o other : Option A) (y : B) → option_map f o ≡ Some y → option_map f (option_or o other) ≡ Some y
or_some f None other y is = absurd (cc is)
or_some f (Some x) other y is = is

module _ (p : List ℕ) (from : ℕ) where
  abbrev first_in : List Head → Option Placed
  first_in heads = find (at_least from) (ioam_from p heads)

  -- a header that has none is passed
  pub header-passed : (left next : List Head) (head : Head) (all : List Head) → left ≡ head ∷ next
      → None ≡ option_map described (find (at_least from) (ioam_in p head)) → first_in left ≡ first_in all → first_in next ≡ first_in all
  header-passed left next head all steps none same =
      sym (ap first_in steps ∙ find-append (at_least from) (ioam_in p head) (ioam_from p next)
      ∙ ap (λ (o : Option Placed). option_or o (first_in next)) (map_none described (find (at_least from) (ioam_in p head)) (sym none)))
      ∙ same

  -- one that has one gives it
  pub header-here : (left next : List Head) (head : Head) (all : List Head) (found : IoamOption × ℕ) → left ≡ head ∷ next
      → Some found ≡ option_map described (find (at_least from) (ioam_in p head)) → first_in left ≡ first_in all → ioam_from p all ≡ ioam_of p
      → Some found ≡ option_map described (find (at_least from) (ioam_of p))
  header-here left next head all found steps is same whole =
      sym (or_some described (find (at_least from) (ioam_in p head)) (first_in next) found (sym is))
      ∙ ap (option_map described) (sym (find-append (at_least from) (ioam_in p head) (ioam_from p next)) ∙ sym (ap first_in steps) ∙ same
      ∙ ap (find (at_least from)) whole)

  -- none is given if no header has one
  pub header-none : (left all : List Head) → left ≡ [] → first_in left ≡ first_in all → ioam_from p all ≡ ioam_of p
      → None ≡ option_map described (find (at_least from) (ioam_of p))
  header-none left all none same whole =
      ap (option_map described) (sym (ap first_in none) ∙ same ∙ ap (find (at_least from)) whole)
