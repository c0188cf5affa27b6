-- What becomes of things, one after the other.
use Rattle.std.proofs.Common.{◌≡◌, ◌↔◌, inl, inr, ℕ, ◌+◌, List, [], ◌∷◌, ◌++◌, length, refl, sym, ap, ◌∙◌, subst, arith}
use Rattle.std.specs.List.{AllByRecursion}
use Rattle.ioam_node.specs.declared.reason.Reason.{Reason}
use Rattle.ioam_run_audit.specs.Fates.{AreFates, IsFate, number_behind, left_behind, IsSentOn}
use Rattle.ioam_run_audit.specs.declared.fate.Fate.{Fate}
use Rattle.ioam_run_audit.specs.declared.fate.Fate.TheVariants.{Sent, Gone, Skipped}
use Rattle.ioam_run_audit.proofs.MapLaws.{Embeds, fewer_after, from_map, to_map}

-- the number of the next thing of the second list, behind things of the first that became so
abbrev pub numbers_behind : ℕ → List Fate → ℕ
numbers_behind number [] = number
numbers_behind number (fate ∷ fates) = numbers_behind (number_behind number fate) fates

-- how many were sent on
abbrev pub sent_count : List Fate → ℕ
sent_count fates = numbers_behind 0 fates

numbers_from : (number : ℕ) (fates : List Fate) → numbers_behind number fates ≡ number + numbers_behind 0 fates
numbers_from number [] = omega arith
numbers_from number (Sent m ∷ fates) = omega (arith, numbers_from (number + 1) fates, numbers_from 1 fates)
numbers_from number (Gone ∷ fates) = numbers_from number fates
numbers_from number (Skipped why ∷ fates) = numbers_from number fates

pub number_is : (number : ℕ) (fates : List Fate) → numbers_behind number fates ≡ number + sent_count fates
number_is number fates = numbers_from number fates

module _ {B A : Type 0} (Skips : B → Reason → Type 0) (Fits : B → Type 0) (Becomes : B → A → Type 0) where
  -- one thing more
  pub fates_push : (number : ℕ) (bs : List B) (ys : List A) (fates : List Fate) (rest : List A) (b : B) (fate : Fate)
      → AreFates Skips Fits Becomes number bs ys fates rest → IsFate Skips Fits Becomes (numbers_behind number fates) b rest fate
      → AreFates Skips Fits Becomes number (bs ++ b ∷ []) ys (fates ++ fate ∷ []) (left_behind fate rest)
  fates_push number [] ys [] rest b fate are is =
      (subst (λ zs. IsFate Skips Fits Becomes number b zs fate) are is, ap (λ zs. left_behind fate zs) are)
  fates_push number [] ys (f ∷ fates) rest b fate are is = absurd are
  fates_push number (x ∷ bs) ys [] rest b fate are is = absurd are
  fates_push number (x ∷ bs) ys (f ∷ fates) rest b fate are is =
      (are.0, fates_push (number_behind number f) bs (left_behind f ys) fates rest b fate are.1 is)

  -- each of the second list was taken or is left
  size_by : (number : ℕ) (b : B) (ys : List A) (fate : Fate) (n : ℕ) → IsFate Skips Fits Becomes number b ys fate → length (left_behind fate ys) ≡ n
      → length ys ≡ number_behind 0 fate + n
  size_by number b [] (Sent m) n is size = absurd is.1
  size_by number b (a ∷ ys) (Sent m) n is size = omega (arith, size)
  size_by number b ys Gone n is size = omega (arith, size)
  size_by number b ys (Skipped why) n is size = omega (arith, size)

  pub fates_size : (number : ℕ) (bs : List B) (ys : List A) (fates : List Fate) (rest : List A) → AreFates Skips Fits Becomes number bs ys fates rest
      → length ys ≡ sent_count fates + length rest
  fates_size number [] ys [] rest are = omega (arith, ap length are)
  fates_size number [] ys (f ∷ fates) rest are = absurd are
  fates_size number (b ∷ bs) ys [] rest are = absurd are
  fates_size number (b ∷ bs) ys (f ∷ fates) rest are =
      let behind = fates_size (number_behind number f) bs (left_behind f ys) fates rest are.1 in
      omega (arith, size_by number b ys f (sent_count fates + length rest) are.0 behind, numbers_from (number_behind 0 f) fates)

  -- each of the first has a fate
  pub fates_many : (number : ℕ) (bs : List B) (ys : List A) (fates : List Fate) (rest : List A) → AreFates Skips Fits Becomes number bs ys fates rest
      → length fates ≡ length bs
  fates_many number [] ys [] rest are = refl
  fates_many number [] ys (f ∷ fates) rest are = absurd are
  fates_many number (b ∷ bs) ys [] rest are = absurd are
  fates_many number (b ∷ bs) ys (f ∷ fates) rest are = omega (arith, fates_many (number_behind number f) bs (left_behind f ys) fates rest are.1)

  -- ---- none is left exactly where there is a map

  module _ (apart : (b : B) (why : Reason) (a : A) → Skips b why → Becomes b a → ⊥) where
    embeds_by : (number : ℕ) (b : B) (bs : List B) (ys : List A) (fate : Fate) → IsFate Skips Fits Becomes number b ys fate
        → Embeds Becomes bs (left_behind fate ys) → Embeds Becomes (b ∷ bs) ys
    embeds_by number b bs [] fate is e = tt
    embeds_by number b bs (a ∷ ys) (Sent m) is e = inl (is.1, e)
    embeds_by number b bs (a ∷ ys) Gone is e = inr e
    embeds_by number b bs (a ∷ ys) (Skipped why) is e = inr e

    pub to_embeds : (number : ℕ) (bs : List B) (ys : List A) (fates : List Fate) (rest : List A) → AreFates Skips Fits Becomes number bs ys fates rest
        → rest ≡ [] → Embeds Becomes bs ys
    to_embeds number [] ys [] rest are none = subst (λ zs. Embeds Becomes [] zs) (sym none ∙ are) tt
    to_embeds number [] ys (f ∷ fates) rest are none = absurd are
    to_embeds number (b ∷ bs) ys [] rest are none = absurd are
    to_embeds number (b ∷ bs) ys (f ∷ fates) rest are none =
        embeds_by number b bs ys f are.0 (to_embeds (number_behind number f) bs (left_behind f ys) fates rest are.1 none)

    of_embeds : (number : ℕ) (b : B) (bs : List B) (ys : List A) (fate : Fate) → IsFate Skips Fits Becomes number b ys fate
        → Embeds Becomes (b ∷ bs) ys → Embeds Becomes bs (left_behind fate ys)
    of_embeds number b bs [] (Sent m) is e = tt
    of_embeds number b bs [] Gone is e = tt
    of_embeds number b bs [] (Skipped why) is e = tt
    of_embeds number b bs (a ∷ ys) (Sent m) is e = elim e as (λ _. Embeds Becomes bs ys) [ inl first ↦ first.1 | inr later ↦ fewer_after Becomes bs a ys later ]
    of_embeds number b bs (a ∷ ys) Gone is e = elim e as (λ _. Embeds Becomes bs (a ∷ ys)) [ inl first ↦ absurd (is.1 first.0) | inr later ↦ later ]
    of_embeds number b bs (a ∷ ys) (Skipped why) is e =
        elim e as (λ _. Embeds Becomes bs (a ∷ ys)) [ inl first ↦ absurd (apart b why a is first.0) | inr later ↦ later ]

    no_more : (ys : List A) → Embeds Becomes [] ys → ys ≡ []
    no_more [] e = refl
    no_more (a ∷ ys) e = absurd e

    pub none_left : (number : ℕ) (bs : List B) (ys : List A) (fates : List Fate) (rest : List A) → AreFates Skips Fits Becomes number bs ys fates rest
        → Embeds Becomes bs ys → rest ≡ []
    none_left number [] ys [] rest are e = are ∙ no_more ys e
    none_left number [] ys (f ∷ fates) rest are e = absurd are
    none_left number (b ∷ bs) ys [] rest are e = absurd are
    none_left number (b ∷ bs) ys (f ∷ fates) rest are e =
        none_left (number_behind number f) bs (left_behind f ys) fates rest are.1 (of_embeds number b bs ys f are.0 e)

    -- each that came from one is fit
    fit_of : (IsGood : A → Type 0) → ((b : B) (a : A) → Becomes b a → IsGood a) → (bs : List B) (ys : List A) → Embeds Becomes bs ys → AllByRecursion IsGood ys
    fit_of IsGood good bs [] e = tt
    fit_of IsGood good [] (a ∷ ys) e = absurd e
    fit_of IsGood good (b ∷ bs) (a ∷ ys) e = elim e as (λ _. AllByRecursion IsGood (a ∷ ys)) [
      | inl first ↦ (good b a first.0, fit_of IsGood good bs ys first.1)
      | inr later ↦ fit_of IsGood good bs (a ∷ ys) later
    ]

    pub none_left_map : (IsGood : A → Type 0) → ((b : B) (a : A) → Becomes b a → IsGood a)
        → (number : ℕ) (bs : List B) (ys : List A) (fates : List Fate) (rest : List A) → AreFates Skips Fits Becomes number bs ys fates rest
        → (rest ≡ []) ↔ (AllByRecursion IsGood ys × IsSentOn Becomes bs ys)
    none_left_map IsGood good number bs ys fates rest are = (
      λ none. let e = to_embeds number bs ys fates rest are none in (fit_of IsGood good bs ys e, to_map Becomes bs ys e),
      λ is. none_left number bs ys fates rest are (from_map Becomes bs ys is.1),
    )
