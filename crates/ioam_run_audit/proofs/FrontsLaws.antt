-- Which packets of AFTER are those in front of the first that is left, and that one thing alone becomes of each packet of BEFORE.
use Rattle.std.proofs.Common.{◌≡◌, inl, inr, ℕ, suc, ◌+◌, ◌-◌, List, [], ◌∷◌, ◌++◌, length, take, Some, None, refl, sym, ap, ◌∙◌, subst, arith, append-nil, length-append}
use Rattle.ioam_node.specs.Admission.{reason_of}
use Rattle.ioam_node.specs.declared.reason.Reason.{Reason}
use Rattle.ioam_pcap.specs.Entries.{Taken}
use Rattle.ioam_run_audit.specs.Fates.{AreFates, IsFate, IsNext, IsNotNext, number_behind, left_behind, IsSentOn}
use Rattle.ioam_run_audit.specs.Fit.{CameFrom, HasReason, IsFit, Place}
use Rattle.ioam_run_audit.specs.Lines.{BecomeOf, Yes, No, sums_of, verdict_of}
use Rattle.ioam_run_audit.specs.Verdicts.{IsFirstLeft, IsVerdict}
use Rattle.ioam_run_audit.specs.declared.fate.Fate.{Fate}
use Rattle.ioam_run_audit.specs.declared.fate.Fate.TheVariants.{Sent, Gone, Skipped}
use Rattle.ioam_run_audit.proofs.FatesLaws.{sent_count, number_is, none_left, to_embeds}
use Rattle.ioam_run_audit.proofs.LinesLaws.{sums_sent}
use Rattle.ioam_run_audit.proofs.MapLaws.{from_map, to_map}
use Rattle.ioam_run_audit.proofs.RecordLaws.{reason_apart, skipped_apart}
use Rattle.ioam_run_audit.proofs.VerdictLaws.{verdict_map}

module _ {B A : Type 0} (Skips : B → Reason → Type 0) (Fits : B → Type 0) (Becomes : B → A → Type 0) where
  abbrev Are : ℕ → List B → List A → List Fate → List A → Type 0
  Are = AreFates Skips Fits Becomes

  -- what was taken stands in front of what is left
  pub fates_front : (number : ℕ) (bs : List B) (ys : List A) (fates : List Fate) (rest : List A) → Are number bs ys fates rest
      → (front : List A) × (ys ≡ front ++ rest) × (length front ≡ sent_count fates)
  fates_front number [] ys [] rest are = ([], sym are, refl)
  fates_front number [] ys (f ∷ fates) rest are = absurd are
  fates_front number (b ∷ bs) ys [] rest are = absurd are
  fates_front number (b ∷ bs) [] (Sent m ∷ fates) rest are = absurd are.0.1
  fates_front number (b ∷ bs) (a ∷ ys) (Sent m ∷ fates) rest are =
      let (front, is, size) = fates_front (number + 1) bs ys fates rest are.1 in
      (a ∷ front, ap (λ (zs : List A). a ∷ zs) is, omega (arith, size, number_is 1 fates))
  fates_front number (b ∷ bs) ys (Gone ∷ fates) rest are = fates_front number bs ys fates rest are.1
  fates_front number (b ∷ bs) ys (Skipped why ∷ fates) rest are = fates_front number bs ys fates rest are.1

  not_next : (b : B) (front zs more : List A) → IsNotNext Skips Fits Becomes b (front ++ (zs ++ more)) → IsNotNext Skips Fits Becomes b (front ++ zs)
  not_next b [] [] more none = tt
  not_next b [] (z ∷ zs) more none = none
  not_next b (a ∷ front) zs more none = none

  -- where less is left, the same becomes of all
  pub fates_less : (number : ℕ) (bs : List B) (front zs more : List A) (fates : List Fate) → length front ≡ sent_count fates
      → Are number bs (front ++ (zs ++ more)) fates (zs ++ more) → Are number bs (front ++ zs) fates zs
  fates_less number [] [] zs more [] size are = refl
  fates_less number [] (a ∷ front) zs more [] size are = absurd (omega (arith, size))
  fates_less number [] front zs more (f ∷ fates) size are = absurd are
  fates_less number (b ∷ bs) front zs more [] size are = absurd are
  fates_less number (b ∷ bs) [] zs more (Sent m ∷ fates) size are = absurd (omega (arith, size, number_is 1 fates))
  fates_less number (b ∷ bs) (a ∷ front) zs more (Sent m ∷ fates) size are =
      (are.0, fates_less (number + 1) bs front zs more fates (omega (arith, size, number_is 1 fates)) are.1)
  fates_less number (b ∷ bs) front zs more (Gone ∷ fates) size are =
      ((are.0.0, not_next b front zs more are.0.1), fates_less number bs front zs more fates size are.1)
  fates_less number (b ∷ bs) front zs more (Skipped why ∷ fates) size are = (are.0, fates_less number bs front zs more fates size are.1)

  -- ---- one thing alone becomes of each

  module _ (one : (b : B) (why other : Reason) → Skips b why → Skips b other → other ≡ why) (unfit : (b : B) (why : Reason) → Skips b why → Fits b → ⊥)
      (apart : (b : B) (why : Reason) (a : A) → Skips b why → Becomes b a → ⊥) where
    skipped_next : (b : B) (ys : List A) (why : Reason) → Skips b why → IsNext Skips Fits Becomes b ys → ⊥
    skipped_next b [] why skips next = next
    skipped_next b (a ∷ ys) why skips next = apart b why a skips next

    gone_next : (b : B) (ys : List A) → IsNotNext Skips Fits Becomes b ys → IsNext Skips Fits Becomes b ys → ⊥
    gone_next b [] none next = next
    gone_next b (a ∷ ys) none next = none next

    one_fate : (number : ℕ) (b : B) (ys : List A) (f g : Fate) → IsFate Skips Fits Becomes number b ys f → IsFate Skips Fits Becomes number b ys g → g ≡ f
    one_fate number b ys (Sent m) (Sent n) x y = ap Sent (y.0 ∙ sym x.0)
    one_fate number b ys (Sent m) Gone x y = absurd (gone_next b ys y.1 x.1)
    one_fate number b ys (Sent m) (Skipped why) x y = absurd (skipped_next b ys why y x.1)
    one_fate number b ys Gone (Sent n) x y = absurd (gone_next b ys x.1 y.1)
    one_fate number b ys Gone Gone x y = refl
    one_fate number b ys Gone (Skipped why) x y = absurd (unfit b why y x.0)
    one_fate number b ys (Skipped why) (Sent n) x y = absurd (skipped_next b ys why x y.1)
    one_fate number b ys (Skipped why) Gone x y = absurd (unfit b why x y.0)
    one_fate number b ys (Skipped why) (Skipped other) x y = ap Skipped (one b why other x y)

    both_same : (f g : Fate) (fs gs : List Fate) → g ≡ f → gs ≡ fs → (g ∷ gs) ≡ (f ∷ fs)
    both_same f g fs gs head tail = ap (λ (h : Fate). h ∷ gs) head ∙ ap (λ (hs : List Fate). f ∷ hs) tail

    pub fates_only : (number : ℕ) (bs : List B) (ys : List A) (fs gs : List Fate) (rest left : List A) → Are number bs ys fs rest → Are number bs ys gs left
        → gs ≡ fs
    fates_only number [] ys [] [] rest left x y = refl
    fates_only number [] ys [] (g ∷ gs) rest left x y = absurd y
    fates_only number [] ys (f ∷ fs) gs rest left x y = absurd x
    fates_only number (b ∷ bs) ys [] gs rest left x y = absurd x
    fates_only number (b ∷ bs) ys (f ∷ fs) [] rest left x y = absurd y
    fates_only number (b ∷ bs) ys (f ∷ fs) (g ∷ gs) rest left x y =
        let same : g ≡ f = one_fate number b ys f g x.0 y.0 in
        let more = subst (λ h. Are (number_behind number h) bs (left_behind h ys) gs left) same y.1 in
        both_same f g fs gs same (fates_only (number_behind number f) bs (left_behind f ys) fs gs rest left x.1 more)

-- ---- of packets

same_reason : (why other : Reason) → Some why ≡ Some other → other ≡ why
same_reason why other same = cc

none_here : (why : Reason) → None ≡ Some why → ⊥
none_here why same = cc

one_reason : (t : Taken) (why other : Reason) → HasReason t why → HasReason t other → other ≡ why
one_reason t why other (inl x) (inl y) = same_reason why other (sym x ∙ y)
one_reason t why other (inl x) (inr y) = absurd (none_here why (sym (ap reason_of y.1) ∙ x))
one_reason t why other (inr x) (inl y) = absurd (none_here other (sym (ap reason_of x.1) ∙ y))
one_reason t why other (inr x) (inr y) = y.3 ∙ sym x.3

unfit_reason : (t : Taken) (why : Reason) → HasReason t why → IsFit t → ⊥
unfit_reason t why has fit = reason_apart t why fit.0 has fit.1

pub become_only : (place : Place) (before after : List Taken) (fates others : List Fate) (rest left : List Taken) → BecomeOf place before after fates rest
    → BecomeOf place before after others left → others ≡ fates
become_only place before after fates others rest left are also =
    fates_only HasReason IsFit (CameFrom place) one_reason unfit_reason (skipped_apart place) 1 before after fates others rest left are also

take_front : {A : Type 0} (front more : List A) → take (length front) (front ++ more) ≡ front
take_front [] [] = refl
take_front [] (a ∷ more) = refl
take_front (a ∷ front) more = ap (λ zs. a ∷ zs) (take_front front more)

take_next : {A : Type 0} (front more : List A) (a : A) → take (suc (length front)) (front ++ a ∷ more) ≡ front ++ a ∷ []
take_next [] [] a = refl
take_next [] (b ∷ more) a = refl
take_next (b ∷ front) more a = ap (λ zs. b ∷ zs) (take_next front more a)

not_none : {A : Type 0} (a : A) → (a ∷ []) ≡ [] → ⊥
not_none a same = cc

module _ (place : Place) (before after : List Taken) (fates : List Fate) where
  first_left : (t : Taken) (rest : List Taken) → BecomeOf place before after fates (t ∷ rest) → (number : ℕ) → number ≡ (sums_of fates).sent + 1
      → IsFirstLeft place before after number
  first_left t rest are number is =
      let (front, stands, size) = fates_front HasReason IsFit (CameFrom place) 1 before after fates (t ∷ rest) are in
      let all : BecomeOf place before (front ++ t ∷ rest) fates (t ∷ rest) = subst (λ zs. BecomeOf place before zs fates (t ∷ rest)) stands are in
      let in_front : BecomeOf place before (front ++ []) fates [] = fates_less HasReason IsFit (CameFrom place) 1 before front [] (t ∷ rest) fates size all in
      let with_it : BecomeOf place before (front ++ t ∷ []) fates (t ∷ []) = fates_less HasReason IsFit (CameFrom place) 1 before front (t ∷ []) rest fates size all in
      let count : number ≡ suc (length front) = omega (arith, is, size, sums_sent fates) in
      let fewer : number - 1 ≡ length front = omega (arith, count) in
      let before_it : take (number - 1) after ≡ front = ap (λ n. take n after) fewer ∙ ap (take (length front)) stands ∙ take_front front (t ∷ rest) in
      let up_to_it : take number after ≡ front ++ t ∷ [] = ap (λ n. take n after) count ∙ ap (take (suc (length front))) stands ∙ take_next front rest t in
      record {
        some = omega (arith, count);
        inside = omega (arith, count, ap length stands, length-append front (t ∷ rest));
        sent = subst (IsSentOn (CameFrom place) before) (sym before_it)
            (to_map (CameFrom place) before front (to_embeds HasReason IsFit (CameFrom place) (skipped_apart place) 1 before front fates []
            (subst (λ zs. BecomeOf place before zs fates []) (append-nil front) in_front) refl));
        left = λ sent. not_none t (none_left HasReason IsFit (CameFrom place) (skipped_apart place) 1 before (front ++ t ∷ []) fates (t ∷ []) with_it
            (from_map (CameFrom place) before (front ++ t ∷ []) (subst (IsSentOn (CameFrom place) before) up_to_it sent)));
      }

  number_of : (m n : ℕ) → No m ≡ No n → m ≡ n
  number_of m n same = cc

  not_yes : (n : ℕ) → Yes ≡ No n → ⊥
  not_yes n same = cc

  number_left : (rest : List Taken) → BecomeOf place before after fates rest → (number : ℕ) → verdict_of rest (sums_of fates).sent ≡ No number
      → IsFirstLeft place before after number
  number_left [] are number is = absurd (not_yes number is)
  number_left (t ∷ rest) are number is = first_left t rest are number (sym (number_of ((sums_of fates).sent + 1) number is))

  -- what the verdict says
  pub verdict_is : (rest : List Taken) → BecomeOf place before after fates rest → IsVerdict place before after (verdict_of rest (sums_of fates).sent)
  verdict_is rest are = record { yes = verdict_map place before after fates rest are; no = number_left rest are }
