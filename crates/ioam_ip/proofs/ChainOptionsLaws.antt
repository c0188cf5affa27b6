-- Laws of the options on the chain of a packet.
use Rattle.std.proofs.Common.{◌≡◌, ◌⊎◌, ℕ, zero, suc, inl, inr, List, [], ◌∷◌, ◌++◌, Bool, true, false, cond, ◌&&◌, ◌||◌, not, Option, refl, sym, ap, ◌∙◌, subst, arith, append_assoc}
use Rattle.std.specs.List.{list_any, Any}
use Rattle.std.proofs.lemmas.List.Folds.{list_any-append}
use Rattle.std.specs.Bool.{MatchBool}
use Rattle.std.proofs.lemmas.Bool.Decides.{nat_tests}
use Rattle.std.proofs.lemmas.List.{append-nil}
use Rattle.ioam_ip.specs.Chain.{Chain}
use Rattle.ioam_ip.specs.ChainOptions.{octets_of, is_options_head, HeadOptions, OptionsOf, HasIoam, CarriesIoam, LimitOf, is_nested, is_destination, outer_targets}
use Rattle.ioam_ip.specs.Findings.{has_ioam, first_limit}
use Rattle.ioam_ip.specs.Options.{Item, AreOptions}
use Rattle.ioam_ip.specs.declared.chain.Head.{Head}
use Rattle.ioam_ip.proofs.OptionsLaws.{AreOptions-unique}
use Rattle.ioam_ip.proofs.ChainLaws.{Chain-unique}

either : (b : Bool) (head : List ℕ) (os others : List Item) → MatchBool b (AreOptions head os) (os ≡ [])
    → MatchBool b (AreOptions head others) (others ≡ []) → os ≡ others
either true head os others a b = AreOptions-unique head os others a b
either false head os others a b = a ∙ sym b

-- these headers have one list of options
pub OptionsOf-unique : (p : List ℕ) (hs : List Head) (os others : List Item) → OptionsOf p hs os → OptionsOf p hs others → os ≡ others
OptionsOf-unique p [] os others a b = a ∙ sym b
OptionsOf-unique p (head ∷ hs) os others a b =
    let here : a.0 ≡ b.0 = either (is_options_head head) (octets_of p head) a.0 b.0 a.2 b.2 in
    let more : a.1 ≡ b.1 = OptionsOf-unique p hs a.1 b.1 a.3 b.3 in
    a.4 ∙ ap (λ xs. xs ++ a.1) here ∙ ap (λ ys. b.0 ++ ys) more ∙ sym b.4

-- one header more
pub OptionsOf-push : (p : List ℕ) (hs : List Head) (os : List Item) (head : Head) (more : List Item)
    → OptionsOf p hs os → HeadOptions p head more → OptionsOf p (hs ++ head ∷ []) (os ++ more)
OptionsOf-push p [] os head more are here = (more, [], here, refl, ap (λ xs. xs ++ more) are ∙ sym (append-nil more))
OptionsOf-push p (h ∷ hs) os head more are here =
    (are.0, are.1 ++ more, are.2, OptionsOf-push p hs are.1 head more are.3 here, ap (λ xs. xs ++ more) are.4 ∙ append_assoc are.0 are.1 more)

apart : (head : Head) → is_nested head ≡ true → is_destination head ≡ false
apart head nested = grind (arith, nat_tests)

first_target : (n d : Bool) (head : Head) → (n ≡ true → d ≡ false)
    → cond n [] (cond d (head ∷ []) []) ≡ cond (d && true) (head ∷ []) []
first_target true true head apart = absurd (cc (apart refl))
first_target true false head apart = refl
first_target false true head apart = refl
first_target false false head apart = refl

more_targets : (n d c e : Bool) (h head : Head) (xs ys : List Head) → ys ≡ xs ++ cond (c && not e) (head ∷ []) []
    → cond n [] (cond d (h ∷ ys) ys) ≡ cond n [] (cond d (h ∷ xs) xs) ++ cond (c && not (n || e)) (head ∷ []) []
more_targets true d true e h head xs ys is = refl
more_targets true d false e h head xs ys is = refl
more_targets false true c e h head xs ys is = ap (λ zs. h ∷ zs) is
more_targets false false c e h head xs ys is = is

pub outer_targets-push : (hs : List Head) (head : Head)
    → outer_targets (hs ++ head ∷ []) ≡ outer_targets hs ++ cond (is_destination head && not (list_any is_nested hs)) (head ∷ []) []
outer_targets-push [] head = first_target (is_nested head) (is_destination head) head (apart head)
outer_targets-push (h ∷ hs) head = more_targets (is_nested h) (is_destination h) (is_destination head) (list_any is_nested hs) h head
    (outer_targets hs) (outer_targets (hs ++ head ∷ [])) (outer_targets-push hs head)

or_left : (a b : Bool) → a ≡ true → (a || b) ≡ true
or_left true b is = refl
or_left false b is = absurd (cc is)

or_right : (a b : Bool) → b ≡ true → (a || b) ≡ true
or_right true b is = refl
or_right false b is = is

cases : (a : Bool) → (a ≡ true) ⊎ (a ≡ false)
cases true = inl refl
cases false = inr refl

or_other : (a b : Bool) → (a || b) ≡ true → a ≡ false → b ≡ true
or_other true b is no_a = absurd (cc no_a)
or_other false b is no_a = is

-- an IOAM option among two lists is in one of them
joined_ioam : (os first others : List Item) → os ≡ first ++ others → has_ioam os ≡ (has_ioam first || has_ioam others)
joined_ioam os first others is = ap (λ os. has_ioam os) is ∙ list_any-append _ first others

-- options that have an IOAM option are those of an options header
holds : (p : List ℕ) (head : Head) (os : List Item) → HeadOptions p head os → has_ioam os ≡ true → HasIoam p head
holds p head os are ioam = by_kind (is_options_head head) refl are where
  by_kind : (b : Bool) → is_options_head head ≡ b → MatchBool b (AreOptions (octets_of p head) os) (os ≡ []) → HasIoam p head
  by_kind true is are = record { holds_options = is; options = os; are_options = are; ioam = ioam }
  by_kind false is none = absurd (cc (sym ioam ∙ ap (λ os. has_ioam os) none))

-- some header has the IOAM option that the joined options have
pub any_from_joined : (p : List ℕ) (hs : List Head) (os : List Item) → OptionsOf p hs os → has_ioam os ≡ true → Any (HasIoam p) hs
any_from_joined p [] os are ioam = absurd (cc (sym ioam ∙ ap (λ os. has_ioam os) are))
any_from_joined p (head ∷ hs) os are ioam =
    let either_part : (has_ioam are.0 || has_ioam are.1) ≡ true = sym (joined_ioam os are.0 are.1 are.4) ∙ ioam in
    elim (cases (has_ioam are.0)) [
      | inl here ↦ (zero, head, omega arith, refl, holds p head are.0 are.2 here)
      | inr elsewhere ↦
          let found : Any (HasIoam p) hs = any_from_joined p hs are.1 are.3 (or_other (has_ioam are.0) (has_ioam are.1) either_part elsewhere) in
          (suc found.0, found.1, omega (arith, found.2), found.3, found.4)
    ]

-- the joined options have the IOAM option that some header has
pub joined_from_any : (p : List ℕ) (hs : List Head) (os : List Item) → OptionsOf p hs os → Any (HasIoam p) hs → has_ioam os ≡ true
joined_from_any p [] os are (k, x, below, same, has) = absurd (omega (arith, below))
joined_from_any p (head ∷ hs) os are (zero, x, below, same, has) =
    let P : Head → Type 0 = λ x. HasIoam p x in
    let here : HasIoam p head = subst P (sym same) has in
    let Q : Bool → Type 0 = λ b. MatchBool b (AreOptions (octets_of p head) are.0) (are.0 ≡ []) in
    let one : here.options ≡ are.0 = AreOptions-unique (octets_of p head) here.options are.0 here.are_options (subst Q here.holds_options are.2) in
    joined_ioam os are.0 are.1 are.4 ∙ or_left (has_ioam are.0) (has_ioam are.1) (ap (λ os. has_ioam os) (sym one) ∙ here.ioam)
joined_from_any p (head ∷ hs) os are (suc k, x, below, same, has) =
    joined_ioam os are.0 are.1 are.4
    ∙ or_right (has_ioam are.0) (has_ioam are.1) (joined_from_any p hs are.1 are.3 (k, x, omega (arith, below), same, has))

-- whether a sound packet carries IOAM is told by the options of its one chain
pub carries_by_chain : (p : List ℕ) (hs : List Head) (upper at : ℕ) (os : List Item) → Chain p hs upper at → OptionsOf p hs os
    → CarriesIoam p → has_ioam os ≡ true
carries_by_chain p hs upper at os chain are carries =
    let same : hs ≡ carries.heads = (Chain-unique p hs upper at carries.heads carries.upper carries.at chain carries.chain).0 in
    let P : List Head → Type 0 = λ hs. Any (HasIoam p) hs in
    joined_from_any p hs os are (subst P (sym same) carries.has_ioam)

-- a packet has one encapsulation limit, or none
pub LimitOf-unique : (p : List ℕ) (a b : Option ℕ) → LimitOf p a → LimitOf p b → a ≡ b
LimitOf-unique p a b la lb =
    let same : la.heads ≡ lb.heads = (Chain-unique p la.heads la.upper la.at lb.heads lb.upper lb.at la.chain lb.chain).0 in
    let P : List Head → Type 0 = λ hs. OptionsOf p (outer_targets hs) la.options in
    let one : la.options ≡ lb.options = OptionsOf-unique p (outer_targets lb.heads) la.options lb.options (subst P same la.are_options) lb.are_options in
    la.first ∙ ap (λ os. first_limit os) one ∙ sym lb.first
