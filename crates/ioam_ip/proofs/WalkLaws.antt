-- A walk along the chain, one header after the other.
use Rattle.std.proofs.Common.{◌≡◌, ℕ, List, [], ◌∷◌, ◌++◌, Bool, true, false, cond, ◌&&◌, ◌||◌, eqb, not, Option, refl, sym, ap, ◌∙◌, subst, arith}
use Rattle.std.specs.List.{list_any}
use Rattle.std.specs.Option.{option_or}
use Rattle.std.proofs.lemmas.List.Folds.{list_any-append}
use Rattle.std.proofs.lemmas.List.{append-nil}
use Rattle.std.proofs.lemmas.Grind.{common_steps}
use Rattle.ioam_base.proofs.LeadsLaws.{Leads-push}
use Rattle.ioam_ip.specs.Chain.{CanPass, EndsAt, head_at, behind, start, Reaches, Chain, IsSound, BadAt}
use Rattle.ioam_ip.specs.ChainOptions.{HeadOptions, OptionsOf, is_nested, outer_targets}
use Rattle.ioam_ip.specs.Findings.{has_ioam, first_limit}
use Rattle.ioam_ip.specs.Options.{Item}
use Rattle.ioam_ip.specs.Scan.{IsFoundIn}
use Rattle.ioam_ip.specs.Walks.{IsWhole}
use Rattle.ioam_ip.specs.declared.chain.HeadSpot.{HeadSpot}
use Rattle.ioam_ip.specs.declared.chain.Head.{Head}
use Rattle.ioam_ip.specs.declared.scan.Findings.{Findings}
use Rattle.ioam_ip.specs.declared.walks.Passed.{Passed}
use Rattle.ioam_ip.proofs.ChainOptionsLaws.{OptionsOf-push, outer_targets-push, any_from_joined, carries_by_chain}
use Rattle.ioam_ip.proofs.ChainLaws.{bad_not_sound}
use Rattle.ioam_ip.proofs.Looking.{first_limit-append}

-- the headers up to a spot were passed, and had this
pub record Walked (p : List ℕ) (spot : HeadSpot) (passed : Passed) : Type 0 where
  pub heads : List Head
  pub options : List Item
  pub outer : List Item
  pub reaches : Reaches p heads spot
  pub are_options : OptionsOf p heads options
  pub are_outer : OptionsOf p (outer_targets heads) outer
  pub inside : passed.inside ≡ list_any is_nested heads
  pub ioam : passed.ioam ≡ has_ioam options
  pub limit : passed.limit ≡ first_limit outer

-- what the outer Destination Options headers have, with one header more
outer_by : (p : List ℕ) (hs targets : List Head) (head : Head) (c : Bool) (os more : List Item) (was now found : Option ℕ)
    → targets ≡ outer_targets hs ++ cond c (head ∷ []) []
    → OptionsOf p (outer_targets hs) os → HeadOptions p head more → was ≡ first_limit os → found ≡ first_limit more
    → now ≡ cond c (option_or was found) was
    → (outer : List Item) × OptionsOf p targets outer × (now ≡ first_limit outer)
outer_by p hs targets head true os more was now found are outer here was_is found_is now_is =
    let P : List Head → Type 0 = λ hs. OptionsOf p hs (os ++ more) in (
      os ++ more,
      subst P (sym are) (OptionsOf-push p (outer_targets hs) os head more outer here),
      now_is ∙ ap (λ o. option_or o found) was_is ∙ ap (λ o. option_or (first_limit os) o) found_is ∙ sym (first_limit-append os more),
    )
outer_by p hs targets head false os more was now found are outer here was_is found_is now_is =
    let P : List Head → Type 0 = λ hs. OptionsOf p hs os in
    (os, subst P (sym (are ∙ append-nil (outer_targets hs))) outer, now_is ∙ was_is)

inside-push : (hs : List Head) (head : Head) (b c : Bool) → b ≡ list_any is_nested hs → c ≡ (b || is_nested head)
    → c ≡ list_any is_nested (hs ++ head ∷ [])
inside-push hs head b c was now = grind (arith, common_steps, list_any-append is_nested hs (head ∷ []))

ioam-append : (xs ys : List Item) (b c d : Bool) → b ≡ has_ioam xs → c ≡ has_ioam ys → d ≡ (b || c) → d ≡ has_ioam (xs ++ ys)
ioam-append xs ys b c d was found now = now ∙ ap (λ b. b || c) was ∙ ap (λ c. has_ioam xs || c) found ∙ sym (list_any-append _ xs ys)

-- one header more
pub Walked-push : (p : List ℕ) (spot next : HeadSpot) (was now : Passed) (found : Findings) (more : List Item) → Walked p spot was
    → CanPass p spot → next ≡ behind p spot → HeadOptions p (head_at p spot) more → IsFoundIn more found
    → now.inside ≡ (was.inside || eqb spot.value 41)
    → now.ioam ≡ (was.ioam || found.ioam)
    → now.limit ≡ cond (eqb spot.value 60 && not was.inside) (option_or was.limit found.limit) was.limit
    → Walked p next now
Walked-push p spot next was now found more walked pass is here in_more inside ioam limit =
    let head : Head = head_at p spot in
    let targets : outer_targets (walked.heads ++ head ∷ []) ≡ outer_targets walked.heads ++ cond (eqb spot.value 60 && not was.inside) (head ∷ []) [] =
    outer_targets-push walked.heads head ∙ ap (λ b. outer_targets walked.heads ++ cond (eqb spot.value 60 && not b) (head ∷ []) []) (sym walked.inside) in
    let o : (outer : List Item) × OptionsOf p (outer_targets (walked.heads ++ head ∷ [])) outer × (now.limit ≡ first_limit outer) =
    outer_by p walked.heads (outer_targets (walked.heads ++ head ∷ [])) head (eqb spot.value 60 && not was.inside) walked.outer more
    was.limit now.limit found.limit targets walked.are_outer here walked.limit in_more.limit limit in
    let P : HeadSpot → Type 0 = λ next. Reaches p (walked.heads ++ head ∷ []) next in
    record {
      heads = walked.heads ++ head ∷ [];
      options = walked.options ++ more;
      outer = o.0;
      reaches = subst P (sym is) (Leads-push (CanPass p) (head_at p) (behind p) (start p) walked.heads spot walked.reaches pass);
      are_options = OptionsOf-push p walked.heads walked.options head more walked.are_options here;
      are_outer = o.1;
      inside = inside-push walked.heads head was.inside now.inside walked.inside inside;
      ioam = ioam-append walked.options more was.ioam found.ioam now.ioam walked.ioam in_more.ioam ioam;
      limit = o.2;
    }

-- the end of the chain
pub Walked-ends : (p : List ℕ) (spot : HeadSpot) (passed : Passed) → Walked p spot passed → EndsAt p spot
    → IsWhole p passed.ioam spot.value spot.at passed.limit
Walked-ends p spot passed walked ends =
    let chain : Chain p walked.heads spot.value spot.at = record { last = spot; reaches = walked.reaches; ends = ends; value = refl; place = refl } in
    record {
      sound = record { heads = walked.heads; upper = spot.value; at = spot.at; chain = chain };
      ends = record { heads = walked.heads; chain = chain };
      carries = (
        (λ yes. record {
          heads = walked.heads;
          upper = spot.value;
          at = spot.at;
          chain = chain;
          has_ioam = any_from_joined p walked.heads walked.options walked.are_options (sym walked.ioam ∙ yes);
        }),
        (λ carries. walked.ioam ∙ carries_by_chain p walked.heads spot.value spot.at walked.options chain walked.are_options carries),
      );
      first = record {
        heads = walked.heads;
        upper = spot.value;
        at = spot.at;
        options = walked.outer;
        chain = chain;
        are_options = walked.are_outer;
        first = walked.limit;
      };
    }

-- a header that breaks it
pub Walked-bad : (p : List ℕ) (spot : HeadSpot) (passed : Passed) → Walked p spot passed → (CanPass p spot → ⊥) → (EndsAt p spot → ⊥)
    → BadAt p spot.at × (IsSound p → ⊥)
Walked-bad p spot passed walked no_pass no_end =
    let bad : BadAt p spot.at = record { spot = spot; heads = walked.heads; reaches = walked.reaches; no_pass = no_pass; no_end = no_end; place = refl } in
    (bad, bad_not_sound p spot.at bad)
