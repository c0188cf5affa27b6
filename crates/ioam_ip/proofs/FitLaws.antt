-- The headers on a chain lie within the packet, and their options fill them.
use Rattle.std.proofs.Common.{◌≡◌, ℕ, ◌+◌, List, [], ◌∷◌, Bool, true, false, IsTrue, cond, eqb, ◌||◌, slice_range, sym, subst, arith}
use Rattle.std.specs.List.{All}
use Rattle.std.proofs.lemmas.List.Elements.{All-nil, All-cons, All-head, All-rest}
use Rattle.ioam_base.specs.Leads.{Leads}
use Rattle.ioam_ip.specs.Chain.{size_by, Admits, CanPass, head_at, behind}
use Rattle.ioam_ip.specs.ChainOptions.{HeadFits}
use Rattle.ioam_ip.specs.Options.{IsFilled}
use Rattle.ioam_ip.specs.HeadsLeft.{AreHeads}
use Rattle.ioam_ip.specs.declared.chain.Kind.{Kind}
use Rattle.ioam_ip.specs.declared.chain.Kind.TheVariants.{HopByHop, Destination, Routing, Fragment, Nested, Upper}
use Rattle.ioam_ip.specs.declared.chain.HeadSpot.{HeadSpot}
use Rattle.ioam_ip.specs.declared.chain.Head.{Head}

filled_by : (p : List ℕ) (spot : HeadSpot) (hop target : Bool) (other : Kind) → IsTrue (hop || target)
    → Admits p spot (cond hop HopByHop (cond target Destination other))
    → IsFilled (slice_range p spot.at (spot.at + size_by p spot.at (cond hop HopByHop (cond target Destination other))))
filled_by p spot true target other options admits = admits.1
filled_by p spot false true other options admits = admits
filled_by p spot false false other options admits = absurd (cc options)

fits_at : (p : List ℕ) (spot : HeadSpot) → CanPass p spot → HeadFits p (head_at p spot)
fits_at p spot pass = record {
  ordered = omega arith;
  within = pass.0;
  filled = λ options. filled_by p spot (eqb spot.value 0) (eqb spot.value 60)
      (cond (eqb spot.value 43) Routing (cond (eqb spot.value 44) Fragment (cond (eqb spot.value 41) Nested Upper))) options pass.1;
}

reached_fit : (p : List ℕ) (spot : HeadSpot) (hs : List Head) (last : HeadSpot) → Leads (CanPass p) (head_at p) (behind p) spot hs last
    → All (HeadFits p) hs
reached_fit p spot [] last here = All-nil (λ head. HeadFits p head)
reached_fit p spot (h ∷ hs) last leads =
    let P : Head → Type 0 = λ head. HeadFits p head in
    All-cons P h hs (subst P (sym leads.1) (fits_at p spot leads.0)) (reached_fit p (behind p spot) hs last leads.2)

-- every header of the chain fits
pub heads_fit : (p : List ℕ) (hs : List Head) → AreHeads p hs → All (HeadFits p) hs
heads_fit p hs are = reached_fit p _ hs are.chain.last are.chain.reaches

-- the first of the headers that are left fits, and so do those behind it
pub first_fits : (p : List ℕ) (head : Head) (hs others : List Head) → hs ≡ head ∷ others → All (HeadFits p) hs
    → HeadFits p head × All (HeadFits p) others
first_fits p head hs others is fit =
    let P : Head → Type 0 = λ head. HeadFits p head in
    let Q : List Head → Type 0 = λ hs. All P hs in
    (All-head P head others (subst Q is fit), All-rest P head others hs is fit)
