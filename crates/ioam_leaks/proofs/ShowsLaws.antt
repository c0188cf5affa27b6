-- A look for an options header that shows an IOAM option, one header after the other.
use Rattle.std.proofs.Common.{ℕ, List, [], ◌∷◌, refl, sym, subst}
use Rattle.ioam_base.specs.Leads.{Leads}
use Rattle.ioam_ip.specs.Chain.{CanPass, head_at, behind}
use Rattle.ioam_ip.specs.declared.chain.Head.{Head}
use Rattle.ioam_ip.specs.declared.chain.HeadSpot.{HeadSpot}
use Rattle.ioam_leaks.specs.Shows.{Shows, ShowsAt}
use Rattle.ioam_leaks.specs.declared.option.Part.{Part}

module _ (part : Part) (p : List ℕ) where
  pub Shows-here : (spot : HeadSpot) → ShowsAt part p spot → Shows part p spot
  Shows-here spot shows = record { headers = []; spot = spot; reaches = refl; shows = shows }

  -- what the chain shows behind a header
  pub Shows-on : (from : HeadSpot) → CanPass p from → Shows part p (behind p from) → Shows part p from
  Shows-on from pass shows = record {
    headers = head_at p from ∷ shows.headers;
    spot = shows.spot;
    reaches = (pass, refl, shows.reaches);
    shows = shows.shows;
  }

  on_by : (from : HeadSpot) (headers : List Head) (spot : HeadSpot) → Leads (CanPass p) (head_at p) (behind p) from headers spot
      → ShowsAt part p spot → (ShowsAt part p from → ⊥) → Shows part p (behind p from)
  on_by from [] spot here shows none = absurd (none (subst (λ (s : HeadSpot). ShowsAt part p s) (sym here) shows))
  on_by from (h ∷ headers) spot leads shows none = record { headers = headers; spot = spot; reaches = leads.2; shows = shows }

  -- where this header shows none, one behind it does
  pub Shows-next : (from : HeadSpot) → (ShowsAt part p from → ⊥) → Shows part p from → Shows part p (behind p from)
  Shows-next from none shows = on_by from shows.headers shows.spot shows.reaches shows.shows none

  last_by : (from : HeadSpot) (headers : List Head) (spot : HeadSpot) → Leads (CanPass p) (head_at p) (behind p) from headers spot
      → ShowsAt part p spot → (ShowsAt part p from → ⊥) → (CanPass p from → ⊥) → ⊥
  last_by from [] spot here shows none stops = none (subst (λ (s : HeadSpot). ShowsAt part p s) (sym here) shows)
  last_by from (h ∷ headers) spot leads shows none stops = stops leads.0

  -- and none behind one after which the chain doesn't go on
  pub Shows-last : (from : HeadSpot) → (ShowsAt part p from → ⊥) → (CanPass p from → ⊥) → Shows part p from → ⊥
  Shows-last from none stops shows = last_by from shows.headers shows.spot shows.reaches shows.shows none stops
