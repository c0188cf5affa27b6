use Rattle.std.proofs.Common.{◌≤◌, length, subst, sym}
use Rattle.ioam_leaks.specs.Shows.{Shows, ShowsAt}
use Rattle.ioam_leaks.specs.Spots.{spot_of}
use Rattle.ioam_leaks.proofs.ShowsLaws.{Shows-last, Shows-next, Shows-on}
use Rattle.ioam_leaks.proofs.walk.shows.Goals as goal
use Rattle.ioam_ip.specs.declared.chain.HeadSpot.{HeadSpot}

pub headers-preserved : goal.headers-preserved
headers-preserved c =
    let none : ShowsAt c.args.part c.args.packet.now (spot_of c.headers.spot) → ⊥ = λ shows. absurd (cc (c.if-shows_at.false, c.shows_at.ensures.1 shows)) in
    let P : HeadSpot → Type 0 = λ next. Shows c.args.part c.args.packet.now next in
    let Q : HeadSpot → Type 0 = λ next. next.at ≤ length c.args.packet.now in (
      (λ shows. subst P (sym c.in-Some.ensures.1) (Shows-next c.args.part c.args.packet.now (spot_of c.headers.spot) none (c.headers.invariant.0 shows))),
      (λ shows. c.headers.invariant.1 (Shows-on c.args.part c.args.packet.now (spot_of c.headers.spot) c.in-Some.ensures.0 (subst P c.in-Some.ensures.1 shows))),
      subst Q (sym c.in-Some.ensures.1) c.in-Some.ensures.0.0,
    )

pub returns-in-None : goal.returns-in-None
returns-in-None c = (
  λ no. absurd (cc no),
  λ shows. absurd (Shows-last c.args.part c.args.packet.now (spot_of c.headers.spot)
      (λ here. absurd (cc (c.if-shows_at.false, c.shows_at.ensures.1 here))) c.in-None.ensures (c.headers.invariant.0 shows)),
)
