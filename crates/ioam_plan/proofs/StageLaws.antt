-- The visits that lead to a stage, and one more.
use Rattle.std.proofs.Common.{◌≡◌, ℕ, ◌<◌, true, false, List, [], ◌∷◌, ◌++◌, length, length-append, Option, Some, None, refl, sym, ap, subst, arith}
use Rattle.std.specs.Prelude.{All, IsSome}
use Rattle.std.proofs.lemmas.List.Elements.{All-nil, All-push}
use Rattle.ioam_plan.specs.declared.itinerary.Visit.{Visit}
use Rattle.ioam_plan.specs.declared.stage.Inside.{Inside}
use Rattle.ioam_plan.specs.declared.stage.Stage.{Stage}
use Rattle.ioam_plan.specs.declared.stage.Stage.TheVariants.{Enter, At, Gone, Out}
use Rattle.ioam_plan.specs.Rides.{Sends}
use Rattle.ioam_plan.specs.Steps.{LedIn, LedTo, Passes, HasRidden, is_out, extra}

more_than_none : (visits : List Visit) (visit : Visit) → 0 < length (visits ++ visit ∷ [])
more_than_none visits visit = omega (arith, length-append visits (visit ∷ []))

first_sends : (visits : List Visit) (visit : Visit) → visits ≡ [] → Sends visit → All Sends (visits ++ visit ∷ [])
first_sends visits visit none sends =
    let P : List Visit → Type 0 = λ vs. All Sends (vs ++ visit ∷ []) in
    let empty : List Visit = [] in
    subst P (sym none) (All-push Sends empty visit (All-nil Sends) sends)

led_in : (size : ℕ) (inside : Inside) (visits : List Visit) (visit : Visit) (stage next : Stage)
    → Passes size (Some inside) visit stage next → LedIn size stage visits → LedIn size next (visits ++ visit ∷ [])
led_in size inside visits visit (Enter spot entry) (At next) passes led =
    (passes.0, more_than_none visits visit, first_sends visits visit led passes.1)
led_in size inside visits visit (Enter spot entry) (Enter next other) passes led = absurd passes
led_in size inside visits visit (Enter spot entry) (Gone port) passes led = absurd passes
led_in size inside visits visit (Enter spot entry) (Out node inner) passes led = absurd passes
led_in size inside visits visit (At spot) (At next) passes led =
    (led.0, more_than_none visits visit, All-push Sends visits visit led.2 passes)
led_in size inside visits visit (At spot) (Gone port) passes led =
    (led.0, more_than_none visits visit, All-push Sends visits visit led.2 passes)
led_in size inside visits visit (At spot) (Out node inner) passes led =
    (led.0, record { front = visits; last = visit; are = refl; some = led.1; sends = led.2; stays = passes.1 })
led_in size inside visits visit (At spot) (Enter next other) passes led = absurd passes
led_in size inside visits visit (Gone port) next passes led = absurd passes
led_in size inside visits visit (Out node inner) next passes led = absurd passes

none_inside : IsSome {T = Inside} None → ⊥
none_inside some = let never : false ≡ true = some in cc

led_plain : (size : ℕ) (visits : List Visit) (visit : Visit) (stage next : Stage)
    → Passes size None visit stage next → LedTo size None stage visits → LedTo size None next (visits ++ visit ∷ [])
led_plain size visits visit (Enter spot entry) (At next) passes led = (refl, All-push Sends visits visit led.1 passes.1)
led_plain size visits visit (Enter spot entry) (Enter next other) passes led = absurd passes
led_plain size visits visit (Enter spot entry) (Gone port) passes led = absurd passes
led_plain size visits visit (Enter spot entry) (Out node inner) passes led = absurd passes
led_plain size visits visit (At spot) (At next) passes led = (refl, All-push Sends visits visit led.1 passes)
led_plain size visits visit (At spot) (Gone port) passes led = (refl, All-push Sends visits visit led.1 passes)
led_plain size visits visit (At spot) (Out node inner) passes led = absurd (none_inside passes.0)
led_plain size visits visit (At spot) (Enter next other) passes led = absurd passes
led_plain size visits visit (Gone port) next passes led = absurd passes
led_plain size visits visit (Out node inner) next passes led = absurd passes

pub led_push : (size : ℕ) (inside : Option Inside) (visits : List Visit) (visit : Visit) (stage next : Stage)
    → Passes size inside visit stage next → LedTo size inside stage visits → LedTo size inside next (visits ++ visit ∷ [])
led_push size None visits visit stage next passes led = led_plain size visits visit stage next passes led
led_push size (Some inside) visits visit stage next passes led = led_in size inside visits visit stage next passes led

no_front : (front : List Visit) (last : Visit) → [] ≡ front ++ last ∷ [] → ⊥
no_front front last is = omega (arith, ap length is, length-append front (last ∷ []))

ridden_in : (size : ℕ) (inside : Inside) (visits : List Visit) (stage : Stage) → LedIn size stage visits
    → HasRidden size (Some inside) (is_out stage) visits
ridden_in size inside [] (Enter spot entry) led = refl
ridden_in size inside (visit ∷ visits) (Enter spot entry) led = let never : visit ∷ visits ≡ [] = led in absurd (cc)
ridden_in size inside [] (At spot) led = refl
ridden_in size inside (visit ∷ visits) (At spot) led = (led.0, (led.1, led.2))
ridden_in size inside [] (Gone port) led = refl
ridden_in size inside (visit ∷ visits) (Gone port) led = (led.0, (led.1, led.2))
ridden_in size inside [] (Out node inner) led = absurd (no_front led.1.front led.1.last led.1.are)
ridden_in size inside (visit ∷ visits) (Out node inner) led = (led.0, led.1)

pub ridden : (size : ℕ) (inside : Option Inside) (visits : List Visit) (stage : Stage) → LedTo size inside stage visits
    → HasRidden size inside (is_out stage) visits
ridden size None visits stage led = led
ridden size (Some inside) visits stage led = ridden_in size inside visits stage led

-- a packet that passes on didn't come out before
pub passes_before : (size : ℕ) (inside : Option Inside) (visit : Visit) (stage next : Stage) → Passes size inside visit stage next → extra stage ≡ 0
passes_before size inside visit (Enter spot entry) next passes = refl
passes_before size inside visit (At spot) next passes = refl
passes_before size inside visit (Gone port) next passes = refl
passes_before size inside visit (Out node inner) next passes = absurd passes
