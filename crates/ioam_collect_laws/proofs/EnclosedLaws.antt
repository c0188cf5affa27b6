-- What is known of an arrival that is enclosed in a flow.
use Rattle.std.proofs.Common.{◌≡◌, ℕ, zero, suc, ◌+◌, ◌-◌, ◌<◌, ◌≤◌, Bool, true, cond, List, [], ◌∷◌, ◌++◌, length, length-append, Option, Some, None, slice_get, refl, sym, ap, ◌∙◌, subst, arith}
use Rattle.std.specs.Prelude.{IsSomeAnd, unwrap_or}
use Rattle.std.specs.List.{AllByRecursion}
use Rattle.std.proofs.lemmas.List.Sums.{count_by-le-length, sum_by_push}
use Rattle.std.proofs.lemmas.Bool.{eq-eqb}
use Rattle.ioam_run_texts.specs.Sample.{Sample}
use Rattle.ioam_run_texts.specs.Fate.{Frame, Fate, HasFate, AreFatesFrom}
use Rattle.ioam_run_texts.specs.Admit.{Admit}
use Rattle.ioam_run_texts.specs.Admit.TheVariants as admit
use Rattle.ioam_run_texts.specs.Counted.{enclosed_in, is_enclosed_in, is_of_flow}
use Rattle.ioam_run_texts.specs.Drawn.{direct_number, numbers_of}
use Rattle.ioam_run_texts.specs.Journey.{carried_by}
use Rattle.ioam_run_texts.specs.Plans.{PlansBy, PlansFlow, flow_trip, start_of, entry_of}
use Rattle.ioam_run_texts.specs.Itinerary.{Itinerary}
use Rattle.ioam_run_texts.specs.Visit.{Visit}
use Rattle.ioam_run_texts.specs.Inside.{Inside}
use Rattle.ioam_run_texts.specs.Stage.TheVariants.{Enter}
use Rattle.ioam_topo.specs.Domain.{flows, ports}
use Rattle.ioam_topo.specs.Sound.{IsFlow}
use Rattle.ioam_topo.specs.declared.domain.Domain.{Domain}
use Rattle.ioam_topo.specs.declared.ids.FlowId.{FlowId}
use Rattle.ioam_topo.specs.declared.parts.Flow.{Flow}
use Rattle.ioam_topo.specs.declared.parts.Port.{Port}
use Rattle.ioam_run_texts.specs.Numbers.{Numbers}
use Rattle.ioam_run_texts.proofs.FateLaws.{plans_of}
use Rattle.ioam_collect_laws.proofs.FewLaws.{few}
use Rattle.std.proofs.lemmas.List.Elements.{recursion_from_All}

-- what holds of all holds at a place
pub all_get : {X : Type 0} (P : X → Type 0) (xs : List X) (i : ℕ) (x : X) → AllByRecursion P xs → slice_get xs i ≡ Some x → P x
all_get P [] i x all there = absurd (cc there)
all_get P (y ∷ xs) zero x all there = subst P (ap (λ o. unwrap_or o x) there) all.0
all_get P (y ∷ xs) (suc i) x all there = all_get P xs i x all.1 there

-- the packet was enclosed in a flow behind so many of that flow
pub record Encloses (domain : Domain) (it : Itinerary) (id : FlowId) (numbers : Numbers) (count : ℕ) : Type 0 where
  pub flow : Flow
  pub found : slice_get (flows domain) id.0 ≡ Some flow
  pub sound : IsFlow flow
  pub direct : numbers.direct ≡ direct_number flow.direct flow.every count
  pub few : length it.visits ≤ flow.hops + 1

pub none_carried : (visits : List Visit) → carried_by visits None ≡ None
none_carried [] = refl
none_carried (visit ∷ visits) = refl

carried_is : (visits : List Visit) (inside : Inside) (id : FlowId) (numbers : Numbers) → Some (id, numbers) ≡ carried_by visits (Some inside)
    → (id ≡ inside.flow) × (numbers ≡ inside.numbers)
carried_is [] inside id numbers is = absurd (cc is)
carried_is (visit ∷ visits) inside id numbers is =
    let same : (id, numbers) ≡ (inside.flow, inside.numbers) = ap (λ (o : Option (FlowId × Numbers)). unwrap_or o (id, numbers)) is in
    (ap (λ (c : FlowId × Numbers). c.0) same, ap (λ (c : FlowId × Numbers). c.1) same)

module _ (domain : Domain) (readings : List (List Sample)) (earlier : List Itinerary) (time : ℕ) (it : Itinerary) (id : FlowId) (numbers : Numbers)
    (some : it.carried ≡ Some (id, numbers)) where
  of_flow : (from : Port) (other : FlowId) (flow : Flow) (packet : List ℕ) (limit : Option ℕ) → slice_get (flows domain) other.0 ≡ Some flow
      → PlansFlow domain readings (enclosed_in other.0 earlier) from time other flow packet limit it → Encloses domain it id numbers (enclosed_in id.0 earlier)
  of_flow from other flow packet limit found plans =
      let count : ℕ = enclosed_in other.0 earlier in
      let drawn : Numbers = numbers_of domain readings flow count limit time in
      let t = flow_trip domain other flow drawn plans.header.target plans.header.hops packet in
      let inside : Inside = record { flow = other; numbers = drawn; exit = flow.exit; target = plans.header.target; hops = plans.header.hops - 1 } in
      let same = carried_is it.visits inside id numbers (sym some ∙ plans.journey.carried) in
      let sound : IsFlow flow = all_get IsFlow (flows domain) other.0 flow (recursion_from_All IsFlow (flows domain) domain.sound_flows.sound) found in
      let room = few domain t.target t.size inside (Enter (start_of from time plans.header.hops) (entry_of flow limit)) it.visits plans.journey.last
      sound.hops_some plans.journey.reaches in
      record {
        flow = flow;
        found = ap (λ (f : FlowId). slice_get (flows domain) f.0) same.0 ∙ found;
        sound = sound;
        direct = ap (λ (n : Numbers). n.direct) same.1 ∙ ap (λ (f : FlowId). direct_number flow.direct flow.every (enclosed_in f.0 earlier)) (sym same.0);
        few = room;
      }

  by_flow : (from : Port) (other : FlowId) (flow : Option Flow) (packet : List ℕ) (limit : Option ℕ) → slice_get (flows domain) other.0 ≡ flow
      → IsSomeAnd flow (λ f. PlansFlow domain readings (enclosed_in other.0 earlier) from time other f packet limit it)
      → Encloses domain it id numbers (enclosed_in id.0 earlier)
  by_flow from other None packet limit found plans = absurd plans
  by_flow from other (Some flow) packet limit found plans = of_flow from other flow packet limit found plans

  by_answer : (from : Port) (answer : Admit) → PlansBy domain readings earlier time it answer from → Encloses domain it id numbers (enclosed_in id.0 earlier)
  by_answer from (admit.Plain packet) plans = absurd (cc (sym some ∙ plans.journey.carried ∙ none_carried it.visits))
  by_answer from (admit.Drop reason) plans = absurd (cc (sym some ∙ plans.carried))
  by_answer from (admit.Enclose other packet limit) plans = by_flow from other (slice_get (flows domain) other.0) packet.now limit refl plans

  by_port : (from : Option Port) (answer : Admit) → IsSomeAnd from (PlansBy domain readings earlier time it answer)
      → Encloses domain it id numbers (enclosed_in id.0 earlier)
  by_port None answer plans = absurd plans
  by_port (Some from) answer plans = by_answer from answer plans

pub encloses : (domain : Domain) (readings : List (List Sample)) (earlier : List Itinerary) (frame : Frame) (fate : Fate) (id : FlowId) (numbers : Numbers)
    → HasFate domain readings earlier frame fate → fate.itinerary.carried ≡ Some (id, numbers)
    → Encloses domain fate.itinerary id numbers (enclosed_in id.0 earlier)
encloses domain readings earlier frame fate id numbers has some =
    by_port domain readings earlier frame.entry.time fate.itinerary id numbers some (slice_get (ports domain) frame.port.0) has.answer
    (plans_of domain readings earlier frame fate has).1

-- ---- how many are counted

more_of : (flow : ℕ) (earlier : List Itinerary) (it : Itinerary)
    → enclosed_in flow (earlier ++ it ∷ []) ≡ enclosed_in flow earlier + cond (is_enclosed_in flow it) 1 0
more_of flow earlier it = sum_by_push (λ (i : Itinerary). cond (is_enclosed_in flow i) 1 0) earlier it

count_few : (flow : ℕ) (earlier : List Itinerary) → enclosed_in flow earlier ≤ length earlier
count_few flow earlier = count_by-le-length (is_enclosed_in flow) earlier

-- one of the flow counts for those behind it
count_up : (flow : FlowId) (numbers : Numbers) (earlier : List Itinerary) (it : Itinerary) → it.carried ≡ Some (flow, numbers)
    → enclosed_in flow.0 (earlier ++ it ∷ []) ≡ enclosed_in flow.0 earlier + 1
count_up flow numbers earlier it some =
    let here : is_enclosed_in flow.0 it ≡ true = ap (λ (c : Option (FlowId × Numbers)). is_of_flow flow.0 c) some ∙ eq-eqb flow.0 flow.0 refl in
    let one : cond {A = ℕ} (is_enclosed_in flow.0 it) 1 0 ≡ 1 = ap (λ (b : Bool). cond {A = ℕ} b 1 0) here in
    more_of flow.0 earlier it ∙ omega (arith, one)

-- what is known of the arrival at a place: at least so many were counted before, and fewer than this
pub record Known (domain : Domain) (it : Itinerary) (id : FlowId) (numbers : Numbers) (least most : ℕ) : Type 0 where
  pub count : ℕ
  pub is : Encloses domain it id numbers count
  pub no_less : least ≤ count
  pub below : count < most

module _ (domain : Domain) (readings : List (List Sample)) where
  pub known : (earlier : List Itinerary) (frames : List Frame) (fates : List Fate) (i : ℕ) (fate : Fate) (id : FlowId) (numbers : Numbers)
      → AreFatesFrom domain readings earlier frames fates → slice_get fates i ≡ Some fate → fate.itinerary.carried ≡ Some (id, numbers)
      → Known domain fate.itinerary id numbers (enclosed_in id.0 earlier) (length earlier + length frames)
  known earlier [] [] i fate id numbers are there some = absurd (cc there)
  known earlier [] (f ∷ fates) i fate id numbers are there some = absurd are
  known earlier (frame ∷ frames) [] i fate id numbers are there some = absurd are
  known earlier (frame ∷ frames) (f ∷ fates) zero fate id numbers are there some =
      let same : f ≡ fate = ap (λ o. unwrap_or o fate) there in
      let has = subst (HasFate domain readings earlier frame) same are.0 in
      let few = count_few id.0 earlier in
      record { count = enclosed_in id.0 earlier; is = encloses domain readings earlier frame fate id numbers has some; no_less = omega arith; below = omega arith }
  known earlier (frame ∷ frames) (f ∷ fates) (suc i) fate id numbers are there some =
      let it = f.itinerary in
      let more = known (earlier ++ it ∷ []) frames fates i fate id numbers are.1 there some in
      let longer = length-append earlier (it ∷ []) in
      let up = more_of id.0 earlier it in
      let least = more.no_less in
      let most = more.below in
      record { count = more.count; is = more.is; no_less = omega arith; below = omega arith }

  -- two arrivals of one flow have different counts
  pub same_place : (earlier : List Itinerary) (frames : List Frame) (fates : List Fate) (i j : ℕ) (a b : Fate) (id : FlowId) (m n : Numbers)
      → AreFatesFrom domain readings earlier frames fates → slice_get fates i ≡ Some a → slice_get fates j ≡ Some b
      → a.itinerary.carried ≡ Some (id, m) → b.itinerary.carried ≡ Some (id, n)
      → ((k l : ℕ) → Encloses domain a.itinerary id m k → Encloses domain b.itinerary id n l → k ≡ l) → i ≡ j
  same_place earlier [] [] i j a b id m n are there here one other apart = absurd (cc there)
  same_place earlier [] (f ∷ fates) i j a b id m n are there here one other apart = absurd are
  same_place earlier (frame ∷ frames) [] i j a b id m n are there here one other apart = absurd are
  same_place earlier (frame ∷ frames) (f ∷ fates) zero zero a b id m n are there here one other apart = refl
  same_place earlier (frame ∷ frames) (f ∷ fates) zero (suc j) a b id m n are there here one other apart =
      let same : f ≡ a = ap (λ o. unwrap_or o a) there in
      let its : f.itinerary.carried ≡ Some (id, m) = ap (λ (x : Fate). x.itinerary.carried) same ∙ one in
      let first = encloses domain readings earlier frame a id m (subst (HasFate domain readings earlier frame) same are.0) one in
      let later = known (earlier ++ f.itinerary ∷ []) frames fates j b id n are.1 here other in
      let more = count_up id m earlier f.itinerary its in
      let least = later.no_less in
      let equal = apart (enclosed_in id.0 earlier) later.count first later.is in
      absurd (omega (arith, more, least, equal))
  same_place earlier (frame ∷ frames) (f ∷ fates) (suc i) zero a b id m n are there here one other apart =
      let same : f ≡ b = ap (λ o. unwrap_or o b) here in
      let its : f.itinerary.carried ≡ Some (id, n) = ap (λ (x : Fate). x.itinerary.carried) same ∙ other in
      let first = encloses domain readings earlier frame b id n (subst (HasFate domain readings earlier frame) same are.0) other in
      let later = known (earlier ++ f.itinerary ∷ []) frames fates i a id m are.1 there one in
      let more = count_up id n earlier f.itinerary its in
      let least = later.no_less in
      let equal = apart later.count (enclosed_in id.0 earlier) later.is first in
      absurd (omega (arith, more, least, equal))
  same_place earlier (frame ∷ frames) (f ∷ fates) (suc i) (suc j) a b id m n are there here one other apart =
      ap suc (same_place (earlier ++ f.itinerary ∷ []) frames fates i j a b id m n are.1 there here one other apart)
