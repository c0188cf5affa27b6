-- Laws of the arrivals that were taken.
use Rattle.std.proofs.Common.{◌≡◌, ℕ, ◌+◌, ◌*◌, ◌++◌, false, List, [], ◌∷◌, length, sym, ◌∙◌, ap, subst, arith}
use Rattle.ioam_clock.specs.declared.sample.Sample.{Sample}
use Rattle.ioam_ip.specs.declared.layer.Layer.TheVariants.{Raw}
use Rattle.ioam_run_arrivals.specs.Fate.{Frame}
use Rattle.ioam_run_arrivals.specs.Texts.{texts_so_far}
use Rattle.ioam_run_arrivals.specs.Forwarding.{Forwards, taken}
use Rattle.ioam_run_arrivals.specs.declared.forwarding.Forwarding.{Forwarding}
use Rattle.ioam_topo.specs.declared.domain.Domain.{Domain}
use Rattle.ioam_run_bulk.specs.Generated.{arrival, arrivals, next_state, packet, state_at}
use Rattle.ioam_run_bulk.specs.Load.{AreSums, Loads, Takes}
use Rattle.ioam_run_bulk.specs.declared.load.Load.{Load}
use Rattle.ioam_run_bulk.proofs.GeneratedLaws.{arrivals-next, state-next}

pub Takes-sums : (domain : Domain) (readings : List (List Sample)) (seed count : ℕ) (gathered : Forwarding) → Takes domain readings seed count gathered
    → AreSums domain readings seed count gathered.sums
Takes-sums domain readings seed count gathered takes = record { fates = takes.told ++ takes.waiting; become = takes.are; stands = takes.sums }

-- the packet of the state arrives next
pub arrives : (seed k state time original : ℕ) (octets : List ℕ) → time ≡ k * 1000 → original ≡ length octets → octets ≡ packet state → state ≡ state_at seed k
    → record { port = record { 0 = 0 }; layer = Raw; entry = record { time = time; original = original; octets = octets } } ≡ arrival seed k
arrives seed k state time original octets when long is at =
    let F : ℕ → ℕ → List ℕ → Frame = λ t n xs. record { port = record { 0 = 0 }; layer = Raw; entry = record { time = t; original = n; octets = xs } } in
    ap (λ (t : ℕ). F t original octets) when ∙ ap (λ (n : ℕ). F (k * 1000) n octets) long ∙ ap (λ (xs : List ℕ). F (k * 1000) (length xs) xs) (is ∙ ap packet at)

pub Loads-next : (domain : Domain) (readings : List (List Sample)) (seed k : ℕ) (old new : Load) (frame : Frame)
    → (old.state ≡ state_at seed k → frame ≡ arrival seed k) → new.state ≡ next_state old.state → taken new.gathered ≡ taken old.gathered + 1
    → ((frames : List Frame) (texts : List (List ℕ)) → Forwards false domain readings frames texts old.gathered
    → Forwards false domain readings (frames ++ frame ∷ []) texts new.gathered)
    → Loads domain readings seed k old → Loads domain readings seed (k + 1) new
Loads-next domain readings seed k old new frame is state counted gathers loads =
    let none : List (List ℕ) = texts_so_far domain readings [] in
    let all : arrivals seed k ++ frame ∷ [] ≡ arrivals seed (k + 1) =
    ap (λ (f : Frame). arrivals seed k ++ f ∷ []) (is loads.state) ∙ sym (arrivals-next seed k) in
    record {
      state = state ∙ ap next_state loads.state ∙ sym (state-next seed k);
      count_is = omega (arith, counted, loads.count_is);
      takes = subst (λ (frames : List Frame). Forwards false domain readings frames none new.gathered) all (gathers (arrivals seed k) none loads.takes);
    }
