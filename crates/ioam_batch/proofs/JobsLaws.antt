-- Laws of jobs in a batch and in its chunks.
use Rattle.std.proofs.Common.{◌≡◌, ℕ, ◌+◌, ◌<◌, ◌≤◌, List, [], ◌∷◌, ◌++◌, length, get_or, set, take, drop, All, refl, sym, ap, ◌∙◌, subst, inl, inr, add-zero, arith}
use Rattle.std.specs.List.{AllZip}
use Rattle.std.specs.Prelude.{vec_capacity}
use Rattle.std.proofs.lemmas.Grind.{drop_more_same}
use Rattle.std.proofs.lemmas.List.{get_or-drop, take_all, take_more, take_more_set, drop-set-lt}
use Rattle.std.proofs.lemmas.List.Elements.{AllZip-push, All-nil, All-cons, All-head, All-tail}
use Rattle.std.proofs.lemmas.List.Sums.{sum_by-cons}
use Rattle.ioam_batch.specs.Batches.{IsSmall, MayRun, all_reserved}
use Rattle.ioam_batch.specs.Jobs.{HasRun, HasTaps, Holds, IsFresh, KeepsMemory, reserved_of}
use Rattle.ioam_batch.specs.declared.job.Job.{Job}
use Rattle.ioam_batch.proofs.RunLaws.{taps-fresh, taps-run}
use Rattle.ioam_clock.specs.declared.sample.Sample.{Sample}
use Rattle.ioam_topo.specs.declared.domain.Domain.{Domain}

-- what is so of the pairs of two lists and of two more is so of both together
pub AllZip-both : {X : Type 0} (R : X → X → Type 0) (xs ys vs ws : List X) → AllZip R xs vs → AllZip R ys ws → AllZip R (xs ++ ys) (vs ++ ws)
AllZip-both R [] ys [] ws first others = others
AllZip-both R [] ys (v ∷ vs) ws first others = absurd first
AllZip-both R (x ∷ xs) ys [] ws first others = absurd first
AllZip-both R (x ∷ xs) ys (v ∷ vs) ws first others = (first.0, AllZip-both R xs ys vs ws first.1 others)

-- one more of the list is so, and the others are as they were
pub record Reached {X : Type 0} (R : X → X → Type 0) (xs ys : List X) (i : ℕ) : Type 0 where
  pub done : AllZip R (take i xs) (take i ys)
  pub others : drop i ys ≡ drop i xs

reached_at : {X : Type 0} (R : X → X → Type 0) (xs ys : List X) (i : ℕ) (d : X) → Reached R xs ys i → get_or ys i d ≡ get_or xs i d
reached_at R xs ys i d so = sym (get_or-first i ys d) ∙ ap (λ zs. get_or zs 0 d) so.others ∙ get_or-first i xs d
  where
    get_or-first : {Y : Type 0} (n : ℕ) (zs : List Y) (e : Y) → get_or (drop n zs) 0 e ≡ get_or zs n e
    get_or-first n zs e = get_or-drop n zs 0 e ∙ ap (λ k. get_or zs k e) (add-zero n)

pub Reached-is : {X : Type 0} (R : X → X → Type 0) (P : X → Type 0) (xs ys : List X) (i : ℕ) (d : X) → Reached R xs ys i → i < length xs → All P xs → P (get_or ys i d)
Reached-is R P xs ys i d so inside all = subst P (sym (reached_at R xs ys i d so)) (all i d inside)

pub Reached-more : {X : Type 0} (R : X → X → Type 0) (xs ys : List X) (i : ℕ) (x y : X) → Reached R xs ys i → i < length xs → length ys ≡ length xs
    → x ≡ get_or ys i x → R x y → Reached R xs (set ys i y) (i + 1)
Reached-more {X} R xs ys i x y so inside size at is =
    let P : List X → Type 0 = λ zs. AllZip R zs (take (i + 1) (set ys i y)) in
    let Q : List X → Type 0 = λ zs. AllZip R (take i xs ++ x ∷ []) zs in
    record {
      done = subst P (sym (take_more xs i x inside ∙ ap (λ z. take i xs ++ z ∷ []) (sym (at ∙ reached_at R xs ys i x so))))
          (subst Q (sym (take_more_set ys i y (omega (arith, inside, size)))) (AllZip-push R (take i xs) (take i ys) x y so.done is));
      others = drop-set-lt (i + 1) ys i y (omega arith) ∙ drop_more_same ys xs i so.others;
    }

pub Reached-all : {X : Type 0} (R : X → X → Type 0) (xs ys : List X) (i : ℕ) → Reached R xs ys i → length xs ≤ i → length ys ≡ length xs → AllZip R xs ys
Reached-all {X} R xs ys i so past size =
    let P : List X → Type 0 = λ zs. AllZip R zs (take i ys) in
    let Q : List X → Type 0 = λ zs. AllZip R xs zs in
    subst Q (take_all i ys (omega (arith, past, size))) (subst P (take_all i xs past) so.done)

module _ (domain : Domain) (readings : List (List Sample)) where
  -- a job that ran may run
  pub may_all : (old new : List Job) → AllZip (HasRun domain readings) old new → AllZip (MayRun domain readings) old new
  may_all [] [] ran = tt
  may_all [] (k ∷ ks) ran = absurd ran
  may_all (j ∷ js) [] ran = absurd ran
  may_all (j ∷ js) (k ∷ ks) ran = (inl ran.0, may_all js ks ran.1)

  pub may_none : (jobs : List Job) → AllZip (MayRun domain readings) jobs jobs
  may_none [] = tt
  may_none (job ∷ jobs) = (inr refl, may_none jobs)

  may_hold : (old new : Job) → MayRun domain readings old new → Holds domain old → Holds domain new
  may_hold old new may holds = elim may [ inl has ↦ has.keeps holds | inr same ↦ subst (Holds domain) (sym same) holds ]

  -- what holds of each job before holds of each behind
  pub holds-stay : (old new : List Job) → AllZip (MayRun domain readings) old new → All (Holds domain) old → All (Holds domain) new
  holds-stay [] [] may holds = All-nil (Holds domain)
  holds-stay [] (k ∷ ks) may holds = absurd may
  holds-stay (j ∷ js) [] may holds = absurd may
  holds-stay (j ∷ js) (k ∷ ks) may holds =
      All-cons (Holds domain) k ks (may_hold j k may.0 (All-head (Holds domain) j js holds)) (holds-stay js ks may.1 (All-tail (Holds domain) j js holds))

  may_reserved : (old new : Job) → MayRun domain readings old new → reserved_of new ≡ reserved_of old
  may_reserved old new may = elim may [ inl has ↦ has.reserved | inr same ↦ ap reserved_of same ]

  -- what is reserved stays
  pub reserved-stays : (old new : List Job) → AllZip (MayRun domain readings) old new → all_reserved new ≡ all_reserved old
  reserved-stays [] [] may = refl
  reserved-stays [] (k ∷ ks) may = absurd may
  reserved-stays (j ∷ js) [] may = absurd may
  reserved-stays (j ∷ js) (k ∷ ks) may = omega (
    arith,
    sum_by-cons reserved_of j js,
    sum_by-cons reserved_of k ks,
    may_reserved j k may.0,
    reserved-stays js ks may.1,
  )

  may_small : (old new : Job) → MayRun domain readings old new → IsSmall old → IsSmall new
  may_small old new may small = omega (arith, may_reserved old new may, small)

  -- those that were small are
  pub small-stay : (old new : List Job) → AllZip (MayRun domain readings) old new → All IsSmall old → All IsSmall new
  small-stay [] [] may small = All-nil IsSmall
  small-stay [] (k ∷ ks) may small = absurd may
  small-stay (j ∷ js) [] may small = absurd may
  small-stay (j ∷ js) (k ∷ ks) may small =
      All-cons IsSmall k ks (may_small j k may.0 (All-head IsSmall j js small)) (small-stay js ks may.1 (All-tail IsSmall j js small))

  may_keep : (old new : Job) → MayRun domain readings old new → KeepsMemory old new
  may_keep old new may = elim may [ inl has ↦ has.memory | inr same ↦ keeps_same old new same ]
    where
      keeps_same : (was is : Job) → is ≡ was → KeepsMemory was is
      keeps_same was is same = record {
        packet = ap (λ (job : Job). vec_capacity job.packet) same;
        crossings = ap (λ (job : Job). job.crossings.capacities) same;
        room = ap (λ (job : Job). job.room.capacities) same;
      }

  -- no memory is taken for any
  pub memory-stays : (old new : List Job) → AllZip (MayRun domain readings) old new → AllZip KeepsMemory old new
  memory-stays [] [] may = tt
  memory-stays [] (k ∷ ks) may = absurd may
  memory-stays (j ∷ js) [] may = absurd may
  memory-stays (j ∷ js) (k ∷ ks) may = (may_keep j k may.0, memory-stays js ks may.1)

  may_taps : (old new : Job) → MayRun domain readings old new → IsFresh domain old → HasTaps domain new
  may_taps old new may fresh =
      let held = taps-fresh domain old fresh in
      elim may [ inl has ↦ taps-run domain readings old new has held | inr same ↦ subst (HasTaps domain) (sym same) held ]

  -- each keeps what its domain asks
  pub taps-held : (old new : List Job) → AllZip (MayRun domain readings) old new → All (IsFresh domain) old → All (HasTaps domain) new
  taps-held [] [] may fresh = All-nil (HasTaps domain)
  taps-held [] (k ∷ ks) may fresh = absurd may
  taps-held (j ∷ js) [] may fresh = absurd may
  taps-held (j ∷ js) (k ∷ ks) may fresh =
      All-cons (HasTaps domain) k ks (may_taps j k may.0 (All-head (IsFresh domain) j js fresh)) (taps-held js ks may.1 (All-tail (IsFresh domain) j js fresh))
