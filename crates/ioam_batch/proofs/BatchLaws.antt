-- Laws of a batch: of the jobs that wait, and of those whose memory is kept.
use Rattle.std.proofs.Common.{◌≡◌, ℕ, ◌+◌, ◌<◌, ◌≤◌, Bool, true, false, List, [], ◌∷◌, ◌++◌, length, get_or, set, take, drop, All, nat_lt, ◌||◌, refl, sym, ap, ◌∙◌, subst, add-zero, arith, length-drop}
use Rattle.std.proofs.lemmas.Bool.{ltb-false}
use Rattle.std.proofs.lemmas.List.{drop-drop, drop-set, get_or-drop, take-append-drop}
use Rattle.std.proofs.lemmas.List.Elements.{All-append, All-cons, All-drop, All-nil, All-push}
use Rattle.std.proofs.lemmas.List.Sums.{sum_by_push}
use Rattle.ioam_batch.specs.Batches.{IsBatch, IsSmall, all_reserved}
use Rattle.ioam_batch.specs.Jobs.{reserved_of}
use Rattle.ioam_batch.specs.declared.job.Job.{Job}

-- ---- small jobs

-- without the first of them
pub small-behind : (jobs : List Job) (place : ℕ) → All IsSmall (drop place jobs) → All IsSmall (drop (place + 1) jobs)
small-behind jobs place small = subst (λ (js : List Job). All IsSmall js) (drop-drop 1 place jobs) (All-drop IsSmall 1 (drop place jobs) small)

-- where the first of them has become one with no more octets reserved
pub small-set : (jobs : List Job) (place : ℕ) (old new : Job) → place < length jobs → old ≡ get_or jobs place old → reserved_of new ≤ reserved_of old
    → All IsSmall (drop place jobs) → All IsSmall (drop place (set jobs place new))
small-set jobs place old new inside is less small =
    let first : get_or (drop place jobs) 0 old ≡ old = get_or-drop place jobs 0 old ∙ ap (λ k. get_or jobs k old) (add-zero place) ∙ sym is in
    let some : 0 < length (drop place jobs) = omega (arith, inside, length-drop place jobs) in
    let here : reserved_of old ≤ 65536 = subst IsSmall first (small 0 old some) in
    subst (λ (js : List Job). All IsSmall js) (sym (drop-set jobs place new inside))
    (All-cons IsSmall new (drop (place + 1) jobs) (omega (arith, less, here)) (small-behind jobs place small))

-- ---- a batch

-- where those that wait are the same and those behind are small
pub batch-same : (old new : List Job) (places more count reserved : ℕ) (large : Bool) → IsBatch old places count reserved large → more ≡ places
    → count ≤ length new → take count new ≡ take count old → (All IsSmall (drop count old) → All IsSmall (drop count new))
    → IsBatch new more count reserved large
batch-same old new places more count reserved large is same within front small = record {
  within = within;
  room = same ∙ is.room;
  summed = is.summed ∙ ap all_reserved (sym front);
  kept = small is.kept;
  unless_large = λ none. subst (λ (js : List Job). All IsSmall js) (sym front) (is.unless_large none);
}

-- no mark says that one more is small, as those before are
pub no-mark : (large : Bool) (size : ℕ) → (large || nat_lt 65536 size) ≡ false → (large ≡ false) × (size ≤ 65536)
no-mark true size none = absurd (cc none)
no-mark false size none = (refl, ltb-false 65536 size none)

-- where one more waits
pub batch-more : (old new : List Job) (places more count reserved size : ℕ) (large marked : Bool) (job : Job) → IsBatch old places count reserved large
    → more ≡ places
    → count < length new
    → take (count + 1) new ≡ take count old ++ job ∷ []
    → drop (count + 1) new ≡ drop (count + 1) old
    → size ≡ reserved_of job
    → (marked ≡ false → (large ≡ false) × (size ≤ 65536))
    → IsBatch new more (count + 1) (reserved + size) marked
batch-more old new places more count reserved size large marked job is same within front behind sized says = record {
  within = omega (arith, within);
  room = same ∙ is.room;
  summed = omega (arith, is.summed, sized, ap all_reserved front, sum_by_push reserved_of (take count old) job);
  kept = subst (λ (js : List Job). All IsSmall js) (sym behind) (small-behind old count is.kept);
  unless_large = λ none.
      let said = says none in
      subst (λ (js : List Job). All IsSmall js) (sym front) (All-push IsSmall (take count old) job (is.unless_large said.0) (omega (arith, sized, said.1)));
}

-- unless one may be large all of them are small
pub batch-small : (jobs : List Job) (places count reserved : ℕ) (large : Bool) → IsBatch jobs places count reserved large → large ≡ false → All IsSmall jobs
batch-small jobs places count reserved large is none =
    subst (λ (js : List Job). All IsSmall js) (take-append-drop count jobs) (All-append IsSmall (take count jobs) (drop count jobs) (is.unless_large none) is.kept)

-- where none waits
pub batch-none : (jobs : List Job) (places : ℕ) (large : Bool) → places ≡ 256 → All IsSmall jobs → IsBatch jobs places 0 0 large
batch-none jobs places large room small = record {
  within = omega arith;
  room = room;
  summed = refl;
  kept = small;
  unless_large = λ none. All-nil IsSmall;
}
