-- Laws of export records that are read in pieces and regrouped.
use Rattle.std.proofs.Common.{◌≡◌, ℕ, ◌+◌, ◌*◌, ◌<◌, ◌≤◌, true, false, List, [], ◌∷◌, ◌++◌, length, length-append, refl, sym, subst, Some, ap, ◌∙◌, arith, inl, inr}
use Rattle.std.proofs.lemmas.Bool.Decides.{nat_tests}
use Rattle.std.proofs.lemmas.List.Elements.{recursion_from_All}
use Rattle.ioam_dex.specs.Record.{Record, IsRecord, record_octets}
use Rattle.ioam_dex.specs.Reading.{Reading}
use Rattle.ioam_dex.specs.Reader.{Stands, Waits}
use Rattle.ioam_run_answer.proofs.ExportsLaws.{cut_few, octets_few}
use Rattle.ioam_collect.specs.Keyed.{keyed_of}
use Rattle.ioam_collect.specs.Collected as collected
use Rattle.ioam_collect.specs.Collected.{Collected, Answers, Leaves, capped, count_kept, held_more}
use Rattle.ioam_collect.specs.Joining.{is_full}
use Rattle.ioam_collect.proofs.CountLaws.{full_count, fits_count, held_within}
use Rattle.ioam_collect.specs.declared.growing.Added.{Added}
use Rattle.ioam_collect.specs.declared.growing.Added.TheVariants.{Kept, Replaced, Repeat, Unkeyed, Full}
use Rattle.ioam_collect_stream.specs.Gathering.{Gathers, IsPast, SaysLimit, Shows, Steps}
use Rattle.ioam_collect_stream.specs.declared.step.Pause.{Pause}
use Rattle.ioam_collect_stream.specs.declared.step.Pause.TheVariants as pause

-- a reader that waits holds back less than a record
pub Waits-few : (reader : Reading) → Waits reader → length reader.pending < 274
Waits-few reader waits = cut_few reader.pending waits

-- what it has taken is no more than the greatest records
pub start_few : (reader : Reading) (octets : List ℕ) (records : List Record) → Stands reader octets records → reader.start ≤ 274 * length records
start_few reader octets records stands =
    let few = octets_few records (recursion_from_All IsRecord records stands.splits.each) in
    let at = stands.place in
    omega arith

pub shorter : (x : Record) (p q : List ℕ) → q ≡ record_octets x ++ p → length p < length q
shorter x p q is =
    let both : length q ≡ length (record_octets x) + length p = ap length is ∙ length-append (record_octets x) p in
    let some : 0 < length (record_octets x) = omega arith in
    omega arith

capped-low : (n m : ℕ) → m ≡ capped n → m < 67108864 → n < 67108864
capped-low n m is low = grind (arith, nat_tests)

capped-high : (n m : ℕ) → m ≡ capped n → 67108864 ≤ m → 67108864 ≤ n
capped-high n m is high = grind (arith, nat_tests)

-- one record more is gathered
pub gathers_more : (old new : Reading) (before after : Collected) (x : Record) (added : Added)
    → ((octets : List ℕ) (records : List Record) → Stands old octets records → Stands new octets (records ++ x ∷ []))
    → ((xs : List Record) → collected.Stands before xs → collected.Stands after (xs ++ x ∷ [])) → Answers before (keyed_of x) added → (added ≡ Full → ⊥)
    → after.held ≡ before.held + held_more added → after.limit ≡ before.limit → before.read < 67108864
    → (octets : List ℕ) (records : List Record) → Gathers octets records old before → (y : Record) × Gathers octets (records ++ y ∷ []) new after
gathers_more old new before after x added given stands answers other held limit low octets records g =
    let below = capped-low (length records) before.read g.stands_for.read low in
    let longer = length-append records (x ∷ []) in
    let more = stands records g.stands_for in
    let was : before.held ≡ count_kept records = g.stands_for.groups.held in
    let is : after.held ≡ count_kept (records ++ x ∷ []) = more.groups.held in
    let few : before.held ≤ before.limit = omega (arith, was, g.few.held, g.limit) in
    let within : after.held ≤ before.limit = held_within before after x added answers other few held in (
      x,
      record {
        stands = given octets records g.stands;
        stands_for = more;
        few = record { read = omega (arith, below, longer); held = omega (arith, is, within, g.limit) };
        limit = limit ∙ g.limit;
      },
    )

-- with a record that would be refused more would be kept than may be held
past_of : (before : Collected) (records : List Record) (x : Record) → collected.Stands before records → before.limit ≡ 1048576
    → Answers before (keyed_of x) Full → 1048576 < count_kept (records ++ x ∷ [])
past_of before records x stands limit full = let more = full_count before records x stands full in omega (arith, more, limit)

-- as many were read as may be
pub past_read : (old new : Reading) (before : Collected) (x : Record) (limit : ℕ)
    → ((octets : List ℕ) (records : List Record) → Stands old octets records → Stands new octets (records ++ x ∷ [])) → 67108864 ≤ before.read
    → SaysLimit before x limit
    → (octets : List ℕ) (records : List Record) → Gathers octets records old before → (y : Record) × Stands new octets (records ++ y ∷ []) × IsPast limit records y
past_read old new before x limit given high (inl (is, full)) octets records g =
    (x, given octets records g.stands, inl (is, past_of before records x g.stands_for g.limit full))
past_read old new before x limit given high (inr (is, not_full)) octets records g =
    let least = capped-high (length records) before.read g.stands_for.read high in
    let longer = length-append records (x ∷ []) in
    let was : before.held ≡ count_kept records = g.stands_for.groups.held in
    let few : before.held ≤ before.limit = omega (arith, was, g.few.held, g.limit) in
    let fits = fits_count before records x g.stands_for few not_full in
    (x, given octets records g.stands, inr (is, omega (arith, fits, g.limit), omega (arith, least, longer)))

-- as many are held as may be
pub past_held : (old new : Reading) (before : Collected) (x : Record)
    → ((octets : List ℕ) (records : List Record) → Stands old octets records → Stands new octets (records ++ x ∷ [])) → Answers before (keyed_of x) Full
    → (octets : List ℕ) (records : List Record) → Gathers octets records old before → (y : Record) × Stands new octets (records ++ y ∷ []) × IsPast 1048576 records y
past_held old new before x given full octets records g =
    (x, given octets records g.stands, inl (refl, past_of before records x g.stands_for g.limit full))

-- behind another answer than Full the collector stands for one record more
pub leaves_more : (added : Added) (before after : Collected) (x : Record) → (added ≡ Full → ⊥) → Leaves added before x after
    → (xs : List Record) → collected.Stands before xs → collected.Stands after (xs ++ x ∷ [])
leaves_more Kept before after x other leaves = leaves
leaves_more Replaced before after x other leaves = leaves
leaves_more Repeat before after x other leaves = leaves
leaves_more Unkeyed before after x other leaves = leaves
leaves_more Full before after x other leaves = absurd (other refl)

pub full_is : (added : Added) → is_full added ≡ true → added ≡ Full
full_is Full is = refl
full_is Kept is = absurd (cc is)
full_is Replaced is = absurd (cc is)
full_is Repeat is = absurd (cc is)
full_is Unkeyed is = absurd (cc is)

pub full_not : (added : Added) → is_full added ≡ false → added ≡ Full → ⊥
full_not added isnt same = let is : is_full added ≡ true = ap is_full same in absurd (cc (isnt, is))

-- a step that took nothing
gathers_still : (octets : List ℕ) (all : List Record) (old new : Reading) (before after : Collected) → new ≡ old → after ≡ before → Gathers octets all old before → Gathers octets all new after
gathers_still octets all old new before after reader collector g =
    subst (λ (c : Collected). Gathers octets all new c) (sym collector) (subst (λ (r : Reading). Gathers octets all r before) (sym reader) g)

-- what stopped the taking of records, by what the last step says after the ones before it
pub shows_step : (old mid new : Reading) (before between after : Collected) (what : Pause)
    → ((octets : List ℕ) (records : List Record) → Gathers octets records old before → (all : List Record) × Gathers octets all mid between)
    → Steps mid new between after (Some what) → Shows old new before after what
shows_step old mid new before between after pause.More gathers steps = (
  subst (λ (r : Reading). Waits r) (sym steps.0) steps.2,
  λ octets records g. let now = gathers octets records g in (now.0, gathers_still octets now.0 mid new between after steps.0 steps.1 now.1),
)
shows_step old mid new before between after (pause.Bad at fault) gathers steps = λ octets records g.
    let now = gathers octets records g in (
      now.0,
      gathers_still octets now.0 mid new between after steps.0 steps.1 now.1,
      steps.2 octets now.0 now.1.stands,
    )
shows_step old mid new before between after (pause.Limit limit) gathers steps = λ octets records g.
    let now = gathers octets records g in
    let past = steps.2 octets now.0 now.1 in
    (now.0, mid, subst (λ (c : Collected). Gathers octets now.0 mid c) (sym steps.1) now.1, past.0, past.1, past.2)

-- the last step takes no octets back
pub step_fewer : (old new : Reading) (before after : Collected) (what : Pause) → Steps old new before after (Some what) → length new.pending ≤ length old.pending
step_fewer old new before after pause.More steps = omega (arith, ap (λ (r : Reading). length r.pending) steps.0)
step_fewer old new before after (pause.Bad at fault) steps = omega (arith, ap (λ (r : Reading). length r.pending) steps.0)
step_fewer old new before after (pause.Limit limit) steps = omega (arith, steps.0)
