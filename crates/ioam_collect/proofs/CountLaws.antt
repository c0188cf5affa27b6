-- How many records are kept of a list with more at its end.
use Rattle.std.proofs.Common.{◌≡◌, ◌+◌, ◌<◌, ◌≤◌, Bool, true, false, not, List, [], ◌∷◌, ◌++◌, length, append_assoc, append-nil, refl, sym, ap, ◌∙◌, subst, arith, ◌⊎◌, inl, inr, Option, None, Some}
use Rattle.std.specs.List.{list_any}
use Rattle.std.specs.Ordering.{is_eq}
use Rattle.std.proofs.lemmas.Bool.{cases_Bool, cases_eq}
use Rattle.ioam_dex.specs.Record.{Record}
use Rattle.ioam_pool.specs.Entry.{Entry}
use Rattle.ioam_pool.specs.Order.{placed}
use Rattle.ioam_collect.specs.Keyed.{keyed_of, keyed, with_keyed}
use Rattle.ioam_collect.specs.Best.{pair_cmp, tells, untold, kept_of, RepeatsIn, ReplacesIn}
use Rattle.ioam_collect.specs.Collected.{Collected, Stands, Answers, AnswersKeyed, count_kept, held_more}
use Rattle.ioam_collect.specs.declared.growing.Added.{Added}
use Rattle.ioam_collect.specs.declared.growing.Added.TheVariants.{Kept, Replaced, Repeat, Unkeyed, Full}
use Rattle.ioam_collect.specs.declared.key.Key.{Key}
use Rattle.ioam_collect.proofs.Members.{Has, has_from, contains_from, any_from, any_at, filter_has}
use Rattle.ioam_collect.proofs.KeyLaws.{pair_total, pair_same, pair_itself, eq_equal}
use Rattle.ioam_collect.proofs.Sorting.{placed-length, left_out-length}
use Rattle.ioam_collect.proofs.BestLaws.{without_pair, ordered, repeat_is, replaced_is, kept_is}
use Rattle.ioam_collect.proofs.CollectedLaws.{keyed-push, append-none, full_more, more_full}

-- a pair is in a list, or it isn't
in_by : (es : List (Key × Entry)) (p : Key × Entry) (b : Bool) → list_any (λ y. is_eq (pair_cmp y p)) es ≡ b → Has es p ⊎ (Has es p → ⊥)
in_by es p true is = inl (
    let found = any_at (λ y. is_eq (pair_cmp y p)) es is in
    subst (Has es) (pair_same found.0 p (eq_equal (pair_cmp found.0 p) found.2)) found.1
    )
in_by es p false isnt = inr (λ has. let is = any_from (λ y. is_eq (pair_cmp y p)) es p has (pair_itself p) in absurd (cc (is, isnt)))

in_or_not : (es : List (Key × Entry)) (p : Key × Entry) → Has es p ⊎ (Has es p → ⊥)
in_or_not es p = in_by es p (list_any (λ y. is_eq (pair_cmp y p)) es) refl

-- a list has one of equal core, or none
abbrev HasCore : List (Key × Entry) → Key × Entry → Type 0
HasCore es p = (y : Key × Entry) × Has es y × (untold y ≡ untold p)

core_by : (es : List (Key × Entry)) (p : Key × Entry) (b : Bool) → list_any (λ y. is_eq (pair_cmp (untold y) (untold p))) es ≡ b
    → HasCore es p ⊎ (HasCore es p → ⊥)
core_by es p true is = inl (
    let found = any_at (λ y. is_eq (pair_cmp (untold y) (untold p))) es is in
    (found.0, found.1, pair_same (untold found.0) (untold p) (eq_equal (pair_cmp (untold found.0) (untold p)) found.2))
    )
core_by es p false isnt = inr (λ has.
    let itself : is_eq (pair_cmp (untold has.0) (untold p)) ≡ true = ap (λ q. is_eq (pair_cmp (untold has.0) q)) (sym has.2) ∙ pair_itself (untold has.0) in
    let is = any_from (λ y. is_eq (pair_cmp (untold y) (untold p))) es has.0 has.1 itself in
    absurd (cc (is, isnt)))

core_or_not : (es : List (Key × Entry)) (p : Key × Entry) → HasCore es p ⊎ (HasCore es p → ⊥)
core_or_not es p = core_by es p (list_any (λ y. is_eq (pair_cmp (untold y) (untold p))) es) refl

-- a pair is apart from those of a list
abbrev pub ApartIn : List (Key × Entry) → Key × Entry → Type 0
ApartIn es p = (RepeatsIn es p → ⊥) × (ReplacesIn es p → ⊥)

-- what a pair is to a list: a repeat, one that replaces another, or apart
abbrev IsTo : List (Key × Entry) → Key × Entry → Type 0
IsTo es p = RepeatsIn es p ⊎ (((Has es p → ⊥) × ReplacesIn es p) ⊎ ApartIn es p)

told_to : (es : List (Key × Entry)) (p : Key × Entry) → (Has es p → ⊥) → tells p ≡ true → IsTo es p
told_to es p none full = elim (in_or_not es (untold p)) [
  | inl core ↦ inr (inl (none, (full, contains_from es (untold p) core)))
  | inr absent ↦ inr (inr (
    (λ repeats. elim repeats [
      | inl there ↦ none (has_from es p there)
      | inr (bare, y, there, same) ↦ absurd (cc (full, bare))
    ]),
    (λ replaces. absent (has_from es (untold p) replaces.1)),
  ))
]

untold_to : (es : List (Key × Entry)) (p : Key × Entry) → (Has es p → ⊥) → tells p ≡ false → IsTo es p
untold_to es p none bare = elim (core_or_not es p) [
  | inl core ↦ inl (inr (bare, core.0, contains_from es core.0 core.1, core.2))
  | inr absent ↦ inr (inr (
    (λ repeats. elim repeats [
      | inl there ↦ none (has_from es p there)
      | inr (is, y, there, same) ↦ absent (y, has_from es y there, same)
    ]),
    (λ replaces. let full = replaces.0 in absurd (cc (full, bare))),
  ))
]

is_to : (es : List (Key × Entry)) (p : Key × Entry) → IsTo es p
is_to es p = elim (in_or_not es p) [
  | inl has ↦ inl (inl (contains_from es p has))
  | inr none ↦ elim (cases_Bool (tells p)) [
    | inl full ↦ told_to es p none full
    | inr bare ↦ untold_to es p none bare
  ]
]

-- ---- how many are kept of pairs with one more

abbrev kept_with : List (Key × Entry) → Key × Entry → List (Key × Entry)
kept_with ps p = kept_of (ps ++ p ∷ [])

replaced-length : (ps : List (Key × Entry)) (p : Key × Entry) → (Has (kept_of ps) p → ⊥) → ReplacesIn (kept_of ps) p → length (kept_with ps p) ≡ length (kept_of ps)
replaced-length ps p absent replaces =
    let kept : List (Key × Entry) = kept_of ps in
    let rest : List (Key × Entry) = without_pair (untold p) kept in
    let none : Has rest p → ⊥ = λ has. absent (filter_has (λ y. not (is_eq (pair_cmp y (untold p)))) kept p has).0 in
    let longer : length (placed pair_cmp p rest) ≡ length rest + 1 = placed-length pair_cmp pair_total pair_same p rest none in
    let shorter : length rest + 1 ≡ length kept = left_out-length pair_cmp pair_total pair_same (untold p) kept (ordered ps) (has_from kept (untold p) replaces.1) in
    ap length (replaced_is ps p replaces) ∙ longer ∙ shorter

pub apart-length : (ps : List (Key × Entry)) (p : Key × Entry) → ApartIn (kept_of ps) p → length (kept_with ps p) ≡ length (kept_of ps) + 1
apart-length ps p apart =
    let absent : Has (kept_of ps) p → ⊥ = λ has. apart.0 (inl (contains_from (kept_of ps) p has)) in
    ap length (kept_is ps p apart.0 apart.1) ∙ placed-length pair_cmp pair_total pair_same p (kept_of ps) absent

-- as many, or the pair is apart and there is one more
pub pair_more : (ps : List (Key × Entry)) (p : Key × Entry) → (length (kept_with ps p) ≡ length (kept_of ps))
    ⊎ (ApartIn (kept_of ps) p × (length (kept_with ps p) ≡ length (kept_of ps) + 1))
pair_more ps p = elim (is_to (kept_of ps) p) [
  | inl repeats ↦ inl (ap length (repeat_is ps p repeats))
  | inr (inl replaces) ↦ inl (replaced-length ps p replaces.0 replaces.1)
  | inr (inr apart) ↦ inr (apart, apart-length ps p apart)
]

-- ---- of records

-- a record is apart from those that are kept
abbrev IsApartFrom : List Record → Record → Type 0
IsApartFrom xs x = (p : Key × Entry) × (keyed_of x ≡ Some p) × ApartIn (kept_of (keyed xs)) p

keyed_some : (xs : List Record) (x : Record) (p : Key × Entry) → keyed_of x ≡ Some p → keyed (xs ++ x ∷ []) ≡ keyed xs ++ p ∷ []
keyed_some xs x p is = keyed-push xs x ∙ ap (λ o. keyed xs ++ with_keyed o []) is

keyed_none : (xs : List Record) (x : Record) → keyed_of x ≡ None → keyed (xs ++ x ∷ []) ≡ keyed xs
keyed_none xs x is = keyed-push xs x ∙ ap (λ o. keyed xs ++ with_keyed o []) is ∙ append-none (keyed xs)

count_by : (xs : List Record) (x : Record) (o : Option (Key × Entry)) → keyed_of x ≡ o → (count_kept (xs ++ x ∷ []) ≡ count_kept xs)
    ⊎ (IsApartFrom xs x × (count_kept (xs ++ x ∷ []) ≡ count_kept xs + 1))
count_by xs x None is = inl (ap (λ ps. length (kept_of ps)) (keyed_none xs x is))
count_by xs x (Some p) is = elim (pair_more (keyed xs) p) [
  | inl same ↦ inl (ap (λ ps. length (kept_of ps)) (keyed_some xs x p is) ∙ same)
  | inr (apart, more) ↦ inr ((p, is, apart), ap (λ ps. length (kept_of ps)) (keyed_some xs x p is) ∙ more)
]

-- a record more: as many are kept, or the record is apart from those that are and one more is kept
count_more : (xs : List Record) (x : Record) → (count_kept (xs ++ x ∷ []) ≡ count_kept xs)
    ⊎ (IsApartFrom xs x × (count_kept (xs ++ x ∷ []) ≡ count_kept xs + 1))
count_more xs x = count_by xs x (keyed_of x) refl

count_step : (xs : List Record) (x : Record) → count_kept xs ≤ count_kept (xs ++ x ∷ [])
count_step xs x = elim (count_more xs x) [
  | inl same ↦ omega (arith, same)
  | inr (apart, more) ↦ omega (arith, more)
]

-- no fewer are kept of more records
pub count_kept-grows : (xs ys : List Record) → count_kept xs ≤ count_kept (xs ++ ys)
count_kept-grows xs [] =
    let P : List Record → Type 0 = λ zs. count_kept xs ≤ count_kept zs in
    subst P (sym (append-nil xs)) (omega arith)
count_kept-grows xs (y ∷ ys) =
    let P : List Record → Type 0 = λ zs. count_kept xs ≤ count_kept zs in
    let step = count_step xs y in
    let more = count_kept-grows (xs ++ y ∷ []) ys in
    let least : count_kept xs ≤ count_kept ((xs ++ y ∷ []) ++ ys) = omega (arith, step, more) in
    subst P (append_assoc xs (y ∷ []) ys) least

-- where a record is refused as one too many, more would be kept with it than may be
pub full_count : (c : Collected) (xs : List Record) (x : Record) → Stands c xs → Answers c (keyed_of x) Full → c.limit < count_kept (xs ++ x ∷ [])
full_count c xs x stands full =
    let one = full_more c xs stands x full in
    let apart : ApartIn (kept_of (keyed xs)) one.0 = (one.2, one.3) in
    let more : count_kept (xs ++ x ∷ []) ≡ count_kept xs + 1 = ap (λ ps. length (kept_of ps)) (keyed_some xs x one.0 one.1) ∙ apart-length (keyed xs) one.0 apart in
    let all : count_kept xs ≡ c.limit = one.4 in
    omega (arith, more, all)

-- and where it isn't, no more would be
pub fits_count : (c : Collected) (xs : List Record) (x : Record) → Stands c xs → c.held ≤ c.limit → (Answers c (keyed_of x) Full → ⊥)
    → count_kept (xs ++ x ∷ []) ≤ c.limit
fits_count c xs x stands within not_full =
    let held : c.held ≡ count_kept xs = stands.groups.held in
    elim (count_more xs x) [
      | inl same ↦ omega (arith, same, held, within)
      | inr ((p, is, apart), more) ↦ elim (cases_eq c.held c.limit) [
        | inl all ↦ absurd (not_full (more_full c xs stands x (p, is, apart.0, apart.1, sym held ∙ all)))
        | inr less ↦ omega (arith, more, held, within, less)
      ]
    ]

-- as many are held as before, or one more where there was room
within_pair : (before after : Collected) (p : Key × Entry) (added : Added) → AnswersKeyed before p added → (added ≡ Full → ⊥) → before.held ≤ before.limit
    → after.held ≡ before.held + held_more added → after.held ≤ before.limit
within_pair before after p Kept answers other within more = let room = answers.2 in omega (arith, room, more)
within_pair before after p Replaced answers other within more = omega (arith, within, more)
within_pair before after p Repeat answers other within more = omega (arith, within, more)
within_pair before after p Unkeyed answers other within more = absurd answers
within_pair before after p Full answers other within more = absurd (other refl)

within_by : (before after : Collected) (o : Option (Key × Entry)) (added : Added) → Answers before o added → (added ≡ Full → ⊥) → before.held ≤ before.limit
    → after.held ≡ before.held + held_more added → after.held ≤ before.limit
within_by before after None added answers other within more =
    let none : held_more added ≡ 0 = ap held_more answers in
    omega (arith, none, within, more)
within_by before after (Some p) added answers other within more = within_pair before after p added answers other within more

-- no more are held than may be, behind a record that wasn't refused
pub held_within : (before after : Collected) (x : Record) (added : Added) → Answers before (keyed_of x) added → (added ≡ Full → ⊥) → before.held ≤ before.limit
    → after.held ≡ before.held + held_more added → after.held ≤ before.limit
held_within before after x added answers other within more = within_by before after (keyed_of x) added answers other within more
