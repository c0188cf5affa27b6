-- That comparing neighbours is enough.
use Rattle.std.proofs.Common.{◌≡◌, true, List, [], ◌∷◌, ◌++◌, refl, sym, ap, ◌∙◌, subst, inl, inr}
use Rattle.std.specs.Prelude.{ℕ}
use Rattle.std.specs.Ordering.{nat_cmp}
use Rattle.std.specs.Cmp.Lexicographic.{slice_cmp}
use Rattle.std.specs.declared.cmp.Ordering.{Ordering}
use Rattle.std.specs.declared.cmp.Ordering.TheVariants.{Less, Equal, Greater}
use Rattle.std.proofs.lemmas.Bool.{cases_Bool}
use Rattle.std.proofs.lemmas.Cmp.{tied_itself, nat_cmp_total, nat_list_cmp_total}
use Rattle.ioam_pool.specs.Entry.{Entry, has_some}
use Rattle.ioam_collect.specs.Best.{pair_cmp, tells, untold}
use Rattle.ioam_collect.specs.Unite.{pair_meet, AreApart, NextTo, AreNeighbours, MayFollow}
use Rattle.ioam_collect.specs.declared.key.Key.{Key}
use Rattle.ioam_collect.proofs.Members.{Has, has_from, contains_from, all_at}
use Rattle.ioam_collect.proofs.KeyLaws.{key_total, pair_total}
use Rattle.ioam_collect.proofs.BestLaws.{append-has}
use Rattle.ioam_collect.proofs.JoinLaws.{has-right}
use Rattle.ioam_collect.proofs.UniteLaws.{all_less, pair_meet_trans, pair_meet_back, pair_meet_order, told_ties, tie_untold, untold_bare, tie_told, tie_untold_both}

next_apart : (p : Key × Entry) (ps : List (Key × Entry)) → NextTo p ps → AreApart (p ∷ ps)
next_apart p [] next = (tt, tt)
next_apart p (q ∷ ps) next =
    let rest : AreApart (q ∷ ps) = next_apart q ps next.1 in
    ((next.0, all_less p q ps next.0 rest.0), rest)

-- where each is before the next, no two tie
pub neighbours_apart : (ps : List (Key × Entry)) → AreNeighbours ps → AreApart ps
neighbours_apart [] next = tt
neighbours_apart (p ∷ ps) next = next_apart p ps next

-- the last of such a list is behind all others
last_less : (ps : List (Key × Entry)) (last : Key × Entry) → AreApart (ps ++ last ∷ []) → (z : Key × Entry) → Has ps z → pair_meet z last ≡ Less
last_less [] last apart z has = absurd has
last_less (p ∷ ps) last apart z (inl is) =
    subst (λ w. pair_meet w last ≡ Less) is (all_at (λ w. pair_meet p w ≡ Less) (ps ++ last ∷ []) last apart.0 (has-right ps (last ∷ []) last (inl refl)))
last_less (p ∷ ps) last apart z (inr has) = last_less ps last apart.1 z has

no_less : (a b : Key × Entry) → pair_cmp a b ≡ Less → pair_cmp b a ≡ Less → ⊥
no_less a b one two =
    let itself : pair_cmp a a ≡ Less = pair_total.trans a b a one two in
    let is = tied_itself pair_total a in
    absurd (cc (itself, is))

-- one comparison with the last says whether the next may follow
pub follows : (ps : List (Key × Entry)) (last next : Key × Entry) → AreApart (ps ++ last ∷ []) → pair_meet last next ≡ Less → MayFollow ps last next
follows ps last next apart less = record {
  behind = pair_meet_order last next less;
  fresh = λ full there.
      let has : Has (ps ++ last ∷ []) (untold next) = has_from (ps ++ last ∷ []) (untold next) there in
      let before : pair_meet (untold next) next ≡ Less = elim (append-has ps last (untold next) has) [
        | inl inside ↦ pair_meet_trans (untold next) last next (last_less ps last apart (untold next) inside) less
        | inr same ↦ subst (λ w. pair_meet w next ≡ Less) same less
      ] in
      let tie : pair_meet (untold next) next ≡ Equal = told_ties next (untold next) refl in
      absurd (cc (before, tie));
}

-- an item without its visit is before the same with it
first_by : (xs : List ℕ) → has_some xs ≡ true → slice_cmp nat_cmp [] xs ≡ Less
first_by [] is = absurd (cc is)
first_by (x ∷ xs) is = refl

untold_first : (a : Key × Entry) → tells a ≡ true → pair_cmp (untold a) a ≡ Less
untold_first a full =
    let key = tied_itself key_total a.0 in
    let hops = tied_itself nat_cmp_total a.1.hops in
    let core = tied_itself nat_list_cmp_total a.1.core in
    rw (key, hops, core) (first_by a.1.extra full)

may_by : (ps : List (Key × Entry)) (last next : Key × Entry) → MayFollow ps last next → (o : Ordering) → pair_meet last next ≡ o → pair_meet last next ≡ Less
may_by ps last next may Less is = is
may_by ps last next may Greater is = absurd (no_less last next may.behind (pair_meet_order next last (pair_meet_back last next is)))
may_by ps last next may Equal is =
    let not_same : last ≡ next → ⊥ = λ same. let itself : pair_cmp last last ≡ Less = ap (pair_cmp last) same ∙ may.behind in let tied_is = tied_itself pair_total last in absurd (cc (itself, tied_is)) in
    elim (cases_Bool (tells last)) [
      | inl full ↦ elim (cases_Bool (tells next)) [
        | inl full' ↦ absurd (not_same (tie_told last next is full full'))
        | inr bare' ↦
            let is_next : untold last ≡ next = tie_untold last next is ∙ untold_bare next bare' in
            absurd (no_less last next may.behind (subst (λ w. pair_cmp w last ≡ Less) is_next (untold_first last full)))
      ]
      | inr bare_last ↦ elim (cases_Bool (tells next)) [
        | inl full' ↦
            let is_last : last ≡ untold next = sym (untold_bare last bare_last) ∙ tie_untold last next is in
            absurd (may.fresh full' (contains_from (ps ++ last ∷ []) (untold next) (has-right ps (last ∷ []) (untold next) (inl is_last))))
        | inr bare' ↦ absurd (not_same (tie_untold_both last next is bare_last bare'))
      ]
    ]

pub may_follow : (ps : List (Key × Entry)) (last next : Key × Entry) → MayFollow ps last next → pair_meet last next ≡ Less
may_follow ps last next may = may_by ps last next may (pair_meet last next) refl
