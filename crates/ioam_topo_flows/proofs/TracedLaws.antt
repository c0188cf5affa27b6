-- Laws of flows with extra traces.
use Rattle.std.proofs.Common.{◌≡◌, ◌≢◌, ◌<◌, ◌≤◌, ℕ, zero, suc, ◌+◌, Bool, true, false, ◌||◌, nat_eq, cond, List, [], ◌∷◌, ◌++◌, map, length, take, set, slice_get, Option, Some, None, IsSomeAnd, refl, ap, sym, subst, ◌∙◌, arith, drop, slice_index_or}
use Rattle.std.specs.List.{All, list_any}
use Rattle.std.proofs.lemmas.Bool.Decides.{nat_tests}
use Rattle.std.proofs.lemmas.List.{append_assoc, append-nil, drop_more, drop_all, take_more, take_all}
use Rattle.std.proofs.lemmas.List.Elements.{All-cons, All-nil, All-head, All-tail, All-get_or}
use Rattle.ioam_topo.specs.declared.parts.Flow.{Flow}
use Rattle.ioam_topo.specs.declared.traces.FlowTrace.{FlowTrace}
use Rattle.ioam_topo.specs.Keyed.{is_pair, pairs_of}
use Rattle.ioam_topo_tables.specs.Flows.{with_trace, name_of_flow, ids_of_flows}
use Rattle.ioam_topo_flows.specs.ExtraTable.{times, traces_at, with_traces, traced}
use Rattle.ioam_topo_flows.specs.ExtraRead.{place_of_extra, key_of_extra}

at_under : (b : Bool) (x : FlowTrace) (xs ys : List FlowTrace) → cond b (x ∷ (xs ++ ys)) (xs ++ ys) ≡ cond b (x ∷ xs) xs ++ ys
at_under true x xs ys = refl
at_under false x xs ys = refl

cond_both : {A : Type 0} (b : Bool) (x y z w : A) → x ≡ z → y ≡ w → cond b x y ≡ cond b z w
cond_both true x y z w first second = first
cond_both false x y z w first second = second

-- the traces of a flow among these and one more of it
traces_more : (i : ℕ) (xs : List (ℕ × FlowTrace)) (x : ℕ × FlowTrace) → x.0 ≡ i → traces_at i (xs ++ x ∷ []) ≡ traces_at i xs ++ x.1 ∷ []
traces_more i [] x is = let same : nat_eq i x.0 ≡ true = grind (arith, nat_tests, is) in rw same refl
traces_more i (y ∷ ys) x is = cond_both (nat_eq i y.0) _ _ _ _ (ap (λ l. y.1 ∷ l) (traces_more i ys x is)) (traces_more i ys x is)
    ∙ at_under (nat_eq i y.0) y.1 (traces_at i ys) (x.1 ∷ [])

-- and one more of another
traces_other : (i : ℕ) (xs : List (ℕ × FlowTrace)) (x : ℕ × FlowTrace) → x.0 ≢ i → traces_at i (xs ++ x ∷ []) ≡ traces_at i xs
traces_other i [] x other = let apart : nat_eq i x.0 ≡ false = grind (arith, nat_tests, other) in rw apart refl
traces_other i (y ∷ ys) x other = cond_both (nat_eq i y.0) _ _ _ _ (ap (λ l. y.1 ∷ l) (traces_other i ys x other)) (traces_other i ys x other)

-- flows in front of the one that has a trace more stay
traced_past : (i : ℕ) (fs : List Flow) (xs : List (ℕ × FlowTrace)) (x : ℕ × FlowTrace) → x.0 < i → traced i fs (xs ++ x ∷ []) ≡ traced i fs xs
traced_past i [] xs x before = refl
traced_past i (f ∷ fs) xs x before =
    let other : x.0 ≢ i = λ same. omega (arith, same, before) in
    let rest : traced (suc i) fs (xs ++ x ∷ []) ≡ traced (suc i) fs xs = traced_past (suc i) fs xs x (omega (arith, before)) in
    ap (λ l. with_traces f l ∷ traced (suc i) fs (xs ++ x ∷ [])) (traces_other i xs x other) ∙ ap (λ l. with_traces f (traces_at i xs) ∷ l) rest

-- a flow with traces and one more
with_more : (f : Flow) (xs : List FlowTrace) (t : FlowTrace) → with_traces f (xs ++ t ∷ []) ≡ with_trace (with_traces f xs) t
with_more f xs t = ap (λ (l : List FlowTrace). with_all l) (sym (append_assoc f.traces xs (t ∷ []))) where
  with_all : List FlowTrace → Flow
  with_all l = record f { traces = l }

same_head : (f g : Flow) → Some f ≡ Some g → f ≡ g
same_head f g is = cc

-- one extra trace more is one trace more of its flow
pub traced_push : (i k : ℕ) (fs : List Flow) (xs : List (ℕ × FlowTrace)) (x : ℕ × FlowTrace) (f : Flow) → x.0 ≡ i + k → slice_get (traced i fs xs) k ≡ Some f
    → traced i fs (xs ++ x ∷ []) ≡ set (traced i fs xs) k (with_trace f x.1)
traced_push i k [] xs x f at there = cc
traced_push i zero (g ∷ fs) xs x f at there =
    let place : x.0 ≡ i = omega (arith, at) in
    let same : with_traces g (traces_at i xs) ≡ f = same_head _ _ there in
    let rest : traced (suc i) fs (xs ++ x ∷ []) ≡ traced (suc i) fs xs = traced_past (suc i) fs xs x (omega (arith, place)) in
    ap (λ l. with_traces g l ∷ traced (suc i) fs (xs ++ x ∷ [])) (traces_more i xs x place)
    ∙ ap (λ l. with_traces g (traces_at i xs ++ x.1 ∷ []) ∷ l) rest
    ∙ ap (λ h. h ∷ traced (suc i) fs xs) (with_more g (traces_at i xs) x.1 ∙ ap (λ h. with_trace h x.1) same)
traced_push i (suc k) (g ∷ fs) xs x f at there =
    let other : x.0 ≢ i = λ same. omega (arith, same, at) in
    let rest : traced (suc i) fs (xs ++ x ∷ []) ≡ set (traced (suc i) fs xs) k (with_trace f x.1) = traced_push (suc i) k fs xs x f (omega (arith, at)) there in
    ap (λ l. with_traces g l ∷ traced (suc i) fs (xs ++ x ∷ [])) (traces_other i xs x other) ∙ ap (λ l. with_traces g (traces_at i xs) ∷ l) rest

-- the flow at a place has its traces behind its own
pub traced_get : (i k : ℕ) (fs : List Flow) (xs : List (ℕ × FlowTrace)) (f : Flow) → slice_get fs k ≡ Some f
    → slice_get (traced i fs xs) k ≡ Some (with_traces f (traces_at (i + k) xs))
traced_get i k [] xs f there = cc
traced_get i zero (g ∷ fs) xs f there = let same : g ≡ f = same_head g f there in
    let place : i ≡ i + 0 = omega arith in
    ap (λ h. Some (with_traces h (traces_at i xs))) same ∙ ap (λ n. Some (with_traces f (traces_at n xs))) place
traced_get i (suc k) (g ∷ fs) xs f there = let place : suc i + k ≡ i + suc k = omega arith in
    traced_get (suc i) k fs xs f there ∙ ap (λ n. Some (with_traces f (traces_at n xs))) place

with_none : (f : Flow) → with_traces f [] ≡ f
with_none f = ap (λ (l : List FlowTrace). with_all l) (append-nil f.traces) where
  with_all : List FlowTrace → Flow
  with_all l = record f { traces = l }

-- without extra traces flows are as they are
pub traced_none : (i : ℕ) (fs : List Flow) → traced i fs [] ≡ fs
traced_none i [] = refl
traced_none i (f ∷ fs) = ap (λ h. h ∷ traced (suc i) fs []) (with_none f) ∙ ap (λ l. f ∷ l) (traced_none (suc i) fs)

-- what doesn't look at traces is as it is without them
pub traced_all : (P : Flow → Type 0) → ((f : Flow) (more : List FlowTrace) → P f → P (with_traces f more)) → (i : ℕ) (fs : List Flow) (xs : List (ℕ × FlowTrace))
    → All P fs → All P (traced i fs xs)
traced_all P stays i [] xs all = All-nil P
traced_all P stays i (f ∷ fs) xs all = All-cons P (with_traces f (traces_at i xs)) (traced (suc i) fs xs) (stays f (traces_at i xs) (All-head P f fs all))
    (traced_all P stays (suc i) fs xs (All-tail P f fs all))

pub traced_names : (i : ℕ) (fs : List Flow) (xs : List (ℕ × FlowTrace)) → map name_of_flow (traced i fs xs) ≡ map name_of_flow fs
traced_names i [] xs = refl
traced_names i (f ∷ fs) xs = ap (λ l. f.name ∷ l) (traced_names (suc i) fs xs)

pub traced_ids : (i : ℕ) (fs : List Flow) (xs : List (ℕ × FlowTrace)) → ids_of_flows (traced i fs xs) ≡ ids_of_flows fs
traced_ids i [] xs = refl
traced_ids i (f ∷ fs) xs = ap (λ l. pairs_of f.namespace.0 f.flow_id ++ l) (traced_ids (suc i) fs xs)

pub traced_length : (i : ℕ) (fs : List Flow) (xs : List (ℕ × FlowTrace)) → length (traced i fs xs) ≡ length fs
traced_length i [] xs = refl
traced_length i (f ∷ fs) xs = ap suc (traced_length (suc i) fs xs)

times_under : (b : Bool) (x : FlowTrace) (n : ℕ) (xs : List FlowTrace) → n ≡ length xs → cond b (suc n) n ≡ length (cond b (x ∷ xs) xs)
times_under true x n xs same = ap suc same
times_under false x n xs same = same

-- a flow is named as often as it has extra traces
pub times_traces : (i : ℕ) (xs : List (ℕ × FlowTrace)) → times i (map place_of_extra xs) ≡ length (traces_at i xs)
times_traces i [] = refl
times_traces i (x ∷ xs) = times_under (nat_eq i x.0) x.1 (times i (map place_of_extra xs)) (traces_at i xs) (times_traces i xs)

apart_under : (i n : ℕ) (b : Bool) (x : ℕ × FlowTrace) (xs : List FlowTrace) → nat_eq i x.0 ≡ b → is_pair i n (key_of_extra x) ≡ false
    → All (λ (t : FlowTrace). t.namespace.0 ≢ n) xs → All (λ (t : FlowTrace). t.namespace.0 ≢ n) (cond b (x.1 ∷ xs) xs)
apart_under i n true x xs same other all = All-cons (λ (t : FlowTrace). t.namespace.0 ≢ n) x.1 xs
    (λ equal. let on : nat_eq i x.0 ≡ true = same in let also : nat_eq n x.1.namespace.0 ≡ true = grind (arith, nat_tests, equal) in
    let both : is_pair i n (key_of_extra x) ≡ true = rw (on, also) refl in cc) all
apart_under i n false x xs same other all = all

none_of : (b c : Bool) → (b || c) ≡ false → (b ≡ false) × (c ≡ false)
none_of true c is = cc
none_of false c is = (refl, is)

-- a namespace that isn't among those of a flow is in none of its extra traces
pub apart_traces : (i n : ℕ) (xs : List (ℕ × FlowTrace)) → list_any (is_pair i n) (map key_of_extra xs) ≡ false → All (λ (t : FlowTrace). t.namespace.0 ≢ n) (traces_at i xs)
apart_traces i n [] new = All-nil (λ (t : FlowTrace). t.namespace.0 ≢ n)
apart_traces i n (x ∷ xs) new =
    let both : (is_pair i n (key_of_extra x) ≡ false) × (list_any (is_pair i n) (map key_of_extra xs) ≡ false) =
    none_of (is_pair i n (key_of_extra x)) (list_any (is_pair i n) (map key_of_extra xs)) new in
    apart_under i n (nat_eq i x.0) x (traces_at i xs) refl both.0 (apart_traces i n xs both.1)

-- one place of a list, and none
pub times_step : (i : ℕ) (js : List ℕ) (k j : ℕ) → k < length js → j ≡ slice_index_or js k j
    → times i (drop k js) ≡ cond (nat_eq i j) (suc (times i (drop (k + 1) js))) (times i (drop (k + 1) js))
times_step i js k j lt at = ap (times i) (drop_more js k j lt ∙ ap (λ x. x ∷ drop (k + 1) js) (sym at))

pub times_end : (i : ℕ) (js : List ℕ) (k : ℕ) → length js ≤ k → times i (drop k js) ≡ 0
times_end i js k over = ap (times i) (drop_all k js over)

-- one extra trace more is put behind the others of its flow
turn_at : (fs : List Flow) (xs : List (ℕ × FlowTrace)) (x : ℕ × FlowTrace) (new : List Flow) (o : Option Flow) → slice_get (traced 0 fs xs) x.0 ≡ o
    → IsSomeAnd o (λ f. new ≡ set (traced 0 fs xs) x.0 (with_trace f x.1)) → new ≡ traced 0 fs (xs ++ x ∷ [])
turn_at fs xs x new (Some f) there is = is ∙ sym (traced_push 0 x.0 fs xs x f (omega arith) there)
turn_at fs xs x new None there is = absurd is

pub extras_turn : (fs : List Flow) (xs : List (ℕ × FlowTrace)) (k : ℕ) (x : ℕ × FlowTrace) (old new : List Flow) → k < length xs → x ≡ slice_index_or xs k x
    → old ≡ traced 0 fs (take k xs) → IsSomeAnd (slice_get old x.0) (λ f. new ≡ set old x.0 (with_trace f x.1)) → new ≡ traced 0 fs (take (k + 1) xs)
extras_turn fs xs k x old new lt at so_far is =
    let P : List Flow → Type 0 = λ l. IsSomeAnd (slice_get l x.0) (λ f. new ≡ set l x.0 (with_trace f x.1)) in
    turn_at fs (take k xs) x new (slice_get (traced 0 fs (take k xs)) x.0) refl (subst P so_far is)
    ∙ ap (traced 0 fs) (sym (take_more xs k x lt ∙ ap (λ y. take k xs ++ y ∷ []) (sym at)))

-- the flow of an extra trace is there
pub extras_there : (fs : List Flow) (xs : List (ℕ × FlowTrace)) (k : ℕ) (x : ℕ × FlowTrace) (old : List Flow) → k < length xs → x ≡ slice_index_or xs k x
    → All (λ (y : ℕ × FlowTrace). y.0 < length fs) xs → old ≡ traced 0 fs (take k xs) → x.0 < length old
extras_there fs xs k x old lt at within so_far =
    let there : slice_index_or xs k x ≡ x = sym at in
    let P : ℕ × FlowTrace → Type 0 = λ y. y.0 < length fs in
    let below : x.0 < length fs = subst P there (All-get_or P xs k x lt within) in
    let long : length old ≡ length fs = ap length so_far ∙ traced_length 0 fs (take k xs) in omega (arith, below, long)

pub extras_all : (fs : List Flow) (xs : List (ℕ × FlowTrace)) (k : ℕ) (out : List Flow) → length xs ≤ k → out ≡ traced 0 fs (take k xs) → out ≡ traced 0 fs xs
extras_all fs xs k out over so_far = so_far ∙ ap (traced 0 fs) (take_all k xs over)
