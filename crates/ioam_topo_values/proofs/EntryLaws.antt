-- Laws of lists that are read in turn.
use denote.Bor.{Bor}
use Rattle.std.proofs.Common.{◌≡◌, ℕ, ◌+◌, ◌<◌, ◌≤◌, Bool, true, false, not, ◌&&◌, if◌then◌else◌, nat_eq, get_or, List, [], ◌∷◌, ◌++◌, map, length, drop, slice_index_or, BTreeMap, String, Global, Result, Ok, Err, refl, ap, sym, ◌∙◌, append_assoc, append-nil, rules}
use Rattle.std.proofs.lemmas.Bool.{false≢true}
use Rattle.std.proofs.lemmas.List.{map-append, drop_all, drop_more}
use Rattle.std.specs.List.{list_any}
use Rattle.indexmap.specs.IndexSet.{insert_key}
use Rattle.toml.specs.Data.{Items, item, Members}
use Rattle.toml.proofs.Views.{items_view-drop, view-Table}
use Rattle.toml.specs.View.{view, items_view, table_view}
use Rattle.toml.specs.declared.value.Value.{Value, the_lemmas}
use Rattle.toml.specs.declared.value.Value.TheVariants as value
use Rattle.ioam_data.specs.declared.namespace.Namespace.{Namespace}
use Rattle.ioam_topo_values.specs.declared.why.Why.{Why}
use Rattle.ioam_topo_values.specs.Numbers.{number}
use Rattle.ioam_topo_values.specs.declared.why.Why.TheVariants.{Kind}
use Rattle.ioam_topo_values.specs.Entries.{spaces, tables, in_front, namespace, apart_from}

-- several in front of what was read
abbrev pub all_front : {A : Type 0} → List A → Result (List A) Why → Result (List A) Why
all_front front (Ok xs) = Ok (front ++ xs)
all_front front (Err why) = Err why

front_more : {A : Type 0} (out : List A) (x : A) (r : Result (List A) Why) → all_front out (in_front x r) ≡ all_front (out ++ x ∷ []) r
front_more out x (Ok xs) = ap Ok (sym (append_assoc out (x ∷ []) xs))
front_more out x (Err why) = refl

-- one namespace more
pub space_turn : (out out' : List Namespace) (vs : List Value) (i n : ℕ) (x : Value) (r : Result (List Namespace) Why) → i < length vs
    → x ≡ slice_index_or vs i x → number 0 65535 (view x) ≡ Ok n → out' ≡ out ++ namespace n ∷ []
    → all_front out (spaces (items_view (drop i vs))) ≡ r → all_front out' (spaces (items_view (drop (i + 1) vs))) ≡ r
space_turn out out' vs i n x r lt at is more before =
    let step : spaces (items_view (drop i vs)) ≡ in_front (namespace n) (spaces (items_view (drop (i + 1) vs))) = rw (items_view-drop vs i x lt, ← at, is) in
    rw more (sym (front_more out (namespace n) (spaces (items_view (drop (i + 1) vs)))) ∙ sym (ap (all_front out) step) ∙ before)

-- a number that is no namespace
pub space_stop : (out : List Namespace) (vs : List Value) (i : ℕ) (x : Value) (why : Why) (r : Result (List Namespace) Why) → i < length vs
    → x ≡ slice_index_or vs i x → number 0 65535 (view x) ≡ Err why → all_front out (spaces (items_view (drop i vs))) ≡ r → r ≡ Err why
space_stop out vs i x why r lt at is before =
    let step : spaces (items_view (drop i vs)) ≡ Err why = rw (items_view-drop vs i x lt, ← at, is) in
    sym before ∙ ap (all_front out) step

-- all were namespaces
pub space_end : (out : List Namespace) (vs : List Value) (i : ℕ) (r : Result (List Namespace) Why) → length vs ≤ i
    → all_front out (spaces (items_view (drop i vs))) ≡ r → r ≡ Ok out
space_end out vs i r past before =
    sym before ∙ ap (λ (l : List Value). all_front out (spaces (items_view l))) (drop_all i vs past) ∙ ap Ok (append-nil out)

-- what tables that were found hold
abbrev pub views : List (Bor (BTreeMap (String Global) Value)) → List Members
views ts = map (λ t. table_view t.now) ts

-- one table more
pub table_turn : (out out' : List (Bor (BTreeMap (String Global) Value))) (t : Bor (BTreeMap (String Global) Value)) (vs : List Value) (i : ℕ) (x : Value) (r : Result (List Members) Why)
    → i < length vs → x ≡ slice_index_or vs i x → out' ≡ out ++ t ∷ [] → x ≡ value.Table t.now
    → all_front (views out) (tables (items_view (drop i vs))) ≡ r → all_front (views out') (tables (items_view (drop (i + 1) vs))) ≡ r
table_turn out out' t vs i x r lt at more is before =
    let step : tables (items_view (drop i vs)) ≡ in_front (table_view t.now) (tables (items_view (drop (i + 1) vs))) = rw (items_view-drop vs i x lt, ← at, is, view-Table t.now) in
    let grown : views out' ≡ views out ++ table_view t.now ∷ [] = ap views more ∙ map-append (λ (b : Bor (BTreeMap (String Global) Value)). table_view b.now) out (t ∷ []) in
    rw grown (sym (front_more (views out) (table_view t.now) (tables (items_view (drop (i + 1) vs)))) ∙ sym (ap (all_front (views out)) step) ∙ before)

no_table : (x : Value) → ((m : BTreeMap (String Global) Value) → x ≡ value.Table m → ⊥) → (ds : Items) → tables (item (view x) ds) ≡ Err Kind
no_table x other ds = search (rules, the_lemmas)

-- a value that is no table
pub table_stop : (out : List Members) (vs : List Value) (i : ℕ) (x : Value) (r : Result (List Members) Why) → i < length vs
    → x ≡ slice_index_or vs i x → ((m : BTreeMap (String Global) Value) → x ≡ value.Table m → ⊥) → all_front out (tables (items_view (drop i vs))) ≡ r → r ≡ Err Kind
table_stop out vs i x r lt at other before =
    let step : tables (items_view (drop i vs)) ≡ Err Kind = rw (items_view-drop vs i x lt, ← at) (no_table x other (items_view (drop (i + 1) vs))) in
    sym before ∙ ap (all_front out) step

-- all were tables
pub table_end : (out : List Members) (vs : List Value) (i : ℕ) (r : Result (List Members) Why) → length vs ≤ i
    → all_front out (tables (items_view (drop i vs))) ≡ r → r ≡ Ok out
table_end out vs i r past before =
    sym before ∙ ap (λ (l : List Value). all_front out (tables (items_view l))) (drop_all i vs past) ∙ ap Ok (append-nil out)

-- what is added where it wasn't there
added : (held new : Bool) (xs ys : List ℕ) → new ≡ not held → new ≡ true → (if held then xs else ys) ≡ ys
added false new xs ys is put = refl
added true new xs ys is put = absurd (false≢true (sym is ∙ put))

both_new : (held new rest : Bool) → new ≡ not held → new ≡ true → (not held && rest) ≡ rest
both_new false new rest is put = refl
both_new true new rest is put = absurd (false≢true (sym is ∙ put))

both_held : (held new rest : Bool) → new ≡ not held → new ≡ false → (not held && rest) ≡ false
both_held true new rest is kept = refl
both_held false new rest is kept = absurd (false≢true (sym kept ∙ is))

-- one namespace that is none of those before it
pub apart_turn : (have after : List ℕ) (ss : List Namespace) (i : ℕ) (d : Namespace) (new r : Bool) → i < length ss
    → new ≡ not (list_any (nat_eq (get_or ss i d).0) have) → new ≡ true → after ≡ insert_key nat_eq have (get_or ss i d).0
    → apart_from have (drop i ss) ≡ r → apart_from after (drop (i + 1) ss) ≡ r
apart_turn have after ss i d new r lt is put more before =
    let k : ℕ = (get_or ss i d).0 in
    let held : Bool = list_any (nat_eq k) have in
    let step : apart_from have (drop i ss) ≡ (not held && apart_from (have ++ k ∷ []) (drop (i + 1) ss)) = ap (apart_from have) (drop_more ss i d lt) in
    ap (λ (l : List ℕ). apart_from l (drop (i + 1) ss)) (more ∙ added held new have (have ++ k ∷ []) is put)
    ∙ sym (both_new held new (apart_from (have ++ k ∷ []) (drop (i + 1) ss)) is put) ∙ sym step ∙ before

-- one that is
pub apart_stop : (have : List ℕ) (ss : List Namespace) (i : ℕ) (d : Namespace) (new r : Bool) → i < length ss
    → new ≡ not (list_any (nat_eq (get_or ss i d).0) have) → new ≡ false → apart_from have (drop i ss) ≡ r → false ≡ r
apart_stop have ss i d new r lt is kept before =
    let k : ℕ = (get_or ss i d).0 in
    let held : Bool = list_any (nat_eq k) have in
    let step : apart_from have (drop i ss) ≡ (not held && apart_from (have ++ k ∷ []) (drop (i + 1) ss)) = ap (apart_from have) (drop_more ss i d lt) in
    sym (both_held held new (apart_from (have ++ k ∷ []) (drop (i + 1) ss)) is kept) ∙ sym step ∙ before

-- all were apart
pub apart_end : (have : List ℕ) (ss : List Namespace) (i : ℕ) (r : Bool) → length ss ≤ i → apart_from have (drop i ss) ≡ r → true ≡ r
apart_end have ss i r past before = sym (ap (apart_from have) (drop_all i ss past)) ∙ before
