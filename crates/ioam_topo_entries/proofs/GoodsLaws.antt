-- Laws of what entries read as.
use Rattle.std.proofs.Common.{◌≡◌, ◌≢◌, ◌<◌, ◌≤◌, ◌+◌, ℕ, Bool, true, false, nat_eq, nat_lt, cond, List, [], ◌∷◌, ◌++◌, length, Some, None, Result, Ok, Err, refl, ap, sym, subst, ◌∙◌, arith}
use Rattle.std.specs.List.{All, list_any, position_or_len}
use Rattle.std.specs.Str.{bytes_eq}
use Rattle.std.proofs.lemmas.Bool.Decides.{nat_tests}
use Rattle.std.proofs.lemmas.List.Elements.{All-cons, All-nil}
use Rattle.toml.specs.Data.{Members}
use Rattle.ioam_topo_values.specs.declared.why.Why.{Why}
use Rattle.ioam_topo_values.specs.declared.why.Why.TheVariants.{Twice}
use Rattle.ioam_topo_values.specs.Reads.{◌▷◌}
use Rattle.ioam_topo_entries.specs.Goods.{goods, kept, fresh, known, there, differs}

-- what was kept in front of a list is in front of more
pub kept_append : {A : Type 0} (r : Result A Why) (xs ys : List A) → kept r (xs ++ ys) ≡ kept r xs ++ ys
kept_append (Ok x) xs ys = refl
kept_append (Err why) xs ys = refl

goods_more : {A : Type 0} (read : Members → Result A Why) (ms : List Members) (m : Members) (x : A) → read m ≡ Ok x
    → goods read (ms ++ m ∷ []) ≡ goods read ms ++ x ∷ []
goods_more read [] m x is = ap (λ r. kept r []) is
goods_more read (n ∷ ms) m x is = ap (kept (read n)) (goods_more read ms m x is) ∙ kept_append (read n) (goods read ms) (x ∷ [])

-- one entry more
pub goods_push : {A : Type 0} (read : Members → Result A Why) (ms : List Members) (m : Members) (x : A) (old new : List A)
    → read m ≡ Ok x → old ≡ goods read ms → new ≡ old ++ x ∷ [] → new ≡ goods read (ms ++ m ∷ [])
goods_push read ms m x old new is are more = more ∙ ap (λ l. l ++ x ∷ []) are ∙ sym (goods_more read ms m x is)

fresh_under : {A : Type 0} (b : Bool) (y x : A) (r : Result A Why) → r ≡ cond b (Err Twice) (Ok y) → r ≡ Ok x → (b ≡ false) × (y ≡ x)
fresh_under true y x r are is = cc
fresh_under false y x r are is = (refl, cc)

-- what was found fresh is fresh
pub fresh_new : {A : Type 0} (same : A → A → Bool) (seen : List A) (r : Result A Why) (x : A) → r ▷ fresh same seen ≡ Ok x → list_any (same x) seen ≡ false
fresh_new {A} same seen (Ok y) x is =
    let both : (list_any (same y) seen ≡ false) × (y ≡ x) = fresh_under (list_any (same y) seen) y x (Ok y ▷ fresh same seen) refl is in
    let P : A → Type 0 = λ z. list_any (same z) seen ≡ false in subst P both.1 both.0
fresh_new same seen (Err why) x is = cc

-- and is what was read
pub fresh_from : {A : Type 0} (same : A → A → Bool) (seen : List A) (r : Result A Why) (x : A) → r ▷ fresh same seen ≡ Ok x → r ≡ Ok x
fresh_from same seen (Ok y) x is = ap Ok (fresh_under (list_any (same y) seen) y x (Ok y ▷ fresh same seen) refl is).1
fresh_from same seen (Err why) x is = cc

kept_all : {A : Type 0} (P : A → Type 0) (r : Result A Why) (xs : List A) → ((x : A) → r ≡ Ok x → P x) → All P xs → All P (kept r xs)
kept_all P (Ok x) xs good all = All-cons P x xs (good x refl) all
kept_all P (Err why) xs good all = all

-- what each entry reads as has it
pub goods_all : {A : Type 0} (P : A → Type 0) (read : Members → Result A Why) (ms : List Members) → ((m : Members) (x : A) → read m ≡ Ok x → P x) → All P (goods read ms)
goods_all P read [] good = All-nil P
goods_all P read (m ∷ ms) good = kept_all P (read m) (goods read ms) (good m) (goods_all P read ms good)

kept_few : {A : Type 0} (r : Result A Why) (xs : List A) (n : ℕ) → length xs ≤ n → length (kept r xs) ≤ n + 1
kept_few (Ok x) xs n few = omega (arith, few)
kept_few (Err why) xs n few = omega (arith, few)

-- no more than the entries
pub goods_few : {A : Type 0} (read : Members → Result A Why) (ms : List Members) → length (goods read ms) ≤ length ms
goods_few read [] = omega arith
goods_few read (m ∷ ms) = let f : length (kept (read m) (goods read ms)) ≤ length ms + 1 = kept_few (read m) (goods read ms) (length ms) (goods_few read ms) in omega (arith, f)

there_below : (k n i : ℕ) (b : Bool) → nat_lt k n ≡ b → there (cond b (Some k) None) ≡ Ok i → i < n
there_below k n i true lt is = let same : k ≡ i = cc in grind (arith, nat_tests, lt, same)
there_below k n i false lt is = cc

-- a name that is known is one of so many
pub known_below : (names : List (List ℕ)) (r : Result (List ℕ) Why) (i : ℕ) → r ▷ known names ≡ Ok i → i < length names
known_below names (Ok s) i is = there_below (position_or_len (bytes_eq s) names) (length names) i (nat_lt (position_or_len (bytes_eq s) names) (length names)) refl is
known_below names (Err why) i is = cc

apart_in : (i j k : ℕ) (b : Bool) → nat_eq i j ≡ b → cond b (Err Why.Range) (Ok j) ≡ Ok k → (j ≡ k) × (i ≢ k)
apart_in i j k true eq is = cc
apart_in i j k false eq is = let same : j ≡ k = cc in (same, grind (arith, nat_tests, eq, same))

-- a place that differs from another
pub differs_apart : (from : ℕ) (r : Result ℕ Why) (k : ℕ) → r ▷ differs (Ok from) ≡ Ok k → (r ≡ Ok k) × (from ≢ k)
differs_apart from (Ok j) k is = let both : (j ≡ k) × (from ≢ k) = apart_in from j k (nat_eq from j) refl is in (ap Ok both.0, both.1)
differs_apart from (Err why) k is = cc
