-- Laws of faults and of entries that are taken in turn.
use Rattle.std.proofs.Common.{◌≡◌, ℕ, ◌+◌, ◌<◌, List, [], ◌∷◌, ◌++◌, map, length, take, slice_index_or, Some, Err, refl, ap, sym, ◌∙◌}
use Rattle.std.proofs.lemmas.List.{take_more}
use Rattle.toml.specs.Data.{Members}
use Rattle.ioam_topo_entries.specs.declared.fault.DomainFault.{DomainFault}
use Rattle.ioam_topo_entries.specs.declared.fault.DomainRefused.{DomainRefused}
use Rattle.ioam_topo_entries.specs.declared.fault.DomainRefused.TheVariants.{Fault, NoMemory}
use Rattle.ioam_topo_entries.specs.Faults.{first, Gives}
use Rattle.ioam_topo.proofs.KeyLaws.{map_append}

first_append : (xs ys : List DomainFault) (f : DomainFault) → first xs ≡ Some f → first (xs ++ ys) ≡ Some f
first_append [] ys f is = cc
first_append (x ∷ xs) ys f is = is

-- a refusal by the first of several lists
pub gives_first : {A B : Type 0} (refused : DomainRefused) (xs ys zs : List DomainFault) (P : A → Type 0) (Q : B → Type 0)
    → zs ≡ xs ++ ys → Gives {A = A} (Err refused) xs P → Gives {A = B} (Err refused) zs Q
gives_first (Fault f) xs ys zs P Q are is = ap first are ∙ first_append xs ys f is
gives_first NoMemory xs ys zs P Q are is = is

module _ {X T : Type 0} (F : List Members → Members → List DomainFault) (H : List Members → T → Type 0) (f : X → Members) where
  front_more : (xs : List X) (i : ℕ) (x : X) → i < length xs → x ≡ slice_index_or xs i x → map f (take i xs) ++ f x ∷ [] ≡ map f (take (i + 1) xs)
  front_more xs i x lt at = sym (ap (map f) (take_more xs i x lt) ∙ map_append f (take i xs) (slice_index_or xs i x ∷ []) ∙ ap (λ y. map f (take i xs) ++ f y ∷ []) (sym at))

-- a refusal by the same faults
pub gives_same : {A B : Type 0} (refused : DomainRefused) (xs ys : List DomainFault) (P : A → Type 0) (Q : B → Type 0)
    → xs ≡ ys → Gives {A = A} (Err refused) xs P → Gives {A = B} (Err refused) ys Q
gives_same (Fault f) xs ys P Q are is = ap first (sym are) ∙ is
gives_same NoMemory xs ys P Q are is = is

-- faults behind none
pub behind : (xs ys zs ws : List DomainFault) → xs ≡ [] → ys ≡ zs → xs ++ (zs ++ ws) ≡ ys ++ ws
behind xs ys zs ws none same = ap (λ l. l ++ (zs ++ ws)) none ∙ ap (λ l. l ++ ws) (sym same)

pub nothing_behind : (xs : List DomainFault) → xs ≡ xs ++ []
nothing_behind [] = refl
nothing_behind (x ∷ xs) = ap (λ l. x ∷ l) (nothing_behind xs)

-- the third of four, behind none
pub third_of_four : (xs ys rs qs ws : List DomainFault) → xs ≡ [] → ys ≡ [] → rs ≡ qs → xs ++ (ys ++ (qs ++ ws)) ≡ rs ++ ws
third_of_four xs ys rs qs ws none empty same = ap (λ l. l ++ (ys ++ (qs ++ ws))) none ∙ ap (λ l. l ++ (qs ++ ws)) empty ∙ ap (λ l. l ++ ws) (sym same)

-- the last of four, behind none
pub last_of_four : (xs ys rs qs ws : List DomainFault) → xs ≡ [] → ys ≡ [] → rs ≡ [] → rs ≡ qs → xs ++ (ys ++ (qs ++ ws)) ≡ ws ++ []
last_of_four xs ys rs qs ws none empty clear same = third_of_four xs ys rs qs ws none empty same ∙ ap (λ l. l ++ ws) clear ∙ nothing_behind ws

pub none_of_four : (xs ys rs qs ws : List DomainFault) → xs ≡ [] → ys ≡ [] → rs ≡ [] → rs ≡ qs → ws ≡ [] → xs ++ (ys ++ (qs ++ ws)) ≡ []
none_of_four xs ys rs qs ws none empty clear same also = third_of_four xs ys rs qs ws none empty same ∙ ap (λ l. l ++ ws) clear ∙ also
