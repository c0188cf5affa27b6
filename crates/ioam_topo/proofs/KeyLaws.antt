-- Laws of lists that are mapped.
use Rattle.std.proofs.Common.{◌≡◌, Bool, ◌||◌, List, [], ◌∷◌, ◌++◌, map, length, refl, ap}
use Rattle.std.specs.List.{list_any, position, position_or_len}

pub any_map : {A B : Type 0} (p : B → Bool) (f : A → B) (xs : List A) → list_any (λ x. p (f x)) xs ≡ list_any p (map f xs)
any_map p f [] = refl
any_map p f (x ∷ xs) = ap (λ b. p (f x) || b) (any_map p f xs)

pub place_map : {A B : Type 0} (p : B → Bool) (f : A → B) (xs : List A) → position_or_len (λ x. p (f x)) xs ≡ position_or_len p (map f xs)
place_map p f [] = refl
place_map p f (x ∷ xs) = rw (place_map p f xs)

pub length_map : {A B : Type 0} (f : A → B) (xs : List A) → length xs ≡ length (map f xs)
length_map f [] = refl
length_map f (x ∷ xs) = rw (length_map f xs)

pub position_map : {A B : Type 0} (p : B → Bool) (f : A → B) (xs : List A) → position (λ x. p (f x)) xs ≡ position p (map f xs)
position_map p f xs = rw (place_map p f xs, length_map f xs)

pub map_append : {A B : Type 0} (f : A → B) (xs ys : List A) → map f (xs ++ ys) ≡ map f xs ++ map f ys
map_append f [] ys = refl
map_append f (x ∷ xs) ys = ap (λ zs. f x ∷ zs) (map_append f xs ys)
