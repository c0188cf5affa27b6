-- Laws of lists of equal entries.
use Rattle.std.proofs.Common.{◌≡◌, List, ◌∷◌, ap, ◌∙◌}

-- equal where the first entries and the rests are
pub same_more : {A : Type 0} {x y : A} {xs ys : List A} → x ≡ y → xs ≡ ys → x ∷ xs ≡ y ∷ ys
same_more {A} {x} {y} {xs} {ys} is are = ap (λ z. z ∷ xs) is ∙ ap (λ zs. y ∷ zs) are
