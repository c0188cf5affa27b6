-- Laws of a list that one element was put behind.
use Rattle.std.proofs.Common.{◌≡◌, List, [], ◌∷◌, ◌++◌, length, drop, ap, length-append, arith}

-- lists that end in one element each are the same only where these are
pub last-same : {A : Type 0} (xs ys : List A) (x y : A) → xs ++ x ∷ [] ≡ ys ++ y ∷ [] → x ≡ y
last-same [] [] x y same = cc same
last-same [] (k ∷ ys) x y same = absurd (omega (arith, ap length same, length-append ys (y ∷ [])))
last-same (h ∷ xs) [] x y same = absurd (omega (arith, ap length same, length-append xs (x ∷ [])))
last-same (h ∷ xs) (k ∷ ys) x y same = last-same xs ys x y (ap (drop 1) same)
