-- Laws of what comes of things one behind the other.
use Rattle.std.proofs.Common.{◌≡◌, List, [], ◌∷◌, ◌++◌, sym, ap, ◌∙◌, append_assoc, append-nil}
use Rattle.ioam_batch.specs.Along.{along}

-- of one thing more
pub along-push : {A B : Type 0} (f : List A → A → List B) (done xs : List A) (x : A)
    → along f done (xs ++ x ∷ []) ≡ along f done xs ++ f (done ++ xs) x
along-push f done [] x = append-nil (f done x) ∙ ap (λ ys. f ys x) (sym (append-nil done))
along-push f done (y ∷ ys) x =
    ap (λ zs. f done y ++ zs) (along-push f (done ++ y ∷ []) ys x)
    ∙ sym (append_assoc (f done y) (along f (done ++ y ∷ []) ys) (f ((done ++ y ∷ []) ++ ys) x))
    ∙ ap (λ zs. (f done y ++ along f (done ++ y ∷ []) ys) ++ f zs x) (append_assoc done (y ∷ []) ys)
