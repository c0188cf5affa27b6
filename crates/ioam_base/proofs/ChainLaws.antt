-- Laws of things that stand one behind the other.
use Rattle.std.proofs.Common.{◌≡◌, List, [], ◌∷◌, ◌++◌, refl, sym, ap, ap₂, ◌∙◌, subst}
use Rattle.ioam_base.specs.Chain.{Chain, Stops, IsFunctional}

module _ {Place Thing : Type 0} (Passes : Place → Thing → Place → Type 0) where
  -- one thing more at the end
  pub Chain-push : (a : Place) (xs : List Thing) (b : Place) (x : Thing) (c : Place) → Chain Passes a xs b → Passes b x c
      → Chain Passes a (xs ++ x ∷ []) c
  Chain-push a [] b x c here pass = (c, subst (λ p. Passes p x c) (sym here) pass, refl)
  Chain-push a (y ∷ xs) b x c (m, first, rest) pass = (m, first, Chain-push m xs b x c rest pass)

  -- up to places where nothing stands lead the same things, to the same place
  pub Chain-unique : IsFunctional Passes → (a : Place) (xs : List Thing) (b : Place) (ys : List Thing) (c : Place)
      → Chain Passes a xs b → Stops Passes b → Chain Passes a ys c → Stops Passes c → (xs ≡ ys) × (b ≡ c)
  Chain-unique one a [] b [] c here stop there stops = (refl, sym here ∙ there)
  Chain-unique one a [] b (y ∷ ys) c here stop (m, first, rest) stops = absurd (stop y m (subst (λ p. Passes p y m) here first))
  Chain-unique one a (x ∷ xs) b [] c (m, first, rest) stop here stops = absurd (stops x m (subst (λ p. Passes p x m) here first))
  Chain-unique one a (x ∷ xs) b (y ∷ ys) c (m, first, rest) stop (n, other, more) stops =
      let same : (x ≡ y) × (m ≡ n) = one a x m y n first other in
      let behind : Chain Passes m ys c = subst (λ p. Chain Passes p ys c) (sym same.1) more in
      let all : (xs ≡ ys) × (b ≡ c) = Chain-unique one m xs b ys c rest stop behind stops in
      (ap₂ (λ z zs. z ∷ zs) same.0 all.0, all.1)

  -- where what passes at a place passes at the place that stands for it
  pub Chain-moved : (f : Place → Place) → ((a : Place) (x : Thing) (b : Place) → Passes a x b → Passes (f a) x (f b))
      → (a : Place) (xs : List Thing) (c : Place) → Chain Passes a xs c → Chain Passes (f a) xs (f c)
  Chain-moved f moved a [] c here = ap f here
  Chain-moved f moved a (x ∷ xs) c (b, first, rest) = (f b, moved a x b first, Chain-moved f moved b xs c rest)
