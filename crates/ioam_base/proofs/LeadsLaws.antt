-- Laws of things that stand one behind the other.
use Rattle.std.proofs.Common.{◌≡◌, List, [], ◌∷◌, ◌++◌, refl, sym, ◌∙◌, subst}
use Rattle.ioam_base.specs.Leads.{Leads}

module _ {Place Thing : Type 0} (CanPass : Place → Type 0) (thing : Place → Thing) (behind : Place → Place) where
  -- one thing more at the end
  pub Leads-push : (a : Place) (xs : List Thing) (b : Place) → Leads CanPass thing behind a xs b → CanPass b
      → Leads CanPass thing behind a (xs ++ thing b ∷ []) (behind b)
  Leads-push a [] b here pass = let P : Place → Type 0 = λ p. Leads CanPass thing behind p (thing b ∷ []) (behind b) in
      subst P (sym here) (pass, refl, refl)
  Leads-push a (x ∷ xs) b leads pass = (leads.0, leads.1, Leads-push (behind a) xs b leads.2 pass)

  -- two parts joined
  pub Leads-append : (a : Place) (xs : List Thing) (b : Place) (ys : List Thing) (c : Place)
      → Leads CanPass thing behind a xs b → Leads CanPass thing behind b ys c
      → Leads CanPass thing behind a (xs ++ ys) c
  Leads-append a [] b ys c here more = let P : Place → Type 0 = λ p. Leads CanPass thing behind p ys c in subst P (sym here) more
  Leads-append a (x ∷ xs) b ys c leads more = (leads.0, leads.1, Leads-append (behind a) xs b ys c leads.2 more)

  -- from one place to two places that can't be passed lead the same things, to the same place
  pub Leads-unique : (a : Place) (xs : List Thing) (b : Place) (ys : List Thing) (c : Place)
      → Leads CanPass thing behind a xs b → (CanPass b → ⊥) → Leads CanPass thing behind a ys c → (CanPass c → ⊥)
      → (xs ≡ ys) × (b ≡ c)
  Leads-unique a [] b [] c here stop there stops = (refl, sym here ∙ there)
  Leads-unique a [] b (y ∷ ys) c here stop leads stops = let P : Place → Type 0 = λ p. CanPass p in absurd (stop (subst P here leads.0))
  Leads-unique a (x ∷ xs) b [] c leads stop here stops = let P : Place → Type 0 = λ p. CanPass p in absurd (stops (subst P here leads.0))
  Leads-unique a (x ∷ xs) b (y ∷ ys) c leads stop others stops =
      let rest : (xs ≡ ys) × (b ≡ c) = Leads-unique (behind a) xs b ys c leads.2 stop others.2 stops in
      let first : x ≡ y = leads.1 ∙ sym others.1 in
      (cc, rest.1)

  -- from a place to another and, by the same things and more, to one that can't be passed
  pub Leads-beyond : (a : Place) (xs : List Thing) (b : Place) (ys : List Thing) (c : Place)
      → Leads CanPass thing behind a xs b → Leads CanPass thing behind a ys c → (CanPass c → ⊥)
      → (more : List Thing) × (ys ≡ xs ++ more)
  Leads-beyond a [] b ys c here leads stops = (ys, refl)
  Leads-beyond a (x ∷ xs) b [] c leads here stops = let P : Place → Type 0 = λ p. CanPass p in absurd (stops (subst P here leads.0))
  Leads-beyond a (x ∷ xs) b (y ∷ ys) c leads others stops =
      let (more, same) = Leads-beyond (behind a) xs b ys c leads.2 others.2 stops in
      let first : y ≡ x = others.1 ∙ sym leads.1 in
      (more, cc)
