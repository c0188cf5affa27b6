-- A strictly increasing map, by recursion on both lists.
use Rattle.std.proofs.Common.{◌≡◌, ◌⊎◌, inl, inr, ℕ, zero, suc, ◌-◌, ◌<◌, List, [], ◌∷◌, length, Some, None, slice_get, IsSomeAnd, refl, sym, ap, subst, arith}
use Rattle.std.proofs.lemmas.Option.{slice_get_within}
use Rattle.ioam_run_audit.specs.Fates.{IsSentOn}

some_same : {X : Type 0} (x y : X) → Some x ≡ Some y → x ≡ y
some_same x y e = ap (λ o. elim o [ None ↦ x | Some z ↦ z ]) e

module _ {B A : Type 0} (Becomes : B → A → Type 0) where
  -- the first things of a list that are taken, in order, by recursion
  abbrev pub Embeds : List B → List A → Type 0
  Embeds bs [] = Unit {0}
  Embeds [] (a ∷ ys) = ⊥
  Embeds (b ∷ bs) (a ∷ ys) = (Becomes b a × Embeds bs ys) ⊎ Embeds bs (a ∷ ys)

  more_before : (b : B) (bs : List B) (ys : List A) → Embeds bs ys → Embeds (b ∷ bs) ys
  more_before b bs [] e = tt
  more_before b bs (a ∷ ys) e = inr e

  -- the others are taken where all are
  pub fewer_after : (bs : List B) (a : A) (ys : List A) → Embeds bs (a ∷ ys) → Embeds bs ys
  fewer_after [] a ys e = absurd e
  fewer_after (b ∷ bs) a ys e = elim e as (λ _. Embeds (b ∷ bs) ys) [
    | inl first ↦ more_before b bs ys first.1
    | inr others ↦ more_before b bs ys (fewer_after bs a ys others)
  ]

  -- ---- from a map

  -- the first is taken for the first
  rest_of_map : (b : B) (bs : List B) (a : A) (ys : List A) → IsSentOn Becomes (b ∷ bs) (a ∷ ys) → IsSentOn Becomes bs ys
  rest_of_map b bs a ys m =
      let up : (i : ℕ) → i < length ys → suc (m.place (suc i) - 1) ≡ m.place (suc i) =
      λ i within. omega (arith, m.rises 0 (suc i) (omega arith) (omega (arith, within))) in
      record {
        place = λ i. m.place (suc i) - 1;
        rises = λ i j before within. omega (arith, up i (omega arith), up j within, m.rises (suc i) (suc j) (omega arith) (omega (arith, within)));
        each = λ i x is. subst (λ n. IsSomeAnd (slice_get (b ∷ bs) n) (λ y. Becomes y x)) (sym (up i (slice_get_within ys i x is))) (m.each (suc i) x is);
      }

  -- the first isn't taken
  map_behind : (b : B) (bs : List B) (a : A) (ys : List A) (k : ℕ) (m : IsSentOn Becomes (b ∷ bs) (a ∷ ys)) → m.place 0 ≡ suc k → IsSentOn Becomes bs (a ∷ ys)
  map_behind b bs a ys k m first =
      let up : (i : ℕ) → i < length (a ∷ ys) → suc (m.place i - 1) ≡ m.place i = later in
      record {
        place = λ i. m.place i - 1;
        rises = λ i j before within. omega (arith, up i (omega arith), up j within, m.rises i j before within);
        each = λ i x is. subst (λ n. IsSomeAnd (slice_get (b ∷ bs) n) (λ y. Becomes y x)) (sym (up i (slice_get_within (a ∷ ys) i x is))) (m.each i x is);
      }
    where
      later : (i : ℕ) → i < length (a ∷ ys) → suc (m.place i - 1) ≡ m.place i
      later zero within = omega (arith, first)
      later (suc i) within = omega (arith, m.rises 0 (suc i) (omega arith) within)

  by_first : (b : B) (bs : List B) (a : A) (ys : List A) (m : IsSentOn Becomes (b ∷ bs) (a ∷ ys)) (p : ℕ) → m.place 0 ≡ p
      → (IsSentOn Becomes bs ys → Embeds bs ys) → (IsSentOn Becomes bs (a ∷ ys) → Embeds bs (a ∷ ys)) → Embeds (b ∷ bs) (a ∷ ys)
  by_first b bs a ys m zero is others behind =
      inl (subst (λ n. IsSomeAnd (slice_get (b ∷ bs) n) (λ y. Becomes y a)) is (m.each 0 a refl), others (rest_of_map b bs a ys m))
  by_first b bs a ys m (suc k) is others behind = inr (behind (map_behind b bs a ys k m is))

  pub from_map : (bs : List B) (ys : List A) → IsSentOn Becomes bs ys → Embeds bs ys
  from_map bs [] m = tt
  from_map [] (a ∷ ys) m = m.each 0 a refl
  from_map (b ∷ bs) (a ∷ ys) m = by_first b bs a ys m (m.place 0) refl (from_map bs ys) (from_map bs (a ∷ ys))

  -- ---- to a map

  abbrev shifted : (ℕ → ℕ) → ℕ → ℕ
  shifted place zero = zero
  shifted place (suc i) = suc (place i)

  no_map : (bs : List B) → IsSentOn Becomes bs []
  no_map bs = record {
    place = λ i. i;
    rises = λ i j before within. before;
    each = λ i x is. absurd (cc is);
  }

  map_first : (b : B) (bs : List B) (a : A) (ys : List A) → Becomes b a → IsSentOn Becomes bs ys → IsSentOn Becomes (b ∷ bs) (a ∷ ys)
  map_first b bs a ys can m = record { place = shifted m.place; rises = rising; each = all }
    where
      rising : (i j : ℕ) → i < j → j < length (a ∷ ys) → shifted m.place i < shifted m.place j
      rising zero zero before within = omega (arith, before)
      rising zero (suc j) before within = omega arith
      rising (suc i) zero before within = omega (arith, before)
      rising (suc i) (suc j) before within = omega (arith, m.rises i j (omega (arith, before)) (omega (arith, within)))

      all : (i : ℕ) (x : A) → slice_get (a ∷ ys) i ≡ Some x → IsSomeAnd (slice_get (b ∷ bs) (shifted m.place i)) (λ y. Becomes y x)
      all zero x is = subst (λ z. Becomes b z) (some_same a x is) can
      all (suc i) x is = m.each i x is

  map_later : (b : B) (bs : List B) (ys : List A) → IsSentOn Becomes bs ys → IsSentOn Becomes (b ∷ bs) ys
  map_later b bs ys m = record {
    place = λ i. suc (m.place i);
    rises = λ i j before within. omega (arith, m.rises i j before within);
    each = m.each;
  }

  pub to_map : (bs : List B) (ys : List A) → Embeds bs ys → IsSentOn Becomes bs ys
  to_map bs [] e = no_map bs
  to_map [] (a ∷ ys) e = absurd e
  to_map (b ∷ bs) (a ∷ ys) e = elim e as (λ _. IsSentOn Becomes (b ∷ bs) (a ∷ ys)) [
    | inl first ↦ map_first b bs a ys first.0 (to_map bs ys first.1)
    | inr others ↦ map_later b bs (a ∷ ys) (to_map bs (a ∷ ys) others)
  ]
