-- The options of an interface block as a relation.
use Rattle.std.proofs.Common.{◌≡◌, ℕ, zero, suc, ◌≤◌, List, [], ◌∷◌, length, Bool, Option, Some, None, true, false, arith, refl, sym, ap, ◌∙◌, subst, length-drop}
use Rattle.std.specs.Option.{option_map, MatchOption}
use Rattle.std.proofs.lemmas.Bool.{true≢false}
use Rattle.ioam_pcap.specs.declared.form.Order.{Order}
use Rattle.ioam_ng.specs.declared.face.Face.{Face}
use Rattle.ioam_ng.specs.Numbers.{short_at}
use Rattle.ioam_ng.specs.Options.{Item, HasItems, PassesBody, behind, is_end, is_past, item_in, item_size, items_by, items_in}
use Rattle.ioam_ng.specs.Face.{face_of}
use Rattle.ioam_ng.specs.Blocks.{TellsFace, face_at, face_options}

module _ (order : Order) where
  -- an option takes octets
  smaller : (octets : List ℕ) (n : ℕ) → is_past order octets ≡ false → length octets ≤ suc n → length (behind order octets) ≤ n
  smaller octets n fits few = omega (arith, length-drop (item_size order octets) octets)

  push : (octets : List ℕ) → is_end order octets ≡ false → is_past order octets ≡ false
      → (rest : Option (List Item)) → MatchOption rest (PassesBody order (behind order octets)) (HasItems order (behind order octets))
      → MatchOption (option_map (λ items. item_in order octets ∷ items) rest) (PassesBody order octets) (HasItems order octets)
  push octets on fits None passes =
      let (items, last, leads, begun, past) = passes in
      (item_in order octets ∷ items, last, ((on, fits), refl, leads), begun, past)
  push octets on fits (Some items) has =
      let (last, leads, ends) = has in
      (last, ((on, fits), refl, leads), ends)

  -- as many steps as there are octets find the options that stand there, or that one passes the body
  items_found : (steps : ℕ) (octets : List ℕ) → length octets ≤ steps → MatchOption (items_by order steps octets) (PassesBody order octets) (HasItems order octets)
  items_found zero [] few = ([], refl, refl)
  items_found zero (x ∷ xs) few = absurd (omega arith)
  items_found (suc n) octets few = by (items_found n (behind order octets)) (is_end order octets) refl (is_past order octets) refl
    where
      by : (length (behind order octets) ≤ n → MatchOption (items_by order n (behind order octets)) (PassesBody order (behind order octets)) (HasItems order (behind order octets)))
          → (e : Bool) → is_end order octets ≡ e → (p : Bool) → is_past order octets ≡ p
          → MatchOption (items_by order (suc n) octets) (PassesBody order octets) (HasItems order octets)
      by later true ends p past = rw ends (octets, refl, ends)
      by later false on true past = rw (on, past) ([], octets, refl, on, past)
      by later false on false fits = rw (on, fits) (push octets on fits (items_by order n (behind order octets)) (later (smaller octets n fits few)))

  -- and no others stand there
  items_only : (steps : ℕ) (octets : List ℕ) (items : List Item) → length octets ≤ steps → HasItems order octets items → items_by order steps octets ≡ Some items
  items_only zero [] [] few has = refl
  items_only zero [] (y ∷ ys) few has = absurd (true≢false has.1.0.0)
  items_only zero (x ∷ xs) items few has = absurd (omega arith)
  items_only (suc n) octets [] few has =
      let here : octets ≡ has.0 = has.1 in
      let ends : is_end order octets ≡ true = ap (is_end order) here ∙ has.2 in
      rw ends refl
  items_only (suc n) octets (y ∷ ys) few has =
      let (rest, leads, ends) = has in
      let later = items_only n (behind order octets) ys (smaller octets n leads.0.1 few) (rest, leads.2, ends) in
      let one : item_in order octets ∷ ys ≡ y ∷ ys = ap (λ item. item ∷ ys) (sym leads.1) in
      rw (leads.0.0, leads.0.1, later) (ap Some one)

-- an interface block is told by its options
module _ (order : Order) (block : List ℕ) where
  abbrev octets : List ℕ
  octets = face_options order block

  abbrev of : List Item → Face
  of = face_of order (short_at order block 8)

  found : MatchOption (items_in order octets) (PassesBody order octets) (HasItems order octets)
  found = items_found order (length octets) octets (omega arith)

  only : (items : List Item) → HasItems order octets items → items_in order octets ≡ Some items
  only items has = items_only order (length octets) octets items (omega arith) has

  told_by : (r : Option (List Item)) → items_in order octets ≡ r → TellsFace order block (option_map of r)
  told_by None none = (
    let Q : Option (List Item) → Type 0 = λ o. MatchOption o (PassesBody order octets) (HasItems order octets) in subst Q none found,
    λ face says.
        let (items, has, same) = says in
        let wrong : ◌≡◌ {A = Option (List Item)} None (Some items) = sym none ∙ only items has in
        absurd (cc),
  )
  told_by (Some items) some = (
    let Q : Option (List Item) → Type 0 = λ o. MatchOption o (PassesBody order octets) (HasItems order octets) in (items, subst Q some found, refl),
    λ other says.
        let (others, has, same) = says in
        let both : ◌≡◌ {A = Option (List Item)} (Some items) (Some others) = sym some ∙ only others has in
        let equal : items ≡ others = cc in
        same ∙ ap of (sym equal),
  )

  pub face_told : TellsFace order block (face_at order block)
  face_told = told_by (items_in order octets) refl
