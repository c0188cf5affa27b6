-- The options of an interface that are left, behind what was found.
use Rattle.std.proofs.Common.{◌≡◌, ℕ, zero, suc, List, [], ◌∷◌, drop, Option, Some, None, true, false, arith, refl, ◌∙◌, subst}
use Rattle.std.specs.Option.{option_or, option_map}
use Rattle.ioam_pcap.specs.declared.form.Order.{Order}
use Rattle.ioam_ng.specs.declared.face.Face.{Face}
use Rattle.ioam_ng.specs.declared.option.Said.{Said}
use Rattle.ioam_ng.specs.Options.{Item, is_end, is_past, item_in, item_size, items_by, resolution_in, offset_in}
use Rattle.ioam_ng.specs.Face.{face_in, face_with}

module _ (order : Order) (kind : ℕ) (octets : List ℕ) where
  abbrev pub Left : ℕ → List ℕ → Said → Type 0
  Left steps rest found = face_in order kind octets ≡ option_map (face_with order kind found.resolution found.offset) (items_by order steps rest)

  abbrev pub done : Said → Option Face
  done found = Some (face_with order kind found.resolution found.offset [])

  pub left_out : (steps : ℕ) (rest : List ℕ) (found : Said) → steps ≡ 0 → Left steps rest found → face_in order kind octets ≡ done found
  left_out zero rest found none left = left
  left_out (suc n) rest found none left = absurd (omega arith)

  pub left_end : (steps n : ℕ) (rest : List ℕ) (found : Said) → steps ≡ suc n → Left steps rest found → is_end order rest ≡ true → face_in order kind octets ≡ done found
  left_end zero n rest found some left ends = absurd (omega arith)
  left_end (suc m) n rest found some left ends = left ∙ rw (ends) refl

  pub left_past : (steps n : ℕ) (rest : List ℕ) (found : Said) → steps ≡ suc n → Left steps rest found → is_end order rest ≡ false → is_past order rest ≡ true
      → face_in order kind octets ≡ None
  left_past zero n rest found some left on past = absurd (omega arith)
  left_past (suc m) n rest found some left on past = left ∙ rw (on, past) refl

  joined : (item : Item) (found more : Said) → ((items : List Item) → option_or more.resolution (resolution_in order items) ≡ option_or found.resolution (resolution_in order (item ∷ items)))
      → ((items : List Item) → option_or more.offset (offset_in order items) ≡ option_or found.offset (offset_in order (item ∷ items)))
      → (left : Option (List Item)) → option_map (face_with order kind found.resolution found.offset) (option_map (λ items. item ∷ items) left)
      ≡ option_map (face_with order kind more.resolution more.offset) left
  joined item found more resolution offset None = refl
  joined item found more resolution offset (Some items) = rw (resolution items, offset items) refl

  pub left_next : (steps n : ℕ) (rest : List ℕ) (found more : Said) → steps ≡ suc n → Left steps rest found → is_end order rest ≡ false → is_past order rest ≡ false
      → ((items : List Item) → option_or more.resolution (resolution_in order items) ≡ option_or found.resolution (resolution_in order (item_in order rest ∷ items)))
      → ((items : List Item) → option_or more.offset (offset_in order items) ≡ option_or found.offset (offset_in order (item_in order rest ∷ items)))
      → Left n (drop (item_size order rest) rest) more
  left_next zero n rest found more some left on fits resolution offset = absurd (omega arith)
  left_next (suc m) n rest found more some left on fits resolution offset =
      let same : m ≡ n = omega arith in
      let Q : ℕ → Type 0 = λ k. Left k (drop (item_size order rest) rest) more in
      subst Q same (left ∙ rw (on, fits) refl ∙ joined (item_in order rest) found more resolution offset (items_by order m (drop (item_size order rest) rest)))
