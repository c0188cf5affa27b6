-- Laws of what files hold of the texts that were said to their outputs.
use Rattle.std.proofs.Common.{◌≡◌, ℕ, ◌+◌, Bool, IsTrue, IsSomeAnd, List, [], ◌∷◌, ◌++◌, length, Option, Some, None, All, refl, sym, ◌∙◌, ap, subst, append-nil, append_assoc, arith}
use Rattle.std.proofs.lemmas.List.Elements.{All-head, All-tail}
use Rattle.ioam_base.specs.Octets.{IsFront}
use Rattle.ioam_desk.specs.Desk.{Writing, Written, holds}
use Rattle.ioam_desk_outputs.specs.declared.output.Output.{Output}
use Rattle.ioam_desk_outputs.specs.Held.{HoldTexts, HoldAllFronts, HoldFronts}
use Rattle.ioam_desk_outputs.specs.Told.{AreTold, said_more}

-- a name that is tied to a slot holds what was written there
pub holds_slot : (desk : Writing) (name : List ℕ) (slot : ℕ) → desk.files name ≡ Some (Written slot) → holds desk name ≡ Some (desk.written slot)
holds_slot desk name slot tied = rw tied refl

pub front_held : (held : Option (List ℕ)) (part text : List ℕ) → held ≡ Some part → IsFront part text → IsSomeAnd held (λ p. IsFront p text)
front_held held part text is front = let P : Option (List ℕ) → Type 0 = λ o. IsSomeAnd o (λ p. IsFront p text) in subst P (sym is) front

-- each file holds a front of what was said to its output
pub AreTold-fronts : (tells : Bool) (desk : Writing) (slot : ℕ) (names : List (List ℕ)) (outputs : List Output) (texts : List (List ℕ))
    → IsTrue tells → AreTold tells desk slot names outputs texts → HoldAllFronts desk names texts
AreTold-fronts tells desk slot [] [] [] is told = tt
AreTold-fronts tells desk slot (name ∷ names) (output ∷ outputs) (text ∷ texts) is told = (
  front_held (holds desk name) (desk.written slot) text (holds_slot desk name slot (told.0.tied is))
      (record { rest = output.gathered.items; is = told.0.said is }),
  AreTold-fronts tells desk (slot + 1) names outputs texts is told.1,
)
AreTold-fronts tells desk slot [] [] (text ∷ texts) is told = absurd told
AreTold-fronts tells desk slot [] (output ∷ outputs) texts is told = absurd told
AreTold-fronts tells desk slot (name ∷ names) [] texts is told = absurd told
AreTold-fronts tells desk slot (name ∷ names) (output ∷ outputs) [] is told = absurd told

-- where nothing is gathered each file holds all that was said to its output
pub AreTold-texts : (tells : Bool) (desk : Writing) (slot : ℕ) (names : List (List ℕ)) (outputs : List Output) (texts : List (List ℕ))
    → All (λ (output : Output). output.gathered.items ≡ []) outputs
    → IsTrue tells → AreTold tells desk slot names outputs texts → HoldTexts desk names texts
AreTold-texts tells desk slot [] [] [] none is told = tt
AreTold-texts tells desk slot (name ∷ names) (output ∷ outputs) (text ∷ texts) none is told =
    let nothing : output.gathered.items ≡ [] = All-head (λ (output : Output). output.gathered.items ≡ []) output outputs none in (
      holds_slot desk name slot (told.0.tied is) ∙ ap Some (sym (told.0.said is ∙ ap (λ (xs : List ℕ). desk.written slot ++ xs) nothing ∙ append-nil (desk.written slot))),
      AreTold-texts tells desk (slot + 1) names outputs texts (All-tail (λ (output : Output). output.gathered.items ≡ []) output outputs none) is told.1,
    )
AreTold-texts tells desk slot [] [] (text ∷ texts) none is told = absurd told
AreTold-texts tells desk slot [] (output ∷ outputs) texts none is told = absurd told
AreTold-texts tells desk slot (name ∷ names) [] texts none is told = absurd told
AreTold-texts tells desk slot (name ∷ names) (output ∷ outputs) [] none is told = absurd told

-- files that each hold a front hold it wherever they were opened
pub HoldAllFronts-holds : (old new : Writing) (k : ℕ) (names texts : List (List ℕ)) → HoldAllFronts new names texts → HoldFronts old new k names texts
HoldAllFronts-holds old new k [] [] fronts = tt
HoldAllFronts-holds old new k (name ∷ names) (text ∷ texts) fronts = ((λ opened. fronts.0), HoldAllFronts-holds old new (k + 1) names texts fronts.1)
HoldAllFronts-holds old new k [] (text ∷ texts) fronts = absurd fronts
HoldAllFronts-holds old new k (name ∷ names) [] fronts = absurd fronts

-- a front is one of a longer text
more_front : (held : Option (List ℕ)) (text more : List ℕ) → IsSomeAnd held (λ part. IsFront part text) → IsSomeAnd held (λ part. IsFront part (text ++ more))
more_front None text more holds = absurd holds
more_front (Some part) text more front = record {
  rest = front.rest ++ more;
  is = ap (λ (xs : List ℕ). xs ++ more) front.is ∙ append_assoc part front.rest more;
}

pub more_fronts : (desk : Writing) (names texts more : List (List ℕ)) → length more ≡ length names → HoldAllFronts desk names texts
    → HoldAllFronts desk names (said_more texts more)
more_fronts desk [] [] [] same fronts = tt
more_fronts desk [] [] (m ∷ more) same fronts = absurd (omega (arith, same))
more_fronts desk [] (text ∷ texts) more same fronts = absurd fronts
more_fronts desk (name ∷ names) [] more same fronts = absurd fronts
more_fronts desk (name ∷ names) (text ∷ texts) [] same fronts = absurd (omega (arith, same))
more_fronts desk (name ∷ names) (text ∷ texts) (m ∷ more) same fronts =
    (more_front (holds desk name) text m fronts.0, more_fronts desk names texts more (omega (arith, same)) fronts.1)

-- as many names as texts of which fronts are held
pub fronts_sized : (desk : Writing) (names texts : List (List ℕ)) → HoldAllFronts desk names texts → length texts ≡ length names
fronts_sized desk [] [] fronts = refl
fronts_sized desk [] (text ∷ texts) fronts = absurd fronts
fronts_sized desk (name ∷ names) [] fronts = absurd fronts
fronts_sized desk (name ∷ names) (text ∷ texts) fronts = omega (arith, fronts_sized desk names texts fronts.1)
