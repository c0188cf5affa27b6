-- One output after another is opened.
use Rattle.std.proofs.Common.{◌≡◌, ◌≢◌, ℕ, ◌+◌, ◌<◌, ◌≤◌, Bool, IsTrue, Contains, List, [], ◌∷◌, ◌++◌, length, take, drop, Some, Ok, Err, get_or, refl, sym, ◌∙◌, ap, subst, append-nil, append_assoc, arith, zero, suc, inl, inr, length-append}
use Rattle.std.proofs.lemmas.Bool.{cases_eq}
use Rattle.std.proofs.lemmas.List.{get_or_default, take_more, take-append-drop, length-take-le}
use Rattle.std.proofs.lemmas.List.Elements.{All-push, All-same}
use Rattle.ioam_desk.specs.Asked.{AsksFront}
use Rattle.ioam_desk.specs.Desk.{Side, Reading, Writing, Written, OpenIn, OpenOut, holds, opened_side, opened_each}
use Rattle.ioam_desk.specs.declared.fault.DeskFault.{DeskFault}
use Rattle.ioam_desk.specs.declared.fault.DeskFault.TheVariants.{Failed, NoMemory}
use Rattle.ioam_desk_outputs.specs.declared.output.Output.{Output}
use Rattle.ioam_desk_outputs.specs.Held.{HoldFronts}
use Rattle.ioam_desk_outputs.specs.Names.{AreApart, name_at}
use Rattle.ioam_desk_outputs.specs.Open.{AreSlots, AreUnended, AreUnread, OpensFewer}
use Rattle.ioam_desk.specs.Touches.{State, opening, Within}
use Rattle.ioam_desk_outputs.specs.Told.{IsTold, AreTold, GathersNothing, unsaid}
use Rattle.ioam_desk_outputs.proofs.HeldLaws.{front_held, holds_slot}
use Rattle.ioam_desk_outputs.proofs.ToldLaws.{AreTold-unwritten}

one_more : (names : List (List ℕ)) (i : ℕ) (name : List ℕ) → i < length names → name ≡ get_or names i name → take (i + 1) names ≡ take i names ++ name ∷ []
one_more names i name inside is = take_more names i name inside ∙ ap (λ (x : List ℕ). take i names ++ x ∷ []) (sym is)

-- nothing is gathered for one output more
pub nothing_more : (outputs later : List Output) (output : Output) → GathersNothing outputs → output.gathered.items ≡ []
    → later ≡ outputs ++ output ∷ [] → GathersNothing later
nothing_more outputs later output nothing none is =
    All-same (λ (o : Output). o.gathered.items ≡ []) later (outputs ++ output ∷ []) is
    (All-push (λ (o : Output). o.gathered.items ≡ []) outputs output nothing none)

-- the new output of an opening call
IsTold-new : (tells : Bool) (old new : Writing) (slot : ℕ) (name : List ℕ) (output : Output)
    → OpenOut tells old name (Ok output.slot) new → old.side.slots ≡ slot → output.gathered.items ≡ []
    → IsTold tells new slot name output []
IsTold-new tells old new slot name output opened count nothing = record {
  number = opened.0 ∙ count;
  inside = omega (arith, count, ap (λ (side : Side). side.slots) opened.1);
  tied = λ tells. (opened.2 tells).file ∙ ap (λ (k : ℕ). Some (Written k)) (opened.0 ∙ count);
  said = λ tells. sym (rw nothing (append-nil (new.written slot) ∙ ap new.written (sym (opened.0 ∙ count)) ∙ (opened.2 tells).written));
}

-- an earlier output, of another name
IsTold-opened : (tells : Bool) (old new : Writing) (slot number : ℕ) (name other : List ℕ) (output : Output) (text : List ℕ)
    → OpenOut tells old name (Ok number) new → slot ≢ number → other ≢ name
    → IsTold tells old slot other output text → IsTold tells new slot other output text
IsTold-opened tells old new slot number name other output text opened apart differs told = record {
  number = told.number;
  inside = omega (arith, told.inside, ap (λ (side : Side). side.slots) opened.1);
  tied = λ tells. (opened.2 tells).other_files other differs ∙ told.tied tells;
  said = λ tells. told.said tells ∙ ap (λ (xs : List ℕ). xs ++ output.gathered.items) (sym ((opened.2 tells).other_written slot apart));
}

-- one output more is open
pub AreTold-opened : (tells : Bool) (old new : Writing) (slot : ℕ) (names : List (List ℕ)) (outputs : List Output) (name : List ℕ) (output : Output)
    → OpenOut tells old name (Ok output.slot) new → old.side.slots ≡ slot + length names → output.gathered.items ≡ []
    → (Contains names name → ⊥) → AreTold tells old slot names outputs (unsaid names)
    → AreTold tells new slot (names ++ name ∷ []) (outputs ++ output ∷ []) (unsaid (names ++ name ∷ []))
AreTold-opened tells old new slot [] [] name output opened count nothing fresh told =
    (IsTold-new tells old new slot name output opened (omega (arith, count)) nothing, tt)
AreTold-opened tells old new slot (other ∷ names) (before ∷ outputs) name output opened count nothing fresh told = (
  IsTold-opened tells old new slot output.slot name other before [] opened
      (λ same. absurd (omega (arith, same, opened.0, count)))
      (λ same. fresh (0, omega arith, same)) told.0,
  AreTold-opened tells old new (slot + 1) names outputs name output opened (omega (arith, count)) nothing
      (λ repeats. fresh (suc repeats.0, omega (arith, repeats.1), repeats.2)) told.1,
)
AreTold-opened tells old new slot [] (before ∷ outputs) name output opened count nothing fresh told = absurd told
AreTold-opened tells old new slot (other ∷ names) [] name output opened count nothing fresh told = absurd told

-- files that were not opened
pub unopened : (old new : Writing) (k : ℕ) (names texts : List (List ℕ)) → new.side.slots ≤ old.side.slots + k → length texts ≡ length names
    → HoldFronts old new k names texts
unopened old new k [] [] few size = tt
unopened old new k (name ∷ names) (text ∷ texts) few size =
    ((λ opened. absurd (omega (arith, opened, few))), unopened old new (k + 1) names texts (omega (arith, few)) (omega (arith, size)))
unopened old new k [] (text ∷ texts) few size = absurd (omega (arith, size))
unopened old new k (name ∷ names) [] few size = absurd (omega (arith, size))

-- the first files were opened and are empty, and those behind them were not opened
fronts_opened : (tells : Bool) (old new : Writing) (k : ℕ) (names behind : List (List ℕ)) (outputs : List Output) (texts : List (List ℕ))
    → AreTold tells new (old.side.slots + k) names outputs (unsaid names) → new.side.slots ≤ old.side.slots + k + length names → IsTrue tells
    → length texts ≡ length (names ++ behind) → HoldFronts old new k (names ++ behind) texts
fronts_opened tells old new k [] behind outputs texts told few is size = unopened old new k behind texts (omega (arith, few)) size
fronts_opened tells old new k (name ∷ names) behind (output ∷ outputs) (text ∷ texts) told few is size = (
  (λ opened. front_held (holds new name) (new.written (old.side.slots + k)) text (holds_slot new name (old.side.slots + k) (told.0.tied is))
      (record { rest = text; is = sym (rw (empty_front (new.written (old.side.slots + k)) output.gathered.items (told.0.said is)) refl) })),
  fronts_opened tells old new (k + 1) names behind outputs texts
      (let P : ℕ → Type 0 = λ first. AreTold tells new first names outputs (unsaid names) in
      let next : old.side.slots + k + 1 ≡ old.side.slots + (k + 1) = omega arith in subst P next told.1)
      (omega (arith, few)) is (omega (arith, size)),
)
  where
    empty_front : (xs ys : List ℕ) → [] ≡ xs ++ ys → xs ≡ []
    empty_front [] ys nothing = refl
    empty_front (x ∷ xs) ys nothing = cc
fronts_opened tells old new k (name ∷ names) behind [] texts told few is size = absurd told
fronts_opened tells old new k (name ∷ names) behind (output ∷ outputs) [] told few is size = absurd (omega (arith, size))

opened_more : (side : Side) (names : List (List ℕ)) (name : List ℕ) → opened_side (opened_each side names) name ≡ opened_each side (names ++ name ∷ [])
opened_more side names name =
    let size : side.slots + length names + 1 ≡ side.slots + length (names ++ name ∷ []) = omega (arith, length-append names (name ∷ [])) in
    rw (append_assoc, size) refl

-- the side of the outputs where no file was opened, and where one more was
pub side_more : (start mid new : Side) (names : List (List ℕ)) (i : ℕ) (name : List ℕ) → i < length names → name ≡ get_or names i name
    → mid ≡ opened_each start (take i names) → new ≡ opened_side mid name → new ≡ opened_each start (take (i + 1) names)
side_more start mid new names i name inside is before opened =
    opened ∙ ap (λ (side : Side). opened_side side name) before ∙ opened_more start (take i names) name
    ∙ ap (λ (xs : List (List ℕ)). opened_each start xs) (sym (one_more names i name inside is))

-- one name more was opened, which none before equals
pub told_more : (tells : Bool) (start mid new : Writing) (names : List (List ℕ)) (i : ℕ) (outputs : List Output) (name : List ℕ) (output : Output)
    → AreApart names → i < length names → name ≡ get_or names i name
    → OpenOut tells mid name (Ok output.slot) new → output.gathered.items ≡ []
    → mid.side ≡ opened_each start.side (take i names)
    → AreTold tells mid start.side.slots (take i names) outputs (unsaid (take i names))
    → AreTold tells new start.side.slots (take (i + 1) names) (outputs ++ output ∷ []) (unsaid (take (i + 1) names))
told_more tells start mid new names i outputs name output apart inside is opened nothing before told =
    let P : List (List ℕ) → Type 0 = λ xs. AreTold tells new start.side.slots xs (outputs ++ output ∷ []) (unsaid xs) in
    subst P (sym (one_more names i name inside is))
    (AreTold-opened tells mid new start.side.slots (take i names) outputs name output opened (ap (λ (side : Side). side.slots) before) nothing
    (λ repeats. apart i inside
    (subst (λ (x : List ℕ). Contains (take i names) x) (is ∙ get_or_default names i name [] inside) repeats)) told)

-- outputs that were opened hold fronts of whatever texts, and the others were not opened
pub fronts_of : (tells : Bool) (start new : Writing) (names : List (List ℕ)) (i : ℕ) (outputs : List Output)
    → AreTold tells new start.side.slots (take i names) outputs (unsaid (take i names))
    → new.side.slots ≡ start.side.slots + length (take i names)
    → IsTrue tells → (texts : List (List ℕ)) → length texts ≡ length names → HoldFronts start new 0 names texts
fronts_of tells start new names i outputs told count is texts size =
    let P : List (List ℕ) → Type 0 = λ xs. HoldFronts start new 0 xs texts in
    let from : start.side.slots ≡ start.side.slots + 0 = omega arith in
    let Q : ℕ → Type 0 = λ first. AreTold tells new first (take i names) outputs (unsaid (take i names)) in
    subst P (take-append-drop i names)
    (fronts_opened tells start new 0 (take i names) (drop i names) outputs texts (subst Q from told) (omega (arith, count)) is
    (size ∙ ap length (sym (take-append-drop i names))))

-- a name could not be opened
pub fails_more : (tells : Bool) (start mid new : Writing) (names : List (List ℕ)) (i : ℕ) (outputs : List Output) (name : List ℕ) (fault : DeskFault)
    → mid.side ≡ opened_each start.side (take i names)
    → AreTold tells mid start.side.slots (take i names) outputs (unsaid (take i names))
    → OpenOut tells mid name (Err fault) new
    → IsTrue tells → (texts : List (List ℕ)) → length texts ≡ length names → HoldFronts start new 0 names texts
fails_more tells start mid new names i outputs name Failed before told failed = fronts_of tells start new names i outputs
    (AreTold-unwritten tells mid new start.side.slots (take i names) outputs (unsaid (take i names))
    (λ k behind. ap (λ (written : ℕ → List ℕ). written k) failed.1) failed.2 failed.0.slots told)
    (failed.0.slots ∙ ap (λ (s : Side). s.slots) before)
fails_more tells start mid new names i outputs name NoMemory before told same = fronts_of tells start new names i outputs
    (let P : Writing → Type 0 = λ desk. AreTold tells desk start.side.slots (take i names) outputs (unsaid (take i names)) in subst P (sym same) told)
    (ap (λ (desk : Writing). desk.side.slots) same ∙ ap (λ (s : Side). s.slots) before)

-- a name was opened, and no memory could be had behind it
pub stops_more : (tells : Bool) (start mid new : Writing) (names : List (List ℕ)) (i : ℕ) (outputs : List Output) (name : List ℕ) (output : Output)
    → AreApart names → i < length names → name ≡ get_or names i name
    → OpenOut tells mid name (Ok output.slot) new → output.gathered.items ≡ []
    → mid.side ≡ opened_each start.side (take i names)
    → AreTold tells mid start.side.slots (take i names) outputs (unsaid (take i names))
    → IsTrue tells → (texts : List (List ℕ)) → length texts ≡ length names → HoldFronts start new 0 names texts
stops_more tells start mid new names i outputs name output apart inside is opened nothing before told =
    let side : new.side ≡ opened_each start.side (take (i + 1) names) = side_more start.side mid.side new.side names i name inside is before opened.1 in
    fronts_of tells start new names (i + 1) (outputs ++ output ∷ [])
    (told_more tells start mid new names i outputs name output apart inside is opened nothing before told)
    (ap (λ (s : Side). s.slots) side)

-- one input more is open and unread
pub unread_more : (tells : Bool) (start mid new : State) (names : List (List ℕ)) (i slot : ℕ) (name : List ℕ) → i < length names → name ≡ get_or names i name
    → mid.inputs.side ≡ opened_each start.inputs.side (take i names) → mid.outputs ≡ start.outputs
    → OpenIn tells mid.inputs (holds mid.outputs name) name (Ok slot) new.inputs
    → AreUnread tells start.inputs mid.inputs start.outputs names → AreUnread tells start.inputs new.inputs start.outputs names
unread_more tells start mid new names i slot name inside is before same opened unread = λ told j below.
    let slots : mid.inputs.side.slots ≡ start.inputs.side.slots + i = ap (λ (s : Side). s.slots) before ∙ ap (λ (n : ℕ). start.inputs.side.slots + n) (length-take-le i names (omega (arith, inside))) in
    let number : slot ≡ start.inputs.side.slots + i = opened.number ∙ slots in
    let grown : new.inputs.side.slots ≡ mid.inputs.side.slots + 1 = ap (λ (s : Side). s.slots) opened.side in
    elim (cases_eq j i) [
      | inl at ↦
          let here : holds start.outputs name ≡ Some (new.inputs.left slot) = ap (λ (w : Writing). holds w name) (sym same) ∙ opened.left told in
          let P : ℕ → Type 0 = λ k. holds start.outputs (name_at names k) ≡ Some (new.inputs.left (start.inputs.side.slots + k)) in
          subst P (sym at) (ap (λ (n : List ℕ). holds start.outputs n) (sym (is ∙ get_or_default names i name [] inside)) ∙ here ∙ ap (λ (k : ℕ). Some (new.inputs.left k)) number)
      | inr other ↦ unread told j (omega (arith, below, grown, slots, other))
          ∙ ap Some (sym (opened.other_left (start.inputs.side.slots + j) (λ at. other (omega (arith, at, number)))))
    ]

-- so does one more that hasn't ended
pub unended_more : (tells : Bool) (start mid new : State) (names : List (List ℕ)) (i slot : ℕ) (name : List ℕ) → i < length names
    → mid.inputs.side ≡ opened_each start.inputs.side (take i names) → OpenIn tells mid.inputs (holds mid.outputs name) name (Ok slot) new.inputs
    → AreUnended start.inputs mid.inputs → AreUnended start.inputs new.inputs
unended_more tells start mid new names i slot name inside before opened unended = λ j below.
    let slots : mid.inputs.side.slots ≡ start.inputs.side.slots + i = ap (λ (s : Side). s.slots) before ∙ ap (λ (n : ℕ). start.inputs.side.slots + n) (length-take-le i names (omega (arith, inside))) in
    let number : slot ≡ start.inputs.side.slots + i = opened.number ∙ slots in
    let grown : new.inputs.side.slots ≡ mid.inputs.side.slots + 1 = ap (λ (s : Side). s.slots) opened.side in
    elim (cases_eq j i) [
      | inl at ↦ ap (λ (k : ℕ). new.inputs.ended k) (ap (λ (k : ℕ). start.inputs.side.slots + k) at ∙ sym number) ∙ opened.ended
      | inr other ↦ opened.other_ended (start.inputs.side.slots + j) (λ at. other (omega (arith, at, number))) ∙ unended j (omega (arith, below, grown, slots, other))
    ]

-- the slots are numbered one after another
pub slots_more : (base : ℕ) (names : List (List ℕ)) (i slot : ℕ) (slots later : List ℕ) → i < length names → slot ≡ base + i → later ≡ slots ++ slot ∷ []
    → AreSlots base (length (take i names)) slots → AreSlots base (length (take (i + 1) names)) later
slots_more base names i slot slots later inside number is are =
    let size : length slots ≡ i = are.size ∙ length-take-le i names (omega (arith, inside)) in
    let P : List ℕ → Type 0 = λ xs. AreSlots base (length (take (i + 1) names)) xs in
    subst P (sym is) (record {
      size = omega (arith, length-append slots (slot ∷ []), size, length-take-le (i + 1) names (omega (arith, inside)));
      number = λ k below. elim (cases_eq k i) [
        | inl at ↦ ap (λ (m : ℕ). get_or (slots ++ slot ∷ []) m 0) (at ∙ sym size) ∙ get_or_last slots slot ∙ number ∙ ap (λ (m : ℕ). base + m) (sym at)
        | inr other ↦ get_or_first slots slot k (omega (arith, below, other, size, length-append slots (slot ∷ [])))
            ∙ are.number k (omega (arith, below, other, size, length-append slots (slot ∷ [])))
      ];
    })
  where
    get_or_last : (xs : List ℕ) (x : ℕ) → get_or (xs ++ x ∷ []) (length xs) 0 ≡ x
    get_or_last [] x = refl
    get_or_last (y ∷ xs) x = get_or_last xs x

    get_or_first : (xs : List ℕ) (x k : ℕ) → k < length xs → get_or (xs ++ x ∷ []) k 0 ≡ get_or xs k 0
    get_or_first [] x k below = absurd (omega (arith, below))
    get_or_first (y ∷ xs) x zero below = refl
    get_or_first (y ∷ xs) x (suc k) below = get_or_first xs x k (omega (arith, below))

-- the names that were asked for, where a prefix of them was and one more
pub asked_now : (start mid : Side) (asked : List (List ℕ)) (names : List (List ℕ)) (i : ℕ) → mid ≡ opened_each start (take i names) → asked ≡ mid.asked
    → AsksFront start.asked asked names
asked_now start mid asked names i before is = (i, is ∙ ap (λ (s : Side). s.asked) before)

pub asked_more : (start mid : Side) (asked : List (List ℕ)) (names : List (List ℕ)) (i : ℕ) (name : List ℕ) → i < length names → name ≡ get_or names i name
    → mid ≡ opened_each start (take i names) → asked ≡ mid.asked ++ name ∷ [] → AsksFront start.asked asked names
asked_more start mid asked names i name inside at before is = (
  i + 1,
  is ∙ ap (λ (s : Side). s.asked ++ name ∷ []) before ∙ append_assoc start.asked (take i names) (name ∷ [])
      ∙ ap (λ (xs : List (List ℕ)). start.asked ++ xs) (sym (one_more names i name inside at)),
)

-- the names that an answer of an opening call leaves asked for
pub asked_fault_in : (tells : Bool) (start mid new : State) (names : List (List ℕ)) (i : ℕ) (name : List ℕ) (fault : DeskFault) → i < length names → name ≡ get_or names i name
    → mid.inputs.side ≡ opened_each start.inputs.side (take i names) → OpenIn tells mid.inputs (holds mid.outputs name) name (Err fault) new.inputs → AsksFront start.inputs.side.asked new.inputs.side.asked names
asked_fault_in tells start mid new names i name Failed inside at before failed = asked_more start.inputs.side mid.inputs.side new.inputs.side.asked names i name inside at before failed.0.asked
asked_fault_in tells start mid new names i name NoMemory inside at before same = asked_now start.inputs.side mid.inputs.side new.inputs.side.asked names i before (ap (λ (r : Reading). r.side.asked) same)

pub asked_fault_out : (tells : Bool) (start mid new : State) (names : List (List ℕ)) (i : ℕ) (name : List ℕ) (fault : DeskFault) → i < length names → name ≡ get_or names i name
    → mid.outputs.side ≡ opened_each start.outputs.side (take i names) → OpenOut tells mid.outputs name (Err fault) new.outputs → AsksFront start.outputs.side.asked new.outputs.side.asked names
asked_fault_out tells start mid new names i name Failed inside at before failed = asked_more start.outputs.side mid.outputs.side new.outputs.side.asked names i name inside at before failed.0.asked
asked_fault_out tells start mid new names i name NoMemory inside at before same = asked_now start.outputs.side mid.outputs.side new.outputs.side.asked names i before (ap (λ (w : Writing). w.side.asked) same)

pub fewer_fault : (tells : Bool) (start mid new : State) (names : List (List ℕ)) (i : ℕ) (name : List ℕ) (fault : DeskFault) → i < length names
    → mid.inputs.side ≡ opened_each start.inputs.side (take i names) → OpenIn tells mid.inputs (holds mid.outputs name) name (Err fault) new.inputs
    → OpensFewer start.inputs.side new.inputs.side (length names) fault
fewer_fault tells start mid new names i name Failed inside before failed = omega (arith, inside, failed.0.slots, ap (λ (s : Side). s.slots) before, length-take-le i names (omega (arith, inside)))
fewer_fault tells start mid new names i name NoMemory inside before same = tt

-- nothing was opened
pub opened_none : (side : Side) → side ≡ opened_each side []
opened_none side =
    let slots : side.slots + 0 ≡ side.slots = omega arith in
    rw (append-nil side.asked, slots) refl

-- a name of the list is opened
single : (name other : List ℕ) (k : ℕ) → k < 1 → get_or (name ∷ []) k other ≡ other → name ≡ other
single name other zero below same = same
single name other (suc k) below same = absurd (omega (arith, below))

one_is : (names : List (List ℕ)) (i : ℕ) (name other : List ℕ) → i < length names → name ≡ get_or names i name → Contains (name ∷ []) other → Contains names other
one_is names i name other inside is one =
    let same : name ≡ other = single name other one.0 one.1 one.2 in
    (i, inside, get_or_default names i other name inside ∙ sym is ∙ same)

pub within_in : (names : List (List ℕ)) (i : ℕ) (name : List ℕ) → i < length names → name ≡ get_or names i name → Within (opening (name ∷ []) []) (opening names [])
within_in names i name inside is = record { reads = λ k none. none; writes = λ k none. none; ins = λ other one. one_is names i name other inside is one; outs = λ other none. none }

pub within_out : (names : List (List ℕ)) (i : ℕ) (name : List ℕ) → i < length names → name ≡ get_or names i name → Within (opening [] (name ∷ [])) (opening [] names)
within_out names i name inside is = record { reads = λ k none. none; writes = λ k none. none; ins = λ other none. none; outs = λ other one. one_is names i name other inside is one }
