-- Laws of what was said to outputs.
use Rattle.std.proofs.Common.{◌≡◌, ℕ, ◌+◌, ◌<◌, ◌≤◌, Bool, All, List, [], ◌∷◌, ◌++◌, length, Option, get_or, set, refl, sym, ◌∙◌, ap, append_assoc, length-append, arith, zero, suc}
use Rattle.std.proofs.lemmas.List.Elements.{All-nil, All-cons, All-head, All-tail, All-weaker}
use Rattle.ioam_desk.specs.Desk.{Writing, Held}
use Rattle.ioam_desk_outputs.specs.declared.output.Output.{Output}
use Rattle.ioam_desk_outputs.specs.Told.{IsTold, AreTold, Adds, said_more, unsaid, AreOpen, GathersFew, GathersNothing}
use Rattle.ioam_desk_outputs.specs.Flush.{Moves}

-- the slots of outputs that were told are open
pub AreTold-open : (tells : Bool) (desk : Writing) (slot : ℕ) (names : List (List ℕ)) (outputs : List Output) (texts : List (List ℕ))
    → AreTold tells desk slot names outputs texts → AreOpen desk outputs
AreTold-open tells desk slot [] [] [] told = All-nil (λ output. output.slot < desk.side.slots)
AreTold-open tells desk slot (name ∷ names) (output ∷ outputs) (text ∷ texts) told =
    All-cons (λ output. output.slot < desk.side.slots) output outputs (omega (arith, told.0.number, told.0.inside))
    (AreTold-open tells desk (slot + 1) names outputs texts told.1)
AreTold-open tells desk slot [] [] (text ∷ texts) told = absurd told
AreTold-open tells desk slot [] (output ∷ outputs) texts told = absurd told
AreTold-open tells desk slot (name ∷ names) [] texts told = absurd told
AreTold-open tells desk slot (name ∷ names) (output ∷ outputs) [] told = absurd told

-- nothing is less than a piece
pub Nothing-few : (outputs : List Output) → GathersNothing outputs → GathersFew outputs
Nothing-few outputs nothing = All-weaker (λ (output : Output). output.gathered.items ≡ []) (λ (output : Output). length output.gathered.items < 65536)
    (λ output none. omega (arith, ap length none)) outputs nothing

-- where nothing was gathered, what is added is all that is
pub Adds-few : (old new : List Output) (added : List (List ℕ)) → GathersNothing old → Adds old new added
    → All (λ (text : List ℕ). length text < 65536) added → GathersFew new
Adds-few [] [] [] nothing adds few = All-nil (λ (output : Output). length output.gathered.items < 65536)
Adds-few (before ∷ old) (after ∷ new) (text ∷ added) nothing adds few =
    let none = All-head (λ (output : Output). output.gathered.items ≡ []) before old nothing in
    let short = All-head (λ (text : List ℕ). length text < 65536) text added few in
    All-cons (λ (output : Output). length output.gathered.items < 65536) after new
    (omega (arith, short, ap length adds.1, ap length none, length-append before.gathered.items text))
    (Adds-few old new added (All-tail (λ (output : Output). output.gathered.items ≡ []) before old nothing) adds.2
    (All-tail (λ (text : List ℕ). length text < 65536) text added few))
Adds-few [] [] (text ∷ added) nothing adds few = absurd adds
Adds-few [] (after ∷ new) added nothing adds few = absurd adds
Adds-few (before ∷ old) [] added nothing adds few = absurd adds
Adds-few (before ∷ old) (after ∷ new) [] nothing adds few = absurd adds

-- octets that are gathered were said
pub AreTold-adds : (tells : Bool) (desk : Writing) (slot : ℕ) (names : List (List ℕ)) (old new : List Output) (texts added : List (List ℕ))
    → AreTold tells desk slot names old texts → Adds old new added → AreTold tells desk slot names new (said_more texts added)
AreTold-adds tells desk slot [] [] [] [] [] told adds = tt
AreTold-adds tells desk slot (name ∷ names) (before ∷ old) (after ∷ new) (text ∷ texts) (more ∷ added) told adds = (
  record {
    number = adds.0 ∙ told.0.number;
    inside = told.0.inside;
    tied = told.0.tied;
    said = λ tells. ap (λ (xs : List ℕ). xs ++ more) (told.0.said tells) ∙ append_assoc (desk.written slot) before.gathered.items more
        ∙ ap (λ (xs : List ℕ). desk.written slot ++ xs) (sym adds.1);
  },
  AreTold-adds tells desk (slot + 1) names old new texts added told.1 adds.2,
)
AreTold-adds tells desk slot [] [] [] [] (more ∷ added) told adds = absurd adds
AreTold-adds tells desk slot [] [] [] (text ∷ texts) added told adds = absurd told
AreTold-adds tells desk slot [] [] (after ∷ new) texts added told adds = absurd adds
AreTold-adds tells desk slot [] (before ∷ old) new texts added told adds = absurd told
AreTold-adds tells desk slot (name ∷ names) [] new texts added told adds = absurd told
AreTold-adds tells desk slot (name ∷ names) (before ∷ old) [] texts added told adds = absurd adds
AreTold-adds tells desk slot (name ∷ names) (before ∷ old) (after ∷ new) [] added told adds = absurd told
AreTold-adds tells desk slot (name ∷ names) (before ∷ old) (after ∷ new) (text ∷ texts) [] told adds = absurd adds

-- an output at whose slot nothing was written
IsTold-unwritten : (tells : Bool) (old new : Writing) (slot : ℕ) (name : List ℕ) (output : Output) (text : List ℕ)
    → new.written slot ≡ old.written slot → new.files ≡ old.files → new.side.slots ≡ old.side.slots
    → IsTold tells old slot name output text → IsTold tells new slot name output text
IsTold-unwritten tells old new slot name output text same files slots told = record {
  number = told.number;
  inside = omega (arith, told.inside, slots);
  tied = λ tells. ap (λ (files : List ℕ → Option Held). files name) files ∙ told.tied tells;
  said = λ tells. told.said tells ∙ ap (λ (xs : List ℕ). xs ++ output.gathered.items) (sym same);
}

-- outputs from a slot on, at which nothing was written
pub AreTold-unwritten : (tells : Bool) (old new : Writing) (slot : ℕ) (names : List (List ℕ)) (outputs : List Output) (texts : List (List ℕ))
    → ((k : ℕ) → slot ≤ k → new.written k ≡ old.written k) → new.files ≡ old.files → new.side.slots ≡ old.side.slots
    → AreTold tells old slot names outputs texts → AreTold tells new slot names outputs texts
AreTold-unwritten tells old new slot [] [] [] same files slots told = tt
AreTold-unwritten tells old new slot (name ∷ names) (output ∷ outputs) (text ∷ texts) same files slots told = (
  IsTold-unwritten tells old new slot name output text (same slot (omega arith)) files slots told.0,
  AreTold-unwritten tells old new (slot + 1) names outputs texts (λ k behind. same k (omega (arith, behind))) files slots told.1,
)
AreTold-unwritten tells old new slot [] [] (text ∷ texts) same files slots told = absurd told
AreTold-unwritten tells old new slot [] (output ∷ outputs) texts same files slots told = absurd told
AreTold-unwritten tells old new slot (name ∷ names) [] texts same files slots told = absurd told
AreTold-unwritten tells old new slot (name ∷ names) (output ∷ outputs) [] same files slots told = absurd told

-- the outputs' slots are numbered one behind the other
pub slot_at : (tells : Bool) (desk : Writing) (slot : ℕ) (names : List (List ℕ)) (outputs : List Output) (texts : List (List ℕ)) (i : ℕ) (d : Output)
    → i < length outputs → AreTold tells desk slot names outputs texts → (get_or outputs i d).slot ≡ slot + i
slot_at tells desk slot (name ∷ names) (output ∷ outputs) (text ∷ texts) zero d inside told = omega (arith, told.0.number)
slot_at tells desk slot (name ∷ names) (output ∷ outputs) (text ∷ texts) (suc i) d inside told =
    omega (arith, slot_at tells desk (slot + 1) names outputs texts i d (omega (arith, inside)) told.1)
slot_at tells desk slot [] [] texts i d inside told = absurd (omega (arith, inside))
slot_at tells desk slot [] (output ∷ outputs) texts i d inside told = absurd told
slot_at tells desk slot (name ∷ names) [] texts i d inside told = absurd told
slot_at tells desk slot (name ∷ names) (output ∷ outputs) [] i d inside told = absurd told

IsTold-moves : (tells : Bool) (old new : Writing) (slot : ℕ) (name : List ℕ) (before after : Output) (text : List ℕ)
    → Moves tells old new before after → IsTold tells old slot name before text → IsTold tells new slot name after text
IsTold-moves tells old new slot name before after text moves told = record {
  number = moves.slot ∙ told.number;
  inside = omega (arith, told.inside, moves.slots);
  tied = λ tells. ap (λ (files : List ℕ → Option Held). files name) moves.files ∙ told.tied tells;
  said = λ tells. told.said tells ∙ ap (λ (k : ℕ). old.written k ++ before.gathered.items) (sym told.number)
      ∙ sym (moves.said tells) ∙ ap (λ (k : ℕ). new.written k ++ after.gathered.items) told.number;
}

-- octets that move from one of the outputs' gathered ones to its slot leave what was said
pub AreTold-moves : (tells : Bool) (old new : Writing) (slot : ℕ) (names : List (List ℕ)) (outputs : List Output) (texts : List (List ℕ)) (i : ℕ) (d after : Output)
    → i < length outputs → Moves tells old new (get_or outputs i d) after
    → AreTold tells old slot names outputs texts → AreTold tells new slot names (set outputs i after) texts
AreTold-moves tells old new slot (name ∷ names) (output ∷ outputs) (text ∷ texts) zero d after inside moves told = (
  IsTold-moves tells old new slot name output after text moves told.0,
  AreTold-unwritten tells old new (slot + 1) names outputs texts
      (λ k behind. moves.other_written k (λ same. absurd (omega (arith, same, behind, told.0.number)))) moves.files moves.slots told.1,
)
AreTold-moves tells old new slot (name ∷ names) (output ∷ outputs) (text ∷ texts) (suc i) d after inside moves told =
    let within : i < length outputs = omega (arith, inside) in
    let number : (get_or outputs i d).slot ≡ slot + 1 + i = slot_at tells old (slot + 1) names outputs texts i d within told.1 in (
      IsTold-unwritten tells old new slot name output text
          (moves.other_written slot (λ same. absurd (omega (arith, same, number)))) moves.files moves.slots told.0,
      AreTold-moves tells old new (slot + 1) names outputs texts i d after within moves told.1,
    )
AreTold-moves tells old new slot [] [] texts i d after inside moves told = absurd (omega (arith, inside))
AreTold-moves tells old new slot [] (output ∷ outputs) texts i d after inside moves told = absurd told
AreTold-moves tells old new slot (name ∷ names) [] texts i d after inside moves told = absurd told
AreTold-moves tells old new slot (name ∷ names) (output ∷ outputs) [] i d after inside moves told = absurd told

-- as many names as outputs
pub told_names : (tells : Bool) (desk : Writing) (slot : ℕ) (names : List (List ℕ)) (outputs : List Output) (texts : List (List ℕ))
    → AreTold tells desk slot names outputs texts → length outputs ≡ length names
told_names tells desk slot [] [] [] told = refl
told_names tells desk slot (name ∷ names) (output ∷ outputs) (text ∷ texts) told = omega (arith, told_names tells desk (slot + 1) names outputs texts told.1)
told_names tells desk slot [] [] (text ∷ texts) told = absurd told
told_names tells desk slot [] (output ∷ outputs) texts told = absurd told
told_names tells desk slot (name ∷ names) [] texts told = absurd told
told_names tells desk slot (name ∷ names) (output ∷ outputs) [] told = absurd told

-- what is said first is all that is said
pub said_first : (names texts : List (List ℕ)) → length texts ≡ length names → said_more (unsaid names) texts ≡ texts
said_first [] [] same = refl
said_first [] (text ∷ texts) same = absurd (omega (arith, same))
said_first (name ∷ names) [] same = absurd (omega (arith, same))
said_first (name ∷ names) (text ∷ texts) same = ap (λ (more : List (List ℕ)). text ∷ more) (said_first names texts (omega (arith, same)))

-- the slots stay open
pub Adds-open : (desk : Writing) (old new : List Output) (added : List (List ℕ)) → Adds old new added → AreOpen desk old → AreOpen desk new
Adds-open desk [] [] [] adds are = All-nil (λ output. output.slot < desk.side.slots)
Adds-open desk (before ∷ old) (after ∷ new) (more ∷ added) adds are =
    let here : before.slot < desk.side.slots = All-head (λ (output : Output). output.slot < desk.side.slots) before old are in
    All-cons (λ output. output.slot < desk.side.slots) after new (omega (arith, here, adds.0))
    (Adds-open desk old new added adds.2 (All-tail (λ (output : Output). output.slot < desk.side.slots) before old are))
Adds-open desk [] [] (more ∷ added) adds are = absurd adds
Adds-open desk [] (after ∷ new) added adds are = absurd adds
Adds-open desk (before ∷ old) [] added adds are = absurd adds
Adds-open desk (before ∷ old) (after ∷ new) [] adds are = absurd adds
