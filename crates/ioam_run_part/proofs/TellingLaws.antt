-- A text that is said part by part, and what a run leaves of it.
use Rattle.std.proofs.Common.{◌≡◌, ℕ, ◌<◌, Bool, true, false, IsTrue, IsSomeAnd, List, [], ◌∷◌, ◌++◌, length, get_or, set, Option, None, Some, refl, sym, ap, ◌∙◌, subst, inl, inr, append-nil, append_assoc, arith}
use Rattle.ioam_base.specs.Octets.{IsFront}
use Rattle.ioam_desk.specs.Desk.{Writing, holds}
use Rattle.ioam_desk.specs.Touches.{State}
use Rattle.ioam_desk_outputs.specs.Held.{HoldTexts, HoldFronts}
use Rattle.ioam_desk_outputs.specs.Told.{Adds, said_more}
use Rattle.ioam_desk_outputs.specs.declared.output.Output.{Output}
use Rattle.ioam_run_part.specs.Stored.{HoldsFrontOf, Stores}
use Rattle.ioam_run_part.specs.Telling.{IsTelling, Leaves, Puts, Tells, TellsFront, held_by, kind, stored_by, unfed}
use Rattle.ioam_run_part.specs.declared.telling.Telling.{Telling}
use Rattle.ioam_stream.specs.Frame.{Frame, HoldAll, HoldSome}
use Rattle.ioam_stream.specs.Frame as frame_of
use Rattle.ioam_stream.specs.Stage.{Begins, Feeds, Seen, Takes, How, Ended}
use Rattle.ioam_stream.specs.declared.conversion.Tail.{Tail}
use Rattle.ioam_stream.specs.declared.conversion.Tail.TheVariants as tail
use Rattle.ioam_stream.specs.declared.reading.Stop.{Stop}
use Rattle.ioam_stream.specs.declared.reading.Stop.TheVariants as stop

-- ---- the stage

adds_none : (outputs : List Output) → length outputs ≡ 1 → Adds outputs outputs ([] ∷ [])
adds_none [] one = absurd (omega (arith, one))
adds_none (x ∷ []) one = (refl, sym (append-nil x.gathered.items), tt)
adds_none (x ∷ y ∷ outputs) one = absurd (omega (arith, one))

adds_one : (outputs : List Output) (d after : Output) (added : List ℕ) → length outputs ≡ 1 → after.slot ≡ (get_or outputs 0 d).slot
    → after.gathered.items ≡ (get_or outputs 0 d).gathered.items ++ added → Adds outputs (set outputs 0 after) (added ∷ [])
adds_one [] d after added one slot is = absurd (omega (arith, one))
adds_one (x ∷ []) d after added one slot is = (slot, is, tt)
adds_one (x ∷ y ∷ outputs) d after added one slot is = absurd (omega (arith, one))

-- whether that was the last part
abbrev is_last : Tail → Bool
is_last tail.Rest = false
is_last tail.End = true

module _ {T : Type 0} (says : T → List ℕ → Type 0) (left : T → ℕ) where
  pub telling_begins : (stage : Telling T) (outputs : List Output) → length outputs ≡ 1 → Begins (kind says left) stage outputs outputs
  telling_begins stage outputs one = (
    [] ∷ [],
    adds_none outputs one,
    λ fresh. record {
      said = [];
      is = refl;
      leaves = λ text t. subst (λ (b : Bool). Leaves says left b stage.source [] text) (sym fresh) (text, t, refl);
    },
  )

  module _ (old new : Telling T) (outputs : List Output) (d now : Output) (one : length outputs ≡ 1) (slot : now.slot ≡ (get_or outputs 0 d).slot) (going : old.done ≡ false) (fed : new.fed ≡ old.fed) where
    left_on : (begun : Telling T) (said text : List ℕ) → Leaves says left old.done old.source said text → Leaves says left false old.source said text
    left_on begun said text = subst (λ (b : Bool). Leaves says left b old.source said text) going

    -- a part was said
    pub telling_takes : (more : Tail) → new.done ≡ is_last more → Puts says left old.source new.source (get_or outputs 0 d).gathered.items now.gathered.items more
        → Takes (kind says left) old new outputs (set outputs 0 now)
    telling_takes tail.Rest is puts = record {
      held = omega (arith, puts.fewer, ap (λ (b : Bool). held_by says left b (left old.source)) going, ap (λ (b : Bool). held_by says left b (left new.source)) is);
      room = ap (unfed says left) fed;
      added = puts.added ∷ [];
      adds = adds_one outputs d now puts.added one slot puts.is;
      stands = λ begun seen so_far s. record {
        said = s.said ++ puts.added;
        is = ap (λ (ts : List (List ℕ)). said_more ts (puts.added ∷ [])) s.is;
        leaves = λ text t.
            let was = left_on begun s.said text (s.leaves text t) in
            let next = puts.rest was.0 was.1 in
            subst (λ (b : Bool). Leaves says left b new.source (s.said ++ puts.added) text) (sym is)
            (next.0, next.1, was.2 ∙ ap (λ (o : List ℕ). s.said ++ o) next.2 ∙ sym (append_assoc s.said puts.added next.0));
      };
    }
    telling_takes tail.End is puts = record {
      held = omega (arith, ap (λ (b : Bool). held_by says left b (left old.source)) going, ap (λ (b : Bool). held_by says left b (left new.source)) is);
      room = ap (unfed says left) fed;
      added = puts.added ∷ [];
      adds = adds_one outputs d now puts.added one slot puts.is;
      stands = λ begun seen so_far s. record {
        said = s.said ++ puts.added;
        is = ap (λ (ts : List (List ℕ)). said_more ts (puts.added ∷ [])) s.is;
        leaves = λ text t.
            let was = left_on begun s.said text (s.leaves text t) in
            subst (λ (b : Bool). Leaves says left b new.source (s.said ++ puts.added) text) (sym is)
            (was.2 ∙ ap (λ (o : List ℕ). s.said ++ o) (puts.all was.0 was.1));
      };
    }

  all_told : (begun stage : Telling T) (seen : Seen) (so_far : List (List ℕ)) → stage.done ≡ true → IsTelling says left begun seen so_far stage → Tells says left begun so_far
  all_told begun stage seen so_far is s = record {
    said = s.said;
    is = s.is;
    all = λ text t. subst (λ (b : Bool). Leaves says left b stage.source s.said text) is (s.leaves text t);
  }

  -- what it was handed makes no difference
  pub telling_feeds : (More : Seen → Seen → Type 0) (old new : Telling T) → old.fed ≡ false → new.fed ≡ true
      → ((said text : List ℕ) → Leaves says left old.done old.source said text → Leaves says left new.done new.source said text) → Feeds (kind says left) More old new
  telling_feeds More old new unfed_yet fed leaves = record {
    stands = λ begun seen after so_far more s. record { said = s.said; is = s.is; leaves = λ text t. leaves s.said text (s.leaves text t) };
    room = omega (arith, ap (unfed says left) unfed_yet, ap (unfed says left) fed);
  }

-- ---- what a run leaves

front_on : (o : Option (List ℕ)) (said text : List ℕ) → IsFront said text → IsSomeAnd o (λ part. IsFront part said) → IsSomeAnd o (λ part. IsFront part text)
front_on None said text front held = absurd held
front_on (Some part) said text front held = record {
  rest = held.rest ++ front.rest;
  is = front.is ∙ ap (λ (o : List ℕ). o ++ front.rest) held.is ∙ append_assoc part held.rest front.rest;
}

module _ (tells : Bool) (name : List ℕ) (old new : State) (drains : Type 0) where
  abbrev pub Framed : Stop → Type 0
  Framed answer = Frame tells [] (name ∷ []) old new drains answer

  module _ {T : Type 0} (says : T → List ℕ → Type 0) (left : T → ℕ) (begun : Telling T) where
    abbrev pub Left : Stop → Type 0
    Left answer = frame_of.Leaves tells [] (name ∷ []) old new (λ how contents so. Tells says left begun so) (λ contents so. TellsFront says left begun so) answer

    -- it wasn't opened
    unopened : {A : Type 0} → new.outputs ≡ old.outputs → old.outputs.side.slots < new.outputs.side.slots → A
    unopened same more = absurd (let slots = ap (λ (w : Writing). w.side.slots) same in omega (arith, slots, more))

    some_said : (text : List ℕ) → says begun.source text → HoldSome tells [] (name ∷ []) old new (λ how contents so. Tells says left begun so) (λ contents so. TellsFront says left begun so)
        → old.outputs.side.slots < new.outputs.side.slots → HoldsFrontOf new.outputs name text
    some_said text t some more = front_on (holds new.outputs name) some.texts.said text (some.texts.front text t)
        ((subst (λ (ts : List (List ℕ)). HoldFronts old.outputs new.outputs 0 (name ∷ []) ts) some.texts.is some.held).0 (omega (arith, more)))

    -- the file holds all of it
    some_told : {how : How} {octets : ℕ → List ℕ} (text : List ℕ) → says begun.source text
        → HoldAll tells [] (name ∷ []) old new (λ how contents so. Tells says left begun so) (λ contents so. TellsFront says left begun so) how octets → HoldsFrontOf new.outputs name text
    some_told text t all = subst (λ (o : Option (List ℕ)). IsSomeAnd o (λ part. IsFront part text))
        (sym ((subst (λ (ts : List (List ℕ)). HoldTexts new.outputs (name ∷ []) ts) all.texts.is all.held).0))
        (record { rest = []; is = all.texts.all text t ∙ sym (append-nil all.texts.said) })

    -- the file holds the text, or a prefix of it
    pub told_stored : (answer : Stop) → Framed answer → (IsTrue tells → Left answer) → (text : List ℕ) → says begun.source text
        → Stores tells name text old.outputs new.outputs (stored_by answer)
    told_stored stop.Ended frame leaves text t = (
      (frame.all refl).1,
      λ told.
          let all = (leaves told).1 in
          (subst (λ (ts : List (List ℕ)). HoldTexts new.outputs (name ∷ []) ts) all.texts.is all.held).0 ∙ ap Some (sym (all.texts.all text t)),
    )
    told_stored stop.ReadFault frame leaves text t = λ told more. elim (leaves told) [
      | inl none ↦ unopened none.1 more
      | inr handed ↦ some_told text t handed.1.hold
    ]
    told_stored stop.WriteFault frame leaves text t = (frame.touches.outputs.how.rose, λ told more. some_said text t (leaves told).1 more)
    told_stored stop.NoMemory frame leaves text t = λ told more. elim (leaves told) [
      | inl same ↦ unopened same more
      | inr some ↦ some_said text t some.1 more
    ]
