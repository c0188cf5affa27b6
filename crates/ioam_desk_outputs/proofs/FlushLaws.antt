-- One output after another is written.
use Rattle.std.proofs.Common.{◌≡◌, ℕ, ◌+◌, ◌<◌, ◌≤◌, Bool, List, [], ◌∷◌, ◌++◌, length, take, All, get_or, set, refl, sym, ◌∙◌, ap, subst, inl, inr, arith}
use Rattle.std.proofs.lemmas.Bool.{cases_eq, cases_lt}
use Rattle.std.proofs.lemmas.List.{take_more_set, take_all, get_or_default, get_or-set_same, get_or-set_other, length-set}
use Rattle.std.proofs.lemmas.List.Elements.{All-set, All-push, All-same, All-weaker}
use Rattle.ioam_desk.specs.Desk.{Writing}
use Rattle.ioam_desk.specs.Touches.{State, Failing, Quiet, Touches, write_to, writes_from}
use Rattle.ioam_desk.proofs.TouchesLaws.{touches-within, within-write}
use Rattle.ioam_desk_outputs.specs.declared.output.Output.{Output}
use Rattle.ioam_desk_outputs.specs.Told.{AreOpen, AreTold}
use Rattle.ioam_desk_outputs.specs.Flush.{Moves, KeepsFew, KeepsTold, LeavesSome}
use Rattle.ioam_desk_outputs.proofs.ToldLaws.{AreTold-moves, slot_at}

module _ (tells : Bool) (old new : Writing) (outputs : List Output) (i : ℕ) (d after : Output) where
  -- what was said since some start is still said
  pub keeps_more : (start : Writing) (first : List Output) → i < length outputs → Moves tells old new (get_or outputs i d) after
      → KeepsTold tells start old first outputs → KeepsTold tells start new first (set outputs i after)
  keeps_more start first inside moves keeps = λ slot names texts told.
      AreTold-moves tells old new slot names outputs texts i d after inside moves (keeps slot names texts told)

  pub open_more : i < length outputs → Moves tells old new (get_or outputs i d) after
      → AreOpen old outputs → AreOpen new (set outputs i after)
  open_more inside moves are_open =
      let here : (get_or outputs i d).slot < old.side.slots = are_open i d inside in
      All-set (λ (output : Output). output.slot < new.side.slots) outputs i after (omega (arith, here, moves.slot, moves.slots))
      (All-weaker (λ (output : Output). output.slot < old.side.slots) (λ (output : Output). output.slot < new.side.slots)
      (λ output open_before. omega (arith, open_before, moves.slots)) outputs are_open)

-- the outputs so far have too little
pub few_more : (least : ℕ) (outputs : List Output) (i : ℕ) (after : Output) → i < length outputs → length after.gathered.items < least
    → All (λ (output : Output). length output.gathered.items < least) (take i outputs)
    → All (λ (output : Output). length output.gathered.items < least) (take (i + 1) (set outputs i after))
few_more least outputs i after inside few all =
    All-same (λ (output : Output). length output.gathered.items < least) (take (i + 1) (set outputs i after)) (take i outputs ++ after ∷ [])
    (take_more_set outputs i after inside)
    (All-push (λ (output : Output). length output.gathered.items < least) (take i outputs) after all few)

pub few_all : (least : ℕ) (outputs : List Output) (i : ℕ) → length outputs ≤ i
    → All (λ (output : Output). length output.gathered.items < least) (take i outputs)
    → All (λ (output : Output). length output.gathered.items < least) outputs
few_all least outputs i past all =
    All-same (λ (output : Output). length output.gathered.items < least) outputs (take i outputs) (sym (take_all i outputs past)) all

-- fewer than one octet are none
pub none_gathered : (outputs : List Output) → All (λ (output : Output). length output.gathered.items < 1) outputs
    → All (λ (output : Output). output.gathered.items ≡ []) outputs
none_gathered outputs few = All-weaker (λ (output : Output). length output.gathered.items < 1) (λ (output : Output). output.gathered.items ≡ [])
    (λ output short. empty output.gathered.items short) outputs few
  where
    empty : (xs : List ℕ) → length xs < 1 → xs ≡ []
    empty [] short = refl
    empty (x ∷ xs) short = absurd (omega (arith, short))

-- What an output was left as: one that had too little is as it was, and those behind a place are.
pub record AreKept (least : ℕ) (start desk : Writing) (first outputs : List Output) (i : ℕ) : Type 0 where
  pub kept : KeepsFew least start desk first outputs
  pub ahead : (j : ℕ) (d : Output) → i ≤ j → get_or outputs j d ≡ get_or first j d
  pub size : length outputs ≡ length first

-- what one writing leaves of an output that has too little
abbrev pub LeavesFew : ℕ → Writing → Writing → Output → Output → Type 0
LeavesFew least old new before after = length before.gathered.items < least → (after ≡ before) × (new ≡ old)

module _ (tells : Bool) (least : ℕ) (start old new : Writing) (first outputs : List Output) (i : ℕ) (d after : Output) (inside : i < length outputs)
    (leaves : LeavesFew least old new (get_or outputs i d) after) (are : AreKept least start old first outputs i) where
  within : i < length first
  within = omega (arith, inside, are.size)

  -- the one that is written now is the one that it was at the start
  here : length (get_or first i d).gathered.items < least → (after ≡ get_or first i d) × (new ≡ old)
  here few = subst (λ (output : Output). LeavesFew least old new output after) (are.ahead i d (omega arith)) leaves few

  at_place : (e : Output) → length (get_or first i e).gathered.items < least → get_or (set outputs i after) i e ≡ get_or first i e
  at_place e few =
      let same = get_or_default first i e d within in
      get_or-set_same outputs i after e inside ∙ (here (subst (λ (output : Output). length output.gathered.items < least) same few)).0 ∙ sym same

  gathered : (j : ℕ) (e : Output) → j < length first → length (get_or first j e).gathered.items < least
      → get_or (set outputs i after) j e ≡ get_or first j e
  gathered j e lies few = elim (cases_eq j i) [
    | inl same ↦ subst (λ (k : ℕ). get_or (set outputs i after) k e ≡ get_or first k e) (sym same)
        (at_place e (subst (λ (k : ℕ). length (get_or first k e).gathered.items < least) same few))
    | inr other ↦ get_or-set_other outputs i j after e other ∙ are.kept.gathered j e lies few
  ]

  written_so : Moves tells old new (get_or outputs i d) after
      → (k : ℕ) → All (λ (output : Output). output.slot ≡ k → length output.gathered.items < least) first → new.written k ≡ start.written k
  written_so moves k all = elim (cases_lt (length (get_or first i d).gathered.items) least) [
    | inl few ↦ ap (λ (desk : Writing). desk.written k) (here few).1 ∙ are.kept.written k all
    | inr many ↦
        let same : (get_or outputs i d).slot ≡ (get_or first i d).slot = ap (λ (output : Output). output.slot) (are.ahead i d (omega arith)) in
        moves.other_written k (λ at. absurd (few_and_many (all i d within (sym same ∙ sym at)) many)) ∙ are.kept.written k all
  ]
    where
      few_and_many : length (get_or first i d).gathered.items < least → least ≤ length (get_or first i d).gathered.items → ⊥
      few_and_many few many = omega (arith, few, many)

  pub kept_more : Moves tells old new (get_or outputs i d) after → AreKept least start new first (set outputs i after) (i + 1)
  kept_more moves = record {
    kept = record { gathered = gathered; written = written_so moves };
    ahead = λ j e past. get_or-set_other outputs i j after e (λ same. omega (arith, past, same)) ∙ are.ahead j e (omega (arith, past));
    size = length-set outputs i after ∙ are.size;
  }

-- An output that had enough, and of which something is left behind its writing.
pub leaves_some : (least : ℕ) (start desk : Writing) (first outputs : List Output) (i : ℕ) (d after : Output) → i < length outputs
    → least ≤ length (get_or outputs i d).gathered.items → 0 < length after.gathered.items → AreKept least start desk first outputs i
    → LeavesSome least first (set outputs i after)
leaves_some least start desk first outputs i d after inside full left are = record {
  place = i;
  inside = omega (arith, inside, are.size);
  full = λ e. subst (λ (output : Output). least ≤ length output.gathered.items)
      (get_or_default outputs i d e inside ∙ are.ahead i e (omega arith)) full;
  left = λ e. subst (λ (output : Output). 0 < length output.gathered.items) (sym (get_or-set_same outputs i after e inside)) left;
}

-- one output more was written
pub touches_more : (tells : Bool) (start mid new : State) (x : Failing) (outputs : List Output) (i : ℕ) (d : Output) (slot : ℕ) (names texts : List (List ℕ)) → i < length outputs
    → AreTold tells mid.outputs slot names outputs texts → Touches tells (writes_from slot) Quiet start mid
    → Touches tells (write_to (get_or outputs i d).slot) x mid new → Touches tells (writes_from slot) x start new
touches_more tells start mid new x outputs i d slot names texts inside told first then =
    let number = slot_at tells mid.outputs slot names outputs texts i d inside told in
    touches-within tells (writes_from slot) (write_to (get_or outputs i d).slot) x start mid new
    (within-write (get_or outputs i d).slot (writes_from slot) (omega (arith, number))) first then
