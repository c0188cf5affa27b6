-- Steps of a generated load as a stage.
use Rattle.std.specs.Prelude.{OnErr}
use Rattle.std.proofs.Common.{Result, Ok, Err, ◌≡◌, ℕ, ◌-◌, ◌<◌, ◌≤◌, Bool, true, false, List, [], ◌∷◌, length, refl, sym, ap, ◌∙◌, subst, append-nil, arith}
use Rattle.std.specs.Borrow.{MutBor}
use Rattle.ioam_run_arrivals.specs.declared.forwarding.Forwarding.{Forwarding}
use Rattle.ioam_desk_outputs.specs.Told.{Adds, GathersFew, GathersNothing, said_more}
use Rattle.ioam_desk_outputs.specs.declared.output.Output.{Output}
use Rattle.ioam_stream.specs.Stage.{Seen, Standing, Begins, Ends, Takes, Feeds}
use Rattle.ioam_run_bulk.specs.Load.{IsSet}
use Rattle.ioam_run_bulk.specs.Promise.{IsReport}
use Rattle.ioam_run_bulk.specs.Stage.{HasTaken, Says, Sends, StandsIn, held_in, kind, unfed}
use Rattle.ioam_run_bulk.specs.declared.stage.Generating.{Generating}
use Rattle.ioam_run_bulk.specs.declared.terms.Terms.{Terms}

-- nothing is added to one output
adds_none : (outputs : List Output) → length outputs ≡ 1 → Adds outputs outputs ([] ∷ [])
adds_none [] one = absurd (omega (arith, one))
adds_none (x ∷ []) one = (refl, sym (append-nil x.gathered.items), tt)
adds_none (x ∷ y ∷ outputs) one = absurd (omega (arith, one))

pub nothing_few : (outputs : List Output) → GathersNothing outputs → GathersFew outputs
nothing_few outputs none k d inside = omega (arith, ap (λ (xs : List ℕ). length xs) (none k d inside))

-- after an error, whatever it is
pub on_err : {T E : Type 0} (result : Result T E) (P : Type 0) → P → OnErr result P
on_err (Ok x) P holds = tt
on_err (Err e) P holds = holds

-- what a stage has said is so of one that has taken and said as much
pub says_on : {F : Type 0} (old new : Generating F) (so_far : List (List ℕ)) (said : Bool) → (StandsIn false old so_far → StandsIn false new so_far)
    → (StandsIn true old so_far → StandsIn true new so_far) → StandsIn said old so_far → StandsIn said new so_far
says_on old new so_far false before after = before
says_on old new so_far true before after = after

module _ {F : Type 0} (Pre : F → MutBor Forwarding → Type 0) (Post : F → MutBor Forwarding → Unit {0} → MutBor Forwarding → Type 0) where
  pub begins_sends : (stage : Generating F) (outputs : List Output) → length outputs ≡ 1 → Begins (kind Pre Post) stage outputs outputs
  begins_sends stage outputs one = (
    [] ∷ [],
    adds_none outputs one,
    λ fresh. record {
      set = fresh.set;
      same = refl;
      says = let P : Bool → Type 0 = λ said. StandsIn said stage ([] ∷ []) in
          subst P (sym fresh.unsaid) (refl, subst (λ (n : ℕ). HasTaken n stage) (sym fresh.none) fresh.loads, omega (arith, fresh.none));
    },
  )

  -- what stands for something before the sums were said
  pub unsaid_taken : (stage : Generating F) → Standing (kind Pre Post) stage → stage.said ≡ false → HasTaken stage.taken stage × (stage.taken ≤ stage.terms.count)
  unsaid_taken stage standing unsaid =
      let says = subst (λ (said : Bool). StandsIn said stage standing.so_far) unsaid standing.stands.says in
      (says.1, says.2)

  module _ (old new : Generating F) (before after : List Output) where
    -- some arrivals were taken
    pub takes_some : length before ≡ 1 → after ≡ before → new.fed ≡ old.fed → new.terms ≡ old.terms → old.said ≡ false → new.said ≡ false → old.taken < new.taken
        → new.taken ≤ old.terms.count → HasTaken new.taken new → Takes (kind Pre Post) old new before after
    takes_some one same fed terms unsaid still more few loads =
        let P : ℕ → Type 0 = λ count. held_in new.said (count - new.taken) < held_in old.said (old.terms.count - old.taken) in
        record {
          held = subst P (ap (λ (t : Terms F). t.count) (sym terms))
              (let Q : Bool → Bool → Type 0 = λ a b. held_in a (old.terms.count - new.taken) < held_in b (old.terms.count - old.taken) in
              subst (λ (b : Bool). Q new.said b) (sym unsaid) (subst (λ (a : Bool). Q a false) (sym still) (omega (arith, more, few))));
          room = ap unfed fed;
          added = [] ∷ [];
          adds = subst (λ (o : List Output). Adds before o ([] ∷ [])) (sym same) (adds_none before one);
          stands = λ begun seen so_far stands.
              let says = subst (λ (said : Bool). StandsIn said old so_far) unsaid stands.says in
              record {
                set = subst (λ (t : Terms F). IsSet Pre Post t) (sym terms) stands.set;
                same = terms ∙ stands.same;
                says = subst (λ (said : Bool). StandsIn said new (said_more so_far ([] ∷ []))) (sym still) (
                  ap (λ (so : List (List ℕ)). said_more so ([] ∷ [])) says.0,
                  loads,
                  subst (λ (t : Terms F). new.taken ≤ t.count) (sym terms) few,
                );
              };
        }

    -- the sums were said
    pub takes_sums : (text : List ℕ) → Adds before after (text ∷ []) → new.fed ≡ old.fed → new.terms ≡ old.terms → old.said ≡ false → new.said ≡ true
        → (IsSet Pre Post old.terms → IsReport old.terms.seed old.terms.count text) → Takes (kind Pre Post) old new before after
    takes_sums text adds fed terms unsaid said report =
        let Q : Bool → Bool → Type 0 = λ a b. held_in a (new.terms.count - new.taken) < held_in b (old.terms.count - old.taken) in
        record {
          held = subst (λ (b : Bool). Q new.said b) (sym unsaid) (subst (λ (a : Bool). Q a false) (sym said) (omega arith));
          room = ap unfed fed;
          added = text ∷ [];
          adds = adds;
          stands = λ begun seen so_far stands.
              let says = subst (λ (b : Bool). StandsIn b old so_far) unsaid stands.says in
              record {
                set = subst (λ (t : Terms F). IsSet Pre Post t) (sym terms) stands.set;
                same = terms ∙ stands.same;
                says = subst (λ (b : Bool). StandsIn b new (said_more so_far (text ∷ []))) (sym said) (
                  text,
                  subst (λ (t : Terms F). IsReport t.seed t.count text) (sym terms) (report stands.set),
                  ap (λ (so : List (List ℕ)). said_more so (text ∷ [])) says.0,
                );
              };
        }

  all_said : (begun stage : Generating F) {seen : Seen} (so_far : List (List ℕ)) → stage.said ≡ true → Sends Pre Post begun seen so_far stage → Says begun so_far
  all_said begun stage so_far said stands =
      let says = subst (λ (b : Bool). StandsIn b stage so_far) said stands.says in
      (says.0, subst (λ (t : Terms F). IsReport t.seed t.count says.0) stands.same says.1, says.2)

  -- all was said
  pub ends_said : (stage : Generating F) (outputs : List Output) → stage.said ≡ true → Ends (kind Pre Post) stage stage outputs outputs
  ends_said stage outputs said = record {
    same = refl;
    room = refl;
    stands = λ begun seen so_far stands. stands;
    drained = λ begun seen so_far stands uncut drains i inside. absurd (omega (arith, inside));
    whole = λ begun seen so_far contents stands uncut covers. all_said begun stage so_far said stands;
    cut = λ begun seen so_far stands cut. (all_said begun stage so_far said stands, tt);
  }

  -- what it was handed makes no difference
  pub feeds_none : (More : Seen → Seen → Type 0) (old new : Generating F) → old.fed ≡ false → new.fed ≡ true → new.terms ≡ old.terms → new.said ≡ old.said
      → ((so_far : List (List ℕ)) → StandsIn old.said old so_far → StandsIn new.said new so_far) → Feeds (kind Pre Post) More old new
  feeds_none More old new unfed_yet fed terms said says = record {
    stands = λ begun seen after so_far more stands. record {
      set = subst (λ (t : Terms F). IsSet Pre Post t) (sym terms) stands.set;
      same = terms ∙ stands.same;
      says = says so_far stands.says;
    };
    room = omega (arith, ap unfed unfed_yet, ap unfed fed);
  }
