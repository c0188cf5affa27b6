-- Laws of what calls touch: nothing at all, one call after another, a larger footprint, and the calls of a desk.
use Rattle.std.proofs.Common.{◌≡◌, ℕ, ◌+◌, ◌<◌, ◌≤◌, Bool, IsTrue, List, [], ◌∷◌, ◌++◌, length, All, Contains, Option, Result, Ok, Err, refl, sym, ◌∙◌, ap, subst, append-nil, append_assoc, length-append, arith}
use Rattle.std.proofs.lemmas.List.Elements.{All-nil, All-cons, All-weaker, All-append, Contains-append_left, Contains-append_right}
use Rattle.ioam_desk.specs.Desk.{Side, Reading, Writing, Held, FailsToOpen, Fails, opened_side, holds, OpenIn, ReadInto, OpenOut, Grows}
use Rattle.ioam_desk.specs.Kept.{KeepsInputs, KeepsOutputs}
use Rattle.ioam_desk.specs.Touches.{State, AnswersFailing, Footprint, read_of, write_to, opening, Failing, Quiet, Input, Output, Read, Late, failing_open, failing_read, failing_out, failing_write, after_read, IsFine, Broke, Loose, HowIn, HowOut, TouchesIn, TouchesOut, Touches, Within}
use Rattle.ioam_desk.specs.declared.fault.DeskFault.{DeskFault}
use Rattle.ioam_desk.specs.Whole.{WritesSide}
use Rattle.ioam_desk.specs.declared.fault.DeskFault.TheVariants.{Failed, NoMemory}
use Rattle.ioam_desk.specs.declared.fault.WriteAll.{WriteAll}
use Rattle.ioam_desk.specs.declared.fault.WriteAll.TheVariants as write

-- ---- nothing

fine-same : (s : Side) → IsFine s s
fine-same s = record { faults = refl; slots = refl }

in-same : (reads : ℕ → Type 0) (names : List (List ℕ)) (x : Failing) (s : Reading) → HowIn x s.side s.side → TouchesIn reads names x s s
in-same reads names x s how = record {
  asked = [];
  asks = sym (append-nil s.side.asked);
  among = All-nil (Contains names);
  how = how;
  left = λ k below away. refl;
  ended = λ k below away. refl;
}

out-same : (tells : Bool) (writes : ℕ → Type 0) (names : List (List ℕ)) (x : Failing) (s : Writing) → HowOut x s.side s.side → TouchesOut tells writes names x s s
out-same tells writes names x s how = record {
  asked = [];
  asks = sym (append-nil s.side.asked);
  among = All-nil (Contains names);
  how = how;
  written = λ told k below away. refl;
  files = λ told name outside. refl;
}

pub touches-none : (tells : Bool) (f : Footprint) (s : State) → Touches tells f Quiet s s
touches-none tells f s = record {
  inputs = in-same f.reads f.ins Quiet s.inputs (fine-same s.inputs.side);
  outputs = out-same tells f.writes f.outs Quiet s.outputs (fine-same s.outputs.side);
}

-- ---- slots don't go away

have-grew : (old new : Side) (more : List (List ℕ)) → new.asked ≡ old.asked ++ more → new.slots + length old.asked ≡ old.slots + length new.asked → old.slots ≤ new.slots
have-grew old new more asked slots = omega (arith, slots, ap (λ (xs : List (List ℕ)). length xs) asked, length-append old.asked more)

grew-in : (x : Failing) (old new : Side) (more : List (List ℕ)) → new.asked ≡ old.asked ++ more → HowIn x old new → old.slots ≤ new.slots
grew-in Quiet old new more asked how = have-grew old new more asked how.slots
grew-in Input old new more asked how = how.slots
grew-in Read old new more asked how = have-grew old new more asked how.slots
grew-in Output old new more asked how = have-grew old new more asked how.slots
grew-in Late old new more asked how = have-grew old new more asked how.slots

grew-out : (x : Failing) (old new : Side) (more : List (List ℕ)) → new.asked ≡ old.asked ++ more → HowOut x old new → old.slots ≤ new.slots
grew-out Quiet old new more asked how = have-grew old new more asked how.slots
grew-out Input old new more asked how = have-grew old new more asked how.slots
grew-out Read old new more asked how = have-grew old new more asked how.slots
grew-out Output old new more asked how = how.slots
grew-out Late old new more asked how = have-grew old new more asked how.slots

pub touches-slots_in : (tells : Bool) (f : Footprint) (x : Failing) (old new : State) → Touches tells f x old new → old.inputs.side.slots ≤ new.inputs.side.slots
touches-slots_in tells f x old new t = grew-in x old.inputs.side new.inputs.side t.inputs.asked t.inputs.asks t.inputs.how

pub touches-slots_out : (tells : Bool) (f : Footprint) (x : Failing) (old new : State) → Touches tells f x old new → old.outputs.side.slots ≤ new.outputs.side.slots
touches-slots_out tells f x old new t = grew-out x old.outputs.side new.outputs.side t.outputs.asked t.outputs.asks t.outputs.how

-- ---- one call after another

fine-then : (a b c : Side) → IsFine a b → IsFine b c → IsFine a c
fine-then a b c first then = record { faults = then.faults ∙ first.faults; slots = omega (arith, first.slots, then.slots) }

broke-then : (a b c : Side) → a.slots ≤ b.slots → IsFine a b → Broke b c → Broke a c
broke-then a b c grew first then = record { rose = omega (arith, then.rose, first.faults); slots = omega (arith, grew, then.slots) }

loose-then : (a b c : Side) → IsFine a b → Loose b c → Loose a c
loose-then a b c first then = record { slots = omega (arith, first.slots, then.slots) }

how_in-then : (x : Failing) (a b c : Side) → a.slots ≤ b.slots → IsFine a b → HowIn x b c → HowIn x a c
how_in-then Quiet a b c grew first then = fine-then a b c first then
how_in-then Input a b c grew first then = broke-then a b c grew first then
how_in-then Read a b c grew first then = record { rose = omega (arith, then.rose, first.faults); slots = omega (arith, first.slots, then.slots) }
how_in-then Output a b c grew first then = loose-then a b c first then
how_in-then Late a b c grew first then = loose-then a b c first then

how_out-then : (x : Failing) (a b c : Side) → a.slots ≤ b.slots → IsFine a b → HowOut x b c → HowOut x a c
how_out-then Quiet a b c grew first then = fine-then a b c first then
how_out-then Input a b c grew first then = fine-then a b c first then
how_out-then Read a b c grew first then = fine-then a b c first then
how_out-then Output a b c grew first then = broke-then a b c grew first then
how_out-then Late a b c grew first then = fine-then a b c first then

-- One run of calls after another; the second may touch what the first opened. How each side fared is the caller's to join.
pub touches-join : (tells : Bool) (f g : Footprint) (w x z : Failing) (a b c : State)
    → (a.inputs.side.slots ≤ b.inputs.side.slots → HowIn w a.inputs.side b.inputs.side → HowIn x b.inputs.side c.inputs.side → HowIn z a.inputs.side c.inputs.side)
    → (a.outputs.side.slots ≤ b.outputs.side.slots → HowOut w a.outputs.side b.outputs.side → HowOut x b.outputs.side c.outputs.side → HowOut z a.outputs.side c.outputs.side)
    → ((k : ℕ) → k < a.inputs.side.slots → (f.reads k → ⊥) → g.reads k → ⊥) → ((k : ℕ) → k < a.outputs.side.slots → (f.writes k → ⊥) → g.writes k → ⊥)
    → ((name : List ℕ) → Contains g.ins name → Contains f.ins name) → ((name : List ℕ) → Contains g.outs name → Contains f.outs name)
    → Touches tells f w a b → Touches tells g x b c → Touches tells f z a c
touches-join tells f g w x z a b c how_in how_out reads writes ins outs first then =
    let grew_in = touches-slots_in tells f w a b first in
    let grew_out = touches-slots_out tells f w a b first in
    record {
      inputs = record {
        asked = first.inputs.asked ++ then.inputs.asked;
        asks = then.inputs.asks ∙ ap (λ (xs : List (List ℕ)). xs ++ then.inputs.asked) first.inputs.asks ∙ append_assoc a.inputs.side.asked first.inputs.asked then.inputs.asked;
        among = All-append (Contains f.ins) first.inputs.asked then.inputs.asked first.inputs.among (All-weaker (Contains g.ins) (Contains f.ins) ins then.inputs.asked then.inputs.among);
        how = how_in grew_in first.inputs.how then.inputs.how;
        left = λ k below away. then.inputs.left k (omega (arith, below, grew_in)) (reads k below away) ∙ first.inputs.left k below away;
        ended = λ k below away. then.inputs.ended k (omega (arith, below, grew_in)) (reads k below away) ∙ first.inputs.ended k below away;
      };
      outputs = record {
        asked = first.outputs.asked ++ then.outputs.asked;
        asks = then.outputs.asks ∙ ap (λ (xs : List (List ℕ)). xs ++ then.outputs.asked) first.outputs.asks ∙ append_assoc a.outputs.side.asked first.outputs.asked then.outputs.asked;
        among = All-append (Contains f.outs) first.outputs.asked then.outputs.asked first.outputs.among (All-weaker (Contains g.outs) (Contains f.outs) outs then.outputs.asked then.outputs.among);
        how = how_out grew_out first.outputs.how then.outputs.how;
        written = λ told k below away. then.outputs.written told k (omega (arith, below, grew_out)) (writes k below away) ∙ first.outputs.written told k below away;
        files = λ told name outside. then.outputs.files told name (λ stands. outside (Contains-append_right first.outputs.asked then.outputs.asked name stands))
            ∙ first.outputs.files told name (λ stands. outside (Contains-append_left first.outputs.asked then.outputs.asked name stands));
      };
    }

-- the same where the first didn't fail
pub touches-then : (tells : Bool) (f g : Footprint) (x : Failing) (a b c : State)
    → ((k : ℕ) → k < a.inputs.side.slots → (f.reads k → ⊥) → g.reads k → ⊥) → ((k : ℕ) → k < a.outputs.side.slots → (f.writes k → ⊥) → g.writes k → ⊥)
    → ((name : List ℕ) → Contains g.ins name → Contains f.ins name) → ((name : List ℕ) → Contains g.outs name → Contains f.outs name)
    → Touches tells f Quiet a b → Touches tells g x b c → Touches tells f x a c
touches-then tells f g x a b c reads writes ins outs first then = touches-join tells f g Quiet x x a b c
    (λ grew. how_in-then x a.inputs.side b.inputs.side c.inputs.side grew) (λ grew. how_out-then x a.outputs.side b.outputs.side c.outputs.side grew)
    reads writes ins outs first then

-- a read failed, and then what was gathered was written: all of it, or a write failed, or memory ran out
pub touches-rest : (tells : Bool) (f g : Footprint) (a b c : State) (result : Result (Unit {0}) DeskFault) → Within g f
    → Touches tells f Read a b → Touches tells g (failing_out result) b c → Touches tells f (after_read result) a c
touches-rest tells f g a b c (Ok _) within first then = touches-join tells f g Read Quiet Read a b c
    (λ grew was now. record { rose = omega (arith, was.rose, now.faults); slots = omega (arith, was.slots, now.slots) })
    (λ grew was now. fine-then a.outputs.side b.outputs.side c.outputs.side was now)
    (λ k below away reads. away (within.reads k reads)) (λ k below away writes. away (within.writes k writes)) within.ins within.outs first then
touches-rest tells f g a b c (Err Failed) within first then = touches-join tells f g Read Output Output a b c
    (λ grew was now. record { slots = omega (arith, was.slots, now.slots) })
    (λ grew was now. broke-then a.outputs.side b.outputs.side c.outputs.side grew was now)
    (λ k below away reads. away (within.reads k reads)) (λ k below away writes. away (within.writes k writes)) within.ins within.outs first then
touches-rest tells f g a b c (Err NoMemory) within first then = touches-join tells f g Read Quiet Late a b c
    (λ grew was now. record { slots = omega (arith, was.slots, now.slots) })
    (λ grew was now. fine-then a.outputs.side b.outputs.side c.outputs.side was now)
    (λ k below away reads. away (within.reads k reads)) (λ k below away writes. away (within.writes k writes)) within.ins within.outs first then

-- the same where the second's footprint lies in the first's
pub touches-within : (tells : Bool) (f g : Footprint) (x : Failing) (a b c : State) → Within g f
    → Touches tells f Quiet a b → Touches tells g x b c → Touches tells f x a c
touches-within tells f g x a b c within first then =
    touches-then tells f g x a b c (λ k below away reads. away (within.reads k reads)) (λ k below away writes. away (within.writes k writes)) within.ins within.outs first then

-- a larger footprint
pub touches-more : (tells : Bool) (f g : Footprint) (x : Failing) (old new : State) → Within f g → Touches tells f x old new → Touches tells g x old new
touches-more tells f g x old new within t = touches-within tells g f x old old new within (touches-none tells g old) t

pub within-same : (f : Footprint) → Within f f
within-same f = record { reads = λ k r. r; writes = λ k w. w; ins = λ name is. is; outs = λ name is. is }

pub touches-on : (tells : Bool) (f : Footprint) (x : Failing) (a b c : State) → Touches tells f Quiet a b → Touches tells f x b c → Touches tells f x a c
touches-on tells f x a b c first then = touches-within tells f f x a b c (within-same f) first then

-- what calls on slots touch lies in a footprint that has these slots
pub within-read : (slot : ℕ) (f : Footprint) → f.reads slot → Within (read_of slot) f
within-read slot f reads = record {
  reads = λ k same. subst f.reads (sym same) reads;
  writes = λ k none. absurd none;
  ins = λ name none. absurd (omega (arith, none.1));
  outs = λ name none. absurd (omega (arith, none.1));
}

pub within-write : (slot : ℕ) (f : Footprint) → f.writes slot → Within (write_to slot) f
within-write slot f writes = record {
  reads = λ k none. absurd none;
  writes = λ k same. subst f.writes (sym same) writes;
  ins = λ name none. absurd (omega (arith, none.1));
  outs = λ name none. absurd (omega (arith, none.1));
}

-- ---- what may come after a read that failed

-- memory ran out, where no call failed
pub touches-quiet_late : (tells : Bool) (f : Footprint) (old new : State) → Touches tells f Quiet old new → Touches tells f Late old new
touches-quiet_late tells f old new t = record {
  inputs = record { asked = t.inputs.asked; asks = t.inputs.asks; among = t.inputs.among; how = record { slots = t.inputs.how.slots }; left = t.inputs.left; ended = t.inputs.ended };
  outputs = record { asked = t.outputs.asked; asks = t.outputs.asks; among = t.outputs.among; how = t.outputs.how; written = t.outputs.written; files = t.outputs.files };
}

-- ---- the calls of a desk

-- only inputs were touched, or only outputs
only_in : (tells : Bool) (f : Footprint) (x : Failing) (old new : State) → HowOut x old.outputs.side old.outputs.side → new.outputs ≡ old.outputs
    → TouchesIn f.reads f.ins x old.inputs new.inputs → Touches tells f x old new
only_in tells f x old new how same inputs = record {
  inputs = inputs;
  outputs = subst (λ (w : Writing). TouchesOut tells f.writes f.outs x old.outputs w) (sym same) (out-same tells f.writes f.outs x old.outputs how);
}

only_out : (tells : Bool) (f : Footprint) (x : Failing) (old new : State) → HowIn x old.inputs.side old.inputs.side → new.inputs ≡ old.inputs
    → TouchesOut tells f.writes f.outs x old.outputs new.outputs → Touches tells f x old new
only_out tells f x old new how same outputs = record {
  inputs = subst (λ (r : Reading). TouchesIn f.reads f.ins x old.inputs r) (sym same) (in-same f.reads f.ins x old.inputs how);
  outputs = outputs;
}

in_still : (reads : ℕ → Type 0) (names : List (List ℕ)) (old new : Reading) → new ≡ old → TouchesIn reads names Quiet old new
in_still reads names old new same = subst (λ (r : Reading). TouchesIn reads names Quiet old r) (sym same) (in-same reads names Quiet old (fine-same old.side))

out_still : (tells : Bool) (writes : ℕ → Type 0) (names : List (List ℕ)) (old new : Writing) → new ≡ old → TouchesOut tells writes names Quiet old new
out_still tells writes names old new same = subst (λ (w : Writing). TouchesOut tells writes names Quiet old w) (sym same) (out-same tells writes names Quiet old (fine-same old.side))

one_of : (name : List ℕ) → All (Contains (name ∷ [])) (name ∷ [])
one_of name = All-cons (Contains (name ∷ [])) name [] (0, omega arith, refl) (All-nil (Contains (name ∷ [])))

-- slots before a new one aren't it
below_new : (k slot slots : ℕ) → k < slots → slot ≡ slots → k ≡ slot → ⊥
below_new k slot slots below new same = omega (arith, below, new, same)

opened-fine : (old new : Side) (name : List ℕ) → new ≡ opened_side old name → IsFine old new
opened-fine old new name is = record {
  faults = ap (λ (s : Side). s.faults) is;
  slots = omega (arith, ap (λ (s : Side). s.slots) is, ap (λ (s : Side). length s.asked) is ∙ length-append old.asked (name ∷ []));
}

fails-broke : (old new : Side) → Fails old new → Broke old new
fails-broke old new fails = record { rose = fails.rose; slots = omega (arith, fails.slots) }

unopened-broke : (old new : Side) (name : List ℕ) → FailsToOpen old new name → Broke old new
unopened-broke old new name fails = record { rose = fails.rose; slots = omega (arith, fails.slots) }

asked_none : (old new : Side) → new.asked ≡ old.asked → new.asked ≡ old.asked ++ []
asked_none old new same = same ∙ sym (append-nil old.asked)

pub touches-open_in : (tells : Bool) (old new : State) (name : List ℕ) (result : Result ℕ DeskFault) → OpenIn tells old.inputs (holds old.outputs name) name result new.inputs → new.outputs ≡ old.outputs
    → Touches tells (opening (name ∷ []) []) (failing_open result) old new
touches-open_in tells old new name (Ok slot) opened kept = only_in tells (opening (name ∷ []) []) Quiet old new (fine-same old.outputs.side) kept (record {
  asked = name ∷ [];
  asks = ap (λ (s : Side). s.asked) opened.side;
  among = one_of name;
  how = opened-fine old.inputs.side new.inputs.side name opened.side;
  left = λ k below away. opened.other_left k (below_new k slot old.inputs.side.slots below opened.number);
  ended = λ k below away. opened.other_ended k (below_new k slot old.inputs.side.slots below opened.number);
})
touches-open_in tells old new name (Err Failed) failed kept = only_in tells (opening (name ∷ []) []) Input old new (fine-same old.outputs.side) kept (record {
  asked = name ∷ [];
  asks = failed.0.asked;
  among = one_of name;
  how = unopened-broke old.inputs.side new.inputs.side name failed.0;
  left = λ k below away. ap (λ (left : ℕ → List ℕ). left k) failed.1;
  ended = λ k below away. ap (λ (ended : ℕ → Bool). ended k) failed.2;
})
touches-open_in tells old new name (Err NoMemory) same kept = only_in tells (opening (name ∷ []) []) Quiet old new (fine-same old.outputs.side) kept
    (in_still (λ k. ⊥) (name ∷ []) old.inputs new.inputs same)

pub touches-read : (tells : Bool) (old new : State) (slot : ℕ) (into : List ℕ) (result : Result ℕ DeskFault) → ReadInto tells old.inputs slot into result new.inputs → new.outputs ≡ old.outputs
    → Touches tells (read_of slot) (failing_read result) old new
touches-read tells old new slot into (Ok count) read kept = only_in tells (read_of slot) Quiet old new (fine-same old.outputs.side) kept (record {
  asked = [];
  asks = asked_none old.inputs.side new.inputs.side (ap (λ (s : Side). s.asked) read.1.side);
  among = All-nil (Contains []);
  how = subst (λ (s : Side). IsFine old.inputs.side s) (sym read.1.side) (fine-same old.inputs.side);
  left = λ k below away. read.1.other_left k away;
  ended = λ k below away. read.1.other_ended k away;
})
touches-read tells old new slot into (Err Failed) failed kept = only_in tells (read_of slot) Read old new (fine-same old.outputs.side) kept (record {
  asked = [];
  asks = asked_none old.inputs.side new.inputs.side failed.0.asked;
  among = All-nil (Contains []);
  how = record { rose = failed.0.rose; slots = omega (arith, failed.0.slots, ap (λ (xs : List (List ℕ)). length xs) failed.0.asked) };
  left = λ k below away. ap (λ (left : ℕ → List ℕ). left k) failed.1;
  ended = λ k below away. ap (λ (ended : ℕ → Bool). ended k) failed.2;
})
touches-read tells old new slot into (Err NoMemory) same kept = only_in tells (read_of slot) Quiet old new (fine-same old.outputs.side) kept
    (in_still (λ k. k ≡ slot) [] old.inputs new.inputs same)

pub touches-open_out : (tells : Bool) (old new : State) (name : List ℕ) (result : Result ℕ DeskFault) → OpenOut tells old.outputs name result new.outputs → new.inputs ≡ old.inputs
    → Touches tells (opening [] (name ∷ [])) (failing_out result) old new
touches-open_out tells old new name (Ok slot) opened kept = only_out tells (opening [] (name ∷ [])) Quiet old new (fine-same old.inputs.side) kept (record {
  asked = name ∷ [];
  asks = ap (λ (s : Side). s.asked) opened.1;
  among = one_of name;
  how = opened-fine old.outputs.side new.outputs.side name opened.1;
  written = λ told k below away. (opened.2 told).other_written k (below_new k slot old.outputs.side.slots below opened.0);
  files = λ told other outside. (opened.2 told).other_files other (λ same. outside (0, omega arith, sym same));
})
touches-open_out tells old new name (Err Failed) failed kept = only_out tells (opening [] (name ∷ [])) Output old new (record { slots = refl }) kept (record {
  asked = name ∷ [];
  asks = failed.0.asked;
  among = one_of name;
  how = unopened-broke old.outputs.side new.outputs.side name failed.0;
  written = λ told k below away. ap (λ (written : ℕ → List ℕ). written k) failed.1;
  files = λ told other outside. ap (λ (files : List ℕ → Option Held). files other) failed.2;
})
touches-open_out tells old new name (Err NoMemory) same kept = only_out tells (opening [] (name ∷ [])) Quiet old new (fine-same old.inputs.side) kept
    (out_still tells (λ k. ⊥) (name ∷ []) old.outputs new.outputs same)

-- one slot grew
grown-out : (tells : Bool) (x : Failing) (old new : Writing) (slot : ℕ) (octets : List ℕ) → new.side.asked ≡ old.side.asked → HowOut x old.side new.side
    → Grows tells old new slot octets → TouchesOut tells (λ k. k ≡ slot) [] x old new
grown-out tells x old new slot octets asked how grows = record {
  asked = [];
  asks = asked_none old.side new.side asked;
  among = All-nil (Contains []);
  how = how;
  written = λ told k below away. grows.other_written k away;
  files = λ told name outside. ap (λ (files : List ℕ → Option Held). files name) grows.files;
}

-- octets were written, all or the first ones
pub touches-write_all : (tells : Bool) (old new : State) (slot : ℕ) (octets : List ℕ) (result : Result (Unit {0}) WriteAll)
    → WritesSide old.outputs.side result new.outputs.side → Grows tells old.outputs new.outputs slot octets → new.inputs ≡ old.inputs
    → Touches tells (write_to slot) (failing_write result) old new
touches-write_all tells old new slot octets (Ok _) same grows kept = only_out tells (write_to slot) Quiet old new (fine-same old.inputs.side) kept
    (grown-out tells Quiet old.outputs new.outputs slot octets (ap (λ (s : Side). s.asked) same) (subst (λ (s : Side). IsFine old.outputs.side s) (sym same) (fine-same old.outputs.side)) grows)
touches-write_all tells old new slot octets (Err (write.Failed written)) fails grows kept = only_out tells (write_to slot) Output old new (record { slots = refl }) kept
    (grown-out tells Output old.outputs new.outputs slot octets fails.asked (fails-broke old.outputs.side new.outputs.side fails) grows)
touches-write_all tells old new slot octets (Err (write.NoMemory written)) same grows kept = only_out tells (write_to slot) Quiet old new (fine-same old.inputs.side) kept
    (grown-out tells Quiet old.outputs new.outputs slot octets (ap (λ (s : Side). s.asked) same) (subst (λ (s : Side). IsFine old.outputs.side s) (sym same) (fine-same old.outputs.side)) grows)

-- ---- what follows of a whole run

-- input slots that were there are as they were
pub touches-kept_in : (tells : Bool) (ins outs : List (List ℕ)) (x : Failing) (old new : State) → Touches tells (opening ins outs) x old new → KeepsInputs old.inputs new.inputs
touches-kept_in tells ins outs x old new t = record { left = λ k below. t.inputs.left k below (λ none. none); ended = λ k below. t.inputs.ended k below (λ none. none) }

-- and output slots, and the files of names that weren't asked for
pub touches-kept_out : (tells : Bool) (ins outs : List (List ℕ)) (x : Failing) (old new : State) → IsTrue tells → Touches tells (opening ins outs) x old new
    → KeepsOutputs old.outputs new.outputs
touches-kept_out tells ins outs x old new told t = record {
  slots = touches-slots_out tells (opening ins outs) x old new t;
  asked = t.outputs.asked;
  asks = t.outputs.asks;
  written = λ k below. t.outputs.written told k below (λ none. none);
  files = t.outputs.files told;
}

-- no name was asked for where the footprint has none
no_names : (asked : List (List ℕ)) → All (Contains []) asked → asked ≡ []
no_names [] among = refl
no_names (name ∷ asked) among = let one = among 0 name (omega arith) in absurd (omega (arith, one.1))

pub touches-unasked_in : (tells : Bool) (f : Footprint) (x : Failing) (old new : State) → f.ins ≡ [] → Touches tells f x old new → new.inputs.side.asked ≡ old.inputs.side.asked
touches-unasked_in tells f x old new none t =
    let empty = no_names t.inputs.asked (subst (λ (names : List (List ℕ)). All (Contains names) t.inputs.asked) none t.inputs.among) in
    t.inputs.asks ∙ ap (λ (asked : List (List ℕ)). old.inputs.side.asked ++ asked) empty ∙ append-nil old.inputs.side.asked

pub touches-unasked_out : (tells : Bool) (f : Footprint) (x : Failing) (old new : State) → f.outs ≡ [] → Touches tells f x old new → new.outputs.side.asked ≡ old.outputs.side.asked
touches-unasked_out tells f x old new none t =
    let empty = no_names t.outputs.asked (subst (λ (names : List (List ℕ)). All (Contains names) t.outputs.asked) none t.outputs.among) in
    t.outputs.asks ∙ ap (λ (asked : List (List ℕ)). old.outputs.side.asked ++ asked) empty ∙ append-nil old.outputs.side.asked

-- what failed is answered
pub touches-failing : (tells : Bool) (f : Footprint) (x : Failing) (old new : State) → Touches tells f x old new → AnswersFailing x old new
touches-failing tells f Quiet old new t = record { opens = λ other. t.inputs.how.slots; reads = λ quiet. t.inputs.how.faults; writes = λ other. t.outputs.how.faults }
touches-failing tells f Input old new t = record { opens = λ other. absurd (other refl); reads = λ quiet. absurd (input_quiet quiet); writes = λ other. t.outputs.how.faults }
  where
    input_quiet : Input ≡ Quiet → ⊥
    input_quiet same = cc
touches-failing tells f Read old new t = record { opens = λ other. t.inputs.how.slots; reads = λ quiet. absurd (read_quiet quiet); writes = λ other. t.outputs.how.faults }
  where
    read_quiet : Read ≡ Quiet → ⊥
    read_quiet same = cc
touches-failing tells f Output old new t = record { opens = λ other. t.inputs.how.slots; reads = λ quiet. absurd (output_quiet quiet); writes = λ other. absurd (other refl) }
  where
    output_quiet : Output ≡ Quiet → ⊥
    output_quiet same = cc
touches-failing tells f Late old new t = record { opens = λ other. t.inputs.how.slots; reads = λ quiet. absurd (late_quiet quiet); writes = λ other. t.outputs.how.faults }
  where
    late_quiet : Late ≡ Quiet → ⊥
    late_quiet same = cc
