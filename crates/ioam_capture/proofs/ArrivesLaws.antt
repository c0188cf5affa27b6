-- Laws of what is taken of several captures, by the octets that were handed out.
use Rattle.std.proofs.Common.{◌≡◌, ℕ, zero, suc, Bool, true, false, List, [], ◌∷◌, ◌++◌, Option, Some, None, arith, refl, sym, ◌∙◌, subst, inl, inr}
use Rattle.std.specs.Prelude.{map, slice_get}
use Rattle.std.specs.List.{All, AllZip}
use Rattle.std.proofs.lemmas.Bool.{false≢true}
use Rattle.std.proofs.lemmas.Option.{none-some, same_Some}
use Rattle.ioam_capture.specs.declared.turns.Due.TheVariants.{More}
use Rattle.ioam_capture.specs.declared.turns.Turn.{Turn}
use Rattle.ioam_capture.specs.declared.turns.Turn.TheVariants.{Next, Over, Broken, Unshown}
use Rattle.ioam_pcap.specs.Entries.{Taken}
use Rattle.ioam_pcap.specs.Ending.{Ending, Whole, Faulty}
use Rattle.ioam_capture.specs.Turn.{IsTurn}
use Rattle.ioam_capture.specs.Merge.{Stream, due_by, due_of, turn, Arrival, rest_by, rest, without_first, Takes, TakesAll, of_capture}
use Rattle.ioam_capture.specs.Streams.{known_ending, ShowsSo, Streams}
use Rattle.ioam_capture.specs.Arrives.{Handed, IsStream, Arrives, HandsOn}
use Rattle.ioam_capture.proofs.TurnLaws.{turn_says}
use Rattle.ioam_capture.proofs.MergeLaws.{Continues, ContinueAll, TakesAll-total, TakesAll-unique, Takes-later, Takes-front, Takes-of, turn-later}
use Rattle.ioam_capture.proofs.StreamsLaws.{ShowsSo-unique, ShowsSo-total, Streams-later}

-- each of the captures has ended
abbrev pub AreEnded : List Handed → Type 0
AreEnded captures = All (λ capture. capture.ended ≡ true) captures

-- of any captures some records are taken
streams_total : (captures : List Handed) → (streams : List Stream) × AllZip IsStream captures streams
streams_total [] = ([], tt)
streams_total (c ∷ cs) =
    let (records, ending, shows) = ShowsSo-total c.octets c.ended in
    let (streams, shown) = streams_total cs in
    (record { records = records; ending = ending } ∷ streams, (shows, shown))

pub Arrives-total : (captures : List Handed) → (taken : List Arrival) × (last : Turn) × Arrives captures taken last
Arrives-total captures =
    let (streams, shown) = streams_total captures in
    let (taken, last, all) = TakesAll-total streams in
    (taken, last, record { streams = streams; shown = shown; all = all })

-- and in one way
stream_unique : (c : Handed) (s t : Stream) → IsStream c s → IsStream c t → s ≡ t
stream_unique c s t x y =
    let same = ShowsSo-unique c.octets c.ended s.records t.records s.ending t.ending x y in
    λ i. record { records = same.0 i; ending = same.1 i }

streams_unique : (captures : List Handed) (ss ts : List Stream) → AllZip IsStream captures ss → AllZip IsStream captures ts → ss ≡ ts
streams_unique [] [] [] x y = refl
streams_unique [] [] (t ∷ ts) x y = absurd y
streams_unique [] (s ∷ ss) ts x y = absurd x
streams_unique (c ∷ cs) [] ts x y = absurd x
streams_unique (c ∷ cs) (s ∷ ss) [] x y = absurd y
streams_unique (c ∷ cs) (s ∷ ss) (t ∷ ts) x y =
    let first = stream_unique c s t x.0 y.0 in
    let others = streams_unique cs ss ts x.1 y.1 in
    cc

pub Arrives-unique : (captures : List Handed) (xs : List Arrival) (a : Turn) (ys : List Arrival) (b : Turn)
    → Arrives captures xs a → Arrives captures ys b → (xs ≡ ys) × (a ≡ b)
Arrives-unique captures xs a ys b x y =
    let same = streams_unique captures x.streams y.streams x.shown y.shown in
    TakesAll-unique y.streams xs a ys b (subst (λ s. TakesAll s xs a) same x.all) y.all

-- what several captures show goes on as more is handed out
goes_on : (old new : Handed) (s t : Stream) → HandsOn old new → IsStream old s → IsStream new t → Continues s t
goes_on old new s t (inr same) x y = inr (stream_unique old t s (subst (λ c. IsStream c t) same y) x)
goes_on old new s t (inl (unended, (more, is))) x y =
    let before : ShowsSo old.octets false s.records s.ending = subst (λ b. ShowsSo old.octets b s.records s.ending) unended x in
    let after : ShowsSo (old.octets ++ more) new.ended t.records t.ending = subst (λ o. ShowsSo o new.ended t.records t.ending) is y in
    Streams-later old.octets more new.ended [] s t before after

all_go_on : (olds news : List Handed) (ss ts : List Stream) → AllZip HandsOn olds news → AllZip IsStream olds ss → AllZip IsStream news ts → ContinueAll ss ts
all_go_on [] [] [] [] on x y = tt
all_go_on [] [] [] (t ∷ ts) on x y = absurd y
all_go_on [] [] (s ∷ ss) ts on x y = absurd x
all_go_on [] (n ∷ ns) ss ts on x y = absurd on
all_go_on (o ∷ os) [] ss ts on x y = absurd on
all_go_on (o ∷ os) (n ∷ ns) [] ts on x y = absurd x
all_go_on (o ∷ os) (n ∷ ns) (s ∷ ss) [] on x y = absurd y
all_go_on (o ∷ os) (n ∷ ns) (s ∷ ss) (t ∷ ts) on x y = (goes_on o n s t on.0 x.0 y.0, all_go_on os ns ss ts on.1 x.1 y.1)

-- what can be taken begins what can be taken once more was handed out; and where it was known that
-- no more comes, it is the same
module _ (olds news : List Handed) (on : AllZip HandsOn olds news) (xs ys : List Arrival) (a b : Turn) (before : Arrives olds xs a) (after : Arrives news ys b) where
  continue_all : ContinueAll before.streams after.streams
  continue_all = all_go_on olds news before.streams after.streams on before.shown after.shown

  pub Arrives-later : (more : List Arrival) × (ys ≡ xs ++ more)
  Arrives-later =
      let (later, front, others) = Takes-later before.streams after.streams continue_all xs before.all.now before.all.takes in
      let (more, same, end) = Takes-front after.streams xs later ys b front after.all in
      (more, same)

  pub Arrives-known : (a ≡ Unshown → ⊥) → (ys ≡ xs) × (b ≡ a)
  Arrives-known known =
      let (later, front, others) = Takes-later before.streams after.streams continue_all xs before.all.now before.all.takes in
      let same : turn later ≡ a = turn-later before.all.now later others (λ un. known (sym before.all.last_is ∙ un)) ∙ before.all.last_is in
      TakesAll-unique after.streams ys b xs a after.all (record { now = later; takes = front; stops = before.all.stops; last_is = same })

-- captures of which it is known how they end
abbrev EndAll : List Stream → Type 0
EndAll [] = Unit {0}
EndAll (s ∷ ss) = (s.ending ≡ None → ⊥) × EndAll ss

end_due : (records : List Taken) (ending : Option Ending) → (ending ≡ None → ⊥) → due_by records ending ≡ More → ⊥
end_due (e ∷ es) ending known due = absurd (cc)
end_due [] None known due = known refl
end_due [] (Some Whole) known due = absurd (cc)
end_due [] (Some (Faulty at fault)) known due = absurd (cc)

end_shown : (streams : List Stream) (k : ℕ) → EndAll streams → slice_get (map due_of streams) k ≡ Some More → ⊥
end_shown [] k end due = none-some More due
end_shown (s ∷ ss) zero end due = end_due s.records s.ending end.0 (same_Some (due_of s) More due)
end_shown (s ∷ ss) (suc k) end due = end_shown ss k end.1 due

end_turn : (streams : List Stream) → EndAll streams → turn streams ≡ Unshown → ⊥
end_turn streams end un =
    let says : IsTurn (map due_of streams) Unshown = subst (IsTurn (map due_of streams)) un (turn_says (map due_of streams)) in
    end_shown streams says.0 end says.1

end_passed : (streams : List Stream) (place : ℕ) → EndAll streams → EndAll (without_first streams place)
end_passed [] place end = tt
end_passed (s ∷ ss) zero end = end
end_passed (s ∷ ss) (suc place) end = (end.0, end_passed ss place end.1)

end_rest : (streams : List Stream) (t : Turn) → EndAll streams → EndAll (rest_by streams t)
end_rest streams (Next place time) end = end_passed streams place end
end_rest streams Over end = end
end_rest streams (Broken place at fault) end = end
end_rest streams Unshown end = end

end_taken : (streams : List Stream) (taken : List Arrival) (now : List Stream) → Takes streams taken now → EndAll streams → EndAll now
end_taken streams [] now here end = subst EndAll here end
end_taken streams (x ∷ xs) now takes end = end_taken (rest streams) xs now takes.2 (end_rest streams (turn streams) end)

known_end : (ended : Bool) (ending : Ending) → ended ≡ true → known_ending ended ending ≡ None → ⊥
known_end true ending is none = absurd (cc)
known_end false ending is none = false≢true is

end_all : (captures : List Handed) (streams : List Stream) → AreEnded captures → AllZip IsStream captures streams → EndAll streams
end_all [] [] ended shown = tt
end_all [] (s ∷ ss) ended shown = absurd shown
end_all (c ∷ cs) [] ended shown = absurd shown
end_all (c ∷ cs) (s ∷ ss) ended shown =
    let first : c.ended ≡ true = ended 0 c (omega arith) in
    (λ none. known_end c.ended shown.0.ending first (sym shown.0.known_is ∙ none), end_all cs ss (λ k d below. ended (suc k) d (omega arith)) shown.1)

-- of captures that have ended it is known what becomes of each
pub Arrives-ended : (captures : List Handed) (taken : List Arrival) (last : Turn) → AreEnded captures → Arrives captures taken last → last ≡ Unshown → ⊥
Arrives-ended captures taken last ended arrives un =
    end_turn arrives.all.now (end_taken arrives.streams taken arrives.all.now arrives.all.takes (end_all captures arrives.streams ended arrives.shown)) (arrives.all.last_is ∙ un)

-- what the reader of each capture has to say, once these were taken of all: those of this capture were
-- taken, and what is left of it is left
shown_at : (captures : List Handed) (streams : List Stream) (k : ℕ) (c : Handed) → AllZip IsStream captures streams → slice_get captures k ≡ Some c
    → (s : Stream) × (slice_get streams k ≡ Some s) × IsStream c s
shown_at [] streams k c shown is = absurd (none-some c is)
shown_at (x ∷ xs) [] k c shown is = absurd shown
shown_at (x ∷ xs) (s ∷ ss) zero c shown is = (s, refl, subst (λ h. IsStream h s) (same_Some x c is) shown.0)
shown_at (x ∷ xs) (s ∷ ss) (suc k) c shown is = shown_at xs ss k c shown.1 is

pub Takes-streams : (captures : List Handed) (streams : List Stream) (taken : List Arrival) (now : List Stream) → AllZip IsStream captures streams → Takes streams taken now
    → (k : ℕ) (c : Handed) (t : Stream) → slice_get captures k ≡ Some c → slice_get now k ≡ Some t → Streams c.octets c.ended (of_capture k taken) t
Takes-streams captures streams taken now shown takes k c t is there =
    let (s, at, shows) = shown_at captures streams k c shown is in
    let (left, here, parts, ending) = Takes-of k streams taken now takes s at in
    let same : left ≡ t = same_Some left t (sym here ∙ there) in
    let Q : List Taken → Type 0 = λ es. ShowsSo c.octets c.ended es s.ending in
    let R : Option Ending → Type 0 = λ e. ShowsSo c.octets c.ended (of_capture k taken ++ left.records) e in
    let kept : Streams c.octets c.ended (of_capture k taken) left = subst R (sym ending) (subst Q parts shows) in
    subst (Streams c.octets c.ended (of_capture k taken)) same kept

-- more was handed out, and what was taken is taken all the same
pub Takes-handed : (olds news : List Handed) (streams : List Stream) (taken : List Arrival) (now : List Stream)
    → AllZip HandsOn olds news → AllZip IsStream olds streams → Takes streams taken now
    → (longer : List Stream) × (later : List Stream) × AllZip IsStream news longer × Takes longer taken later × ContinueAll now later
Takes-handed olds news streams taken now on shown takes =
    let (longer, shows) = streams_total news in
    let (later, front, others) = Takes-later streams longer (all_go_on olds news streams longer on shown shows) taken now takes in
    (longer, later, shows, front, others)
