-- What each file of a run holds, from what all of them hold in their order.
use Rattle.std.proofs.Common.{◌≡◌, ℕ, zero, suc, ◌+◌, Bool, IsSomeAnd, IsTrue, List, [], ◌∷◌, ◌++◌, length, Option, Some, None, sym, ◌∙◌, ap, subst, arith}
use Rattle.std.specs.Prelude.{map, slice_get}
use Rattle.std.specs.List.{flat_map}
use Rattle.std.proofs.lemmas.Option.{none-some, same_Some}
use Rattle.ioam_base.specs.Octets.{IsFront}
use Rattle.ioam_desk.specs.Desk.{Reading, Writing, holds}
use Rattle.std.specs.Prelude.{All}
use Rattle.std.proofs.lemmas.List.Elements.{All-cons, All-nil}
use Rattle.ioam_clock.specs.declared.sample.Sample.{Sample}
use Rattle.ioam_run_traffic.specs.Fate.{Fate, Frame, AreFatesFrom}
use Rattle.ioam_run_traffic.specs.Clean.{MayLeave}
use Rattle.ioam_run_traffic.specs.Text.{IsCaptureOf}
use Rattle.ioam_run_traffic.proofs.CleanLaws.{outs-clean}
use Rattle.ioam_run_traffic.proofs.OutLaws.{one-leaves}
use Rattle.ioam_run_traffic.specs.Itinerary.{Itinerary}
use Rattle.ioam_topo.specs.declared.domain.Domain.{Domain}
use Rattle.ioam_run_domain.specs.Left.{LeavesOnce}
use Rattle.ioam_run_traffic.specs.Texts.{out_text, tap_text, report_text, exports_text, texts_of}
use Rattle.ioam_run_files.specs.Outlets.{each_from, tap_at, tapped_from, tapped}
use Rattle.ioam_desk_outputs.specs.Held.{HoldFronts, HoldsFront, HoldTexts}
use Rattle.ioam_run_traffic.specs.Merge.{Arrival}
use Rattle.ioam_run_files.specs.Names.{tap_name}
use Rattle.ioam_topo.specs.Domain.{links, ports}
use Rattle.ioam_topo.specs.declared.ids.LinkId.{LinkId}
use Rattle.ioam_topo.specs.declared.parts.Link.{Link}
use Rattle.ioam_topo.specs.declared.parts.Port.{Port}
use Rattle.ioam_run_traffic.specs.Traffic.{Course, HoldsAll, HoldsFronts, frames_of}
use Rattle.ioam_run_domain.specs.Promise.{RunNames, HoldsCleanFronts, HoldsFiles, run_outputs}

-- what becomes of arrivals leaves once
all-leave : (domain : Domain) (readings : List (List Sample)) (earlier : List Itinerary) (frames : List Frame) (fates : List Fate)
    → AreFatesFrom domain readings earlier frames fates → All LeavesOnce fates
all-leave domain readings earlier [] [] are = All-nil LeavesOnce
all-leave domain readings earlier [] (fate ∷ fates) are = absurd are
all-leave domain readings earlier (frame ∷ frames) [] are = absurd are
all-leave domain readings earlier (frame ∷ frames) (fate ∷ fates) are =
    All-cons LeavesOnce fate fates (λ port ends. one-leaves domain readings earlier frame fate port are.0 ends)
    (all-leave domain readings (earlier ++ fate.itinerary ∷ []) frames fates are.1)

-- the capture of the port at a place holds the text of that place
held_at : (new : Writing) (all : List Port) (from : ℕ) (f : ℕ → List ℕ) (names texts : List (List ℕ))
    → HoldTexts new (map (λ (port : Port). port.output) all ++ names) (each_from (length all) from f ++ texts)
    → (place : ℕ) (port : Port) → slice_get all place ≡ Some port → holds new port.output ≡ Some (f (from + place))
held_at new [] from f names texts held place port is = absurd (none-some port is)
held_at new (p ∷ all) from f names texts held zero port is =
    ap (λ (q : Port). holds new q.output) (sym (same_Some p port is)) ∙ held.0 ∙ ap (λ (k : ℕ). Some (f k)) (omega arith)
held_at new (p ∷ all) from f names texts held (suc place) port is =
    held_at new all (suc from) f names texts held.1 place port is ∙ ap (λ (k : ℕ). Some (f k)) (omega arith)

-- and the files behind those of the ports their texts
held_behind : (new : Writing) (all : List Port) (from : ℕ) (f : ℕ → List ℕ) (names texts : List (List ℕ))
    → HoldTexts new (map (λ (port : Port). port.output) all ++ names) (each_from (length all) from f ++ texts) → HoldTexts new names texts
held_behind new [] from f names texts held = held
held_behind new (p ∷ all) from f names texts held = held_behind new all (suc from) f names texts held.1

module _ (new : Writing) (g : ℕ → List ℕ) where
  -- the text of a tap
  abbrev tap : LinkId → List ℕ
  tap link = g link.0

  -- the capture of the tap of a link, if it has one, holds the text of the link's place
  one_tap : (from : ℕ) (has : Option (List ℕ)) (ids : List LinkId) (others names texts : List (List ℕ))
      → HoldTexts new ((tap_name has ++ others) ++ names) (map tap (tap_at from has ++ ids) ++ texts)
      → (name : List ℕ) → has ≡ Some name → holds new name ≡ Some (g from)
  one_tap from None ids others names texts held name is = absurd (none-some name is)
  one_tap from (Some own) ids others names texts held name is = ap (holds new) (sym (same_Some own name is)) ∙ held.0

  -- and the files behind it their texts
  one_behind : (from : ℕ) (has : Option (List ℕ)) (ids : List LinkId) (others names texts : List (List ℕ))
      → HoldTexts new ((tap_name has ++ others) ++ names) (map tap (tap_at from has ++ ids) ++ texts)
      → HoldTexts new (others ++ names) (map tap ids ++ texts)
  one_behind from None ids others names texts held = held
  one_behind from (Some own) ids others names texts held = held.1

  -- the capture of the tap of the link at a place holds the text of that place
  tap_held : (all : List Link) (from : ℕ) (names texts : List (List ℕ))
      → HoldTexts new (flat_map (λ (link : Link). tap_name link.tap) all ++ names) (map tap (tapped_from from all) ++ texts)
      → (place : ℕ) (link : Link) (name : List ℕ) → slice_get all place ≡ Some link → link.tap ≡ Some name → holds new name ≡ Some (g (from + place))
  tap_held [] from names texts held place link name is has = absurd (none-some link is)
  tap_held (l ∷ all) from names texts held zero link name is has =
      one_tap from l.tap (tapped_from (suc from) all) (flat_map (λ (link : Link). tap_name link.tap) all) names texts held name
      (ap (λ (m : Link). m.tap) (same_Some l link is) ∙ has) ∙ ap (λ (k : ℕ). Some (g k)) (omega arith)
  tap_held (l ∷ all) from names texts held (suc place) link name is has =
      tap_held all (suc from) names texts
      (one_behind from l.tap (tapped_from (suc from) all) (flat_map (λ (link : Link). tap_name link.tap) all) names texts held) place link name is has
      ∙ ap (λ (k : ℕ). Some (g k)) (omega arith)

  -- and the files behind those of the taps their texts
  taps_behind : (all : List Link) (from : ℕ) (names texts : List (List ℕ))
      → HoldTexts new (flat_map (λ (link : Link). tap_name link.tap) all ++ names) (map tap (tapped_from from all) ++ texts) → HoldTexts new names texts
  taps_behind [] from names texts held = held
  taps_behind (l ∷ all) from names texts held = taps_behind all (suc from) names texts
      (one_behind from l.tap (tapped_from (suc from) all) (flat_map (λ (link : Link). tap_name link.tap) all) names texts held)

from_none : (place : ℕ) → 0 + place ≡ place
from_none place = omega arith

module _ (files : RunNames) (course : Course) (fates : List Fate) where
  -- those of the files
  abbrev last_names : List (List ℕ)
  last_names = files.report ∷ files.exports ∷ []

  abbrev last_texts : List (List ℕ)
  last_texts = report_text course.domain course.readings fates ∷ exports_text course.domain course.readings fates ∷ []

  -- those of the taps, and these behind them
  abbrev tap_names : List (List ℕ)
  tap_names = flat_map (λ (link : Link). tap_name link.tap) (links course.domain) ++ last_names

  abbrev tap_texts : List (List ℕ)
  tap_texts = map (λ (link : LinkId). tap_text course.domain course.readings link.0 fates) (tapped (links course.domain)) ++ last_texts

module _ (opens : Bool) (files : RunNames) (old_in new_in : Reading) (old new : Writing) (course : Course) (Are : List Arrival → Type 0)
    (names : course.names ≡ run_outputs files course.domain) (all : HoldsAll course Are new) where
  in_order : IsTrue course.opens → HoldTexts new (run_outputs files course.domain) (texts_of course.domain course.readings all.fates)
  in_order gate = subst (λ (ns : List (List ℕ)). HoldTexts new ns (texts_of course.domain course.readings all.fates)) names (all.held gate)

  behind_ports : IsTrue course.opens → HoldTexts new (tap_names files course all.fates) (tap_texts files course all.fates)
  behind_ports gate = held_behind new (ports course.domain) 0 (λ k. out_text k all.fates) (tap_names files course all.fates) (tap_texts files course all.fates) (in_order gate)

  behind : IsTrue course.opens → HoldTexts new (last_names files course all.fates) (last_texts files course all.fates)
  behind gate = taps_behind new (λ k. tap_text course.domain course.readings k all.fates) (links course.domain) 0 (last_names files course all.fates) (last_texts files course all.fates) (behind_ports gate)

  pub files_held : HoldsFiles opens files old_in new_in old new course Are
  files_held = record {
    taken = all.taken;
    fates = all.fates;
    are = all.are;
    few = all.few;
    timely = all.timely;
    become = all.become;
    only = all.only;
    leave = all-leave course.domain course.readings [] (frames_of course.ports all.taken) all.fates all.become;
    outs = λ gate place port is. held_at new (ports course.domain) 0 (λ k. out_text k all.fates) (tap_names files course all.fates) (tap_texts files course all.fates) (in_order gate) place port is
        ∙ ap (λ (k : ℕ). Some (out_text k all.fates)) (from_none place);
    taps = λ gate place link name is has. tap_held new (λ k. tap_text course.domain course.readings k all.fates) (links course.domain) 0 (last_names files course all.fates) (last_texts files course all.fates)
        (behind_ports gate) place link name is has
        ∙ ap (λ (k : ℕ). Some (tap_text course.domain course.readings k all.fates)) (from_none place);
    report = λ gate. (behind gate).0;
    exports = λ gate. (behind gate).1.0;
  }

-- ---- fronts

-- the capture of the port at a place, where it was opened, holds a front of the text of that place; the first is the k-th that was opened
front_at : (old new : Writing) (all : List Port) (k from : ℕ) (f : ℕ → List ℕ) (names texts : List (List ℕ))
    → HoldFronts old new k (map (λ (port : Port). port.output) all ++ names) (each_from (length all) from f ++ texts)
    → (place : ℕ) (port : Port) → slice_get all place ≡ Some port → HoldsFront old new (k + place) port.output (f (from + place))
front_at old new [] k from f names texts held place port is = absurd (none-some port is)
front_at old new (p ∷ all) k from f names texts held zero port is = λ opened.
    let P : Port → Type 0 = λ q. IsSomeAnd (holds new q.output) (λ part. IsFront part (f from)) in
    let Q : ℕ → Type 0 = λ n. IsSomeAnd (holds new port.output) (λ part. IsFront part (f n)) in
    let at : from ≡ from + 0 = omega arith in
    subst Q at (subst P (same_Some p port is) (held.0 (omega (arith, opened))))
front_at old new (p ∷ all) k from f names texts held (suc place) port is = λ opened.
    let Q : ℕ → Type 0 = λ n. IsSomeAnd (holds new port.output) (λ part. IsFront part (f n)) in
    let at : suc from + place ≡ from + suc place = omega arith in
    subst Q at (front_at old new all (k + 1) (suc from) f names texts held.1 place port is (omega (arith, opened)))

-- what is a front of a text that is such a capture is a front of one
front_clean : (content : Option (List ℕ)) (text : List ℕ) → IsCaptureOf MayLeave text → IsSomeAnd content (λ part. IsFront part text)
    → IsSomeAnd content (λ part. (whole : List ℕ) × IsFront part whole × IsCaptureOf MayLeave whole)
front_clean None text clean held = absurd held
front_clean (Some part) text clean held = (text, held, clean)

module _ (files : RunNames) (old new : Writing) (course : Course) (names : course.names ≡ run_outputs files course.domain) (fronts : HoldsFronts course old new) where
  fronts_in_order : IsTrue course.opens → HoldFronts old new 0 (run_outputs files course.domain) (texts_of course.domain course.readings fronts.fates)
  fronts_in_order gate = subst (λ (ns : List (List ℕ)). HoldFronts old new 0 ns (texts_of course.domain course.readings fronts.fates)) names (fronts.held gate)

  port_front : IsTrue course.opens → (place : ℕ) (port : Port) → slice_get (ports course.domain) place ≡ Some port
      → HoldsFront old new (0 + place) port.output (out_text (0 + place) fronts.fates)
  port_front gate place port is = front_at old new (ports course.domain) 0 0 (λ k. out_text k fronts.fates) (tap_names files course fronts.fates)
      (tap_texts files course fronts.fates) (fronts_in_order gate) place port is

  pub fronts_held : HoldsCleanFronts course old new
  fronts_held = record {
    fronts = fronts;
    leave = all-leave course.domain course.readings [] (frames_of course.ports fronts.taken) fronts.fates fronts.become;
    clean = λ gate place port is opened. front_clean (holds new port.output) (out_text (0 + place) fronts.fates)
        (outs-clean course.domain course.readings (frames_of course.ports fronts.taken) fronts.fates fronts.become (0 + place))
        (port_front gate place port is (omega (arith, opened)));
  }
