-- Laws of elements that stand one behind the other in the used words.
use Rattle.std.proofs.Common.{◌≡◌, ℕ, zero, suc, ◌+◌, ◌*◌, ◌-◌, ◌%◌, ◌<◌, ◌≤◌, Bool, true, false, cond, List, [], ◌∷◌, ◌++◌, length, take, drop, get_or, reverse, arith, refl, sym, ap, ◌∙◌, subst, Option, Some, None}
use Rattle.std.proofs.lemmas.List.{reverse-append, reverse-reverse, get_or-take, length-take-le, drop-take, take-take}
use Rattle.std.proofs.lemmas.Bool.{false_from_ne_true}
use Rattle.std.proofs.lemmas.Bool.Decides.{nat_tests}
use Rattle.ioam_base.proofs.LeadsLaws.{Leads-push}
use Rattle.ioam_data.specs.Kind.{has}
use Rattle.ioam_data.specs.Elements.{size_at, Stands}
use Rattle.ioam_trace.specs.Area.{behind, element_at, Runs, Holds, Stops, IsLast, stands, run_from, end_from, elements_of, end_of}

-- the last place and size so far, where the elements were followed up to a place
abbrev pub Follows : ℕ → ℕ → List ℕ → Option (ℕ × ℕ) → ℕ → Type 0
Follows kind node_len used None at = at ≡ 0
Follows kind node_len used (Some last) at = IsLast kind node_len used last.0 last.1 × (at ≡ last.0 + last.1)

-- a part that lies in the front is the same part of the front
part_of_front : (xs : List ℕ) (at size to : ℕ) → at + size ≤ to → take size (drop at (take to xs)) ≡ take size (drop at xs)
part_of_front xs at size to within =
    let rest = to - at in
    let split : to ≡ at + rest = omega arith in
    let shorter : size ≤ rest = omega arith in
    ap (λ n. take size (drop at (take n xs))) split ∙ ap (take size) (drop-take at rest xs) ∙ take-take size rest (drop at xs) shorter

module _ (kind node_len : ℕ) (used : List ℕ) where
  -- the test is true exactly where an element begins
  pub stands_true : (at : ℕ) → Stands kind node_len used at → stands kind node_len used at ≡ true
  stands_true at here = grind (arith, nat_tests, here.room, here.filled, here.inside)

  pub stands_is : (at : ℕ) → stands kind node_len used at ≡ true → Stands kind node_len used at
  stands_is at test = record {
    room = grind (arith, nat_tests);
    filled = grind (arith, nat_tests);
    inside = grind (arith, nat_tests);
  }

  pub stands_false : (at : ℕ) → ¬ Stands kind node_len used at → stands kind node_len used at ≡ false
  stands_false at not_here = false_from_ne_true _ (λ test. not_here (stands_is at test))

  -- elements end behind where they begin
  pub Runs-grows : (from : ℕ) (xs : List (List ℕ)) (to : ℕ) → Runs kind node_len used from xs to → from ≤ to
  Runs-grows from [] to runs = omega (arith, runs)
  Runs-grows from (x ∷ xs) to runs = omega (arith, Runs-grows (behind kind node_len used from) xs to runs.2)

  -- elements are whole words
  pub size_at-in_words : (at : ℕ) → size_at kind node_len used at % 4 ≡ 0
  size_at-in_words at = words_either (has kind 22) (get_or used (at + 4 * node_len) 0)
    where
      words_either : (b : Bool) (data_words : ℕ) → (4 * node_len + cond b (4 + 4 * data_words) 0) % 4 ≡ 0
      words_either true data_words = omega arith
      words_either false data_words = omega arith

  pub Runs-in_words : (from : ℕ) (xs : List (List ℕ)) (to : ℕ) → Runs kind node_len used from xs to → from % 4 ≡ 0 → to % 4 ≡ 0
  Runs-in_words from [] to runs here = omega (arith, runs)
  Runs-in_words from (x ∷ xs) to runs here =
      Runs-in_words (behind kind node_len used from) xs to runs.2 (omega (arith, size_at-in_words from))

  -- the function gives the list of the relation
  pub run_from-is : (fuel from : ℕ) (xs : List (List ℕ)) (to : ℕ) → Runs kind node_len used from xs to
      → (¬ Stands kind node_len used to) → length used ≤ from + fuel → run_from fuel kind node_len used from ≡ xs
  unfolding run_from
  run_from-is zero from [] to runs ends enough = refl
  run_from-is zero from (x ∷ xs) to runs ends enough = absurd (omega (arith, runs.0.filled, runs.0.inside))
  run_from-is (suc fuel) from [] to runs ends enough =
      let P : ℕ → Type 0 = λ n. Stands kind node_len used n in
      rw (stands_false from (λ here. ends (subst P runs here))) refl
  run_from-is (suc fuel) from (x ∷ xs) to runs ends enough =
      let rest = run_from-is fuel (behind kind node_len used from) xs to runs.2 ends (omega (arith, runs.0.filled)) in
      rw (stands_true from runs.0) (cc)

  -- and the place where they end
  pub end_from-is : (fuel from : ℕ) (xs : List (List ℕ)) (to : ℕ) → Runs kind node_len used from xs to
      → (¬ Stands kind node_len used to) → length used ≤ from + fuel → end_from fuel kind node_len used from ≡ to
  unfolding end_from
  end_from-is zero from [] to runs ends enough = runs
  end_from-is zero from (x ∷ xs) to runs ends enough = absurd (omega (arith, runs.0.filled, runs.0.inside))
  end_from-is (suc fuel) from [] to runs ends enough =
      let P : ℕ → Type 0 = λ n. Stands kind node_len used n in
      rw (stands_false from (λ here. ends (subst P runs here))) runs
  end_from-is (suc fuel) from (x ∷ xs) to runs ends enough =
      let rest = end_from-is fuel (behind kind node_len used from) xs to runs.2 ends (omega (arith, runs.0.filled)) in
      rw (stands_true from runs.0) rest

  -- where elements stop, the functions tell which they are and where
  pub end_of-Stops : (at : ℕ) → Stops kind node_len used at → end_of kind node_len used ≡ at
  end_of-Stops at stops = end_from-is (length used) 0 stops.elements at stops.runs stops.ends (omega arith)

  pub run_from-Stops : (at : ℕ) (stops : Stops kind node_len used at) → run_from (length used) kind node_len used 0 ≡ stops.elements
  run_from-Stops at stops = run_from-is (length used) 0 stops.elements at stops.runs stops.ends (omega arith)

  -- nothing stands at the end
  pub ends_at_length : (at : ℕ) → length used ≤ at → ¬ Stands kind node_len used at
  ends_at_length at past here = omega (arith, here.filled, here.inside)

  -- used words that are elements throughout hold those that the function gives, and no others
  pub Holds-elements_of : Stops kind node_len used (length used) → Holds kind node_len used (elements_of kind node_len used)
  Holds-elements_of stops =
      let e : reverse (elements_of kind node_len used) ≡ stops.elements = reverse-reverse _ ∙ run_from-Stops (length used) stops in
      let P : List (List ℕ) → Type 0 = λ xs. Runs kind node_len used 0 xs (length used) in
      subst P (sym e) stops.runs

  pub elements_of-Holds : (es : List (List ℕ)) → Holds kind node_len used es → elements_of kind node_len used ≡ es
  elements_of-Holds es holds =
      ap reverse (run_from-is (length used) 0 (reverse es) (length used) holds (ends_at_length (length used) (omega arith)) (omega arith)) ∙ reverse-reverse es

  pub end_of-Holds : (es : List (List ℕ)) → Holds kind node_len used es → end_of kind node_len used ≡ length used
  end_of-Holds es holds =
      end_from-is (length used) 0 (reverse es) (length used) holds (ends_at_length (length used) (omega arith)) (omega arith)

  -- ---- the front of the used words

  -- where an element ends in the front, it has the same size there
  pub size_at-take : (at to : ℕ) → at + size_at kind node_len used at ≤ to → size_at kind node_len (take to used) at ≡ size_at kind node_len used at
  size_at-take at to within = size_of_same (has kind 22) at to within
    where
      size_of_same : (b : Bool) (at to : ℕ) → at + (4 * node_len + cond b (4 + 4 * get_or used (at + 4 * node_len) 0) 0) ≤ to
          → 4 * node_len + cond b (4 + 4 * get_or (take to used) (at + 4 * node_len) 0) 0 ≡ 4 * node_len + cond b (4 + 4 * get_or used (at + 4 * node_len) 0) 0
      size_of_same true at to within =
          let before : at + 4 * node_len < to = omega arith in
          rw get_or-take refl
      size_of_same false at to within = refl

  pub Stands-take : (at to : ℕ) → Stands kind node_len used at → behind kind node_len used at ≤ to → to ≤ length used
      → Stands kind node_len (take to used) at
  Stands-take at to here within inside =
      let same = size_at-take at to within in
      let size = length-take-le to used inside in
      record {
        room = here.room;
        filled = omega (arith, here.filled);
        inside = omega (arith, here.inside);
      }

  pub element_at-take : (at to : ℕ) → behind kind node_len used at ≤ to → element_at kind node_len (take to used) at ≡ element_at kind node_len used at
  element_at-take at to within =
      let same = size_at-take at to within in
      let size = size_at kind node_len used at in
      let length_is : at + size_at kind node_len (take to used) at - at ≡ size = omega arith in
      let length_was : at + size - at ≡ size = omega arith in
      ap (λ n. take n (drop at (take to used))) length_is ∙ part_of_front used at size to within ∙ sym (ap (λ n. take n (drop at used)) length_was)

  -- elements up to a place are elements of the front up to there
  pub Runs-take : (from : ℕ) (xs : List (List ℕ)) (to : ℕ) → Runs kind node_len used from xs to → to ≤ length used
      → Runs kind node_len (take to used) from xs to
  Runs-take from [] to runs inside = runs
  Runs-take from (x ∷ xs) to runs inside =
      let within : behind kind node_len used from ≤ to = Runs-grows (behind kind node_len used from) xs to runs.2 in
      let P : ℕ → Type 0 = λ place. Runs kind node_len (take to used) place xs to in (
        Stands-take from to runs.0 within inside,
        runs.1 ∙ sym (element_at-take from to within),
        subst P (ap (λ size. from + size) (sym (size_at-take from to within))) (Runs-take (behind kind node_len used from) xs to runs.2 inside),
      )

  -- ---- one element more

  pub Runs-push : (from : ℕ) (xs : List (List ℕ)) (at size : ℕ) → Runs kind node_len used from xs at → Stands kind node_len used at
      → size ≡ size_at kind node_len used at → Runs kind node_len used from (xs ++ element_at kind node_len used at ∷ []) (at + size)
  Runs-push from xs at size runs here is_size =
      let P : ℕ → Type 0 = λ n. Runs kind node_len used from (xs ++ element_at kind node_len used at ∷ []) (at + n) in
      subst P (sym is_size)
      (Leads-push (Stands kind node_len used) (element_at kind node_len used) (behind kind node_len used) from xs at runs here)

  -- the last element so far was followed up to a place, and the next stands there
  pub IsLast-Follows : (last : Option (ℕ × ℕ)) (at size : ℕ) → Follows kind node_len used last at → Stands kind node_len used at
      → size ≡ size_at kind node_len used at → IsLast kind node_len used at size
  IsLast-Follows None at size follows here is_size = record { elements = []; runs = sym follows; here = here; is_size = is_size }
  IsLast-Follows (Some last) at size follows here is_size =
      let before = follows.0 in
      let more = before.elements ++ element_at kind node_len used last.0 ∷ [] in
      let P : ℕ → Type 0 = λ n. Runs kind node_len used 0 more n in
      record {
        elements = more;
        runs = subst P (sym follows.1) (Runs-push 0 before.elements last.0 last.1 before.runs before.here before.is_size);
        here = here;
        is_size = is_size;
      }

module _ (kind node_len : ℕ) (used : List ℕ) where
  -- what stands up to a place are the elements of the front up to there
  elements_of-front : (xs : List (List ℕ)) (at : ℕ) → Runs kind node_len used 0 xs at → at ≤ length used → elements_of kind node_len (take at used) ≡ reverse xs
  elements_of-front xs at runs inside =
      let size = length-take-le at used inside in
      ap reverse (run_from-is kind node_len (take at used) (length (take at used)) 0 xs at (Runs-take kind node_len used 0 xs at runs inside)
      (λ here. omega (arith, here.filled, here.inside)) (omega arith))

  -- the elements are the last, and those of the front up to it
  pub elements_of-last : (at size : ℕ) → IsLast kind node_len used at size → (¬ Stands kind node_len used (at + size))
      → elements_of kind node_len used ≡ take (at + size - at) (drop at used) ∷ elements_of kind node_len (take at used)
  elements_of-last at size last ends =
      let xs = last.elements in
      let all = run_from-is kind node_len used (length used) 0 (xs ++ element_at kind node_len used at ∷ []) (at + size) (Runs-push kind node_len used 0 xs at size last.runs last.here last.is_size) ends (omega arith) in
      let inside : at ≤ length used = omega (arith, last.here.inside) in
      let front = elements_of-front xs at last.runs inside in
      let same_end : at + size_at kind node_len used at - at ≡ at + size - at = omega (arith, last.is_size) in
      let same_element = ap (λ n. take n (drop at used)) same_end in
      ap reverse all ∙ reverse-append xs (element_at kind node_len used at ∷ []) ∙ (cc)

  pub elements_of-none : (¬ Stands kind node_len used 0) → elements_of kind node_len used ≡ []
  elements_of-none ends = ap reverse (run_from-is kind node_len used (length used) 0 [] 0 refl ends (omega arith))
