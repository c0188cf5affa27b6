-- What the loop over the lines gives is what the file says.
use Rattle.std.proofs.Common.{◌≡◌, inl, inr, ⊎_elim, ℕ, ◌+◌, ◌<◌, ◌≤◌, Bool, true, false, nat_lt, nat_eq, ◌==◌, cond, List, [], ◌∷◌, ◌++◌, length, take, replicate, position, slice_index_or, slice_set, Some, None, Result, Ok, Err, arith, refl, ap, sym, subst, ◌∙◌, append_assoc, length-append}
use Rattle.std.specs.List.{All, position_or_len}
use Rattle.std.specs.Str.{bytes_eq, is_utf8}
use Rattle.std.proofs.lemmas.Bool.{cases_eq}
use Rattle.std.proofs.lemmas.Bool.Decides.{nat_tests}
use Rattle.std.proofs.lemmas.List.{append-nil, length_push, length-set, length-replicate, get_or-replicate, get_or_append_left, get_or_push, get_or-set_same, get_or-set_other, take_at, take-append-le}
use Rattle.std.proofs.lemmas.List.Elements.{All-replicate, All-set}
use Rattle.std.proofs.Math.Seq.{get_or-append_seam}
use Rattle.ioam_clock.specs.declared.fault.ReadWhy.{ReadWhy}
use Rattle.ioam_clock.specs.declared.fault.ReadWhy.TheVariants.{Long, Node, Order}
use Rattle.ioam_clock.specs.declared.fault.ReadingsFault.{ReadingsFault}
use Rattle.ioam_clock.specs.declared.fault.ReadingsRefused.{ReadingsRefused}
use Rattle.ioam_clock.specs.declared.fault.ReadingsRefused.TheVariants.{Fault, NoMemory}
use Rattle.ioam_clock.specs.declared.sample.Sample.{Sample}
use Rattle.ioam_clock.specs.Lines.{Line, words_of, lines}
use Rattle.ioam_clock.specs.Numbers.{◌▷◌}
use Rattle.ioam_clock.specs.Samples.{follows, Rise}
use Rattle.ioam_clock.specs.Reading.{placed, node_of, sample_of, samples_of, added, said, line_added, lines_added, readings_of, IsReading}
use Rattle.ioam_clock.specs.File.{line_says, of_node, samples_in, IsLine, AreLines, IsWrong, IsFirstWrong, IsFileRead}
use Rattle.ioam_clock.proofs.TrackLaws.{Rise-push}

-- a place that is there is one of the names'
placed_below : (names word : List (List ℕ)) (k n node : ℕ) (b : Bool) → nat_lt k n ≡ b → placed (cond b (Some k) None) ≡ Ok node → node < n
placed_below names word k n node true lt is = let same : k ≡ node = cc in grind (arith, nat_tests, lt, same)
placed_below names word k n node false lt is = cc

module _ (names : List (List ℕ)) where
  text_below : (word : List ℕ) (node : ℕ) (b : Bool) → cond b (placed (position (bytes_eq word) names)) (Err Node) ≡ Ok node → node < length names
  text_below word node true is = placed_below names names (position_or_len (bytes_eq word) names) (length names) node
      (nat_lt (position_or_len (bytes_eq word) names) (length names)) refl is
  text_below word node false is = cc

  -- a node that is named is one of them
  node_below : (word : List ℕ) (node : ℕ) → node_of names word ≡ Ok node → node < length names
  node_below word node is = text_below word node (is_utf8 word) is

  -- the samples with a line more
  samples_behind : (node : ℕ) (front : List (List ℕ)) (line : List ℕ) → samples_in names node (front ++ line ∷ []) ≡ samples_in names node front ++ of_node node (line_says names line)
  samples_behind node [] line = append-nil (of_node node (line_says names line))
  samples_behind node (x ∷ xs) line = ap (λ s. of_node node (line_says names x) ++ s) (samples_behind node xs line)
      ∙ sym (append_assoc (of_node node (line_says names x)) (samples_in names node xs) (of_node node (line_says names line)))

  -- a line more that may stand there
  lines_behind : (front : List (List ℕ)) (line : List ℕ) → AreLines names front → IsLine names front line → AreLines names (front ++ line ∷ [])
  lines_behind front line are is k lt =
      let long : length (front ++ line ∷ []) ≡ length front + 1 = length_push front line in
      ⊎_elim
      (λ last. let P : ℕ → Type 0 = λ n. IsLine names (take n (front ++ line ∷ [])) (slice_index_or (front ++ line ∷ []) n []) in
      subst P (sym last) (rw (take_at front (line ∷ []) (length front) refl, get_or_push front line [] (length front) refl) is))
      (λ other. let inside : k < length front = omega arith in
      rw (take-append-le k front (line ∷ []) (omega arith), get_or_append_left front (line ∷ []) [] k inside) (are k inside))
      (cases_eq k (length front))

  -- what is held of the lines so far
  record Held (front : List (List ℕ)) (all : List (List Sample)) : Type 0 where
    count : length all ≡ length names
    samples : (node : ℕ) → node < length names → samples_of all node ≡ samples_in names node front
    rising : All Rise all
    right : AreLines names front

  abbrev Stepped : List (List ℕ) → List ℕ → Result (List (List Sample)) ReadWhy → Type 0
  Stepped front line (Ok next) = Held (front ++ line ∷ []) next
  Stepped front line (Err why) = IsWrong names front line why

  none_says : (line : List ℕ) (node : ℕ) → length line ≡ 0 → of_node node (line_says names line) ≡ []
  none_says [] node none = refl
  none_says (x ∷ xs) node none = cc

  empty_step : (front : List (List ℕ)) (line : List ℕ) (all : List (List Sample)) → Held front all → length line ≡ 0 → Held (front ++ line ∷ []) all
  empty_step front line all held none = record {
    count = held.count;
    samples = λ node lt. held.samples node lt ∙ sym (append-nil (samples_in names node front)) ∙ sym (ap (λ s. samples_in names node front ++ s) (none_says line node none)) ∙ sym (samples_behind node front line);
    rising = held.rising;
    right = lines_behind front line held.right (inl none);
  }

  same_node : (node k : ℕ) (sample : Sample) → k ≡ node → of_node k (Ok (node, sample)) ≡ sample ∷ []
  same_node node k sample is = let on : nat_eq node k ≡ true = grind (arith, nat_tests, is) in rw on refl

  other_node : (node k : ℕ) (sample : Sample) → (k ≡ node → ⊥) → of_node k (Ok (node, sample)) ≡ []
  other_node node k sample off = let no : nat_eq node k ≡ false = grind (arith, nat_tests, off) in rw no refl

  module _ (front : List (List ℕ)) (line : List ℕ) (all : List (List Sample)) (held : Held front all) (node : ℕ) (sample : Sample) (says : line_says names line ≡ Ok (node, sample)) (known : node < length names) where
    said_samples : (k : ℕ) → k < length names → samples_of (slice_set all node (samples_of all node ++ sample ∷ [])) k ≡ samples_in names k (front ++ line ∷ [])
    said_samples k lt = ⊎_elim
        (λ same. ap (samples_of (slice_set all node (samples_of all node ++ sample ∷ []))) same
        ∙ get_or-set_same all node (samples_of all node ++ sample ∷ []) [] (omega (arith, held.count, known))
        ∙ ap (λ s. s ++ sample ∷ []) (held.samples node known)
        ∙ ap (λ s. samples_in names node front ++ s) (sym (same_node node node sample refl))
        ∙ ap (λ r. samples_in names node front ++ of_node node r) (sym says)
        ∙ sym (samples_behind node front line)
        ∙ ap (λ n. samples_in names n (front ++ line ∷ [])) (sym same))
        (λ other. get_or-set_other all node k (samples_of all node ++ sample ∷ []) [] other
        ∙ held.samples k lt
        ∙ sym (append-nil (samples_in names k front))
        ∙ ap (λ s. samples_in names k front ++ s) (sym (other_node node k sample other))
        ∙ ap (λ r. samples_in names k front ++ of_node k r) (sym says)
        ∙ sym (samples_behind k front line))
        (cases_eq k node)

    said_step : follows (samples_of all node) sample ≡ true → Held (front ++ line ∷ []) (slice_set all node (samples_of all node ++ sample ∷ []))
    said_step so = record {
      count = length-set all node (samples_of all node ++ sample ∷ []) ∙ held.count;
      samples = said_samples;
      rising = All-set Rise all node (samples_of all node ++ sample ∷ [])
          (Rise-push (samples_of all node) sample (held.rising node [] (omega (arith, held.count, known))) so) held.rising;
      right = lines_behind front line held.right (inr (node, sample, says, ap (λ s. follows s sample) (sym (held.samples node known)) ∙ so));
    }

    adds_step : 0 < length line → (b : Bool) → follows (samples_of all node) sample ≡ b → (r : Result (List (List Sample)) ReadWhy)
        → cond b (Ok (slice_set all node (samples_of all node ++ sample ∷ []))) (Err Order) ≡ r → Stepped front line r
    adds_step some true so r is = subst (Stepped front line) is (said_step so)
    adds_step some false so r is = subst (Stepped front line) is (some, inr (node, sample, says, ap (λ s. follows s sample) (sym (held.samples node known)) ∙ so, refl))

  module _ (front : List (List ℕ)) (line : List ℕ) (all : List (List Sample)) (held : Held front all) (some : 0 < length line) where
    by_sample : (words : Line) (node : ℕ) → words_of line ≡ Ok words → node_of names words.node ≡ Ok node → (s : Result Sample ReadWhy) → sample_of words ≡ s
        → (r : Result (List (List Sample)) ReadWhy) → s ▷ (λ sample. added all node sample) ≡ r → Stepped front line r
    by_sample words node at named (Ok sample) reads r is =
        let says : line_says names line ≡ Ok (node, sample) = rw (at, named, reads) refl in
        adds_step front line all held node sample says (node_below words.node node named) some (follows (samples_of all node) sample) refl r is
    by_sample words node at named (Err why) reads r is = let says : line_says names line ≡ Err why = rw (at, named, reads) refl in
        subst (Stepped front line) is (some, inl says)

    by_node : (words : Line) → words_of line ≡ Ok words → (n : Result ℕ ReadWhy) → node_of names words.node ≡ n
        → (r : Result (List (List Sample)) ReadWhy) → n ▷ (λ node. sample_of words ▷ (λ sample. added all node sample)) ≡ r → Stepped front line r
    by_node words at (Ok node) named r is = by_sample words node at named (sample_of words) refl r is
    by_node words at (Err why) named r is = let says : line_says names line ≡ Err why = rw (at, named) refl in subst (Stepped front line) is (some, inl says)

    by_words : (w : Result Line ReadWhy) → words_of line ≡ w → (r : Result (List (List Sample)) ReadWhy) → w ▷ said names all ≡ r → Stepped front line r
    by_words (Ok words) at r is = by_node words at (node_of names words.node) refl r is
    by_words (Err why) at r is = let says : line_says names line ≡ Err why = rw at refl in subst (Stepped front line) is (some, inl says)

  -- a line of the loop
  line_step : (front : List (List ℕ)) (line : List ℕ) (all : List (List Sample)) → Held front all → (b : Bool) → (length line == 0) ≡ b
      → (r : Result (List (List Sample)) ReadWhy) → cond b (Ok all) (words_of line ▷ said names all) ≡ r → Stepped front line r
  line_step front line all held true none r is = subst (Stepped front line) is (empty_step front line all held (grind (arith, nat_tests, none)))
  line_step front line all held false some r is = by_words front line all held (grind (arith, nat_tests, some)) (words_of line) refl r is

  abbrev Told : List (List ℕ) → Result (List (List Sample)) ReadingsFault → Type 0
  Told whole (Ok all) = Held whole all
  Told whole (Err fault) = IsFirstWrong names whole fault

  wrong_at : (front more : List (List ℕ)) (line : List ℕ) (n : ℕ) (why : ReadWhy) → n ≡ length front + 1 → AreLines names front → IsWrong names front line why
      → IsFirstWrong names (front ++ line ∷ more) (record { line = n; why = why })
  wrong_at front more line n why at right wrong = record {
    place = length front;
    counted = at;
    there = omega (arith, length-append front (line ∷ more));
    front = rw (take_at front (line ∷ more) (length front) refl) right;
    wrong = rw (take_at front (line ∷ more) (length front) refl, get_or-append_seam front line more []) wrong;
  }

  line_told : (front more : List (List ℕ)) (line : List ℕ) (all : List (List Sample)) (n : ℕ) → n ≡ length front + 1 → Held front all
      → (r : Result (List (List Sample)) ReadingsFault) → lines_added names n all (line ∷ more) ≡ r
      → ((next : List (List Sample)) → n + 1 ≡ length (front ++ line ∷ []) + 1 → Held (front ++ line ∷ []) next → lines_added names (n + 1) next more ≡ r → Told ((front ++ line ∷ []) ++ more) r)
      → (s : Result (List (List Sample)) ReadWhy) → line_added names all line ≡ s → Told (front ++ line ∷ more) r
  line_told front more line all n at held r is go (Ok next) read =
      let step : Held (front ++ line ∷ []) next = line_step front line all held (length line == 0) refl (Ok next) read in
      let rest : lines_added names (n + 1) next more ≡ r = rw read at is in
      let count : n + 1 ≡ length (front ++ line ∷ []) + 1 = omega (arith, at, length_push front line) in
      let P : List (List ℕ) → Type 0 = λ w. Told w r in
      subst P (append_assoc front (line ∷ []) more) (go next count step rest)
  line_told front more line all n at held r is go (Err why) read =
      let step : IsWrong names front line why = line_step front line all held (length line == 0) refl (Err why) read in
      let stop : Err (record { line = n; why = why }) ≡ r = rw read at is in
      subst (Told (front ++ line ∷ more)) stop (wrong_at front more line n why at held.right step)

  -- the loop, from some line on
  lines_told : (ls front : List (List ℕ)) (all : List (List Sample)) (n : ℕ) → n ≡ length front + 1 → Held front all
      → (r : Result (List (List Sample)) ReadingsFault) → lines_added names n all ls ≡ r → Told (front ++ ls) r
  lines_told [] front all n at held r is = let P : List (List ℕ) → Type 0 = λ w. Told w (Ok all) in subst (Told (front ++ [])) is (subst P (sym (append-nil front)) held)
  lines_told (line ∷ more) front all n at held r is = line_told front more line all n at held r is
      (λ next count step rest. lines_told more (front ++ line ∷ []) next (n + 1) count step r rest) (line_added names all line) refl

  nothing : Held [] (replicate (length names) [])
  nothing = record {
    count = length-replicate (length names) [];
    samples = λ node lt. get_or-replicate (length names) node [] [] lt;
    rising = All-replicate Rise (length names) [] (λ i j d lt within. absurd (omega arith));
    right = λ k lt. absurd (omega arith);
  }

  told_of : (octets : List ℕ) → length octets ≤ 67108864 → (r : Result (List (List Sample)) ReadingsRefused) (reading : Result (List (List Sample)) ReadingsFault)
      → Told (lines octets) reading → IsReading r reading → IsFileRead names octets r
  told_of octets few (Ok all) reading told is = let held : Held (lines octets) all = subst (Told (lines octets)) is told in
      record { few = few; right = held.right; count = held.count; samples = held.samples; rising = held.rising }
  told_of octets few (Err (Fault fault)) reading told is = inr (record { few = few; first = subst (Told (lines octets)) is told })
  told_of octets few (Err NoMemory) reading told is = tt

  long_of : (octets : List ℕ) → 67108864 < length octets → (r : Result (List (List Sample)) ReadingsRefused) → IsReading r (Err (record { line = 0; why = Long })) → IsFileRead names octets r
  long_of octets many (Ok all) is = cc
  long_of octets many (Err (Fault fault)) is = inl (record { many = many; is = cc })
  long_of octets many (Err NoMemory) is = tt

  by_size : (octets : List ℕ) (r : Result (List (List Sample)) ReadingsRefused) (b : Bool) → nat_lt 67108864 (length octets) ≡ b
      → IsReading r (cond b (Err (record { line = 0; why = Long })) (lines_added names 1 (replicate (length names) []) (lines octets))) → IsFileRead names octets r
  by_size octets r true many is = long_of octets (grind (arith, nat_tests, many)) r is
  by_size octets r false few is = told_of octets (grind (arith, nat_tests, few)) r (lines_added names 1 (replicate (length names) []) (lines octets))
      (lines_told (lines octets) [] (replicate (length names) []) 1 refl nothing _ refl) is

  -- what is answered of a file is what it says
  pub file_read : (octets : List ℕ) (r : Result (List (List Sample)) ReadingsRefused) → IsReading r (readings_of names octets) → IsFileRead names octets r
  file_read octets r is = by_size octets r (nat_lt 67108864 (length octets)) refl is
