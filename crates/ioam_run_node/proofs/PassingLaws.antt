-- The texts of `node`, with one record more.
use Rattle.std.proofs.Common.{◌≡◌, ℕ, ◌+◌, ◌<◌, All, List, [], ◌∷◌, ◌++◌, length, get_or, set, refl, sym, ◌∙◌, ap, subst, append_assoc, append-nil, length-append, arith}
use Rattle.std.specs.List.{AllByRecursion, flat_map}
use Rattle.std.proofs.lemmas.List.Elements.{All-nil, All-cons, All-append}
use Rattle.ioam_desk_outputs.specs.Told.{Adds, said_more}
use Rattle.ioam_desk_outputs.specs.declared.output.Output.{Output}
use Rattle.ioam_pcap.specs.Entries.{Taken}
use Rattle.ioam_pcap.specs.Text.{IsSendable, Sent, records_text, capture_text, head_octets, record_octets}
use Rattle.ioam_run_node.specs.NodeText.{added_of, sent_of, drop_of, export_of, passage_line, passage_lines}
use Rattle.ioam_run_node.specs.Passage.{Passage, Goes, Drops, HasPassage, LeavesClean}
use Rattle.ioam_run_node.specs.Passing.{Sorts, Gathers, heads}
use Rattle.ioam_run_node.specs.Seat.{Seat, seat_of}
use Rattle.ioam_run_node.specs.declared.passing.Passing.{Passing}
use Rattle.ioam_run_node.proofs.PassageLaws.{ArePassages-push, only_push}

-- the head of a capture is less than a piece
pub heads-few : All (λ (text : List ℕ). length text < 65536) heads
heads-few =
    let P : List ℕ → Type 0 = λ text. length text < 65536 in
    let head : length (capture_text []) ≡ 24 = refl in
    All-cons P (capture_text []) ([] ∷ [] ∷ []) (omega (arith, head))
    (All-cons P [] ([] ∷ []) (omega arith) (All-cons P [] [] (omega arith) (All-nil P)))

flat_push : {X A : Type 0} (f : X → List A) (xs : List X) (x : X) → flat_map f (xs ++ x ∷ []) ≡ flat_map f xs ++ f x
flat_push f [] x = append-nil (f x)
flat_push {X} {A} f (y ∷ ys) x = ap (λ (rest : List A). f y ++ rest) (flat_push f ys x) ∙ sym (append_assoc (f y) (flat_map f ys) (f x))

records_append : (xs ys : List Sent) → records_text (xs ++ ys) ≡ records_text xs ++ records_text ys
records_append [] ys = refl
records_append (x ∷ xs) ys = ap (λ (rest : List ℕ). record_octets x.time x.octets ++ rest) (records_append xs ys)
    ∙ sym (append_assoc (record_octets x.time x.octets) (records_text xs) (records_text ys))

capture_append : (xs ys : List Sent) → capture_text (xs ++ ys) ≡ capture_text xs ++ records_text ys
capture_append xs ys = ap (λ (rest : List ℕ). head_octets ++ rest) (records_append xs ys) ∙ sym (append_assoc head_octets (records_text xs) (records_text ys))

clean_push : (P : Passage → Type 0) (xs : List Passage) (x : Passage) → AllByRecursion P xs → P x → AllByRecursion P (xs ++ x ∷ [])
clean_push P [] x all has = (has, tt)
clean_push P (y ∷ ys) x all has = (all.0, clean_push P ys x all.1 has)

-- each is sent or dropped
one_of_both : (seat : Seat) (p : Passage) → length (sent_of seat p) + length (drop_of p) ≡ 1
one_of_both seat (Goes time sent packet) = refl
one_of_both seat (Drops why) = refl

counts : (seat : Seat) (ps : List Passage) → length (flat_map (sent_of seat) ps) + length (flat_map drop_of ps) ≡ length ps
counts seat [] = refl
counts seat (p ∷ ps) = omega (
  arith,
  counts seat ps,
  one_of_both seat p,
  length-append (sent_of seat p) (flat_map (sent_of seat) ps),
  length-append (drop_of p) (flat_map drop_of ps),
)

lines_push : (seat : Seat) (n : ℕ) (ps : List Passage) (p : Passage)
    → passage_lines seat n (ps ++ p ∷ []) ≡ passage_lines seat n ps ++ passage_line seat (n + length ps) p
lines_push seat n [] p = append-nil (passage_line seat n p) ∙ ap (λ (m : ℕ). passage_line seat m p) (omega arith)
lines_push seat n (q ∷ ps) p =
    let here : n + 1 + length ps ≡ n + length (q ∷ ps) = omega arith in
    ap (λ (rest : List ℕ). passage_line seat n q ++ rest) (lines_push seat (n + 1) ps p)
    ∙ sym (append_assoc (passage_line seat n q) (passage_lines seat (n + 1) ps) (passage_line seat (n + 1 + length ps) p))
    ∙ ap (λ (m : ℕ). (passage_line seat n q ++ passage_lines seat (n + 1) ps) ++ passage_line seat m p) here

sorts_push : (seat : Seat) (ts : List Taken) (old new : Passing) (out report exports : List ℕ) (t : Taken) (p : Passage) (number : ℕ)
    → seat_of new.post ≡ seat_of old.post → number ≡ old.sent + old.dropped + 1 → HasPassage seat t p → LeavesClean seat p → All IsSendable (sent_of seat p)
    → new.sent ≡ old.sent + length (sent_of seat p) → new.dropped ≡ old.dropped + length (drop_of p)
    → Sorts seat ts out report exports old
    → Sorts seat (ts ++ t ∷ []) (out ++ records_text (sent_of seat p)) (report ++ passage_line seat number p) (exports ++ export_of seat p) new
sorts_push seat ts old new out report exports t p number still is has clean fits sent dropped sorts =
    let place : number ≡ 1 + length sorts.passages = omega (arith, is, sorts.sent_is, sorts.dropped_is, counts seat sorts.passages) in
    record {
      same = still ∙ sorts.same;
      passages = sorts.passages ++ p ∷ [];
      are = ArePassages-push seat ts sorts.passages t p sorts.are has;
      only = only_push seat ts sorts.passages t p sorts.are has;
      clean = clean_push (LeavesClean seat) sorts.passages p sorts.clean clean;
      fits = subst (All IsSendable) (sym (flat_push (sent_of seat) sorts.passages p))
          (All-append IsSendable (flat_map (sent_of seat) sorts.passages) (sent_of seat p) sorts.fits fits);
      out_is = ap (λ (front : List ℕ). front ++ records_text (sent_of seat p)) sorts.out_is
          ∙ sym (capture_append (flat_map (sent_of seat) sorts.passages) (sent_of seat p))
          ∙ ap capture_text (sym (flat_push (sent_of seat) sorts.passages p));
      report_is = ap (λ (front : List ℕ). front ++ passage_line seat number p) sorts.report_is
          ∙ ap (λ (m : ℕ). passage_lines seat 1 sorts.passages ++ passage_line seat m p) place
          ∙ sym (lines_push seat 1 sorts.passages p);
      exports_is = ap (λ (front : List ℕ). front ++ export_of seat p) sorts.exports_is
          ∙ sym (flat_push (export_of seat) sorts.passages p);
      sent_is = omega (
        arith,
        sent,
        sorts.sent_is,
        ap (λ (xs : List Sent). length xs) (flat_push (sent_of seat) sorts.passages p),
        length-append (flat_map (sent_of seat) sorts.passages) (sent_of seat p),
      );
      dropped_is = omega (
        arith,
        dropped,
        sorts.dropped_is,
        ap (λ xs. length xs) (flat_push drop_of sorts.passages p),
        length-append (flat_map drop_of sorts.passages) (drop_of p),
      );
    }

-- the same of the texts of the three outputs
pub Gathers-push : (old new : Passing) (t : Taken) (p : Passage) (number : ℕ)
    → seat_of new.post ≡ seat_of old.post → number ≡ old.sent + old.dropped + 1
    → HasPassage (seat_of old.post) t p → LeavesClean (seat_of old.post) p → All IsSendable (sent_of (seat_of old.post) p)
    → new.sent ≡ old.sent + length (sent_of (seat_of old.post) p) → new.dropped ≡ old.dropped + length (drop_of p)
    → (begun : Passing) (ts : List Taken) (texts : List (List ℕ)) → Gathers begun ts texts old
    → Gathers begun (ts ++ t ∷ []) (said_more texts (added_of (seat_of old.post) number p)) new
Gathers-push old new t p number still is has clean fits sent dropped begun ts [] gathers = absurd gathers
Gathers-push old new t p number still is has clean fits sent dropped begun ts (out ∷ []) gathers = absurd gathers
Gathers-push old new t p number still is has clean fits sent dropped begun ts (out ∷ report ∷ []) gathers = absurd gathers
Gathers-push old new t p number still is has clean fits sent dropped begun ts (out ∷ report ∷ exports ∷ []) gathers =
    let P : Seat → Type 0 = λ s. Sorts s (ts ++ t ∷ []) (out ++ records_text (sent_of (seat_of old.post) p))
    (report ++ passage_line (seat_of old.post) number p) (exports ++ export_of (seat_of old.post) p) new in
    let Q : Seat → Type 0 = λ s. Sorts s ts out report exports old in
    subst P gathers.same (sorts_push (seat_of old.post) ts old new out report exports t p number still is has clean fits sent dropped
    (subst Q (sym gathers.same) gathers))
Gathers-push old new t p number still is has clean fits sent dropped begun ts (out ∷ report ∷ exports ∷ more ∷ texts) gathers = absurd gathers

-- octets that are gathered for the first of three outputs, for the second, and for all
pub Adds-first : (outputs : List Output) (d after : Output) (added : List ℕ) → length outputs ≡ 3
    → after.slot ≡ (get_or outputs 0 d).slot → after.gathered.items ≡ (get_or outputs 0 d).gathered.items ++ added
    → Adds outputs (set outputs 0 after) (added ∷ [] ∷ [] ∷ [])
Adds-first [] d after added three slot is = absurd (omega (arith, three))
Adds-first (x ∷ []) d after added three slot is = absurd (omega (arith, three))
Adds-first (x ∷ y ∷ []) d after added three slot is = absurd (omega (arith, three))
Adds-first (x ∷ y ∷ z ∷ []) d after added three slot is =
    (slot, is, (refl, sym (append-nil y.gathered.items), (refl, sym (append-nil z.gathered.items), tt)))
Adds-first (x ∷ y ∷ z ∷ w ∷ outputs) d after added three slot is = absurd (omega (arith, three))

pub Adds-second : (outputs : List Output) (d after : Output) (added : List ℕ) → length outputs ≡ 3
    → after.slot ≡ (get_or outputs 1 d).slot → after.gathered.items ≡ (get_or outputs 1 d).gathered.items ++ added
    → Adds outputs (set outputs 1 after) ([] ∷ added ∷ [] ∷ [])
Adds-second [] d after added three slot is = absurd (omega (arith, three))
Adds-second (x ∷ []) d after added three slot is = absurd (omega (arith, three))
Adds-second (x ∷ y ∷ []) d after added three slot is = absurd (omega (arith, three))
Adds-second (x ∷ y ∷ z ∷ []) d after added three slot is =
    (refl, sym (append-nil x.gathered.items), (slot, is, (refl, sym (append-nil z.gathered.items), tt)))
Adds-second (x ∷ y ∷ z ∷ w ∷ outputs) d after added three slot is = absurd (omega (arith, three))

pub Adds-third : (outputs : List Output) (d after : Output) (added : List ℕ) → length outputs ≡ 3
    → after.slot ≡ (get_or outputs 2 d).slot → after.gathered.items ≡ (get_or outputs 2 d).gathered.items ++ added
    → Adds outputs (set outputs 2 after) ([] ∷ [] ∷ added ∷ [])
Adds-third [] d after added three slot is = absurd (omega (arith, three))
Adds-third (x ∷ []) d after added three slot is = absurd (omega (arith, three))
Adds-third (x ∷ y ∷ []) d after added three slot is = absurd (omega (arith, three))
Adds-third (x ∷ y ∷ z ∷ []) d after added three slot is =
    (refl, sym (append-nil x.gathered.items), (refl, sym (append-nil y.gathered.items), (slot, is, tt)))
Adds-third (x ∷ y ∷ z ∷ w ∷ outputs) d after added three slot is = absurd (omega (arith, three))

-- what was added, and then more
Adds-then : (a b c : List Output) (xs ys : List (List ℕ)) → Adds a b xs → Adds b c ys → Adds a c (said_more xs ys)
Adds-then [] [] [] [] [] p q = tt
Adds-then [] [] [] [] (y ∷ ys) p q = absurd q
Adds-then [] [] (z ∷ c) [] ys p q = absurd q
Adds-then [] [] c (x ∷ xs) ys p q = absurd p
Adds-then [] (f ∷ b) c xs ys p q = absurd p
Adds-then (e ∷ a) [] c xs ys p q = absurd p
Adds-then (e ∷ a) (f ∷ b) c [] ys p q = absurd p
Adds-then (e ∷ a) (f ∷ b) [] (x ∷ xs) ys p q = absurd q
Adds-then (e ∷ a) (f ∷ b) (g ∷ c) (x ∷ xs) [] p q = absurd q
Adds-then (e ∷ a) (f ∷ b) (g ∷ c) (x ∷ xs) (y ∷ ys) p q =
    (q.0 ∙ p.0, q.1 ∙ ap (λ (front : List ℕ). front ++ y) p.1 ∙ append_assoc e.gathered.items x y, Adds-then a b c xs ys p.2 q.2)

-- to the first, to the second and to the third
pub Adds-three : (a b c d : List Output) (x y z : List ℕ) → Adds a b (x ∷ [] ∷ [] ∷ []) → Adds b c ([] ∷ y ∷ [] ∷ []) → Adds c d ([] ∷ [] ∷ z ∷ [])
    → Adds a d (x ∷ y ∷ z ∷ [])
Adds-three a b c d x y z first second third =
    let all : Adds a d (((x ++ []) ++ []) ∷ (y ++ []) ∷ z ∷ []) = Adds-then a c d ((x ++ []) ∷ y ∷ [] ∷ []) ([] ∷ [] ∷ z ∷ [])
    (Adds-then a b c (x ∷ [] ∷ [] ∷ []) ([] ∷ y ∷ [] ∷ []) first second) third in
    let P : List ℕ → Type 0 = λ o. Adds a d (o ∷ (y ++ []) ∷ z ∷ []) in
    let Q : List ℕ → Type 0 = λ r. Adds a d (x ∷ r ∷ z ∷ []) in
    subst Q (append-nil y) (subst P (append-nil (x ++ []) ∙ append-nil x) all)
