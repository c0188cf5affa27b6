-- Records that are packed into runs.
use Rattle.std.proofs.Common.{◌≡◌, ◌≢◌, ℕ, zero, suc, ◌+◌, ◌<◌, ◌⊎◌, List, [], ◌∷◌, ◌++◌, length, refl, sym, ap, ◌∙◌, subst, inl, inr, append-nil, append_assoc, length-append, arith}
use Rattle.std.specs.List.{AllByRecursion}
use Rattle.ioam_dex.specs.Record.{Record, IsRecord, record_octets}
use Rattle.ioam_dex.specs.Reads.{records_octets}
use Rattle.ioam_dex.proofs.ReadsLaws.{records_octets-append}
use Rattle.ioam_ipfix.specs.Data.{template_of}
use Rattle.ioam_ipfix.specs.Messages.{joined}
use Rattle.ioam_ipfix.specs.Written.{IsRun, AreRuns, AreLongest, runs_of, run_message, runs_text, IsRunText}
use Rattle.ioam_run_ipfix.specs.Texts.{AreCut}
use Rattle.ioam_run_ipfix.specs.Packing.{Packed, IsLast, IsPacked, Puts, Closes, Packs, Ends}

abbrev Runs : Type 0
Runs = List (ℕ × List Record)

-- ---- runs with one more

are-front : (done more : Runs) → AreRuns (done ++ more) → AreRuns done
are-front [] more are = tt
are-front (run ∷ done) more are = (are.0, are-front done more are.1)

are-last : (done : Runs) (id : ℕ) (run : List Record) → AreRuns (done ++ (id, run) ∷ []) → IsRun id run
are-last [] id run are = are.0
are-last (first ∷ done) id run are = are-last done id run are.1

are-push : (done : Runs) (id : ℕ) (run : List Record) → AreRuns done → IsRun id run → AreRuns (done ++ (id, run) ∷ [])
are-push [] id run are is = (is, tt)
are-push (first ∷ done) id run are is = (are.0, are-push done id run are.1 is)

-- the last run may be another of the same template
longest-same : (done : Runs) (id : ℕ) (run other : List Record) → AreLongest (done ++ (id, run) ∷ []) → AreLongest (done ++ (id, other) ∷ [])
longest-same [] id run other longest = tt
longest-same (first ∷ []) id run other longest = (longest.0, tt)
longest-same (first ∷ second ∷ done) id run other longest = (longest.0, longest-same (second ∷ done) id run other longest.1)

-- behind the last run stands one that can't belong to it
longest-push : (done : Runs) (id : ℕ) (run : List Record) (next : ℕ) (other : List Record) → AreLongest (done ++ (id, run) ∷ [])
    → (length run ≡ 32) ⊎ (id ≢ next) → AreLongest ((done ++ (id, run) ∷ []) ++ (next, other) ∷ [])
longest-push [] id run next other longest apart = (apart, tt)
longest-push (first ∷ []) id run next other longest apart = (longest.0, (apart, tt))
longest-push (first ∷ second ∷ done) id run next other longest apart = (longest.0, longest-push (second ∷ done) id run next other longest.1 apart)

runs-push : (done : Runs) (id : ℕ) (run : List Record) → joined (runs_of (done ++ (id, run) ∷ [])) ≡ joined (runs_of done) ++ run
runs-push [] id run = append-nil run
runs-push (first ∷ done) id run = ap (λ xs. first.1 ++ xs) (runs-push done id run) ∙ sym (append_assoc first.1 (joined (runs_of done)) run)

text-push : (count : ℕ) (done : Runs) (id : ℕ) (run : List Record)
    → runs_text count (done ++ (id, run) ∷ []) ≡ runs_text count done ++ run_message (count + length (joined (runs_of done))) id run
text-push count [] id run = append-nil (run_message count id run) ∙ ap (λ n. run_message n id run) (let none : count ≡ count + 0 = omega arith in none)
text-push count (first ∷ done) id run =
    let front : List ℕ = run_message count first.0 first.1 in
    let next : ℕ = count + length first.1 in
    let both = length-append first.1 (joined (runs_of done)) in
    let same : next + length (joined (runs_of done)) ≡ count + length (first.1 ++ joined (runs_of done)) = omega (arith, both) in
    ap (λ o. front ++ o) (text-push next done id run)
    ∙ sym (append_assoc front (runs_text next done) (run_message (next + length (joined (runs_of done))) id run))
    ∙ ap (λ n. (front ++ runs_text next done) ++ run_message n id run) same

-- ---- a run with a record more

alike-push : (id : ℕ) (run : List Record) (x : Record) → AllByRecursion (λ y. IsRecord y × (template_of y ≡ id)) run → IsRecord x → template_of x ≡ id
    → AllByRecursion (λ y. IsRecord y × (template_of y ≡ id)) (run ++ x ∷ [])
alike-push id [] x alike is form = ((is, form), tt)
alike-push id (y ∷ run) x alike is form = (alike.0, alike-push id run x alike.1 is form)

run-push : (id : ℕ) (run : List Record) (x : Record) → IsRun id run → length run < 32 → IsRecord x → template_of x ≡ id → IsRun id (run ++ x ∷ [])
run-push id run x is few is_x form = record {
  some = let size = length-append run (x ∷ []) in omega (arith, size);
  few = let size = length-append run (x ∷ []) in omega (arith, size, few);
  alike = alike-push id run x is.alike is_x form;
}

run-one : (x : Record) → IsRecord x → IsRun (template_of x) (x ∷ [])
run-one x is = record { some = omega arith; few = omega arith; alike = ((is, refl), tt) }

octets-push : (run : List Record) (x : Record) → records_octets run ++ record_octets x ≡ records_octets (run ++ x ∷ [])
octets-push run x = sym (records_octets-append run (x ∷ []) ∙ ap (λ o. records_octets run ++ o) (append-nil (record_octets x)))

-- ---- what is packed

pub packed-count : (done : Runs) (records : List Record) (packing : Packed) → IsPacked done records packing → packing.before + packing.held ≡ length records
packed-count done records packing packed =
    let size = length-append (joined (runs_of done)) packed.run in
    omega (arith, packed.before, packed.held, ap length packed.are, size)

-- the last run, as it is put
last-run : (done : Runs) (template : ℕ) (run : List Record) → 0 < length run → IsLast done template run
    → AreRuns (done ++ (template, run) ∷ []) × AreLongest (done ++ (template, run) ∷ [])
last-run done template [] some last = absurd (omega (arith, some))
last-run done template (x ∷ run) some last = last

pub run-text : (packing : Packed) → 0 < packing.held → (done : Runs) (records : List Record) → IsPacked done records packing → IsRunText packing.octets
run-text packing some done records packed =
    let last = last-run done packing.template packed.run (omega (arith, some, packed.held)) packed.last in
    (packing.template, packed.run, are-last done packing.template packed.run last.0, packed.octets)

-- with a record more in the run
abbrev pub pushed : Packed → Record → Packed
pushed packing x = record { octets = packing.octets ++ record_octets x; held = packing.held + 1; template = template_of x; before = packing.before }

-- a run that may have the record
abbrev Fits : Packed → Record → Type 0
Fits packing x = (packing.held ≡ 0) ⊎ ((packing.held < 32) × (template_of x ≡ packing.template))

kept-by : (packing : Packed) (done : Runs) (x : Record) → IsRecord x → packing.before ≡ length (joined (runs_of done)) → Fits packing x
    → (run : List Record) → packing.octets ≡ records_octets run → packing.held ≡ length run → IsLast done packing.template run
    → IsPacked done ((joined (runs_of done) ++ run) ++ x ∷ []) (pushed packing x)
kept-by packing done x is before fits [] octets held last =
    let one : (AreRuns ((template_of x, x ∷ []) ∷ [])) × (AreLongest ((template_of x, x ∷ []) ∷ [])) = ((run-one x is, tt), tt) in
    let P : Runs → Type 0 = λ d. (AreRuns (d ++ (template_of x, x ∷ []) ∷ [])) × (AreLongest (d ++ (template_of x, x ∷ []) ∷ [])) in
    record {
      run = x ∷ [];
      octets = ap (λ o. o ++ record_octets x) octets ∙ sym (append-nil (record_octets x));
      held = omega (arith, held);
      before = before;
      are = append_assoc (joined (runs_of done)) [] (x ∷ []);
      last = subst P (sym last) one;
    }
kept-by packing done x is before (inl none) (y ∷ run) octets held last = absurd (omega (arith, none, held))
kept-by packing done x is before (inr (few, form)) (y ∷ run) octets held last =
    let more = run-push packing.template (y ∷ run) x (are-last done packing.template (y ∷ run) last.0) (omega (arith, few, held)) is form in
    let P : ℕ → Type 0 = λ id. (AreRuns (done ++ (id, (y ∷ run) ++ x ∷ []) ∷ [])) × (AreLongest (done ++ (id, (y ∷ run) ++ x ∷ []) ∷ [])) in
    let size = length-append (y ∷ run) (x ∷ []) in
    record {
      run = (y ∷ run) ++ x ∷ [];
      octets = ap (λ o. o ++ record_octets x) octets ∙ octets-push (y ∷ run) x;
      held = omega (arith, held, size);
      before = before;
      are = append_assoc (joined (runs_of done)) (y ∷ run) (x ∷ []);
      last = subst P (sym form) (
        are-push done packing.template ((y ∷ run) ++ x ∷ []) (are-front done ((packing.template, y ∷ run) ∷ []) last.0) more,
        longest-same done packing.template (y ∷ run) ((y ∷ run) ++ x ∷ []) last.1,
      );
    }

kept-push : (packing : Packed) (done : Runs) (records : List Record) (x : Record) → IsRecord x → Fits packing x → IsPacked done records packing
    → IsPacked done (records ++ x ∷ []) (pushed packing x)
kept-push packing done records x is fits packed =
    let P : List Record → Type 0 = λ xs. IsPacked done (xs ++ x ∷ []) (pushed packing x) in
    subst P (sym packed.are) (kept-by packing done x is packed.before fits packed.run packed.octets packed.held packed.last)

-- the text of runs with the last one
text-last : (packing : Packed) (done : Runs) (records : List Record) (packed : IsPacked done records packing)
    → runs_text 0 (done ++ (packing.template, packed.run) ∷ []) ≡ runs_text 0 done ++ run_message packing.before packing.template packed.run
text-last packing done records packed =
    let count : 0 + length (joined (runs_of done)) ≡ packing.before = omega (arith, packed.before) in
    text-push 0 done packing.template packed.run ∙ ap (λ n. runs_text 0 done ++ run_message n packing.template packed.run) count

-- a record behind a run that was put
closed-push : (packing : Packed) (done : Runs) (records : List Record) (x : Record) → IsRecord x → (packed : IsPacked done records packing) → 0 < packing.held
    → (packing.held ≡ 32) ⊎ (template_of x ≢ packing.template)
    → IsPacked (done ++ (packing.template, packed.run) ∷ []) (records ++ x ∷ [])
    (record { octets = [] ++ record_octets x; held = 0 + 1; template = template_of x; before = packing.before + packing.held })
closed-push packing done records x is packed some apart =
    let last = last-run done packing.template packed.run (omega (arith, some, packed.held)) packed.last in
    let all = runs-push done packing.template packed.run in
    let size = length-append (joined (runs_of done)) packed.run in
    record {
      run = x ∷ [];
      octets = sym (append-nil (record_octets x));
      held = omega arith;
      before = omega (arith, packed.before, packed.held, size, ap length all);
      are = ap (λ xs. xs ++ x ∷ []) (packed.are ∙ sym all);
      last = (
        are-push (done ++ (packing.template, packed.run) ∷ []) (template_of x) (x ∷ []) last.0 (run-one x is),
        longest-push done packing.template packed.run (template_of x) (x ∷ []) last.1 (elim apart [
          | inl full ↦ inl (sym packed.held ∙ full)
          | inr other ↦ inr (λ same. other (sym same))
        ]),
      );
    }

-- the run was put
put-run : (old mid : Packed) (out with_run : List ℕ) → Puts old mid out with_run → 0 < old.held → (done : Runs) (records : List Record) (packed : IsPacked done records old)
    → with_run ≡ out ++ run_message old.before old.template packed.run
put-run old mid out with_run puts some done records packed =
    let last = last-run done old.template packed.run (omega (arith, some, packed.held)) packed.last in
    puts.1 old.template packed.run (are-last done old.template packed.run last.0) packed.octets

pub packs-add : (old mid : Packed) (x : Record) (template : ℕ) (out with_run : List ℕ) → IsRecord x → template ≡ template_of x → Closes old mid template out with_run
    → (new : Packed) → new ≡ record { octets = mid.octets ++ record_octets x; held = mid.held + 1; template = template; before = mid.before }
    → Packs old new x out with_run
packs-add old mid x template out with_run is form (inl (same, text, fits)) new pushes done records packed =
    let P : Packed → Type 0 = λ q. IsPacked done (records ++ x ∷ []) q in
    let here : new ≡ pushed old x = pushes ∙ (λ i. record { octets = (same i).octets ++ record_octets x; held = (same i).held + 1; template = form i; before = (same i).before }) in (
      done,
      [],
      subst P (sym here) (kept-push old done records x is (fits-by fits) packed),
      text ∙ sym (append-nil out),
      sym (append-nil (runs_text 0 done)),
    )
  where
    fits-by : ((old.held ≡ 0) ⊎ ((old.held < 32) × (template ≡ old.template))) → Fits old x
    fits-by (inl none) = inl none
    fits-by (inr (few, alike)) = inr (few, sym form ∙ alike)
packs-add old mid x template out with_run is form (inr (some, apart, puts)) new pushes done records packed =
    let P : Packed → Type 0 = λ q. IsPacked (done ++ (old.template, packed.run) ∷ []) (records ++ x ∷ []) q in
    let here : new ≡ record { octets = [] ++ record_octets x; held = 0 + 1; template = template_of x; before = old.before + old.held } =
    pushes ∙ (λ i. record { octets = (puts.0 i).octets ++ record_octets x; held = (puts.0 i).held + 1; template = form i; before = (puts.0 i).before }) in (
      done ++ (old.template, packed.run) ∷ [],
      run_message old.before old.template packed.run,
      subst P (sym here) (closed-push old done records x is packed some (apart-by apart)),
      put-run old mid out with_run puts some done records packed,
      text-last old done records packed,
    )
  where
    apart-by : ((old.held ≡ 32) ⊎ (template ≢ old.template)) → (old.held ≡ 32) ⊎ (template_of x ≢ old.template)
    apart-by (inl full) = inl full
    apart-by (inr other) = inr (λ alike. other (form ∙ alike))

-- ---- the last run

-- an empty run is that of no records
none-packed : (packing : Packed) (done : Runs) (records : List Record) → packing.held ≡ 0 → (packed : IsPacked done records packing) → AreCut records done
none-packed packing done records none packed = none-by packed.run packed.held packed.are packed.last
  where
    none-by : (run : List Record) → packing.held ≡ length run → records ≡ joined (runs_of done) ++ run → IsLast done packing.template run → AreCut records done
    none-by [] held are last =
        let P : Runs → Type 0 = λ d. (AreRuns d) × (AreLongest d) in
        let both : P done = subst P (sym last) (tt, tt) in
        record { are = both.0; longest = both.1; joins = sym (are ∙ append-nil (joined (runs_of done))) }
    none-by (x ∷ run) held are last = absurd (omega (arith, none, held))

pub ends-none : (packing : Packed) (out : List ℕ) → packing.held ≡ 0 → Ends packing out out
ends-none packing out none done records packed =
    (done, [], none-packed packing done records none packed, sym (append-nil out), sym (append-nil (runs_text 0 done)))

pub ends-some : (old mid : Packed) (out with_run : List ℕ) → 0 < old.held → Puts old mid out with_run → Ends old out with_run
ends-some old mid out with_run some puts done records packed =
    let last = last-run done old.template packed.run (omega (arith, some, packed.held)) packed.last in (
      done ++ (old.template, packed.run) ∷ [],
      run_message old.before old.template packed.run,
      record { are = last.0; longest = last.1; joins = runs-push done old.template packed.run ∙ sym packed.are },
      put-run old mid out with_run puts some done records packed,
      text-last old done records packed,
    )

-- the runs with the last one, which is still gathered
pub packed-rest : (done : Runs) (records : List Record) (packing : Packed) → IsPacked done records packing
    → (runs : Runs) × (added : List ℕ) × AreCut records runs × (runs_text 0 runs ≡ runs_text 0 done ++ added)
packed-rest done records packing packed = elim (cases_zero packing.held) [
  | inl none ↦ (done, [], none-packed packing done records none packed, sym (append-nil (runs_text 0 done)))
  | inr some ↦
      let last = last-run done packing.template packed.run (omega (arith, some, packed.held)) packed.last in (
        done ++ (packing.template, packed.run) ∷ [],
        run_message packing.before packing.template packed.run,
        record { are = last.0; longest = last.1; joins = runs-push done packing.template packed.run ∙ sym packed.are },
        text-last packing done records packed,
      )
]
  where
    cases_zero : (n : ℕ) → (n ≡ 0) ⊎ (0 < n)
    cases_zero zero = inl refl
    cases_zero (suc n) = inr (omega arith)
