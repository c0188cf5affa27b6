-- What a step tells of a reader.
use Rattle.std.proofs.Common.{◌≡◌, ℕ, ◌<◌, List, [], ◌∷◌, length, drop, refl, sym, ap, ◌∙◌, subst, arith}
use Rattle.std.proofs.lemmas.List.{append-nil}
use Rattle.ioam_dex.specs.declared.export.Export as dex
use Rattle.ioam_dex.specs.Record.{Record, IsRecord, record_of}
use Rattle.ioam_ipfix.specs.declared.fault.IpfixFault.{IpfixFault}
use Rattle.ioam_ipfix.specs.declared.reader.IpfixStep.TheVariants.{Export, More, Bad}
use Rattle.ioam_ipfix.specs.declared.reader.Found.{Found}
use Rattle.ioam_ipfix.specs.Reading.{Reading, place_of, with_due}
use Rattle.ioam_ipfix.specs.Reader.{Stands, Waits, IsFaulty, Advances, Tells}
use Rattle.ioam_ipfix.specs.Showing.{Gives}
use Rattle.ioam_ipfix.proofs.MessageLaws.{cut-not-faulty, fault-unique}
use Rattle.ioam_ipfix.proofs.ReaderLaws.{Stands-gives, goes-gives, says-more, says-bad}

module _ (old mid : Reading) (found : Found) (advances : Advances old mid found) where
  -- what is due of the old is due of the new
  due-stays : (x : Record) (xs : List Record) → old.due ≡ x ∷ xs → mid.due ≡ x ∷ xs
  due-stays x xs due = let some : 0 < length old.due = (let size = ap length due in omega (arith, size)) in ap (λ (r : Reading). r.due) (advances.still some) ∙ due

  none-due : (x : Record) (xs : List Record) → old.due ≡ x ∷ xs → mid.due ≡ [] → ⊥
  none-due x xs due none = let size = ap length (sym (due-stays x xs due) ∙ none) in omega (arith, size)

  pub tells-more : (new : Reading) → new ≡ mid → Waits mid → Tells old new More
  tells-more new is waits =
      let made : Tells old mid More = record {
        rested = waits;
        fed = advances.fed;
        told = λ octets given stands.
            let now = advances.keeps octets given stands in
            (subst (λ g. Stands mid octets g) (sym (append-nil given)) now, says-more mid waits octets given now);
        fault = λ f bad. absurd (cut-not-faulty (place_of mid) f waits.1 (subst (λ r. IsFaulty r f) (sym (advances.faulty f bad)) bad).1);
        due = λ x xs due. absurd (none-due x xs due waits.0);
        held = advances.held;
        goes = advances.goes;
      } in
      subst (λ r. Tells old r More) (sym is) made

  pub tells-bad : (new : Reading) → new ≡ mid → (at : ℕ) (f : IpfixFault) → at ≡ mid.start → IsFaulty mid f → Tells old new (Bad at f)
  tells-bad new is at f here bad =
      let made : Tells old mid (Bad mid.start f) = record {
        rested = (refl, bad);
        fed = advances.fed;
        told = λ octets given stands.
            let now = advances.keeps octets given stands in
            (subst (λ g. Stands mid octets g) (sym (append-nil given)) now, says-bad mid f bad octets given now);
        fault = λ g also.
            let one : mid ≡ old = advances.faulty g also in
            let same : f ≡ g = fault-unique (place_of mid) f g bad.1 (subst (λ r. IsFaulty r g) (sym one) also).1 in
            ((λ i. Bad ((one i).start) (same i)), one);
        due = λ x xs due. absurd (none-due x xs due bad.0);
        held = advances.held;
        goes = advances.goes;
      } in
      subst (λ r. Tells old r (Bad at f)) (sym is) (subst (λ n. Tells old mid (Bad n f)) (sym here) made)

  pub tells-export : (e : dex.Export) (xs : List Record) (new : Reading) → mid.due ≡ record_of e ∷ xs → new ≡ with_due xs mid
      → IsRecord (record_of e) → Tells old new (Export e)
  tells-export e xs new due is sayable =
      let x = record_of e in
      let after : Reading = with_due xs mid in
      let made : Tells old after (Export e) = record {
        rested = sayable;
        fed = advances.fed;
        told = λ octets given stands. (Stands-gives mid x xs due octets given (advances.keeps octets given stands), tt);
        fault = λ f bad.
            let none : mid.due ≡ [] = ap (λ (r : Reading). r.due) (advances.faulty f bad) ∙ bad.0 in
            let size = ap length (sym due ∙ none) in
            absurd (omega (arith, size));
        due = λ y ys had.
            let both : x ∷ xs ≡ y ∷ ys = sym due ∙ due-stays y ys had in
            let first : x ≡ y = cc in
            let rest : xs ≡ ys = ap (drop 1) both in
            let some : 0 < length old.due = (let size = ap length had in omega (arith, size)) in
            let one : mid ≡ old = advances.still some in
            ((λ i. first i ∷ []), (λ i. with_due (rest i) (one i)));
        held = advances.held;
        goes = goes-gives old mid x xs advances.goes due;
      } in
      subst (λ r. Tells old r (Export e)) (sym is) made

  pub gives-record : (x : Record) (xs : List Record) (new : Reading) → mid.due ≡ x ∷ xs → new ≡ with_due xs mid → Gives old new x
  gives-record x xs new due is =
      let after : Reading = with_due xs mid in
      let made : Gives old after x = record {
        fed = advances.fed;
        held = advances.held;
        goes = goes-gives old mid x xs advances.goes due;
        stands = λ octets given stands. Stands-gives mid x xs due octets given (advances.keeps octets given stands);
        due = λ y ys had.
            let both : x ∷ xs ≡ y ∷ ys = sym due ∙ due-stays y ys had in
            let first : x ≡ y = cc in
            let rest : xs ≡ ys = ap (drop 1) both in
            let some : 0 < length old.due = (let size = ap length had in omega (arith, size)) in
            let one : mid ≡ old = advances.still some in
            (first, (λ i. with_due (rest i) (one i)));
      } in
      subst (λ r. Gives old r x) (sym is) made
