use Rattle.std.proofs.Common.{◌≡◌, ◌-◌, ◌++◌, ℕ, List, length, length-drop, take, drop, refl, sym, ap, ◌∙◌, subst, arith, None, Some}
use Rattle.std.specs.Prelude.{is_some, min}
use Rattle.std.proofs.lemmas.List.{take_rest}
use Rattle.ioam_base.proofs.ResultLaws.{OnOk-map}
use Rattle.ioam_dex.specs.Record.{Record}
use Rattle.ioam_part.specs.Faults.{HasFault}
use Rattle.ioam_part.specs.Reading.{PartReading, Stops, Took, held}
use Rattle.ioam_part.specs.declared.progress.Progress.{Progress}
use Rattle.ioam_part.proofs.ReaderLaws.{head_faulty, kept_fed, kept_same, most_filled, no_fault, still_faulty, still_open, taken}
use Rattle.ioam_part.proofs.reader.PartReader.take_in.Goals as goal

pub returns-then-is_some-clause-stands : goal.returns-then-is_some-clause-stands
returns-then-is_some-clause-stands c =
    let r = c.args.self.now in
    λ limit octets stands. still_faulty limit octets c.args.piece.now r r.progress.fault
    (ap (λ (q : PartReading). is_some q.progress.fault) (sym c.self.view_is) ∙ sym c.is_some.ensures ∙ c.if-is_some.true) stands

pub returns-then-octets-lt-HEAD_SIZE-clause-stands : goal.returns-then-octets-lt-HEAD_SIZE-clause-stands
returns-then-octets-lt-HEAD_SIZE-clause-stands c =
    let r = c.args.self.now in
    let none : r.progress.fault ≡ None =
    no_fault r.progress.fault (ap (λ (q : PartReading). is_some q.progress.fault) (sym c.self.view_is) ∙ sym c.is_some.ensures ∙ c.if-is_some.false) in
    let head_is : c.self.inside.head ≡ r.head = ap (λ (q : PartReading). q.head) c.self.view_is in
    let piece = c.args.piece.now in
    let filled = c.min-filled.result in
    let fill_is : filled ≡ min (12 - length r.head) (length piece) =
    c.min-filled.ensures ∙ ap (λ (o : List ℕ). min (12 - length o) (length piece)) (c.octets.ensures ∙ head_is) in
    let is : c.append.new.self ≡ r.head ++ take filled piece = c.append.ensures.value ∙ ap (λ (o : List ℕ). o ++ take filled piece) head_is in
    let new : PartReading = record { head = c.append.new.self; reading = c.self.inside.reader; progress = c.self.inside.progress } in
    let same : new ≡ record r { head = c.append.new.self } = ap (λ (q : PartReading). record q { head = c.append.new.self }) c.self.view_is in
    let size = ap length c.octets-2.ensures in
    λ limit octets stands. still_open limit octets piece c.append.new.self r new filled is fill_is (omega (arith, size, c.if-octets-lt-HEAD_SIZE.true)) same none stands

pub returns-in_ok-feed-in-Ok-clause-stands : goal.returns-in_ok-feed-in-Ok-clause-stands
returns-in_ok-feed-in-Ok-clause-stands c =
    let r = c.args.self.now in
    let none : r.progress.fault ≡ None =
    no_fault r.progress.fault (ap (λ (q : PartReading). is_some q.progress.fault) (sym c.self.view_is) ∙ sym c.is_some.ensures ∙ c.if-is_some.false) in
    let head_is : c.self.inside.head ≡ r.head = ap (λ (q : PartReading). q.head) c.self.view_is in
    let piece = c.args.piece.now in
    let filled = c.min-filled.result in
    let fill_is : filled ≡ min (12 - length r.head) (length piece) =
    c.min-filled.ensures ∙ ap (λ (o : List ℕ). min (12 - length o) (length piece)) (c.octets.ensures ∙ head_is) in
    let is : c.append.new.self ≡ r.head ++ take filled piece = c.append.ensures.value ∙ ap (λ (o : List ℕ). o ++ take filled piece) head_is in
    let new : PartReading = record { head = c.append.new.self; reading = c.take_shown.new.reader; progress = c.take_shown.new.progress } in
    let count = c.in-Ok.count in
    let fed = c.feed.new.self in
    let feeds : fed ≡ record r.reading { pending = r.reading.pending ++ drop filled piece; given = 0 } =
    c.in_ok-feed-in-Ok.ensures.ok ∙ ap (λ (o : List ℕ). record c.self.inside.reader { pending = c.self.inside.reader.pending ++ o; given = 0 }) (take_rest piece filled)
    ∙ ap (λ (q : PartReading). record q.reading { pending = q.reading.pending ++ drop filled piece; given = 0 }) c.self.view_is in
    let so_far : c.self.inside.progress ≡ r.progress = ap (λ (q : PartReading). q.progress) c.self.view_is in
    OnOk-map c.take_shown.result _ _ c.take_shown.ensures.stops (λ takes limit octets stands.
    taken limit octets piece c.append.new.self r new filled count fed is (most_filled (12 - length r.head) (length piece) filled fill_is)
    (sym c.octets-3.ensures ∙ c.in-Ok.ensures.0) c.in-Ok.ensures.1 feeds refl
    (subst (λ (p : Progress). (limit : ℕ) (body : List ℕ) (xs : List Record) → p.fault ≡ None → Took count limit body xs fed p
    → (ys : List Record) × Stops count limit body ys c.take_shown.new.reader c.take_shown.new.progress) so_far takes) none stands)

pub returns-in-Err-clause-stands : goal.returns-in-Err-clause-stands
returns-in-Err-clause-stands c =
    let r = c.args.self.now in
    let none : r.progress.fault ≡ None =
    no_fault r.progress.fault (ap (λ (q : PartReading). is_some q.progress.fault) (sym c.self.view_is) ∙ sym c.is_some.ensures ∙ c.if-is_some.false) in
    let head_is : c.self.inside.head ≡ r.head = ap (λ (q : PartReading). q.head) c.self.view_is in
    let piece = c.args.piece.now in
    let filled = c.min-filled.result in
    let fill_is : filled ≡ min (12 - length r.head) (length piece) =
    c.min-filled.ensures ∙ ap (λ (o : List ℕ). min (12 - length o) (length piece)) (c.octets.ensures ∙ head_is) in
    let is : c.append.new.self ≡ r.head ++ take filled piece = c.append.ensures.value ∙ ap (λ (o : List ℕ). o ++ take filled piece) head_is in
    let bad = c.in-Err.bad in
    let new : PartReading = record { head = c.append.new.self; reading = c.self.inside.reader; progress = record c.self.inside.progress { fault = Some bad } } in
    let all : (more : List ℕ) → HasFault (c.append.new.self ++ more) bad.0 bad.1 = λ more.
    subst (λ (o : List ℕ). HasFault (o ++ more) bad.0 bad.1) c.octets-3.ensures (c.in-Err.ensures more) in
    λ limit octets stands. head_faulty limit octets piece c.append.new.self r new filled bad.0 bad.1 is (most_filled (12 - length r.head) (length piece) filled fill_is) all refl none stands

pub returns-then-is_some-clause-kept : goal.returns-then-is_some-clause-kept
returns-then-is_some-clause-kept c = kept_same (held c.args.self.now) (held c.args.self.now) (length c.args.piece.now) (length c.args.self.now.reading.pending) refl

pub returns-then-octets-lt-HEAD_SIZE-clause-kept : goal.returns-then-octets-lt-HEAD_SIZE-clause-kept
returns-then-octets-lt-HEAD_SIZE-clause-kept c = kept_same _ (held c.args.self.now) (length c.args.piece.now) (length c.args.self.now.reading.pending) (ap (λ (q : PartReading). held q) c.self.view_is)

pub returns-in-Err-clause-kept : goal.returns-in-Err-clause-kept
returns-in-Err-clause-kept c = kept_same _ (held c.args.self.now) (length c.args.piece.now) (length c.args.self.now.reading.pending) (ap (λ (q : PartReading). held q) c.self.view_is)

pub returns-in_ok-feed-in-Ok-clause-kept : goal.returns-in_ok-feed-in-Ok-clause-kept
returns-in_ok-feed-in-Ok-clause-kept c =
    let piece = c.args.piece.now in
    let filled = c.min-filled.result in
    let pending = ap (λ (q : PartReading). length q.reading.pending) c.self.view_is in
    let rest = ap length (take_rest piece filled) in
    OnOk-map c.take_shown.result _ _ c.take_shown.ensures.held (λ same.
    kept_fed (held c.args.self.now) _ (length piece) (length c.args.self.now.reading.pending)
    (omega (arith, same, c.in_ok-feed-in-Ok.ensures.held, pending, rest, length-drop filled piece)))
