-- The two captures, compared: what became of the packets of BEFORE that were taken, by those of AFTER.
use Rattle.std.specs.Prelude.{◌≡◌, ⊤, ℕ, ◌+◌, ◌-◌, ◌*◌, ◌^◌, ◌⊎◌, Bool, true, false, ◌==◌, if◌then◌else◌, refl, List, [], ◌∷◌, ◌++◌, Option, Some, None, slice_get}
use Rattle.std.proofs.Common.{subst, sym, ◌∙◌, ap, append-nil, inl, inr, arith}
use Rattle.std.proofs.lemmas.Bool.{false≢true, true≢false}
use Rattle.ioam_audit.specs.Sent.{IsSentAs, end_of}
use Rattle.ioam_capture.specs.Reader.{Stands as ReaderStands, Waits}
use Rattle.ioam_capture.specs.Reading.{Reading, fed}
use Rattle.ioam_capture.specs.Streams.{ShowsSo}
use Rattle.ioam_desk_outputs.specs.Told.{said_more}
use Rattle.ioam_node.specs.declared.reason.Reason.{Reason}
use Rattle.ioam_pcap.specs.Entries.{Taken}
use Rattle.ioam_stream.specs.Stage.{Kind, Lawful, Leading, Leads, Seen, How, Ended, Handed, Covers, unseen}
use Rattle.ioam_topo.specs.Domain.{links}
use Rattle.ioam_run_audit.specs.Cursors.{At}
use Rattle.ioam_run_audit.specs.Cursors as cursors
use Rattle.ioam_run_audit.specs.Fit.{HoldsPacket, HasReason, Place}
use Rattle.ioam_run_audit.specs.Lines.{BecomeOf, Sums, lines_of, sums_line, sums_of, verdict_as, verdict_line}
use Rattle.ioam_run_audit.specs.declared.comparison.Comparison.{Comparison}
use Rattle.ioam_run_audit.specs.declared.comparison.Lookahead.{Lookahead}
use Rattle.ioam_run_audit.specs.declared.comparison.Lookahead.TheVariants as ahead
use Rattle.ioam_run_audit.specs.declared.comparison.Phase.{Phase}
use Rattle.ioam_run_audit.specs.declared.comparison.Phase.TheVariants as phase
use Rattle.ioam_run_audit.specs.declared.counts.Counts.{Counts}
use Rattle.ioam_run_audit.specs.declared.cursor.End.{End}
use Rattle.ioam_run_audit.specs.declared.cursor.End.TheVariants as end
use Rattle.ioam_run_audit.specs.declared.fate.Fate.{Fate}
use Rattle.ioam_run_audit.specs.declared.fate.Fate.TheVariants.{Sent, Gone, Skipped}
use Rattle.ioam_run_audit.specs.declared.seat.Seat.{Seat}

-- what a `Seat` and a `Counts` are seen as
abbrev pub place_of : Seat → Place
place_of seat = record { domain = seat.domain.now; node = seat.node; link = seat.link }

-- the sums that a `Counts` is seen as
abbrev pub sums_as : Counts → Sums
sums_as counts = record { sent = counts.sent; gone = counts.gone; skipped = counts.skipped }

-- ---- what is said after the lines

-- the number of the first packet of AFTER that is left, if one is, where `taken` were taken
abbrev pub left_of : ℕ → ℕ → Option ℕ
left_of sent taken = if taken == sent then None else Some (sent + 1)

-- if both were read whole, the number of the first packet of AFTER that is left, if one is
abbrev pub verdict_by : Counts → ℕ → End → End → Option (Option ℕ)
verdict_by counts taken end.Whole end.Whole = Some (left_of counts.sent taken)
verdict_by counts taken end.Whole end.Limit = None
verdict_by counts taken end.Whole (end.Bad at fault) = None
verdict_by counts taken end.Whole end.Open = None
verdict_by counts taken end.Limit last = None
verdict_by counts taken (end.Bad at fault) last = None
verdict_by counts taken end.Open last = None

-- the sums, and the verdict if there is one
abbrev pub behind_of : Counts → Option (Option ℕ) → List ℕ
behind_of counts None = sums_line (sums_as counts)
behind_of counts (Some left) = sums_line (sums_as counts) ++ verdict_line (verdict_as left)

-- of a stage
abbrev pub said_behind : Comparison → List ℕ
said_behind now = behind_of now.counts (verdict_by now.counts now.after.taken now.before.end now.after.end)

-- ---- one packet

-- the node can have sent the packet that is held of BEFORE on as that of AFTER
abbrev pub IsLegal : Comparison → Type 0
IsLegal now = IsSentAs now.seat.domain.now now.seat.node.0 (end_of (slice_get (links now.seat.domain.now) now.seat.link.0)) now.before.packet.items now.after.packet.items

-- what becomes of the packet of BEFORE that was taken, or why it has none
abbrev pub FateOf : Comparison → Option Reason → Fate → Type 0
FateOf now why (Skipped reason) = why ≡ Some reason
FateOf now why Gone = (why ≡ None) × (now.ahead ≡ ahead.Held → IsLegal now → ⊥)
FateOf now why (Sent m) = (why ≡ None) × (now.ahead ≡ ahead.Held) × IsLegal now × (m ≡ now.counts.sent + 1)

-- the stage after it: one packet more is counted, and if it was sent on what comes next of AFTER isn't known
abbrev pub behind : Fate → Comparison → Comparison
behind (Sent m) now = record now { ahead = ahead.Asked; counts = record now.counts { sent = now.counts.sent + 1 } }
behind Gone now = record now { counts = record now.counts { gone = now.counts.gone + 1 } }
behind (Skipped why) now = record now { counts = record now.counts { skipped = now.counts.skipped + 1 } }

-- ---- what the stage stands for

-- more of AFTER may come, unless it is over
abbrev pub MayCome : Lookahead → List Taken → Type 0
MayCome ahead.Over more = more ≡ []
MayCome ahead.Asked more = ⊤
MayCome ahead.Held more = ⊤
MayCome ahead.Unfit more = ⊤

-- what comes next of AFTER is asked for or held while more may come
abbrev pub IsAhead : Lookahead → End → Type 0
IsAhead ahead.Over last = last ≡ end.Open → ⊥
IsAhead ahead.Asked last = last ≡ end.Open
IsAhead ahead.Held last = last ≡ end.Open
IsAhead ahead.Unfit last = last ≡ end.Open

-- the records of AFTER that are left: none if it isn't known what comes next or none comes, else one
abbrev pub RestIs : Lookahead → List ℕ → List Taken → Type 0
RestIs ahead.Asked packet rest = rest ≡ []
RestIs ahead.Held packet rest = (t : Taken) × (rest ≡ t ∷ []) × HoldsPacket t packet
RestIs ahead.Unfit packet rest = (t : Taken) × (rest ≡ t ∷ []) × ((why : Reason) × HasReason t why)
RestIs ahead.Over packet rest = rest ≡ []

-- a read failed: BEFORE was over; or these records are all that were handed out whole of it; or more of AFTER is needed, of which
-- these are all that were
abbrev pub IsHalted : Seen → Comparison → List Taken → List Taken → Type 0
IsHalted seen now xs ys = (now.before.end ≡ end.Open → ⊥) ⊎ (ShowsSo (seen.fed 0) false xs None
    ⊎ ((now.before.end ≡ end.Open) × (now.ahead ≡ ahead.Asked) × ShowsSo (seen.fed 1) false ys None))

-- why no packet is judged any more: both captures are over, or a read of one of them failed
abbrev pub HasStopped : Seen → Comparison → List Taken → List Taken → Type 0
HasStopped seen now xs ys = ((seen.cut ≡ false) × (now.before.end ≡ end.Open → ⊥) × (now.after.end ≡ end.Open → ⊥))
    ⊎ ((seen.cut ≡ true) × ((now.before.end ≡ end.Open) ⊎ (now.after.end ≡ end.Open)) × IsHalted seen now xs ys)

abbrev pub InPhase : Phase → Seen → Comparison → List Taken → List Taken → Type 0
InPhase phase.Judging seen now xs ys = seen.cut ≡ false
InPhase phase.Closing seen now xs ys = HasStopped seen now xs ys
InPhase phase.Closed seen now xs ys = HasStopped seen now xs ys

-- what was said after the lines
abbrev pub tail_in : Phase → List ℕ → List ℕ
tail_in phase.Judging tail = []
tail_in phase.Closing tail = []
tail_in phase.Closed tail = tail

-- the records `xs` of BEFORE became these, whatever more of AFTER comes; of the records `ys` of AFTER these are left
pub record Core (begun : Comparison) (seen : Seen) (fates : List Fate) (now : Comparison) : Type 0 where
  pub xs : List Taken
  pub ys : List Taken
  pub rest : List Taken
  pub seat : place_of now.seat ≡ place_of begun.seat
  pub before : At (seen.fed 0) (seen.ended 0) now.before xs
  pub after : At (seen.fed 1) (seen.ended 1) now.after ys
  pub are : (more : List Taken) → MayCome now.ahead more → BecomeOf (place_of now.seat) xs (ys ++ more) fates (rest ++ more)
  pub is_ahead : IsAhead now.ahead now.after.end
  pub rest_is : now.before.end ≡ end.Open → RestIs now.ahead now.after.packet.items rest
  pub counts_are : sums_as now.counts ≡ sums_of fates

-- and the lines of these were said, and what comes after them
pub record Stands (begun : Comparison) (seen : Seen) (so_far : List (List ℕ)) (now : Comparison) : Type 0 where
  pub fates : List Fate
  pub core : Core begun seen fates now
  pub said : so_far ≡ (lines_of 1 fates ++ tail_in now.phase (said_behind now)) ∷ []
  pub in_phase : InPhase now.phase seen now core.xs core.ys

-- nothing was handed out
pub record IsFresh (now : Comparison) : Type 0 where
  pub before : cursors.IsFresh now.before
  pub after : cursors.IsFresh now.after
  pub asked : now.ahead ≡ ahead.Asked
  pub judging : now.phase ≡ phase.Judging
  pub counts : sums_as now.counts ≡ sums_of []

-- it needs more of an input
pub record IsShort (now : Comparison) (input : ℕ) : Type 0 where
  pub judging : now.phase ≡ phase.Judging
  pub side : ((input ≡ 0) × (now.before.end ≡ end.Open) × Waits now.before.reader)
      ⊎ ((input ≡ 1) × (now.after.end ≡ end.Open) × Waits now.after.reader × (now.ahead ≡ ahead.Asked))

-- these octets are all of both captures, or what was handed out of them
abbrev pub Holds : How → Seen → (ℕ → List ℕ) → Type 0
Holds Ended seen octets = (seen.cut ≡ false) × Covers 2 seen octets
Holds Handed seen octets = (seen.cut ≡ true) × ((i : ℕ) → seen.fed i ≡ octets i)

-- all is said
pub record AreTexts (begun now : Comparison) (how : How) (octets : ℕ → List ℕ) (so : List (List ℕ)) : Type 0 where
  pub seen : Seen
  pub holds : Holds how seen octets
  pub stands : Stands begun seen so now
  pub closed : now.phase ≡ phase.Closed

-- the sums, unless they were said
abbrev pub sums_in : Phase → Counts → List ℕ
sums_in phase.Judging counts = sums_line (sums_as counts)
sums_in phase.Closing counts = sums_line (sums_as counts)
sums_in phase.Closed counts = []

-- what some stage says of what was handed out of these octets, with the sums
pub record AreFirsts (begun : Comparison) (octets : ℕ → List ℕ) (so : List (List ℕ)) : Type 0 where
  pub now : Comparison
  pub seen : Seen
  pub so_far : List (List ℕ)
  pub covers : Covers 2 seen octets
  pub stands : Stands begun seen so_far now
  pub so_is : so ≡ said_more so_far (sums_in now.phase now.counts ∷ [])

-- both captures are over, and what comes after the lines was said; or that isn't so
abbrev pub IsSealedIn : Phase → Bool → Type 0
IsSealedIn phase.Judging cut = ⊥
IsSealedIn phase.Closing cut = ⊥
IsSealedIn phase.Closed cut = cut ≡ false

abbrev pub IsSealed : Comparison → (ℕ → List ℕ) → List (List ℕ) → Type 0
IsSealed begun octets so = (firsts : AreFirsts begun octets so) × IsSealedIn firsts.now.phase firsts.seen.cut

abbrev pub IsPart : Comparison → (ℕ → List ℕ) → List (List ℕ) → Type 0
IsPart begun octets so = (firsts : AreFirsts begun octets so) × (IsSealedIn firsts.now.phase firsts.seen.cut → ⊥)

-- ---- measures

abbrev pub ahead_left : Lookahead → ℕ
ahead_left ahead.Asked = 1
ahead_left ahead.Held = 2
ahead_left ahead.Unfit = 2
ahead_left ahead.Over = 0

abbrev pub end_left : End → ℕ
end_left end.Open = 1
end_left end.Whole = 0
end_left (end.Bad at fault) = 0
end_left end.Limit = 0

abbrev pub phase_left : Phase → ℕ
phase_left phase.Judging = 2
phase_left phase.Closing = 1
phase_left phase.Closed = 0

abbrev pub not_yet : Bool → ℕ
not_yet true = 0
not_yet false = 1

abbrev pub kind : Kind Comparison
kind = record {
  inputs = λ now. 2;
  width = λ now. 1;
  fresh = IsFresh;
  stands = Stands;
  texts = AreTexts;
  firsts = AreFirsts;
  sealed = IsSealed;
  parts = IsPart;
  drains = λ now. (now.before.end ≡ end.Whole) × (now.after.end ≡ end.Whole);
  marks = λ now ended. (ended 0 ≡ now.before.ended) × (ended 1 ≡ now.after.ended);
  waits = IsShort;
  held = λ now. 3 * (16777216 - now.before.taken) + 3 * (16777216 - now.after.taken) + ahead_left now.ahead + end_left now.before.end + phase_left now.phase;
  room = λ now. (2 ^ 63 - fed now.before.reader) + (2 ^ 63 - fed now.after.reader) + not_yet now.before.ended + not_yet now.after.ended;
}

-- ---- laws, which stand here since the `impl` names them

pub fresh_at : (cursor : _) → cursors.IsFresh cursor → At [] false cursor []
fresh_at cursor fresh = record {
  count_is = fresh.taken;
  few = omega arith;
  ended_is = sym fresh.ended;
  stands = subst (λ (e : End). cursors.StandsAt e [] false cursor.reader []) (sym fresh.is_open)
      (refl, subst (λ (r : Reading). ReaderStands r [] []) (sym fresh.reader) (refl, omega arith, refl));
}

pub begun_stands : (begun : Comparison) → IsFresh begun → Stands begun unseen ([] ∷ []) begun
begun_stands begun fresh = record {
  fates = [];
  core = record {
    xs = [];
    ys = [];
    rest = [];
    seat = refl;
    before = fresh_at begun.before fresh.before;
    after = fresh_at begun.after fresh.after;
    are = λ more may. refl;
    is_ahead = subst (λ (a : Lookahead). IsAhead a begun.after.end) (sym fresh.asked) fresh.after.is_open;
    rest_is = λ more. subst (λ (a : Lookahead). RestIs a begun.after.packet.items []) (sym fresh.asked) refl;
    counts_are = fresh.counts;
  };
  said = subst (λ (p : Phase). ([] ∷ []) ≡ (([] ++ tail_in p (said_behind begun)) ∷ [])) (sym fresh.judging) refl;
  in_phase = subst (λ (p : Phase). InPhase p unseen begun [] []) (sym fresh.judging) refl;
}

pub unseen_covers : (octets : ℕ → List ℕ) → Covers 2 unseen octets
unseen_covers octets = record { front = λ i inside. record { rest = octets i; is = refl }; whole = λ i inside done. absurd (false≢true done) }

pub leads_as : (begun : Comparison) (seen : Seen) (so_far : List (List ℕ)) (now : Comparison) (octets : ℕ → List ℕ) → Covers 2 seen octets → Stands begun seen so_far now
    → (IsSealedIn now.phase seen.cut → ⊥) → Leads kind begun octets so_far
leads_as begun seen so_far now octets covers stands unsealed = (
  sums_in now.phase now.counts ∷ [],
  refl,
  (record { now = now; seen = seen; so_far = so_far; covers = covers; stands = stands; so_is = refl }, unsealed),
)

pub begins_as : (begun : Comparison) (seen : Seen) (so_far : List (List ℕ)) (now : Comparison) (octets : ℕ → List ℕ) → Covers 2 seen octets → Stands begun seen so_far now
    → (p : Phase) (cut : Bool) → now.phase ≡ p → seen.cut ≡ cut → Leads kind begun octets so_far ⊎ IsSealed begun octets so_far
begins_as begun seen so_far now octets covers stands phase.Judging cut is cut_is =
    inl (leads_as begun seen so_far now octets covers stands (λ sealed. subst (λ (p : Phase). IsSealedIn p seen.cut) is sealed))
begins_as begun seen so_far now octets covers stands phase.Closing cut is cut_is =
    inl (leads_as begun seen so_far now octets covers stands (λ sealed. subst (λ (p : Phase). IsSealedIn p seen.cut) is sealed))
begins_as begun seen so_far now octets covers stands phase.Closed true is cut_is =
    inl (leads_as begun seen so_far now octets covers stands (λ sealed. true≢false (sym cut_is ∙ subst (λ (p : Phase). IsSealedIn p seen.cut) is sealed)))
begins_as begun seen so_far now octets covers stands phase.Closed false is cut_is = inr (
  record {
    now = now;
    seen = seen;
    so_far = so_far;
    covers = covers;
    stands = stands;
    so_is = stands.said ∙ ap (λ (xs : List ℕ). xs ∷ []) (sym (append-nil (lines_of 1 stands.fates ++ tail_in now.phase (said_behind now))))
        ∙ ap (λ (xs : List ℕ). said_more ((lines_of 1 stands.fates ++ tail_in now.phase (said_behind now)) ∷ []) (xs ∷ [])) (sym (ap (λ (p : Phase). sums_in p now.counts) is))
        ∙ ap (λ (so : List (List ℕ)). said_more so (sums_in now.phase now.counts ∷ [])) (sym stands.said);
  },
  subst (λ (p : Phase). IsSealedIn p seen.cut) (sym is) cut_is,
)

unsealed_in : (p : Phase) (cut : Bool) → (p ≡ phase.Closed → ⊥) → IsSealedIn p cut → ⊥
unsealed_in phase.Judging cut other sealed = sealed
unsealed_in phase.Closing cut other sealed = sealed
unsealed_in phase.Closed cut other sealed = other refl

-- before all is said, what was said leads to texts that aren't sealed
pub leading : (now : Comparison) → (now.phase ≡ phase.Closed → ⊥) → Leading kind now
leading now other begun seen so_far octets covers stands = leads_as begun seen so_far now octets covers stands (unsealed_in now.phase seen.cut other)

pub short_leads : (now : Comparison) (input : ℕ) → IsShort now input → Leading kind now
short_leads now input short = leading now (λ closed. not_both (sym short.judging ∙ closed))
  where
    not_both : phase.Judging ≡ phase.Closed → ⊥
    not_both same = cc

pub judging_open : (begun : Comparison) → IsFresh begun → IsSealedIn begun.phase false → ⊥
judging_open begun fresh sealed = subst (λ (p : Phase). IsSealedIn p false) fresh.judging sealed

abbrev pub lawful : Lawful kind
lawful = record {
  begins = λ begun seen so_far now octets covers stands. begins_as begun seen so_far now octets covers stands now.phase seen.cut refl refl;
  waits = short_leads;
  none = λ begun octets fresh. (
    said_more ([] ∷ []) (sums_in begun.phase begun.counts ∷ []),
    refl,
    (
      record { now = begun; seen = unseen; so_far = [] ∷ []; covers = unseen_covers octets; stands = begun_stands begun fresh; so_is = refl },
      judging_open begun fresh,
    ),
  );
  parts = λ begun octets so part. part.0;
  sealed = λ begun octets so sealed. sealed.0;
  width = λ begun seen so_far now stands. refl;
}
