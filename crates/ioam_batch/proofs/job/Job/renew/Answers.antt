use Rattle.std.proofs.Common.{◌≡◌, ◌+◌, ◌≤◌, List, ℕ, length, map, refl, sym, ap, ◌∙◌, arith}
use Rattle.ioam_batch.specs.Jobs.{HasTaps, asked_for, reserved_of, spare_by}
use Rattle.ioam_batch.specs.Taps.{is_tapped}
use Rattle.ioam_batch.specs.declared.job.Job.{Job}
use Rattle.ioam_batch.proofs.MakingLaws.{holds-made}
use Rattle.ioam_batch.proofs.ReservedLaws.{asked-most, reserved-is}
use Rattle.ioam_batch.proofs.RunLaws.{taps-begin}
use Rattle.ioam_batch.proofs.job.Job.renew.Goals as goal
use Rattle.ioam_plan.specs.declared.itinerary.Visit.{Visit}

pub returns-clause-made : goal.returns-clause-made
returns-clause-made c =
    let it = c.args.itinerary in
    let octets = c.in_ok-octets.octets in
    let job : Job = record { itinerary = it; packet = octets; crossings = c.renew.new.self; room = c.in_ok-room.room } in
    let ahead = c.in_ok-renew.ensures.ahead ∙ ap (λ (vs : List Visit). map (is_tapped c.args.domain.now) vs) c.list-visits.ensures.visits in
    let spare : job.room.spare ≡ spare_by it.carried it octets.items =
    c.in_ok-room.ensures.spare ∙ ap (λ (xs : List ℕ). spare_by it.carried it xs) c.deref.ensures.value in
    let given : job.room.spare + length job.room.notes ≡ spare_by it.carried it octets.items =
    omega (arith, spare, ap length c.in_ok-room.ensures.notes) in
    let size : job.crossings.size ≡ length octets.items = omega (arith, c.in_ok-renew.ensures.size, c.len.ensures) in
    let taps : HasTaps c.args.domain.now job = taps-begin job.crossings _ c.in_ok-renew.ensures.past ahead in
    let is : reserved_of job ≡ asked_for c.args.domain.now it octets.items = reserved-is c.args.domain.now job taps size given in
    let most : asked_for c.args.domain.now it octets.items ≤ 17825792 =
    asked-most c.args.domain.now it octets.items c.requires.few c.in_ok-octets.ensures.short c.in_ok-octets.ensures.options in
    record {
      of = record {
        itinerary_is = refl;
        holds = c.in_ok-octets.ensures.holds;
        fresh = record {
          visits = c.requires.visits;
          past = c.in_ok-renew.ensures.past;
          ahead = ahead;
          size = sym size;
          notes = c.in_ok-room.ensures.notes;
          exports = c.in_ok-room.ensures.exports;
          spare = spare;
          goes = c.in_ok-octets.ensures.goes;
        };
      };
      holds = holds-made c.args.domain.now c.args.packet.now job c.requires c.in_ok-octets.ensures.goes c.in_ok-octets.ensures.short;
      taps = taps;
      reserved = is;
      most = omega (arith, is, most);
    }
