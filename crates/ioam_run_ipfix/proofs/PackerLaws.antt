-- How records are read and packed.
use Rattle.std.proofs.Common.{◌≡◌, ℕ, ◌+◌, ◌-◌, ◌^◌, ◌<◌, ◌≤◌, List, [], ◌∷◌, ◌++◌, length, get_or, set, refl, sym, ap, ◌∙◌, subst, append-nil, append_assoc, length-append, arith, Option, Some, None}
use Rattle.std.specs.Prelude.{flat_map}
use Rattle.std.proofs.lemmas.List.{append_cancel_left}
use Rattle.std.proofs.lemmas.List.Elements.{recursion_from_All, All-nil, All-cons}
use Rattle.ioam_desk_outputs.specs.Told.{Adds, GathersFew, GathersNothing, said_more}
use Rattle.ioam_desk_outputs.specs.declared.output.Output.{Output}
use Rattle.ioam_desk_outputs.proofs.ToldLaws.{Adds-few}
use Rattle.ioam_dex.specs.Record.{Record, IsRecord}
use Rattle.ioam_dex.specs.Reads.{Faulty, Reads}
use Rattle.ioam_dex.specs.Reading.{Reading}
use Rattle.ioam_dex.specs.Reader.{Stands, Waits, ending_of, fed}
use Rattle.ioam_dex.specs.declared.export.ExportFault.{ExportFault}
use Rattle.ioam_dex.specs.Showing.{Gives}
use Rattle.ioam_dex.proofs.ReadsLaws.{Splits-feed}
use Rattle.ioam_ipfix.specs.Templates.{template_octets, all_ids}
use Rattle.ioam_ipfix.specs.Written.{templates_message, runs_text, messages_text}
use Rattle.ioam_ipfix.proofs.WrittenLaws.{templates-short}
use Rattle.ioam_run_ipfix.specs.Packer.{Are, ArePacked, cause_of, IsEnd, IsPacking, IsStopped, does}
use Rattle.ioam_run_ipfix.specs.Packing.{Packed, IsPacked, Packs, Ends as PutsRest}
use Rattle.ioam_run_ipfix.specs.Texts.{AreMessages}
use Rattle.ioam_run_ipfix.specs.declared.packer.Packer.{Packer}
use Rattle.ioam_run_ipfix.specs.declared.packer.Cause.{Cause}
use Rattle.ioam_run_ipfix.specs.declared.packer.Cause.TheVariants as cause
use Rattle.ioam_run_ipfix.proofs.PackingLaws.{packed-count, packed-rest}
use Rattle.ioam_run_answer.proofs.ExportsLaws.{cut_few, octets_few}
use Rattle.ioam_run_answer.proofs.CallLaws.{adds_one}
use Rattle.ioam_stream.specs.Conversion.{StandsSo, StopsSo, TakesOne, TakesNone, Finishes, SaysLast, Opens, Refills}
use Rattle.ioam_stream.specs.Stage.{How, Ended, Handed}

-- ---- the texts

-- with the run that is gathered
all_cut : (done : List (ℕ × List Record)) (records : List Record) (packing : Packed) → IsPacked done records packing
    → (rest : List ℕ) × AreMessages records (messages_text done ++ rest)
all_cut done records packing packed =
    let rest = packed-rest done records packing packed in
    (rest.1, record { runs = rest.0; cut = rest.2; is = append_assoc templates_message (runs_text 0 done) rest.1 ∙ ap (λ o. templates_message ++ o) (sym rest.3) })

-- one more thing is said
said_on : (done runs : List (ℕ × List Record)) (so_far : List (List ℕ)) (out now added other : List ℕ) → so_far ≡ messages_text done ∷ [] → now ≡ out ++ added → now ≡ out ++ other
    → runs_text 0 runs ≡ runs_text 0 done ++ other → said_more so_far (added ∷ []) ≡ messages_text runs ∷ []
said_on done runs so_far out now added other said is too text =
    let same : added ≡ other = append_cancel_left out added other (sym is ∙ too) in
    ap (λ (ts : List (List ℕ)). said_more ts (added ∷ [])) said
    ∙ ap (λ (o : List ℕ). o ∷ []) (append_assoc templates_message (runs_text 0 done) added ∙ ap (λ o. templates_message ++ (runs_text 0 done ++ o)) same ∙ ap (λ o. templates_message ++ o) (sym text))

-- ---- the first text

templates_few : length (messages_text []) < 65536
templates_few = omega (arith, templates-short all_ids, length-append (flat_map template_octets all_ids) [])

module _ (packer : Packer) (outputs : List Output) (d now : Output) (one : length outputs ≡ 1) (slot : now.slot ≡ (get_or outputs 0 d).slot)
    (is : now.gathered.items ≡ (get_or outputs 0 d).gathered.items ++ templates_message) where
  adds : Adds outputs (set outputs 0 now) (messages_text [] ∷ [])
  adds = adds_one outputs d now (messages_text []) one slot (is ∙ ap (λ o. (get_or outputs 0 d).gathered.items ++ o) (sym (append-nil templates_message)))

  pub packer_opens : Opens does packer outputs (set outputs 0 now)
  packer_opens = (
    messages_text [] ∷ [],
    adds,
    λ fresh.
        let rest = all_cut [] [] packer.packing fresh.packed in
        record {
          records = [];
          done = [];
          stands = fresh.stands;
          few = omega arith;
          packed = fresh.packed;
          said = refl;
          cause = fresh.cause;
          rest = rest.0;
          leads = rest.1;
        },
  )

  pub opens_few : GathersNothing outputs → GathersFew (set outputs 0 now)
  opens_few nothing = Adds-few outputs (set outputs 0 now) (messages_text [] ∷ []) nothing adds
      (All-cons (λ (text : List ℕ). length text < 65536) (messages_text []) [] templates_few (All-nil (λ (text : List ℕ). length text < 65536)))

-- ---- one record

pub packer_few : (packer : Packer) → StandsSo does packer → packer.packing.before + packer.packing.held ≤ 67108864
packer_few packer so = let s = so.stands in let few = s.few in omega (arith, few, packed-count s.done s.records packer.packing s.packed)

module _ (old new : Packer) (outputs : List Output) (d now : Output) (x : Record) (one : length outputs ≡ 1) (slot : now.slot ≡ (get_or outputs 0 d).slot) where
  pub packer_takes : StandsSo does old → old.packing.before + old.packing.held < 67108864 → Gives old.reader new.reader x
      → Packs old.packing new.packing x (get_or outputs 0 d).gathered.items now.gathered.items → new.cause ≡ old.cause → TakesOne does old new outputs (set outputs 0 now)
  packer_takes so room gives packs kept =
      let s = so.stands in
      let put = packs s.done s.records s.packed in
      let more = length-append s.records (x ∷ []) in
      record {
        held = omega (arith, room, more, packed-count s.done s.records old.packing s.packed, packed-count put.0 (s.records ++ x ∷ []) new.packing put.2);
        added = put.1 ∷ [];
        adds = adds_one outputs d now put.1 one slot put.3;
        stands = λ begun octets so_far t.
            let more_put = packs t.done t.records t.packed in
            let rest = all_cut more_put.0 (t.records ++ x ∷ []) new.packing more_put.2 in
            let size = length-append t.records (x ∷ []) in
            record {
              records = t.records ++ x ∷ [];
              done = more_put.0;
              stands = gives octets t.records t.stands;
              few = omega (arith, size, room, packed-count t.done t.records old.packing t.packed);
              packed = more_put.2;
              said = said_on t.done more_put.0 so_far (get_or outputs 0 d).gathered.items now.gathered.items put.1 more_put.1 t.said put.3 more_put.3 more_put.4;
              cause = kept ∙ t.cause;
              rest = rest.0;
              leads = rest.1;
            };
      }

-- ---- no more records

stopped_by : (how : How) (octets whole : List ℕ) (so_far : List (List ℕ)) (old new : Packer) (s : IsPacking octets so_far old) → new.packing ≡ old.packing
    → Are new.cause how s.records whole → IsStopped how whole so_far new
stopped_by how octets whole so_far old new s same are = record {
  records = s.records;
  done = s.done;
  are = are;
  few = s.few;
  packed = subst (λ (p : Packed). IsPacked s.done s.records p) (sym same) s.packed;
  said = s.said;
  rest = s.rest;
  leads = s.leads;
}

module _ (old new : Packer) (outputs : List Output) (same : new.packing ≡ old.packing) where
  -- one record too many
  pub packer_limit : new.cause ≡ cause.Limit → 67108864 ≤ old.packing.before + old.packing.held → (x : Record) → Gives old.reader new.reader x → TakesNone does old new outputs outputs
  packer_limit why full x gives = record {
    same = refl;
    held = let same_held = ap (λ (p : Packed). 67108864 - (p.before + p.held)) same in omega (arith, same_held);
    stops = λ begun octets rest so_far s.
        let few = s.few in
        stopped_by Ended octets (octets ++ rest) so_far old new s same (
          subst (λ (k : Cause). ArePacked Ended k s.records (octets ++ rest)) (sym why) (record {
            next = x;
            rest = new.reader.pending ++ rest;
            splits = Splits-feed octets rest (s.records ++ x ∷ []) new.reader.pending (gives octets s.records s.stands).splits;
            all = omega (arith, few, full, packed-count s.done s.records old.packing s.packed);
          }),
          (old.reader.pending ++ rest, Splits-feed octets rest s.records old.reader.pending s.stands.splits),
        );
    undrained = λ drains. subst (λ (k : Cause). IsEnd k) why drains;
  }

  -- a faulty record
  pub packer_bad : (at : ℕ) (fault : ExportFault) → new.cause ≡ cause.Bad at fault
      → ((octets : List ℕ) (records : List Record) → Stands old.reader octets records → (more : List ℕ) → Reads (octets ++ more) records (Faulty at fault))
      → TakesNone does old new outputs outputs
  packer_bad at fault why reads = record {
    same = refl;
    held = let same_held = ap (λ (p : Packed). 67108864 - (p.before + p.held)) same in omega (arith, same_held);
    stops = λ begun octets rest so_far s. stopped_by Ended octets (octets ++ rest) so_far old new s same (
      subst (λ (k : Cause). ArePacked Ended k s.records (octets ++ rest)) (sym why) (reads octets s.records s.stands rest),
      (old.reader.pending ++ rest, Splits-feed octets rest s.records old.reader.pending s.stands.splits),
    );
    undrained = λ drains. subst (λ (k : Cause). IsEnd k) why drains;
  }

-- the input has ended
pub packer_finishes : (old new : Packer) (cut : Option (ℕ × ExportFault)) → new.cause ≡ cause_of cut → new.packing ≡ old.packing → new.reader ≡ old.reader
    → ((octets : List ℕ) (records : List Record) → Stands old.reader octets records → Reads octets records (ending_of cut)) → Finishes does Ended old new
packer_finishes old new cut is same reader reads = record {
  room = ap (λ (r : Reading). 2 ^ 63 - fed r) reader;
  stops = λ begun octets so_far s. stopped_by Ended octets octets so_far old new s same (
    subst (λ (k : Cause). ArePacked Ended k s.records octets) (sym is) (by_cut cut octets s.records (reads octets s.records s.stands)),
    (old.reader.pending, s.stands.splits),
  );
}
  where
    by_cut : (c : Option (ℕ × ExportFault)) (octets : List ℕ) (records : List Record) → Reads octets records (ending_of c) → ArePacked Ended (cause_of c) records octets
    by_cut None octets records read = read
    by_cut (Some (at, fault)) octets records read = read

-- no more can be had of it
pub packer_cut : (packer : Packer) → Waits packer.reader → Finishes does Handed packer packer
packer_cut packer waits = record {
  room = refl;
  stops = λ begun octets so_far s. stopped_by Handed octets octets so_far packer packer s refl (
    record { handed = octets; parts = sym (append-nil octets); rest = packer.reader.pending; splits = s.stands.splits; cut = waits },
    (packer.reader.pending, s.stands.splits),
  );
}

-- ---- the last run

pub packer_closes : (old new : Packer) (outputs : List Output) (d now : Output) → length outputs ≡ 1 → now.slot ≡ (get_or outputs 0 d).slot → StopsSo does old
    → PutsRest old.packing (get_or outputs 0 d).gathered.items now.gathered.items → new.reader ≡ old.reader → new.cause ≡ old.cause → SaysLast does old new outputs (set outputs 0 now)
packer_closes old new outputs d now one slot so puts reader why =
    let s = so.stops in
    let put = puts s.done s.records s.packed in
    record {
      room = ap (λ (r : Reading). 2 ^ 63 - fed r) reader;
      added = put.1 ∷ [];
      adds = adds_one outputs d now put.1 one slot put.3;
      texts = λ begun how octets so_far t.
          let all = puts t.done t.records t.packed in
          record {
            records = t.records;
            are = subst (λ (k : Cause). Are k how t.records octets) (sym why) t.are;
            few = t.few;
            text = messages_text all.0;
            is = record { runs = all.0; cut = all.2; is = refl };
            said = said_on t.done all.0 so_far (get_or outputs 0 d).gathered.items now.gathered.items put.1 all.1 t.said put.3 all.3 all.4;
          };
      drains = subst (λ (k : Cause). IsEnd k) why;
    }

-- ---- how much a reader holds

-- a reader that waits was fed no more than the greatest records and the first octets of another
pub packer_room : (packer : Packer) → StandsSo does packer → Waits packer.reader → fed packer.reader < 18387829010
packer_room packer so waits =
    let s = so.stands in
    let few = octets_few s.records (recursion_from_All IsRecord s.records s.stands.splits.each) in
    let at = s.stands.place in
    let count = s.few in
    let cut = cut_few packer.reader.pending waits in
    omega (arith, few, at, count, cut)

-- a piece more was fed
pub packer_feeds : (old new : Packer) (piece : List ℕ) → 0 < length piece → fed old.reader + length piece < 2 ^ 63
    → new.reader ≡ record old.reader { pending = old.reader.pending ++ piece; given = 0 }
    → ((octets : List ℕ) (records : List Record) → Stands old.reader octets records → Stands new.reader (octets ++ piece) records)
    → new.packing ≡ old.packing → new.cause ≡ old.cause → Refills does piece old new
packer_feeds old new piece some fits is stands same why = record {
  room = omega (arith, some, fits, ap fed is, length-append old.reader.pending piece);
  stands = λ begun octets so_far s. record {
    records = s.records;
    done = s.done;
    stands = stands octets s.records s.stands;
    few = s.few;
    packed = subst (λ (p : Packed). IsPacked s.done s.records p) (sym same) s.packed;
    said = s.said;
    cause = why ∙ s.cause;
    rest = s.rest;
    leads = s.leads;
  };
}
