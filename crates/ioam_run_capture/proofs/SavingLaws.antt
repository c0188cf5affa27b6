-- The capture that `save` writes, with one record more, and that it reads as what IN reads as.
use Rattle.std.proofs.Common.{◌≡◌, ℕ, ◌+◌, ◌<◌, ◌≤◌, All, IsSomeAnd, List, [], ◌∷◌, ◌++◌, length, Option, refl, sym, ◌∙◌, ap, subst, length-append, arith}
use Rattle.std.proofs.lemmas.List.Elements.{All-nil, All-cons, All-push}
use Rattle.ioam_run_stream.specs.Reads.{Reads}
use Rattle.ioam_run_stream.proofs.ReadsLaws.{Reads-unique}
use Rattle.ioam_desk.specs.Desk.{Reading, Writing, holds}
use Rattle.ioam_ng.specs.Text.{capture_text, packet_octets, IsSendable}
use Rattle.ioam_ng.proofs.TextLaws.{capture_text-with}
use Rattle.ioam_desk_outputs.specs.Held.{HoldTexts}
use Rattle.ioam_desk_outputs.specs.Names.{name_at}
use Rattle.ioam_desk_outputs.specs.Told.{said_more}
use Rattle.ioam_pcap.specs.Ending.{Whole}
use Rattle.ioam_pcap.specs.Entries.{Taken}
use Rattle.ioam_run_answer.specs.Outcomes.{IsDone}
use Rattle.ioam_run_answer.specs.declared.outcome.Outcome.{Outcome}
use Rattle.ioam_run_answer.specs.declared.outcome.Outcome.TheVariants as outcome
use Rattle.ioam_run_stream.specs.Promise.{most_packets, HoldsAll, EndsSo, Leaves}
use Rattle.ioam_run_capture.specs.SaveText.{SaveTexts, SavesAll}
use Rattle.ioam_run_capture.specs.Saving.{heads, Saves}
use Rattle.ioam_run_capture.specs.declared.saving.Saving.{Saving}
use Rattle.ioam_run_stream.proofs.AskedLaws.{both}

-- the head of a capture is less than a piece
pub heads-few : All (λ (text : List ℕ). length text < 65536) heads
heads-few =
    let P : List ℕ → Type 0 = λ text. length text < 65536 in
    let head : length (capture_text []) ≡ 92 = refl in
    All-cons P (capture_text []) [] (omega (arith, head)) (All-nil P)

-- one record more
pub Saves-push : (old new : Saving) (t : Taken) → IsSendable t → new.packets ≡ old.packets + 1
    → (ts : List Taken) (texts : List (List ℕ)) → Saves ts texts old → Saves (ts ++ t ∷ []) (said_more texts (packet_octets t ∷ [])) new
Saves-push old new t fits counted ts [] saves = absurd saves
Saves-push old new t fits counted ts (out ∷ []) saves = record {
  out_is = ap (λ (front : List ℕ). front ++ packet_octets t) saves.out_is ∙ sym (capture_text-with ts t);
  fits = All-push IsSendable ts t saves.fits fits;
  count = omega (arith, counted, saves.count, length-append ts (t ∷ []));
}
Saves-push old new t fits counted ts (out ∷ more ∷ texts) saves = absurd saves

-- OUT reads as the records whose capture it is
saved_held : (ts : List Taken) (texts : List (List ℕ)) (output : List ℕ) (new : Writing) → length ts ≤ most_packets
    → SaveTexts ts texts → HoldTexts new (output ∷ []) texts → IsSomeAnd (holds new output) (λ octets. Reads octets ts Whole)
saved_held ts [] output new few are held = absurd are
saved_held ts (out ∷ []) output new few are held =
    let P : Option (List ℕ) → Type 0 = λ o. IsSomeAnd o (λ octets. Reads octets ts Whole) in
    subst P (sym held.0) (are.reads few)
saved_held ts (out ∷ more ∷ texts) output new few are held = absurd are

-- and they are those of IN
saved_all : (input output : List ℕ) (old new : Writing)
    → IsSomeAnd (holds old input) (HoldsAll most_packets SaveTexts (output ∷ []) (EndsSo Whole) new) → SavesAll input output old new
saved_all input output old new held taken reads =
    let it = both (holds old input) (HoldsAll most_packets SaveTexts (output ∷ []) (EndsSo Whole) new) (λ octets. Reads octets taken Whole) held reads in
    let same : it.1.taken ≡ taken = (Reads-unique it.0 it.1.taken taken Whole Whole it.1.are it.2).0 in
    let P : List Taken → Type 0 = λ ts. IsSomeAnd (holds new output) (λ octets. Reads octets ts Whole) in
    subst P same (saved_held it.1.taken it.1.texts output new it.1.few it.1.texts_are it.1.held)

module _ (input output : List ℕ) (old_in new_in : Reading) (old new : Writing) where
  pub Leaves-saved : (answer : Outcome) → Leaves most_packets SaveTexts (output ∷ []) input old_in new_in old new answer → IsDone answer → SavesAll input output old new
  Leaves-saved outcome.Done leaves done = saved_all input output old new leaves
  Leaves-saved (outcome.Capture name at fault) leaves done = absurd done
  Leaves-saved (outcome.Packets limit) leaves done = absurd done
  Leaves-saved (outcome.Exports place fault) leaves done = absurd done
  Leaves-saved (outcome.Ipfix place fault) leaves done = absurd done
  Leaves-saved (outcome.Part which place fault) leaves done = absurd done
  Leaves-saved (outcome.Records limit) leaves done = absurd done
  Leaves-saved outcome.ReadFault leaves done = absurd done
  Leaves-saved outcome.Usage leaves done = absurd done
  Leaves-saved (outcome.Domain why) leaves done = absurd done
  Leaves-saved (outcome.Readings why) leaves done = absurd done
  Leaves-saved (outcome.Names name) leaves done = absurd done
  Leaves-saved outcome.WriteFault leaves done = absurd done
  Leaves-saved outcome.NoMemory leaves done = absurd done

-- one name, by its place
pub one_name : (names : List (List ℕ)) → length names ≡ 1 → names ≡ name_at names 0 ∷ []
one_name [] one = absurd (omega (arith, one))
one_name (a ∷ []) one = refl
one_name (a ∷ b ∷ more) one = absurd (omega (arith, one))
