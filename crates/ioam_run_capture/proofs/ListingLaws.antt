-- The text of a list, with one record more.
use Rattle.std.proofs.Common.{◌≡◌, ℕ, ◌+◌, List, [], ◌∷◌, ◌++◌, length, Result, Ok, Err, OnOk, Option, Some, refl, sym, ◌∙◌, ap, subst, inl, inr, append_assoc, append-nil, length-append, arith}
use Rattle.std.specs.Prelude.{decimal, is_ok, if◌then◌else◌}
use Rattle.ioam_ip.specs.Chain.{IsSound}
use Rattle.ioam_ip.specs.Framing.{Framing, Holds, NoIpv6, CutShort, TooShort}
use Rattle.ioam_node.specs.Admission.{reason_of}
use Rattle.ioam_node.specs.declared.reason.Reason.{Reason}
use Rattle.ioam_pcap.specs.Entries.{Taken}
use Rattle.ioam_run_capture.specs.ListText.{PacketLines, FramingLines, EntryLines, Lines, skip_line}
use Rattle.ioam_desk_outputs.specs.Told.{said_more}
use Rattle.ioam_run_capture.specs.Listing.{Lists}
use Rattle.ioam_run_capture.specs.declared.listing.Listing.{Listing}
use Rattle.ioam_run_capture.proofs.OneTextLaws.{Lines-unique}
use Rattle.ioam_node.specs.declared.reason.Reason.TheVariants as reason

-- what was appended where it was
pub appended : {T E : Type 0} (r : Result T E) (old new more : List ℕ) → new ≡ (if is_ok r then old ++ more else old) → OnOk r (new ≡ old ++ more)
appended (Ok x) old new more is = is
appended (Err e) old new more is = tt

module _ (Tells : List ℕ → List ℕ → Type 0) where
  pub packet_listed : (number : ℕ) (packet old new told : List ℕ) → IsSound packet → Tells packet told
      → new ≡ (old ++ decimal number) ++ told → (text : List ℕ) × PacketLines Tells number packet text × (new ≡ old ++ text)
  packet_listed number packet old new told sound text is =
      (decimal number ++ told, inr (sound, (told, text, refl)), is ∙ append_assoc old (decimal number) told)

  pub packet_skipped : (number : ℕ) (packet old new : List ℕ) → (IsSound packet → ⊥) → new ≡ old ++ skip_line number reason.Chain
      → (text : List ℕ) × PacketLines Tells number packet text × (new ≡ old ++ text)
  packet_skipped number packet old new unsound is = (skip_line number reason.Chain, inl (unsound, refl), is)

  -- the line of a frame that holds no packet says its reason
  pub FramingLines-skip : (number : ℕ) (framing : Framing) (why : Reason) → reason_of framing ≡ Some why
      → FramingLines Tells number framing (skip_line number why)
  FramingLines-skip number (Holds packet) why is = absurd (cc is)
  FramingLines-skip number NoIpv6 why is = let same : why ≡ reason.NotIpv6 = cc is in ap (λ (r : Reason). skip_line number r) same
  FramingLines-skip number CutShort why is = let same : why ≡ reason.Cut = cc is in ap (λ (r : Reason). skip_line number r) same
  FramingLines-skip number TooShort why is = let same : why ≡ reason.Length = cc is in ap (λ (r : Reason). skip_line number r) same

  Lines-push : (number : ℕ) (ts : List Taken) (lines : List ℕ) (t : Taken) (text : List ℕ) → Lines Tells number ts lines
      → EntryLines Tells (number + length ts) t text → Lines Tells number (ts ++ t ∷ []) (lines ++ text)
  Lines-push number [] lines t text are has =
      let P : ℕ → Type 0 = λ n. EntryLines Tells n t text in
      let here : number + 0 ≡ number = omega arith in
      (text, [], subst P here has, refl, ap (λ (front : List ℕ). front ++ text) are ∙ sym (append-nil text))
  Lines-push number (f ∷ ts) lines t text are has =
      let P : ℕ → Type 0 = λ n. EntryLines Tells n t text in
      let here : number + length (f ∷ ts) ≡ number + 1 + length ts = omega arith in (
        are.0,
        are.1 ++ text,
        are.2,
        Lines-push (number + 1) ts are.1 t text are.3 (subst P here has),
        ap (λ (front : List ℕ). front ++ text) are.4 ∙ append_assoc are.0 are.1 text,
      )

  -- one record more
  pub Lists-push : {L : Type 0} (one : (packet text other : List ℕ) → Tells packet text → Tells packet other → text ≡ other) (old new : Listing L) (t : Taken) (number : ℕ) (added : List ℕ) → number ≡ old.packets + 1
      → EntryLines Tells number t added → new.packets ≡ old.packets + 1
      → (ts : List Taken) (texts : List (List ℕ)) → Lists Tells ts texts old → Lists Tells (ts ++ t ∷ []) (said_more texts (added ∷ [])) new
  Lists-push one old new t number added is lines counted ts [] lists = absurd lists
  Lists-push one old new t number added is lines counted ts (text ∷ []) lists =
      let P : ℕ → Type 0 = λ n. EntryLines Tells n t added in
      let place : number ≡ 1 + length ts = omega (arith, is, lists.count) in
      let more : Lines Tells 1 (ts ++ t ∷ []) (text ++ added) = Lines-push 1 ts text t added lists.lines (subst P place lines) in
      record {
        lines = more;
        only = λ others are. Lines-unique Tells one 1 (ts ++ t ∷ []) others (text ++ added) are more;
        count = omega (arith, counted, lists.count, length-append ts (t ∷ []));
      }
  Lists-push one old new t number added is lines counted ts (text ∷ more ∷ texts) lists = absurd lists
