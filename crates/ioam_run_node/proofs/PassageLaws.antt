-- One thing becomes of a record.
use Rattle.std.proofs.Common.{◌≡◌, ◌↔◌, ℕ, ◌≤◌, Bool, true, false, IsTrue, List, [], ◌∷◌, ◌++◌, length, Some, arith, refl, sym, ap, ◌∙◌, subst, inl, inr}
use Rattle.std.proofs.lemmas.Bool.{false≢true}
use Rattle.ioam_ip.specs.Framing.{Framing, Holds, NoIpv6, CutShort, TooShort}
use Rattle.ioam_node.specs.Admission.{reason_of}
use Rattle.ioam_node.specs.declared.reason.Reason.{Reason}
use Rattle.ioam_pcap.specs.Entries.{Taken}
use Rattle.ioam_run_stream.specs.Frame.{taken_framing}
use Rattle.ioam_run_node.specs.Judged.{IsFit}
use Rattle.ioam_run_node.specs.declared.judging.Judged.{Judged}
use Rattle.ioam_run_node.specs.declared.judging.Judged.TheVariants as judged
use Rattle.ioam_run_node.specs.Passage.{Passage, Drops, PacketPassage, FramingPassage, HasPassage, ArePassages, passage_by, way_for}
use Rattle.ioam_run_node.specs.Seat.{Seat}

-- what is told of by two flags
same_flag : {C : Type 0} (a b : Bool) → (IsTrue a ↔ C) → (IsTrue b ↔ C) → a ≡ b
same_flag true true x y = refl
same_flag false false x y = refl
same_flag true false x y = absurd (false≢true (y.1 (x.0 refl)))
same_flag false true x y = absurd (false≢true (x.1 (y.0 refl)))

module _ (seat : Seat) where
  one_of_packet : (time : ℕ) (packet : List ℕ) (first other : Passage) → PacketPassage seat time packet first → PacketPassage seat time packet other → first ≡ other
  one_of_packet time packet first other (inl x) (inl y) = x.1 ∙ sym y.1
  one_of_packet time packet first other (inl x) (inr y) = absurd (x.0 y.0)
  one_of_packet time packet first other (inr x) (inl y) = absurd (y.0 x.0)
  one_of_packet time packet first other (inr x) (inr y) =
      let told : Bool → Passage = λ ioam. passage_by time packet (way_for seat ioam packet) in
      x.1.2 ∙ ap told (same_flag x.1.0 y.1.0 x.1.1 y.1.1) ∙ sym y.1.2

  one_of_frame : (time : ℕ) (framing : Framing) (first other : Passage) → FramingPassage seat time framing first → FramingPassage seat time framing other → first ≡ other
  one_of_frame time (Holds packet) first other x y = one_of_packet time packet first other x y
  one_of_frame time NoIpv6 first other x y = x ∙ sym y
  one_of_frame time CutShort first other x y = x ∙ sym y
  one_of_frame time TooShort first other x y = x ∙ sym y

  -- a frame that holds no packet is dropped for its reason
  pub FramingPassage-drop : (time : ℕ) (framing : Framing) (why : Reason) → reason_of framing ≡ Some why → FramingPassage seat time framing (Drops why)
  FramingPassage-drop time (Holds packet) why is = absurd (cc is)
  FramingPassage-drop time NoIpv6 why is = cc is
  FramingPassage-drop time CutShort why is = cc is
  FramingPassage-drop time TooShort why is = cc is

  -- of a record whose frame is this
  pub framed_so : (t : Taken) (framing : Framing) (passage : Passage) → framing ≡ taken_framing t
      → FramingPassage seat t.entry.time framing passage → HasPassage seat t passage
  framed_so t framing passage is has =
      let P : Framing → Type 0 = λ f. FramingPassage seat t.entry.time f passage in subst P is has

  -- and of records one list
  pub ArePassages-unique : (ts : List Taken) (passages others : List Passage) → ArePassages seat ts passages
      → ArePassages seat ts others → passages ≡ others
  ArePassages-unique [] [] [] x y = refl
  ArePassages-unique [] [] (other ∷ others) x y = absurd y
  ArePassages-unique [] (passage ∷ passages) others x y = absurd x
  ArePassages-unique (t ∷ ts) [] others x y = absurd x
  ArePassages-unique (t ∷ ts) (passage ∷ passages) [] x y = absurd y
  ArePassages-unique (t ∷ ts) (passage ∷ passages) (other ∷ others) x y =
      let here : passage ≡ other = one_of_frame t.entry.time (taken_framing t) passage other x.0 y.0 in
      let behind : passages ≡ others = ArePassages-unique ts passages others x.1 y.1 in
      cc

  pub ArePassages-push : (ts : List Taken) (passages : List Passage) (t : Taken) (passage : Passage)
      → ArePassages seat ts passages → HasPassage seat t passage
      → ArePassages seat (ts ++ t ∷ []) (passages ++ passage ∷ [])
  ArePassages-push [] [] t passage are has = (has, tt)
  ArePassages-push [] (p ∷ ps) t passage are has = absurd are
  ArePassages-push (e ∷ es) [] t passage are has = absurd are
  ArePassages-push (e ∷ es) (p ∷ ps) t passage are has = (are.0, ArePassages-push es ps t passage are.1 has)

  -- with the next record nothing else becomes of them either
  pub only_push : (ts : List Taken) (passages : List Passage) (t : Taken) (passage : Passage)
      → ArePassages seat ts passages → HasPassage seat t passage
      → (others : List Passage) → ArePassages seat (ts ++ t ∷ []) others → others ≡ passages ++ passage ∷ []
  only_push ts passages t passage are has others have =
      ArePassages-unique (ts ++ t ∷ []) others (passages ++ passage ∷ []) have
      (ArePassages-push ts passages t passage are has)

-- what fits the packet fits its frame
pub IsFit-le : (seat : Seat) (packet frame : List ℕ) (j : Judged) → length packet ≤ length frame → IsFit seat packet j → IsFit seat frame j
IsFit-le seat packet frame (judged.Goes way kept) few fit = (fit.0, omega (arith, few, fit.1))
IsFit-le seat packet frame (judged.Drops why) few fit = tt
