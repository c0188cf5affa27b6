-- The records of a capture have one report, where each packet has one text.
use Rattle.std.proofs.Common.{◌≡◌, ℕ, ◌+◌, List, [], ◌∷◌, ◌++◌, length, sym, ◌∙◌, ap, inl, inr}
use Rattle.std.specs.Prelude.{decimal}
use Rattle.ioam_ip.specs.Framing.{Framing, Holds, NoIpv6, CutShort, TooShort}
use Rattle.ioam_pcap.specs.Entries.{Taken}
use Rattle.ioam_run_capture.specs.ListText.{PacketLines, FramingLines, Lines, Listed, ListTexts, packets_line}
use Rattle.ioam_run_stream.specs.Frame.{taken_framing}

module _ (Tells : List ℕ → List ℕ → Type 0) (one : (packet text other : List ℕ) → Tells packet text → Tells packet other → text ≡ other) where
  -- of a packet
  one_of_packet : (number : ℕ) (packet a b : List ℕ) → PacketLines Tells number packet a → PacketLines Tells number packet b → a ≡ b
  one_of_packet number packet a b (inl x) (inl y) = x.1 ∙ sym y.1
  one_of_packet number packet a b (inl x) (inr y) = absurd (x.0 y.0)
  one_of_packet number packet a b (inr x) (inl y) = absurd (y.0 x.0)
  one_of_packet number packet a b (inr x) (inr y) =
      x.1.2 ∙ ap (λ traces. decimal number ++ traces) (one packet x.1.0 y.1.0 x.1.1 y.1.1) ∙ sym y.1.2

  -- of a frame
  one_of_frame : (number : ℕ) (framing : Framing) (a b : List ℕ) → FramingLines Tells number framing a → FramingLines Tells number framing b → a ≡ b
  one_of_frame number (Holds packet) a b x y = one_of_packet number packet a b x y
  one_of_frame number NoIpv6 a b x y = x ∙ sym y
  one_of_frame number CutShort a b x y = x ∙ sym y
  one_of_frame number TooShort a b x y = x ∙ sym y

  -- records have one list of lines
  pub Lines-unique : (number : ℕ) (ts : List Taken) (a b : List ℕ) → Lines Tells number ts a → Lines Tells number ts b → a ≡ b
  Lines-unique number [] a b x y = x ∙ sym y
  Lines-unique number (t ∷ ts) a b x y =
      let here : x.0 ≡ y.0 = one_of_frame number (taken_framing t) x.0 y.0 x.2 y.2 in
      let behind : x.1 ≡ y.1 = Lines-unique (number + 1) ts x.1 y.1 x.3 y.3 in
      x.4 ∙ ap (λ front. front ++ x.1) here ∙ ap (λ more. y.0 ++ more) behind ∙ sym y.4

  Listed-unique : (ts : List Taken) (a b : List ℕ) → Listed Tells ts a → Listed Tells ts b → a ≡ b
  Listed-unique ts a b x y =
      x.text_is ∙ ap (λ lines. lines ++ packets_line (length ts)) (Lines-unique 1 ts x.lines y.lines x.are_lines y.are_lines) ∙ sym y.text_is

  -- and one report
  pub ListTexts-unique : (ts : List Taken) (xs ys : List (List ℕ)) → ListTexts Tells ts xs → ListTexts Tells ts ys → xs ≡ ys
  ListTexts-unique ts [] ys x y = absurd x
  ListTexts-unique ts (a ∷ more ∷ xs) ys x y = absurd x
  ListTexts-unique ts (a ∷ []) [] x y = absurd y
  ListTexts-unique ts (a ∷ []) (b ∷ more ∷ ys) x y = absurd y
  ListTexts-unique ts (a ∷ []) (b ∷ []) x y = ap (λ text. text ∷ []) (Listed-unique ts a b x y)
