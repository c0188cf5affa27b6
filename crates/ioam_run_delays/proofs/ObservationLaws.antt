-- A record shows one thing only.
use Rattle.std.proofs.Common.{◌≡◌, ℕ, List, [], ◌∷◌, ◌++◌, Option, Some, None, sym, ◌∙◌, ap, refl}
use Rattle.ioam_delay_counts.specs.Courses.{Course}
use Rattle.ioam_ip.specs.Framing.{Framing, Holds, NoIpv6, CutShort, TooShort}
use Rattle.ioam_pcap.specs.Entries.{Taken}
use Rattle.ioam_run_stream.specs.Frame.{taken_framing}
use Rattle.ioam_run_delays.specs.Observation.{FramingShows, Observation, PacketShows, Shows, ShowAll}

module _ (units : ℕ) where
  one_of_packet : (packet : List ℕ) (a b : Observation) → PacketShows units packet a → PacketShows units packet b → a ≡ b
  one_of_packet packet None None x y = refl
  one_of_packet packet None (Some seen) x y = absurd (x y.0)
  one_of_packet packet (Some seen) None x y = absurd (y x.0)
  one_of_packet packet (Some seen) (Some more) x y = ap (λ (traces : List (Option Course)). Some traces) (x.1 ∙ sym y.1)

  one_of_frame : (framing : Framing) (a b : Observation) → FramingShows units framing a → FramingShows units framing b → a ≡ b
  one_of_frame (Holds packet) a b x y = one_of_packet packet a b x y
  one_of_frame NoIpv6 a b x y = x ∙ sym y
  one_of_frame CutShort a b x y = x ∙ sym y
  one_of_frame TooShort a b x y = x ∙ sym y

  -- and records show one list
  pub ShowAll-unique : (ts : List Taken) (seen others : List Observation) → ShowAll units ts seen → ShowAll units ts others → seen ≡ others
  ShowAll-unique [] [] [] first second = refl
  ShowAll-unique [] [] (other ∷ others) first second = absurd second
  ShowAll-unique [] (o ∷ seen) others first second = absurd first
  ShowAll-unique (t ∷ ts) [] others first second = absurd first
  ShowAll-unique (t ∷ ts) (o ∷ seen) [] first second = absurd second
  ShowAll-unique (t ∷ ts) (o ∷ seen) (other ∷ others) first second =
      let here : o ≡ other = one_of_frame (taken_framing t) o other first.0 second.0 in
      let behind : seen ≡ others = ShowAll-unique ts seen others first.1 second.1 in
      cc

  pub ShowAll-push : (ts : List Taken) (seen : List Observation) (t : Taken) (o : Observation) → ShowAll units ts seen → Shows units t o
      → ShowAll units (ts ++ t ∷ []) (seen ++ o ∷ [])
  ShowAll-push [] [] t o are shows = (shows, tt)
  ShowAll-push [] (p ∷ seen) t o are shows = absurd are
  ShowAll-push (f ∷ ts) [] t o are shows = absurd are
  ShowAll-push (f ∷ ts) (p ∷ seen) t o are shows = (are.0, ShowAll-push ts seen t o are.1 shows)
