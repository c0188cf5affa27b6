-- The laws of captures as what a machine converts. They stand among the definitions, since an `impl` names them.
use Rattle.std.specs.Prelude.{◌≡◌, ℕ, ◌≤◌, List, [], ◌++◌, length}
use Rattle.std.proofs.Common.{subst}
use Rattle.ioam_desk_outputs.specs.Told.{said_more}
use Rattle.ioam_pcap.specs.Ending.{Whole, Faulty}
use Rattle.ioam_pcap.specs.Entries.{Taken}
use Rattle.ioam_run_stream.specs.Captured.{AreOf, HasGathered, does}
use Rattle.ioam_run_stream.specs.Promise.{AreFirst}
use Rattle.ioam_run_stream.specs.declared.captured.Captured.{Captured}
use Rattle.ioam_run_stream.specs.declared.captured.End.{End}
use Rattle.ioam_run_stream.specs.declared.captured.End.TheVariants as end
use Rattle.ioam_run_stream.specs.FirstLaws.{given_first, first_more, first_of_all, first_none, shown_all, said_nothing, unsaid_sized, nothing_more, more_sized, none_few}
use Rattle.ioam_stream.specs.Conversion.{LeadsTo, Sound}
use Rattle.ioam_stream.specs.Stage.{How, Ended, Handed}

-- records of which the octets show no more are the first of them
pub are_first : (most : ℕ) (how : How) (why : End) (taken : List Taken) (octets : List ℕ) → AreOf most how why taken octets → AreFirst taken octets
are_first most Ended end.Open taken octets are = absurd are
are_first most Ended end.Whole taken octets are = first_of_all Whole taken octets are
are_first most Ended (end.Bad at fault) taken octets are = first_of_all (Faulty at fault) taken octets are
are_first most Ended end.Limit taken octets are = are.first
are_first most Handed why taken octets are = shown_all octets taken are

module _ {G : Type 0} (gathers : G → List Taken → List (List ℕ) → G → Type 0) (count : G → ℕ) (width : ℕ) (fresh : G → Type 0)
    (Texts : G → List Taken → List (List ℕ) → Type 0) (heads : List (List ℕ)) (sums : G → List (List ℕ))
    (begins : (begun : G) → fresh begun → gathers begun [] heads begun)
    (ends : (begun : G) (taken : List Taken) (so_far : List (List ℕ)) (gathered : G) → gathers begun taken so_far gathered
    → Texts begun taken (said_more so_far (sums gathered)))
    (heads_sized : length heads ≡ width) (sized : (gathered : G) → length (sums gathered) ≡ width) where
  -- what was gathered leads to the texts of some first records
  pub leads : (begun : Captured G) (taken : List Taken) (octets : List ℕ) (so_far : List (List ℕ)) (now : Captured G) → AreFirst taken octets
      → HasGathered gathers count width fresh Texts begun taken so_far now → LeadsTo (does gathers count width fresh Texts) begun octets so_far
  leads begun taken octets so_far now first gathered = (
    sums now.gathered,
    sized now.gathered,
    record {
      taken = taken;
      are = first;
      few = subst (λ (most : ℕ). length taken ≤ most) gathered.limit_is gathered.few;
      texts_are = ends begun.gathered taken so_far now.gathered gathered.are;
    },
  )

  abbrev pub sound : Sound (does gathers count width fresh Texts)
  sound = record {
    begins = λ begun octets rest so_far now taking. leads begun taking.taken (octets ++ rest) so_far now
        (given_first now.reader octets rest taking.taken taking.stands) taking.gathered;
    stopped = λ begun how octets so_far now stopped. leads begun stopped.taken octets so_far now
        (are_first now.limit how now.end stopped.taken octets stopped.are) stopped.gathered;
    ended = λ begun now how octets so texts. (
      said_nothing width,
      unsaid_sized width,
      record {
        taken = texts.taken;
        are = are_first begun.limit how now.end texts.taken octets texts.are;
        few = texts.few;
        texts_are = subst (λ (said : List (List ℕ)). Texts begun.gathered texts.taken said) (nothing_more width so texts.sized) texts.texts_are;
      },
    );
    more = λ begun octets rest so firsts. record {
      taken = firsts.taken;
      are = first_more octets rest firsts.taken firsts.are;
      few = firsts.few;
      texts_are = firsts.texts_are;
    };
    none = λ begun octets fresh. (
      said_more heads (sums begun.gathered),
      more_sized width heads (sums begun.gathered) heads_sized (sized begun.gathered),
      record {
        taken = [];
        are = first_none octets;
        few = none_few begun.limit;
        texts_are = ends begun.gathered [] heads begun.gathered (begins begun.gathered fresh.gathered);
      },
    );
  }
