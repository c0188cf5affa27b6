-- What a desk holds asks for one domain, and its captures for one order of arrivals.
use Rattle.std.proofs.Common.{◌≡◌, ℕ, ◌≤◌, Bool, List, [], ◌∷◌, ◌++◌, length, Option, refl, sym, ◌∙◌, ap, subst, length-append, arith}
use Rattle.std.specs.List.{AllZip}
use Rattle.std.proofs.lemmas.Option.{same_Some}
use Rattle.ioam_clock.specs.declared.fault.ReadingsFault.{ReadingsFault}
use Rattle.ioam_clock.specs.declared.sample.Sample.{Sample}
use Rattle.ioam_desk.specs.Desk.{Writing}
use Rattle.ioam_run_traffic.specs.Merging.{Begins, IsFile, FilesArrive, FilesBegin}
use Rattle.ioam_run_traffic.specs.Arrives.{Handed, Arrives}
use Rattle.ioam_run_traffic.specs.Merge.{Arrival}
use Rattle.ioam_run_traffic.specs.Turn.{Turn}
use Rattle.ioam_run_traffic.proofs.ArrivesLaws.{Arrives-unique}
use Rattle.ioam_run_traffic.proofs.MergeLaws.{TakesAll-total, Takes-append}
use Rattle.ioam_run_files.specs.Names.{input_names, file_names}
use Rattle.ioam_run_files.specs.Setting.{HasDomainFault, HasReadingsFault}
use Rattle.ioam_run_files.proofs.OnlyLaws as only
use Rattle.ioam_run_files.specs.File.{Agree}
use Rattle.ioam_topo.specs.Domain.{links, ports}
use Rattle.ioam_topo.specs.declared.domain.Domain.{Domain}
use Rattle.ioam_run_files.specs.DomainFault.{DomainFault}
use Rattle.ioam_topo.specs.declared.parts.Link.{Link}
use Rattle.ioam_topo.specs.declared.parts.Port.{Port}
use Rattle.ioam_run_domain.specs.Promise.{RunNames, IsSet, word_files, run_files, run_inputs}

same_handed : (f g : Handed) → f.octets ≡ g.octets → f.ended ≡ g.ended → f ≡ g
same_handed f g octets ended =
    let P : List ℕ → Bool → Handed = λ o e. record { octets = o; ended = e } in
    ap (λ (o : List ℕ). P o f.ended) octets ∙ ap (λ (e : Bool). P g.octets e) ended

same_file : (content : Option (List ℕ)) (f g : Handed) → IsFile content f → IsFile content g → f ≡ g
same_file content f g x y = same_handed f g (same_Some f.octets g.octets (sym x.0 ∙ y.0)) (x.1 ∙ sym y.1)

files_unique : (contents : List (Option (List ℕ))) (fs gs : List Handed) → AllZip IsFile contents fs → AllZip IsFile contents gs → fs ≡ gs
files_unique [] [] [] x y = refl
files_unique [] [] (g ∷ gs) x y = absurd y
files_unique [] (f ∷ fs) gs x y = absurd x
files_unique (c ∷ cs) [] gs x y = absurd x
files_unique (c ∷ cs) (f ∷ fs) [] x y = absurd y
files_unique (c ∷ cs) (f ∷ fs) (g ∷ gs) x y =
    let first = same_file c f g x.0 y.0 in
    let others = files_unique cs fs gs x.1 y.1 in
    cc

-- one order of arrivals, and one turn behind them
pub FilesArrive-unique : (contents : List (Option (List ℕ))) (xs : List Arrival) (a : Turn) (ys : List Arrival) (b : Turn)
    → FilesArrive contents xs a → FilesArrive contents ys b → (xs ≡ ys) × (a ≡ b)
FilesArrive-unique contents xs a ys b x y =
    let same = files_unique contents x.files y.files x.are_files y.are_files in
    Arrives-unique y.files xs a ys b (subst (λ fs. Arrives fs xs a) same x.arrive) y.arrive

begins_arrive : (files : List Handed) (taken : List Arrival) → Begins files taken → (more : List Arrival) × (last : Turn) × Arrives files (taken ++ more) last
begins_arrive files taken begins =
    let (more, last, all) = TakesAll-total begins.now in (
      more,
      last,
      record {
        streams = begins.streams;
        shown = begins.shown;
        all = record { now = all.now; takes = Takes-append begins.streams taken begins.now more all.now begins.takes all.takes; stops = all.stops; last_is = all.last_is };
      },
    )

-- no more are first than arrive in all
pub FilesBegin-few : (contents : List (Option (List ℕ))) (xs ys : List Arrival) (last : Turn) → FilesBegin contents xs → FilesArrive contents ys last
    → length xs ≤ length ys
FilesBegin-few contents xs ys last x y =
    let (more, end, whole) = begins_arrive x.files xs x.begin in
    let same = files_unique contents x.files y.files x.are_files y.are_files in
    let one = Arrives-unique y.files (xs ++ more) end ys last (subst (λ fs. Arrives fs (xs ++ more) end) same whole) y.arrive in
    omega (arith, ap (λ (l : List Arrival). length l) one.0, length-append xs more)

module _ (desk : Writing) (files : RunNames) where
  -- one domain
  pub one_set : (a b : Domain) (r s : List (List Sample)) → IsSet desk files a r → IsSet desk files b s → Agree a b
  one_set a b r s x y = only.domains_agree desk files.domain files.readings a b x.has_domain y.has_domain

  -- one fault of the domain's file
  pub one_domain_fault : (f g : DomainFault) → HasDomainFault desk files.domain files.readings f
      → HasDomainFault desk files.domain files.readings g → f ≡ g
  one_domain_fault f g x y = only.one_domain_fault desk files.domain files.readings f g x y

  -- a fault of it, or a domain
  pub fault_or_set : (domain : Domain) (r : List (List Sample)) (f : DomainFault) → HasDomainFault desk files.domain files.readings f
      → IsSet desk files domain r → ⊥
  fault_or_set domain r f x y = only.fault_or_domain desk files.domain files.readings domain f x y.has_domain

  pub fault_or_readings : (f : DomainFault) (g : ReadingsFault) → HasDomainFault desk files.domain files.readings f
      → HasReadingsFault desk files.domain files.readings g → ⊥
  fault_or_readings f g x y = only.fault_or_domain desk files.domain files.readings y.domain f x y.has_domain

  -- one fault of the readings
  pub one_readings_fault : (f g : ReadingsFault) → HasReadingsFault desk files.domain files.readings f
      → HasReadingsFault desk files.domain files.readings g → f ≡ g
  one_readings_fault f g x y = only.one_readings_fault desk files.domain files.readings f g x y

  -- a fault of them, or readings
  pub readings_or_set : (domain : Domain) (r : List (List Sample)) (f : ReadingsFault) → HasReadingsFault desk files.domain files.readings f
      → IsSet desk files domain r → ⊥
  readings_or_set domain r f x y = only.fault_or_setting desk files.domain files.readings domain r f x y

-- domains that agree have the same files
pub same_files : (files : RunNames) (a b : Domain) → Agree a b → run_files files a ≡ run_files files b
same_files files a b agree = ap (λ (ps : List Port). file_names ps (links a) (word_files files)) agree.same_ports
    ∙ ap (λ (ls : List Link). file_names (ports b) ls (word_files files)) agree.same_links

pub same_inputs : (a b : Domain) → Agree a b → run_inputs a ≡ run_inputs b
same_inputs a b agree = ap input_names agree.same_ports
