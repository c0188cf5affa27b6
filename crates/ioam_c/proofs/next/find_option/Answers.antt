use Rattle.std.proofs.Common.{◌≡◌, ◌∷◌, [], rules}
use Rattle.std.proofs.lemmas.List.Elements.{All-rest}
use Rattle.ioam_ip.specs.ChainOptions.{HeadFits}
use Rattle.ioam_ip.specs.HeadsLeft.{heads_left, AreHeads}
use Rattle.ioam_ip.specs.declared.chain.Head.{Head}
use Rattle.ioam_c.proofs.NextLaws.{AreIoam-ioam_of, first_options, header-passed, header-here, header-none}
use Rattle.ioam_c.proofs.next.find_option.Goals as goal

pub loop-head-preserved : goal.loop-head-preserved
loop-head-preserved c =
    let left = heads_left c.loop-head.head-iterator in
    let next = heads_left c.next.new.self in
    let all = heads_left c.into_iter-head-iterator.result in
    let steps : left ≡ c.in-Some.head ∷ next = search rules in
    let P : Head → Type 0 = λ head. HeadFits c.args.packet.now head in
    record {
      can = search rules;
      finite = search rules;
      same = header-passed c.args.packet.now c.args.from left next c.in-Some.head all steps c.in-None-find_in.ensures c.loop-head.invariant.same;
      fit = All-rest P c.in-Some.head next left steps c.loop-head.invariant.fit;
    }

pub returns-in-Some-find_in-clause-found : goal.returns-in-Some-find_in-clause-found
returns-in-Some-find_in-clause-found c =
    let left = heads_left c.loop-head.head-iterator in
    let next = heads_left c.next.new.self in
    let all = heads_left c.into_iter-head-iterator.result in
    let steps : left ≡ c.in-Some.head ∷ next = search rules in
    let are : AreHeads c.args.packet.now all = search rules in
    header-here c.args.packet.now c.args.from left next c.in-Some.head all c.in-Some-find_in.first steps c.in-Some-find_in.ensures
    c.loop-head.invariant.same (first_options c.args.packet.now c.requires.sound all are)

pub returns-in-Some-find_in-clause-are : goal.returns-in-Some-find_in-clause-are
returns-in-Some-find_in-clause-are c = AreIoam-ioam_of c.args.packet.now c.requires.sound

pub returns-clause-found : goal.returns-clause-found
returns-clause-found c =
    let left = heads_left c.loop-head.head-iterator in
    let all = heads_left c.into_iter-head-iterator.result in
    let are : AreHeads c.args.packet.now all = search rules in
    let none : left ≡ [] = search rules in
    header-none c.args.packet.now c.args.from left all none c.loop-head.invariant.same (first_options c.args.packet.now c.requires.sound all are)

pub returns-clause-are : goal.returns-clause-are
returns-clause-are c = AreIoam-ioam_of c.args.packet.now c.requires.sound
