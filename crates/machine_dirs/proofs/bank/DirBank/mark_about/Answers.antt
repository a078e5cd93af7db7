-- All messages about this are marked as the directory says now.
use Rattle.std.proofs.Common.{◌≡◌, ◌<◌, ◌⊎◌, subst, sym, arith, ◌∙◌}
use Rattle.std.specs.Prelude.{Some, get_or, false}
use Rattle.rules_maps.specs.Nodes.{Core, Dir}
use Rattle.rules_tcc.specs.DirDeliver.{dir_deliver}
use Rattle.rules_tcc.specs.Links.{in_flight}
use Rattle.directory.specs.Data.{dir_of}
use Rattle.directory.specs.Foreign.{is_foreign}
use Rattle.directory.specs.Gives.{is_taken}
use Rattle.machine_links.specs.Flights.{is_ready}
use Rattle.machine_links.specs.Subject.{subject_of}
use Rattle.machine_dirs.specs.BankInside.{AreDirs}
use Rattle.machine_dirs.proofs.Answers.{at}
use Rattle.machine_dirs.proofs.MarkedAbout.{about-all}
use Rattle.machine_dirs.proofs.Parts.{dirs-at}
use Rattle.machine_dirs.proofs.bank.DirBank.mark_about.Goals as goal

pub remark_listed-requires : goal.remark_listed-requires
remark_listed-requires c =
    let b = c.args.self.now in
    let d = c.args.dir.0 in
    let x = c.index-directory.result.now in
    let are : AreDirs b.settings b.dirs = subst (λ v. AreDirs v.settings v.dirs) c.self.view_is c.self.invariant.dirs in
    let is : x ≡ get_or b.dirs d x =
    subst (λ v. x ≡ get_or v.dirs d x) c.self.view_is
    (subst (λ i. x ≡ get_or i.dirs d x) c.self-inside.view_is c.index-directory.ensures) in
    let a = at b d x are c.requires.exists is in
    record {
      home = λ core k m fly. subst (λ p. (core < p.shape.cores) × (is_foreign p m ≡ false)) (sym a.place)
          (c.requires.home core k m (subst (λ n. in_flight n (Core core) (Dir d) k ≡ Some m) c.loop-i.invariant.net fly));
    }

pub returns-clause-its : goal.returns-clause-its
returns-clause-its c = λ ram core k m fly on.
    let b = c.args.self.now in
    let d = c.args.dir.0 in
    let x = c.index-directory.result.now in
    let are : AreDirs b.settings b.dirs = subst (λ v. AreDirs v.settings v.dirs) c.self.view_is c.self.invariant.dirs in
    let is : x ≡ get_or b.dirs d x =
    subst (λ v. x ≡ get_or v.dirs d x) c.self.view_is
    (subst (λ i. x ≡ get_or i.dirs d x) c.self-inside.view_is c.index-directory.ensures) in
    let a = at b d x are c.requires.exists is in
    let all : c.loop-i.i ≡ c.listed-i-end.result = omega (arith, c.loop-i-test.false, c.loop-i.auto.i-end) in
    subst (λ s. is_ready c.loop-i.flights (Core core) (Dir d) k ≡ is_taken (dir_deliver b.settings s core m))
    (sym (dirs-at ram b d x a.got))
    (subst (λ p. is_ready c.loop-i.flights (Core core) (Dir d) k ≡ is_taken (dir_deliver p.shape (dir_of ram x) core m)) a.place
    (about-all x d (subject_of c.args.on) c.loop-i.i c.args.flights.now c.loop-i.flights c.loop-i.invariant
    (all ∙ c.listed-i-end.ensures.count) ram core k m (c.listed-i-end.ensures.all core d k m fly on) fly))

pub returns-clause-here : goal.returns-clause-here
returns-clause-here c = λ ram core k m fly.
    let b = c.args.self.now in
    let d = c.args.dir.0 in
    let x = c.index-directory.result.now in
    let are : AreDirs b.settings b.dirs = subst (λ v. AreDirs v.settings v.dirs) c.self.view_is c.self.invariant.dirs in
    let is : x ≡ get_or b.dirs d x =
    subst (λ v. x ≡ get_or v.dirs d x) c.self.view_is
    (subst (λ i. x ≡ get_or i.dirs d x) c.self-inside.view_is c.index-directory.ensures) in
    let a = at b d x are c.requires.exists is in
    let kept = is_ready c.loop-i.flights (Core core) (Dir d) k ≡ is_ready c.args.flights.now (Core core) (Dir d) k in
    subst (λ s. (is_ready c.loop-i.flights (Core core) (Dir d) k ≡ is_taken (dir_deliver b.settings s core m)) ⊎ kept)
    (sym (dirs-at ram b d x a.got))
    (subst (λ p. (is_ready c.loop-i.flights (Core core) (Dir d) k ≡ is_taken (dir_deliver p.shape (dir_of ram x) core m)) ⊎ kept) a.place
    (c.loop-i.invariant.here ram core k m fly))
