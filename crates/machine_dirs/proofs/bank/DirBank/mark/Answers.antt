-- All messages to the directory are marked as it says now.
use Rattle.std.proofs.Common.{◌≡◌, ◌<◌, subst, sym, arith}
use Rattle.std.specs.Prelude.{get_or}
use Rattle.rules_maps.specs.Nodes.{Core, Dir}
use Rattle.rules_tcc.specs.DirDeliver.{dir_deliver}
use Rattle.directory.specs.Data.{dir_of}
use Rattle.directory.specs.Gives.{is_taken}
use Rattle.machine_links.specs.Flights.{is_ready}
use Rattle.machine_dirs.specs.BankInside.{AreDirs}
use Rattle.machine_dirs.proofs.Answers.{at}
use Rattle.machine_dirs.proofs.Parts.{dirs-at}
use Rattle.machine_dirs.proofs.bank.DirBank.mark.Goals as goal

pub returns-clause-here : goal.returns-clause-here
returns-clause-here c = λ ram core k m h fly.
    let b = c.args.self.now in
    let d = c.args.dir.0 in
    let x = c.index-directory.result.now in
    let are : AreDirs b.settings b.dirs = subst (λ v. AreDirs v.settings v.dirs) c.self.view_is c.self.invariant.dirs in
    let is : x ≡ get_or b.dirs d x =
    subst (λ v. x ≡ get_or v.dirs d x) c.self.view_is (subst (λ i. x ≡ get_or i.dirs d x) c.self-inside.view_is c.index-directory.ensures)
    in
    let a = at b d x are c.requires.exists is in
    let all : c.cores-cores.result ≡ b.settings.cores =
    subst (λ v. c.cores-cores.result ≡ v.settings.cores) c.self.view_is
    (subst (λ i. c.cores-cores.result ≡ i.config.cores) c.self-inside.view_is c.cores-cores.ensures.value) in
    let within : core < c.loop-core.core = omega (arith, h, all, c.loop-core-test.false) in
    subst (λ s. is_ready c.loop-core.flights (Core core) (Dir d) k ≡ is_taken (dir_deliver b.settings s core m))
    (sym (dirs-at ram b d x a.got))
    (subst (λ p. is_ready c.loop-core.flights (Core core) (Dir d) k ≡ is_taken (dir_deliver p.shape (dir_of ram x) core m)) a.place
    (c.loop-core.invariant.here ram core k m within fly))
