-- One more message is marked as the directory says now.
use Rattle.std.proofs.Common.{◌≡◌, ℕ, ◌+◌, ◌&&◌, not, Some, subst, sym, ap, ◌∙◌, arith}
use Rattle.rules_maps.specs.Nodes.{Core, Dir}
use Rattle.tcc_msg.specs.Plain.{msg_of}
use Rattle.rules_tcc.specs.DirDeliver.{dir_deliver}
use Rattle.rules_tcc.specs.Links.{in_flight}
use Rattle.directory.specs.Data.{dir_of}
use Rattle.directory.specs.Gives.{is_taken}
use Rattle.machine_dirs.proofs.MarkedTo.{MarkedTo, marked-skip, marked-step, marked-all}
use Rattle.machine_dirs.proofs.marking.remark_link.Goals as goal
use Rattle.machine_dirs.proofs.marking.remark_link.Goals.{in-Some, in_default}

pub loop-i-preserved : goal.loop-i-preserved
loop-i-preserved c =
    let x = c.args.dir.now in
    let s = c.args.src.0 in
    let d = c.args.dst.0 in
    let old = c.args.flights.now in
    elim c.match-waiting_at.branch [
      | in-Some w ↦ (let m = msg_of w.in-Some.msg.now in
          let fly = w.in-Some.ensures.own in
          let home =
          c.requires.home w.in-Some.seq m (subst (λ n. in_flight n (Core s) (Dir d) w.in-Some.seq ≡ Some m) c.loop-i.invariant.net fly)
          in
          let takes : (e : ℕ → ℕ) → w.takes-ready.result ≡ is_taken (dir_deliver x.lines.place.shape (dir_of e x) s m) =
          λ e. w.takes-ready.ensures e ∙ ap (λ b. not b && is_taken (dir_deliver x.lines.place.shape (dir_of e x) s m)) home in
          subst (λ f. MarkedTo x s d (c.loop-i.i + 1) old f) (sym w.flights-is)
          (marked-step x s d c.loop-i.i w.in-Some.seq m w.takes-ready.result old c.loop-i.flights w.set_ready.new.self c.loop-i.invariant
          (sym w.in-Some.ensures.number) fly takes w.set_ready.ensures.cores w.set_ready.ensures.dirs w.set_ready.ensures.net
          w.set_ready.ensures.ready))
      | in_default w ↦ subst (λ f. MarkedTo x s d (c.loop-i.i + 1) old f) (sym w.flights-is)
          (marked-skip x s d c.loop-i.i old c.loop-i.flights c.loop-i.invariant (sym w.in_default.ensures.number))
    ]

pub returns-clause-here : goal.returns-clause-here
returns-clause-here c =
    marked-all c.args.dir.now c.args.src.0 c.args.dst.0 c.loop-i.i c.args.flights.now c.loop-i.flights c.loop-i.invariant
    (omega (arith, c.loop-i-test.false, c.waiting-i-end.ensures))
