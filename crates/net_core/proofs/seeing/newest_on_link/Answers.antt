-- Each message in turn.
use Rattle.std.proofs.Common.{◌≡◌, length, ap, sym, ◌∙◌, arith}
use Rattle.base_lemmas.proofs.Lemmas.{none-past}
use Rattle.rules_maps.specs.Nodes.{Core, Dir}
use Rattle.rules_maps.specs.Words.{word_at}
use Rattle.tcc_msg.specs.Plain.{msg_of}
use Rattle.rules_tcc.specs.Seen.{copy_of, newest}
use Rattle.machine_links.specs.Flights.{net_of}
use Rattle.net_core.specs.Copies.{nth_copy}
use Rattle.net_core.proofs.Words.Newest.{newest-all, newest-more, waiting_on}
use Rattle.net_core.proofs.Words.Places.{newest-none}
use Rattle.net_core.proofs.seeing.newest_on_link.Goals as goal
use Rattle.net_core.proofs.seeing.newest_on_link.Goals.{in-Some, in_default}

pub loop-i-init : goal.loop-i-init
loop-i-init c = λ k b. newest-none _

pub loop-i-preserved : goal.loop-i-preserved
loop-i-preserved c =
    let link = net_of c.args.flights.now (Core c.args.core.0) (Dir c.args.dir.0) in
    let all : c.waiting-i-end.result ≡ length (waiting_on link) = c.waiting-i-end.ensures in
    elim c.match-waiting_at.branch [
      | in-Some w ↦ λ k b.
          ap (λ cs. nth_copy cs k) w.best-is ∙ w.newest_in_msg.ensures k b
          ∙ ap (λ a. newest a (copy_of (word_at c.args.line.0 k) (msg_of w.in-Some.msg.now))) (c.loop-i.invariant k b)
          ∙ newest-more (nth_copy c.args.best.now k) (word_at c.args.line.0 k) link c.loop-i.i w.in-Some.field-0-0
          (msg_of w.in-Some.msg.now)
          w.in-Some.ensures.number w.in-Some.ensures.own
      | in_default w ↦
          absurd (none-past (waiting_on link) c.loop-i.i (sym w.in_default.ensures.number) (omega (arith, all, c.loop-i-test.true)))
    ]

pub returns : goal.returns
returns c = λ k b.
    let link = net_of c.args.flights.now (Core c.args.core.0) (Dir c.args.dir.0) in
    let all : c.waiting-i-end.result ≡ length (waiting_on link) = c.waiting-i-end.ensures in
    c.loop-i.invariant k b ∙ newest-all _ (word_at c.args.line.0 k) link c.loop-i.i (omega (arith, all, c.loop-i-test.false))
