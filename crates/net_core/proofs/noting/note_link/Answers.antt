-- Each message in turn.
use Rattle.std.proofs.Common.{◌≡◌, ◌++◌, length, ap, sym, ◌∙◌, arith}
use Rattle.base_lemmas.proofs.Lemmas.{none-past}
use Rattle.rules_maps.specs.Nodes.{Core, Dir}
use Rattle.tcc_msg.specs.Plain.{msg_of}
use Rattle.machine_links.specs.Flights.{net_of}
use Rattle.net_core.specs.Away.{is_noted}
use Rattle.net_core.proofs.Words.Newest.{copies-took, copies-took_all, waiting_on}
use Rattle.net_core.proofs.noting.note_link.Goals as goal
use Rattle.net_core.proofs.noting.note_link.Goals.{in-Some, in_default}

pub loop-i-preserved : goal.loop-i-preserved
loop-i-preserved c = λ l free.
    let link = net_of c.args.flights.now (Core c.args.core.0) (Dir c.args.dir.0) in
    let all : c.waiting-i-end.result ≡ length (waiting_on link) = c.waiting-i-end.ensures in
    elim c.match-waiting_at.branch [
      | in-Some w ↦
          let here = w.note_msg.ensures l (ap (λ notes. is_noted notes l) (sym w.notes-is) ∙ free) in
          let before = c.loop-i.invariant l here.0 in (
            before.0,
            λ v own. sym (copies-took v link c.loop-i.i w.in-Some.field-0-0 (msg_of w.in-Some.msg.now)
                w.in-Some.ensures.number w.in-Some.ensures.own) ∙ (λ j. before.1 v own j ++ here.1 v own j),
          )
      | in_default w ↦
          absurd (none-past (waiting_on link) c.loop-i.i (sym w.in_default.ensures.number) (omega (arith, all, c.loop-i-test.true)))
    ]

pub returns : goal.returns
returns c = λ l free.
    let link = net_of c.args.flights.now (Core c.args.core.0) (Dir c.args.dir.0) in
    let all : c.waiting-i-end.result ≡ length (waiting_on link) = c.waiting-i-end.ensures in
    let inv = c.loop-i.invariant l free in
    (inv.0, λ v own. sym (copies-took_all v link c.loop-i.i (omega (arith, all, c.loop-i-test.false))) ∙ inv.1 v own)
