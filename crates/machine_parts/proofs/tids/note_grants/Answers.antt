-- Each message in turn.
use Rattle.std.proofs.Common.{Global, Vec, ◌≤◌, ◌+◌, ◌∙◌, ℕ, List, length, take, ap, refl, sym, subst, arith}
use Rattle.base_lemmas.proofs.Lemmas.{none-past}
use Rattle.rules_maps.specs.Nodes.{Core, Vendor}
use Rattle.rules_maps.specs.Words.{num}
use Rattle.tcc_msg.specs.Plain.{msg_of}
use Rattle.machine_links.specs.Flights.{net_of}
use Rattle.theorem_serial.specs.Count.{Grants, live, passes}
use Rattle.machine_parts.specs.Tids.{AreNoted, among}
use Rattle.machine_parts.proofs.Flying.{waiting_on}
use Rattle.machine_parts.proofs.Granted.{counted, counted-all, counted-most, counted-next, take-most}
use Rattle.machine_parts.proofs.Noted.{noted-then, nothing-noted, over-then}
use Rattle.machine_parts.proofs.tids.note_grants.Goals as goal
use Rattle.machine_parts.proofs.tids.note_grants.Goals.{in-Some+in_ok-note_grant+else-not-branch, in_default}

pub loop-i-init : goal.loop-i-init
unfolding counted
loop-i-init c = nothing-noted c.args.held.now.items c.args.commits.now c.args.next.0 _ (λ t. refl)

pub loop-i-preserved : goal.loop-i-preserved
loop-i-preserved c =
    let net = net_of c.args.flights.now in
    let link = net Vendor (Core c.args.core.0) in
    let ws : List ℕ = waiting_on net Vendor (Core c.args.core.0) in
    elim c.match-waiting_at.branch [
      | in-Some+in_ok-note_grant+else-not-branch w ↦
          noted-then c.args.held.now.items c.loop-i.held.items _ c.args.commits.now c.args.next.0
          (λ t. counted (Grants t) link (take c.loop-i.i ws)) (λ t. num (passes (Grants t) (msg_of w.in-Some.msg.now)))
          (λ t. counted (Grants t) link (take (c.loop-i.i + 1) ws)) c.loop-i.invariant
          (subst (λ (v : Vec ℕ Global). AreNoted c.loop-i.held.items v.items c.args.commits.now c.args.next.0
          (λ t. num (passes (Grants t) (msg_of w.in-Some.msg.now)))) (sym w.held-is)
          (w.in_ok-note_grant.ensures.noted w.if-not-branch.false))
          (λ t. counted-next (Grants t) link ws c.loop-i.i w.in-Some.field-0-0 (msg_of w.in-Some.msg.now) (sym w.in-Some.ensures.number)
          w.in-Some.ensures.own)
      | in_default w ↦
          absurd (none-past ws c.loop-i.i (sym w.in_default.ensures.number) (omega (arith, c.waiting-i-end.ensures, c.loop-i-test.true)))
    ]

pub returns-then-not-branch-clause-refused : goal.returns-then-not-branch-clause-refused
returns-then-not-branch-clause-refused c = λ e.
    let net = net_of c.args.flights.now in
    let link = net Vendor (Core c.args.core.0) in
    let ws : List ℕ = waiting_on net Vendor (Core c.args.core.0) in
    over-then c.args.held.now.items c.loop-i.held.items c.args.commits.now c.args.next.0
    (λ t. counted (Grants t) link (take c.loop-i.i ws)) (λ t. num (passes (Grants t) (msg_of c.in-Some.msg.now)))
    (λ t. live (Grants t) link) c.loop-i.invariant (c.in_ok-note_grant.ensures.refused c.if-not-branch.true)
    (λ t.
    let more = counted-next (Grants t) link ws c.loop-i.i c.in-Some.field-0-0 (msg_of c.in-Some.msg.now) (sym c.in-Some.ensures.number)
    c.in-Some.ensures.own in
    omega (arith, more, counted-most (Grants t) link (c.loop-i.i + 1) ws, counted-all (Grants t) link))

pub returns-clause-noted : goal.returns-clause-noted
returns-clause-noted c = λ t.
    let link = net_of c.args.flights.now Vendor (Core c.args.core.0) in
    let ws : List ℕ = waiting_on (net_of c.args.flights.now) Vendor (Core c.args.core.0) in
    let most : length ws ≤ c.loop-i.i = omega (arith, c.loop-i-test.false, c.waiting-i-end.ensures) in
    let n = c.loop-i.invariant in
    record {
      more = λ u. n.more u ∙ ap (λ k. among u c.args.held.now.items + k)
          (ap (counted (Grants u) link) (take-most ws c.loop-i.i most) ∙ counted-all (Grants u) link);
      single = n.single;
    }
