-- The event that the next word picks is taken and written down, or the call ends.
use Rattle.std.proofs.Common.{◌+◌, ◌∙◌, OnErr, OnOk, Ok, Err, Result, ap, arith, sym, subst}
use Rattle.tcc_pick.proofs.Noted.{Noting, noting-ends, noting-first, noting-more, noting-none, noting-one, noting-same, noting-stops}
use Rattle.tcc_pick.proofs.chooser.Chooser.run.Goals as goal

pub loop-init : goal.loop-init
loop-init g c =
    noting-none c.args.system.now c.args.self.now c.args.steps g.R.Recorder.line (g.R.Recorder.bytes c.args.recorder.now) c.requires

pub loop-preserved : goal.loop-preserved
loop-preserved g c =
    let put = c.settle.ensures in
    let did = c.in-Ok.ensures in
    let settled = noting-same c.settle.new.self c.loop.invariant
    (record { history = put.history; events = put.events; code = ap (λ k. k.code) put.cores }) in
    subst (λ w. Noting c.args.system.now c.step.new.self c.args.self.now w c.args.steps (c.loop.counter + 1) g.R.Recorder.line
    (g.R.Recorder.bytes c.args.recorder.now) (g.R.Recorder.bytes c.note.new.self)) (sym c.in-Some.ensures.drawn)
    (noting-more c.step.new.self c.in-Some.e _ settled c.loop-test.true (sym c.in-Some.ensures.chosen)
    (record { next = did.next; events = did.counted; code = did.code }) c.in_ok-note.ensures)

-- no event is useful
pub returns-in_default-clause-took : goal.returns-in_default-clause-took
returns-in_default-clause-took g c =
    let put = c.settle.ensures in
    let settled = noting-same c.settle.new.self c.loop.invariant
    (record { history = put.history; events = put.events; code = ap (λ k. k.code) put.cores }) in
    (noting-stops settled c.loop-test.true (sym c.in_default.ensures.chosen)).took

pub returns-in_default-clause-drawn : goal.returns-in_default-clause-drawn
returns-in_default-clause-drawn g c =
    let put = c.settle.ensures in
    let settled = noting-same c.settle.new.self c.loop.invariant
    (record { history = put.history; events = put.events; code = ap (λ k. k.code) put.cores }) in
    c.in_default.ensures.drawn ∙ (noting-stops settled c.loop-test.true (sym c.in_default.ensures.chosen)).drawn

on-ok : {E P : Type 0} (r : Result (Unit {0}) E) → P → OnOk r P
on-ok (Ok x) p = p
on-ok (Err e) p = tt

on-err : {A E P : Type 0} (r : Result A E) → P → OnErr r P
on-err (Ok x) p = tt
on-err (Err e) p = p

-- all words are drawn
pub returns-clause-took : goal.returns-clause-took
returns-clause-took g c =
    let put = c.settle-2.ensures in
    let settled = noting-same c.settle-2.new.self c.loop.invariant
    (record { history = put.history; events = put.events; code = ap (λ k. k.code) put.cores }) in
    on-ok c.settle-2.result (noting-ends settled (omega (arith, c.loop-test.false, c.loop.auto.counter-end))).took

pub returns-clause-drawn : goal.returns-clause-drawn
returns-clause-drawn g c =
    let put = c.settle-2.ensures in
    let settled = noting-same c.settle-2.new.self c.loop.invariant
    (record { history = put.history; events = put.events; code = ap (λ k. k.code) put.cores }) in
    on-ok c.settle-2.result (noting-ends settled (omega (arith, c.loop-test.false, c.loop.auto.counter-end))).drawn

-- memory ran out
pub returns-in_err-settle-clause-stopped : goal.returns-in_err-settle-clause-stopped
returns-in_err-settle-clause-stopped g c =
    let put = c.settle.ensures in
    on-err _ (noting-first c.settle.new.self c.loop.invariant
    (record { history = put.history; events = put.events; code = ap (λ k. k.code) put.cores }))

pub returns-in-Err-clause-stopped : goal.returns-in-Err-clause-stopped
returns-in-Err-clause-stopped g c =
    let put = c.settle.ensures in
    let did = c.in-Err.ensures in
    let settled = noting-same c.settle.new.self c.loop.invariant
    (record { history = put.history; events = put.events; code = ap (λ k. k.code) put.cores }) in
    noting-first c.step.new.self settled (record { history = did.unchanged; events = did.counted; code = did.code })

pub returns-in_err-note-clause-stopped : goal.returns-in_err-note-clause-stopped
returns-in_err-note-clause-stopped g c =
    let put = c.settle.ensures in
    let did = c.in-Ok.ensures in
    let settled = noting-same c.settle.new.self c.loop.invariant
    (record { history = put.history; events = put.events; code = ap (λ k. k.code) put.cores }) in
    on-err _ (noting-one c.step.new.self c.in-Some.e settled c.loop-test.true (sym c.in-Some.ensures.chosen)
    (record { next = did.next; events = did.counted; code = did.code }))

pub returns-clause-stopped : goal.returns-clause-stopped
returns-clause-stopped g c =
    let put = c.settle-2.ensures in
    on-err c.settle-2.result (noting-first c.settle-2.new.self c.loop.invariant
    (record { history = put.history; events = put.events; code = ap (λ k. k.code) put.cores }))
