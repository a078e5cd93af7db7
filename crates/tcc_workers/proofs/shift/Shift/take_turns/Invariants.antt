use Rattle.std.proofs.Common.{◌≡◌}
use Rattle.tcc_workers.proofs.Turning.{Turning}
use Rattle.tcc_workers.proofs.shift.Shift.take_turns.Given as goal

abbrev pub invariant-loop-turn : goal.invariant-loop-turn
invariant-loop-turn g l =
    Turning l.self g.P.Turns.count (g.P.Turns.moved l.fn.ticket) (g.P.Turns.calls l.fn.ticket) l.turn l.idle
    (g.P.Turns.moved l.ticket) l.words (g.P.Turns.calls l.ticket)
    × (g.P.Turns.parts l.ticket ≡ g.P.Turns.parts l.fn.ticket)
