-- What one core may do next.
use Rattle.std.proofs.Common.{◌≡◌, ℕ, ◌<◌, Bool, false, length, Option, Some, None, ap, sym, ◌∙◌, subst, arith}
use Rattle.std.specs.Prelude.{slice_get, IfSome}
use Rattle.std.specs.Option.{option_map}
use Rattle.std.proofs.lemmas.List.{length-map}
use Rattle.std.proofs.lemmas.Option.{slice_get-map}
use Rattle.tcc_base.specs.declared.names.Tid.{Tid}
use Rattle.rules_maps.specs.Shape.{Shape}
use Rattle.rules_program.specs.Program.{Program}
use Rattle.rules_tcc.specs.State.{CoreState, Phase, AwaitTid}
use Rattle.rules_tcc.specs.Useful.{room, room_in_phase}
use Rattle.commit_engine.specs.Engine.{phase_of}
use Rattle.commit_engine.specs.declared.phase.Phase.TheVariants as code
use Rattle.theorem_bus.proofs.Lemmas.{room-below}
use Rattle.bus_tcc.specs.Uses.{loose_ways, may_exec, may_exec_in, room_ways, ways_in}

pub at-phase : (sh : Shape) (p : Program) (free : Bool) (c : ℕ) (s : CoreState) (q : Phase) → q ≡ s.phase
    → may_exec_in sh p free c s q ≡ may_exec sh p free c s
unfolding may_exec
at-phase sh p free c s q e = ap (may_exec_in sh p free c s) e

pub at-overflowing : (sh : Shape) (p : Program) (free : Bool) (c : ℕ) (s : CoreState) (o : Option Tid)
    → phase_of (code.Overflowing o) ≡ s.phase → false ≡ may_exec sh p free c s
at-overflowing sh p free c s None e = at-phase sh p free c s (phase_of (code.Overflowing None)) e
at-overflowing sh p free c s (Some t) e = at-phase sh p free c s (phase_of (code.Overflowing (Some t))) e

-- a core that waits for the bus waits for no room
pub no-ways : (sh : Shape) (p : Program) (s : CoreState) → AwaitTid ≡ s.phase → 0 ≡ length (room_ways sh p s)
unfolding room_ways room
no-ways sh p s e = ap (λ q. length (ways_in sh s (room_in_phase sh p s q))) e

-- the ways of the set in which a core waits for room
pub ways-at : (sh : Shape) (p : Program) (s : CoreState) (o : Option ℕ) → o ≡ room sh p s → ways_in sh s o ≡ room_ways sh p s
unfolding room_ways
ways-at sh p s o e = ap (ways_in sh s) e

pub set-count : (sh : Shape) (p : Program) (s : CoreState) (x n : ℕ) → Some x ≡ room sh p s → n ≡ length (loose_ways sh s x)
    → n ≡ length (room_ways sh p s)
set-count sh p s x n e q = q ∙ sym (length-map (loose_ways sh s x) (λ y. (x, y))) ∙ ap length (ways-at sh p s (Some x) e)

pub set-at : (sh : Shape) (p : Program) (s : CoreState) (x k : ℕ) (o : Option ℕ) → Some x ≡ room sh p s
    → o ≡ slice_get (loose_ways sh s x) k → option_map (λ y. (x, y)) o ≡ slice_get (room_ways sh p s) k
set-at sh p s x k o e q =
    ap (option_map (λ y. (x, y))) q ∙ sym (slice_get-map (λ y. (x, y)) (loose_ways sh s x) k)
    ∙ ap (λ ys. slice_get ys k) (ways-at sh p s (Some x) e)

pub set-below : (sh : Shape) (p : Program) (s : CoreState) (x : ℕ) → 0 < sh.sets → Some x ≡ room sh p s → x < sh.sets
set-below sh p s x h e = subst (λ o. IfSome o (λ y. y < sh.sets)) (sym e) (room-below sh p s (omega (arith, h)))
