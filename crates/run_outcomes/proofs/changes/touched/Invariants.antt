use Rattle.std.proofs.Common.{◌≡◌, ◌++◌, map, take}
use Rattle.rules_program.specs.Ram.{word_of}
use Rattle.run_outcomes.proofs.changes.touched.Given as goal

abbrev pub invariant-loop-w : goal.invariant-loop-w
invariant-loop-w l = l.words ≡ map (λ change. change.0) (take l.w-index l.changes)

abbrev pub invariant-loop-store : goal.invariant-loop-store
invariant-loop-store l =
    l.words ≡ map (λ change. change.0) l.changes ++ map (λ store. word_of l.base store.addr) (take l.store-index l.stores)
