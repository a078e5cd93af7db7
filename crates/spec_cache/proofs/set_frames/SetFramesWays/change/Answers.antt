use Rattle.std.proofs.Common.{ℕ, List, Contains, sym, subst}
use Rattle.spec_cache.proofs.Indexed.{IsIndexed-rolled_back, IsIndexed-read_cleared, IsIndexed-committed}
use Rattle.spec_cache.proofs.set_frames.SetFramesWays.change.Goals as goal

pub change_at-requires-clause-marked : goal.change_at-requires-clause-marked
change_at-requires-clause-marked c = λ i e. subst (λ (ps : List ℕ). Contains ps i) (sym c.as_slice.ensures.places)
    (c.self.invariant.marked i e)

pub invariant_of-self : goal.invariant_of-self
invariant_of-self c = rw (c.change_at.ensures, c.in-RollBack.is, c.clear.ensures)
    (IsIndexed-rolled_back c.self.inside.ways c.self.inside.marked c.self.invariant)

pub invariant_of-self-in-ClearRead : goal.invariant_of-self-in-ClearRead
invariant_of-self-in-ClearRead c =
    rw (c.change_at.ensures, c.in-ClearRead.is) (IsIndexed-read_cleared c.self.inside.ways c.self.inside.marked c.self.invariant)

pub invariant_of-self-in-Commit : goal.invariant_of-self-in-Commit
invariant_of-self-in-Commit c =
    rw (c.change_at.ensures, c.in-Commit.is, c.clear-in-Commit.ensures)
    (IsIndexed-committed c.self.inside.ways c.self.inside.marked c.self.invariant c.in-Commit.field-0.0)
