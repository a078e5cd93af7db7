use Rattle.std.proofs.Common.{sym, arith}
use Rattle.spec_cache.proofs.InPlaces.{stores_clean, IsIndexed-stored}
use Rattle.spec_cache.proofs.set_frames.SetFrames.store_again.Goals as goal

pub invariant_of-self : goal.invariant_of-self
invariant_of-self c =
    IsIndexed-stored c.self.inside.ways c.self.invariant.in_order c.line_of_word-line.result.0 c.store_again.new.self
    c.place_of_word-place.result c.args.value c.args.mark_read
    c.self.inside.marked c.self.invariant (rw c.place_of_word-place.ensures (omega arith)) c.store_again.result c.store_again.ensures

pub returns-clause-does : goal.returns-clause-does
returns-clause-does c =
    rw (sym c.self.view_is) (stores_clean c.self.inside.ways c.self.invariant.in_order c.line_of_word-line.result.0 c.store_again.new.self
    c.place_of_word-place.result c.args.value
    c.args.mark_read c.args.w.0 c.line_of_word-line.ensures c.place_of_word-place.ensures c.store_again.result c.store_again.ensures)
