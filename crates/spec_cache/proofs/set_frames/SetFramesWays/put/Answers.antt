use Rattle.std.proofs.Common.{◌∙◌, sym, refl}
use Rattle.std.proofs.lemmas.Bool.{false≢true}
use Rattle.spec_cache.proofs.Indexed.{IsIndexed-set}
use Rattle.spec_cache.proofs.set_frames.SetFramesWays.put.Goals as goal

pub invariant_of-self : goal.invariant_of-self
invariant_of-self c =
    rw c.put.ensures (IsIndexed-set c.self.inside.ways c.self.inside.marked c.self.invariant c.args.at c.args.frame
    (rw (sym c.self.view_is) at c.requires.inside)
    (rw (sym c.self.view_is) at c.requires.fits) c.note.new.self c.note.ensures.size (λ t. c.note.ensures.noted) c.note.ensures.keeps)

pub invariant_of-self-else-is_marked : goal.invariant_of-self-else-is_marked
invariant_of-self-else-is_marked c =
    rw c.put.ensures (IsIndexed-set c.self.inside.ways c.self.inside.marked c.self.invariant c.args.at c.args.frame
    (rw (sym c.self.view_is) at c.requires.inside)
    (rw (sym c.self.view_is) at c.requires.fits) c.self.inside.marked refl
    (λ t. absurd (false≢true (sym (sym c.is_marked.ensures ∙ c.if-is_marked.false) ∙ t))) (λ j m. m))
