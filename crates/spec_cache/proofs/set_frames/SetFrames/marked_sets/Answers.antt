use Rattle.std.proofs.Common.{◌≡◌, ◌<◌, ◌∙◌, ◌++◌, ℕ, IfSome, List, Contains, sym, subst}
use Rattle.std.specs.Option.{option_to_list}
use Rattle.spec_cache.specs.Held.{Held}
use Rattle.spec_cache.specs.Home.{Collects}
use Rattle.spec_cache.specs.MarkedSets.{marked_set}
use Rattle.spec_cache.proofs.MarkedSets.{marked-sets}
use Rattle.spec_cache.proofs.set_frames.SetFrames.marked_sets.Goals as goal

pub returns : goal.returns
returns c =
    let h : Held = c.self.inside.ways in
    let xs : List ℕ = c.in_ok-sets.sets in
    let found : Collects (marked_set h.config.ways h.frames) xs =
    rw (c.config-config.ensures, c.frames-ways.ensures) at c.in_ok-sets.ensures in
    let below : IfSome c.args.and (λ x. x < h.config.sets) = rw (← c.self.view_is) at c.requires in
    let pushed : c.sets.inside.items.items ≡ xs ++ option_to_list c.args.and = c.sets.view_is ∙ c.in_ok-push_some.ensures in
    rw (← c.self.view_is) (marked-sets h c.self.invariant.in_order c.args.and below xs found
    c.put_sets_in_order.new.sets.items c.put_sets_in_order.ensures.rising
    (λ x. (
      (λ m. subst (λ (ys : List ℕ). Contains ys x) pushed ((c.put_sets_in_order.ensures.same x).0 m)),
      (λ m. (c.put_sets_in_order.ensures.same x).1 (subst (λ (ys : List ℕ). Contains ys x) (sym pushed) m)),
    )))
