use Rattle.std.proofs.Common.{◌≡◌, ◌++◌, ◌∷◌, [], ℕ, List, Option, Some, None, refl, sym, subst, get_or, arith, Contains}
use Rattle.spec_cache.specs.Home.{written_found}
use Rattle.spec_cache.proofs.Marked.{collects_more, collects_only, collects_same}
use Rattle.spec_cache.proofs.NotedWays.{each_written}
use Rattle.spec_cache.proofs.noted.all_written_in.Goals.{in-Some+in-Ok, in_default}
use Rattle.spec_cache.proofs.noted.all_written_in.Goals as goal

pub loop-at-preserved : goal.loop-at-preserved
loop-at-preserved c =
    let found : ℕ → Option ℕ = written_found c.args.dirs c.args.home c.args.ways.now in
    let place : ℕ = get_or c.args.places.now c.loop-at.at-index 0 in
    let was : List ℕ = c.loop-at.lines.items in
    elim c.match-written.branch [
      | in-Some+in-Ok w ↦ (let e : found place ≡ Some w.in-Some.line = sym w.in-Some.ensures in
          let new : c.match-written.lines.items ≡ was ++ w.in-Some.line ∷ [] = rw w.lines-is w.in-Ok.ensures.items in
          record {
            each = λ j x h p. subst (λ (xs : List ℕ). Contains xs x) (sym new)
                (collects_more (λ k. found (get_or c.args.places.now k 0)) c.loop-at.at-index was w.in-Some.line e c.loop-at.invariant.each
                j x h p);
            only = λ x h. collects_only found place was w.in-Some.line e c.loop-at.invariant.only x
                (subst (λ (xs : List ℕ). Contains xs x) new h);
          })
      | in_default w ↦ (let e : found place ≡ None = sym w.in_default.ensures in
          let new : c.match-written.lines.items ≡ was = rw w.lines-is refl in
          record {
            each = λ j x h p. subst (λ (xs : List ℕ). Contains xs x) (sym new)
                (collects_same (λ k. found (get_or c.args.places.now k 0)) c.loop-at.at-index was e c.loop-at.invariant.each j x h p);
            only = λ x h. c.loop-at.invariant.only x (subst (λ (xs : List ℕ). Contains xs x) new h);
          })
    ]

pub returns : goal.returns
returns c = record {
  each = each_written c.args.dirs c.args.home c.args.ways.now c.args.places.now c.requires.marked c.loop-at.at-index
      (omega arith) c.loop-at.lines.items c.loop-at.invariant.each;
  only = c.loop-at.invariant.only;
}
