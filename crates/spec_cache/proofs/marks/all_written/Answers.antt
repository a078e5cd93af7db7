use Rattle.std.proofs.Common.{◌≡◌, ◌++◌, ◌∷◌, [], ℕ, List, Option, Some, None, refl, sym, subst, arith, Contains}
use Rattle.spec_cache.specs.Home.{written_found}
use Rattle.spec_cache.proofs.Marked.{collects_more, collects_only, collects_same, written_within}
use Rattle.spec_cache.proofs.marks.all_written.Goals.{in-Some+in-Ok, in_default}
use Rattle.spec_cache.proofs.marks.all_written.Goals as goal

pub loop-way-preserved : goal.loop-way-preserved
loop-way-preserved c =
    let found : ℕ → Option ℕ = written_found c.args.dirs c.args.home c.args.ways.now in
    let was : List ℕ = c.loop-way.lines.items in
    elim c.match-written.branch [
      | in-Some+in-Ok w ↦ (let e : found c.loop-way.way-index ≡ Some w.in-Some.line = sym w.in-Some.ensures in
          let new : c.match-written.lines.items ≡ was ++ w.in-Some.line ∷ [] = rw w.lines-is w.in-Ok.ensures.items in
          record {
            each = λ j x h p. subst (λ (xs : List ℕ). Contains xs x) (sym new)
                (collects_more found c.loop-way.way-index was w.in-Some.line e c.loop-way.invariant.each j x h p);
            only = λ x h. collects_only found c.loop-way.way-index was w.in-Some.line e c.loop-way.invariant.only x
                (subst (λ (xs : List ℕ). Contains xs x) new h);
          })
      | in_default w ↦ (let e : found c.loop-way.way-index ≡ None = sym w.in_default.ensures in
          let new : c.match-written.lines.items ≡ was = rw w.lines-is refl in
          record {
            each = λ j x h p. subst (λ (xs : List ℕ). Contains xs x) (sym new)
                (collects_same found c.loop-way.way-index was e c.loop-way.invariant.each j x h p);
            only = λ x h. c.loop-way.invariant.only x (subst (λ (xs : List ℕ). Contains xs x) new h);
          })
    ]

pub returns : goal.returns
returns c = record {
  each = λ i x e. c.loop-way.invariant.each i x (let b = written_within c.args.dirs c.args.home c.args.ways.now i x e in omega (arith, b))
      e;
  only = c.loop-way.invariant.only;
}
