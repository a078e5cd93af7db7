-- The others stay listed.
use Rattle.std.proofs.Common.{suc, ◌%◌, ◌++◌, take, drop, ap, set, sym, subst, ◌∙◌}
use Rattle.std.specs.Prelude.{slice_get}
use Rattle.machine_links.specs.Subject.{IsListed}
use Rattle.machine_links.proofs.Listed.{bucket-read, put-own, removed}
use Rattle.machine_links.proofs.index.Index.remove.Goals as goal
use Rattle.machine_links.proofs.index.Index.remove.Goals.{in-Some, in_default}

pub returns : goal.returns
returns c = λ e ne listed.
    let x = c.self.inside.lists.items in
    let f = c.args.entry in
    let before = subst (λ y. IsListed y e) (sym c.self.view_is) listed in
    let list = c.list.view_is ∙ bucket-read x f.key c.index_mut.result.now c.self.invariant c.index_mut.ensures.value in
    elim c.match-place_of.branch [
      | in-Some w ↦ subst (λ y. IsListed y e)
          (ap (λ b. set x (f.key % 4096) b) (sym (w.remove.ensures.items ∙ ap (λ b. take w.in-Some.at b ++ drop (suc w.in-Some.at) b) list))
          ∙ ap (λ y. y.lists.items) (sym w.self-inside-is))
          (removed x e f w.in-Some.at c.self.invariant
          (ap (λ b. slice_get b w.in-Some.at) (sym (c.deref.ensures.value ∙ list)) ∙ w.in-Some.ensures.found) ne before)
      | in_default w ↦ subst (λ y. IsListed y e)
          (sym (put-own x f.key) ∙ ap (λ b. set x (f.key % 4096) b) (sym list) ∙ ap (λ y. y.lists.items) (sym w.self-inside-is)) before
    ]
