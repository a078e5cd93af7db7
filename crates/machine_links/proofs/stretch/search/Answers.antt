-- What the binary search found.
use Rattle.std.proofs.Common.{sym, subst, rules}
use Rattle.std.proofs.lemmas.List.Sorted.{answers_always}
use Rattle.machine_links.proofs.Finding.{Found, searched}
use Rattle.machine_links.proofs.stretch.search.Goals as goal

pub returns : goal.returns
returns c =
    let facts = c.binary_search_by_key.ensures in
    let by_key = facts.position (λ w. w.seq) (answers_always _ _ _ (λ f a r g called. search rules)) in
    let found = subst (λ r. Found c.args.waiting.now c.args.seq r) (sym c.ok.ensures.value)
    (searched c.args.waiting.now c.args.seq c.requires _ facts.bound by_key) in
    record { within = found.within; found = found.found; absent = found.absent }
