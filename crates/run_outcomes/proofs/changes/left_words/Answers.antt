use Rattle.run_outcomes.proofs.Untouched.{touched-inside, told-if}
use Rattle.std.proofs.Common.{length}
use Rattle.run_outcomes.proofs.changes.left_words.Goals as goal

pub differing-requires-clause-sorted : goal.differing-requires-clause-sorted
differing-requires-clause-sorted c = rw c.deref.ensures.value c.in_ok-words.ensures.sorted

pub differing-requires-clause-inside : goal.differing-requires-clause-inside
differing-requires-clause-inside c =
    rw c.deref.ensures.value
    (touched-inside c.args.base (length c.args.memory.now.ram) c.args.changes.now c.args.stores.now c.in_ok-words.words.items
    c.requires.changes c.requires.stores c.in_ok-words.ensures.same)

pub returns-clause-ram : goal.returns-clause-ram
returns-clause-ram c =
    told-if c.args.base c.args.memory.now c.args.changes.now c.args.stores.now c.in_ok-words.words.items c.differing.result
    c.in_ok-words.ensures.same (rw (← c.deref.ensures.value) c.differing.ensures.told)
