-- For each directory that owes a core a reply, one probe or reply is in flight between them.
use Rattle.std.specs.Prelude.{ℕ, ◌+◌, ◌≡◌, ◌≤◌, true, nat_le}
use Rattle.rules_maps.specs.Words.{num}
use Rattle.rules_maps.specs.Nodes.{Core, Dir}
use Rattle.rules_maps.specs.Shape.{Shape}
use Rattle.rules_tcc.specs.State.{World}
use Rattle.theorem_serial.specs.Count.{Grants, Probes, Replies, live}
use Rattle.theorem_serial.specs.Pairs.{Pair, pair}
use Rattle.theorem_serial.specs.Tids.{has_tid}

-- Of a TID that isn't granted yet or that is on its way to the core no probe or reply is in flight; of the core's TID one
-- exactly where the directory owes a reply.
pub record ProbingOf (d t : ℕ) (v : Pair) : Type 0 where
  pub fresh : 1 ≤ num (nat_le v.next t) + live (Grants t) v.grants → live (Probes t) v.out + live (Replies t) v.back ≡ 0
  pub held : has_tid v.core.phase t ≡ true → live (Probes t) v.out + live (Replies t) v.back ≡ num (v.core.owing d)

abbrev pub KeptProbing : World → Type 0
KeptProbing w = (c d t : ℕ) → ProbingOf d t (pair w c d)

-- Between a core and each directory: one probe of the core's TID or one reply to it is in flight where the directory owes a
-- reply, and none where it doesn't.
abbrev pub OneProbe : Shape → World → Type 0
OneProbe sh w = (c d t : ℕ) → has_tid (w.cores c).phase t ≡ true
    → live (Probes t) (w.net (Core c) (Dir d)) + live (Replies t) (w.net (Dir d) (Core c)) ≡ num ((w.cores c).owing d)
