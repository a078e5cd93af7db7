-- Each node's place, and the state and sends in which its own run ends.
use Rattle.std.proofs.Common.{◌≡◌, ◌+◌, ◌-◌, ◌<◌, true, false, Option, Some, None, refl, ap, subst, arith}
use Rattle.std.specs.Prelude.{nat_lt}
use Rattle.std.proofs.lemmas.Bool.Decides.{nat_tests}
use Rattle.tcc_base.specs.Settings.{Settings}
use Rattle.rules_maps.specs.Nodes.{Node, Core, Dir, Vendor}
use Rattle.rules_tcc.specs.Local.{AtVendor, Side, side_start}
use Rattle.rules_tcc.specs.Step.{is_node}
use Rattle.rules_apart.specs.Fitting.{place, node_count}
use Rattle.apart_node.specs.Node.{NodeData, IsNode, IsRun}
use Rattle.node_locks.specs.Places.{nth_node}

-- a node of the machine is the one at its place
pub at-place : (s : Settings) (n : Node) → is_node s n ≡ true → nth_node s (place s n) ≡ n
at-place s (Core c) h = rw h refl
at-place s (Dir d) h =
    let past : nat_lt (s.cores + d) s.cores ≡ false = grind (arith, nat_tests) in
    let within : nat_lt (s.cores + d) (s.cores + s.dirs) ≡ true = grind (arith, nat_tests) in
    let number : s.cores + d - s.cores ≡ d = omega arith in
    rw (past, within) (ap Dir number)
at-place s Vendor h =
    let past : nat_lt (s.cores + s.dirs) s.cores ≡ false = grind (arith, nat_tests) in
    let past_all : nat_lt (s.cores + s.dirs) (s.cores + s.dirs) ≡ false = grind (arith, nat_tests) in
    rw (past, past_all) refl

pub place-within : (s : Settings) (n : Node) → is_node s n ≡ true → place s n < node_count s
place-within s (Core c) h = grind (arith, nat_tests)
place-within s (Dir d) h = grind (arith, nat_tests)
place-within s Vendor h = omega arith

-- the side of a node, where there is one
pub side_of : (o : Option NodeData) → ((n : NodeData) → o ≡ Some n → IsNode n) → Side
side_of None f = side_start (AtVendor 0)
side_of (Some n) f = (f n refl).side

pub side-run : (o : Option NodeData) (f : (n : NodeData) → o ≡ Some n → IsNode n) (n : NodeData) → o ≡ Some n → IsRun n (side_of o f)
unfolding side_of
side-run None f n e = absurd (cc)
side-run (Some m) f n e =
    let same : m ≡ n = cc in
    subst (λ x. IsRun x (f m refl).side) same (f m refl).run
