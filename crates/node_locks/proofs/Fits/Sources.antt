-- What came to a node is a beginning of what its source sent, whatever the source.
use Rattle.std.proofs.Common.{◌≡◌, ℕ, zero, suc, ◌+◌, ◌<◌, Bool, true, false, List, [], ◌∷◌, ◌++◌, length, Some, None, refl, ap, sym, ◌∙◌}
use Rattle.std.proofs.Common.{subst, arith}
use Rattle.std.specs.Prelude.{slice_get, nat_lt}
use Rattle.std.proofs.lemmas.Bool.Decides.{nat_tests}
use Rattle.image_load.specs.Contents.{Contents}
use Rattle.rules_maps.specs.Bridge.{node_of}
use Rattle.rules_maps.specs.Nodes.{Node, Core, Dir, Vendor}
use Rattle.rules_tcc.specs.Local.{Side}
use Rattle.rules_tcc.specs.Step.{is_node}
use Rattle.rules_apart.specs.Fitting.{place}
use Rattle.apart_node.specs.Node.{NodeData, IsNode, IsRun, got_from, sent_to, here}
use Rattle.apart_node.specs.Peers.{seat}
use Rattle.apart_node.specs.Ports.{port_to}
use Rattle.node_locks.specs.Hearing.{HasHeard, HaveAllMet}
use Rattle.node_locks.proofs.Fits.Filling.{Begins}
use Rattle.node_locks.proofs.Fits.Sides.{at-place, place-within, side_of, side-run}

-- nothing came from a node that is no peer
none-came : (d : NodeData) (src : Node) → IsNode d → seat d.member.code.settings (here d) src ≡ None → got_from d src ≡ []
unfolding port_to
none-came d src h e =
    let seatless : seat d.room.settings (node_of d.room.own) src ≡ None =
    subst (λ s. seat s (node_of d.room.own) src ≡ None) (sym h.settings)
    (subst (λ o. seat d.member.code.settings (node_of o) src ≡ None) (sym h.own) e) in
    rw seatless refl

found : (xs : List NodeData) (k : ℕ) → k < length xs → (x : NodeData) × (slice_get xs k ≡ Some x)
found [] k h = absurd (omega arith)
found (y ∷ xs) zero h = (y, refl)
found (y ∷ xs) (suc k) h = found xs k (omega arith)

pub sides_of : (code : Contents) (nodes : List NodeData) → HaveAllMet code nodes → Node → Side
sides_of code nodes k n = side_of (slice_get nodes (place code.settings n)) (k.each (place code.settings n))

-- the node of the machine, as it is
pub record AtPlace (code : Contents) (nodes : List NodeData) (k : HaveAllMet code nodes) (n : Node) : Type 0 where
  pub node : NodeData
  pub got : slice_get nodes (place code.settings n) ≡ Some node
  pub runs : node.member.code ≡ code
  pub is : here node ≡ n
  pub run : IsRun node (sides_of code nodes k n)

pub at_place : (code : Contents) (nodes : List NodeData) (k : HaveAllMet code nodes) (n : Node) → is_node code.settings n ≡ true
    → AtPlace code nodes k n
unfolding sides_of
at_place code nodes k n h =
    let within : place code.settings n < length nodes = rw k.are.count (place-within code.settings n h) in
    let f = found nodes (place code.settings n) within in
    let p = k.are.placed (place code.settings n) f.0 f.1 in
    record {
      node = f.0;
      got = f.1;
      runs = p.runs;
      is = p.node ∙ at-place code.settings n h;
      run = side-run (slice_get nodes (place code.settings n)) (k.each (place code.settings n)) f.0 f.1;
    }

module _ (code : Contents) (nodes : List NodeData) (k : HaveAllMet code nodes) where
  -- from a node that is no peer
  from-none : (n src : Node) (to : AtPlace code nodes k n) → seat code.settings n src ≡ None
      → Begins (got_from to.node src) ((sides_of code nodes k src).sent n)
  from-none n src to e =
      let seatless : seat to.node.member.code.settings (here to.node) src ≡ None =
      subst (λ c. seat c.settings (here to.node) src ≡ None) (sym to.runs) (subst (λ m. seat code.settings m src ≡ None) (sym to.is) e) in
      let nothing = none-came to.node src (k.each (place code.settings n) to.node to.got) seatless in (
        (sides_of code nodes k src).sent n,
        subst (λ l. (sides_of code nodes k src).sent n ≡ l ++ (sides_of code nodes k src).sent n)
            (sym nothing) refl,
      )

  -- from one that it has heard of
  from-heard : (n src : Node) (to : AtPlace code nodes k n) (from : AtPlace code nodes k src) → HasHeard from.node to.node
      → Begins (got_from to.node src) ((sides_of code nodes k src).sent n)
  from-heard n src to from h = (
    h.0,
    subst (λ m. (sides_of code nodes k src).sent n ≡ sent_to from.node m) (sym to.is) (from.run.sent n)
        ∙ h.1 ∙ ap (λ m. got_from to.node m ++ h.0) from.is,
  )

  at_core : (c : ℕ) → nat_lt c code.settings.cores ≡ true → AtPlace code nodes k (Core c)
  at_core c h = at_place code nodes k (Core c) h

  -- a core heard of a directory or the vendor
  to-core : (c p : ℕ) (src : Node) → nat_lt c code.settings.cores ≡ true → place code.settings src ≡ code.settings.cores + p
      → (to : AtPlace code nodes k (Core c)) (from : AtPlace code nodes k src) → HasHeard from.node to.node
  to-core c p src h e to from =
      (k.met c p to.node from.node (grind (arith, nat_tests)) to.got (subst (λ i. slice_get nodes i ≡ Some from.node) e from.got)).1

  from-core : (c p : ℕ) (n : Node) → nat_lt c code.settings.cores ≡ true → place code.settings n ≡ code.settings.cores + p
      → (to : AtPlace code nodes k n) (from : AtPlace code nodes k (Core c)) → HasHeard from.node to.node
  from-core c p n h e to from =
      (k.met c p from.node to.node (grind (arith, nat_tests)) from.got (subst (λ i. slice_get nodes i ≡ Some to.node) e to.got)).0

  pub from-all : (n src : Node) → is_node code.settings n ≡ true → (to : AtPlace code nodes k n)
      → Begins (got_from to.node src) ((sides_of code nodes k src).sent n)
  unfolding seat
  from-all (Core c) (Core b) h to = from-none (Core c) (Core b) to refl
  from-all (Core c) (Dir d) h to = go (nat_lt d code.settings.dirs) refl
    where
      go : (b : Bool) → nat_lt d code.settings.dirs ≡ b → Begins (got_from to.node (Dir d)) ((sides_of code nodes k (Dir d)).sent (Core c))
      go true e =
          let from = at_place code nodes k (Dir d) e in
          from-heard (Core c) (Dir d) to from (to-core c d (Dir d) h refl to from)
      go false e = from-none (Core c) (Dir d) to (rw e refl)
  from-all (Core c) Vendor h to =
      let from = at_place code nodes k Vendor refl in
      from-heard (Core c) Vendor to from (to-core c code.settings.dirs Vendor h refl to from)
  from-all (Dir d) (Core c) h to = go (nat_lt c code.settings.cores) refl
    where
      go : (b : Bool) → nat_lt c code.settings.cores ≡ b → Begins (got_from to.node (Core c))
          ((sides_of code nodes k (Core c)).sent (Dir d))
      go true e =
          let from = at_place code nodes k (Core c) e in
          from-heard (Dir d) (Core c) to from (from-core c d (Dir d) e refl to from)
      go false e = from-none (Dir d) (Core c) to (rw e refl)
  from-all Vendor (Core c) h to = go (nat_lt c code.settings.cores) refl
    where
      go : (b : Bool) → nat_lt c code.settings.cores ≡ b → Begins (got_from to.node (Core c)) ((sides_of code nodes k (Core c)).sent Vendor)
      go true e =
          let from = at_place code nodes k (Core c) e in
          from-heard Vendor (Core c) to from (from-core c code.settings.dirs Vendor e refl to from)
      go false e = from-none Vendor (Core c) to (rw e refl)
  from-all (Dir d) (Dir b) h to = from-none (Dir d) (Dir b) to refl
  from-all (Dir d) Vendor h to = from-none (Dir d) Vendor to refl
  from-all Vendor (Dir b) h to = from-none Vendor (Dir b) to refl
  from-all Vendor Vendor h to = from-none Vendor Vendor to refl
