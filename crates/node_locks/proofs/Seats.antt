-- The seats of a core and of a node behind the cores at one another, and the ports there.
use Rattle.std.proofs.Common.{◌≡◌, ℕ, zero, suc, ◌+◌, ◌-◌, ◌<◌, ◌≤◌, Bool, true, false, cond, List, [], ◌∷◌, ◌++◌, length, Some, append-nil}
use Rattle.std.proofs.Common.{refl, ap, sym, ◌∙◌, subst, arith, inl, inr}
use Rattle.std.specs.Prelude.{slice_get, nat_lt, ◌==◌, map, All, option_and_then, option_map, OnOk, Result, Ok, Err, is_ok, if◌then◌else◌}
use Rattle.std.specs.Prelude.{reverse, ◌⊎◌}
use Rattle.std.proofs.lemmas.Bool.Decides.{nat_tests}
use Rattle.std.proofs.lemmas.List.{length-map, reverse-append}
use Rattle.std.proofs.lemmas.List.Elements.{All-cons}
use Rattle.std.proofs.lemmas.Option.{slice_get_within, slice_get-map}
use Rattle.image_load.specs.Contents.{Contents}
use Rattle.tcc_base.specs.Settings.{Settings}
use Rattle.tcc_base.specs.declared.names.NodeId.{NodeId}
use Rattle.rules_maps.specs.Bridge.{node_of}
use Rattle.rules_maps.specs.Nodes.{Node, Core, Dir, Vendor}
use Rattle.rules_apart.specs.Fitting.{node_count}
use Rattle.rules_apart.specs.declared.logs.Logged.{Logged}
use Rattle.apart_node.specs.Linked.{IsLinkedTo}
use Rattle.apart_node.specs.Node.{NodeData, here}
use Rattle.apart_node.specs.Peers.{seat, peer_count}
use Rattle.apart_node.specs.Ports.{ArePorts, IsPortAt, IsUnused, PortData, RoomData, port_to}
use Rattle.node_locks.specs.Joining.{AreJoinedTo, ports_due}
use Rattle.node_locks.specs.Places.{nth_node}
use Rattle.node_locks.specs.Starting.{IsFresh}
use Rattle.node_locks.specs.Wiring.{AreNodes, are_peers, logs_of}
use Rattle.node_locks.proofs.Rounds.{get-back}

pub record Seats (s : Settings) (c k : ℕ) : Type 0 where
  pub there : seat s (nth_node s c) (nth_node s (s.cores + k)) ≡ Some k
  pub back : seat s (nth_node s (s.cores + k)) (nth_node s c) ≡ Some c

pub seats : (s : Settings) (c k : ℕ) → c < s.cores → k ≤ s.dirs → Seats s c k
unfolding seat
seats s c k h l =
    let core : nat_lt c s.cores ≡ true = grind (arith, nat_tests) in
    let past : nat_lt (s.cores + k) s.cores ≡ false = grind (arith, nat_tests) in
    let number : s.cores + k - s.cores ≡ k = omega arith in
    record {
      there = rw (core, past, number) (to (nat_lt (s.cores + k) (s.cores + s.dirs)) refl);
      back = rw (core, past, number) (from (nat_lt (s.cores + k) (s.cores + s.dirs)));
    }
  where
    to : (b : Bool) → nat_lt (s.cores + k) (s.cores + s.dirs) ≡ b → seat s (Core c) (cond b (Dir k) Vendor) ≡ Some k
    to true e =
        let dir : nat_lt k s.dirs ≡ true = grind (arith, nat_tests) in
        rw dir refl
    to false e =
        let last : s.dirs ≡ k = grind (arith, nat_tests) in
        ap Some last

    from : (b : Bool) → seat s (cond b (Dir k) Vendor) (Core c) ≡ Some c
    from true =
        let core : nat_lt c s.cores ≡ true = grind (arith, nat_tests) in
        rw core refl
    from false =
        let core : nat_lt c s.cores ≡ true = grind (arith, nat_tests) in
        rw core refl

-- a port with these ends is the one of its place
pub port-at : (s : Settings) (n : Node) (j : ℕ) (own peer : NodeId) (p : PortData)
    → p.outlet.ends ≡ record { settings = s; src = own; dst = peer }
    → p.inlet.ends ≡ record { settings = s; src = peer; dst = own } → node_of own ≡ n → seat s n (node_of peer) ≡ Some j → IsPortAt s n j p
port-at s n j own peer p out back is at = record {
  place = subst (λ e. seat s n (node_of e.dst) ≡ Some j) (sym out) at;
  mirrored = ap (λ e. e.src) back ∙ sym (ap (λ e. e.dst) out);
  out_settings = ap (λ e. e.settings) out;
  in_settings = ap (λ e. e.settings) back;
  out_own = ap (λ e. node_of e.src) out ∙ is;
  in_own = ap (λ e. node_of e.dst) back ∙ is;
}

pub all-from : {A : Type 0} (P : A → Type 0) (xs : List A) → ((j : ℕ) (x : A) → slice_get xs j ≡ Some x → P x) → All P xs
all-from P [] h = λ k d l. absurd (omega (arith, l))
all-from P (x ∷ xs) h = All-cons P x xs (h 0 x refl) (all-from P xs (λ j. h (suc j)))

due-all : (s : Settings) (i : ℕ) → i < node_count s → ports_due s s.cores 0 i ≡ peer_count s (nth_node s i)
due-all s i h = go (nat_lt i s.cores) refl (nat_lt i (s.cores + s.dirs))
  where
    behind : nat_lt (i - s.cores) 0 ≡ false
    behind = grind (arith, nat_tests)

    go : (b : Bool) → nat_lt i s.cores ≡ b → (d : Bool)
        → cond b (cond (nat_lt i s.cores) (s.dirs + 1) (cond (i == s.cores) 0 0)) (cond (nat_lt (i - s.cores) 0) (s.cores + 1) s.cores)
        ≡ peer_count s (cond b (Core i) (cond d (Dir (i - s.cores)) Vendor))
    go true e d = rw e refl
    go false e true = rw behind refl
    go false e false = rw behind refl

-- the ports of a place
pub ports-of : (s : Settings) (rooms : List (List PortData)) (i : ℕ) (ps : List PortData) → AreJoinedTo s s.cores 0 rooms
    → slice_get rooms i ≡ Some ps
    → ArePorts s (nth_node s i) ps
ports-of s rooms i ps a e = record {
  count = a.due i ps e ∙ due-all s i (subst (λ n. i < n) a.count (slice_get_within rooms i ps e));
  each = λ j p f. a.at i j ps p e f;
}

pub unused-of : (s : Settings) (rooms : List (List PortData)) (i : ℕ) (ps : List PortData) → AreJoinedTo s s.cores 0 rooms
    → slice_get rooms i ≡ Some ps
    → All IsUnused ps
unused-of s rooms i ps a e = all-from IsUnused ps (λ j p f. a.unused i j ps p e f)

-- the first of those that are left
pub first-left : (front left rooms : List (List PortData)) (ps : List PortData) → front ++ ps ∷ left ≡ rooms
    → slice_get rooms (length front) ≡ Some ps
first-left front left rooms ps e =
    let zero_more : length front + 0 ≡ length front = omega arith in
    subst (λ i. slice_get rooms i ≡ Some ps) zero_more (ap (λ l. slice_get l (length front + 0)) (sym e) ∙ get-back front (ps ∷ left) 0)

pub fresh-push : (code : Contents) (xs : List NodeData) (x : NodeData) (at : ℕ) → IsFresh code (at + length xs) x
    → ((i : ℕ) (n : NodeData) → slice_get xs i ≡ Some n → IsFresh code (at + i) n)
    → (i : ℕ) (n : NodeData) → slice_get (xs ++ x ∷ []) i ≡ Some n → IsFresh code (at + i) n
fresh-push code [] x at f all zero n e =
    let is : x ≡ n = cc in
    subst (λ y. IsFresh code (at + 0) y) is f
fresh-push code [] x at f all (suc i) n e = absurd (cc)
fresh-push code (y ∷ xs) x at f all zero n e = all zero n e
fresh-push code (y ∷ xs) x at f all (suc i) n e =
    let shift : (k : ℕ) → at + suc k ≡ suc at + k = λ k. omega arith in
    subst (λ k. IsFresh code k n) (sym (shift i))
    (fresh-push code xs x (suc at) (subst (λ k. IsFresh code k x) (shift (length xs)) f)
    (λ k m g. subst (λ j. IsFresh code j m) (shift k) (all (suc k) m g)) i n e)

within-some : (xs : List PortData) (k : ℕ) → k < length xs → (x : PortData) × (slice_get xs k ≡ Some x)
within-some [] k h = absurd (omega (arith, h))
within-some (y ∷ xs) zero h = (y, refl)
within-some (y ∷ xs) (suc k) h = within-some xs k (omega (arith, h))

-- ---- the nodes with their ports

abbrev pub ports_in : List NodeData → List (List PortData)
ports_in nodes = map (λ (n : NodeData). n.room.ports) nodes

pub ports-push : (nodes : List NodeData) (n : NodeData) (left : List (List PortData))
    → ports_in (nodes ++ n ∷ []) ++ left ≡ ports_in nodes ++ n.room.ports ∷ left
ports-push [] n left = refl
ports-push (m ∷ nodes) n left = ap (λ l. m.room.ports ∷ l) (ports-push nodes n left)

pub left-first : (left : List (List PortData)) (ps : List PortData) → reverse (left ++ ps ∷ []) ≡ ps ∷ reverse left
left-first left ps = reverse-append left (ps ∷ [])

pub none-left : (front left whole : List (List PortData)) → length left ≡ 0 → front ++ reverse left ≡ whole → front ≡ whole
none-left front [] whole h e = sym (append-nil front) ∙ e
none-left front (ps ∷ left) whole h e = absurd (omega (arith, h))

pub next-ports : (nodes : List NodeData) (left rooms : List (List PortData)) (ps : List PortData) → ports_in nodes ++ ps ∷ left ≡ rooms
    → slice_get rooms (length nodes) ≡ Some ps
next-ports nodes left rooms ps e =
    subst (λ i. slice_get rooms i ≡ Some ps) (length-map nodes (λ (n : NodeData). n.room.ports))
    (first-left (ports_in nodes) left rooms ps e)

pub fresh-next : (code : Contents) (xs : List NodeData) (x : NodeData) → IsFresh code (length xs) x
    → ((i : ℕ) (n : NodeData) → slice_get xs i ≡ Some n → IsFresh code i n) → (i : ℕ) (n : NodeData) → slice_get (xs ++ x ∷ []) i ≡ Some n
    → IsFresh code i n
fresh-next code xs x f all i n e =
    let zero_first : (k : ℕ) → 0 + k ≡ k = λ k. omega arith in
    subst (λ k. IsFresh code k n) (zero_first i)
    (fresh-push code xs x 0 (subst (λ k. IsFresh code k x) (sym (zero_first (length xs))) f)
    (λ k m g. subst (λ j. IsFresh code j m) (sym (zero_first k)) (all k m g)) i n e)

pub logs-none : (nodes : List NodeData) → ((i : ℕ) (n : NodeData) → slice_get nodes i ≡ Some n → n.log ≡ [])
    → All (λ (log : List Logged). log ≡ []) (logs_of nodes)
unfolding logs_of
logs-none [] h = λ k d l. absurd (omega (arith, l))
logs-none (n ∷ nodes) h = All-cons (λ (log : List Logged). log ≡ []) n.log (logs_of nodes) (h 0 n refl) (logs-none nodes (λ i. h (suc i)))

-- of two peers one is a core and the other isn't
kinds : (s : Settings) (i j : ℕ) (b d e f : Bool)
    → are_peers s (cond b (Core i) (cond d (Dir (i - s.cores)) Vendor)) (cond e (Core j) (cond f (Dir (j - s.cores)) Vendor)) ≡ true
    → ((b ≡ true) × (e ≡ false)) ⊎ ((b ≡ false) × (e ≡ true))
unfolding seat
kinds s i j true d true f h = absurd (cc)
kinds s i j true d false f h = inl (refl, refl)
kinds s i j false d true f h = inr (refl, refl)
kinds s i j false true false true h = absurd (cc)
kinds s i j false true false false h = absurd (cc)
kinds s i j false false false true h = absurd (cc)
kinds s i j false false false false h = absurd (cc)

to-port : (a b : RoomData) (s : Settings) (n m : Node) (j : ℕ) (p : PortData) → a.settings ≡ s → node_of a.own ≡ n → node_of b.own ≡ m
    → seat s n m ≡ Some j → slice_get a.ports j ≡ Some p → port_to a (node_of b.own) ≡ Some p
unfolding port_to
to-port a b s n m j p is own other at got =
    ap (option_and_then (slice_get a.ports)) (subst (λ t. seat t (node_of a.own) (node_of b.own) ≡ Some j) (sym is)
    (subst (λ x. seat s x (node_of b.own) ≡ Some j) (sym own) (subst (λ x. seat s n x ≡ Some j) (sym other) at))) ∙ got

module _ (code : Contents) (nodes : List NodeData) (fresh : (i : ℕ) (n : NodeData) → slice_get nodes i ≡ Some n → IsFresh code i n)
    (all : AreJoinedTo code.settings code.settings.cores 0 (ports_in nodes)) where
  room-at : (i : ℕ) (n : NodeData) → slice_get nodes i ≡ Some n → slice_get (ports_in nodes) i ≡ Some n.room.ports
  room-at i n e = slice_get-map (λ (m : NodeData). m.room.ports) nodes i ∙ ap (option_map (λ (m : NodeData). m.room.ports)) e

  own-at : (i : ℕ) (n : NodeData) → slice_get nodes i ≡ Some n → node_of n.room.own ≡ nth_node code.settings i
  own-at i n e = ap node_of (fresh i n e).own ∙ (fresh i n e).placed.node

  core-count : (c : ℕ) (a : NodeData) → c < code.settings.cores → slice_get nodes c ≡ Some a → length a.room.ports ≡ code.settings.dirs + 1
  core-count c a h e =
      let core : nat_lt c code.settings.cores ≡ true = grind (arith, nat_tests) in
      all.due c a.room.ports (room-at c a e) ∙ rw core refl

  other-count : (k : ℕ) (b : NodeData) → slice_get nodes (code.settings.cores + k) ≡ Some b → length b.room.ports ≡ code.settings.cores
  other-count k b e =
      let past : nat_lt (code.settings.cores + k) code.settings.cores ≡ false = grind (arith, nat_tests) in
      let behind : nat_lt (code.settings.cores + k - code.settings.cores) 0 ≡ false = grind (arith, nat_tests) in
      all.due (code.settings.cores + k) b.room.ports (room-at (code.settings.cores + k) b e) ∙ rw (past, behind) refl

  pair : (c k : ℕ) (a b : NodeData) → c < code.settings.cores → k ≤ code.settings.dirs → slice_get nodes c ≡ Some a
      → slice_get nodes (code.settings.cores + k) ≡ Some b → IsLinkedTo a.room b.room × IsLinkedTo b.room a.room
  pair c k a b h l e f =
      let s = code.settings in
      let p = within-some a.room.ports k (omega (arith, core-count c a h e, l)) in
      let q = within-some b.room.ports c (omega (arith, other-count k b f, h)) in
      let join = all.joined c k a.room.ports b.room.ports p.0 q.0 h (room-at c a e) (room-at (s.cores + k) b f) p.1 q.1 in
      let at = seats s c k h l in
      let there = to-port a.room b.room s (nth_node s c) (nth_node s (s.cores + k)) k p.0 (fresh c a e).settings (own-at c a e)
      (own-at (s.cores + k) b f) at.there p.1 in
      let back = to-port b.room a.room s (nth_node s (s.cores + k)) (nth_node s c) c q.0 (fresh (s.cores + k) b f).settings
      (own-at (s.cores + k) b f) (own-at c a e) at.back q.1 in (
        record { there = p.0; back = q.0; to = there; from = back; link = join.there },
        record { there = q.0; back = p.0; to = back; from = there; link = join.back },
      )

  nodes-count : length nodes ≡ node_count code.settings
  nodes-count = sym (length-map nodes (λ (n : NodeData). n.room.ports)) ∙ all.count

  behind : (j : ℕ) (b : NodeData) → slice_get nodes j ≡ Some b → nat_lt j code.settings.cores ≡ false
      → (slice_get nodes (code.settings.cores + (j - code.settings.cores)) ≡ Some b) × (j - code.settings.cores ≤ code.settings.dirs)
  behind j b e h =
      let within : j < node_count code.settings = subst (λ n. j < n) nodes-count (slice_get_within nodes j b e) in
      let same : j ≡ code.settings.cores + (j - code.settings.cores) = grind (arith, nat_tests) in
      (subst (λ i. slice_get nodes i ≡ Some b) same e, grind (arith, nat_tests))

  -- fresh nodes with these ports are the nodes of a machine
  pub seated : AreNodes code nodes
  seated = record {
    count = nodes-count;
    placed = λ i n e. (fresh i n e).placed;
    wired = λ i j a b e f h. wired i j a b e f (subst (λ n. are_peers code.settings n (here b) ≡ true) (fresh i a e).placed.node h);
  }
    where
      wired : (i j : ℕ) (a b : NodeData) → slice_get nodes i ≡ Some a → slice_get nodes j ≡ Some b
          → are_peers code.settings (nth_node code.settings i) (here b) ≡ true → IsLinkedTo a.room b.room
      wired i j a b e f h =
          let s = code.settings in
          let two = subst (λ n. are_peers s (nth_node s i) n ≡ true) (fresh j b f).placed.node h in
          elim (kinds s i j (nat_lt i s.cores) (nat_lt i (s.cores + s.dirs)) (nat_lt j s.cores) (nat_lt j (s.cores + s.dirs)) two) [
            | inl k ↦ (let q = behind j b f k.1 in (pair i (j - s.cores) a b (grind (arith, nat_tests, k.0)) q.1 e q.0).0)
            | inr k ↦ (let q = behind i a e k.0 in (pair j (i - s.cores) b a (grind (arith, nat_tests, k.1)) q.1 f q.0).1)
          ]

pub on-ok : {A E : Type 0} (r : Result A E) (new old more : List PortData) → new ≡ (if is_ok r then more else old)
    → (P : List PortData → Type 0) → P more → OnOk r (P new)
on-ok (Ok a) new old more e P h = subst P (sym e) h
on-ok (Err x) new old more e P h = tt
