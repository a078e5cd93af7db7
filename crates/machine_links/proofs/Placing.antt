-- The places of links among all pairs of nodes: each link has its own, and each place has its source and destination.
use Rattle.std.proofs.Common.{◌≡◌, ℕ, ◌+◌, ◌*◌, ◌/◌, ◌%◌, ◌<◌, ◌≤◌, true, false, nat_lt, ⊎_elim, Some, None, refl, ap, subst, ◌∙◌, arith}
use Rattle.std.proofs.lemmas.Bool.{cases_lt, and_parts, ltb-true, lt-ltb, le-ltb}
use Rattle.std.proofs.lemmas.Option.{cond_some}
use Rattle.std.proofs.lemmas.Nat.{div-mul-add, mod-mul-add, mul-add-lt, div_below, mod_below, div-add-mod'}
use Rattle.rules_maps.specs.Nodes.{Node, Core, Dir, Vendor}
use Rattle.machine_links.specs.Places.{is_link, rank, node_at, place, src_at, dst_at}

core-at : (cs ds c : ℕ) → c < cs → node_at cs ds c ≡ Core c
core-at cs ds c h = rw (lt-ltb c cs h) refl

dir-at : (cs ds d : ℕ) → d < ds → node_at cs ds (cs + d) ≡ Dir d
dir-at cs ds d h =
    let a : cs ≤ cs + d = omega arith in
    let b : cs + d < cs + ds = omega arith in
    rw (le-ltb (cs + d) cs a, lt-ltb (cs + d) (cs + ds) b) (ap Dir (omega arith))

vendor-at : (cs ds : ℕ) → node_at cs ds (cs + ds) ≡ Vendor
vendor-at cs ds =
    let a : cs ≤ cs + ds = omega arith in
    let b : cs + ds ≤ cs + ds = omega arith in
    rw (le-ltb (cs + ds) cs a, le-ltb (cs + ds) (cs + ds) b) refl

-- both ends of a link are nodes
pub record Ends (cs ds : ℕ) (s d : Node) : Type 0 where
  pub src : node_at cs ds (rank cs ds s) ≡ s
  pub dst : node_at cs ds (rank cs ds d) ≡ d
  pub src_below : rank cs ds s < cs + ds + 1
  pub dst_below : rank cs ds d < cs + ds + 1

pub link-ends : (cs ds : ℕ) (s d : Node) → is_link cs ds s d ≡ true → Ends cs ds s d
link-ends cs ds (Core c) (Core d) e = absurd (cc)
link-ends cs ds (Core c) (Dir d) e =
    let t = and_parts (nat_lt c cs) (nat_lt d ds) e in
    let a : c < cs = ltb-true c cs t.0 in
    let b : d < ds = ltb-true d ds t.1 in
    record { src = core-at cs ds c a; dst = dir-at cs ds d b; src_below = omega arith; dst_below = omega arith }
link-ends cs ds (Core c) Vendor e =
    let a : c < cs = ltb-true c cs e in
    record { src = core-at cs ds c a; dst = vendor-at cs ds; src_below = omega arith; dst_below = omega arith }
link-ends cs ds (Dir d) (Core c) e =
    let t = and_parts (nat_lt d ds) (nat_lt c cs) e in
    let a : c < cs = ltb-true c cs t.1 in
    let b : d < ds = ltb-true d ds t.0 in
    record { src = dir-at cs ds d b; dst = core-at cs ds c a; src_below = omega arith; dst_below = omega arith }
link-ends cs ds (Dir c) (Dir d) e = absurd (cc)
link-ends cs ds (Dir c) Vendor e = absurd (cc)
link-ends cs ds Vendor (Core c) e =
    let a : c < cs = ltb-true c cs e in
    record { src = vendor-at cs ds; dst = core-at cs ds c a; src_below = omega arith; dst_below = omega arith }
link-ends cs ds Vendor (Dir d) e = absurd (cc)
link-ends cs ds Vendor Vendor e = absurd (cc)

-- what is known of a link that has this place
pub record PlacedAt (cs ds : ℕ) (s d : Node) (i : ℕ) : Type 0 where
  pub link : is_link cs ds s d ≡ true
  pub src : src_at cs ds i ≡ s
  pub dst : dst_at cs ds i ≡ d
  pub below : i < (cs + ds + 1) * (cs + ds + 1)

pub placed : (cs ds : ℕ) (s d : Node) (i : ℕ) → place cs ds s d ≡ Some i → PlacedAt cs ds s d i
unfolding place
placed cs ds s d i e =
    let t = cond_some (is_link cs ds s d) (rank cs ds s * (cs + ds + 1) + rank cs ds d) i e in
    let ends = link-ends cs ds s d t.0 in
    subst (λ j. PlacedAt cs ds s d j) t.1 (record {
      link = t.0;
      src = ap (node_at cs ds) (div-mul-add (rank cs ds s) (cs + ds + 1) (rank cs ds d) ends.dst_below) ∙ ends.src;
      dst = ap (node_at cs ds) (mod-mul-add (rank cs ds s) (cs + ds + 1) (rank cs ds d) ends.dst_below) ∙ ends.dst;
      below = mul-add-lt (rank cs ds s) (cs + ds + 1) (rank cs ds d) (cs + ds + 1) ends.src_below ends.dst_below;
    })

-- a link has a place, and no other pair has
pub place-yes : (cs ds : ℕ) (s d : Node) → is_link cs ds s d ≡ true → place cs ds s d ≡ Some (rank cs ds s * (cs + ds + 1) + rank cs ds d)
unfolding place
place-yes cs ds s d e = rw e refl

pub place-none : (cs ds : ℕ) (s d : Node) → is_link cs ds s d ≡ false → place cs ds s d ≡ None
unfolding place
place-none cs ds s d e = rw e refl

rank-at : (cs ds n : ℕ) → n < cs + ds + 1 → rank cs ds (node_at cs ds n) ≡ n
rank-at cs ds n h =
    ⊎_elim (λ lt. rw (lt-ltb n cs lt) refl)
    (λ le. ⊎_elim (λ lt. rw (le-ltb n cs le, lt-ltb n (cs + ds) lt) (omega arith))
    (λ ge. rw (le-ltb n cs le, le-ltb n (cs + ds) ge) (omega arith)) (cases_lt n (cs + ds)))
    (cases_lt n cs)

-- each place is that of its source and destination, where they have a link
pub place-at : (cs ds i : ℕ) → i < (cs + ds + 1) * (cs + ds + 1) → is_link cs ds (src_at cs ds i) (dst_at cs ds i) ≡ true
    → place cs ds (src_at cs ds i) (dst_at cs ds i) ≡ Some i
unfolding place
place-at cs ds i h e =
    let m : 0 < cs + ds + 1 = omega arith in
    let a : rank cs ds (src_at cs ds i) ≡ i / (cs + ds + 1) =
    rank-at cs ds (i / (cs + ds + 1)) (div_below i (cs + ds + 1) (cs + ds + 1) m h) in
    let b : rank cs ds (dst_at cs ds i) ≡ i % (cs + ds + 1) = rank-at cs ds (i % (cs + ds + 1)) (mod_below i (cs + ds + 1) m) in
    rw (e, a, b) (ap Some (div-add-mod' i (cs + ds + 1)))
