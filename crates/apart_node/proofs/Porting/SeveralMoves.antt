-- Messages move in several steps.
use Rattle.std.proofs.Common.{◌≡◌, ℕ, suc, ◌+◌, List, [], ◌∷◌, ◌++◌, length, Option, Some, None, append_assoc, append-nil, length-append}
use Rattle.std.proofs.Common.{refl, ap, sym, ◌∙◌, arith}
use Rattle.std.specs.Prelude.{slice_get, option_and_then}
use Rattle.rules_maps.specs.Bridge.{node_of}
use Rattle.rules_maps.specs.Nodes.{Node}
use Rattle.rules_apart.specs.declared.logs.Mail.{Mail}
use Rattle.apart_node.specs.Moves.{AtEach, Both, Grows, Room, SameLinks, Stands, Takes, numbered}
use Rattle.apart_node.specs.Peers.{seat}
use Rattle.apart_node.specs.Ports.{PortData, RoomData, port_to}

-- ---- two ports

pub links-refl : (p : PortData) → SameLinks p p
links-refl p = record { out_link = refl; out_ends = refl; in_link = refl; in_ends = refl }

pub links-then : (p q r : PortData) → SameLinks p q → SameLinks q r → SameLinks p r
links-then p q r a b = record {
  out_link = b.out_link ∙ a.out_link;
  out_ends = b.out_ends ∙ a.out_ends;
  in_link = b.in_link ∙ a.in_link;
  in_ends = b.in_ends ∙ a.in_ends;
}

numbered-append : (k j : ℕ) (xs ys : List Mail) → j ≡ k + length xs → numbered k (xs ++ ys) ≡ numbered k xs ++ numbered j ys
unfolding numbered
numbered-append k j [] ys e = ap (λ i. numbered i ys) (omega arith)
numbered-append k j (x ∷ xs) ys e = ap (λ l. (k, x) ∷ l) (numbered-append (suc k) j xs ys (omega (arith, e)))

pub numbered-one : (k : ℕ) (m : Mail) → numbered k (m ∷ []) ≡ (k, m) ∷ []
unfolding numbered
numbered-one k m = refl

pub stands-refl : (p : PortData) → Stands p p
stands-refl p = record { links = links-refl p; got = refl; pool = refl }

pub stands-grows : (p q : PortData) → Stands p q → Grows p q
unfolding numbered
stands-grows p q a = record {
  links = a.links;
  more = [];
  got = a.got ∙ sym (append-nil p.inlet.got);
  pool = a.pool ∙ sym (append-nil p.pool);
}

pub grows-then : (p q r : PortData) → Grows p q → Grows q r → Grows p r
grows-then p q r a b =
    let n : length q.inlet.got ≡ length p.inlet.got + length a.more = ap length a.got ∙ length-append p.inlet.got a.more in
    record {
      links = links-then p q r a.links b.links;
      more = a.more ++ b.more;
      got = b.got ∙ (ap (λ l. l ++ b.more) a.got ∙ append_assoc p.inlet.got a.more b.more);
      pool = b.pool ∙ (ap (λ l. l ++ numbered (length q.inlet.got) b.more) a.pool
          ∙ (append_assoc p.pool (numbered (length p.inlet.got) a.more) (numbered (length q.inlet.got) b.more)
          ∙ ap (λ l. p.pool ++ l) (sym (numbered-append (length p.inlet.got) (length q.inlet.got) a.more b.more n))));
    }

pub takes-refl : (p : PortData) → Takes p p
takes-refl p = record { outlet = refl; grows = stands-grows p p (stands-refl p) }

pub takes-then : (p q r : PortData) → Takes p q → Takes q r → Takes p r
takes-then p q r a b = record { outlet = b.outlet ∙ a.outlet; grows = grows-then p q r a.grows b.grows }

-- ---- the ports of a room

pub both-refl : (P : PortData → PortData → Type 0) (o : Option PortData) → ((p : PortData) → P p p) → Both P o o
both-refl P None h = tt
both-refl P (Some p) h = h p

pub both-weaker : (P Q : PortData → PortData → Type 0) (a b : Option PortData) → ((p q : PortData) → P p q → Q p q) → Both P a b
    → Both Q a b
both-weaker P Q None None h x = tt
both-weaker P Q (Some p) (Some q) h x = h p q x
both-weaker P Q None (Some q) h x = absurd x
both-weaker P Q (Some p) None h x = absurd x

pub both-then : (P Q R : PortData → PortData → Type 0) (a b c : Option PortData) → ((p q r : PortData) → P p q → Q q r → R p r)
    → Both P a b → Both Q b c → Both R a c
both-then P Q R None None None h x y = tt
both-then P Q R (Some p) (Some q) (Some r) h x y = h p q r x y
both-then P Q R None None (Some r) h x y = absurd y
both-then P Q R None (Some q) c h x y = absurd x
both-then P Q R (Some p) None c h x y = absurd x
both-then P Q R (Some p) (Some q) None h x y = absurd y

pub room-weaker : (P Q : Node → PortData → PortData → Type 0) (a b : RoomData) → ((n : Node) (p q : PortData) → P n p q → Q n p q)
    → Room P a b → Room Q a b
room-weaker P Q a b h x = record {
  settings = x.settings;
  own = x.own;
  ports = λ n. both-weaker (P n) (Q n) (port_to a n) (port_to b n) (h n) (x.ports n);
}

pub room-then : (P Q R : Node → PortData → PortData → Type 0) (a b c : RoomData)
    → ((n : Node) (p q r : PortData) → P n p q → Q n q r → R n p r)
    → Room P a b → Room Q b c → Room R a c
room-then P Q R a b c h x y = record {
  settings = y.settings ∙ x.settings;
  own = y.own ∙ x.own;
  ports = λ n. both-then (P n) (Q n) (R n) (port_to a n) (port_to b n) (port_to c n) (h n) (x.ports n) (y.ports n);
}

pub room-refl : (P : Node → PortData → PortData → Type 0) (a : RoomData) → ((n : Node) (p : PortData) → P n p p) → Room P a a
room-refl P a h = record { settings = refl; own = refl; ports = λ n. both-refl (P n) (port_to a n) (h n) }

both-seat : (P : PortData → PortData → Type 0) (old new : List PortData) (o : Option ℕ) → AtEach P old new
    → Both P (option_and_then (slice_get old) o) (option_and_then (slice_get new) o)
both-seat P old new None h = tt
both-seat P old new (Some k) h = h k

-- what holds at each place holds at each peer
pub room-places : (P : PortData → PortData → Type 0) (a b : RoomData) → b.settings ≡ a.settings → b.own ≡ a.own → AtEach P a.ports b.ports
    → Room (λ n. P) a b
unfolding port_to
room-places P a b s o h = record {
  settings = s;
  own = o;
  ports = λ n. rw (s, o) (both-seat P a.ports b.ports (seat a.settings (node_of a.own) n) h);
}

-- ---- one message

pub takes-same : (p q : PortData) → q ≡ p → Takes p q
takes-same p q e = rw e (takes-refl p)

pub takes-push : (p : PortData) (m : Mail) (n : ℕ) → n ≡ length p.inlet.got
    → Takes p (record p { inlet = record p.inlet { got = p.inlet.got ++ m ∷ [] }; pool = p.pool ++ (n, m) ∷ [] })
takes-push p m n e = record {
  outlet = refl;
  grows = record {
    links = record { out_link = refl; out_ends = refl; in_link = refl; in_ends = refl };
    more = m ∷ [];
    got = refl;
    pool = ap (λ i. p.pool ++ (i, m) ∷ []) e ∙ ap (λ l. p.pool ++ l) (sym (numbered-one (length p.inlet.got) m));
  };
}
