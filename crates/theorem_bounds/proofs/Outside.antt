-- How many messages name a line that memory doesn't have: none that a rule sends. Words on their way home aren't counted here. And how
-- many messages there are.
use Rattle.std.specs.Prelude.{ℕ, zero, suc, ◌+◌, ◌≡◌, ◌<◌, ◌≤◌, Bool, true, false, not, cond, ◌&&◌, List, [], ◌∷◌, ◌++◌, length, get_or}
use Rattle.std.specs.Prelude.{slice_set, Some, None, nat_lt, if◌then◌else◌}
use Rattle.std.specs.List.{flat_map}
use Rattle.std.proofs.Common.{arith, refl, ap}
use Rattle.std.proofs.lemmas.List.{length-append}
use Rattle.std.proofs.lemmas.Bool.Decides.{nat_tests}
use Rattle.rules_maps.specs.Words.{num, those}
use Rattle.rules_maps.specs.Nodes.{Node, Core, Dir, Vendor, Msg, LoadReq, Fill, Mark, DataReq, Inv, InvAck, node_eq}
use Rattle.rules_maps.specs.Shape.{Shape, lines}
use Rattle.rules_tcc.specs.State.{Link}
use Rattle.rules_tcc.specs.Links.{sent_all, sending, taking}
use Rattle.rules_tcc.specs.Sends.{Sends, nothing, to, then_send, to_dirs, when}
use Rattle.theorem_bounds.specs.Bounds.{most_sent}

unfoldable pub is_inside : Shape → Msg → Bool
is_inside sh (LoadReq l after) = nat_lt l (lines sh)
is_inside sh (Fill l ws) = nat_lt l (lines sh)
is_inside sh (Mark l m t) = nat_lt l (lines sh)
is_inside sh (DataReq l) = nat_lt l (lines sh)
is_inside sh (Inv l m t) = nat_lt l (lines sh)
is_inside sh (InvAck l keeps) = nat_lt l (lines sh)
is_inside sh _ = true

-- among messages that are sent, and on a link
pub outside : Shape → List Msg → ℕ
outside sh [] = 0
outside sh (m ∷ ms) = num (not (is_inside sh m)) + outside sh ms

pub on_link : Shape → Link → ℕ
on_link sh [] = 0
on_link sh (None ∷ l) = on_link sh l
on_link sh (Some m ∷ l) = num (not (is_inside sh m)) + on_link sh l

-- messages of which none is outside, so many at most
pub record Inside (sh : Shape) (most : ℕ) (ms : List Msg) : Type 0 where
  pub none : outside sh ms ≡ 0
  pub few : length ms ≤ most

-- so it is of what a node sends to each node
abbrev pub SendsInside : Shape → (most : ℕ) → Sends → Type 0
SendsInside sh most sends = (dst : Node) → Inside sh most (sends dst)

-- a link on which none is outside, so long at most
pub record LinkInside (sh : Shape) (most : ℕ) (l : Link) : Type 0 where
  pub none : on_link sh l ≡ 0
  pub few : length l ≤ most

abbrev pub LinksInside : Shape → (most : ℕ) → (Node → Node → Link) → Type 0
LinksInside sh most net = (s d : Node) → LinkInside sh most (net s d)

-- links

link-append : (sh : Shape) (l m : Link) → on_link sh (l ++ m) ≡ on_link sh l + on_link sh m
unfolding on_link
link-append sh [] m = omega arith
link-append sh (None ∷ l) m = link-append sh l m
link-append sh (Some x ∷ l) m = omega (arith, link-append sh l m)

link-sent : (sh : Shape) (ms : List Msg) → on_link sh (sent_all ms) ≡ outside sh ms
unfolding on_link outside sent_all
link-sent sh [] = refl
link-sent sh (m ∷ ms) = omega (arith, link-sent sh ms)

link-taken : (sh : Shape) (k : ℕ) (l : Link) → on_link sh (slice_set l k None) ≤ on_link sh l
unfolding on_link
link-taken sh k [] = omega arith
link-taken sh zero (None ∷ l) = omega arith
link-taken sh zero (Some x ∷ l) = omega arith
link-taken sh (suc k) (None ∷ l) = link-taken sh k l
link-taken sh (suc k) (Some x ∷ l) = omega (arith, link-taken sh k l)

pub link-inside : (sh : Shape) (l : Link) (k : ℕ) (m : Msg) → on_link sh l ≡ 0 → get_or l k None ≡ Some m → is_inside sh m ≡ true
unfolding on_link
link-inside sh [] k m z e = absurd (cc)
link-inside sh (None ∷ l) zero m z e = absurd (cc)
link-inside sh (Some x ∷ l) zero m z e = let h : x ≡ m = cc in rw (← h) (go (is_inside sh x) (omega arith))
  where
    go : (b : Bool) → num (not b) ≡ 0 → b ≡ true
    go true q = refl
    go false q = absurd (omega arith)
link-inside sh (None ∷ l) (suc k) m z e = link-inside sh l k m z e
link-inside sh (Some x ∷ l) (suc k) m z e = link-inside sh l k m (omega arith) e

-- and none is outside where each message is inside
pub link-all : (sh : Shape) (l : Link) → ((k : ℕ) (m : Msg) → get_or l k None ≡ Some m → is_inside sh m ≡ true) → on_link sh l ≡ 0
unfolding on_link
link-all sh [] h = refl
link-all sh (None ∷ l) h = link-all sh l (λ k m e. h (suc k) m e)
link-all sh (Some x ∷ l) h =
    let i : num (not (is_inside sh x)) ≡ 0 = rw (h 0 x refl) refl in
    omega (arith, i, link-all sh l (λ k m e. h (suc k) m e))

pub sent-length : (ms : List Msg) → length (sent_all ms) ≡ length ms
unfolding sent_all
sent-length [] = refl
sent-length (m ∷ ms) = omega (arith, sent-length ms)

taken-length : (l : Link) (k : ℕ) → length (slice_set l k None) ≡ length l
taken-length [] k = refl
taken-length (m ∷ l) zero = refl
taken-length (m ∷ l) (suc k) = omega (arith, taken-length l k)

pub link-none : (sh : Shape) → LinkInside sh 0 []
unfolding on_link
link-none sh = record { none = refl; few = omega arith }

pub link-wider : (sh : Shape) (a b : ℕ) (l : Link) → a ≤ b → LinkInside sh a l → LinkInside sh b l
link-wider sh a b l h k = record { none = k.none; few = omega (arith, h, k.few) }

pub sending-inside : (sh : Shape) (a b : ℕ) (net : Node → Node → Link) (n : Node) (sends : Sends) → LinksInside sh a net
    → SendsInside sh b sends → LinksInside sh (a + b) (sending net n sends)
sending-inside sh a b net n sends h f s d = go (node_eq s n)
  where
    go : (x : Bool) → LinkInside sh (a + b) (if x then net s d ++ sent_all (sends d) else net s d)
    go false = link-wider sh a (a + b) (net s d) (omega arith) (h s d)
    go true = record {
      none = omega (arith, link-append sh (net s d) (sent_all (sends d)), link-sent sh (sends d), (h s d).none, (f d).none);
      few = omega (arith, length-append (net s d) (sent_all (sends d)), sent-length (sends d), (h s d).few, (f d).few);
    }

pub taking-inside : (sh : Shape) (a : ℕ) (net : Node → Node → Link) (src dst : Node) (k : ℕ) → LinksInside sh a net
    → LinksInside sh a (taking net src dst k)
taking-inside sh a net src dst k h s d = go (node_eq s src && node_eq d dst)
  where
    go : (x : Bool) → LinkInside sh a (if x then slice_set (net s d) k None else net s d)
    go false = h s d
    go true = record {
      none = omega (arith, link-taken sh k (net s d), (h s d).none);
      few = omega (arith, taken-length (net s d) k, (h s d).few);
    }

-- lists of messages

outside-append : (sh : Shape) (a b : List Msg) → outside sh (a ++ b) ≡ outside sh a + outside sh b
unfolding outside
outside-append sh [] b = omega arith
outside-append sh (m ∷ a) b = omega (arith, outside-append sh a b)

pub no-message : (sh : Shape) (most : ℕ) → Inside sh most []
unfolding outside
no-message sh most = record { none = refl; few = omega arith }

pub one-message : (sh : Shape) (most : ℕ) (m : Msg) → 1 ≤ most → is_inside sh m ≡ true → Inside sh most (m ∷ [])
unfolding outside
one-message sh most m i e = record { none = rw e refl; few = omega (arith, i) }

-- an event may send one to each node
pub some : (sh : Shape) → 1 ≤ most_sent sh
some sh = omega arith

pub and-messages : (sh : Shape) (a b : ℕ) (xs ys : List Msg) → Inside sh a xs → Inside sh b ys → Inside sh (a + b) (xs ++ ys)
and-messages sh a b xs ys h k = record {
  none = omega (arith, outside-append sh xs ys, h.none, k.none);
  few = omega (arith, length-append xs ys, h.few, k.few);
}

pub when-messages : (sh : Shape) (most : ℕ) (b : Bool) (ms : List Msg) → Inside sh most ms → Inside sh most (when b ms)
when-messages sh most true ms h = h
when-messages sh most false ms h = no-message sh most

pub wider : (sh : Shape) (a b : ℕ) (ms : List Msg) → a ≤ b → Inside sh a ms → Inside sh b ms
wider sh a b ms h k = record { none = k.none; few = omega (arith, h, k.few) }

flat-append : (f : ℕ → Msg) (xs ys : List ℕ)
    → flat_map (λ l. f l ∷ []) (xs ++ ys) ≡ flat_map (λ l. f l ∷ []) xs ++ flat_map (λ l. f l ∷ []) ys
flat-append f [] ys = refl
flat-append f (x ∷ xs) ys = ap (λ ms. f x ∷ ms) (flat-append f xs ys)

-- of each line below a number that has p one message
pub those-messages : (sh : Shape) (f : ℕ → Msg) (p : ℕ → Bool) (n : ℕ) → ((l : ℕ) → l < n → is_inside sh (f l) ≡ true)
    → Inside sh n (flat_map (λ l. f l ∷ []) (those p n))
unfolding those
those-messages sh f p zero h = no-message sh 0
those-messages sh f p (suc n) h =
    rw (flat-append f (those p n) (cond (p n) (n ∷ []) [])) (wider sh (n + 1) (suc n) _ (omega arith)
    (and-messages sh n 1 _ _ (those-messages sh f p n (λ l i. h l (omega arith))) (last (p n))))
  where
    last : (b : Bool) → Inside sh 1 (flat_map (λ l. f l ∷ []) (cond b (n ∷ []) []))
    last false = no-message sh 1
    last true = one-message sh 1 (f n) (omega arith) (h n (omega arith))

-- where they go

pub nothing-inside : (sh : Shape) (most : ℕ) → SendsInside sh most nothing
nothing-inside sh most dst = no-message sh most

pub then-inside : (sh : Shape) (m n : ℕ) (a b : Sends) → SendsInside sh m a → SendsInside sh n b → SendsInside sh (m + n) (then_send a b)
then-inside sh m n a b x y dst = and-messages sh m n (a dst) (b dst) (x dst) (y dst)

pub to-inside : (sh : Shape) (most : ℕ) (n : Node) (ms : List Msg) → Inside sh most ms → SendsInside sh most (to n ms)
to-inside sh most n ms h dst = go (node_eq dst n)
  where
    go : (b : Bool) → Inside sh most (if b then ms else [])
    go false = no-message sh most
    go true = h

pub dirs-inside : (sh : Shape) (most : ℕ) (f : ℕ → List Msg) → ((d : ℕ) → Inside sh most (f d)) → SendsInside sh most (to_dirs sh f)
dirs-inside sh most f h (Core c) = no-message sh most
dirs-inside sh most f h Vendor = no-message sh most
dirs-inside sh most f h (Dir d) = go (nat_lt d sh.dirs)
  where
    go : (b : Bool) → Inside sh most (if b then f d else [])
    go false = no-message sh most
    go true = h d

-- a line of memory
pub below : (sh : Shape) (l : ℕ) → l < lines sh → nat_lt l (lines sh) ≡ true
below sh l h = grind (arith, nat_tests)
