-- How many messages don't fit their link: none that a rule sends.
use Rattle.std.specs.Prelude.{ℕ, zero, suc, ◌+◌, ◌≡◌, ◌<◌, ◌≤◌, Bool, true, false, not, ◌&&◌, List, [], ◌∷◌, ◌++◌, get_or, slice_set, Some}
use Rattle.std.specs.Prelude.{None, nat_lt, if◌then◌else◌}
use Rattle.std.specs.List.{flat_map}
use Rattle.std.proofs.Common.{arith, refl}
use Rattle.std.proofs.lemmas.Bool.Decides.{nat_tests}
use Rattle.rules_maps.specs.Words.{num}
use Rattle.rules_maps.specs.Nodes.{Node, Core, Dir, Vendor, Msg, TidReq, TidGrant, node_eq}
use Rattle.rules_maps.specs.Shape.{Shape}
use Rattle.rules_tcc.specs.State.{Link}
use Rattle.rules_tcc.specs.Links.{sent_all, sending, taking}
use Rattle.rules_tcc.specs.Sends.{Sends, nothing, to, then_send, to_dirs, when}
use Rattle.rules_tcc.proofs.Lemmas.{node_eq-eq}
use Rattle.rules_maps.specs.Messages.{goes_to_core, goes_to_dir, fits}
use Rattle.theorem_serial.proofs.Lemmas.{is-lt}

-- among messages that are sent, and on a link
pub strays : Shape → (src dst : Node) → List Msg → ℕ
strays sh s d [] = 0
strays sh s d (m ∷ ms) = num (not (fits sh s d m)) + strays sh s d ms

pub on_link : Shape → (src dst : Node) → Link → ℕ
on_link sh s d [] = 0
on_link sh s d (None ∷ l) = on_link sh s d l
on_link sh s d (Some m ∷ l) = num (not (fits sh s d m)) + on_link sh s d l

-- none of what a node sends
abbrev pub AllFit : Shape → Node → Sends → Type 0
AllFit sh n sends = (dst : Node) → strays sh n dst (sends dst) ≡ 0

-- links

link-append : (sh : Shape) (s d : Node) (l m : Link) → on_link sh s d (l ++ m) ≡ on_link sh s d l + on_link sh s d m
unfolding on_link
link-append sh s d [] m = omega arith
link-append sh s d (None ∷ l) m = link-append sh s d l m
link-append sh s d (Some x ∷ l) m = omega (arith, link-append sh s d l m)

link-sent : (sh : Shape) (s d : Node) (ms : List Msg) → on_link sh s d (sent_all ms) ≡ strays sh s d ms
unfolding on_link strays sent_all
link-sent sh s d [] = refl
link-sent sh s d (m ∷ ms) = omega (arith, link-sent sh s d ms)

link-taken : (sh : Shape) (s d : Node) (k : ℕ) (l : Link) → on_link sh s d (slice_set l k None) ≤ on_link sh s d l
unfolding on_link
link-taken sh s d k [] = omega arith
link-taken sh s d zero (None ∷ l) = omega arith
link-taken sh s d zero (Some x ∷ l) = omega arith
link-taken sh s d (suc k) (None ∷ l) = link-taken sh s d k l
link-taken sh s d (suc k) (Some x ∷ l) = omega (arith, link-taken sh s d k l)

pub link-fits : (sh : Shape) (s d : Node) (l : Link) (k : ℕ) (m : Msg) → on_link sh s d l ≡ 0 → get_or l k None ≡ Some m
    → fits sh s d m ≡ true
unfolding on_link
link-fits sh s d [] k m z e = absurd (cc)
link-fits sh s d (None ∷ l) zero m z e = absurd (cc)
link-fits sh s d (Some x ∷ l) zero m z e = let h : x ≡ m = cc in rw (← h) (go (fits sh s d x) (omega arith))
  where
    go : (b : Bool) → num (not b) ≡ 0 → b ≡ true
    go true q = refl
    go false q = absurd (omega arith)
link-fits sh s d (None ∷ l) (suc k) m z e = link-fits sh s d l k m z e
link-fits sh s d (Some x ∷ l) (suc k) m z e = link-fits sh s d l k m (omega arith) e

-- and no stray is on a link where each message fits it
pub link-clean : (sh : Shape) (s d : Node) (l : Link) → ((k : ℕ) (m : Msg) → get_or l k None ≡ Some m → fits sh s d m ≡ true)
    → on_link sh s d l ≡ 0
unfolding on_link
link-clean sh s d [] h = refl
link-clean sh s d (None ∷ l) h = link-clean sh s d l (λ k m e. h (suc k) m e)
link-clean sh s d (Some x ∷ l) h =
    let f : num (not (fits sh s d x)) ≡ 0 = rw (h 0 x refl) refl in
    omega (arith, f, link-clean sh s d l (λ k m e. h (suc k) m e))

pub link-none : (sh : Shape) (s d : Node) → on_link sh s d [] ≡ 0
unfolding on_link
link-none sh s d = refl

abbrev pub LinksClean : Shape → (Node → Node → Link) → Type 0
LinksClean sh net = (s d : Node) → on_link sh s d (net s d) ≡ 0

pub sending-clean : (sh : Shape) (net : Node → Node → Link) (n : Node) (sends : Sends) → LinksClean sh net → AllFit sh n sends
    → LinksClean sh (sending net n sends)
sending-clean sh net n sends h f s d = go (node_eq s n) refl
  where
    go : (b : Bool) → node_eq s n ≡ b → on_link sh s d (if b then net s d ++ sent_all (sends d) else net s d) ≡ 0
    go false e = h s d
    go true e = let q = node_eq-eq s n e in let z : strays sh s d (sends d) ≡ 0 = rw q (f d) in
        omega (arith, link-append sh s d (net s d) (sent_all (sends d)), link-sent sh s d (sends d), h s d)

pub taking-clean : (sh : Shape) (net : Node → Node → Link) (src dst : Node) (k : ℕ) → LinksClean sh net
    → LinksClean sh (taking net src dst k)
taking-clean sh net src dst k h s d = go (node_eq s src && node_eq d dst)
  where
    go : (b : Bool) → on_link sh s d (if b then slice_set (net s d) k None else net s d) ≡ 0
    go false = h s d
    go true = omega (arith, link-taken sh s d k (net s d), h s d)

-- lists of messages

pub strays-append : (sh : Shape) (s d : Node) (a b : List Msg) → strays sh s d (a ++ b) ≡ strays sh s d a + strays sh s d b
unfolding strays
strays-append sh s d [] b = omega arith
strays-append sh s d (m ∷ a) b = omega (arith, strays-append sh s d a b)

pub strays-none : (sh : Shape) (s d : Node) → strays sh s d [] ≡ 0
unfolding strays
strays-none sh s d = refl

pub strays-one : (sh : Shape) (s d : Node) (m : Msg) → fits sh s d m ≡ true → strays sh s d (m ∷ []) ≡ 0
unfolding strays
strays-one sh s d m e = rw e refl

pub strays-flat : (sh : Shape) (s d : Node) (f : ℕ → List Msg) → ((l : ℕ) → strays sh s d (f l) ≡ 0) → (xs : List ℕ)
    → strays sh s d (flat_map f xs) ≡ 0
strays-flat sh s d f h [] = strays-none sh s d
strays-flat sh s d f h (x ∷ xs) = omega (arith, strays-append sh s d (f x) (flat_map f xs), h x, strays-flat sh s d f h xs)

pub strays-when : (sh : Shape) (s d : Node) (b : Bool) (ms : List Msg) → strays sh s d ms ≡ 0 → strays sh s d (when b ms) ≡ 0
strays-when sh s d true ms h = h
strays-when sh s d false ms h = strays-none sh s d

-- a message that fits

pub out_fits : (sh : Shape) (c d : ℕ) (m : Msg) → c < sh.cores → d < sh.dirs → goes_to_dir m ≡ true
    → strays sh (Core c) (Dir d) (m ∷ []) ≡ 0
unfolding fits
out_fits sh c d m l i g = strays-one sh (Core c) (Dir d) m (rw (is-lt c sh.cores l, is-lt d sh.dirs i, g) refl)

pub back_fits : (sh : Shape) (c d : ℕ) (m : Msg) → c < sh.cores → d < sh.dirs → goes_to_core m ≡ true
    → strays sh (Dir d) (Core c) (m ∷ []) ≡ 0
unfolding fits
back_fits sh c d m l i g = strays-one sh (Dir d) (Core c) m (rw (is-lt c sh.cores l, is-lt d sh.dirs i, g) refl)

pub ask_fits : (sh : Shape) (c : ℕ) → c < sh.cores → strays sh (Core c) Vendor (TidReq ∷ []) ≡ 0
unfolding fits
ask_fits sh c l = strays-one sh (Core c) Vendor TidReq (rw (is-lt c sh.cores l) refl)

pub grant_fits : (sh : Shape) (c t : ℕ) → c < sh.cores → strays sh Vendor (Core c) (TidGrant t ∷ []) ≡ 0
unfolding fits
grant_fits sh c t l = strays-one sh Vendor (Core c) (TidGrant t) (rw (is-lt c sh.cores l) refl)

-- where it goes

pub fit-nothing : (sh : Shape) (n : Node) → AllFit sh n nothing
fit-nothing sh n dst = strays-none sh n dst

pub fit-then : (sh : Shape) (n : Node) (a b : Sends) → AllFit sh n a → AllFit sh n b → AllFit sh n (then_send a b)
fit-then sh n a b x y dst = omega (arith, strays-append sh n dst (a dst) (b dst), x dst, y dst)

pub fit-to : (sh : Shape) (n m : Node) (ms : List Msg) → strays sh n m ms ≡ 0 → AllFit sh n (to m ms)
fit-to sh n m ms h dst = go (node_eq dst m) refl
  where
    go : (b : Bool) → node_eq dst m ≡ b → strays sh n dst (if b then ms else []) ≡ 0
    go false e = strays-none sh n dst
    go true e = rw (node_eq-eq dst m e) h

pub fit-dirs : (sh : Shape) (n : Node) (f : ℕ → List Msg) → ((d : ℕ) → d < sh.dirs → strays sh n (Dir d) (f d) ≡ 0)
    → AllFit sh n (to_dirs sh f)
fit-dirs sh n f h (Core c) = strays-none sh n (Core c)
fit-dirs sh n f h Vendor = strays-none sh n Vendor
fit-dirs sh n f h (Dir d) = go (nat_lt d sh.dirs) refl
  where
    go : (b : Bool) → nat_lt d sh.dirs ≡ b → strays sh n (Dir d) (if b then f d else []) ≡ 0
    go false e = strays-none sh n (Dir d)
    go true e = h d (grind (arith, nat_tests))
