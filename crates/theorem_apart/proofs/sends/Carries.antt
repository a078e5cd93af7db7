-- What a core sends is what its links carry: from counts of the messages that wouldn't be.
use Rattle.std.specs.Prelude.{ℕ, zero, suc, ◌+◌, ◌≡◌, ◌<◌, ◌≤◌, ◌%◌, ◌==◌, ◌&&◌, not, Bool, true, false, List, [], ◌∷◌, length, get_or}
use Rattle.std.specs.Prelude.{◌^◌, slice_index_or, All, Some, None, IfSome, nat_lt}
use Rattle.std.proofs.Common.{arith, refl, subst, sym, ◌⊎◌, inl, inr}
use Rattle.std.proofs.lemmas.Bool.{cases_lt}
use Rattle.std.proofs.lemmas.Bool.Decides.{nat_tests}
use Rattle.base_lemmas.proofs.Lemmas.{and-right, in-memory, node_eq-refl}
use Rattle.rules_maps.specs.Nodes.{Node, Core, Dir, Vendor, Msg, LoadReq, Fill, Mark, WriteBack, Flush, DataReq, Inv, InvAck}
use Rattle.rules_maps.specs.Shape.{Shape, home, lines}
use Rattle.rules_maps.specs.Words.{num}
use Rattle.rules_tcc.specs.Links.{sent_all}
use Rattle.rules_tcc.specs.Sends.{Sends}
use Rattle.rules_tcc.proofs.Lemmas.{request-bare}
use Rattle.theorem_serial.specs.Count.{Kind, CopyOf, LinesAway, among, passes}
use Rattle.theorem_serial.proofs.Lemmas.{HomelyOut, SendsInMemory}
use Rattle.rules_maps.specs.Messages.{fits, is_request, IsLine, WasGranted, line_named}
use Rattle.theorem_live.proofs.Lemmas.{AllFit, strays_on, strays-none, link-fits, sending-clean}
use Rattle.theorem_bounds.specs.Bounds.{most_sent}
use Rattle.theorem_bounds.proofs.Lemmas.{is_inside, SendsInside, LinkInside, link-none, link-inside, sending-inside}
use Rattle.rules_apart.specs.Carried.{IsCarried}
use Rattle.theorem_apart.specs.Apart.{EachCarried}
use Rattle.theorem_apart.proofs.sends.Each.{each-all}
use Rattle.theorem_apart.proofs.sends.Timely.{Timely, AllTimely}

-- from counts to each message

at-sent : (ms : List Msg) (k : ℕ) (d : Msg) → k < length ms → get_or (sent_all ms) k None ≡ Some (slice_index_or ms k d)
unfolding sent_all
at-sent [] k d i = absurd (omega (arith, i))
at-sent (m ∷ ms) zero d i = refl
at-sent (m ∷ ms) (suc k) d i = at-sent ms k d (omega (arith, i))

pub each-fits : (sh : Shape) (n : Node) (sends : Sends) → AllFit sh n sends → (dst : Node) → All (λ m. fits sh n dst m ≡ true) (sends dst)
each-fits sh n sends h dst k d i =
    link-fits sh n dst (sent_all (sends dst)) k (slice_index_or (sends dst) k d) clean (at-sent (sends dst) k d i)
  where
    clean : strays_on sh n dst (sent_all (sends dst)) ≡ 0
    clean = rw (node_eq-refl n) at (sending-clean sh (λ s e. []) n sends (λ s e. strays-none sh s e) h n dst)

pub each-inside : (sh : Shape) (n : Node) (sends : Sends) → SendsInside sh (most_sent sh) sends → (dst : Node)
    → All (λ m. is_inside sh m ≡ true) (sends dst)
each-inside sh n sends h dst k d i =
    link-inside sh (sent_all (sends dst)) k (slice_index_or (sends dst) k d) inside.none (at-sent (sends dst) k d i)
  where
    inside : LinkInside sh (0 + most_sent sh) (sent_all (sends dst))
    inside = rw (node_eq-refl n) at (sending-inside sh 0 (most_sent sh) (λ s e. []) n sends (λ s e. link-none sh) h n dst)

among-at : (q : Kind) (ms : List Msg) (k : ℕ) (d : Msg) → k < length ms → num (passes q (slice_index_or ms k d)) ≤ among q ms
unfolding among
among-at q [] k d i = absurd (omega (arith, i))
among-at q (m ∷ ms) zero d i = omega arith
among-at q (m ∷ ms) (suc k) d i = omega (arith, among-at q ms k d (omega (arith, i)))

-- one message

at-home : (sh : Shape) (d l : ℕ) → num (not ((l % sh.dirs) == d)) ≡ 0 → home sh l ≡ d
at-home sh d l z = go ((l % sh.dirs) == d) refl z
  where
    go : (b : Bool) → ((l % sh.dirs) == d) ≡ b → num (not b) ≡ 0 → l % sh.dirs ≡ d
    go true q z = grind (arith, nat_tests)
    go false q z = absurd (omega (arith, z))

-- words on their way home are of a line of memory
copied : (sh : Shape) (l g : ℕ) → (lines sh ≤ l → num ((l == l) && (g == g)) ≡ 0) → l < lines sh
copied sh l g f = go (cases_lt l (lines sh))
  where
    go : (l < lines sh) ⊎ (lines sh ≤ l) → l < lines sh
    go (inl q) = q
    go (inr q) =
        let a : (l == l) ≡ true = grind (arith, nat_tests) in
        let b : (g == g) ≡ true = grind (arith, nat_tests) in
        let z : num ((l == l) && (g == g)) ≡ 1 = rw (a, b) refl in
        absurd (omega (arith, z, f q))

line-out : (sh : Shape) (c d : ℕ) (m : Msg) → is_inside sh m ≡ true → num (passes (LinesAway sh.dirs d) m) ≡ 0
    → ((l t : ℕ) → lines sh ≤ l → num (passes (CopyOf l t) m) ≡ 0) → IfSome (line_named m) (IsLine sh (Core c) (Dir d))
unfolding is_inside passes
line-out sh c d (LoadReq l a) i z w = (in-memory sh l i, at-home sh d l z)
line-out sh c d (Fill l ws) i z w = (in-memory sh l i, at-home sh d l z)
line-out sh c d (Mark l m t) i z w = (in-memory sh l i, at-home sh d l z)
line-out sh c d (DataReq l) i z w = (in-memory sh l i, at-home sh d l z)
line-out sh c d (Inv l m t) i z w = (in-memory sh l i, at-home sh d l z)
line-out sh c d (InvAck l b) i z w = (in-memory sh l i, at-home sh d l z)
line-out sh c d (WriteBack l m ws g) i z w = (copied sh l g (λ o. w l g o), at-home sh d l z)
line-out sh c d (Flush l m ws g) i z w = (copied sh l g (λ o. w l g o), at-home sh d l z)
line-out sh c d m i z w = tt

-- to the vendor only requests go
to-vendor : (sh : Shape) (c : ℕ) (m : Msg) → fits sh (Core c) Vendor m ≡ true → IsCarried sh (Core c) Vendor m
unfolding fits
to-vendor sh c m f = let b = request-bare m (and-right (nat_lt c sh.cores) (is_request m) f) in record {
  fits = f;
  line = subst (λ o. IfSome o (IsLine sh (Core c) Vendor)) (sym b.0) tt;
  tid = subst (λ o. IfSome o (WasGranted (2 ^ 62))) (sym b.1) tt;
}

-- to other cores nothing does
to-core : (sh : Shape) (c e : ℕ) (m : Msg) → fits sh (Core c) (Core e) m ≡ true → IsCarried sh (Core c) (Core e) m
unfolding fits
to-core sh c e m f = absurd (cc)

-- all that a core sends

pub core-carries : (sh : Shape) (c : ℕ) (sends : Sends) → AllFit sh (Core c) sends → SendsInside sh (most_sent sh) sends
    → HomelyOut sh sends → SendsInMemory sh sends → AllTimely sends → EachCarried sh (Core c) sends
core-carries sh c sends f i h w t (Dir d) k x l = record {
  fits = each-fits sh (Core c) sends f (Dir d) k x l;
  line = line-out sh c d (slice_index_or (sends (Dir d)) k x) (each-inside sh (Core c) sends i (Dir d) k x l)
      (omega (arith, among-at (LinesAway sh.dirs d) (sends (Dir d)) k x l, (h d).away))
      (λ j u o. omega (arith, among-at (CopyOf j u) (sends (Dir d)) k x l, w d j u o));
  tid = each-all Timely (sends (Dir d)) (t d) k x l;
}
core-carries sh c sends f i h w t Vendor k x l =
    to-vendor sh c (slice_index_or (sends Vendor) k x) (each-fits sh (Core c) sends f Vendor k x l)
core-carries sh c sends f i h w t (Core e) k x l =
    to-core sh c e (slice_index_or (sends (Core e)) k x) (each-fits sh (Core c) sends f (Core e) k x l)
