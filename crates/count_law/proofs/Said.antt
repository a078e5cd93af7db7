-- How many messages of a kind the facts of an event tell of: what the node sent, and the one that it took.
use Rattle.std.proofs.Common.{◌≡◌, ◌==◌, ◌+◌, ℕ, Bool, true, false, List, [], ◌∷◌, ◌++◌, Option, Some, None, nat_lt, ◌&&◌, sum_by}
use Rattle.std.proofs.Common.{if◌then◌else◌, length, drop, refl, ap, ◌∙◌, arith}
use Rattle.tcc_base.specs.declared.access.Commit.{Commit as Noted}
use Rattle.base_lemmas.proofs.Lemmas.{drop-front, node_eq-refl}
use Rattle.rules_maps.specs.Nodes.{Node, Core, Dir, Vendor, Msg, TidGrant, Inv, node_eq}
use Rattle.rules_maps.specs.Shape.{Shape}
use Rattle.rules_program.specs.Program.{Program}
use Rattle.rules_tcc.specs.Links.{sending, sent_all}
use Rattle.rules_tcc.specs.Sends.{Sends}
use Rattle.rules_tcc.specs.State.{Awaited, CoreState, Phase, DoomedTid, Ready, Overflowing, Link, World}
use Rattle.rules_tcc.specs.Useful.{nodes}
use Rattle.watch.specs.Facts.{Fact, Took, Dropped, CameTo, Serves, Violated}
use Rattle.watch.specs.Happened.{commit_fact, moved, same_phase, numbered, sent_to, sent}
use Rattle.watch.specs.Instructions.{executed, executed_in, missed_or_else, overflowed_or_done, evicted, evicted_line}
use Rattle.watch.specs.Messages.{taken, is_of_use, violated, grant_given_up, given_up, tid_in, committer, commit_of, words_read}
use Rattle.count_law.specs.Messages.{flying_on}
use Rattle.count_law.proofs.Flights.{as_one, all_sent, flying-cons}
use Rattle.count_law.proofs.Heard.{all_sends, all_ends, all_sends-append, all_ends-append, all_sends-flat, all_ends-flat}

-- these facts tell of nothing that was sent, and of so many messages that left
pub record Says (k : ℕ) (fs : List Fact) (x : ℕ) : Type 0 where
  pub sends : all_sends k fs ≡ 0
  pub ends : all_ends k fs ≡ x

pub says-append : (k : ℕ) (fs gs : List Fact) (x y : ℕ) → Says k fs x → Says k gs y → Says k (fs ++ gs) (x + y)
says-append k fs gs x y h g = record {
  sends = omega (arith, all_sends-append k fs gs, h.sends, g.sends);
  ends = omega (arith, all_ends-append k fs gs, h.ends, g.ends);
}

pub says-nothing : (k : ℕ) → Says k [] 0
unfolding all_sends all_ends
says-nothing k = record { sends = refl; ends = refl }

-- ---- what a core does by itself

done-says : (sh : Shape) (p : Program) (k c : ℕ) (s t : CoreState) (q : Phase) → Says k (overflowed_or_done sh p c s t q) 0
unfolding all_sends all_ends
done-says sh p k c s t (Overflowing None) = record { sends = refl; ends = refl }
done-says sh p k c s t _ = record { sends = refl; ends = refl }

missed-says : (sh : Shape) (p : Program) (k c : ℕ) (s t : CoreState) (a : Option Awaited) → Says k (missed_or_else sh p c s t a) 0
unfolding all_sends all_ends
missed-says sh p k c s t (Some a) = record { sends = refl; ends = refl }
missed-says sh p k c s t None = done-says sh p k c s t t.phase

pub exec-says : (sh : Shape) (p : Program) (k c : ℕ) (s t : CoreState) → Says k (executed sh p c s t) 0
unfolding executed
exec-says sh p k c s t = go s.phase
  where
    go : (q : Phase) → Says k (executed_in sh p c s t q) 0
    go (Ready tid) = says-nothing k
    go _ = missed-says sh p k c s t t.awaited

pub evict-says : (k c x y : ℕ) (s : CoreState) → Says k (evicted c x y s) 0
unfolding evicted all_sends all_ends
evict-says k c x y s = go (s.cache.at x y)
  where
    go : (l : Option ℕ) → Says k (evicted_line c s l) 0
    go None = record { sends = refl; ends = refl }
    go (Some l) = record { sends = refl; ends = refl }

-- ---- a message that a core takes

taken-says : (k : ℕ) (src : Node) (m : Msg) (s : CoreState) → Says k (taken src m s) (as_one k (Some m))
unfolding taken all_sends all_ends
taken-says k src m s = go (is_of_use src m s)
  where
    go : (b : Bool) → Says k (if b then Took m ∷ [] else Dropped m ∷ []) (as_one k (Some m))
    go true = record { sends = refl; ends = omega arith }
    go false = record { sends = refl; ends = omega arith }

grant-says : (k c : ℕ) (m : Msg) (q : Phase) → Says k (grant_given_up c m q) 0
unfolding all_sends all_ends
grant-says k c (TidGrant t) DoomedTid = record { sends = refl; ends = refl }
grant-says k c _ _ = record { sends = refl; ends = refl }

given-up-says : (k c : ℕ) (t : Option ℕ) → Says k (given_up c t) 0
unfolding all_sends all_ends
given-up-says k c None = record { sends = refl; ends = refl }
given-up-says k c (Some t) = record { sends = refl; ends = refl }

violated-says : (k c : ℕ) (cs : List Noted) (m : Msg) (s t : CoreState) → Says k (violated c cs m s t) 0
unfolding all_sends all_ends
violated-says k c cs (Inv l w u) s t = go (nat_lt 0 s.n && t.n == 0)
  where
    go : (b : Bool) → Says k (if b then Violated c (committer (commit_of u cs)) u l (words_read l w s) s.n s.phase
        ∷ given_up c (tid_in s.phase) else []) 0
    go true =
        let rest = given-up-says k c (tid_in s.phase) in
        record { sends = omega (arith, rest.sends); ends = omega (arith, rest.ends) }
    go false = record { sends = refl; ends = refl }
violated-says k c cs _ s t = record { sends = refl; ends = refl }

pub deliver-says : (k c : ℕ) (cs : List Noted) (src : Node) (m : Msg) (s t : CoreState)
    → Says k (taken src m s ++ (violated c cs m s t ++ grant_given_up c m s.phase)) (as_one k (Some m) + 0)
deliver-says k c cs src m s t =
    says-append k (taken src m s) (violated c cs m s t ++ grant_given_up c m s.phase) (as_one k (Some m)) 0 (taken-says k src m s)
    (says-append k (violated c cs m s t) (grant_given_up c m s.phase) 0 0 (violated-says k c cs m s t) (grant-says k c m s.phase))

-- ---- a commit, and where the node has come to

pub commit-says : (k : ℕ) (m : Option Noted) → Says k (commit_fact m) 0
unfolding all_sends all_ends
commit-says k None = record { sends = refl; ends = refl }
commit-says k (Some m) = record { sends = refl; ends = refl }

pub moved-says : (k : ℕ) (w v : World) (a : Node) → Says k (moved w v a) 0
unfolding all_sends all_ends
moved-says k w v (Core c) = go (same_phase (w.cores c).phase (v.cores c).phase)
  where
    go : (b : Bool) → Says k (if b then [] else CameTo c (v.cores c).phase ∷ []) 0
    go true = record { sends = refl; ends = refl }
    go false = record { sends = refl; ends = refl }
moved-says k w v (Dir d) = go ((w.dirs d).serving.serving == (v.dirs d).serving.serving)
  where
    go : (b : Bool) → Says k (if b then [] else Serves d (v.dirs d).serving.serving ∷ []) 0
    go true = record { sends = refl; ends = refl }
    go false = record { sends = refl; ends = refl }
moved-says k w v Vendor = record { sends = refl; ends = refl }

-- ---- what the node sent

flying-none : (k : ℕ) → 0 ≡ flying_on k []
unfolding flying_on
flying-none k = refl

numbered-sends : (k : ℕ) (src dst : Node) (i : ℕ) (ms : Link) → all_sends k (numbered src dst i ms) ≡ flying_on k ms
unfolding numbered all_sends
numbered-sends k src dst i [] = flying-none k
numbered-sends k src dst i (None ∷ ms) = omega (arith, numbered-sends k src dst (i + 1) ms, flying-cons k None ms)
numbered-sends k src dst i (Some m ∷ ms) = omega (arith, numbered-sends k src dst (i + 1) ms, flying-cons k (Some m) ms)

numbered-ends : (k : ℕ) (src dst : Node) (i : ℕ) (ms : Link) → all_ends k (numbered src dst i ms) ≡ 0
unfolding numbered all_ends
numbered-ends k src dst i [] = refl
numbered-ends k src dst i (None ∷ ms) = numbered-ends k src dst (i + 1) ms
numbered-ends k src dst i (Some m ∷ ms) = omega (arith, numbered-ends k src dst (i + 1) ms)

pub sent-ends : (sh : Shape) (k : ℕ) (w v : World) (a : Node) → all_ends k (sent sh w v a) ≡ 0
unfolding sent sent_to
sent-ends sh k w v a =
    all_ends-flat k (sent_to w v a) (nodes sh)
    (λ d. numbered-ends k a d (length (w.net a d)) (drop (length (w.net a d)) (v.net a d)))

sums-same : (f g : Node → ℕ) (ns : List Node) → ((n : Node) → f n ≡ g n) → sum_by f ns ≡ sum_by g ns
sums-same f g ns each = ap (λ h. sum_by h ns) (λ i n. each n i)

pub sent-sends : (sh : Shape) (k : ℕ) (w v : World) (net : Node → Node → Link) (a : Node) (sends : Sends)
    → v.net ≡ sending net a sends → ((d : Node) → length (net a d) ≡ length (w.net a d))
    → all_sends k (sent sh w v a) ≡ all_sent sh k sends
unfolding sent sent_to all_sent
sent-sends sh k w v net a sends e same =
    all_sends-flat k (sent_to w v a) (nodes sh)
    ∙ sums-same (λ d. all_sends k (sent_to w v a d)) (λ d. flying_on k (sent_all (sends d))) (nodes sh) each
  where
    link : (d : Node) (b : Bool) → b ≡ true
        → drop (length (w.net a d)) (if b then net a d ++ sent_all (sends d) else net a d) ≡ sent_all (sends d)
    link d true f = drop-front (w.net a d) (net a d) (sent_all (sends d)) (same d)
    link d false f = absurd cc

    each : (d : Node) → all_sends k (numbered a d (length (w.net a d)) (drop (length (w.net a d)) (v.net a d)))
        ≡ flying_on k (sent_all (sends d))
    each d =
        numbered-sends k a d (length (w.net a d)) (drop (length (w.net a d)) (v.net a d))
        ∙ ap (λ n. flying_on k (drop (length (w.net a d)) (n a d))) e
        ∙ ap (λ l. flying_on k l) (link d (node_eq a a) (node_eq-refl a))
