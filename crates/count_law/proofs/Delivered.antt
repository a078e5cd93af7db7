-- What an Evict and a Deliver make of the number of instructions of a core's attempt.
use Rattle.std.proofs.Common.{◌≡◌, ◌==◌, ℕ, Bool, true, false, List, Option, Some, None, ◌&&◌, ◌||◌, refl, arith}
use Rattle.std.proofs.lemmas.Bool.Decides.{nat_tests}
use Rattle.tcc_base.specs.declared.access.Commit.{Commit as Noted}
use Rattle.rules_maps.specs.Nodes.{Node, Core, Dir, Vendor, Msg, TidGrant, Fill, ProbeReply, DataReq, Inv}
use Rattle.rules_maps.specs.Shape.{Shape}
use Rattle.rules_tcc.specs.Attempt.{Out, roll_back}
use Rattle.rules_tcc.specs.CoreDeliver.{core_deliver, grant, grant_in_phase, probe_reply, reply_in_phase, fill, fill_awaited, data_request}
use Rattle.rules_tcc.specs.CoreDeliver.{invalidate, acknowledged, if_violated, violated_in_phase, words_invalidated}
use Rattle.rules_tcc.specs.CoreEvict.{core_evict, evict_line}
use Rattle.rules_tcc.specs.State.{Awaited, CoreState, Phase, Running, AwaitTid, DoomedTid, Probing, Ready, Overflowing, Solo}
use Rattle.count_law.proofs.Executed.{started, Started}

abbrev pub is_none : Option Noted → Bool
is_none None = true
is_none (Some m) = false

-- as many instructions as before, and no commit
abbrev pub stays : (n n' : ℕ) → Phase → Option Noted → Bool
stays n n' q m = n' == n && (is_none m && started q n')

-- as many as before, or none any more
abbrev pub stays_or_ends : (n n' : ℕ) → Phase → Option Noted → Bool
stays_or_ends n n' q m = (n' == n || n' == 0) && (is_none m && started q n')

-- an invalidation may end the attempt
abbrev pub taken_well : Msg → (n n' : ℕ) → Phase → Option Noted → Bool
taken_well (Inv l m u) n n' q o = stays_or_ends n n' q o
taken_well _ n n' q o = stays n n' q o

abbrev Stays : (n : ℕ) → Out → Type 0
Stays n o = stays n o.core.n o.core.phase o.commit ≡ true

abbrev stays_out : (n : ℕ) → Option Out → Bool
stays_out n None = true
stays_out n (Some o) = stays n o.core.n o.core.phase o.commit

abbrev pub StaysOut : (n : ℕ) → Option Out → Type 0
StaysOut n o = stays_out n o ≡ true

abbrev taken_out : Msg → (n : ℕ) → Option Out → Bool
taken_out m n None = true
taken_out m n (Some o) = taken_well m n o.core.n o.core.phase o.commit

abbrev pub TakenOut : Msg → (n : ℕ) → Option Out → Type 0
TakenOut m n o = taken_out m n o ≡ true

pub evict-stays : (sh : Shape) (x y : ℕ) (s : CoreState) → Started s → StaysOut s.n (core_evict sh x y s)
unfolding core_evict
evict-stays sh x y s f = go (s.cache.at x y)
  where
    go : (l : Option ℕ) → StaysOut s.n (evict_line sh x y s l)
    go None = refl
    go (Some l) = grind (arith, nat_tests, f)

nothing-stays : (s : CoreState) → Started s → stays s.n s.n s.phase None ≡ true
nothing-stays s f = grind (arith, nat_tests, f)

granted-stays : (sh : Shape) (t : ℕ) (s : CoreState) (q : Phase) → s.phase ≡ q → started q s.n ≡ true → Started s
    → Stays s.n (grant_in_phase sh t s q)
granted-stays sh t s AwaitTid e g f = grind (arith, nat_tests, g)
granted-stays sh t s DoomedTid e g f = grind (arith, nat_tests)
granted-stays sh t s (Overflowing None) e g f = grind (arith, nat_tests)
granted-stays sh t s _ e g f = nothing-stays s f

replied-stays : (sh : Shape) (d t : ℕ) (s : CoreState) (q : Phase) → started q s.n ≡ true → Started s
    → Stays s.n (reply_in_phase sh d t s q)
replied-stays sh d t s (Probing u) g f = grind (arith, nat_tests, g, f)
replied-stays sh d t s (Overflowing (Some u)) g f = grind (arith, nat_tests, f)
replied-stays sh d t s _ g f = nothing-stays s f

filled-stays : (l : ℕ) (ws : List ℕ) (s : CoreState) → Started s → (a : Option Awaited) → Stays s.n (fill_awaited l ws s a)
filled-stays l ws s f None = nothing-stays s f
filled-stays l ws s f (Some a) = grind (arith, nat_tests, f)

violated-ends : (sh : Shape) (s : CoreState) → Started s → (q : Phase) → s.phase ≡ q
    → stays_or_ends s.n (violated_in_phase sh s q).core.n (violated_in_phase sh s q).core.phase (violated_in_phase sh s q).commit ≡ true
unfolding roll_back
violated-ends sh s f Running e = rw e (grind (arith, nat_tests))
violated-ends sh s f AwaitTid e = grind (arith, nat_tests)
violated-ends sh s f (Overflowing None) e = grind (arith, nat_tests)
violated-ends sh s f (Probing t) e = grind (arith, nat_tests)
violated-ends sh s f (Ready t) e = grind (arith, nat_tests)
violated-ends sh s f (Overflowing (Some t)) e = grind (arith, nat_tests)
violated-ends sh s f (Solo t) e = grind (arith, nat_tests)
violated-ends sh s f _ e = grind (arith, nat_tests, f)

invalidated-ends : (sh : Shape) (l m u : ℕ) (s : CoreState) → Started s
    → stays_or_ends s.n (invalidate sh l m u s).core.n (invalidate sh l m u s).core.phase (invalidate sh l m u s).commit ≡ true
unfolding invalidate acknowledged if_violated words_invalidated
invalidated-ends sh l m u s f =
    let here = violated-ends sh (words_invalidated l m s) f s.phase refl in grind (arith, nat_tests, f, here)

pub deliver-stays : (sh : Shape) (s : CoreState) (n : Node) (m : Msg) → Started s → TakenOut m s.n (core_deliver sh s n m)
unfolding core_deliver probe_reply fill data_request grant
deliver-stays sh s (Dir d) (ProbeReply t serving) f = replied-stays sh d t s s.phase f f
deliver-stays sh s (Dir d) (Fill l ws) f = filled-stays l ws s f s.awaited
deliver-stays sh s (Dir d) (DataReq l) f = nothing-stays s f
deliver-stays sh s (Dir d) (Inv l m t) f = invalidated-ends sh l m t s f
deliver-stays sh s (Dir d) _ f = refl
deliver-stays sh s Vendor (TidGrant t) f = granted-stays sh t s s.phase refl f f
deliver-stays sh s Vendor _ f = refl
deliver-stays sh s (Core c) m f = refl
