-- Evict and messages leave an attempt what it was, or begin it anew.
use Rattle.std.proofs.Common.{◌≡◌, ℕ, Bool, true, false, not, cond, ◌&&◌, List, [], get_or, Option, Some, None, is_some, refl, ap}
use Rattle.std.proofs.Common.{sym, subst}
use Rattle.std.specs.Prelude.{IfSome, unwrap_or, ◌==◌, nat_lt}
use Rattle.tcc_base.specs.Put.{put}
use Rattle.rules_program.specs.Plain.{Outcome, Goes}
use Rattle.rules_program.specs.Program.{Program}
use Rattle.rules_maps.specs.Words.{line_of, place_of, any_below}
use Rattle.rules_maps.specs.Masks.{hit}
use Rattle.rules_maps.specs.Nodes.{Node, Core, Dir, Vendor, Msg, TidGrant, Fill, ProbeReply}
use Rattle.rules_maps.specs.Nodes.{DataReq, Inv}
use Rattle.rules_maps.specs.Shape.{Shape}
use Rattle.rules_maps.specs.Cache.{IsCache}
use Rattle.rules_maps.specs.CacheChange.{filled, invalidated, cleaned, evicted, read_cleared}
use Rattle.rules_maps.specs.Spilled.{spill_line, none_spilled}
use Rattle.rules_maps.proofs.Lemmas.{value-evicted, modified-evicted, value-filled, modified-filled, value-invalidated}
use Rattle.rules_maps.proofs.Lemmas.{modified-invalidated}
use Rattle.rules_maps.proofs.Lemmas.{modified-rolled_back}
use Rattle.rules_tcc.specs.State.{CoreState, Awaited, Phase, Running, AwaitTid, DoomedTid, Probing, Ready, Overflowing, Solo, Halted}
use Rattle.rules_tcc.specs.Sends.{nothing, to, marks_for}
use Rattle.rules_tcc.specs.Attempt.{Out, moves, is_solo, roll_back}
use Rattle.rules_tcc.specs.CoreEvict.{core_evict}
use Rattle.rules_tcc.specs.CoreDeliver.{ignored, grant_in_phase, grant, probing_or_ready, is_probed, replied, all_replied, reply_in_phase}
use Rattle.rules_tcc.specs.CoreDeliver.{probe_reply, fill_awaited, fill, data_request, violated_in_phase, if_violated, staled}
use Rattle.rules_tcc.specs.CoreDeliver.{words_invalidated, is_violated, acknowledged, invalidate, from_dir, from_vendor, core_deliver}
use Rattle.rules_tcc.proofs.Lemmas.{each-evict}
use Rattle.theorem_attempt.specs.Sound.{SoundCore}
use Rattle.theorem_attempt.specs.Follows.{Uses, sees, HasEnded, EndFits, Follows}
use Rattle.theorem_attempt.specs.Views.{uses_violated, uses_delivered}
use Rattle.theorem_attempt.proofs.SoundDeliver.{words_invalidated-sound}
use Rattle.theorem_attempt.proofs.Follows.{with_words, is_live, in-from, follows-same, follows-into}
use Rattle.theorem_attempt.proofs.FollowsExec.{fresh-claims}

evicted-seen : (sh : Shape) (x y l : ℕ) (s : CoreState) → s.cache.at x y ≡ Some l → SoundCore sh s → (ram : ℕ → ℕ) (v : ℕ)
    → sees (with_words s (evicted x y s.cache) (spill_line l s.cache s.spilled)) ram v ≡ sees s ram v
unfolding sees spill_line
evicted-seen sh x y l s e k ram v =
    rw (value-evicted x y s.cache v l e, modified-evicted x y s.cache v l e)
    (at (l == line_of v) (s.cache.modified v) refl (s.spilled v) refl)
  where
    at : (b m : Bool) → s.cache.modified v ≡ m → (o : Option ℕ) → s.spilled v ≡ o →
        unwrap_or (cond (b && m) (Some (unwrap_or (s.cache.value v) 0)) o)
        (cond (cond b false m) (unwrap_or (cond b None (s.cache.value v)) 0) (ram v)) ≡ unwrap_or o
        (cond m (unwrap_or (s.cache.value v) 0) (ram v))
    at true true q None r = refl
    at true true q (Some z) r = absurd (let i = k.apart v v refl (ap is_some r) in let j = i.0 in cc)
    at true false q None r = refl
    at true false q (Some z) r = refl
    at false m q o r = refl

pub core_evict-follows : (sh : Shape) (p : Program) (x y : ℕ) (s : CoreState) (us : Uses) → SoundCore sh s → Follows sh p s us
    → IfSome (core_evict sh x y s) (λ t. Follows sh p t.core us)
core_evict-follows sh p x y s us k a = each-evict sh x y s (λ o. Follows sh p o.core us)
    (λ l e n m. follows-same sh p s us (evicted x y s.cache) (spill_line l s.cache s.spilled) s.awaited s.owing
    (evicted-seen sh x y l s e k) a)

ends-in : (s : CoreState) (q : Phase) → s.phase ≡ q → EndFits s.phase s.ended → EndFits q s.ended
ends-in s q e h = subst (λ (x : Phase). EndFits x s.ended) e h

probing-ends : (b : Bool) (t : ℕ) (o : Outcome) → HasEnded o → EndFits (probing_or_ready b t) o
probing-ends true t o h = h
probing-ends false t o h = h

grant_in_phase-follows : (sh : Shape) (p : Program) (t : ℕ) (s : CoreState) (us : Uses) (q : Phase) → s.phase ≡ q → Follows sh p s us
    → Follows sh p (grant_in_phase sh t s q).core us
grant_in_phase-follows sh p t s us AwaitTid e a =
    follows-into sh p s us s.cache s.spilled (probing_or_ready (any_below (is_probed sh s.cache) sh.dirs) t) s.awaited
    (is_probed sh s.cache) (λ ram v. refl) (ap is_live e)
    (probing-ends (any_below (is_probed sh s.cache) sh.dirs) t s.ended (ends-in s AwaitTid e a.ends)) a
grant_in_phase-follows sh p t s us DoomedTid e a = follows-into sh p s us s.cache s.spilled Running s.awaited s.owing
    (λ ram v. refl) (ap is_live e) (ends-in s DoomedTid e a.ends) a
grant_in_phase-follows sh p t s us (Overflowing None) e a = follows-into sh p s us s.cache s.spilled (Overflowing (Some t)) s.awaited
    (λ d. nat_lt d sh.dirs) (λ ram v. refl) (ap is_live e) (ends-in s (Overflowing None) e a.ends) a
grant_in_phase-follows sh p t s us (Overflowing (Some u)) e a = a
grant_in_phase-follows sh p t s us Running e a = a
grant_in_phase-follows sh p t s us (Probing u) e a = a
grant_in_phase-follows sh p t s us (Ready u) e a = a
grant_in_phase-follows sh p t s us (Solo u) e a = a
grant_in_phase-follows sh p t s us Halted e a = a

grant-follows : (sh : Shape) (p : Program) (t : ℕ) (s : CoreState) (us : Uses) → Follows sh p s us → Follows sh p (grant sh t s).core us
unfolding grant
grant-follows sh p t s us a = grant_in_phase-follows sh p t s us s.phase refl a

cleared-seen : (s : CoreState) (ram : ℕ → ℕ) (v : ℕ) → sees (with_words s (read_cleared s.cache) s.spilled) ram v ≡ sees s ram v
unfolding sees read_cleared
cleared-seen s ram v = refl

reply_in_phase-follows : (sh : Shape) (p : Program) (d t : ℕ) (s : CoreState) (us : Uses) (q : Phase) → s.phase ≡ q → Follows sh p s us
    → Follows sh p (reply_in_phase sh d t s q).core us
unfolding read_cleared
reply_in_phase-follows sh p d t s us (Probing u) e a = at (u == t && s.owing d) (all_replied sh (replied d s).owing)
  where
    at : (b c : Bool)
        → Follows sh p (cond b (moves (cond c (record (replied d s) { phase = Ready t }) (replied d s))
        (to (Dir d) (marks_for sh s.cache t d))) (ignored s)).core us
    at true true = follows-into sh p s us s.cache s.spilled (Ready t) s.awaited (put s.owing d false) (λ ram v. refl) (ap is_live e)
        (ends-in s (Probing u) e a.ends) a
    at true false = follows-same sh p s us s.cache s.spilled s.awaited (put s.owing d false) (λ ram v. refl) a
    at false c = a
reply_in_phase-follows sh p d t s us (Overflowing (Some u)) e a = at (u == t && s.owing d) (all_replied sh (replied d s).owing)
  where
    seen_same : (ram : ℕ → ℕ) (v : ℕ) → sees (with_words s (read_cleared s.cache) s.spilled) ram v ≡ sees s ram v
    seen_same ram v = cleared-seen s ram v

    at : (b c : Bool)
        → Follows sh p (cond b (moves (cond c (record (replied d s) { phase = Solo t; cache = read_cleared s.cache }) (replied d s))
        nothing) (ignored s)).core us
    at true true = follows-into sh p s us (read_cleared s.cache) s.spilled (Solo t) s.awaited (put s.owing d false) seen_same (ap is_live e)
        (ends-in s (Overflowing (Some u)) e a.ends) a
    at true false = follows-same sh p s us s.cache s.spilled s.awaited (put s.owing d false) (λ ram v. refl) a
    at false c = a
reply_in_phase-follows sh p d t s us (Overflowing None) e a = a
reply_in_phase-follows sh p d t s us Running e a = a
reply_in_phase-follows sh p d t s us AwaitTid e a = a
reply_in_phase-follows sh p d t s us DoomedTid e a = a
reply_in_phase-follows sh p d t s us (Ready u) e a = a
reply_in_phase-follows sh p d t s us (Solo u) e a = a
reply_in_phase-follows sh p d t s us Halted e a = a

-- a filled frame keeps the words that were valid, so all that are modified
filled-seen : (sh : Shape) (l : ℕ) (ws : List ℕ) (s : CoreState) → IsCache sh s.cache → (ram : ℕ → ℕ) (v : ℕ)
    → sees (with_words s (filled l ws s.cache) s.spilled) ram v ≡ sees s ram v
unfolding sees
filled-seen sh l ws s k ram v = rw (value-filled l ws s.cache v, modified-filled l ws s.cache v)
    (at (l == line_of v) (s.cache.modified v) refl (s.cache.value v) refl)
  where
    at : (b m : Bool) → s.cache.modified v ≡ m → (o : Option ℕ) → s.cache.value v ≡ o →
        unwrap_or (s.spilled v) (cond m (unwrap_or (cond b (Some (unwrap_or o (get_or ws (place_of v) 0))) o) 0) (ram v)) ≡ unwrap_or
        (s.spilled v) (cond m (unwrap_or o 0) (ram v))
    at true true q None r = absurd (let i = k.modified v q in let j : is_some (s.cache.value v) ≡ false = ap is_some r in cc)
    at true true q (Some z) r = refl
    at true false q o r = refl
    at false m q o r = refl

filled-follows : (sh : Shape) (p : Program) (l : ℕ) (ws : List ℕ) (s : CoreState) (us : Uses) (b c : Bool) → SoundCore sh s
    → Follows sh p s us
    → Follows sh p (cond b (moves (record s { cache = cond c s.cache (filled l ws s.cache); awaited = None }) nothing) (ignored s)).core us
filled-follows sh p l ws s us true true k a = follows-same sh p s us s.cache s.spilled None s.owing (λ ram v. refl) a
filled-follows sh p l ws s us true false k a = follows-same sh p s us (filled l ws s.cache) s.spilled None s.owing
    (filled-seen sh l ws s k.cache) a
filled-follows sh p l ws s us false c k a = a

fill_awaited-follows : (sh : Shape) (p : Program) (l : ℕ) (ws : List ℕ) (s : CoreState) (us : Uses) (o : Option Awaited) → SoundCore sh s
    → Follows sh p s us → Follows sh p (fill_awaited l ws s o).core us
fill_awaited-follows sh p l ws s us None k a = a
fill_awaited-follows sh p l ws s us (Some x) k a = filled-follows sh p l ws s us (x.line == l) x.stale k a

fill-follows : (sh : Shape) (p : Program) (l : ℕ) (ws : List ℕ) (s : CoreState) (us : Uses) → SoundCore sh s → Follows sh p s us
    → Follows sh p (fill l ws s).core us
unfolding fill
fill-follows sh p l ws s us k a = fill_awaited-follows sh p l ws s us s.awaited k a

cleaned-seen : (l : ℕ) (s : CoreState) (ram : ℕ → ℕ) (v : ℕ) → sees (with_words s (cleaned l s.cache) s.spilled) ram v ≡ sees s ram v
unfolding sees cleaned
cleaned-seen l s ram v = refl

request-follows : (sh : Shape) (p : Program) (l : ℕ) (s : CoreState) (us : Uses) → Follows sh p s us
    → Follows sh p (data_request sh l s).core us
unfolding data_request
request-follows sh p l s us a = follows-same sh p s us (cleaned l s.cache) s.spilled s.awaited s.owing (cleaned-seen l s) a

-- a modified word isn't invalidated
invalidated-seen : (l m : ℕ) (s : CoreState) (ram : ℕ → ℕ) (v : ℕ)
    → sees (with_words s (invalidated l m s.cache) s.spilled) ram v ≡ sees s ram v
unfolding sees
invalidated-seen l m s ram v = rw (value-invalidated l m s.cache v, modified-invalidated l m s.cache v)
    (at (hit l m v) (s.cache.modified v))
  where
    at : (b c : Bool) → unwrap_or (s.spilled v) (cond c (unwrap_or (cond (b && not c) None (s.cache.value v)) 0) (ram v)) ≡ unwrap_or
        (s.spilled v) (cond c (unwrap_or (s.cache.value v) 0) (ram v))
    at true true = refl
    at true false = refl
    at false c = refl

words_invalidated-follows : (sh : Shape) (p : Program) (l m : ℕ) (s : CoreState) (us : Uses) → Follows sh p s us →
    Follows sh p (words_invalidated l m s) us
unfolding words_invalidated
words_invalidated-follows sh p l m s us a = follows-same sh p s us (invalidated l m s.cache) s.spilled (staled l s.awaited) s.owing
    (invalidated-seen l m s) a

-- rolled back
pub rolled-follows : (sh : Shape) (p : Program) (s : CoreState) (q : Phase) (sp : ℕ → Option ℕ) → ((w : ℕ) → sp w ≡ None) → EndFits q Goes
    → Follows sh p (record (roll_back s) { phase = q; spilled = sp }) []
unfolding roll_back sees
rolled-follows sh p s q sp f e = record {
  ends = e;
  steps = in-from sh p (record (roll_back s) { phase = q; spilled = sp }) [] q
      (fresh-claims sh p (record (roll_back s) { phase = q; spilled = sp })
      (record {
        n = refl;
        local = refl;
        loads = refl;
        stores = refl;
        console = refl;
        ended = refl;
        words = λ ram v. rw (f v, modified-rolled_back s.cache v);
      }));
}

violated-follows : (sh : Shape) (p : Program) (s : CoreState) (us : Uses) (q : Phase) → s.phase ≡ q → SoundCore sh s → Follows sh p s us
    → Follows sh p (violated_in_phase sh s q).core (uses_violated true q us)
unfolding roll_back none_spilled
violated-follows sh p s us Running e k a = rolled-follows sh p s s.phase s.spilled (k.alone (ap is_solo e))
    (subst (λ (x : Phase). EndFits x Goes) (sym e) refl)
violated-follows sh p s us AwaitTid e k a = rolled-follows sh p s DoomedTid s.spilled (k.alone (ap is_solo e)) refl
violated-follows sh p s us (Overflowing None) e k a = rolled-follows sh p s DoomedTid s.spilled (k.alone (ap is_solo e)) refl
violated-follows sh p s us (Probing t) e k a = rolled-follows sh p s Running s.spilled (k.alone (ap is_solo e)) refl
violated-follows sh p s us (Ready t) e k a = rolled-follows sh p s Running s.spilled (k.alone (ap is_solo e)) refl
violated-follows sh p s us (Overflowing (Some t)) e k a = rolled-follows sh p s Running none_spilled (λ w. refl) refl
violated-follows sh p s us (Solo t) e k a = rolled-follows sh p s Running none_spilled (λ w. refl) refl
violated-follows sh p s us DoomedTid e k a = a
violated-follows sh p s us Halted e k a = a

if_violated-follows : (sh : Shape) (p : Program) (b : Bool) (s : CoreState) (us : Uses) → SoundCore sh s → Follows sh p s us
    → Follows sh p (if_violated sh b s).core (uses_violated b s.phase us)
unfolding if_violated
if_violated-follows sh p true s us k a = violated-follows sh p s us s.phase refl k a
if_violated-follows sh p false s us k a = a

invalidate-follows : (sh : Shape) (p : Program) (l m u : ℕ) (s : CoreState) (us : Uses) → SoundCore sh s → Follows sh p s us
    → Follows sh p (invalidate sh l m u s).core (uses_violated (is_violated l m u s) s.phase us)
unfolding invalidate acknowledged words_invalidated
invalidate-follows sh p l m u s us k a = if_violated-follows sh p (is_violated l m u s) (words_invalidated l m s) us
    (words_invalidated-sound sh l m s k) (words_invalidated-follows sh p l m s us a)

abbrev pub OutGoes : Shape → Program → Uses → Option Out → Type 0
OutGoes sh p us o = IfSome o (λ t. Follows sh p t.core us)

from_dir-follows : (sh : Shape) (p : Program) (d : ℕ) (s : CoreState) (us : Uses) (m : Msg) → SoundCore sh s → Follows sh p s us
    → OutGoes sh p (uses_delivered s m us) (from_dir sh d s m)
unfolding probe_reply
from_dir-follows sh p d s us (ProbeReply t serving) k a = reply_in_phase-follows sh p d t s us s.phase refl a
from_dir-follows sh p d s us (Fill l ws) k a = fill-follows sh p l ws s us k a
from_dir-follows sh p d s us (DataReq l) k a = request-follows sh p l s us a
from_dir-follows sh p d s us (Inv l m t) k a = invalidate-follows sh p l m t s us k a
from_dir-follows sh p d s us _ k a = tt

from_vendor-follows : (sh : Shape) (p : Program) (s : CoreState) (us : Uses) (m : Msg) → Follows sh p s us
    → OutGoes sh p (uses_delivered s m us) (from_vendor sh s m)
from_vendor-follows sh p s us (TidGrant t) a = grant-follows sh p t s us a
from_vendor-follows sh p s us _ a = tt

-- the attempt goes on, or it was violated and begins anew
pub core_deliver-follows : (sh : Shape) (p : Program) (s : CoreState) (us : Uses) (src : Node) (m : Msg) → SoundCore sh s
    → Follows sh p s us → OutGoes sh p (uses_delivered s m us) (core_deliver sh s src m)
unfolding core_deliver
core_deliver-follows sh p s us (Dir d) m k a = from_dir-follows sh p d s us m k a
core_deliver-follows sh p s us Vendor m k a = from_vendor-follows sh p s us m a
core_deliver-follows sh p s us (Core c) m k a = tt
