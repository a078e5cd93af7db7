-- Evict and messages keep what holds of a core, so every event of the machine does.
use Rattle.std.proofs.Common.{◌≡◌, ℕ, ◌%◌, Bool, true, false, cond, ◌&&◌, ◌||◌, ◌⊎◌, inl, inr, ⊎_elim, List, [], ◌∷◌, Option, Some, None}
use Rattle.std.proofs.Common.{is_some, refl, ap, sym, ◌∙◌, subst, arith}
use Rattle.std.specs.Prelude.{IfSome, ◌==◌, nat_lt}
use Rattle.std.proofs.lemmas.Bool.{cases_Bool, cases_eq}
use Rattle.std.proofs.lemmas.Bool.Decides.{nat_tests}
use Rattle.tcc_base.specs.Put.{put}
use Rattle.rules_program.specs.Program.{Local, Program}
use Rattle.rules_maps.specs.Words.{line_of, word_at, any_word, any_below}
use Rattle.rules_maps.specs.Nodes.{Node, Core, Dir, Vendor, Msg, TidGrant, Fill, ProbeReply}
use Rattle.rules_maps.specs.Nodes.{DataReq, Inv, Event, Exec, Evict, Deliver}
use Rattle.rules_maps.specs.Shape.{Shape}
use Rattle.rules_maps.specs.Cache.{Cache, is_marked, empty_cache}
use Rattle.rules_maps.specs.CacheChange.{filled, invalidated, cleaned, evicted, rolled_back, read_cleared}
use Rattle.rules_maps.specs.Spilled.{spill_line, none_spilled}
use Rattle.rules_maps.proofs.Lemmas.{empty-keeps, evicted-keeps, filled-keeps, invalidated-keeps, cleaned-keeps, rolled_back-keeps}
use Rattle.rules_maps.proofs.Lemmas.{read_cleared-keeps, any_below-at, held-evicted, modified-evicted, dirty-evicted, read-evicted}
use Rattle.rules_maps.proofs.Lemmas.{read-filled, modified-filled, dirty-filled, held-invalidated, read-invalidated, modified-invalidated}
use Rattle.rules_maps.proofs.Lemmas.{dirty-invalidated, held-cleaned, read-cleaned, modified-cleaned, dirty-cleaned, held-rolled_back}
use Rattle.rules_maps.proofs.Lemmas.{read-rolled_back, modified-rolled_back, held-read_cleared, modified-read_cleared, dirty-read_cleared}
use Rattle.rules_tcc.specs.State.{CoreState, Awaited, Phase, Running, AwaitTid, DoomedTid, Probing, Ready, Overflowing, Solo, Halted, World}
use Rattle.rules_tcc.specs.State.{core_start, start}
use Rattle.rules_tcc.specs.Links.{in_flight}
use Rattle.rules_tcc.specs.Sends.{nothing, to, marks_for}
use Rattle.rules_tcc.specs.Attempt.{Out, moves, is_solo, roll_back}
use Rattle.rules_tcc.specs.CoreExec.{core_exec}
use Rattle.rules_tcc.specs.CoreEvict.{is_awaited, core_evict}
use Rattle.rules_tcc.specs.CoreDeliver.{ignored, grant_in_phase, grant, probing_or_ready, is_probed, replied, all_replied}
use Rattle.rules_tcc.specs.CoreDeliver.{ready_once_replied, solo_once_replied, reply_in_phase, probe_reply, fill_awaited, fill}
use Rattle.rules_tcc.specs.CoreDeliver.{data_request, violated_in_phase, if_violated, staled, words_invalidated, is_violated, acknowledged}
use Rattle.rules_tcc.specs.CoreDeliver.{invalidate, from_dir, from_vendor, core_deliver}
use Rattle.rules_tcc.specs.DirDeliver.{Answer, Waits, Drops, Asks, Takes, dir_deliver}
use Rattle.rules_tcc.specs.VendorDeliver.{Granted, vendor_deliver}
use Rattle.rules_tcc.specs.Step.{Stepped, History, core_moves, core_takes, dir_takes, dir_asks, vendor_gives, if_core_moves, if_core_takes}
use Rattle.rules_tcc.specs.Step.{answered, if_vendor_gives, delivered, if_in_flight, names_nodes, happens, step, recorded, and_noted}
use Rattle.rules_tcc.specs.Step.{next_history, and_then, run_from, run}
use Rattle.theorem_attempt.specs.Sound.{AwaitsHeld, is_idle, SoundCore}
use Rattle.rules_tcc.proofs.Lemmas.{if-step, each-evict, emptied}
use Rattle.theorem_attempt.proofs.Sound.{OutSound}
use Rattle.theorem_attempt.proofs.SoundExec.{core_exec-sound}

-- the awaited line stays where the cache keeps its frames
awaits-same : (c d : Cache) (o : Option Awaited) → ((l : ℕ) → d.held l ≡ c.held l) → AwaitsHeld c o → AwaitsHeld d o
awaits-same c d None f h = tt
awaits-same c d (Some a) f h = f a.line ∙ h

-- an evicted line isn't the awaited one
evicted-awaits : (x y l : ℕ) (c : Cache) (o : Option Awaited) → c.at x y ≡ Some l → is_awaited o l ≡ false → AwaitsHeld c o
    → AwaitsHeld (evicted x y c) o
evicted-awaits x y l c None e n h = tt
evicted-awaits x y l c (Some a) e n h = held-evicted x y c a.line l e ∙ grind (arith, nat_tests)

-- an unmarked line has no modified word
unmarked-modified : (c : Cache) (l w : ℕ) → is_marked c l ≡ false → l ≡ line_of w → c.modified w ≡ true → ⊥
unfolding is_marked any_word
unmarked-modified c l w m e t =
    let i : word_at l (w % 8) ≡ w = omega arith in
    let r : (c.read (word_at l (w % 8)) || c.modified (word_at l (w % 8))) ≡ true =
    subst (λ v. (c.read v || c.modified v) ≡ true) (sym i) (grind (arith, nat_tests)) in
    let a = any_below-at (λ k. c.read (word_at l k) || c.modified (word_at l k)) 8 (w % 8) (omega arith) r in cc

unmarked-word : (c : Cache) (l w : ℕ) → is_marked c l ≡ false → l ≡ line_of w → c.modified w ≡ false
unmarked-word c l w m e = ⊎_elim (λ t. absurd (unmarked-modified c l w m e t)) (λ t. t) (cases_Bool (c.modified w))

-- nothing is spilled unless the core is alone
spill-none : (c : Cache) (l : ℕ) (sp : ℕ → Option ℕ) (w : ℕ) → is_marked c l ≡ false → sp w ≡ None → spill_line l c sp w ≡ None
unfolding spill_line
spill-none c l sp w m e = ⊎_elim
    (λ i. let n = unmarked-word c l w m i in grind (arith, nat_tests))
    (λ i. grind (arith, nat_tests))
    (cases_eq l (line_of w))

-- a line with a spilled word after the eviction is that line, or had one before
spill-apart : (x y l : ℕ) (c : Cache) (sp : ℕ → Option ℕ) → c.at x y ≡ Some l
    → ((v w : ℕ) → line_of v ≡ line_of w → is_some (sp v) ≡ true → (c.modified w ≡ false) × (c.dirty w ≡ None)) →
    (v w : ℕ) → line_of v ≡ line_of w → is_some (spill_line l c sp v) ≡ true → ((evicted x y c).modified w ≡ false)
    × ((evicted x y c).dirty w ≡ None)
unfolding spill_line
spill-apart x y l c sp e f v w i h = ⊎_elim
    (λ q. (modified-evicted x y c w l e ∙ grind (arith, nat_tests), dirty-evicted x y c w l e ∙ grind (arith, nat_tests)))
    (λ q. let n : (l ≡ line_of v → ⊥) = λ j. q (j ∙ i) in
    let s : is_some (sp v) ≡ true = grind (arith, nat_tests) in
    let a = f v w i s in (modified-evicted x y c w l e ∙ grind (arith, nat_tests), dirty-evicted x y c w l e ∙ grind (arith, nat_tests)))
    (cases_eq l (line_of w))

pub emptied-sound : (sh : Shape) (x y l : ℕ) (s : CoreState) → s.cache.at x y ≡ Some l → is_awaited s.awaited l ≡ false
    → (is_marked s.cache l ≡ false) ⊎ (is_solo s.phase ≡ true) → SoundCore sh s → SoundCore sh (emptied sh x y l s).core
emptied-sound sh x y l s e n m k = record {
  cache = evicted-keeps sh x y s.cache k.cache;
  awaits = evicted-awaits x y l s.cache s.awaited e n k.awaits;
  alone = λ i w. spill-none s.cache l s.spilled w (unmarked i m) (k.alone i w);
  apart = spill-apart x y l s.cache s.spilled e k.apart;
  unmarked = λ i w. let a = k.unmarked i w in
      (read-evicted x y s.cache w l e ∙ grind (arith, nat_tests), modified-evicted x y s.cache w l e ∙ grind (arith, nat_tests));
}
  where
    unmarked : is_solo s.phase ≡ false → (is_marked s.cache l ≡ false) ⊎ (is_solo s.phase ≡ true) → is_marked s.cache l ≡ false
    unmarked i (inl u) = u
    unmarked i (inr a) = absurd (cc)

pub core_evict-sound : (sh : Shape) (x y : ℕ) (s : CoreState) → SoundCore sh s → OutSound sh (core_evict sh x y s)
core_evict-sound sh x y s k = each-evict sh x y s (λ o. SoundCore sh o.core) (λ l e n m. emptied-sound sh x y l s e n m k)

-- another phase in which the core has an attempt
rephased : (sh : Shape) (s : CoreState) (q : Phase) (owing : ℕ → Bool) → is_idle q ≡ false → is_solo s.phase ≡ false → SoundCore sh s
    → SoundCore sh (record s { owing = owing; phase = q })
rephased sh s q owing m h k =
    record { cache = k.cache; awaits = k.awaits; alone = λ i. k.alone h; apart = k.apart; unmarked = λ i w. absurd (cc) }

probing-idle : (b : Bool) (t : ℕ) → is_idle (probing_or_ready b t) ≡ false
probing-idle true t = refl
probing-idle false t = refl

grant_in_phase-sound : (sh : Shape) (t : ℕ) (s : CoreState) (q : Phase) → s.phase ≡ q → SoundCore sh s
    → SoundCore sh (grant_in_phase sh t s q).core
grant_in_phase-sound sh t s AwaitTid e k = rephased sh s (probing_or_ready (any_below (is_probed sh s.cache) sh.dirs) t)
    (is_probed sh s.cache) (probing-idle (any_below (is_probed sh s.cache) sh.dirs) t) (ap is_solo e) k
grant_in_phase-sound sh t s DoomedTid e k = rephased sh s Running s.owing refl (ap is_solo e) k
grant_in_phase-sound sh t s (Overflowing None) e k = rephased sh s (Overflowing (Some t)) (λ d. nat_lt d sh.dirs) refl (ap is_solo e) k
grant_in_phase-sound sh t s (Overflowing (Some u)) e k = k
grant_in_phase-sound sh t s Running e k = k
grant_in_phase-sound sh t s (Probing u) e k = k
grant_in_phase-sound sh t s (Ready u) e k = k
grant_in_phase-sound sh t s (Solo u) e k = k
grant_in_phase-sound sh t s Halted e k = k

grant-sound : (sh : Shape) (t : ℕ) (s : CoreState) → SoundCore sh s → SoundCore sh (grant sh t s).core
unfolding grant
grant-sound sh t s k = grant_in_phase-sound sh t s s.phase refl k

replied-sound : (sh : Shape) (d : ℕ) (s : CoreState) → SoundCore sh s → SoundCore sh (replied d s)
replied-sound sh d s k = record { cache = k.cache; awaits = k.awaits; alone = k.alone; apart = k.apart; unmarked = k.unmarked }

ready-sound : (sh : Shape) (t : ℕ) (s : CoreState) (b : Bool) → is_solo s.phase ≡ false → SoundCore sh s
    → SoundCore sh (cond b (record s { phase = Ready t }) s)
ready-sound sh t s true h k =
    record { cache = k.cache; awaits = k.awaits; alone = λ i. k.alone h; apart = k.apart; unmarked = λ i w. absurd (cc) }
ready-sound sh t s false h k = k

alone-sound : (sh : Shape) (t : ℕ) (s : CoreState) (b : Bool) → is_solo s.phase ≡ false → SoundCore sh s
    → SoundCore sh (cond b (record s { phase = Solo t; cache = read_cleared s.cache }) s)
alone-sound sh t s true h k = record {
  cache = read_cleared-keeps sh s.cache k.cache;
  awaits = awaits-same s.cache (read_cleared s.cache) s.awaited (held-read_cleared s.cache) k.awaits;
  alone = λ i. absurd (cc);
  apart = λ v w i j. let a = k.apart v w i j in (modified-read_cleared s.cache w ∙ a.0, dirty-read_cleared s.cache w ∙ a.1);
  unmarked = λ i w. absurd (cc);
}
alone-sound sh t s false h k = k

reply_in_phase-sound : (sh : Shape) (d t : ℕ) (s : CoreState) (q : Phase) → s.phase ≡ q → SoundCore sh s
    → SoundCore sh (reply_in_phase sh d t s q).core
reply_in_phase-sound sh d t s (Probing u) e k = at (u == t && s.owing d)
  where
    at : (b : Bool) →
        SoundCore sh (cond b (moves (ready_once_replied sh t (replied d s)) (to (Dir d) (marks_for sh s.cache t d))) (ignored s)).core
    at true = ready-sound sh t (replied d s) (all_replied sh (replied d s).owing) (ap is_solo e) (replied-sound sh d s k)
    at false = k
reply_in_phase-sound sh d t s (Overflowing (Some u)) e k = at (u == t && s.owing d)
  where
    at : (b : Bool) → SoundCore sh (cond b (moves (solo_once_replied sh t (replied d s)) nothing) (ignored s)).core
    at true = alone-sound sh t (replied d s) (all_replied sh (replied d s).owing) (ap is_solo e) (replied-sound sh d s k)
    at false = k
reply_in_phase-sound sh d t s (Overflowing None) e k = k
reply_in_phase-sound sh d t s Running e k = k
reply_in_phase-sound sh d t s AwaitTid e k = k
reply_in_phase-sound sh d t s DoomedTid e k = k
reply_in_phase-sound sh d t s (Ready u) e k = k
reply_in_phase-sound sh d t s (Solo u) e k = k
reply_in_phase-sound sh d t s Halted e k = k

reply-sound : (sh : Shape) (d t : ℕ) (s : CoreState) → SoundCore sh s → SoundCore sh (probe_reply sh d t s).core
unfolding probe_reply
reply-sound sh d t s k = reply_in_phase-sound sh d t s s.phase refl k

filled-sound : (sh : Shape) (l : ℕ) (ws : List ℕ) (s : CoreState) → s.cache.held l ≡ true → SoundCore sh s
    → SoundCore sh (record s { cache = filled l ws s.cache; awaited = None })
filled-sound sh l ws s h k = record {
  cache = filled-keeps sh l ws s.cache h k.cache;
  awaits = tt;
  alone = k.alone;
  apart = λ v w i j. let a = k.apart v w i j in (modified-filled l ws s.cache w ∙ a.0, dirty-filled l ws s.cache w ∙ a.1);
  unmarked = λ i w. let a = k.unmarked i w in (read-filled l ws s.cache w ∙ a.0, modified-filled l ws s.cache w ∙ a.1);
}

arrived-sound : (sh : Shape) (s : CoreState) → SoundCore sh s → SoundCore sh (record s { awaited = None })
arrived-sound sh s k = record { cache = k.cache; awaits = tt; alone = k.alone; apart = k.apart; unmarked = k.unmarked }

fill_awaited-sound : (sh : Shape) (l : ℕ) (ws : List ℕ) (s : CoreState) (o : Option Awaited) → s.awaited ≡ o → SoundCore sh s
    → SoundCore sh (fill_awaited l ws s o).core
fill_awaited-sound sh l ws s None e k = k
fill_awaited-sound sh l ws s (Some a) e k = at (a.line == l) refl a.stale
  where
    line_held : a.line ≡ l → s.cache.held l ≡ true
    line_held i = let h : AwaitsHeld s.cache (Some a) = subst (AwaitsHeld s.cache) e k.awaits in ap s.cache.held (sym i) ∙ h

    at : (b : Bool) → (a.line == l) ≡ b → (c : Bool)
        → SoundCore sh (cond b (moves (record s { cache = cond c s.cache (filled l ws s.cache); awaited = None }) nothing) (ignored s)).core
    at true q true = arrived-sound sh s k
    at true q false = filled-sound sh l ws s (line_held (grind (arith, nat_tests))) k
    at false q c = k

fill-sound : (sh : Shape) (l : ℕ) (ws : List ℕ) (s : CoreState) → SoundCore sh s → SoundCore sh (fill l ws s).core
unfolding fill
fill-sound sh l ws s k = fill_awaited-sound sh l ws s s.awaited refl k

request-sound : (sh : Shape) (l : ℕ) (s : CoreState) → SoundCore sh s → SoundCore sh (data_request sh l s).core
unfolding data_request
request-sound sh l s k = record {
  cache = cleaned-keeps sh l s.cache k.cache;
  awaits = awaits-same s.cache (cleaned l s.cache) s.awaited (held-cleaned l s.cache) k.awaits;
  alone = k.alone;
  apart = λ v w i j. let a = k.apart v w i j in (modified-cleaned l s.cache w ∙ a.0, dirty-cleaned l s.cache w ∙ grind (arith, nat_tests));
  unmarked = λ i w. let a = k.unmarked i w in (read-cleaned l s.cache w ∙ a.0, modified-cleaned l s.cache w ∙ a.1);
}

staled-awaits : (l m : ℕ) (c : Cache) (o : Option Awaited) → AwaitsHeld c o → AwaitsHeld (invalidated l m c) (staled l o)
staled-awaits l m c None h = tt
staled-awaits l m c (Some a) h = held-invalidated l m c a.line ∙ h

pub words_invalidated-sound : (sh : Shape) (l m : ℕ) (s : CoreState) → SoundCore sh s → SoundCore sh (words_invalidated l m s)
unfolding words_invalidated
words_invalidated-sound sh l m s k = record {
  cache = invalidated-keeps sh l m s.cache k.cache;
  awaits = staled-awaits l m s.cache s.awaited k.awaits;
  alone = k.alone;
  apart = λ v w i j. let a = k.apart v w i j in
      (modified-invalidated l m s.cache w ∙ a.0, dirty-invalidated l m s.cache w ∙ grind (arith, nat_tests));
  unmarked = λ i w. let a = k.unmarked i w in (read-invalidated l m s.cache w ∙ a.0, modified-invalidated l m s.cache w ∙ a.1);
}

-- rolled back, the core may go into any phase but Solo, where it has spilled nothing
pub rolled-sound : (sh : Shape) (s : CoreState) (q : Phase) (sp : ℕ → Option ℕ) → ((w : ℕ) → sp w ≡ None) → SoundCore sh s
    → SoundCore sh (record (roll_back s) { phase = q; spilled = sp })
unfolding roll_back
rolled-sound sh s q sp f k = record {
  cache = rolled_back-keeps sh s.cache k.cache;
  awaits = awaits-same s.cache (rolled_back s.cache) s.awaited (held-rolled_back s.cache) k.awaits;
  alone = λ i. f;
  apart = λ v w i j. absurd (let n : is_some (sp v) ≡ false = ap is_some (f v) in cc);
  unmarked = λ i w. (read-rolled_back s.cache w, modified-rolled_back s.cache w);
}

violated-sound : (sh : Shape) (s : CoreState) (q : Phase) → s.phase ≡ q → SoundCore sh s → SoundCore sh (violated_in_phase sh s q).core
unfolding roll_back none_spilled
violated-sound sh s Running e k = rolled-sound sh s s.phase s.spilled (k.alone (ap is_solo e)) k
violated-sound sh s AwaitTid e k = rolled-sound sh s DoomedTid s.spilled (k.alone (ap is_solo e)) k
violated-sound sh s (Overflowing None) e k = rolled-sound sh s DoomedTid s.spilled (k.alone (ap is_solo e)) k
violated-sound sh s (Probing t) e k = rolled-sound sh s Running s.spilled (k.alone (ap is_solo e)) k
violated-sound sh s (Ready t) e k = rolled-sound sh s Running s.spilled (k.alone (ap is_solo e)) k
violated-sound sh s (Overflowing (Some t)) e k = rolled-sound sh s Running none_spilled (λ w. refl) k
violated-sound sh s (Solo t) e k = rolled-sound sh s Running none_spilled (λ w. refl) k
violated-sound sh s DoomedTid e k = k
violated-sound sh s Halted e k = k

if_violated-sound : (sh : Shape) (b : Bool) (s : CoreState) → SoundCore sh s → SoundCore sh (if_violated sh b s).core
unfolding if_violated
if_violated-sound sh true s k = violated-sound sh s s.phase refl k
if_violated-sound sh false s k = k

invalidate-sound : (sh : Shape) (l m u : ℕ) (s : CoreState) → SoundCore sh s → SoundCore sh (invalidate sh l m u s).core
unfolding invalidate acknowledged
invalidate-sound sh l m u s k = if_violated-sound sh (is_violated l m u s) (words_invalidated l m s) (words_invalidated-sound sh l m s k)

from_dir-sound : (sh : Shape) (d : ℕ) (s : CoreState) (m : Msg) → SoundCore sh s → OutSound sh (from_dir sh d s m)
from_dir-sound sh d s (ProbeReply t serving) k = reply-sound sh d t s k
from_dir-sound sh d s (Fill l ws) k = fill-sound sh l ws s k
from_dir-sound sh d s (DataReq l) k = request-sound sh l s k
from_dir-sound sh d s (Inv l m t) k = invalidate-sound sh l m t s k
from_dir-sound sh d s _ k = tt

from_vendor-sound : (sh : Shape) (s : CoreState) (m : Msg) → SoundCore sh s → OutSound sh (from_vendor sh s m)
from_vendor-sound sh s (TidGrant t) k = grant-sound sh t s k
from_vendor-sound sh s _ k = tt

pub core_deliver-sound : (sh : Shape) (s : CoreState) (src : Node) (m : Msg) → SoundCore sh s → OutSound sh (core_deliver sh s src m)
unfolding core_deliver
core_deliver-sound sh s (Dir d) m k = from_dir-sound sh d s m k
core_deliver-sound sh s Vendor m k = from_vendor-sound sh s m k
core_deliver-sound sh s (Core c) m k = tt

-- the cores of a state, and of the state after an event
abbrev pub AllSound : Shape → (ℕ → CoreState) → Type 0
AllSound sh cores = (c : ℕ) → SoundCore sh (cores c)

put-sound : (sh : Shape) (cores : ℕ → CoreState) (c : ℕ) (s : CoreState) → AllSound sh cores → SoundCore sh s → AllSound sh (put cores c s)
put-sound sh cores c s h k i = at (i == c)
  where
    at : (b : Bool) → SoundCore sh (cond b s (cores i))
    at true = k
    at false = h i

moved-sound : (sh : Shape) (w : World) (c : ℕ) (o : Option Out) → AllSound sh w.cores → OutSound sh o
    → IfSome (if_core_moves w c o) (λ t. AllSound sh t.world.cores)
unfolding core_moves
moved-sound sh w c None h k = tt
moved-sound sh w c (Some o) h k = put-sound sh w.cores c o.core h k

taken-sound : (sh : Shape) (w : World) (src : Node) (c k : ℕ) (o : Option Out) → AllSound sh w.cores → OutSound sh o
    → IfSome (if_core_takes w src c k o) (λ t. AllSound sh t.world.cores)
unfolding core_takes
taken-sound sh w src c k None h i = tt
taken-sound sh w src c k (Some o) h i = put-sound sh w.cores c o.core h i

answered-sound : (sh : Shape) (w : World) (c d k : ℕ) (a : Answer) → AllSound sh w.cores
    → IfSome (answered w c d k a) (λ t. AllSound sh t.world.cores)
unfolding dir_takes dir_asks
answered-sound sh w c d k Waits h = tt
answered-sound sh w c d k Drops h = h
answered-sound sh w c d k (Asks s sends) h = h
answered-sound sh w c d k (Takes s sends) h = h

granted-sound : (sh : Shape) (w : World) (c k : ℕ) (g : Option Granted) → AllSound sh w.cores
    → IfSome (if_vendor_gives w c k g) (λ t. AllSound sh t.world.cores)
unfolding vendor_gives
granted-sound sh w c k None h = tt
granted-sound sh w c k (Some g) h = h

delivered-sound : (sh : Shape) (w : World) (src dst : Node) (k : ℕ) (m : Msg) → AllSound sh w.cores
    → IfSome (delivered sh w src dst k m) (λ t. AllSound sh t.world.cores)
delivered-sound sh w src (Core c) k m h = taken-sound sh w src c k (core_deliver sh (w.cores c) src m) h
    (core_deliver-sound sh (w.cores c) src m (h c))
delivered-sound sh w (Core c) (Dir d) k m h = answered-sound sh w c d k (dir_deliver sh (w.dirs d) c m) h
delivered-sound sh w (Core c) Vendor k m h = granted-sound sh w c k (vendor_deliver w.next c m) h
delivered-sound sh w (Dir e) (Dir d) k m h = tt
delivered-sound sh w Vendor (Dir d) k m h = tt
delivered-sound sh w (Dir e) Vendor k m h = tt
delivered-sound sh w Vendor Vendor k m h = tt

flight-sound : (sh : Shape) (w : World) (src dst : Node) (k : ℕ) (o : Option Msg) → AllSound sh w.cores
    → IfSome (if_in_flight sh w src dst k o) (λ t. AllSound sh t.world.cores)
flight-sound sh w src dst k None h = tt
flight-sound sh w src dst k (Some m) h = delivered-sound sh w src dst k m h

happens-sound : (sh : Shape) (p : Program) (w : World) (e : Event) → AllSound sh w.cores
    → IfSome (happens sh p w e) (λ t. AllSound sh t.world.cores)
unfolding happens
happens-sound sh p w (Exec c) h = moved-sound sh w c (core_exec sh p c (w.cores c)) h (core_exec-sound sh p c (w.cores c) (h c))
happens-sound sh p w (Evict c x y) h = moved-sound sh w c (core_evict sh x y (w.cores c)) h (core_evict-sound sh x y (w.cores c) (h c))
happens-sound sh p w (Deliver src dst k) h = flight-sound sh w src dst k (in_flight w.net src dst k) h

pub step-sound : (sh : Shape) (p : Program) (w : World) (e : Event) → AllSound sh w.cores
    → IfSome (step sh p w e) (λ t. AllSound sh t.world.cores)
unfolding step
step-sound sh p w e h = if-step (names_nodes sh e) (happens sh p w e) (λ t. AllSound sh t.world.cores) (happens-sound sh p w e h)

run-step-sound : (sh : Shape) (p : Program) (es : List Event) (h : History) (o : Option Stepped) → IfSome o (λ t. AllSound sh t.world.cores)
    →
    ((g : History) → AllSound sh g.world.cores → IfSome (run_from sh p es g) (λ x. AllSound sh x.world.cores))
    → IfSome (and_then (run_from sh p es) (recorded h o)) (λ x. AllSound sh x.world.cores)
run-step-sound sh p es h None k f = tt
run-step-sound sh p es h (Some t) k f = f (record { world = t.world; commits = and_noted t.noted h.commits }) k

run_from-sound : (sh : Shape) (p : Program) (es : List Event) (h : History) → AllSound sh h.world.cores
    → IfSome (run_from sh p es h) (λ x. AllSound sh x.world.cores)
unfolding run_from next_history
run_from-sound sh p [] h k = k
run_from-sound sh p (e ∷ es) h k = run-step-sound sh p es h (step sh p h.world e) (step-sound sh p h.world e k) (run_from-sound sh p es)

pub start-sound : (sh : Shape) (local : Local) → SoundCore sh (core_start local)
unfolding core_start none_spilled empty_cache
start-sound sh local = record {
  cache = empty-keeps sh;
  awaits = tt;
  alone = λ i w. refl;
  apart = λ v w i h. absurd (cc);
  unmarked = λ i w. absurd (cc);
}

pub cores-sound : (sh : Shape) (p : Program) (entries : ℕ → Local) (ram : ℕ → ℕ) (es : List Event)
    → IfSome (run sh p (start entries ram) es) (λ h. (c : ℕ) → SoundCore sh (h.world.cores c))
unfolding run start
cores-sound sh p entries ram es = run_from-sound sh p es (record { world = start entries ram; commits = [] })
    (λ c. start-sound sh (entries c))
