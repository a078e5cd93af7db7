-- Every event keeps that records and messages are at home; then that all stay in memory.
use Rattle.theorem_serial.proofs
use proofs.Names
use Names.{if_recorded, got, ℕ, ◌%◌, ◌≡◌, ◌<◌, Bool, true, false, not, List, [], ◌∷◌, ◌++◌, ◌==◌, ◌&&◌, Option, Some, None, IfSome, nat_lt}
use Names.{if◌then◌else◌, arith, refl, inl, inr, cases_eq, Program, Local, num, Lines, no_lines, Core, Dir, Event, Msg, Fill, ProbeReply}
use Names.{DataReq, Inv, Shape, home, lines, DirState, World, start, dir_start, sent_all, Out, core_evict, from_dir, grant, Sends, nothing}
use Names.{to, Answer, Waits, Drops, Asks, Takes, dir_deliver, invalidations, is_invalidated, invs_to, home_words, core_moves, core_takes}
use Names.{dir_takes, step, IsUnknown, HomeOf, KeptHomes, LinesAway, NoWord, live, among, passes, Kept, Pair, pair, after_answer, out_taken}
use Names.{nats, to_dir, to_core, FromCore, FromDir, ◌≢◌, moved_by, taken_by, unnoted, ready_once_replied, solo_once_replied}
use Names.{violated_in_phase, words_invalidated, AccessesInMemory, AwaitTid, CommitsInMemory, grant_in_phase}
use Names.{reply_in_phase, StaysInMemory, read_cleared, evicted_line, fill_awaited, data_request, acknowledged, vendor_gives, next_history}
use Names.{invalidated, rolled_back, Overflowing, probe_reply, all_replied, if_violated, is_violated, empty_cache, first_state}
use Names.{invalidate, core_start, CoreState, DoomedTid, marks_for, roll_back, KeptCores, and_noted}
use Names.{Contains, dir_asks, recorded, and_then, run_from, cleaned, evicted, Awaited, Running, Probing, ignored, replied}
use Names.{Stepped, History, filled, Halted, CopyOf, Cache, Phase, Ready, moves, subst, Noted, Solo, fill, ◌≤◌, ◌⊎◌, run}
use proofs.Counts.{Outcome, AsksOwner, TakesSkip, TakesAbort, TakesProbe, TakesLoad, TakesMark, TakesCommit, TakesAck, TakesCopy, Wants}
use proofs.Counts.{ToLoad, ToMark, outcome, live-sends, live-takes, none-taken, pairs_move, pairs_grant, pairs_back, pairs_dir, pairs_asks}
use proofs.Counts.{pairs_vendor, OfAnswer, step_cases}
use proofs.Memory.CoreHomes.{Homely, HomelyOut, homely-none, homely-those, homes-exec, homes-evict, homes-grant, homes-back, CoreInMemory}
use proofs.Memory.CoreHomes.{OutInMemory, same-memory, nothing-used, CoresInMemory, exec-memory, SendsInMemory, exec-sends, evict-sends}
use proofs.Memory.CoreHomes.{grant-sent, back-sends}
use proofs.Serving.{at-home, core_of_out}
use proofs.OneCore.{step-cores, start-cores, each-evict}
use proofs.Tids.{inserted}

-- what a directory knows is of lines at home there, and of cores that the machine has
pub record LinesHome (sh : Shape) (d : ℕ) (ls : Lines) : Type 0 where
  pub known : (l : ℕ) → home sh l ≢ d → IsUnknown ls l
  pub sharers : (l j : ℕ) → ls.sharers l j ≡ true → j < sh.cores
  pub owners : (l j : ℕ) → ls.owner l ≡ Some j → j < sh.cores

pub record Answers (sh : Shape) (d : ℕ) (new : DirState) (sends : Sends) : Type 0 where
  pub lines : LinesHome sh d new.lines
  pub homely : (j : ℕ) → Homely sh d (sends (Core j))

abbrev pub HomesBy : Shape → (dir : ℕ) → Answer → Type 0
HomesBy sh d (Asks new sends) = Answers sh d new sends
HomesBy sh d (Takes new sends) = Answers sh d new sends
HomesBy sh d _ = Unit {0}

quietly : {sh : Shape} {d : ℕ} {new : DirState} → LinesHome sh d new.lines → Answers sh d new nothing
quietly {sh} {d} h = record { lines = h; homely = λ j. homely-none sh d }

other : (sh : Shape) (d l x : ℕ) → home sh l ≡ d → home sh x ≢ d → (x == l) ≡ false
other sh d l x e n = elim (cases_eq x l) [ inl q ↦ absurd (n (rw q e)) | inr q ↦ grind nats ]

home-count : (sh : Shape) (d l : ℕ) → home sh l ≡ d → num (not ((l % sh.dirs) == d)) ≡ 0
home-count sh d l e = let b : ((l % sh.dirs) == d) ≡ true = rw e (grind nats) in rw b

-- one message to one core
pub one-to : (sh : Shape) (d c j : ℕ) (m : Msg) → Homely sh d (m ∷ []) → Homely sh d (to (Core c) (m ∷ []) (Core j))
one-to sh d c j m h = elim (j == c) as (λ b. Homely sh d (if b then m ∷ [] else [])) [ true ↦ h | false ↦ homely-none sh d ]

pub one-data : (sh : Shape) (d l : ℕ) → home sh l ≡ d → Homely sh d (DataReq l ∷ [])
unfolding among passes
one-data sh d l e = record { away = omega (arith, home-count); words = refl }

pub one-fill : (sh : Shape) (d l : ℕ) (ws : List ℕ) → home sh l ≡ d → Homely sh d (Fill l ws ∷ [])
unfolding among passes
one-fill sh d l ws e = record { away = omega (arith, home-count); words = refl }

pub one-reply : (sh : Shape) (d u x : ℕ) → Homely sh d (ProbeReply u x ∷ [])
unfolding among passes
one-reply sh d u x = record { away = refl; words = refl }

pub one-inv : (sh : Shape) (d l m u : ℕ) → home sh l ≡ d → nat_lt 0 m ≡ true → Homely sh d (Inv l m u ∷ [])
unfolding among passes
one-inv sh d l m u e s = record {
  away = omega (arith, home-count);
  words = let b : (m == 0) ≡ false = grind nats in
      let z : num (m == 0) ≡ 0 = rw b in omega arith;
}

-- a line that is at home elsewhere isn't marked
unmarked-away : {sh : Shape} {d : ℕ} (l : ℕ) {ls : Lines} → LinesHome sh d ls → home sh l ≢ d → nat_lt 0 (ls.mark l) ≡ false
unmarked-away l h n = let u = (h.known l n).mark in rw u

marked-here : {sh : Shape} (d l : ℕ) {ls : Lines} → LinesHome sh d ls → nat_lt 0 (ls.mark l) ≡ true → home sh l ≡ d
marked-here {sh} d l h m = elim (cases_eq (home sh l) d) [ inl e ↦ e | inr n ↦ absurd (let z = unmarked-away l h n in cc) ]

dir-homes : (sh : Shape) (d : ℕ) (s : DirState) (c : ℕ) (m : Msg) → c < sh.cores → passes (LinesAway sh.dirs d) m ≡ false
    → LinesHome sh d s.lines → HomesBy sh d (dir_deliver sh s c m)
unfolding passes invalidations invs_to is_invalidated
dir-homes sh d s c m cl aw h = go (outcome sh s c m) aw
  where
    wants : {l : ℕ} {m : Msg} → Wants s l m → passes (LinesAway sh.dirs d) m ≡ false → home sh l ≡ d
    wants {l = l} (ToLoad x) a = at-home (home sh l) d a
    wants {l = l} (ToMark k) a = at-home (home sh l) d a

    marked : (a m b e : Bool) → (a && m && b && e) ≡ true → m ≡ true
    marked a m b e q = grind nats

    inv : (j l : ℕ) → (nat_lt j sh.cores && nat_lt 0 (s.lines.mark l) && s.lines.sharers l j && not (j == c)) ≡ true
        → Homely sh d (Inv l (s.lines.mark l) s.serving.serving ∷ [])
    inv j l q = let m = marked (nat_lt j sh.cores) (nat_lt 0 (s.lines.mark l)) (s.lines.sharers l j) (not (j == c)) q in
        one-inv sh d l (s.lines.mark l) s.serving.serving (marked-here d l h m) m

    go : {m : Msg} {a : Answer} → Outcome sh s c m a → passes (LinesAway sh.dirs d) m ≡ false → HomesBy sh d a
    go (AsksOwner m l o w e) a = let p = wants w a in record {
      lines =
          record {
            known = λ x n. let u = h.known x n in
                record { sharers = u.sharers; owner = u.owner; tag = u.tag; asked = rw (other sh d l x p n) u.asked; mark = u.mark };
            sharers = h.sharers;
            owners = h.owners;
          };
      homely = λ j. one-to sh d o j (DataReq l) (one-data sh d l p);
    }
    go (TakesSkip u b e i) a = quietly h
    go (TakesAbort v b e i) a =
        quietly (record {
          known = λ x n. let u = h.known x n in
              record { sharers = u.sharers; owner = u.owner; tag = u.tag; asked = u.asked; mark = grind nats };
          sharers = h.sharers;
          owners = h.owners;
        })
    go (TakesProbe t i) a =
        record { lines = h; homely = λ j. one-to sh d c j (ProbeReply t s.serving.serving) (one-reply sh d t s.serving.serving) }
    go (TakesLoad l k i e o) a = let p = at-home (home sh l) d a in record {
      lines =
          record {
            known = λ x n. let u = h.known x n in
                record {
                  sharers = λ j. rw (other sh d l x p n) (u.sharers j);
                  owner = u.owner;
                  tag = u.tag;
                  asked = u.asked;
                  mark = u.mark;
                };
            sharers = λ x j q. grind (nats, h.sharers);
            owners = h.owners;
          };
      homely = λ j. one-to sh d c j (Fill l (home_words s l)) (one-fill sh d l (home_words s l) p);
    }
    go (TakesMark l k i) a = let p = at-home (home sh l) d a in
        quietly (record {
          known = λ x n. let u = h.known x n in
              record { sharers = u.sharers; owner = u.owner; tag = u.tag; asked = u.asked; mark = rw (other sh d l x p n) u.mark };
          sharers = h.sharers;
          owners = h.owners;
        })
    go (TakesCommit b e) a = record {
      lines = record {
        known = λ x n. let z = unmarked-away x h n in let u = h.known x n in
            record {
              sharers = λ j. rw z (u.sharers j);
              owner = rw z u.owner;
              tag = rw z u.tag;
              asked = rw z u.asked;
              mark = grind nats;
            };
        sharers = λ x j q. grind (nats, h.sharers);
        owners = λ x j q. grind (nats, h.owners);
      };
      homely = λ j. homely-those sh d (λ l. Inv l (s.lines.mark l) s.serving.serving ∷ []) (is_invalidated sh s.lines c j) (lines sh)
          (inv j);
    }
    go (TakesAck l k b i e) a = quietly (record {
      known = λ x n. let u = h.known x n in
          record {
            sharers = λ j. grind (nats, u.sharers);
            owner = u.owner;
            tag = u.tag;
            asked = u.asked;
            mark = grind nats;
          };
      sharers = λ x j q. grind (nats, h.sharers);
      owners = h.owners;
    })
    go (TakesCopy m l k ws g y e o) a = quietly (record {
      known = λ x n. let u = h.known x n in
          record {
            sharers = u.sharers;
            owner = grind nats;
            tag = u.tag;
            asked = grind nats;
            mark = u.mark;
          };
      sharers = h.sharers;
      owners = λ x j q. grind (nats, h.owners);
    })
    go _ a = tt

-- every event
lines-of : (sh : Shape) (d : ℕ) (v : Pair) → ((l : ℕ) → HomeOf sh d l v) → LinesHome sh d v.dir.lines
lines-of sh d v h = record { known = λ l n. (h l).known n; sharers = λ l j o. (h l).sharers j o; owners = λ l j o. (h l).owners j o }

-- the same of a pair with these lines and links
home-of : {sh : Shape} {d : ℕ} (v : Pair) → LinesHome sh d v.dir.lines → live (LinesAway sh.dirs d) v.out ≡ 0
    → live (LinesAway sh.dirs d) v.back ≡ 0 → live NoWord v.out ≡ 0 → live NoWord v.back ≡ 0 → (l : ℕ) → HomeOf sh d l v
home-of v h a b e f l = record {
  known = h.known l;
  sharers = h.sharers l;
  owners = h.owners l;
  out = a;
  back = b;
  some_out = e;
  some_back = f;
}

-- nor does it matter what else the pair has
home-again : {sh : Shape} {d l : ℕ} {u v : Pair} → u.dir ≡ v.dir → u.out ≡ v.out → u.back ≡ v.back → HomeOf sh d l v → HomeOf sh d l u
home-again a b c q = record {
  known = rw a q.known;
  sharers = rw a q.sharers;
  owners = rw a q.owners;
  out = rw b q.out;
  back = rw c q.back;
  some_out = rw b q.some_out;
  some_back = rw c q.some_back;
}

pub step-homes : {sh : Shape} (p : Program) {w : World} (e : Event) → Kept sh w → KeptHomes sh w
    → IfSome (step sh p w e) (λ o. KeptHomes sh o.world)
unfolding pair
step-homes {sh} p {w} e z h = step_cases sh p w e (λ g o. KeptHomes sh o.world)
    (λ c o eq l. moved c o (got _ eq (homes-exec sh p c (w.cores c))))
    (λ c a b o eq l. moved c o (got _ eq (homes-evict sh a b (w.cores c))))
    (λ c k u i. pairs_grant P w c k (grant sh u (w.cores c))
    (λ d l. home-again refl refl refl (sent c d (grant sh u (w.cores c)) (homes-grant sh u (w.cores c)) l)) h)
    (λ c d k m o eq i. taken c d k m i o (got _ eq (homes-back sh d (w.cores c) m)))
    (λ c d k m i. answered c d k m i (dir_deliver sh (w.dirs d) c m)
    (dir-homes sh d (w.dirs d) c m (core_of_out c d k z.told.tids i) (none-taken (LinesAway sh.dirs d) (to_dir w c d) k i (h c d 0).out)
    (lines-of sh d (pair w c d) (h c d))))
    (λ c k a i. pairs_vendor P w c k a
    (λ d l. home-again refl refl refl (h c d l))
    (λ j d n l. home-again refl refl refl (h j d l)))
  where
    P : ℕ → ℕ → Pair → Type 0
    P c d v = (l : ℕ) → HomeOf sh d l v

    home-lines : (c d : ℕ) → LinesHome sh d (w.dirs d).lines
    home-lines c d = lines-of sh d (pair w c d) (h c d)

    sent : (c d : ℕ) (o : Out) → HomelyOut sh o.sends → (l : ℕ)
        → HomeOf sh d l (record (pair w c d) { core = o.core; out = to_dir w c d ++ sent_all (o.sends (Dir d)) })
    sent c d o a l = home-of (record (pair w c d) { core = o.core; out = to_dir w c d ++ sent_all (o.sends (Dir d)) }) (home-lines c d)
        (omega (arith, (h c d l).out, (a d).away, live-sends)) (h c d l).back
        (omega (arith, (h c d l).some_out, (a d).words, live-sends)) (h c d l).some_back l

    moved : (c : ℕ) (o : Out) → HomelyOut sh o.sends → KeptHomes sh (core_moves w c o)
    moved c o a = pairs_move P w c o (λ d l. home-again refl refl refl (sent c d o a l)) h

    taken : (c d k : ℕ) (m : Msg) → FromDir w d c k m → (o : Out) → HomelyOut sh o.sends → KeptHomes sh (core_takes w (Dir d) c k o)
    taken c d k m i o a = pairs_back P w d c k o (λ l. let q = sent c d o a l in
        record {
          known = q.known;
          sharers = q.sharers;
          owners = q.owners;
          out = q.out;
          back = omega (arith, live-takes (LinesAway sh.dirs d) (to_core w d c) k m i);
          some_out = q.some_out;
          some_back = omega (arith, live-takes NoWord (to_core w d c) k m i);
        })
        (λ b n l. home-again refl refl refl (sent c b o a l)) h

    -- a directory's lines and what it sends; a message to it may have been taken
    replies : (j : ℕ) {d : ℕ} (v : Pair) (s : DirState) {ms : List Msg} → ((l : ℕ) → HomeOf sh d l v) → live (LinesAway sh.dirs d) v.out ≡ 0
        → live NoWord v.out ≡ 0 → LinesHome sh d s.lines → Homely sh d ms → (l : ℕ) → HomeOf sh d l (after_answer v s ms)
    replies j {d} v s {ms} f a b n y l =
        home-of (after_answer v s ms) n a (omega (arith, (f l).back, live-sends)) b
        (omega (arith, (f l).some_back, live-sends)) l

    keep : (c d k : ℕ) (m : Msg) (s : DirState) (sends : Sends) → FromCore w c d k m → Answers sh d s sends
        → KeptHomes sh (dir_takes w c d k s sends)
    keep c d k m s sends i u = pairs_dir P w c d k s sends (replies c (out_taken (pair w c d) k) s
        (λ l. home-of (out_taken (pair w c d) k) (home-lines c d) (less l) (h c d l).back (fewer l) (h c d l).some_back l)
        (less 0) (fewer 0) u.lines (u.homely c))
        (λ j n. replies j (pair w j d) s (h j d) (h j d 0).out (h j d 0).some_out u.lines (u.homely j)) h
      where
        less : (l : ℕ) → live (LinesAway sh.dirs d) (out_taken (pair w c d) k).out ≡ 0
        less l = omega (arith, (h c d l).out, live-takes (LinesAway sh.dirs d) (to_dir w c d) k m i)

        fewer : (l : ℕ) → live NoWord (out_taken (pair w c d) k).out ≡ 0
        fewer l = omega (arith, (h c d l).some_out, live-takes NoWord (to_dir w c d) k m i)

    answered : (c d k : ℕ) (m : Msg) → FromCore w c d k m → (a : Answer) → HomesBy sh d a → OfAnswer w c d k (KeptHomes sh) a
    answered c d k m i Waits u = tt
    answered c d k m i Drops u = keep c d k m (w.dirs d) nothing i (record { lines = home-lines c d; homely = λ j. homely-none sh d })
    answered c d k m i (Asks s sends) u = pairs_asks P w d s sends
        (λ j. replies j (pair w j d) s (h j d) (h j d 0).out (h j d 0).some_out u.lines (u.homely j)) h
    answered c d k m i (Takes s sends) u = keep c d k m s sends i u

pub start-homes : {sh : Shape} (entries : ℕ → Local) (ram : ℕ → ℕ) → KeptHomes sh (start entries ram)
unfolding start dir_start no_lines pair live
start-homes entries ram c d l = record {
  known = λ a. record { sharers = λ j. refl; owner = refl; tag = refl; asked = refl; mark = refl };
  sharers = λ j e. absurd (cc);
  owners = λ j e. absurd (cc);
  out = refl;
  back = refl;
  some_out = refl;
  some_back = refl;
}

-- Along every run of a program whose accesses lie in memory, frames and what was loaded and stored lie there too.

-- Evict and messages keep that a core's frames and what its attempt used lie in memory.
evicted-frames : (x y : ℕ) (c : Cache) (k : ℕ) → (evicted x y c).held k ≡ true → c.held k ≡ true
unfolding evicted evicted_line
evicted-frames x y c k e = grind nats

pub evict-memory : (sh : Shape) (x y : ℕ) (s : CoreState) → CoreInMemory sh s → IfSome (core_evict sh x y s) (OutInMemory sh)
evict-memory sh x y s k = each-evict sh x y s (OutInMemory sh)
    (λ l e n m. (record { frames = λ j h. k.frames j (evicted-frames x y s.cache j h); accesses = k.accesses }, tt))

pub grant-memory : (sh : Shape) (u : ℕ) (s : CoreState) → CoreInMemory sh s → OutInMemory sh (grant sh u s)
unfolding grant
grant-memory sh u s k = go s.phase
  where
    go : (q : Phase) → OutInMemory sh (grant_in_phase sh u s q)
    go AwaitTid = (same-memory _ refl refl refl k, tt)
    go DoomedTid = (same-memory _ refl refl refl k, tt)
    go (Overflowing None) = (same-memory _ refl refl refl k, tt)
    go _ = (k, tt)

reply-memory : (sh : Shape) (d u : ℕ) (s : CoreState) → CoreInMemory sh s → OutInMemory sh (probe_reply sh d u s)
unfolding probe_reply read_cleared
reply-memory sh d u s k = go s.phase
  where
    ready : (b : Bool) → CoreInMemory sh (if b then record (replied d s) { phase = Ready u } else replied d s)
    ready true = same-memory _ refl refl refl k
    ready false = same-memory _ refl refl refl k

    alone : (b : Bool) → CoreInMemory sh (if b then record (replied d s) { phase = Solo u; cache = read_cleared s.cache } else replied d s)
    alone true = same-memory _ refl refl refl k
    alone false = same-memory _ refl refl refl k

    probed : (a : Bool)
        → OutInMemory sh (if a then moves (ready_once_replied sh u (replied d s)) (to (Dir d) (marks_for sh s.cache u d)) else ignored s)
    probed true = (ready (all_replied sh (replied d s).owing), tt)
    probed false = (k, tt)

    over : (a : Bool) → OutInMemory sh (if a then moves (solo_once_replied sh u (replied d s)) nothing else ignored s)
    over true = (alone (all_replied sh (replied d s).owing), tt)
    over false = (k, tt)

    go : (q : Phase) → OutInMemory sh (reply_in_phase sh d u s q)
    go (Probing v) = probed (v == u && s.owing d)
    go (Overflowing (Some v)) = over (v == u && s.owing d)
    go _ = (k, tt)

-- a Fill gives a frame its words and places none
fill-memory : (sh : Shape) (l : ℕ) (ws : List ℕ) (s : CoreState) → CoreInMemory sh s → OutInMemory sh (fill l ws s)
unfolding fill filled
fill-memory sh l ws s k = elim s.awaited as (λ a. OutInMemory sh (fill_awaited l ws s a)) [ None ↦ (k, tt) | Some a ↦ one a (a.line == l) ]
  where
    words : (b : Bool) → CoreInMemory sh (record s { cache = (if b then s.cache else filled l ws s.cache); awaited = None })
    words true = same-memory _ refl refl refl k
    words false = same-memory _ refl refl refl k

    one : (a : Awaited) (b : Bool)
        → OutInMemory sh (if b then moves (record s { cache = (if a.stale then s.cache else filled l ws s.cache); awaited = None }) nothing
        else ignored s)
    one a true = (words a.stale, tt)
    one a false = (k, tt)

data-memory : {sh : Shape} (l : ℕ) {s : CoreState} → CoreInMemory sh s → OutInMemory sh (data_request sh l s)
unfolding data_request cleaned
data-memory l k = (same-memory _ refl refl refl k, tt)

-- a core that rolls back keeps its frames, and its attempt is empty
invalidate-memory : (sh : Shape) (l m u : ℕ) (s : CoreState) → CoreInMemory sh s → OutInMemory sh (invalidate sh l m u s)
unfolding invalidate acknowledged if_violated words_invalidated invalidated roll_back rolled_back
invalidate-memory sh l m u s k = go (is_violated l m u s) s.phase
  where
    r : CoreState
    r = words_invalidated l m s

    same : CoreInMemory sh r
    same = same-memory r refl refl refl k

    begun : CoreInMemory sh (roll_back r)
    begun = record { frames = k.frames; accesses = nothing-used sh }

    go : (b : Bool) (q : Phase) → OutInMemory sh (if b then violated_in_phase sh r q else ignored r)
    go false q = (same, tt)
    go true Running = (begun, tt)
    go true AwaitTid = (same-memory _ refl refl refl begun, tt)
    go true (Overflowing None) = (same-memory _ refl refl refl begun, tt)
    go true (Overflowing (Some t)) = (same-memory _ refl refl refl begun, tt)
    go true (Probing t) = (same-memory _ refl refl refl begun, tt)
    go true (Ready t) = (same-memory _ refl refl refl begun, tt)
    go true (Solo t) = (same-memory _ refl refl refl begun, tt)
    go true DoomedTid = (same, tt)
    go true Halted = (same, tt)

pub back-memory : (sh : Shape) (d : ℕ) (s : CoreState) (m : Msg) → CoreInMemory sh s → IfSome (from_dir sh d s m) (OutInMemory sh)
back-memory sh d s (ProbeReply u v) k = reply-memory sh d u s k
back-memory sh d s (Fill l ws) k = fill-memory sh l ws s k
back-memory sh d s (DataReq l) k = data-memory l k
back-memory sh d s (Inv l m u) k = invalidate-memory sh l m u s k
back-memory sh d s _ k = tt

-- Every event keeps that words on their way home are of lines of memory.

-- no words of a line outside memory are in flight
abbrev pub NoCopiesOutside : Shape → World → Type 0
NoCopiesOutside sh w = (c d l t : ℕ) → lines sh ≤ l → live (CopyOf l t) (pair w c d).out ≡ 0

step-copies : (sh : Shape) (p : Program) (w : World) (e : Event) → KeptCores sh w → CoresInMemory sh w → NoCopiesOutside sh w
    → IfSome (step sh p w e) (λ o. NoCopiesOutside sh o.world)
unfolding pair
step-copies sh p w e a k h = step_cases sh p w e (λ g o. NoCopiesOutside sh o.world)
    (λ c o eq l. moved c o (got _ eq (exec-sends sh p c (w.cores c) (a c).words.cache (k c).frames)))
    (λ c x y o eq l. moved c o (got _ eq (evict-sends sh x y (w.cores c) (a c).words.cache (k c).frames)))
    (λ c n t q. pairs_grant P w c n (grant sh t (w.cores c)) (sent c (grant sh t (w.cores c)) (grant-sent sh t (w.cores c))) h)
    (λ c d n m o eq q. taken c d n o (got _ eq (back-sends sh d (w.cores c) m (a c).words.cache (k c).frames)))
    (λ c d n m q. answered c d n m q (dir_deliver sh (w.dirs d) c m)) (λ c n a q. pairs_vendor P w c n a (h c) (λ j d i. h j d))
  where
    P : ℕ → ℕ → Pair → Type 0
    P c d v = (l t : ℕ) → lines sh ≤ l → live (CopyOf l t) v.out ≡ 0

    sent : (c : ℕ) (o : Out) → SendsInMemory sh o.sends → (d : ℕ)
        → P c d (record (pair w c d) { core = o.core; out = to_dir w c d ++ sent_all (o.sends (Dir d)) })
    sent c o f d l t i = omega (arith, h, f, live-sends)

    moved : (c : ℕ) (o : Out) → SendsInMemory sh o.sends → NoCopiesOutside sh (core_moves w c o)
    moved c o f = pairs_move P w c o (sent c o f) h

    taken : (c d n : ℕ) (o : Out) → SendsInMemory sh o.sends → NoCopiesOutside sh (core_takes w (Dir d) c n o)
    taken c d n o f = pairs_back P w d c n o (sent c o f d) (λ b i. sent c o f b) h

    consumed : (c d n : ℕ) (m : Msg) (s : DirState) (sends : Sends) → FromCore w c d n m → NoCopiesOutside sh (dir_takes w c d n s sends)
    consumed c d n m s sends q =
        pairs_dir P w c d n s sends (λ l t i. omega (arith, h c d l t i, live-takes (CopyOf l t) (to_dir w c d) n m q)) (λ j i. h j d) h

    answered : (c d n : ℕ) (m : Msg) → FromCore w c d n m → (x : Answer) → OfAnswer w c d n (NoCopiesOutside sh) x
    answered c d n m q Waits = tt
    answered c d n m q Drops = consumed c d n m (w.dirs d) nothing q
    answered c d n m q (Asks s sends) = pairs_asks P w d s sends (λ j. h j d) h
    answered c d n m q (Takes s sends) = consumed c d n m s sends q

start-copies : (sh : Shape) (entries : ℕ → Local) (ram : ℕ → ℕ) → NoCopiesOutside sh (start entries ram)
unfolding start pair live
start-copies sh entries ram c d l t i = refl

pub record KeptInMemory (sh : Shape) (h : History) : Type 0 where
  pub alone : KeptCores sh h.world
  pub cores : CoresInMemory sh h.world
  pub copies : NoCopiesOutside sh h.world
  pub commits : CommitsInMemory sh h.commits

-- what a step leaves and notes
abbrev pub StepInMemory : Shape → Stepped → Type 0
StepInMemory sh o = CoresInMemory sh o.world × IfSome o.noted (λ n. AccessesInMemory sh n.loads n.stores)

step-memory : (sh : Shape) (p : Program) (w : World) (e : Event) → StaysInMemory sh p → CoresInMemory sh w
    → IfSome (step sh p w e) (StepInMemory sh)
unfolding core_moves core_takes dir_takes dir_asks vendor_gives
step-memory sh p w e i k = step_cases sh p w e (λ g o. StepInMemory sh o)
    (λ c o eq l. moved c o (got _ eq (exec-memory sh p c (w.cores c) i (k c))))
    (λ c x y o eq l. moved c o (got _ eq (evict-memory sh x y (w.cores c) (k c))))
    (λ c n t q. let z = grant-memory sh t (w.cores c) (k c) in (put c z.0, z.1))
    (λ c d n m o eq q. taken c d n o (got _ eq (back-memory sh d (w.cores c) m (k c))))
    (λ c d n m q. answered c d n (dir_deliver sh (w.dirs d) c m)) (λ c n a q. (k, tt))
  where
    put : (c : ℕ) {s : CoreState} → CoreInMemory sh s → (j : ℕ) → CoreInMemory sh (if j == c then s else w.cores j)
    put c {s} h j = elim (j == c) as (λ b. CoreInMemory sh (if b then s else w.cores j)) [ true ↦ h | false ↦ k j ]

    moved : (c : ℕ) (o : Out) → OutInMemory sh o → StepInMemory sh (moved_by w c o)
    moved c o h = (put c h.0, h.1)

    taken : (c d n : ℕ) (o : Out) → OutInMemory sh o → StepInMemory sh (taken_by w (Dir d) c n o)
    taken c d n o h = (put c h.0, h.1)

    answered : (c d n : ℕ) (a : Answer) → OfAnswer w c d n (λ v. StepInMemory sh (unnoted v)) a
    answered c d n Waits = tt
    answered c d n _ = (k, tt)

noted-memory : (sh : Shape) (a : Option Noted) (cs : List Noted) → IfSome a (λ n. AccessesInMemory sh n.loads n.stores)
    → CommitsInMemory sh cs → CommitsInMemory sh (and_noted a cs)
noted-memory sh None cs a k = k
noted-memory sh (Some x) cs a k = λ n q. go n (inserted x n cs q)
  where
    go : (n : Noted) → (x ≡ n) ⊎ Contains cs n → AccessesInMemory sh n.loads n.stores
    go n (inl e) = subst (λ (m : Noted). AccessesInMemory sh m.loads m.stores) e a
    go n (inr q) = k n q

step-in-memory : (sh : Shape) (p : Program) (h : History) (e : Event) → StaysInMemory sh p → KeptInMemory sh h
    → IfSome (recorded h (step sh p h.world e)) (KeptInMemory sh)
step-in-memory sh p h e i k = if_recorded _ h (step sh p h.world e) (λ o eq.
    let q : StepInMemory sh o = got _ eq (step-memory sh p h.world e i k.cores) in
    record {
      alone = got _ eq (step-cores p h.world e k.alone);
      cores = q.0;
      copies = got _ eq (step-copies sh p h.world e k.alone k.cores k.copies);
      commits = noted-memory sh o.noted h.commits q.1 k.commits;
    })

run_from-memory : (sh : Shape) (p : Program) (es : List Event) (h : History) → StaysInMemory sh p → KeptInMemory sh h
    → IfSome (run_from sh p es h) (KeptInMemory sh)
unfolding run_from next_history
run_from-memory sh p [] h i k = k
run_from-memory sh p (e ∷ es) h i k = go (recorded h (step sh p h.world e)) (step-in-memory sh p h e i k)
    (λ g q. run_from-memory sh p es g i q)
  where
    go : (x : Option History) → IfSome x (KeptInMemory sh)
        → ((g : History) → KeptInMemory sh g → IfSome (run_from sh p es g) (KeptInMemory sh))
        → IfSome (and_then (run_from sh p es) x) (KeptInMemory sh)
    go None q f = tt
    go (Some g) q f = f g q

pub start-memory : (sh : Shape) (entries : ℕ → Local) (ram : ℕ → ℕ) → KeptInMemory sh (first_state entries ram)
unfolding start core_start empty_cache
start-memory sh entries ram = record {
  alone = start-cores sh entries ram;
  cores = λ c. record { frames = λ l e. absurd (cc); accesses = nothing-used sh };
  copies = start-copies sh entries ram;
  commits = λ n q. absurd (omega arith);
}

pub run-memory : (sh : Shape) (p : Program) (entries : ℕ → Local) (ram : ℕ → ℕ) (es : List Event) → StaysInMemory sh p
    → IfSome (run sh p (start entries ram) es) (KeptInMemory sh)
unfolding run
run-memory sh p entries ram es i = run_from-memory sh p es (first_state entries ram) i (start-memory sh entries ram)
