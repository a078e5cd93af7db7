-- What a core's events do to the words in its frames: a commit or a Fill alone gives an unmodified word another value, what fades keeps
-- its value, and an invalidation takes its words.
use Rattle.theorem_serial.proofs
use proofs.Names
use Names.{hit-line, ℕ, ◌≡◌, ◌⊎◌, Bool, true, false, ◌==◌, Option, Some, None, IfSome, is_some, if◌then◌else◌, refl, sym, ◌∙◌, inl, inr}
use Names.{true≢false, Program, word_of, line_of, Shape, set_of, Cache, free_way, marked, stored, placed, placed_at, evicted, evicted_line}
use Names.{committed, words_dropped, CoreState, Ready, Solo, Out, is_solo, noted, commit, committed_core, solo_commit, core_exec}
use Names.{core_evict, is_stale, not, ◌&&◌, List, unwrap_or, get_or, subst, place_of, hit, Msg, Fill, Inv, filled, cleaned, invalidated}
use Names.{rolled_back, read_cleared, Awaited, grant, staled, from_dir, InvWord, passes, nats, ◌≤◌, set, arith, num, home, is_awaited}
use Names.{LoadingOf, FillOf, FillNot, live, Pair, after_move, back_taken, tested}
use proofs.OneCore.{Commits_now, Did, Ends_alone, Frames, Frames_anew, Misses, Misses_anew, Reads, after_end, each-evict, each-exec, out}
use proofs.OneCore.{Last_room, Fills, Fills_none, Given_none, Granted, Hands_out, Heard, Hurt_alone, Hurt_probing, Hurt_running}
use proofs.OneCore.{Hurt_waiting, Ignores_fill, Hurt_none, each-back, each-grant, granted, heard, message}
use proofs.Counts.{live-takes}
use proofs.Tids.{live-some}
use proofs.Values.FramedWords.{HeldOf, few-not}

-- What each of a core's rules does to the words in its frames: no valid word that isn't modified gets another value, but where the core
-- commits, and where a Fill comes.

-- a valid word that isn't modified is as it was
abbrev pub Fades : (c d : Cache) → (word : ℕ) → Type 0
Fades c d x = (y : ℕ) → d.value x ≡ Some y → d.modified x ≡ false → (c.value x ≡ Some y) × (c.modified x ≡ false)

-- So are all words, and a core that takes a Fill took it before.
pub record Fading (s r : CoreState) : Type 0 where
  pub words : (x : ℕ) → Fades s.cache r.cache x
  pub fresh : is_stale r.awaited ≡ false → is_stale s.awaited ≡ false

-- The core commits under this TID, awaiting nothing, and what it keeps of each word was in its frame.
pub record Closing (c : ℕ) (s : CoreState) (o : Out) : Type 0 where
  pub tid : ℕ
  pub phase : (s.phase ≡ Ready tid) ⊎ (s.phase ≡ Solo tid)
  pub last : CoreState
  pub commit : o.commit ≡ Some (noted tid c last)
  pub stores : last.stores ≡ s.stores
  pub rests : (is_solo s.phase ≡ true → s.awaited ≡ None) × (o.core.awaited ≡ s.awaited)
  pub words : (x y : ℕ) → o.core.cache.value x ≡ Some y → (s.cache.value x ≡ Some y) × (is_solo s.phase ≡ true → s.spilled x ≡ None)

pub data Framing (c : ℕ) (s : CoreState) (o : Out) : Type 0 where
  Stays : o.commit ≡ None → Fading s o.core → Framing c s o
  Closes : Closing c s o → Framing c s o

pub fades-same : (c : Cache) (x : ℕ) → Fades c c x
fades-same c x y e f = (e, f)

-- the same cache but for these words, and the line awaited stays
pub fading : (s r : CoreState) → r.awaited ≡ s.awaited → ((x : ℕ) → Fades s.cache r.cache x) → Fading s r
fading s r e h = record { words = h; fresh = λ q. rw e at q }

-- what the changes of a cache do
fades-marked : (w v : ℕ) (c : Cache) → Fades c (marked w c) v
unfolding marked
fades-marked w v c y e f = (e, f)

fades-stored : (w x v : ℕ) (also : Bool) (c : Cache) → Fades c (stored w x also c) v
unfolding stored
fades-stored w x v also c y = go (v == w)
  where
    go : (b : Bool) → (if b then Some x else c.value v) ≡ Some y → (if b then true else c.modified v) ≡ false
        → (c.value v ≡ Some y) × (c.modified v ≡ false)
    go true e f = absurd (true≢false f)
    go false e f = (e, f)

fades-placed_at : (o : Option ℕ) (s l v : ℕ) (c : Cache) → Fades c (placed_at o s l c) v
unfolding placed_at
fades-placed_at None s l v c y e f = (e, f)
fades-placed_at (Some z) s l v c y e f = (e, f)

fades-placed : (sh : Shape) (l v : ℕ) (c : Cache) → Fades c (placed sh l c) v
unfolding placed
fades-placed sh l v c = fades-placed_at (free_way sh c (set_of sh l)) (set_of sh l) l v c

fades-then : (b c d : Cache) (v : ℕ) → Fades b c v → Fades c d v → Fades b d v
fades-then b c d v f g y e h = let k = g y e h in f y k.0 k.1

-- executing
dropped : (o : Option ℕ) (v : Option ℕ) {y : ℕ} → (if is_some o then None else v) ≡ Some y → (v ≡ Some y) × (o ≡ None)
dropped None v e = (e, refl)
dropped (Some x) v e = absurd (cc)

pub framing-exec : (sh : Shape) (p : Program) (c : ℕ) (s : CoreState) → IfSome (core_exec sh p c s) (Framing c s)
unfolding commit solo_commit committed_core committed words_dropped
framing-exec sh p c s = each-exec sh p c s (Framing c s) go
  where
    w : ℕ → ℕ
    w a = word_of sh.base a

    asked : (k : ℕ) (r : CoreState) → s.awaited ≡ None → ((x : ℕ) → Fades s.cache r.cache x) → Fading s r
    asked k r i f = record { words = f; fresh = λ q. rw i }

    ready : {t : ℕ} → s.phase ≡ Ready t → is_solo s.phase ≡ true → ⊥
    ready e q = true≢false (let z : is_solo s.phase ≡ false = rw e in sym q ∙ z)

    go : (x : Did sh p c s) → Framing c s (out x)
    go (Reads a x z l g r f) = Stays refl (fading s _ refl (λ v. fades-marked (w a) v s.cache))
    go (Frames a y also n k g i f) = Stays refl (fading s _ refl (λ v. fades-stored (w a) y v also s.cache))
    go (Frames_anew a y n k g i q f h) = Stays refl (fading s _ refl
        (λ v. fades-then s.cache (placed sh (line_of (w a)) s.cache) (stored (w a) y false (placed sh (line_of (w a)) s.cache)) v
        (fades-placed sh (line_of (w a)) v s.cache) (fades-stored (w a) y v false (placed sh (line_of (w a)) s.cache))))
    go (Misses a n g i q) = Stays refl (asked (line_of (w a)) _ g.idle (fades-same s.cache))
    go (Misses_anew a n g i q f) = Stays refl (asked (line_of (w a)) _ g.idle (λ v. fades-placed sh (line_of (w a)) v s.cache))
    go (Ends_alone t l e f r i) =
        Closes (record {
          tid = t;
          phase = inr r;
          last = after_end s l e;
          commit = refl;
          stores = refl;
          rests = (λ q. i, refl);
          words = λ x y v. let z = dropped (s.spilled x) (s.cache.value x) v in (z.0, λ q. z.1);
        })
    go (Commits_now t e) =
        Closes (record {
          tid = t;
          phase = inl e;
          last = s;
          commit = refl;
          stores = refl;
          rests = (λ q. absurd (ready e q), refl);
          words = λ x y v. (v, λ q. absurd (ready e q));
        })
    go _ = Stays refl (fading s _ refl (fades-same s.cache))

-- evicting
fades-evicted : (x y l v : ℕ) (c : Cache) → c.at x y ≡ Some l → Fades c (evicted x y c) v
unfolding evicted evicted_line
fades-evicted x y l v c e = rw e (λ z. go z (l == line_of v))
  where
    go : (z : ℕ) (b : Bool) → (if b then None else c.value v) ≡ Some z → (if b then false else c.modified v) ≡ false
        → (c.value v ≡ Some z) × (c.modified v ≡ false)
    go z true h k = absurd (cc)
    go z false h k = (h, k)

pub fading-evict : (sh : Shape) (x y : ℕ) (s : CoreState) → IfSome (core_evict sh x y s) (λ o. (o.commit ≡ None) × Fading s o.core)
fading-evict sh x y s = each-evict sh x y s (λ o. (o.commit ≡ None) × Fading s o.core)
    (λ l e a m. (refl, fading s _ refl (λ v. fades-evicted x y l v s.cache e)))

-- What each message to a core does to the words in its frames: a Fill brings those that aren't valid, an invalidation takes those of its
-- mask that aren't modified, and no other changes any.

-- a core that commits nothing, in which words fade
abbrev pub OnlyFades : CoreState → Out → Type 0
OnlyFades s o = (o.commit ≡ None) × Fading s o.core

pub fading-grant : (sh : Shape) (u : ℕ) (s : CoreState) → OnlyFades s (grant sh u s)
fading-grant sh u s = each-grant sh u s (OnlyFades s) go
  where
    go : (x : Granted sh u s) → OnlyFades s (granted x)
    go (Given_none e) = (refl, fading s _ refl (fades-same s.cache))
    go _ = (refl, fading s _ refl (fades-same s.cache))

fades-cleared : (c : Cache) (x : ℕ) → Fades c (read_cleared c) x
unfolding read_cleared
fades-cleared c x y e f = (e, f)

-- an invalidation
fades-invalidated : (l m x : ℕ) (c : Cache) → Fades c (invalidated l m c) x
unfolding invalidated
fades-invalidated l m x c y = go (hit l m x && not (c.modified x))
  where
    go : (b : Bool) → (if b then None else c.value x) ≡ Some y → c.modified x ≡ false → (c.value x ≡ Some y) × (c.modified x ≡ false)
    go true e f = absurd (cc)
    go false e f = (e, f)

fades-rolled : (c d : Cache) (x : ℕ) → Fades c d x → Fades c (rolled_back d) x
unfolding rolled_back
fades-rolled c d x h y = go (d.modified x) refl
  where
    go : (b : Bool) → d.modified x ≡ b → (if b then None else d.value x) ≡ Some y → false ≡ false
        → (c.value x ≡ Some y) × (c.modified x ≡ false)
    go true q e f = absurd (cc)
    go false q e f = h y e q

staled-fresh : (l : ℕ) (a : Option Awaited) → is_stale (staled l a) ≡ false → is_stale a ≡ false
staled-fresh l a h = grind nats

-- what an invalidation does: its words have no valid copy that isn't modified, and an awaited line of its line is stale
pub record Invalidates (l m : ℕ) (s : CoreState) (o : Out) : Type 0 where
  pub rests : OnlyFades s o
  pub gone : (x y : ℕ) → hit l m x ≡ true → o.core.cache.value x ≡ Some y → o.core.cache.modified x ≡ false → ⊥
  pub staled : o.core.awaited ≡ staled l s.awaited

gone-without : (l m x y : ℕ) (c : Cache) → hit l m x ≡ true → (invalidated l m c).value x ≡ Some y → (invalidated l m c).modified x ≡ false
    → ⊥
unfolding invalidated
gone-without l m x y c h e f = go (hit l m x && not (c.modified x)) (rw (h, f)) e
  where
    go : (b : Bool) → b ≡ true → (if b then None else c.value x) ≡ Some y → ⊥
    go true q e = absurd (cc)
    go false q e = absurd (cc)

gone-rolled : (l m x y : ℕ) (c : Cache) → hit l m x ≡ true → (rolled_back (invalidated l m c)).value x ≡ Some y → ⊥
unfolding rolled_back
gone-rolled l m x y c h = go ((invalidated l m c).modified x) refl
  where
    go : (b : Bool) → (invalidated l m c).modified x ≡ b → (if b then None else (invalidated l m c).value x) ≡ Some y → ⊥
    go true q e = absurd (cc)
    go false q e = gone-without l m x y c h e q

-- a Fill

-- what a Fill brings: each word that is valid now was so, or is this one and was awaited
pub record Filled (l : ℕ) (ws : List ℕ) (s : CoreState) (o : Out) : Type 0 where
  pub commit : o.commit ≡ None
  pub words : (x y : ℕ) → o.core.cache.value x ≡ Some y → o.core.cache.modified x ≡ false
      → ((s.cache.value x ≡ Some y) × (s.cache.modified x ≡ false))
      ⊎ ((l == line_of x ≡ true) × (get_or ws (place_of x) 0 ≡ y) × (is_stale s.awaited ≡ false))
  pub rested : ((a : Awaited) × (s.awaited ≡ Some a) × ((a.line == l) ≡ true)) ⊎ (o.core.awaited ≡ s.awaited)

filled-fades : (l x y : ℕ) (ws : List ℕ) (c : Cache) → (filled l ws c).value x ≡ Some y → (filled l ws c).modified x ≡ false
    → ((c.value x ≡ Some y) × (c.modified x ≡ false)) ⊎ ((l == line_of x ≡ true) × (get_or ws (place_of x) 0 ≡ y))
unfolding filled
filled-fades l x y ws c e f = go (l == line_of x) (c.value x) refl refl e
  where
    go : (b : Bool) (v : Option ℕ) → (l == line_of x) ≡ b → c.value x ≡ v
        → (if b then Some (unwrap_or v (get_or ws (place_of x) 0)) else v) ≡ Some y → ((c.value x ≡ Some y) × (c.modified x ≡ false))
        ⊎ ((l == line_of x ≡ true) × (get_or ws (place_of x) 0 ≡ y))
    go false v q r h = inl (r ∙ h, f)
    go true (Some z) q r h = inl (r ∙ h, f)
    go true None q r h = inr (q, cc)

fades-cleaned : (l x : ℕ) (c : Cache) → Fades c (cleaned l c) x
unfolding cleaned
fades-cleaned l x c y e f = (e, f)

-- what a message from a directory does, by its kind
pub data Coming (s : CoreState) (m : Msg) (o : Out) : Type 0 where
  Quiet : ((x : ℕ) → passes (InvWord x) m ≡ false) → OnlyFades s o → Coming s m o
  Takes : (l n u : ℕ) → m ≡ Inv l n u → Invalidates l n s o → Coming s m o
  Brings : (l : ℕ) (ws : List ℕ) → m ≡ Fill l ws → Filled l ws s o → Coming s m o

pub comes-back : (sh : Shape) (e : ℕ) (s : CoreState) (m : Msg) → IfSome (from_dir sh e s m) (Coming s m)
unfolding passes
comes-back sh e s m = each-back sh e s (Coming s) go m
  where
    plain : (l m u : ℕ) (o : Out) → o.commit ≡ None → o.core.cache ≡ invalidated l m s.cache → o.core.awaited ≡ staled l s.awaited
        → Coming s (Inv l m u) o
    plain l m u o n e f = Takes l m u refl (record {
      rests = (
        n,
        record {
          words = subst (λ c. (x : ℕ) → Fades s.cache c x) (sym e) (λ x. fades-invalidated l m x s.cache);
          fresh = λ q. staled-fresh l s.awaited (rw f at q);
        },
      );
      gone = λ x y h v w. gone-without l m x y s.cache h (rw e at v) (rw e at w);
      staled = f;
    })

    rolls : (l m u : ℕ) (o : Out) → o.commit ≡ None → o.core.cache ≡ rolled_back (invalidated l m s.cache)
        → o.core.awaited ≡ staled l s.awaited → Coming s (Inv l m u) o
    rolls l m u o n e f = Takes l m u refl (record {
      rests = (
        n,
        record {
          words = subst (λ c. (x : ℕ) → Fades s.cache c x) (sym e)
              (λ x. fades-rolled s.cache (invalidated l m s.cache) x (fades-invalidated l m x s.cache));
          fresh = λ q. staled-fresh l s.awaited (rw f at q);
        },
      );
      gone = λ x y h v w. gone-rolled l m x y s.cache h (rw e at v);
      staled = f;
    })

    new : (l : ℕ) (ws : List ℕ) {a : Awaited} → s.awaited ≡ Some a → a.stale ≡ false → (x y : ℕ)
        → ((s.cache.value x ≡ Some y) × (s.cache.modified x ≡ false)) ⊎ ((l == line_of x ≡ true) × (get_or ws (place_of x) 0 ≡ y))
        → ((s.cache.value x ≡ Some y) × (s.cache.modified x ≡ false)) ⊎
        ((l == line_of x ≡ true) × (get_or ws (place_of x) 0 ≡ y) × (is_stale s.awaited ≡ false))
    new l ws e q x y (inl k) = inl k
    new l ws e q x y (inr k) = inr (k.0, k.1, rw e q)

    awaited : {l : ℕ} {a : Awaited} → s.awaited ≡ Some a → a.line ≡ l → (a : Awaited) × (s.awaited ≡ Some a) × ((a.line == l) ≡ true)
    awaited {a} q i = (a, q, grind nats)

    go : (x : Heard sh e s) → Coming s (message x) (heard x)
    go (Last_room u v q o r) = Quiet (λ x. refl) (refl, fading s _ refl (fades-cleared s.cache))
    go (Ignores_fill l ws n) = Brings l ws refl (record { commit = refl; words = λ x y e f. inl (e, f); rested = inr refl })
    go (Fills l ws a q i f) =
        Brings l ws refl (record {
          commit = refl;
          words = λ x y v g. new l ws q f x y (filled-fades l x y ws s.cache v g);
          rested = inl (awaited q i);
        })
    go (Fills_none l ws a q i f) = Brings l ws refl (record { commit = refl; words = λ x y v g. inl (v, g); rested = inl (awaited q i) })
    go (Hands_out l) = Quiet (λ x. refl) (refl, fading s _ refl (λ x. fades-cleaned l x s.cache))
    go (Hurt_none l m u n) = plain l m u _ refl refl refl
    go (Hurt_running l m u v q) = rolls l m u _ refl refl refl
    go (Hurt_waiting l m u v q) = rolls l m u _ refl refl refl
    go (Hurt_probing l m u t v q) = rolls l m u _ refl refl refl
    go (Hurt_alone l m u t v q) = rolls l m u _ refl refl refl
    go _ = Quiet (λ x. refl) (refl, fading s _ refl (fades-same s.cache))

-- A core's events and the words in its frames and in the Filled to it: what fades keeps its value, an invalidation takes its words, and
-- a Fill brings what was on its way.

-- the frames fade, and the link from the home stays
pub held-fades : {x y : ℕ} {v : Pair} (w : Pair) → w.back ≡ v.back → Fading v.core w.core → HeldOf x y v → HeldOf x y w
held-fades {x} w b f h =
    record { framed = λ z p q. let k = f.words x z p q in rw b (h.framed z k.0 k.1); filled = λ p. rw b (h.filled (f.fresh p)) }

-- a message is taken that is no invalidation of the word
pub held-quietly : {x y : ℕ} (k : ℕ) {v : Pair} (w : Pair) {m : Msg} → get_or v.back k None ≡ Some m → w.back ≡ set v.back k None
    → passes (InvWord x) m ≡ false → Fading v.core w.core → HeldOf x y v → HeldOf x y w
held-quietly {x} {y} k {v} w {m} i b n f h = rebuilt
  where
    invs : live (InvWord x) w.back ≡ live (InvWord x) v.back
    invs = let z : num (passes (InvWord x) m) ≡ 0 = rw n in rw b (omega (arith, live-takes (InvWord x) v.back k m i))

    nots : live (FillNot x y) w.back ≤ live (FillNot x y) v.back
    nots = rw b (omega (arith, live-takes (FillNot x y) v.back k m i))

    framed : {A : Type 0} → A ⊎ (1 ≤ live (InvWord x) v.back) → A ⊎ (1 ≤ live (InvWord x) w.back)
    framed (inl q) = inl q
    framed (inr q) = inr (omega (arith, q, invs))

    filled : (live (FillNot x y) v.back ≡ 0) ⊎ (1 ≤ live (InvWord x) v.back)
        → (live (FillNot x y) w.back ≡ 0) ⊎ (1 ≤ live (InvWord x) w.back)
    filled (inl q) = inl (omega (arith, q, nots))
    filled (inr q) = inr (omega (arith, q, invs))

    rebuilt : HeldOf x y w
    rebuilt =
        record { framed = λ z p q. let k = f.words x z p q in framed (h.framed z k.0 k.1); filled = λ p. filled (h.filled (f.fresh p)) }

-- no Fill of a line is in flight to a core that awaits none, or another
pub no-fill : (sh : Shape) (d l : ℕ) (v : Pair) → is_awaited v.core.awaited l ≡ false → LoadingOf sh d l v → live (FillOf l) v.back ≡ 0
no-fill sh d l v a h = let z : num (is_awaited v.core.awaited l && home sh l == d) ≡ 0 = rw a in omega arith

stale-other : (l : ℕ) (a : Option Awaited) → is_stale (staled l a) ≡ false → is_awaited a l ≡ false
stale-other l a h = grind nats

-- an invalidation is taken
pub held-invalid : (sh : Shape) (d x y k l m u : ℕ) {v : Pair} (o : Out) → get_or v.back k None ≡ Some (Inv l m u)
    → Invalidates l m v.core o → LoadingOf sh d (line_of x) v → HeldOf x y v → HeldOf x y (after_move (back_taken v k) o d)
unfolding passes
held-invalid sh d x y k l m u {v} o i f loading h = elim (tested (hit l m x)) [
  | inl q ↦ gone q
  | inr q ↦ held-quietly k (after_move (back_taken v k) o d) i refl q f.rests.1 h
]
  where
    gone : hit l m x ≡ true → HeldOf x y (after_move (back_taken v k) o d)
    gone q = record {
      framed = λ z p r. absurd (f.gone x z q p r);
      filled = λ p. inl (let e : l ≡ line_of x = hit-line l m x q in let z : is_awaited v.core.awaited (line_of x) ≡ false = rw (← e)
          (stale-other l v.core.awaited (rw f.staled at p)) in
          omega (arith, no-fill sh d (line_of x) v z loading, few-not, live-takes (FillOf (line_of x)) v.back k (Inv l m u) i));
    }

-- a Fill is taken
filled-is : (x y z l : ℕ) (ws : List ℕ) → num (passes (FillNot x y) (Fill l ws)) ≡ 0 → (l == line_of x) ≡ true
    → get_or ws (place_of x) 0 ≡ z → z ≡ y
unfolding passes
filled-is x y z l ws n e g = grind nats

awaits-other : (l x : ℕ) (a : Awaited) (b : Option Awaited) → b ≡ Some a → (a.line == l) ≡ true → (l == line_of x) ≡ false
    → is_awaited b (line_of x) ≡ false
awaits-other l x a b e g n = rw e (grind nats)

pub held-filled : (sh : Shape) (d x y k l : ℕ) {ws : List ℕ} {v : Pair} (o : Out) → get_or v.back k None ≡ Some (Fill l ws)
    → Filled l ws v.core o → LoadingOf sh d (line_of x) v → HeldOf x y v → HeldOf x y (after_move (back_taken v k) o d)
unfolding passes
held-filled sh d x y k l {ws} {v} o i f loading h = record { framed = λ z p q. framed z (f.words x z p q); filled = λ p. filled p f.rested }
  where
    invs : live (InvWord x) (set v.back k None) ≡ live (InvWord x) v.back
    invs = omega (arith, live-takes (InvWord x) v.back k (Fill l ws) i)

    kept : {A : Type 0} → A ⊎ (1 ≤ live (InvWord x) v.back) → A ⊎ (1 ≤ live (InvWord x) (set v.back k None))
    kept (inl q) = inl q
    kept (inr q) = inr (omega (arith, q, invs))

    new : (z : ℕ) → (l == line_of x) ≡ true → get_or ws (place_of x) 0 ≡ z → (live (FillNot x y) v.back ≡ 0) ⊎ (1 ≤ live (InvWord x) v.back)
        → (z ≡ y) ⊎ (1 ≤ live (InvWord x) (set v.back k None))
    new z e g (inr q) = inr (omega (arith, q, invs))
    new z e g (inl q) = inl (filled-is x y z l ws (omega (arith, live-some (FillNot x y) v.back k (Fill l ws) i)) e g)

    framed : (z : ℕ) → ((v.core.cache.value x ≡ Some z) × (v.core.cache.modified x ≡ false))
        ⊎ ((l == line_of x ≡ true) × (get_or ws (place_of x) 0 ≡ z) × (is_stale v.core.awaited ≡ false))
        → (z ≡ y) ⊎ (1 ≤ live (InvWord x) (set v.back k None))
    framed z (inl q) = kept (h.framed z q.0 q.1)
    framed z (inr q) = new z q.0 q.1 (h.filled q.2)

    less : (live (FillNot x y) v.back ≡ 0) ⊎ (1 ≤ live (InvWord x) v.back) → (live (FillNot x y) (set v.back k None) ≡ 0)
        ⊎ (1 ≤ live (InvWord x) (set v.back k None))
    less (inl q) = inl (omega (arith, live-takes (FillNot x y) v.back k (Fill l ws) i))
    less (inr q) = inr (omega (arith, q, invs))

    one : (b : Bool) → num b ≤ 1
    one true = omega arith
    one false = omega arith

    none : {a : Awaited} → v.core.awaited ≡ Some a → (a.line == l) ≡ true → (b : Bool) → (l == line_of x) ≡ b
        → live (FillOf (line_of x)) (set v.back k None) ≡ 0
    none e g b q = grind (nats, live-takes, no-fill, awaits-other)

    filled : is_stale o.core.awaited ≡ false → ((a : Awaited) × (v.core.awaited ≡ Some a) × ((a.line == l) ≡ true))
        ⊎ (o.core.awaited ≡ v.core.awaited) → (live (FillNot x y) (set v.back k None) ≡ 0) ⊎ (1 ≤ live (InvWord x) (set v.back k None))
    filled p (inl a) = inl (omega (arith, none a.1 a.2 (l == line_of x) refl, few-not x y (set v.back k None)))
    filled p (inr e) = less (h.filled (rw e at p))

-- a Fill of another directory is taken
pub held-elsewhere : (sh : Shape) (d x y l : ℕ) {ws : List ℕ} {v : Pair} (o : Out) → (l == line_of x) ≡ false → Filled l ws v.core o
    → LoadingOf sh d (line_of x) v → HeldOf x y v → HeldOf x y (after_move v o d)
held-elsewhere sh d x y l {ws} {v} o n f loading h =
    record { framed = λ z p q. framed z (f.words x z p q); filled = λ p. filled p f.rested }
  where
    framed : (z : ℕ) → ((v.core.cache.value x ≡ Some z) × (v.core.cache.modified x ≡ false))
        ⊎ ((l == line_of x ≡ true) × (get_or ws (place_of x) 0 ≡ z) × (is_stale v.core.awaited ≡ false))
        → (z ≡ y) ⊎ (1 ≤ live (InvWord x) v.back)
    framed z (inl q) = h.framed z q.0 q.1
    framed z (inr q) = absurd (let e = q.0 in cc)

    filled : is_stale o.core.awaited ≡ false → ((a : Awaited) × (v.core.awaited ≡ Some a) × ((a.line == l) ≡ true))
        ⊎ (o.core.awaited ≡ v.core.awaited) → (live (FillNot x y) v.back ≡ 0) ⊎ (1 ≤ live (InvWord x) v.back)
    filled p (inl a) =
        inl (omega (arith, no-fill sh d (line_of x) v (awaits-other l x a.0 v.core.awaited a.1 a.2 n) loading, few-not))
    filled p (inr e) = h.filled (rw e at p)
