-- Every state that a run reaches is what a serial execution gives: a commit happens where no packet is on the bus, so memory has all words
-- that its attempt used, and the attempt is a transaction of the plain machine.
use Rattle.std.specs.Prelude.{ℕ, ◌≡◌, ◌<◌, ◌^◌, Bool, true, false, ◌==◌, List, [], ◌∷◌, ◌++◌, map, length, Option, Some, None, IfSome}
use Rattle.std.specs.Prelude.{if◌then◌else◌}
use Rattle.std.proofs.Common.{arith, refl, ap, sym, subst, append-nil, ◌∙◌, inl, inr, ◌⊎◌}
use Rattle.std.proofs.lemmas.Bool.Decides.{nat_tests}
use Rattle.rules_maps.specs.Cache.{IsCache}
use Rattle.rules_maps.specs.Shape.{Shape}
use Rattle.rules_maps.specs.Words.{put}
use Rattle.rules_program.specs.Orders.{order_of_commit, last_tid}
use Rattle.rules_program.specs.Plain.{Plain, Goes, closed, serial}
use Rattle.rules_program.specs.Program.{Local, Need, Nothing, Ends, Halts, Traps, Program}
use Rattle.rules_tcc.specs.Attempt.{Out, finished}
use Rattle.rules_tcc.specs.CoreEvict.{core_evict}
use Rattle.rules_tcc.specs.State.{CoreState, AwaitTid, Solo, core_start}
use Rattle.theorem_attempt.specs.Follows.{Uses, Agrees, IsSmall, NeedFits, Fits, HasEnded}
use Rattle.theorem_serial.specs.Theorem.{Suits}
use Rattle.theorem_serial.specs.Commits.{CommitsSerial, CoreSerial, plain_start}
use Rattle.theorem_attempt.proofs.Lemmas.{Claim, finished-claims, in-to, none-used, start-follows}
use Rattle.rules_bus.specs.Commit.{BusStepped, written_words, with_words, bus_commit, all_clean, commit_out}
use Rattle.rules_bus.specs.Exec.{instruction, gone_alone}
use Rattle.rules_bus.specs.State.{Bus, Free, Alone, BusWorld, BusEvent, bus_start}
use Rattle.rules_bus.specs.Step.{BusHistory, bus_run}
use Rattle.rules_bus.specs.Take.{packet_taken}
use Rattle.theorem_bus.specs.Laws.{BusIsSerial, BusRunsAreSerial}
use Rattle.theorem_bus.proofs.InOrder.Bounded.{in_memory, stays-in, InOrder, events-in-order, start-in-order}
use Rattle.theorem_bus.proofs.OneCore.Committed.{out-phase, out-noted, out-checked, finished-fine}
use Rattle.theorem_bus.proofs.Memory.Cores.{Followed, none-pending, alone-free, happened-followed}
use Rattle.theorem_bus.proofs.OneCore.Did.{goes}
use Rattle.theorem_bus.proofs.InOrder.Events.{Happened, Instructs, TakesBus, EndsAlone, Commits, Evicts, Takes}
use Rattle.theorem_bus.proofs.OneCore.Fine.{Fine, Left, instruction-left}
use Rattle.theorem_bus.proofs.Memory.Follow.{AgreesBut, Follow}
use Rattle.theorem_bus.proofs.Memory.Commit.{pending}
use Rattle.theorem_bus.proofs.OneCore.Instruction.{if-at}
use Rattle.theorem_bus.proofs.InOrder.Ordered.{Ordered}
use Rattle.theorem_bus.proofs.InOrder.Runs.{stepped_to, EventsKeep, run-keeps}
use Rattle.theorem_bus.proofs.Serial.Shown.{Same, same-serial, has_halted, end-runs, instruction-same, alone-same, evict-same, taken-same}
use Rattle.theorem_bus.proofs.Serial.Transaction.{PlainDid, Transacted, transacts, seen-written, end-is, commits-push, last-push}

-- the commits are a serial execution, and what is committed is the plain machine after them
pub record Plainly (sh : Shape) (p : Program) (entries : ℕ → Local) (first : ℕ → ℕ) (h : BusHistory) : Type 0 where
  pub plain : Plain
  pub commits : CommitsSerial sh p entries first h.commits plain
  pub cores : (c : ℕ) → c < sh.cores → CoreSerial (h.world.cores c) (plain.cores c)
  pub memory : plain.ram ≡ h.world.ram
  pub small : IsSmall h.world.ram
  pub last : last_tid 0 (map order_of_commit h.commits) < h.world.next

-- no commit

changed : (sh : Shape) (p : Program) (entries : ℕ → Local) (first : ℕ → ℕ) (h : BusHistory) (c : ℕ) (t : CoreState) (b : Bus)
    → Plainly sh p entries first h → Same (h.world.cores c) t
    → Plainly sh p entries first (record { world = record h.world { cores = put h.world.cores c t; bus = b }; commits = h.commits })
changed sh p entries first h c t b k e = record {
  plain = k.plain;
  commits = k.commits;
  cores = λ i l. go i (i == c) refl (k.cores i l);
  memory = k.memory;
  small = k.small;
  last = k.last;
}
  where
    go : (i : ℕ) (b : Bool) → (i == c) ≡ b → CoreSerial (h.world.cores i) (k.plain.cores i)
        → CoreSerial (if b then t else h.world.cores i) (k.plain.cores i)
    go i true q x = let j : i ≡ c = grind (arith, nat_tests) in same-serial (h.world.cores i) t (k.plain.cores i) (rw j e) x
    go i false q x = x

-- a commit

agrees-all : (b : Bus) (c : ℕ) (us : Uses) (ram : ℕ → ℕ) → (b ≡ Free) ⊎ (b ≡ Alone c) → AgreesBut (pending b c) us ram → Agrees us ram
agrees-all b c [] ram e k = tt
agrees-all b c (u ∷ us) ram e k = (k.0 (none-pending b c c u.0 e), agrees-all b c us ram e (k.1))

record Ready (sh : Shape) (p : Program) (w : BusWorld) (c : ℕ) (s : CoreState) : Type 0 where
  did : PlainDid sh p s w.ram
  ended : HasEnded s.ended
  cache : IsCache sh s.cache
  saved : s.saved ≡ (w.cores c).saved
  runs : has_halted (w.cores c).phase ≡ false

committed : (sh : Shape) (p : Program) (entries : ℕ → Local) (first : ℕ → ℕ) (h : BusHistory) (c : ℕ) (s : CoreState) → c < sh.cores
    → Plainly sh p entries first h → Ready sh p h.world c s → Plainly sh p entries first (stepped_to h (bus_commit sh h.world c s))
unfolding bus_commit closed
committed sh p entries first h c s l k r = record {
  plain = closed k.plain c d.attempt d.end;
  commits = rw (out-noted sh c h.world.next s)
      (commits-push sh p entries first h.world.ram h.commits k.plain c h.world.next s k.commits k.last d);
  cores = λ i j. go i (i == c) refl (k.cores i j);
  memory = λ i x. (words x) i;
  small = λ x. subst (λ y. y < 2 ^ 32) (words x) (d.reaches.small x);
  last = rw (out-noted sh c h.world.next s) (rw (last-push h.commits h.world.next c s) (omega arith));
}
  where
    d : Transacted sh p k.plain c s h.world.ram
    d = transacts sh p k.plain c s h.world.ram (record {
      local = (k.cores c l).local ∙ sym r.saved;
      runs = (k.cores c l).ended ∙ end-runs (h.world.cores c).phase (h.world.cores c).ended r.runs;
      memory = k.memory;
    }) r.did r.ended

    words : (x : ℕ) → d.attempt.ram x ≡ with_words (written_words s) h.world.ram x
    words x = d.reaches.words x ∙ sym (seen-written sh s h.world.ram r.cache x)

    t : CoreState
    t = all_clean (commit_out sh c h.world.next s).core

    own : CoreSerial t (record { local = d.attempt.local; ended = d.end; console = (k.plain.cores c).console ++ d.attempt.console })
    own = record {
      local = d.reaches.local ∙ sym (out-checked sh c h.world.next s).saved;
      ended = rw (out-phase sh c h.world.next s, (out-checked sh c h.world.next s).ended)
          (end-is s.ended d.end (rw d.reaches.outcome at d.ends));
    }

    go : (i : ℕ) (b : Bool) → (i == c) ≡ b → CoreSerial (h.world.cores i) (k.plain.cores i)
        → CoreSerial (if b then t else h.world.cores i) (if b then record {
          local = d.attempt.local;
          ended = d.end;
          console = (k.plain.cores c).console ++ d.attempt.console;
        } else k.plain.cores i)
    go i true q x = own
    go i false q x = x

-- a transaction that ended

await-ready : (sh : Shape) (n : ℕ) (p : Program) (w : BusWorld) (c : ℕ) → (w.bus ≡ Free) ⊎ (w.bus ≡ Alone c)
    → (w.cores c).phase ≡ AwaitTid → IsSmall w.ram → Fine sh (in_memory sh) n (w.cores c) → Follow sh p w.ram (pending w.bus c) (w.cores c)
    → Ready sh p w c (w.cores c)
await-ready sh n p w c b q m f h =
    let s = w.cores c in record {
      did = in-to sh p s h.uses s.phase (rw q refl) h.fits.follows.steps w.ram m (agrees-all w.bus c h.uses w.ram b h.agrees);
      ended = (rw q at h.fits.follows.ends);
      cache = f.sound.cache;
      saved = refl;
      runs = rw q refl;
    }

finished-saved : (p : Program) (need : Need) (s : CoreState) → (finished p need 0 s).saved ≡ s.saved
unfolding finished Rattle.rules_tcc.specs.Attempt.one_more_instruction
finished-saved p Nothing s = refl
finished-saved p _ s = refl

finished-ended : (p : Program) (need : Need) (s : CoreState) → goes need ≡ false → HasEnded (finished p need 0 s).ended
unfolding finished
finished-ended p Ends s e = refl
finished-ended p (Halts code) s e = refl
finished-ended p (Traps code) s e = refl
finished-ended p need s e = absurd (cc)

ends-claim : (sh : Shape) (p : Program) (s : CoreState) (us : Uses) (need : Need) → goes need ≡ false → NeedFits need
    → p.need s.local ≡ need → s.ended ≡ Goes → Claim sh p s us → Claim sh p (finished p need 0 s) (us ++ [])
ends-claim sh p s us Ends g f e o k =
    finished-claims sh p s us [] s.cache s.spilled Ends 0 f e o k (λ ram a. tt) (λ ram a v. refl)
ends-claim sh p s us (Halts code) g f e o k =
    finished-claims sh p s us [] s.cache s.spilled (Halts code) 0 f e o k (λ ram a. tt) (λ ram a v. refl)
ends-claim sh p s us (Traps code) g f e o k =
    finished-claims sh p s us [] s.cache s.spilled (Traps code) 0 f e o k (λ ram a. tt) (λ ram a v. refl)
ends-claim sh p s us need g f e o k = absurd (cc)

alone-ready : (sh : Shape) (n : ℕ) (p : Program) (w : BusWorld) (c t : ℕ) (need : Need) → Fits p → (w.bus ≡ Free) ⊎ (w.bus ≡ Alone c)
    → (w.cores c).phase ≡ Solo t → p.need (w.cores c).local ≡ need → goes need ≡ false → IsSmall w.ram
    → Fine sh (in_memory sh) n (w.cores c)
    → Follow sh p w.ram (pending w.bus c) (w.cores c) → Ready sh p w c (finished p need 0 (w.cores c))
alone-ready sh n p w c t need f b q e g m k h =
    let s = w.cores c in
    let claim = in-to sh p s h.uses s.phase (rw q refl) h.fits.follows.steps in
    let now = ends-claim sh p s h.uses need g (rw e at (f s.local)) e (rw q at h.fits.follows.ends) claim in
    let agrees : Agrees (h.uses ++ []) w.ram = rw append-nil (agrees-all w.bus c h.uses w.ram b h.agrees) in record {
      did = now w.ram m agrees;
      ended = finished-ended p need s g;
      cache = (finished-fine sh (in_memory sh) n p need 0 s k).sound.cache;
      saved = finished-saved p need s;
      runs = rw q refl;
    }

-- each event

happened-plainly : (sh : Shape) (p : Program) (entries : ℕ → Local) (first : ℕ → ℕ) (n : ℕ) (h : BusHistory) (r : BusStepped)
    → Suits sh p first → Ordered sh (in_memory sh) n h.world → Followed sh p h.world → Happened sh p h.world r
    → Plainly sh p entries first h
    → Plainly sh p entries first (stepped_to h r)
happened-plainly sh p entries first n h r z o f (Instructs c t l x d q e) k =
    let w = h.world in
    let a = if-at (instruction sh p w.ram c (w.cores c)) t (Left sh (in_memory sh) n (w.cores c)) d
    (instruction-left sh (in_memory sh) n p w.ram c (w.cores c) (stays-in sh p z.inside (w.cores c).local) (o.cores c l) x) in
    rw e (changed sh p entries first h c t.core w.bus k (instruction-same p (w.cores c) t.core x a.saved a.ways))
happened-plainly sh p entries first n h r z o f (TakesBus c t l x d q b e) k =
    let w = h.world in
    let a = if-at (instruction sh p w.ram c (w.cores c)) t (Left sh (in_memory sh) n (w.cores c)) d
    (instruction-left sh (in_memory sh) n p w.ram c (w.cores c) (stays-in sh p z.inside (w.cores c).local) (o.cores c l) x) in
    rw e (changed sh p entries first h c (gone_alone w.next t.core) (Alone c) k (alone-same p (w.cores c) t.core w.next x a.saved))
happened-plainly sh p entries first n h r z o f (EndsAlone c t need l q i g e) k =
    rw e (committed sh p entries first h c (finished p need 0 (h.world.cores c)) l k
    (alone-ready sh n p h.world c t need z.fits (inr (alone-free sh n h.world c t l o q)) q i g k.small (o.cores c l) (f c l)))
happened-plainly sh p entries first n h r z o f (Commits c l q b e) k =
    rw e (committed sh p entries first h c (h.world.cores c) l k
    (await-ready sh n p h.world c (inl b) q k.small (o.cores c l) (f c l)))
happened-plainly sh p entries first n h r z o f (Evicts c x y t l d e) k =
    let w = h.world in
    let a = if-at (core_evict sh x y (w.cores c)) t (λ u. Same (w.cores c) u.core) d (evict-same sh x y (w.cores c)) in
    rw e (changed sh p entries first h c t.core w.bus k a)
happened-plainly sh p entries first n h r z o f (Takes c g left l b i e) k =
    rw e (changed sh p entries first h c (packet_taken sh g (h.world.cores c)) _ k (taken-same sh n g (h.world.cores c) (o.cores c l)))

-- all of it

pub record Kept (sh : Shape) (p : Program) (entries : ℕ → Local) (first : ℕ → ℕ) (n : ℕ) (h : BusHistory) : Type 0 where
  pub order : InOrder sh (in_memory sh) n h
  pub cores : Followed sh p h.world
  pub plainly : Plainly sh p entries first h

events-keep : (sh : Shape) (p : Program) (entries : ℕ → Local) (first : ℕ → ℕ) → Suits sh p first
    → EventsKeep sh p (Kept sh p entries first)
events-keep sh p entries first z n h r d k = record {
  order = events-in-order sh (in_memory sh) p (stays-in sh p z.inside) n h r d k.order;
  cores = happened-followed sh p n h.world r z.fits (stays-in sh p z.inside) k.order.world k.cores d;
  plainly = happened-plainly sh p entries first n h r z k.order.world k.cores d k.plainly;
}

start-followed : (sh : Shape) (p : Program) (entries : ℕ → Local) (ram : ℕ → ℕ) → Followed sh p (bus_start entries ram)
unfolding bus_start core_start Rattle.rules_maps.specs.Cache.empty_cache
start-followed sh p entries ram c l = record {
  uses = [];
  fits = record {
    follows = start-follows sh p (entries c);
    marks = record {
      stand = tt;
      used = none-used (core_start (entries c)).cache (λ v. refl);
      awaits = λ e. refl;
      owes = λ d e. absurd (cc);
    };
  };
  coherent = λ v g m x e. absurd (cc);
  agrees = tt;
}

start-plainly : (sh : Shape) (p : Program) (entries : ℕ → Local) (ram : ℕ → ℕ) → IsSmall ram
    → Plainly sh p entries ram (record { world = bus_start entries ram; commits = [] })
unfolding bus_start core_start plain_start serial
start-plainly sh p entries ram m = record {
  plain = plain_start entries ram;
  commits = refl;
  cores = λ c l. record { local = refl; ended = refl };
  memory = refl;
  small = m;
  last = omega arith;
}

pub runs-kept : (sh : Shape) (p : Program) (entries : ℕ → Local) (ram : ℕ → ℕ) (es : List BusEvent) → Suits sh p ram
    → IfSome (bus_run sh p (bus_start entries ram) es) (Kept sh p entries ram (length es))
runs-kept sh p entries ram es z =
    run-keeps sh p (Kept sh p entries ram) (bus_start entries ram) es (events-keep sh p entries ram z) (record {
      order = start-in-order sh (in_memory sh) entries ram;
      cores = start-followed sh p entries ram;
      plainly = start-plainly sh p entries ram z.small;
    })

pub is-serial : (sh : Shape) (p : Program) (entries : ℕ → Local) (ram : ℕ → ℕ) (n : ℕ) (h : BusHistory) → Kept sh p entries ram n h
    → BusIsSerial sh p entries ram h
is-serial sh p entries ram n h k = record {
  plain = k.plainly.plain;
  commits = k.plainly.commits;
  cores = k.plainly.cores;
  memory = λ x. sym (ap (λ (f : ℕ → ℕ). f x) k.plainly.memory);
  tids = k.order.commits.tids;
}

pub bus_runs_are_serial : BusRunsAreSerial
bus_runs_are_serial sh p entries ram es z = go (bus_run sh p (bus_start entries ram) es) (runs-kept sh p entries ram es z)
  where
    go : (o : Option BusHistory) → IfSome o (Kept sh p entries ram (length es)) → IfSome o (BusIsSerial sh p entries ram)
    go None k = tt
    go (Some h) k = is-serial sh p entries ram (length es) h k
