-- A core's event keeps what the core holds in bounds, and sends what its links carry.
use Rattle.std.specs.Prelude.{ℕ, ◌+◌, ◌≡◌, ◌<◌, ◌≤◌, ◌==◌, ◌||◌, Bool, true, false, Option, Some, None, IfSome, is_some}
use Rattle.std.proofs.Common.{arith, refl, sym, ◌∙◌}
use Rattle.std.proofs.lemmas.Bool.Decides.{nat_tests}
use Rattle.rules_program.specs.Program.{Program}
use Rattle.rules_maps.specs.Nodes.{Node, Core, Dir, Vendor, Msg, TidGrant, LoadReq, Fill, Mark, DataReq, Inv, InvAck}
use Rattle.rules_maps.specs.Shape.{Shape, lines}
use Rattle.rules_maps.specs.Words.{num}
use Rattle.rules_tcc.specs.Attempt.{Out}
use Rattle.rules_tcc.specs.CoreDeliver.{core_deliver, grant, from_dir}
use Rattle.rules_tcc.specs.CoreEvict.{core_evict}
use Rattle.rules_tcc.specs.CoreExec.{core_exec}
use Rattle.rules_tcc.specs.State.{CoreState, Awaited}
use Rattle.theorem_serial.specs.InMemory.{StaysInMemory}
use Rattle.theorem_serial.specs.OneCore.{OneCore}
use Rattle.theorem_serial.specs.Tids.{has_tid}
use Rattle.theorem_serial.proofs.Lemmas.{HomelyOut, homes-exec, homes-evict, homes-grant, homes-back, CoreInMemory, OutInMemory}
use Rattle.theorem_serial.proofs.Lemmas.{exec-memory}
use Rattle.theorem_serial.proofs.Lemmas.{KeepsHolder, no_grant, noted_tid, holder-exec, holder-evict, holder-grant, holder-back}
use Rattle.theorem_serial.proofs.Lemmas.{evict-memory}
use Rattle.theorem_serial.proofs.Lemmas.{grant-memory, back-memory, SendsInMemory, exec-sends, evict-sends, grant-sent, back-sends}
use Rattle.theorem_serial.proofs.Lemmas.{exec_one}
use Rattle.theorem_serial.proofs.Lemmas.{evict_one, grant_one, back_one}
use Rattle.theorem_live.proofs.Lemmas.{Fit, fit-exec, fit-evict, fit-grant, fit-back}
use Rattle.theorem_bounds.specs.Bounds.{AttemptCounted, most_sent}
use Rattle.rules_maps.specs.Messages.{IsLine, line_named}
use Rattle.theorem_bounds.proofs.Lemmas.{CoreKeeps, exec-keeps, evict-keeps, grant-keeps, back-keeps}
use Rattle.theorem_bounds.proofs.Lemmas.{fits_back, kept_in_frames as frames}
use Rattle.theorem_bounds.proofs.Lemmas.{is_inside, below}
use Rattle.rules_apart.specs.Carried.{IsCarried}
use Rattle.theorem_apart.specs.Apart.{CoreApart, EachCarried}
use Rattle.theorem_apart.proofs.sends.Carries.{core-carries}
use Rattle.theorem_apart.proofs.sends.Timely.{AllTimely, HasTids, IsTid, exec-timely, evict-timely, grant-timely, back-timely}

-- what is apart, from its parts

pub core-apart : (sh : Shape) (n c : ℕ) (s : CoreState) → c < sh.cores → AttemptCounted n s → HasTids s → OneCore sh s → CoreInMemory sh s
    → CoreApart sh n c s
core-apart sh n c s l k h o m = record {
  exists = l;
  bounds = record {
    attempt = k;
    tid = h;
    cache = frames sh s.cache o.words.cache m.frames;
    spilled = λ x e. m.accesses.stored x (sym (o.words.named x) ∙ also (s.cache.modified x) (is_some (s.spilled x)) e);
    awaited = awaits s.awaited refl;
  };
  alone = o;
  accesses = m.accesses;
}
  where
    also : (a b : Bool) → b ≡ true → (a || b) ≡ true
    also true b e = refl
    also false b e = e

    awaits : (a : Option Awaited) → s.awaited ≡ a → IfSome a (λ a. a.line < lines sh)
    awaits None e = tt
    awaits (Some a) e = m.frames a.line ((o.awaited a e).1)

memory-of : (sh : Shape) (n c : ℕ) (s : CoreState) → CoreApart sh n c s → CoreInMemory sh s
memory-of sh n c s k = record { frames = k.bounds.cache.held; accesses = k.accesses }

-- a core has no TIDs but those that it had, and the one that it is granted
held-after : (c : ℕ) (got : ℕ → ℕ) (s : CoreState) (o : Out) → ((t : ℕ) → 1 ≤ got t → IsTid t) → HasTids s → KeepsHolder c got s o
    → HasTids o.core
held-after c got s o g h k t e = go (has_tid s.phase t) refl (one (has_tid o.core.phase t) e (noted_tid t o.commit) (k.holds t))
  where
    one : (b : Bool) → b ≡ true → (x : ℕ) → num b + x ≤ got t + num (has_tid s.phase t) → 1 ≤ got t + num (has_tid s.phase t)
    one true e x i = omega (arith, i)
    one false e x i = absurd (cc)

    go : (b : Bool) → has_tid s.phase t ≡ b → 1 ≤ got t + num b → IsTid t
    go true q i = h t q
    go false q i = g t (omega (arith, i))

-- what an event leaves of a core and sends from it
pub record CoreActs (sh : Shape) (n c : ℕ) (o : Out) : Type 0 where
  pub apart : CoreApart sh (n + 1) c o.core
  pub sends : EachCarried sh (Core c) o.sends

gathers : (sh : Shape) (n c : ℕ) (x : Option Out) → c < sh.cores → IfSome x (CoreKeeps sh (most_sent sh) n) → IfSome x (λ o. HasTids o.core)
    → IfSome x (λ o. OneCore sh o.core) → IfSome x (OutInMemory sh) → IfSome x (Fit sh c) → IfSome x (λ o. HomelyOut sh o.sends)
    → IfSome x (λ o. SendsInMemory sh o.sends) → IfSome x (λ o. AllTimely o.sends) → IfSome x (CoreActs sh n c)
gathers sh n c None l k h o m f a w t = tt
gathers sh n c (Some r) l k h o m f a w t = record {
  apart = core-apart sh (n + 1) c r.core l k.attempt h o (m.0);
  sends = core-carries sh c r.sends f k.sends a w t;
}

-- no TID is granted by these
none-granted : (c : ℕ) (s : CoreState) (x : Option Out) → HasTids s → IfSome x (KeepsHolder c no_grant s) → IfSome x (λ o. HasTids o.core)
none-granted c s None h k = tt
none-granted c s (Some o) h k = held-after c no_grant s o (λ t i. absurd (omega (arith, i))) h k

-- its events

pub exec-acts : (sh : Shape) (p : Program) (n c : ℕ) (s : CoreState) → 1 ≤ sh.dirs → StaysInMemory sh p → CoreApart sh n c s
    → IfSome (core_exec sh p c s) (CoreActs sh n c)
exec-acts sh p n c s d i k = gathers sh n c (core_exec sh p c s) k.exists (exec-keeps sh n p c s (i s.local) k.bounds.attempt)
    (none-granted c s (core_exec sh p c s) k.bounds.tid (holder-exec sh p c s)) (exec_one sh p c s k.alone)
    (exec-memory sh p c s i (memory-of sh n c s k)) (fit-exec sh p c s (record { core = k.exists; dirs = d })) (homes-exec sh p c s)
    (exec-sends sh p c s k.alone.words.cache k.bounds.cache.held) (exec-timely sh p c s k.bounds.tid)

pub evict-acts : (sh : Shape) (n c x y : ℕ) (s : CoreState) → 1 ≤ sh.dirs → CoreApart sh n c s
    → IfSome (core_evict sh x y s) (CoreActs sh n c)
evict-acts sh n c x y s d k = gathers sh n c (core_evict sh x y s) k.exists (evict-keeps sh n x y s k.bounds.attempt)
    (none-granted c s (core_evict sh x y s) k.bounds.tid (holder-evict sh x y c s)) (evict_one sh x y s k.alone)
    (evict-memory sh x y s (memory-of sh n c s k)) (fit-evict sh c x y s (record { core = k.exists; dirs = d })) (homes-evict sh x y s)
    (evict-sends sh x y s k.alone.words.cache k.bounds.cache.held) (evict-timely sh x y s)

grant-acts : (sh : Shape) (n c t : ℕ) (s : CoreState) → 1 ≤ sh.dirs → IsTid t → CoreApart sh n c s → CoreActs sh n c (grant sh t s)
grant-acts sh n c t s d g k = gathers sh n c (Some (grant sh t s)) k.exists (grant-keeps sh n t s k.bounds.attempt)
    (held-after c (λ u. num (t == u)) s (grant sh t s) given k.bounds.tid (holder-grant sh t c s)) (grant_one sh t s k.alone)
    (grant-memory sh t s (memory-of sh n c s k)) (fit-grant sh c t s (record { core = k.exists; dirs = d })) (homes-grant sh t s)
    (grant-sent sh t s) (grant-timely sh t s g)
  where
    same : (u : ℕ) (b : Bool) → (t == u) ≡ b → 1 ≤ num b → IsTid u
    same u true e i = let q : t ≡ u = grind (arith, nat_tests) in rw q at g
    same u false e i = absurd (omega (arith, i))

    given : (u : ℕ) → 1 ≤ num (t == u) → IsTid u
    given u i = same u (t == u) refl i

line-inside : (sh : Shape) (d c : ℕ) (m : Msg) → IfSome (line_named m) (IsLine sh (Dir d) (Core c)) → is_inside sh m ≡ true
unfolding is_inside
line-inside sh d c (LoadReq l a) h = below sh l (h.0)
line-inside sh d c (Fill l ws) h = below sh l (h.0)
line-inside sh d c (Mark l m t) h = below sh l (h.0)
line-inside sh d c (DataReq l) h = below sh l (h.0)
line-inside sh d c (Inv l m t) h = below sh l (h.0)
line-inside sh d c (InvAck l b) h = below sh l (h.0)
line-inside sh d c _ h = refl

back-acts : (sh : Shape) (n c d : ℕ) (s : CoreState) (m : Msg) → d < sh.dirs → IsCarried sh (Dir d) (Core c) m → CoreApart sh n c s
    → IfSome (from_dir sh d s m) (CoreActs sh n c)
back-acts sh n c d s m l b k = gathers sh n c (from_dir sh d s m) k.exists
    (back-keeps sh n d s m (line-inside sh d c m b.line) k.bounds.attempt)
    (none-granted c s (from_dir sh d s m) k.bounds.tid (holder-back sh d c s m)) (back_one sh d s m k.alone)
    (back-memory sh d s m (memory-of sh n c s k)) (fit-back sh c d s m (record { core = k.exists; dirs = omega (arith, l) }) l)
    (homes-back sh d s m) (back-sends sh d s m k.alone.words.cache k.bounds.cache.held) (back-timely sh d s m k.bounds.tid)

pub takes-acts : (sh : Shape) (n c : ℕ) (src : Node) (s : CoreState) (m : Msg) → 1 ≤ sh.dirs → IsCarried sh src (Core c) m
    → CoreApart sh n c s → IfSome (core_deliver sh s src m) (CoreActs sh n c)
unfolding core_deliver
takes-acts sh n c (Dir d) s m i b k = back-acts sh n c d s m (fits_back sh c d m b.fits).dir b k
takes-acts sh n c (Core e) s m i b k = tt
takes-acts sh n c Vendor s (TidGrant t) i b k = grant-acts sh n c t s i b.tid k
takes-acts sh n c Vendor s _ i b k = tt
