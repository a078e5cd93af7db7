-- Each TID of which a core speaks is one that it has, or that it is granted just now.
use Rattle.std.specs.Prelude.{ℕ, ◌^◌, ◌≡◌, ◌==◌, ◌&&◌, ◌||◌, not, Bool, true, false, List, [], ◌∷◌, ◌++◌, Option, Some, None, IfSome}
use Rattle.std.specs.Prelude.{nat_lt, if◌then◌else◌}
use Rattle.std.specs.List.{flat_map}
use Rattle.std.proofs.Common.{arith, inl, inr}
use Rattle.base_lemmas.proofs.Lemmas.{eq-self}
use Rattle.rules_program.specs.Program.{Program}
use Rattle.rules_maps.specs.Cache.{Cache, modified_mask, is_modified, written_lines, writes_at, reads_at}
use Rattle.rules_maps.specs.Nodes.{Dir, Msg, LoadReq, Fill, Skip, Probe, ProbeReply, Mark, Commit, Abort, WriteBack, Flush, DataReq, Inv}
use Rattle.rules_maps.specs.Nodes.{InvAck}
use Rattle.rules_maps.specs.Shape.{Shape, home, lines}
use Rattle.rules_maps.specs.Spilled.{Spilled, holds, spilled_mask, spilled_words}
use Rattle.rules_maps.specs.Words.{num, those, count_below}
use Rattle.rules_tcc.specs.Attempt.{Out}
use Rattle.rules_tcc.specs.Commit.{commit, commit_sends, is_written, written_mask, solo_commit, solo_marks_or_skip, solo_write_backs}
use Rattle.rules_tcc.specs.Commit.{solo_sends}
use Rattle.rules_tcc.specs.Commit.{solo_writes_at}
use Rattle.rules_tcc.specs.CoreDeliver.{grant, grant_in_phase, grant_sends, from_dir, probe_reply, fill, data_request, invalidate}
use Rattle.rules_tcc.specs.CoreEvict.{core_evict}
use Rattle.rules_tcc.specs.CoreExec.{core_exec}
use Rattle.rules_tcc.specs.Sends.{Sends, nothing, to, when, skip_all, probe_all, abort_written, marks_for}
use Rattle.rules_tcc.specs.State.{CoreState, Phase, AwaitTid, DoomedTid, Overflowing}
use Rattle.theorem_serial.specs.Count.{Protocol, among, passes}
use Rattle.theorem_serial.specs.Tids.{has_tid}
use Rattle.theorem_serial.proofs.Lemmas.{evict-steady, fill-steady, data-steady, Hurt, Unhurt, Rolled, Doomed, Aborted, Gave_up}
use Rattle.theorem_serial.proofs.Lemmas.{Invalidated}
use Rattle.theorem_serial.proofs.Lemmas.{invalidate-cases, Replied, Ignored, Probed, Left_alone, reply-cases, Steady, did-steady}
use Rattle.theorem_serial.proofs.Lemmas.{Did, each-exec, out}
use Rattle.theorem_serial.proofs.Lemmas.{Room_wanted, Ends_run, Ends_alone, Commits_now}
use Rattle.rules_maps.specs.Messages.{WasGranted, tid_named}
use Rattle.theorem_apart.proofs.sends.Each.{Each, each-none, each-one, each-append, each-when, each-flat}

-- a TID that can be given
abbrev pub IsTid : ℕ → Type 0
IsTid t = WasGranted (2 ^ 62) t

-- a TID of which the message speaks is one
abbrev pub Timely : Msg → Type 0
Timely m = IfSome (tid_named m) IsTid

-- so it is of all that goes to directories
abbrev pub AllTimely : Sends → Type 0
AllTimely sends = (d : ℕ) → Each Timely (sends (Dir d))

-- a core has no other TID
abbrev pub HasTids : CoreState → Type 0
HasTids s = (t : ℕ) → has_tid s.phase t ≡ true → IsTid t

-- messages about lines speak of none

one-quiet : (m : Msg) → num (passes Protocol m) ≡ 0 → Timely m
unfolding passes
one-quiet (LoadReq l a) z = tt
one-quiet (Fill l ws) z = tt
one-quiet (DataReq l) z = tt
one-quiet (WriteBack l m ws t) z = tt
one-quiet (Flush l m ws t) z = tt
one-quiet m z = absurd (omega (arith, z))

quiet : (ms : List Msg) → among Protocol ms ≡ 0 → Each Timely ms
unfolding among Each
quiet [] z = tt
quiet (m ∷ ms) z = (one-quiet m (omega (arith, z)), quiet ms (omega (arith, z)))

steady : (s : CoreState) (o : Out) → Steady s o → AllTimely o.sends
steady s o y d = quiet (o.sends (Dir d)) (y.quiet d)

nowhere : AllTimely nothing
nowhere d = each-none Timely

-- to the directories that the machine has
each-dir : (sh : Shape) (d : ℕ) (ms : List Msg) → Each Timely ms → Each Timely (if nat_lt d sh.dirs then ms else [])
each-dir sh d ms h = go (nat_lt d sh.dirs)
  where
    go : (b : Bool) → Each Timely (if b then ms else [])
    go true = h
    go false = each-none Timely

to-dir : (e : ℕ) (ms : List Msg) → Each Timely ms → AllTimely (to (Dir e) ms)
to-dir e ms h d = go (d == e)
  where
    go : (b : Bool) → Each Timely (if b then ms else [])
    go true = h
    go false = each-none Timely

-- what speaks of one TID

skips : (sh : Shape) (t : ℕ) → IsTid t → AllTimely (skip_all sh t)
unfolding skip_all
skips sh t g d = each-dir sh d (Skip t ∷ []) (each-one Timely (Skip t) g)

probes : (sh : Shape) (t : ℕ) → IsTid t → AllTimely (probe_all sh t)
unfolding probe_all
probes sh t g d = each-dir sh d (Probe t ∷ []) (each-one Timely (Probe t) g)

aborts : (sh : Shape) (c : Cache) (t : ℕ) → IsTid t → AllTimely (abort_written sh c t)
unfolding abort_written
aborts sh c t g d = each-dir sh d (when (writes_at sh c d) (Abort t ∷ [])) (each-when Timely (writes_at sh c d) (Abort t) g)

grants : (sh : Shape) (c : Cache) (t : ℕ) → IsTid t → AllTimely (grant_sends sh c t)
unfolding grant_sends
grants sh c t g d = each-dir sh d _ (each-append Timely _ _ (each-when Timely (not (writes_at sh c d)) (Skip t) g)
    (each-when Timely (writes_at sh c d || reads_at sh c d) (Probe t) g))

commits : (sh : Shape) (c : Cache) (t : ℕ) → IsTid t → AllTimely (commit_sends sh c t)
unfolding commit_sends
commits sh c t g d = each-dir sh d _ (each-when Timely (writes_at sh c d)
    (Commit t (count_below (λ l. d == home sh l && is_modified c l) (lines sh))) g)

marks : (sh : Shape) (c : Cache) (t e : ℕ) → IsTid t → Each Timely (marks_for sh c t e)
unfolding marks_for
marks sh c t e g = each-flat Timely (λ l. Mark l (modified_mask c l) t) (written_lines sh c e) (λ l. g)

solos : (sh : Shape) (c : Cache) (sp : Spilled) (t : ℕ) → IsTid t → AllTimely (solo_sends sh c sp t)
unfolding solo_sends solo_marks_or_skip solo_write_backs
solos sh c sp t g d = each-dir sh d _ (each-append Timely _ _ (first (solo_writes_at sh c sp d)) back)
  where
    back : Each Timely (solo_write_backs sh sp t d)
    back = each-flat Timely (λ l. WriteBack l (spilled_mask sp l) (spilled_words sp l) t)
        (those (λ l. d == home sh l && holds sp l) (lines sh)) (λ l. tt)

    marked : List Msg
    marked = flat_map (λ l. Mark l (written_mask c sp l) t ∷ []) (those (λ l. d == home sh l && is_written c sp l) (lines sh))

    done : Msg
    done = Commit t (count_below (λ l. d == home sh l && is_written c sp l) (lines sh))

    first : (b : Bool) → Each Timely (if b then marked ++ done ∷ [] else Skip t ∷ [])
    first true = each-append Timely marked (done ∷ []) (each-flat Timely (λ l. Mark l (written_mask c sp l) t) _ (λ l. g))
        (each-one Timely done g)
    first false = each-one Timely (Skip t) g

-- a core's events

pub exec-timely : (sh : Shape) (p : Program) (c : ℕ) (s : CoreState) → HasTids s → IfSome (core_exec sh p c s) (λ o. AllTimely o.sends)
unfolding commit solo_commit has_tid
exec-timely sh p c s h = each-exec sh p c s (λ o. AllTimely o.sends) go
  where
    go : (x : Did sh p c s) → AllTimely (out x).sends
    go (Commits_now t e) = commits sh s.cache t (h t (rw e (eq-self t)))
    go (Room_wanted r i) = λ d. each-none Timely
    go (Ends_run l e f r i) = λ d. each-none Timely
    go (Ends_alone t l e f r i) = λ d. solos sh s.cache s.spilled t (h t (rw r (eq-self t))) d
    go x = steady s (out x) (did-steady x)

pub evict-timely : (sh : Shape) (x y : ℕ) (s : CoreState) → IfSome (core_evict sh x y s) (λ o. AllTimely o.sends)
evict-timely sh x y s = go (core_evict sh x y s) (evict-steady sh x y s)
  where
    go : (a : Option Out) → IfSome a (λ o. Steady s o) → IfSome a (λ o. AllTimely o.sends)
    go None h = tt
    go (Some o) h = steady s o h

pub grant-timely : (sh : Shape) (t : ℕ) (s : CoreState) → IsTid t → AllTimely (grant sh t s).sends
unfolding grant
grant-timely sh t s g = go s.phase
  where
    go : (q : Phase) → AllTimely (grant_in_phase sh t s q).sends
    go AwaitTid = grants sh s.cache t g
    go DoomedTid = skips sh t g
    go (Overflowing None) = probes sh t g
    go _ = nowhere

replied : (sh : Shape) (e u : ℕ) (s : CoreState) (o : Out) → HasTids s → Replied sh e u s o → AllTimely o.sends
unfolding has_tid
replied sh e u s o h (Ignored q n) = rw q nowhere
replied sh e u s o h (Probed g f ph ow ca se cm) =
    rw se (to-dir e (marks_for sh s.cache u e) (marks sh s.cache u e (h u (rw g (eq-self u)))))
replied sh e u s o h (Left_alone g f ph ow mo se cm) = rw se nowhere

invalidated : (sh : Shape) (l : ℕ) (s : CoreState) (o : Out) → HasTids s → Invalidated sh l s o → AllTimely o.sends
unfolding has_tid
invalidated sh l s o h i d = rw (i.dirs d) (each-append Timely _ _ (go i.hurt)
    (to-dir (home sh l) (InvAck l i.kept ∷ []) (each-one Timely (InvAck l i.kept) tt) d))
  where
    go : Hurt sh s o.core i.sends → Each Timely (i.sends (Dir d))
    go (Unhurt ph ow mo re se) = rw (se (Dir d)) (each-none Timely)
    go (Rolled ph ph' ow se) = rw (se (Dir d)) (each-none Timely)
    go (Doomed ph ph' ow se) = rw (se (Dir d)) (each-none Timely)
    go (Aborted t (inl q) ph' ow se) = rw se (aborts sh s.cache t (h t (rw q (eq-self t))) d)
    go (Aborted t (inr q) ph' ow se) = rw se (aborts sh s.cache t (h t (rw q (eq-self t))) d)
    go (Gave_up t (inl q) ph' ow se) = rw se (skips sh t (h t (rw q (eq-self t))) d)
    go (Gave_up t (inr q) ph' ow se) = rw se (skips sh t (h t (rw q (eq-self t))) d)

pub back-timely : (sh : Shape) (e : ℕ) (s : CoreState) (m : Msg) → HasTids s → IfSome (from_dir sh e s m) (λ o. AllTimely o.sends)
back-timely sh e s (ProbeReply u v) h = replied sh e u s (probe_reply sh e u s) h (reply-cases sh e u s)
back-timely sh e s (Fill l ws) h = steady s (fill l ws s) (fill-steady l ws s)
back-timely sh e s (DataReq l) h = steady s (data_request sh l s) (data-steady sh l s)
back-timely sh e s (Inv l m u) h = invalidated sh l s (invalidate sh l m u s) h (invalidate-cases sh l m u s)
back-timely sh e s _ h = tt
