-- What is carried along a run together, and the facts of the list that every run has.
use Rattle.theorem_serial.proofs
use proofs.Names
use Names.{got, if_recorded, if_some, ap, ℕ, List, [], ◌++◌, Option, Some, None, IfSome, Program, Local, Event, Shape, Stepped, step}
use Names.{History, and_noted, recorded, run_from, run, KeptHomes, KeptLineOwners, KeptLoading, KeptAfter, first_state, KeptAll, OneMark}
use Names.{Grant, granted_by, grants_from, ◌<◌, ◌≡◌, true, false, ◌∷◌, sym, append_assoc, append-nil, start, next_history, and_then}
use Names.{KeptTags, KeptGets, KeptSharers, KeptRun, then_grants, Ways, ways_after, sent_by, then_ways, ways_from, first_ways, ◌+◌, ◌≤◌}
use Names.{◌==◌, ◌&&◌, Bool, Contains, nat_le, arith, refl, num, home, Cache, IsCache, has_mark, CoreState, Halted, World, IsApart}
use Names.{PhaseFits, Grants, Marks, MarkOf, Probes, Replies, live, Carried, RunsCarry, marks_of, marked_by, OneCore, Empty, times, holder}
use Names.{pair, share, CommitsStand, MarksWait, MarkedByServed, MarksOfCommits, UntoldWhereOpen, UntoldIsLive, AllWaysFit, GivenUpOnce}
use Names.{LiveIsOpen, CommittedWhereStored, SmallerAreGivenUp, WorkIsReached, ◌||◌, ◌∙◌, inl, inr, cases_lt, lines, Awaited, is_awaited}
use Names.{AttemptInMemory, LoadsInMemory, CopiesInMemory, CarriedInMemory, RunsStayInMemory, Uses, MarksFit, Views, no_views, views_from}
use Names.{attempts-fit, ReadFits, RunsCarryViews, nats, tid_at, IfSome_then, grant_to}
use proofs.Copies.{Before, start-lines, KeptLines, above-from, owned-from, step-lines, tag-step, tags-out, start-tags, new-commit}
use proofs.Copies.{on-its-way}
use proofs.Lines.GetsKept.{step-gets, start-gets, step-sharers, start-sharers}
use proofs.Lines.LineOwners.{step-line-owners, start-line-owners, step-loading, start-loading}
use proofs.Marks.AfterKept.{step-after, start-after}
use proofs.Marks.CountsKept.{step-one-mark, start-one-mark}
use proofs.Marks.NamedKept.{KeptUnacked, step-unacked, start-unacked}
use proofs.Marks.ReadsKept.{KeptReads, step-reads, start-reads, read-words}
use proofs.Memory.HomesKept.{step-homes, start-homes, KeptInMemory, run-memory}
use proofs.Run.AllInvariants.{step-all, run-all, one_probe_from, passed, owed_from, served_from}
use proofs.Serving.{KeptOwing, step-owing, start-owing, KeptProbed, step-probed, start-probed, commits_served}
use proofs.Ways.{ByCore, Speaks, step-speaks, step-run, start-run, told_from, smaller_are_given_up, work_is_reached, untold_where_open}
use proofs.Ways.{untold_is_live, all_ways_fit, given_up_once, live_is_open, committed_where_stored}
use proofs.Counts.{total-le}
use proofs.Marks.MaskLaws.{marked_by_served, marks_of_commits}

-- What is carried along every run together with all else.

pub record KeptMore (sh : Shape) (gs : List Grant) (h : History) : Type 0 where
  pub all : KeptAll sh gs h
  pub line_owners : KeptLineOwners gs h.world
  pub loading : KeptLoading sh h.world
  pub probed : KeptProbed gs h.world
  pub owing : KeptOwing sh h.world
  pub unacked : KeptUnacked sh gs h.world
  pub homes : KeptHomes sh h.world
  pub after : KeptAfter sh h.world h.commits
  pub one_mark : OneMark sh h.world
  pub reads : KeptReads sh h.world

step-more : (sh : Shape) (p : Program) (gs : List Grant) (h : History) (e : Event) → KeptMore sh gs h
    → IfSome (recorded h (step sh p h.world e)) (KeptMore sh (gs ++ granted_by h.world e))
step-more sh p gs h e k = if_recorded _ h (step sh p h.world e) (λ o eq.
    let a : KeptAll sh (gs ++ granted_by h.world e) (record { world = o.world; commits = and_noted o.noted h.commits }) =
    got _ (ap (recorded h) eq) (step-all p e k.all) in
    record {
      all = a;
      line_owners = got _ eq (step-line-owners sh p gs h.world e k.all.spared k.line_owners);
      loading = got _ eq (step-loading sh p h.world e k.loading);
      probed = got _ eq (step-probed p e k.all.kept k.all.owners k.probed);
      owing = got _ eq (step-owing sh p h.world e k.owing);
      unacked = got _ eq (step-unacked p e k.all.kept k.all.spared k.unacked) a.kept.told;
      homes = got _ eq (step-homes p e k.all.kept k.homes);
      after = got _ eq (step-after p e k.all.owners k.all.cores k.all.last k.loading k.after);
      one_mark = got _ eq (step-one-mark p e k.all.kept k.all.owners k.all.marks k.one_mark);
      reads = got _ eq (step-reads p e k.all.kept k.all.owners k.all.cores k.all.spared k.reads);
    })

-- what is carried holds where the run has no event
start-all : (sh : Shape) (p : Program) (entries : ℕ → Local) (ram : ℕ → ℕ) → KeptAll sh [] (first_state entries ram)
unfolding run run_from grants_from
start-all sh p entries ram = run-all sh p entries ram []

start-more : (sh : Shape) (p : Program) (entries : ℕ → Local) (ram : ℕ → ℕ) → KeptMore sh [] (first_state entries ram)
start-more sh p entries ram =
    record {
      all = start-all sh p entries ram;
      line_owners = start-line-owners entries ram;
      loading = start-loading sh entries ram;
      probed = start-probed entries ram;
      owing = start-owing entries ram;
      unacked = start-unacked sh entries ram;
      homes = start-homes entries ram;
      after = start-after sh entries ram;
      one_mark = start-one-mark sh entries ram;
      reads = start-reads sh entries ram;
    }

-- What is proved of lines and their copies, carried along every run together with all else.
pub record KeptCopies (sh : Shape) (gs : List Grant) (ys : Ways) (h : History) : Type 0 where
  pub told : KeptRun sh gs ys h
  pub more : KeptMore sh gs h
  pub tags : KeptTags sh h.world h.commits
  pub lines : KeptLines sh h.commits h.world
  pub gets : KeptGets sh h.world
  pub sharers : KeptSharers sh h.world h.commits

step-copies : (sh : Shape) (p : Program) (gs : List Grant) (ys : Ways) (h : History) (e : Event) → KeptCopies sh gs ys h
    → IfSome (recorded h (step sh p h.world e)) (λ g. KeptCopies sh (gs ++ granted_by h.world e) (ways_after (sent_by sh p h.world e) ys) g)
step-copies sh p gs ys h e k = if_recorded _ h (step sh p h.world e) (λ o eq.
    let a : KeptRun sh (gs ++ granted_by h.world e) (ways_after (sent_by sh p h.world e) ys) (after o) =
    got _ (ap (recorded h) eq) (step-run p e k.told) in
    let b : KeptMore sh (gs ++ granted_by h.world e) (after o) = got _ (ap (recorded h) eq) (step-more sh p gs h e k.more) in
    let speaks : ByCore sh h.world (Speaks sh h.world) (sent_by sh p h.world e) o =
    got _ eq (step-speaks p e k.told.all.kept.told.tids k.told.all.cores) in
    let lines : KeptLines sh (and_noted o.noted h.commits) o.world = got _ eq (step-lines sh p gs ys h e before) in
    record {
      told = a;
      more = b;
      tags = tags-out sh gs ys h o k.told (on-its-way sh (gs ++ granted_by h.world e) (ways_after (sent_by sh p h.world e) ys) (after o) a)
          (new-commit k.told speaks) k.tags (got _ eq (tag-step sh p h.world e));
      lines = lines;
      gets = got _ eq (step-gets sh p h.world h.commits e k.gets) lines;
      sharers = got _ eq (step-sharers sh p gs ys h e before k.more.loading k.more.homes k.more.reads k.sharers) b.loading
          (new-commit k.told speaks);
    })
  where
    before : Before sh gs ys h
    before = record { told = k.told; owners = k.more.line_owners; tags = k.tags; lines = k.lines }

    after : Stepped → History
    after o = record { world = o.world; commits = and_noted o.noted h.commits }

run_from-copies : (sh : Shape) (p : Program) (es : List Event) (gs : List Grant) (ys : Ways) (h : History) → KeptCopies sh gs ys h
    → IfSome (run_from sh p es h) (KeptCopies sh (gs ++ grants_from sh p es h) (ways_from sh p es ys h))
unfolding run_from grants_from ways_from next_history
run_from-copies sh p [] gs ys h k = rw append-nil k
run_from-copies sh p (e ∷ es) gs ys h k = go (recorded h (step sh p h.world e)) (step-copies sh p gs ys h e k)
    (run_from-copies sh p es (gs ++ granted_by h.world e) x)
  where
    x : Ways
    x = ways_after (sent_by sh p h.world e) ys

    go : (a : Option History) → IfSome a (KeptCopies sh (gs ++ granted_by h.world e) x)
        → ((g : History) → KeptCopies sh (gs ++ granted_by h.world e) x g
        → IfSome (run_from sh p es g)
        (λ r. KeptCopies sh ((gs ++ granted_by h.world e) ++ grants_from sh p es g) (ways_from sh p es x g) r))
        → IfSome (and_then (run_from sh p es) a)
        (λ r. KeptCopies sh (gs ++ then_grants (granted_by h.world e) (grants_from sh p es) a) (then_ways ys (ways_from sh p es x) a) r)
    go None a f = tt
    go (Some g) a f = rw (sym (append_assoc gs (granted_by h.world e) (grants_from sh p es g))) (f g a)

run-copies : (sh : Shape) (p : Program) (entries : ℕ → Local) (ram : ℕ → ℕ) (es : List Event)
    → IfSome (run sh p (start entries ram) es)
    (λ r. KeptCopies sh (grants_from sh p es (first_state entries ram)) (ways_from sh p es first_ways (first_state entries ram)) r)
unfolding run
run-copies sh p entries ram es = run_from-copies sh p es [] first_ways (first_state entries ram) (record {
  told = start-run sh entries ram;
  more = start-more sh p entries ram;
  tags = start-tags sh entries ram;
  lines = start-lines sh entries ram;
  gets = start-gets sh entries ram;
  sharers = start-sharers sh entries ram;
})

-- The facts of the list that are proved of every run, from what is carried together along it.

-- one core
apart : {sh : Shape} {c : Cache} → IsCache sh c → IsApart c
apart k = record { modified = k.modified; dirty = k.dirty; either = k.either }

phase-fits : {sh : Shape} {s : CoreState} → OneCore sh s → PhaseFits s
phase-fits k = record { spilled = k.words.spilled_alone; unread = k.words.unread_alone; rested = k.rested }

halted : {sh : Shape} {s : CoreState} → OneCore sh s → s.phase ≡ Halted → Empty s × ((x : ℕ) → s.spilled x ≡ None)
halted k e = (k.rested (rw e), k.words.spilled_alone (rw e))

-- TIDs
holder-same : (w : World) (c d e t : ℕ) → holder t (pair w c d) ≡ holder t (pair w c e)
unfolding pair holder
holder-same w c d e t = refl

live-granted : {sh : Shape} {gs : List Grant} (h : History) → KeptAll sh gs h → (c d t : ℕ) → c < sh.cores → 1 ≤ holder t (pair h.world c d)
    → Contains gs (grant_to t c) × (times t h.commits ≡ 0)
unfolding share
live-granted {sh} h k c d t l x =
    let y : 1 ≤ holder t (pair h.world c 0) = rw (holder-same h.world c 0 d t) x in
    (k.owners.held c d t x, omega (arith, k.owners.once t, total-le (share (holder t) h.world 0) sh.cores c l))

-- Marks
none-coming : (n g x : ℕ) → (1 ≤ n + g → x ≡ 0) → 1 ≤ x → g ≡ 0
none-coming n a x f l = grind nats

marked-came : (n s g : ℕ) (m : ℕ) {b : Bool} → b ≡ true → (1 ≤ num (nat_le n s) + g → m + num (s == s && b) ≡ 0) → (s < n) × (g ≡ 0)
marked-came n s g m {b} e f = (go (nat_le n s) refl, none-coming (num (nat_le n s)) g (m + num (s == s && b)) f (omega (arith, one)))
  where
    one : num (s == s && b) ≡ 1
    one = rw e (grind nats)

    go : (x : Bool) → nat_le n s ≡ x → s < n
    go a q = grind nats

marked-line : {sh : Shape} {gs : List Grant} (h : History) → KeptAll sh gs h → (c d l : ℕ) → c < sh.cores → d < sh.dirs
    → has_mark (h.world.dirs d).lines l ≡ true
    → (home sh l ≡ d) × (tid_at h.world d < h.world.next) × (live (Grants (tid_at h.world d)) (pair h.world c d).grants ≡ 0)
unfolding pair marks_of
marked-line h k c d l cl dl e =
    let f = (k.marks c d (tid_at h.world d) l).fresh in
    let r = marked-came h.world.next (tid_at h.world d) (live (Grants (tid_at h.world d)) (pair h.world c d).grants)
    (live (MarkOf (tid_at h.world d) l) (pair h.world c d).out) e f in
    ((k.kept.told.owed.at_home c d).marked l e, r.0, r.1)

none-marked : (a b c : Bool) → (a && b) ≡ false → num (a && (b && c)) ≡ 0
none-marked a b c h = grind nats

marks-wait : {sh : Shape} {gs : List Grant} (h : History) → KeptAll sh gs h → (c d t l : ℕ) → c < sh.cores → d < sh.dirs
    → MarksWait sh t l d (pair h.world c d)
unfolding marked_by
marks-wait {sh} h k c d t l cl dl = record {
  fresh = (k.marks c d t l).fresh;
  unsent =
      λ y z. omega (arith, (k.marks c d t l).held cl dl y, none-marked);
}

-- the owner of a Mark is known by any of its lines
mark-owner : {sh : Shape} {gs : List Grant} {h : History} → KeptAll sh gs h → (c d t : ℕ) → 1 ≤ live (Marks t) (pair h.world c d).out
    → Contains gs (grant_to t c)
mark-owner k c d t x = (k.marks c d t 0).owner (omega arith)

probes-taken : {sh : Shape} {gs : List Grant} (h : History) → KeptMore sh gs h → (c d t : ℕ)
    → 1 ≤ live (Probes t) (pair h.world c d).out + live (Replies t) (pair h.world c d).back
    → Contains gs (grant_to t c) × (live (Grants t) (pair h.world c d).grants ≡ 0)
probes-taken h m c d t x = (
  m.probed c d t x,
  none-coming (num (nat_le (pair h.world c d).next t)) (live (Grants t) (pair h.world c d).grants)
      (live (Probes t) (pair h.world c d).out + live (Replies t) (pair h.world c d).back) (m.all.probing c d t).fresh x,
)

-- what is proved by itself of every run
pub record ProvedAlone (sh : Shape) (ys : Ways) (h : History) : Type 0 where
  pub untold : UntoldWhereOpen sh ys h
  pub is_live : UntoldIsLive sh ys h
  pub fit : AllWaysFit sh ys h
  pub once : GivenUpOnce sh ys h
  pub is_open : LiveIsOpen sh ys h
  pub committed : CommittedWhereStored sh ys h
  pub smaller : SmallerAreGivenUp sh ys h
  pub reached : WorkIsReached sh ys h
  pub served : MarkedByServed sh h.world
  pub marks : MarksOfCommits sh h.commits h.world
  pub stand : CommitsStand sh h.world h.commits

carried : (sh : Shape) (gs : List Grant) (ys : Ways) (h : History) → KeptCopies sh gs ys h → ProvedAlone sh ys h → Carried sh gs ys h
unfolding pair
carried sh gs ys h x t = let m = x.more in let k = m.all in record {
  frames_stand_in_their_sets = λ c. (k.cores c).words.cache;
  modified_and_dirty_words_are_valid_and_apart = λ c. apart (k.cores c).words.cache;
  tid_and_owing_fit_the_phase = m.owing;
  awaited_line_has_a_frame = λ c a q. (k.cores c).awaited a q;
  marks_fit_the_phase = λ c. phase-fits (k.cores c);
  no_attempt_after_the_halt = λ c e. halted (k.cores c) e;
  stored_words_are_those_named = λ c x. (k.cores c).words.named x;
  spilled_line_is_clean_in_its_frame = λ c x y e s. (k.cores c).words.clean x y e s;
  granted_tids_are_those_below_next = (k.owners.numbered, k.owners.next);
  each_tid_is_resolved_in_one_way = (k.kept.told.tids.resolved, t.untold, t.fit);
  commits_are_of_granted_tids = (k.owners.rising, k.owners.granted);
  one_tid_request_or_grant = k.kept.told.tids.requests;
  live_tid_is_granted_to_its_core = live-granted h k;
  live_tid_is_the_last_granted_to_its_core = k.last;
  open_tid_is_live = t.is_live;
  live_tid_is_open_where_it_must_be = t.is_open;
  committed_tid_is_given_up_where_it_stored_nothing = t.committed;
  serving_never_passes_an_unresolved_tid = λ d t x l. passed sh h.world d t (k.kept.told.tids.resolved d t x) l;
  kept_skips_are_given_up_and_ahead = λ d u l p q. (t.fit d u l p).kept q;
  given_up_tid_is_still_to_be_told_or_kept_or_passed = t.once;
  commit_message_is_in_flight_while_committing = λ c d u cl l p q. (t.fit d u l p).commits c cl q;
  commit_is_on_its_way_or_applied = t.stand;
  settled_tid_is_passed_or_owed = λ d u l p q. (t.fit d u l p).settled q;
  owed_only_where_settled = λ d u l p e o. (t.fit d u l p).owed e o;
  marks_sent_are_the_lines_stored = (λ c d u l cl dl q. (k.marks c d u l).held cl dl q, k.masks, k.stored);
  commit_counts_the_lines = t.marks;
  smaller_tid_is_given_up_where_a_larger_one_worked = (t.smaller, t.reached);
  committing_tid_is_served = commits_served k.kept k.committing;
  owed_counts_invs_and_acks = owed_from k.kept.told.owed;
  no_inv_to_the_core_that_committed = (k.spared, m.unacked);
  one_probe_or_reply_per_owing_directory = one_probe_from sh h.world k.probing;
  probes_are_of_tids_already_taken = probes-taken h m;
  replying_directory_has_reached_the_tid = λ c d. (k.kept.probes c d).replies;
  directory_that_replied_serves_the_tid = served_from sh h.world k.kept;
  skipped_tid_sent_no_mark = λ c d t l x y. (k.marks c d t l).skipped x y;
  marked_line_was_marked_by_the_served_tid = (marked-line h k, t.served);
  marks_go_out_with_the_reply = marks-wait h k;
  marks_sent_are_in_flight_or_handled = (mark-owner k, k.counted);
  inv_and_ack_name_a_marked_line = k.named;
  line_marked_in_part_has_no_owner = k.whole;
  marks_name_different_lines = λ c d u l cl dl. (m.one_mark c d u l cl dl, (k.kept.told.owed.at_home c d).marks, (k.marks c d u l).words);
  records_and_messages_are_at_home = m.homes;
  owner_is_the_core_of_the_tag = m.line_owners;
  after_is_the_last_commit_there = m.after;
  one_load_request_or_fill = m.loading;
  line_tag_is_the_last_settled_writer = x.tags;
  copy_above_the_tag_is_of_a_commit_in_flight = above-from sh h.world x.lines;
  owned_line_has_one_copy_with_its_tag = owned-from sh h.world x.lines;
  asked_line_gets_its_words = (k.asked, x.gets);
  holder_is_a_sharer = x.sharers;
  read_mark_is_valid_or_passed = read-words k.owners k.last m.reads;
}

proved-alone : (sh : Shape) (p : Program) (entries : ℕ → Local) (ram : ℕ → ℕ) (es : List Event)
    → IfSome (run sh p (start entries ram) es) (λ h. ProvedAlone sh (ways_from sh p es first_ways (first_state entries ram)) h)
proved-alone sh p entries ram es = if_some (run sh p (start entries ram) es) (λ h eq. record {
  untold = got _ eq (untold_where_open sh p entries ram es);
  is_live = got _ eq (untold_is_live sh p entries ram es);
  fit = got _ eq (all_ways_fit sh p entries ram es);
  once = got _ eq (given_up_once sh p entries ram es);
  is_open = got _ eq (live_is_open sh p entries ram es);
  committed = got _ eq (committed_where_stored sh p entries ram es);
  smaller = got _ eq (smaller_are_given_up sh p entries ram es);
  reached = got _ eq (work_is_reached sh p entries ram es);
  served = got _ eq (marked_by_served sh p entries ram es);
  marks = got _ eq (marks_of_commits sh p entries ram es);
  stand = got _ eq (told_from (λ sh ys h. CommitsStand sh h.world h.commits) on-its-way sh p entries ram es);
})

pub runs_carry : RunsCarry
runs_carry sh p entries ram es = if_some (run sh p (start entries ram) es) (λ h eq.
    carried sh (grants_from sh p es (first_state entries ram)) (ways_from sh p es first_ways (first_state entries ram)) h
    (got _ eq (run-copies sh p entries ram es)) (got _ eq (proved-alone sh p entries ram es)))

-- The facts of the list that are proved of every run of a program whose accesses lie in memory.
attempt-memory : (sh : Shape) (gs : List Grant) (ys : Ways) (h : History) → Carried sh gs ys h → KeptInMemory sh h → (c : ℕ)
    → AttemptInMemory sh (h.world.cores c)
attempt-memory sh gs ys h k m c = record {
  accesses = (m.cores c).accesses;
  spilled = λ x e. (m.cores c).accesses.stored x (sym (k.stored_words_are_those_named c x) ∙ either ((h.world.cores c).cache.modified x) e);
  awaited = λ a e. (m.cores c).frames a.line (k.awaited_line_has_a_frame c a e).1;
}
  where
    either : (a : Bool) {b : Bool} → b ≡ true → (a || b) ≡ true
    either a e = grind nats

loads-memory : {sh : Shape} {gs : List Grant} {ys : Ways} (h : History) → Carried sh gs ys h → KeptInMemory sh h → LoadsInMemory sh h.world
unfolding pair
loads-memory {sh} h k m c d l i = go (h.world.cores c).awaited refl (omega (arith, k.one_load_request_or_fill))
  where
    line : (a : Awaited) → (h.world.cores c).awaited ≡ Some a → (b e : Bool) → (a.line == l) ≡ b → 1 ≤ num (b && e) → l < lines sh
    line a q b e r n = grind (nats, attempt-memory)

    go : (a : Option Awaited) → (h.world.cores c).awaited ≡ a → 1 ≤ num (is_awaited a l && (home sh l == d)) → l < lines sh
    go None q n = absurd (omega arith)
    go (Some a) q n = line a q (a.line == l) (home sh l == d) refl n

copies-memory : (sh : Shape) (h : History) → KeptInMemory sh h → CopiesInMemory sh h.world
copies-memory sh h m c d l t i = elim (cases_lt l (lines sh)) [ inl q ↦ q | inr q ↦ absurd (omega (arith, m.copies)) ]

pub carried-memory : (sh : Shape) (gs : List Grant) (ys : Ways) (h : History) → Carried sh gs ys h → KeptInMemory sh h
    → CarriedInMemory sh h
carried-memory sh gs ys h k m = record {
  frames_are_of_lines_in_memory = λ c l e. (m.cores c).frames l e;
  attempts_stay_in_memory = attempt-memory sh gs ys h k m;
  loads_in_flight_are_of_lines_in_memory = loads-memory h k m;
  copies_in_flight_are_of_lines_in_memory = copies-memory sh h m;
  commits_stay_in_memory = m.commits;
}

pub runs_stay_in_memory : RunsStayInMemory
runs_stay_in_memory sh p entries ram es i = if_some (run sh p (start entries ram) es) (λ h eq.
    carried-memory sh (grants_from sh p es (first_state entries ram)) (ways_from sh p es first_ways (first_state entries ram)) h
    (got _ eq (runs_carry sh p entries ram es)) (got _ eq (run-memory sh p entries ram es i)))

-- The facts of the list that are proved of every run of a program that fits: what theorem_attempt says of each core's attempt and its view.
read-fits : {sh : Shape} {s : CoreState} {us : Uses} → MarksFit sh s us → ReadFits s us
read-fits k = record { stand = k.stand; used = λ a x e. k.used x e }

pub runs_carry_views : RunsCarryViews
runs_carry_views sh p entries ram es f = IfSome_then (run sh p (start entries ram) es) (attempts-fit sh p entries ram es f) (λ h k. record {
  attempt_follows_from_its_view = λ c. (k c).follows;
  read_marks_are_the_view = λ c. read-fits (k c).marks;
})
  where
    vs : Views
    vs = views_from sh p es no_views (first_state entries ram)
