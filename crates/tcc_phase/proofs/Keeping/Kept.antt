-- What is kept beside a machine is so after one more event.
use Rattle.std.proofs.Common.{◌≡◌, ◌≢◌, ℕ, ◌+◌, ◌<◌, ◌≤◌, Bool, true, false, ◌==◌, List, [], ◌∷◌, ◌++◌, length, map, Option, Some, None}
use Rattle.std.proofs.Common.{refl, ap, sym, ◌∙◌, subst, arith}
use Rattle.std.specs.Global.{Vec}
use Rattle.std.specs.Prelude.{IfSome, get_or, max, nat_lt, option_map, slice_get, slice_set, if◌then◌else◌}
use Rattle.std.proofs.lemmas.Bool.Decides.{nat_tests}
use Rattle.std.proofs.lemmas.List.{get_or-set_other, get_or-set_same, get_or_past, map-append}
use Rattle.image_load.specs.Contents.{started}
use Rattle.image_load.specs.Start.{Start}
use Rattle.rv_code.specs.Machine.{program}
use Rattle.tcc_base.specs.Settings.{IsAllowed}
use Rattle.tcc_base.specs.declared.access.Commit.{Commit}
use Rattle.tcc_base.specs.declared.names.Tid.{Tid}
use Rattle.rules_maps.specs.Nodes.{Core, Vendor, Event, Exec, Evict, Deliver}
use Rattle.rules_maps.specs.Words.{those}
use Rattle.tcc_msg.specs.Plain.{event_of}
use Rattle.tcc_msg.specs.declared.event.Event.{Event as CodeEvent}
use Rattle.rules_tcc.specs.Laws.{ActsOnOne, StepsActOnOne}
use Rattle.rules_tcc.specs.Links.{sent_all}
use Rattle.rules_tcc.specs.State.{Link, World}
use Rattle.rules_tcc.specs.Step.{History, Stepped, and_noted, insert_commit, step}
use Rattle.theorem_serial.specs.Owners.{IsRising}
use Rattle.theorem_phases.specs.Laws.{Grows, InPhases, asks, executes, noted_by, place_of, put_in}
use Rattle.rules_riscv.specs.Starting.{at_start}
use Rattle.rules_phases.specs.Phased.{has_halted, phased_from, phased_next}
use Rattle.rules_phases.specs.Phases.{phase_of, phases_of, x27}
use Rattle.theorem_phases.proofs.Lemmas.{halts_stay, requests_stay}
use Rattle.net_core.specs.Answers.{tid_noted, tid_told}
use Rattle.net_core.specs.Machine.{Machine, history_of, program_of, settings_of, start_of, world_of}
use Rattle.net_core.specs.declared.taking.Step.{Step}
use Rattle.net_core.specs.declared.taking.Step.TheVariants.{Moved, Committed}
use Rattle.tcc_phase.specs.Kept.{HasRows, IsKept}
use Rattle.tcc_phase.specs.Standing.{IsListed, Notes, StillHolds}
use Rattle.tcc_phase.specs.Requests.{Counts, HeldBefore, IsAsked, Limits, is_behind, is_waiting}
use Rattle.tcc_phase.specs.declared.standing.Standing.{Standing}
use Rattle.tcc_phase.proofs.Keeping.Following.{Did, by-cores, did, grown, in-phases, next-is, not-held, not-late}
use Rattle.tcc_phase.proofs.Keeping.Following.{one-each, phased-on, rising}
use Rattle.tcc_phase.proofs.Places.{at-place, by-core, place-insert, place-most}
use Rattle.tcc_phase.proofs.Requests.Asked.{AtMostOne, asked-after}
use Rattle.tcc_phase.proofs.Requests.Behind.{behind-late}
use Rattle.tcc_phase.proofs.Requests.Staying.{held-before, limits-same}

-- ---- the TID that was told

-- it is that of the commit that was noted
pub record TidOfNoted (t : Tid) (o : Option Commit) : Type 0 where
  pub commit : Commit
  pub noted : o ≡ Some commit
  pub tid : commit.tid ≡ t

tid-of-noted : (t : Tid) (o : Option Commit) → Some t ≡ option_map (λ c. c.tid) o → TidOfNoted t o
tid-of-noted t None e = absurd (cc)
tid-of-noted t (Some x) e = record { commit = x; noted = refl; tid = let q : t ≡ x.tid = cc in sym q }

none-told : (o : Option Commit) → None ≡ option_map (λ c. c.tid) o → o ≡ None
none-told None e = refl
none-told (Some x) e = absurd (cc)

module _ (s : Start) (allowed : IsAllowed s.settings) (es : List Event) (e : Event) (h g : History)
    (from : phased_from s es (at_start s) ≡ Some h) (to : phased_next s h e ≡ Some g) where
  after : phased_from s (es ++ e ∷ []) (at_start s) ≡ Some g
  after = phased-on s e es (at_start s) h g from to

  pub taken : Did s h g e
  taken = did s h g e (next-is s h g e to)

  rises : IsRising 0 g.commits
  rises = rising s allowed (es ++ e ∷ []) g after

  -- the commit stands where its TID belongs
  module _ (t : Tid) (w : TidOfNoted t taken.out.noted) where
    inserted : g.commits ≡ insert_commit w.commit h.commits
    inserted = taken.commits ∙ ap (λ o. and_noted o h.commits) w.noted

    place : place_of t.0 g.commits ≡ place_of w.commit.tid.0 h.commits
    place =
        ap (λ u. place_of u.0 g.commits) (sym w.tid) ∙ ap (place_of w.commit.tid.0) inserted ∙ place-insert w.commit h.commits

    stands : slice_get g.commits (place_of t.0 g.commits) ≡ Some w.commit
    stands =
        ap (slice_get g.commits) place ∙ ap (λ cs. slice_get cs (place_of w.commit.tid.0 h.commits)) inserted
        ∙ at-place 0 w.commit h.commits (subst (IsRising 0) inserted rises)

    of-core : w.commit.core.0 < s.settings.cores
    of-core =
        let q = by-core (λ c. nat_lt c s.settings.cores) g.commits (place_of t.0 g.commits) w.commit
        (by-cores s allowed (es ++ e ∷ []) g after) stands in
        grind (arith, nat_tests)

  step-is : step s.settings (program s) h.world e ≡ Some taken.out
  step-is = taken.step

  grows : Grows s h g taken.out.noted
  grows = subst (λ o. Grows s h g (noted_by o)) taken.step (grown s allowed es h from e g (next-is s h g e to))

  -- ---- the phases

  -- where no commit was told
  unnoted : (o : Option Commit) → o ≡ None → Grows s h g o → (phases_of s g ≡ phases_of s h) × ((c : ℕ) → c < s.settings.cores
      → phase_of s g c ≡ phase_of s h c)
  unnoted o e w = subst (Grows s h g) e w

  noted : (o : Option Commit) (x : Commit) → o ≡ Some x → Grows s h g o → Grows s h g (Some x)
  noted o x e w = subst (Grows s h g) e w

-- the phases that are kept beside the machine are those of the rules
pub record HasPhases (s : Start) (h : History) (phases own : List ℕ) : Type 0 where
  pub all : phases ≡ phases_of s h
  pub each : (c : ℕ) → c < s.settings.cores → get_or own c 0 ≡ phase_of s h c

own-now : (own : List ℕ) (x c v : ℕ) (was now : ℕ → ℕ) → x < length own → get_or own x 0 ≡ was x → get_or own c 0 ≡ was c
    → now x ≡ max (was x) v → (c ≢ x → now c ≡ was c) → get_or (slice_set own x (max (get_or own x 0) v)) c 0 ≡ now c
own-now own x c v was now l a b p q = go (c == x) refl
  where
    go : (t : Bool) → (c == x) ≡ t → get_or (slice_set own x (max (get_or own x 0) v)) c 0 ≡ now c
    go true e =
        let s : c ≡ x = grind (arith, nat_tests) in
        ap (λ y. get_or (slice_set own x (max (get_or own x 0) v)) y 0) s ∙ get_or-set_same own x (max (get_or own x 0) v) 0 l
        ∙ ap (λ y. max y v) a ∙ sym p ∙ ap now (sym s)
    go false e =
        let s : c ≢ x = λ r. (let t : (c == x) ≡ true = grind (arith, nat_tests) in absurd (cc)) in
        get_or-set_other own x c (max (get_or own x 0) v) 0 s ∙ b ∙ sym (q s)

-- the links of the core that executed only grow
link-grows : (w v : World) (e : Event) (c : ℕ) → executes c e ≡ true → ActsOnOne w e v
    → (more : Link) × (v.net (Core c) Vendor ≡ w.net (Core c) Vendor ++ more)
link-grows w v (Exec d) c x a = let g = a.links (Core c) Vendor in (sent_all g.0, g.1)
link-grows w v (Evict d y z) c x a = absurd (cc)
link-grows w v (Deliver b d k) c x a = absurd (cc)

-- what is noted of an event that was taken
pub record Noted (n : Machine) (e : Event) (done : Step) (l k : Standing) : Type 0 where
  pub rows : HasRows (settings_of n).cores k
  pub asked : Counts e l.asked.items k.asked.items
  pub notes : Notes n done l.each.items l.own.items k.each.items k.own.items
  pub limits : Limits (settings_of n) (world_of n) k.own.items k.least
  pub held : k.held.items ≡ those (is_waiting (settings_of n) (program_of n) (world_of n) k.own.items k.asked.items) (settings_of n).cores

-- room for one more phase changes nothing
pub kept-each : (s : Start) (h : History) (events : ℕ) (l : Standing) (v : Vec ℕ) → v.items ≡ l.each.items → IsKept s h events l
    → IsKept s h events (record l { each = v })
kept-each s h events l v q k = record {
  rows = record { own = k.rows.own; asked = k.rows.asked; held = k.rows.held };
  each = q ∙ k.each;
  own = k.own;
  asked = k.asked;
  few = k.few;
  limits = k.limits;
  held = k.held;
}

module _ (m n : Machine) (allowed : IsAllowed (settings_of m)) (es : List Event) (e : Event)
    (from : phased_from (start_of m) es (at_start (start_of m)) ≡ Some (history_of m))
    (to : phased_next (start_of m) (history_of m) e ≡ Some (history_of n)) (done : Step)
    (tells : tid_told done ≡ tid_noted (step (settings_of m) (program_of m) (world_of m) e)) where
  pub fits : IsAllowed (start_of m).settings
  unfolding started
  fits = allowed

  abbrev done-by : Did (start_of m) (history_of m) (history_of n) e
  done-by = taken (start_of m) fits es e (history_of m) (history_of n) from to

  tells-of : tid_told done ≡ option_map (λ c. c.tid) done-by.out.noted
  unfolding started history_of
  tells-of = tells ∙ ap tid_noted done-by.step

  pub now-rising : IsRising 0 n.commits
  unfolding history_of
  now-rising = rises (start_of m) fits es e (history_of m) (history_of n) from to

  -- the commit that is told stands in its place
  pub now-listed : (phases : List ℕ) → phases ≡ phases_of (start_of m) (history_of m) → IsListed n done phases (settings_of m).cores
  unfolding started history_of
  now-listed phases q = go done tells-of
    where
      go : (d : Step) → tid_told d ≡ option_map (λ c. c.tid) done-by.out.noted → IsListed n d phases (settings_of m).cores
      go Moved r = tt
      go (Committed t) r =
          let w = tid-of-noted t done-by.out.noted r in
          let count = (in-phases (start_of m) fits es (history_of m) from).count in
          let most = place-most w.commit.tid.0 m.commits in
          let at = place (start_of m) fits es e (history_of m) (history_of n) from to t w in (
            w.commit,
            stands (start_of m) fits es e (history_of m) (history_of n) from to t w,
            of-core (start_of m) fits es e (history_of m) (history_of n) from to t w,
            rw q (rw count (rw at most)),
          )

  grows-so : Grows (start_of m) (history_of m) (history_of n) done-by.out.noted
  grows-so = grows (start_of m) fits es e (history_of m) (history_of n) from to

  pub now-phases : (phases own more next : List ℕ) → HasPhases (start_of m) (history_of m) phases own → length own ≡ (settings_of m).cores
      → Notes n done phases own more next → HasPhases (start_of m) (history_of n) more next
  unfolding started history_of
  now-phases phases own more next was rows notes = go done tells-of notes
    where
      go : (d : Step) → tid_told d ≡ option_map (λ c. c.tid) done-by.out.noted → Notes n d phases own more next
          → HasPhases (start_of m) (history_of n) more next
      go Moved r k =
          let w = unnoted (start_of m) fits es e (history_of m) (history_of n) from to done-by.out.noted (none-told done-by.out.noted r)
          grows-so in
          record {
            all = k.0 ∙ was.all ∙ sym w.0;
            each = λ c l. ap (λ xs. get_or xs c 0) k.1 ∙ was.each c l ∙ sym (w.1 c l);
          }
      go (Committed t) r k =
          let w = tid-of-noted t done-by.out.noted r in
          let x : Commit = w.commit in
          let gr = noted (start_of m) fits es e (history_of m) (history_of n) from to done-by.out.noted x w.noted grows-so in
          let at = place (start_of m) fits es e (history_of m) (history_of n) from to t w in
          let there = stands (start_of m) fits es e (history_of m) (history_of n) from to t w in
          let of = of-core (start_of m) fits es e (history_of m) (history_of n) from to t w in
          let q = subst (λ o. IfSome o (λ (y : Commit).
          (more ≡ put_in (place_of t.0 n.commits) (get_or own y.core.0 0) phases)
          × (next ≡ slice_set own y.core.0 (max (get_or own y.core.0 0) (x27 ((world_of n).cores y.core.0).saved))))) there k in
          record {
            all = q.0 ∙ (λ i. put_in (at i) (was.each x.core.0 of i) (was.all i)) ∙ sym gr.0;
            each = λ c l. ap (λ xs. get_or xs c 0) q.1
                ∙ own-now own x.core.0 c (x27 ((world_of n).cores x.core.0).saved) (phase_of (start_of m) (history_of m))
                (phase_of (start_of m) (history_of n)) (omega (arith, of, rows)) (was.each x.core.0 of) (was.each c l) gr.1 (gr.2 c l);
          }

  -- where no commit was told, who waits is as before, but perhaps for the core that executed
  module _ (acts : StepsActOnOne) (l : Standing) (kept : IsKept (start_of m) (history_of m) m.events l) (code : n.cores.code ≡ m.cores.code)
    where
      abbrev old : World
      old = (history_of m).world

      abbrev new : World
      new = (history_of n).world

      halts-so : done-by.out.noted ≡ None → (j : ℕ) → has_halted (new.cores j).phase ≡ has_halted (old.cores j).phase
      halts-so q j =
          ap (λ (v : World). has_halted (v.cores j).phase) done-by.world
          ∙ subst (λ o. IfSome o (λ (x : Stepped). x.noted ≡ None → (c : ℕ) → has_halted (x.world.cores c).phase
          ≡ has_halted (old.cores c).phase)) done-by.step (halts_stay (start_of m).settings (program (start_of m)) old e) q j

      stays-so : (c : ℕ) → executes c e ≡ false → asks c e ≡ false → new.net (Core c) Vendor ≡ old.net (Core c) Vendor
      stays-so c x a =
          ap (λ (v : World). v.net (Core c) Vendor) done-by.world
          ∙ subst (λ o. IfSome o (λ (t : Stepped). (c : ℕ) → executes c e ≡ false → asks c e ≡ false
          → t.world.net (Core c) Vendor ≡ old.net (Core c) Vendor)) done-by.step
          (requests_stay (start_of m).settings (program (start_of m)) old e) c x a

      grows-by : (c : ℕ) → executes c e ≡ true → (more : Link) × (new.net (Core c) Vendor ≡ old.net (Core c) Vendor ++ more)
      grows-by c x =
          let g = link-grows old done-by.out.world e c x
          (subst (λ o. IfSome o (λ (t : Stepped). ActsOnOne old e t.world)) done-by.step
          (acts (start_of m).settings (program (start_of m)) old e)) in
          (g.0, ap (λ (v : World). v.net (Core c) Vendor) done-by.world ∙ g.1)

      free-so : (c : ℕ) → c < (start_of m).settings.cores → asks c e ≡ true
          → is_behind (start_of m).settings.cores old l.own.items (get_or l.own.items c 0) ≡ false
      free-so c h a =
          sym (behind-late (start_of m) (history_of m) l.own.items kept.own c h)
          ∙ not-late (start_of m) (history_of m) e c (not-held (start_of m) (history_of m) (history_of n) e to) a

      counts-so : (asked : List ℕ) → Counts e l.asked.items asked → (c : ℕ) → c < (start_of m).settings.cores
          → get_or asked c 0 ≡ (if asks c e then get_or l.asked.items c 0 + 1 else get_or l.asked.items c 0)
      counts-so asked k c h = k c (let r = kept.rows.asked in omega (arith, h, r))

      still-m : done-by.out.noted ≡ None → Limits (start_of m).settings new l.own.items l.least
          × ((asked : List ℕ) → Counts e l.asked.items asked
          → HeldBefore (start_of m).settings (program (start_of m)) new l.own.items asked e l.held.items)
      still-m q = (
        limits-same (start_of m).settings old new l.own.items (halts-so q) l.least kept.limits,
        λ asked k. held-before (start_of m).settings (program (start_of m)) old new e l.own.items l.asked.items asked (halts-so q) stays-so
            grows-by free-so (counts-so asked k) l.held.items kept.held,
      )

      pub still-so : StillHolds n e done l
      unfolding started history_of
      still-so = go done tells-of
        where
          go : (d : Step) → tid_told d ≡ option_map (λ c. c.tid) done-by.out.noted → StillHolds n e d l
          go (Committed t) r = tt
          go Moved r =
              subst (λ k. Limits k.settings (world_of n) l.own.items l.least × ((asked : List ℕ) → Counts e l.asked.items asked
              → HeldBefore k.settings (program (started k)) (world_of n) l.own.items asked e l.held.items)) (sym code)
              (still-m (none-told done-by.out.noted r))

  module _ (acts : StepsActOnOne) (l k : Standing) (kept : IsKept (start_of m) (history_of m) m.events l) (w : Noted n e done l k)
      (events : n.events ≡ m.events + 1) (code : n.cores.code ≡ m.cores.code) where
    same : start_of n ≡ start_of m
    same = ap started code

    cores : (settings_of n).cores ≡ (start_of m).settings.cores
    unfolding started
    cores = ap (λ x. x.settings.cores) code

    acts-so : ActsOnOne (history_of m).world e done-by.out.world
    acts-so =
        subst (λ o. IfSome o (λ (x : Stepped). ActsOnOne (history_of m).world e x.world)) done-by.step
        (acts (start_of m).settings (program (start_of m)) (history_of m).world e)

    one : (c : ℕ) → AtMostOne (done-by.out.world.net (Core c) Vendor)
    one c =
        subst (λ (v : World). AtMostOne (v.net (Core c) Vendor)) done-by.world
        (one-each (start_of m) fits (es ++ e ∷ []) (history_of n)
        (after (start_of m) fits es e (history_of m) (history_of n) from to) c)

    now-asked : (c : ℕ) → c < (start_of m).settings.cores → IsAsked ((history_of n).world.net (Core c) Vendor) (get_or k.asked.items c 0)
    now-asked c h =
        let within : c < length l.asked.items = let r = kept.rows.asked in omega (arith, h, r) in
        subst (IsAsked ((history_of n).world.net (Core c) Vendor)) (sym (w.asked c within))
        (subst (λ (v : World). IsAsked (v.net (Core c) Vendor)
        (if asks c e then get_or l.asked.items c 0 + 1 else get_or l.asked.items c 0)) (sym done-by.world)
        (asked-after (start_of m).settings (program (start_of m)) (history_of m).world e done-by.out done-by.step acts-so c
        (get_or l.asked.items c 0) (kept.asked c h) (one c)))

    now-few : (c : ℕ) → get_or k.asked.items c 0 ≤ n.events
    now-few c = go (nat_lt c (length l.asked.items)) refl
      where
        counted : (b : Bool) → get_or k.asked.items c 0 ≡ (if b then get_or l.asked.items c 0 + 1 else get_or l.asked.items c 0)
            → get_or k.asked.items c 0 ≤ n.events
        counted true q = let f = kept.few c in omega (arith, q, f, events)
        counted false q = let f = kept.few c in omega (arith, q, f, events)

        go : (b : Bool) → nat_lt c (length l.asked.items) ≡ b → get_or k.asked.items c 0 ≤ n.events
        go true q = let h : c < length l.asked.items = grind (arith, nat_tests) in counted (asks c e) (w.asked c h)
        go false q =
            let h : length l.asked.items ≤ c = grind (arith, nat_tests) in
            let a = kept.rows.asked in
            let b = w.rows.asked in
            let p : get_or k.asked.items c 0 ≡ 0 = get_or_past k.asked.items c 0 (omega (arith, h, a, b, cores)) in
            omega (arith, p)

    limits-now : Limits (start_of m).settings (history_of n).world k.own.items k.least
    unfolding started history_of
    limits-now = subst (λ x. Limits x.settings (world_of n) k.own.items k.least) code w.limits

    held-now : k.held.items
        ≡ those (is_waiting (start_of m).settings (program (start_of m)) (history_of n).world k.own.items k.asked.items) (start_of
        m).settings.cores
    unfolding started history_of
    held-now =
        w.held
        ∙ (λ i. those (is_waiting (code i).settings (program (started (code i))) (world_of n) k.own.items k.asked.items) (code
        i).settings.cores)

    phases-now : HasPhases (start_of m) (history_of n) k.each.items k.own.items
    unfolding started
    phases-now = now-phases l.each.items l.own.items k.each.items k.own.items (record { all = kept.each; each = kept.own }) kept.rows.own
        w.notes

    kept-m : IsKept (start_of m) (history_of n) n.events k
    kept-m = record {
      rows = subst (λ x. HasRows x k) cores w.rows;
      each = phases-now.all;
      own = phases-now.each;
      asked = now-asked;
      few = now-few;
      limits = limits-now;
      held = held-now;
    }

    pub kept-next : IsKept (start_of n) (history_of n) n.events k
    kept-next = subst (λ x. IsKept x (history_of n) n.events k) (sym same) kept-m

-- ---- its events are a run by phases

pub phased-after : (m n : Machine) (es fs : List CodeEvent) (e : CodeEvent)
    → phased_from (start_of m) (map event_of es) (at_start (start_of m)) ≡ Some (history_of m)
    → phased_next (start_of m) (history_of m) (event_of e) ≡ Some (history_of n) → n.cores.code ≡ m.cores.code → fs ≡ es ++ e ∷ []
    → phased_from (start_of n) (map event_of fs) (at_start (start_of n)) ≡ Some (history_of n)
phased-after m n es fs e from to code taken =
    subst (λ k. phased_from (started k) (map event_of fs) (at_start (started k)) ≡ Some (history_of n)) (sym code)
    (ap (λ xs. phased_from (start_of m) (map event_of xs) (at_start (start_of m))) taken
    ∙ ap (λ xs. phased_from (start_of m) xs (at_start (start_of m))) (map-append event_of es (e ∷ []))
    ∙ phased-on (start_of m) (event_of e) (map event_of es) (at_start (start_of m)) (history_of m) (history_of n) from to)

pub in-phases-of : (m : Machine) (es : List CodeEvent) → IsAllowed (settings_of m)
    → phased_from (start_of m) (map event_of es) (at_start (start_of m)) ≡ Some (history_of m) → InPhases (start_of m) (history_of m)
unfolding started
in-phases-of m es allowed from = in-phases (start_of m) allowed (map event_of es) (history_of m) from
