-- A run that goes on is the run of so many steps more.
use Rattle.std.proofs.Common.{◌≡◌, ◌+◌, ◌-◌, ◌^◌, ◌≤◌, ◌↔◌, ℕ, min, Bool, IsTrue, List, [], ◌++◌, length}
use Rattle.std.proofs.Common.{length-append, Option, inl, inr, refl, ap, sym, subst, ◌∙◌}
use Rattle.std.proofs.Common.{arith}
use Rattle.rand_core.specs.Steps.{first_words}
use Rattle.rand_pcg.specs.Lcg.{Lcg}
use Rattle.image_load.specs.Contents.{Contents, started}
use Rattle.rv_code.specs.Machine.{program}
use Rattle.tcc_base.specs.Settings.{IsAllowed}
use Rattle.net_core.specs.Limits.{machine_limit}
use Rattle.net_core.specs.Machine.{Machine, history_of, program_of, settings_of, start_of, world_of}
use Rattle.rules_maps.specs.Nodes.{Event}
use Rattle.rules_riscv.specs.Starting.{at_start, world_at_start}
use Rattle.rules_tcc.specs.Picked.{picked}
use Rattle.rules_tcc.specs.Seen.{IsDone}
use Rattle.rules_tcc.specs.Step.{run}
use Rattle.tcc_pick.specs.Words.{after_words, seeded, words}
use Rattle.tcc_pick.proofs.Lemmas.{picked-begins, picked-few, picked-further}
use Rattle.tcc_world.specs.Page.{Page, Written}
use Rattle.watch_count.specs.Counts.{Counts}
use Rattle.watch_run.specs.Forgetting.{StillKeeps}
use Rattle.watch_run.specs.Looked.{CountedMore, HasCounted, IsCounted}
use Rattle.watch_run.specs.Meanwhile.{IsFurtherPart, IsFurtherStopped, IsFurtherText, meanwhile_text}
use Rattle.watch_run.specs.Runs.{IsRunOf, IsRunPart, IsRunText, IsRunTextStopped, IsRunTrace, IsRunTraceBegun, RunData}
use Rattle.watch_run.specs.Runs.{RunTablesJoin, WentOn}
use Rattle.watch_run.specs.Runs.{seed_events}
use Rattle.watch_run.specs.Tables.{open_table, rest_text, table_text}
use Rattle.watch_run.specs.Traces.{BrokeOff, IsFurtherBegun, IsFurtherTrace, IsTraceOf, StandsBehind, shown_behind}
use Rattle.watch_run.specs.Written.{IsBehind, IsPart, IsTraceBegun}
use Rattle.watch_run.specs.declared.meanwhile.Meanwhile.{Meanwhile}
use Rattle.watch_run.specs.declared.telling.Shown.{Shown}
use Rattle.watch_run.specs.declared.tracing.Broken.{Broken}
use Rattle.watch_run.specs.declared.tracing.Broken.TheVariants.{Memory, Output}
use Rattle.watch_run.proofs.Leading.{is-counted}
use Rattle.watch_run.proofs.Picking.{coming_by}
use Rattle.watch_run.proofs.Rested.{tables-join}
use Rattle.watch_run.proofs.Tabled.{begun-none, begun-part}
use Rattle.watch_run.proofs.Tallies.{counted-same, counted-still}
use Rattle.watch_run.proofs.Traced.{further-none}

-- before the first event
pub run-none : (c : Contents) (m : Machine) (counts : Counts) (seed : ℕ) → HasCounted c [] m counts
    → IsRunOf c 0 (record { machine = m; counts = counts; seed = seed; drawn = 0 })
unfolding picked first_words
run-none c m counts seed h = record { counted = h; drawn = refl }

-- the events that the next words of a run's seed pick for a machine
abbrev pub next_events : RunData → (steps : ℕ) → Machine → List Event
next_events r steps m = picked (settings_of m) (program_of m) (words steps (after_words r.drawn (seeded r.seed))) (world_of m)

pub coming-next : (r : RunData) (steps left : ℕ) (g : Lcg) (m : Machine) → left ≡ steps → g ≡ after_words r.drawn (seeded r.seed)
    → coming_by left g (start_of m) (world_of m) ≡ next_events r steps m
unfolding started
coming-next r steps left g m l e = λ i. picked (settings_of m) (program_of m) (words (l i) (e i)) (world_of m)

-- there are so many at most
pub coming-few : (r : RunData) (steps left : ℕ) (g : Lcg) (m : Machine) → left ≡ steps → g ≡ after_words r.drawn (seeded r.seed)
    → length (coming_by left g (start_of m) (world_of m)) ≤ steps
coming-few r steps left g m l e =
    subst (λ es. length es ≤ steps) (sym (coming-next r steps left g m l e))
    (picked-few (settings_of m) (program_of m) steps (after_words r.drawn (seeded r.seed)) (world_of m))

-- a call that puts what was sent on its links
pub record Settles (m n : Machine) : Type 0 where
  pub history : history_of n ≡ history_of m
  pub unsent : n.unsent ≡ []
  pub events : n.events ≡ m.events
  pub code : n.cores.code ≡ m.cores.code

counted-settled : (c : Contents) (n : ℕ) (r : RunData) (m : Machine) → IsRunOf c n r → Settles r.machine m
    → HasCounted c (seed_events c r.seed n) m r.counts
counted-settled c n r m k s =
    counted-same c (seed_events c r.seed n) r.machine m r.counts k.counted s.history s.unsent s.events s.code

-- these are the events that stand behind the ones so far
further : (c : Contents) (n steps : ℕ) (r : RunData) (m : Machine) → IsRunOf c n r → (h : HasCounted c (seed_events c r.seed n) m r.counts)
    → seed_events c r.seed n ++ next_events r steps m ≡ seed_events c r.seed (n + steps)
unfolding run history_of
further c n steps r m k h =
    ap (λ es. seed_events c r.seed n ++ es) next
    ∙ sym (picked-further c.settings (program (started c)) n steps (seeded r.seed) (at_start (started c)) h.ends h.ran)
  where
    next : next_events r steps m
        ≡ picked c.settings (program (started c)) (words steps (after_words (length (seed_events c r.seed n)) (seeded r.seed))) h.ends.world
    next = λ i. picked (h.code i).settings (program (started (h.code i))) (words steps (after_words (k.drawn i) (seeded r.seed)))
        (h.kept.world i)

-- the number of words that were drawn, where one was for each of these events
abbrev drawn_by : (drawn before now : ℕ) → ℕ
drawn_by drawn before now = min (drawn + (now - before)) (2 ^ 64 - 1)

same-run : (c : Contents) (n steps : ℕ) (r : RunData) (m o : Machine) (counts : Counts) → IsRunOf c n r → Settles r.machine m
    → CountedMore m o r.counts counts (next_events r steps m) → r.machine.events + steps ≤ machine_limit
    → IsRunOf c (n + steps)
    (record { machine = o; counts = counts; seed = r.seed; drawn = drawn_by r.drawn m.events o.events })
same-run c n steps r m o counts k s more few =
    record {
      counted = subst (λ es. HasCounted c es o counts) all (more.counted c (seed_events c r.seed n) settled);
      drawn =
          let now = more.events in
          let before = s.events in
          let at_first = k.counted.events in
          let drawn = k.drawn in
          let few_more = picked-few (settings_of m) (program_of m) steps (after_words r.drawn (seeded r.seed)) (world_of m) in
          let sum : r.drawn + length (next_events r steps m) ≡ length (seed_events c r.seed (n + steps)) =
          ap (λ d. d + length (next_events r steps m)) drawn ∙ sym (length-append (seed_events c r.seed n) (next_events r steps m))
          ∙ ap length all in
          omega (arith, now, before, at_first, drawn, few, few_more, sum);
    }
  where
    settled : HasCounted c (seed_events c r.seed n) m r.counts
    settled = counted-settled c n r m k s

    all : seed_events c r.seed n ++ next_events r steps m ≡ seed_events c r.seed (n + steps)
    all = further c n steps r m k settled

pub went-on : (steps : ℕ) (r : RunData) (m o : Machine) (counts : Counts) (drawn : ℕ) → Settles r.machine m
    → CountedMore m o r.counts counts (next_events r steps m) → r.machine.events + steps ≤ machine_limit
    → drawn ≡ drawn_by r.drawn m.events o.events
    → WentOn r (record { machine = o; counts = counts; seed = r.seed; drawn = drawn }) steps
went-on steps r m o counts drawn s more few is =
    let now = more.events in
    let before = s.events in
    let few_more = picked-few (settings_of m) (program_of m) steps (after_words r.drawn (seeded r.seed)) (world_of m) in
    record {
      same = λ c n k. subst (λ d. IsRunOf c (n + steps) (record { machine = o; counts = counts; seed = r.seed; drawn = d })) (sym is)
          (same-run c n steps r m o counts k s more few);
      settled = more.settled;
      code = more.code ∙ s.code;
      seed = refl;
      events = λ h. omega (arith, now, before, few_more, few, is, h);
      at_most = omega (arith, now, before, few_more, is);
    }

-- ---- what is written while it goes on

-- the text of the further events is that of the run's further steps
meanwhile-same : (told : Meanwhile) (c : Contents) (n steps : ℕ) (r : RunData) (m : Machine) → IsRunOf c n r
    → (h : HasCounted c (seed_events c r.seed n) m r.counts)
    → r.machine.events ≡ length (seed_events c r.seed n)
    → meanwhile_text told (length (seed_events c r.seed n)) (started c) (seed_events c r.seed n ++ next_events r steps m)
    ≡ meanwhile_text told r.machine.events (started c) (seed_events c r.seed (n + steps))
meanwhile-same told c n steps r m k h all =
    λ i. meanwhile_text told (sym all i) (started c) (further c n steps r m k h i)

pub run-text : (told : Meanwhile) (steps : ℕ) (r : RunData) (m : Machine) (a b : Option (List ℕ)) → Settles r.machine m
    → IsBehind (IsFurtherText told m r.counts (next_events r steps m)) a b → IsBehind (IsRunText told r steps) a b
run-text told steps r m a b s t = record {
  text = t.text;
  is = λ c n k.
      let settled = counted-settled c n r m k s in
      t.is c (seed_events c r.seed n) settled ∙ meanwhile-same told c n steps r m k settled k.counted.events;
  whole = t.whole;
}

run-part : (told : Meanwhile) (steps : ℕ) (r : RunData) (m : Machine) (a b : Option (List ℕ)) → Settles r.machine m
    → IsFurtherPart told m r.counts (next_events r steps m) a b → IsRunPart told r steps a b
run-part told steps r m a b s t = λ c n k.
    let settled = counted-settled c n r m k s in
    subst (λ xs. IsPart xs a b) (meanwhile-same told c n steps r m k settled k.counted.events) (t c (seed_events c r.seed n) settled)

pub run-text-stopped : (told : Meanwhile) (steps : ℕ) (r : RunData) (m : Machine) (o : Written) (broken : Broken) → Settles r.machine m
    → IsFurtherStopped told m r.counts (next_events r steps m) o broken → IsRunTextStopped told r steps o broken
run-text-stopped told steps r m o Memory s t = run-part told steps r m o.before.bytes o.after.bytes s t
run-text-stopped told steps r m o Output s t = (run-part told steps r m o.before.bytes o.after.bytes s t.0, t.1)

-- nothing was written
pub run-text-none : (told : Meanwhile) (steps : ℕ) (r : RunData) (o : Page)
    → IsRunTextStopped told r steps (record { before = o; after = o }) Memory
run-text-none told steps r o = λ c n k.
    begun-part (begun-none (meanwhile_text told r.machine.events (started c) (seed_events c r.seed (n + steps))) o.bytes o.bytes refl)

-- behind what was written of the first steps
pub run-tables-join : RunTablesJoin
run-tables-join c seed n steps rows done =
    let (more, parts) = picked-begins c.settings (program (started c)) n steps (seeded seed) (world_at_start (started c)) in
    subst (λ es. open_table rows (started c) (seed_events c seed n)
    ++ rest_text rows (started c) done es (length (seed_events c seed n))
    ≡ table_text rows (started c) done es) (sym parts)
    (tables-join rows (started c) done (seed_events c seed n) more)

-- ---- its trace

told-further : (shown : Shown) (steps : ℕ) (r : RunData) (m : Machine) (done : Bool) (text : List ℕ) → Settles r.machine m
    → IsFurtherTrace shown m (next_events r steps m) done text → IsRunTrace shown r steps done text
told-further shown steps r m done text s t = λ c n k.
    let es = seed_events c r.seed n in
    let settled = counted-settled c n r m k s in
    subst (λ all. IsTraceOf (started c) (shown_behind r.machine.events shown) all done text) (further c n steps r m k settled)
    (subst (λ first. IsTraceOf (started c) (shown_behind first shown) (es ++ next_events r steps m) done text) (sym k.counted.events)
    (t c es r.counts settled))

begun-further : (shown : Shown) (steps : ℕ) (r : RunData) (m : Machine) (a b : Option (List ℕ)) → Settles r.machine m
    → IsFurtherBegun shown m (next_events r steps m) a b → IsRunTraceBegun shown r steps a b
begun-further shown steps r m a b s t = λ c n k.
    let es = seed_events c r.seed n in
    let settled = counted-settled c n r m k s in
    subst (λ all. IsTraceBegun (started c) (shown_behind r.machine.events shown) all a b) (further c n steps r m k settled)
    (subst (λ first. IsTraceBegun (started c) (shown_behind first shown) (es ++ next_events r steps m) a b) (sym k.counted.events)
    (t c es r.counts settled))

pub run-traced : (shown : Shown) (steps : ℕ) (r : RunData) (m : Machine) (a b : Option (List ℕ)) (done : Bool) → Settles r.machine m
    → StandsBehind (IsFurtherTrace shown m (next_events r steps m)) a b done → StandsBehind (IsRunTrace shown r steps) a b done
run-traced shown steps r m a b done s t =
    record { text = t.text; is = told-further shown steps r m done t.text s t.is; whole = t.whole }

pub run-trace-broken : (shown : Shown) (steps : ℕ) (r : RunData) (m : Machine) (o : Written) (broken : Broken) → Settles r.machine m
    → BrokeOff (IsFurtherTrace shown m (next_events r steps m)) (IsFurtherBegun shown m (next_events r steps m)) o broken
    → BrokeOff (IsRunTrace shown r steps) (IsRunTraceBegun shown r steps) o broken
run-trace-broken shown steps r m o Memory s t = begun-further shown steps r m o.before.bytes o.after.bytes s t
run-trace-broken shown steps r m o Output s (inl t, rose) =
    (inl (begun-further shown steps r m o.before.bytes o.after.bytes s t), rose)
run-trace-broken shown steps r m o Output s (inr t, rose) = (
  inr (record {
    done = t.done;
    text = t.text;
    is = told-further shown steps r m t.done t.text s t.is;
    n = t.n;
    short = t.short;
    cut = t.cut;
  }),
  rose,
)

-- nothing was written
pub run-trace-none : (shown : Shown) (steps : ℕ) (r : RunData) (a : Option (List ℕ)) → IsRunTraceBegun shown r steps a a
run-trace-none shown steps r a = λ c n k.
    begun-further shown steps r r.machine a a (record { history = refl; unsent = k.counted.settled; events = refl; code = refl })
    (further-none r.machine shown (next_events r steps r.machine) a) c n k

-- commits were forgotten
pub run-still : (r : RunData) (m : Machine) → StillKeeps r.machine m → (c : Contents) (n : ℕ) → IsRunOf c n r
    → IsRunOf c n (record { machine = m; counts = r.counts; seed = r.seed; drawn = r.drawn })
run-still r m f c n k = record {
  counted = counted-still c (seed_events c r.seed n) r.machine m r.counts k.counted f;
  drawn = k.drawn;
}

-- what was counted so far
pub run-counted : (r : RunData) (done : Bool) → IsAllowed (settings_of r.machine)
    → (IsTrue done ↔ IsDone (settings_of r.machine) (world_of r.machine)) → (c : Contents) (n : ℕ) → IsRunOf c n r
    → IsCounted (started c) (seed_events c r.seed n) done r.machine.events r.counts
run-counted r done allowed is c n k =
    is-counted c (seed_events c r.seed n) r.machine r.counts done r.machine.events
    (subst (λ (x : Contents). IsAllowed x.settings) k.counted.code allowed) k.counted is refl
