-- The whole of a trace, and where it breaks off.
use Rattle.std.proofs.Common.{◌≡◌, ℕ, ◌+◌, ◌<◌, ◌≤◌, ◌↔◌, Bool, true, false, List, [], ◌++◌, length, append-nil, append_assoc, IsTrue}
use Rattle.std.proofs.Common.{Option, inl, inr, refl, ap, sym, ◌∙◌, subst, arith, take}
use Rattle.std.proofs.Math.Seq.{take-append-add}
use Rattle.std.proofs.lemmas.List.{length-append}
use Rattle.std.specs.Io.KnownBytes.{Appends}
use Rattle.image_load.specs.Contents.{Contents, started}
use Rattle.image_load.specs.Start.{Start}
use Rattle.rv_code.specs.Machine.{program}
use Rattle.rules_riscv.specs.Starting.{world_at_start, at_start}
use Rattle.tcc_base.specs.Settings.{IsAllowed}
use Rattle.base_lemmas.proofs.Lemmas.{appends-more, appends-none}
use Rattle.rules_maps.specs.Nodes.{Event}
use Rattle.rules_tcc.specs.Seen.{IsDone}
use Rattle.rules_tcc.specs.State.{World}
use Rattle.rules_tcc.specs.Step.{History, run, run_from}
use Rattle.tcc_world.specs.Faults.{Rose}
use Rattle.net_core.specs.Machine.{Machine, history_of, settings_of, world_of}
use Rattle.watch_trace.specs.Text.{head_text, tail_text}
use Rattle.watch_trace.proofs.Lemmas.{trace-parts}
use Rattle.watch_changes.specs.Text.{shown_from, shows, states_text}
use Rattle.watch_changes.proofs.Lemmas.{plain-from, shown-parts}
use Rattle.watch_count.specs.Counts.{Counts, nothing_counted}
use Rattle.watch_run.specs.Going.{Went}
use Rattle.watch_run.specs.Looked.{HasCounted}
use Rattle.watch_run.specs.Shown.{lines_with, shown_lines, shown_trace, trace_with}
use Rattle.watch_run.specs.Telling.{lines_from}
use Rattle.watch_run.specs.Traces.{BrokeOff, IsFurtherBegun, IsFurtherTrace, StandsBehind, StandsCut, shown_behind}
use Rattle.watch_run.specs.Written.{HasBegun, IsEndCut, IsEnded, IsPart, IsPut, IsStopped, IsTraceBegun, IsTraceBroken, IsTraced}
use Rattle.watch_run.specs.Written.{LeadsTo}
use Rattle.tcc_world.specs.Page.{Written}
use Rattle.watch_run.specs.declared.telling.Shown.{Shown}
use Rattle.watch_run.specs.declared.tracing.Broken.{Broken}
use Rattle.watch_run.specs.declared.tracing.Broken.TheVariants.{Memory, Output}
use Rattle.watch_run.proofs.Further.{lines-along, passed-over, ran-along}
use Rattle.watch_run.proofs.Leading.{StartsAt, leads-kept}
use Rattle.watch_run.proofs.Tallies.{counted-none}
use Rattle.watch_run.proofs.Written.{put-cut}

-- a count that rose later rose
pub rose-later : (a b c : ℕ) → a ≤ b → Rose b c → Rose a c
rose-later a b c h r = omega (arith, h, r)

-- ---- the last lines

-- what was held stands whole, and of the last lines a first part
pub end-cut : (held tail none more : List ℕ) (a b c : Option (List ℕ)) (n : ℕ) → Appends a b held → none ≡ [] → more ≡ none ++ tail
    → n < length more → Appends b c (take n more)
    → (k : ℕ) × (k < length (held ++ tail)) × Appends a c (take k (held ++ tail))
end-cut held tail none more a b c n p e m h q =
    let is : more ≡ tail = m ∙ ap (λ xs. xs ++ tail) e in
    let short : n < length tail = subst (λ xs. n < length xs) is h in
    let all = length-append held tail in (
      length held + n,
      omega (arith, short, all),
      subst (Appends a c) (sym (take-append-add held tail n))
          (appends-more a b c held (take n tail) p (subst (λ xs. Appends b c (take n xs)) is q)),
    )

-- nothing was written
pub begun-none : (lines : List Event → List ℕ) (held : List ℕ) (es : List Event) (a : Option (List ℕ)) → HasBegun lines held es a a
begun-none lines held es a = record { firsts = []; left = es; parts = refl; n = 0; appended = appends-none a }

-- ---- the lines of a machine's further events are those of all events behind it

lines-first : (b : Bool) (s : Start) (from : ℕ) (es : List Event) (h : History)
    → shown_from (shows b s) s.settings (program s) from es h ≡ lines_with b s from es h
lines-first false s from es h = plain-from s.settings (program s) from es h
lines-first true s from es h = refl

lines-further : (c : Contents) (es : List Event) (m : Machine) (counts : Counts) (shown : Shown) (more : List Event)
    → HasCounted c es m counts
    → lines_from shown m more ≡ shown_lines (shown_behind (length es) shown) (started c) (es ++ more) (at_start (started c))
unfolding run started
lines-further c es m counts shown more h =
    let x = shows shown.states (started c) in
    (λ i. shown_from (shows shown.states (started (h.code i))) (h.code i).settings (program (started (h.code i))) shown.from more
    (history_of m))
    ∙ lines-along x (started c) es more (history_of m) h.ends shown.from h.ran h.kept
    ∙ sym (passed-over x c.settings (program (started c)) es more (at_start (started c)) h.ends shown.from h.ran)
    ∙ lines-first shown.states (started c) (length es + shown.from) (es ++ more) (at_start (started c))

head-further : (c : Contents) (es : List Event) (m : Machine) (counts : Counts) (shown : Shown) (held : List ℕ) → HasCounted c es m counts
    → held ≡ head_text (settings_of m) (m.events + shown.from) → held ≡ head_text c.settings (length es + shown.from)
head-further c es m counts shown held h e = e ∙ (λ i. head_text (h.code i).settings (h.events i + shown.from))

pub begun-further : (m : Machine) (shown : Shown) (held : List ℕ) (more : List Event) (a b : Option (List ℕ))
    → held ≡ head_text (settings_of m) (m.events + shown.from) → HasBegun (lines_from shown m) held more a b
    → IsFurtherBegun shown m more a b
unfolding started
begun-further m shown held more a b e g = λ c es counts h.
    record {
      firsts = es ++ g.firsts;
      left = g.left;
      parts = ap (λ xs. es ++ xs) g.parts ∙ sym (append_assoc es g.firsts g.left);
      n = g.n;
      appended = subst (λ xs. Appends a b (take g.n xs))
          (λ i. head-further c es m counts shown held h e i ++ lines-further c es m counts shown g.firsts h i) g.appended;
    }

-- memory ran out before anything was written
pub further-none : (m : Machine) (shown : Shown) (more : List Event) (a : Option (List ℕ)) → IsFurtherBegun shown m more a a
further-none m shown more a = begun-further m shown _ more a a refl (begun-none _ _ _ a)

-- it broke off before the last lines
pub stopped-further : (m : Machine) (shown : Shown) (held : List ℕ) (more : List Event) (o : Written) (b : Broken)
    → held ≡ head_text (settings_of m) (m.events + shown.from) → IsStopped (lines_from shown m) held more o b
    → BrokeOff (IsFurtherTrace shown m more) (IsFurtherBegun shown m more) o b
stopped-further m shown held more o Memory e h = begun-further m shown held more o.before.bytes o.after.bytes e h
stopped-further m shown held more o Output e (h, rose) = (inl (begun-further m shown held more o.before.bytes o.after.bytes e h), rose)

-- ---- the whole text

-- with records or without, a trace is its first lines, the events, and its last lines
with-parts : (b : Bool) (s : Start) (first : World) (from : ℕ) (es : List Event) (done : Bool)
    → trace_with b s first from es done
    ≡ head_text s.settings from ++ lines_with b s from es (record { world = first; commits = [] }) ++ tail_text done (length es)
unfolding states_text
with-parts false s first from es done = trace-parts s first from es done
with-parts true s first from es done = shown-parts (shows true s) s first from es done

-- what was put out, what is held and the last lines are the trace of all events
whole-further : (c : Contents) (es : List Event) (m n : Machine) (counts : Counts) (shown : Shown) (held now : List ℕ) (more : List Event)
    (x y : Option (List ℕ)) (done : Bool) → HasCounted c es m counts → held ≡ head_text (settings_of m) (m.events + shown.from)
    → Went m n more → (p : IsPut held now x y (lines_from shown m more))
    → p.written ++ (now ++ tail_text done n.events)
    ≡ shown_trace (shown_behind (length es) shown) (started c) (world_at_start (started c)) (es ++ more) done
unfolding started
whole-further c es m n counts shown held now more x y done h e w p =
    let a = w.events in let b = h.events in let all = length-append es more in
    let number : n.events ≡ length (es ++ more) = omega (arith, a, b, all) in
    sym (append_assoc p.written now (tail_text done n.events))
    ∙ ap (λ xs. xs ++ tail_text done n.events) (sym p.all)
    ∙ (λ i. (head-further c es m counts shown held h e i ++ lines-further c es m counts shown more h i) ++ tail_text done (number i))
    ∙ sym (with-parts shown.states (started c) (world_at_start (started c)) (length es + shown.from) (es ++ more) done)

further-is : (m n : Machine) (shown : Shown) (held now : List ℕ) (more : List Event) (x y : Option (List ℕ)) (done : Bool)
    → IsAllowed (settings_of m) → held ≡ head_text (settings_of m) (m.events + shown.from) → Went m n more
    → (p : IsPut held now x y (lines_from shown m more)) → (IsTrue done ↔ IsDone (settings_of n) (world_of n))
    → IsFurtherTrace shown m more done (p.written ++ (now ++ tail_text done n.events))
unfolding started
further-is m n shown held now more x y done allowed e w p is = λ c es counts h.
    let along = ran-along (started c) es more (history_of m) h.ends (history_of n) h.ran h.kept
    ((λ i. run_from (sym h.code i).settings (program (started (sym h.code i))) more (history_of m)) ∙ w.ran) in
    record {
      ends = along.later;
      leads = leads-kept c (es ++ more) n along.later done (subst (λ (k : Contents). IsAllowed k.settings) h.code allowed) along.ran
          along.keeps (w.code ∙ h.code) is;
      text_is = whole-further c es m n counts shown held now more x y done h e w p;
    }

pub traced-further : (m n : Machine) (shown : Shown) (held now : List ℕ) (more : List Event) (x y z : Option (List ℕ)) (done : Bool)
    → IsAllowed (settings_of m) → held ≡ head_text (settings_of m) (m.events + shown.from) → Went m n more
    → IsPut held now x y (lines_from shown m more) → IsEnded (settings_of n) (world_of n) now n.events y z done
    → StandsBehind (IsFurtherTrace shown m more) x z done
traced-further m n shown held now more x y z done allowed e w p (is, tail) = record {
  text = p.written ++ (now ++ tail_text done n.events);
  is = further-is m n shown held now more x y done allowed e w p is;
  whole = appends-more x y z p.written (now ++ tail_text done n.events) p.appended tail;
}

-- it broke off at its end
ended-part : (m : Machine) (shown : Shown) (held now : List ℕ) (more : List Event) (x y z : Option (List ℕ))
    → held ≡ head_text (settings_of m) (m.events + shown.from) → IsPut held now x y (lines_from shown m more) → IsPart now y z
    → IsFurtherBegun shown m more x z
ended-part m shown held now more x y z e p (k, part) =
    let cut = put-cut held now _ x y z k p part in
    begun-further m shown held more x z e (record { firsts = more; left = []; parts = sym (append-nil more); n = cut.0; appended = cut.1 })

ended-cut : (m n : Machine) (shown : Shown) (held now : List ℕ) (more : List Event) (x y z : Option (List ℕ)) (done : Bool) (k : ℕ)
    → IsAllowed (settings_of m) → held ≡ head_text (settings_of m) (m.events + shown.from) → Went m n more
    → IsPut held now x y (lines_from shown m more) → (IsTrue done ↔ IsDone (settings_of n) (world_of n))
    → k < length (now ++ tail_text done n.events) → Appends y z (take k (now ++ tail_text done n.events))
    → StandsCut (IsFurtherTrace shown m more) x z
ended-cut m n shown held now more x y z done k allowed e w p is short cut =
    let rest = now ++ tail_text done n.events in
    let long = length-append p.written rest in
    record {
      done = done;
      text = p.written ++ rest;
      is = further-is m n shown held now more x y done allowed e w p is;
      n = length p.written + k;
      short = omega (arith, short, long);
      cut = subst (Appends x z) (sym (take-append-add p.written rest k)) (appends-more x y z p.written (take k rest) p.appended cut);
    }

pub ended-broken : (m n : Machine) (shown : Shown) (held now : List ℕ) (more : List Event) (x : Option (List ℕ)) (o : Written) (b : Broken)
    (f : ℕ) → IsAllowed (settings_of m) → held ≡ head_text (settings_of m) (m.events + shown.from) → Went m n more
    → IsPut held now x o.before.bytes (lines_from shown m more) → f ≤ o.before.faults
    → IsEndCut (settings_of n) (world_of n) now n.events o b
    → BrokeOff (IsFurtherTrace shown m more) (IsFurtherBegun shown m more)
    (record { before = record { bytes = x; faults = f }; after = o.after }) b
ended-broken m n shown held now more x o Memory f allowed e w p l h = ended-part m shown held now more x o.before.bytes o.after.bytes e p h
ended-broken m n shown held now more x o Output f allowed e w p l (inl h, rose) =
    (inl (ended-part m shown held now more x o.before.bytes o.after.bytes e p h), rose-later f o.before.faults o.after.faults l rose)
ended-broken m n shown held now more x o Output f allowed e w p l (inr (done, k, is, short, cut), rose) = (
  inr (ended-cut m n shown held now more x o.before.bytes o.after.bytes done k allowed e w p is short cut),
  rose-later f o.before.faults o.after.faults l rose,
)

-- ---- the further events of a machine that has taken none are all

-- behind no event all is shown as it was asked for
behind-none : (shown : Shown) → shown_behind 0 shown ≡ shown
behind-none shown =
    let same : 0 + shown.from ≡ shown.from = omega arith in
    ap (λ n. record shown { from = n }) same

pub traced-there : (c : Contents) (m : Machine) (shown : Shown) (es fs : List Event) (x y : Option (List ℕ)) (done : Bool) → StartsAt c m
    → m.events ≡ 0 → m.unsent ≡ [] → es ≡ fs → StandsBehind (IsFurtherTrace shown m es) x y done → IsTraced (started c) shown fs x y done
traced-there c m shown es fs x y done s z u e t =
    let is = t.is c [] (nothing_counted c.settings.cores) (counted-none c m (nothing_counted c.settings.cores) s z u refl) in
    record {
      ends = is.ends;
      leads = subst (λ xs. LeadsTo (started c) xs done is.ends) e is.leads;
      whole = subst (Appends x y)
          (is.text_is ∙ (λ i. shown_trace (behind-none shown i) (started c) (world_at_start (started c)) (e i) done)) t.whole;
    }

begun-there : (c : Contents) (m : Machine) (shown : Shown) (es fs : List Event) (x y : Option (List ℕ)) → StartsAt c m → m.events ≡ 0
    → m.unsent ≡ [] → es ≡ fs → IsFurtherBegun shown m es x y → IsTraceBegun (started c) shown fs x y
begun-there c m shown es fs x y s z u e t =
    subst (λ xs. IsTraceBegun (started c) shown xs x y) e
    (subst (λ k. IsTraceBegun (started c) k es x y) (behind-none shown)
    (t c [] (nothing_counted c.settings.cores) (counted-none c m (nothing_counted c.settings.cores) s z u refl)))

pub broken-there : (c : Contents) (m : Machine) (shown : Shown) (es fs : List Event) (o : Written) (b : Broken) → StartsAt c m
    → m.events ≡ 0 → m.unsent ≡ [] → es ≡ fs → BrokeOff (IsFurtherTrace shown m es) (IsFurtherBegun shown m es) o b
    → IsTraceBroken (started c) shown fs o b
broken-there c m shown es fs o Memory s z u e t = begun-there c m shown es fs o.before.bytes o.after.bytes s z u e t
broken-there c m shown es fs o Output s z u e (inl t, rose) =
    (inl (begun-there c m shown es fs o.before.bytes o.after.bytes s z u e t), rose)
broken-there c m shown es fs o Output s z u e (inr t, rose) = (
  inr (let is = t.is c [] (nothing_counted c.settings.cores) (counted-none c m (nothing_counted c.settings.cores) s z u refl) in
      let whole = is.text_is ∙ (λ i. shown_trace (behind-none shown i) (started c) (world_at_start (started c)) (e i) t.done) in
      let long = ap length whole in
      let short = t.short in
      record {
        done = t.done;
        ends = is.ends;
        leads = subst (λ xs. LeadsTo (started c) xs t.done is.ends) e is.leads;
        n = t.n;
        short = omega (arith, long, short);
        cut = subst (λ xs. Appends o.before.bytes o.after.bytes (take t.n xs)) whole t.cut;
      }),
  rose,
)
