-- The whole of a trace, and where it breaks off.
use Rattle.std.proofs.Common.{◌≡◌, ℕ, zero, suc, ◌+◌, ◌≤◌, ◌↔◌, Bool, true, false, List, [], ◌∷◌, ◌++◌, drop, length, take, Option}
use Rattle.std.proofs.Common.{IsTrue, append-nil, append_assoc, inl, inr, refl, ap, sym, ◌∙◌, subst, arith}
use Rattle.std.proofs.Math.Seq.{take-append-add}
use Rattle.std.proofs.lemmas.List.{length-append}
use Rattle.std.specs.Io.KnownBytes.{Appends}
use Rattle.image_load.specs.Contents.{Contents, started}
use Rattle.image_load.specs.Start.{Start, first_ram}
use Rattle.rv_code.specs.Machine.{program}
use Rattle.schedule_text.specs.Grammar.{joined}
use Rattle.tcc_base.specs.Settings.{Settings}
use Rattle.base_lemmas.proofs.Lemmas.{appends-more, appends-none}
use Rattle.rules_bus.specs.Useful.{BusIsDone}
use Rattle.theorem_bus.specs.Given.{bus_at_start}
use Rattle.bus_tcc.specs.Machine.{bus_history_of, bus_settings_of, bus_start_of, bus_world_of}
use Rattle.bus_tcc.specs.Refined.{IsBusRefined}
use Rattle.bus_tool.specs.Running.{bus_picked_by}
use Rattle.bus_trace.specs.Text.{bus_event_texts, bus_head_text, bus_text_from}
use Rattle.bus_trace.proofs.Lemmas.{bus_trace-parts}
use Rattle.bus_changes.specs.Text.{bus_all_lines, bus_facts_alone, bus_shown_from, bus_shown_text, bus_shown_texts, bus_states_text}
use Rattle.bus_changes.specs.Text.{bus_with_records}
use Rattle.bus_changes.proofs.Lemmas.{plain-events}
use Rattle.watch_trace.specs.Text.{tail_text}
use Rattle.text_runs.specs.Pieces.{IsCut, IsEndCut, IsPart, IsStopped, IsTold, window}
use Rattle.tcc_world.specs.Page.{Written}
use Rattle.text_runs.specs.declared.pieces.Broken.{Broken}
use Rattle.text_runs.specs.declared.pieces.Broken.TheVariants.{Memory, Output}
use Rattle.text_runs.proofs.Lemmas.{rose-later}
use Rattle.bus_run.specs.Going.{GoneOn, Led, Starts, coming, texts}
use Rattle.bus_run.specs.Laws.{gone-more, gone-none}
use Rattle.bus_run.specs.Shown.{IsAllTold, lines_coming}
use Rattle.bus_run.specs.Traced.{IsBusTraceBroken, IsBusTraceCut, IsBusTraced, bus_events_by, bus_lines_by, bus_trace_by}
use Rattle.bus_run.specs.declared.running.BusRun.{BusRun}
use Rattle.bus_run.proofs.Leading.{as-many, coming-first, leads}

-- ---- first parts

joined-append : (xs ys : List (List ℕ)) → joined (xs ++ ys) ≡ joined xs ++ joined ys
joined-append [] ys = refl
joined-append (x ∷ xs) ys = ap (λ zs. x ++ zs) (joined-append xs ys) ∙ sym (append_assoc x (joined xs) (joined ys))

-- what is shown of some texts comes first in what is shown of more
window-longer : (from : ℕ) (xs ys : List (List ℕ)) → (rest : List ℕ) × (window from (xs ++ ys) ≡ window from xs ++ rest)
window-longer zero xs ys = (joined ys, joined-append xs ys)
window-longer (suc n) [] ys = (joined (drop (suc n) ys), refl)
window-longer (suc n) (x ∷ xs) ys = window-longer n xs ys

take-longer : (n : ℕ) (xs ys : List ℕ) → (k : ℕ) × (take n xs ≡ take k (xs ++ ys))
take-longer zero [] ys = (0, refl)
take-longer zero (x ∷ xs) ys = (0, refl)
take-longer (suc n) [] ys = (0, refl)
take-longer (suc n) (x ∷ xs) ys = let r = take-longer n xs ys in (suc r.0, ap (λ zs. x ∷ zs) r.1)

part-longer : (xs ys : List ℕ) (a b : Option (List ℕ)) → IsPart xs a b → IsPart (xs ++ ys) a b
part-longer xs ys a b (n, p) = let r = take-longer n xs ys in (r.0, subst (Appends a b) r.1 p)

-- nothing is appended
none-appended : (x : Option (List ℕ)) (bytes : List ℕ) → Appends x x (take 0 bytes)
none-appended x [] = appends-none x
none-appended x (b ∷ bytes) = appends-none x

-- ---- from the start

-- what is held first
pub head-is : (from : ℕ) (d : Contents) (r : BusRun) (s : Settings) (none text : List ℕ) → none ≡ [] → s ≡ bus_settings_of r.system
    → r.system.code ≡ d → text ≡ none ++ bus_head_text s from → text ≡ bus_head_text d.settings from
head-is from d r s none text n k c e =
    e ∙ ap (λ xs. xs ++ bus_head_text s from) n ∙ ap (λ x. bus_head_text x from) (k ∙ ap (λ (x : Contents). x.settings) c)

-- events came from the start on, and what is held with the texts to come is the trace without its last lines
pub record Ready (states : Bool) (c : Contents) (seed steps from : ℕ) (first r : BusRun) (held : List ℕ) (k : ℕ) : Type 0 where
  pub starts : Starts c seed steps first
  pub gone : GoneOn first r
  pub lines : held ++ window k (texts states r.system (coming r)) ≡ bus_lines_by states (started c) seed steps from

-- without records, before the first event
pub facts-ready : (c : Contents) (seed steps from : ℕ) (r : BusRun) (held : List ℕ) → Starts c seed steps r
    → held ≡ bus_head_text c.settings from → Ready false c seed steps from r r held from
unfolding started bus_text_from
facts-ready c seed steps from r held s e =
    let told : texts false r.system (coming r)
    ≡ bus_event_texts c.settings (program (started c)) (bus_picked_by (started c) seed steps) (bus_at_start (started c)) =
    (λ i. bus_shown_texts bus_facts_alone (s.code i).settings (program (started (s.code i))) (coming-first c seed steps r s i)
    (s.history i))
    ∙ plain-events c.settings (program (started c)) (bus_picked_by (started c) seed steps) (bus_at_start (started c)) in
    record { starts = s; gone = gone-none r; lines = λ i. e i ++ window from (told i) }

lines-first : (c : Contents) (seed steps from : ℕ) (first : BusRun) → Starts c seed steps first
    → lines_coming from first ≡ bus_events_by true (started c) seed steps from
unfolding started
lines-first c seed steps from first s = λ i.
    bus_shown_from (bus_with_records (started (s.code i))) (s.code i).settings (program (started (s.code i))) from
    (coming-first c seed steps first s i) (s.history i)

lines-begin : (r : BusRun)
    → lines_coming 0 r
    ≡ bus_all_lines (bus_settings_of r.system) (first_ram (bus_start_of r.system)) (bus_world_of r.system)
    ++ joined (texts true r.system (coming r))
unfolding bus_shown_from bus_history_of started
lines-begin r = refl

-- with records, where the window begins
pub states-ready : (c : Contents) (seed steps from : ℕ) (first r : BusRun) (head held : List ℕ) → Starts c seed steps first
    → GoneOn first r → head ≡ bus_head_text c.settings from → lines_coming from first ≡ lines_coming 0 r
    → held ≡ head ++ bus_all_lines (bus_settings_of r.system) (first_ram (bus_start_of r.system)) (bus_world_of r.system)
    → Ready true c seed steps from first r held 0
unfolding started
states-ready c seed steps from first r head held s g e l t =
    let all = bus_all_lines (bus_settings_of r.system) (first_ram (bus_start_of r.system)) (bus_world_of r.system) in
    let later = joined (texts true r.system (coming r)) in
    record {
      starts = s;
      gone = g;
      lines = ap (λ xs. xs ++ later) t ∙ append_assoc head all later ∙ ap (λ xs. head ++ xs) (sym (lines-begin r))
          ∙ (λ i. e i ++ (sym l ∙ lines-first c seed steps from first s) i);
    }

-- what was written of the first texts is a first part of all
begun-part : (states : Bool) (c : Contents) (seed steps from : ℕ) (first r n : BusRun) (held : List ℕ) (k : ℕ) (told : List (List ℕ))
    (a b : Option (List ℕ)) → Ready states c seed steps from first r held k → Led states r n told → IsPart (held ++ window k told) a b
    → IsPart (bus_lines_by states (started c) seed steps from) a b
begun-part states c seed steps from first r n held k told a b s l p =
    let rest = window-longer k told (texts states n.system (coming n)) in
    let all : (held ++ window k told) ++ rest.0 ≡ bus_lines_by states (started c) seed steps from =
    append_assoc held (window k told) rest.0 ∙ ap (λ xs. held ++ xs) (sym rest.1)
    ∙ ap (λ xs. held ++ window k xs) (sym l.texts_are) ∙ s.lines in
    subst (λ xs. IsPart xs a b) all (part-longer (held ++ window k told) rest.0 a b p)

pub stopped-broken : {Run : Type 0} (run_of : Run → BusRun) (states : Bool) (c : Contents) (seed steps from : ℕ) (first r : BusRun)
    (held : List ℕ) (k : ℕ) (o : Written) (b : Broken) → Ready states c seed steps from first r held k
    → IsStopped (λ n. Led states r (run_of n)) k held o b → IsBusTraceBroken states (started c) seed steps from o b
stopped-broken run_of states c seed steps from first r held k o Memory s h =
    begun-part states c seed steps from first r (run_of h.at) held k h.texts o.before.bytes o.after.bytes s h.led h.part
stopped-broken run_of states c seed steps from first r held k o Output s (h, rose) =
    (inl (begun-part states c seed steps from first r (run_of h.at) held k h.texts o.before.bytes o.after.bytes s h.led h.part), rose)

-- ---- all events came

-- all texts of the run
all-texts : (states : Bool) (r n : BusRun) (told : List (List ℕ)) → Led states r n told → coming n ≡ []
    → texts states r.system (coming r) ≡ told
unfolding bus_shown_texts
all-texts states r n told l e = l.texts_are ∙ ap (λ es. told ++ texts states n.system es) e ∙ append-nil told

pub told-all : (states : Bool) (c : Contents) (seed steps from : ℕ) (first r n : BusRun) (held now : List ℕ) (k : ℕ)
    (x y : Option (List ℕ)) → Ready states c seed steps from first r held k → IsTold (Led states r n) (coming n ≡ []) k held now x y
    → IsAllTold states c seed steps from n now x y
told-all states c seed steps from first r n held now k x y s t = record {
  first = first;
  starts = s.starts;
  gone = gone-more first r n s.gone t.led.gone;
  end = t.end;
  written = t.put.written;
  all = sym s.lines ∙ ap (λ ts. held ++ window k ts) (all-texts states r n t.texts t.led t.end) ∙ t.put.all;
  appended = t.put.appended;
}

-- fewer came than are skipped
pub told-none : (c : Contents) (seed steps from : ℕ) (first r : BusRun) (held : List ℕ) (x : Option (List ℕ)) → Starts c seed steps first
    → held ≡ bus_head_text c.settings from → GoneOn first r → coming r ≡ [] → lines_coming from first ≡ []
    → IsAllTold true c seed steps from r held x x
unfolding started
told-none c seed steps from first r held x s e g end none = record {
  first = first;
  starts = s;
  gone = g;
  end = end;
  written = [];
  all = (λ i. sym e i ++ (sym (lines-first c seed steps from first s) ∙ none) i) ∙ append-nil held;
  appended = none-appended x [];
}

-- ---- the whole text

trace-is : (states : Bool) (s : Start) (seed steps from : ℕ) (done : Bool)
    → bus_trace_by states s seed steps from done
    ≡ bus_lines_by states s seed steps from ++ tail_text done (length (bus_picked_by s seed steps))
unfolding bus_states_text bus_shown_text
trace-is false s seed steps from done = bus_trace-parts s (bus_at_start s).world from (bus_picked_by s seed steps) done
trace-is true s seed steps from done = refl

-- what was put out, what is held and the last lines are the trace
whole-is : (states : Bool) (c : Contents) (seed steps from : ℕ) (n : BusRun) (now : List ℕ) (x y : Option (List ℕ)) (done : Bool)
    → (t : IsAllTold states c seed steps from n now x y)
    → t.written ++ (now ++ tail_text done n.system.events) ≡ bus_trace_by states (started c) seed steps from done
whole-is states c seed steps from n now x y done t =
    let tail = tail_text done n.system.events in
    sym (append_assoc t.written now tail) ∙ ap (λ xs. xs ++ tail) (sym t.all)
    ∙ ap (λ k. bus_lines_by states (started c) seed steps from ++ tail_text done k) (as-many c seed steps t.first n t.starts t.gone t.end)
    ∙ sym (trace-is states (started c) seed steps from done)

pub traced : (states : Bool) (c : Contents) (seed steps from : ℕ) (n : BusRun) (now : List ℕ) (x y z : Option (List ℕ)) (done : Bool)
    → IsAllTold states c seed steps from n now x y
    → IsBusRefined n.system → IsTrue done ↔ BusIsDone (bus_settings_of n.system) (bus_world_of n.system)
    → Appends y z (now ++ tail_text done n.system.events) → IsBusTraced states (started c) seed steps from x z done
traced states c seed steps from n now x y z done t k is p = record {
  ends = bus_history_of n.system;
  leads = leads c seed steps t.first n done t.starts t.gone t.end k is;
  whole = subst (Appends x z) (whole-is states c seed steps from n now x y done t)
      (appends-more x y z t.written (now ++ tail_text done n.system.events) t.appended p);
}

-- ---- a trace that broke off at its end

ended-part : (states : Bool) (c : Contents) (seed steps from : ℕ) (n : BusRun) (now : List ℕ) (x y z : Option (List ℕ))
    → IsAllTold states c seed steps from n now x y → IsPart now y z → IsPart (bus_lines_by states (started c) seed steps from) x z
ended-part states c seed steps from n now x y z t (j, p) = (
  length t.written + j,
  subst (Appends x z) (sym (take-append-add t.written now j) ∙ ap (take (length t.written + j)) (sym t.all))
      (appends-more x y z t.written (take j now) t.appended p),
)

ended-cut : (states : Bool) (c : Contents) (seed steps from : ℕ) (n : BusRun) (now : List ℕ) (x y z : Option (List ℕ)) (done : Bool)
    → IsAllTold states c seed steps from n now x y
    → IsBusRefined n.system → IsTrue done ↔ BusIsDone (bus_settings_of n.system) (bus_world_of n.system)
    → IsCut (now ++ tail_text done n.system.events) y z → IsBusTraceCut states (started c) seed steps from x z
ended-cut states c seed steps from n now x y z done t k is (j, short, p) =
    let rest = now ++ tail_text done n.system.events in
    let whole = whole-is states c seed steps from n now x y done t in
    let long = length-append t.written rest in
    let all = ap length whole in
    record {
      done = done;
      ends = bus_history_of n.system;
      leads = leads c seed steps t.first n done t.starts t.gone t.end k is;
      cut = (
        length t.written + j,
        omega (arith, short, long, all),
        subst (Appends x z) (sym (take-append-add t.written rest j) ∙ ap (take (length t.written + j)) whole)
            (appends-more x y z t.written (take j rest) t.appended p),
      );
    }

pub ended-broken : (states : Bool) (c : Contents) (seed steps from : ℕ) (n : BusRun) (now : List ℕ) (x : Option (List ℕ)) (o : Written)
    (f : ℕ) (done : Bool) (b : Broken) → IsAllTold states c seed steps from n now x o.before.bytes → f ≤ o.before.faults
    → IsBusRefined n.system → IsTrue done ↔ BusIsDone (bus_settings_of n.system) (bus_world_of n.system)
    → IsEndCut now (tail_text done n.system.events) o b
    → IsBusTraceBroken states (started c) seed steps from
    (record { before = record { bytes = x; faults = f }; after = o.after }) b
ended-broken states c seed steps from n now x o f done Memory t l k is h =
    ended-part states c seed steps from n now x o.before.bytes o.after.bytes t h
ended-broken states c seed steps from n now x o f done Output t l k is (inl h, rose) =
    (inl (ended-part states c seed steps from n now x o.before.bytes o.after.bytes t h), rose-later f o.before.faults o.after.faults l rose)
ended-broken states c seed steps from n now x o f done Output t l k is (inr h, rose) = (
  inr (ended-cut states c seed steps from n now x o.before.bytes o.after.bytes done t k is h),
  rose-later f o.before.faults o.after.faults l rose,
)
