-- What was counted or traced of a run, as what is told of it.
use Rattle.std.proofs.Common.{◌≡◌, ℕ, ◌≤◌, Bool, true, false, List, [], ◌∷◌, Option}
use Rattle.std.proofs.Common.{Result, Ok, Err, IfErr, IfOk, IsTrue, ◌↔◌, length, map}
use Rattle.std.proofs.Common.{inl, inr, refl, sym, ap, ◌∙◌, subst, arith, if◌then◌else◌, drop}
use Rattle.image_load.specs.Start.{Start}
use Rattle.rand_pcg.specs.Lcg.{Lcg}
use Rattle.rv_code.specs.Machine.{program}
use Rattle.theorem_riscv.specs.Going.{picked_from}
use Rattle.rules_riscv.specs.Starting.{world_at_start}
use Rattle.tcc_base.specs.Settings.{Settings}
use Rattle.tcc_world.specs.Page.{Written}
use Rattle.std.proofs.lemmas.List.{length-map}
use Rattle.tcc_cli.specs.Looks.{IsBrokenOff, IsTableStopped, IsTableTold, IsTraceStopped, IsWritten, LookedAt, broken_refusal, view_text}
use Rattle.tcc_cli.specs.Runs.{EndsBy, RunsBy, picked_by}
use Rattle.tcc_cli.specs.Schedules.{HasTaken}
use Rattle.tcc_cli.specs.declared.refusal.Refusal.{Refusal}
use Rattle.tcc_cli.specs.declared.refusal.Refusal.TheVariants as why
use Rattle.rules_maps.specs.Nodes.{Event}
use Rattle.tcc_msg.specs.Plain.{event_of}
use Rattle.tcc_msg.specs.declared.event.Event.{Event as Listed}
use Rattle.tcc_pick.specs.Words.{seeded, words}
use Rattle.rules_tcc.specs.Laws.{PickedEnds}
use Rattle.rules_tcc.specs.Picked.{picked}
use Rattle.rules_tcc.specs.Seen.{IsDone}
use Rattle.rules_tcc.specs.Step.{History}
use Rattle.net_core.specs.Machine.{Machine, history_of}
use Rattle.tcc_words.specs.declared.command.View.TheVariants.{Count, State}
use Rattle.watch_count.specs.Counts.{Counts}
use Rattle.watch_count.specs.Csv.{csv_text}
use Rattle.watch_count.specs.Text.{count_text}
use Rattle.watch_run.specs.declared.tabling.Rows.{Rows}
use Rattle.watch_run.specs.declared.telling.Shown.{Shown}
use Rattle.watch_run.specs.Looked.{IsCounted}
use Rattle.watch_run.specs.Tables.{IsTableBroken, IsTabled, table_text}
use Rattle.watch_run.specs.Written.{IsTraceBroken, LeadsTo}
use Rattle.watch_state.specs.Text.{state_text}
use Rattle.watch_run.specs.declared.tracing.Broken.{Broken}
use Rattle.watch_run.specs.declared.tracing.Broken.TheVariants.{Memory, Output}
use Rattle.tcc_cli.proofs.Taken.{as-many}

-- a seed's events at the start
pub picked-so : (s : Start) (left steps seed : ℕ) (g : Lcg) → left ≡ steps → g ≡ seeded seed
    → picked s.settings (program s) (words left g) (world_at_start s) ≡ picked_by s seed steps
picked-so s left steps seed g n e = λ i. picked_from s (words (n i) (e i))

pub picked-few : PickedEnds → (s : Start) (left steps : ℕ) (g : Lcg) → left ≡ steps
    → length (picked s.settings (program s) (words left g) (world_at_start s)) ≤ steps
picked-few ends s left steps g n =
    let most = (ends s.settings (program s) (words left g) (world_at_start s)).0 in
    let count = as-many left g in
    omega (arith, most, count, n)

-- the end of a run
pub run-so : (s : Start) (es : List Event) (d e : Bool) (h : History) → LeadsTo s es d h → e ≡ d → RunsBy s es e h
run-so s es d e h l is = record {
  is_run = l.is_run;
  is_done = subst (λ b. IsTrue b ↔ IsDone s.settings h.world) (sym is) l.is_done;
  serial = l.serial;
}

text-so : (s : Start) (settings : Settings) (es : List Event) (d e : Bool) (h : History) (n : ℕ) (counts : Counts) (csv : Bool)
    (seed : Option (ℕ × ℕ)) → IsCounted s es d n counts → settings ≡ s.settings → e ≡ d
    → (if csv then csv_text settings seed d n counts else count_text settings d n counts) ≡ view_text (Count csv) seed s e es h
text-so s settings es d e h n counts true seed k q is = λ i. csv_text (q i) seed (sym is i) (k.all i) (k.counted i)
text-so s settings es d e h n counts false seed k q is = λ i. count_text (q i) (sym is i) (k.all i) (k.counted i)

-- what was counted of a run, and its text
pub counted-so : {A E : Type 0} (s : Start) (settings : Settings) (Are : List Event → Type 0) (es : List Event) (d : Bool) (n : ℕ)
    (counts : Counts) (csv : Bool) (seed : Option (ℕ × ℕ)) (done : A → Bool) (text : A → List ℕ) (x : Result A E) → Are es
    → IsCounted s es d n counts → settings ≡ s.settings → IfOk x (λ f. done f ≡ d)
    → IfOk x (λ f. text f ≡ (if csv then csv_text settings seed d n counts else count_text settings d n counts))
    → IfOk x (λ f. LookedAt s Are (view_text (Count csv) seed s) (done f) (text f))
counted-so s settings Are es d n counts csv seed done text (Ok f) are k q is told = record {
  events = es;
  ends = k.ends;
  are = are;
  runs = run-so s es d (done f) k.ends k.leads is;
  text_is = told ∙ text-so s settings es d (done f) k.ends n counts csv seed k q is;
}
counted-so s settings Are es d n counts csv seed done text (Err e) are k q is told = tt

-- why a trace broke off, and what was written of it
pub broken-so : (s : Start) (Are : List Event → Type 0) (shown : Shown) (faulty : ℕ → Type 0) (es : List Event) (o : Written)
    (broken : Broken) (r : Refusal) → Are es → r ≡ broken_refusal broken
    → IsTraceBroken s shown es o broken → IsTraceStopped s Are shown faulty o r
broken-so s Are shown faulty es o Memory r are is h = subst (IsTraceStopped s Are shown faulty o) (sym is) (inr (es, are, h))
broken-so s Are shown faulty es o Output r are is (inl h, rose) =
    subst (IsTraceStopped s Are shown faulty o) (sym is) (inr ((es, are, h), rose))
broken-so s Are shown faulty es o Output r are is (inr h, rose) =
    subst (IsTraceStopped s Are shown faulty o) (sym is)
    (inl (
      h.done,
      _,
      record {
        events = es;
        ends = h.ends;
        are = are;
        runs = run-so s es h.done h.done h.ends h.leads refl;
        text_is = refl;
      },
      (h.n, h.short, h.cut, rose),
    ))

-- a table that was written, and one that broke off
pub tabled-so : (s : Start) (Are : List Event → Type 0) (rows : Rows) (es : List Event) (o : Written) (done : Bool) → Are es
    → IsTabled rows s es o.before.bytes o.after.bytes done → IsTableTold s Are rows o done
tabled-so s Are rows es o done are t = (
  table_text rows s done es,
  record { events = es; ends = t.ends; are = are; runs = run-so s es done done t.ends t.leads refl; text_is = refl },
  t.whole,
)

pub untabled-so : (s : Start) (Are : List Event → Type 0) (rows : Rows) (faulty : ℕ → Type 0) (es : List Event) (o : Written)
    (broken : Broken) (r : Refusal) → Are es → r ≡ broken_refusal broken
    → IsTableBroken rows s es o broken → IsTableStopped s Are rows faulty o r
untabled-so s Are rows faulty es o Memory r are is h = subst (IsTableStopped s Are rows faulty o) (sym is) (inr (es, are, h))
untabled-so s Are rows faulty es o Output r are is (inl h, rose) =
    subst (IsTableStopped s Are rows faulty o) (sym is) (inr ((es, are, h), rose))
untabled-so s Are rows faulty es o Output r are is (inr h, rose) =
    subst (IsTableStopped s Are rows faulty o) (sym is)
    (inl (
      h.done,
      _,
      record {
        events = es;
        ends = h.ends;
        are = are;
        runs = run-so s es h.done h.done h.ends h.leads refl;
        text_is = refl;
      },
      (h.n, h.short, h.cut, rose),
    ))

-- the list from its first event on
pub listed-so : {A B : Type 0} (f : A → B) (at : ℕ) (xs ys : List A) → at ≡ 0 → xs ≡ ys → map f (drop at xs) ≡ map f ys
listed-so f at xs ys e q = ap (λ n. map f (drop n xs)) e ∙ ap (map f) (whole xs ∙ q)
  where
    whole : {A : Type 0} (zs : List A) → drop 0 zs ≡ zs
    whole [] = refl
    whole (z ∷ zs) = refl

-- the state of a run's end, and its text
pub state-so : {A E : Type 0} (s : Start) (P : List Listed → Type 0) (Are : List Event → Type 0) (events : ℕ) (seed : Option (ℕ × ℕ))
    (m : Machine) (done : A → Bool) (text : A → List ℕ) (x : Result A E) → (t : HasTaken s P m) → Are (map event_of t.taken)
    → IfOk x (λ f. EndsBy s (done f) (history_of m)) → IfOk x (λ f. text f ≡ state_text s (done f) m.events (history_of m))
    → IfOk x (λ f. LookedAt s Are (view_text (State events) seed s) (done f) (text f))
state-so s P Are events seed m done text (Ok f) t are ends told = record {
  events = map event_of t.taken;
  ends = history_of m;
  are = are;
  runs = ends (map event_of t.taken) t.is_run;
  text_is = told ∙ ap (λ n. state_text s (done f) n (history_of m)) (sym t.count ∙ sym (length-map t.taken event_of));
}
state-so s P Are events seed m done text (Err e) t are ends told = tt

told-by : (s : Start) (These Those : List Event → Type 0) (text_of_run : Bool → List Event → History → List ℕ) (o : Written) (done : Bool)
    → ((es : List Event) → These es → Those es) → IsWritten s These text_of_run o done → IsWritten s Those text_of_run o done
told-by s These Those text_of_run o done are (text, l, whole) =
    (text, record { events = l.events; ends = l.ends; are = are l.events l.are; runs = l.runs; text_is = l.text_is }, whole)

pub all-told-by : {E : Type 0} (s : Start) (These Those : List Event → Type 0) (text_of_run : Bool → List Event → History → List ℕ)
    (o : Written) (x : Result Bool E) → ((es : List Event) → These es → Those es) → IfOk x (IsWritten s These text_of_run o)
    → IfOk x (IsWritten s Those text_of_run o)
all-told-by s These Those text_of_run o (Ok done) are t = told-by s These Those text_of_run o done are t
all-told-by s These Those text_of_run o (Err e) are t = tt

stopped-by : (s : Start) (These Those : List Event → Type 0) (text_of_run : Bool → List Event → History → List ℕ)
    (begun : List Event → Option (List ℕ) → Option (List ℕ) → Type 0) (faulty : ℕ → Type 0) (o : Written) (r : Refusal)
    → ((es : List Event) → These es → Those es) → IsBrokenOff s These text_of_run begun (λ line. ⊥) o r
    → IsBrokenOff s Those text_of_run begun faulty o r
stopped-by s These Those text_of_run begun faulty o why.Words are h = absurd h
stopped-by s These Those text_of_run begun faulty o (why.Value field) are h = absurd h
stopped-by s These Those text_of_run begun faulty o (why.Image bad) are h = absurd h
stopped-by s These Those text_of_run begun faulty o (why.Schedule line) are h = absurd h.0
stopped-by s These Those text_of_run begun faulty o (why.Store name) are h = absurd h
stopped-by s These Those text_of_run begun faulty o why.Output are (inl (done, text, l, cut)) =
    inl (done, text, record { events = l.events; ends = l.ends; are = are l.events l.are; runs = l.runs; text_is = l.text_is }, cut)
stopped-by s These Those text_of_run begun faulty o why.Output are (inr ((es, e, h), rose)) = inr ((es, are es e, h), rose)
stopped-by s These Those text_of_run begun faulty o why.Memory are (inl h) = inl h
stopped-by s These Those text_of_run begun faulty o why.Memory are (inr (es, e, h)) = inr (es, are es e, h)

pub all-stopped-by : {A : Type 0} (s : Start) (These Those : List Event → Type 0) (text_of_run : Bool → List Event → History → List ℕ)
    (begun : List Event → Option (List ℕ) → Option (List ℕ) → Type 0) (faulty : ℕ → Type 0) (o : Written) (x : Result A Refusal)
    → ((es : List Event) → These es → Those es) → IfErr x (IsBrokenOff s These text_of_run begun (λ line. ⊥) o)
    → IfErr x (IsBrokenOff s Those text_of_run begun faulty o)
all-stopped-by s These Those text_of_run begun faulty o (Ok y) are h = tt
all-stopped-by s These Those text_of_run begun faulty o (Err r) are h = stopped-by s These Those text_of_run begun faulty o r are h
