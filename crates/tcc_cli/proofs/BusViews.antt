-- A run on the bus that is looked at, from the start that the command's files give.
use Rattle.std.proofs.Common.{◌≡◌, ◌↔◌, ℕ, Bool, true, false, List, Some, Result, Ok, Err, IfOk, IfErr, IsTrue}
use Rattle.std.proofs.Common.{inl, inr, sym, ap, subst, ◌∙◌, min, if◌then◌else◌}
use Rattle.image_load.specs.Contents.{Contents, started}
use Rattle.image_load.specs.Start.{Start}
use Rattle.bus_count.specs.Csv.{bus_csv_text}
use Rattle.bus_count.specs.Text.{bus_count_text}
use Rattle.bus_count.specs.Counts.{BusCounts}
use Rattle.bus_run.specs.Counted.{IsBusCounted}
use Rattle.bus_run.specs.Leading.{BusLeadsTo}
use Rattle.rules_bus.specs.State.{BusEvent}
use Rattle.rules_bus.specs.Step.{BusHistory}
use Rattle.rules_bus.specs.Useful.{BusIsDone}
use Rattle.bus_state.specs.Text.{bus_state_text}
use Rattle.bus_tcc.specs.Machine.{BusMachine, bus_history_of, bus_settings_of, bus_start_of, bus_world_of}
use Rattle.bus_tool.specs.Running.{RanBySeed}
use Rattle.tcc_base.specs.Settings.{Settings}
use Rattle.tcc_cli.specs.Around.{FilesAround, IsUntouched}
use Rattle.tcc_cli.specs.BusLooks.{IsBusTraceStopped, IsBusTraceTold, LookedAtBus}
use Rattle.tcc_cli.specs.Commands.{start_from}
use Rattle.tcc_cli.specs.Failing.{Tells}
use Rattle.tcc_world.specs.Page.{Written}
use Rattle.tcc_cli.specs.OnBus.{BusRunsTo}
use Rattle.tcc_cli.specs.declared.refusal.Refusal.{Refusal}
use Rattle.tcc_cli.specs.declared.refusal.Refusal.TheVariants as why
use Rattle.tcc_words.specs.Fields.{count_limit}
use Rattle.tcc_words.specs.declared.command.Command.{Command}
use Rattle.tcc_words.specs.declared.command.Command.TheVariants.{LookOnBus}
use Rattle.tcc_words.specs.declared.command.Machine.{Machine}
use Rattle.tcc_words.specs.declared.command.View.TheVariants.{Trace, Count, State}

-- the end of a run
leads-so : (s : Start) (es : List BusEvent) (d e : Bool) (h : BusHistory) → BusLeadsTo s es d h → e ≡ d → BusRunsTo s es e h
leads-so s es d e h l is = record {
  is_run = l.is_run;
  is_done = subst (λ b. IsTrue b ↔ BusIsDone s.settings h.world) (sym is) l.is_done;
  serial = l.serial;
  tids = l.tids;
}

-- what was counted, and its text
pub bus-counted : {A E : Type 0} (s : Start) (settings : Settings) (seed steps : ℕ) (d : Bool) (n : ℕ) (counts : BusCounts) (csv : Bool)
    (done : A → Bool) (text : A → List ℕ) (x : Result A E) → IsBusCounted s seed (min steps count_limit) d n counts → settings ≡ s.settings
    → IfOk x (λ f. done f ≡ d)
    → IfOk x (λ f. text f
    ≡ (if csv then bus_csv_text settings (Some (seed, steps)) d n counts else bus_count_text settings d n counts))
    → IfOk x (λ f. LookedAtBus s seed steps (Count csv) (done f) (text f))
bus-counted s settings seed steps d n counts csv done text (Err e) k q is told = tt
bus-counted s settings seed steps d n counts true done text (Ok f) k q is told = record {
  ends = k.ends;
  runs = leads-so s _ d (done f) k.ends k.leads is;
  text_is = told ∙ (λ i. bus_csv_text (q i) (Some (seed, steps)) (sym is i) (k.all i) (k.counted i));
}
bus-counted s settings seed steps d n counts false done text (Ok f) k q is told = record {
  ends = k.ends;
  runs = leads-so s _ d (done f) k.ends k.leads is;
  text_is = told ∙ (λ i. bus_count_text (q i) (sym is i) (k.all i) (k.counted i));
}

-- the state of a machine that was run
pub bus-state : (l : Contents) (seed steps events : ℕ) (m : BusMachine) (done : Bool) (n : ℕ) (text : List ℕ) → m.code ≡ l
    → RanBySeed (started l) seed (min steps events) m → IsTrue done ↔ BusIsDone (bus_settings_of m) (bus_world_of m) → n ≡ m.events
    → text ≡ bus_state_text (bus_start_of m) done n (bus_history_of m)
    → LookedAtBus (started l) seed steps (State events) done text
unfolding bus_history_of started
bus-state l seed steps events m done n text code ran is count told = record {
  ends = bus_history_of m;
  runs = record {
    is_run = ran.is_run;
    is_done = subst (λ k. IsTrue done ↔ BusIsDone k.settings (bus_world_of m)) code is;
    serial = ran.serial;
    tids = ran.tids;
  };
  text_is = told ∙ (λ i. bus_state_text (started (code i)) done ((count ∙ ran.events) i) (bus_history_of m));
}

-- ---- from the start that the files give

stopped-so : (files : List (List ℕ)) (machine : Machine) (images : List (List ℕ)) (steps seed from to : ℕ) (states : Bool)
    (f : FilesAround) (o : Written) (r : Refusal) → IsUntouched f
    → IsBusTraceStopped (start_from (LookOnBus machine images steps seed (Trace from to states)) files) seed steps from to states o r
    → Tells (LookOnBus machine images steps seed (Trace from to states)) files f o (Err r)
stopped-so files machine images steps seed from to states f o why.Words untouched h = absurd h
stopped-so files machine images steps seed from to states f o (why.Value field) untouched h = absurd h
stopped-so files machine images steps seed from to states f o (why.Image bad) untouched h = absurd h
stopped-so files machine images steps seed from to states f o (why.Schedule line) untouched h = absurd h
stopped-so files machine images steps seed from to states f o (why.Store name) untouched h = absurd h
stopped-so files machine images steps seed from to states f o why.Output untouched (inl (done, text, l, cut)) =
    inl (done, text, l, cut)
stopped-so files machine images steps seed from to states f o why.Output untouched (inr (begun, rose)) = inr (begun, rose, untouched)
stopped-so files machine images steps seed from to states f o why.Memory untouched begun = inr (begun, untouched)

told-so : (files : List (List ℕ)) (machine : Machine) (images : List (List ℕ)) (steps seed from to : ℕ) (states : Bool)
    (f : FilesAround) (o : Written) (x : Result Bool Refusal) → IsUntouched f
    → IfOk x (IsBusTraceTold (start_from (LookOnBus machine images steps seed (Trace from to states)) files) seed steps
    (Trace from to states) o)
    → IfErr x (IsBusTraceStopped (start_from (LookOnBus machine images steps seed (Trace from to states)) files) seed steps from to states
    o)
    → Tells (LookOnBus machine images steps seed (Trace from to states)) files f o x
told-so files machine images steps seed from to states f o (Ok done) untouched (text, l, whole) stopped =
    (text, l, whole)
told-so files machine images steps seed from to states f o (Err r) untouched told stopped =
    stopped-so files machine images steps seed from to states f o r untouched stopped

-- a trace on the bus, however it ended
pub bus-trace-tells : (c : Command) (files : List (List ℕ)) (s : Start) (machine : Machine) (images : List (List ℕ))
    (steps seed from to : ℕ) (states : Bool) (f : FilesAround) (o : Written) (x : Result Bool Refusal)
    → c ≡ LookOnBus machine images steps seed (Trace from to states) → s ≡ start_from c files → IsUntouched f
    → IfOk x (IsBusTraceTold s seed steps (Trace from to states) o) → IfErr x (IsBusTraceStopped s seed steps from to states o)
    → Tells c files f o x
bus-trace-tells c files s machine images steps seed from to states f o x is start untouched told stopped =
    let begins : s ≡ start_from (LookOnBus machine images steps seed (Trace from to states)) files =
    start ∙ ap (λ d. start_from d files) is in
    subst (λ d. Tells d files f o x) (sym is) (told-so files machine images steps seed from to states f o x untouched
    (subst (λ q. IfOk x (IsBusTraceTold q seed steps (Trace from to states) o)) begins told)
    (subst (λ q. IfErr x (IsBusTraceStopped q seed steps from to states o)) begins stopped))
