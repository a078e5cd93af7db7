-- Runs that begin before their first event or go on from a checkpoint.
use Rattle.std.proofs.Common.{◌≡◌, ◌+◌, ℕ, Bool, List, Option, Some, None, length}
use Rattle.std.proofs.Common.{Result, Ok, Err, IfOk, IfSome, refl, sym, ap, subst, ◌∙◌, if◌then◌else◌}
use Rattle.image_load.specs.Contents.{Contents, started}
use Rattle.image_load.specs.Start.{Start}
use Rattle.net_core.specs.Machine.{history_of, start_of}
use Rattle.rules_tcc.specs.Step.{History}
use Rattle.tcc_base.specs.Settings.{Settings}
use Rattle.tcc_cli.proofs.Watched.{counted-so, run-so}
use Rattle.tcc_cli.specs.Failing.{IsUntraced}
use Rattle.tcc_cli.specs.Long.{IsLeftIn, IsWrittenTo, RanOn, all_steps, last_text, more_of, steps_of, text_behind}
use Rattle.tcc_cli.specs.Looks.{LookedAt, view_text}
use Rattle.tcc_words.specs.declared.command.View.{View}
use Rattle.tcc_words.specs.declared.command.View.TheVariants.{Consoles, Count, Rows, State, Trace}
use Rattle.watch_count.specs.Counts.{Counts}
use Rattle.watch_count.specs.Csv.{csv_row, csv_text}
use Rattle.watch_count.specs.Text.{count_text}
use Rattle.watch_run.specs.Looked.{IsCounted}
use Rattle.watch_run.specs.Runs.{IsRunOf, RunData, seed_events}
use Rattle.watch_state.specs.Text.{state_text}

-- what is counted of a run, whichever number of steps it is of
pub counts-told : {A E : Type 0} (c : Contents) (r : RunData) (d csv : Bool) (settings : Settings) (seed asked events : ℕ) (counts : Counts)
    (done : A → Bool) (text : A → List ℕ) (x : Result A E)
    → ((k : Contents) (n : ℕ) → IsRunOf k n r → IsCounted (started k) (seed_events k r.seed n) d r.machine.events r.counts)
    → settings ≡ (started c).settings → seed ≡ r.seed → events ≡ r.machine.events → counts ≡ r.counts → IfOk x (λ f. done f ≡ d)
    → IfOk x (λ f. text f ≡ (if csv then csv_text settings (Some (seed, asked)) d events counts else count_text settings d events counts))
    → IfOk x (λ f. (n : ℕ) → IsRunOf c n r → LookedAt (started c) (λ es. es ≡ seed_events c r.seed n)
    (view_text (Count csv) (Some (r.seed, asked)) (started c)) (done f) (text f))
counts-told {E = E} c r d csv settings seed asked events counts done text (Ok f) counted q own all are is told = λ n k.
    let es = seed_events c r.seed n in
    let Told : ℕ → Type 0 =
    λ s. LookedAt (started c) (λ xs. xs ≡ es) (view_text (Count csv) (Some (s, asked)) (started c)) (done f) (text f) in
    let here : IsCounted (started c) es d events counts =
    subst (λ cs. IsCounted (started c) es d events cs) (sym are)
    (subst (λ e. IsCounted (started c) es d e r.counts) (sym all) (counted c n k)) in
    subst Told own
    (counted-so {E = E} (started c) settings (λ xs. xs ≡ es) es d events counts csv (Some (seed, asked)) done text (Ok f) refl here q is
    told)
counts-told c r d csv settings seed asked events counts done text (Err e) counted q own all are is told = tt

-- the last row of a table, of whichever rows
pub row-looked : (c : Contents) (r : RunData) (d : Bool) (settings : Settings) (seed asked events : ℕ) (counts : Counts) (text : List ℕ)
    → ((k : Contents) (n : ℕ) → IsRunOf k n r → IsCounted (started k) (seed_events k r.seed n) d r.machine.events r.counts)
    → settings ≡ (started c).settings → seed ≡ r.seed → events ≡ r.machine.events → counts ≡ r.counts
    → text ≡ csv_row settings (Some (seed, asked)) d events counts → (every n : ℕ) → IsRunOf c n r
    → LookedAt (started c) (λ es. es ≡ seed_events c r.seed n) (last_text (Rows every) (Some (r.seed, asked)) (started c)) d text
row-looked c r d settings seed asked events counts text counted q own all are told every n k =
    let es = seed_events c r.seed n in
    let there = counted c n k in
    record {
      events = es;
      ends = there.ends;
      are = refl;
      runs = run-so (started c) es d d there.ends there.leads refl;
      text_is = told ∙ (λ i. csv_row (q i) (Some (own i, asked)) d ((all ∙ there.all) i) ((are ∙ there.counted) i));
    }

-- a state's text tells of the world, and not of the commits
state-by-world : (s : Start) (done : Bool) (n : ℕ) (g h : History) → g.world ≡ h.world → state_text s done n g ≡ state_text s done n h
unfolding state_text
state-by-world s done n g h is = ap (λ w. state_text s done n (record { world = w; commits = h.commits })) is

one-end : (x : Option History) (g h : History) → x ≡ Some g → x ≡ Some h → g ≡ h
one-end x g h a b = some (sym a ∙ b)
  where
    some : Some g ≡ Some h → g ≡ h
    some e = cc

-- the state of a run, whichever number of steps it is of
pub state-told : (c : Contents) (r : RunData) (d : Bool) (events : ℕ) (seed : Option (ℕ × ℕ)) (text : List ℕ)
    → ((k : Contents) (n : ℕ) → IsRunOf k n r → IsCounted (started k) (seed_events k r.seed n) d r.machine.events r.counts)
    → r.machine.cores.code ≡ c → text ≡ state_text (start_of r.machine) d r.machine.events (history_of r.machine)
    → (n : ℕ) → IsRunOf c n r → LookedAt (started c) (λ es. es ≡ seed_events c r.seed n) (view_text (State events) seed (started c)) d text
unfolding started
state-told c r d events seed text counted code told n k =
    let all = counted c n k in
    let ends : k.counted.ends ≡ all.ends = one-end _ k.counted.ends all.ends k.counted.ran all.leads.is_run in
    record {
      events = seed_events c r.seed n;
      ends = all.ends;
      are = refl;
      runs = run-so (started c) (seed_events c r.seed n) d d all.ends all.leads refl;
      text_is = told
          ∙ (λ i. state_text (started (code i)) d (all.all i) (history_of r.machine))
          ∙ state-by-world (started c) d (length (seed_events c r.seed n)) (history_of r.machine) all.ends
          (k.counted.kept.world ∙ ap (λ h. h.world) ends);
    }

-- but for a trace, and for what is written as it goes, it matters not how many events came before
untraced-alike : (events : ℕ) (view : View) → IsUntraced view → (seed : Option (ℕ × ℕ)) (s : Start)
    → view_text view seed s ≡ text_behind events view seed s
untraced-alike events (Trace from to states) h seed s = absurd h
untraced-alike events (Rows every) h seed s = absurd h
untraced-alike events (Consoles csv) h seed s = absurd h
untraced-alike events (Count csv) h seed s = refl
untraced-alike events (State most) h seed s = refl

-- a run that was left
pub left-in : (keep : Option (List ℕ)) (tells : Bool) (told : List ℕ → Option (List ℕ)) (c : Contents) (from ends : RunData) (more : ℕ)
    → ends.seed ≡ from.seed → ((n : ℕ) → IsRunOf c n from → IsRunOf c (n + more) ends)
    → IfSome keep (λ name. IsWrittenTo name tells told ends) → IsLeftIn keep tells told c from more
left-in None tells told c from ends more seed went written = tt
left-in (Some name) tells told c from ends more seed went written =
    record { ends = ends; seed = seed; went = went; written = written }

-- a run that went on, was told of and left
pub ran-on : (c : Contents) (from mid ends : RunData) (steps more asked : ℕ) (view : View) (keep : Option (List ℕ)) (tells : Bool)
    (told : List ℕ → Option (List ℕ)) (done : Bool) (text : List ℕ) → IsUntraced view → more ≡ steps_of view steps
    → asked ≡ all_steps steps from → mid.seed ≡ from.seed
    → ((k : Contents) (n : ℕ) → IsRunOf k n from → IsRunOf k (n + more_of more from) mid)
    → ((k : Contents) (n : ℕ) → IsRunOf k n mid → IsRunOf k n ends) → ends.seed ≡ mid.seed
    → IfSome keep (λ name. IsWrittenTo name tells told ends)
    → ((n : ℕ) → IsRunOf c n mid → LookedAt (started c) (λ es. es ≡ seed_events c mid.seed n)
    (view_text view (Some (mid.seed, asked)) (started c)) done text)
    → RanOn c from steps view (IsLeftIn keep tells told c) done text
ran-on c from mid ends steps more asked view keep tells told done text untraced is all seed went same still kept looked = record {
  left = left-in keep tells told c from ends (more_of (steps_of view steps) from) (still ∙ seed)
      (λ n h. same c (n + more_of (steps_of view steps) from) (further n h)) kept;
  looked = λ n h. of-whole n h;
}
  where
    further : (n : ℕ) → IsRunOf c n from → IsRunOf c (n + more_of (steps_of view steps) from) mid
    further n h = subst (λ m. IsRunOf c (n + more_of m from) mid) is (went c n h)

    of-whole : (n : ℕ) → IsRunOf c n from
        → LookedAt (started c) (λ es. es ≡ seed_events c from.seed (n + more_of (steps_of view steps) from))
        (text_behind from.machine.events view (Some (from.seed, all_steps steps from)) (started c)) done text
    of-whole n h =
        let k = n + more_of (steps_of view steps) from in
        let Told : ℕ → ℕ → Type 0 =
        λ s a. LookedAt (started c) (λ es. es ≡ seed_events c s k)
        (text_behind from.machine.events view (Some (s, a)) (started c)) done text in
        subst (λ s. Told s (all_steps steps from)) seed (subst (Told mid.seed) all
        (subst (λ f. LookedAt (started c) (λ es. es ≡ seed_events c mid.seed k) f done text)
        (untraced-alike from.machine.events view untraced (Some (mid.seed, asked)) (started c)) (looked k (further n h))))
