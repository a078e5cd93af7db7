-- Traces of runs that go on from a checkpoint.
use Rattle.std.proofs.Common.{◌≡◌, ◌+◌, ℕ, Bool, List, [], ◌∷◌, Option, None, length, get_or, min}
use Rattle.std.proofs.Common.{Result, Ok, Err, IfOk, IfErr, inl, inr, refl, sym, ap, subst, ◌∙◌, arith}
use Rattle.image_load.specs.Contents.{Contents, started}
use Rattle.tcc_cli.proofs.Watched.{run-so}
use Rattle.tcc_cli.specs.Around.{FilesAround, IsUntouched}
use Rattle.tcc_cli.specs.Commands.{files_of, head_of, start_from}
use Rattle.tcc_cli.specs.Failing.{IsCheckpointRefused, Tells}
use Rattle.tcc_cli.specs.Long.{BeganFrom, IsFurtherStopped, IsFurtherTold, IsNotLeft, IsToldBy, RanOn, more_of}
use Rattle.tcc_cli.specs.Looks.{broken_refusal}
use Rattle.tcc_cli.specs.declared.refusal.Refusal.{Refusal}
use Rattle.tcc_cli.specs.declared.refusal.Refusal.TheVariants as why
use Rattle.tcc_words.specs.declared.command.Begin.TheVariants as begin
use Rattle.tcc_words.specs.declared.command.Command.{Command}
use Rattle.tcc_words.specs.declared.command.Command.TheVariants.{Long}
use Rattle.tcc_words.specs.declared.command.Machine.{Machine}
use Rattle.tcc_words.specs.declared.command.View.{View}
use Rattle.tcc_words.specs.declared.command.View.TheVariants.{Trace}
use Rattle.tcc_world.specs.Page.{Written}
use Rattle.watch_run.specs.Runs.{IsRunTrace, IsRunTraceBegun, RunData, seed_events}
use Rattle.watch_run.specs.Traces.{BrokeOff, IsTraceOf, StandsBehind, shown_behind}
use Rattle.watch_run.specs.Written.{IsTraceBegun}
use Rattle.watch_run.specs.declared.telling.Shown.{Shown}
use Rattle.watch_run.specs.declared.tracing.Broken.{Broken}
use Rattle.watch_run.specs.declared.tracing.Broken.TheVariants.{Memory, Output}

-- the further events that a trace is of are those that are asked for
abbrev MoreAre : (steps to : ℕ) → RunData → (more : ℕ) → Type 0
MoreAre steps to from more = more ≡ more_of (min steps to) from

trace-looked : (c : Contents) (from : RunData) (steps to more : ℕ) (shown : Shown) (done : Bool) (text : List ℕ)
    → MoreAre steps to from more → IsRunTrace shown from more done text
    → RanOn c from steps (Trace shown.from to shown.states) IsNotLeft done text
trace-looked c from steps to more shown done text is told = record {
  left = tt;
  looked = λ n h.
      let es = seed_events c from.seed (n + more_of (min steps to) from) in
      let t = subst (λ m. IsTraceOf (started c) (shown_behind from.machine.events shown) (seed_events c from.seed (n + m)) done text) is
      (told c n h) in
      record {
        events = es;
        ends = t.ends;
        are = refl;
        runs = run-so (started c) es done done t.ends t.leads refl;
        text_is = t.text_is;
      };
}

trace-begun : (c : Contents) (IsFrom : RunData → Type 0) (from : RunData) (steps to more : ℕ) (shown : Shown) (o : Written)
    → IsFrom from → from.machine.cores.code ≡ c → MoreAre steps to from more
    → IsRunTraceBegun shown from more o.before.bytes o.after.bytes
    → BeganFrom c IsFrom steps (Trace shown.from to shown.states) o
trace-begun c IsFrom from steps to more shown o there code is begun = record {
  from = from;
  is = there;
  code = code;
  begun = λ n h. subst (λ m. IsTraceBegun (started c) (shown_behind from.machine.events shown) (seed_events c from.seed (n + m))
      o.before.bytes o.after.bytes) is (begun c n h);
}

-- the trace of a run that went on
pub further-told : (c : Contents) (IsFrom : RunData → Type 0) (from : RunData) (steps to more : ℕ) (shown : Shown) (o : Written)
    (done : Bool) → IsFrom from → from.machine.cores.code ≡ c → MoreAre steps to from more
    → StandsBehind (IsRunTrace shown from more) o.before.bytes o.after.bytes done
    → IsFurtherTold c IsFrom steps (Trace shown.from to shown.states) IsNotLeft o done
further-told c IsFrom from steps to more shown o done there code is t = (
  t.text,
  record { from = from; is = there; code = code; on = trace-looked c from steps to more shown done t.text is t.is },
  t.whole,
)

-- and why it broke off
pub further-stopped : (c : Contents) (IsFrom : RunData → Type 0) (from : RunData) (steps to more : ℕ) (shown : Shown) (o : Written)
    (broken : Broken) (r : Refusal) → IsFrom from → from.machine.cores.code ≡ c → MoreAre steps to from more
    → r ≡ broken_refusal broken → BrokeOff (IsRunTrace shown from more) (IsRunTraceBegun shown from more) o broken
    → IsFurtherStopped c IsFrom steps (Trace shown.from to shown.states) o r
further-stopped c IsFrom from steps to more shown o Memory r there code is why_is h =
    subst (IsFurtherStopped c IsFrom steps (Trace shown.from to shown.states) o) (sym why_is)
    (inr (trace-begun c IsFrom from steps to more shown o there code is h))
further-stopped c IsFrom from steps to more shown o Output r there code is why_is (inl h, rose) =
    subst (IsFurtherStopped c IsFrom steps (Trace shown.from to shown.states) o) (sym why_is)
    (inr (trace-begun c IsFrom from steps to more shown o there code is h, rose))
further-stopped c IsFrom from steps to more shown o Output r there code is why_is (inr h, rose) =
    subst (IsFurtherStopped c IsFrom steps (Trace shown.from to shown.states) o) (sym why_is)
    (inl (
      h.done,
      h.text,
      record { from = from; is = there; code = code; on = trace-looked c from steps to more shown h.done h.text is h.is },
      (h.n, h.short, h.cut, rose),
    ))

-- a checkpoint that is refused
pub further-refused : (c : Contents) (IsFrom : RunData → Type 0) (steps : ℕ) (view : View) (o : Written) (r : Refusal)
    → IsCheckpointRefused r → o.after.bytes ≡ o.before.bytes → IsFurtherStopped c IsFrom steps view o r
further-refused c IsFrom steps view o (why.Schedule line) h e = e
further-refused c IsFrom steps view o why.Memory h e = inl e
further-refused c IsFrom steps view o _ h e = absurd h

-- ---- from the start that the files give

tells-here : (files : List (List ℕ)) (loaded : Contents) (machine : Machine) (images : List (List ℕ)) (name : List ℕ)
    (steps from to : ℕ) (states : Bool) (f : FilesAround) (o : Written) (x : Result Bool Refusal) → IsUntouched f
    → started loaded ≡ start_from (Long machine images (begin.Checkpoint name) steps (Trace from to states) None) files
    → IfOk x (IsFurtherTold loaded (IsToldBy (head_of files)) steps (Trace from to states) IsNotLeft o)
    → IfErr x (IsFurtherStopped loaded (IsToldBy (head_of files)) steps (Trace from to states) o)
    → Tells (Long machine images (begin.Checkpoint name) steps (Trace from to states) None) files f o x
tells-here files loaded machine images name steps from to states f o (Ok done) untouched start (text, ran, whole) stopped =
    (text, record { loaded = loaded; start = start; ran = ran }, whole)
tells-here files loaded machine images name steps from to states f o (Err (why.Schedule line)) untouched start told h = ((tt, untouched), h)
tells-here files loaded machine images name steps from to states f o (Err why.Memory) untouched start told (inl h) =
    inl (inl untouched, h)
tells-here files loaded machine images name steps from to states f o (Err why.Memory) untouched start told (inr began) =
    inr (record { loaded = loaded; start = start; began = began }, untouched)
tells-here files loaded machine images name steps from to states f o (Err why.Output) untouched start told (inl (done, text, ran, cut)) =
    inl (done, text, record { loaded = loaded; start = start; ran = ran }, cut)
tells-here files loaded machine images name steps from to states f o (Err why.Output) untouched start told (inr (began, rose)) =
    inr (record { loaded = loaded; start = start; began = began }, rose, untouched)
tells-here files loaded machine images name steps from to states f o (Err why.Words) untouched start told h = absurd h
tells-here files loaded machine images name steps from to states f o (Err (why.Value field)) untouched start told h = absurd h
tells-here files loaded machine images name steps from to states f o (Err (why.Image bad)) untouched start told h = absurd h
tells-here files loaded machine images name steps from to states f o (Err (why.Store file)) untouched start told h = absurd h

-- a trace from a checkpoint, however it ended
pub further-tells : (c : Command) (files : List (List ℕ)) (loaded : Contents) (machine : Machine) (images : List (List ℕ))
    (name : List ℕ) (steps from to : ℕ) (states : Bool) (keep : Option (List ℕ)) (bytes : List ℕ) (f : FilesAround) (o : Written)
    (x : Result Bool Refusal) → c ≡ Long machine images (begin.Checkpoint name) steps (Trace from to states) keep → keep ≡ None
    → started loaded ≡ start_from c files → bytes ≡ head_of files → IsUntouched f
    → IfOk x (IsFurtherTold loaded (IsToldBy bytes) steps (Trace from to states) IsNotLeft o)
    → IfErr x (IsFurtherStopped loaded (IsToldBy bytes) steps (Trace from to states) o)
    → Tells c files f o x
further-tells c files loaded machine images name steps from to states keep bytes f o x is none start head untouched told stopped =
    let here : c ≡ Long machine images (begin.Checkpoint name) steps (Trace from to states) None =
    is ∙ ap (λ k. Long machine images (begin.Checkpoint name) steps (Trace from to states) k) none in
    subst (λ d. Tells d files f o x) (sym here)
    (tells-here files loaded machine images name steps from to states f o x untouched (start ∙ ap (λ d. start_from d files) here)
    (subst (λ b. IfOk x (IsFurtherTold loaded (IsToldBy b) steps (Trace from to states) IsNotLeft o)) head told)
    (subst (λ b. IfErr x (IsFurtherStopped loaded (IsToldBy b) steps (Trace from to states) o)) head stopped))

-- the checkpoint is the first file that was read
pub first-checkpoint : (c : Command) (read : List (List ℕ)) (machine : Machine) (images : List (List ℕ)) (name : List ℕ) (steps : ℕ)
    (view : View) (keep : Option (List ℕ)) (d : List ℕ) → length read ≡ length (files_of c)
    → c ≡ Long machine images (begin.Checkpoint name) steps view keep → get_or read 0 d ≡ head_of read
first-checkpoint c [] machine images name steps view keep d e is =
    let more = e ∙ ap (λ b. length (files_of b)) is in absurd (omega (arith, more))
first-checkpoint c (x ∷ xs) machine images name steps view keep d e is = refl
