-- Long runs of which something is written while they go on.
use Rattle.std.proofs.Common.{◌≡◌, ◌+◌, ◌<◌, ◌≤◌, ℕ, Bool, List, [], ◌++◌, Option, Some, append-nil, length}
use Rattle.std.proofs.Common.{◌∷◌, get_or, length-append, take}
use Rattle.std.proofs.Common.{Result, Ok, Err, IfOk, IfErr, IfSome, inl, inr, refl, sym, ap, subst, ◌∙◌, arith}
use Rattle.std.proofs.Math.Seq.{take-append-add}
use Rattle.std.proofs.lemmas.List.{take-append-le}
use Rattle.std.specs.Io.KnownBytes.{Appends}
use Rattle.base_lemmas.proofs.Lemmas.{appends-more, appends-none}
use Rattle.image_load.specs.Contents.{Contents, started}
use Rattle.image_load.specs.Start.{Start}
use Rattle.rules_maps.specs.Nodes.{Event}
use Rattle.rules_tcc.specs.Step.{History}
use Rattle.tcc_cli.proofs.GoingOn.{left-in}
use Rattle.tcc_cli.specs.Around.{FilesAround, IsUntouched}
use Rattle.tcc_cli.specs.Commands.{head_of, start_from}
use Rattle.tcc_cli.specs.Comes.{HasBegun, IsFaultyLine}
use Rattle.tcc_cli.specs.Failing.{IsCheckpointRefused, IsNotWritten, Tells}
use Rattle.tcc_cli.specs.Growing.{IsGrowthStopped, IsOpenBegun, IsOpenStopped, IsOpenText}
use Rattle.tcc_cli.specs.Lines.{IsSilent, IsWhole}
use Rattle.tcc_cli.specs.Long.{BeganFrom, BeganOn, Grows, IsFurtherTold, IsGrowing, IsLeftIn, IsTakenUp, RanFrom, RanOn}
use Rattle.tcc_cli.specs.Long.{IsWrittenTo}
use Rattle.tcc_cli.specs.Long.{all_steps, begun_behind, last_text, more_of, open_text, steps_of, text_behind}
use Rattle.tcc_cli.specs.Looks.{LookedAt, broken_refusal}
use Rattle.tcc_cli.specs.declared.refusal.Refusal.{Refusal}
use Rattle.tcc_cli.specs.declared.refusal.Refusal.TheVariants as why
use Rattle.tcc_words.specs.Bounds.{IsLongView, IsResumed}
use Rattle.tcc_words.specs.declared.command.Begin.{Begin}
use Rattle.tcc_words.specs.declared.command.Begin.TheVariants.{Checkpoint, Seed}
use Rattle.tcc_words.specs.declared.command.Command.{Command}
use Rattle.tcc_words.specs.declared.command.Command.TheVariants.{Long}
use Rattle.tcc_words.specs.declared.command.Machine.{Machine}
use Rattle.tcc_words.specs.declared.command.View.{View}
use Rattle.tcc_words.specs.declared.command.View.TheVariants.{Consoles, Count, Rows, State, Trace}
use Rattle.tcc_world.specs.Faults.{Rose}
use Rattle.tcc_world.specs.Page.{Page, Written}
use Rattle.watch_run.specs.Meanwhile.{head_line, meanwhile_text}
use Rattle.watch_run.specs.Runs.{IsRunOf, IsRunPart, IsRunText, IsRunTextStopped, RunData, seed_events}
use Rattle.watch_run.specs.Tables.{IsCutIn}
use Rattle.watch_run.specs.Written.{IsBehind, IsPart}
use Rattle.watch_run.specs.declared.meanwhile.Meanwhile.{Meanwhile}
use Rattle.watch_run.specs.declared.tracing.Broken.{Broken}
use Rattle.watch_run.specs.declared.tracing.Broken.TheVariants.{Memory, Output}

-- ---- a first part of a text

part-none : (bytes : List ℕ) (a b : Option (List ℕ)) → b ≡ a → IsPart bytes a b
part-none bytes a b e = (0, subst (λ o. Appends a o []) (sym e) (appends-none a))

-- of the first of two
part-first : (xs ys : List ℕ) (n : ℕ) (a b : Option (List ℕ)) → n < length xs → Appends a b (take n xs) → IsPart (xs ++ ys) a b
part-first xs ys n a b h p = (n, subst (Appends a b) (sym (take-append-le n xs ys (omega (arith, h)))) p)

-- of the second, behind the first
part-second : (xs ys : List ℕ) (a b c : Option (List ℕ)) → Appends a b xs → IsPart ys b c → IsPart (xs ++ ys) a c
part-second xs ys a b c p (n, q) =
    (length xs + n, subst (Appends a c) (sym (take-append-add xs ys n)) (appends-more a b c xs (take n ys) p q))

-- the whole
part-whole : (xs : List ℕ) (a b : Option (List ℕ)) → Appends a b xs → IsPart xs a b
part-whole xs a b p = subst (λ zs. IsPart zs a b) (append-nil xs) (part-second xs [] a b b p (part-none [] b b refl))

-- ---- what is written while a run goes on: the line before it, and then its text

-- what is written of a view is what is written meanwhile
abbrev IsOf : View → (seed asked : ℕ) → Meanwhile → Type 0
IsOf view seed asked told = (first : ℕ) (s : Start) (es : List Event)
    → open_text view (Some (seed, asked)) first s es ≡ head_line told ++ meanwhile_text told first s es

open-is : (view : View) (seed asked : ℕ) (told : Meanwhile) (r : RunData) (more : ℕ) (c : Contents) (n : ℕ) → IsOf view seed asked told
    → seed ≡ r.seed → head_line told ++ meanwhile_text told r.machine.events (started c) (seed_events c r.seed (n + more))
    ≡ open_text view (Some (r.seed, asked)) r.machine.events (started c) (seed_events c r.seed (n + more))
open-is view seed asked told r more c n of own =
    sym (of r.machine.events (started c) (seed_events c r.seed (n + more)))
    ∙ ap (λ s. open_text view (Some (s, asked)) r.machine.events (started c) (seed_events c r.seed (n + more))) own

pub open-written : (view : View) (seed asked : ℕ) (told : Meanwhile) (r : RunData) (more : ℕ) (a b d : Option (List ℕ))
    → IsOf view seed asked told → seed ≡ r.seed → Appends a b (head_line told) → IsBehind (IsRunText told r more) b d
    → IsBehind (IsOpenText view asked r more) a d
open-written view seed asked told r more a b d of own head t = record {
  text = head_line told ++ t.text;
  is = λ c n k. ap (λ xs. head_line told ++ xs) (t.is c n k) ∙ open-is view seed asked told r more c n of own;
  whole = appends-more a b d (head_line told) t.text head t.whole;
}

head-begun : (view : View) (seed asked : ℕ) (told : Meanwhile) (r : RunData) (more : ℕ) (a b : Option (List ℕ))
    → IsOf view seed asked told → seed ≡ r.seed → ((ys : List ℕ) → IsPart (head_line told ++ ys) a b) → IsOpenBegun view asked r more a b
head-begun view seed asked told r more a b of own p = λ c n k.
    subst (λ xs. IsPart xs a b) (open-is view seed asked told r more c n of own)
    (p (meanwhile_text told r.machine.events (started c) (seed_events c r.seed (n + more))))

-- the line before it wasn't written
pub head-stopped : (view : View) (seed asked : ℕ) (told : Meanwhile) (r : RunData) (more : ℕ) (o : Written) (broken : Broken)
    (refusal : Refusal) → IsOf view seed asked told → seed ≡ r.seed → refusal ≡ broken_refusal broken → IsCutIn (head_line told) o broken
    → IsOpenStopped view asked r more o refusal
head-stopped view seed asked told r more o Memory refusal of own is same =
    subst (IsOpenStopped view asked r more o) (sym is)
    (head-begun view seed asked told r more o.before.bytes o.after.bytes of own
    (λ ys. part-none (head_line told ++ ys) o.before.bytes o.after.bytes same))
head-stopped view seed asked told r more o Output refusal of own is (cut, rose) =
    subst (IsOpenStopped view asked r more o) (sym is) (
      head-begun view seed asked told r more o.before.bytes o.after.bytes of own
          (λ ys. part-first (head_line told) ys cut.0 o.before.bytes o.after.bytes cut.1 cut.2),
      rose,
    )

open-begun : (view : View) (seed asked : ℕ) (told : Meanwhile) (r : RunData) (more : ℕ) (a b d : Option (List ℕ))
    → IsOf view seed asked told → seed ≡ r.seed → Appends a b (head_line told) → IsRunPart told r more b d
    → IsOpenBegun view asked r more a d
open-begun view seed asked told r more a b d of own head p = λ c n k.
    subst (λ xs. IsPart xs a d) (open-is view seed asked told r more c n of own)
    (part-second (head_line told) (meanwhile_text told r.machine.events (started c) (seed_events c r.seed (n + more))) a b d head (p c n k))

rose-later : (a b c : ℕ) → a ≤ b → Rose b c → Rose a c
rose-later a b c h r = omega (arith, h, r)

-- what stands behind it wasn't, or not all
pub open-stopped : (view : View) (seed asked : ℕ) (told : Meanwhile) (r : RunData) (more : ℕ) (a b d : Page) (broken : Broken)
    (refusal : Refusal) → IsOf view seed asked told → seed ≡ r.seed → refusal ≡ broken_refusal broken
    → Appends a.bytes b.bytes (head_line told) → a.faults ≤ b.faults
    → IsRunTextStopped told r more (record { before = b; after = d }) broken
    → IsOpenStopped view asked r more (record { before = a; after = d }) refusal
open-stopped view seed asked told r more a b d Memory refusal of own is head f t =
    subst (IsOpenStopped view asked r more (record { before = a; after = d })) (sym is)
    (open-begun view seed asked told r more a.bytes b.bytes d.bytes of own head t)
open-stopped view seed asked told r more a b d Output refusal of own is head f (t, rose) =
    subst (IsOpenStopped view asked r more (record { before = a; after = d })) (sym is)
    (open-begun view seed asked told r more a.bytes b.bytes d.bytes of own head t, rose-later a.faults b.faults d.faults f rose)

-- ---- a run that went on

-- it takes all the steps that are asked for
growing-steps : (view : View) (steps : ℕ) → IsGrowing view → steps ≡ steps_of view steps
growing-steps (Rows every) steps g = refl
growing-steps (Consoles csv) steps g = refl
growing-steps (Trace from to states) steps g = absurd g
growing-steps (Count csv) steps g = absurd g
growing-steps (State most) steps g = absurd g

-- what is told of it is what is written while it goes on, and then what tells of its end
growing-text : (view : View) → IsGrowing view → (first : ℕ) (seed : Option (ℕ × ℕ)) (s : Start) (done : Bool) (es : List Event)
    (h : History) → open_text view seed first s es ++ last_text view seed s done es h ≡ text_behind first view seed s done es h
growing-text (Rows every) g first seed s done es h = refl
growing-text (Consoles csv) g first seed s done es h = refl
growing-text (Trace from to states) g first seed s done es h = absurd g
growing-text (Count csv) g first seed s done es h = absurd g
growing-text (State most) g first seed s done es h = absurd g

growing-begun : (view : View) → IsGrowing view → (first : ℕ) (seed : Option (ℕ × ℕ)) (s : Start) (es : List Event)
    (a b : Option (List ℕ)) → IsPart (open_text view seed first s es) a b → begun_behind first view seed s es a b
growing-begun (Rows every) g first seed s es a b p = p
growing-begun (Consoles csv) g first seed s es a b p = p
growing-begun (Trace from to states) g first seed s es a b p = absurd g
growing-begun (Count csv) g first seed s es a b p = absurd g
growing-begun (State most) g first seed s es a b p = absurd g

-- as far as it was written while it went on
pub begun-on : (c : Contents) (from : RunData) (steps asked : ℕ) (view : View) (o : Written) → IsGrowing view
    → asked ≡ all_steps steps from → IsOpenBegun view asked from (more_of steps from) o.before.bytes o.after.bytes
    → BeganOn c from steps view o
begun-on c from steps asked view o g all begun = λ n h.
    let es = seed_events c from.seed (n + more_of (steps_of view steps) from) in
    growing-begun view g from.machine.events (Some (from.seed, all_steps steps from)) (started c) es o.before.bytes o.after.bytes
    (subst (λ a. IsPart (open_text view (Some (from.seed, a)) from.machine.events (started c) es) o.before.bytes o.after.bytes) all
    (subst (λ m. IsPart (open_text view (Some (from.seed, asked)) from.machine.events (started c)
    (seed_events c from.seed (n + more_of m from))) o.before.bytes o.after.bytes) (growing-steps view steps g) (begun c n h)))

-- all that was written while it went on
pub open-on : (c : Contents) (from : RunData) (steps asked : ℕ) (view : View) (o : Written) → IsGrowing view
    → asked ≡ all_steps steps from → IsBehind (IsOpenText view asked from (more_of steps from)) o.before.bytes o.after.bytes
    → BeganOn c from steps view o
open-on c from steps asked view o g all t =
    begun-on c from steps asked view o g all
    (λ k n h. subst (λ xs. IsPart xs o.before.bytes o.after.bytes) (t.is k n h) (part-whole t.text o.before.bytes o.after.bytes t.whole))

-- it broke off while it went on
pub stopped-on : (c : Contents) (from : RunData) (steps asked : ℕ) (view : View) (Ran : Bool → List ℕ → Type 0)
    (keep : Option (List ℕ)) (f : FilesAround) (o : Written) (r : Refusal) → IsGrowing view → asked ≡ all_steps steps from
    → IsUntouched f → IsOpenStopped view asked from (more_of steps from) o r
    → IsGrowthStopped Ran (BeganOn c from steps view) ⊥ keep f o r
stopped-on c from steps asked view Ran keep f o why.Memory g all untouched begun =
    (inr (begun-on c from steps asked view o g all begun), untouched)
stopped-on c from steps asked view Ran keep f o why.Output g all untouched (begun, rose) =
    inr (begun-on c from steps asked view o g all begun, rose, untouched)
stopped-on c from steps asked view Ran keep f o why.Words g all untouched h = absurd h
stopped-on c from steps asked view Ran keep f o (why.Value field) g all untouched h = absurd h
stopped-on c from steps asked view Ran keep f o (why.Image bad) g all untouched h = absurd h
stopped-on c from steps asked view Ran keep f o (why.Schedule line) g all untouched h = absurd h
stopped-on c from steps asked view Ran keep f o (why.Store name) g all untouched h = absurd h

-- it wasn't written down
pub unleft-on : (Ran : Bool → List ℕ → Type 0) (Began : Written → Type 0) (Resumes : Type 0) (keep : Option (List ℕ))
    (f : FilesAround) (o : Written) (r : Refusal) → Began o → IsNotWritten keep f r → IsGrowthStopped Ran Began Resumes keep f o r
unleft-on Ran Began Resumes keep f o (why.Store name) began h = (h, began)
unleft-on Ran Began Resumes keep f o why.Memory began h = (inr began, h)
unleft-on Ran Began Resumes keep f o why.Words began h = absurd h
unleft-on Ran Began Resumes keep f o (why.Value field) began h = absurd h
unleft-on Ran Began Resumes keep f o (why.Image bad) began h = absurd h
unleft-on Ran Began Resumes keep f o (why.Schedule line) began h = absurd h
unleft-on Ran Began Resumes keep f o why.Output began h = absurd h

-- what is told of the run's end, of the run that went on
abbrev EndIs : Contents → (from : RunData) → (steps : ℕ) → View → (seed asked : ℕ) → (done : Bool) → (last : List ℕ) → (n : ℕ) → Type 0
EndIs c from steps view seed asked done last n =
    LookedAt (started c) (λ es. es ≡ seed_events c seed (n + more_of steps from))
    (last_text view (Some (seed, asked)) (started c)) done last

looked-on : (c : Contents) (from : RunData) (steps : ℕ) (view : View) (done : Bool) (last text : List ℕ) (n : ℕ) → IsGrowing view
    → text ≡ open_text view (Some (from.seed, all_steps steps from)) from.machine.events (started c)
    (seed_events c from.seed (n + more_of steps from))
    → EndIs c from steps view from.seed (all_steps steps from) done last n
    → LookedAt (started c) (λ es. es ≡ seed_events c from.seed (n + more_of (steps_of view steps) from))
    (text_behind from.machine.events view (Some (from.seed, all_steps steps from)) (started c)) done (text ++ last)
looked-on c from steps view done last text n g is h =
    subst (λ m. LookedAt (started c) (λ es. es ≡ seed_events c from.seed (n + more_of m from))
    (text_behind from.machine.events view (Some (from.seed, all_steps steps from)) (started c)) done (text ++ last))
    (growing-steps view steps g)
    (record {
      events = h.events;
      ends = h.ends;
      are = h.are;
      runs = h.runs;
      text_is =
          let seed : Option (ℕ × ℕ) = Some (from.seed, all_steps steps from) in
          (λ i. (is ∙ ap (open_text view seed from.machine.events (started c)) (sym h.are)) i ++ h.text_is i)
          ∙ growing-text view g from.machine.events seed (started c) done h.events h.ends;
    })

-- a run that went on, was written of as it did, left, and told of at its end
pub grown-on : (c : Contents) (from mid ends : RunData) (steps asked : ℕ) (view : View) (keep : Option (List ℕ)) (tells : Bool)
    (told : List ℕ → Option (List ℕ)) (done : Bool) (text last : List ℕ) → IsGrowing view → asked ≡ all_steps steps from
    → mid.seed ≡ from.seed → ((k : Contents) (n : ℕ) → IsRunOf k n from → IsRunOf k (n + more_of steps from) mid)
    → ((k : Contents) (n : ℕ) → IsRunOf k n mid → IsRunOf k n ends) → ends.seed ≡ mid.seed
    → IfSome keep (λ name. IsWrittenTo name tells told ends) → IsOpenText view asked from (more_of steps from) text
    → ((n : ℕ) → IsRunOf c n mid → LookedAt (started c) (λ es. es ≡ seed_events c mid.seed n)
    (last_text view (Some (mid.seed, asked)) (started c)) done last)
    → RanOn c from steps view (IsLeftIn keep tells told c) done (text ++ last)
grown-on c from mid ends steps asked view keep tells told done text last g all seed went same still kept open_is looked = record {
  left = left-in keep tells told c from ends (more_of (steps_of view steps) from) (still ∙ seed)
      (λ n h. same c (n + more_of (steps_of view steps) from)
      (subst (λ m. IsRunOf c (n + more_of m from) mid) (growing-steps view steps g) (went c n h))) kept;
  looked = λ n h.
      looked-on c from steps view done last text n g
      (open_is c n h ∙ ap (λ a. open_text view (Some (from.seed, a)) from.machine.events (started c)
      (seed_events c from.seed (n + more_of steps from))) all)
      (subst (λ a. EndIs c from steps view from.seed a done last n) all
      (subst (λ s. EndIs c from steps view s asked done last n) seed (looked (n + more_of steps from) (went c n h))));
}

-- its end wasn't written whole
pub cut-on : (Ran : Bool → List ℕ → Type 0) (Began : Written → Type 0) (Resumes : Type 0) (keep : Option (List ℕ))
    (f : FilesAround) (a b d : Page) (done : Bool) (text last : List ℕ) → Ran done (text ++ last) → Appends a.bytes b.bytes text
    → a.faults ≤ b.faults
    → (n : ℕ) × (n < length last) × Appends b.bytes d.bytes (take n last) → Rose b.faults d.faults
    → IsGrowthStopped Ran Began Resumes keep f (record { before = a; after = d }) why.Output
cut-on Ran Began Resumes keep f a b d done text last ran p f_stay (n, short, q) rose =
    inl (
      done,
      text ++ last,
      ran,
      (
        length text + n,
        let all = length-append text last in omega (arith, all, short),
        subst (Appends a.bytes d.bytes) (sym (take-append-add text last n)) (appends-more a.bytes b.bytes d.bytes text (take n last) p q),
        rose-later a.faults b.faults d.faults f_stay rose,
      ),
    )

-- ---- from where it began

-- such a run
pub record From (c : Contents) (IsFrom : RunData → Type 0) (from : RunData) : Type 0 where
  pub is : IsFrom from
  pub code : from.machine.cores.code ≡ c

pub grown-told : {E : Type 0} (c : Contents) (IsFrom : RunData → Type 0) (from : RunData) (steps : ℕ) (view : View)
    (IsLeft : RunData → (more : ℕ) → Type 0) (o : Written) (x : Result Bool E) → From c IsFrom from
    → IfOk x (λ done. (text : List ℕ) × RanOn c from steps view IsLeft done text × IsWhole text o)
    → IfOk x (IsFurtherTold c IsFrom steps view IsLeft o)
grown-told c IsFrom from steps view IsLeft o (Ok done) f (text, on, whole) =
    (text, record { from = from; is = f.is; code = f.code; on = on }, whole)
grown-told c IsFrom from steps view IsLeft o (Err e) f h = tt

growth-stopped : (c : Contents) (IsFrom : RunData → Type 0) (from : RunData) (steps : ℕ) (view : View)
    (IsLeft : RunData → (more : ℕ) → Type 0) (Resumes : Type 0) (keep : Option (List ℕ)) (f : FilesAround) (o : Written) (r : Refusal)
    → From c IsFrom from
    → IsGrowthStopped (RanOn c from steps view IsLeft) (BeganOn c from steps view) ⊥ keep f o r
    → IsGrowthStopped (RanFrom c IsFrom steps view IsLeft) (BeganFrom c IsFrom steps view) Resumes keep f o r
growth-stopped c IsFrom from steps view IsLeft Resumes keep f o r there h = go r h
  where
    began : BeganOn c from steps view o → BeganFrom c IsFrom steps view o
    began b = record { from = from; is = there.is; code = there.code; begun = b }

    go : (x : Refusal) → IsGrowthStopped (RanOn c from steps view IsLeft) (BeganOn c from steps view) ⊥ keep f o x
        → IsGrowthStopped (RanFrom c IsFrom steps view IsLeft) (BeganFrom c IsFrom steps view) Resumes keep f o x
    go (why.Schedule line) (never, silent, untouched) = absurd never
    go why.Memory (inl silent, untouched) = (inl silent, untouched)
    go why.Memory (inr b, untouched) = (inr (began b), untouched)
    go (why.Store name) (unwritten, b) = (unwritten, began b)
    go why.Output (inl (done, text, on, cut)) =
        inl (done, text, record { from = from; is = there.is; code = there.code; on = on }, cut)
    go why.Output (inr (b, rose, untouched)) = inr (began b, rose, untouched)
    go why.Words h = h
    go (why.Value field) h = h
    go (why.Image bad) h = h

pub grown-stopped : {A : Type 0} (c : Contents) (IsFrom : RunData → Type 0) (from : RunData) (steps : ℕ) (view : View)
    (IsLeft : RunData → (more : ℕ) → Type 0) (Resumes : Type 0) (keep : Option (List ℕ)) (f : FilesAround) (o : Written)
    (x : Result A Refusal)
    → From c IsFrom from
    → IfErr x (IsGrowthStopped (RanOn c from steps view IsLeft) (BeganOn c from steps view) ⊥ keep f o)
    → IfErr x (IsGrowthStopped (RanFrom c IsFrom steps view IsLeft) (BeganFrom c IsFrom steps view) Resumes keep f o)
grown-stopped c IsFrom from steps view IsLeft Resumes keep f o (Ok a) there h = tt
grown-stopped c IsFrom from steps view IsLeft Resumes keep f o (Err r) there h =
    growth-stopped c IsFrom from steps view IsLeft Resumes keep f o r there h

-- its checkpoint is refused
pub growth-refused : (Ran : Bool → List ℕ → Type 0) (Began : Written → Type 0) (Resumes : Type 0) (keep : Option (List ℕ))
    (f : FilesAround) (o : Written) (r : Refusal) → Resumes → IsCheckpointRefused r → IsUntouched f → IsSilent o
    → IsGrowthStopped Ran Began Resumes keep f o r
growth-refused Ran Began Resumes keep f o (why.Schedule line) resumes h untouched silent = (resumes, silent, untouched)
growth-refused Ran Began Resumes keep f o why.Memory resumes h untouched silent = (inl silent, untouched)
growth-refused Ran Began Resumes keep f o why.Words resumes h untouched silent = absurd h
growth-refused Ran Began Resumes keep f o (why.Value field) resumes h untouched silent = absurd h
growth-refused Ran Began Resumes keep f o (why.Image bad) resumes h untouched silent = absurd h
growth-refused Ran Began Resumes keep f o (why.Store name) resumes h untouched silent = absurd h
growth-refused Ran Began Resumes keep f o why.Output resumes h untouched silent = absurd h

-- ---- from the start that the files give

began-here : (files : List (List ℕ)) (loaded : Contents) (machine : Machine) (images : List (List ℕ)) (begin : Begin) (steps : ℕ)
    (view : View) (keep : Option (List ℕ)) (o : Written) → IsGrowing view
    → started loaded ≡ start_from (Long machine images begin steps view keep) files
    → BeganFrom loaded (IsTakenUp begin loaded files) steps view o → HasBegun (Long machine images begin steps view keep) files o
began-here files loaded machine images begin steps (Rows every) keep o g start b = record { loaded = loaded; start = start; began = b }
began-here files loaded machine images begin steps (Consoles csv) keep o g start b = record { loaded = loaded; start = start; began = b }
began-here files loaded machine images begin steps (Trace from to states) keep o g start b = absurd g
began-here files loaded machine images begin steps (Count csv) keep o g start b = absurd g
began-here files loaded machine images begin steps (State most) keep o g start b = absurd g

faulty-here : (files : List (List ℕ)) (machine : Machine) (images : List (List ℕ)) (begin : Begin) (steps : ℕ) (view : View)
    (keep : Option (List ℕ)) (line : ℕ) → IsResumed begin → IsFaultyLine (Long machine images begin steps view keep) files line
faulty-here files machine images (Checkpoint name) steps view keep line h = tt
faulty-here files machine images (Seed seed) steps view keep line h = absurd h

-- what follows a command's words, however it ended
grown-here : (files : List (List ℕ)) (loaded : Contents) (machine : Machine) (images : List (List ℕ)) (begin : Begin) (steps : ℕ)
    (view : View) (keep : Option (List ℕ)) (f : FilesAround) (o : Written) (x : Result Bool Refusal) → IsGrowing view
    → started loaded ≡ start_from (Long machine images begin steps view keep) files
    → IfOk x (IsFurtherTold loaded (IsTakenUp begin loaded files) steps view (IsLeftIn keep f.before.tells f.after.contents loaded) o)
    → IfErr x (IsGrowthStopped (RanFrom loaded (IsTakenUp begin loaded files) steps view
    (IsLeftIn keep f.before.tells f.after.contents loaded)) (BeganFrom loaded (IsTakenUp begin loaded files) steps view)
    (IsResumed begin) keep f o)
    → Tells (Long machine images begin steps view keep) files f o x
grown-here files loaded machine images begin steps view keep f o (Ok done) g start (text, ran, whole) stopped =
    (text, record { loaded = loaded; start = start; ran = ran }, whole)
grown-here files loaded machine images begin steps view keep f o (Err (why.Schedule line)) g start told (resumed, silent, untouched) =
    ((faulty-here files machine images begin steps view keep line resumed, untouched), silent)
grown-here files loaded machine images begin steps view keep f o (Err why.Memory) g start told (inl silent, untouched) =
    inl (inl untouched, silent)
grown-here files loaded machine images begin steps view keep f o (Err why.Memory) g start told (inr began, untouched) =
    inr (began-here files loaded machine images begin steps view keep o g start began, untouched)
grown-here files loaded machine images begin steps view keep f o (Err (why.Store name)) g start told (unwritten, began) =
    (unwritten, inr (began-here files loaded machine images begin steps view keep o g start began))
grown-here files loaded machine images begin steps view keep f o (Err why.Output) g start told (inl (done, text, ran, cut)) =
    inl (done, text, record { loaded = loaded; start = start; ran = ran }, cut)
grown-here files loaded machine images begin steps view keep f o (Err why.Output) g start told (inr (began, rose, untouched)) =
    inr (began-here files loaded machine images begin steps view keep o g start began, rose, untouched)
grown-here files loaded machine images begin steps view keep f o (Err why.Words) g start told h = absurd h
grown-here files loaded machine images begin steps view keep f o (Err (why.Value field)) g start told h = absurd h
grown-here files loaded machine images begin steps view keep f o (Err (why.Image bad)) g start told h = absurd h

pub grown-tells : (c : Command) (files : List (List ℕ)) (loaded : Contents) (machine : Machine) (images : List (List ℕ)) (begin : Begin)
    (steps : ℕ) (view : View) (keep : Option (List ℕ)) (f : FilesAround) (o : Written) (x : Result Bool Refusal)
    → c ≡ Long machine images begin steps view keep → IsGrowing view → started loaded ≡ start_from c files
    → IfOk x (IsFurtherTold loaded (IsTakenUp begin loaded files) steps view (IsLeftIn keep f.before.tells f.after.contents loaded) o)
    → IfErr x (IsGrowthStopped (RanFrom loaded (IsTakenUp begin loaded files) steps view
    (IsLeftIn keep f.before.tells f.after.contents loaded)) (BeganFrom loaded (IsTakenUp begin loaded files) steps view)
    (IsResumed begin) keep f o)
    → Tells c files f o x
grown-tells c files loaded machine images begin steps view keep f o x is g start told stopped =
    subst (λ d. Tells d files f o x) (sym is)
    (grown-here files loaded machine images begin steps view keep f o x g (start ∙ ap (λ d. start_from d files) is) told stopped)

-- the checkpoint is the first file that is read
pub head-first : (read : List (List ℕ)) (d : List ℕ) → 1 ≤ length read → get_or read 0 d ≡ head_of read
head-first [] d h = absurd (omega (arith, h))
head-first (x ∷ xs) d h = refl

-- a long run's rows stand at least one event apart
pub grows-apart : (view : View) (begin : Begin) (keep : Option (List ℕ)) → Grows view → IsLongView view begin keep → IsGrowing view
grows-apart (Rows every) begin keep g h = h.0
grows-apart (Consoles csv) begin keep g h = tt
grows-apart (Trace from to states) begin keep g h = absurd g
grows-apart (Count csv) begin keep g h = absurd g
grows-apart (State most) begin keep g h = absurd g
