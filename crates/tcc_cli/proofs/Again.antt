-- Why the replay of a record prints what the run has printed.
use Rattle.std.proofs.Common.{ℕ, zero, suc, arith, ◌≡◌, ◌≢◌, ◌↔◌, List, [], ◌∷◌, map}
use Rattle.std.proofs.Common.{Bool, true, false, Option, Some, None, Ok, Err, IsTrue, refl, sym, ◌∙◌}
use Rattle.std.proofs.Common.{◌⊎◌, ap, subst, inl, inr, length, if◌then◌else◌}
use Rattle.std.specs.Prelude.{Contains}
use Rattle.image_load.specs.Start.{Start}
use Rattle.rules_phases.specs.Phases.{phases_of}
use Rattle.schedule_text.specs.Grammar.{text_of}
use Rattle.tcc_base.specs.Settings.{Settings}
use Rattle.tcc_cli.proofs.Complete.{answers_complete, given-told, of-command}
use Rattle.tcc_cli.proofs.Excluded.{excluded, same-events}
use Rattle.tcc_cli.proofs.Facts.{Facts}
use Rattle.tcc_cli.proofs.Truth.{one-truth}
use Rattle.tcc_cli.specs.Around.{Around}
use Rattle.tcc_cli.specs.Commands.{fault_from, image_names, record_of, tail_of}
use Rattle.tcc_cli.specs.Following.{Follows}
use Rattle.tcc_cli.specs.Images.{fault_of, start_of}
use Rattle.tcc_cli.specs.Laws.{AreTold, HasNoFault, IsLeft, IsSameReport, ReplaysPrintTheSame, ReplaysRecord}
use Rattle.tcc_cli.specs.Lines.{IsWhole}
use Rattle.tcc_world.specs.Page.{Written}
use Rattle.tcc_cli.specs.Reading.{AreGiven}
use Rattle.tcc_cli.specs.Refusals.{End, status_of}
use Rattle.tcc_cli.specs.Phased.{IsPhasePicked, phases_text}
use Rattle.tcc_cli.specs.Runs.{RunsTo, run_text}
use Rattle.tcc_cli.specs.Comes.{Comes, IsFaultyLine}
use Rattle.tcc_cli.specs.Schedules.{IsMade, IsRecorded, IsScheduleOf, Ran}
use Rattle.tcc_cli.specs.Top.{Caused, EndsOf, IsTurnedAway}
use Rattle.tcc_cli.specs.declared.refusal.Refusal.TheVariants as why
use Rattle.tcc_cli.specs.declared.status.Status.{Status}
use Rattle.tcc_cli.specs.declared.status.Status.TheVariants.{Done, Stopped, Memory}
use Rattle.tcc_msg.specs.declared.event.Event.{Event}
use Rattle.tcc_msg.specs.declared.event.Schedule.{Schedule}
use Rattle.rules_tcc.specs.Seen.{IsDone}
use Rattle.rules_tcc.specs.Step.{History}
use Rattle.tcc_words.specs.Asked.{IsCommand}
use Rattle.tcc_words.specs.declared.command.Command.{Command}
use Rattle.tcc_words.specs.declared.command.Command.TheVariants.{Run, Replay, Phases, Follow, Long}
use Rattle.tcc_words.specs.declared.command.Machine.{Machine}

-- how a command ended that wasn't refused
record EndedWell (c : Command) (w : Around) (status : Status) : Type 0 where
  done : Bool
  status_is : status ≡ status_of (Ok done)
  ends : EndsOf c w (Ok done)

ended-well : (w : Around) (status : Status) (c : Command) (end : End) → status ≡ status_of end → EndsOf c w end
    → (status ≡ Done) ⊎ (status ≡ Stopped) → EndedWell c w status
ended-well w status c (Ok done) is ends e = record { done = done; status_is = is; ends = ends }
ended-well w status c (Err why.Words) is ends e = absurd ends
ended-well w status c (Err (why.Value field)) is ends e = absurd ends
ended-well w status c (Err (why.Image bad)) is ends (inl e) = absurd (cc)
ended-well w status c (Err (why.Image bad)) is ends (inr e) = absurd (cc)
ended-well w status c (Err (why.Schedule line)) is ends (inl e) = absurd (cc)
ended-well w status c (Err (why.Schedule line)) is ends (inr e) = absurd (cc)
ended-well w status c (Err (why.Store name)) is ends (inl e) = absurd (cc)
ended-well w status c (Err (why.Store name)) is ends (inr e) = absurd (cc)
ended-well w status c (Err why.Output) is ends (inl e) = absurd (cc)
ended-well w status c (Err why.Output) is ends (inr e) = absurd (cc)
ended-well w status c (Err why.Memory) is ends (inl e) = absurd (cc)
ended-well w status c (Err why.Memory) is ends (inr e) = absurd (cc)

not-away : (words : List (List ℕ)) (status : Status) (end : End) → status ≡ status_of end → IsTurnedAway words end
    → (status ≡ Done) ⊎ (status ≡ Stopped) → ⊥
not-away words status (Err why.Words) is away (inl e) = absurd (cc)
not-away words status (Err why.Words) is away (inr e) = absurd (cc)
not-away words status (Err (why.Value field)) is away (inl e) = absurd (cc)
not-away words status (Err (why.Value field)) is away (inr e) = absurd (cc)
not-away words status (Err why.Memory) is away (inl e) = absurd (cc)
not-away words status (Err why.Memory) is away (inr e) = absurd (cc)
not-away words status _ is away e = away

well : Facts → (words : List (List ℕ)) (w : Around) (err : Written) (status : Status) (c : Command) → IsCommand words c
    → Caused words w err status
    → (status ≡ Done) ⊎ (status ≡ Stopped) → EndedWell c w status
well f words w err status c a h e = go (of-command f words w c h.end a h.ends)
  where
    go : EndsOf c w h.end ⊎ IsTurnedAway words h.end → EndedWell c w status
    go (inl ends) = ended-well w status c h.end h.status_is ends e
    go (inr away) = absurd (not-away words status h.end h.status_is away e)

-- the files as the run left them: the record, and the images as they were
images-stay : (before after : List ℕ → Option (List ℕ)) (images files : List (List ℕ))
    → ((n : List ℕ) → Contains images n → after n ≡ before n) → AreTold before images files → AreTold after images files
images-stay before after images files stay told = same images stay ∙ told
  where
    same : (ns : List (List ℕ)) → ((n : List ℕ) → Contains ns n → after n ≡ before n) → map after ns ≡ map before ns
    same [] h = refl
    same (n ∷ ns) h =
        let first = h n (zero, omega arith, refl) in
        let rest = same ns (λ m at. h m (suc at.0, omega (arith, at.1), at.2)) in
        λ i. first i ∷ rest i

-- two runs of one list of events are one
one-end : (s : Start) (es : List Event) (d e : Bool) (g h : History) → RunsTo s es d g → RunsTo s es e h → (d ≡ e) × (g ≡ h)
one-end s es d e g h a b =
    let same : g ≡ h = some (sym a.is_run ∙ b.is_run) in
    (one-truth (IsDone s.settings h.world) d e (subst (λ k. IsTrue d ↔ IsDone s.settings k.world) same a.is_done) b.is_done, same)
  where
    some : Some g ≡ Some h → g ≡ h
    some q = cc

-- and so are their texts
one-text : Facts → (s : Start) (settings : Settings) (es : List Event) (bytes : List ℕ) (d e : Bool) (h : History) (u : List ℕ)
    → IsScheduleOf settings es bytes → RunsTo s es d h → Ran s (λ fs. IsScheduleOf settings fs bytes) (run_text s) e u
    → (d ≡ e) × (u ≡ run_text s d (length es) h)
one-text f s settings es bytes d e h u is runs ran =
    let events : ran.events ≡ es = same-events f settings ran.events es bytes ran.schedule is in
    let one = one-end s es d e h ran.ends runs (subst (λ xs. RunsTo s xs e ran.ends) events ran.runs) in
    (one.0, ran.text_is ∙ sym (λ i. run_text s (one.0 i) (length (sym events i)) (one.1 i)))

-- what the first call left, whose text is this one of its end
record Left (v : Around) (machine : Machine) (images : List (List ℕ)) (name : List ℕ) (files : List (List ℕ))
    (text_of_end : Bool → ℕ → History → List ℕ) (done : Bool) (text : List ℕ) : Type 0 where
  events : List Event
  ends : History
  bytes : List ℕ
  schedule : IsScheduleOf machine.config events bytes
  images_are : fault_of machine.raw machine.config files ≡ None
  runs : RunsTo (start_of machine.raw machine.config files) events done ends
  text_is : text ≡ text_of_end done (length events) ends
  told : AreTold v.files.before.contents (name ∷ images) (bytes ∷ files)

other-name : (name n : List ℕ) (images : List (List ℕ)) → Contains images n → (Contains images name → ⊥) → Some name ≢ Some n
other-name name n images here apart e =
    let same : n ≡ name = cc in apart (subst (Contains images) same here)

same-map : (p q : List ℕ → Option (List ℕ)) (ns : List (List ℕ)) → ((n : List ℕ) → p n ≡ q n) → map p ns ≡ map q ns
same-map p q [] h = refl
same-map p q (n ∷ ns) h = (let first = h n in let rest = same-map p q ns h in λ i. first i ∷ rest i)

-- the images are as they were
images-told : Facts → (w v : Around) (recorded replay : List (List ℕ)) (e : Written) (status : Status) (c : Command) (name : List ℕ)
    (r : ReplaysRecord w v recorded replay c name) → Caused recorded w e status → AreTold v.files.before.contents (image_names c) r.files
images-told f w v recorded replay e status c name r h =
    let stays : (n : List ℕ) → Contains (image_names c) n → w.files.after.contents n ≡ w.files.before.contents n = λ n here.
    h.others n (λ d asked named. other-name name n (image_names c) here r.apart
    (sym r.named ∙ sym (ap record_of (f.one_command recorded d c asked r.first)) ∙ named)) in
    same-map v.files.before.contents w.files.after.contents (image_names c) r.left
    ∙ images-stay w.files.before.contents w.files.after.contents (image_names c) r.files stays r.told

-- a run whose record the store told
left-by : (w v : Around) (machine : Machine) (images : List (List ℕ)) (name : List ℕ) (read files : List (List ℕ))
    (keep : Option (List ℕ)) (IsSchedule : List Event → Type 0) (text_of_end : Bool → ℕ → History → List ℕ) (done : Bool) (text : List ℕ)
    → read ≡ files → fault_of machine.raw machine.config read ≡ None → keep ≡ Some name → w.files.before.tells ≡ true
    → v.files.before.contents name ≡ w.files.after.contents name → AreTold v.files.before.contents images files
    → Ran (start_of machine.raw machine.config read) (λ es. IsSchedule es
    × IsRecorded keep w.files.before.tells w.files.after.contents (record { config = machine.config; events = es })) text_of_end done text
    → Left v machine images name files text_of_end done text
left-by w v machine images name read files keep IsSchedule text_of_end done text same accepted named tells left told ran =
    let schedule : Schedule = record { config = machine.config; events = ran.events } in
    let recorded = subst (λ k. IsRecorded k w.files.before.tells w.files.after.contents schedule) named ran.schedule.1 in
    let there : w.files.after.contents name ≡ Some (text_of schedule) =
    told-so w.files.before.tells (w.files.after.contents name) (text_of schedule) tells recorded.1 in
    record {
      events = ran.events;
      ends = ran.ends;
      bytes = text_of schedule;
      schedule = record { formed = recorded.0; text = refl };
      images_are = subst (λ fs. fault_of machine.raw machine.config fs ≡ None) same accepted;
      runs = subst (λ fs. RunsTo (start_of machine.raw machine.config fs) ran.events done ran.ends) same ran.runs;
      text_is = ran.text_is;
      told = (λ i. (left ∙ there) i ∷ told i);
    }
  where
    told-so : (tells : Bool) (after : Option (List ℕ)) (bytes : List ℕ) → tells ≡ true → after ≡ (if tells then Some bytes else None)
        → after ≡ Some bytes
    told-so true after bytes t q = q
    told-so false after bytes t q = absurd (cc)

-- the replay isn't refused
good-again : (c : Command) (files : List (List ℕ)) (status : Status) → fault_from c files ≡ None
    → ((line : ℕ) → IsFaultyLine c files line → ⊥) → status ≢ Memory → IsLeft c files status → (status ≡ Done) ⊎ (status ≡ Stopped)
good-again c files status images fine enough h = go (h.neither images fine)
  where
    go : (status ≡ Done) ⊎ (status ≡ Stopped) ⊎ (status ≡ Memory) → (status ≡ Done) ⊎ (status ≡ Stopped)
    go (inl e) = inl e
    go (inr (inl e)) = inr e
    go (inr (inr e)) = absurd (enough e)

-- the replay of what was left: it ends alike, and prints the report
record Again (s : Start) (events : List Event) (ends : History) (done : Bool) (v : Around) (other : Status) : Type 0 where
  status_is : other ≡ status_of (Ok done)
  whole : IsWhole (run_text s done (length events) ends) v.out

run-again : Facts → (v : Around) (replay : List (List ℕ)) (g : Written) (other : Status) (machine : Machine) (images : List (List ℕ))
    (name : List ℕ) (files : List (List ℕ)) (text_of_end : Bool → ℕ → History → List ℕ) (done : Bool) (text : List ℕ)
    (l : Left v machine images name files text_of_end done text) → IsCommand replay (Replay machine name images)
    → Caused replay v g other → HasNoFault (Replay machine name images) v → other ≢ Memory
    → Again (start_of machine.raw machine.config files) l.events l.ends done v other
run-again f v replay g other machine images name files text_of_end done text l asked again none enough =
    let c = Replay machine name images in
    let all = l.bytes ∷ files in
    let s = start_of machine.raw machine.config files in
    let ran : Comes c all v.files.before.tells v.files.after.contents done (run_text s done (length l.events) l.ends) = record {
      events = l.events;
      ends = l.ends;
      schedule = l.schedule;
      runs = l.runs;
      text_is = refl;
    } in
    let well_again = good-again c all other l.images_are
    (λ line faulty. excluded f c all v.files.before.tells v.files.after.contents done (run_text s done (length l.events) l.ends) line
    (f.in_bounds replay c asked) tt ran faulty) enough
    (answers_complete f replay v g other c all again asked l.told none) in
    let x = well f replay v g other c asked again well_again in
    let (read, u, started, ran_again, whole) = x.ends in
    let same = given-told v.files.before.contents (name ∷ images) all read l.told started.given in
    let one = one-text f s machine.config l.events l.bytes done x.done l.ends u l.schedule l.runs
    (subst (λ fs. Comes c fs v.files.before.tells v.files.after.contents x.done u) same ran_again) in
    record { status_is = x.status_is ∙ ap (λ d. status_of (Ok d)) (sym one.0); whole = subst (λ t. IsWhole t v.out) one.1 whole }

-- the files behind a list
tail-told : (told : List ℕ → Option (List ℕ)) (list : List ℕ) (names files read : List (List ℕ)) → AreTold told names files
    → AreGiven told (list ∷ names) read → tail_of read ≡ files
unfolding AreGiven
tail-told told list names files [] t g = absurd g
tail-told told list names files (first ∷ read) t g = given-told told names files read t g.1

report-behind : (s : Start) (done : Bool) (events : ℕ) (h : History) (text : List ℕ) (o p : Written) → text ≡ phases_text s done events h
    → IsWhole text o → IsWhole (run_text s done events h) p → IsSameReport o p
unfolding phases_text
report-behind s done events h text o p is first second =
    (h.commits, phases_of s h, run_text s done events h, subst (λ t. IsWhole t o) is first, second)

pub prints-the-same : Facts → ReplaysPrintTheSame
prints-the-same f w v recorded replay e g status other (Run machine images steps seed threads batch keep) name r h good again none enough =
    let c = Run machine images steps seed threads batch keep in
    let x = well f recorded w e status c r.first h good in
    let (read, text, started, ran, whole) = x.ends in
    let s = start_of machine.raw machine.config r.files in
    let same = given-told w.files.before.contents images r.files read r.told started.given in
    let l = left-by w v machine images name read r.files keep
    (IsMade threads (start_of machine.raw machine.config read) seed steps) (run_text (start_of machine.raw machine.config read)) x.done text
    same started.images r.named r.tells (r.left name) (images-told f w v recorded replay e status c name r h) ran in
    let a = run-again f v replay g other machine images name r.files _ x.done text l r.second again none enough in
    let is : text ≡ run_text s x.done (length l.events) l.ends =
    subst (λ fs. text ≡ run_text (start_of machine.raw machine.config fs) x.done (length l.events) l.ends) same l.text_is in
    (a.status_is ∙ sym x.status_is, (text, whole, subst (λ t. IsWhole t v.out) (sym is) a.whole))
prints-the-same f w v recorded replay e g status other (Phases machine images steps seed keep) name r h good again none enough =
    let c = Phases machine images steps seed keep in
    let x = well f recorded w e status c r.first h good in
    let (read, text, started, ran, whole) = x.ends in
    let s = start_of machine.raw machine.config r.files in
    let same = given-told w.files.before.contents images r.files read r.told started.given in
    let l = left-by w v machine images name read r.files keep
    (IsPhasePicked (start_of machine.raw machine.config read) seed steps) (phases_text (start_of machine.raw machine.config read)) x.done
    text same started.images r.named r.tells (r.left name) (images-told f w v recorded replay e status c name r h) ran.ran in
    let a = run-again f v replay g other machine images name r.files _ x.done text l r.second again none enough in
    let is : text ≡ phases_text s x.done (length l.events) l.ends =
    subst (λ fs. text ≡ phases_text (start_of machine.raw machine.config fs) x.done (length l.events) l.ends) same l.text_is in
    (a.status_is ∙ sym x.status_is, report-behind s x.done (length l.events) l.ends text w.out v.out is whole a.whole)
prints-the-same f w v recorded replay e g status other (Follow machine list images keep) name r h good again none enough =
    let c = Follow machine list images keep in
    let x = well f recorded w e status c r.first h good in
    let (read, text, started, ran, whole) = x.ends in
    let s = start_of machine.raw machine.config r.files in
    let same = tail-told w.files.before.contents list images r.files read r.told started.given in
    let l = left-by w v machine images name (tail_of read) r.files keep
    (λ es. Follows (start_of machine.raw machine.config (tail_of read)) ran.orders es)
    (run_text (start_of machine.raw machine.config (tail_of read))) x.done text
    same started.images r.named r.tells (r.left name) (images-told f w v recorded replay e status c name r h) ran.ran in
    let a = run-again f v replay g other machine images name r.files _ x.done text l r.second again none enough in
    let is : text ≡ run_text s x.done (length l.events) l.ends =
    subst (λ fs. text ≡ run_text (start_of machine.raw machine.config fs) x.done (length l.events) l.ends) same l.text_is in
    (a.status_is ∙ sym x.status_is, (text, whole, subst (λ t. IsWhole t v.out) (sym is) a.whole))
prints-the-same f w v recorded replay e g status other (Long machine images begin steps view keep) name r h good again none enough =
    absurd r.schedule
prints-the-same f w v recorded replay e g status other _ name r h good again none enough = absurd (unlike r.named)
  where
    unlike : ◌≡◌ {A = Option (List ℕ)} None (Some name) → ⊥
    unlike q = absurd (cc)
