-- What comes to an end has no faulty line.
use Rattle.std.specs.Prelude.{IsSome}
use Rattle.std.proofs.Common.{◌≡◌, ◌≤◌, ℕ, Bool, List, map, take, Option, Some, None, inl, inr, ap, refl, sym, subst, ◌∙◌}
use Rattle.image_load.specs.Start.{Start}
use Rattle.schedule_text.specs.Faults.{IsFirstFault}
use Rattle.tcc_base.specs.Settings.{IsAllowed, Settings}
use Rattle.tcc_cli.proofs.Comes.{start_settings}
use Rattle.tcc_cli.proofs.Facts.{Facts}
use Rattle.tcc_cli.specs.Commands.{head_of, start_from, tail_of}
use Rattle.tcc_cli.specs.Images.{start_of}
use Rattle.tcc_cli.specs.Lists.{IsListFault}
use Rattle.tcc_cli.specs.Comes.{Comes, IsFaultyLine}
use Rattle.tcc_cli.specs.Laws.{TakesNoCheckpoint}
use Rattle.tcc_cli.specs.Looks.{AreFirst, IsFaultOfFirst, LookedAt, most_of, view_text}
use Rattle.tcc_cli.specs.Schedules.{IsScheduleFault, IsScheduleOf, Ran}
use Rattle.tcc_cli.specs.Runs.{IsRun, run_text}
use Rattle.text_why.specs.Text.{why_text}
use Rattle.rules_maps.specs.Nodes.{Event as RulesEvent}
use Rattle.tcc_msg.specs.Plain.{event_of}
use Rattle.tcc_msg.specs.declared.event.Event.{Event}
use Rattle.serial_tool.specs.Lists.{IsList}
use Rattle.serial_tool.specs.Runs.{serial_by}
use Rattle.serial_tool.specs.declared.reading.Listed.{Listed}
use Rattle.tcc_replay.specs.Replayed.{history_by}
use Rattle.rules_tcc.specs.Step.{History}
use Rattle.tcc_words.specs.Bounds.{IsInBounds}
use Rattle.tcc_words.specs.declared.command.Command.{Command}
use Rattle.tcc_words.specs.declared.command.Command.TheVariants.{Replay, Serial, Why, Look, Follow, Long}
use Rattle.tcc_words.specs.declared.command.Begin.TheVariants as begin
use Rattle.tcc_words.specs.declared.command.Source.TheVariants.{Schedule}

-- two schedules of one text with the same settings have the same events
pub same-events : Facts → (settings : Settings) (es fs : List Event) (bytes : List ℕ) → IsScheduleOf settings es bytes
    → IsScheduleOf settings fs bytes → es ≡ fs
same-events f settings es fs bytes a b =
    ap (λ s. s.events) (f.one_schedule (record { config = settings; events = es })
    (record { config = settings; events = fs }) a.formed b.formed
    (sym a.text ∙ b.text))

schedule-excluded : Facts → (s : Start) (settings : Settings) (bytes : List ℕ) (line : ℕ) (text_of_end : Bool → ℕ → History → List ℕ)
    (done : Bool) (text : List ℕ) → Ran s (λ es. IsScheduleOf settings es bytes) text_of_end done text
    → IsScheduleFault s settings bytes line → ⊥
schedule-excluded f s settings bytes line text_of_end done text ran (inl fault) =
    f.no_faulty_line (record { config = settings; events = ran.events }) line ran.schedule.formed (subst
    (IsFirstFault line) ran.schedule.text fault)
schedule-excluded f s settings bytes line text_of_end done text ran (inr (inl (two, other))) =
    other.other (ap (λ x. x.config) (f.one_schedule other.schedule
    (record { config = settings; events = ran.events }) other.formed ran.schedule.formed
    (sym other.text ∙ ran.schedule.text)))
schedule-excluded f s settings bytes line text_of_end done text ran (inr (inr (es, i, is, refused, at))) =
    let same = same-events f settings ran.events es bytes ran.schedule is in
    f.runs_go_on s es ran.ends i (subst (λ xs. history_by s xs ≡ Some ran.ends) same ran.runs.is_run) refused

look-excluded : Facts → (s : Start) (settings : Settings) (bytes : List ℕ) (most line : ℕ)
    (text_of_run : Bool → List RulesEvent → History → List ℕ) (done : Bool) (text : List ℕ)
    → LookedAt s (AreFirst settings bytes most) text_of_run done text → IsFaultOfFirst s settings bytes most line → ⊥
look-excluded f s settings bytes most line text_of_run done text looked (inl fault) =
    let all = looked.are.0 in let is = looked.are.1 in
    f.no_faulty_line (record { config = settings; events = all }) line is.formed (subst (IsFirstFault line) is.text fault)
look-excluded f s settings bytes most line text_of_run done text looked (inr (inl (two, other))) =
    let all = looked.are.0 in let is = looked.are.1 in
    other.other (ap (λ x. x.config) (f.one_schedule other.schedule
    (record { config = settings; events = all }) other.formed is.formed (sym other.text ∙ is.text)))
look-excluded f s settings bytes most line text_of_run done text looked (inr (inr (es, i, is, refused, at))) =
    let same : looked.are.0 ≡ es = same-events f settings looked.are.0 es bytes looked.are.1 is in
    let taken : looked.events ≡ map event_of (take most es) = looked.are.2 ∙ ap (λ xs. map event_of (take most xs)) same in
    f.runs_go_on s (take most es) looked.ends i (subst (λ xs. IsRun s xs looked.ends) taken looked.runs.is_run) refused

list-excluded : Facts → (s : Start) (bytes : List ℕ) (listed : List Listed) (line : ℕ) → s.settings.cores ≤ 64
    → IsList s.settings.cores bytes listed → IsSome (serial_by s listed) → IsListFault s bytes line → ⊥
list-excluded f s bytes listed line few list some (inl fault) = f.no_faulty_order s.settings.cores bytes listed line list fault
list-excluded f s bytes listed line few list some (inr (orders, is, stuck)) =
    let same = f.one_list s.settings.cores bytes orders listed few is list in
    none-some (serial_by s listed) (subst (λ os. serial_by s os ≡ None) same (f.stuck_has_no_run s orders line stuck)) some
  where
    none-some : {A : Type 0} (x : Option A) → x ≡ None → IsSome x → ⊥
    none-some x e h = absurd (cc)

some-of : {A : Type 0} (x : Option A) (a : A) → x ≡ Some a → IsSome x
some-of x a e = subst IsSome (sym e) refl

few-cores : (raw : Bool) (s : Settings) (files : List (List ℕ)) → IsAllowed s → (start_of raw s files).settings.cores ≤ 64
few-cores raw s files allowed = subst (λ t. t.cores ≤ 64) (sym (start_settings raw s files)) allowed.0.1

pub excluded : Facts → (c : Command) (files : List (List ℕ)) (tells : Bool) (told : List ℕ → Option (List ℕ)) (done : Bool) (text : List ℕ)
    (line : ℕ) → IsInBounds c → TakesNoCheckpoint c → Comes c files tells told done text → IsFaultyLine c files line → ⊥
excluded f (Replay machine schedule images) files tells told done text line bounds none comes fault =
    let s = start_from (Replay machine schedule images) files in
    schedule-excluded f s machine.config (head_of files) line (run_text s) done text comes fault
excluded f (Serial machine list images) files tells told done text line bounds none comes fault =
    let s = start_from (Serial machine list images) files in
    list-excluded f s (head_of files) comes.1.orders line (few-cores machine.raw machine.config (tail_of files) bounds.allowed) comes.1.list
    (some-of (serial_by s comes.1.orders) (comes.1.machine, comes.1.commits) comes.1.executed) fault
excluded f (Follow machine list images keep) files tells told done text line bounds none comes fault =
    list-excluded f (start_from (Follow machine list images keep) files) (head_of files) comes.listed.listed line
    (few-cores machine.raw machine.config (tail_of files) bounds.allowed) comes.listed.list comes.listed.executed fault
excluded f (Why machine schedule images) files tells told done text line bounds none comes fault =
    let s = start_from (Why machine schedule images) files in
    schedule-excluded f s machine.config (head_of files) line (why_text s) done text comes fault
excluded f (Look machine images (Schedule name) view) files tells told done text line bounds none comes fault =
    let s = start_from (Look machine images (Schedule name) view) files in
    look-excluded f s machine.config (head_of files) (most_of view) line (view_text view None s) done text comes fault
excluded f (Long machine images (begin.Checkpoint name) steps view keep) files tells told done text line bounds none comes fault = none
excluded f _ files tells told done text line bounds none comes fault = fault
