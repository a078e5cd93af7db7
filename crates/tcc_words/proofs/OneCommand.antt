-- Words ask for one command at most, since each of its parts is told by what clap read.
use Rattle.std.proofs.Common.{◌≡◌, ◌↔◌, ℕ, ◌+◌, ◌==◌, Bool, true, false, IsTrue, List, [], ◌∷◌, Option, Some, None}
use Rattle.std.proofs.Common.{get_or, refl, sym, ap, subst, ◌∙◌, inl, inr, if◌then◌else◌}
use Rattle.std.specs.Prelude.{codes}
use Rattle.clap.specs.Words.{Row, Text, first_of, matches_of}
use Rattle.tcc_base.specs.Settings.{Settings}
use Rattle.work_gen.specs.Names.{work_word}
use Rattle.work_gen.specs.declared.work.Work.{Work}
use Rattle.work_gen.specs.declared.work.Work.TheVariants.{Counters, Transfers, Stencil, Sharing}
use Rattle.tcc_words.specs.Asked.{Asks, AsksBegin, AsksLook, AsksSource, AsksView, HasMachine, HasPlaces, HasSettings, HasTell}
use Rattle.tcc_words.specs.Asked.{IsGiven, MayBeGiven, Stands}
use Rattle.run_outcomes.specs.declared.outcomes.Tell.{Tell}
use Rattle.run_outcomes.specs.declared.outcomes.Tell.TheVariants.{Consoles, Memory, Everything}
use Rattle.tcc_words.specs.Fields.{AllowsIn, BreaksFirst, IsFlagged, IsSaid, IsValue, default_of, field_word, order, tell_word}
use Rattle.tcc_words.specs.Grammar.{grammar}
use Rattle.tcc_words.specs.Laws.{CommandsAreNotRefused, WordsAskForOneCommand}
use Rattle.tcc_words.specs.Numbers.{IsNumber}
use Rattle.tcc_words.specs.declared.command.Begin.{Begin}
use Rattle.tcc_words.specs.declared.command.Begin.TheVariants as begin
use Rattle.tcc_words.specs.declared.command.Command.{Command}
use Rattle.tcc_words.specs.declared.command.Command.TheVariants as command
use Rattle.tcc_words.specs.declared.command.Field.{Field}
use Rattle.tcc_words.specs.declared.command.Field.TheVariants.{Cores, Dirs, Sets, Ways, Ram, Base, Steps, Seed, From, To}
use Rattle.tcc_words.specs.declared.command.Field.TheVariants.{Events, States, Longest, Batch}
use Rattle.tcc_words.specs.declared.command.Machine.{Machine}
use Rattle.tcc_words.specs.declared.command.Source.{Source}
use Rattle.tcc_words.specs.declared.command.Source.TheVariants as source
use Rattle.tcc_words.specs.declared.command.Verb.{Verb}
use Rattle.tcc_words.specs.declared.command.Verb.TheVariants.{Run, Replay, Serial, Trial, Why, Phases, Bus, Trace, Count, State}
use Rattle.tcc_words.specs.declared.command.Verb.TheVariants.{Outcomes, Follow}
use Rattle.tcc_words.specs.declared.command.View.{View}
use Rattle.tcc_words.specs.declared.command.View.TheVariants as view
use Rattle.tcc_words.specs.declared.command.WordsFault.TheVariants as fault
use Rattle.tcc_words.proofs.Standing.{stands-verb}

-- ---- what stands in one field

one-number : (text : Text) (m n : ℕ) → IsNumber text m → IsNumber text n → m ≡ n
one-number text m n a b = sym a.value ∙ b.value

pub one-value : (default : ℕ) (o : Option Text) (m n : ℕ) → IsValue default o m → IsValue default o n → m ≡ n
one-value default None m n a b = a ∙ sym b
one-value default (Some text) m n a b = one-number text m n a b

one-said : (rows : List Row) (field : Field) (m n : ℕ) → IsSaid rows field m → IsSaid rows field n → m ≡ n
one-said rows field m n a b = one-value (default_of field) (first_of (field_word field) rows) m n a b

one-some : {A : Type 0} (o : Option A) (x y : A) → o ≡ Some x → o ≡ Some y → x ≡ y
one-some o x y a b = cc

one-given : (rows : List Row) (name : Text) (m n : ℕ) → IsGiven rows name m → IsGiven rows name n → m ≡ n
one-given rows name m n a b =
    let text : a.0 ≡ b.0 = one-some (first_of name rows) a.0 b.0 a.1 b.1 in
    one-number b.0 m n (subst (λ (t : Text). IsNumber t m) text a.2) b.2

pub none-given : (rows : List Row) (name : Text) (n : ℕ) → first_of name rows ≡ None → IsGiven rows name n → ⊥
none-given rows name n none given = let there = given.1 in absurd cc

may-be : (rows : List Row) (name : Text) (m n : Option ℕ) → MayBeGiven rows name m → MayBeGiven rows name n → m ≡ n
may-be rows name None None a b = refl
may-be rows name None (Some n) a b = absurd (none-given rows name n a b)
may-be rows name (Some m) None a b = absurd (none-given rows name m b a)
may-be rows name (Some m) (Some n) a b = ap (λ (k : ℕ). Some k) (one-given rows name m n a b)

-- ---- the machine

one-settings : (rows : List Row) (s t : Settings) → HasSettings rows s → HasSettings rows t → s ≡ t
one-settings rows s t a b =
    let cores = one-said rows Cores s.cores t.cores a.cores b.cores in
    let dirs = one-said rows Dirs s.dirs t.dirs a.dirs b.dirs in
    let sets = one-said rows Sets s.sets t.sets a.sets b.sets in
    let ways = one-said rows Ways s.ways t.ways a.ways b.ways in
    let ram = one-said rows Ram s.ram t.ram a.ram b.ram in
    let base = one-said rows Base s.base t.base a.base b.base in
    λ i. record { cores = cores i; dirs = dirs i; sets = sets i; ways = ways i; base = base i; ram = ram i }

same-truth : (P : Type 0) (a b : Bool) → (IsTrue a ↔ P) → (IsTrue b ↔ P) → a ≡ b
same-truth P true true p q = refl
same-truth P false false p q = refl
same-truth P true false p q = sym (q.1 (p.0 refl))
same-truth P false true p q = p.1 (q.0 refl)

one-machine : (rows : List Row) (m n : Machine) → HasMachine rows m → HasMachine rows n → m ≡ n
one-machine rows m n a b =
    let config = one-settings rows m.config n.config a.0 b.0 in
    let raw = same-truth (IsFlagged (codes "raw") rows) m.raw n.raw a.1 b.1 in
    λ i. record { config = config i; raw = raw i }

-- ---- the workload

-- a number by which the names of workloads differ
work-tag : Text → ℕ
work-tag text = get_or text 0 0 + get_or text 1 0

work-of : ℕ → Work
work-of n = if n == 210 then Counters else (if n == 230 then Transfers else (if n == 231 then Stencil else Sharing))

work-again : (w : Work) → work-of (work-tag (work_word w)) ≡ w
unfolding work-of work-tag
work-again Counters = refl
work-again Transfers = refl
work-again Stencil = refl
work-again Sharing = refl

one-work : (v w : Work) → work_word v ≡ work_word w → v ≡ w
one-work v w e = sym (work-again v) ∙ ap (λ (t : Text). work-of (work-tag t)) e ∙ work-again w

-- ---- one command

one-run : (rows : List Row) (c d : Command) → Asks Run rows c → Asks Run rows d → c ≡ d
one-run rows (command.Run m images steps seed threads batch keep) (command.Run n images' steps' seed' threads' batch' keep') a b =
    let machine = one-machine rows m n a.0 b.0 in
    let files : images ≡ images' = a.1 ∙ sym b.1 in
    let most = one-said rows Steps steps steps' a.2 b.2 in
    let start = one-said rows Seed seed seed' a.3 b.3 in
    let hosts = may-be rows _ threads threads' a.4 b.4 in
    let acts = one-said rows Batch batch batch' a.5 b.5 in
    let kept : keep ≡ keep' = a.6 ∙ sym b.6 in
    λ i. command.Run (machine i) (files i) (most i) (start i) (hosts i) (acts i) (kept i)
one-run rows (command.Run m images steps seed threads batch keep) _ a b = absurd b
one-run rows _ d a b = absurd a

one-replay : (rows : List Row) (c d : Command) → Asks Replay rows c → Asks Replay rows d → c ≡ d
one-replay rows (command.Replay m file images) (command.Replay n file' images') a b =
    let machine = one-machine rows m n a.0 b.0 in
    let files : file ≡ file' = one-some _ file file' a.1 b.1 in
    let loaded : images ≡ images' = a.2 ∙ sym b.2 in
    λ i. command.Replay (machine i) (files i) (loaded i)
one-replay rows (command.Replay m file images) _ a b = absurd b
one-replay rows _ d a b = absurd a

one-serial : (rows : List Row) (c d : Command) → Asks Serial rows c → Asks Serial rows d → c ≡ d
one-serial rows (command.Serial m file images) (command.Serial n file' images') a b =
    let machine = one-machine rows m n a.0 b.0 in
    let files : file ≡ file' = one-some _ file file' a.1 b.1 in
    let loaded : images ≡ images' = a.2 ∙ sym b.2 in
    λ i. command.Serial (machine i) (files i) (loaded i)
one-serial rows (command.Serial m file images) _ a b = absurd b
one-serial rows _ d a b = absurd a

one-trial : (rows : List Row) (c d : Command) → Asks Trial rows c → Asks Trial rows d → c ≡ d
one-trial rows (command.Trial s work number steps seed) (command.Trial t work' number' steps' seed') a b =
    let config = one-settings rows s t a.0 b.0 in
    let works = one-work work work' (one-some _ (work_word work) (work_word work') a.1 b.1) in
    let numbers = one-given rows _ number number' a.2 b.2 in
    let most = one-said rows Steps steps steps' a.3 b.3 in
    let start = one-said rows Seed seed seed' a.4 b.4 in
    λ i. command.Trial (config i) (works i) (numbers i) (most i) (start i)
one-trial rows (command.Trial s work number steps seed) _ a b = absurd b
one-trial rows _ d a b = absurd a

one-why : (rows : List Row) (c d : Command) → Asks Why rows c → Asks Why rows d → c ≡ d
one-why rows (command.Why m file images) (command.Why n file' images') a b =
    let machine = one-machine rows m n a.0 b.0 in
    let files : file ≡ file' = one-some _ file file' a.1 b.1 in
    let loaded : images ≡ images' = a.2 ∙ sym b.2 in
    λ i. command.Why (machine i) (files i) (loaded i)
one-why rows (command.Why m file images) _ a b = absurd b
one-why rows _ d a b = absurd a

one-phases : (rows : List Row) (c d : Command) → Asks Phases rows c → Asks Phases rows d → c ≡ d
one-phases rows (command.Phases m images steps seed keep) (command.Phases n images' steps' seed' keep') a b =
    let machine = one-machine rows m n a.0 b.0 in
    let files : images ≡ images' = a.1 ∙ sym b.1 in
    let most = one-said rows Steps steps steps' a.2 b.2 in
    let start = one-said rows Seed seed seed' a.3 b.3 in
    let kept : keep ≡ keep' = a.4 ∙ sym b.4 in
    λ i. command.Phases (machine i) (files i) (most i) (start i) (kept i)
one-phases rows (command.Phases m images steps seed keep) _ a b = absurd b
one-phases rows _ d a b = absurd a

one-bus : (rows : List Row) (c d : Command) → Asks Bus rows c → Asks Bus rows d → c ≡ d
one-bus rows (command.Bus m images steps seed) (command.Bus n images' steps' seed') a b =
    let machine = one-machine rows m n a.0 b.0 in
    let files : images ≡ images' = a.1 ∙ sym b.1 in
    let most = one-said rows Steps steps steps' a.2 b.2 in
    let start = one-said rows Seed seed seed' a.3 b.3 in
    λ i. command.Bus (machine i) (files i) (most i) (start i)
one-bus rows (command.Bus m images steps seed) _ a b = absurd b
one-bus rows _ d a b = absurd a

one-source : (rows : List Row) (s t : Source) → AsksSource rows s → AsksSource rows t → s ≡ t
one-source rows (source.Seed steps seed) (source.Seed steps' seed') a b =
    let most = one-said rows Steps steps steps' a.1 b.1 in
    let start = one-said rows Seed seed seed' a.2 b.2 in
    λ i. source.Seed (most i) (start i)
one-source rows (source.Seed steps seed) (source.Schedule name) a b = let none = a.0 in absurd cc
one-source rows (source.Schedule name) (source.Seed steps seed) a b = let none = b.0 in absurd cc
one-source rows (source.Schedule name) (source.Schedule other) a b =
    let same : name ≡ other = one-some _ name other a b in
    λ i. source.Schedule (same i)

one-begin : (rows : List Row) (s t : Begin) → AsksBegin rows s → AsksBegin rows t → s ≡ t
one-begin rows (begin.Seed seed) (begin.Seed seed') a b = ap (λ (n : ℕ). begin.Seed n) (one-said rows Seed seed seed' a.1 b.1)
one-begin rows (begin.Seed seed) (begin.Checkpoint name) a b = let none = a.0 in absurd cc
one-begin rows (begin.Checkpoint name) (begin.Seed seed) a b = let none = b.0 in absurd cc
one-begin rows (begin.Checkpoint name) (begin.Checkpoint other) a b =
    ap (λ (t : Text). begin.Checkpoint t) (one-some _ name other a b)

-- the consoles of a run stand without totals as it goes
abbrev StandApart : List Row → Type 0
StandApart rows = IsFlagged (codes "consoles") rows → first_of (codes "every") rows ≡ None

one-view : (verb : Verb) (rows : List Row) (v w : View) → StandApart rows → AsksView verb rows v → AsksView verb rows w → v ≡ w
one-view Trace rows (view.Trace from to states) (view.Trace from' to' states') apart a b =
    let first = one-said rows From from from' a.0 b.0 in
    let last = one-said rows To to to' a.1 b.1 in
    let records = same-truth (IsFlagged (codes "records") rows) states states' a.2 b.2 in
    λ i. view.Trace (first i) (last i) (records i)
one-view Count rows (view.Count csv) (view.Count csv') apart a b =
    ap (λ (c : Bool). view.Count c) (same-truth (IsFlagged (codes "csv") rows) csv csv' a.2 b.2)
one-view Count rows (view.Rows every) (view.Rows every') apart a b =
    ap (λ (n : ℕ). view.Rows n) (one-given rows (codes "every") every every' a b)
one-view Count rows (view.Consoles csv) (view.Consoles csv') apart a b =
    ap (λ (c : Bool). view.Consoles c) (same-truth (IsFlagged (codes "csv") rows) csv csv' a.1 b.1)
one-view Count rows (view.Count csv) (view.Rows every) apart a b = absurd (none-given rows (codes "every") every a.0 b)
one-view Count rows (view.Rows every) (view.Count csv) apart a b = absurd (none-given rows (codes "every") every b.0 a)
one-view Count rows (view.Count csv) (view.Consoles csv') apart a b = absurd (a.1 b.0)
one-view Count rows (view.Consoles csv) (view.Count csv') apart a b = absurd (b.1 a.0)
one-view Count rows (view.Rows every) (view.Consoles csv) apart a b = absurd (none-given rows (codes "every") every (apart b.0) a)
one-view Count rows (view.Consoles csv) (view.Rows every) apart a b = absurd (none-given rows (codes "every") every (apart a.0) b)
one-view State rows (view.State events) (view.State events') apart a b =
    ap (λ (n : ℕ). view.State n) (one-said rows Events events events' a b)
one-view Trace rows (view.Trace from to states) _ apart a b = absurd b
one-view Count rows (view.Count csv) _ apart a b = absurd b
one-view Count rows (view.Rows every) _ apart a b = absurd b
one-view Count rows (view.Consoles csv) _ apart a b = absurd b
one-view State rows (view.State events) _ apart a b = absurd b
one-view _ rows v w apart a b = absurd a

one-look : (rows : List Row) (v : View) (c d : Command) → AsksLook rows v c → AsksLook rows v d → c ≡ d
one-look rows v (command.Look m images source view) (command.Look n images' source' view') a b =
    let machine = one-machine rows m n a.2 b.2 in
    let files : images ≡ images' = a.3 ∙ sym b.3 in
    let run = one-source rows source source' a.4 b.4 in
    let same : view ≡ view' = a.5 ∙ sym b.5 in
    λ i. command.Look (machine i) (files i) (run i) (same i)
one-look rows v (command.LookOnBus m images steps seed view) (command.LookOnBus n images' steps' seed' view') a b =
    let machine = one-machine rows m n a.1 b.1 in
    let files : images ≡ images' = a.2 ∙ sym b.2 in
    let most = one-said rows Steps steps steps' a.3 b.3 in
    let start = one-said rows Seed seed seed' a.4 b.4 in
    let same : view ≡ view' = a.5 ∙ sym b.5 in
    λ i. command.LookOnBus (machine i) (files i) (most i) (start i) (same i)
one-look rows v (command.Long m images begin steps view keep) (command.Long n images' begin' steps' view' keep') a b =
    let machine = one-machine rows m n a.2 b.2 in
    let files : images ≡ images' = a.3 ∙ sym b.3 in
    let start = one-begin rows begin begin' a.4 b.4 in
    let most = one-said rows Steps steps steps' a.5 b.5 in
    let same : view ≡ view' = a.6 ∙ sym b.6 in
    let kept : keep ≡ keep' = a.7 ∙ sym b.7 in
    λ i. command.Long (machine i) (files i) (start i) (most i) (same i) (kept i)
one-look rows v (command.Look m images source view) (command.LookOnBus n images' steps seed view') a b = absurd (a.0 b.0)
one-look rows v (command.LookOnBus m images steps seed view) (command.Look n images' source view') a b = absurd (b.0 a.0)
one-look rows v (command.Look m images source view) (command.Long n images' begin steps view' keep) a b = absurd (a.1 b.1)
one-look rows v (command.Long m images begin steps view keep) (command.Look n images' source view') a b = absurd (b.1 a.1)
one-look rows v (command.LookOnBus m images steps seed view) (command.Long n images' begin steps' view' keep) a b = absurd (b.0 a.0)
one-look rows v (command.Long m images begin steps view keep) (command.LookOnBus n images' steps' seed view') a b = absurd (a.0 b.0)
one-look rows v (command.Look m images source view) _ a b = absurd b
one-look rows v (command.LookOnBus m images steps seed view) _ a b = absurd b
one-look rows v (command.Long m images begin steps view keep) _ a b = absurd b
one-look rows v _ d a b = absurd a

one-looking : (verb : Verb) (rows : List Row) (c d : Command) → StandApart rows → ((v : View) × AsksLook rows v c × AsksView verb rows v)
    → ((v : View) × AsksLook rows v d × AsksView verb rows v) → c ≡ d
one-looking verb rows c d apart a b =
    let same : b.0 ≡ a.0 = one-view verb rows b.0 a.0 apart b.2 a.2 in
    one-look rows a.0 c d a.1 (subst (λ v. AsksLook rows v d) same b.1)

-- a number by which the words of what is told differ
told-of : ℕ → Tell
told-of n = if n == 99 then Consoles else (if n == 109 then Memory else Everything)

told-again : (t : Tell) → told-of (get_or (tell_word t) 0 0) ≡ t
unfolding told-of
told-again Consoles = refl
told-again Memory = refl
told-again Everything = refl

one-tell : (rows : List Row) (s t : Tell) → HasTell rows s → HasTell rows t → s ≡ t
one-tell rows s t a b = sym (told-again s) ∙ ap (λ (word : Text). told-of (get_or word 0 0)) (sym a ∙ b) ∙ told-again t

one-outcomes : (rows : List Row) (c d : Command) → Asks Outcomes rows c → Asks Outcomes rows d → c ≡ d
one-outcomes rows (command.Outcomes m images limits tell) (command.Outcomes n images' limits' tell') a b =
    let machine = one-machine rows m n a.0 b.0 in
    let files : images ≡ images' = a.1 ∙ sym b.1 in
    let states = one-said rows States limits.states limits'.states a.2 b.2 in
    let longest = one-said rows Longest limits.longest limits'.longest a.3 b.3 in
    let told = one-tell rows tell tell' a.4 b.4 in
    λ i. command.Outcomes (machine i) (files i) (record { states = states i; longest = longest i }) (told i)
one-outcomes rows (command.Outcomes m images limits tell) _ a b = absurd b
one-outcomes rows _ d a b = absurd a

one-follow : (rows : List Row) (c d : Command) → Asks Follow rows c → Asks Follow rows d → c ≡ d
one-follow rows (command.Follow m file images keep) (command.Follow n file' images' keep') a b =
    let machine = one-machine rows m n a.0 b.0 in
    let files : file ≡ file' = one-some _ file file' a.1 b.1 in
    let loaded : images ≡ images' = a.2 ∙ sym b.2 in
    let kept : keep ≡ keep' = a.3 ∙ sym b.3 in
    λ i. command.Follow (machine i) (files i) (loaded i) (kept i)
one-follow rows (command.Follow m file images keep) _ a b = absurd b
one-follow rows _ d a b = absurd a

one-asked : (verb : Verb) (rows : List Row) (c d : Command) → HasPlaces verb rows → Asks verb rows c → Asks verb rows d → c ≡ d
one-asked Run rows c d places a b = one-run rows c d a b
one-asked Replay rows c d places a b = one-replay rows c d a b
one-asked Serial rows c d places a b = one-serial rows c d a b
one-asked Trial rows c d places a b = one-trial rows c d a b
one-asked Why rows c d places a b = one-why rows c d a b
one-asked Phases rows c d places a b = one-phases rows c d a b
one-asked Bus rows c d places a b = one-bus rows c d a b
one-asked Trace rows c d places a b = one-looking Trace rows c d places.2.consoles a b
one-asked Count rows c d places a b = one-looking Count rows c d places.2.consoles a b
one-asked State rows c d places a b = one-looking State rows c d places.2.consoles a b
one-asked Outcomes rows c d places a b = one-outcomes rows c d a b
one-asked Follow rows c d places a b = one-follow rows c d a b

-- what words stand for
one-reading : (words : List Text) (v w : Verb) (r s : List Row) → Stands words v r → Stands words w s → (w ≡ v) × (s ≡ r)
one-reading words v w r s a b =
    let verb : w ≡ v = stands-verb words v w s a.first b in
    (verb, sym b.read ∙ ap (λ (x : Verb). matches_of (grammar x) words) verb ∙ a.read)

pub one-command : WordsAskForOneCommand
one-command words c d a b =
    let same = one-reading words a.verb b.verb a.rows b.rows a.stands b.stands in
    one-asked a.verb a.rows c d a.stands.places a.asks
    (subst (λ (r : List Row). Asks a.verb r d) same.1 (subst (λ (v : Verb). Asks v b.rows d) same.0 b.asks))

-- ---- not refused

none-breaks : (verb : Verb) (rows : List Row) (fields : List Field) (field : Field) → ((f : Field) → AllowsIn verb rows f)
    → BreaksFirst (AllowsIn verb rows) fields field → ⊥
none-breaks verb rows [] field allowed b = b
none-breaks verb rows (f ∷ later) field allowed (inl b) = b.1 (allowed f)
none-breaks verb rows (f ∷ later) field allowed (inr b) = none-breaks verb rows later field allowed b.1

pub not-refused : CommandsAreNotRefused
not-refused words c fault.Words a f = absurd (f a.verb a.rows a.stands)
not-refused words c (fault.Value field) a f =
    let same = one-reading words a.verb f.0 a.rows f.1 a.stands f.2 in
    absurd (none-breaks a.verb a.rows order field a.allowed
    (subst (λ (r : List Row). BreaksFirst (AllowsIn a.verb r) order field) same.1
    (subst (λ (v : Verb). BreaksFirst (AllowsIn v f.1) order field) same.0 f.3)))
not-refused words c fault.Memory a f = refl
