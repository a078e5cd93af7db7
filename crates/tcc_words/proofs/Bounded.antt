-- The numbers of a command are those of allowed fields.
use Rattle.std.proofs.Common.{◌≡◌, ℕ, ◌+◌, ◌%◌, ◌^◌, ◌≤◌, Bool, IsTrue, List, length, Option, Some, None}
use Rattle.std.proofs.Common.{refl, sym, subst, ◌∙◌, inl, inr, arith}
use Rattle.std.specs.Int.{is_power_of_two}
use Rattle.std.specs.Prelude.{IfSome, IsSome, codes}
use Rattle.clap.specs.Walk.{Row, Text}
use Rattle.clap.specs.Simple.{argument_words, built, names_of}
use Rattle.clap.specs.Words.{first_of, matches_of}
use Rattle.tcc_base.specs.Limits.{text_limit}
use Rattle.tcc_base.specs.Settings.{Settings, IsAllowed}
use Rattle.tcc_words.proofs.OneCommand.{one-value}
use Rattle.tcc_words.proofs.Unasked.{IsApart, unasked}
use Rattle.tcc_words.specs.Asked.{Asks, AsksBegin, AsksLook, AsksSource, AsksView, GoTogether, HasPlaces, HasSettings, IsCommand}
use Rattle.tcc_words.specs.Asked.{IsGiven, IsLong, MayBeGiven, MayBeLong}
use Rattle.tcc_words.specs.Bounds.{IsFew, IsInBounds, IsLongView, IsNear, IsNearOnBus, IsResumed, most_steps}
use Rattle.tcc_words.specs.Grammar.{grammar}
use Rattle.tcc_words.specs.Fields.{AllowsIn, AreFew, IsFlagged, IsValue, count_limit, images_of}
use Rattle.tcc_words.specs.Numbers.{IsNumber}
use Rattle.tcc_words.specs.declared.command.Begin.{Begin}
use Rattle.tcc_words.specs.declared.command.Begin.TheVariants as begin
use Rattle.tcc_words.specs.declared.command.Command.{Command}
use Rattle.tcc_words.specs.declared.command.Command.TheVariants as command
use Rattle.tcc_words.specs.declared.command.Field.{Field}
use Rattle.tcc_words.specs.declared.command.Field.TheVariants.{Cores, Dirs, Sets, Ways, Ram, Base, Steps, From, To, Events, Every}
use Rattle.tcc_words.specs.declared.command.Field.TheVariants.{States, Longest, Threads, Batch, Images, Number}
use Rattle.tcc_words.specs.declared.command.Source.{Source}
use Rattle.tcc_words.specs.declared.command.Source.TheVariants as source
use Rattle.tcc_words.specs.declared.command.Verb.{Verb}
use Rattle.tcc_words.specs.declared.command.Verb.TheVariants.{Run, Replay, Serial, Trial, Why, Phases, Bus, Trace, Count, State}
use Rattle.tcc_words.specs.declared.command.Verb.TheVariants.{Outcomes, Follow}
use Rattle.tcc_words.specs.declared.command.View.{View}
use Rattle.tcc_words.specs.declared.command.View.TheVariants as view

-- settings that stand in allowed fields are allowed
allowed : (verb : Verb) (rows : List Row) (s : Settings) → HasSettings rows s → ((field : Field) → AllowsIn verb rows field) → IsAllowed s
allowed verb rows s h every =
    let c = every Cores in
    let d = every Dirs in
    let e = every Sets in
    let w = every Ways in
    let r = every Ram in
    let b = every Base in
    let cores = one-value 1 (first_of (codes "cores") rows) c.0 s.cores c.1 h.cores in
    let dirs = one-value 1 (first_of (codes "dirs") rows) d.0 s.dirs d.1 h.dirs in
    let ways = one-value 2 (first_of (codes "ways") rows) w.0 s.ways w.1 h.ways in
    let sets = one-value 16 (first_of (codes "sets") rows) e.0 s.sets e.1 h.sets in
    let ram = one-value 65536 (first_of (codes "ram") rows) r.0 s.ram r.1 h.ram in
    let base = one-value 0x80000000 (first_of (codes "base") rows) b.0 s.base b.2 h.base in
    let of_base = one-value 65536 (first_of (codes "ram") rows) b.1 s.ram b.3 h.ram in (
      subst (λ n. (1 ≤ n) × (n ≤ 64)) cores (c.2, c.3),
      subst (λ n. (1 ≤ n) × (n ≤ 64)) dirs (d.2, d.3),
      subst (λ n. IsTrue (is_power_of_two n) × (n ≤ 1024)) sets (e.2, e.3),
      subst (λ n. (1 ≤ n) × (n ≤ 16)) ways (w.2, w.3),
      subst (λ n. (32 ≤ n) × (n ≤ 16777216) × (n % 32 ≡ 0)) ram (r.2, r.3, r.4),
      subst (λ n. (n % 32 ≡ 0) × (n + s.ram ≤ 2 ^ 32)) base
          (b.4, subst (λ k. b.0 + k ≤ 2 ^ 32) of_base b.5),
    )

-- a number of events is few enough for the command, and so for what is told of the run
steps-few : (verb : Verb) (rows : List Row) (n : ℕ) → IsValue 1000000 (first_of (codes "steps") rows) n
    → ((field : Field) → AllowsIn verb rows field) → AreFew verb rows n
steps-few verb rows n h every =
    let a = every Steps in
    subst (AreFew verb rows) (one-value 1000000 (first_of (codes "steps") rows) a.0 n a.1 h) a.2

few-of : (verb : Verb) (rows : List Row) (v : View) (n : ℕ) → AsksView verb rows v → AreFew verb rows n → n ≤ most_steps v
few-of Trace rows (view.Trace from to states) n a few = few
few-of Count rows (view.Count csv) n a few = few.0
few-of Count rows (view.Rows every) n a few = few.0
few-of Count rows (view.Consoles csv) n a few = few.0
few-of State rows (view.State events) n a few = few
few-of _ rows v n a few = absurd a

few-on-bus : (verb : Verb) (rows : List Row) (v : View) (n : ℕ) → IsFlagged (codes "bus") rows → AsksView verb rows v
    → AreFew verb rows n → n ≤ text_limit
few-on-bus Trace rows v n bus a few = few
few-on-bus Count rows v n bus a few = few.1 bus
few-on-bus State rows v n bus a few = few
few-on-bus _ rows v n bus a few = absurd a

number-fits : (text : Option Text) (n : ℕ) → ((given : Text) × (text ≡ Some given) × IsNumber given n)
    → IfSome text (λ given. (m : ℕ) × IsNumber given m × (1 ≤ m) × (m ≤ 2047)) → (1 ≤ n) × (n ≤ 2047)
number-fits None n (given, e, h) a = absurd (cc)
number-fits (Some text) n (given, e, h) a =
    let same : ◌≡◌ {A = Text} text given = cc in
    subst (λ k. (1 ≤ k) × (k ≤ 2047)) (sym (subst (λ t. IsNumber t a.0) same a.1).value ∙ h.value) (a.2, a.3)

-- a number that was given is within its bounds, and what else is asked for is so
given-fits : (most : ℕ) (More : Type 0) (text : Option Text) (n : ℕ) → ((given : Text) × (text ≡ Some given) × IsNumber given n)
    → IfSome text (λ given. ((m : ℕ) × IsNumber given m × (1 ≤ m) × (m ≤ most)) × More) → (1 ≤ n) × (n ≤ most) × More
given-fits most More None n (given, e, h) a = absurd (cc)
given-fits most More (Some text) n (given, e, h) (a, more) =
    let same : ◌≡◌ {A = Text} text given = cc in
    let fits = subst (λ k. (1 ≤ k) × (k ≤ most)) (sym (subst (λ t. IsNumber t a.0) same a.1).value ∙ h.value) (a.2, a.3) in
    (fits.0, fits.1, more)

threads-few : (verb : Verb) (rows : List Row) (threads : Option ℕ) (keep : Option Text) → MayBeGiven rows (codes "threads") threads
    → keep ≡ first_of (codes "record") rows → ((field : Field) → AllowsIn verb rows field)
    → IfSome threads (λ t. (1 ≤ t) × (t ≤ 16) × IsSome keep)
threads-few verb rows None keep given kept every = tt
threads-few verb rows (Some t) keep given kept every =
    let fits = given-fits 16 (IsSome (first_of (codes "record") rows)) (first_of (codes "threads") rows) t given (every Threads) in
    (fits.0, fits.1, subst IsSome (sym kept) fits.2)

-- a number of acts is 1, or was given from 1 to 1024
batch-fits : (text threads : Option Text) (n : ℕ) → IsValue 1 text n
    → IfSome text (λ given. ((m : ℕ) × IsNumber given m × (1 ≤ m) × (m ≤ 1024)) × IsSome threads) → (1 ≤ n) × (n ≤ 1024)
batch-fits None threads n h a =
    let one : n ≡ 1 = h in
    (omega (arith, one), omega (arith, one))
batch-fits (Some text) threads n h (a, some) = subst (λ k. (1 ≤ k) × (k ≤ 1024)) (sym a.1.value ∙ h.value) (a.2, a.3)

images-some : (verb : Verb) (rows : List Row) (images : List Text) → images ≡ images_of rows → 1 ≤ length (images_of rows)
    → ((field : Field) → AllowsIn verb rows field) → (1 ≤ length images) × (length images ≤ 16)
images-some verb rows images is some every = subst (λ names. (1 ≤ length names) × (length names ≤ 16)) (sym is) (some, every Images)

-- the bus's words have no directories
no-dirs : (words : List Text) → first_of (codes "dirs") (matches_of (grammar Bus) words) ≡ None
unfolding grammar IsApart
no-dirs words =
    let apart : IsApart (codes "dirs") (built (grammar Bus)).top.rules =
    (refl, (refl, (refl, (refl, (refl, (refl, (refl, (refl, (refl, tt))))))))) in
    unasked (codes "dirs") (built (grammar Bus)).top.rules apart (names_of (built (grammar Bus))) (argument_words (grammar Bus) words)

-- and a trace's words neither a checkpoint to be written nor consoles
not-written : (words : List Text) → first_of (codes "checkpoint") (matches_of (grammar Trace) words) ≡ None
unfolding grammar IsApart
not-written words =
    let apart : IsApart (codes "checkpoint") (built (grammar Trace)).top.rules =
    (refl, (refl, (refl, (refl, (refl, (refl, (refl, (refl, (refl, (refl, (refl, (refl, (refl, (refl, (refl, (refl, tt)))))))))))))))) in
    unasked (codes "checkpoint") (built (grammar Trace)).top.rules apart (names_of (built (grammar Trace)))
    (argument_words (grammar Trace) words)

not-told : (words : List Text) → first_of (codes "consoles") (matches_of (grammar Trace) words) ≡ None
unfolding grammar IsApart
not-told words =
    let apart : IsApart (codes "consoles") (built (grammar Trace)).top.rules =
    (refl, (refl, (refl, (refl, (refl, (refl, (refl, (refl, (refl, (refl, (refl, (refl, (refl, (refl, (refl, (refl, tt)))))))))))))))) in
    unasked (codes "consoles") (built (grammar Trace)).top.rules apart (names_of (built (grammar Trace)))
    (argument_words (grammar Trace) words)

one-dir : (rows : List Row) (n : ℕ) → first_of (codes "dirs") rows ≡ None → IsValue 1 (first_of (codes "dirs") rows) n → n ≡ 1
one-dir rows n none said = subst (λ o. IsValue 1 o n) none said

-- where a command's grammar has no directories none are read, and so with a checkpoint to be written and consoles
abbrev HasNone : Verb → List Row → Type 0
HasNone Bus rows = first_of (codes "dirs") rows ≡ None
HasNone Trace rows = (first_of (codes "checkpoint") rows ≡ None) × (first_of (codes "consoles") rows ≡ None)
HasNone _ rows = Unit {0}

has-none : (verb : Verb) (words : List Text) (rows : List Row) → matches_of (grammar verb) words ≡ rows → HasNone verb rows
has-none Bus words rows read = subst (λ r. first_of (codes "dirs") r ≡ None) read (no-dirs words)
has-none Trace words rows read = (
  subst (λ r. first_of (codes "checkpoint") r ≡ None) read (not-written words),
  subst (λ r. first_of (codes "consoles") r ≡ None) read (not-told words),
)
has-none _ words rows read = tt

source-few : (verb : Verb) (rows : List Row) (v : View) (s : Source) → AsksView verb rows v → AsksSource rows s
    → ((field : Field) → AllowsIn verb rows field) → IsFew v s
source-few verb rows v (source.Seed steps seed) b a every = few-of verb rows v steps b (steps-few verb rows steps a.1 every)
source-few verb rows v (source.Schedule name) b a every = tt

number-near : (default : ℕ) (text : Option Text) (n : ℕ) → IsValue default text n → ((m : ℕ) × IsValue default text m × (m ≤ text_limit))
    → n ≤ text_limit
number-near default text n h a = subst (λ k. k ≤ text_limit) (one-value default text a.0 n a.1 h) a.2

some-of : (default : ℕ) (text : Option Text) (n : ℕ) → IsValue default text n
    → ((m : ℕ) × IsValue default text m × (1 ≤ m) × (m ≤ text_limit)) → 1 ≤ n
some-of default text n h a = subst (λ k. 1 ≤ k) (one-value default text a.0 n a.1 h) a.2

every-near : (verb : Verb) (rows : List Row) (n : ℕ) → IsGiven rows (codes "every") n → ((field : Field) → AllowsIn verb rows field)
    → (1 ≤ n) × (n ≤ count_limit) × (IsFlagged (codes "bus") rows → ⊥)
every-near verb rows n given every =
    given-fits count_limit (IsFlagged (codes "bus") rows → ⊥) (first_of (codes "every") rows) n given (every Every)

trace-near : (rows : List Row) (from to : ℕ) (states : Bool) → AsksView Trace rows (view.Trace from to states)
    → ((field : Field) → AllowsIn Trace rows field) → (from ≤ text_limit) × (to ≤ text_limit)
trace-near rows from to states a every = (
  number-near 0 (first_of (codes "from") rows) from a.0 (every From),
  number-near text_limit (first_of (codes "to") rows) to a.1 (every To),
)

state-near : (rows : List Row) (events : ℕ) → AsksView State rows (view.State events) → ((field : Field) → AllowsIn State rows field)
    → events ≤ text_limit
state-near rows events a every = number-near text_limit (first_of (codes "events") rows) events a (every Events)

view-near : (verb : Verb) (rows : List Row) (v : View) → (IsFlagged (codes "consoles") rows → ⊥) → AsksView verb rows v
    → ((field : Field) → AllowsIn verb rows field) → IsNear v
view-near Trace rows (view.Trace from to states) quiet a every = trace-near rows from to states a every
view-near Count rows (view.Count csv) quiet a every = tt
view-near Count rows (view.Rows n) quiet a every = let near = every-near Count rows n a every in (near.0, near.1)
view-near Count rows (view.Consoles csv) quiet a every = quiet a.0
view-near State rows (view.State events) quiet a every = state-near rows events a every
view-near _ rows v quiet a every = absurd a

view-near-on-bus : (verb : Verb) (rows : List Row) (v : View) → IsFlagged (codes "bus") rows → (IsFlagged (codes "consoles") rows → ⊥)
    → AsksView verb rows v → ((field : Field) → AllowsIn verb rows field) → IsNearOnBus v
view-near-on-bus Count rows (view.Rows n) bus quiet a every = (every-near Count rows n a every).2 bus
view-near-on-bus verb rows (view.Trace from to states) bus quiet a every = view-near verb rows (view.Trace from to states) quiet a every
view-near-on-bus verb rows (view.Count csv) bus quiet a every = view-near verb rows (view.Count csv) quiet a every
view-near-on-bus verb rows (view.Consoles csv) bus quiet a every = view-near verb rows (view.Consoles csv) quiet a every
view-near-on-bus verb rows (view.State events) bus quiet a every = view-near verb rows (view.State events) quiet a every
view-near-on-bus _ rows (view.Rows n) bus quiet a every = absurd a

-- a long run that isn't written down, and whose consoles aren't told, goes on from a checkpoint
resumed : (rows : List Row) (b : Begin) → IsLong rows → first_of (codes "checkpoint") rows ≡ None
    → first_of (codes "consoles") rows ≡ None → AsksBegin rows b → IsResumed b
resumed rows (begin.Checkpoint name) long none quiet asked = tt
resumed rows (begin.Seed seed) (inl some) none quiet asked = let there = subst IsSome asked.0 some in absurd cc
resumed rows (begin.Seed seed) (inr (inl some)) none quiet asked = let there = subst IsSome none some in absurd cc
resumed rows (begin.Seed seed) (inr (inr told)) none quiet asked = absurd cc

-- beside a trace of a long run none is written down
long-near : (verb : Verb) (rows : List Row) (v : View) (b : Begin) (keep : Option Text) → IsLong rows → HasNone verb rows
    → AsksView verb rows v → ((field : Field) → AllowsIn verb rows field) → AsksBegin rows b
    → keep ≡ first_of (codes "checkpoint") rows → IsLongView v b keep
long-near Trace rows (view.Trace from to states) b keep long none a every asked is =
    let near = trace-near rows from to states a every in
    (near.0, near.1, resumed rows b long none.0 none.1 asked, is ∙ none.0)
long-near Count rows (view.Count csv) b keep long none a every asked is = tt
long-near Count rows (view.Rows n) b keep long none a every asked is = let near = every-near Count rows n a every in (near.0, near.1)
long-near Count rows (view.Consoles csv) b keep long none a every asked is = tt
long-near State rows (view.State events) b keep long none a every asked is = state-near rows events a every
long-near _ rows v b keep long none a every asked is = absurd a

looking : (verb : Verb) (rows : List Row) (v : View) (c : Command) → (1 ≤ length (images_of rows)) × GoTogether rows × MayBeLong rows
    → ((b : Begin) (keep : Option Text) → IsLong rows → AsksBegin rows b → keep ≡ first_of (codes "checkpoint") rows → IsLongView v b keep)
    → ((field : Field) → AllowsIn verb rows field) → AsksLook rows v c → AsksView verb rows v → IsInBounds c
looking verb rows v (command.Look machine images source view) places far every a b =
    let some = images-some verb rows images a.3 places.0 every in
    let few = subst (λ w. IsFew w source) (sym a.5) (source-few verb rows v source b a.4 every) in
    let near = subst IsNear (sym a.5) (view-near verb rows v (λ told. a.1 (inr (inr told))) b every) in
    record { allowed = allowed verb rows machine.config a.2.0 every; numbers = (some.0, some.1, few, near) }
looking verb rows v (command.Long machine images begin steps view keep) places far every a b =
    let some = images-some verb rows images a.3 places.0 every in
    let few = subst (λ w. steps ≤ most_steps w) (sym a.6) (few-of verb rows v steps b (steps-few verb rows steps a.5 every)) in
    let near = subst (λ w. IsLongView w begin keep) (sym a.6) (far begin keep a.1 a.4 a.7) in
    record { allowed = allowed verb rows machine.config a.2.0 every; numbers = (some.0, some.1, few, near) }
looking verb rows v (command.LookOnBus machine images steps seed view) places far every a b =
    let some = images-some verb rows images a.2 places.0 every in
    let few = few-on-bus verb rows v steps a.0 b (steps-few verb rows steps a.3 every) in
    let one = one-dir rows machine.config.dirs (places.1.bus a.0) a.1.0.dirs in
    let quiet : IsFlagged (codes "consoles") rows → ⊥ = λ told. (places.2.plain (inr (inr told))).1 a.0 in
    let near = subst IsNearOnBus (sym a.5) (view-near-on-bus verb rows v a.0 quiet b every) in
    record { allowed = allowed verb rows machine.config a.1.0 every; numbers = (some.0, some.1, few, one, near) }
looking verb rows v _ places far every a b = absurd a

bounded : (verb : Verb) (rows : List Row) (c : Command) → HasPlaces verb rows → HasNone verb rows
    → ((field : Field) → AllowsIn verb rows field) → Asks verb rows c → IsInBounds c
bounded Run rows (command.Run machine images steps seed threads batch keep) places none every a =
    let some = images-some Run rows images a.1 places every in
    let few = threads-few Run rows threads keep a.4 a.6 every in
    let acts = batch-fits (first_of (codes "batch") rows) (first_of (codes "threads") rows) batch a.5 (every Batch) in
    record {
      allowed = allowed Run rows machine.config a.0.0 every;
      numbers = (some.0, some.1, steps-few Run rows steps a.2 every, few, acts.0, acts.1);
    }
bounded Replay rows (command.Replay machine schedule images) places none every a =
    record { allowed = allowed Replay rows machine.config a.0.0 every; numbers = images-some Replay rows images a.2 places.1 every }
bounded Serial rows (command.Serial machine list images) places none every a =
    record { allowed = allowed Serial rows machine.config a.0.0 every; numbers = images-some Serial rows images a.2 places.1 every }
bounded Trial rows (command.Trial config work number steps seed) places none every a =
    let some = number-fits (first_of (codes "number") rows) number a.2 (every Number) in
    record { allowed = allowed Trial rows config a.0 every; numbers = (some.0, some.1, steps-few Trial rows steps a.3 every) }
bounded Why rows (command.Why machine schedule images) places none every a =
    record { allowed = allowed Why rows machine.config a.0.0 every; numbers = images-some Why rows images a.2 places.1 every }
bounded Phases rows (command.Phases machine images steps seed keep) places none every a =
    let some = images-some Phases rows images a.1 places every in
    record { allowed = allowed Phases rows machine.config a.0.0 every; numbers = (some.0, some.1, steps-few Phases rows steps a.2 every) }
bounded Bus rows (command.Bus machine images steps seed) places none every a =
    let some = images-some Bus rows images a.1 places every in
    let one = one-dir rows machine.config.dirs none a.0.0.dirs in
    record { allowed = allowed Bus rows machine.config a.0.0 every; numbers = (some.0, some.1, steps-few Bus rows steps a.2 every, one) }
bounded Trace rows c places none every a =
    looking Trace rows a.0 c places (λ b keep long. long-near Trace rows a.0 b keep long none a.2 every) every a.1 a.2
bounded Count rows c places none every a =
    looking Count rows a.0 c places (λ b keep long. long-near Count rows a.0 b keep long none a.2 every) every a.1 a.2
bounded State rows c places none every a =
    looking State rows a.0 c places (λ b keep long. long-near State rows a.0 b keep long none a.2 every) every a.1 a.2
bounded Outcomes rows (command.Outcomes machine images limits tell) places none every a =
    let some = images-some Outcomes rows images a.1 places every in
    let states = some-of 1000000 (first_of (codes "states") rows) limits.states a.2 (every States) in
    let longest = some-of 100000 (first_of (codes "longest") rows) limits.longest a.3 (every Longest) in
    record { allowed = allowed Outcomes rows machine.config a.0.0 every; numbers = (some.0, some.1, states, longest) }
bounded Follow rows (command.Follow machine list images keep) places none every a =
    record { allowed = allowed Follow rows machine.config a.0.0 every; numbers = images-some Follow rows images a.2 places.1 every }
bounded Run rows _ places none every a = absurd a
bounded Replay rows _ places none every a = absurd a
bounded Serial rows _ places none every a = absurd a
bounded Trial rows _ places none every a = absurd a
bounded Why rows _ places none every a = absurd a
bounded Phases rows _ places none every a = absurd a
bounded Bus rows _ places none every a = absurd a
bounded Outcomes rows _ places none every a = absurd a
bounded Follow rows _ places none every a = absurd a

pub in-bounds : (words : List Text) (c : Command) → IsCommand words c → IsInBounds c
in-bounds words c h = bounded h.verb h.rows c h.stands.places (has-none h.verb words h.rows h.stands.read) h.allowed h.asks
