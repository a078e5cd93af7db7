-- What the proofs say often, in a word.
use Rattle.std.specs.Prelude.{ℕ, ◌≡◌, Some, None, IfSome, Option, Bool, true, false}
use Rattle.std.proofs.Common.{arith, refl, subst, ◌⊎◌, inl, inr}
use Rattle.std.proofs.lemmas.Bool.Decides.{nat_tests}
use Rattle.rules_maps.specs.Nodes.{Core, Dir, Msg, Node}
use Rattle.rules_maps.specs.Shape.{Shape, home}
use Rattle.rules_maps.specs.Words.{line_of}
use Rattle.rules_tcc.specs.Attempt.{Out}
use Rattle.rules_tcc.specs.Links.{in_flight}
use Rattle.rules_tcc.specs.State.{World, Link}
use Rattle.rules_tcc.specs.Step.{History, Stepped, and_noted, core_moves, core_takes, recorded}
use Rattle.theorem_serial.specs.Owners.{Grant}

-- arithmetic, and what the tests of numbers tell
pub ruleset nats = (arith, nat_tests)

-- the home of a word
abbrev pub home_of : Shape → ℕ → ℕ
home_of sh x = home sh (line_of x)

-- the TID that directory d serves
abbrev pub tid_at : World → ℕ → ℕ
tid_at w d = (w.dirs d).serving.serving

-- the links between core c and directory d
abbrev pub to_dir : World → ℕ → ℕ → Link
to_dir w c d = w.net (Core c) (Dir d)

abbrev pub to_core : World → ℕ → ℕ → Link
to_core w d c = w.net (Dir d) (Core c)

-- TID t goes to core c
abbrev pub grant_to : (t c : ℕ) → Grant
grant_to t c = record { tid = t; core = c }

-- message k on such a link is m
abbrev pub FromCore : World → (c d k : ℕ) → Msg → Type 0
FromCore w c d k m = in_flight w.net (Core c) (Dir d) k ≡ Some m

abbrev pub FromDir : World → (d c k : ℕ) → Msg → Type 0
FromDir w d c k m = in_flight w.net (Dir d) (Core c) k ≡ Some m

-- the state after core c has made o of its own, or of message k from a node, with what it commits; and one where nothing is committed
abbrev pub moved_by : World → ℕ → Out → Stepped
moved_by w c o = record { world = core_moves w c o; noted = o.commit }

abbrev pub taken_by : World → Node → (c k : ℕ) → Out → Stepped
taken_by w from c k o = record { world = core_takes w from c k o; noted = o.commit }

abbrev pub unnoted : World → Stepped
unnoted w = record { world = w; noted = None }

-- a test is true or false
pub tested : (b : Bool) → (b ≡ true) ⊎ (b ≡ false)
tested true = inl refl
tested false = inr refl

-- what holds of an answer, if there is one, holds of the one that there is
pub got : {A : Type 0} (P : A → Type 0) {x : Option A} {a : A} → x ≡ Some a → IfSome x P → P a
got P e h = subst (λ y. IfSome y P) e h

-- and what is to be shown of it: of the answer itself, and of the history that it leaves
pub if_some : {A : Type 0} {P : A → Type 0} (x : Option A) → ((a : A) → x ≡ Some a → P a) → IfSome x P
if_some None f = tt
if_some (Some a) f = f a refl

pub if_recorded : (P : History → Type 0) (h : History) (x : Option Stepped)
    → ((o : Stepped) → x ≡ Some o → P (record { world = o.world; commits = and_noted o.noted h.commits })) → IfSome (recorded h x) P
if_recorded P h None f = tt
if_recorded P h (Some o) f = f o refl
