-- What is told of a run that is looked at, from the start that the command's files give.
use Rattle.std.proofs.Common.{◌≡◌, ℕ, Bool, List, [], ◌∷◌, length, get_or, Result, Ok, Err, IfOk, IfErr}
use Rattle.std.proofs.Common.{inl, inr, refl, sym, ap, subst, ◌∙◌, arith}
use Rattle.image_load.specs.Start.{Start}
use Rattle.tcc_base.specs.Settings.{Settings}
use Rattle.tcc_cli.specs.Around.{FilesAround, IsUntouched}
use Rattle.tcc_cli.specs.Comes.{AreLookedAt, IsFaultyLine}
use Rattle.tcc_cli.specs.Commands.{files_of, head_of, machine_of, start_from}
use Rattle.tcc_cli.specs.Failing.{Tells}
use Rattle.tcc_world.specs.Page.{Written}
use Rattle.tcc_cli.specs.Looks.{IsBrokenOff, IsWritten, begun_of, most_of, seed_of, view_text}
use Rattle.tcc_cli.specs.declared.refusal.Refusal.{Refusal}
use Rattle.tcc_cli.specs.declared.refusal.Refusal.TheVariants as why
use Rattle.tcc_words.specs.declared.command.Command.{Command}
use Rattle.tcc_words.specs.declared.command.Command.TheVariants.{Look}
use Rattle.tcc_words.specs.declared.command.Machine.{Machine}
use Rattle.tcc_words.specs.declared.command.Source.{Source}
use Rattle.tcc_words.specs.declared.command.Source.TheVariants.{Schedule}
use Rattle.tcc_words.specs.declared.command.View.{View}

-- a command that looks at a run, and what its machine starts from
pub record Looks (c : Command) (files : List (List ℕ)) (s : Start) (settings : Settings) (machine : Machine) (images : List (List ℕ))
    (source : Source) (view : View) : Type 0 where
  pub is : c ≡ Look machine images source view
  pub start : s ≡ start_from c files
  pub config : settings ≡ (machine_of c).config

-- what is told at a start and by settings is told by the command
pub by-command : (P : Start → Settings → Type 0) (Q : Command → Type 0) (c : Command) (files : List (List ℕ)) (s : Start)
    (settings : Settings) (machine : Machine) (images : List (List ℕ)) (source : Source) (view : View)
    → Looks c files s settings machine images source view
    → (P (start_from (Look machine images source view) files) machine.config → Q (Look machine images source view)) → P s settings → Q c
by-command P Q c files s settings machine images source view l make p =
    let from : s ≡ start_from (Look machine images source view) files = l.start ∙ ap (λ d. start_from d files) l.is in
    let config : settings ≡ machine.config = l.config ∙ ap (λ d. (machine_of d).config) l.is in
    subst Q (sym l.is) (make (subst (λ t. P (start_from (Look machine images source view) files) t) config
    (subst (λ q. P q settings) from p)))

-- what was told of a run while it went on, whole, and where it broke off; the files are as they were
written-tells : (c : Command) (files : List (List ℕ)) (s : Start) (settings : Settings) (machine : Machine) (images : List (List ℕ))
    (source : Source) (view : View) (f : FilesAround) (o : Written) (done : Bool)
    → Looks c files s settings machine images source view
    → IsWritten s (AreLookedAt source (most_of view) s settings files) (view_text view (seed_of source) s) o done
    → Tells c files f o (Ok done)
written-tells c files s settings machine images source view f o done l h =
    by-command (λ q t. IsWritten q (AreLookedAt source (most_of view) q t files) (view_text view (seed_of source) q) o done)
    (λ d. Tells d files f o (Ok done)) c files s settings machine images source view l (λ x. x) h

of-broken : (files : List (List ℕ)) (machine : Machine) (images : List (List ℕ)) (source : Source) (view : View) (f : FilesAround)
    (o : Written) (r : Refusal) → IsUntouched f
    → IsBrokenOff (start_from (Look machine images source view) files)
    (AreLookedAt source (most_of view) (start_from (Look machine images source view) files) machine.config files)
    (view_text view (seed_of source) (start_from (Look machine images source view) files))
    (begun_of view (seed_of source) (start_from (Look machine images source view) files))
    (IsFaultyLine (Look machine images source view) files) o r
    → Tells (Look machine images source view) files f o (Err r)
of-broken files machine images source view f o why.Words untouched h = absurd h
of-broken files machine images source view f o (why.Value field) untouched h = absurd h
of-broken files machine images source view f o (why.Image bad) untouched h = absurd h
of-broken files machine images source view f o (why.Schedule line) untouched h = ((h.0, untouched), h.1)
of-broken files machine images source view f o (why.Store name) untouched h = absurd h
of-broken files machine images source view f o why.Output untouched (inl h) = inl h
of-broken files machine images source view f o why.Output untouched (inr h) = inr (h.0, h.1, untouched)
of-broken files machine images source view f o why.Memory untouched (inl h) = inl (inl untouched, h)
of-broken files machine images source view f o why.Memory untouched (inr h) = inr (h, untouched)

-- the faulty lines are those of the command
broken-tells : (c : Command) (files : List (List ℕ)) (s : Start) (settings : Settings) (machine : Machine) (images : List (List ℕ))
    (source : Source) (view : View) (faulty : Start → Settings → ℕ → Type 0) (f : FilesAround) (o : Written) (r : Refusal)
    → Looks c files s settings machine images source view
    → faulty (start_from (Look machine images source view) files) machine.config ≡ IsFaultyLine (Look machine images source view) files
    → IsUntouched f
    → IsBrokenOff s (AreLookedAt source (most_of view) s settings files) (view_text view (seed_of source) s)
    (begun_of view (seed_of source) s) (faulty s settings) o r
    → Tells c files f o (Err r)
broken-tells c files s settings machine images source view faulty f o r l same untouched h =
    let begins = start_from (Look machine images source view) files in
    by-command (λ q t. IsBrokenOff q (AreLookedAt source (most_of view) q t files) (view_text view (seed_of source) q)
    (begun_of view (seed_of source) q) (faulty q t) o r)
    (λ d. Tells d files f o (Err r)) c files s settings machine images source view l
    (λ x. of-broken files machine images source view f o r untouched
    (subst (λ lines. IsBrokenOff begins (AreLookedAt source (most_of view) begins machine.config files)
    (view_text view (seed_of source) begins) (begun_of view (seed_of source) begins) lines o r)
    same x)) h

-- what was told of a run while it went on, however it ended
pub going-tells : (c : Command) (files : List (List ℕ)) (s : Start) (settings : Settings) (machine : Machine) (images : List (List ℕ))
    (source : Source) (view : View) (faulty : Start → Settings → ℕ → Type 0) (f : FilesAround) (o : Written) (x : Result Bool Refusal)
    → Looks c files s settings machine images source view
    → faulty (start_from (Look machine images source view) files) machine.config ≡ IsFaultyLine (Look machine images source view) files
    → IsUntouched f
    → IfOk x (IsWritten s (AreLookedAt source (most_of view) s settings files) (view_text view (seed_of source) s) o)
    → IfErr x (IsBrokenOff s (AreLookedAt source (most_of view) s settings files) (view_text view (seed_of source) s)
    (begun_of view (seed_of source) s) (faulty s settings) o)
    → Tells c files f o x
going-tells c files s settings machine images source view faulty f o (Ok done) l same untouched told stopped =
    written-tells c files s settings machine images source view f o done l told
going-tells c files s settings machine images source view faulty f o (Err r) l same untouched told stopped =
    broken-tells c files s settings machine images source view faulty f o r l same untouched stopped

-- the file of a schedule is the first that was read
pub first-file : (c : Command) (read : List (List ℕ)) (machine : Machine) (images : List (List ℕ)) (name : List ℕ) (view : View)
    (d : List ℕ) → length read ≡ length (files_of c) → c ≡ Look machine images (Schedule name) view → get_or read 0 d ≡ head_of read
first-file c [] machine images name view d e is =
    let more = e ∙ ap (λ b. length (files_of b)) is in absurd (omega (arith, more))
first-file c (x ∷ xs) machine images name view d e is = refl
