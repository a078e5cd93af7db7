-- Why the program's answers are complete.
use Rattle.std.proofs.Common.{ℕ, ◌≡◌, ◌≢◌, List, [], ◌∷◌, drop, get_or, Bool, true, false, Option, Some, None, Ok, Err, refl, sym, ◌∙◌}
use Rattle.std.proofs.Common.{◌⊎◌, ◌++◌, zero, arith, ap, subst, inl, inr}
use Rattle.std.specs.Prelude.{Contains, IsSome}
use Rattle.std.proofs.lemmas.List.Elements.{Contains-append_right}
use Rattle.tcc_cli.proofs.Excluded.{excluded}
use Rattle.tcc_cli.proofs.Facts.{Facts}
use Rattle.tcc_cli.specs.Around.{Around}
use Rattle.tcc_cli.specs.Commands.{fault_from, files_of}
use Rattle.tcc_cli.specs.Laws.{AnswersAreComplete, AreTold, HasNoFault, IsLeft, OthersAreRefused}
use Rattle.tcc_cli.specs.Reading.{AreGiven}
use Rattle.tcc_cli.specs.Refusals.{End, status_of}
use Rattle.tcc_cli.specs.Top.{Ends, EndsOf, IsTurnedAway}
use Rattle.tcc_cli.specs.Comes.{Comes, IsFaultyLine}
use Rattle.tcc_cli.specs.declared.refusal.ImageFault.{ImageFault}
use Rattle.tcc_cli.specs.declared.refusal.Refusal.TheVariants as why
use Rattle.tcc_cli.specs.declared.status.Status.{Status}
use Rattle.tcc_cli.specs.declared.status.Status.TheVariants.{Done, Stopped, Words, Memory}
use Rattle.tcc_words.specs.Asked.{IsCommand, IsRefused}
use Rattle.tcc_words.specs.Bounds.{IsInBounds}
use Rattle.tcc_words.specs.declared.command.Command.{Command}
use Rattle.tcc_words.specs.declared.command.Field.{Field}
use Rattle.tcc_words.specs.declared.command.WordsFault.TheVariants as fault
use Rattle.tcc_world.specs.Told.{Gives}

-- files whose bytes are told have these bytes
pub given-told : (told : List ℕ → Option (List ℕ)) (names files read : List (List ℕ)) → AreTold told names files
    → AreGiven told names read → read ≡ files
unfolding AreGiven
given-told told [] [] [] h g = refl
given-told told [] [] (r ∷ rs) h g = absurd g
given-told told [] (f ∷ fs) read h g = absurd (cc)
given-told told (n ∷ ns) [] read h g = absurd (cc)
given-told told (n ∷ ns) (f ∷ fs) [] h g = absurd g
given-told told (n ∷ ns) (f ∷ fs) (r ∷ rs) h g =
    let is : told n ≡ Some f = ap (λ os. get_or os 0 None) h in
    let first : f ≡ r = subst (λ t. Gives t r) is g.0 in
    ap (λ x. x ∷ rs) (sym first) ∙ ap (λ xs. f ∷ xs) (given-told told ns fs rs (ap (λ os. drop 1 os) h) g.1)

-- words that ask for a command aren't refused
not-refused : Facts → (words : List (List ℕ)) (c : Command) → IsCommand words c → IsRefused words fault.Words → ⊥
not-refused f words c a refused = unlike (f.not_refused words c fault.Words a refused)
  where
    unlike : fault.Words ≡ fault.Memory → ⊥
    unlike e = absurd (cc)

no-value : Facts → (words : List (List ℕ)) (c : Command) (field : Field) → IsCommand words c → IsRefused words (fault.Value field) → ⊥
no-value f words c field a refused = unlike (f.not_refused words c (fault.Value field) a refused)
  where
    unlike : fault.Value field ≡ fault.Memory → ⊥
    unlike e = absurd (cc)

none-some : (x : Option ImageFault) → x ≡ None → IsSome x → ⊥
none-some x e h = absurd (cc)

out-of-memory : (c : Command) (files : List (List ℕ)) (status : Status) → status ≡ Memory → IsLeft c files status
out-of-memory c files status e = record {
  image = λ _. inr e;
  schedule = λ _ _ line _. inr e;
  neither = λ _ _. inr (inr e);
}

ended : (done : Bool) (status : Status) → status ≡ status_of (Ok done) → (status ≡ Done) ⊎ (status ≡ Stopped) ⊎ (status ≡ Memory)
ended true status e = inl e
ended false status e = inr (inl e)

-- what is left to answer after each end of the command
left : Facts → (w : Around) (status : Status) (c : Command) (files : List (List ℕ)) (end : End) → IsInBounds c → status ≡ status_of end
    → EndsOf c w end
    → AreTold w.files.before.contents (files_of c) files → HasNoFault c w → IsLeft c files status
left f w status c files (Ok done) bounds is (read, text, started, comes, whole) told none =
    let same = given-told w.files.before.contents (files_of c) files read told started.given in
    let images : fault_from c files ≡ None = subst (λ fs. fault_from c fs ≡ None) same started.images in
    let here : Comes c files w.files.before.tells w.files.after.contents done text =
    subst (λ fs. Comes c fs w.files.before.tells w.files.after.contents done text) same comes in
    record {
      image = λ bad. absurd (none-some (fault_from c files) images bad);
      schedule = λ _ clear line faulty.
          absurd (excluded f c files w.files.before.tells w.files.after.contents done text line bounds clear here faulty);
      neither = λ _ _. ended done status is;
    }
left f w status c files (Err why.Words) bounds is e told none = absurd e
left f w status c files (Err (why.Value field)) bounds is e told none = absurd e
left f w status c files (Err (why.Image bad)) bounds is ((read, given, first), untouched, silent) told none =
    let same = given-told w.files.before.contents (files_of c) files read told given in
    let images : fault_from c files ≡ Some bad = subst (λ fs. fault_from c fs ≡ Some bad) same first in
    record {
      image = λ _. inl is;
      schedule = λ no _ line faulty. absurd (cc);
      neither = λ no _. absurd (cc);
    }
left f w status c files (Err (why.Schedule line)) bounds is ((read, started, faulty), untouched, silent) told none =
    let same = given-told w.files.before.contents (files_of c) files read told started.given in
    let images : fault_from c files ≡ None = subst (λ fs. fault_from c fs ≡ None) same started.images in
    record {
      image = λ bad. absurd (none-some (fault_from c files) images bad);
      schedule = λ _ _ _ _. inl is;
      neither = λ _ fine. absurd (fine line (subst (λ fs. IsFaultyLine c fs line) same faulty));
    }
left f w status c files (Err (why.Store name)) bounds is (inl (inl (first, untouched), silent)) told none =
    let here : Contains (first.earlier ++ name.now ∷ first.later) name.now =
    Contains-append_right first.earlier (name.now ∷ first.later) name.now (zero, omega arith, refl) in
    absurd (none.reads name.now (subst (λ ns. Contains ns name.now) (sym first.names_are) here) first.rose)
left f w status c files (Err (why.Store name)) bounds is (inl (inr (began, named, rose), silent)) told none = absurd
    (none.writes name.now named rose)
left f w status c files (Err (why.Store name)) bounds is (inr ((began, named, rose), part)) told none = absurd
    (none.writes name.now named rose)
left f w status c files (Err why.Output) bounds is (inl (read, done, text, started, comes, cut)) told none = absurd (none.out cut.3)
left f w status c files (Err why.Output) bounds is (inr (begun, rose)) told none = absurd (none.out rose)
left f w status c files (Err why.Memory) bounds is e told none = out-of-memory c files status is

turned-away : Facts → (words : List (List ℕ)) (status : Status) (c : Command) (files : List (List ℕ)) (end : End) → status ≡ status_of end
    → IsTurnedAway words end → IsCommand words c → IsLeft c files status
turned-away f words status c files (Err why.Words) is away a = absurd (not-refused f words c a away)
turned-away f words status c files (Err (why.Value field)) is away a = absurd (no-value f words c field a away)
turned-away f words status c files (Err why.Memory) is away a = out-of-memory c files status is
turned-away f words status c files _ is away a = absurd away

-- the ends of the words are those of the one command that they ask for, or they ask for none
pub of-command : Facts → (words : List (List ℕ)) (w : Around) (c : Command) (end : End) → IsCommand words c → Ends words w end
    → EndsOf c w end ⊎ IsTurnedAway words end
of-command f words w c end a (inl (d, asked, ends)) =
    inl (subst (λ x. EndsOf x w end) (f.one_command words d c asked a) ends)
of-command f words w c end a (inr (away, untouched, silent)) = inr away

answers-left : Facts → (words : List (List ℕ)) (w : Around) (status : Status) (c : Command) (files : List (List ℕ)) (end : End)
    → status ≡ status_of end → EndsOf c w end ⊎ IsTurnedAway words end → IsCommand words c
    → AreTold w.files.before.contents (files_of c) files → HasNoFault c w → IsLeft c files status
answers-left f words w status c files end is (inl ends) a told none = left f w status c files end
    (f.in_bounds words c a) is ends told none
answers-left f words w status c files end is (inr away) a told none = turned-away f words status c files end is away a

pub answers_complete : Facts → AnswersAreComplete
answers_complete f words w err status c files h a told none =
    answers-left f words w status c files h.end h.status_is (of-command f words w c h.end a h.ends) a told none

-- ---- the words are refused exactly where they are no command

refused_words : (words : List (List ℕ)) (w : Around) (status : Status) (end : End) → status ≡ status_of end → Ends words w end
    → status ≢ Memory → ((c : Command) → IsCommand words c → ⊥) → status ≡ Words
refused_words words w status end is (inl (d, asked, ends)) enough none = absurd (none d asked)
refused_words words w status (Err why.Words) is (inr away) enough none = is
refused_words words w status (Err (why.Value field)) is (inr away) enough none = is
refused_words words w status (Err why.Memory) is (inr away) enough none = absurd (enough is)
refused_words words w status _ is (inr away) enough none = absurd away.0

command-not_words : (w : Around) (status : Status) (c : Command) (end : End) → status ≡ status_of end → EndsOf c w end
    → status ≡ Words → ⊥
command-not_words w status c (Ok true) is ends e = absurd (cc)
command-not_words w status c (Ok false) is ends e = absurd (cc)
command-not_words w status c (Err why.Words) is ends e = ends
command-not_words w status c (Err (why.Value field)) is ends e = ends
command-not_words w status c (Err (why.Image bad)) is ends e = absurd (cc)
command-not_words w status c (Err (why.Schedule line)) is ends e = absurd (cc)
command-not_words w status c (Err (why.Store name)) is ends e = absurd (cc)
command-not_words w status c (Err why.Output) is ends e = absurd (cc)
command-not_words w status c (Err why.Memory) is ends e = absurd (cc)

away-not_words : Facts → (words : List (List ℕ)) (status : Status) (c : Command) (end : End) → status ≡ status_of end
    → IsTurnedAway words end → IsCommand words c → status ≡ Words → ⊥
away-not_words f words status c (Err why.Words) is away a e = not-refused f words c a away
away-not_words f words status c (Err (why.Value field)) is away a e = no-value f words c field a away
away-not_words f words status c (Err why.Memory) is away a e = absurd (cc)
away-not_words f words status c _ is away a e = away

no_words : Facts → (words : List (List ℕ)) (w : Around) (status : Status) (end : End) → status ≡ status_of end → Ends words w end
    → status ≡ Words → (c : Command) → IsCommand words c → ⊥
no_words f words w status end is (inl (d, asked, ends)) e c a = command-not_words w status d end is ends e
no_words f words w status end is (inr (away, untouched, silent)) e c a = away-not_words f words status c end is away a e

pub others_refused : Facts → OthersAreRefused
others_refused f words w err status h enough =
    (refused_words words w status h.end h.status_is h.ends enough, no_words f words w status h.end h.status_is h.ends)
