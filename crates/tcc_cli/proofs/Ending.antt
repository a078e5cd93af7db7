-- From the end of a command, or of the words, to the answer of the program.
use Rattle.std.proofs.Common.{◌≡◌, ◌≢◌, ℕ, Bool, List, Some, None, Ok, Err, Result, IfOk, String, Global}
use Rattle.std.proofs.Common.{inl, inr, refl, ap, sym, subst, ◌∙◌}
use Rattle.std.specs.declared.vec.IntoIter.{IntoIter}
use Rattle.image_load.specs.Contents.{started}
use Rattle.tcc_cli.specs.Around.{Around, FilesAround, IsUntouched}
use Rattle.tcc_cli.specs.Comes.{Comes, HasRecorded}
use Rattle.tcc_cli.specs.Commands.{fault_from, files_of, record_of}
use Rattle.tcc_cli.specs.Failing.{IsStopped, Tells}
use Rattle.tcc_cli.specs.Lines.{IsSilent, IsTold}
use Rattle.tcc_world.specs.Page.{Written}
use Rattle.tcc_cli.specs.Process.{words_in}
use Rattle.tcc_cli.specs.Reading.{AreGiven}
use Rattle.tcc_cli.specs.Refusals.{End, line_of, refusal_status, status_of, words_refusal}
use Rattle.tcc_cli.specs.Top.{Caused, EndsOf, IsTurnedAway, Notes, Started}
use Rattle.tcc_cli.specs.declared.refusal.Refusal.{Refusal}
use Rattle.tcc_cli.specs.declared.refusal.Refusal.TheVariants as why
use Rattle.tcc_cli.specs.declared.status.Status.{Status}
use Rattle.tcc_world.specs.Faults.{Rose}
use Rattle.tcc_words.specs.Asked.{IsCommand, IsRefused}
use Rattle.tcc_words.specs.declared.command.Command.{Command}
use Rattle.tcc_words.specs.declared.command.WordsFault.{WordsFault}
use Rattle.tcc_words.specs.declared.command.WordsFault.TheVariants as fault

away : (words : List (List ℕ)) (f : WordsFault) → IsRefused words f → IsTurnedAway words (Err (words_refusal f))
away words fault.Words h = h
away words (fault.Value field) h = h
away words fault.Memory h = tt

pub words-refused : (words : List (List ℕ)) (w : Around) (err : Written) (status : Status) (f : WordsFault) (r : Refusal)
    → IsRefused words f → r ≡ words_refusal f → IsUntouched w.files → IsSilent w.out → status ≡ refusal_status r → IsTold (line_of r) err
    → Caused words w err status
words-refused words w err status f r h is untouched silent status_is told = record {
  end = Err r;
  status_is = status_is;
  ends = inr (subst (λ q. IsTurnedAway words (Err q)) (sym is) (away words f h), untouched, silent);
  notes = told;
  others = λ n _. untouched n;
}

-- want of memory before the words were collected
no-memory : (words : List (List ℕ)) (w : Around) (err : Written) (status : Status) → IsUntouched w.files → IsSilent w.out
    → status ≡ refusal_status why.Memory → IsTold (line_of why.Memory) err → Caused words w err status
no-memory words w err status untouched silent status_is told =
    words-refused words w err status fault.Memory why.Memory tt refl untouched silent status_is told

pub not-collected : {E : Type 0} (given : Result (IntoIter (String Global) Global) E) (w : Around) (err : Written) (status : Status)
    → IsUntouched w.files → IsSilent w.out → status ≡ refusal_status why.Memory → IsTold (line_of why.Memory) err
    → IfOk given (λ words. Caused (words_in words) w err status)
not-collected (Ok words) w err status untouched silent is told = no-memory (words_in words) w err status untouched silent is told
not-collected (Err e) w err status untouched silent is told = tt

pub command-ended : (words : List (List ℕ)) (w : Around) (err : Written) (status : Status) (c : Command) (end : End) → IsCommand words c
    → EndsOf c w end → ((n : List ℕ) → record_of c ≢ Some n → w.files.after.contents n ≡ w.files.before.contents n)
    → status ≡ status_of end → Notes err end → Caused words w err status
command-ended words w err status c end h ends others status_is notes = record {
  end = end;
  status_is = status_is;
  ends = inl (c, h, ends);
  notes = notes;
  others = λ n none. others n (none c h);
}

-- ---- the steps of a command

-- the files and the images, where the same bytes stand in three places
pub begun : (c : Command) (w : Around) (names read two three : List (List ℕ)) → names ≡ files_of c
    → AreGiven w.files.before.contents names read → two ≡ read → three ≡ read → fault_from c two ≡ None → Started c w three
begun c w names read two three are given second third images = record {
  given =
      subst (AreGiven w.files.before.contents (files_of c)) (sym third)
      (subst (λ ns. AreGiven w.files.before.contents ns read) are given);
  images = subst (λ fs. fault_from c fs ≡ None) (second ∙ sym third) images;
}

-- a step that begins later, where nothing was written before it
pub record IsLater (files later : FilesAround) : Type 0 where
  pub contents : (n : List ℕ) → later.before.contents n ≡ files.before.contents n
  pub writes : (n : List ℕ) → later.before.failed_writes n ≡ files.before.failed_writes n
  pub after : files.after.contents ≡ later.after.contents
  pub tells : files.before.tells ≡ later.before.tells
  pub writes_after : (n : List ℕ) → later.after.failed_writes n ≡ files.after.failed_writes n

still : (w : Around) (f : FilesAround) → IsLater w.files f → IsUntouched f → IsUntouched w.files
still w f s untouched n = ap (λ g. g n) s.after ∙ untouched n ∙ s.contents n

later-rose : (w : Around) (f : FilesAround) (name : List ℕ) → IsLater w.files f
    → Rose (f.before.failed_writes name) (f.after.failed_writes name)
    → Rose (w.files.before.failed_writes name) (w.files.after.failed_writes name)
later-rose w f name s h =
    subst (λ k. Rose k (w.files.after.failed_writes name)) (s.writes name)
    (subst (λ k. Rose (f.before.failed_writes name) k) (s.writes_after name) h)

stopped : (c : Command) (w : Around) (f : FilesAround) (files : List (List ℕ)) (r : Refusal) → IsLater w.files f → IsStopped c files f r
    → Started c w files → IsSilent w.out → EndsOf c w (Err r)
stopped c w f files (why.Schedule line) s h started silent = ((files, started, h.0), still w f s h.1, silent)
stopped c w f files (why.Store name) s h started silent =
    inl (inr ((files, started), h.0, later-rose w f name.now s h.1), silent)
stopped c w f files why.Memory s (inl untouched) started silent = inl (inl (still w f s untouched), silent)
stopped c w f files why.Memory s (inr recorded) started silent =
    let told = subst (λ g. HasRecorded c files f.before.tells g) (sym s.after) recorded in
    inl (inr (files, started, subst (λ b. HasRecorded c files b w.files.after.contents) (sym s.tells) told), silent)
stopped c w f files why.Words s h started silent = h
stopped c w f files (why.Value field) s h started silent = h
stopped c w f files (why.Image bad) s h started silent = absurd h
stopped c w f files why.Output s h started silent = absurd h

comes-later : (c : Command) (w : Around) (f : FilesAround) (files : List (List ℕ)) (done : Bool) (text : List ℕ) → IsLater w.files f
    → Comes c files f.before.tells f.after.contents done text → Comes c files w.files.before.tells w.files.after.contents done text
comes-later c w f files done text s h =
    subst (λ b. Comes c files b w.files.after.contents done text) (sym s.tells)
    (subst (λ g. Comes c files f.before.tells g done text) (sym s.after) h)

-- what a command tells, and its end
pub told : (c : Command) (w : Around) (f : FilesAround) (files : List (List ℕ)) (end : End) → IsLater w.files f → Tells c files f w.out end
    → Started c w files → EndsOf c w end
told c w f files (Ok done) s h started = (files, h.0, started, comes-later c w f files done h.0 s h.1, h.2)
told c w f files (Err why.Output) s (inl h) started =
    inl (files, h.0, h.1, started, comes-later c w f files h.0 h.1 s h.2, h.3)
told c w f files (Err why.Output) s (inr h) started = inr (((files, started, h.0), still w f s h.2), h.1)
told c w f files (Err why.Memory) s (inl h) started = stopped c w f files why.Memory s h.0 started h.1
told c w f files (Err why.Memory) s (inr h) started = inr ((files, started, h.0), still w f s h.1)
told c w f files (Err (why.Schedule line)) s h started = stopped c w f files (why.Schedule line) s h.0 started h.1
told c w f files (Err (why.Store name)) s (h, inl silent) started = stopped c w f files (why.Store name) s h started silent
told c w f files (Err (why.Store name)) s (h, inr begun) started =
    inr (((files, started), h.0, later-rose w f name.now s h.1), (files, started, begun))
told c w f files (Err why.Words) s h started = stopped c w f files why.Words s h.0 started h.1
told c w f files (Err (why.Value field)) s h started = stopped c w f files (why.Value field) s h.0 started h.1
told c w f files (Err (why.Image bad)) s h started = stopped c w f files (why.Image bad) s h.0 started h.1
