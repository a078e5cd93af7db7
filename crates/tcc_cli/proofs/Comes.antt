-- What each command comes to, from the start that its files give.
use Rattle.std.proofs.Common.{◌≡◌, ℕ, Bool, List, [], ◌∷◌, Option, Result, Ok, Err, IfOk, length, get_or, refl, sym, ◌∙◌, ap, subst, arith}
use Rattle.image_load.specs.Start as image_load
use Rattle.image_load.specs.Start.{Start}
use Rattle.tcc_base.specs.Settings.{Settings}
use Rattle.tcc_cli.specs.Comes.{Comes}
use Rattle.tcc_cli.specs.Commands.{files_of, machine_of, start_from}
use Rattle.tcc_cli.specs.Following.{RanFollowing}
use Rattle.tcc_cli.specs.Images.{start_of}
use Rattle.tcc_cli.specs.Phased.{IsPhasePicked, RanInPhases}
use Rattle.tcc_cli.specs.Schedules.{IsRecorded}
use Rattle.tcc_words.specs.declared.command.Command.{Command}
use Rattle.tcc_words.specs.declared.command.Command.TheVariants.{Follow, Phases}
use Rattle.tcc_words.specs.declared.command.Machine.{Machine}

pub start_settings : (raw : Bool) (s : Settings) (files : List (List ℕ)) → (start_of raw s files).settings ≡ s
unfolding start_of image_load.start
start_settings raw s files = refl

-- a run by phases
pub phased-comes : {A E : Type 0} (c : Command) (machine : Machine) (images : List (List ℕ)) (steps seed : ℕ) (keep : Option (List ℕ))
    (x : Result A E) (done : A → Bool) (text : A → List ℕ) (s : Start) (settings : Settings) (tells : Bool)
    (told : List ℕ → Option (List ℕ)) (files : List (List ℕ)) → c ≡ Phases machine images steps seed keep → s ≡ start_from c files
    → settings ≡ (machine_of c).config
    → IfOk x (λ f. RanInPhases s (λ es. IsPhasePicked s seed steps es
    × IsRecorded keep tells told (record { config = settings; events = es })) (done f) (text f))
    → IfOk x (λ f. Comes c files tells told (done f) (text f))
phased-comes c machine images steps seed keep (Ok f) done text s settings tells told files is from config ran =
    let one = ap (λ d. start_from d files) is in
    let two = ap (λ d. (machine_of d).config) is in
    let here = subst (λ q. RanInPhases s (λ es. IsPhasePicked s seed steps es
    × IsRecorded keep tells told (record { config = q; events = es })) (done f) (text f)) (config ∙ two) ran in
    let there = subst (λ q. RanInPhases q (λ es. IsPhasePicked q seed steps es
    × IsRecorded keep tells told (record { config = machine.config; events = es })) (done f) (text f)) (from ∙ one) here in
    subst (λ d. Comes d files tells told (done f) (text f)) (sym is) there
phased-comes c machine images steps seed keep (Err e) done text s settings tells told files is from config ran = tt

-- and a run that follows the list of the first file
pub followed-comes : {A E : Type 0} (c : Command) (machine : Machine) (list : List ℕ) (images : List (List ℕ)) (keep : Option (List ℕ))
    (x : Result A E) (done : A → Bool) (text : A → List ℕ) (s : Start) (settings : Settings) (tells : Bool)
    (told : List ℕ → Option (List ℕ)) (files : List (List ℕ)) (bytes d : List ℕ) → c ≡ Follow machine list images keep
    → s ≡ start_from c files → settings ≡ (machine_of c).config → length files ≡ length (files_of c) → bytes ≡ get_or files 0 d
    → IfOk x (λ f. RanFollowing s bytes (λ es. IsRecorded keep tells told (record { config = settings; events = es })) (done f) (text f))
    → IfOk x (λ f. Comes c files tells told (done f) (text f))
followed-comes c machine list images keep (Ok f) done text s settings tells told [] bytes d is from config count first ran =
    absurd (omega (arith, count ∙ ap (λ e. length (files_of e)) is))
followed-comes c machine list images keep (Ok f) done text s settings tells told (file ∷ files) bytes d is from config count first ran =
    let one = ap (λ e. start_from e (file ∷ files)) is in
    let two = ap (λ e. (machine_of e).config) is in
    let here = subst (λ q. RanFollowing s bytes (λ es. IsRecorded keep tells told (record { config = q; events = es })) (done f) (text f))
    (config ∙ two) ran in
    let there = subst (λ q. RanFollowing q bytes (λ es. IsRecorded keep tells told (record { config = machine.config; events = es }))
    (done f) (text f)) (from ∙ one) here in
    let whole = subst (λ b. RanFollowing (start_from (Follow machine list images keep) (file ∷ files)) b
    (λ es. IsRecorded keep tells told (record { config = machine.config; events = es })) (done f) (text f)) first there in
    subst (λ e. Comes e (file ∷ files) tells told (done f) (text f)) (sym is) whole
followed-comes c machine list images keep (Err e) done text s settings tells told files bytes d is from config count first ran = tt
