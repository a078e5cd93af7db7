-- What a command works on: its files, its machine and its images.
use Rattle.std.specs.Prelude.{ℕ, true, List, [], ◌∷◌, Option, None}
use Rattle.image_load.specs.Start.{Start}
use Rattle.tcc_cli.specs.Images.{fault_of, start_of}
use Rattle.tcc_cli.specs.declared.refusal.ImageFault.{ImageFault}
use Rattle.tcc_words.specs.declared.command.Command.{Command}
use Rattle.tcc_words.specs.declared.command.Command.TheVariants.{Run, Replay, Serial, Trial, Why, Phases, Bus, Look}
use Rattle.tcc_words.specs.declared.command.Command.TheVariants.{LookOnBus, Outcomes, Follow, Long}
use Rattle.tcc_words.specs.declared.command.Begin.{Begin}
use Rattle.tcc_words.specs.declared.command.Begin.TheVariants as begin
use Rattle.tcc_words.specs.declared.command.Source.{Source}
use Rattle.tcc_words.specs.declared.command.Source.TheVariants.{Seed, Schedule}
use Rattle.tcc_words.specs.declared.command.Machine.{Machine}
use Rattle.work_gen.specs.Programs.{image, program}

-- the names of the images
abbrev pub image_names : Command → List (List ℕ)
image_names (Run machine images steps seed threads batch keep) = images
image_names (Replay machine schedule images) = images
image_names (Serial machine list images) = images
image_names (Trial config work number steps seed) = []
image_names (Why machine schedule images) = images
image_names (Phases machine images steps seed keep) = images
image_names (Bus machine images steps seed) = images
image_names (Look machine images source view) = images
image_names (LookOnBus machine images steps seed view) = images
image_names (Outcomes machine images limits tell) = images
image_names (Follow machine list images keep) = images
image_names (Long machine images begin steps view keep) = images

-- the file of the run that is looked at, and those behind it
abbrev pub with_file : Source → List (List ℕ) → List (List ℕ)
with_file (Seed steps seed) images = images
with_file (Schedule name) images = name ∷ images

-- the checkpoint from which a run begins, and those behind it
abbrev pub with_checkpoint : Begin → List (List ℕ) → List (List ℕ)
with_checkpoint (begin.Seed seed) images = images
with_checkpoint (begin.Checkpoint name) images = name ∷ images

-- the names of the files that are read, in order: the schedule, the list or the checkpoint, and then the images
abbrev pub files_of : Command → List (List ℕ)
files_of (Run machine images steps seed threads batch keep) = images
files_of (Replay machine schedule images) = schedule ∷ images
files_of (Serial machine list images) = list ∷ images
files_of (Trial config work number steps seed) = []
files_of (Why machine schedule images) = schedule ∷ images
files_of (Phases machine images steps seed keep) = images
files_of (Bus machine images steps seed) = images
files_of (Look machine images source view) = with_file source images
files_of (LookOnBus machine images steps seed view) = images
files_of (Outcomes machine images limits tell) = images
files_of (Follow machine list images keep) = list ∷ images
files_of (Long machine images begin steps view keep) = with_checkpoint begin images

-- the name of the file that is written
abbrev pub record_of : Command → Option (List ℕ)
record_of (Run machine images steps seed threads batch keep) = keep
record_of (Phases machine images steps seed keep) = keep
record_of (Follow machine list images keep) = keep
record_of (Long machine images begin steps view keep) = keep
record_of _ = None

-- the machine, and whether its images are raw; a workload is
abbrev pub machine_of : Command → Machine
machine_of (Run machine images steps seed threads batch keep) = machine
machine_of (Replay machine schedule images) = machine
machine_of (Serial machine list images) = machine
machine_of (Trial config work number steps seed) = record { config = config; raw = true }
machine_of (Why machine schedule images) = machine
machine_of (Phases machine images steps seed keep) = machine
machine_of (Bus machine images steps seed) = machine
machine_of (Look machine images source view) = machine
machine_of (LookOnBus machine images steps seed view) = machine
machine_of (Outcomes machine images limits tell) = machine
machine_of (Follow machine list images keep) = machine
machine_of (Long machine images begin steps view keep) = machine

-- the first of some files, and those after it
abbrev pub head_of : List (List ℕ) → List ℕ
head_of [] = []
head_of (file ∷ files) = file

abbrev pub tail_of : List (List ℕ) → List (List ℕ)
tail_of [] = []
tail_of (file ∷ files) = files

-- the files behind that of the run that is looked at
abbrev pub behind_file : Source → (files : List (List ℕ)) → List (List ℕ)
behind_file (Seed steps seed) files = files
behind_file (Schedule name) files = tail_of files

-- the files behind the checkpoint from which a run begins
abbrev pub behind_checkpoint : Begin → (files : List (List ℕ)) → List (List ℕ)
behind_checkpoint (begin.Seed seed) files = files
behind_checkpoint (begin.Checkpoint name) files = tail_of files

-- the images' bytes, where the files have these
abbrev pub images_in : Command → (files : List (List ℕ)) → List (List ℕ)
images_in (Run machine images steps seed threads batch keep) files = files
images_in (Replay machine schedule images) files = tail_of files
images_in (Serial machine list images) files = tail_of files
images_in (Trial config work number steps seed) files = image (program work number) ∷ []
images_in (Why machine schedule images) files = tail_of files
images_in (Phases machine images steps seed keep) files = files
images_in (Bus machine images steps seed) files = files
images_in (Look machine images source view) files = behind_file source files
images_in (LookOnBus machine images steps seed view) files = files
images_in (Outcomes machine images limits tell) files = files
images_in (Follow machine list images keep) files = tail_of files
images_in (Long machine images begin steps view keep) files = behind_checkpoint begin files

-- the start of the machine with these images, and the first of them that is no image
abbrev pub start_from : Command → (files : List (List ℕ)) → Start
start_from c files = start_of (machine_of c).raw (machine_of c).config (images_in c files)

abbrev pub fault_from : Command → (files : List (List ℕ)) → Option ImageFault
fault_from c files = fault_of (machine_of c).raw (machine_of c).config (images_in c files)
