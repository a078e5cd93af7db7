-- Runs that are cut and go on are whole runs of their seeds.
use Rattle.std.proofs.Common.{◌≡◌, ◌+◌, ◌-◌, ◌^◌, ℕ, Bool, true, List, Option, Some, length, min, refl, sym, ap, subst, ◌∙◌}
use Rattle.checkpoint_run.specs.Laws.{HaveSameText, RunsGoOnFromTexts, TextsTellRunsApart}
use Rattle.checkpoint_run.specs.Runs.{run_text}
use Rattle.image_load.specs.Contents.{Contents, started}
use Rattle.image_load.specs.Start.{Start}
use Rattle.rules_maps.specs.Nodes.{Event}
use Rattle.tcc_cli.specs.Continued.{BeginsAfter, IsCheckpointOf, IsOfWholeRun, asked_after, events_before, steps_after}
use Rattle.tcc_cli.specs.Long.{EndsIn, IsLeftIn, IsTakenUp, RanLong, all_steps, more_of, steps_of, text_behind}
use Rattle.tcc_cli.specs.Looks.{LookedAt}
use Rattle.tcc_cli.specs.Runs.{picked_by}
use Rattle.tcc_words.specs.Fields.{count_limit}
use Rattle.tcc_words.specs.declared.command.Begin.{Begin}
use Rattle.tcc_words.specs.declared.command.Begin.TheVariants as begin
use Rattle.tcc_words.specs.declared.command.View.{View}
use Rattle.watch_run.specs.Runs.{IsRunOf, RunData, seed_events}

-- what a seed picks from what was loaded is what it picks from that start
events-here : (c : Contents) (seed steps : ℕ) → seed_events c seed steps ≡ picked_by (started c) seed steps
unfolding started
events-here c seed steps = refl

events-are : (c : Contents) (s : Start) → started c ≡ s → (seed steps : ℕ) → seed_events c seed steps ≡ picked_by s seed steps
events-are c s e seed steps = events-here c seed steps ∙ ap (λ x. picked_by x seed steps) e

-- the run that goes on is that of so many steps of the seed
pub record Begun (c : Contents) (seed before : ℕ) (from : RunData) : Type 0 where
  pub is : IsRunOf c before from
  pub own : from.seed ≡ seed

begun : RunsGoOnFromTexts → TextsTellRunsApart → (begin : Begin) (c : Contents) (s : Start) (files : List (List ℕ)) (from : RunData)
    (seed before : ℕ) → started c ≡ s → from.machine.cores.code ≡ c → IsTakenUp begin c files from → BeginsAfter begin s files seed before
    → Begun c seed before from
begun on apart (begin.Seed given) c s files from seed before start code taken is = record {
  is = subst (λ n. IsRunOf c n from) (sym is.1) taken.0;
  own = taken.1 ∙ is.0;
}
begun on apart (begin.Checkpoint name) c s files from seed before start code taken is =
    let same : HaveSameText is.run from = record {
      start = is.start ∙ sym (ap started code ∙ start);
      laid_out = is.told.laid_out;
      laid_out_too = taken.laid_out;
      text = is.told.text ∙ sym taken.text;
    } in
    record {
      is = subst (λ k. IsRunOf k before from) code (on is.run from same is.run.machine.cores.code before is.is);
      own = sym (apart is.run from same).seed ∙ is.own;
    }

-- a checkpoint that was left is of the run as it ended
left-is : (c : Contents) (s : Start) (from : RunData) (seed before more steps : ℕ) (keep : Option (List ℕ))
    (told : List ℕ → Option (List ℕ)) (name bytes : List ℕ) → started c ≡ s → IsRunOf c before from → from.seed ≡ seed
    → before + more ≡ steps → IsLeftIn keep true told c from more → keep ≡ Some name → told name ≡ Some bytes
    → IsCheckpointOf s seed steps bytes
left-is c s from seed before more steps keep told name bytes start is of all left named holds =
    let there : EndsIn name true told c from more = subst (λ k. IsLeftIn k true told c from more) named left in
    let ends = there.ends in
    let there_is : IsRunOf c steps ends = subst (λ n. IsRunOf c n ends) all (there.went before is) in
    let code = there_is.counted.code in
    record {
      run = ends;
      start = ap started code ∙ start;
      is = subst (λ k. IsRunOf k steps ends) (sym code) there_is;
      own = there.seed ∙ of;
      told = record { text = some (run_text ends) (sym there.written.held ∙ holds); laid_out = there.written.laid_out };
    }
  where
    some : (text : List ℕ) → Some text ≡ Some bytes → text ≡ bytes
    some text e = cc

-- what is told of the run from what was loaded is told of it from its start
looked-is : (c : Contents) (s : Start) (own seed steps n asked all first : ℕ) (view : View) (done : Bool) (text : List ℕ) → started c ≡ s
    → own ≡ seed → n ≡ steps → asked ≡ all
    → LookedAt (started c) (λ es. es ≡ seed_events c own n) (text_behind first view (Some (own, asked)) (started c)) done text
    → LookedAt s (λ es. es ≡ picked_by s seed steps) (text_behind first view (Some (seed, all)) s) done text
looked-is c s own seed steps n asked all first view done text start of is same h =
    let Told : Start → List Event → ℕ → ℕ → Type 0 =
    λ x events sd a. LookedAt x (λ es. es ≡ events) (text_behind first view (Some (sd, a)) x) done text in
    let events : seed_events c own n ≡ picked_by s seed steps =
    events-are c s start own n ∙ (λ i. picked_by s (of i) (is i)) in
    subst (λ x. Told x (picked_by s seed steps) seed all) start
    (subst (Told (started c) (picked_by s seed steps) seed) same
    (subst (λ sd. Told (started c) (picked_by s seed steps) sd asked) of
    (subst (λ es. Told (started c) es own asked) events h)))

pub cut-is-whole : RunsGoOnFromTexts → TextsTellRunsApart → (s : Start) (begin : Begin) (files : List (List ℕ)) (steps : ℕ) (view : View)
    (keep : Option (List ℕ)) (told : List ℕ → Option (List ℕ)) (done : Bool) (text : List ℕ) (seed before : ℕ)
    → RanLong s begin files steps view (IsLeftIn keep true told) done text → BeginsAfter begin s files seed before
    → IsOfWholeRun s seed (steps_after s seed before (steps_of view steps)) (asked_after s seed before steps)
    (events_before s seed before) view keep told done text
cut-is-whole on apart s begin files steps view keep told done text seed before r is =
    let c = r.loaded in
    let from = r.ran.from in
    let went = r.ran.on in
    let b = begun on apart begin c s files from seed before r.start r.ran.code r.ran.is is in
    let events : seed_events c from.seed before ≡ picked_by s seed before =
    events-are c s r.start from.seed before ∙ ap (λ sd. picked_by s sd before) b.own in
    let first : from.machine.events ≡ length (picked_by s seed before) = b.is.counted.events ∙ ap length events in
    let all : before + more_of (steps_of view steps) from ≡ steps_after s seed before (steps_of view steps) =
    ap (λ n. before + min (steps_of view steps) (count_limit - n)) first in
    let asked : all_steps steps from ≡ asked_after s seed before steps =
    ap (λ n. min (n + steps) (2 ^ 64 - 1)) (b.is.drawn ∙ ap length events) in
    let steps_are = steps_after s seed before (steps_of view steps) in
    record {
      looked = subst (λ n. LookedAt s (λ es. es ≡ picked_by s seed steps_are)
          (text_behind n view (Some (seed, asked_after s seed before steps)) s) done text) first
          (looked-is c s from.seed seed steps_are (before + more_of (steps_of view steps) from) (all_steps steps from)
          (asked_after s seed before steps) from.machine.events view done text r.start b.own all asked
          (went.looked before b.is));
      left = λ name bytes named holds.
          left-is c s from seed before (more_of (steps_of view steps) from) steps_are keep told name bytes r.start b.is b.own all went.left
          named holds;
    }
