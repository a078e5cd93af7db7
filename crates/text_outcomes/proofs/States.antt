-- What is told of a state, from the lines of its cores and of its changes.
use Rattle.std.proofs.Common.{◌≡◌, ◌/◌, ℕ, List, ◌++◌, length, map, append_assoc, sym, ◌∙◌, ap}
use Rattle.image_load.specs.Contents.{Contents, started}
use Rattle.report_text.specs.Text.{cores_text, ram_text}
use Rattle.run_outcomes.specs.Changes.{changed_ram}
use Rattle.run_outcomes.specs.States.{machine_of}
use Rattle.run_outcomes.specs.declared.outcomes.Tell.TheVariants.{Consoles, Memory, Everything}
use Rattle.run_outcomes.specs.declared.states.Snapshot.{Snapshot}
use Rattle.text_outcomes.specs.Told.{core_shown, ends_text, state_shown, told_text}
use Rattle.text_outcomes.proofs.Cores.{cores-shown}

abbrev memory_of : Contents → Snapshot → List ℕ
memory_of l s = ram_text l.settings.base (l.settings.ram / 4) (changed_ram l s.changes) (started l).word

pub told-consoles : (l : Contents) (s : Snapshot) (old new : List ℕ) → length s.cores ≡ l.settings.cores
    → new ≡ old ++ ends_text 0 (map core_shown s.cores) → new ≡ old ++ told_text Consoles (state_shown l s)
unfolding told_text
told-consoles l s old new sized is = is ∙ ap (λ cs. old ++ ends_text 0 cs) (sym (cores-shown l s sized))

pub told-memory : (l : Contents) (s : Snapshot) (old mid new : List ℕ) → length s.cores ≡ l.settings.cores
    → mid ≡ old ++ ends_text 0 (map core_shown s.cores) → new ≡ mid ++ memory_of l s
    → new ≡ old ++ told_text Memory (state_shown l s)
unfolding told_text machine_of
told-memory l s old mid new sized ends is =
    is ∙ ap (λ xs. xs ++ memory_of l s) ends ∙ append_assoc old (ends_text 0 (map core_shown s.cores)) (memory_of l s)
    ∙ ap (λ cs. old ++ (ends_text 0 cs ++ memory_of l s)) (sym (cores-shown l s sized))

pub told-everything : (l : Contents) (s : Snapshot) (old mid new : List ℕ) → length s.cores ≡ l.settings.cores
    → mid ≡ old ++ cores_text 0 (map core_shown s.cores) → new ≡ mid ++ memory_of l s
    → new ≡ old ++ told_text Everything (state_shown l s)
unfolding told_text machine_of
told-everything l s old mid new sized ends is =
    is ∙ ap (λ xs. xs ++ memory_of l s) ends ∙ append_assoc old (cores_text 0 (map core_shown s.cores)) (memory_of l s)
    ∙ ap (λ cs. old ++ (cores_text 0 cs ++ memory_of l s)) (sym (cores-shown l s sized))
