-- Machines that tell the same have the same lines.
use Rattle.std.proofs.Common.{◌≡◌, ◌<◌, ◌≤◌, ◌+◌, ◌/◌, ℕ, zero, suc, [], ◌++◌, map, refl, ap, ◌∙◌, arith}
use Rattle.std.specs.List.{range_with_len}
use Rattle.image_load.specs.Contents.{Contents, started}
use Rattle.report_text.specs.Lines.{core_line}
use Rattle.report_text.specs.Plain.{shown_core}
use Rattle.report_text.specs.Shown.{Shown}
use Rattle.report_text.specs.Text.{console_text, ram_text}
use Rattle.run_outcomes.specs.Outcomes.{TellSameConsoles, TellTheSame, told_of}
use Rattle.run_outcomes.specs.declared.outcomes.Tell.{Tell}
use Rattle.run_outcomes.specs.declared.outcomes.Tell.TheVariants.{Consoles, Memory, Everything}
use Rattle.rules_program.specs.Plain.{Plain, PlainCore}
use Rattle.text_outcomes.specs.Told.{end_text, ends_text, machine_shown, told_text}

end-alike : (core : ℕ) (a b : PlainCore) → told_of a ≡ told_of b → end_text core (shown_core a) ≡ end_text core (shown_core b)
unfolding end_text
end-alike core a b same = ap (λ t. core_line core t.0 ++ console_text t.1) same

-- the cores from this number on
ends-alike : (core n : ℕ) (a b : ℕ → PlainCore) → ((k : ℕ) → core ≤ k → k < core + n → told_of (a k) ≡ told_of (b k))
    → ends_text core (map (λ k. shown_core (a k)) (range_with_len core n))
    ≡ ends_text core (map (λ k. shown_core (b k)) (range_with_len core n))
unfolding ends_text
ends-alike core zero a b same = refl
ends-alike core (suc n) a b same =
    let here = end-alike core (a core) (b core) (same core (omega arith) (omega arith)) in
    let rest = ends-alike (core + 1) n a b (λ k from to. same k (omega (arith, from)) (omega (arith, to))) in
    ap (λ xs. xs ++ ends_text (core + 1) (map (λ k. shown_core (a k)) (range_with_len (core + 1) n))) here
    ∙ ap (λ xs. end_text core (shown_core (b core)) ++ xs) rest

consoles-alike : (l : Contents) (a b : Plain) → TellSameConsoles l.settings.cores a b
    → ends_text 0 (machine_shown l a).cores ≡ ends_text 0 (machine_shown l b).cores
consoles-alike l a b same = ends-alike 0 l.settings.cores a.cores b.cores (λ k from to. same k (omega (arith, to)))

pub told-alike : (l : Contents) (tell : Tell) (a b : Plain) → TellTheSame tell l.settings.cores a b
    → told_text tell (machine_shown l a) ≡ told_text tell (machine_shown l b)
unfolding told_text
told-alike l Consoles a b same = consoles-alike l a b same
told-alike l Memory a b same =
    ap (λ xs. xs ++ ram_text l.settings.base (l.settings.ram / 4) a.ram (started l).word) (consoles-alike l a b same.0)
    ∙ ap (λ ram. ends_text 0 (machine_shown l b).cores ++ ram_text l.settings.base (l.settings.ram / 4) ram (started l).word) same.1
told-alike l Everything a b same = ap (λ m. told_text Everything (machine_shown l m)) same

-- the commits of what is shown aren't told
pub told-commits : (tell : Tell) (s : Shown) → told_text tell s ≡ told_text tell (record s { commits = [] })
unfolding told_text
told-commits Consoles s = refl
told-commits Memory s = refl
told-commits Everything s = refl
