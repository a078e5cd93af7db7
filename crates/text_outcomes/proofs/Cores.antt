-- The cores of a state, as its machine has them.
use Rattle.std.proofs.Common.{◌≡◌, ◌+◌, ℕ, zero, suc, List, ◌∷◌, length, map, drop, get_or, sym, ◌∙◌, ap, arith}
use Rattle.std.proofs.lemmas.List.{drop_all, drop_more}
use Rattle.std.specs.List.{range_with_len}
use Rattle.image_load.specs.Contents.{Contents}
use Rattle.report_text.specs.Plain.{shown_core}
use Rattle.run_outcomes.specs.States.{machine_of}
use Rattle.run_outcomes.specs.declared.states.Snapshot.{Snapshot}
use Rattle.rv_plain.specs.Cores.{no_state}
use Rattle.text_outcomes.specs.Told.{core_shown}

read-rest : {X Y : Type 0} (f : X → Y) (d : X) (xs : List X) (a n : ℕ) → a + n ≡ length xs
    → map (λ k. f (get_or xs k d)) (range_with_len a n) ≡ map f (drop a xs)
read-rest f d xs a zero e = ap (map f) (sym (drop_all a xs (omega (arith, e))))
read-rest f d xs a (suc n) e =
    ap (λ ys. f (get_or xs a d) ∷ ys) (read-rest f d xs (a + 1) n (omega (arith, e)))
    ∙ ap (map f) (sym (drop_more xs a d (omega (arith, e))))

pub cores-shown : (l : Contents) (s : Snapshot) → length s.cores ≡ l.settings.cores
    → map (λ core. shown_core ((machine_of l s).cores core)) (range_with_len 0 l.settings.cores) ≡ map core_shown s.cores
unfolding machine_of
cores-shown l s sized = read-rest core_shown no_state s.cores 0 l.settings.cores (omega (arith, sized))
