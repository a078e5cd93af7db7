-- In a done state no event is useful: cores have halted, frames have nothing to write, and nothing is in flight.
use Rattle.std.proofs.Common.{◌≡◌, ℕ, ◌<◌, true, false, ◌||◌, ⊎_elim, [], Option, Some, None, is_some, refl, ap, arith}
use Rattle.std.proofs.lemmas.Bool.{cases_Bool}
use Rattle.std.proofs.lemmas.Bool.Decides.{nat_tests}
use Rattle.base_lemmas.proofs.Lemmas.{and-left, and-right, lt-from}
use Rattle.rules_program.specs.Program.{Program}
use Rattle.rules_maps.specs.Words.{any_below, any_word, word_at}
use Rattle.rules_maps.specs.Cache.{Cache, is_marked, is_modified, is_dirty}
use Rattle.rules_maps.specs.Nodes.{Event, Exec, Evict, Deliver}
use Rattle.rules_maps.specs.Shape.{Shape}
use Rattle.rules_maps.proofs.Lemmas.{any_below-found, any_below-at}
use Rattle.rules_tcc.specs.State.{CoreState, World, Halted}
use Rattle.rules_tcc.specs.Links.{in_flight}
use Rattle.rules_tcc.specs.CoreExec.{core_exec}
use Rattle.rules_tcc.specs.CoreEvict.{core_evict, evict_line}
use Rattle.rules_tcc.specs.Step.{if_core_moves, names_nodes, happens, is_enabled}
use Rattle.rules_tcc.specs.Seen.{IsDone}
use Rattle.rules_tcc.specs.Useful.{is_useful, is_of_use, holds_written, is_this_set, room, useful}
use Rattle.rules_tcc.proofs.Useful.{named, happened, in_flight-named, useful-enabled_in, useful-holds, is-in}
use Rattle.rules_tcc.proofs.Ordered.{none-among}

halted-exec : (sh : Shape) (p : Program) (c : ℕ) (s : CoreState) → s.phase ≡ Halted → core_exec sh p c s ≡ None
unfolding core_exec
halted-exec sh p c s e = rw e

halted-room : (sh : Shape) (p : Program) (s : CoreState) → s.phase ≡ Halted → room sh p s ≡ None
unfolding room
halted-room sh p s e = rw e

unmarked-unmodified : (c : Cache) (l : ℕ) → is_marked c l ≡ false → is_modified c l ≡ false
unfolding is_marked is_modified any_word
unmarked-unmodified c l h = ⊎_elim
    (λ e. let f = any_below-found (λ k. c.modified (word_at l k)) 8 e in
    let m : (c.read (word_at l f.0) || c.modified (word_at l f.0)) ≡ true = grind (arith, nat_tests) in
    let t = any_below-at (λ k. c.read (word_at l k) || c.modified (word_at l k)) 8 f.0 f.1 m in absurd (cc))
    (λ e. e)
    (cases_Bool (any_below (λ k. c.modified (word_at l k)) 8))

clean-undirty : (c : Cache) (l : ℕ) → ((v : ℕ) → c.dirty v ≡ None) → is_dirty c l ≡ false
unfolding is_dirty any_word
clean-undirty c l h = ⊎_elim
    (λ e. let f = any_below-found (λ k. is_some (c.dirty (word_at l k))) 8 e in let i = h (word_at l f.0) in
    absurd (let n : is_some (c.dirty (word_at l f.0)) ≡ false = ap is_some i in cc))
    (λ e. e)
    (cases_Bool (any_below (λ k. is_some (c.dirty (word_at l k))) 8))

evict-unwritten : (sh : Shape) (w : World) (c x y : ℕ) (s : CoreState) (o : Option ℕ) → s.phase ≡ Halted
    → ((v : ℕ) → s.cache.dirty v ≡ None) → is_some (if_core_moves w c (evict_line sh x y s o)) ≡ true → holds_written s.cache o ≡ false
evict-unwritten sh w c x y s None e d h = refl
evict-unwritten sh w c x y s (Some l) e d h =
    ⊎_elim
    (λ m. absurd (marked_stays m))
    (λ m. let a = unmarked-unmodified s.cache l m in let b = clean-undirty s.cache l d in grind (arith, nat_tests))
    (cases_Bool (is_marked s.cache l))
  where
    marked_stays : is_marked s.cache l ≡ true → ⊥
    marked_stays m = grind (arith, nat_tests)

evicts-unwritten : (sh : Shape) (p : Program) (w : World) (c x y : ℕ) → (w.cores c).phase ≡ Halted
    → ((v : ℕ) → (w.cores c).cache.dirty v ≡ None) → is_some (happens sh p w (Evict c x y)) ≡ true
    → holds_written (w.cores c).cache ((w.cores c).cache.at x y) ≡ false
unfolding happens core_evict
evicts-unwritten sh p w c x y e d h = evict-unwritten sh w c x y (w.cores c) ((w.cores c).cache.at x y) e d h

exec-halted : (sh : Shape) (p : Program) (w : World) (c : ℕ) → (w.cores c).phase ≡ Halted → is_some (happens sh p w (Exec c)) ≡ false
unfolding happens
exec-halted sh p w c e = rw (halted-exec sh p c (w.cores c) e)

exec-named : (sh : Shape) (c : ℕ) → names_nodes sh (Exec c) ≡ true → c < sh.cores
unfolding names_nodes
exec-named sh c h = lt-from c sh.cores h

evict-named : (sh : Shape) (c x y : ℕ) → names_nodes sh (Evict c x y) ≡ true → c < sh.cores
unfolding names_nodes
evict-named sh c x y h = lt-from c sh.cores (and-left _ _ h)

not-of_use : (sh : Shape) (p : Program) (w : World) (e : Event) → is_useful sh p w e ≡ true → is_of_use sh p w e ≡ true
unfolding is_useful
not-of_use sh p w e h = and-right (is_enabled sh p w e) (is_of_use sh p w e) h

done-useless_at : (sh : Shape) (p : Program) (w : World) → IsDone sh w → (e : Event) → is_useful sh p w e ≡ true → ⊥
done-useless_at sh p w d (Exec c) h =
    let n = useful-enabled_in sh p w (Exec c) h in
    let a = exec-halted sh p w c (d.halted c (exec-named sh c (named sh p w (Exec c) n))) in
    let b = happened sh p w (Exec c) n in cc
done-useless_at sh p w d (Evict c x y) h =
    let n = useful-enabled_in sh p w (Evict c x y) h in
    let i = evict-named sh c x y (named sh p w (Evict c x y) n) in
    let e = d.halted c i in
    let a = evicts-unwritten sh p w c x y e (λ v. d.clean c v i) (happened sh p w (Evict c x y) n) in
    let r = halted-room sh p (w.cores c) e in
    let u = not-of_use sh p w (Evict c x y) h in
    let s : is_this_set (room sh p (w.cores c)) x ≡ false = rw r in
    grind (arith, nat_tests)
done-useless_at sh p w d (Deliver src dst k) h =
    let n = useful-enabled_in sh p w (Deliver src dst k) h in
    let a = in_flight-named sh p w src dst k (happened sh p w (Deliver src dst k) n) in
    let b : is_some (in_flight w.net src dst k) ≡ false = ap is_some (d.quiet src dst k) in cc

pub done-useless : (sh : Shape) (p : Program) (w : World) → IsDone sh w → useful sh p w ≡ []
done-useless sh p w d =
    none-among (useful sh p w) (λ e h. done-useless_at sh p w d e ((useful-holds sh p w e).0 (is-in e (useful sh p w) h)))
