-- From one core's transaction to the machine's.
use Rattle.std.proofs.Common.{ℕ, ◌≡◌, ◌<◌, List, [], ◌++◌, Some, Result, Ok, Err, IfOk, IfErr, OnOk, refl, length, slice_index_or}
use Rattle.std.proofs.Common.{slice_set, arith, ap, sym, ◌∙◌, subst}
use Rattle.std.proofs.lemmas.Grind.{common_steps}
use Rattle.rv_plain.specs.Attempts.{attempt_of}
use Rattle.rv_exec.specs.Outcomes.{outcome_of}
use Rattle.rv_plain.specs.Buffered.{plain_view, seen}
use Rattle.rv_plain.specs.Cores.{core_of, no_state}
use Rattle.rv_plain.specs.Endings.{IsCoreFault}
use Rattle.image_load.specs.Contents.{Contents}
use Rattle.rv_plain.specs.PlainState.{PlainState, plain_of, Did, IsPlainFault}
use Rattle.rv_plain.specs.Store.{Store, buffer_of}
use Rattle.rv_plain.specs.Transacts.{Transacts, steps_at}
use Rattle.rv_plain.specs.declared.attempt.Attempt.{Attempt}
use Rattle.rv_exec.specs.declared.outcome.Outcome.{Outcome}
use Rattle.rv_exec.specs.declared.outcome.Outcome.TheVariants.{Goes}
use Rattle.rv_plain.specs.declared.plain.CoreState.{CoreState}
use Rattle.rv_plain.specs.declared.plain.Done.{Done}
use Rattle.rv_plain.specs.declared.plain.PlainFault.{PlainFault}
use Rattle.tcc_base.specs.Put.{put}
use Rattle.tcc_base.specs.declared.access.CoreEnd.{CoreEnd}
use Rattle.tcc_base.specs.declared.access.CoreEnd.TheVariants.{Run}
use Rattle.rules_program.specs.Plain.{PlainCore, begun, end_of, transaction, closed}
use Rattle.rules_program.specs.Program.{Local}
use Rattle.rules_program.specs.Ram.{flat}

pub begun-view : (l : Local) (m : Store) → m.waiting ≡ []
    → plain_view (attempt_of (record { state = l; n = 0; loads = []; stores = []; console = [] }) m Goes) ≡ begun l (flat m.ram)
unfolding plain_view attempt_of begun seen buffer_of
begun-view l m e = rw e refl

pub closed-transacts : (l : Contents) (old new : CoreState) (before mid after : Store) (n : ℕ) (a : Attempt) (o : Outcome)
    (end : CoreEnd) (r : Result Done PlainFault) → old.ended ≡ Run
    → steps_at l old before n ≡ Some (plain_view (attempt_of a mid o))
    → end_of (outcome_of o) ≡ Some end
    → OnOk r (new ≡ record { state = a.state; ended = end; console = old.console ++ a.console })
    → IfOk r (λ d. d ≡ record { loads = a.loads; stores = a.stores; console = a.console })
    → OnOk r (flat after.ram ≡ seen (flat mid.ram) (buffer_of mid.waiting))
    → IfOk r (Transacts l old new before after n)
unfolding plain_view attempt_of
closed-transacts l old new before mid after n a o end (Err f) runs does ends state did ram = tt
closed-transacts l old new before mid after n a o end (Ok d) runs does ends state did ram = record {
  attempt = plain_view (attempt_of a mid o);
  runs = runs;
  does = does;
  ends = ends ∙ ap (λ s. Some s.ended) (sym state);
  local = ap (λ s. s.state) state;
  prints = ap (λ s. s.console) state;
  ram = ram;
  loads = ap (λ x. x.loads) did;
  stores = ap (λ x. x.stores) did;
  console = ap (λ x. x.console) did;
}

pub cores-put : (cores : List CoreState) (c : ℕ) (new : CoreState) (to : PlainCore) → core_of new ≡ to → c < length cores
    → (j : ℕ) → core_of (slice_index_or (slice_set cores c new) j no_state)
    ≡ put (λ k. core_of (slice_index_or cores k no_state)) c to j
cores-put cores c new to is lt j = grind (arith, common_steps)

pub did-transacts : (l : Contents) (cores : List CoreState) (before : Store) (c n : ℕ) (new : CoreState) (after : Store) (d : Done)
    → c < length cores → Transacts l (slice_index_or cores c no_state) new before after n d
    → Did (record { loaded = l; ram = before.ram; cores = cores }) c n
    (record { loaded = l; ram = after.ram; cores = slice_set cores c new }) d
unfolding plain_of transaction closed
did-transacts l cores before c n new after d lt t =
    rw (t.runs, t.does, t.ends) (
      λ i. record {
        ram = t.ram i;
        cores = λ j. (cores-put cores c new
            (record {
              local = t.attempt.local;
              ended = new.ended;
              console = (slice_index_or cores c no_state).console
                  ++ t.attempt.console;
            })
            (λ k. record { local = t.local k; ended = new.ended; console = t.prints k }) lt j) i;
      },
      t.loads,
      t.stores,
      t.console,
    )

pub did-if : (l : Contents) (cores after_cores : List CoreState) (before after : Store) (c n : ℕ) (r : Result Done PlainFault)
    → c < length cores
    → IfOk r (Transacts l (slice_index_or cores c no_state) (slice_index_or after_cores c no_state) before after n)
    → after_cores ≡ slice_set cores c (slice_index_or after_cores c no_state)
    → IfOk r (Did (record { loaded = l; ram = before.ram; cores = cores }) c n
    (record { loaded = l; ram = after.ram; cores = after_cores }))
did-if l cores after_cores before after c n (Err f) lt t is = tt
did-if l cores after_cores before after c n (Ok d) lt t is =
    let s : PlainState = record { loaded = l; ram = before.ram; cores = cores } in
    subst (λ cs. Did s c n (record { loaded = l; ram = after.ram; cores = cs }) d) (sym is)
    (did-transacts l cores before c n (slice_index_or after_cores c no_state) after d lt t)

pub fault-if : (l : Contents) (cores : List CoreState) (before : Store) (c n : ℕ) (r : Result Done PlainFault)
    → IfErr r (IsCoreFault (slice_index_or cores c no_state).ended (steps_at l (slice_index_or cores c no_state) before) n)
    → IfErr r (IsPlainFault (record { loaded = l; ram = before.ram; cores = cores }) c n)
unfolding plain_of
fault-if l cores before c n (Err f) h = h
fault-if l cores before c n (Ok d) h = tt
