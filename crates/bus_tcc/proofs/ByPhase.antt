-- What a machine does of which a core executes, by the core's phase.
use Rattle.std.proofs.Common.{◌≡◌, ℕ, ◌<◌, Bool, true, false, Option, Some, None, is_some, Err, refl, ap, sym, ◌∙◌, inl, inr}
use Rattle.std.proofs.lemmas.Bool.{cases_lt}
use Rattle.rules_maps.specs.Shape.{Shape}
use Rattle.rules_program.specs.Program.{Need, Nothing, Loads, Stores, Changes, Prints, Ends, Halts, Traps, Program}
use Rattle.rules_tcc.specs.Attempt.{finished, is_solo}
use Rattle.tcc_base.specs.declared.names.Tid.{Tid}
use Rattle.commit_engine.specs.Engine.{phase_of}
use Rattle.commit_engine.specs.declared.phase.Phase.TheVariants as code
use Rattle.rules_tcc.specs.State.{CoreState, Phase, Running, AwaitTid, DoomedTid, Probing, Ready, Overflowing, Solo, Halted}
use Rattle.machine_cores.specs.Bank.{cores_of}
use Rattle.core_node.specs.AtHand.{ends_by, executes}
use Rattle.rules_bus.specs.Commit.{BusStepped, bus_commit}
use Rattle.rules_bus.specs.Exec.{exec_alone, bus_exec_in_phase, goes_on, instruction}
use Rattle.rules_bus.specs.State.{BusWorld, Exec}
use Rattle.bus_tcc.specs.Ending.{CommitsBy, at_commit}
use Rattle.bus_tcc.specs.Whole.{IsBusWhole}
use Rattle.bus_tcc.specs.Answers.{Answers, bus_step_of}
use Rattle.bus_tcc.specs.Machine.{BusMachine, bus_history_of, bus_program_of, bus_settings_of, bus_world_of}
use Rattle.bus_tcc.specs.declared.event.BusError.TheVariants.{Refused}
use Rattle.bus_tcc.proofs.Bounds.{bounded}
use Rattle.bus_tcc.proofs.Enabling.{no-exec}
use Rattle.bus_tcc.proofs.Endings.{alone-commits}
use Rattle.bus_tcc.proofs.Events.{bank_in}
use Rattle.bus_tcc.proofs.Published.{exec-step}

-- a core that neither runs nor waits for the bus nor is alone does nothing
abbrev pub rests : Phase → Bool
rests Running = false
rests AwaitTid = false
rests (Solo t) = false
rests _ = true

pub resting-step : (m : BusMachine) (c : ℕ) (q : Phase) → c < (bus_settings_of m).cores → ((bus_world_of m).cores c).phase ≡ q
    → rests q ≡ true → bus_step_of m (Exec c) ≡ None
unfolding bus_world_of
resting-step m c Running l e r = cc
resting-step m c AwaitTid l e r = cc
resting-step m c (Solo t) l e r = cc
resting-step m c DoomedTid l e r = exec-step m c DoomedTid l e
resting-step m c (Probing t) l e r = exec-step m c (Probing t) l e
resting-step m c (Ready t) l e r = exec-step m c (Ready t) l e
resting-step m c (Overflowing t) l e r = exec-step m c (Overflowing t) l e
resting-step m c Halted l e r = exec-step m c Halted l e

pub resting-answers : (m : BusMachine) (c : ℕ) (q : Phase) → c < (bus_settings_of m).cores → ((bus_world_of m).cores c).phase ≡ q
    → rests q ≡ true → Answers m m (Exec c) (Err Refused)
resting-answers m c q l e r = (record { history = refl; events = refl; code = refl }, resting-step m c q l e r)

pub runs-executes : (m : BusMachine) (c : ℕ) → ((bus_world_of m).cores c).phase ≡ Running
    → executes ((bus_world_of m).cores c).phase ≡ true
runs-executes m c e = ap executes e

pub running-step : (m : BusMachine) (c : ℕ) → c < (bus_settings_of m).cores → ((bus_world_of m).cores c).phase ≡ Running
    → bus_step_of m (Exec c)
    ≡ goes_on (bus_world_of m) c (instruction (bus_settings_of m) (bus_program_of m) (bus_world_of m).ram c ((bus_world_of m).cores c))
unfolding bus_world_of
running-step m c l e = exec-step m c Running l e

-- the phase that the code reads
pub at-phase : (m n : BusMachine) (c : ℕ) (s : CoreState) (p : Phase) → m ≡ n → s ≡ cores_of (bank_in m) c → p ≡ s.phase
    → ((bus_world_of n).cores c).phase ≡ p
unfolding bus_world_of
at-phase m n c s p e q h = sym (h ∙ ap (λ x. x.phase) q ∙ ap (λ k. (cores_of (bank_in k) c).phase) e)

pub overflowing-rests : (o : Option Tid) → rests (phase_of (code.Overflowing o)) ≡ true
overflowing-rests None = refl
overflowing-rests (Some t) = refl

-- ---- a core that is alone

exec-ends : (sh : Shape) (p : Program) (w : BusWorld) (c : ℕ) (s : CoreState) (q : Need) → ends_by q ≡ true
    → exec_alone sh p w c s q ≡ Some (bus_commit sh w c (finished p q 0 s))
exec-ends sh p w c s Ends e = refl
exec-ends sh p w c s (Halts code) e = refl
exec-ends sh p w c s (Traps code) e = refl
exec-ends sh p w c s Nothing e = cc
exec-ends sh p w c s (Loads addr size) e = cc
exec-ends sh p w c s (Stores addr size value) e = cc
exec-ends sh p w c s (Changes addr changed) e = cc
exec-ends sh p w c s (Prints byte) e = cc

exec-goes : (sh : Shape) (p : Program) (w : BusWorld) (c : ℕ) (s : CoreState) (q : Need) → ends_by q ≡ false
    → exec_alone sh p w c s q ≡ goes_on w c (instruction sh p w.ram c s)
exec-goes sh p w c s Ends e = cc
exec-goes sh p w c s (Halts code) e = cc
exec-goes sh p w c s (Traps code) e = cc
exec-goes sh p w c s Nothing e = refl
exec-goes sh p w c s (Loads addr size) e = refl
exec-goes sh p w c s (Stores addr size value) e = refl
exec-goes sh p w c s (Changes addr changed) e = refl
exec-goes sh p w c s (Prints byte) e = refl

-- what is said of the phases in which a core is alone is said of one in which it is
of-solo : (P : Phase → Type 0) (q : Phase) → is_solo q ≡ true → ((t : ℕ) → q ≡ Solo t → P (Solo t)) → P q
of-solo P (Solo t) e h = h t refl
of-solo P Running e h = cc
of-solo P AwaitTid e h = cc
of-solo P DoomedTid e h = cc
of-solo P (Probing t) e h = cc
of-solo P (Ready t) e h = cc
of-solo P (Overflowing t) e h = cc
of-solo P Halted e h = cc

-- its transaction ends at the instruction at its pc, or not
abbrev pub ends_in : BusMachine → (core : ℕ) → Bool
ends_in m c = ends_by ((bus_program_of m).need ((bus_world_of m).cores c).local)

alone-step : (m : BusMachine) (c : ℕ) → c < (bus_settings_of m).cores → is_solo ((bus_world_of m).cores c).phase ≡ true
    → bus_step_of m (Exec c)
    ≡ (let s = (bus_world_of m).cores c in
    exec_alone (bus_settings_of m) (bus_program_of m) (bus_world_of m) c s ((bus_program_of m).need s.local))
unfolding bus_world_of
alone-step m c l e = exec-step m c (cores_of (bank_in m) c).phase l refl
    ∙ of-solo (λ q. bus_exec_in_phase (bus_settings_of m) (bus_program_of m) (bus_world_of m) c (cores_of (bank_in m) c) q
    ≡ exec_alone (bus_settings_of m) (bus_program_of m) (bus_world_of m) c (cores_of (bank_in m) c)
    ((bus_program_of m).need (cores_of (bank_in m) c).local)) (cores_of (bank_in m) c).phase e (λ t q. refl)

pub alone-publishes : (m : BusMachine) (c : ℕ) → c < (bus_settings_of m).cores → is_solo ((bus_world_of m).cores c).phase ≡ true
    → ends_in m c ≡ true
    → bus_step_of m (Exec c)
    ≡ Some (bus_commit (bus_settings_of m) (bus_world_of m) c (at_commit (bus_program_of m) ((bus_world_of m).cores c)))
alone-publishes m c l e h =
    let s = (bus_world_of m).cores c in
    alone-step m c l e
    ∙ exec-ends (bus_settings_of m) (bus_program_of m) (bus_world_of m) c s ((bus_program_of m).need s.local) h
    ∙ ap (λ x. Some (bus_commit (bus_settings_of m) (bus_world_of m) c x)) (sym (alone-commits (bus_program_of m) s e))

pub alone-goes_on : (m : BusMachine) (c : ℕ) → c < (bus_settings_of m).cores → is_solo ((bus_world_of m).cores c).phase ≡ true
    → ends_in m c ≡ false
    → bus_step_of m (Exec c)
    ≡ goes_on (bus_world_of m) c (instruction (bus_settings_of m) (bus_program_of m) (bus_world_of m).ram c ((bus_world_of m).cores c))
alone-goes_on m c l e h =
    let s = (bus_world_of m).cores c in
    alone-step m c l e
    ∙ exec-goes (bus_settings_of m) (bus_program_of m) (bus_world_of m) c s ((bus_program_of m).need s.local) h

-- it has the next TID
pub alone-may : (m : BusMachine) (c : ℕ) → IsBusWhole m → c < (bus_settings_of m).cores
    → is_solo ((bus_world_of m).cores c).phase ≡ true → ends_in m c ≡ true
    → (let s = (bus_world_of m).cores c in CommitsBy (bus_program_of m) (bus_world_of m).next s s.phase)
unfolding bus_history_of
alone-may m c w l e h =
    let s = (bus_world_of m).cores c in
    of-solo (CommitsBy (bus_program_of m) (bus_world_of m).next s) s.phase e (λ t q. (((bounded m w).solo c t l q).1, h))

pub alone-executes : (m : BusMachine) (c : ℕ) → is_solo ((bus_world_of m).cores c).phase ≡ true
    → executes ((bus_world_of m).cores c).phase ≡ true
alone-executes m c e =
    of-solo (λ q. executes q ≡ true) ((bus_world_of m).cores c).phase e (λ t q. refl)

-- what the code reads
pub ends-so : (m n : BusMachine) (c : ℕ) (b d : Bool) → m ≡ n → b ≡ ends_by ((bus_program_of m).need (cores_of (bank_in m) c).local)
    → b ≡ d → ends_in n c ≡ d
unfolding bus_world_of
ends-so m n c b d e h q = ap (λ k. ends_by ((bus_program_of k).need (cores_of (bank_in k) c).local)) (sym e) ∙ sym h ∙ q

pub solo-so : (m n : BusMachine) (c : ℕ) (s : CoreState) (p : Phase) (b d : Bool) → m ≡ n → s ≡ cores_of (bank_in m) c → p ≡ s.phase
    → b ≡ is_solo p → b ≡ d → is_solo ((bus_world_of n).cores c).phase ≡ d
solo-so m n c s p b d e q h i j = ap is_solo (at-phase m n c s p e q h) ∙ sym i ∙ j

-- ---- whether it may

-- a core that may execute exists
pub exists-so : (m : BusMachine) (c : ℕ) → is_some (bus_step_of m (Exec c)) ≡ true → c < (bus_settings_of m).cores
exists-so m c e = elim (cases_lt c (bus_settings_of m).cores) [
  | inl l ↦ l
  | inr l ↦ absurd (let bad : false ≡ true = sym (ap is_some (no-exec m c (bus_settings_of m).cores refl l)) ∙ e in cc)
]

-- one that may not is refused
pub refused-so : (m : BusMachine) (c : ℕ) → is_some (bus_step_of m (Exec c)) ≡ false → Answers m m (Exec c) (Err Refused)
refused-so m c e = (record { history = refl; events = refl; code = refl }, by (bus_step_of m (Exec c)) e)
  where
    by : (o : Option BusStepped) → is_some o ≡ false → o ≡ None
    by None q = refl
    by (Some x) q = cc
