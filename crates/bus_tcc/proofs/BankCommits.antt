-- A core of a bank commits.
use Rattle.std.proofs.Common.{◌≡◌, ℕ, Result, Ok, Err, OnOk, ap, sym, ◌∙◌, subst}
use Rattle.std.specs.Prelude.{IfOk}
use Rattle.image_load.specs.Contents.{started}
use Rattle.rv_code.specs.Machine.{program}
use Rattle.tcc_base.specs.Put.{put}
use Rattle.rules_program.specs.Program.{Program}
use Rattle.rules_bus.specs.Commit.{all_clean, commit_out}
use Rattle.core_node.specs.View.{core_of}
use Rattle.core_node.specs.declared.state.Core.{Core}
use Rattle.machine_cores.specs.Bank.{CoresData, cores_of}
use Rattle.tcc_base.specs.Settings.{Settings}
use Rattle.rules_tcc.specs.State.{CoreState}
use Rattle.bus_tcc.specs.Committing.{CanCommit, IsCommitOf}
use Rattle.bus_tcc.specs.Ending.{CommitsBy, at_commit}
use Rattle.bus_tcc.specs.BankInside.{bank_of}
use Rattle.bus_tcc.specs.declared.bank.BusBank.TheInside.{Inside}
use Rattle.bus_tcc.specs.declared.commit.Written.{Written}
use Rattle.bus_tcc.proofs.Banks.{IsCoreOf, config-here, cores-acted, id-here, state-here, with_core}

-- the program that a bank's cores run
abbrev pub program_in : CoresData → Program
program_in d = program (started d.code)

-- what is said of a core's own settings, number and state is said of the bank's
all-same : (P : Program → Settings → ℕ → CoreState → Type 0) (b : Inside) (now : CoresData) (c : ℕ) (x : Core) → IsCoreOf b now c x
    → P (program_in (bank_of b)) x.config x.id.0 (core_of x) → P (program_in now) now.code.settings c (cores_of now c)
all-same P b now c x h k =
    subst (λ d. P (program_in d) now.code.settings c (cores_of now c)) h.seen
    (subst (λ s. P (program_in (bank_of b)) s c (cores_of now c)) (config-here b now c x h)
    (subst (λ i. P (program_in (bank_of b)) x.config i.0 (cores_of now c)) (id-here b now c x h)
    (subst (P (program_in (bank_of b)) x.config x.id.0) (state-here b now c x h) k)))

-- and back
all-own : (P : Program → Settings → CoreState → Type 0) (b : Inside) (now : CoresData) (c : ℕ) (x : Core) → IsCoreOf b now c x
    → P (program_in now) now.code.settings (cores_of now c) → P (program_in (bank_of b)) x.config (core_of x)
all-own P b now c x h k =
    subst (λ d. P (program_in d) x.config (core_of x)) (sym h.seen)
    (subst (λ s. P (program_in now) s (core_of x)) (sym (config-here b now c x h))
    (subst (P (program_in now) now.code.settings) (sym (state-here b now c x h)) k))

pub bank-commits : {A E : Type 0} (r : Result A E) (t : ℕ) (b : Inside) (now : CoresData) (c : ℕ) (old new : Core) → IsCoreOf b now c old
    → OnOk r (core_of new ≡ all_clean (commit_out old.config old.id.0 t (at_commit (program_in (bank_of b)) (core_of old))).core)
    → OnOk r (cores_of (bank_of (with_core b c new))
    ≡ put (cores_of now) c (all_clean (commit_out now.code.settings c t (at_commit (program_in now) (cores_of now c))).core))
bank-commits (Ok x) t b now c old new h d =
    cores-acted b now c old new h
    ∙ ap (put (cores_of now) c) (all-same (λ p s i y. core_of new ≡ all_clean (commit_out s i t (at_commit p y)).core) b now c old h d)
bank-commits (Err x) t b now c old new h d = record {}

pub bank-wrote : {E : Type 0} (r : Result Written E) (t : ℕ) (b : Inside) (now : CoresData) (c : ℕ) (old : Core) → IsCoreOf b now c old
    → IfOk r (λ w. IsCommitOf old.config old.id.0 t (at_commit (program_in (bank_of b)) (core_of old)) w)
    → IfOk r (λ w. IsCommitOf now.code.settings c t (at_commit (program_in now) (cores_of now c)) w)
bank-wrote (Ok w) t b now c old h d = all-same (λ p s i y. IsCommitOf s i t (at_commit p y) w) b now c old h d
bank-wrote (Err x) t b now c old h d = record {}

pub bank-can : (b : Inside) (now : CoresData) (c : ℕ) (x : Core) → IsCoreOf b now c x → CanCommit now.code.settings (cores_of now c)
    → CanCommit x.config (core_of x)
bank-can b now c x h k = all-own (λ p s y. CanCommit s y) b now c x h k

pub bank-may : (t : ℕ) (b : Inside) (now : CoresData) (c : ℕ) (x : Core) → IsCoreOf b now c x
    → CommitsBy (program_in now) t (cores_of now c) (cores_of now c).phase
    → CommitsBy (program_in (bank_of b)) t (core_of x) (core_of x).phase
bank-may t b now c x h k = all-own (λ p s y. CommitsBy p t y y.phase) b now c x h k
