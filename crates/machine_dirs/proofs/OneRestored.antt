-- One directory of a bank, made from what a checkpoint says of it.
use Rattle.std.proofs.Common.{◌≡◌, ℕ, ◌<◌, Bool, true, false, ap, sym, subst, ◌∙◌}
use Rattle.std.specs.Bool.{OnTrue}
use Rattle.std.specs.Prelude.{get_or}
use Rattle.tcc_base.specs.Put.{put}
use Rattle.rules_tcc.specs.State.{DirState}
use Rattle.directory.specs.Data.{DirData, dir_of}
use Rattle.machine_dirs.specs.Bank.{DirsData, dirs_of}
use Rattle.machine_dirs.specs.BankInside.{IsBank, bank_of}
use Rattle.machine_dirs.specs.declared.bank.DirBank.TheInside.{Inside}
use Rattle.machine_dirs.proofs.Answers.{At, at, with_dir}
use Rattle.machine_dirs.proofs.Parts.{dirs-put, dirs-at}

if-true : (r : Bool) (P Q : Type 0) → (P → Q) → OnTrue r P → OnTrue r Q
if-true true P Q f p = f p
if-true false P Q f p = tt

-- a directory whose state changes by f
changed-at : (b : DirsData) (d : ℕ) (x y : DirData) (f : DirState → DirState) → At b d x
    → ((ram : ℕ → ℕ) → dir_of ram y ≡ f (dir_of ram x))
    → (ram : ℕ → ℕ) → dirs_of ram (with_dir b d y) ≡ put (dirs_of ram b) d (f (dirs_of ram b d))
changed-at b d x y f a h ram =
    dirs-put ram b.settings b.dirs d y a.within
    ∙ ap (put (dirs_of ram b) d) (h ram ∙ ap f (sym (dirs-at ram b d x a.got)))

-- the same over the parts of a bank, where a call says by its result whether it does
pub restored : (i : Inside) (b : DirsData) (d e : ℕ) (x y : DirData) (r : Bool) (f : DirState → DirState)
    → bank_of i ≡ b → IsBank i → d < i.config.dirs → x ≡ get_or i.dirs d x → d ≡ e
    → OnTrue r ((ram : ℕ → ℕ) → dir_of ram y ≡ f (dir_of ram x))
    → OnTrue r ((ram : ℕ → ℕ) → dirs_of ram (with_dir (bank_of i) d y) ≡ put (dirs_of ram b) e (f (dirs_of ram b e)))
restored i b d e x y r f is bank within read same h =
    subst (λ v. OnTrue r ((ram : ℕ → ℕ) → dirs_of ram (with_dir (bank_of i) d y) ≡ put (dirs_of ram v) e (f (dirs_of ram v e)))) is
    (subst (λ k. OnTrue r ((ram : ℕ → ℕ)
    → dirs_of ram (with_dir (bank_of i) d y) ≡ put (dirs_of ram (bank_of i)) k (f (dirs_of ram (bank_of i) k)))) same
    (if-true r _ _ (changed-at (bank_of i) d x y f (at (bank_of i) d x bank.dirs within read)) h))
