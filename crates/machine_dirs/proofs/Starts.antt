-- The directories at the start, one after another.
use Rattle.std.proofs.Common.{◌≡◌, ℕ, zero, suc, ◌+◌, List, [], ◌∷◌, ◌++◌, length, length-append, Option, Some, None, refl, ap, sym, ◌∙◌}
use Rattle.std.proofs.Common.{subst, ⊎_elim, inl, inr}
use Rattle.std.specs.Prelude.{slice_get, ◌⊎◌}
use Rattle.image_load.specs.Start.{Start, first_ram}
use Rattle.tcc_base.specs.Settings.{Settings}
use Rattle.rules_tcc.specs.State.{dir_start}
use Rattle.directory.specs.Data.{DirData, dir_of}
use Rattle.machine_dirs.specs.Bank.{dir_or, dirs_of}

-- the first n of them
pub record Begun (s : Start) (sh : Settings) (n : ℕ) (ds : List DirData) : Type 0 where
  pub count : length ds ≡ n
  pub place : (k : ℕ) (x : DirData) → slice_get ds k ≡ Some x → x.lines.place ≡ record { shape = sh; dir = k }
  pub state : (k : ℕ) (x : DirData) → slice_get ds k ≡ Some x → dir_of (first_ram s) x ≡ dir_start (first_ram s)

get-push : (xs : List DirData) (y : DirData) (k : ℕ) (x : DirData) → slice_get (xs ++ y ∷ []) k ≡ Some x
    → (slice_get xs k ≡ Some x) ⊎ ((k ≡ length xs) × (y ≡ x))
get-push [] y zero x e = inr (refl, cc)
get-push [] y (suc k) x e = absurd (cc)
get-push (z ∷ zs) y zero x e = inl e
get-push (z ∷ zs) y (suc k) x e = ⊎_elim (λ l. inl l) (λ r. inr (ap suc r.0, r.1)) (get-push zs y k x e)

pub begun-none : (s : Start) (sh : Settings) → Begun s sh 0 []
begun-none s sh = record { count = refl; place = λ k x e. absurd (cc); state = λ k x e. absurd (cc) }

pub begun-push : (s : Start) (sh : Settings) (n : ℕ) (ds : List DirData) (y : DirData) → Begun s sh n ds
    → y.lines.place ≡ record { shape = sh; dir = n } → dir_of (first_ram s) y ≡ dir_start (first_ram s) → Begun s sh (n + 1) (ds ++ y ∷ [])
begun-push s sh n ds y b at new = record {
  count = length-append ds (y ∷ []) ∙ ap (λ k. k + 1) b.count;
  place = λ k x e. ⊎_elim (b.place k x) (λ r. subst (λ z. z.lines.place ≡ record { shape = sh; dir = k }) r.1
      (subst (λ j. y.lines.place ≡ record { shape = sh; dir = j }) (sym b.count ∙ sym r.0) at)) (get-push ds y k x e);
  state = λ k x e. ⊎_elim (b.state k x) (λ r. subst (λ z. dir_of (first_ram s) z ≡ dir_start (first_ram s)) r.1 new) (get-push ds y k x e);
}

pub begun-start : (s : Start) (sh : Settings) (n : ℕ) (ds : List DirData) → Begun s sh n ds
    → dirs_of (first_ram s) (record { settings = sh; dirs = ds }) ≡ (λ d. dir_start (first_ram s))
unfolding dirs_of
begun-start s sh n ds b = λ i d. (here d (slice_get ds d) refl) i
  where
    here : (d : ℕ) (o : Option DirData) → slice_get ds d ≡ o → dir_or (first_ram s) o ≡ dir_start (first_ram s)
    here d None e = refl
    here d (Some x) e = b.state d x e
