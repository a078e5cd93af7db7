-- Equal tables of commits are of equal commits.
use Rattle.std.proofs.Common.{◌≡◌, ℕ, suc, List, [], ◌∷◌, map, get_or, Option, Some, None, option_map, slice_get, refl}
use Rattle.tcc_base.specs.declared.access.Commit.{Commit}
use Rattle.checkpoint_text.specs.Commits.{commit_numbers}
use Rattle.checkpoint_text.specs.Numbers.{byte_numbers, load_numbers, stored_numbers}
use Rattle.checkpoint_text.specs.Tables.{all, each, numbered}
use Rattle.checkpoint_text.proofs.Numbers.{bytes-same, loads-same, stores-same}
use Rattle.checkpoint_text.proofs.Picked.{all-same, each-same, items_of}

-- lists with the same at each place
places-same : {A : Type 0} (xs ys : List A) → ((i : ℕ) → slice_get xs i ≡ slice_get ys i) → xs ≡ ys
places-same [] [] same = refl
places-same [] (y ∷ ys) same = let first = same 0 in absurd (cc)
places-same (x ∷ xs) [] same = let first = same 0 in absurd (cc)
places-same (x ∷ xs) (y ∷ ys) same =
    let first : Some x ≡ Some y = same 0 in
    let head : x ≡ y = cc in
    let tail = places-same xs ys (λ i. same (suc i)) in
    λ i. head i ∷ tail i

-- two lists of commits with the same tables
pub record HasSameTables (xs ys : List Commit) : Type 0 where
  pub count : numbered (each commit_numbers) 0 xs ≡ numbered (each commit_numbers) 0 ys
  pub loads : numbered (all (λ (c : Commit). c.loads) load_numbers) 0 xs ≡ numbered (all (λ (c : Commit). c.loads) load_numbers) 0 ys
  pub stores : numbered (all (λ (c : Commit). c.stores) stored_numbers) 0 xs ≡ numbered (all (λ (c : Commit). c.stores) stored_numbers) 0 ys
  pub console : numbered (all (λ (c : Commit). c.console) byte_numbers) 0 xs ≡ numbered (all (λ (c : Commit). c.console) byte_numbers) 0 ys

commit-same : (x y : Option Commit) → option_map commit_numbers x ≡ option_map commit_numbers y
    → items_of (λ (c : Commit). map load_numbers c.loads) x ≡ items_of (λ (c : Commit). map load_numbers c.loads) y
    → items_of (λ (c : Commit). map stored_numbers c.stores) x ≡ items_of (λ (c : Commit). map stored_numbers c.stores) y
    → items_of (λ (c : Commit). map byte_numbers c.console) x ≡ items_of (λ (c : Commit). map byte_numbers c.console) y
    → x ≡ y
commit-same None None count loads stores console = refl
commit-same None (Some y) count loads stores console = absurd (cc)
commit-same (Some x) None count loads stores console = absurd (cc)
commit-same (Some x) (Some y) count loads stores console =
    let numbers : commit_numbers x ≡ commit_numbers y = cc in
    let loaded = loads-same x.loads y.loads loads in
    let stored = stores-same x.stores y.stores stores in
    let bytes = bytes-same x.console y.console console in
    λ i. Some (record {
      tid = record { 0 = get_or (numbers i) 0 0 };
      core = record { 0 = get_or (numbers i) 1 0 };
      n = get_or (numbers i) 2 0;
      loads = loaded i;
      stores = stored i;
      console = bytes i;
    })

pub commits-same : (xs ys : List Commit) → HasSameTables xs ys → xs ≡ ys
commits-same xs ys same =
    places-same xs ys (λ i. commit-same (slice_get xs i) (slice_get ys i) (each-same commit_numbers xs ys same.count i)
    (all-same (λ (c : Commit). c.loads) load_numbers xs ys same.loads i)
    (all-same (λ (c : Commit). c.stores) stored_numbers xs ys same.stores i)
    (all-same (λ (c : Commit). c.console) byte_numbers xs ys same.console i))
