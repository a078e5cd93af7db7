-- What a bank does is what its directory does.
use Rattle.std.proofs.Common.{◌≡◌, ℕ, ◌<◌, Bool, true, not, ◌&&◌, List, length, Some, refl, ap, sym, ◌∙◌, subst, arith, inl, inr}
use Rattle.std.proofs.Common.{if◌then◌else◌}
use Rattle.std.specs.Prelude.{slice_get, slice_set, get_or, ◌==◌, ◌%◌, Result, Ok, Err, IfOk}
use Rattle.std.proofs.lemmas.Option.{slice_get_read}
use Rattle.std.proofs.lemmas.Bool.{cases_eq, ne_eqb}
use Rattle.std.proofs.lemmas.Bool.Decides.{nat_tests}
use Rattle.tcc_base.specs.Put.{put}
use Rattle.tcc_base.specs.Settings.{Settings}
use Rattle.tcc_base.specs.declared.names.NodeId.{NodeId}
use Rattle.base_lemmas.proofs.Lemmas.{get-set, get-set_other, length-set}
use Rattle.rules_maps.specs.Nodes.{Msg}
use Rattle.rules_maps.specs.Shape.{lines}
use Rattle.tcc_msg.specs.Plain.{sends_of}
use Rattle.tcc_msg.specs.declared.msg.Msg.{Msg as CodeMsg}
use Rattle.rules_tcc.specs.DirDeliver.{dir_deliver}
use Rattle.directory.specs.Data.{DirData, dir_of}
use Rattle.directory.specs.Foreign.{is_foreign}
use Rattle.directory.specs.Gives.{Gives, is_taken, answer_of}
use Rattle.directory.specs.declared.handled.Handled.{Handled}
use Rattle.directory.specs.declared.handled.DirError.{DirError}
use Rattle.dir_lines.specs.Home.{IsAtHome}
use Rattle.machine_dirs.specs.Acted.{Acted}
use Rattle.machine_dirs.specs.Bank.{DirsData, dirs_of}
use Rattle.machine_dirs.specs.BankInside.{AreDirs, IsBank, bank_of}
use Rattle.machine_dirs.specs.declared.bank.DirBank.TheInside.{Inside}
use Rattle.machine_dirs.proofs.Parts.{dirs-put, dirs-at}

-- the directory of that number
pub record At (b : DirsData) (d : ℕ) (x : DirData) : Type 0 where
  pub got : slice_get b.dirs d ≡ Some x
  pub within : d < length b.dirs
  pub place : x.lines.place ≡ record { shape = b.settings; dir = d }

pub at : (b : DirsData) (d : ℕ) (x : DirData) → AreDirs b.settings b.dirs → d < b.settings.dirs → x ≡ get_or b.dirs d x → At b d x
at b d x are h e =
    let got = slice_get_read b.dirs b.settings.dirs d x (sym are.count) h e in
    record { got = got; within = omega (arith, are.count); place = are.each d x got }

pub takes-at : (b : DirsData) (d : ℕ) (x : DirData) (c : ℕ) (m : Msg) (r : Bool) → At b d x
    → ((e : ℕ → ℕ) → r ≡ (not (is_foreign x.lines.place m) && is_taken (dir_deliver x.lines.place.shape (dir_of e x) c m)))
    → (ram : ℕ → ℕ)
    → r ≡ (not (is_foreign (record { shape = b.settings; dir = d }) m) && is_taken (dir_deliver b.settings (dirs_of ram b d) c m))
takes-at b d x c m r a h ram =
    subst (λ s. r ≡ (not (is_foreign (record { shape = b.settings; dir = d }) m) && is_taken (dir_deliver b.settings s c m)))
    (sym (dirs-at ram b d x a.got))
    (subst (λ p. r ≡ (not (is_foreign p m) && is_taken (dir_deliver p.shape (dir_of ram x) c m))) a.place (h ram))

put-own : {A : Type 0} (f : ℕ → A) (d : ℕ) (v : A) → f d ≡ v → put f d v ≡ f
put-own f d v e = λ i j. (here j) i
  where
    here : (j : ℕ) → (if j == d then v else f j) ≡ f j
    here j = elim (cases_eq j d) [
      | inl q ↦ (let same : (j == d) ≡ true = grind (arith, nat_tests) in rw same (sym e ∙ ap f (sym q)))
      | inr n ↦ rw (ne_eqb j d n) refl
    ]

-- the bank with another directory in its place
abbrev pub with_dir : DirsData → ℕ → DirData → DirsData
with_dir b d y = record { settings = b.settings; dirs = slice_set b.dirs d y }

pub new-at : (ram : ℕ → ℕ) (b : DirsData) (d : ℕ) (x y : DirData) → At b d x → dirs_of ram (with_dir b d y) d ≡ dir_of ram y
new-at ram b d x y a = dirs-at ram (with_dir b d y) d y (get-set b.dirs d y a.within)

pub others-at : (ram : ℕ → ℕ) (b : DirsData) (d : ℕ) (x y : DirData) → At b d x
    → dirs_of ram (with_dir b d y) ≡ put (dirs_of ram b) d (dirs_of ram (with_dir b d y) d)
others-at ram b d x y a = dirs-put ram b.settings b.dirs d y a.within ∙ ap (put (dirs_of ram b) d) (sym (new-at ram b d x y a))

pub same-at : (ram : ℕ → ℕ) (b : DirsData) (d : ℕ) (x y : DirData) → At b d x → y ≡ x → dirs_of ram (with_dir b d y) ≡ dirs_of ram b
same-at ram b d x y a e =
    dirs-put ram b.settings b.dirs d y a.within
    ∙ put-own (dirs_of ram b) d (dir_of ram y) (dirs-at ram b d x a.got ∙ ap (dir_of ram) (sym e))

pub acted-at : (b : DirsData) (d : ℕ) (x y : DirData) (before after : List (NodeId × CodeMsg)) (h : Handled) (c : ℕ) (m : Msg) → At b d x
    → Gives x y before after h (λ s. dir_deliver x.lines.place.shape s c m)
    → Acted d b (with_dir b d y) before after h (λ s. dir_deliver b.settings s c m)
acted-at b d x y before after h c m a g = record {
  sent = g.sent;
  behind = g.behind;
  answer = λ ram.
      subst (λ s. dir_deliver b.settings s c m ≡ answer_of h (dirs_of ram (with_dir b d y) d) (sends_of g.sent))
      (sym (dirs-at ram b d x a.got))
      (subst (λ s. dir_deliver b.settings (dir_of ram x) c m ≡ answer_of h s (sends_of g.sent)) (sym (new-at ram b d x y a))
      (subst (λ p. dir_deliver p.shape (dir_of ram x) c m ≡ answer_of h (dir_of ram y) (sends_of g.sent)) a.place (g.answer ram)));
  others = λ ram. others-at ram b d x y a;
  still = λ q. (λ ram. same-at ram b d x y a (g.still q).0, (g.still q).1);
}

pub dirs-kept : (s : Settings) (ds : List DirData) (d : ℕ) (y : DirData) → AreDirs s ds → d < length ds
    → y.lines.place ≡ record { shape = s; dir = d } → AreDirs s (slice_set ds d y)
dirs-kept s ds d y are h place = record {
  count = length-set ds d y ∙ are.count;
  each = λ j z e. elim (cases_eq j d) [
    | inl q ↦ (let same : Some y ≡ Some z = sym (get-set ds d y h) ∙ rw q at e in
        let is : y ≡ z = cc in
        rw (← is, q) place)
    | inr n ↦ are.each j z (sym (get-set_other ds d j y n) ∙ e)
  ];
}

if-ok : {A E : Type 0} (r : Result A E) (P Q : A → Type 0) → ((a : A) → P a → Q a) → IfOk r P → IfOk r Q
if-ok (Ok a) P Q f p = f a p
if-ok (Err e) P Q f p = tt

-- the same over the parts of a bank
pub does : (i : Inside) (b : DirsData) (d : ℕ) (x y : DirData) (before after : List (NodeId × CodeMsg)) (r : Result Handled DirError)
    (c : ℕ) (m : Msg)
    → bank_of i ≡ b → IsBank i → d < b.settings.dirs → x ≡ get_or i.dirs d x
    → IfOk r (λ h. Gives x y before after h (λ s. dir_deliver x.lines.place.shape s c m))
    → IfOk r (λ h. Acted d b (with_dir (bank_of i) d y) before after h (λ s. dir_deliver b.settings s c m))
does i b d x y before after r c m e k h is g =
    subst (λ v. d < v.settings.dirs → IfOk r (λ a. Acted d v (with_dir (bank_of i) d y) before after a (λ s. dir_deliver v.settings s c m)))
    e
    (λ q. if-ok r _ _ (λ a p. acted-at (bank_of i) d x y before after a c m (at (bank_of i) d x k.dirs q is) p) g) h

-- a line is at home at its home
pub line-home : (s : Settings) (l d : ℕ) → l < lines s → d ≡ l % s.dirs → IsAtHome (record { shape = s; dir = d }) l
line-home s l d h e = (h, sym e)
