-- How the states of the rules change with one directory, and what directories are at the start.
use Rattle.std.proofs.Common.{◌≡◌, ℕ, ◌+◌, ◌/◌, ◌<◌, ◌^◌, true, false, List, length, Some, refl, ap, sym, ◌∙◌, subst, arith}
use Rattle.std.proofs.Common.{inl, inr, if◌then◌else◌}
use Rattle.std.specs.Prelude.{slice_get, slice_set, get_or, nat_lt, ◌==◌}
use Rattle.std.proofs.lemmas.Bool.{cases_eq, ne_eqb, cases_Bool}
use Rattle.std.proofs.lemmas.Bool.Decides.{nat_tests}
use Rattle.image_load.specs.Start.{Start, first_ram}
use Rattle.tcc_base.specs.Put.{put}
use Rattle.rules_tcc.specs.State.{dir_start}
use Rattle.rules_maps.specs.Shape.{lines}
use Rattle.rules_maps.specs.Words.{line_of, place_of}
use Rattle.directory.specs.Data.{DirData, dir_of}
use Rattle.dir_lines.specs.Home.{IsAtHome}
use Rattle.dir_lines.specs.Pages.{is_at_home}
use Rattle.dir_lines.specs.Words.{words_at, Words, first_place}
use Rattle.tcc_base.specs.Settings.{Settings}
use Rattle.base_lemmas.proofs.Lemmas.{get-set, get-set_other}
use Rattle.machine_dirs.specs.Bank.{DirsData, dir_or, dirs_of}
use Rattle.dir_lines.proofs.Lemmas.{is_at_home-only}

pub dirs-put : (ram : ℕ → ℕ) (sh : Settings) (ds : List DirData) (d : ℕ) (x : DirData) → d < length ds
    → dirs_of ram (record { settings = sh; dirs = slice_set ds d x }) ≡ put (dirs_of ram (record { settings = sh; dirs = ds })) d
    (dir_of ram x)
unfolding dirs_of
dirs-put ram sh ds d x h = λ i j. (here j) i
  where
    here : (j : ℕ) → dir_or ram (slice_get (slice_set ds d x) j) ≡ (if j == d then dir_of ram x else dir_or ram (slice_get ds j))
    here j = elim (cases_eq j d) [
      | inl e ↦ (let same : (j == d) ≡ true = grind (arith, nat_tests) in rw same (rw e (ap (dir_or ram) (get-set ds d x h))))
      | inr n ↦ rw (ne_eqb j d n) (ap (dir_or ram) (get-set_other ds d j x n))
    ]

pub dirs-at : (ram : ℕ → ℕ) (b : DirsData) (d : ℕ) (x : DirData) → slice_get b.dirs d ≡ Some x → dirs_of ram b d ≡ dir_of ram x
unfolding dirs_of
dirs-at ram b d x e = ap (dir_or ram) e

in_place : (a : ℕ → ℕ) (p : Words) (w : ℕ) → is_at_home p.place (line_of w) ≡ true
    → words_at a p w ≡ get_or p.words (first_place p.place (line_of w) + place_of w) 0
unfolding words_at
in_place a p w q = rw q refl

out_of_place : (a : ℕ → ℕ) (p : Words) (w : ℕ) → is_at_home p.place (line_of w) ≡ false → words_at a p w ≡ a w
unfolding words_at
out_of_place a p w q = rw q refl

first-small : (s : Start) (w : ℕ) → w < s.settings.ram / 4 → s.word w < 2 ^ 32 → first_ram s w ≡ s.word w
unfolding first_ram
first-small s w i k =
    let here : nat_lt w (s.settings.ram / 4) ≡ true = grind (arith, nat_tests) in
    rw here (omega arith)

below : (ram w : ℕ) → w / 8 < ram / 32 → w < ram / 4
below ram w h = omega arith

-- a directory as it was loaded is one at the start
pub dir-first : (s : Start) (x : DirData) → dir_of s.word x ≡ dir_start s.word → x.words.place ≡ x.lines.place
    → x.lines.place.shape ≡ s.settings
    → ((w : ℕ) → IsAtHome x.lines.place (line_of w) → s.word w < 2 ^ 32) → dir_of (first_ram s) x ≡ dir_start (first_ram s)
unfolding dir_of dir_start
dir-first s x e same shape small = λ i. record {
  words = λ w. (here w (ap (λ d. d.words w) e)) i;
  serving = (ap (λ d. d.serving) e) i;
  lines = (ap (λ d. d.lines) e) i;
  owed = (ap (λ d. d.owed) e) i;
}
  where
    here : (w : ℕ) → words_at s.word x.words w ≡ s.word w → words_at (first_ram s) x.words w ≡ first_ram s w
    here w given = elim (cases_Bool (is_at_home x.words.place (line_of w))) [
      | inl t ↦ (let h = is_at_home-only x.lines.place (line_of w) (ap (λ p. is_at_home p (line_of w)) (sym same) ∙ t) in
          let i : w < s.settings.ram / 4 = below s.settings.ram w (subst (λ sh. w / 8 < lines sh) shape h.0) in
          in_place (first_ram s) x.words w t ∙ sym (in_place s.word x.words w t) ∙ given ∙ sym (first-small s w i (small w h)))
      | inr f ↦ out_of_place (first_ram s) x.words w f
    ]
