-- The newest of several copies of a word.
use Rattle.std.proofs.Common.{◌≡◌, ℕ, zero, suc, ◌+◌, ◌<◌, ◌≤◌, Bool, true, cond, List, [], ◌∷◌, ◌++◌, take, length, Option, Some}
use Rattle.std.proofs.Common.{subst}
use Rattle.std.proofs.Common.{None, is_some, subst, refl, ap, sym, ◌∙◌, arith, get_or, append_assoc, append-nil, if◌then◌else◌}
use Rattle.std.specs.Prelude.{nat_eq, slice_get}
use Rattle.std.specs.List.{flat_map}
use Rattle.std.proofs.Math.Seq.{take-suc}
use Rattle.std.proofs.lemmas.List.{take_all}
use Rattle.std.proofs.lemmas.List.Concat.{flat_map-append}
use Rattle.std.proofs.lemmas.Bool.{eq-eqb}
use Rattle.base_lemmas.proofs.Lemmas.{word_at-own}
use Rattle.rules_maps.specs.Cache.{Cache, IsCache, dirty_mask}
use Rattle.rules_maps.specs.Masks.{hit}
use Rattle.rules_maps.specs.Nodes.{Msg, WriteBack}
use Rattle.rules_maps.specs.Shape.{Shape}
use Rattle.rules_maps.specs.Words.{line_of, place_of, those, word_at}
use Rattle.rules_maps.proofs.Lemmas.{has-mask_of}
use Rattle.rules_tcc.specs.Seen.{Copy, copies_on, copy_in, copy_of, newer, newest}
use Rattle.rules_tcc.specs.State.{Link}
use Rattle.spec_cache.specs.Look.{Views}
use Rattle.spec_cache.specs.declared.frame.FrameView.{FrameView}
use Rattle.net_core.proofs.Prefixes.{took-more}

pub newest-append : (a : Copy) (xs ys : List Copy) → newest a (xs ++ ys) ≡ newest (newest a xs) ys
unfolding newest
newest-append a [] ys = refl
newest-append a (x ∷ xs) ys = newest-append (newer a x) xs ys

-- ---- a frame

-- the frame's mask says whether the word is dirty
pub hit-dirty : (c : Cache) (w : ℕ) → hit (line_of w) (dirty_mask c (line_of w)) w ≡ is_some (c.dirty w)
unfolding hit dirty_mask
hit-dirty c w =
    let place : place_of w < 8 = omega arith in
    let line : nat_eq (line_of w) (line_of w) ≡ true = eq-eqb (line_of w) (line_of w) refl in
    rw line (has-mask_of (λ k. is_some (c.dirty (word_at (line_of w) k))) (place_of w) place
    ∙ ap (λ v. is_some (c.dirty v)) (word_at-own w))

-- the copy of a frame is that of its words under its mask of dirty words
frame-copy : (sh : Shape) (c : Cache) (w : ℕ) (f : FrameView) → IsCache sh c → Views c (line_of w) f
    → copy_of w (WriteBack (line_of w) f.dirty.0 f.words f.tag.0) ≡ copy_in (c.value w) (c.dirty w)
frame-copy sh c w f k v =
    ap (λ m. copy_of w (WriteBack (line_of w) m f.words f.tag.0)) v.dirty
    ∙ (ap (λ b. if b then record { tag = f.tag.0; value = get_or f.words (place_of w) 0 } ∷ [] else []) (hit-dirty c w)
    ∙ go (c.dirty w) refl)
  where
    go : (o : Option ℕ) → c.dirty w ≡ o
        → (if is_some o then record { tag = f.tag.0; value = get_or f.words (place_of w) 0 } ∷ [] else []) ≡ copy_in (c.value w) o
    go None e = refl
    go (Some g) e =
        let dirty : is_some (c.dirty w) ≡ true = ap is_some e in
        let tag : f.tag.0 ≡ g = let t = v.tag w refl dirty in cc in
        let value : c.value w ≡ Some (get_or f.words (place_of w) 0) = v.words w refl (k.dirty w dirty) in
        rw (value, tag) refl

-- the same where the line is given
pub frame-at : (sh : Shape) (c : Cache) (l w : ℕ) (f : FrameView) → line_of w ≡ l → IsCache sh c → Views c l f
    → copy_of w (WriteBack l f.dirty.0 f.words f.tag.0) ≡ copy_in (c.value w) (c.dirty w)
frame-at sh c l w f e k =
    subst (λ m. Views c m f → copy_of w (WriteBack m f.dirty.0 f.words f.tag.0) ≡ copy_in (c.value w) (c.dirty w)) e (frame-copy sh c w f k)

-- ---- the messages on a link

-- the copy in what stands on a link under a number
abbrev pub copy_there : (word : ℕ) → Option Msg → List Copy
copy_there w None = []
copy_there w (Some m) = copy_of w m

unfoldable pub copy_at : (word : ℕ) → Link → ℕ → List Copy
copy_at w link k = copy_there w (get_or link k None)

-- the numbers of the messages that are there
abbrev pub waiting_on : Link → List ℕ
waiting_on link = those (λ k. is_some (get_or link k None)) (length link)

copies-more : (w : ℕ) (link : Link) (o : Option Msg) → copies_on w (link ++ o ∷ []) ≡ copies_on w link ++ copy_there w o
unfolding copies_on
copies-more w [] None = refl
copies-more w [] (Some m) = append-nil (copy_of w m)
copies-more w (None ∷ ms) o = copies-more w ms o
copies-more w (Some m ∷ ms) o =
    ap (λ cs. copy_of w m ++ cs) (copies-more w ms o) ∙ sym (append_assoc (copy_of w m) (copies_on w ms) (copy_there w o))

own-copy : (w : ℕ) (link : Link) (n : ℕ) (o : Option Msg) → get_or link n None ≡ o
    → flat_map (copy_at w link) (cond (is_some o) (n ∷ []) []) ≡ copy_there w o
unfolding copy_at
own-copy w link n None e = refl
own-copy w link n (Some m) e = append-nil (copy_there w (get_or link n None)) ∙ ap (copy_there w) e

copies-first : (w : ℕ) (link : Link) (n : ℕ) → n ≤ length link
    → copies_on w (take n link) ≡ flat_map (copy_at w link) (those (λ k. is_some (get_or link k None)) n)
unfolding copies_on those
copies-first w link zero l = refl
copies-first w link (suc n) l =
    let there : ℕ → Bool = λ k. is_some (get_or link k None) in
    ap (copies_on w) (take-suc link n None l)
    ∙ (copies-more w (take n link) (get_or link n None)
    ∙ ((λ i. copies-first w link n (omega (arith, l)) i ++ sym (own-copy w link n (get_or link n None) refl) i)
    ∙ sym (flat_map-append (copy_at w link) (those there n) (cond (there n) (n ∷ []) []))))

-- the copies on a link are those of the messages that are there
pub copies-waiting : (w : ℕ) (link : Link) → flat_map (copy_at w link) (waiting_on link) ≡ copies_on w link
copies-waiting w link = sym (copies-first w link (length link) (omega arith)) ∙ ap (copies_on w) (take_all (length link) link (omega arith))

-- one more of them
pub copies-took : (w : ℕ) (link : Link) (i k : ℕ) (m : Msg) → Some k ≡ slice_get (waiting_on link) i → get_or link k None ≡ Some m
    → flat_map (copy_at w link) (take i (waiting_on link)) ++ copy_of w m ≡ flat_map (copy_at w link) (take (i + 1) (waiting_on link))
unfolding copy_at
copies-took w link i k m at own =
    let before : List ℕ = take i (waiting_on link) in
    let copy : copy_of w m ≡ flat_map (copy_at w link) (k ∷ []) =
    ap (copy_there w) (sym own) ∙ sym (append-nil (copy_there w (get_or link k None))) in
    ap (λ cs. flat_map (copy_at w link) before ++ cs) copy
    ∙ (sym (flat_map-append (copy_at w link) before (k ∷ []))
    ∙ ap (flat_map (copy_at w link)) (sym (took-more (waiting_on link) i k (sym at))))

pub newest-more : (a : Copy) (w : ℕ) (link : Link) (i k : ℕ) (m : Msg) → Some k ≡ slice_get (waiting_on link) i
    → get_or link k None ≡ Some m
    → newest (newest a (flat_map (copy_at w link) (take i (waiting_on link)))) (copy_of w m)
    ≡ newest a (flat_map (copy_at w link) (take (i + 1) (waiting_on link)))
newest-more a w link i k m at own =
    sym (newest-append a (flat_map (copy_at w link) (take i (waiting_on link))) (copy_of w m))
    ∙ ap (newest a) (copies-took w link i k m at own)

-- all of them
pub copies-took_all : (w : ℕ) (link : Link) (i : ℕ) → length (waiting_on link) ≤ i
    → flat_map (copy_at w link) (take i (waiting_on link)) ≡ copies_on w link
copies-took_all w link i l = ap (flat_map (copy_at w link)) (take_all i (waiting_on link) l) ∙ copies-waiting w link

pub newest-all : (a : Copy) (w : ℕ) (link : Link) (i : ℕ) → length (waiting_on link) ≤ i
    → newest a (flat_map (copy_at w link) (take i (waiting_on link))) ≡ newest a (copies_on w link)
newest-all a w link i l = ap (newest a) (copies-took_all w link i l)
