-- What stands behind what was told before, piece by piece.
use Rattle.std.proofs.Common.{◌≡◌, ℕ, ◌+◌, ◌<◌, ◌≤◌, List, [], ◌++◌, length, append-nil, append_assoc}
use Rattle.std.proofs.Common.{Option, ap, sym, ◌∙◌, subst, arith, take}
use Rattle.std.proofs.Math.Seq.{take-append_seam, take-append-add}
use Rattle.std.proofs.lemmas.List.{length-append}
use Rattle.std.specs.Io.KnownBytes.{Appends}
use Rattle.base_lemmas.proofs.Lemmas.{appends-more, appends-none}
use Rattle.tcc_world.specs.Faults.{Rose}
use Rattle.text_runs.specs.Pieces.{IsCut, IsPart, IsPut}

-- ---- bytes that stand behind others

-- ---- what was held was put out in part

pub put-none : (held : List ℕ) (o : Option (List ℕ)) → IsPut held held o o []
put-none held o = record { written = []; all = append-nil held; appended = appends-none o }

pub put-more : (held now next more xs : List ℕ) (a b : Option (List ℕ)) → IsPut held now a b more → next ≡ now ++ xs
    → IsPut held next a b (more ++ xs)
put-more held now next more xs a b p e = record {
  written = p.written;
  all = sym (append_assoc held more xs) ∙ ap (λ ys. ys ++ xs) p.all ∙ append_assoc p.written now xs ∙ ap (λ ys. p.written ++ ys) (sym e);
  appended = p.appended;
}

pub put-put : (held now next more : List ℕ) (a b c : Option (List ℕ)) → IsPut held now a b more → IsPut now next b c []
    → IsPut held next a c more
put-put held now next more a b c p q = record {
  written = p.written ++ q.written;
  all = p.all ∙ ap (λ ys. p.written ++ ys) (sym (append-nil now) ∙ q.all) ∙ sym (append_assoc p.written q.written next);
  appended = appends-more a b c p.written q.written p.appended q.appended;
}

-- no more was written, or a first part of what is held
pub put-part : (held now more : List ℕ) (a b : Option (List ℕ)) → IsPut held now a b more → IsPart (held ++ more) a b
put-part held now more a b p =
    (length p.written, subst (Appends a b) (sym (ap (take (length p.written)) p.all ∙ take-append_seam p.written now)) p.appended)

pub put-cut : (held now more : List ℕ) (a b c : Option (List ℕ)) (n : ℕ) → IsPut held now a b more → Appends b c (take n now)
    → IsPart (held ++ more) a c
put-cut held now more a b c n p q = (
  length p.written + n,
  subst (Appends a c) (sym (ap (take (length p.written + n)) p.all ∙ take-append-add p.written now n))
      (appends-more a b c p.written (take n now) p.appended q),
)

-- ---- the last lines

-- what was held stands whole, and of the last lines a first part
pub end-cut : (held tail none more : List ℕ) (a b c : Option (List ℕ)) (n : ℕ) → Appends a b held → none ≡ [] → more ≡ none ++ tail
    → n < length more → Appends b c (take n more) → IsCut (held ++ tail) a c
end-cut held tail none more a b c n p e m h q =
    let is : more ≡ tail = m ∙ ap (λ xs. xs ++ tail) e in
    let short : n < length tail = subst (λ xs. n < length xs) is h in
    let all = length-append held tail in (
      length held + n,
      omega (arith, short, all),
      subst (Appends a c) (sym (take-append-add held tail n))
          (appends-more a b c held (take n tail) p (subst (λ xs. Appends b c (take n xs)) is q)),
    )

-- a count that rose later rose
pub rose-later : (a b c : ℕ) → a ≤ b → Rose b c → Rose a c
rose-later a b c h r = omega (arith, h, r)
