-- One event more is told.
use Rattle.std.proofs.Common.{◌≡◌, ℕ, ◌+◌, ◌<◌, ◌≤◌, List, [], ◌∷◌, ◌++◌, length, Option, nat_le, if◌then◌else◌, refl, ap, sym, ◌∙◌}
use Rattle.std.proofs.Common.{append-nil, arith, subst, take}
use Rattle.std.specs.Io.KnownBytes.{Appends}
use Rattle.schedule_text.specs.Grammar.{joined}
use Rattle.std.proofs.lemmas.List.{drop_all}
use Rattle.watch_trace.proofs.Lemmas.{joined-from}
use Rattle.text_runs.specs.Pieces.{HasBegun, IsPut, IsTold, window}
use Rattle.text_runs.proofs.Bytes.{put-cut, put-more, put-none, put-part, put-put}

one-longer : (xs : List (List ℕ)) (x : List ℕ) → length (xs ++ x ∷ []) ≡ length xs + 1
one-longer [] x = refl
one-longer (y ∷ xs) x = let r = one-longer xs x in omega (arith, r)

-- events with these texts came, as many as the number says; what is to be shown of them is held or written
pub record Telling (can : Type 0) (leads : List (List ℕ) → Type 0) (number from first_left left : ℕ) (held_first held : List ℕ)
    (before after : Option (List ℕ)) (faults_before faults : ℕ) : Type 0 where
  pub ready : can
  pub texts : List (List ℕ)
  pub led : leads texts
  pub count : length texts ≡ number
  pub fewer : left + number ≤ first_left
  pub put : IsPut held_first held before after (window from texts)
  pub faults_stay : faults_before ≤ faults

pub telling-none : (can : Type 0) (leads : List (List ℕ) → Type 0) (from left : ℕ) (held : List ℕ) (o : Option (List ℕ)) (f : ℕ)
    → can → leads [] → Telling can leads 0 from left left held held o o f f
telling-none can leads from left held o f c l = record {
  ready = c;
  texts = [];
  led = l;
  count = refl;
  fewer = omega arith;
  put = subst (IsPut held held o o) (sym (ap joined (drop_all from [] (omega arith)))) (put-none held o);
  faults_stay = omega arith;
}

-- the next one came
pub telling-more : (can again : Type 0) (leads later next : List (List ℕ) → Type 0) (number from first_left left less : ℕ)
    (h0 held now : List ℕ) (a b : Option (List ℕ)) (f g : ℕ) (text : List ℕ)
    → ((xs ys : List (List ℕ)) → leads xs → next ys → later (xs ++ ys))
    → Telling can leads number from first_left left h0 held a b f g → again → next (text ∷ []) → less < left
    → now ≡ held ++ (if nat_le from number then text else [])
    → Telling again later (number + 1) from first_left less h0 now a b f g
telling-more can again leads later next number from first_left left less h0 held now a b f g text both s c n l e =
    let count = s.count in
    let longer = one-longer s.texts text in
    let few = s.fewer in
    record {
      ready = c;
      texts = s.texts ++ text ∷ [];
      led = both s.texts (text ∷ []) s.led n;
      count = omega (arith, count, longer);
      fewer = omega (arith, few, l);
      put = subst (IsPut h0 now a b)
          (ap (λ k. window from s.texts ++ (if nat_le from k then text else [])) (sym count) ∙ sym (joined-from from s.texts text))
          (put-more h0 held now (window from s.texts) (if nat_le from number then text else []) a b s.put e);
      faults_stay = s.faults_stay;
    }

-- a first part of what is held was written
pub telling-put : (can : Type 0) (leads : List (List ℕ) → Type 0) (number from first_left left : ℕ) (h0 held now : List ℕ)
    (a b c : Option (List ℕ)) (f g k : ℕ) → Telling can leads number from first_left left h0 held a b f g → IsPut held now b c []
    → g ≤ k → Telling can leads number from first_left left h0 now a c f k
telling-put can leads number from first_left left h0 held now a b c f g k s p h = record {
  ready = s.ready;
  texts = s.texts;
  led = s.led;
  count = s.count;
  fewer = s.fewer;
  put = put-put h0 held now (window from s.texts) a b c s.put p;
  faults_stay = let stay = s.faults_stay in omega (arith, stay, h);
}

-- no event comes any more
pub telling-all : (can : Type 0) (leads later next : List (List ℕ) → Type 0) (ended : Type 0) (number from first_left left : ℕ)
    (h0 held now : List ℕ) (a b : Option (List ℕ)) (f g : ℕ) → ((xs ys : List (List ℕ)) → leads xs → next ys → later (xs ++ ys))
    → Telling can leads number from first_left left h0 held a b f g → next [] → ended → now ≡ held
    → IsTold later ended from h0 now a b
telling-all can leads later next ended number from first_left left h0 held now a b f g both s n e same = record {
  texts = s.texts;
  led = subst later (append-nil s.texts) (both s.texts [] s.led n);
  end = e;
  put = subst (λ k. IsPut h0 k a b (window from s.texts)) (sym same) s.put;
}

-- the texts broke off: no more was written, or a first part of what is held
pub telling-part : {Run : Type 0} (can : Type 0) (leads : Run → List (List ℕ) → Type 0) (at : Run) (number from first_left left : ℕ)
    (h0 held : List ℕ) (a b : Option (List ℕ)) (f g : ℕ) → Telling can (leads at) number from first_left left h0 held a b f g
    → HasBegun leads from h0 a b
telling-part can leads at number from first_left left h0 held a b f g s = record {
  at = at;
  texts = s.texts;
  led = s.led;
  part = put-part h0 held (window from s.texts) a b s.put;
}

pub telling-cut : {Run : Type 0} (can : Type 0) (leads : Run → List (List ℕ) → Type 0) (at : Run) (number from first_left left : ℕ)
    (h0 held : List ℕ) (a b c : Option (List ℕ)) (f g k : ℕ) → Telling can (leads at) number from first_left left h0 held a b f g
    → Appends b c (take k held) → HasBegun leads from h0 a c
telling-cut can leads at number from first_left left h0 held a b c f g k s q = record {
  at = at;
  texts = s.texts;
  led = s.led;
  part = put-cut h0 held (window from s.texts) a b c k s.put q;
}
