-- Words that stand in front of some bytes.
use Rattle.std.proofs.Common.{◌≡◌, ◌≢◌, ℕ, List, [], ◌∷◌, ◌++◌, Option, Some, None, Bool, true, false, cond, eqb, refl, inl, inr, ◌⊎◌, Bor}
use Rattle.std.specs.Prelude.{MatchOption, OnOk, Result, Ok, Err}
use Rattle.std.proofs.lemmas.Bool.{eqb-true, eq-eqb}
use Rattle.schedule_text.specs.Reading.{Reads, word_at, ◌>>=◌}

-- the value of a step that succeeds
pub bind_some : {A B : Type 0} (r : Option A) (f : A → Option B) (y : B) → (r >>= f) ≡ Some y → (x : A) × (r ≡ Some x) × (f x ≡ Some y)
bind_some (Some x) f y e = (x, refl, e)
bind_some None f y e = absurd cc

pub chosen : {A : Type 0} (b : Bool) (x y z : A) → cond b x y ≡ z → ((b ≡ true) × (x ≡ z)) ⊎ ((b ≡ false) × (y ≡ z))
chosen true x y z e = inl (refl, e)
chosen false x y z e = inr (refl, e)

pub kept : {A : Type 0} (b : Bool) (x : Option A) (y : A) → cond b x None ≡ Some y → (b ≡ true) × (x ≡ Some y)
kept true x y e = (refl, e)
kept false x y e = absurd cc

pub word_again : (word rest : List ℕ) → word_at word (word ++ rest) ≡ Some rest
unfolding word_at
word_again [] rest = refl
word_again (c ∷ word) rest = rw (eq-eqb c c refl) (word_again word rest)

pub word_takes : (word bytes rest : List ℕ) → word_at word bytes ≡ Some rest → bytes ≡ word ++ rest
unfolding word_at
word_takes [] bytes rest e = cc
word_takes (c ∷ word) [] rest e = absurd cc
word_takes (c ∷ word) (byte ∷ bytes) rest e =
    let h = kept (eqb byte c) (word_at word bytes) rest e in
    let same : byte ≡ c = eqb-true byte c h.0 in
    let more : bytes ≡ word ++ rest = word_takes word bytes rest h.1 in
    cc

word_none : (word bytes : List ℕ) → ((rest : List ℕ) → bytes ≢ word ++ rest) → (o : Option (List ℕ)) → word_at word bytes ≡ o → o ≡ None
word_none word bytes never None e = refl
word_none word bytes never (Some rest) e = absurd (never rest (word_takes word bytes rest e))

pub word_reads : (word bytes : List ℕ) (r : Option (Bor (List ℕ)))
    → MatchOption r ((rest : List ℕ) → bytes ≢ word ++ rest) (λ x. bytes ≡ word ++ x.now) → Reads (λ x. x.now) r (word_at word bytes)
word_reads word bytes None never = word_none word bytes never (word_at word bytes) refl
word_reads word bytes (Some x) parts = rw parts (word_again word x.now)

-- what follows from a clause on a call that succeeds
pub on_ok_then : {A E : Type 0} (r : Result A E) (P Q : Type 0) → (P → Q) → OnOk r P → OnOk r Q
on_ok_then (Ok x) P Q f p = f p
on_ok_then (Err e) P Q f p = tt
