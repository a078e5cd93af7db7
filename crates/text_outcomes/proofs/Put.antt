-- What was written of bytes that come piece by piece.
use Rattle.std.proofs.Common.{◌≡◌, ◌<◌, ◌≤◌, ◌+◌, ℕ, List, [], ◌++◌, Option, length, take, append_assoc, append-nil}
use Rattle.std.proofs.Common.{refl, sym, ◌∙◌, ap, subst, arith}
use Rattle.std.proofs.Math.Seq.{take-append_seam, take-append-add}
use Rattle.std.proofs.lemmas.List.{length-append, take-append-le}
use Rattle.std.specs.Io.KnownBytes.{Appends}
use Rattle.base_lemmas.proofs.Lemmas.{appends-more, appends-none}
use Rattle.tcc_world.specs.Faults.{Rose}
use Rattle.text_outcomes.specs.Written.{IsBroken, IsCut, IsPut}
use Rattle.tcc_world.specs.Page.{Written}
use Rattle.text_outcomes.specs.declared.writing.Broken.{Broken}
use Rattle.text_outcomes.specs.declared.writing.Broken.TheVariants.{Memory, Output}

-- ---- bytes of which the rest is held

pub put-none : (held : List ℕ) (o : Option (List ℕ)) → IsPut held held o o
put-none held o = record { written = []; parts = refl; appended = appends-none o }

pub put-more : (all held next xs : List ℕ) (a b : Option (List ℕ)) → IsPut all held a b → next ≡ held ++ xs → IsPut (all ++ xs) next a b
put-more all held next xs a b p e = record {
  written = p.written;
  parts = ap (λ ys. ys ++ xs) p.parts ∙ append_assoc p.written held xs ∙ ap (λ ys. p.written ++ ys) (sym e);
  appended = p.appended;
}

pub put-put : (all held next : List ℕ) (a b c : Option (List ℕ)) → IsPut all held a b → IsPut held next b c → IsPut all next a c
put-put all held next a b c p q = record {
  written = p.written ++ q.written;
  parts = p.parts ∙ ap (λ ys. p.written ++ ys) q.parts ∙ sym (append_assoc p.written q.written next);
  appended = appends-more a b c p.written q.written p.appended q.appended;
}

-- nothing is held any more
pub put-all : (all held next : List ℕ) (a b : Option (List ℕ)) → Appends a b held → next ≡ [] → all ≡ held → IsPut all next a b
put-all all held next a b p e f = record {
  written = held;
  parts = f ∙ sym (append-nil held) ∙ ap (λ ys. held ++ ys) (sym e);
  appended = p;
}

-- what is held is written too
pub put-whole : (all held : List ℕ) (a b c : Option (List ℕ)) → IsPut all held a b → Appends b c held → Appends a c all
put-whole all held a b c p q = subst (Appends a c) (sym p.parts) (appends-more a b c p.written held p.appended q)

-- ---- bytes of which a first part was written

pub cut-none : (all : List ℕ) (a : Option (List ℕ)) → 0 < length all → IsCut all a a
cut-none all a some = record { n = 0; short = some; appended = appends-none a }

-- of what is held a first part is written too
pub put-cut : (all held : List ℕ) (a b c : Option (List ℕ)) → IsPut all held a b → IsCut held b c → IsCut all a c
put-cut all held a b c p q =
    let size = ap length p.parts ∙ length-append p.written held in
    let short = q.short in
    record {
      n = length p.written + q.n;
      short = omega (arith, size, short);
      appended = subst (Appends a c) (sym (ap (take (length p.written + q.n)) p.parts ∙ take-append-add p.written held q.n))
          (appends-more a b c p.written (take q.n held) p.appended q.appended);
    }

pub cut-more : (all more : List ℕ) (a b : Option (List ℕ)) → IsCut all a b → IsCut (all ++ more) a b
cut-more all more a b p =
    let size = length-append all more in
    let short = p.short in
    record {
      n = p.n;
      short = omega (arith, size, short);
      appended = subst (Appends a b) (sym (take-append-le p.n all more (omega (arith, short)))) p.appended;
    }

-- what is to come is neither written nor held
pub put-short : (all held more : List ℕ) (a b : Option (List ℕ)) → IsPut all held a b → 0 < length more → IsCut (all ++ more) a b
put-short all held more a b p some =
    let whole : all ++ more ≡ p.written ++ (held ++ more) = ap (λ ys. ys ++ more) p.parts ∙ append_assoc p.written held more in
    let size = ap length whole ∙ length-append p.written (held ++ more) ∙ ap (λ n. length p.written + n) (length-append held more) in
    record {
      n = length p.written;
      short = omega (arith, size, some);
      appended = subst (Appends a b) (sym (ap (take (length p.written)) whole ∙ take-append_seam p.written (held ++ more))) p.appended;
    }

-- ---- why they broke off

-- a count that rose later rose
pub rose-later : (a b c : ℕ) → a ≤ b → Rose b c → Rose a c
rose-later a b c h r = omega (arith, h, r)

pub broken-later : (all held : List ℕ) (a b c : Option (List ℕ)) (f g k : ℕ) (why : Broken) → IsPut all held a b → f ≤ g
    → IsBroken held (record { before = record { bytes = b; faults = g }; after = record { bytes = c; faults = k } }) why
    → IsBroken all (record { before = record { bytes = a; faults = f }; after = record { bytes = c; faults = k } }) why
broken-later all held a b c f g k Memory p le q = put-cut all held a b c p q
broken-later all held a b c f g k Output p le q = (put-cut all held a b c p q.0, rose-later f g k le q.1)

pub broken-more : (all more : List ℕ) (o : Written) (why : Broken) → IsBroken all o why → IsBroken (all ++ more) o why
broken-more all more o Memory p = cut-more all more o.before.bytes o.after.bytes p
broken-more all more o Output p = (cut-more all more o.before.bytes o.after.bytes p.0, p.1)
