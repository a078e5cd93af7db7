-- One record's change as the change of the map of lines.
use Rattle.std.proofs.Common.{◌≡◌, ℕ, Bool, true, false, Option, Some, None, option_map, if◌then◌else◌, ◌==◌, ◌&&◌, refl, ap, sym, ◌∙◌}
use borrow.Author.Tests.{eqb-true}
use Rattle.tcc_base.specs.declared.names.CoreId.{CoreId}
use Rattle.tcc_base.specs.declared.names.Tid.{Tid}
use Rattle.tcc_base.specs.declared.names.Mask.{Mask}
use Rattle.dir_lines.specs.declared.core_set.CoreSet.{CoreSet}
use Rattle.rules_maps.specs.Words.{put, put_at}
use Rattle.rules_maps.specs.Masks.{has}
use Rattle.rules_maps.proofs.Lemmas.{has-zero}
use Rattle.rules_maps.specs.Lines.{with_sharer, with_owner, with_tag, with_asked, with_mark, no_lines}
use Rattle.dir_lines.specs.Owned.{owned_line}
use Rattle.dir_lines.specs.Record.{Record, blank, lines_of}

-- a field that is as before
pub same-field : {A : Type 0} (field : Record → A) (f : ℕ → Record) (l : ℕ) (r : Record) (j : ℕ) → field r ≡ field (f l)
    → field (put f l r j) ≡ field (f j)
same-field field f l r j e = by (j == l) refl
  where
    by : (b : Bool) → (j == l) ≡ b → field (if b then r else f j) ≡ field (f j)
    by true t = e ∙ ap (λ k. field (f k)) (sym (eqb-true j l t))
    by false t = refl

-- the field that changes
pub new-field : {A : Type 0} (field : Record → A) (f : ℕ → Record) (l : ℕ) (r : Record) (j : ℕ) (v : A) → field r ≡ v
    → field (put f l r j) ≡ put (λ k. field (f k)) l v j
new-field field f l r j v e = by (j == l)
  where
    by : (b : Bool) → field (if b then r else f j) ≡ (if b then v else field (f j))
    by true = e
    by false = refl

pub lines_of-with_owner : (f : ℕ → Record) (l : ℕ) (o : Option CoreId)
    → lines_of (put f l (record (f l) { owner = o })) ≡ with_owner l (option_map (λ c. c.0) o) (lines_of f)
unfolding lines_of with_owner
lines_of-with_owner f l o = λ i. record {
  sharers = λ j c. same-field (λ r. has r.sharers.0 c) f l (record (f l) { owner = o }) j refl i;
  owner = λ j. new-field (λ r. option_map (λ c. c.0) r.owner) f l (record (f l) { owner = o }) j (option_map (λ c. c.0) o) refl i;
  tag = λ j. same-field (λ r. r.tag.0) f l (record (f l) { owner = o }) j refl i;
  asked = λ j. same-field (λ r. r.asked) f l (record (f l) { owner = o }) j refl i;
  mark = λ j. same-field (λ r. r.mark.0) f l (record (f l) { owner = o }) j refl i;
}

pub lines_of-with_tag : (f : ℕ → Record) (l : ℕ) (t : Tid) → lines_of (put f l (record (f l) { tag = t })) ≡ with_tag l t.0 (lines_of f)
unfolding lines_of with_tag
lines_of-with_tag f l t = λ i. record {
  sharers = λ j c. same-field (λ r. has r.sharers.0 c) f l (record (f l) { tag = t }) j refl i;
  owner = λ j. same-field (λ r. option_map (λ c. c.0) r.owner) f l (record (f l) { tag = t }) j refl i;
  tag = λ j. new-field (λ r. r.tag.0) f l (record (f l) { tag = t }) j t.0 refl i;
  asked = λ j. same-field (λ r. r.asked) f l (record (f l) { tag = t }) j refl i;
  mark = λ j. same-field (λ r. r.mark.0) f l (record (f l) { tag = t }) j refl i;
}

pub lines_of-with_asked : (f : ℕ → Record) (l : ℕ) (b : Bool)
    → lines_of (put f l (record (f l) { asked = b })) ≡ with_asked l b (lines_of f)
unfolding lines_of with_asked
lines_of-with_asked f l b = λ i. record {
  sharers = λ j c. same-field (λ r. has r.sharers.0 c) f l (record (f l) { asked = b }) j refl i;
  owner = λ j. same-field (λ r. option_map (λ c. c.0) r.owner) f l (record (f l) { asked = b }) j refl i;
  tag = λ j. same-field (λ r. r.tag.0) f l (record (f l) { asked = b }) j refl i;
  asked = λ j. new-field (λ r. r.asked) f l (record (f l) { asked = b }) j b refl i;
  mark = λ j. same-field (λ r. r.mark.0) f l (record (f l) { asked = b }) j refl i;
}

pub lines_of-with_mark : (f : ℕ → Record) (l : ℕ) (m : Mask) → lines_of (put f l (record (f l) { mark = m })) ≡ with_mark l m.0 (lines_of f)
unfolding lines_of with_mark
lines_of-with_mark f l m = λ i. record {
  sharers = λ j c. same-field (λ r. has r.sharers.0 c) f l (record (f l) { mark = m }) j refl i;
  owner = λ j. same-field (λ r. option_map (λ c. c.0) r.owner) f l (record (f l) { mark = m }) j refl i;
  tag = λ j. same-field (λ r. r.tag.0) f l (record (f l) { mark = m }) j refl i;
  asked = λ j. same-field (λ r. r.asked) f l (record (f l) { mark = m }) j refl i;
  mark = λ j. new-field (λ r. r.mark.0) f l (record (f l) { mark = m }) j m.0 refl i;
}

-- a set of cores that differs at one core from the line's
new-sharer : (f : ℕ → Record) (l c : ℕ) (on : Bool) (r : Record) (j d : ℕ)
    → ((k : ℕ) → has r.sharers.0 k ≡ (if k == c then on else has (f l).sharers.0 k))
    → has (put f l r j).sharers.0 d ≡ put_at (λ m k. has (f m).sharers.0 k) l c on j d
new-sharer f l c on r j d h = by (j == l) refl (d == c) (h d)
  where
    by : (p : Bool) → (j == l) ≡ p → (q : Bool) → has r.sharers.0 d ≡ (if q then on else has (f l).sharers.0 d)
        → has (if p then r else f j).sharers.0 d ≡ (if p && q then on else has (f j).sharers.0 d)
    by true t true e = e
    by true t false e = e ∙ ap (λ k. has (f k).sharers.0 d) (sym (eqb-true j l t))
    by false t q e = refl

abbrev owned_record : (ℕ → Record) → ℕ → CoreId → Tid → CoreSet → Record
owned_record f l c t s = record { sharers = s; owner = Some c; tag = t; asked = false; mark = (f l).mark }

pub lines_of-with_sharer : (f : ℕ → Record) (l c : ℕ) (on : Bool) (s : CoreSet)
    → ((k : ℕ) → has s.0 k ≡ (if k == c then on else has (f l).sharers.0 k))
    → lines_of (put f l (record (f l) { sharers = s })) ≡ with_sharer l c on (lines_of f)
unfolding lines_of with_sharer
lines_of-with_sharer f l c on s h = λ i. record {
  sharers = λ j d. new-sharer f l c on (record (f l) { sharers = s }) j d h i;
  owner = λ j. same-field (λ r. option_map (λ c. c.0) r.owner) f l (record (f l) { sharers = s }) j refl i;
  tag = λ j. same-field (λ r. r.tag.0) f l (record (f l) { sharers = s }) j refl i;
  asked = λ j. same-field (λ r. r.asked) f l (record (f l) { sharers = s }) j refl i;
  mark = λ j. same-field (λ r. r.mark.0) f l (record (f l) { sharers = s }) j refl i;
}

-- a commit of the line
pub lines_of-owned : (f : ℕ → Record) (l : ℕ) (c : CoreId) (t : Tid) (s : CoreSet)
    → ((k : ℕ) → has s.0 k ≡ (if k == c.0 then true else has (f l).sharers.0 k))
    → lines_of (put f l (record { sharers = s; owner = Some c; tag = t; asked = false; mark = (f l).mark })) ≡ owned_line l c.0 t.0
    (lines_of f)
unfolding lines_of with_sharer with_owner with_tag with_asked
lines_of-owned f l c t s h = λ i. record {
  sharers = λ j d. new-sharer f l c.0 true (owned_record f l c t s) j d h i;
  owner = λ j. new-field (λ r. option_map (λ c. c.0) r.owner) f l (owned_record f l c t s) j (Some c.0) refl i;
  tag = λ j. new-field (λ r. r.tag.0) f l (owned_record f l c t s) j t.0 refl i;
  asked = λ j. new-field (λ r. r.asked) f l (owned_record f l c t s) j false refl i;
  mark = λ j. same-field (λ r. r.mark.0) f l (owned_record f l c t s) j refl i;
}

-- blank records know nothing of any line
pub lines_of-blank : lines_of (λ _. blank) ≡ no_lines
unfolding lines_of no_lines
lines_of-blank = λ i. record { sharers = λ l c. has-zero c i; owner = λ l. None; tag = λ l. 0; asked = λ l. false; mark = λ l. 0 }
