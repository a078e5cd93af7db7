-- Exec keeps what a core's marks say of its attempt.
use Rattle.std.proofs.Common.{◌≡◌, ℕ, Bool, true, false, not, cond, ◌||◌, ◌⊎◌, inl, inr, ⊎_elim, [], ◌∷◌, ◌++◌, Option, Some, None, is_some}
use Rattle.std.proofs.Common.{append-nil, refl, ap, sym, ◌∙◌, subst, arith}
use Rattle.std.specs.Prelude.{IfSome, ◌==◌}
use Rattle.std.proofs.lemmas.Bool.{cases_eq}
use Rattle.std.proofs.lemmas.Bool.Decides.{nat_tests}
use Rattle.tcc_base.specs.declared.access.Size.{Size}
use Rattle.tcc_base.specs.declared.access.Size.TheVariants.{Byte, Half, Word}
use Rattle.rules_program.specs.Plain.{Outcome, Goes, Ended, Halted as HaltedWith, Trapped as TrappedWith}
use Rattle.rules_program.specs.Program.{Need, Nothing, Loads, Stores, Changes, Prints, Ends, Halts, Traps, Program}
use Rattle.rules_program.specs.Ram.{word_of}
use Rattle.rules_maps.specs.Words.{line_of}
use Rattle.rules_maps.specs.Shape.{Shape, set_of}
use Rattle.rules_maps.specs.Cache.{Cache, IsCache, free_way, all_marked}
use Rattle.rules_maps.specs.CacheChange.{marked, stored, placed}
use Rattle.rules_maps.specs.Spilled.{holds, none_spilled}
use Rattle.rules_maps.proofs.Lemmas.{read-marked, read-stored, read-committed, value-placed, read-placed, modified-placed}
use Rattle.rules_tcc.specs.State.{CoreState, Awaited, Phase, Running, AwaitTid, DoomedTid, Probing, Ready, Overflowing, Solo, Halted}
use Rattle.rules_tcc.specs.Sends.{nothing, flush_line}
use Rattle.rules_tcc.specs.Attempt.{Out, moves, is_solo, is_running, finished, new_word, one_more_instruction}
use Rattle.rules_tcc.specs.Commit.{phase_after_commit, ended_after_commit, committed_core, commit, solo_commit}
use Rattle.rules_tcc.specs.Execute.{request_line, place, overflow, full_set, miss, with_read_mark, load_valid, load_spilled, load}
use Rattle.rules_tcc.specs.Execute.{stored_in_buffer, stored_in_frame, word_store, marks_read, change_valid, change_spilled, partial_store}
use Rattle.rules_tcc.specs.Execute.{end_transaction, store_by_size, execute_need, execute}
use Rattle.rules_tcc.specs.CoreExec.{unless_awaiting, exec_in_phase, core_exec}
use Rattle.theorem_attempt.specs.Sound.{SoundCore}
use Rattle.theorem_attempt.specs.Follows.{Uses, used_in, used_at, used_by}
use Rattle.theorem_attempt.specs.Marks.{StillHas, UseStands, AllStand, UsesStand, is_used, OnlyUsed, awaits_in, owed_in, MarksFit}
use Rattle.theorem_attempt.proofs.Sound.{holds-found}
use Rattle.theorem_attempt.specs.Views.{uses_after}
use Rattle.theorem_attempt.proofs.FollowsExec.{nothing-used}

-- a change of a cache that unmarks no read word, and leaves the value of each word that isn't modified after it
pub record Keeps (c d : Cache) : Type 0 where
  pub reads : (v : ℕ) → c.read v ≡ true → d.read v ≡ true
  pub stays : (v : ℕ) → d.modified v ≡ false → c.modified v ≡ false
  pub value : (v : ℕ) → d.modified v ≡ false → d.value v ≡ c.value v

pub all-keep : (g : Bool) (c d : Cache) (us : Uses) → Keeps c d → AllStand g c us → AllStand g d us
all-keep g c d [] k h = tt
all-keep g c d (u ∷ us) k h = (
  record {
    marked = k.reads u.0 h.0.marked;
    value = λ m. subst (λ (o : Option ℕ). StillHas g o u.1) (sym (k.value u.0 m))
        (h.0.value (k.stays u.0 m));
  },
  all-keep g c d us k h.1,
)

pub all-append : (g : Bool) (c : Cache) (us vs : Uses) → AllStand g c us → AllStand g c vs → AllStand g c (us ++ vs)
all-append g c [] vs h k = k
all-append g c (u ∷ us) vs h k = (h.0, all-append g c us vs h.1 k)

pub keeps-itself : (c : Cache) → Keeps c c
keeps-itself c = record { reads = λ v h. h; stays = λ v h. h; value = λ v h. refl }

keeps-marked : (w : ℕ) (c : Cache) → Keeps c (marked w c)
unfolding marked
keeps-marked w c = record { reads = λ v h. grind (arith, nat_tests); stays = λ v h. h; value = λ v h. refl }

keeps-stored : (w x : ℕ) (also : Bool) (c : Cache) → Keeps c (stored w x also c)
unfolding stored
keeps-stored w x also c =
    record { reads = λ v h. grind (arith, nat_tests); stays = λ v h. grind (arith, nat_tests); value = λ v h. grind (arith, nat_tests) }

keeps-placed : (sh : Shape) (l : ℕ) (c : Cache) → Keeps c (placed sh l c)
keeps-placed sh l c = record {
  reads = λ v h. read-placed sh l c v ∙ h;
  stays = λ v h. sym (modified-placed sh l c v) ∙ h;
  value = λ v h. value-placed sh l c v;
}

keeps-then : (b c d : Cache) → Keeps b c → Keeps c d → Keeps b d
keeps-then b c d h k =
    record {
      reads = λ v r. k.reads v (h.reads v r);
      stays = λ v m. h.stays v (k.stays v m);
      value = λ v m. k.value v m ∙ h.value v (k.stays v m);
    }

-- a new use stands: it was marked, and stored since or as it was found
pub stands-new : (d : Cache) (w : ℕ) (sp : Option ℕ) (m : Bool) (o : Option ℕ) → (m ≡ false → (x : ℕ) → o ≡ Some x → UseStands false d w x)
    → AllStand false d (used_in w sp m o)
stands-new d w (Some z) m o f = tt
stands-new d w None true o f = tt
stands-new d w None false None f = tt
stands-new d w None false (Some x) f = (f refl x refl, tt)

-- a word that is marked read afterwards was marked before, or is one of these uses
abbrev pub Adds : Cache → Cache → Uses → Type 0
Adds c d new = (v : ℕ) → d.read v ≡ true → (c.read v ≡ true) ⊎ (is_used new v ≡ true)

adds-none : (c : Cache) (new : Uses) → Adds c c new
adds-none c new v h = inl h

used-before : (us vs : Uses) (v : ℕ) → is_used us v ≡ true → is_used (us ++ vs) v ≡ true
unfolding is_used
used-before [] vs v h = absurd (cc)
used-before (u ∷ us) vs v h = at (u.0 == v) h (used-before us vs v)
  where
    at : (b : Bool) → (b || is_used us v) ≡ true → (is_used us v ≡ true → is_used (us ++ vs) v ≡ true) → (b || is_used (us ++ vs) v) ≡ true
    at true q f = refl
    at false q f = f q

used-behind : (us vs : Uses) (v : ℕ) → is_used vs v ≡ true → is_used (us ++ vs) v ≡ true
unfolding is_used
used-behind [] vs v h = h
used-behind (u ∷ us) vs v h = at (u.0 == v) (used-behind us vs v h)
  where
    at : (b : Bool) → is_used (us ++ vs) v ≡ true → (b || is_used (us ++ vs) v) ≡ true
    at true q = refl
    at false q = q

used-added : (c d : Cache) (us new : Uses) → Adds c d new → OnlyUsed c us → OnlyUsed d (us ++ new)
used-added c d us new a h v r = ⊎_elim (λ o. used-before us new v (h v o)) (used-behind us new v) (a v r)

pub none-used : (c : Cache) → ((v : ℕ) → c.read v ≡ false) → OnlyUsed c []
none-used c u v r = absurd (let i = u v in cc)

-- what an instruction's end leaves alone
pub record SameBut (s t : CoreState) : Type 0 where
  pub phase : t.phase ≡ s.phase
  pub cache : t.cache ≡ s.cache
  pub owing : t.owing ≡ s.owing
  pub awaited : t.awaited ≡ s.awaited

pub finished-same : (p : Program) (need : Need) (x : ℕ) (s : CoreState) → SameBut s (finished p need x s)
unfolding finished one_more_instruction
finished-same p Nothing x s = record { phase = refl; cache = refl; owing = refl; awaited = refl }
finished-same p (Loads addr size) x s = record { phase = refl; cache = refl; owing = refl; awaited = refl }
finished-same p (Stores addr size value) x s = record { phase = refl; cache = refl; owing = refl; awaited = refl }
finished-same p (Changes addr changed) x s = record { phase = refl; cache = refl; owing = refl; awaited = refl }
finished-same p (Prints byte) x s = record { phase = refl; cache = refl; owing = refl; awaited = refl }
finished-same p Ends x s = record { phase = refl; cache = refl; owing = refl; awaited = refl }
finished-same p (Halts code) x s = record { phase = refl; cache = refl; owing = refl; awaited = refl }
finished-same p (Traps code) x s = record { phase = refl; cache = refl; owing = refl; awaited = refl }

-- a core that executes: in Running or Solo, with no line awaited
pub record Runs (sh : Shape) (s : CoreState) (us : Uses) (q : Phase) : Type 0 where
  pub is : s.phase ≡ q
  pub executes : (is_running q || is_solo q) ≡ true
  pub fit : MarksFit sh s us
  pub sound : SoundCore sh s
  pub none : s.awaited ≡ None

-- no directory owes a reply in these phases
owes-none : (sh : Shape) (s : CoreState) (us : Uses) → owed_in s.phase ≡ false → MarksFit sh s us → (d : ℕ) → s.owing d ≡ true → ⊥
owes-none sh s us h m d o = let i = m.owes d o in let j = i.0 in cc

-- the phase stays, and the cache keeps its read marks and the values of words that aren't modified
stays-fit : (sh : Shape) (s t : CoreState) (us new : Uses) (q : Phase) → Runs sh s us q → t.phase ≡ s.phase → t.owing ≡ s.owing
    → Keeps s.cache t.cache →
    (is_running q ≡ true → AllStand false t.cache new) → (is_running q ≡ false → (v : ℕ) → s.cache.read v ≡ false → t.cache.read v ≡ false)
    → Adds s.cache t.cache new → MarksFit sh t (us ++ new)
stays-fit sh s t us new Running r p o k f g a =
    let i : t.phase ≡ Running = p ∙ r.is in
    record {
      stand = subst (λ (x : Phase). UsesStand t.cache (us ++ new) x) (sym i)
          (all-append false t.cache us new
          (all-keep false s.cache t.cache us k (subst (λ (x : Phase). UsesStand s.cache us x) r.is r.fit.stand)) (f refl));
      used = used-added s.cache t.cache us new a r.fit.used;
      awaits = λ h. absurd (let j = ap awaits_in i in cc);
      owes = λ d h. absurd (owes-none sh s us (ap owed_in r.is) r.fit d (ap (λ (w : ℕ → Bool). w d) (sym o) ∙ h));
    }
stays-fit sh s t us new (Solo tid) r p o k f g a =
    let i : t.phase ≡ Solo tid = p ∙ r.is in
    record {
      stand = subst (λ (x : Phase). UsesStand t.cache (us ++ new) x) (sym i)
          (λ v. g refl v ((subst (λ (x : Phase). UsesStand s.cache us x) r.is r.fit.stand) v));
      used = used-added s.cache t.cache us new a r.fit.used;
      awaits = λ h. absurd (let j = ap awaits_in i in cc);
      owes = λ d h. absurd (owes-none sh s us (ap owed_in r.is) r.fit d (ap (λ (w : ℕ → Bool). w d) (sym o) ∙ h));
    }
stays-fit sh s t us new AwaitTid r p o k f g a = absurd (let j = r.executes in cc)
stays-fit sh s t us new DoomedTid r p o k f g a = absurd (let j = r.executes in cc)
stays-fit sh s t us new (Probing u) r p o k f g a = absurd (let j = r.executes in cc)
stays-fit sh s t us new (Ready u) r p o k f g a = absurd (let j = r.executes in cc)
stays-fit sh s t us new (Overflowing u) r p o k f g a = absurd (let j = r.executes in cc)
stays-fit sh s t us new Halted r p o k f g a = absurd (let j = r.executes in cc)

abbrev pub OutFits : Shape → Uses → Option Out → Type 0
OutFits sh us o = IfSome o (λ t. MarksFit sh t.core (uses_after t us))

-- an instruction that is finished in a state with another cache
done-fit : (sh : Shape) (p : Program) (need : Need) (x : ℕ) (s t : CoreState) (us new : Uses) (q : Phase) → Runs sh s us q
    → t.phase ≡ s.phase → t.owing ≡ s.owing → Keeps s.cache t.cache →
    (is_running q ≡ true → AllStand false t.cache new) → (is_running q ≡ false → (v : ℕ) → s.cache.read v ≡ false → t.cache.read v ≡ false)
    → Adds s.cache t.cache new → MarksFit sh (finished p need x t) (us ++ new)
done-fit sh p need x s t us new q r e o k f g a =
    let b = finished-same p need x t in
    stays-fit sh s (finished p need x t) us new q r (b.phase ∙ e) (b.owing ∙ o) (subst (Keeps s.cache) (sym b.cache) k)
    (λ h. subst (λ (c : Cache). AllStand false c new) (sym b.cache) (f h)) (λ h v i. ap (λ (c : Cache). c.read v) b.cache ∙ g h v i)
    (subst (λ (c : Cache). Adds s.cache c new) (sym b.cache) a)

none-stand : (c : Cache) (vs : Uses) → vs ≡ [] → AllStand false c vs
none-stand c vs e = subst (AllStand false c) (sym e) tt

spilled-unused : (s : CoreState) (w x : ℕ) → s.spilled w ≡ Some x → used_at s w ≡ []
spilled-unused s w x e = rw e

overflow-fit : (sh : Shape) (s : CoreState) (us : Uses) (q : Phase) → is_solo s.phase ≡ false → Runs sh s us q
    → MarksFit sh (overflow s).core us
unfolding overflow
overflow-fit sh s us Running h r = record {
  stand = subst (λ (x : Phase). UsesStand s.cache us x) r.is r.fit.stand;
  used = r.fit.used;
  awaits = λ i. r.none;
  owes = λ d i. absurd (owes-none sh s us (ap owed_in r.is) r.fit d i);
}
overflow-fit sh s us (Solo t) h r = absurd (let i = ap is_solo r.is in cc)
overflow-fit sh s us AwaitTid h r = absurd (let j = r.executes in cc)
overflow-fit sh s us DoomedTid h r = absurd (let j = r.executes in cc)
overflow-fit sh s us (Probing u) h r = absurd (let j = r.executes in cc)
overflow-fit sh s us (Ready u) h r = absurd (let j = r.executes in cc)
overflow-fit sh s us (Overflowing u) h r = absurd (let j = r.executes in cc)
overflow-fit sh s us Halted h r = absurd (let j = r.executes in cc)

full_set-fit : (sh : Shape) (l : ℕ) (s : CoreState) (us : Uses) (q : Phase) → Runs sh s us q → OutFits sh us (full_set sh l s)
unfolding full_set overflow
full_set-fit sh l s us q r = at (is_solo s.phase) refl (not (all_marked sh s.cache (set_of sh l)))
  where
    at : (b : Bool) → is_solo s.phase ≡ b → (c : Bool) → OutFits sh us (cond (b || c) None (Some (overflow s)))
    at true e c = tt
    at false e true = tt
    at false e false = overflow-fit sh s us q e r

request_line-fit : (sh : Shape) (l : ℕ) (s : CoreState) (us : Uses) (q : Phase) → Runs sh s us q →
    MarksFit sh (request_line sh l s).core (us ++ [])
unfolding request_line
request_line-fit sh l s us q r = stays-fit sh s (record s { awaited = Some (record { line = l; stale = false }) }) us [] q r refl refl
    (keeps-itself s.cache) (λ h. tt) (λ h v i. i) (adds-none s.cache [])

place_ask-fit : (sh : Shape) (l : ℕ) (s : CoreState) (us : Uses) (q : Phase) → Runs sh s us q
    → MarksFit sh (request_line sh l (place sh l s)).core (us ++ [])
unfolding request_line place
place_ask-fit sh l s us q r = stays-fit sh s (record s { cache = placed sh l s.cache; awaited = Some (record { line = l; stale = false }) })
    us [] q r refl refl (keeps-placed sh l s.cache) (λ h. tt) (λ h v i. read-placed sh l s.cache v ∙ i)
    (λ v i. inl (sym (read-placed sh l s.cache v) ∙ i))

unused-fit : (sh : Shape) (us vs : Uses) (o : Option Out) → vs ≡ [] → OutFits sh us o → OutFits sh (us ++ vs) o
unused-fit sh us vs o e h = subst (λ (l : Uses). OutFits sh l o) (sym (ap (λ (l : Uses). us ++ l) e ∙ append-nil us)) h

miss-fit : (sh : Shape) (l : ℕ) (s : CoreState) (us : Uses) (q : Phase) → Runs sh s us q → OutFits sh (us ++ []) (miss sh l s)
unfolding miss request_line
miss-fit sh l s us q r = at (s.cache.held l) (free_way sh s.cache (set_of sh l))
  where
    at : (b : Bool) (o : Option ℕ)
        → OutFits sh (us ++ []) (cond b (Some (request_line sh l s))
        (cond (is_some o) (Some (request_line sh l (place sh l s))) (full_set sh l s)))
    at true o = request_line-fit sh l s us q r
    at false (Some y) = place_ask-fit sh l s us q r
    at false None = unused-fit sh us [] (full_set sh l s) refl (full_set-fit sh l s us q r)

missed-fit : (sh : Shape) (l : ℕ) (s : CoreState) (us vs : Uses) (q : Phase) → vs ≡ [] → Runs sh s us q
    → OutFits sh (us ++ vs) (miss sh l s)
missed-fit sh l s us vs q e r = subst (λ (x : Uses). OutFits sh (us ++ x) (miss sh l s)) (sym e) (miss-fit sh l s us q r)

-- only a word that is used becomes marked
used-new : (w x : ℕ) (s : CoreState) → s.spilled w ≡ None → s.cache.modified w ≡ false → s.cache.value w ≡ Some x
    → is_used (used_at s w) w ≡ true
unfolding is_used
used-new w x s n m e = rw (n, m, e) (grind (arith, nat_tests))

adds-marked : (w x : ℕ) (s : CoreState) → s.spilled w ≡ None → s.cache.value w ≡ Some x → Adds s.cache (marked w s.cache) (used_at s w)
adds-marked w x s n e v h = at (cases_eq w v) (s.cache.modified w) refl
  where
    at : (w ≡ v) ⊎ (w ≡ v → ⊥) → (m : Bool) → s.cache.modified w ≡ m → (s.cache.read v ≡ true) ⊎ (is_used (used_at s w) v ≡ true)
    at (inl i) false q = inr (subst (λ y. is_used (used_at s w) y ≡ true) i (used-new w x s n q e))
    at (inl i) true q = inl (let j = read-marked w s.cache v in grind (arith, nat_tests))
    at (inr i) m q = inl (let j = read-marked w s.cache v in grind (arith, nat_tests))

adds-stored : (w y x : ℕ) (s : CoreState) → s.spilled w ≡ None → s.cache.value w ≡ Some x
    → Adds s.cache (stored w y (marks_read w s) s.cache) (used_at s w)
adds-stored w y x s n e v h = at (cases_eq w v) (s.cache.modified w) refl
  where
    at : (w ≡ v) ⊎ (w ≡ v → ⊥) → (m : Bool) → s.cache.modified w ≡ m → (s.cache.read v ≡ true) ⊎ (is_used (used_at s w) v ≡ true)
    at (inl i) false q = inr (subst (λ z. is_used (used_at s w) z ≡ true) i (used-new w x s n q e))
    at (inl i) true q = inl (let j = read-stored w y (marks_read w s) s.cache v in grind (arith, nat_tests))
    at (inr i) m q = inl (let j = read-stored w y (marks_read w s) s.cache v in grind (arith, nat_tests))

-- a word that is used in Running is marked
used-marked : (w x : ℕ) (c : Cache) → c.modified w ≡ false → c.value w ≡ Some x → UseStands false (marked w c) w x
unfolding marked
used-marked w x c m e = record { marked = grind (arith, nat_tests); value = λ h. e }

running-is : (s : CoreState) (q : Phase) (b : Bool) → s.phase ≡ q → is_running s.phase ≡ b → is_running q ≡ b
running-is s q b e h = ap is_running (sym e) ∙ h

load-fit : (sh : Shape) (p : Program) (need : Need) (w : ℕ) (s : CoreState) (us : Uses) (q : Phase) → Runs sh s us q
    → OutFits sh (us ++ used_at s w) (load sh p need w s)
unfolding load with_read_mark
load-fit sh p need w s us q r = spilled_in (s.spilled w) refl
  where
    valid_as : (x : ℕ) → s.spilled w ≡ None → s.cache.value w ≡ Some x → (b : Bool) → is_running s.phase ≡ b
        → MarksFit sh (finished p need x (cond b (record s { cache = marked w s.cache }) s)) (us ++ used_at s w)
    valid_as x n v true e = done-fit sh p need x s (record s { cache = marked w s.cache }) us (used_at s w) q r refl refl
        (keeps-marked w s.cache)
        (λ h. stands-new (marked w s.cache) w (s.spilled w) (s.cache.modified w) (s.cache.value w) (λ m y f. used-marked w y s.cache m f))
        (λ h. absurd (let i = running-is s q true r.is e in cc))
        (adds-marked w x s n v)
    valid_as x n v false e = done-fit sh p need x s s us (used_at s w) q r refl refl (keeps-itself s.cache)
        (λ h. absurd (let i = running-is s q false r.is e in cc)) (λ h u i. i) (adds-none s.cache (used_at s w))

    valid_in : (o : Option ℕ) → s.spilled w ≡ None → s.cache.value w ≡ o → OutFits sh (us ++ used_at s w) (load_valid sh p need w s o)
    valid_in (Some x) n v = valid_as x n v (is_running s.phase) refl
    valid_in None n v = missed-fit sh (line_of w) s us (used_at s w) q (nothing-used s w n v) r

    spilled_in : (o : Option ℕ) → s.spilled w ≡ o → OutFits sh (us ++ used_at s w) (load_spilled sh p need w s o)
    spilled_in (Some x) e = done-fit sh p need x s s us (used_at s w) q r refl refl (keeps-itself s.cache)
        (λ h. none-stand s.cache (used_at s w) (spilled-unused s w x e)) (λ h v i. i) (adds-none s.cache (used_at s w))
    spilled_in None e = valid_in (s.cache.value w) e refl

stored-same : (w x : ℕ) (c : Cache) (v : ℕ) → (stored w x false c).read v ≡ c.read v
stored-same w x c v = read-stored w x false c v ∙ grind (arith, nat_tests)

stored-unread : (w x : ℕ) (c : Cache) (v : ℕ) → c.read v ≡ false → (stored w x false c).read v ≡ false
stored-unread w x c v h = stored-same w x c v ∙ h

word_store-fit : (sh : Shape) (p : Program) (need : Need) (w x : ℕ) (s : CoreState) (us : Uses) (q : Phase) → Runs sh s us q
    → OutFits sh (us ++ []) (word_store sh p need w x s)
unfolding word_store stored_in_buffer stored_in_frame place
word_store-fit sh p need w x s us q r = at (holds s.spilled (line_of w)) (s.cache.held (line_of w))
    (free_way sh s.cache (set_of sh (line_of w)))
  where
    at : (a b : Bool) (o : Option ℕ) →
        OutFits sh (us ++ []) (cond a (Some (moves (finished p need x (stored_in_buffer w x s)) nothing))
        (cond b (Some (moves (finished p need x (stored_in_frame w x false s)) (flush_line sh s.cache (line_of w))))
        (cond (is_some o) (Some (moves (finished p need x (stored_in_frame w x false (place sh (line_of w) s))) nothing))
        (full_set sh (line_of w) s))))
    at true b o = done-fit sh p need x s (stored_in_buffer w x s) us [] q r refl refl (keeps-itself s.cache) (λ h. tt)
        (λ h v i. i) (adds-none s.cache [])
    at false true o = done-fit sh p need x s (stored_in_frame w x false s) us [] q r refl refl (keeps-stored w x false s.cache) (λ h. tt)
        (λ h v i. stored-unread w x s.cache v i) (λ v i. inl (sym (stored-same w x s.cache v) ∙ i))
    at false false (Some y) = done-fit sh p need x s (stored_in_frame w x false (place sh (line_of w) s)) us [] q r refl refl
        (keeps-then s.cache (placed sh (line_of w) s.cache) (stored w x false (placed sh (line_of w) s.cache))
        (keeps-placed sh (line_of w) s.cache) (keeps-stored w x false (placed sh (line_of w) s.cache)))
        (λ h. tt) (λ h v i. stored-unread w x (placed sh (line_of w) s.cache) v (read-placed sh (line_of w) s.cache v ∙ i))
        (λ v i. inl (sym (stored-same w x (placed sh (line_of w) s.cache) v ∙ read-placed sh (line_of w) s.cache v) ∙ i))
    at false false None = unused-fit sh us [] (full_set sh (line_of w) s) refl (full_set-fit sh (line_of w) s us q r)

-- a partial store marks the word that it found, unless it was modified
changed-stands : (w y x : ℕ) (c : Cache) (also : Bool) → also ≡ true → UseStands false (stored w y also c) w x
unfolding stored
changed-stands w y x c also e = record { marked = grind (arith, nat_tests); value = λ h. absurd (grind (arith, nat_tests)) }

also-unread : (w y : ℕ) (c : Cache) (also : Bool) (v : ℕ) → also ≡ false → c.read v ≡ false → (stored w y also c).read v ≡ false
also-unread w y c also v e h = read-stored w y also c v ∙ grind (arith, nat_tests)

partial_store-fit : (sh : Shape) (p : Program) (need : Need) (w : ℕ) (s : CoreState) (us : Uses) (q : Phase) → Runs sh s us q
    → OutFits sh (us ++ used_at s w) (partial_store sh p need w s)
unfolding partial_store stored_in_buffer stored_in_frame
partial_store-fit sh p need w s us q r = spilled_in (s.spilled w) refl
  where
    solo_holds : holds s.spilled (line_of w) ≡ true → is_running q ≡ true → ⊥
    solo_holds h i =
        let f = holds-found s.spilled (line_of w) h in
        let n : is_solo s.phase ≡ false = ap is_solo r.is ∙ running_alone q i in
        let a : is_some (s.spilled f.0) ≡ false = ap is_some (r.sound.alone n f.0) in
        let t = f.2 in cc
      where
        running_alone : (x : Phase) → is_running x ≡ true → is_solo x ≡ false
        running_alone Running e = refl
        running_alone (Solo t) e = absurd (cc)
        running_alone AwaitTid e = absurd (cc)
        running_alone DoomedTid e = absurd (cc)
        running_alone (Probing t) e = absurd (cc)
        running_alone (Ready t) e = absurd (cc)
        running_alone (Overflowing t) e = absurd (cc)
        running_alone Halted e = absurd (cc)

    held_in : (x : ℕ) → s.spilled w ≡ None → s.cache.value w ≡ Some x → (b : Bool) → holds s.spilled (line_of w) ≡ b →
        OutFits sh (us ++ used_at s w)
        (cond b (Some (moves (finished p need x (stored_in_buffer w (new_word need x) s)) nothing))
        (Some (moves (finished p need x (stored_in_frame w (new_word need x) (marks_read w s) s))
        (flush_line sh s.cache (line_of w)))))
    held_in x n v true h = done-fit sh p need x s (stored_in_buffer w (new_word need x) s) us (used_at s w) q r refl refl
        (keeps-itself s.cache) (λ i. absurd (solo_holds h i)) (λ i u j. j) (adds-none s.cache (used_at s w))
    held_in x n v false h = done-fit sh p need x s (stored_in_frame w (new_word need x) (marks_read w s) s) us (used_at s w) q r refl refl
        (keeps-stored w (new_word need x) (marks_read w s) s.cache)
        (λ i. stands-new (stored w (new_word need x) (marks_read w s) s.cache) w (s.spilled w) (s.cache.modified w) (s.cache.value w)
        (λ m y f. changed-stands w (new_word need x) y s.cache (marks_read w s)
        (let j : is_running s.phase ≡ true = ap is_running r.is ∙ i in grind (arith, nat_tests))))
        (λ i u j. also-unread w (new_word need x) s.cache (marks_read w s) u (let k : is_running s.phase ≡ false = ap is_running r.is ∙ i in
        grind (arith, nat_tests)) j)
        (adds-stored w (new_word need x) x s n v)

    valid_in : (o : Option ℕ) → s.spilled w ≡ None → s.cache.value w ≡ o → OutFits sh (us ++ used_at s w) (change_valid sh p need w s o)
    valid_in None n v = missed-fit sh (line_of w) s us (used_at s w) q (nothing-used s w n v) r
    valid_in (Some x) n v = held_in x n v (holds s.spilled (line_of w)) refl

    spilled_in : (o : Option ℕ) → s.spilled w ≡ o → OutFits sh (us ++ used_at s w) (change_spilled sh p need w s o)
    spilled_in (Some x) e = done-fit sh p need x s (stored_in_buffer w (new_word need x) s) us (used_at s w) q r refl refl
        (keeps-itself s.cache) (λ h. none-stand s.cache (used_at s w) (spilled-unused s w x e))
        (λ h v i. i) (adds-none s.cache (used_at s w))
    spilled_in None e = valid_in (s.cache.value w) e refl

-- the transaction has ended: the core asks for a TID with the same uses, or has committed and has none
awaits-fit : (sh : Shape) (t : CoreState) (us : Uses) → AllStand false t.cache us → OnlyUsed t.cache us → t.awaited ≡ None
    → ((d : ℕ) → t.owing d ≡ true → ⊥) → MarksFit sh (record t { phase = AwaitTid }) us
awaits-fit sh t us h k n o = record { stand = h; used = k; awaits = λ i. n; owes = λ d i. absurd (o d i) }

committed-fit : (sh : Shape) (t : CoreState) (o : Outcome) → ((v : ℕ) → t.cache.read v ≡ false) → t.awaited ≡ None
    → ((d : ℕ) → t.owing d ≡ true → ⊥) → MarksFit sh (record t { ended = ended_after_commit o; phase = phase_after_commit o }) []
committed-fit sh t Goes u n f = record { stand = tt; used = none-used t.cache u; awaits = λ i. n; owes = λ d i. absurd (f d i) }
committed-fit sh t Ended u n f = record { stand = tt; used = none-used t.cache u; awaits = λ i. n; owes = λ d i. absurd (f d i) }
committed-fit sh t (HaltedWith code) u n f =
    record { stand = tt; used = none-used t.cache u; awaits = λ i. n; owes = λ d i. absurd (f d i) }
committed-fit sh t (TrappedWith code) u n f =
    record { stand = tt; used = none-used t.cache u; awaits = λ i. n; owes = λ d i. absurd (f d i) }

solo_commit-fit : (sh : Shape) (id t : ℕ) (s : CoreState) → s.awaited ≡ None → ((d : ℕ) → s.owing d ≡ true → ⊥)
    → MarksFit sh (solo_commit sh id t s).core []
unfolding solo_commit committed_core
solo_commit-fit sh id t s n o = committed-fit sh (record (record (committed_core t s) {
  cache = Rattle.rules_maps.specs.CacheChange.committed t (Rattle.rules_maps.specs.CacheChange.words_dropped s.spilled s.cache);
  spilled = none_spilled;
  last_commit =
      Rattle.rules_tcc.specs.Commit.with_last_commit (Rattle.rules_tcc.specs.Commit.solo_writes_at sh s.cache s.spilled) t s.last_commit;
}) { ended = s.ended; phase = s.phase }) s.ended
    (read-committed t (Rattle.rules_maps.specs.CacheChange.words_dropped s.spilled s.cache)) n o

commit-fit : (sh : Shape) (id t : ℕ) (s : CoreState) → s.awaited ≡ None → ((d : ℕ) → s.owing d ≡ true → ⊥)
    → MarksFit sh (commit sh id t s).core []
unfolding commit committed_core
commit-fit sh id t s n o = committed-fit sh (record (record (committed_core t s) {
  last_commit = Rattle.rules_tcc.specs.Commit.with_last_commit (Rattle.rules_maps.specs.Cache.writes_at sh s.cache) t s.last_commit;
}) { ended = s.ended; phase = s.phase }) s.ended (read-committed t s.cache) n o

-- an ending instruction
end_transaction-fit : (sh : Shape) (id : ℕ) (p : Program) (need : Need) (s : CoreState) (us : Uses) (q : Phase) → Runs sh s us q
    → OutFits sh (us ++ []) (Some (end_transaction sh id q (finished p need 0 s)))
unfolding solo_commit
end_transaction-fit sh id p need s us Running r =
    let b = finished-same p need 0 s in
    awaits-fit sh (finished p need 0 s) (us ++ [])
    (subst (λ (c : Cache). AllStand false c (us ++ [])) (sym b.cache)
    (all-append false s.cache us [] (subst (λ (x : Phase). UsesStand s.cache us x) r.is r.fit.stand) tt))
    (subst (λ (c : Cache). OnlyUsed c (us ++ [])) (sym b.cache) (used-added s.cache s.cache us [] (adds-none s.cache []) r.fit.used))
    (b.awaited ∙ r.none)
    (λ d i. owes-none sh s us (ap owed_in r.is) r.fit d (ap (λ (w : ℕ → Bool). w d) (sym b.owing) ∙ i))
end_transaction-fit sh id p need s us (Solo t) r =
    let b = finished-same p need 0 s in
    solo_commit-fit sh id t (finished p need 0 s) (b.awaited ∙ r.none)
    (λ d i. owes-none sh s us (ap owed_in r.is) r.fit d (ap (λ (w : ℕ → Bool). w d) (sym b.owing) ∙ i))
end_transaction-fit sh id p need s us AwaitTid r = absurd (let j = r.executes in cc)
end_transaction-fit sh id p need s us DoomedTid r = absurd (let j = r.executes in cc)
end_transaction-fit sh id p need s us (Probing u) r = absurd (let j = r.executes in cc)
end_transaction-fit sh id p need s us (Ready u) r = absurd (let j = r.executes in cc)
end_transaction-fit sh id p need s us (Overflowing u) r = absurd (let j = r.executes in cc)
end_transaction-fit sh id p need s us Halted r = absurd (let j = r.executes in cc)

closed-fit : (sh : Shape) (id : ℕ) (p : Program) (need : Need) (s : CoreState) (us : Uses) (q : Phase) → Runs sh s us q
    → OutFits sh (us ++ []) (Some (end_transaction sh id s.phase (finished p need 0 s)))
closed-fit sh id p need s us q r = subst (λ (x : Phase). OutFits sh (us ++ []) (Some (end_transaction sh id x (finished p need 0 s))))
    (sym r.is) (end_transaction-fit sh id p need s us q r)

store_by_size-fit : (sh : Shape) (p : Program) (addr : ℕ) (size : Size) (value : ℕ) (s : CoreState) (us : Uses) (q : Phase) → Runs sh s us q
    → OutFits sh (us ++ used_by sh.base s (Stores addr size value)) (store_by_size sh p addr size value s)
store_by_size-fit sh p addr Word value s us q r = word_store-fit sh p (Stores addr Word value) (word_of sh.base addr) value s us q r
store_by_size-fit sh p addr Half value s us q r = partial_store-fit sh p (Stores addr Half value) (word_of sh.base addr) s us q r
store_by_size-fit sh p addr Byte value s us q r = partial_store-fit sh p (Stores addr Byte value) (word_of sh.base addr) s us q r

need-fit : (sh : Shape) (p : Program) (id : ℕ) (s : CoreState) (us : Uses) (q : Phase) (need : Need) → Runs sh s us q
    → OutFits sh (us ++ used_by sh.base s need) (execute_need sh p id s need)
need-fit sh p id s us q Nothing r = done-fit sh p Nothing 0 s s us [] q r refl refl (keeps-itself s.cache) (λ h. tt)
    (λ h v i. i) (adds-none s.cache [])
need-fit sh p id s us q (Prints byte) r = done-fit sh p (Prints byte) 0 s s us [] q r refl refl (keeps-itself s.cache) (λ h. tt)
    (λ h v i. i) (adds-none s.cache [])
need-fit sh p id s us q (Loads addr size) r = load-fit sh p (Loads addr size) (word_of sh.base addr) s us q r
need-fit sh p id s us q (Stores addr size value) r = store_by_size-fit sh p addr size value s us q r
need-fit sh p id s us q (Changes addr changed) r = partial_store-fit sh p (Changes addr changed) (word_of sh.base addr) s us q r
need-fit sh p id s us q Ends r = closed-fit sh id p Ends s us q r
need-fit sh p id s us q (Halts code) r = closed-fit sh id p (Halts code) s us q r
need-fit sh p id s us q (Traps code) r = closed-fit sh id p (Traps code) s us q r

execute-fit : (sh : Shape) (p : Program) (id : ℕ) (s : CoreState) (us : Uses) (q : Phase) → Runs sh s us q
    → OutFits sh (us ++ used_by sh.base s (p.need s.local)) (execute sh p id s)
unfolding execute
execute-fit sh p id s us q r = need-fit sh p id s us q (p.need s.local) r

unless-fit : (sh : Shape) (p : Program) (id : ℕ) (s : CoreState) (us : Uses) (q : Phase) (o : Option Awaited) → s.awaited ≡ o → s.phase ≡ q
    → (is_running q || is_solo q) ≡ true → SoundCore sh s → MarksFit sh s us
    → OutFits sh (us ++ used_by sh.base s (p.need s.local)) (unless_awaiting sh p id s o)
unless-fit sh p id s us q (Some a) n e x k m = tt
unless-fit sh p id s us q None n e x k m = execute-fit sh p id s us q (record { is = e; executes = x; fit = m; sound = k; none = n })

phase-fit : (sh : Shape) (p : Program) (id : ℕ) (s : CoreState) (us : Uses) (q : Phase) → s.phase ≡ q → SoundCore sh s → MarksFit sh s us
    → OutFits sh (us ++ used_by sh.base s (p.need s.local)) (exec_in_phase sh p id s q)
unfolding commit
phase-fit sh p id s us Running e k m = unless-fit sh p id s us Running s.awaited refl e refl k m
phase-fit sh p id s us (Solo t) e k m = unless-fit sh p id s us (Solo t) s.awaited refl e refl k m
phase-fit sh p id s us (Ready t) e k m = commit-fit sh id t s (m.awaits (ap awaits_in e)) (owes-none sh s us (ap owed_in e) m)
phase-fit sh p id s us AwaitTid e k m = tt
phase-fit sh p id s us DoomedTid e k m = tt
phase-fit sh p id s us (Probing t) e k m = tt
phase-fit sh p id s us (Overflowing t) e k m = tt
phase-fit sh p id s us Halted e k m = tt

pub core_exec-fit : (sh : Shape) (p : Program) (id : ℕ) (s : CoreState) (us : Uses) → SoundCore sh s → MarksFit sh s us
    → OutFits sh (us ++ used_by sh.base s (p.need s.local)) (core_exec sh p id s)
unfolding core_exec
core_exec-fit sh p id s us k m = phase-fit sh p id s us s.phase refl k m
