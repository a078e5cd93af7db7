-- Exec keeps an attempt what the plain machine does: each rule finishes one instruction, or leaves the attempt as it was.
use Rattle.std.proofs.Common.{◌≡◌, ℕ, Bool, true, false, not, cond, ◌||◌, [], ◌∷◌, ◌++◌, Option, Some, None, is_some, append-nil, refl, ap}
use Rattle.std.proofs.Common.{sym, ◌∙◌, subst, arith}
use Rattle.std.specs.Prelude.{IfSome, unwrap_or, ◌==◌}
use Rattle.std.proofs.lemmas.Bool.Decides.{nat_tests}
use Rattle.tcc_base.specs.Put.{put}
use Rattle.tcc_base.specs.declared.access.Size.{Size}
use Rattle.tcc_base.specs.declared.access.Size.TheVariants.{Byte, Half, Word}
use Rattle.rules_program.specs.Plain.{Outcome, Goes, Ended, Halted as HaltedWith, Trapped as TrappedWith, begun, steps}
use Rattle.rules_program.specs.Program.{Need, Nothing, Loads, Stores, Changes, Prints, Ends, Halts, Traps, Program}
use Rattle.rules_program.specs.Ram.{word_of}
use Rattle.rules_maps.specs.Words.{line_of}
use Rattle.rules_maps.specs.Shape.{Shape, set_of}
use Rattle.rules_maps.specs.Cache.{Cache, free_way, all_marked}
use Rattle.rules_maps.specs.CacheChange.{marked, stored, placed}
use Rattle.rules_maps.specs.Spilled.{holds, none_spilled}
use Rattle.rules_maps.proofs.Lemmas.{value-placed, modified-placed, modified-committed}
use Rattle.rules_tcc.specs.State.{CoreState, Awaited, Phase, Running, AwaitTid, DoomedTid, Probing, Ready, Overflowing, Solo, Halted}
use Rattle.rules_tcc.specs.Sends.{nothing, flush_line}
use Rattle.rules_tcc.specs.Attempt.{Out, moves, is_solo, is_running, finished, new_word}
use Rattle.rules_tcc.specs.Commit.{phase_after_commit, ended_after_commit, committed_core, commit, solo_commit}
use Rattle.rules_tcc.specs.Execute.{request_line, place, overflow, full_set, miss, with_read_mark, load_valid, load_spilled, load}
use Rattle.rules_tcc.specs.Execute.{stored_in_buffer, stored_in_frame, word_store, marks_read, change_valid, change_spilled, partial_store}
use Rattle.rules_tcc.specs.Execute.{end_transaction, execute_need, execute}
use Rattle.rules_tcc.specs.CoreExec.{unless_awaiting, exec_in_phase, core_exec}
use Rattle.theorem_attempt.specs.Sound.{SoundCore}
use Rattle.theorem_attempt.specs.Follows.{NeedFits, Fits, Uses, Agrees, sees, HasEnded, EndFits, Follows, used_in, used_at, used_by}
use Rattle.theorem_attempt.proofs.Sound.{holds-none}
use Rattle.theorem_attempt.specs.Views.{uses_after}
use Rattle.theorem_attempt.proofs.Follows.{TakesOld, seen_after, with_words, Claim, finished-claims, is_live, in-from, in-to, claim-same}
use Rattle.theorem_attempt.proofs.Follows.{follows-same, follows-into}

-- what an event of a core leaves: its attempt follows from these uses, or from none where it has committed
abbrev pub OutFollows : Shape → Program → Uses → Option Out → Type 0
OutFollows sh p us o = IfSome o (λ x. Follows sh p x.core (uses_after x us))

-- what is spilled or modified is seen; what is neither is as in memory
sees-spilled : (s : CoreState) (ram : ℕ → ℕ) (w x : ℕ) → s.spilled w ≡ Some x → sees s ram w ≡ x
unfolding sees
sees-spilled s ram w x e = rw e

pub sees-modified : (s : CoreState) (ram : ℕ → ℕ) (w x : ℕ) → s.spilled w ≡ None → s.cache.modified w ≡ true → s.cache.value w ≡ Some x
    → sees s ram w ≡ x
unfolding sees
sees-modified s ram w x e m v = rw (e, m, v)

sees-memory : (s : CoreState) (ram : ℕ → ℕ) (w : ℕ) → s.spilled w ≡ None → s.cache.modified w ≡ false → sees s ram w ≡ ram w
unfolding sees
sees-memory s ram w e m = rw (e, m)

-- a valid word that isn't spilled: it was stored by the attempt, or it is a use
pub valid-seen : (s : CoreState) (ram : ℕ → ℕ) (w x : ℕ) → s.spilled w ≡ None → s.cache.value w ≡ Some x → Agrees (used_at s w) ram
    → sees s ram w ≡ x
valid-seen s ram w x e v h = at (s.cache.modified w) refl
  where
    at : (m : Bool) → s.cache.modified w ≡ m → sees s ram w ≡ x
    at true m = sees-modified s ram w x e m v
    at false m = sees-memory s ram w e m ∙ (agreed m)
      where
        agreed : s.cache.modified w ≡ false → ram w ≡ x
        agreed q = let i : used_at s w ≡ (w, x) ∷ [] = rw (e, q, v) in (subst (λ (l : Uses). Agrees l ram) i h).0

-- words put into the buffer or a frame, and frames placed or marked
stored_in_buffer-seen : (s : CoreState) (ram : ℕ → ℕ) (w y v : ℕ)
    → sees (with_words s s.cache (put s.spilled w (Some y))) ram v ≡ cond (v == w) y (sees s ram v)
unfolding sees
stored_in_buffer-seen s ram w y v = at (v == w)
  where
    at : (b : Bool) → unwrap_or (cond b (Some y) (s.spilled v)) (cond (s.cache.modified v) (unwrap_or (s.cache.value v) 0) (ram v))
        ≡ cond b y (unwrap_or (s.spilled v) (cond (s.cache.modified v) (unwrap_or (s.cache.value v) 0) (ram v)))
    at true = refl
    at false = refl

stored_in_frame-seen : (s : CoreState) (c : Cache) (ram : ℕ → ℕ) (w y : ℕ) (also : Bool) (v : ℕ) → s.spilled w ≡ None
    → sees (with_words s (stored w y also c) s.spilled) ram v ≡ cond (v == w) y (sees (with_words s c s.spilled) ram v)
unfolding sees stored
stored_in_frame-seen s c ram w y also v e = at (v == w) refl
  where
    at : (b : Bool) → (v == w) ≡ b
        → unwrap_or (s.spilled v) (cond (cond b true (c.modified v)) (unwrap_or (cond b (Some y) (c.value v)) 0) (ram v)) ≡ cond b y
        (unwrap_or (s.spilled v) (cond (c.modified v) (unwrap_or (c.value v) 0) (ram v)))
    at true q = let i : v ≡ w = grind (arith, nat_tests) in let n : s.spilled v ≡ None = ap s.spilled i ∙ e in rw n
    at false q = refl

placed-seen : (sh : Shape) (l : ℕ) (s : CoreState) (ram : ℕ → ℕ) (v : ℕ)
    → sees (with_words s (placed sh l s.cache) s.spilled) ram v ≡ sees s ram v
unfolding sees
placed-seen sh l s ram v = rw (value-placed sh l s.cache v, modified-placed sh l s.cache v)

marked-seen : (w : ℕ) (s : CoreState) (ram : ℕ → ℕ) (v : ℕ) → sees (with_words s (marked w s.cache) s.spilled) ram v ≡ sees s ram v
unfolding sees marked
marked-seen w s ram v = refl

-- the end of an instruction leaves the phase, and leaves it open where the transaction goes on
abbrev pub GoesOn : Need → Type 0
GoesOn Nothing = Unit {0}
GoesOn (Loads addr size) = Unit {0}
GoesOn (Stores addr size value) = Unit {0}
GoesOn (Changes addr changed) = Unit {0}
GoesOn (Prints byte) = Unit {0}
GoesOn Ends = ⊥
GoesOn (Halts code) = ⊥
GoesOn (Traps code) = ⊥

finished-ends : (p : Program) (need : Need) (x : ℕ) (s : CoreState) → GoesOn need → EndFits s.phase s.ended
    → EndFits (finished p need x s).phase (finished p need x s).ended
unfolding finished Rattle.rules_tcc.specs.Attempt.one_more_instruction
finished-ends p Nothing x s g e = e
finished-ends p (Loads addr size) x s g e = e
finished-ends p (Stores addr size value) x s g e = e
finished-ends p (Changes addr changed) x s g e = e
finished-ends p (Prints byte) x s g e = e
finished-ends p Ends x s g e = absurd g
finished-ends p (Halts code) x s g e = absurd g
finished-ends p (Traps code) x s g e = absurd g

-- what is known of a core that executes
pub record Acts (sh : Shape) (p : Program) (s : CoreState) (us : Uses) : Type 0 where
  pub follows : Follows sh p s us
  pub sound : SoundCore sh s
  pub live : is_live s.phase ≡ true
  pub goes : s.ended ≡ Goes

claimed : (sh : Shape) (p : Program) (s : CoreState) (us : Uses) → Acts sh p s us → Claim sh p s us
claimed sh p s us a = in-to sh p s us s.phase a.live a.follows.steps

goes-on : (sh : Shape) (p : Program) (s : CoreState) (us vs : Uses) (c : Cache) (sp : ℕ → Option ℕ) (need : Need) (x : ℕ) → GoesOn need
    → NeedFits need → p.need s.local ≡ need → Acts sh p s us →
    ((ram : ℕ → ℕ) → Agrees vs ram → TakesOld sh.base need x (sees s ram)) →
    ((ram : ℕ → ℕ) → Agrees vs ram → (v : ℕ) → sees (with_words s c sp) ram v ≡ seen_after sh.base need x (sees s ram) v) →
    Follows sh p (finished p need x (with_words s c sp)) (us ++ vs)
goes-on sh p s us vs c sp need x g f e a t h = record {
  ends = finished-ends p need x (with_words s c sp) g a.follows.ends;
  steps = in-from sh p (finished p need x (with_words s c sp)) (us ++ vs) (finished p need x (with_words s c sp)).phase
      (finished-claims sh p s us vs c sp need x f e a.goes (claimed sh p s us a) t h);
}

overflow-follows : (sh : Shape) (p : Program) (s : CoreState) (us : Uses) → Acts sh p s us → Follows sh p (overflow s).core us
unfolding overflow
overflow-follows sh p s us a = follows-into sh p s us s.cache s.spilled (Overflowing None) s.awaited s.owing
    (λ ram v. refl) a.live a.goes a.follows

full_set-follows : (sh : Shape) (p : Program) (l : ℕ) (s : CoreState) (us : Uses) → Acts sh p s us → OutFollows sh p us (full_set sh l s)
unfolding full_set overflow
full_set-follows sh p l s us a = at (is_solo s.phase || not (all_marked sh s.cache (set_of sh l)))
  where
    at : (b : Bool) → OutFollows sh p us (cond b None (Some (overflow s)))
    at true = tt
    at false = overflow-follows sh p s us a

request_line-follows : (sh : Shape) (p : Program) (l : ℕ) (s : CoreState) (us : Uses) → Acts sh p s us
    → Follows sh p (request_line sh l s).core (uses_after (request_line sh l s) us)
unfolding request_line
request_line-follows sh p l s us a = follows-same sh p s us s.cache s.spilled (Some (record { line = l; stale = false })) s.owing
    (λ ram v. refl) a.follows

place_ask-follows : (sh : Shape) (p : Program) (l : ℕ) (s : CoreState) (us : Uses) → Acts sh p s us
    → Follows sh p (request_line sh l (place sh l s)).core (uses_after (request_line sh l (place sh l s)) us)
unfolding request_line place
place_ask-follows sh p l s us a = follows-same sh p s us (placed sh l s.cache) s.spilled (Some (record { line = l; stale = false })) s.owing
    (λ ram v. placed-seen sh l s ram v) a.follows

miss-follows : (sh : Shape) (p : Program) (l : ℕ) (s : CoreState) (us : Uses) → Acts sh p s us → OutFollows sh p us (miss sh l s)
unfolding miss
miss-follows sh p l s us a = at (s.cache.held l) (free_way sh s.cache (set_of sh l))
  where
    at : (b : Bool) (o : Option ℕ)
        → OutFollows sh p us (cond b (Some (request_line sh l s))
        (cond (is_some o) (Some (request_line sh l (place sh l s))) (full_set sh l s)))
    at true o = request_line-follows sh p l s us a
    at false (Some y) = place_ask-follows sh p l s us a
    at false None = full_set-follows sh p l s us a

-- nothing was used
unused : (sh : Shape) (p : Program) (us vs : Uses) (o : Option Out) → vs ≡ [] → OutFollows sh p us o → OutFollows sh p (us ++ vs) o
unused sh p us vs o e h = subst (λ (l : Uses). OutFollows sh p l o) (sym (ap (λ (l : Uses). us ++ l) e ∙ append-nil us)) h

pub missed : (w : ℕ) (m : Bool) → used_in w None m None ≡ []
missed w true = refl
missed w false = refl

pub nothing-used : (s : CoreState) (w : ℕ) → s.spilled w ≡ None → s.cache.value w ≡ None → used_at s w ≡ []
nothing-used s w e v = rw (e, v) (missed w (s.cache.modified w))

pub load-follows : (sh : Shape) (p : Program) (addr : ℕ) (size : Size) (s : CoreState) (us : Uses) → NeedFits (Loads addr size)
    → p.need s.local ≡ Loads addr size → Acts sh p s us →
    OutFollows sh p (us ++ used_at s (word_of sh.base addr)) (load sh p (Loads addr size) (word_of sh.base addr) s)
unfolding load with_read_mark
load-follows sh p addr size s us f e a = spilled_in (s.spilled (word_of sh.base addr)) refl
  where
    w : ℕ
    w = word_of sh.base addr

    used_follows : (x : ℕ) → s.spilled w ≡ None → s.cache.value w ≡ Some x → (b : Bool)
        → Follows sh p (finished p (Loads addr size) x (cond b (record s { cache = marked w s.cache }) s)) (us ++ used_at s w)
    used_follows x n v true = goes-on sh p s us (used_at s w) (marked w s.cache) s.spilled (Loads addr size) x tt f e a
        (λ ram g. valid-seen s ram w x n v g) (λ ram g u. marked-seen w s ram u)
    used_follows x n v false = goes-on sh p s us (used_at s w) s.cache s.spilled (Loads addr size) x tt f e a
        (λ ram g. valid-seen s ram w x n v g) (λ ram g u. refl)

    valid_in : (o : Option ℕ) → s.spilled w ≡ None → s.cache.value w ≡ o
        → OutFollows sh p (us ++ used_at s w) (load_valid sh p (Loads addr size) w s o)
    valid_in (Some x) n v = used_follows x n v (is_running s.phase)
    valid_in None n v = unused sh p us (used_at s w) (miss sh (line_of w) s) (nothing-used s w n v) (miss-follows sh p (line_of w) s us a)

    spilled_in : (o : Option ℕ) → s.spilled w ≡ o → OutFollows sh p (us ++ used_at s w) (load_spilled sh p (Loads addr size) w s o)
    spilled_in (Some x) q = goes-on sh p s us (used_at s w) s.cache s.spilled (Loads addr size) x tt f e a
        (λ ram g. sees-spilled s ram w x q) (λ ram g u. refl)
    spilled_in None q = valid_in (s.cache.value w) q refl

word_store-follows : (sh : Shape) (p : Program) (addr value : ℕ) (s : CoreState) (us : Uses) → NeedFits (Stores addr Word value)
    → p.need s.local ≡ Stores addr Word value → Acts sh p s us →
    OutFollows sh p (us ++ []) (word_store sh p (Stores addr Word value) (word_of sh.base addr) value s)
unfolding word_store stored_in_buffer stored_in_frame place
word_store-follows sh p addr value s us f e a = at (holds s.spilled (line_of w)) refl (s.cache.held (line_of w))
    (free_way sh s.cache (set_of sh (line_of w)))
  where
    w : ℕ
    w = word_of sh.base addr

    unspilled : holds s.spilled (line_of w) ≡ false → s.spilled w ≡ None
    unspilled h = none_is (s.spilled w) (holds-none s.spilled (line_of w) w h refl)
      where
        none_is : (o : Option ℕ) → is_some o ≡ false → o ≡ None
        none_is None q = refl
        none_is (Some x) q = absurd (cc)

    at : (b : Bool) → holds s.spilled (line_of w) ≡ b → (c : Bool) (o : Option ℕ) →
        OutFollows sh p (us ++ []) (cond b (Some (moves (finished p (Stores addr Word value) value (stored_in_buffer w value s)) nothing))
        (cond c
        (Some (moves (finished p (Stores addr Word value) value (stored_in_frame w value false s)) (flush_line sh s.cache (line_of w))))
        (cond (is_some o) (Some (moves (finished p (Stores addr Word value) value (stored_in_frame w value false (place sh (line_of w) s)))
        nothing)) (full_set sh (line_of w) s))))
    at true h c o = goes-on sh p s us [] s.cache (put s.spilled w (Some value)) (Stores addr Word value) value tt f e a (λ ram g. tt)
        (λ ram g v. stored_in_buffer-seen s ram w value v)
    at false h true o = goes-on sh p s us [] (stored w value false s.cache) s.spilled (Stores addr Word value) value tt f e a (λ ram g. tt)
        (λ ram g v. stored_in_frame-seen s s.cache ram w value false v (unspilled h))
    at false h false (Some y) = goes-on sh p s us [] (stored w value false (placed sh (line_of w) s.cache)) s.spilled
        (Stores addr Word value) value tt f e a (λ ram g. tt)
        (λ ram g v. stored_in_frame-seen s (placed sh (line_of w) s.cache) ram w value false v (unspilled h)
        ∙ ap (λ y. cond (v == w) value y) (placed-seen sh (line_of w) s ram v))
    at false h false None = unused sh p us [] (full_set sh (line_of w) s) refl (full_set-follows sh p (line_of w) s us a)

-- the needs that make a new word from the old one
pub record Partial (base : ℕ) (need : Need) (w : ℕ) : Type 0 where
  pub goes : GoesOn need
  pub takes : (x : ℕ) (old : ℕ → ℕ) → old w ≡ x → TakesOld base need x old
  pub leaves : (x : ℕ) (old : ℕ → ℕ) (v : ℕ) → seen_after base need x old v ≡ cond (v == w) (new_word need x) (old v)

partial_store-follows : (sh : Shape) (p : Program) (need : Need) (w : ℕ) (s : CoreState) (us : Uses) → Partial sh.base need w
    → NeedFits need → p.need s.local ≡ need → Acts sh p s us →
    OutFollows sh p (us ++ used_at s w) (partial_store sh p need w s)
unfolding partial_store stored_in_buffer stored_in_frame
partial_store-follows sh p need w s us k f e a = spilled_in (s.spilled w) refl
  where
    into_buffer : (x : ℕ) → ((ram : ℕ → ℕ) → Agrees (used_at s w) ram → sees s ram w ≡ x)
        → Follows sh p (finished p need x (stored_in_buffer w (new_word need x) s)) (us ++ used_at s w)
    into_buffer x g = goes-on sh p s us (used_at s w) s.cache (put s.spilled w (Some (new_word need x))) need x k.goes f e a
        (λ ram q. k.takes x (sees s ram) (g ram q))
        (λ ram q v. stored_in_buffer-seen s ram w (new_word need x) v ∙ sym (k.leaves x (sees s ram) v))

    held_in : (x : ℕ) → s.spilled w ≡ None → s.cache.value w ≡ Some x → (b : Bool) →
        OutFollows sh p (us ++ used_at s w)
        (cond b (Some (moves (finished p need x (stored_in_buffer w (new_word need x) s)) nothing))
        (Some (moves (finished p need x (stored_in_frame w (new_word need x) (marks_read w s) s))
        (flush_line sh s.cache (line_of w)))))
    held_in x n v true = into_buffer x (λ ram g. valid-seen s ram w x n v g)
    held_in x n v false = goes-on sh p s us (used_at s w) (stored w (new_word need x) (marks_read w s) s.cache) s.spilled need x k.goes f e
        a (λ ram g. k.takes x (sees s ram) (valid-seen s ram w x n v g))
        (λ ram g u. stored_in_frame-seen s s.cache ram w (new_word need x) (marks_read w s) u n ∙ sym (k.leaves x (sees s ram) u))

    valid_in : (o : Option ℕ) → s.spilled w ≡ None → s.cache.value w ≡ o
        → OutFollows sh p (us ++ used_at s w) (change_valid sh p need w s o)
    valid_in None n v = unused sh p us (used_at s w) (miss sh (line_of w) s) (nothing-used s w n v) (miss-follows sh p (line_of w) s us a)
    valid_in (Some x) n v = held_in x n v (holds s.spilled (line_of w))

    spilled_in : (o : Option ℕ) → s.spilled w ≡ o → OutFollows sh p (us ++ used_at s w) (change_spilled sh p need w s o)
    spilled_in (Some x) q = into_buffer x (λ ram g. sees-spilled s ram w x q)
    spilled_in None q = valid_in (s.cache.value w) q refl

half-partial : (base addr value : ℕ) → Partial base (Stores addr Half value) (word_of base addr)
half-partial base addr value = record { goes = tt; takes = λ x old h. h; leaves = λ x old v. refl }

byte-partial : (base addr value : ℕ) → Partial base (Stores addr Byte value) (word_of base addr)
byte-partial base addr value = record { goes = tt; takes = λ x old h. h; leaves = λ x old v. refl }

changes-partial : (base addr : ℕ) (changed : ℕ → ℕ) → Partial base (Changes addr changed) (word_of base addr)
changes-partial base addr changed = record { goes = tt; takes = λ x old h. h; leaves = λ x old v. refl }

-- a core that begins anew: its attempt is empty and sees memory
pub record Fresh (s : CoreState) : Type 0 where
  pub n : s.n ≡ 0
  pub local : s.saved ≡ s.local
  pub loads : s.loads ≡ []
  pub stores : s.stores ≡ []
  pub console : s.console ≡ []
  pub ended : s.ended ≡ Goes
  pub words : (ram : ℕ → ℕ) (v : ℕ) → sees s ram v ≡ ram v

pub fresh-claims : (sh : Shape) (p : Program) (s : CoreState) → Fresh s → Claim sh p s []
unfolding steps begun sees
fresh-claims sh p s f ram small g = rw f.n (record {
  local = f.local;
  loads = sym f.loads;
  stores = sym f.stores;
  console = sym f.console;
  outcome = sym f.ended;
  words = λ v. sym (f.words ram v);
  small = small;
})

-- what a commit leaves: the core runs on with an empty attempt, or has halted
committed-follows : (sh : Shape) (p : Program) (s : CoreState) (o : Outcome) → Fresh (record s { ended = Goes })
    → Follows sh p (record s { ended = ended_after_commit o; phase = phase_after_commit o }) []
unfolding sees
committed-follows sh p s Goes f =
    record {
      ends = refl;
      steps = fresh-claims sh p (record s { ended = Goes; phase = Running })
          (record { n = f.n; local = f.local; loads = f.loads; stores = f.stores; console = f.console; ended = refl; words = f.words });
    }
committed-follows sh p s Ended f =
    record {
      ends = refl;
      steps = fresh-claims sh p (record s { ended = Goes; phase = Running })
          (record { n = f.n; local = f.local; loads = f.loads; stores = f.stores; console = f.console; ended = refl; words = f.words });
    }
committed-follows sh p s (HaltedWith code) f = record { ends = refl; steps = tt }
committed-follows sh p s (TrappedWith code) f = record { ends = refl; steps = tt }

unspilled-seen : (s : CoreState) (ram : ℕ → ℕ) (v : ℕ) → s.spilled v ≡ None → s.cache.modified v ≡ false → sees s ram v ≡ ram v
unspilled-seen s ram v e m = sees-memory s ram v e m

pub commit-follows : (sh : Shape) (p : Program) (id t : ℕ) (s : CoreState) → is_solo s.phase ≡ false → SoundCore sh s
    → Follows sh p (commit sh id t s).core []
unfolding commit committed_core
commit-follows sh p id t s h k =
    committed-follows sh p (record s {
      cache = Rattle.rules_maps.specs.CacheChange.committed t s.cache;
      saved = s.local;
      n = 0;
      loads = [];
      stores = [];
      console = [];
      last_commit = Rattle.rules_tcc.specs.Commit.with_last_commit (Rattle.rules_maps.specs.Cache.writes_at sh s.cache) t s.last_commit;
    }) s.ended
    (record {
      n = refl;
      local = refl;
      loads = refl;
      stores = refl;
      console = refl;
      ended = refl;
      words = λ ram v. unspilled-seen _ ram v (k.alone h v) (modified-committed t s.cache v);
    })

pub solo_commit-follows : (sh : Shape) (p : Program) (id t : ℕ) (s : CoreState) → Follows sh p (solo_commit sh id t s).core []
unfolding solo_commit committed_core none_spilled
solo_commit-follows sh p id t s =
    committed-follows sh p (record s {
      cache = Rattle.rules_maps.specs.CacheChange.committed t (Rattle.rules_maps.specs.CacheChange.words_dropped s.spilled s.cache);
      saved = s.local;
      n = 0;
      loads = [];
      stores = [];
      console = [];
      spilled = none_spilled;
      last_commit =
          Rattle.rules_tcc.specs.Commit.with_last_commit (Rattle.rules_tcc.specs.Commit.solo_writes_at sh s.cache s.spilled) t
          s.last_commit;
    }) s.ended
    (record {
      n = refl;
      local = refl;
      loads = refl;
      stores = refl;
      console = refl;
      ended = refl;
      words = λ ram v. unspilled-seen _ ram v refl
          (modified-committed t (Rattle.rules_maps.specs.CacheChange.words_dropped s.spilled s.cache) v);
    })

-- the transaction has ended
awaits-tid : (sh : Shape) (p : Program) (t : CoreState) (us : Uses) → HasEnded t.ended → Claim sh p t us
    → Follows sh p (record t { phase = AwaitTid }) us
awaits-tid sh p t us h k = record { ends = h; steps = claim-same sh p t us t.cache t.spilled AwaitTid t.awaited t.owing (λ ram v. refl) k }

end_transaction-follows : (sh : Shape) (p : Program) (id : ℕ) (q : Phase) (t : CoreState) (us : Uses) → HasEnded t.ended → Claim sh p t us
    → OutFollows sh p us (Some (end_transaction sh id q t))
unfolding solo_commit
end_transaction-follows sh p id (Solo tid) t us h k = solo_commit-follows sh p id tid t
end_transaction-follows sh p id Running t us h k = awaits-tid sh p t us h k
end_transaction-follows sh p id AwaitTid t us h k = awaits-tid sh p t us h k
end_transaction-follows sh p id DoomedTid t us h k = awaits-tid sh p t us h k
end_transaction-follows sh p id (Probing tid) t us h k = awaits-tid sh p t us h k
end_transaction-follows sh p id (Ready tid) t us h k = awaits-tid sh p t us h k
end_transaction-follows sh p id (Overflowing tid) t us h k = awaits-tid sh p t us h k
end_transaction-follows sh p id Halted t us h k = awaits-tid sh p t us h k

ends-ended : (p : Program) (s : CoreState) → HasEnded (finished p Ends 0 s).ended
unfolding finished
ends-ended p s = refl

halts-ended : (p : Program) (code : ℕ) (s : CoreState) → HasEnded (finished p (Halts code) 0 s).ended
unfolding finished
halts-ended p code s = refl

traps-ended : (p : Program) (code : ℕ) (s : CoreState) → HasEnded (finished p (Traps code) 0 s).ended
unfolding finished
traps-ended p code s = refl

need-follows : (sh : Shape) (p : Program) (id : ℕ) (s : CoreState) (us : Uses) (need : Need) → NeedFits need → p.need s.local ≡ need
    → Acts sh p s us → OutFollows sh p (us ++ used_by sh.base s need) (execute_need sh p id s need)
need-follows sh p id s us Nothing f e a = goes-on sh p s us [] s.cache s.spilled Nothing 0 tt f e a (λ ram g. tt) (λ ram g v. refl)
need-follows sh p id s us (Prints byte) f e a = goes-on sh p s us [] s.cache s.spilled (Prints byte) 0 tt f e a (λ ram g. tt)
    (λ ram g v. refl)
need-follows sh p id s us (Loads addr size) f e a = load-follows sh p addr size s us f e a
need-follows sh p id s us (Stores addr Word value) f e a = word_store-follows sh p addr value s us f e a
need-follows sh p id s us (Stores addr Half value) f e a = partial_store-follows sh p (Stores addr Half value) (word_of sh.base addr) s us
    (half-partial sh.base addr value) f e a
need-follows sh p id s us (Stores addr Byte value) f e a = partial_store-follows sh p (Stores addr Byte value) (word_of sh.base addr) s us
    (byte-partial sh.base addr value) f e a
need-follows sh p id s us (Changes addr changed) f e a = partial_store-follows sh p (Changes addr changed) (word_of sh.base addr) s us
    (changes-partial sh.base addr changed) f e a
need-follows sh p id s us Ends f e a = end_transaction-follows sh p id s.phase (finished p Ends 0 s) (us ++ []) (ends-ended p s)
    (finished-claims sh p s us [] s.cache s.spilled Ends 0 f e a.goes (claimed sh p s us a) (λ ram g. tt) (λ ram g v. refl))
need-follows sh p id s us (Halts code) f e a = end_transaction-follows sh p id s.phase (finished p (Halts code) 0 s) (us ++ [])
    (halts-ended p code s) (finished-claims sh p s us [] s.cache s.spilled (Halts code) 0 f e a.goes (claimed sh p s us a) (λ ram g. tt)
    (λ ram g v. refl))
need-follows sh p id s us (Traps code) f e a = end_transaction-follows sh p id s.phase (finished p (Traps code) 0 s) (us ++ [])
    (traps-ended p code s) (finished-claims sh p s us [] s.cache s.spilled (Traps code) 0 f e a.goes (claimed sh p s us a) (λ ram g. tt)
    (λ ram g v. refl))

execute-follows : (sh : Shape) (p : Program) (id : ℕ) (s : CoreState) (us : Uses) → Fits p → Acts sh p s us
    → OutFollows sh p (us ++ used_by sh.base s (p.need s.local)) (execute sh p id s)
unfolding execute
execute-follows sh p id s us f a = need-follows sh p id s us (p.need s.local) (f s.local) refl a

unless-follows : (sh : Shape) (p : Program) (id : ℕ) (s : CoreState) (us : Uses) (o : Option Awaited) → Fits p → Acts sh p s us
    → OutFollows sh p (us ++ used_by sh.base s (p.need s.local)) (unless_awaiting sh p id s o)
unless-follows sh p id s us (Some x) f a = tt
unless-follows sh p id s us None f a = execute-follows sh p id s us f a

phase-follows : (sh : Shape) (p : Program) (id : ℕ) (s : CoreState) (us : Uses) (q : Phase) → s.phase ≡ q → Fits p → SoundCore sh s
    → Follows sh p s us → OutFollows sh p (us ++ used_by sh.base s (p.need s.local)) (exec_in_phase sh p id s q)
unfolding commit
phase-follows sh p id s us Running e f k a =
    unless-follows sh p id s us s.awaited f
    (record { follows = a; sound = k; live = ap is_live e; goes = subst (λ (r : Phase). EndFits r s.ended) e a.ends })
phase-follows sh p id s us (Solo t) e f k a =
    unless-follows sh p id s us s.awaited f
    (record { follows = a; sound = k; live = ap is_live e; goes = subst (λ (r : Phase). EndFits r s.ended) e a.ends })
phase-follows sh p id s us (Ready t) e f k a = commit-follows sh p id t s (ap is_solo e) k
phase-follows sh p id s us AwaitTid e f k a = tt
phase-follows sh p id s us DoomedTid e f k a = tt
phase-follows sh p id s us (Probing t) e f k a = tt
phase-follows sh p id s us (Overflowing t) e f k a = tt
phase-follows sh p id s us Halted e f k a = tt

-- what the attempt used so far, and what this instruction uses
pub core_exec-follows : (sh : Shape) (p : Program) (id : ℕ) (s : CoreState) (us : Uses) → Fits p → SoundCore sh s → Follows sh p s us
    → OutFollows sh p (us ++ used_by sh.base s (p.need s.local)) (core_exec sh p id s)
unfolding core_exec
core_exec-follows sh p id s us f k a = phase-follows sh p id s us s.phase refl f k a
