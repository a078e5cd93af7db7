-- A core that takes a packet: its attempt used no word of it, or begins anew; what stays in its cache has memory's values.
use Rattle.std.specs.Prelude.{ℕ, ◌≡◌, ◌%◌, Bool, true, false, not, ◌&&◌, [], ◌∷◌, Option, Some, None, is_some, unwrap_or, if◌then◌else◌}
use Rattle.std.proofs.Common.{arith, refl, ap, ◌∙◌}
use Rattle.rules_maps.specs.Cache.{Cache}
use Rattle.rules_maps.specs.CacheChange.{rolled_back}
use Rattle.rules_maps.specs.Shape.{Shape, lines}
use Rattle.rules_maps.specs.Words.{line_of, word_at, any_word}
use Rattle.rules_maps.proofs.Lemmas.{any_below-at}
use Rattle.rules_program.specs.Program.{Program}
use Rattle.rules_tcc.specs.Attempt.{is_solo, roll_back}
use Rattle.rules_tcc.specs.State.{CoreState, Phase, Running, AwaitTid, Halted}
use Rattle.theorem_attempt.specs.Follows.{Uses, FollowsIn, sees}
use Rattle.theorem_attempt.specs.Marks.{AllStand, UsesStand}
use Rattle.theorem_attempt.specs.Sound.{is_idle}
use Rattle.theorem_serial.specs.InMemory.{WordInMemory}
use Rattle.theorem_attempt.proofs.Lemmas.{follows-same, none-used, rolled-follows, with_words as with_cache}
use Rattle.rules_bus.specs.Take.{reads_some, packet_invalidated, packet_taken}
use Rattle.theorem_bus.proofs.OneCore.Filled.{Coherent}
use Rattle.theorem_bus.proofs.OneCore.Fine.{Fine}
use Rattle.theorem_bus.proofs.Memory.Follow.{AgreesBut, Follow}
use Rattle.theorem_bus.proofs.OneCore.Taken.{again}
use Rattle.theorem_bus.proofs.InOrder.Bounded.{in_memory}

-- a core that may take a packet
abbrev pub calm : Phase → Bool
calm Running = true
calm AwaitTid = true
calm Halted = true
calm _ = false

-- the words of the packet
abbrev pub in_packet : (words : ℕ → Option ℕ) → ℕ → Bool
in_packet f v = is_some (f v)

-- no word is gone
abbrev pub none_gone : ℕ → Bool
none_gone v = false

abbrev dropped_cache : (words : ℕ → Option ℕ) → Cache → Cache
dropped_cache f c = record c { value = λ w. if is_some (f w) && not (c.modified w) then None else c.value w }

-- where no word of the packet is marked read
unread-words : (sh : Shape) (f : ℕ → Option ℕ) (c : Cache) → reads_some sh f c ≡ false
    → ((x : ℕ) → is_some (f x) ≡ true → WordInMemory sh x) → (v : ℕ) → c.read v ≡ true → is_some (f v) ≡ false
unfolding reads_some any_word
unread-words sh f c n m v r = go (is_some (f v)) refl
  where
    go : (b : Bool) → is_some (f v) ≡ b → b ≡ false
    go false e = refl
    go true e = absurd (
        let i : word_at (line_of v) (v % 8) ≡ v = omega arith in
        let q : (is_some (f (word_at (line_of v) (v % 8))) && c.read (word_at (line_of v) (v % 8))) ≡ true = rw i (rw (e, r) refl) in
        let w = any_below-at (λ k. is_some (f (word_at (line_of v) k)) && c.read (word_at (line_of v) k)) 8 (v % 8) (omega arith) q in
        let a = any_below-at (any_word (λ w. is_some (f w) && c.read w)) (lines sh) (line_of v) (m v e) w in
        cc)

dropped-stand : (f : ℕ → Option ℕ) (c : Cache) (us : Uses) → ((v : ℕ) → c.read v ≡ true → is_some (f v) ≡ false)
    → AllStand false c us → AllStand false (dropped_cache f c) us
dropped-stand f c [] n k = tt
dropped-stand f c (u ∷ us) n k =
    (record { marked = k.0.marked; value = λ e. (let q = n u.0 k.0.marked in rw q (k.0.value e)) }, dropped-stand f c us n (k.1))

dropped-agrees : (f : ℕ → Option ℕ) (ram : ℕ → ℕ) (c : Cache) (us : Uses) → ((v : ℕ) → c.read v ≡ true → is_some (f v) ≡ false)
    → AllStand false c us → AgreesBut (in_packet f) us ram → AgreesBut none_gone us ram
dropped-agrees f ram c [] n k h = tt
dropped-agrees f ram c (u ∷ us) n k h = (λ e. h.0 (n u.0 k.0.marked), dropped-agrees f ram c us n (k.1) (h.1))

dropped-coherent : (f : ℕ → Option ℕ) (ram : ℕ → ℕ) (c : Cache) → Coherent ram (in_packet f) c
    → Coherent ram none_gone (dropped_cache f c)
dropped-coherent f ram c k v g m x i = go (is_some (f v)) refl (c.modified v) refl m i
  where
    go : (b : Bool) → is_some (f v) ≡ b → (n : Bool) → c.modified v ≡ n → n ≡ false
        → (if b && not n then None else c.value v) ≡ Some x → ram v ≡ x
    go true e true q m i = absurd (cc)
    go true e false q m i = absurd (cc)
    go false e n q m i = k v e (q ∙ m) x i

rolled-coherent : (ram : ℕ → ℕ) (gone : ℕ → Bool) (c : Cache) → Coherent ram gone c → Coherent ram gone (rolled_back c)
unfolding rolled_back
rolled-coherent ram gone c k v g m x i = go (c.modified v) refl i
  where
    go : (b : Bool) → c.modified v ≡ b → (if b then None else c.value v) ≡ Some x → ram v ≡ x
    go true e i = absurd (cc)
    go false e i = k v g e x i

dropped-seen : (f : ℕ → Option ℕ) (s : CoreState) (ram : ℕ → ℕ) (v : ℕ)
    → sees (with_cache s (dropped_cache f s.cache) s.spilled) ram v ≡ sees s ram v
unfolding sees
dropped-seen f s ram v = go (is_some (f v)) (s.cache.modified v)
  where
    go : (b m : Bool)
        → unwrap_or (s.spilled v) (if m then unwrap_or (if b && not m then None else s.cache.value v) 0 else ram v)
        ≡ unwrap_or (s.spilled v) (if m then unwrap_or (s.cache.value v) 0 else ram v)
    go true true = refl
    go true false = refl
    go false m = refl

-- an attempt goes on
marked-follow : (sh : Shape) (p : Program) (f : ℕ → Option ℕ) (ram : ℕ → ℕ) (s : CoreState)
    → ((v : ℕ) → s.cache.read v ≡ true → is_some (f v) ≡ false) → (h : Follow sh p ram (in_packet f) s) → AllStand false s.cache h.uses
    → (AllStand false (dropped_cache f s.cache) h.uses → UsesStand (dropped_cache f s.cache) h.uses s.phase)
    → Follow sh p ram none_gone (packet_invalidated f s)
unfolding packet_invalidated
marked-follow sh p f ram s n h k g = record {
  uses = h.uses;
  fits = record {
    follows = follows-same sh p s h.uses (dropped_cache f s.cache) s.spilled s.awaited s.owing (dropped-seen f s) h.fits.follows;
    marks = record {
      stand = g (dropped-stand f s.cache h.uses n k);
      used = h.fits.marks.used;
      awaits = h.fits.marks.awaits;
      owes = h.fits.marks.owes;
    };
  };
  coherent = dropped-coherent f ram s.cache h.coherent;
  agrees = dropped-agrees f ram s.cache h.uses n k h.agrees;
}

-- a core that has halted has none
halted-follow : (sh : Shape) (n : ℕ) (p : Program) (f : ℕ → Option ℕ) (ram : ℕ → ℕ) (s : CoreState) → s.phase ≡ Halted
    → Fine sh (in_memory sh) n s → Follow sh p ram (in_packet f) s → Follow sh p ram none_gone (packet_invalidated f s)
unfolding packet_invalidated
halted-follow sh n p f ram s e k h = record {
  uses = [];
  fits = record {
    follows = record { ends = h.fits.follows.ends; steps = steps s.phase e };
    marks = record {
      stand = stand s.phase e;
      used = none-used (dropped_cache f s.cache) (λ v. (k.sound.unmarked (ap is_idle e) v).0);
      awaits = h.fits.marks.awaits;
      owes = h.fits.marks.owes;
    };
  };
  coherent = dropped-coherent f ram s.cache h.coherent;
  agrees = tt;
}
  where
    steps : (q : Phase) → q ≡ Halted → FollowsIn sh p (record s { cache = dropped_cache f s.cache }) [] q
    steps Halted e = tt
    steps q e = absurd (cc)

    stand : (q : Phase) → q ≡ Halted → UsesStand (dropped_cache f s.cache) [] q
    stand Halted e = tt
    stand q e = absurd (cc)

-- an attempt begins anew
rolled-follow : (sh : Shape) (n : ℕ) (p : Program) (f : ℕ → Option ℕ) (ram : ℕ → ℕ) (s : CoreState) → is_solo s.phase ≡ false
    → Fine sh (in_memory sh) n s → Follow sh p ram (in_packet f) s
    → Follow sh p ram none_gone (packet_invalidated f (record (roll_back s) { phase = Running }))
unfolding packet_invalidated roll_back rolled_back
rolled-follow sh n p f ram s e k h = record {
  uses = [];
  fits = record {
    follows = follows-same sh p t [] (dropped_cache f t.cache) t.spilled t.awaited t.owing (dropped-seen f t)
        (rolled-follows sh p s Running s.spilled (k.sound.alone e) refl);
    marks = record {
      stand = tt;
      used = none-used (dropped_cache f t.cache) (λ v. refl);
      awaits = λ q. absurd (cc);
      owes = λ d o. absurd (cc);
    };
  };
  coherent = dropped-coherent f ram t.cache (rolled-coherent ram (in_packet f) s.cache h.coherent);
  agrees = tt;
}
  where
    t : CoreState
    t = record (roll_back s) { phase = Running }

pub taken-follow : (sh : Shape) (n : ℕ) (p : Program) (f : ℕ → Option ℕ) (ram : ℕ → ℕ) (s : CoreState) → calm s.phase ≡ true
    → ((x : ℕ) → is_some (f x) ≡ true → WordInMemory sh x) → Fine sh (in_memory sh) n s → Follow sh p ram (in_packet f) s
    → Follow sh p ram none_gone (packet_taken sh f s)
unfolding packet_taken
taken-follow sh n p f ram s q m k h = go (reads_some sh f s.cache) refl
  where
    alone : (q : Phase) → calm q ≡ true → is_solo q ≡ false
    alone Running e = refl
    alone AwaitTid e = refl
    alone Halted e = refl
    alone q e = absurd (cc)

    stays : ((v : ℕ) → s.cache.read v ≡ true → is_some (f v) ≡ false) → (q : Phase) → s.phase ≡ q → calm q ≡ true
        → Follow sh p ram none_gone (packet_invalidated f s)
    stays u Running e c = marked-follow sh p f ram s u h (rw e at h.fits.marks.stand) (λ a. rw e a)
    stays u AwaitTid e c = marked-follow sh p f ram s u h (rw e at h.fits.marks.stand) (λ a. rw e a)
    stays u Halted e c = halted-follow sh n p f ram s e k h
    stays u q e c = absurd (cc)

    go : (b : Bool) → reads_some sh f s.cache ≡ b → Follow sh p ram none_gone (packet_invalidated f (again b s))
    go true e = rolled-follow sh n p f ram s (alone s.phase q) k h
    go false e = stays (unread-words sh f s.cache e m) s.phase refl q
