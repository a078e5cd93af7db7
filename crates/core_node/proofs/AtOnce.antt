-- What is done at once: the rule's event, which sends and notes nothing.
use Rattle.std.proofs.Common.{◌≡◌, ℕ, Bool, true, false, is_some, Option, Some, None, [], ◌∷◌, ◌++◌, refl, ap, sym, ◌∙◌}
use Rattle.tcc_base.specs.declared.access.Size.{Size}
use Rattle.tcc_base.specs.declared.access.Size.TheVariants.{Word}
use Rattle.rules_program.specs.Program.{Program, Nothing, Loads, Stores}
use Rattle.rules_program.specs.Plain.{load_of, store_of}
use Rattle.rules_program.specs.Ram.{part}
use Rattle.tcc_msg.specs.declared.outgoing.Outgoing.{Outgoing}
use Rattle.rules_maps.specs.Cache.{Cache, dirty_copy}
use Rattle.rules_maps.specs.CacheChange.{stored}
use Rattle.rules_maps.specs.Spilled.{holds}
use Rattle.rules_maps.specs.Words.{line_of}
use Rattle.rules_maps.specs.Nodes.{Dir}
use Rattle.rules_maps.specs.Shape.{Shape, home}
use Rattle.rules_tcc.specs.State.{CoreState}
use Rattle.rules_tcc.specs.Attempt.{Out, moves, one_more_instruction, finished, new_word, is_running}
use Rattle.rules_tcc.specs.Execute.{load, with_read_mark, stored_in_frame, word_store, partial_store, marks_read, execute_need}
use Rattle.rules_tcc.specs.Sends.{Sends, nothing, flush_line}
use Rattle.spec_cache.specs.Held.{Held, maps}
use Rattle.spec_cache.specs.Look.{loaded, StoresClean}
use Rattle.commit_engine.proofs.Lemmas.{to-none}
use Rattle.core_node.specs.declared.state.Core.{Core}
use Rattle.core_node.specs.View.{core_of, IsCore}
use Rattle.core_node.specs.Answers.{Happened}
use Rattle.core_node.proofs.Cores.{whole_cache}
use Rattle.core_node.proofs.Loaded.{load_valid}
use Rattle.core_node.proofs.Stored.{word_framed, partial_valid, change_framed}
use Rattle.core_node.proofs.Steps.{happened_silently}
use Rattle.core_node.proofs.Used.{loaded_valid, used_by, held-loaded}

pub quick_nothing : (sh : Shape) (p : Program) (id : ℕ) (s t : CoreState) → t ≡ one_more_instruction p None s
    → execute_need sh p id s Nothing ≡ Some (moves t nothing)
unfolding finished
quick_nothing sh p id s t e = rw e refl

pub quick_happened : (o : Option Out) (out : Outgoing) (c : Core) → o ≡ Some (moves (core_of c) nothing) → Happened o out c out
quick_happened o out c e = rw e (happened_silently (moves (core_of c) nothing) out c refl refl)

finished_load : (p : Program) (addr : ℕ) (size : Size) (x : ℕ) (c : Cache) (s : CoreState)
    → one_more_instruction p (Some (part x addr size))
    (record s { cache = c; loads = s.loads ++ load_of addr size (part x addr size) ∷ [] })
    ≡ finished p (Loads addr size) x (record s { cache = c })
unfolding finished one_more_instruction
finished_load p addr size x c s = refl

used_loaded : (w x : ℕ) (s : CoreState) (c : Cache) → s.cache.value w ≡ Some x → c ≡ loaded w (is_running s.phase) s.cache
    → record s { cache = c } ≡ with_read_mark w s
unfolding with_read_mark
used_loaded w x s c v e =
    ap (λ (m : Cache). record s { cache = m }) (e ∙ loaded_valid w (is_running s.phase) s.cache (ap (λ (o : Option ℕ). is_some o) v))
    ∙ used_by (is_running s.phase) w s

-- a load that found its word, marked it and noted it
pub quick_load : (sh : Shape) (p : Program) (addr : ℕ) (size : Size) (w x : ℕ) (c : Cache) (s t : CoreState)
    → s.spilled w ≡ None → s.cache.value w ≡ Some x → c ≡ loaded w (is_running s.phase) s.cache
    → t ≡ one_more_instruction p (Some (part x addr size))
    (record s { cache = c; loads = s.loads ++ load_of addr size (part x addr size) ∷ [] })
    → load sh p (Loads addr size) w s ≡ Some (moves t nothing)
quick_load sh p addr size w x c s t e v m d =
    load_valid sh p (Loads addr size) w x s e v
    ∙ ap (λ (u : CoreState). Some (moves u nothing))
    (sym (d ∙ finished_load p addr size x c s ∙ ap (finished p (Loads addr size) x) (used_loaded w x s c v m)))

-- one that didn't
pub loaded_missing : (w : ℕ) (b : Bool) (c : Cache) → c.value w ≡ None → loaded w b c ≡ c
unfolding loaded
loaded_missing w true c e = rw e refl
loaded_missing w false c e = refl

pub cache_same : (k : Core) (h : Held) → maps h ≡ maps k.cache → core_of (record k { cache = h }) ≡ core_of k
unfolding core_of
cache_same k h e = ap (λ (m : Cache). record (core_of k) { cache = m }) e

pub whole_loaded : (k : Core) (h : Held) (w : ℕ) (b : Bool) → IsCore k → h.config ≡ k.cache.config → maps h ≡ loaded w b (maps k.cache)
    → IsCore (record k { cache = h })
whole_loaded k h w b i e f = whole_cache k h i e (ap (λ (x : Cache). x.held) f ∙ held-loaded w b (maps k.cache))

finished_store : (p : Program) (addr : ℕ) (size : Size) (value x : ℕ) (c : Cache) (s : CoreState)
    → one_more_instruction p None (record s { cache = c; stores = s.stores ++ store_of addr size value ∷ [] })
    ≡ finished p (Stores addr size value) x (record s { cache = c })
unfolding finished one_more_instruction
finished_store p addr size value x c s = refl

nothing_flushed : (sh : Shape) (c : Cache) (l : ℕ) → dirty_copy c l ≡ None → flush_line sh c l ≡ nothing
unfolding flush_line
nothing_flushed sh c l e = rw e (to-none (Dir (home sh l)))

pub whole_stored : (k : Core) (h : Held) (w x : ℕ) (b : Bool) → IsCore k → h.config ≡ k.cache.config → maps h ≡ stored w x b (maps k.cache)
    → IsCore (record k { cache = h })
unfolding stored
whole_stored k h w x b i e f = whole_cache k h i e (ap (λ (y : Cache). y.held) f)

-- a word that is stored in a frame with no dirty word
pub quick_store : (sh : Shape) (p : Program) (addr value w : ℕ) (c : Cache) (s t : CoreState)
    → holds s.spilled (line_of w) ≡ false → StoresClean w value false s.cache c
    → t ≡ one_more_instruction p None (record s { cache = c; stores = s.stores ++ store_of addr Word value ∷ [] })
    → word_store sh p (Stores addr Word value) w value s ≡ Some (moves t nothing)
unfolding stored_in_frame
quick_store sh p addr value w c s t h k d =
    let n = Stores addr Word value in
    let core : t ≡ finished p n value (stored_in_frame w value false s) =
    d ∙ finished_store p addr Word value value c s ∙ ap (λ (m : Cache). finished p n value (record s { cache = m })) k.maps in
    word_framed sh p n w value s h k.held
    ∙ ap (λ (u : CoreState). Some (moves u (flush_line sh s.cache (line_of w)))) (sym core)
    ∙ ap (λ (x : Sends). Some (moves t x)) (nothing_flushed sh s.cache (line_of w) k.clean)

pub whole_same : (k : Core) (h : Held) → IsCore k → h.config ≡ k.cache.config → maps h ≡ maps k.cache → IsCore (record k { cache = h })
whole_same k h i e f = whole_cache k h i e (ap (λ (y : Cache). y.held) f)

-- a part of a word, likewise
pub quick_part : (sh : Shape) (p : Program) (addr : ℕ) (size : Size) (value w x : ℕ) (also : Bool) (c : Cache) (s t : CoreState)
    → s.spilled w ≡ None → holds s.spilled (line_of w) ≡ false → s.cache.value w ≡ Some x → also ≡ marks_read w s
    → StoresClean w (new_word (Stores addr size value) x) also s.cache c
    → t ≡ one_more_instruction p None (record s { cache = c; stores = s.stores ++ store_of addr size value ∷ [] })
    → partial_store sh p (Stores addr size value) w s ≡ Some (moves t nothing)
unfolding stored_in_frame
quick_part sh p addr size value w x also c s t g h v a k d =
    let n = Stores addr size value in
    let y = new_word n x in
    let core : t ≡ finished p n x (stored_in_frame w y (marks_read w s) s) =
    d ∙ finished_store p addr size value x c s ∙ ap (λ (m : Cache). finished p n x (record s { cache = m })) k.maps
    ∙ ap (λ (b : Bool). finished p n x (stored_in_frame w y b s)) a in
    partial_valid sh p n w x s g v ∙ change_framed sh p n w x s h
    ∙ ap (λ (u : CoreState). Some (moves u (flush_line sh s.cache (line_of w)))) (sym core)
    ∙ ap (λ (z : Sends). Some (moves t z)) (nothing_flushed sh s.cache (line_of w) k.clean)
