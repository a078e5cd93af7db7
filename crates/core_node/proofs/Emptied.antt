-- A frame that is emptied, in the words of the maps and of the rules.
use Rattle.std.proofs.Common.{◌≡◌, ℕ, Bool, true, false, not, is_some, ◌&&◌, ◌||◌, if◌then◌else◌, Option, Some, None, refl, ap, ◌∙◌, sym}
use Rattle.std.proofs.lemmas.Bool.{false≢true}
use Rattle.base_lemmas.proofs.Lemmas.{neither-left}
use Rattle.rules_maps.specs.Cache.{Cache, IsCache, is_marked}
use Rattle.rules_maps.specs.CacheChange.{evicted, evicted_line}
use Rattle.rules_maps.specs.Shape.{Shape}
use Rattle.rules_maps.specs.Laws.{SpillsModified}
use Rattle.rules_maps.specs.Spilled.{Spilled, spill, spill_line}
use Rattle.rules_tcc.specs.State.{CoreState}
use Rattle.rules_tcc.specs.Sends.{write_back_line}
use Rattle.rules_tcc.specs.Attempt.{Out, moves, is_solo}
use Rattle.rules_tcc.specs.CoreEvict.{core_evict, is_awaited}
use Rattle.spec_cache.specs.declared.frame.FrameView.{FrameView}
use Rattle.spec_cache.specs.Held.{Held, maps}
use Rattle.spec_cache.specs.Look.{Views}
use Rattle.overflow_buf.specs.Kept.{spilled}
use Rattle.core_node.specs.declared.state.Core.{Core}
use Rattle.core_node.specs.declared.state.Awaited.{Awaited}
use Rattle.core_node.specs.View.{core_of, awaited_of, AwaitsFrame, IsCore}

pub spilled_as : (sh : Shape) (c : Cache) → IsCache sh c → (f : FrameView) → Views c f.line.0 f → SpillsModified → (sp : Spilled)
    → spill f.line.0 f.modified.0 f.words sp ≡ spill_line f.line.0 c sp
spilled_as sh c s f v law sp =
    ap (λ (m : ℕ). spill f.line.0 m f.words sp) v.modified
    ∙ (λ i w. (law f.line.0 c f.words sp w (λ u l m. v.words u l (s.modified u m))) i)

emptied : (b : Bool) (x : Out) → not b ≡ is_some (if b then None else Some x)
emptied true x = refl
emptied false x = refl

-- what stands in the way of an eviction
abbrev stays_put : CoreState → ℕ → Bool
stays_put s l = is_awaited s.awaited l || (is_marked s.cache l && not (is_solo s.phase))

pub evict_enabled : (sh : Shape) (x y l : ℕ) (s : CoreState) (r a m o : Bool) → s.cache.at x y ≡ Some l → r ≡ not (a || (m && not o))
    → a ≡ is_awaited s.awaited l → m ≡ is_marked s.cache l → o ≡ is_solo s.phase → r ≡ is_some (core_evict sh x y s)
unfolding core_evict
evict_enabled sh x y l s r a m o e d f g h = d ∙ rw (f, g, h) (rw e (emptied (stays_put s l) _))

pub no_back : {A : Type 0} (o : Option A) → ((x : A) → o ≡ Some x → ⊥) → o ≡ None
no_back None n = refl
no_back (Some x) n = absurd (n x refl)

abbrev pub gone : Shape → ℕ → ℕ → CoreState → ℕ → Out
gone sh x y s l = moves (record s { cache = evicted x y s.cache; spilled = spill_line l s.cache s.spilled }) (write_back_line sh s.cache l)

pub record Leaves (sh : Shape) (x y : ℕ) (s : CoreState) (l : ℕ) : Type 0 where
  pub here : s.cache.at x y ≡ Some l
  pub free : is_awaited s.awaited l ≡ false
  pub does : core_evict sh x y s ≡ Some (gone sh x y s l)

pub evict_some : (sh : Shape) (x y : ℕ) (s : CoreState) → is_some (core_evict sh x y s) ≡ true → (l : ℕ) × Leaves sh x y s l
unfolding core_evict
evict_some sh x y s h = by (s.cache.at x y) refl
  where
    lifted : (b : Bool) (o : Out) → is_some (if b then None else Some o) ≡ true → b ≡ false
    lifted true o e = absurd (false≢true e)
    lifted false o e = refl

    by : (o : Option ℕ) → s.cache.at x y ≡ o → (l : ℕ) × Leaves sh x y s l
    by None e = absurd (false≢true (rw e at h))
    by (Some l) e =
        let b : stays_put s l ≡ false = lifted (stays_put s l) (gone sh x y s l) (rw e at h) in
        (l, record { here = e; free = neither-left _ _ b; does = rw e (rw b refl) })

-- the core after its modified words were kept and its frame emptied
pub evicted_core : (x y l : ℕ) (k m n : Core) → m ≡ record k { spilled = m.spilled } → n ≡ record m { cache = n.cache }
    → maps n.cache ≡ evicted x y (maps m.cache) → spilled m.spilled ≡ spill_line l (maps k.cache) (spilled k.spilled)
    → core_of n ≡ record (core_of k) { cache = evicted x y (maps k.cache); spilled = spill_line l (maps k.cache) (spilled k.spilled) }
unfolding core_of
evicted_core x y l k m n a b e f =
    let c : m.cache ≡ k.cache = ap (λ (q : Core). q.cache) a in
    let g : maps n.cache ≡ evicted x y (maps k.cache) = e ∙ ap (λ (h : Held). evicted x y (maps h)) c in
    ap core_of b ∙ ap (λ (q : Core). core_of (record q { cache = n.cache })) a
    ∙ ap (λ (h : Cache). record (core_of k) { cache = h; spilled = spilled m.spilled }) g
    ∙ ap (λ (z : Spilled). record (core_of k) { cache = evicted x y (maps k.cache); spilled = z }) f

-- the awaited line keeps its frame
waits_on : (x y l : ℕ) (c : Cache) (o : Option Awaited) → c.at x y ≡ Some l → is_awaited (awaited_of o) l ≡ false → AwaitsFrame c o
    → AwaitsFrame (evicted x y c) o
unfolding evicted evicted_line
waits_on x y l c None e f w = w
waits_on x y l c (Some a) e f w = rw e (rw f w)

pub evicted_whole : (x y l : ℕ) (k m n : Core) → IsCore k → m ≡ record k { spilled = m.spilled } → n ≡ record m { cache = n.cache }
    → maps n.cache ≡ evicted x y (maps m.cache) → n.cache.config ≡ m.cache.config → (maps k.cache).at x y ≡ Some l
    → is_awaited (awaited_of k.awaited) l ≡ false → IsCore n
evicted_whole x y l k m n w a b e g h f =
    let c : m.cache ≡ k.cache = ap (λ (q : Core). q.cache) a in
    let i : maps n.cache ≡ evicted x y (maps k.cache) = e ∙ ap (λ (q : Held). evicted x y (maps q)) c in
    let o : n.awaited ≡ k.awaited = ap (λ (q : Core). q.awaited) b ∙ ap (λ (q : Core). q.awaited) a in
    record {
      cache = g ∙ ap (λ (q : Held). q.config) c ∙ w.cache ∙ sym (ap (λ (q : Core). q.config) b ∙ ap (λ (q : Core). q.config) a);
      awaited = rw (i, o) (waits_on x y l (maps k.cache) k.awaited h f w.awaited);
      after = rw (ap (λ (q : Core). q.after) b ∙ ap (λ (q : Core). q.after) a) w.after;
    }
