-- Equal tables of cores are of cores in the same state.
use Rattle.std.proofs.Common.{◌≡◌, ℕ, List, map, get_or, drop, Option, Some, None, option_map, slice_get}
use Rattle.std.proofs.Common.{is_some, refl, sym, ◌∙◌}
use Rattle.tcc_base.specs.Settings.{Settings}
use Rattle.tcc_base.specs.declared.names.Tid.{Tid}
use Rattle.rules_maps.specs.Masks.{has}
use Rattle.rules_maps.specs.Words.{line_of, place_of}
use Rattle.rules_tcc.specs.State.{CoreState}
use Rattle.rv_exec.specs.Outcomes.{outcome_of}
use Rattle.commit_engine.specs.Engine.{after_of, phase_of}
use Rattle.spec_cache.specs.Frame.{dirty_in, line_in, modified_in, read_in, value_in}
use Rattle.spec_cache.specs.Held.{Held, frame_of, maps}
use Rattle.overflow_buf.specs.declared.line.SpilledLine.{SpilledLine}
use Rattle.overflow_buf.specs.Kept.{spilled}
use Rattle.core_node.specs.View.{awaited_of, core_of}
use Rattle.core_node.specs.declared.state.Core.{Core}
use Rattle.machine_cores.specs.Bank.{core_or}
use Rattle.checkpoint_text.specs.Cores.{core_numbers, frame_rows, spilled_numbers}
use Rattle.checkpoint_text.specs.Numbers.{byte_numbers, load_numbers, local_numbers, stored_numbers}
use Rattle.checkpoint_text.specs.Tables.{all, each, numbered}
use Rattle.checkpoint_text.proofs.SameCores.{count-same, frame_at-same, line-same, way-same}
use Rattle.checkpoint_text.proofs.Numbers.{bytes-same, loads-same, locals-same, map-same, rows-same as listed-same, stores-same}
use Rattle.checkpoint_text.proofs.Picked.{all-same, each-same, items_of}

-- caches with the same settings and rows are the same maps
cache-same : (x y : Held) → x.config ≡ y.config → frame_rows 0 x.frames ≡ frame_rows 0 y.frames → maps x ≡ maps y
unfolding maps
cache-same x y config rows =
    let ways = way-same x.frames y.frames rows in
    let at = frame_at-same x y config ways in
    let lines : (l : ℕ) → frame_of x.frames l ≡ frame_of y.frames l = λ l. line-same l x.frames y.frames ways in
    λ i. record {
      at = λ s w. line_in (at s w i);
      held = λ l. is_some (lines l i);
      value = λ w. value_in (lines (line_of w) i) (place_of w);
      read = λ w. read_in (lines (line_of w) i) (place_of w);
      modified = λ w. modified_in (lines (line_of w) i) (place_of w);
      dirty = λ w. dirty_in (lines (line_of w) i) (place_of w);
    }

-- ---- one core

abbrev after_numbers : Core → List ℕ
after_numbers c = map (λ (t : Tid). t.0) c.after

-- two cores with the same rows in each table
record HasSameRows (x y : Core) : Type 0 where
  count : core_numbers x ≡ core_numbers y
  state : local_numbers x.state ≡ local_numbers y.state
  saved : local_numbers x.check ≡ local_numbers y.check
  after : after_numbers x ≡ after_numbers y
  frames : frame_rows 0 x.cache.frames ≡ frame_rows 0 y.cache.frames
  spilled : map spilled_numbers x.spilled ≡ map spilled_numbers y.spilled
  loads : map load_numbers x.loads ≡ map load_numbers y.loads
  stores : map stored_numbers x.stores ≡ map stored_numbers y.stores
  console : map byte_numbers x.console ≡ map byte_numbers y.console

abbrev spilled_from : List ℕ → ℕ × SpilledLine
spilled_from ns = (get_or ns 0 0, record { mask = record { 0 = get_or ns 1 0 }; words = drop 2 ns })

spilled-back : (e : ℕ × SpilledLine) → spilled_from (spilled_numbers e) ≡ e
unfolding spilled_numbers
spilled-back e = refl

core-same : (x y : Core) → x.cache.config ≡ y.cache.config → HasSameRows x y → core_of x ≡ core_of y
unfolding core_of
core-same x y config same =
    let count = count-same x y same.count in
    let state = locals-same x.state y.state same.state in
    let saved = locals-same x.check y.check same.saved in
    let after = map-same (λ (t : Tid). t.0) (λ n. record { 0 = n }) (λ t. refl) x.after y.after same.after in
    let cache = cache-same x.cache y.cache config same.frames in
    let entries = map-same spilled_numbers spilled_from spilled-back x.spilled y.spilled same.spilled in
    let loads = loads-same x.loads y.loads same.loads in
    let stores = stores-same x.stores y.stores same.stores in
    let console = bytes-same x.console y.console same.console in
    λ i. record {
      local = state i;
      saved = saved i;
      n = count.n i;
      loads = loads i;
      stores = stores i;
      console = console i;
      ended = outcome_of (count.ended i);
      phase = phase_of (count.phase i);
      owing = has (count.owing i);
      cache = cache i;
      spilled = spilled (entries i);
      awaited = awaited_of (count.awaited i);
      last_commit = after_of (after i);
    }

-- ---- all cores

-- two lists of cores with the same tables
pub record HasSameTables (xs ys : List Core) : Type 0 where
  pub count : numbered (each core_numbers) 0 xs ≡ numbered (each core_numbers) 0 ys
  pub state : numbered (each (λ (c : Core). local_numbers c.state)) 0 xs ≡ numbered (each (λ (c : Core). local_numbers c.state)) 0 ys
  pub saved : numbered (each (λ (c : Core). local_numbers c.check)) 0 xs ≡ numbered (each (λ (c : Core). local_numbers c.check)) 0 ys
  pub after : numbered (each after_numbers) 0 xs ≡ numbered (each after_numbers) 0 ys
  pub frames : numbered (all (λ (c : Core). frame_rows 0 c.cache.frames) (λ row. row)) 0 xs
      ≡ numbered (all (λ (c : Core). frame_rows 0 c.cache.frames) (λ row. row)) 0 ys
  pub spilled : numbered (all (λ (c : Core). c.spilled) spilled_numbers) 0 xs
      ≡ numbered (all (λ (c : Core). c.spilled) spilled_numbers) 0 ys
  pub loads : numbered (all (λ (c : Core). c.loads) load_numbers) 0 xs ≡ numbered (all (λ (c : Core). c.loads) load_numbers) 0 ys
  pub stores : numbered (all (λ (c : Core). c.stores) stored_numbers) 0 xs ≡ numbered (all (λ (c : Core). c.stores) stored_numbers) 0 ys
  pub console : numbered (all (λ (c : Core). c.console) byte_numbers) 0 xs ≡ numbered (all (λ (c : Core). c.console) byte_numbers) 0 ys

-- what two such lists have at one place
record HasSameItems (x y : Option Core) : Type 0 where
  count : option_map core_numbers x ≡ option_map core_numbers y
  state : option_map (λ (c : Core). local_numbers c.state) x ≡ option_map (λ (c : Core). local_numbers c.state) y
  saved : option_map (λ (c : Core). local_numbers c.check) x ≡ option_map (λ (c : Core). local_numbers c.check) y
  after : option_map after_numbers x ≡ option_map after_numbers y
  frames : items_of (λ (c : Core). map (λ (row : List ℕ). row) (frame_rows 0 c.cache.frames)) x
      ≡ items_of (λ (c : Core). map (λ (row : List ℕ). row) (frame_rows 0 c.cache.frames)) y
  spilled : items_of (λ (c : Core). map spilled_numbers c.spilled) x ≡ items_of (λ (c : Core). map spilled_numbers c.spilled) y
  loads : items_of (λ (c : Core). map load_numbers c.loads) x ≡ items_of (λ (c : Core). map load_numbers c.loads) y
  stores : items_of (λ (c : Core). map stored_numbers c.stores) x ≡ items_of (λ (c : Core). map stored_numbers c.stores) y
  console : items_of (λ (c : Core). map byte_numbers c.console) x ≡ items_of (λ (c : Core). map byte_numbers c.console) y

items-same : (xs ys : List Core) → HasSameTables xs ys → (c : ℕ) → HasSameItems (slice_get xs c) (slice_get ys c)
items-same xs ys same c = record {
  count = each-same core_numbers xs ys same.count c;
  state = each-same (λ (c : Core). local_numbers c.state) xs ys same.state c;
  saved = each-same (λ (c : Core). local_numbers c.check) xs ys same.saved c;
  after = each-same after_numbers xs ys same.after c;
  frames = all-same (λ (c : Core). frame_rows 0 c.cache.frames) (λ row. row) xs ys same.frames c;
  spilled = all-same (λ (c : Core). c.spilled) spilled_numbers xs ys same.spilled c;
  loads = all-same (λ (c : Core). c.loads) load_numbers xs ys same.loads c;
  stores = all-same (λ (c : Core). c.stores) stored_numbers xs ys same.stores c;
  console = all-same (λ (c : Core). c.console) byte_numbers xs ys same.console c;
}

some-same : {A B : Type 0} (f : A → B) (x y : A) → option_map f (Some x) ≡ option_map f (Some y) → f x ≡ f y
some-same f x y e = cc

rows-same : (x y : Core) → HasSameItems (Some x) (Some y) → HasSameRows x y
rows-same x y same = record {
  count = some-same core_numbers x y same.count;
  state = some-same (λ (c : Core). local_numbers c.state) x y same.state;
  saved = some-same (λ (c : Core). local_numbers c.check) x y same.saved;
  after = some-same after_numbers x y same.after;
  frames = listed-same (frame_rows 0 x.cache.frames) (frame_rows 0 y.cache.frames) same.frames;
  spilled = same.spilled;
  loads = same.loads;
  stores = same.stores;
  console = same.console;
}

-- the caches of all of them have these settings
abbrev pub HaveConfig : Settings → List Core → Type 0
HaveConfig s xs = (c : ℕ) (x : Core) → slice_get xs c ≡ Some x → x.cache.config ≡ s

-- each core is in the same state
pub cores-same : (s : Settings) (xs ys : List Core) → HaveConfig s xs → HaveConfig s ys → HasSameTables xs ys
    → (start : CoreState) (c : ℕ) → core_or start (slice_get xs c) ≡ core_or start (slice_get ys c)
cores-same s xs ys in_x in_y same start c = go (slice_get xs c) (slice_get ys c) (in_x c) (in_y c) (items-same xs ys same c)
  where
    go : (x y : Option Core) → ((a : Core) → x ≡ Some a → a.cache.config ≡ s) → ((a : Core) → y ≡ Some a → a.cache.config ≡ s)
        → HasSameItems x y → core_or start x ≡ core_or start y
    go None None of_x of_y items = refl
    go None (Some y) of_x of_y items = let e = items.count in absurd (cc)
    go (Some x) None of_x of_y items = let e = items.count in absurd (cc)
    go (Some x) (Some y) of_x of_y items = core-same x y (of_x x refl ∙ sym (of_y y refl)) (rows-same x y items)
