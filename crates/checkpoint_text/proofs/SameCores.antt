-- Equal tables of cores are of equal cores.
use Rattle.std.proofs.Common.{◌≡◌, ℕ, suc, ◌+◌, ◌*◌, ◌==◌, Bool, true, false, cond, List, [], ◌∷◌, ◌++◌, get_or, drop, length}
use Rattle.std.proofs.Common.{Option, Some, None, option_map, nat_lt, refl, sym, ap, ◌∙◌}
use Rattle.tcc_base.specs.Settings.{Settings}
use Rattle.rv_exec.specs.declared.outcome.Outcome.{Outcome}
use Rattle.rv_exec.specs.declared.outcome.Outcome.TheVariants as outcome
use Rattle.commit_engine.specs.declared.phase.Phase.{Phase}
use Rattle.commit_engine.specs.declared.phase.Phase.TheVariants as phase
use Rattle.spec_cache.specs.declared.frame.FrameView.{FrameView}
use Rattle.spec_cache.specs.Frame.{holds_line}
use Rattle.spec_cache.specs.Held.{Held, frame_at, frame_of}
use Rattle.core_node.specs.declared.state.Awaited.{Awaited}
use Rattle.core_node.specs.declared.state.Core.{Core}
use Rattle.checkpoint_text.specs.Cores.{awaited_numbers, core_numbers, frame_numbers, frame_rows, outcome_numbers, phase_numbers}
use Rattle.checkpoint_text.specs.Numbers.{flag}
use Rattle.checkpoint_text.specs.Tables.{numbered}
use Rattle.checkpoint_text.proofs.Numbers.{made-same, parts-same}
use Rattle.checkpoint_text.proofs.Picked.{filled-same, filled_row}

-- ---- how an attempt ended, its phase, and the line that is awaited

abbrev outcome_of_kind : (kind code : ℕ) → Outcome
outcome_of_kind kind code =
    cond (kind == 0) outcome.Goes (cond (kind == 1) outcome.Ended (cond (kind == 2) (outcome.Halted code) (outcome.Trapped code)))

abbrev outcome_from : List ℕ → Outcome
outcome_from ns = outcome_of_kind (get_or ns 0 0) (get_or ns 1 0)

outcome-back : (o : Outcome) → outcome_from (outcome_numbers o) ≡ o
outcome-back outcome.Goes = refl
outcome-back outcome.Ended = refl
outcome-back (outcome.Halted code) = refl
outcome-back (outcome.Trapped code) = refl

outcome-long : (o : Outcome) → length (outcome_numbers o) ≡ 2
outcome-long outcome.Goes = refl
outcome-long outcome.Ended = refl
outcome-long (outcome.Halted code) = refl
outcome-long (outcome.Trapped code) = refl

abbrev phase_of_kind : (kind tid : ℕ) → Phase
phase_of_kind kind tid =
    cond (kind == 0) phase.Running (
    cond (kind == 1) phase.AwaitTid (
    cond (kind == 2) phase.DoomedTid (
    cond (kind == 3) (phase.Probing (record { 0 = tid })) (
    cond (kind == 4) (phase.Ready (record { 0 = tid })) (
    cond (kind == 5) (phase.Overflowing None) (
    cond (kind == 6) (phase.Overflowing (Some (record { 0 = tid }))) (
    cond (kind == 7) (phase.Solo (record { 0 = tid }))
    phase.Halted)))))))

abbrev phase_from : List ℕ → Phase
phase_from ns = phase_of_kind (get_or ns 0 0) (get_or ns 1 0)

phase-back : (p : Phase) → phase_from (phase_numbers p) ≡ p
phase-back phase.Running = refl
phase-back phase.AwaitTid = refl
phase-back phase.DoomedTid = refl
phase-back (phase.Probing t) = refl
phase-back (phase.Ready t) = refl
phase-back (phase.Overflowing None) = refl
phase-back (phase.Overflowing (Some t)) = refl
phase-back (phase.Solo t) = refl
phase-back phase.Halted = refl

phase-long : (p : Phase) → length (phase_numbers p) ≡ 2
phase-long phase.Running = refl
phase-long phase.AwaitTid = refl
phase-long phase.DoomedTid = refl
phase-long (phase.Probing t) = refl
phase-long (phase.Ready t) = refl
phase-long (phase.Overflowing None) = refl
phase-long (phase.Overflowing (Some t)) = refl
phase-long (phase.Solo t) = refl
phase-long phase.Halted = refl

abbrev awaited_of_kind : (kind line : ℕ) → Option Awaited
awaited_of_kind kind line =
    cond (kind == 0) None (
    cond (kind == 1) (Some (record { line = record { 0 = line }; stale = false }))
    (Some (record { line = record { 0 = line }; stale = true })))

abbrev awaited_from : List ℕ → Option Awaited
awaited_from ns = awaited_of_kind (get_or ns 0 0) (get_or ns 1 0)

awaited-back : (a : Option Awaited) → awaited_from (awaited_numbers a) ≡ a
awaited-back None = refl
awaited-back (Some a) = go a.stale
  where
    go : (b : Bool) → awaited_from ((1 + flag b) ∷ a.line.0 ∷ []) ≡ Some (record { line = a.line; stale = b })
    go false = refl
    go true = refl

-- two cores with the same numbers
pub record IsSameCount (x y : Core) : Type 0 where
  pub n : x.n ≡ y.n
  pub ended : x.ended ≡ y.ended
  pub phase : x.phase ≡ y.phase
  pub owing : x.owing.bits ≡ y.owing.bits
  pub awaited : x.awaited ≡ y.awaited

pub count-same : (x y : Core) → core_numbers x ≡ core_numbers y → IsSameCount x y
unfolding core_numbers
count-same x y e =
    let tail : outcome_numbers x.ended ++ (phase_numbers x.phase ++ (x.owing.bits ∷ awaited_numbers x.awaited))
    ≡ outcome_numbers y.ended ++ (phase_numbers y.phase ++ (y.owing.bits ∷ awaited_numbers y.awaited)) = ap (drop 1) e in
    let ends_long = outcome-long x.ended ∙ sym (outcome-long y.ended) in
    let phases_long = phase-long x.phase ∙ sym (phase-long y.phase) in
    let ends = parts-same (outcome_numbers x.ended) (outcome_numbers y.ended) _ _ ends_long tail in
    let phases = parts-same (phase_numbers x.phase) (phase_numbers y.phase) _ _ phases_long ends.1 in
    record {
      n = ap (λ ns. get_or ns 0 0) e;
      ended = made-same outcome_numbers outcome_from outcome-back x.ended y.ended ends.0;
      phase = made-same phase_numbers phase_from phase-back x.phase y.phase phases.0;
      owing = ap (λ ns. get_or ns 0 0) phases.1;
      awaited = made-same awaited_numbers awaited_from awaited-back x.awaited y.awaited (ap (drop 1) phases.1);
    }

-- ---- frames

abbrev frame_from : List ℕ → FrameView
frame_from ns = record {
  line = record { 0 = get_or ns 0 0 };
  valid = record { 0 = get_or ns 1 0 };
  read = record { 0 = get_or ns 2 0 };
  modified = record { 0 = get_or ns 3 0 };
  dirty = record { 0 = get_or ns 4 0 };
  tag = record { 0 = get_or ns 5 0 };
  words = drop 6 ns;
}

frame-back : (f : FrameView) → frame_from (frame_numbers f) ≡ f
unfolding frame_numbers
frame-back f = refl

rows-filled : (k : ℕ) (frames : List (Option FrameView)) → frame_rows k frames ≡ numbered (filled_row frame_numbers) k frames
unfolding frame_rows numbered
rows-filled k [] = refl
rows-filled k (None ∷ frames) = rows-filled (k + 1) frames
rows-filled k (Some f ∷ frames) = ap (λ rows. (k ∷ frame_numbers f) ∷ rows) (rows-filled (k + 1) frames)

-- each way has the same frame
pub way-same : (x y : List (Option FrameView)) → frame_rows 0 x ≡ frame_rows 0 y → (i : ℕ) → get_or x i None ≡ get_or y i None
way-same x y e i =
    go (get_or x i None) (get_or y i None) (filled-same frame_numbers x y (sym (rows-filled 0 x) ∙ e ∙ rows-filled 0 y) i)
  where
    go : (f g : Option FrameView) → option_map frame_numbers f ≡ option_map frame_numbers g → f ≡ g
    go None None same = refl
    go None (Some g) same = absurd (cc)
    go (Some f) None same = absurd (cc)
    go (Some f) (Some g) same =
        let numbers : frame_numbers f ≡ frame_numbers g = cc in
        ap Some (made-same frame_numbers frame_from frame-back f g numbers)

-- each line has the same frame
pub line-same : (l : ℕ) (x y : List (Option FrameView)) → ((i : ℕ) → get_or x i None ≡ get_or y i None) → frame_of x l ≡ frame_of y l
unfolding frame_of holds_line
line-same l [] [] same = refl
line-same l [] (g ∷ y) same =
    line-same l [] y (λ i. same (suc i)) ∙ ap (λ (o : Option FrameView). cond (holds_line l o) o (frame_of y l)) (same 0)
line-same l (f ∷ x) [] same =
    ap (λ (o : Option FrameView). cond (holds_line l o) o (frame_of x l)) (same 0) ∙ line-same l x [] (λ i. same (suc i))
line-same l (f ∷ x) (g ∷ y) same = λ k. cond (holds_line l (same 0 k)) (same 0 k) (line-same l x y (λ i. same (suc i)) k)

-- ---- caches

pub frame_at-same : (x y : Held) → x.config ≡ y.config → ((i : ℕ) → get_or x.frames i None ≡ get_or y.frames i None)
    → (s w : ℕ) → frame_at x s w ≡ frame_at y s w
unfolding frame_at
frame_at-same x y config frames s w =
    ap (λ (c : Settings). cond (nat_lt w c.ways) (get_or x.frames (s * c.ways + w) None) None) config
    ∙ ap (λ (o : Option FrameView). cond (nat_lt w y.config.ways) o None) (frames (s * y.config.ways + w))
