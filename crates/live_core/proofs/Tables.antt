-- What the code reads of a directory gives the reason that the directory's row says.
use Rattle.std.proofs.Common.{◌≡◌, ◌≢◌, ℕ, ◌<◌, ◌≤◌, Bool, true, false, ◌||◌, Option, Some, None, refl, ap, ◌∙◌, arith}
use Rattle.std.specs.Prelude.{nat_lt, nat_le, ◌==◌, if◌then◌else◌}
use Rattle.std.specs.Bool.{then_some}
use Rattle.std.specs.Option.{option_map}
use Rattle.std.proofs.lemmas.Bool.Decides.{nat_tests}
use Rattle.rules_maps.specs.Shape.{Shape}
use Rattle.rules_tcc.specs.State.{DirState}
use Rattle.live_core.specs.Plain.{plain_reason}
use Rattle.live_core.specs.Reasons.{Reason, Early, Marked, Count, Tag, probe_waits, owner_asked, load_waits, mark_waits, marked_lines}
use Rattle.live_core.specs.Reasons.{commit_waits, words_wait}
use Rattle.live_core.specs.declared.reason.Reason.{Reason as CodeReason}

-- a reason that holds where a test does
mapped : (b : Bool) (r : CodeReason) → option_map plain_reason (then_some b r) ≡ (if b then Some (plain_reason r) else None)
mapped true r = refl
mapped false r = refl

pub tested : (o : Option CodeReason) (b : Bool) (r : CodeReason) → o ≡ then_some b r
    → option_map plain_reason o ≡ (if b then Some (plain_reason r) else None)
tested o b r e = ap (option_map plain_reason) e ∙ mapped b r

-- ---- by kind, where the code has read n as the TID that is served

pub probe-so : (t n : ℕ) (s : DirState) → n ≡ s.serving.serving → (if nat_lt n t then Some (Early n) else None) ≡ probe_waits t s
unfolding probe_waits
probe-so t n s e = ap (λ k. if nat_lt k t then Some (Early k) else None) e

pub load-early : (l after n : ℕ) (s : DirState) → n ≡ s.serving.serving → n ≤ after → Some (Early n) ≡ load_waits l after s
unfolding load_waits
load-early l after n s e h =
    let t : nat_le s.serving.serving after ≡ true = grind (arith, nat_tests) in rw t (ap (λ k. Some (Early k)) e)

pub load-marked : (l after n m : ℕ) (s : DirState) → n ≡ s.serving.serving → after < n → m ≡ s.lines.mark l → 0 < m
    → Some (Marked m) ≡ load_waits l after s
unfolding load_waits
load-marked l after n m s e h q g =
    let t : nat_le s.serving.serving after ≡ false = grind (arith, nat_tests) in
    let u : nat_lt 0 (s.lines.mark l) ≡ true = grind (arith, nat_tests) in
    rw (t, u) (ap (λ k. Some (Marked k)) q)

pub load-asked : (l after n m : ℕ) (s : DirState) (a : Bool) (o : Option ℕ) → n ≡ s.serving.serving → after < n → m ≡ s.lines.mark l
    → m ≤ 0 → a ≡ s.lines.asked l → o ≡ s.lines.owner l → owner_asked a o ≡ load_waits l after s
unfolding load_waits
load-asked l after n m s a o e h q g i j =
    let t : nat_le s.serving.serving after ≡ false = grind (arith, nat_tests) in
    let u : nat_lt 0 (s.lines.mark l) ≡ false = grind (arith, nat_tests) in
    rw (t, u) (λ k. owner_asked (i k) (j k))

pub mark-early : (l m t n : ℕ) (s : DirState) → n ≡ s.serving.serving → n < t → Some (Early n) ≡ mark_waits l m t s
unfolding mark_waits
mark-early l m t n s e h =
    let b : nat_lt s.serving.serving t ≡ true = grind (arith, nat_tests) in rw b (ap (λ k. Some (Early k)) e)

pub mark-past : (l m t n : ℕ) (s : DirState) → n ≡ s.serving.serving → t < n → None ≡ mark_waits l m t s
unfolding mark_waits
mark-past l m t n s e h =
    let b : nat_lt s.serving.serving t ≡ false = grind (arith, nat_tests) in
    let d : nat_lt t s.serving.serving ≡ true = grind (arith, nat_tests) in
    rw (b, d) refl

pub mark-whole : (l m t n : ℕ) (s : DirState) → n ≡ s.serving.serving → t ≤ n → m ≡ 255 → None ≡ mark_waits l m t s
unfolding mark_waits
mark-whole l m t n s e h q =
    let b : nat_lt s.serving.serving t ≡ false = grind (arith, nat_tests) in
    let d : (m == 255) ≡ true = grind (arith, nat_tests) in
    rw (b, d) (whole (nat_lt t s.serving.serving))
  where
    whole : (p : Bool) → None ≡ (if p || true then None else owner_asked (s.lines.asked l) (s.lines.owner l))
    whole true = refl
    whole false = refl

pub mark-asked : (l m t n : ℕ) (s : DirState) (a : Bool) (o : Option ℕ) → n ≡ s.serving.serving → n ≡ t → m ≢ 255
    → a ≡ s.lines.asked l → o ≡ s.lines.owner l → owner_asked a o ≡ mark_waits l m t s
unfolding mark_waits
mark-asked l m t n s a o e h q i j =
    let b : nat_lt s.serving.serving t ≡ false = grind (arith, nat_tests) in
    let d : nat_lt t s.serving.serving ≡ false = grind (arith, nat_tests) in
    let f : (m == 255) ≡ false = grind (arith, nat_tests) in
    rw (b, d, f) (λ k. owner_asked (i k) (j k))

pub commit-early : (sh : Shape) (t count n : ℕ) (s : DirState) → n ≡ s.serving.serving → n ≢ t
    → Some (Early n) ≡ commit_waits sh t count s
unfolding commit_waits
commit-early sh t count n s e h =
    let b : (s.serving.serving == t) ≡ false = grind (arith, nat_tests) in rw b (ap (λ k. Some (Early k)) e)

pub commit-count : (sh : Shape) (t count n m : ℕ) (s : DirState) (o : Option Reason) → n ≡ s.serving.serving → n ≡ t
    → m ≡ marked_lines sh s → o ≡ (if m == count then None else Some (Count m)) → o ≡ commit_waits sh t count s
unfolding commit_waits
commit-count sh t count n m s o e h q i =
    let b : (s.serving.serving == t) ≡ true = grind (arith, nat_tests) in
    rw b (i ∙ ap (λ k. if k == count then None else Some (Count k)) q)

pub words-so : (l g n : ℕ) (s : DirState) → n ≡ s.lines.tag l → (if nat_lt n g then Some (Tag n) else None) ≡ words_wait l g s
unfolding words_wait
words-so l g n s e = ap (λ k. if nat_lt k g then Some (Tag k) else None) e
