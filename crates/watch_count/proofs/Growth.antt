-- No number grows by more than a fact's weight.
use Rattle.std.proofs.Common.{ℕ, zero, suc, ◌+◌, ◌≤◌, Bool, true, false, cond, List, [], ◌∷◌, Option, Some, None, arith}
use Rattle.std.specs.Prelude.{All, unwrap_or}
use Rattle.std.specs.declared.cmp.Ordering.{Ordering}
use Rattle.std.specs.BTreeMap.{is_at}
use Rattle.std.specs.Map.{lookup, values_of}
use Rattle.std.proofs.lemmas.List.Elements.{All-nil, All-cons, All-head, All-tail, All-weaker}
use Rattle.std.proofs.lemmas.Map.Views.{All-values-insert_entry}
use Rattle.watch.specs.Facts.{Fact}
use Rattle.watch_count.specs.declared.tables.CoreCounts.{CoreCounts}
use Rattle.watch_count.specs.declared.messages.MessageCounts.{MessageCounts}
use Rattle.watch_count.specs.declared.places.LineCounts.{LineCounts}
use Rattle.watch_count.specs.declared.places.ConflictCounts.{ConflictCounts}
use Rattle.watch_count.specs.Tables.{attempts_after, instructions_after, done_counted, accesses_after, evictions_after, phase_counted}
use Rattle.watch_count.specs.Tables.{core_after, event_came}
use Rattle.watch_count.specs.Messages.{messages_after}
use Rattle.watch_count.specs.Places.{line_after, conflict_after}
use Rattle.watch_count.specs.Sizes.{attempts_size, instructions_size, accesses_size, evictions_size, phases_size, core_size}
use Rattle.watch_count.specs.Sizes.{messages_size, line_size, conflict_size, weight}
use Rattle.watch_count.specs.Counts.{changed, changed_if, kept_changed, kept_changed_if}

pub core-grows : (f : Fact) (c : CoreCounts) → core_size (core_after f c) ≤ core_size c + weight f
unfolding core_after attempts_after instructions_after done_counted accesses_after evictions_after
    attempts_size instructions_size accesses_size evictions_size phases_size weight
core-grows f c = grind arith

pub event-grows : (c : CoreCounts) → core_size (event_came c) ≤ core_size c + 1
unfolding event_came phase_counted phases_size
event-grows c = grind arith

pub messages-grow : (f : Fact) (m : MessageCounts) → messages_size (messages_after f m) ≤ messages_size m + weight f
unfolding messages_after messages_size weight
messages-grow f m = grind arith

pub line-grows : (f : Fact) (n : LineCounts) → line_size (line_after f n) ≤ line_size n + weight f
unfolding line_after line_size weight
line-grows f n = grind arith

pub conflict-grows : (f : Fact) (n : ConflictCounts) → conflict_size (conflict_after f n) ≤ conflict_size n + weight f
unfolding conflict_after conflict_size weight
conflict-grows f n = grind arith

-- what holds of all elements holds after one has changed
pub All-changed : {A : Type 0} (P Q : A → Type 0) (f : A → A) → ((x : A) → P x → Q (f x)) → ((x : A) → P x → Q x)
    → (k : ℕ) (xs : List A) → All P xs → All Q (changed k f xs)
unfolding changed
All-changed P Q f here there k [] all = All-nil Q
All-changed P Q f here there zero (x ∷ xs) all =
    All-cons Q (f x) xs (here x (All-head P x xs all)) (All-weaker P Q there xs (All-tail P x xs all))
All-changed P Q f here there (suc k) (x ∷ xs) all =
    All-cons Q x (changed k f xs) (there x (All-head P x xs all)) (All-changed P Q f here there k xs (All-tail P x xs all))

pub All-changed_if : {A : Type 0} (P Q : A → Type 0) (f : A → A) → ((x : A) → P x → Q (f x)) → ((x : A) → P x → Q x)
    → (k : Option ℕ) (xs : List A) → All P xs → All Q (changed_if k f xs)
All-changed_if P Q f here there None xs all = All-weaker P Q there xs all
All-changed_if P Q f here there (Some k) xs all = All-changed P Q f here there k xs all

-- and of all that is kept under keys
pick : {X : Type 0} (P : X → Type 0) (b : Bool) (x fresh : X) (rest : Option X)
    → P x → P (unwrap_or rest fresh) → P (unwrap_or (cond b (Some x) rest) fresh)
pick P true x fresh rest p q = p
pick P false x fresh rest p q = q

pub kept-or-fresh : {K X : Type 0} (P : X → Type 0) (fresh : X) → P fresh → (test : K → Bool) (entries : List (K × X))
    → All P (values_of entries) → P (unwrap_or (lookup test entries) fresh)
kept-or-fresh P fresh p test [] all = p
kept-or-fresh P fresh p test (e ∷ es) all =
    pick P (test e.0) e.1 fresh (lookup test es) (All-head P e.1 (values_of es) all)
    (kept-or-fresh P fresh p test es (All-tail P e.1 (values_of es) all))

pub All-kept_changed : {K X : Type 0} (cmp : K → K → Ordering) (P Q : X → Type 0) (fresh : X) → P fresh
    → (f : X → X) → ((x : X) → P x → Q (f x)) → ((x : X) → P x → Q x)
    → (k : K) (entries : List (K × X)) → All P (values_of entries) → All Q (values_of (kept_changed cmp fresh k f entries))
unfolding kept_changed
All-kept_changed cmp P Q fresh p f here there k entries all =
    All-values-insert_entry cmp k (f (unwrap_or (lookup (is_at (cmp k)) entries) fresh)) Q entries
    (All-weaker P Q there (values_of entries) all)
    (here (unwrap_or (lookup (is_at (cmp k)) entries) fresh) (kept-or-fresh P fresh p (is_at (cmp k)) entries all))

pub All-kept_changed_if : {K X : Type 0} (cmp : K → K → Ordering) (P Q : X → Type 0) (fresh : X) → P fresh
    → (f : X → X) → ((x : X) → P x → Q (f x)) → ((x : X) → P x → Q x)
    → (k : Option K) (entries : List (K × X)) → All P (values_of entries) → All Q (values_of (kept_changed_if cmp fresh k f entries))
All-kept_changed_if cmp P Q fresh p f here there None entries all = All-weaker P Q there (values_of entries) all
All-kept_changed_if cmp P Q fresh p f here there (Some k) entries all = All-kept_changed cmp P Q fresh p f here there k entries all
