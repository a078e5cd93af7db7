-- What a log's entries handled, when more has come.
use Rattle.std.proofs.Common.{◌≡◌, ℕ, ◌<◌, List, [], ◌∷◌, ◌++◌, map, Option, Some, None, refl, ap, sym, ◌∙◌}
use Rattle.std.specs.Prelude.{slice_get, IsSomeAnd}
use Rattle.std.proofs.lemmas.List.Elements.{All-head, All-tail, All-weaker}
use Rattle.rules_maps.specs.Nodes.{Node, Event, Exec, Evict, Deliver}
use Rattle.tcc_msg.specs.Plain.{event_of}
use Rattle.rules_tcc.specs.Local.{Mail}
use Rattle.rules_apart.specs.Filled.{entry_of, filled, handled}
use Rattle.rules_apart.specs.declared.logs.Logged.{Logged}
use Rattle.apart_node.specs.Node.{CameBefore, AreStored}

-- what came before is there, under the same numbers
abbrev pub Includes : (more from : Node → List Mail) → Type 0
Includes more from = (src : Node) (k : ℕ) (m : Mail) → slice_get (from src) k ≡ Some m → slice_get (more src) k ≡ Some m

pub came-handled : (more from : Node → List Mail) (t : ℕ) (e : Event) → Includes more from → CameBefore from t e
    → handled more e ≡ handled from e
came-handled more from t (Exec c) i h = refl
came-handled more from t (Evict c x y) i h = refl
came-handled more from t (Deliver src dst k) i h = go (slice_get (from src) k) refl h
  where
    go : (o : Option Mail) → slice_get (from src) k ≡ o → IsSomeAnd o (λ m. m.stamp < t) → slice_get (more src) k ≡ slice_get (from src) k
    go None q s = absurd s
    go (Some m) q s = i src k m q ∙ sym q

pub came-more : (more from : Node → List Mail) (t : ℕ) (e : Event) → Includes more from → CameBefore from t e → CameBefore more t e
came-more more from t (Exec c) i h = tt
came-more more from t (Evict c x y) i h = tt
came-more more from t (Deliver src dst k) i h = go (slice_get (from src) k) refl h
  where
    go : (o : Option Mail) → slice_get (from src) k ≡ o → IsSomeAnd o (λ m. m.stamp < t)
        → IsSomeAnd (slice_get (more src) k) (λ m. m.stamp < t)
    go None q s = absurd s
    go (Some m) q s = rw (i src k m q) s

filled-more : (more from : Node → List Mail) (l : Logged) → Includes more from → CameBefore from l.stamp (event_of l.event)
    → filled more l ≡ filled from l
unfolding filled
filled-more more from l i h = ap (entry_of l.stamp (event_of l.event)) (came-handled more from l.stamp (event_of l.event) i h)

-- the entries of a log are the same over more messages
pub log-filled_more : (more from : Node → List Mail) (log : List Logged) → Includes more from → AreStored from log
    → map (filled more) log ≡ map (filled from) log
log-filled_more more from [] i h = refl
log-filled_more more from (l ∷ log) i h =
    let one = filled-more more from l i (All-head (λ e. CameBefore from e.stamp (event_of e.event)) l log h) in
    let rest = log-filled_more more from log i (All-tail (λ e. CameBefore from e.stamp (event_of e.event)) l log h) in
    rw (one, rest)

pub stored-more : (more from : Node → List Mail) (log : List Logged) → Includes more from → AreStored from log → AreStored more log
stored-more more from log i h =
    All-weaker (λ e. CameBefore from e.stamp (event_of e.event)) (λ e. CameBefore more e.stamp (event_of e.event))
    (λ e c. came-more more from e.stamp (event_of e.event) i c) log h

-- a list that grows at its end keeps what it has
pub get-behind : {A : Type 0} (xs ys : List A) (k : ℕ) (x : A) → slice_get xs k ≡ Some x → slice_get (xs ++ ys) k ≡ Some x
get-behind [] ys k x h = absurd (cc)
get-behind (y ∷ xs) ys ℕ.zero x h = h
get-behind (y ∷ xs) ys (ℕ.suc k) x h = get-behind xs ys k x h
