-- The whole list along every run, from what each event keeps of it; and so every run is serial.
use Rattle.theorem_serial.proofs
use proofs.Names
use Names.{if_some, got, ◌≡◌, List, [], ◌∷◌, ◌++◌, Option, Some, None, refl, ap, subst, sym, ◌∙◌, append_assoc, append-nil, Program, Event}
use Names.{Shape, History, next_history, and_then, run_from, Views, views_after, views_from, granted_by, grants_from, Ways, sent_by}
use Names.{ways_after, ways_from, ℕ, flat_map, inl, serial, Local, is_skipped, first_serving, empty_cache, no_lines, Copy, seen, home_copy}
use Names.{copies, copies_of, copies_on, newest, numbers, core_start, dir_start, vendor_start, start, ReadFits, CoresSerial, SeenSerial}
use Names.{plain_start, live, Carried, StartHasAll, first_state, marks_of, pair, first_ways, run, HomeWords, CopiesAbove, UnmodifiedWords}
use Names.{FilledWords, CopiesHave, value_at, after_commits, start-follows, IfSome, Plain, no_views, Suits, AllHold, RunsAreSerial}
use Names.{CarriedInMemory, CarriedViews, Invariants, Grant, IfSome_then}
use proofs.Memory.HomesKept.{start-memory}
use proofs.Order.{events_serial}
use proofs.Run.FactsOfRuns.{runs_carry, carried-memory, runs_stay_in_memory, runs_carry_views}
use proofs.Values.ModifiedWords.{words_kept}
use proofs.Values.WordsMoved.{homes_kept}
use proofs.Values.SeenWords.{seen_follows}
use proofs.Views.ViewsKept.{keeps_views}

-- A run with one more event behind it: the state, the grants, the ways and the views are those of the run, and then the event's.

-- from first through es to h, and by e to g
pub record OneMore (sh : Shape) (p : Program) (es : List Event) (e : Event) (ys : Ways) (vs : Views) (first h g : History) : Type 0 where
  pub state : run_from sh p (es ++ e ∷ []) first ≡ Some g
  pub grants : grants_from sh p (es ++ e ∷ []) first ≡ grants_from sh p es first ++ granted_by h.world e
  pub ways : ways_from sh p (es ++ e ∷ []) ys first ≡ ways_after (sent_by sh p h.world e) (ways_from sh p es ys first)
  pub views : views_from sh p (es ++ e ∷ []) vs first ≡ views_after sh p h.world e (views_from sh p es vs first)

only-one : (sh : Shape) (p : Program) (e : Event) (ys : Ways) (vs : Views) (first g : History) → next_history sh p first e ≡ Some g
    → OneMore sh p [] e ys vs first first g
unfolding run_from grants_from ways_from views_from
only-one sh p e ys vs first g n = record {
  state = rw n;
  grants = rw n (append-nil (granted_by first.world e));
  ways = rw n;
  views = rw n;
}

abbrev or_else : History → Option History → History
or_else h None = h
or_else h (Some g) = g

one-more : (sh : Shape) (p : Program) (es : List Event) (e : Event) (ys : Ways) (vs : Views) (first h g : History)
    → run_from sh p es first ≡ Some h → next_history sh p h e ≡ Some g → OneMore sh p es e ys vs first h g
unfolding run_from grants_from ways_from views_from
one-more sh p [] e ys vs first h g r n = subst (λ k. next_history sh p k e ≡ Some g → OneMore sh p [] e ys vs first k g)
    (ap (or_else first) r) (only-one sh p e ys vs first g) n
one-more sh p (x ∷ es) e ys vs first h g r n = go (next_history sh p first x) refl r
    (λ f q. one-more sh p es e (ways_after (sent_by sh p first.world x) ys) (views_after sh p first.world x vs) f h g q n)
  where
    go : (o : Option History) → next_history sh p first x ≡ o → and_then (run_from sh p es) o ≡ Some h
        → ((f : History) → run_from sh p es f ≡ Some h
        → OneMore sh p es e (ways_after (sent_by sh p first.world x) ys) (views_after sh p first.world x vs) f h g)
        → OneMore sh p (x ∷ es) e ys vs first h g
    go None q s more = absurd (cc)
    go (Some f) q s more = let k = more f s in record {
      state = rw q k.state;
      grants = rw q (ap (λ gs. granted_by first.world x ++ gs) k.grants
          ∙ sym (append_assoc (granted_by first.world x) (grants_from sh p es f) (granted_by h.world e)));
      ways = rw q k.ways;
      views = rw q k.views;
    }

-- The start has every invariant of the list.

-- no core has a TID and nothing is in flight

-- what is proved of every run holds where the run has no event
start-carried : (sh : Shape) (p : Program) (entries : ℕ → Local) (ram : ℕ → ℕ) → Carried sh [] first_ways (first_state entries ram)
unfolding run run_from grants_from ways_from
start-carried sh p entries ram = runs_carry sh p entries ram []

start-read : (local : Local) → ReadFits (core_start local) []
unfolding core_start empty_cache
start-read local = record { stand = tt; used = λ a x e. absurd (cc) }

-- values
have-none : (entries : ℕ → Local) (ram : ℕ → ℕ) (c d x t y : ℕ) → CopiesHave x t y (pair (start entries ram) c d)
unfolding start core_start empty_cache pair live
have-none entries ram c d x t y = record { framed = λ e. absurd (cc); sent = refl }

start-home-words : (sh : Shape) (entries : ℕ → Local) (ram : ℕ → ℕ) → HomeWords sh ram (start entries ram) []
unfolding start dir_start value_at after_commits no_lines
start-home-words sh entries ram = record {
  at_home = λ d x a b e. refl;
  in_copies = λ c d x a b e. have-none entries ram c d x 0 (ram x);
}

start-copies-above : (sh : Shape) (entries : ℕ → Local) (ram : ℕ → ℕ) → CopiesAbove sh ram (start entries ram) []
start-copies-above sh entries ram c d x t a b e f =
    have-none entries ram c d x t (value_at sh.base ram [] ((start entries ram).dirs d) (Some c) None x)

start-unmodified : (sh : Shape) (entries : ℕ → Local) (ram : ℕ → ℕ) → UnmodifiedWords sh ram (start entries ram) []
unfolding start core_start empty_cache
start-unmodified sh entries ram c d x y a b e f = absurd (cc)

start-filled : (sh : Shape) (entries : ℕ → Local) (ram : ℕ → ℕ) → FilledWords sh ram (start entries ram) []
unfolding start pair live
start-filled sh entries ram c d x a b e f = inl refl

-- what is seen
no-copies : (sh : Shape) (entries : ℕ → Local) (ram : ℕ → ℕ) (x c : ℕ) → copies_of sh (start entries ram) x c ≡ []
unfolding start core_start empty_cache copies_of copies_on
no-copies sh entries ram x c = refl

flat_map-none : (f : ℕ → List Copy) → ((c : ℕ) → f c ≡ []) → (cs : List ℕ) → flat_map f cs ≡ []
flat_map-none f h [] = refl
flat_map-none f h (c ∷ cs) = rw (h c, flat_map-none f h cs)

seen-alone : (sh : Shape) (entries : ℕ → Local) (ram : ℕ → ℕ) (x : ℕ) → (newest (home_copy sh (start entries ram) x) []).value ≡ ram x
unfolding newest home_copy start dir_start
seen-alone sh entries ram x = refl

copies-none : (sh : Shape) (entries : ℕ → Local) (ram : ℕ → ℕ) (x : ℕ) → copies sh (start entries ram) x ≡ []
unfolding copies
copies-none sh entries ram x = flat_map-none (copies_of sh (start entries ram) x) (no-copies sh entries ram x) (numbers sh.cores)

start-seen : (sh : Shape) (entries : ℕ → Local) (ram : ℕ → ℕ) → SeenSerial sh (start entries ram) (plain_start entries ram)
unfolding plain_start seen
start-seen sh entries ram x = ap (λ cs. (newest (home_copy sh (start entries ram) x) cs).value) (copies-none sh entries ram x)
    ∙ seen-alone sh entries ram x

start-cores-serial : (sh : Shape) (entries : ℕ → Local) (ram : ℕ → ℕ) → CoresSerial sh (start entries ram) (plain_start entries ram)
unfolding plain_start start core_start
start-cores-serial sh entries ram c l = record { local = refl; ended = refl }

pub start_has_all : StartHasAll
unfolding start core_start dir_start vendor_start empty_cache pair live is_skipped first_serving marks_of no_lines serial plain_start
start_has_all sh p entries ram = record {
  carried = start-carried sh p entries ram;
  carried_views =
      record { attempt_follows_from_its_view = λ c. start-follows sh p (entries c); read_marks_are_the_view = λ c. start-read (entries c) };
  carried_in_memory = carried-memory sh [] first_ways (first_state entries ram) (start-carried sh p entries ram)
      (start-memory sh entries ram);
  no_view_after_the_halt = λ c e. refl;
  home_words_are_current = start-home-words sh entries ram;
  copy_above_the_tag_has_the_committed_words = start-copies-above sh entries ram;
  unmodified_word_is_current_or_inv_in_flight = start-unmodified sh entries ram;
  filled_word_is_current_or_inv_in_flight = start-filled sh entries ram;
  viewed_word_is_current_or_doomed = λ c d b a e f. tt;
  commits_are_serial = refl;
  committed_cores_are_serial = start-cores-serial sh entries ram;
  seen_words_are_serial = start-seen sh entries ram;
}

-- what is remembered of a run from the start
record Memo : Type 0 where
  gs : List Grant
  ys : Ways
  vs : Views

abbrev memo : Shape → Program → (ℕ → Local) → (ram : ℕ → ℕ) → List Event → Memo
memo sh p entries ram es = record {
  gs = grants_from sh p es (first_state entries ram);
  ys = ways_from sh p es first_ways (first_state entries ram);
  vs = views_from sh p es no_views (first_state entries ram);
}

-- and after one more event
abbrev memo_after : Shape → Program → History → Event → Memo → Memo
memo_after sh p h e o = record {
  gs = o.gs ++ granted_by h.world e;
  ys = ways_after (sent_by sh p h.world e) o.ys;
  vs = views_after sh p h.world e o.vs;
}

-- what is proved of every run by itself
record Proved (sh : Shape) (p : Program) (o : Memo) (h : History) : Type 0 where
  carried : Carried sh o.gs o.ys h
  memory : CarriedInMemory sh h
  views : CarriedViews sh p o.vs h

-- the whole list, for some plain machine
abbrev AllOf : Shape → Program → (ℕ → Local) → (ram : ℕ → ℕ) → Memo → History → Type 0
AllOf sh p entries ram o h = (m : Plain) × Invariants sh p entries ram o.gs o.ys o.vs m h

proved : {sh : Shape} (p : Program) (entries : ℕ → Local) {ram : ℕ → ℕ} (es : List Event) {h : History} → Suits sh p ram
    → run_from sh p es (first_state entries ram) ≡ Some h → Proved sh p (memo sh p entries ram es) h
unfolding run
proved {sh} p entries {ram} es s r = record {
  carried = subst (λ x. IfSome x (Carried sh o.gs o.ys)) r (runs_carry sh p entries ram es);
  memory = subst (λ x. IfSome x (CarriedInMemory sh)) r (runs_stay_in_memory sh p entries ram es s.inside);
  views = subst (λ x. IfSome x (CarriedViews sh p o.vs)) r (runs_carry_views sh p entries ram es s.fits);
}
  where
    o : Memo
    o = memo sh p entries ram es

-- one event keeps the whole list, where what is proved by itself holds after it
step-all : {sh : Shape} (p : Program) {entries : ℕ → Local} {ram : ℕ → ℕ} (o : Memo) (h : History) (e : Event) → Suits sh p ram
    → AllOf sh p entries ram o h
    → IfSome (next_history sh p h e) (λ g. Proved sh p (memo_after sh p h e o) g → AllOf sh p entries ram (memo_after sh p h e o) g)
step-all {sh} p {entries} {ram} o h e s a = if_some (next_history sh p h e) (λ g eq k.
    let homes = got _ eq (homes_kept sh p entries ram o.gs o.ys o.vs a.0 h e s a.1) k.carried in
    let words = got _ eq (words_kept sh p entries ram o.gs o.ys o.vs a.0 h e s a.1) k.carried in
    let views = got _ eq (keeps_views sh p entries ram o.gs o.ys o.vs a.0 h e a.1) k.carried k.views in
    let d = got _ eq (events_serial sh p entries ram o.gs o.ys o.vs a.0 h e s a.1) in (
      d.plain,
      record {
        carried = k.carried;
        carried_views = k.views;
        carried_in_memory = k.memory;
        no_view_after_the_halt = views.1;
        home_words_are_current = homes.0;
        copy_above_the_tag_has_the_committed_words = homes.1;
        unmodified_word_is_current_or_inv_in_flight = words.0;
        filled_word_is_current_or_inv_in_flight = words.1;
        viewed_word_is_current_or_doomed = views.0;
        commits_are_serial = d.commits;
        committed_cores_are_serial = d.cores;
        seen_words_are_serial = seen_follows sh p entries ram n.gs n.ys d.plain g s.dirs k.carried k.memory homes.0 homes.1 d.commits;
      },
    ))
  where
    n : Memo
    n = memo_after sh p h e o

-- what is remembered of the longer run is what the event leaves
memo-more : {sh : Shape} {p : Program} (entries : ℕ → Local) (ram : ℕ → ℕ) {es : List Event} {e : Event} {h g : History}
    → OneMore sh p es e first_ways no_views (first_state entries ram) h g
    → memo sh p entries ram (es ++ e ∷ []) ≡ memo_after sh p h e (memo sh p entries ram es)
memo-more entries ram k = rw (k.grants, k.ways, k.views)

-- the events es behind the events past
from-there : (sh : Shape) (p : Program) (entries : ℕ → Local) (ram : ℕ → ℕ) (past es : List Event) (h : History) → Suits sh p ram
    → run_from sh p past (first_state entries ram) ≡ Some h → AllOf sh p entries ram (memo sh p entries ram past) h
    → IfSome (run_from sh p es h) (λ g. AllOf sh p entries ram (memo sh p entries ram (past ++ es)) g)
unfolding run_from
from-there sh p entries ram past [] h s r a = rw append-nil a
from-there sh p entries ram past (e ∷ es) h s r a = go (next_history sh p h e) refl (step-all p (memo sh p entries ram past) h e s a)
    (λ g q b. from-there sh p entries ram (past ++ e ∷ []) es g s
    (one-more sh p past e first_ways no_views (first_state entries ram) h g r q).state b)
  where
    o : Memo
    o = memo_after sh p h e (memo sh p entries ram past)

    go : (x : Option History) → next_history sh p h e ≡ x → IfSome x (λ g. Proved sh p o g → AllOf sh p entries ram o g)
        → ((g : History) → next_history sh p h e ≡ Some g → AllOf sh p entries ram (memo sh p entries ram (past ++ e ∷ [])) g
        → IfSome (run_from sh p es g) (λ f. AllOf sh p entries ram (memo sh p entries ram ((past ++ e ∷ []) ++ es)) f))
        → IfSome (and_then (run_from sh p es) x) (λ f. AllOf sh p entries ram (memo sh p entries ram (past ++ e ∷ es)) f)
    go None q a more = tt
    go (Some g) q a more =
        let k = one-more sh p past e first_ways no_views (first_state entries ram) h g r q in
        let same : memo sh p entries ram (past ++ e ∷ []) ≡ o = memo-more entries ram k in
        let b : AllOf sh p entries ram o g = a (subst (λ y. Proved sh p y g) same (proved p entries (past ++ e ∷ []) s k.state)) in
        subst (λ fs. IfSome (run_from sh p es g) (AllOf sh p entries ram (memo sh p entries ram fs))) (append_assoc past (e ∷ []) es)
        (more g q (subst (λ y. AllOf sh p entries ram y g) (sym same) b))

start-all : (sh : Shape) (p : Program) (entries : ℕ → Local) (ram : ℕ → ℕ)
    → AllOf sh p entries ram (memo sh p entries ram []) (first_state entries ram)
unfolding grants_from ways_from views_from
start-all sh p entries ram = (plain_start entries ram, start_has_all sh p entries ram)

no-event : (sh : Shape) (p : Program) (entries : ℕ → Local) (ram : ℕ → ℕ)
    → run_from sh p [] (first_state entries ram) ≡ Some (first_state entries ram)
unfolding run_from
no-event sh p entries ram = refl

pub all_hold : AllHold
unfolding run
all_hold sh p entries ram es s = from-there sh p entries ram [] es (first_state entries ram) s (no-event sh p entries ram)
    (start-all sh p entries ram)

pub runs_are_serial : RunsAreSerial
runs_are_serial sh p entries ram es s = IfSome_then (run sh p (start entries ram) es) (all_hold sh p entries ram es s) (λ h a. record {
  plain = a.0;
  commits = (a.1).commits_are_serial;
  cores = (a.1).committed_cores_are_serial;
  memory = (a.1).seen_words_are_serial;
})
