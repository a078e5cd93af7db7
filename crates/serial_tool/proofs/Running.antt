-- The serial execution of listed orders: where it ends, it has ended.
use Rattle.std.proofs.Common.{◌≡◌, ℕ, zero, suc, ◌+◌, ◌<◌, ◌≤◌, List, [], ◌∷◌, ◌++◌, Option, Some, None, IsSome, IsSomeAnd, All, map}
use Rattle.std.proofs.Common.{length, take, drop, get_or, slice_get, true≢false, refl, sym, ap, ◌∙◌, subst, inl, inr, ◌⊎◌}
use Rattle.std.proofs.Common.{take-append-drop, arith}
use Rattle.std.proofs.lemmas.Bool.{cases_lt, le-ltb}
use Rattle.std.proofs.lemmas.List.{length-map, map-append, take-map, take_more}
use Rattle.std.proofs.lemmas.List.Elements.{All-map}
use Rattle.std.proofs.lemmas.Option.{get_or_from_slice_get, slice_get_within}
use Rattle.image_load.specs.Contents.{Contents, started}
use Rattle.rv_code.specs.Machine.{program}
use Rattle.rv_plain.specs.Machine.{plain_start}
use Rattle.rv_plain.specs.PlainState.{PlainState, order_of, plain_of, serial_of}
use Rattle.rv_plain.specs.Serials.{Executed, IsSerialFault, tid_before}
use Rattle.rv_plain.specs.declared.plain.Order.{Order}
use Rattle.rv_plain.specs.declared.plain.SerialFault.TheVariants.{NotRising, NotEnding}
use Rattle.tcc_base.specs.declared.access.Commit.{Commit}
use Rattle.rules_program.proofs.Lemmas.{serial-append}
use Rattle.rules_program.specs.Orders.{joined, last_tid}
use Rattle.rules_program.specs.Plain.{Plain, Order as PlainOrder, serial}
use Rattle.rules_program.specs.Program.{Program}
use Rattle.serial_tool.specs.Laws.{PieceFaultsAreAlike, PieceFaultsHaveNoRun, PiecesJoin, RunFaultsAreAlike, RunFaultsHaveNoRun}
use Rattle.serial_tool.specs.Runs.{Beginning, IsStuckFrom, at_start, beginning_of, serial_from}
use Rattle.serial_tool.specs.declared.reading.Listed.{Listed}

-- ---- after orders that can't be executed, none can

joined-none : (x : Option (Plain × List Commit)) (more : Plain → Option (Plain × List Commit)) → x ≡ None → joined x more ≡ None
joined-none x more e = ap (λ (y : Option (Plain × List Commit)). joined y more) e

none-after : (base : ℕ) (p : Program) (last : ℕ) (early late : List PlainOrder) (m : Plain) → serial base p last early m ≡ None
    → serial base p last (early ++ late) m ≡ None
none-after base p last early late m e = serial-append base p last early late m ∙ joined-none _ _ e

none-on : (b : Beginning) (k : ℕ) (listed : List Listed) → serial_from b (take k listed) ≡ None → serial_from b listed ≡ None
none-on b k listed e =
    let p = program b.start in
    let f = λ (l : Listed). order_of l.order in
    let whole : map f (take k listed) ++ map f (drop k listed) ≡ map f listed =
    sym (map-append f (take k listed) (drop k listed)) ∙ ap (map f) (take-append-drop k listed) in
    subst (λ (os : List PlainOrder). serial b.start.settings.base p b.last os b.machine ≡ None) whole
    (none-after b.start.settings.base p b.last (map f (take k listed)) (map f (drop k listed)) b.machine e)

pub piece-faults-have-no-run : PieceFaultsHaveNoRun
piece-faults-have-no-run b listed k f = none-on b (f.place + 1) listed f.stuck

pub faults-have-no-run : RunFaultsHaveNoRun
faults-have-no-run s listed k f = piece-faults-have-no-run (at_start s) listed k f

pub pieces-join : PiecesJoin
pieces-join b xs ys =
    let f = λ (l : Listed). order_of l.order in
    ap (λ (os : List PlainOrder). serial b.start.settings.base (program b.start) b.last os b.machine) (map-append f xs ys)
    ∙ serial-append b.start.settings.base (program b.start) b.last (map f xs) (map f ys) b.machine

is-some : {A : Type 0} (x : Option A) → IsSome x → x ≡ None → ⊥
is-some None h e = true≢false (sym h)
is-some (Some x) h e = absurd cc

-- a first place at fault isn't before another
not-before : (at : Beginning) (listed : List Listed) (j k : ℕ) (a : IsStuckFrom at listed j) (b : IsStuckFrom at listed k)
    → a.place < b.place → ⊥
not-before at listed j k a b less =
    let first : take (a.place + 1) (take b.place listed) ≡ take (a.place + 1) listed =
    take-take-le (a.place + 1) b.place listed (omega arith) in
    is-some (serial_from at (take b.place listed)) b.before
    (none-on at (a.place + 1) (take b.place listed) (ap (serial_from at) first ∙ a.stuck))
  where
    take-zero : (xs : List Listed) → take 0 xs ≡ []
    take-zero [] = refl
    take-zero (x ∷ xs) = refl

    take-take-le : (m n : ℕ) (ls : List Listed) → m ≤ n → take m (take n ls) ≡ take m ls
    take-take-le zero n ls h = take-zero (take n ls) ∙ sym (take-zero ls)
    take-take-le (suc m) zero ls h = absurd (omega arith)
    take-take-le (suc m) (suc n) [] h = refl
    take-take-le (suc m) (suc n) (l ∷ ls) h = ap (λ (t : List Listed). l ∷ t) (take-take-le m n ls (omega arith))

pub piece-faults-alike : PieceFaultsAreAlike
piece-faults-alike at listed j k a b = go (cases_lt a.place b.place) (cases_lt b.place a.place)
  where
    go : (a.place < b.place) ⊎ (b.place ≤ a.place) → (b.place < a.place) ⊎ (a.place ≤ b.place) → j ≡ k
    go (inl h) e = absurd (not-before at listed j k a b h)
    go (inr h) (inl g) = absurd (not-before at listed k j b a g)
    go (inr h) (inr g) =
        let same : a.place ≡ b.place = omega arith in
        let orders : Some a.order ≡ Some b.order = sym a.there ∙ ap (slice_get listed) same ∙ b.there in
        let one : a.order ≡ b.order = cc in
        a.line ∙ ap (λ (l : Listed). l.line) one ∙ sym b.line

pub run-faults-alike : RunFaultsAreAlike
run-faults-alike s listed j k a b = piece-faults-alike (at_start s) listed j k a b

-- ---- the code's plain machine

map-orders : (listed : List Listed) → map order_of (map (λ l. l.order) listed) ≡ map (λ l. order_of l.order) listed
map-orders [] = refl
map-orders (l ∷ listed) = ap (λ (os : List PlainOrder). order_of l.order ∷ os) (map-orders listed)

same-serial : (s : PlainState) (last : ℕ) (listed : List Listed)
    → serial_of s last (map (λ l. l.order) listed) ≡ serial_from (beginning_of s last) listed
unfolding started
same-serial s last listed = λ i.
    serial s.loaded.settings.base (program (started s.loaded)) last (map-orders listed i) (plain_of s)

first-serial : (s : PlainState) (last : ℕ) (listed : List Listed) (orders : List Order) (k : ℕ) → orders ≡ map (λ l. l.order) listed
    → serial_of s last (take k orders) ≡ serial_from (beginning_of s last) (take k listed)
first-serial s last listed orders k same =
    ap (λ (os : List Order). serial_of s last (take k os)) same
    ∙ ap (serial_of s last) (take-map (λ l. l.order) k listed)
    ∙ same-serial s last (take k listed)

pub cores-there : (cores : ℕ) (listed : List Listed) (orders : List Order) → orders ≡ map (λ l. l.order) listed
    → All (λ l. l.order.core.0 < cores) listed → All (λ o. o.core.0 < cores) orders
cores-there cores listed orders same there =
    subst (All (λ o. o.core.0 < cores)) (sym same) (All-map (λ o. o.core.0 < cores) (λ l. l.order) listed there)

pub executed-is : (s : PlainState) (last : ℕ) (listed : List Listed) (after : PlainState) (orders : List Order) (commits : List Commit)
    → orders ≡ map (λ l. l.order) listed → Executed s last orders after commits
    → serial_from (beginning_of s last) listed ≡ Some (plain_of after, commits)
executed-is s last listed after orders commits same done =
    sym (ap (serial_of s last) same ∙ same-serial s last listed) ∙ go (serial_of s last orders) done
  where
    go : (x : Option (Plain × List Commit)) → IsSomeAnd x (λ r. (plain_of after ≡ r.0) × (commits ≡ r.1))
        → x ≡ Some (plain_of after, commits)
    go None h = absurd h
    go (Some r) h = λ i. Some ((sym h.0) i, (sym h.1) i)

-- the machine at the start of what was loaded
pub begins-at-start : (c : Contents) (s : PlainState) → s.loaded ≡ c → plain_of s ≡ plain_start (started c)
    → beginning_of s 0 ≡ at_start (started c)
begins-at-start c s loaded start = λ i. record { start = started (loaded i); machine = start i; last = 0 }

-- ---- the first order that ends the execution

-- an order whose TID doesn't rise
low-alone : (base : ℕ) (p : Program) (last : ℕ) (o : PlainOrder) (k : Plain) → o.tid ≤ last → serial base p last (o ∷ []) k ≡ None
unfolding serial
low-alone base p last o k low = rw (le-ltb last o.tid low) refl

not-rising : (base : ℕ) (p : Program) (last : ℕ) (os : List PlainOrder) (o : PlainOrder) (m : Plain) → o.tid ≤ last_tid last os
    → serial base p last (os ++ o ∷ []) m ≡ None
not-rising base p last os o m low = serial-append base p last os (o ∷ []) m ∙ go (serial base p last os m)
  where
    go : (x : Option (Plain × List Commit)) → joined x (serial base p (last_tid last os) (o ∷ [])) ≡ None
    go None = refl
    go (Some r) = rw (low-alone base p (last_tid last os) o r.0 low) refl

pub rising-fault : (s : PlainState) (last : ℕ) (orders : List Order) (i : ℕ) → IsSerialFault s last orders (NotRising i)
    → serial_of s last (take (i + 1) orders) ≡ None
rising-fault s last orders i f = go (slice_get orders i) refl f.1
  where
    go : (x : Option Order) → slice_get orders i ≡ x → IsSomeAnd x (λ o. o.tid.0 ≤ tid_before last orders i)
        → serial_of s last (take (i + 1) orders) ≡ None
    go None e h = absurd h
    go (Some o) e h =
        let within : i < length orders = slice_get_within orders i o e in
        let mine : get_or orders i o ≡ o = get_or_from_slice_get orders i o o e in
        let more : take (i + 1) orders ≡ take i orders ++ o ∷ [] =
        take_more orders i o within ∙ ap (λ (x : Order). take i orders ++ x ∷ []) mine in
        let parts : map order_of (take (i + 1) orders) ≡ map order_of (take i orders) ++ order_of o ∷ [] =
        ap (map order_of) more ∙ map-append order_of (take i orders) (o ∷ []) in
        ap (λ (os : List PlainOrder). serial s.loaded.settings.base (program (started s.loaded)) last os (plain_of s)) parts
        ∙ not-rising s.loaded.settings.base (program (started s.loaded)) last (map order_of (take i orders)) (order_of o) (plain_of s) h

-- the place of an order at fault
pub record FaultAt (s : PlainState) (last : ℕ) (orders : List Order) (i : ℕ) : Type 0 where
  pub there : i < length orders
  pub before : IsSome (serial_of s last (take i orders))
  pub stuck : serial_of s last (take (i + 1) orders) ≡ None

some-within : (P : Order → Type 0) (orders : List Order) (i : ℕ) → IsSomeAnd (slice_get orders i) P → i < length orders
some-within P orders i h = go (slice_get orders i) refl h
  where
    go : (x : Option Order) → slice_get orders i ≡ x → IsSomeAnd x P → i < length orders
    go None e h = absurd h
    go (Some o) e h = slice_get_within orders i o e

pub at-rising : (s : PlainState) (last : ℕ) (orders : List Order) (i : ℕ) → IsSerialFault s last orders (NotRising i)
    → FaultAt s last orders i
at-rising s last orders i f = record {
  there = some-within (λ o. o.tid.0 ≤ tid_before last orders i) orders i f.1;
  before = f.0;
  stuck = rising-fault s last orders i f;
}

pub at-ending : (s : PlainState) (last : ℕ) (orders : List Order) (i : ℕ) → IsSerialFault s last orders (NotEnding i)
    → FaultAt s last orders i
at-ending s last orders i f = record {
  there = some-within (λ o. tid_before last orders i < o.tid.0) orders i f.1;
  before = f.0;
  stuck = f.2;
}

pub fault-within : (s : PlainState) (last : ℕ) (listed : List Listed) (orders : List Order) (i : ℕ) → orders ≡ map (λ l. l.order) listed
    → FaultAt s last orders i → i < length listed
fault-within s last listed orders i same f =
    let long : length orders ≡ length listed = ap length same ∙ length-map listed (λ l. l.order) in
    let there = f.there in
    omega arith

pub stuck-at : (s : PlainState) (last : ℕ) (listed : List Listed) (orders : List Order) (i k : ℕ) → orders ≡ map (λ l. l.order) listed
    → FaultAt s last orders i → IsSomeAnd (slice_get listed i) (λ l. k ≡ l.line) → IsStuckFrom (beginning_of s last) listed k
stuck-at s last listed orders i k same f read = go (slice_get listed i) refl read
  where
    go : (x : Option Listed) → slice_get listed i ≡ x → IsSomeAnd x (λ l. k ≡ l.line) → IsStuckFrom (beginning_of s last) listed k
    go None e h = absurd h
    go (Some l) e h = record {
      place = i;
      order = l;
      there = e;
      line = h;
      before = subst IsSome (first-serial s last listed orders i same) f.before;
      stuck = sym (first-serial s last listed orders (i + 1) same) ∙ f.stuck;
    }
