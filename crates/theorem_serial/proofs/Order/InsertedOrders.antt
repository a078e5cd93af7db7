-- A serial execution in two parts, and one more transaction between them.
use Rattle.tcc_base.specs.declared.access.Commit.{Commit}
use Rattle.rules_program.proofs.Lemmas.{serial-append}
use Rattle.rules_program.specs.Plain.{Halted, close}
use Rattle.theorem_serial.proofs
use proofs.Names
use Names.{if_some, got, neither, or-left, ℕ, ◌≡◌, ◌≢◌, Bool, true, false, ◌||◌, ◌==◌, List, [], ◌∷◌, Option, Some, None, MatchOption}
use Names.{IfSome, nat_lt, if◌then◌else◌, refl, sym, subst, ◌∙◌, put, CoreEnd, Run, Halt, Trap, Local, Program, Attempt, Outcome, Goes}
use Names.{Ended, Trapped, steps, begun, Plain, closed, end_of, close_if, if_runs, transaction, Order, commit_of, and_commit, after_order}
use Names.{serial, loads_word, stores_word, uses, Aligned, IsMemory, SameAttempt, AgreeOnUsed, commits_store, commits_touch, orders_core}
use Names.{Again, ◌<◌, ◌++◌, ap, last_tid, IsBelow, Inserted, CanInsert, nats}
use proofs.OneCore.{steps_same, steps-memory, uses-named}

-- The same orders from another machine that agrees on the cores and words that they touch.

-- a transaction from two machines
pub record Twice (base : ℕ) (p : Program) (here there : Plain) (core : ℕ) (done : Plain × Attempt)
    (other : Option (Plain × Attempt)) : Type 0 where
  pub plain : Plain
  pub ram : ℕ → ℕ
  pub same : other ≡ Some (plain, record done.1 { ram = ram })
  pub memory : IsMemory done.0.ram
  pub memory_there : IsMemory plain.ram
  pub own : plain.cores core ≡ done.0.cores core
  pub others_here : (c : ℕ) → c ≢ core → done.0.cores c ≡ here.cores c
  pub others_there : (c : ℕ) → c ≢ core → plain.cores c ≡ there.cores c
  pub stored : (w : ℕ) → stores_word base done.1.stores w ≡ true → plain.ram w ≡ done.0.ram w
  pub kept_here : (w : ℕ) → stores_word base done.1.stores w ≡ false → done.0.ram w ≡ here.ram w
  pub kept_there : (w : ℕ) → stores_word base done.1.stores w ≡ false → plain.ram w ≡ there.ram w

pub put-same : {A : Type 0} → (f : ℕ → A) (i : ℕ) (v : A) → put f i v i ≡ v
put-same f i v = let e : (i == i) ≡ true = grind nats in rw e

put-other : {A : Type 0} → (f : ℕ → A) (i j : ℕ) (v : A) → j ≢ i → put f i v j ≡ f j
put-other f i j v h = let e : (j == i) ≡ false = grind nats in rw e

-- both attempts are closed alike
close_twice : (base : ℕ) (p : Program) (here there : Plain) (core : ℕ) (a : Attempt) (ended : CoreEnd) (ram : ℕ → ℕ)
    → IsMemory a.ram → IsMemory ram → there.cores core ≡ here.cores core
    → ((w : ℕ) → stores_word base a.stores w ≡ true → ram w ≡ a.ram w)
    → ((w : ℕ) → stores_word base a.stores w ≡ false → a.ram w ≡ here.ram w)
    → ((w : ℕ) → stores_word base a.stores w ≡ false → ram w ≡ there.ram w)
    → Twice base p here there core (closed here core a ended, a)
    (Some (closed there core (record a { ram = ram }) ended, record a { ram = ram }))
unfolding closed
close_twice base p here there core a ended ram ma mr e s kh kt = record {
  plain = closed there core (record a { ram = ram }) ended;
  ram = ram;
  same = refl;
  memory = ma;
  memory_there = mr;
  own = put-same there.cores core _ ∙ rw e (sym (put-same here.cores core _));
  others_here = λ c h. put-other here.cores core c _ h;
  others_there = λ c h. put-other there.cores core c _ h;
  stored = s;
  kept_here = kh;
  kept_there = kt;
}

-- what is to be shown of two transactions
abbrev pub TwiceIf : (base : ℕ) → Program → (here there : Plain) → (core : ℕ) → Option (Plain × Attempt) → Option (Plain × Attempt) → Type 0
TwiceIf base p here there core one other =
    IfSome one (λ done. ((w : ℕ) → (loads_word base done.1.loads w || stores_word base done.1.stores w) ≡ true → here.ram w ≡ there.ram w)
    → Twice base p here there core done other)

closes_twice : (base : ℕ) (p : Program) (here there : Plain) (core : ℕ) (one other : Option Attempt) → there.cores core ≡ here.cores core
    → IfSome one (λ a. IsMemory a.ram) → IfSome other (λ a. IsMemory a.ram)
    → IfSome one (λ a. ((w : ℕ) → (loads_word base a.loads w || stores_word base a.stores w) ≡ true → here.ram w ≡ there.ram w)
    → SameAttempt base here.ram there.ram a other)
    → TwiceIf base p here there core (close_if here core one) (close_if there core other)
closes_twice base p here there core None other e m mo f = tt
closes_twice base p here there core (Some a) other e m mo f = go a.outcome refl
  where
    go : (o : Outcome) → a.outcome ≡ o → TwiceIf base p here there core (close here core a (end_of o)) (close_if there core other)
    go Goes q = tt
    go Ended q = λ agree. let g = f agree in
        rw g.same (subst (λ x. Twice base p here there core (closed here core a Run, a)
        (close there core (record a { ram = g.ram }) (end_of x))) (sym q)
        (close_twice base p here there core a Run g.ram m (rw g.same at mo) e g.stored g.kept_here g.kept_there))
    go (Halted code) q = λ agree. let g = f agree in
        rw g.same (subst (λ x. Twice base p here there core (closed here core a (Halt code), a)
        (close there core (record a { ram = g.ram }) (end_of x))) (sym q)
        (close_twice base p here there core a (Halt code) g.ram m (rw g.same at mo) e g.stored g.kept_here g.kept_there))
    go (Trapped code) q = λ agree. let g = f agree in
        rw g.same (subst (λ x. Twice base p here there core (closed here core a (Trap code), a)
        (close there core (record a { ram = g.ram }) (end_of x))) (sym q)
        (close_twice base p here there core a (Trap code) g.ram m (rw g.same at mo) e g.stored g.kept_here g.kept_there))

run_twice : (base : ℕ) (p : Program) (here there : Plain) (core : ℕ) (x : CoreEnd) (one other : Option (Plain × Attempt))
    → TwiceIf base p here there core one other → TwiceIf base p here there core (if_runs x one) (if_runs x other)
run_twice base p here there core Run one other t = t
run_twice base p here there core _ one other t = tt

-- where the words named agree, the words used agree
same_named : (base : ℕ) (p : Program) (n : ℕ) (l : Local) (here there : ℕ → ℕ) → Aligned p → IsMemory here → IsMemory there
    → IfSome (steps base p n (begun l here))
    (λ a. ((w : ℕ) → (loads_word base a.loads w || stores_word base a.stores w) ≡ true → here w ≡ there w)
    → SameAttempt base here there a (steps base p n (begun l there)))
same_named base p n l here there al mh mt = go (steps base p n (begun l here)) refl (uses-named base p n (begun l here))
    (steps_same base p n l here there al mh mt)
  where
    go : (o : Option Attempt) → steps base p n (begun l here) ≡ o
        → ((w : ℕ) → uses base p n (begun l here) w ≡ true
        → IfSome o (λ a. (loads_word base a.loads w || stores_word base a.stores w) ≡ true))
        → (AgreeOnUsed base p n l here there
        → MatchOption o (steps base p n (begun l there) ≡ None) (λ a. SameAttempt base here there a (steps base p n (begun l there))))
        → IfSome o (λ a. ((w : ℕ) → (loads_word base a.loads w || stores_word base a.stores w) ≡ true → here w ≡ there w)
        → SameAttempt base here there a (steps base p n (begun l there)))
    go None q u f = tt
    go (Some a) q u f = λ agree. f (λ w t. agree w (u w t))

transaction_twice : (base : ℕ) (p : Program) (here there : Plain) (core n : ℕ) → Aligned p → IsMemory here.ram → IsMemory there.ram
    → there.cores core ≡ here.cores core → TwiceIf base p here there core (transaction base p here core n) (transaction base p there core n)
unfolding transaction begun
transaction_twice base p here there core n al mh mt e = rw e (run_twice base p here there core (here.cores core).ended _ _
    (closes_twice base p here there core (steps base p n (begun (here.cores core).local here.ram))
    (steps base p n (begun (here.cores core).local there.ram)) e (steps-memory base p n (begun (here.cores core).local here.ram) al mh)
    (steps-memory base p n (begun (here.cores core).local there.ram) al mt)
    (same_named base p n (here.cores core).local here.ram there.ram al mh mt)))

-- the orders from two machines
commits_touch-store : (base : ℕ) (cs : List Commit) (w : ℕ) → commits_touch base cs w ≡ false → commits_store base cs w ≡ false
unfolding commits_touch commits_store
commits_touch-store base [] w h = refl
commits_touch-store base (c ∷ cs) w h = go (loads_word base c.loads w) (stores_word base c.stores w) (commits_touch-store base cs w) h
  where
    go : (x y : Bool) → (commits_touch base cs w ≡ false → commits_store base cs w ≡ false) → ((x || y) || commits_touch base cs w) ≡ false
        → (y || commits_store base cs w) ≡ false
    go x a r h = grind nats

abbrev AgainIf : (base : ℕ) → List Order → (here there : Plain) → Option (Plain × List Commit) → Option (Plain × List Commit) → Type 0
AgainIf base os here there one other = IfSome one (λ done. ((c : ℕ) → orders_core os c ≡ true → there.cores c ≡ here.cores c)
    → ((w : ℕ) → commits_touch base done.1 w ≡ true → here.ram w ≡ there.ram w) → Again base os here there done other)

again_then : {base : ℕ} {p : Program} (o : Order) (os : List Order) {here there : Plain} {done : Plain × Attempt}
    (rest : Plain × List Commit) {other : Option (Plain × Attempt)} (more : Plain → Option (Plain × List Commit))
    → Twice base p here there o.core done other
    → ((k : Plain) → IsMemory k.ram → ((c : ℕ) → orders_core os c ≡ true → k.cores c ≡ done.0.cores c)
    → ((w : ℕ) → commits_touch base rest.1 w ≡ true → done.0.ram w ≡ k.ram w) → Again base os done.0 k rest (more k))
    → ((c : ℕ) → orders_core (o ∷ os) c ≡ true → there.cores c ≡ here.cores c)
    → ((w : ℕ) → commits_touch base (commit_of o done.1 ∷ rest.1) w ≡ true → here.ram w ≡ there.ram w)
    → Again base (o ∷ os) here there (rest.0, commit_of o done.1 ∷ rest.1) (after_order more o other)
unfolding orders_core commits_store commits_touch commit_of
again_then {base} o os {done} rest more t again cores words =
    let r = again t.plain t.memory_there (λ c h. middle_cores c h (o.core == c) refl)
    (λ w h. middle_words w h (stores_word base done.1.stores w) refl) in
    rw t.same (rw r.same (record {
      plain = r.plain;
      same = refl;
      ran = λ c h. ran r c (orders_core os c) refl h;
      idle_here = λ c h. let k = neither (o.core == c) (orders_core os c) h in
          r.idle_here c k.1 ∙ t.others_here c (λ e. differ e k.0);
      idle_there = λ c h. let k = neither (o.core == c) (orders_core os c) h in
          r.idle_there c k.1 ∙ t.others_there c (λ e. differ e k.0);
      stored = λ w h. stored r w (commits_store base rest.1 w) refl h;
      kept_here = λ w h. let k = neither (stores_word base done.1.stores w) (commits_store base rest.1 w) h in
          r.kept_here w k.1 ∙ t.kept_here w k.0;
      kept_there = λ w h. let k = neither (stores_word base done.1.stores w) (commits_store base rest.1 w) h in
          r.kept_there w k.1 ∙ t.kept_there w k.0;
    }))
  where
    differ : {c : ℕ} → c ≡ o.core → (o.core == c) ≡ false → ⊥
    differ e q = grind nats

    middle_cores : (c : ℕ) → orders_core os c ≡ true → (b : Bool) → (o.core == c) ≡ b → t.plain.cores c ≡ done.0.cores c
    middle_cores c h a q = grind nats

    middle_words : (w : ℕ) → commits_touch base rest.1 w ≡ true → (b : Bool) → stores_word base done.1.stores w ≡ b
        → done.0.ram w ≡ t.plain.ram w
    middle_words w h a q = grind nats

    ran : (r : Again base os done.0 t.plain rest (more t.plain)) (c : ℕ) (b : Bool) → orders_core os c ≡ b
        → ((o.core == c) || orders_core os c) ≡ true → r.plain.cores c ≡ rest.0.cores c
    ran r c a q h = grind nats

    stored : (r : Again base os done.0 t.plain rest (more t.plain)) (w : ℕ) (b : Bool) → commits_store base rest.1 w ≡ b
        → (stores_word base done.1.stores w || commits_store base rest.1 w) ≡ true → r.plain.ram w ≡ rest.0.ram w
    stored r w a q h = grind nats

rest_again : (base : ℕ) (p : Program) (o : Order) (os : List Order) (here there : Plain) (done : Plain × Attempt)
    (x : Option (Plain × List Commit)) (other : Option (Plain × Attempt)) (more : Plain → Option (Plain × List Commit))
    → ((c : ℕ) → orders_core (o ∷ os) c ≡ true → there.cores c ≡ here.cores c)
    → TwiceIf base p here there o.core (Some done) other
    → ((k : Plain) → IsMemory done.0.ram → IsMemory k.ram → AgainIf base os done.0 k x (more k))
    → IfSome (and_commit (commit_of o done.1) x) (λ d. ((w : ℕ) → commits_touch base d.1 w ≡ true → here.ram w ≡ there.ram w)
    → Again base (o ∷ os) here there d (after_order more o other))
unfolding commits_touch commit_of
rest_again base p o os here there done None other more cores t again = tt
rest_again base p o os here there done (Some rest) other more cores t again = λ words.
    let u : Twice base p here there o.core done other = t (λ w h. words w (or-left _ _ h)) in
    again_then o os rest more u (λ k mk c w. again k u.memory mk c w) cores words

when_again : (base : ℕ) (p : Program) (o : Order) (os : List Order) (here there : Plain) (b : Bool) (one other : Option (Plain × Attempt))
    (more : Plain → Option (Plain × List Commit))
    → (there.cores o.core ≡ here.cores o.core → TwiceIf base p here there o.core one other)
    → ((k m : Plain) → IsMemory k.ram → IsMemory m.ram → AgainIf base os k m (more k) (more m))
    → AgainIf base (o ∷ os) here there (if b then after_order more o one else None) (if b then after_order more o other else None)
unfolding orders_core
when_again base p o os here there false one other more t again = tt
when_again base p o os here there true None other more t again = tt
when_again base p o os here there true (Some done) other more t again = if_some (and_commit (commit_of o done.1) (more done.0))
    (λ d eq cores. got _ eq (rest_again base p o os here there done (more done.0) other more cores
    (t (cores o.core (or-left (o.core == o.core) (orders_core os o.core) (grind nats)))) (again done.0)))

pub serial_again : (base : ℕ) (p : Program) (last : ℕ) (os : List Order) (here there : Plain) → Aligned p → IsMemory here.ram
    → IsMemory there.ram → AgainIf base os here there (serial base p last os here) (serial base p last os there)
unfolding serial orders_core commits_store
serial_again base p last [] here there al mh mt = λ cores words. record {
  plain = there;
  same = refl;
  ran = λ c h. absurd (cc);
  idle_here = λ c h. refl;
  idle_there = λ c h. refl;
  stored = λ w h. absurd (cc);
  kept_here = λ w h. refl;
  kept_there = λ w h. refl;
}
serial_again base p last (o ∷ os) here there al mh mt =
    when_again base p o os here there (nat_lt last o.tid) (transaction base p here o.core o.n) (transaction base p there o.core o.n)
    (serial base p o.tid os)
    (transaction_twice base p here there o.core o.n al mh mt) (λ k m mk mm. serial_again base p o.tid os k m al mk mm)

pub orders_joined : (base : ℕ) (p : Program) (last : ℕ) (early late : List Order) (o : Order) (m start done end : Plain) (a : Attempt)
    (before after : List Commit) → CanInsert base p last early late o m start done end a before after
    → serial base p last (early ++ late) m ≡ Some (end, before ++ after)
orders_joined base p last early late o m start done end a before after c = serial-append base p last early late m
    ∙ rw (c.first, c.then_late)

-- what a transaction leaves alone
transaction_once : (base : ℕ) (p : Program) (m : Plain) (core n : ℕ) → Aligned p → IsMemory m.ram
    → IfSome (transaction base p m core n) (λ done. Twice base p m m core done (transaction base p m core n))
transaction_once base p m core n al mm = go (transaction base p m core n) refl (transaction_twice base p m m core n al mm mm refl)
  where
    go : (x : Option (Plain × Attempt)) → transaction base p m core n ≡ x → TwiceIf base p m m core x (transaction base p m core n)
        → IfSome x (λ done. Twice base p m m core done (transaction base p m core n))
    go None e t = tt
    go (Some d) e t = t (λ w h. refl)

-- words of 32 bits stay so
memory_then : (base : ℕ) (p : Program) (o : Order) (m : Plain) (b : Bool) (one other : Option (Plain × Attempt))
    (more : Plain → Option (Plain × List Commit))
    → IfSome one (λ done. Twice base p m m o.core done other)
    → ((k : Plain) → IsMemory k.ram → IfSome (more k) (λ r. IsMemory r.0.ram))
    → IfSome (if b then after_order more o one else None) (λ r. IsMemory r.0.ram)
memory_then base p o m false one other more t h = tt
memory_then base p o m true None other more t h = tt
memory_then base p o m true (Some d) other more t h = go (more d.0) (h d.0 t.memory)
  where
    go : (x : Option (Plain × List Commit)) → IfSome x (λ r. IsMemory r.0.ram)
        → IfSome (and_commit (commit_of o d.1) x) (λ r. IsMemory r.0.ram)
    go None h = tt
    go (Some r) h = h

pub serial-memory : (base : ℕ) (p : Program) (last : ℕ) (os : List Order) (m : Plain) → Aligned p → IsMemory m.ram
    → IfSome (serial base p last os m) (λ r. IsMemory r.0.ram)
unfolding serial
serial-memory base p last [] m al mm = mm
serial-memory base p last (o ∷ os) m al mm = memory_then base p o m (nat_lt last o.tid) (transaction base p m o.core o.n)
    (transaction base p m o.core o.n) (serial base p o.tid os) (transaction_once base p m o.core o.n al mm)
    (λ k mk. serial-memory base p o.tid os k al mk)

-- the last TID matters for the first order alone
serial-below : (base : ℕ) (p : Program) (last tid : ℕ) (os : List Order) (m : Plain) → last < tid → IsBelow tid os
    → serial base p tid os m ≡ serial base p last os m
unfolding serial
serial-below base p last tid a m l b = grind nats

whole_inserted : {base : ℕ} {p : Program} {last : ℕ} {early late : List Order} {o : Order} {m start done end : Plain}
    (plain : Plain) {a : Attempt} {before after : List Commit} → CanInsert base p last early late o m start done end a before after
    → serial base p (last_tid last early) late done ≡ Some (plain, after)
    → serial base p last (early ++ o ∷ late) m ≡ Some (plain, before ++ commit_of o a ∷ after)
unfolding serial
whole_inserted plain c e = grind (nats, serial-below, serial-append)

differs : (late : List Order) (c core : ℕ) → orders_core late core ≡ false → orders_core late c ≡ true → c ≢ core
differs late c core h k e = let q : orders_core late c ≡ orders_core late core = ap (orders_core late) e in absurd (cc)

inserted_again : {base : ℕ} {p : Program} {late : List Order} (o : Order) {start done end : Plain}
    (a : Attempt) {before after : List Commit} {with_it other : Option (Plain × List Commit)} → orders_core late o.core ≡ false
    → ((w : ℕ) → stores_word base a.stores w ≡ true → commits_touch base after w ≡ false)
    → Twice base p start start o.core (done, a) (Some (done, a)) → (g : Again base late start done (end, after) other)
    → with_it ≡ Some (g.plain, before ++ commit_of o a ∷ after) → Inserted base before o a after done end with_it
inserted_again {base} {late} o {end} a {after} another apart t g e = record {
  plain = g.plain;
  commits = e;
  own_core = g.idle_there o.core another;
  other_cores = λ c h. cores c h (orders_core late c) refl;
  stored = λ w h. g.kept_there w (commits_touch-store base after w (apart w h));
  others = λ w h. words w h (commits_store base after w) refl;
}
  where
    cores : (c : ℕ) → c ≢ o.core → (b : Bool) → orders_core late c ≡ b → g.plain.cores c ≡ end.cores c
    cores c h a q = grind nats

    words : (w : ℕ) → stores_word base a.stores w ≡ false → (b : Bool) → commits_store base after w ≡ b → g.plain.ram w ≡ end.ram w
    words w h a q = grind nats

pub order_inserted : (base : ℕ) (p : Program) (last : ℕ) (early late : List Order) (o : Order) (m start done end : Plain) (a : Attempt)
    (before after : List Commit) → Aligned p → IsMemory m.ram → CanInsert base p last early late o m start done end a before after
    → Inserted base before o a after done end (serial base p last (early ++ o ∷ late) m)
order_inserted base p last early late o m start done end a before after al mm c =
    let ms : IsMemory start.ram = rw c.first at (serial-memory base p last early m al mm) in
    let t : Twice base p start start o.core (done, a) (Some (done, a)) =
    rw c.executed at (transaction_once base p start o.core o.n al ms) in
    let f = rw c.then_late at (serial_again base p (last_tid last early) late start done al ms t.memory) in
    let g : Again base late start done (end, after) (serial base p (last_tid last early) late done) =
    f (λ k h. t.others_here k (differs late k o.core c.another_core h))
    (λ w h. sym (t.kept_here w (untouched w h (stores_word base a.stores w) refl))) in
    inserted_again o a c.another_core c.apart t g (whole_inserted g.plain c g.same)
  where
    untouched : (w : ℕ) → commits_touch base after w ≡ true → (b : Bool) → stores_word base a.stores w ≡ b
        → stores_word base a.stores w ≡ false
    untouched w h a q = grind nats
