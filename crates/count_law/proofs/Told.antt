-- What an event of a core tells of itself keeps what holds of its counts.
use Rattle.std.proofs.Common.{◌≡◌, ◌==◌, ◌<◌, ◌+◌, ℕ, Bool, true, false, not, List, [], Option, Some, None, IfSome, nat_lt}
use Rattle.std.proofs.Common.{if◌then◌else◌, refl, subst, arith}
use Rattle.std.proofs.lemmas.Bool.Decides.{nat_tests}
use Rattle.tcc_base.specs.declared.access.Commit.{Commit as Noted}
use Rattle.base_lemmas.proofs.Lemmas.{eq-self}
use Rattle.rules_maps.specs.Nodes.{Core}
use Rattle.rules_maps.specs.Shape.{Shape}
use Rattle.rules_program.specs.Program.{Program}
use Rattle.rules_tcc.specs.Attempt.{Out}
use Rattle.rules_tcc.specs.Commit.{commit, committed_core, noted}
use Rattle.rules_tcc.specs.CoreEvict.{core_evict}
use Rattle.rules_tcc.specs.CoreExec.{core_exec, exec_in_phase, unless_awaiting}
use Rattle.rules_tcc.specs.State.{Awaited, CoreState, Phase, Running, Ready, Overflowing, Solo}
use Rattle.watch.specs.Facts.{Fact, Committed}
use Rattle.watch.specs.Happened.{commit_fact}
use Rattle.watch.specs.Instructions.{executed, executed_in, missed_or_else, overflowed_or_done, evicted, evicted_line}
use Rattle.watch_count.specs.Tables.{core_after}
use Rattle.watch_count.specs.declared.tables.CoreCounts.{CoreCounts}
use Rattle.count_law.proofs.Committed.{one, gone, is_mine}
use Rattle.count_law.proofs.Delivered.{is_none, StaysOut, stays, evict-stays}
use Rattle.count_law.proofs.Executed.{started, Started, is_own, accounts, fits, OutFits, execute-fits, free-after}
use Rattle.count_law.proofs.Kept.{Kept, did-kept, committed-kept, all_leave, all-leave-kept}
use Rattle.count_law.proofs.Rows.{row_after}

-- the core and its commit after an event, and what is told of it
pub record Own (c : ℕ) (s : CoreState) (o : Out) (fs : List Fact) : Type 0 where
  pub starts : Started o.core
  pub mine : is_mine c o.commit ≡ true
  pub kept : (x y : ℕ) (k : CoreCounts) → Kept s.n x y k
      → Kept o.core.n (x + one o.commit) (y + gone o.commit) (row_after (Core c) c (commit_fact o.commit) (row_after (Core c) c fs k))
  -- of another core nothing is told
  pub others : (j : ℕ) → not (c == j) ≡ true → all_leave j fs ≡ true

pub own-counts : (n x y : ℕ) (f : Fact) (k : CoreCounts) (b : Bool) → b ≡ true → Kept n x y (core_after f k)
    → Kept n x y (if b then core_after f k else k)
own-counts n x y f k true e h = h
own-counts n x y f k false e h = absurd cc

pub kept-at : (n m x x' y y' : ℕ) (k : CoreCounts) → n ≡ m → x ≡ x' → y ≡ y' → Kept n x y k → Kept m x' y' k
kept-at n m x x' y y' k en ex ey h =
    subst (λ z. Kept m x' z k) ey (subst (λ z. Kept m z y k) ex (subst (λ z. Kept z x y k) en h))

told-commit : (c n n' x y : ℕ) (m : Option Noted) (k : CoreCounts) → n' + gone m ≡ n → is_own c n' m ≡ true → Kept n x y k
    → Kept n' (x + one m) (y + gone m) (row_after (Core c) c (commit_fact m) k)
unfolding row_after
told-commit c n n' x y None k e own h = kept-at n n' x (x + 0) y (y + 0) k (omega (arith, e)) (omega arith) (omega arith) h
told-commit c n n' x y (Some m) k e own h =
    let mine : (m.core.0 == c) ≡ true = grind (arith, nat_tests, own) in
    let none : 0 ≡ n' = grind (arith, nat_tests, own) in
    let all : m.n ≡ n = grind (arith, nat_tests, own, e) in
    let some : 0 < n = grind (arith, nat_tests, own, e) in
    let f = Committed m.tid.0 m.core.0 m.n in
    own-counts n' (x + 1) (y + m.n) f k (m.core.0 == c) mine
    (kept-at 0 n' (x + 1) (x + 1) (y + m.n) (y + m.n) (core_after f k) none refl refl
    (committed-kept n x y m.tid.0 m.core.0 m.n k some all h))

-- ---- an instruction was finished, missed or overflowed

done-told : (sh : Shape) (p : Program) (c n' x y : ℕ) (s t : CoreState) (q : Phase) (m : Option Noted) (k : CoreCounts)
    → accounts c s.n n' None q m ≡ true → Kept s.n x y k
    → Kept n' (x + one m) (y + gone m) (row_after (Core c) c (commit_fact m) (row_after (Core c) c (overflowed_or_done sh p c s t q) k))
unfolding row_after all_leave
done-told sh p c n' x y s t (Overflowing None) m k e h =
    let all : n' + gone m ≡ s.n = grind (arith, nat_tests, e) in
    let own : is_own c n' m ≡ true = grind (arith, nat_tests, e) in
    let facts = overflowed_or_done sh p c s t (Overflowing None) in
    told-commit c s.n n' x y m _ all own (all-leave-kept (Core c) c s.n x y facts k refl h)
done-told sh p c n' x y s t _ m k e h =
    let all : n' + gone m ≡ s.n + 1 = grind (arith, nat_tests, e) in
    let own : is_own c n' m ≡ true = grind (arith, nat_tests, e) in
    told-commit c (s.n + 1) n' x y m _ all own (own-counts (s.n + 1) x y _ k (c == c) (eq-self c) (did-kept s.n x y c _ _ k h))

exec-told : (sh : Shape) (p : Program) (c n' x y : ℕ) (s t : CoreState) (a : Option Awaited) (m : Option Noted) (k : CoreCounts)
    → accounts c s.n n' a t.phase m ≡ true → Kept s.n x y k
    → Kept n' (x + one m) (y + gone m) (row_after (Core c) c (commit_fact m) (row_after (Core c) c (missed_or_else sh p c s t a) k))
unfolding all_leave
exec-told sh p c n' x y s t None m k e h = done-told sh p c n' x y s t t.phase m k e h
exec-told sh p c n' x y s t (Some a) m k e h =
    let all : n' + gone m ≡ s.n = grind (arith, nat_tests, e) in
    let own : is_own c n' m ≡ true = grind (arith, nat_tests, e) in
    let facts = missed_or_else sh p c s t (Some a) in
    told-commit c s.n n' x y m _ all own (all-leave-kept (Core c) c s.n x y facts k refl h)

own-mine : (c n : ℕ) (m : Option Noted) → is_own c n m ≡ true → is_mine c m ≡ true
own-mine c n None e = refl
own-mine c n (Some m) e = grind (arith, nat_tests, e)

done-others : (sh : Shape) (p : Program) (c j : ℕ) (s t : CoreState) (q : Phase) → not (c == j) ≡ true
    → all_leave j (overflowed_or_done sh p c s t q) ≡ true
unfolding all_leave
done-others sh p c j s t (Overflowing None) o = refl
done-others sh p c j s t _ o = grind (arith, nat_tests, o)

exec-others : (sh : Shape) (p : Program) (c j : ℕ) (s t : CoreState) (a : Option Awaited) → not (c == j) ≡ true
    → all_leave j (missed_or_else sh p c s t a) ≡ true
unfolding all_leave
exec-others sh p c j s t (Some a) o = refl
exec-others sh p c j s t None o = done-others sh p c j s t t.phase o

executes-own : (sh : Shape) (p : Program) (c : ℕ) (s : CoreState) (o : Option Out) → OutFits c s.n o
    → IfSome o (λ o. Own c s o (missed_or_else sh p c s o.core o.core.awaited))
unfolding fits
executes-own sh p c s None f = tt
executes-own sh p c s (Some o) f =
    let own : is_own c o.core.n o.commit ≡ true = grind (arith, nat_tests, f) in
    record {
      starts = grind (arith, nat_tests, f);
      mine = own-mine c o.core.n o.commit own;
      kept = λ x y k h. exec-told sh p c o.core.n x y s o.core o.core.awaited o.commit k f h;
      others = λ j other. exec-others sh p c j s o.core o.core.awaited other;
    }

-- a core that is ready commits what it has
commits-own : (sh : Shape) (c t : ℕ) (s : CoreState) → nat_lt 0 s.n ≡ true → Own c s (commit sh c t s) []
unfolding commit committed_core noted row_after all_leave
commits-own sh c t s some = record {
  starts = free-after s.ended 0;
  mine = eq-self c;
  kept = λ x y k h.
      told-commit c s.n 0 x y (commit sh c t s).commit k (omega arith) (let eq = eq-self c in grind (arith, nat_tests, some, eq)) h;
  others = λ j other. refl;
}

pub exec-own : (sh : Shape) (p : Program) (c : ℕ) (s : CoreState) → Started s
    → IfSome (core_exec sh p c s) (λ o. Own c s o (executed sh p c s o.core))
unfolding core_exec executed
exec-own sh p c s f = go s.phase refl f
  where
    go : (q : Phase) → s.phase ≡ q → started q s.n ≡ true
        → IfSome (exec_in_phase sh p c s q) (λ o. Own c s o (executed_in sh p c s o.core q))
    go Running e g = executes-own sh p c s (unless_awaiting sh p c s s.awaited) (execute-fits sh p c s (rw e refl))
    go (Solo t) e g = executes-own sh p c s (unless_awaiting sh p c s s.awaited) (execute-fits sh p c s (rw e refl))
    go (Ready t) e g = commits-own sh c t s g
    go _ e g = tt

-- ---- a way was emptied

evicted-leave : (c j x y : ℕ) (s : CoreState) → all_leave j (evicted c x y s) ≡ true
unfolding evicted all_leave
evicted-leave c j x y s = go (s.cache.at x y)
  where
    go : (l : Option ℕ) → all_leave j (evicted_line c s l) ≡ true
    go None = refl
    go (Some l) = refl

none-is : (m : Option Noted) → is_none m ≡ true → m ≡ None
none-is None e = refl
none-is (Some m) e = absurd cc

-- nothing is committed, and nothing is told of other cores
pub quiet-own : (c : ℕ) (s : CoreState) (o : Out) (fs : List Fact) → is_none o.commit ≡ true → Started o.core
    → ((x y : ℕ) (k : CoreCounts) → Kept s.n x y k → Kept o.core.n x y (row_after (Core c) c fs k))
    → ((j : ℕ) → not (c == j) ≡ true → all_leave j fs ≡ true) → Own c s o fs
unfolding row_after
quiet-own c s o fs e f kept others =
    let none = none-is o.commit e in
    record {
      starts = f;
      mine = rw none refl;
      kept = λ x y k h. rw none (kept-at o.core.n o.core.n x (x + 0) y (y + 0) (row_after (Core c) c fs k) refl (omega arith) (omega arith)
          (kept x y k h));
      others = others;
    }

-- nothing is told of instructions, and the core has as many
stays-own : (c : ℕ) (s : CoreState) (o : Out) (fs : List Fact) → stays s.n o.core.n o.core.phase o.commit ≡ true
    → ((j : ℕ) → all_leave j fs ≡ true) → Own c s o fs
stays-own c s o fs e leave =
    let all : s.n ≡ o.core.n = grind (arith, nat_tests, e) in
    quiet-own c s o fs (grind (arith, nat_tests, e)) (grind (arith, nat_tests, e))
    (λ x y k h. subst (λ n. Kept n x y (row_after (Core c) c fs k)) all (all-leave-kept (Core c) c s.n x y fs k (leave c) h))
    (λ j other. leave j)

pub evict-own : (sh : Shape) (c x y : ℕ) (s : CoreState) → Started s → IfSome (core_evict sh x y s) (λ o. Own c s o (evicted c x y s))
evict-own sh c x y s f = go (core_evict sh x y s) (evict-stays sh x y s f)
  where
    go : (o : Option Out) → StaysOut s.n o → IfSome o (λ o. Own c s o (evicted c x y s))
    go None e = tt
    go (Some o) e = stays-own c s o (evicted c x y s) e (λ j. evicted-leave c j x y s)
