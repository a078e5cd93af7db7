-- What an Exec makes of the number of instructions of a core's attempt, and what is told of it.
use Rattle.std.proofs.Common.{◌≡◌, ◌==◌, ◌+◌, ℕ, Bool, true, false, Option, Some, None, nat_lt, ◌&&◌}
use Rattle.std.proofs.Common.{refl, sym, subst, arith}
use Rattle.std.proofs.lemmas.Bool.Decides.{nat_tests}
use Rattle.tcc_base.specs.declared.access.Commit.{Commit as Noted}
use Rattle.tcc_base.specs.declared.access.Size.{Size}
use Rattle.tcc_base.specs.declared.access.Size.TheVariants.{Byte, Half, Word}
use Rattle.rules_maps.specs.Shape.{Shape}
use Rattle.rules_maps.specs.Words.{line_of}
use Rattle.rules_program.specs.Program.{Need, Nothing, Loads, Stores, Changes, Prints, Ends, Halts, Traps, Program}
use Rattle.rules_program.specs.Ram.{word_of}
use Rattle.rules_tcc.specs.Attempt.{Out, finished, one_more_instruction, new_word}
use Rattle.rules_tcc.specs.Commit.{noted, committed_core, solo_commit, phase_after_commit}
use Rattle.rules_tcc.specs.CoreExec.{unless_awaiting}
use Rattle.rules_tcc.specs.Execute.{execute, execute_need, load, load_spilled, load_valid, miss, request_line, place, overflow, full_set}
use Rattle.rules_tcc.specs.Execute.{with_read_mark, word_store, partial_store, change_spilled, change_valid, store_by_size, end_transaction}
use Rattle.rules_tcc.specs.Execute.{stored_in_buffer, stored_in_frame}
use Rattle.rules_tcc.specs.State.{Awaited, CoreState, Phase, Running, AwaitTid, DoomedTid, Probing, Ready, Overflowing, Solo, Halted}
use Rattle.rules_program.specs.Plain.{Outcome, Goes, Ended, Halted as HaltedWith, Trapped as TrappedWith}
use Rattle.count_law.proofs.Committed.{gone}

-- in these phases an attempt has executed some instruction
abbrev pub started : Phase → (n : ℕ) → Bool
started AwaitTid n = nat_lt 0 n
started (Probing t) n = nat_lt 0 n
started (Ready t) n = nat_lt 0 n
started _ n = true

abbrev pub Started : CoreState → Type 0
Started s = started s.phase s.n ≡ true

-- an instruction was finished, by what is awaited after it and the phase
abbrev pub did : Option Awaited → Phase → ℕ
did (Some a) q = 0
did None (Overflowing None) = 0
did None _ = 1

-- a commit is of this core, of some instruction, and leaves an empty attempt
abbrev pub is_own : (core n : ℕ) → Option Noted → Bool
is_own c n None = true
is_own c n (Some m) = m.core.0 == c && (n == 0 && nat_lt 0 m.n)

-- Of n instructions before the event, n' after it, what is awaited, the phase, and the commit: what was finished is committed or under way.
abbrev pub accounts : (core n n' : ℕ) → Option Awaited → Phase → Option Noted → Bool
accounts c n n' a q m = (n' + gone m == n + did a q) && (is_own c n' m && started q n')

unfoldable pub fits : (core n : ℕ) → CoreState → Option Noted → Bool
fits c n t m = accounts c n t.n t.awaited t.phase m

abbrev out_fits : (core n : ℕ) → Option Out → Bool
out_fits c n None = true
out_fits c n (Some o) = fits c n o.core o.commit

abbrev pub OutFits : (core n : ℕ) → Option Out → Type 0
OutFits c n o = out_fits c n o ≡ true

-- a core that executes
abbrev pub executes : Phase → Bool
executes Running = true
executes (Solo t) = true
executes _ = false

record Goes_on (s : CoreState) : Type 0 where
  none : s.awaited ≡ None
  runs : executes s.phase ≡ true

none-started : (q : Phase) (n : ℕ) → executes q ≡ true → started q n ≡ true
none-started Running n e = refl
none-started (Solo t) n e = refl
none-started AwaitTid n e = absurd cc
none-started DoomedTid n e = absurd cc
none-started (Probing t) n e = absurd cc
none-started (Ready t) n e = absurd cc
none-started (Overflowing t) n e = absurd cc
none-started Halted n e = absurd cc

one-done : (q : Phase) → executes q ≡ true → did None q ≡ 1
one-done Running e = refl
one-done (Solo t) e = refl
one-done AwaitTid e = absurd cc
one-done DoomedTid e = absurd cc
one-done (Probing t) e = absurd cc
one-done (Ready t) e = absurd cc
one-done (Overflowing t) e = absurd cc
one-done Halted e = absurd cc

one-more : (c n : ℕ) (a : Option Awaited) (q : Phase) → a ≡ None → executes q ≡ true → accounts c n (n + 1) a q None ≡ true
one-more c n (Some a) q e f = absurd cc
one-more c n None q e f =
    let one = one-done q f in
    let free = none-started q (n + 1) f in grind (arith, nat_tests, one, free)

finished-fits : (c : ℕ) (p : Program) (need : Need) (x : ℕ) (s : CoreState) → Goes_on s → fits c s.n (finished p need x s) None ≡ true
unfolding fits finished one_more_instruction
finished-fits c p Nothing x s f = one-more c s.n s.awaited s.phase f.none f.runs
finished-fits c p (Loads addr size) x s f = one-more c s.n s.awaited s.phase f.none f.runs
finished-fits c p (Stores addr size value) x s f = one-more c s.n s.awaited s.phase f.none f.runs
finished-fits c p (Changes addr changed) x s f = one-more c s.n s.awaited s.phase f.none f.runs
finished-fits c p (Prints byte) x s f = one-more c s.n s.awaited s.phase f.none f.runs
finished-fits c p Ends x s f = one-more c s.n s.awaited s.phase f.none f.runs
finished-fits c p (Halts code) x s f = one-more c s.n s.awaited s.phase f.none f.runs
finished-fits c p (Traps code) x s f = one-more c s.n s.awaited s.phase f.none f.runs

-- the instruction is finished in a state that differs in frames alone
then-fits : (c : ℕ) (p : Program) (need : Need) (x : ℕ) (s t : CoreState) → Goes_on s → t.phase ≡ s.phase → t.awaited ≡ s.awaited
    → t.n ≡ s.n → fits c s.n (finished p need x t) None ≡ true
then-fits c p need x s t f e a n =
    let goes : Goes_on t
    = record { none = subst (λ o. o ≡ None) (sym a) f.none; runs = subst (λ q. executes q ≡ true) (sym e) f.runs } in
    subst (λ m. fits c m (finished p need x t) None ≡ true) n (finished-fits c p need x t goes)

marked-fits : (c : ℕ) (p : Program) (need : Need) (w x : ℕ) (s : CoreState) → Goes_on s
    → fits c s.n (finished p need x (with_read_mark w s)) None ≡ true
unfolding with_read_mark
marked-fits c p need w x s f =
    let here : (t : CoreState) → t.phase ≡ s.phase → t.awaited ≡ s.awaited → t.n ≡ s.n → fits c s.n (finished p need x t) None ≡ true
    = λ t e a n. then-fits c p need x s t f e a n in grind (arith, nat_tests, here)

none-more : (a : Option Awaited) → did a (Overflowing None) ≡ 0
none-more (Some a) = refl
none-more None = refl

full-fits : (sh : Shape) (c l : ℕ) (s : CoreState) → OutFits c s.n (full_set sh l s)
unfolding full_set overflow fits
full-fits sh c l s = let none = none-more s.awaited in grind (arith, nat_tests, none)

-- the line is asked for by a core that has as many instructions
asks-fits : (sh : Shape) (c l n : ℕ) (t : CoreState) → executes t.phase ≡ true → t.n ≡ n
    → fits c n (request_line sh l t).core (request_line sh l t).commit ≡ true
unfolding fits request_line
asks-fits sh c l n t f e = let free = none-started t.phase t.n f in grind (arith, nat_tests, free, e)

miss-fits : (sh : Shape) (c l : ℕ) (s : CoreState) → Goes_on s → OutFits c s.n (miss sh l s)
unfolding miss place
miss-fits sh c l s f =
    let here = asks-fits sh c l s.n s f.runs refl in
    let placed = asks-fits sh c l s.n (place sh l s) f.runs refl in
    let full = full-fits sh c l s in grind (arith, nat_tests, here, placed, full)

valid-fits : (sh : Shape) (c : ℕ) (p : Program) (need : Need) (w : ℕ) (s : CoreState) → Goes_on s → (v : Option ℕ)
    → OutFits c s.n (load_valid sh p need w s v)
valid-fits sh c p need w s f (Some x) = marked-fits c p need w x s f
valid-fits sh c p need w s f None = miss-fits sh c (line_of w) s f

load-fits : (sh : Shape) (c : ℕ) (p : Program) (need : Need) (w : ℕ) (s : CoreState) → Goes_on s → OutFits c s.n (load sh p need w s)
unfolding load
load-fits sh c p need w s f = go (s.spilled w)
  where
    go : (v : Option ℕ) → OutFits c s.n (load_spilled sh p need w s v)
    go (Some x) = finished-fits c p need x s f
    go None = valid-fits sh c p need w s f (s.cache.value w)

store-fits : (sh : Shape) (c : ℕ) (p : Program) (need : Need) (w x : ℕ) (s : CoreState) → Goes_on s
    → OutFits c s.n (word_store sh p need w x s)
unfolding word_store stored_in_buffer stored_in_frame place
store-fits sh c p need w x s f =
    let here : (t : CoreState) → t.phase ≡ s.phase → t.awaited ≡ s.awaited → t.n ≡ s.n → fits c s.n (finished p need x t) None ≡ true
    = λ t e a n. then-fits c p need x s t f e a n in
    let full = full-fits sh c (line_of w) s in grind (arith, nat_tests, here, full)

changed-fits : (sh : Shape) (c : ℕ) (p : Program) (need : Need) (w : ℕ) (s : CoreState) → Goes_on s → (v : Option ℕ)
    → OutFits c s.n (change_valid sh p need w s v)
unfolding stored_in_buffer stored_in_frame
changed-fits sh c p need w s f None = miss-fits sh c (line_of w) s f
changed-fits sh c p need w s f (Some x) =
    let here : (t : CoreState) → t.phase ≡ s.phase → t.awaited ≡ s.awaited → t.n ≡ s.n → fits c s.n (finished p need x t) None ≡ true
    = λ t e a n. then-fits c p need x s t f e a n in grind (arith, nat_tests, here)

partial-fits : (sh : Shape) (c : ℕ) (p : Program) (need : Need) (w : ℕ) (s : CoreState) → Goes_on s
    → OutFits c s.n (partial_store sh p need w s)
unfolding partial_store stored_in_buffer
partial-fits sh c p need w s f = go (s.spilled w)
  where
    go : (v : Option ℕ) → OutFits c s.n (change_spilled sh p need w s v)
    go (Some x) = then-fits c p need x s (stored_in_buffer w (new_word need x) s) f refl refl refl
    go None = changed-fits sh c p need w s f (s.cache.value w)

sized-fits : (sh : Shape) (c : ℕ) (p : Program) (addr : ℕ) (size : Size) (value : ℕ) (s : CoreState) → Goes_on s
    → OutFits c s.n (store_by_size sh p addr size value s)
sized-fits sh c p addr Word value s f = store-fits sh c p (Stores addr Word value) (word_of sh.base addr) value s f
sized-fits sh c p addr Half value s f = partial-fits sh c p (Stores addr Half value) (word_of sh.base addr) s f
sized-fits sh c p addr Byte value s f = partial-fits sh c p (Stores addr Byte value) (word_of sh.base addr) s f

-- ---- a transaction ends

after-commit : (a : Option Awaited) (o : Outcome) → a ≡ None → did a (phase_after_commit o) ≡ 1
after-commit (Some a) o e = absurd cc
after-commit None Goes e = refl
after-commit None Ended e = refl
after-commit None (HaltedWith code) e = refl
after-commit None (TrappedWith code) e = refl

pub free-after : (o : Outcome) (n : ℕ) → started (phase_after_commit o) n ≡ true
free-after Goes n = refl
free-after Ended n = refl
free-after (HaltedWith code) n = refl
free-after (TrappedWith code) n = refl

solo-fits : (sh : Shape) (c t n : ℕ) (s : CoreState) → s.awaited ≡ None → s.n ≡ n + 1
    → fits c n (solo_commit sh c t s).core (solo_commit sh c t s).commit ≡ true
unfolding fits solo_commit committed_core noted
solo-fits sh c t n s none e =
    let one = after-commit s.awaited s.ended none in
    let free = free-after s.ended 0 in grind (arith, nat_tests, one, free, e)

asks-tid : (c n m : ℕ) (a : Option Awaited) → a ≡ None → m ≡ n + 1 → accounts c n m a AwaitTid None ≡ true
asks-tid c n m (Some a) e f = absurd cc
asks-tid c n m None e f = grind (arith, nat_tests, f)

end-fits : (sh : Shape) (c n : ℕ) (q : Phase) (s : CoreState) → s.awaited ≡ None → s.n ≡ n + 1
    → fits c n (end_transaction sh c q s).core (end_transaction sh c q s).commit ≡ true
unfolding fits
end-fits sh c n (Solo t) s none e = solo-fits sh c t n s none e
end-fits sh c n _ s none e = asks-tid c n s.n s.awaited none e

need-fits : (sh : Shape) (p : Program) (c : ℕ) (s : CoreState) → Goes_on s → (need : Need) → OutFits c s.n (execute_need sh p c s need)
unfolding finished one_more_instruction
need-fits sh p c s f Nothing = finished-fits c p Nothing 0 s f
need-fits sh p c s f (Loads addr size) = load-fits sh c p (Loads addr size) (word_of sh.base addr) s f
need-fits sh p c s f (Stores addr size value) = sized-fits sh c p addr size value s f
need-fits sh p c s f (Changes addr changed) = partial-fits sh c p (Changes addr changed) (word_of sh.base addr) s f
need-fits sh p c s f (Prints byte) = finished-fits c p (Prints byte) 0 s f
need-fits sh p c s f Ends = end-fits sh c s.n s.phase (finished p Ends 0 s) f.none refl
need-fits sh p c s f (Halts code) = end-fits sh c s.n s.phase (finished p (Halts code) 0 s) f.none refl
need-fits sh p c s f (Traps code) = end-fits sh c s.n s.phase (finished p (Traps code) 0 s) f.none refl

-- a core that executes, where it awaits no line
pub execute-fits : (sh : Shape) (p : Program) (c : ℕ) (s : CoreState) → executes s.phase ≡ true
    → OutFits c s.n (unless_awaiting sh p c s s.awaited)
unfolding execute
execute-fits sh p c s f = go s.awaited refl
  where
    go : (a : Option Awaited) → s.awaited ≡ a → OutFits c s.n (unless_awaiting sh p c s a)
    go (Some a) e = refl
    go None e = need-fits sh p c s (record { none = e; runs = f }) (p.need s.local)
