-- The machine after a commit.
use Rattle.std.proofs.Common.{◌≡◌, ℕ, suc, ◌+◌, ◌<◌, Bool, true, false, not, ◌&&◌, List, [], ◌∷◌, ◌++◌, length, Option, Some, None}
use Rattle.std.proofs.Common.{inl, inr, refl, ap, sym, ◌∙◌, subst, arith}
use Rattle.std.specs.Prelude.{◌==◌, nat_lt, is_some, option_map, unwrap_or, if◌then◌else◌, Contains, Err}
use Rattle.std.proofs.lemmas.Bool.{lt-ltb}
use Rattle.std.proofs.lemmas.Bool.Decides.{nat_tests}
use Rattle.std.proofs.lemmas.List.Elements.{Contains-push_cases}
use Rattle.tcc_base.specs.Limits.{run_limit}
use Rattle.tcc_base.specs.Put.{put}
use Rattle.tcc_base.specs.declared.access.Commit.{Commit as Noted}
use Rattle.rules_maps.specs.Shape.{Shape, lines}
use Rattle.rules_maps.specs.Words.{any_below, line_of, or_else}
use Rattle.rules_tcc.specs.Attempt.{is_solo}
use Rattle.rules_tcc.specs.Commit.{noted}
use Rattle.rules_tcc.specs.State.{CoreState, Phase, AwaitTid}
use Rattle.rules_tcc.specs.Step.{insert_commit}
use Rattle.machine_commits.specs.Rising.{HasNone}
use Rattle.core_node.specs.AtHand.{words_in}
use Rattle.core_node.specs.Answers.{IsMemory}
use Rattle.core_node.specs.declared.delivering.CoreError.{CoreError}
use Rattle.core_node.specs.declared.delivering.CoreError.TheVariants as core_error
use Rattle.machine_cores.specs.Bank.{cores_of}
use Rattle.rules_bus.specs.Commit.{all_clean, BusStepped, bus_commit, commit_out, packet, with_words, wrote_some, written_words}
use Rattle.rules_bus.specs.Exec.{bus_exec, bus_exec_in_phase, when_free}
use Rattle.rules_bus.specs.State.{Exec, Free, Packet}
use Rattle.rules_bus.specs.Step.{and_noted, bus_names, bus_step}
use Rattle.bus_tcc.specs.Answers.{Answers, Took, bus_step_of, refusal_of}
use Rattle.bus_tcc.specs.Committing.{CanCommit, IsCommitOf}
use Rattle.bus_tcc.specs.Ending.{CommitsBy, at_commit}
use Rattle.bus_tcc.specs.Left.{all_but}
use Rattle.bus_tcc.specs.Machine.{BusMachine, bus_of, bus_program_of, bus_history_of, bus_settings_of, bus_world_of, is_free, word_in}
use Rattle.bus_tcc.specs.Packets.{lines_on}
use Rattle.bus_tcc.specs.Whole.{AreBefore, IsBusWhole}
use Rattle.bus_tcc.specs.declared.commit.Written.{Written}
use Rattle.bus_tcc.specs.declared.event.BusError.TheVariants.{Refused, Memory}
use Rattle.bus_tcc.specs.declared.event.BusStep.TheVariants.{Committed}
use Rattle.bus_tcc.proofs.Bounds.{bounded, core-bounded}
use Rattle.bus_tcc.proofs.Endings.{waiting-commits}
use Rattle.bus_tcc.proofs.Events.{StaysBut, bank_in, stays-kept, took-by, took-whole, world-is}
use Rattle.bus_tcc.proofs.Instructions.{busy-so, free-so}
use Rattle.bus_tcc.proofs.PacketLines.{unless-in-order}
use Rattle.theorem_bus.proofs.Lemmas.{out-noted}

-- ---- a commit by the next TID stands at the end

abbrev Before : (tid : ℕ) → List Noted → Type 0
Before t cs = (c : Noted) → Contains cs c → c.tid.0 < t

first-before : (t : ℕ) (d : Noted) (ds : List Noted) → Before t (d ∷ ds) → d.tid.0 < t
first-before t d ds h = h d (0, omega arith, refl)

rest-before : (t : ℕ) (d : Noted) (ds : List Noted) → Before t (d ∷ ds) → Before t ds
rest-before t d ds h x i = h x (suc i.0, (let l = i.1 in omega (arith, l)), i.2)

pub at-end : (c : Noted) (t : ℕ) (cs : List Noted) → c.tid.0 ≡ t → Before t cs → insert_commit c cs ≡ cs ++ c ∷ []
unfolding insert_commit
at-end c t [] e h = refl
at-end c t (d ∷ ds) e h =
    let l = first-before t d ds h in
    let no : nat_lt c.tid.0 d.tid.0 ≡ false = grind (arith, nat_tests) in
    rw no (ap (λ xs. d ∷ xs) (at-end c t ds e (rest-before t d ds h)))

pub none-before : (t u : ℕ) (cs : List Noted) → u ≡ t → Before t cs → HasNone u cs
unfolding HasNone
none-before t u [] e h = record {}
none-before t u (d ∷ ds) e h =
    let l = first-before t d ds h in
    (λ q. absurd (omega (arith, l, q, e)), none-before t u ds e (rest-before t d ds h))

pub all-before : (c : Noted) (t : ℕ) (cs : List Noted) → c.tid.0 ≡ t → Before t cs → Before (t + 1) (cs ++ c ∷ [])
all-before c t cs e h x i = elim (Contains-push_cases cs c x i) [
  | inl j ↦ (let l = h x j in omega (arith, l))
  | inr q ↦ (let k = ap (λ y. y.tid.0) q in omega (arith, k, e))
]

-- ---- what is noted

some-same : (a b : Noted) → Some a ≡ Some b → a ≡ b
some-same a b e = ap (λ o. unwrap_or o a) e

pub noted-tid : (sh : Shape) (c t : ℕ) (s : CoreState) (w : Written) → IsCommitOf sh c t s w → w.commit.tid ≡ record { 0 = t }
unfolding noted
noted-tid sh c t s w k = ap (λ d. d.tid) (some-same w.commit (noted t c s) (k.noted ∙ out-noted sh c t s))

-- ---- what the rules make of a core that executes, by its phase

pub exec-step : (m : BusMachine) (c : ℕ) (q : Phase) → c < (bus_settings_of m).cores → (cores_of (bank_in m) c).phase ≡ q
    → bus_step_of m (Exec c)
    ≡ bus_exec_in_phase (bus_settings_of m) (bus_program_of m) (bus_world_of m) c (cores_of (bank_in m) c) q
unfolding bus_step bus_names bus_exec bus_world_of
exec-step m c q l e =
    rw (lt-ltb c (bus_settings_of m).cores l)
    (ap (bus_exec_in_phase (bus_settings_of m) (bus_program_of m) (bus_world_of m) c (cores_of (bank_in m) c)) e)

-- the commit of a core that waits
abbrev pub commit_of : BusMachine → (core : ℕ) → CoreState → BusStepped
commit_of m c s = bus_commit (bus_settings_of m) (bus_world_of m) c s

waiting-step : (m : BusMachine) (c : ℕ) → c < (bus_settings_of m).cores → (cores_of (bank_in m) c).phase ≡ AwaitTid
    → bus_step_of m (Exec c) ≡ when_free (bus_of m.bus) (commit_of m c (cores_of (bank_in m) c))
unfolding bus_world_of
waiting-step m c l e = exec-step m c AwaitTid l e

pub busy-step : (m : BusMachine) (c : ℕ) → c < (bus_settings_of m).cores → (cores_of (bank_in m) c).phase ≡ AwaitTid
    → is_free (bus_of m.bus) ≡ false → bus_step_of m (Exec c) ≡ None
busy-step m c l e f = waiting-step m c l e ∙ busy-so (bus_of m.bus) _ f

pub commit-step : (m : BusMachine) (c : ℕ) → c < (bus_settings_of m).cores → (cores_of (bank_in m) c).phase ≡ AwaitTid
    → is_free (bus_of m.bus) ≡ true → bus_step_of m (Exec c) ≡ Some (commit_of m c (cores_of (bank_in m) c))
commit-step m c l e f = waiting-step m c l e ∙ free-so (bus_of m.bus) _ f

-- ---- what is asked of a machine of which a core commits

pub record Waits (m : BusMachine) (c : ℕ) : Type 0 where
  pub exists : c < (bus_settings_of m).cores
  pub waits : (cores_of (bank_in m) c).phase ≡ AwaitTid

pub waits-of : (m : BusMachine) (c : ℕ) → c < (bus_settings_of m).cores
    → ((bus_world_of m).cores c).phase ≡ AwaitTid → Waits m c
unfolding bus_world_of
waits-of m c l e = record { exists = l; waits = e }

pub free-is : (m : BusMachine) (b d : Bool) → b ≡ is_free (bus_of m.bus) → b ≡ d → is_free (bus_of m.bus) ≡ d
free-is m b d e q = sym e ∙ q

from-either : (o v : Option ℕ) (b : Bool) (P : Type 0) → (is_some o ≡ true → P) → (b ≡ true → P)
    → is_some (or_else o (if b then v else None)) ≡ true → P
from-either (Some x) v b P f g e = f refl
from-either None v true P f g e = g refl
from-either None v false P f g e = cc

inside-of : (m : BusMachine) (c : ℕ) → IsBusWhole m → c < (bus_settings_of m).cores → (x : ℕ)
    → is_some (written_words (cores_of (bank_in m) c) x) ≡ true → line_of x < lines (bus_settings_of m)
unfolding written_words
inside-of m c w l x e =
    let k = core-bounded m w c l in
    let s = cores_of (bank_in m) c in
    from-either (s.spilled x) (s.cache.value x) (s.cache.modified x) (line_of x < lines (bus_settings_of m)) (k.spilled x)
    (k.cache.modified x) e

pub can-commit : (m : BusMachine) (c : ℕ) → IsBusWhole m → c < (bus_settings_of m).cores
    → CanCommit (bus_settings_of m) (cores_of (bank_in m) c)
can-commit m c w l =
    let k = core-bounded m w c l in
    record {
      clean = k.clean;
      valid = k.sound.cache.modified;
      inside = λ x e. inside-of m c w l x e;
    }

-- room was made, or not, for one more commit
pub room-only : (m : BusMachine) (cs : List Noted) (r : ℕ) → cs ≡ m.commits → StaysBut m (record m { commits = cs; room = r })
room-only m cs r e = record { code = refl; cores = refl; ram = refl; next = refl; bus = refl; commits = e; events = refl }

pub busy-answers : (m : BusMachine) (c : ℕ) → Waits m c → is_free (bus_of m.bus) ≡ false → Answers m m (Exec c) (Err Refused)
busy-answers m c a f = (record { history = refl; events = refl; code = refl }, busy-step m c a.exists a.waits f)

-- ---- what is asked of a machine of which a core commits now

pub record Commits (m : BusMachine) (c : ℕ) : Type 0 where
  pub exists : c < (bus_settings_of m).cores
  pub may : CommitsBy (bus_program_of m) m.next (cores_of (bank_in m) c) (cores_of (bank_in m) c).phase
  pub step : bus_step_of m (Exec c) ≡ Some (commit_of m c (at_commit (bus_program_of m) (cores_of (bank_in m) c)))

pub commits-of : (m : BusMachine) (c : ℕ) → c < (bus_settings_of m).cores
    → (let s = (bus_world_of m).cores c in CommitsBy (bus_program_of m) (bus_world_of m).next s s.phase)
    → bus_step_of m (Exec c) ≡ Some (commit_of m c (at_commit (bus_program_of m) ((bus_world_of m).cores c))) → Commits m c
unfolding bus_world_of
commits-of m c l k e = record { exists = l; may = k; step = e }

pub wanting-answers : (m n : BusMachine) (c : ℕ) → Commits m c → StaysBut m n → Answers m n (Exec c) (Err Memory)
wanting-answers m n c a s = (stays-kept m n s, λ q. let is = sym a.step ∙ q in absurd (cc))

pub failed-answers : (A : Type 0) (m n : BusMachine) (c : ℕ) (error : CoreError) → Commits m c → StaysBut m n
    → IsMemory {A = A} (Err error) → Answers m n (Exec c) (Err (refusal_of error))
failed-answers A m n c core_error.Blocked a s k = absurd k
failed-answers A m n c core_error.Memory a s k = wanting-answers m n c a s

-- a core that waits for a bus that is free does
pub waiting-may : (m : BusMachine) (c : ℕ) → Waits m c
    → (let s = (bus_world_of m).cores c in CommitsBy (bus_program_of m) (bus_world_of m).next s s.phase)
unfolding bus_world_of
waiting-may m c a =
    subst (CommitsBy (bus_program_of m) m.next (cores_of (bank_in m) c)) (sym a.waits) (record {})

pub waiting-publishes : (m : BusMachine) (c : ℕ) → Waits m c → is_free (bus_of m.bus) ≡ true
    → bus_step_of m (Exec c) ≡ Some (commit_of m c (at_commit (bus_program_of m) ((bus_world_of m).cores c)))
unfolding bus_world_of
waiting-publishes m c a f =
    commit-step m c a.exists a.waits f
    ∙ ap (λ s. Some (commit_of m c s)) (sym (waiting-commits (bus_program_of m) (cores_of (bank_in m) c) (ap is_solo a.waits)))

-- ---- the machine after it

pub record HasPublished (m n : BusMachine) (c : ℕ) (s : CoreState) (w : Written) : Type 0 where
  pub code : n.code ≡ m.code
  pub cores : cores_of (bank_in n) ≡ put (cores_of (bank_in m)) c (all_clean (commit_out (bus_settings_of m) c m.next s).core)
  pub wrote : IsCommitOf (bus_settings_of m) c m.next s w
  pub count : length n.ram ≡ length m.ram
  pub ram : word_in n.ram ≡ with_words (words_in w.lines) (word_in m.ram)
  pub bus : bus_of n.bus
      ≡ (if not (length w.lines == 0) && any_below (all_but c (bus_settings_of m).cores) (bus_settings_of m).cores
      then Packet (words_in w.lines) (all_but c (bus_settings_of m).cores) else Free)
  pub packet : lines_on n.bus ≡ (if is_free (bus_of n.bus) then [] else w.lines)
  pub next : n.next ≡ m.next + 1
  pub commits : n.commits ≡ insert_commit w.commit m.commits
  pub events : n.events ≡ m.events + 1

twice-not : (b d : Bool) → b ≡ not d → not b ≡ d
twice-not true true e = cc
twice-not true false e = refl
twice-not false true e = refl
twice-not false false e = cc

on-bus : (sh : Shape) (c t : ℕ) (s : CoreState) (w : Written) → IsCommitOf sh c t s w
    → (if not (length w.lines == 0) && any_below (all_but c sh.cores) sh.cores then Packet (words_in w.lines) (all_but c sh.cores)
    else Free)
    ≡ packet sh c s
on-bus sh c t s w k =
    ap (λ b. if b && any_below (all_but c sh.cores) sh.cores then Packet (words_in w.lines) (all_but c sh.cores) else Free)
    (twice-not (length w.lines == 0) (wrote_some sh s) k.empty)
    ∙ ap (λ f. if wrote_some sh s && any_below (all_but c sh.cores) sh.cores then Packet f (all_but c sh.cores) else Free) k.words

tid-number : (sh : Shape) (c t : ℕ) (s : CoreState) (w : Written) → IsCommitOf sh c t s w → w.commit.tid.0 ≡ t
tid-number sh c t s w k = ap (λ i. i.0) (noted-tid sh c t s w k)

commits-then : (m n : BusMachine) (c : ℕ) (s : CoreState) (w : Written) → IsBusWhole m → HasPublished m n c s w
    → n.commits ≡ m.commits ++ w.commit ∷ []
commits-then m n c s w k h =
    h.commits ∙ at-end w.commit m.next m.commits (tid-number (bus_settings_of m) c m.next s w h.wrote) k.noted

pub published-took : (m n : BusMachine) (c : ℕ) (s : CoreState) (w : Written) → IsBusWhole m → HasPublished m n c s w
    → bus_step_of m (Exec c) ≡ Some (commit_of m c s) → Took m n (Exec c) (Committed (record { 0 = m.next }))
unfolding bus_commit bus_world_of
published-took m n c s w k h is =
    took-by m n (Exec c) (commit_of m c s) (Committed (record { 0 = m.next })) is
    (world-is n (commit_of m c s).world h.cores (h.ram ∙ ap (λ f. with_words f (word_in m.ram)) h.wrote.words) h.next
    (h.bus ∙ on-bus (bus_settings_of m) c m.next s w h.wrote))
    (commits-then m n c s w k h ∙ ap (λ o. and_noted o m.commits) h.wrote.noted)
    (ap (λ i. Some i) (sym (noted-tid (bus_settings_of m) c m.next s w h.wrote)) ∙ ap (option_map (λ d. d.tid)) h.wrote.noted)
    h.events h.code

pub published-whole : (m n : BusMachine) (c : ℕ) (s : CoreState) (w : Written) → IsBusWhole m → HasPublished m n c s w
    → Took m n (Exec c) (Committed (record { 0 = m.next })) → IsBusWhole n
published-whole m n c s w k h t =
    took-whole m n (Exec c) (Committed (record { 0 = m.next })) k t h.count
    (subst (λ x. AreBefore x n.commits) (sym h.next) (subst (AreBefore (m.next + 1)) (sym (commits-then m n c s w k h))
    (all-before w.commit m.next m.commits (tid-number (bus_settings_of m) c m.next s w h.wrote) k.noted)))
    (unless-in-order (bus_settings_of m) (is_free (bus_of n.bus)) (lines_on n.bus) w.lines h.packet h.wrote.order)

-- no commit has the next TID
pub new-tid : (m : BusMachine) (c : ℕ) (s : CoreState) (w : Written) → IsBusWhole m → IsCommitOf (bus_settings_of m) c m.next s w
    → HasNone w.commit.tid.0 m.commits
new-tid m c s w k h = none-before m.next w.commit.tid.0 m.commits (tid-number (bus_settings_of m) c m.next s w h) k.noted

pub next-fits : (m : BusMachine) → IsBusWhole m → m.events < run_limit → m.next < 4194305
unfolding bus_history_of bus_world_of
next-fits m w few =
    let b = bounded m w in let n = b.next in let most = b.number in omega (arith, n, most, few)
