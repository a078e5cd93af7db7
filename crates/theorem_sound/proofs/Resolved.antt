-- A core gives up and commits no TID but the one that it has, or is granted.
use Rattle.std.specs.Prelude.{ℕ, ◌≡◌, ◌==◌, false, Some, IfSome}
use Rattle.std.proofs.Common.{refl, ◌⊎◌, inl, inr}
use Rattle.rules_program.specs.Program.{Program}
use Rattle.rules_maps.specs.Nodes.{Dir, Msg}
use Rattle.rules_maps.specs.Shape.{Shape}
use Rattle.rules_tcc.specs.State.{CoreState, Phase, Probing, Ready, Overflowing, Solo}
use Rattle.rules_tcc.specs.Commit.{commit, solo_commit}
use Rattle.rules_tcc.specs.CoreDeliver.{from_dir, grant}
use Rattle.rules_tcc.specs.CoreEvict.{core_evict}
use Rattle.rules_tcc.specs.CoreExec.{core_exec}
use Rattle.rules_tcc.specs.Sends.{Sends}
use Rattle.rules_tcc.proofs.Lemmas.{each-evict}
use Rattle.theorem_serial.specs.Count.{Resolves, among, passes}
use Rattle.theorem_serial.specs.Tids.{has_tid}
use Rattle.theorem_serial.proofs.Lemmas.{Answers, Commits_now, Did, Empties, Ends_alone, Ends_run, Given, Given_doomed, Given_none}
use Rattle.theorem_serial.proofs.Lemmas.{Given_room, GrantedTo, Heard, Hurt_alone, Hurt_probing, Probes_all, Room_wanted, Silent, Skips_all}
use Rattle.theorem_serial.proofs.Lemmas.{Tells_alone, Tells_commit, WantsTid, each-back, each-exec, each-grant, granted, heard, heard-quiet}
use Rattle.theorem_serial.proofs.Lemmas.{out, quiet, said}

-- nothing that is sent to a directory gives up or commits the TID
abbrev pub Unresolved : (tid : ℕ) → Sends → Type 0
Unresolved t sends = (d : ℕ) → among (Resolves t) (sends (Dir d)) ≡ 0

-- it isn't the core's
another : (t u : ℕ) (q : Phase) → has_tid q t ≡ false → ((v : ℕ) → has_tid q v ≡ (u == v)) → (u == t) ≡ false
another t u q h f = rw (f t) at h

probes-own : (t u : ℕ) (q : Phase) → has_tid q t ≡ false → (q ≡ Probing u) ⊎ (q ≡ Ready u) → (u == t) ≡ false
unfolding has_tid
probes-own t u q h (inl e) = another t u q h (λ v. rw e refl)
probes-own t u q h (inr e) = another t u q h (λ v. rw e refl)

alone-own : (t u : ℕ) (q : Phase) → has_tid q t ≡ false → (q ≡ Overflowing (Some u)) ⊎ (q ≡ Solo u) → (u == t) ≡ false
unfolding has_tid
alone-own t u q h (inl e) = another t u q h (λ v. rw e refl)
alone-own t u q h (inr e) = another t u q h (λ v. rw e refl)

pub exec-resolves : (sh : Shape) (p : Program) (c : ℕ) (s : CoreState) (t : ℕ) → has_tid s.phase t ≡ false
    → IfSome (core_exec sh p c s) (λ o. Unresolved t o.sends)
unfolding commit solo_commit passes
exec-resolves sh p c s t h = each-exec sh p c s (λ o. Unresolved t o.sends) go
  where
    go : (x : Did sh p c s) → Unresolved t (out x).sends
    go (Room_wanted r i) d = quiet sh s (Resolves t) WantsTid (λ y. refl) d
    go (Ends_run l e f r i) d = quiet sh s (Resolves t) WantsTid (λ y. refl) d
    go (Ends_alone u l e f r i) d =
        let n : (u == t) ≡ false = alone-own t u s.phase h (inr r) in quiet sh s (Resolves t) (Tells_alone u) (λ y. rw n refl) d
    go (Commits_now u r) d =
        let n : (u == t) ≡ false = probes-own t u s.phase h (inr r) in quiet sh s (Resolves t) (Tells_commit u) (λ y. n) d
    go x d = quiet sh s (Resolves t) (said x) (λ y. refl) d

pub evict-resolves : (sh : Shape) (x y : ℕ) (s : CoreState) (t : ℕ) → IfSome (core_evict sh x y s) (λ o. Unresolved t o.sends)
unfolding passes
evict-resolves sh x y s t = each-evict sh x y s (λ o. Unresolved t o.sends) (λ l e a m d. quiet sh s (Resolves t) (Empties l) (λ z. refl) d)

pub grant-resolves : (sh : Shape) (u : ℕ) (s : CoreState) (t : ℕ) → (u == t) ≡ false → Unresolved t (grant sh u s).sends
unfolding passes
grant-resolves sh u s t n = each-grant sh u s (λ o. Unresolved t o.sends) go
  where
    go : (x : GrantedTo sh u s) → Unresolved t (granted x).sends
    go (Given e) d = quiet sh s (Resolves t) (Answers u) (λ y. rw n refl) d
    go (Given_doomed e) d = quiet sh s (Resolves t) (Skips_all u) (λ y. n) d
    go (Given_room e) d = quiet sh s (Resolves t) (Probes_all u) (λ y. refl) d
    go (Given_none e) d = quiet sh s (Resolves t) Silent (λ y. refl) d

pub back-resolves : (sh : Shape) (e : ℕ) (s : CoreState) (m : Msg) (t : ℕ) → has_tid s.phase t ≡ false
    → IfSome (from_dir sh e s m) (λ o. Unresolved t o.sends)
unfolding passes
back-resolves sh e s m t h = each-back sh e s (λ m o. Unresolved t o.sends) go m
  where
    go : (x : Heard sh e s) → Unresolved t (heard x).sends
    go (Hurt_probing l m u v a q) d =
        heard-quiet {sh = sh} {e = e} {s = s} (Resolves t) (Hurt_probing l m u v a q) (λ y. probes-own t v s.phase h q) (λ b. refl) d
    go (Hurt_alone l m u v a q) d =
        heard-quiet {sh = sh} {e = e} {s = s} (Resolves t) (Hurt_alone l m u v a q) (λ y. alone-own t v s.phase h q) (λ b. refl) d
    go x d = heard-quiet (Resolves t) x (λ y. refl) (λ b. refl) d
