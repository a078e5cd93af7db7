-- A commit of the served TID is what its rule gives.
use Rattle.std.proofs.Common.{◌≡◌, ℕ, Bool, true, ◌==◌, ◌++◌, ap, sym, ◌∙◌}
use Rattle.rules_maps.specs.Words.{count_below}
use Rattle.rules_maps.specs.Shape.{Shape, lines}
use Rattle.rules_maps.specs.Serving.{Serving}
use Rattle.rules_maps.specs.Lines.{has_mark}
use Rattle.rules_tcc.specs.DirDeliver as rules
use Rattle.tcc_msg.specs.Plain.{sends_of}
use Rattle.dir_lines.specs.Kept.{kept}
use Rattle.dir_lines.specs.Pages.{Pages}
use Rattle.dir_lines.specs.Words.{Words, words_at}
use Rattle.directory.specs.declared.handled.Handled.TheVariants.{Handled as Done}
use Rattle.directory.specs.Data.{DirData, dir_of}
use Rattle.directory.specs.Gives.{Gives}
use Rattle.directory.specs.Invs.{told_all}
use Rattle.directory.proofs.RuleCases.{commit-marked}
use Rattle.directory.proofs.Giving.{parts, Sent, takes}
use Rattle.directory.proofs.Told.{told_all-sends}

pub commit-takes : (sh : Shape) (ls : Pages) (ws : Words) (sv : Serving) (n : ℕ) (next : Pages) (m : ℕ) (new : DirData) (b a : Sent)
    (c t count : ℕ)
    → kept next ≡ rules.owned_by_committer c t (kept ls) → m ≡ rules.invalidation_count sh (kept ls) c → a ≡ b ++ told_all sh (kept ls) c t
    → ((e : ℕ → ℕ) → dir_of e new ≡ rules.moved_on_if_settled (dir_of e (parts next ws sv m)))
    → (sv.serving == t) ≡ true → (count_below (has_mark (kept ls)) (lines sh) == count) ≡ true
    → Gives (parts ls ws sv n) new b a Done (rules.dir_commit sh c t count)
unfolding dir_of
commit-takes sh ls ws sv n next m new b a c t count q o p w f g = takes (told_all sh (kept ls) c t) p (λ e.
    commit-marked sh c t count (dir_of e (parts ls ws sv n)) f g
    ∙ ((λ i. rules.Takes (rules.moved_on_if_settled (record { words = words_at e ws; serving = sv; lines = sym q i; owed = sym o i }))
    (told_all-sends sh (kept ls) c t i))
    ∙ ap (λ s. rules.Takes s (sends_of (told_all sh (kept ls) c t))) (sym (w e))))
