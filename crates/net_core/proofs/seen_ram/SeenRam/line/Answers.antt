-- Only the home has the words of a line without a note.
use Rattle.std.proofs.Common.{◌≡◌, ◌<◌, ℕ, [], false, ap, length, subst, sym, ◌∙◌}
use Rattle.std.specs.Prelude.{get_or}
use Rattle.tcc_base.specs.Settings.{Keeps}
use Rattle.tcc_base.specs.declared.config.Limit.TheVariants.{Ram}
use Rattle.base_lemmas.proofs.Lemmas.{length-eight, line_of-word_at}
use Rattle.rules_maps.specs.Shape.{lines}
use Rattle.rules_maps.specs.Words.{line_of, word_at}
use Rattle.rules_tcc.specs.Seen.{copies, seen}
use Rattle.net_core.specs.Away.{CoversCopies, is_noted}
use Rattle.net_core.specs.Inside.{machine_of}
use Rattle.net_core.specs.Machine.{Machine, settings_of, world_of}
use Rattle.net_core.proofs.Words.Places.{line-inside, line-is}
use Rattle.net_core.proofs.Words.Seen.{home-seen, home-word}
use Rattle.net_core.proofs.seen_ram.SeenRam.line.Goals as goal

pub returns-else-is_noted : goal.returns-else-is_noted
returns-else-is_noted c =
    let m : Machine = machine_of c.system.inside in
    let now : Machine = c.args.self.now in
    let l : ℕ = c.args.line.0 in
    let ws = c.line_words.result in
    let same : m ≡ now = c.system.view_is ∙ c.self.view_is in
    let allowed = subst (λ k. Keeps (settings_of k) Ram) same c.system.invariant.allowed.4 in
    let inside : l < lines (settings_of now) = line-inside (settings_of now).ram l allowed.2 c.requires.inside in
    let free : is_noted c.self.inside.notes.items l ≡ false =
    ap (λ notes. is_noted notes l) (sym c.deref.ensures.value) ∙ (sym c.is_noted.ensures ∙ c.if-is_noted.false) in
    let none : CoversCopies now c.self.inside.notes.items =
    subst (λ k. CoversCopies k c.self.inside.notes.items) c.self.view_is c.self.invariant.1 in
    line-is (seen (settings_of now) (world_of now)) l ws (ap length (c.line_words.ensures (λ w. 0)) ∙ length-eight _)
    (λ k b.
    let line : line_of (word_at l k) ≡ l = line_of-word_at l k b in
    let away : copies (settings_of now) (world_of now) (word_at l k) ≡ [] =
    none (word_at l k) (subst (λ n. n < lines (settings_of now)) (sym line) inside)
    (ap (is_noted c.self.inside.notes.items) line ∙ free) in
    home-seen m now (word_at l k) (get_or ws k 0) same c.system.invariant.dirs away
    (λ ram. home-word ram m.dirs l k ws b (c.line_words.ensures ram)))
