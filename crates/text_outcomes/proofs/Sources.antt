-- The states that a table tells are those that were found.
use Rattle.std.proofs.Common.{◌≡◌, ◌<◌, ◌/◌, ℕ, List, ◌++◌, length, slice_index_or, append_assoc, sym, ◌∙◌, ap}
use Rattle.std.proofs.lemmas.List.Elements.{All-get_or}
use Rattle.image_load.specs.Contents.{Contents, started}
use Rattle.run_outcomes.specs.Changes.{AreInside, AreNormal}
use Rattle.run_outcomes.specs.Explored.{AreFound, no_snapshot, state_at}
use Rattle.run_outcomes.specs.Results.{AreEnds, IsEnd}
use Rattle.run_outcomes.specs.Ways.{Explored, orders_to}
use Rattle.run_outcomes.specs.declared.outcomes.Results.{Results}
use Rattle.run_outcomes.specs.declared.outcomes.Tell.{Tell}
use Rattle.run_outcomes.specs.declared.states.Snapshot.{Snapshot}
use Rattle.image_load.specs.Start.{first_ram}
use Rattle.text_outcomes.specs.Lines.{outcome_line}
use Rattle.text_outcomes.specs.Table.{outcome_of, outcome_text, way_text}
use Rattle.text_outcomes.specs.Told.{IsNormal, state_shown, told_text}

pub end-inside : (states : List Snapshot) (firsts : List ℕ) (i : ℕ) → AreEnds states firsts → i < length firsts
    → slice_index_or firsts i 0 < length states
end-inside states firsts i ends lt = (All-get_or (λ k. (k < length states) × IsEnd (state_at states k)) firsts i 0 lt ends).0

pub state-normal : (l : Contents) (states : List Snapshot) (firsts : List ℕ) (i : ℕ) → AreFound l states → AreEnds states firsts
    → i < length firsts → IsNormal l (state_at states (slice_index_or firsts i 0))
state-normal l states firsts i found ends lt =
    let k = slice_index_or firsts i 0 in
    let inside = end-inside states firsts i ends lt in
    record {
      sized = All-get_or (λ s. length s.cores ≡ l.settings.cores) states k no_snapshot inside found.sized;
      inside = All-get_or (λ s. AreInside (l.settings.ram / 4) s.changes) states k no_snapshot inside found.inside;
      normal = All-get_or (λ s. AreNormal (first_ram (started l)) s.changes) states k no_snapshot inside found.normal;
    }

-- the parts of an outcome's text, one behind the other
pub outcome-parts : (l : Contents) (e : Explored) (r : Results) (i : ℕ) (tell : Tell) (old first second third : List ℕ) → e.loaded ≡ l
    → first ≡ old ++ outcome_line (slice_index_or r.counts i 0)
    → second ≡ first ++ way_text (orders_to e.ways (slice_index_or r.firsts i 0))
    → third ≡ second ++ told_text tell (state_shown l (state_at e.states (slice_index_or r.firsts i 0)))
    → third ≡ old ++ outcome_text tell (outcome_of e r i)
unfolding outcome_text
outcome-parts l e r i tell old first second third loaded counted led told =
    let count = outcome_line (slice_index_or r.counts i 0) in
    let way = way_text (orders_to e.ways (slice_index_or r.firsts i 0)) in
    let state = state_at e.states (slice_index_or r.firsts i 0) in
    told ∙ ap (λ xs. xs ++ told_text tell (state_shown l state)) (led ∙ ap (λ xs. xs ++ way) counted ∙ append_assoc old count way)
    ∙ append_assoc old (count ++ way) (told_text tell (state_shown l state))
    ∙ ap (λ (m : Contents). old ++ ((count ++ way) ++ told_text tell (state_shown m state))) (sym loaded)
