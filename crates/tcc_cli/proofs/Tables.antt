-- The table of what was searched, and why it broke off.
use Rattle.std.proofs.Common.{◌≡◌, ℕ, Bool, List, refl, inr, subst, sym}
use Rattle.image_load.specs.Contents.{started}
use Rattle.image_load.specs.Start.{Start}
use Rattle.tcc_world.specs.Page.{Written}
use Rattle.text_outcomes.specs.Table.{table_of, table_text}
use Rattle.text_outcomes.specs.Written.{IsBroken}
use Rattle.text_outcomes.specs.declared.writing.Broken.{Broken}
use Rattle.text_outcomes.specs.declared.writing.Broken.TheVariants.{Memory, Output}
use Rattle.run_outcomes.specs.Ways.{Explored}
use Rattle.run_outcomes.specs.declared.outcomes.Results.{Results}
use Rattle.run_outcomes.specs.declared.outcomes.Tell.{Tell}
use Rattle.run_outcomes.specs.declared.search.Limits.{Limits}
use Rattle.run_outcomes.specs.declared.stuck.Stuck.{Stuck}
use Rattle.tcc_cli.specs.Outcomes.{AreResults, AreSearched, AreStuck, IsTable, IsTableStopped, table_refusal}
use Rattle.tcc_cli.specs.declared.refusal.Refusal.{Refusal}

-- the table of what was searched
pub one-table : (s : Start) (limits : Limits) (tell : Tell) (e : Explored) (r : Results) (stuck : Stuck) → started e.loaded ≡ s
    → AreSearched limits e → AreResults tell e r → AreStuck e stuck
    → IsTable s limits tell r.done (table_text tell (table_of e r stuck))
one-table s limits tell e r stuck start searched told ends = record {
  explored = e;
  results = r;
  stuck = stuck;
  start = start;
  searched = searched;
  told = told;
  ends = ends;
  is_done = refl;
  text_is = refl;
}

-- why it broke off
pub table-broken : (s : Start) (limits : Limits) (tell : Tell) (done : Bool) (text : List ℕ) (o : Written) (broken : Broken) (r : Refusal)
    → IsTable s limits tell done text → r ≡ table_refusal broken → IsBroken text o broken → IsTableStopped s limits tell o r
table-broken s limits tell done text o Memory r table is h =
    subst (IsTableStopped s limits tell o) (sym is) (inr (done, text, table, (h.n, h.short, h.appended)))
table-broken s limits tell done text o Output r table is (h, rose) =
    subst (IsTableStopped s limits tell o) (sym is) (done, text, table, (h.n, h.short, h.appended, rose))
