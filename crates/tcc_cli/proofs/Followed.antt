-- A run that follows the list of a file.
use Rattle.std.proofs.Common.{◌≡◌, ◌<◌, ℕ, Bool, List, [], ◌∷◌, map, length, IfSome, Some, ap, refl, sym, subst, ◌∙◌}
use Rattle.std.proofs.lemmas.List.{length-map}
use Rattle.std.specs.Prelude.{IsSome}
use Rattle.run_follow.specs.Following.{Agree, followed_by}
use Rattle.run_follow.specs.Laws.{FollowedAll, FollowedKeeps, Keeps}
use Rattle.image_load.specs.Contents.{Contents, started}
use Rattle.image_load.specs.Start.{Start}
use Rattle.rv_code.specs.Machine.{program}
use Rattle.rv_plain.specs.Machine.{plain_start}
use Rattle.rv_plain.specs.PlainState.{order_of}
use Rattle.rv_plain.specs.declared.plain.Order.{Order as CodeOrder}
use Rattle.rules_riscv.specs.Starting.{AfterRun}
use Rattle.serial_tool.specs.Lists.{IsList}
use Rattle.serial_tool.specs.Runs.{serial_by}
use Rattle.serial_tool.specs.declared.reading.Listed.{Listed}
use Rattle.tcc_base.specs.Limits.{run_limit}
use Rattle.tcc_base.specs.Settings.{IsAllowed}
use Rattle.tcc_base.specs.declared.access.Commit.{Commit}
use Rattle.tcc_cli.specs.Following.{Follows, IsFollowed, IsListed, RanFollowing}
use Rattle.tcc_cli.specs.Runs.{IsRun, RunsTo, run_text}
use Rattle.rules_maps.specs.Nodes as rules
use Rattle.tcc_msg.specs.Plain.{event_of}
use Rattle.tcc_msg.specs.declared.event.Event.{Event}
use Rattle.rules_program.specs.Plain.{Order, Plain, serial}
use Rattle.rules_tcc.specs.Step.{History}

-- what the plain machine has executed is listed
pub was-listed : (l : Contents) (bytes : List ℕ) (listed there : List Listed) (orders : List CodeOrder) (done : Plain × List Commit)
    → IsList (started l).settings.cores bytes listed → there ≡ listed → serial_by (started l) listed ≡ Some done
    → orders ≡ map (λ k. k.order) there → IsListed (started l) bytes (map order_of orders)
was-listed l bytes listed there orders done list same ran are = record {
  listed = listed;
  list = list;
  executed = subst IsSome (sym ran) refl;
  orders_are = ap (map order_of) (are ∙ ap (map (λ k. k.order)) same) ∙ twice listed;
}
  where
    twice : (ks : List Listed) → map order_of (map (λ k. k.order) ks) ≡ map (λ k. order_of k.order) ks
    twice [] = refl
    twice (k ∷ ks) = ap (λ os. order_of k.order ∷ os) (twice ks)

-- what holds after a run holds of the state that it leads to
after-so : (s : Start) (es : List rules.Event) (h : History) (P : History → Type 0) → IsRun s es h → AfterRun s es P → P h
after-so s es h P is after = subst (λ o. IfSome o P) is after

-- the commits are those of the list, as far as the run has come
kept-list : FollowedKeeps → (s : Start) (bytes : List ℕ) (orders : List Order) (es : List Event) (h : History) → IsAllowed s.settings
    → IsListed s bytes orders → Follows s orders es → IsRun s (map event_of es) h → Keeps s orders h
kept-list keeps s bytes orders es h allowed l f is =
    let some = subst (λ os. IsSome (serial s.settings.base (program s) 0 os (plain_start s))) (sym l.orders_are) l.executed in
    after-so s (followed_by s orders run_limit) h (Keeps s orders) (subst (λ fs. IsRun s fs h) f is) (keeps s orders run_limit allowed some)

-- and are all of them, where events are left
all-kept : FollowedAll → (s : Start) (bytes : List ℕ) (orders : List Order) (es : List Event) (h : History) → IsAllowed s.settings
    → IsListed s bytes orders → Follows s orders es → IsRun s (map event_of es) h → length es < run_limit → Agree h.commits orders
all-kept all s bytes orders es h allowed l f is few =
    let some = subst (λ os. IsSome (serial s.settings.base (program s) 0 os (plain_start s))) (sym l.orders_are) l.executed in
    let count = sym (length-map es event_of) ∙ ap length f in
    after-so s (followed_by s orders run_limit) h (λ g. Agree g.commits orders) (subst (λ fs. IsRun s fs h) f is)
    (all s orders run_limit allowed some (subst (λ n. n < run_limit) count few))

pub followed-ran : FollowedKeeps → FollowedAll → (s : Start) (bytes : List ℕ) (IsKept : List Event → Type 0) (es : List Event)
    (h : History) (done : Bool) (text : List ℕ) → IsAllowed s.settings → IsFollowed s bytes es → IsKept es
    → RunsTo s es done h → text ≡ run_text s done (length es) h → RanFollowing s bytes IsKept done text
followed-ran keeps all s bytes IsKept es h done text allowed (orders, listed, follows) kept runs told = record {
  orders = orders;
  listed = listed;
  ran = record { events = es; ends = h; schedule = (follows, kept); runs = runs; text_is = told };
  keeps = kept-list keeps s bytes orders es h allowed listed follows runs.is_run;
  all = all-kept all s bytes orders es h allowed listed follows runs.is_run;
}
