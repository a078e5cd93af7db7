-- A run that goes on, and then goes on from there, goes on.
use Rattle.std.specs.Prelude.{ℕ, Bool, List, [], ◌++◌, refl}
use Rattle.std.proofs.Common.{ap, sym, ◌∙◌, append_assoc}
use Rattle.bus_run.specs.Going.{GoneOn, Led, coming, texts}
use Rattle.bus_run.specs.declared.running.BusRun.{BusRun}

pub gone-none : (r : BusRun) → GoneOn r r
gone-none r = record { code = refl; ran = refl; events = refl; words = refl }

pub gone-more : (r s t : BusRun) → GoneOn r s → GoneOn s t → GoneOn r t
gone-more r s t p q = record {
  code = q.code ∙ p.code;
  ran = p.ran ∙ q.ran;
  events = p.events ∙ q.events;
  words = p.words ∙ q.words;
}

pub led-none : (states : Bool) (r : BusRun) → Led states r r []
led-none states r = record { gone = gone-none r; texts_are = refl }

pub led-more : (states : Bool) (r s t : BusRun) (xs ys : List (List ℕ)) → Led states r s xs → Led states s t ys → Led states r t (xs ++ ys)
led-more states r s t xs ys p q = record {
  gone = gone-more r s t p.gone q.gone;
  texts_are = p.texts_are ∙ ap (λ zs. xs ++ zs) q.texts_are ∙ sym (append_assoc xs ys (texts states t.system (coming t)));
}
