-- Cores, directories, links and TIDs.
use Rattle.std.proofs.Common.{◌≡◌, ◌*◌, ap, sym, ◌∙◌, subst, arith}
use Rattle.std.specs.Prelude.{◌↔◌, IfOk, IsTrue}
use Rattle.tcc_base.specs.Settings.{Settings}
use Rattle.machine_cores.specs.Bank.{cores_of}
use Rattle.machine_links.specs.Flights.{net_of}
use Rattle.theorem_bounds.specs.Bounds.{most_sent}
use Rattle.machine_parts.specs.Parts.{PartsData, parts_of}
use Rattle.machine_parts.specs.Tids.{AreSingle}
use Rattle.machine_parts.specs.Together.{AreSound}
use Rattle.machine_parts.proofs.Together.{EachMayBe, each-of, sound-if, sound-of, tested, to-test}
use Rattle.machine_parts.proofs.parts.Parts.is_sound.Goals as goal

pub returns-then-events : goal.returns-then-events
returns-then-events c = (
  λ t. absurd (cc),
  λ s.
      let p : PartsData = parts_of c.self.inside in
      let own : AreSound p = subst AreSound (sym c.self.view_is) s in
      let e : EachMayBe p = each-of p own in
      let next : c.next-next.result.0 ≡ p.next = c.next-next.ensures in
      let no : ⊥ = elim c.then-events.branch [
        | goal.then-events-via-then-events w ↦ omega (arith, w.if-events.true, own.few)
        | goal.then-events-via-else-events+then-next-eq0 w ↦ omega (arith, w.if-next-eq0.true, next, e.least)
        | goal.then-events-via-else-events+else-next-eq0+then-next-events w ↦ omega (arith, w.if-next-events.true, next, e.most)
      ] in absurd no,
)

pub returns-then-not-are_good_cores : goal.returns-then-not-are_good_cores
returns-then-not-are_good_cores c = (
  λ t. absurd (cc),
  λ s.
      let p : PartsData = parts_of c.self.inside in
      let sh : Settings = p.cores.code.settings in
      let e : EachMayBe p = each-of p (subst AreSound (sym c.self.view_is) s) in
      let config : c.config-config.result.now ≡ sh = c.config-config.ensures ∙ ap (λ k. k.settings) c.code.ensures in
      let most : c.most_sent.result ≡ p.events * most_sent sh =
      c.most_sent.ensures ∙ ap (λ (k : Settings). p.events * most_sent k) config in
      elim c.then-not-are_good_cores.branch [
        | goal.then-not-are_good_cores-via-then-not-are_good_cores w ↦
            sym w.if-not-are_good_cores.true ∙ c.are_good_cores.ensures.1 e.cores
        | goal.then-not-are_good_cores-via-else-not-are_good_cores+then-not-are_good_directories w ↦
            sym w.if-not-are_good_directories.true ∙ (w.are_good_directories.ensures (λ a. 0)).1 (e.dirs (λ a. 0))
        | goal.then-not-are_good_cores-via-else-not-are_good_cores+else-not-are_good_directories+then-not-is_good_traffic w ↦
            sym w.if-not-is_good_traffic.true ∙ w.is_good_traffic.ensures.1
            (to-test p c.config-config.result.now c.next-next.result.0 c.most_sent.result config c.next-next.ensures most e.traffic)
      ],
)

pub returns : goal.returns
returns c =
    let p : PartsData = parts_of c.self.inside in
    let sh : Settings = p.cores.code.settings in
    let next : c.next-next.result.0 ≡ p.next = c.next-next.ensures in
    let config : c.config-config.result.now ≡ sh = c.config-config.ensures ∙ ap (λ k. k.settings) c.code.ensures in
    let most : c.most_sent.result ≡ p.events * most_sent sh =
    c.most_sent.ensures ∙ ap (λ (k : Settings). p.events * most_sent k) config in
    let single = AreSingle sh.cores (cores_of p.cores) (net_of p.flights) p.commits.list in
    subst (λ q. IfOk c.are_single.result (λ b. IsTrue b ↔ AreSound q)) c.self.view_is
    (sound-if c.are_single.result (single c.next-next.result.0) (AreSound p) c.are_single.ensures
    (λ s. sound-of p c.self.invariant (omega (arith, c.if-events.false)) (record {
      least = omega (arith, c.if-next-eq0.false, next);
      most = omega (arith, c.if-next-events.false, next);
      cores = c.are_good_cores.ensures.0 c.if-not-are_good_cores.false;
      dirs = λ ram. (c.are_good_directories.ensures ram).0 c.if-not-are_good_directories.false;
      traffic = tested p c.config-config.result.now c.next-next.result.0 c.most_sent.result config next most
          (c.is_good_traffic.ensures.0 c.if-not-is_good_traffic.false);
      single = subst single next s;
    }))
    (λ s. subst single (sym next) (each-of p s).single))
