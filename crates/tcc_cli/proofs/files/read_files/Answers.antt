use Rattle.std.proofs.Common.{rules, [], subst, sym, refl, ◌∙◌}
use Rattle.tcc_cli.proofs.Loading.{none_given, given_next, failed_first}
use Rattle.tcc_cli.specs.Reading.{AreGiven}
use Rattle.tcc_world.specs.Told.{Gives}
use Rattle.tcc_cli.proofs.files.read_files.Goals as goal

pub loop-name-init : goal.loop-name-init
loop-name-init g c = record {
  given = subst (λ items. AreGiven (g.F.Store.disk c.args.files.now).contents [] items) (sym c.new-read.ensures.items)
      (none_given (g.F.Store.disk c.args.files.now).contents);
  contents = λ n. refl;
  reads = λ n. refl;
  tells = refl;
  writes = λ n. refl;
}

pub loop-name-preserved : goal.loop-name-preserved
loop-name-preserved g c = record {
  given = given_next (g.F.Store.disk c.args.files.now).contents c.args.names.now _ c.loop-name.name-index c.loop-name.read.items
      c.push.new.self.items c.in-Ok.items.items c.loop-name-test.true c.loop-name.invariant.given
      (subst (λ t. Gives t c.in-Ok.items.items) (c.loop-name.invariant.contents _) c.in-Ok.ensures.bytes) c.in-Ok-push.ensures.items;
  contents = λ n. search (rules, c.loop-name.invariant.contents n, c.in-Ok.ensures.contents_stay n);
  reads = λ n. c.in-Ok.ensures.no_failure n ∙ c.loop-name.invariant.reads n;
  tells = c.in-Ok.ensures.tells_stays ∙ c.loop-name.invariant.tells;
  writes = λ n. c.in-Ok.ensures.writes n ∙ c.loop-name.invariant.writes n;
}

pub returns-in-Err-Failed-clause-refused : goal.returns-in-Err-Failed-clause-refused
returns-in-Err-Failed-clause-refused g c =
    failed_first (g.F.Store.disk c.args.files.now).contents c.args.names.now _ c.loop-name.name-index c.loop-name.read.items
    (g.F.Store.disk c.args.files.now).failed_reads (g.F.Store.disk c.loop-name.files).failed_reads
    (g.F.Store.disk c.read.new.self).failed_reads
    c.loop-name-test.true c.loop-name.invariant.given c.loop-name.invariant.reads (search (rules, c.in-Err-Failed.ensures.cause))
    (λ n apart. c.in-Err-Failed.ensures.others_stay n apart)
