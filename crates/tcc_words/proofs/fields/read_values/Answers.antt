use Rattle.std.proofs.Common.{[], ◌∷◌}
use Rattle.std.proofs.lemmas.Result.{err_from_is_err_and}
use Rattle.clap.specs.Words.{found_of, rows_of}
use Rattle.tcc_words.proofs.Order.{is_first}
use Rattle.tcc_words.proofs.fields.read_values.Goals as goal
use Rattle.tcc_words.specs.declared.command.Field.TheVariants.{Steps, Seed, From, To, Events, Every, States, Longest, Tell}
use Rattle.tcc_words.specs.declared.command.Field.TheVariants.{Threads, Batch, Images, Kind, Number}

pub returns-in_err-steps-clause-first : goal.returns-in_err-steps-clause-first
returns-in_err-steps-clause-first c =
    let p = err_from_is_err_and c.from_residual-in_err-steps.result c.from_residual-in_err-steps.ensures.1 in
    rw (p.1, p.2) (is_first c.args.verb (rows_of (found_of c.args.matches.now)) c.in_ok-config.config
    []
    (Seed ∷ From ∷ To ∷ Events ∷ Every ∷ States ∷ Longest ∷ Tell ∷ Threads ∷ Batch ∷ Images ∷ Kind ∷ Number ∷ [])
    Steps _ c.in_ok-config.ensures.settings c.in_ok-config.ensures.allowed
    tt
    c.in_err-steps.ensures.faulty)

pub returns-in_err-seed-clause-first : goal.returns-in_err-seed-clause-first
returns-in_err-seed-clause-first c =
    let p = err_from_is_err_and c.from_residual-in_err-seed.result c.from_residual-in_err-seed.ensures.1 in
    rw (p.1, p.2) (is_first c.args.verb (rows_of (found_of c.args.matches.now)) c.in_ok-config.config
    (Steps ∷ [])
    (From ∷ To ∷ Events ∷ Every ∷ States ∷ Longest ∷ Tell ∷ Threads ∷ Batch ∷ Images ∷ Kind ∷ Number ∷ [])
    Seed _ c.in_ok-config.ensures.settings c.in_ok-config.ensures.allowed
    (c.in_ok-steps.ensures.allowed, tt)
    c.in_err-seed.ensures.faulty)

pub returns-in_err-from-clause-first : goal.returns-in_err-from-clause-first
returns-in_err-from-clause-first c =
    let p = err_from_is_err_and c.from_residual-in_err-from.result c.from_residual-in_err-from.ensures.1 in
    rw (p.1, p.2) (is_first c.args.verb (rows_of (found_of c.args.matches.now)) c.in_ok-config.config
    (Steps ∷ Seed ∷ [])
    (To ∷ Events ∷ Every ∷ States ∷ Longest ∷ Tell ∷ Threads ∷ Batch ∷ Images ∷ Kind ∷ Number ∷ [])
    From _ c.in_ok-config.ensures.settings c.in_ok-config.ensures.allowed
    (c.in_ok-steps.ensures.allowed, ((_, c.in_ok-seed.ensures.said), tt))
    c.in_err-from.ensures.faulty)

pub returns-in_err-to-clause-first : goal.returns-in_err-to-clause-first
returns-in_err-to-clause-first c =
    let p = err_from_is_err_and c.from_residual-in_err-to.result c.from_residual-in_err-to.ensures.1 in
    rw (p.1, p.2) (is_first c.args.verb (rows_of (found_of c.args.matches.now)) c.in_ok-config.config
    (Steps ∷ Seed ∷ From ∷ [])
    (Events ∷ Every ∷ States ∷ Longest ∷ Tell ∷ Threads ∷ Batch ∷ Images ∷ Kind ∷ Number ∷ [])
    To _ c.in_ok-config.ensures.settings c.in_ok-config.ensures.allowed
    (c.in_ok-steps.ensures.allowed, ((_, c.in_ok-seed.ensures.said), (c.in_ok-from.ensures.allowed, tt)))
    c.in_err-to.ensures.faulty)

pub returns-in_err-events-clause-first : goal.returns-in_err-events-clause-first
returns-in_err-events-clause-first c =
    let p = err_from_is_err_and c.from_residual-in_err-events.result c.from_residual-in_err-events.ensures.1 in
    rw (p.1, p.2) (is_first c.args.verb (rows_of (found_of c.args.matches.now)) c.in_ok-config.config
    (Steps ∷ Seed ∷ From ∷ To ∷ [])
    (Every ∷ States ∷ Longest ∷ Tell ∷ Threads ∷ Batch ∷ Images ∷ Kind ∷ Number ∷ [])
    Events _ c.in_ok-config.ensures.settings c.in_ok-config.ensures.allowed
    (c.in_ok-steps.ensures.allowed, ((_, c.in_ok-seed.ensures.said), (c.in_ok-from.ensures.allowed, (c.in_ok-to.ensures.allowed, tt))))
    c.in_err-events.ensures.faulty)

pub returns-in_err-every-clause-first : goal.returns-in_err-every-clause-first
returns-in_err-every-clause-first c =
    let p = err_from_is_err_and c.from_residual-in_err-every.result c.from_residual-in_err-every.ensures.1 in
    rw (p.1, p.2) (is_first c.args.verb (rows_of (found_of c.args.matches.now)) c.in_ok-config.config
    (Steps ∷ Seed ∷ From ∷ To ∷ Events ∷ [])
    (States ∷ Longest ∷ Tell ∷ Threads ∷ Batch ∷ Images ∷ Kind ∷ Number ∷ [])
    Every _ c.in_ok-config.ensures.settings c.in_ok-config.ensures.allowed (
      c.in_ok-steps.ensures.allowed,
      (
        (_, c.in_ok-seed.ensures.said),
        (
          c.in_ok-from.ensures.allowed,
          (
            c.in_ok-to.ensures.allowed,
            (c.in_ok-events.ensures.allowed, tt),
          ),
        ),
      ),
    )
    c.in_err-every.ensures.faulty)

pub returns-in_err-states-clause-first : goal.returns-in_err-states-clause-first
returns-in_err-states-clause-first c =
    let p = err_from_is_err_and c.from_residual-in_err-states.result c.from_residual-in_err-states.ensures.1 in
    rw (p.1, p.2) (is_first c.args.verb (rows_of (found_of c.args.matches.now)) c.in_ok-config.config
    (Steps ∷ Seed ∷ From ∷ To ∷ Events ∷ Every ∷ [])
    (Longest ∷ Tell ∷ Threads ∷ Batch ∷ Images ∷ Kind ∷ Number ∷ [])
    States _ c.in_ok-config.ensures.settings c.in_ok-config.ensures.allowed (
      c.in_ok-steps.ensures.allowed,
      (
        (_, c.in_ok-seed.ensures.said),
        (
          c.in_ok-from.ensures.allowed,
          (
            c.in_ok-to.ensures.allowed,
            (c.in_ok-events.ensures.allowed, (c.in_ok-every.ensures.allowed, tt)),
          ),
        ),
      ),
    )
    c.in_err-states.ensures.faulty)

pub returns-in_err-longest-clause-first : goal.returns-in_err-longest-clause-first
returns-in_err-longest-clause-first c =
    let p = err_from_is_err_and c.from_residual-in_err-longest.result c.from_residual-in_err-longest.ensures.1 in
    rw (p.1, p.2) (is_first c.args.verb (rows_of (found_of c.args.matches.now)) c.in_ok-config.config
    (Steps ∷ Seed ∷ From ∷ To ∷ Events ∷ Every ∷ States ∷ [])
    (Tell ∷ Threads ∷ Batch ∷ Images ∷ Kind ∷ Number ∷ [])
    Longest _ c.in_ok-config.ensures.settings c.in_ok-config.ensures.allowed (
      c.in_ok-steps.ensures.allowed,
      (
        (_, c.in_ok-seed.ensures.said),
        (
          c.in_ok-from.ensures.allowed,
          (
            c.in_ok-to.ensures.allowed,
            (c.in_ok-events.ensures.allowed, (c.in_ok-every.ensures.allowed, (c.in_ok-states.ensures.allowed, tt))),
          ),
        ),
      ),
    )
    c.in_err-longest.ensures.faulty)

pub returns-in_err-tell-clause-first : goal.returns-in_err-tell-clause-first
returns-in_err-tell-clause-first c =
    let p = err_from_is_err_and c.from_residual-in_err-tell.result c.from_residual-in_err-tell.ensures.1 in
    rw (p.1, p.2) (is_first c.args.verb (rows_of (found_of c.args.matches.now)) c.in_ok-config.config
    (Steps ∷ Seed ∷ From ∷ To ∷ Events ∷ Every ∷ States ∷ Longest ∷ [])
    (Threads ∷ Batch ∷ Images ∷ Kind ∷ Number ∷ [])
    Tell _ c.in_ok-config.ensures.settings c.in_ok-config.ensures.allowed (
      c.in_ok-steps.ensures.allowed,
      (
        (_, c.in_ok-seed.ensures.said),
        (
          c.in_ok-from.ensures.allowed,
          (
            c.in_ok-to.ensures.allowed,
            (
              c.in_ok-events.ensures.allowed,
              (
                c.in_ok-every.ensures.allowed,
                (
                  c.in_ok-states.ensures.allowed,
                  (
                    c.in_ok-longest.ensures.allowed,
                    tt,
                  ),
                ),
              ),
            ),
          ),
        ),
      ),
    )
    c.in_err-tell.ensures.faulty)

pub returns-in_err-threads-clause-first : goal.returns-in_err-threads-clause-first
returns-in_err-threads-clause-first c =
    let p = err_from_is_err_and c.from_residual-in_err-threads.result c.from_residual-in_err-threads.ensures.1 in
    rw (p.1, p.2) (is_first c.args.verb (rows_of (found_of c.args.matches.now)) c.in_ok-config.config
    (Steps ∷ Seed ∷ From ∷ To ∷ Events ∷ Every ∷ States ∷ Longest ∷ Tell ∷ [])
    (Batch ∷ Images ∷ Kind ∷ Number ∷ [])
    Threads _ c.in_ok-config.ensures.settings c.in_ok-config.ensures.allowed (
      c.in_ok-steps.ensures.allowed,
      (
        (_, c.in_ok-seed.ensures.said),
        (
          c.in_ok-from.ensures.allowed,
          (
            c.in_ok-to.ensures.allowed,
            (
              c.in_ok-events.ensures.allowed,
              (
                c.in_ok-every.ensures.allowed,
                (
                  c.in_ok-states.ensures.allowed,
                  (
                    c.in_ok-longest.ensures.allowed,
                    (c.in_ok-tell.ensures.allowed, tt),
                  ),
                ),
              ),
            ),
          ),
        ),
      ),
    )
    c.in_err-threads.ensures.faulty)

pub returns-in_err-batch-clause-first : goal.returns-in_err-batch-clause-first
returns-in_err-batch-clause-first c =
    let p = err_from_is_err_and c.from_residual-in_err-batch.result c.from_residual-in_err-batch.ensures.1 in
    rw (p.1, p.2) (is_first c.args.verb (rows_of (found_of c.args.matches.now)) c.in_ok-config.config
    (Steps ∷ Seed ∷ From ∷ To ∷ Events ∷ Every ∷ States ∷ Longest ∷ Tell ∷ Threads ∷ [])
    (Images ∷ Kind ∷ Number ∷ [])
    Batch _ c.in_ok-config.ensures.settings c.in_ok-config.ensures.allowed (
      c.in_ok-steps.ensures.allowed,
      (
        (_, c.in_ok-seed.ensures.said),
        (
          c.in_ok-from.ensures.allowed,
          (
            c.in_ok-to.ensures.allowed,
            (
              c.in_ok-events.ensures.allowed,
              (
                c.in_ok-every.ensures.allowed,
                (
                  c.in_ok-states.ensures.allowed,
                  (
                    c.in_ok-longest.ensures.allowed,
                    (c.in_ok-tell.ensures.allowed, (c.in_ok-threads.ensures.allowed, tt)),
                  ),
                ),
              ),
            ),
          ),
        ),
      ),
    )
    c.in_err-batch.ensures.faulty)

pub returns-in_err-count_images-clause-first : goal.returns-in_err-count_images-clause-first
returns-in_err-count_images-clause-first c =
    let p = err_from_is_err_and c.from_residual-in_err-count_images.result c.from_residual-in_err-count_images.ensures.1 in
    rw (p.1, p.2) (is_first c.args.verb (rows_of (found_of c.args.matches.now)) c.in_ok-config.config
    (Steps ∷ Seed ∷ From ∷ To ∷ Events ∷ Every ∷ States ∷ Longest ∷ Tell ∷ Threads ∷ Batch ∷ [])
    (Kind ∷ Number ∷ [])
    Images _ c.in_ok-config.ensures.settings c.in_ok-config.ensures.allowed (
      c.in_ok-steps.ensures.allowed,
      (
        (_, c.in_ok-seed.ensures.said),
        (
          c.in_ok-from.ensures.allowed,
          (
            c.in_ok-to.ensures.allowed,
            (
              c.in_ok-events.ensures.allowed,
              (
                c.in_ok-every.ensures.allowed,
                (
                  c.in_ok-states.ensures.allowed,
                  (
                    c.in_ok-longest.ensures.allowed,
                    (c.in_ok-tell.ensures.allowed, (c.in_ok-threads.ensures.allowed, (c.in_ok-batch.ensures.allowed, tt))),
                  ),
                ),
              ),
            ),
          ),
        ),
      ),
    )
    c.in_err-count_images.ensures.faulty)

pub returns-in_err-work-clause-first : goal.returns-in_err-work-clause-first
returns-in_err-work-clause-first c =
    let p = err_from_is_err_and c.from_residual-in_err-work.result c.from_residual-in_err-work.ensures.1 in
    rw (p.1, p.2) (is_first c.args.verb (rows_of (found_of c.args.matches.now)) c.in_ok-config.config
    (Steps ∷ Seed ∷ From ∷ To ∷ Events ∷ Every ∷ States ∷ Longest ∷ Tell ∷ Threads ∷ Batch ∷ Images ∷ [])
    (Number ∷ [])
    Kind _ c.in_ok-config.ensures.settings c.in_ok-config.ensures.allowed (
      c.in_ok-steps.ensures.allowed,
      (
        (_, c.in_ok-seed.ensures.said),
        (
          c.in_ok-from.ensures.allowed,
          (
            c.in_ok-to.ensures.allowed,
            (
              c.in_ok-events.ensures.allowed,
              (
                c.in_ok-every.ensures.allowed,
                (
                  c.in_ok-states.ensures.allowed,
                  (
                    c.in_ok-longest.ensures.allowed,
                    (
                      c.in_ok-tell.ensures.allowed,
                      (
                        c.in_ok-threads.ensures.allowed,
                        (
                          c.in_ok-batch.ensures.allowed,
                          (
                            c.in_ok-count_images.ensures.allowed,
                            tt,
                          ),
                        ),
                      ),
                    ),
                  ),
                ),
              ),
            ),
          ),
        ),
      ),
    )
    c.in_err-work.ensures.faulty)

pub returns-in_err-transactions-clause-first : goal.returns-in_err-transactions-clause-first
returns-in_err-transactions-clause-first c =
    let p = err_from_is_err_and c.from_residual-in_err-transactions.result c.from_residual-in_err-transactions.ensures.1 in
    rw (p.1, p.2) (is_first c.args.verb (rows_of (found_of c.args.matches.now)) c.in_ok-config.config
    (Steps ∷ Seed ∷ From ∷ To ∷ Events ∷ Every ∷ States ∷ Longest ∷ Tell ∷ Threads ∷ Batch ∷ Images ∷ Kind ∷ [])
    []
    Number _ c.in_ok-config.ensures.settings c.in_ok-config.ensures.allowed (
      c.in_ok-steps.ensures.allowed,
      (
        (_, c.in_ok-seed.ensures.said),
        (
          c.in_ok-from.ensures.allowed,
          (
            c.in_ok-to.ensures.allowed,
            (
              c.in_ok-events.ensures.allowed,
              (
                c.in_ok-every.ensures.allowed,
                (
                  c.in_ok-states.ensures.allowed,
                  (
                    c.in_ok-longest.ensures.allowed,
                    (
                      c.in_ok-tell.ensures.allowed,
                      (
                        c.in_ok-threads.ensures.allowed,
                        (
                          c.in_ok-batch.ensures.allowed,
                          (
                            c.in_ok-count_images.ensures.allowed,
                            (c.in_ok-work.ensures.allowed, tt),
                          ),
                        ),
                      ),
                    ),
                  ),
                ),
              ),
            ),
          ),
        ),
      ),
    )
    c.in_err-transactions.ensures.faulty)
