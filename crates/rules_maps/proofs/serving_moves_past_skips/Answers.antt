use Rattle.rules_maps.proofs.Serving.{advance-rises, advance-past, advance-stops, advance-keeps, kept-skips, first-skips}
use Rattle.rules_maps.proofs.serving_moves_past_skips.Goals as goal

pub returns-clause-rises : goal.returns-clause-rises
returns-clause-rises c = advance-rises

pub returns-clause-past : goal.returns-clause-past
returns-clause-past c = advance-past

pub returns-clause-stops : goal.returns-clause-stops
returns-clause-stops c = advance-stops

pub returns-clause-keeps : goal.returns-clause-keeps
returns-clause-keeps c = advance-keeps

pub returns-clause-kept : goal.returns-clause-kept
returns-clause-kept c = kept-skips

pub returns-clause-first : goal.returns-clause-first
returns-clause-first c = first-skips
