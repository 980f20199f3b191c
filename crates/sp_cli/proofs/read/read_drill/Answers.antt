use Rattle.std.proofs.Common.{Some, None, refl}
use Rattle.std.specs.Prelude.{string_bytes}
use Rattle.clap.proofs.TakesLemmas.{passed_up}
use Rattle.sp_cli.proofs.Drilled.{drill-by, speed-by}
use Rattle.sp_cli.proofs.read.read_drill.Goals as goal

pub returns-in_err-events-clause-usage : goal.returns-in_err-events-clause-usage
returns-in_err-events-clause-usage c = passed_up _ _ _ c.from_residual.ensures.1
    (λ _. drill-by string_bytes _ None _ c.in-len2-up.len_at_least c.events-item.is c.seed-item.is (cc c.in_err-events.ensures.usage) refl refl)

pub returns-in_err-seed-clause-usage : goal.returns-in_err-seed-clause-usage
returns-in_err-seed-clause-usage c = passed_up _ _ _ c.from_residual-in_err-seed.ensures.1
    (λ _. drill-by string_bytes _ (Some c.in_ok-events.events) None c.in-len2-up.len_at_least c.events-item.is c.seed-item.is
    (cc c.in_ok-events.ensures.ok) (cc c.in_err-seed.ensures.usage) refl)

pub returns-in_err-drill_options-clause-usage : goal.returns-in_err-drill_options-clause-usage
returns-in_err-drill_options-clause-usage c = passed_up _ _ _ c.from_residual-in_err-drill_options.ensures.1 (λ e. absurd (cc))

pub returns-in_err-matches-clause-usage : goal.returns-in_err-matches-clause-usage
returns-in_err-matches-clause-usage c = passed_up _ _ _ c.from_residual-in_err-matches.ensures.1
    (λ usage. drill-by string_bytes _ (Some c.in_ok-events.events) (Some c.in_ok-seed.seed) c.in-len2-up.len_at_least c.events-item.is c.seed-item.is
    (cc c.in_ok-events.ensures.ok) (cc c.in_ok-seed.ensures.ok) (speed-by _ _ c.in_ok-drill_options.ensures.options (c.in_err-matches.ensures.usage usage) refl))

pub returns-in_err-speed-clause-usage : goal.returns-in_err-speed-clause-usage
returns-in_err-speed-clause-usage c = passed_up _ _ _ c.from_residual-in_err-speed.ensures.1
    (λ usage. drill-by string_bytes _ (Some c.in_ok-events.events) (Some c.in_ok-seed.seed) c.in-len2-up.len_at_least c.events-item.is c.seed-item.is
    (cc c.in_ok-events.ensures.ok) (cc c.in_ok-seed.ensures.ok)
    (speed-by _ _ c.in_ok-drill_options.ensures.options c.in_ok-matches.ensures.matches (c.in_err-speed.ensures.usage usage)))

pub returns-clause-command : goal.returns-clause-command
returns-clause-command c = drill-by string_bytes _ (Some c.in_ok-events.events) (Some c.in_ok-seed.seed) c.in-len2-up.len_at_least c.events-item.is c.seed-item.is
    (cc c.in_ok-events.ensures.ok) (cc c.in_ok-seed.ensures.ok)
    (speed-by _ _ c.in_ok-drill_options.ensures.options c.in_ok-matches.ensures.matches c.in_ok-speed.ensures.ok)
