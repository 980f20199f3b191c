use Rattle.std.proofs.Common.{ap, is_some, sym, ◌∙◌}
use Rattle.std.specs.Prelude.{option_copied}
use Rattle.sp_splitter.proofs.ToRoll.{live_held, none_live, window_held}
use Rattle.sp_splitter.proofs.rolling.window_in_conflict.Goals as goal

pub returns-in_default-clause-calm : goal.returns-in_default-clause-calm
returns-in_default-clause-calm c none v at = absurd (none_live c.args.core.now c.tree.result.now c.args.id (option_copied c.get.result) v c.tree.ensures c.get.ensures (ap (λ o. is_some (option_copied o)) c.in_default.is) at)

pub conflict-requires : goal.conflict-requires
conflict-requires c = record { live = live_held c.args.core.now c.tree.result.now c.args.id (option_copied c.get.result) c.tree.ensures c.get.ensures ∙ ap (λ o. is_some (option_copied o)) c.in-Some.is }

pub returns-in-Some-2-clause-window : goal.returns-in-Some-2-clause-window
returns-in-Some-2-clause-window c = window_held c.args.core.now c.tree.result.now c.args.id c.in-Some.held.now c.tree.ensures (sym (ap option_copied c.in-Some.is) ∙ c.get.ensures)
