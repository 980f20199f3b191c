use Rattle.std.proofs.Common.{List, ℕ, ap, ◌∙◌, rules}
use Rattle.sp_base.specs.Numbers.{with_numbers}
use Rattle.sp_core.proofs.homecoming.take_up.Goals as goal

pub returns-clause-taken : goal.returns-clause-taken
returns-clause-taken c = record {
  window = search rules;
  first = search rules;
  position = search rules;
  skipped = c.put_all.ensures ∙ ap (λ (l : List ℕ). with_numbers c.args.held.now.skipped.list l) (c.list.ensures.list ∙ c.requires.ready.passed_is);
  matcher = c.into_after.ensures.led;
  matches = search rules;
  copies = search rules;
  used = search rules;
  done = search rules;
  out = search rules;
}
