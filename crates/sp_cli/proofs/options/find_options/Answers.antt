use Rattle.std.proofs.Common.{◌∙◌, map, string_bytes}
use Rattle.clap.specs.Words.{app_of}
use Rattle.sp_cli.proofs.Found.{simple_of, found-ok, found-err}
use Rattle.sp_cli.proofs.options.find_options.Goals as goal

pub returns-in-Ok-clause-matches : goal.returns-in-Ok-clause-matches
returns-in-Ok-clause-matches c = found-ok (app_of c.args.options) (map string_bytes c.args.words.now) c.in-Ok.matches (simple_of (app_of c.args.options) c.requires) (c.in-Ok.ensures.kinds c.requires) c.in-Ok.ensures.matches

pub returns : goal.returns
returns c = record {
  matches = tt;
  usage = λ _. found-err (app_of c.args.options) (map string_bytes c.args.words.now) c.in-Err.error (c.in-Err.ensures.kinds c.requires) (λ e. c.in_default.not-OutOfMemory (c.kind.ensures ∙ e));
}
