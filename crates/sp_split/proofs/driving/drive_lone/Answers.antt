use Rattle.std.proofs.Common.{rules}
use Rattle.sp_split.proofs.About.{came_alone}
use Rattle.sp_split.proofs.driving.drive_lone.Goals as goal

pub returns-clause-ends : goal.returns-clause-ends
returns-clause-ends g c = record {
  drove = search rules;
  about = came_alone c.in_ok-went.went.core c.no_history-history.result (search rules) c.no_history-history.ensures;
  asked = search rules;
  short = tt;
}
