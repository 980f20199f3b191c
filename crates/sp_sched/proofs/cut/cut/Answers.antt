use Rattle.std.proofs.Common.{◌≡◌, rules, tests}
use Rattle.std.proofs.lemmas.Iterator.{YieldsList-from_slice}
use Rattle.std.proofs.lemmas.Iterator.Search.{position_from_yields_List}
use Rattle.sp_sched.proofs.Parts.{is_mark, first_place, none_marked, cut_at}
use Rattle.sp_sched.proofs.cut.cut.Goals.{After-position}
use Rattle.sp_sched.proofs.cut.cut.Goals as goal

place : (c : After-position) → c.position.result ≡ first_place c.args.mark c.args.text.now
place c = position_from_yields_List (is_mark c.args.mark) _ _ _ c.position.ensures.ran (YieldsList-from_slice c.args.text.now (cc)) (λ x b q k. search (rules, tests))

pub returns-in_default : goal.returns-in_default
returns-in_default c = none_marked _ _ _ (place (goal.at.returns-in_default c).After-position) c.in_default.is

pub returns : goal.returns
returns c = cut_at _ _ _ (place (goal.at.returns c).After-position) _ c.in-Some.is
