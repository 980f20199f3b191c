use denote.Param.Send.{sendable}
use Rattle.std.proofs.Common.{◌∙◌, ℕ, List, vec_len, sym, ap, subst, arith}
use Rattle.std.specs.List.{Contains}
use Rattle.sp_hub.specs.Calls.{told_over}
use Rattle.sp_hub.proofs.Told.{each_told}
use Rattle.sp_lend.proofs.Crossing.{loan_sent, reading_sent}
use Rattle.sp_split.proofs.joining.wind_up.Goals as goal

pub finish-requires-send-J : goal.finish-requires-send-J
finish-requires-send-J g c κs within = search (loan_sent, sendable) depth 20

pub finish-requires-send-P : goal.finish-requires-send-P
finish-requires-send-P g c κs within = search (reading_sent, sendable) depth 20

pub returns : goal.returns
returns g c = record {
  legal = c.in-Ok.ensures.legal;
  enough = c.in-Ok.ensures.enough;
  fewer = let few = c.in-Ok.ensures.fewer in let counted = c.in-Ok.ensures.counted in omega arith;
  takes = c.in-Ok.ensures.takes;
  puts = c.in-Ok.ensures.puts.0;
  over = λ seat some few.
      let told = each_told c.args.others.items c.args.mine (vec_len c.args.others) c.requires.over c.requires.numbers seat some (let whole = c.requires.whole in omega (arith, whole, few)) in
      subst (λ (l : List ℕ). Contains l seat) (sym (c.in-Ok.ensures.over ∙ ap told_over c.push_reserved.ensures.items)) told;
}
