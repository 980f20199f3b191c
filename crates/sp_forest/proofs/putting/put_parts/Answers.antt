use Rattle.std.proofs.Common.{◌<◌, ◌^◌, map, ◌∙◌, subst}
use Rattle.std.proofs.lemmas.Result.{err_from_is_err_and}
use Rattle.sp_forest.specs.Numbering.{numbered_from}
use Rattle.sp_forest.proofs.PutOn.{PutSoFar, parts_next, parts_failed, parts_short, next_few, next_fit}
use Rattle.sp_forest.proofs.putting.put_parts.Goals as goal

pub put_part-requires-clause-fit : goal.put_part-requires-clause-fit
put_part-requires-clause-fit g c κs within =
    let l = c.loop-own in
    let q = g.O.Outlet.plan c.args.outlet.now in
    let all = numbered_from c.args.matches.now (map (λ own. own.items) c.args.found.items) in
    let a = g.O.Outlet.state c.args.outlet.now in
    let b = g.O.Outlet.state l.outlet in
    let so = subst (λ rest. PutSoFar q all c.args.matches.now l.matches (map (λ own. own.items) rest) a b) c.in-Some.ensures.steps.0 l.invariant.put in
    next_fit q (g.O.Outlet.plan l.outlet) l.invariant.plan all c.args.matches.now l.matches c.in-Some.own.items (map (λ own. own.items) c.next.new.self.rest.items) a b so
    (λ one. one.number < 2 ^ 64) c.requires.fit

pub put_part-requires-clause-few : goal.put_part-requires-clause-few
put_part-requires-clause-few g c κs within =
    let l = c.loop-own in
    let q = g.O.Outlet.plan c.args.outlet.now in
    let all = numbered_from c.args.matches.now (map (λ own. own.items) c.args.found.items) in
    let a = g.O.Outlet.state c.args.outlet.now in
    let b = g.O.Outlet.state l.outlet in
    let so = subst (λ rest. PutSoFar q all c.args.matches.now l.matches (map (λ own. own.items) rest) a b) c.in-Some.ensures.steps.0 l.invariant.put in
    next_few q (g.O.Outlet.plan l.outlet) l.invariant.plan all c.args.matches.now l.matches c.in-Some.own.items (map (λ own. own.items) c.next.new.self.rest.items) a b so
    (2 ^ 64) c.requires.few

pub returns-in_err-put_part-clause-failed : goal.returns-in_err-put_part-clause-failed
returns-in_err-put_part-clause-failed g c is =
    let p = err_from_is_err_and c.from_residual.result c.from_residual.ensures.1 in
    let l = c.loop-own in
    let q = g.O.Outlet.plan c.args.outlet.now in
    let all = numbered_from c.args.matches.now (map (λ own. own.items) c.args.found.items) in
    let a = g.O.Outlet.state c.args.outlet.now in
    let b = g.O.Outlet.state l.outlet in
    let so = subst (λ rest. PutSoFar q all c.args.matches.now l.matches (map (λ own. own.items) rest) a b) c.in-Some.ensures.steps.0 l.invariant.put in
    parts_failed q (g.O.Outlet.plan l.outlet) l.invariant.plan all c.args.matches.now l.matches c.in-Some.own.items (map (λ own. own.items) c.next.new.self.rest.items) a b so
    (g.O.Outlet.state c.put_part.new.outlet) c.put_part.new.matches (c.in_err-put_part.ensures.failed (cc))

pub returns-in_err-put_part-clause-short : goal.returns-in_err-put_part-clause-short
returns-in_err-put_part-clause-short g c is =
    let p = err_from_is_err_and c.from_residual.result c.from_residual.ensures.1 in
    let l = c.loop-own in
    let q = g.O.Outlet.plan c.args.outlet.now in
    let all = numbered_from c.args.matches.now (map (λ own. own.items) c.args.found.items) in
    let a = g.O.Outlet.state c.args.outlet.now in
    let b = g.O.Outlet.state l.outlet in
    let so = subst (λ rest. PutSoFar q all c.args.matches.now l.matches (map (λ own. own.items) rest) a b) c.in-Some.ensures.steps.0 l.invariant.put in
    parts_short q (g.O.Outlet.plan l.outlet) l.invariant.plan all c.args.matches.now l.matches c.in-Some.own.items (map (λ own. own.items) c.next.new.self.rest.items) a b so
    (g.O.Outlet.state c.put_part.new.outlet) (c.in_err-put_part.ensures.short (cc))

pub loop-own-preserved : goal.loop-own-preserved
loop-own-preserved g c =
    let l = c.loop-own in
    let q = g.O.Outlet.plan c.args.outlet.now in
    let all = numbered_from c.args.matches.now (map (λ own. own.items) c.args.found.items) in
    let a = g.O.Outlet.state c.args.outlet.now in
    let b = g.O.Outlet.state l.outlet in
    let so = subst (λ rest. PutSoFar q all c.args.matches.now l.matches (map (λ own. own.items) rest) a b) c.in-Some.ensures.steps.0 l.invariant.put in
    let put = c.in_ok-put_part.ensures in record {
      put = parts_next q (g.O.Outlet.plan l.outlet) l.invariant.plan all c.args.matches.now l.matches c.in-Some.own.items (map (λ own. own.items) c.next.new.self.rest.items) a b so
          (g.O.Outlet.state c.put_part.new.outlet) c.put_part.new.matches put.count put.took;
      no_fault = put.no_fault (λ no. cc) ∙ l.invariant.no_fault;
      plan = c.put_part.ensures.same.0 ∙ l.invariant.plan;
      token = c.put_part.ensures.same.1 ∙ l.invariant.token;
    }
