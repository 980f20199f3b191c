use Rattle.std.proofs.Common.{◌+◌, ◌<◌, ◌^◌, [], ◌∷◌, ◌++◌, length, List, sym, ◌∙◌, ap, arith, append_assoc, length-append}
use Rattle.sp_plan.specs.declared.found.Match.{Match}
use Rattle.sp_forest.specs.Numbering.{numbered_up}
use Rattle.sp_forest.proofs.PutOn.{at_seam, part_next, part_failed, part_short}
use Rattle.sp_forest.proofs.putting.put_part.Goals as goal

pub overflow_add-one : goal.overflow_add-one
overflow_add-one g c =
    let l = c.loop-one in
    let are = ap (λ (r : List Match). l.yielded ++ r) (sym c.in-Some.ensures.steps.0) ∙ l.invariant.all in
    let fits : c.in-Some.one.number + c.args.matches.now < 2 ^ 64 =
    at_seam (λ one. one.number < 2 ^ 64) (numbered_up c.args.matches.now) l.yielded c.in-Some.one c.next.new.self.rest.items c.args.found.items are c.requires.fit in
    omega arith

pub overflow_add-matches : goal.overflow_add-matches
overflow_add-matches g c =
    let l = c.loop-one in
    let many = ap length (ap (λ (r : List Match). l.yielded ++ r) (sym c.in-Some.ensures.steps.0) ∙ l.invariant.all) in
    omega (arith, many, length-append l.yielded (c.in-Some.one ∷ c.next.new.self.rest.items), l.invariant.count, c.requires.few)

pub returns-in_err-put-clause-failed : goal.returns-in_err-put-clause-failed
returns-in_err-put-clause-failed g c is =
    let l = c.loop-one in
    part_failed (g.O.Outlet.plan c.args.outlet.now) (g.O.Outlet.plan l.outlet) l.invariant.plan l.yielded c.in-Some.one c.next.new.self.rest.items c.args.found.items
    (ap (λ (r : List Match). l.yielded ++ r) (sym c.in-Some.ensures.steps.0) ∙ l.invariant.all) c.args.matches.now (g.O.Outlet.state c.args.outlet.now) (g.O.Outlet.state l.outlet) (g.O.Outlet.state c.put.new.self)
    l.invariant.took c.in_err-put.ensures.front c.in_err-put.ensures.uncounted l.matches c.args.matches.now l.invariant.count

pub returns-in_err-put-clause-short : goal.returns-in_err-put-clause-short
returns-in_err-put-clause-short g c is =
    let l = c.loop-one in
    part_short (g.O.Outlet.plan c.args.outlet.now) (g.O.Outlet.plan l.outlet) l.invariant.plan l.yielded c.in-Some.one c.next.new.self.rest.items c.args.found.items
    (ap (λ (r : List Match). l.yielded ++ r) (sym c.in-Some.ensures.steps.0) ∙ l.invariant.all) c.args.matches.now (g.O.Outlet.state c.args.outlet.now) (g.O.Outlet.state l.outlet) (g.O.Outlet.state c.put.new.self)
    l.invariant.took c.in_err-put.ensures.front c.in_err-put.ensures.uncounted

pub loop-one-preserved : goal.loop-one-preserved
loop-one-preserved g c =
    let l = c.loop-one in
    let rest = c.next.new.self.rest.items in
    let are = ap (λ (r : List Match). l.yielded ++ r) (sym c.in-Some.ensures.steps.0) ∙ l.invariant.all in record {
      took = part_next (g.O.Outlet.plan c.args.outlet.now) (g.O.Outlet.plan l.outlet) l.invariant.plan l.yielded c.in-Some.one rest c.args.found.items
          are c.args.matches.now (g.O.Outlet.state c.args.outlet.now) (g.O.Outlet.state l.outlet) (g.O.Outlet.state c.put.new.self) l.invariant.took c.in_ok-put.ensures.ok;
      all = append_assoc l.yielded (c.in-Some.one ∷ []) rest ∙ are;
      count = omega (arith, l.invariant.count, length-append l.yielded (c.in-Some.one ∷ []));
      no_fault = c.in_ok-put.ensures.not_failed (λ no. cc) ∙ l.invariant.no_fault;
      plan = c.put.ensures.plan ∙ l.invariant.plan;
      token = c.put.ensures.token ∙ l.invariant.token;
    }
