use Rattle.std.proofs.Common.{◌≡◌, ◌<◌, ◌≤◌, ◌++◌, map, length, get_or, refl, sym, ap, ◌∙◌, arith, length-set}
use Rattle.std.proofs.lemmas.List.{append-nil, drop_all, length-map, take_all}
use Rattle.sp_plan.specs.declared.plan.Name.{Name}
use Rattle.sp_plan.specs.Held.{held_columns, put}
use Rattle.sp_plan.specs.Masks.{has}
use Rattle.sp_plan.specs.Runs.{bound_events}
use Rattle.sp_match.specs.declared.holdings.Holding.{Holding}
use Rattle.sp_match.specs.inside.Kept.{kept, pairs}
use Rattle.sp_match.specs.inside.Takers.{columns_of, columns_under}
use Rattle.sp_match.proofs.RunsAreHeld.{kept_there}
use Rattle.sp_match.proofs.RunsFollow.{columns_follow, held_put, here_more, others_more, own_columns, reads_same}
use Rattle.sp_match.proofs.holdings.keep_run.Goals as goal

pub keep_name-requires-clause-held : goal.keep_name-requires-clause-held
keep_name-requires-clause-held c =
    let q = c.args.plan.now in
    let bounds = map bound_events c.requires.held.0 in
    let after = put bounds c.args.at (bound_events (pairs (kept c.args.run.now))) in
    let now = c.loop-name.held in
    let n = c.loop-name.name in
    let h = c.index-held-name.result in
    let named : n < length q.names = omega (arith, c.loop-name-test.true, ap length c.as_slice-name-end.ensures) in
    let inside : n < length now = omega (arith, kept_there q c.requires.held.0 c.args.held.now c.requires.held.1 n named, c.loop-name.invariant.size) in
    (bounds, ap (λ (k : Holding). k.columns.items) (sym c.index-held-name.is) ∙ own_columns q bounds after n now now h h named c.index-held-name.is inside (c.loop-name.invariant.columns bounds c.requires.held.1.columns))

pub loop-name-preserved : goal.loop-name-preserved
loop-name-preserved c =
    let q = c.args.plan.now in
    let r = pairs (kept c.args.run.now) in
    let at = c.args.at in
    let hs = c.args.held.now in
    let now = c.loop-name.held in
    let n = c.loop-name.name in
    let h = c.index-held-name.result in
    let h' = c.keep_name.new.holding in
    let is = c.index-held-name.is in
    let named : n < length q.names = omega (arith, c.loop-name-test.true, ap length c.as_slice-name-end.ensures) in
    let inside : n < length now = omega (arith, kept_there q c.requires.held.0 hs c.requires.held.1 n named, c.loop-name.invariant.size) in
    record {
      size = length-set now n h' ∙ c.loop-name.invariant.size;
      reads = reads_same q r at n hs now _ h h' is refl inside c.loop-name.invariant.reads (c.keep_name.ensures.read ∙ ap (λ (k : Holding). k.is_read) (sym is));
      here = here_more q r at n hs now _ h h' is refl inside c.loop-name.invariant.here c.keep_name.ensures.here;
      others = others_more q r at n hs now _ h h' is refl inside c.loop-name.invariant.others (λ other few apart. c.keep_name.ensures.others other few apart ∙ ap (λ (k : Holding). has k.wanting other) (sym is));
      columns = λ bounds was.
          let after = put bounds at (bound_events r) in
          let seen = c.loop-name.invariant.columns bounds was in
          let own : (get_or now n h).columns.items ≡ columns_under q n bounds = ap (λ (k : Holding). k.columns.items) (sym is) ∙ own_columns q bounds after n now now h h named is inside seen in
          columns_follow q bounds after n now _ h h' named is inside seen refl (c.in_ok-keep_name.ensures.columns bounds own);
    }

pub returns : goal.returns
returns c = λ rs held within.
    let q = c.args.plan.now in
    let r = pairs (kept c.args.run.now) in
    let n = c.loop-name.name in
    let end : n ≡ length q.names = omega (arith, c.loop-name-test.false, c.loop-name.auto.name-end, ap length c.as_slice-name-end.ensures) in
    let bounds = map bound_events rs in
    let new = map (λ (x : Name). held_columns x.pred (put bounds c.args.at (bound_events r))) q.names in
    let old = map (λ (x : Name). held_columns x.pred bounds) q.names in
    let all_new : length new ≤ n = omega (arith, end, length-map q.names (λ (x : Name). held_columns x.pred (put bounds c.args.at (bound_events r)))) in
    let all_old : length old ≤ n = omega (arith, end, length-map q.names (λ (x : Name). held_columns x.pred bounds)) in
    let columns : columns_of c.loop-name.held ≡ new = c.loop-name.invariant.columns bounds held.columns ∙ (λ i. take_all n new all_new i ++ drop_all n old all_old i) ∙ append-nil new in
    held_put q rs r c.args.at c.args.held.now c.loop-name.held c.requires.few within held (λ name named. c.loop-name.invariant.here name (omega (arith, named, end))) c.loop-name.invariant.others columns c.loop-name.invariant.reads
